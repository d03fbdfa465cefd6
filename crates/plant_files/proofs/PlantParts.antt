-- A plant machine by machine: its first machines, and one machine more.
use mathlib.Core.Path.{◌≡◌, refl, sym, ◌∙◌, ap, subst}
use mathlib.Core.Logic.{◌≢◌}
use mathlib.Core.Bool.{Bool, true, false, cond}
use mathlib.Core.List.{List, [], ◌∷◌, ◌++◌, append_assoc, append-nil}
use Prim.Native.Nat.{ℕ, zero, suc, ◌+◌, ◌≤◌, ◌<◌, zero-le}
use native.Mathlib.Nat.{le_refl}
use native.Mathlib.Numerals.{add-one}
use native.Mathlib.Decide.{dec_lt, ℕ_discrete}
use native.Mathlib.Omega.{arith}
use lib.ListN.{length, get_or, take, length-take, length-append, get_or-append}
use lib.Seq.{get_or_at, take-suc, take_all}
use lib.Dec.{ltb, eqb}
use borrow.Author.Tests.{lt-ltb, le-ltb, eqb-true, eq-eqb, ne_eqb}
use Rattle.livelock.specs.Lists.{All, Distinct}
use Rattle.livelock.specs.Plants.{Row, Plant, machine_count, state_count, RowFits}
use Rattle.livelock.proofs.ListLaws.{all_append, all_weaken, all_always}
use Rattle.plant.specs.Limits.{Ascending, rows_in, WithinLimits}
use Rattle.plant.specs.Reading.{with_machine, no_machines}
use Rattle.plant.proofs.Bounds.{RowIn}
use Rattle.plant.proofs.MachineRows.{rows_in-append, rows_in_own, rows_in_other}
use Rattle.plant_files.specs.Files.{machine_as, machines_as}
use Rattle.plant_files.specs.Inner.Parts.{with_rows}

-- ---- its first machines

-- The rows of the machines before k.
pub rows_below : ℕ → List Row → List Row
rows_below k [] = []
rows_below k (r ∷ rs) = cond (ltb r.machine k) (r ∷ rows_below k rs) (rows_below k rs)

none_below : (k : ℕ) (rs : List Row) → All (λ q. k ≤ q.machine) rs → rows_below k rs ≡ []
unfolding rows_below All
none_below k [] h = refl
none_below k (r ∷ rs) h = rw (le-ltb r.machine k h.0) (none_below k rs h.1)

all_below : (k : ℕ) (rs : List Row) → All (λ q. q.machine < k) rs → rows_below k rs ≡ rs
unfolding rows_below All
all_below k [] h = refl
all_below k (r ∷ rs) h = rw (lt-ltb r.machine k h.0) (ap (λ (l : List Row). r ∷ l) (all_below k rs h.1))

pub few_below : (k : ℕ) (rs : List Row) → length (rows_below k rs) ≤ length rs
unfolding rows_below
few_below k [] = zero-le
few_below k (r ∷ rs) = go (ltb r.machine k) (few_below k rs)
  where
    go : (b : Bool) → length (rows_below k rs) ≤ length rs → length (cond b (r ∷ rows_below k rs) (rows_below k rs)) ≤ suc (length rs)
    go true ih = omega (arith, ih)
    go false ih = omega (arith, ih)

-- What holds of all rows holds of them,
each_below : (F : Row → Type 0) (k : ℕ) (rs : List Row) → All F rs → All F (rows_below k rs)
unfolding rows_below All
each_below F k [] h = tt
each_below F k (r ∷ rs) h = go (ltb r.machine k) (each_below F k rs h.1)
  where
    go : (b : Bool) → All F (rows_below k rs) → All F (cond b (r ∷ rows_below k rs) (rows_below k rs))
    go true ih = (h.0, ih)
    go false ih = ih

-- and where all rows are different, they are.
pub distinct_below : (k : ℕ) (rs : List Row) → Distinct rs → Distinct (rows_below k rs)
unfolding rows_below Distinct
distinct_below k [] d = tt
distinct_below k (r ∷ rs) d = go (ltb r.machine k) (distinct_below k rs d.1)
  where
    go : (b : Bool) → Distinct (rows_below k rs) → Distinct (cond b (r ∷ rows_below k rs) (rows_below k rs))
    go true ih = (each_below (λ q. r ≢ q) k rs d.0, ih)
    go false ih = ih

-- In ascending order of their machines the rows before machine k + 1 are those before machine k and then those of k.
pub below_next : (k : ℕ) (rs : List Row) → Ascending rs → rows_below (k + 1) rs ≡ rows_below k rs ++ rows_in k rs
unfolding rows_below rows_in Ascending
below_next k [] h = refl
below_next k (r ∷ rs) h = go (dec_lt r.machine k) (ℕ_discrete r.machine k) (below_next k rs h.1)
  where
    Goal : Type 0
    Goal =
        cond (ltb r.machine (k + 1)) (r ∷ rows_below (k + 1) rs) (rows_below (k + 1) rs)
        ≡ cond (ltb r.machine k) (r ∷ rows_below k rs) (rows_below k rs) ++ cond (eqb r.machine k) (r ∷ rows_in k rs) (rows_in k rs)

    go : Dec (r.machine < k) → Dec (r.machine ≡ k) → rows_below (k + 1) rs ≡ rows_below k rs ++ rows_in k rs → Goal
    go (yes l) d ih = rw (lt-ltb r.machine (k + 1) (omega arith), lt-ltb r.machine k l, ne_eqb r.machine k (λ e. omega arith)) (ap (λ (x : List Row). r ∷ x) ih)
    go (no l) (yes e) ih =
        let none = none_below k rs (subst (λ (x : ℕ). All (λ q. x ≤ q.machine) rs) e h.0) in
        rw (lt-ltb r.machine (k + 1) (omega arith), le-ltb r.machine k (omega arith), eq-eqb r.machine k e, none)
        (ap (λ (x : List Row). r ∷ x) (ih ∙ ap (λ (x : List Row). x ++ rows_in k rs) none))
    go (no l) (no n) ih = rw (le-ltb r.machine (k + 1) (omega arith), le-ltb r.machine k (omega arith), ne_eqb r.machine k n) ih

-- The rows of a machine lie in it.
pub rows_in_lem : (types : ℕ) (states : List ℕ) (k : ℕ) (rs : List Row) → All (RowFits types states) rs → All (RowIn k (get_or states k 0) types) (rows_in k rs)
unfolding rows_in All
rows_in_lem types states k [] h = tt
rows_in_lem types states k (r ∷ rs) h = go (eqb r.machine k) refl (rows_in_lem types states k rs h.1)
  where
    go : (b : Bool) → eqb r.machine k ≡ b → All (RowIn k (get_or states k 0) types) (rows_in k rs) → All (RowIn k (get_or states k 0) types) (cond b (r ∷ rows_in k rs) (rows_in k rs))
    go true e ih =
        let m : r.machine ≡ k = eqb-true r.machine k e in (
          record {
            machine = m;
            left = subst (λ (x : ℕ). r.left < get_or states x 0) m h.0.left;
            entered = subst (λ (x : ℕ). r.entered < get_or states x 0) m h.0.entered;
            sent = h.0.sent;
            taken = h.0.taken;
          },
          ih,
        )
    go false e ih = ih

-- The first k machines of a plant.
unfoldable pub up_to : Plant → ℕ → Plant
up_to p k = record { types = p.types; states = take k p.states; rows = rows_below k p.rows }

module _ (p : Plant) (w : WithinLimits p) where
  pub next_machine : (k : ℕ) → k < machine_count p → with_rows (with_machine (up_to p k) (state_count p k)) (rows_in k p.rows) ≡ up_to p (k + 1)
  unfolding up_to
  next_machine k l = λ i. record {
    types = p.types;
    states = (sym (take-suc p.states k 0 l) ∙ ap (λ (n : ℕ). take n p.states) (sym (add-one k))) i;
    rows = sym (below_next k p.rows w.ascending) i;
  }

  pub up_to-count : (k : ℕ) → k ≤ machine_count p → machine_count (up_to p k) ≡ k
  unfolding up_to
  up_to-count k l = omega (arith, length-take k p.states)

  pub up_to_all : up_to p (machine_count p) ≡ p
  unfolding up_to
  up_to_all = λ i. record {
    types = p.types;
    states = take_all (machine_count p) p.states (le_refl (machine_count p)) i;
    rows = all_below (machine_count p) p.rows (all_weaken (RowFits p.types p.states) _ (λ r f. f.machine) p.rows w.formed) i;
  }

  pub up_to_none : up_to p 0 ≡ no_machines p.types
  unfolding up_to
  up_to_none = λ i. record {
    types = p.types;
    states = [];
    rows = none_below 0 p.rows (all_always _ (λ q. zero-le) p.rows) i;
  }

-- ---- one machine more

module _ (f : List Row → List ℕ) where
  -- What is written of machines depends on their states and rows only,
  machines_same : (n k : ℕ) (p q : Plant) → ((j : ℕ) → j < k + n → (state_count p j ≡ state_count q j) × (rows_in j p.rows ≡ rows_in j q.rows))
      → machines_as f n k p ≡ machines_as f n k q
  unfolding machines_as
  machines_same zero k p q h = refl
  machines_same (suc n) k p q h =
      let o = h k (omega arith) in
      rw (o.0, o.1) (ap (λ (l : List ℕ). (state_count q k ∷ (length (rows_in k q.rows) ∷ f (rows_in k q.rows))) ++ l) (machines_same n (k + 1) p q (λ j l. h j (omega arith))))

  -- and the last machine comes last.
  machines-snoc : (n k : ℕ) (p : Plant) → machines_as f (n + 1) k p ≡ machines_as f n k p ++ machine_as f p (k + n)
  unfolding machines_as
  machines-snoc zero k p = let e : k + 0 ≡ k = omega arith in rw e (append-nil (machine_as f p k))
  machines-snoc (suc n) k p =
      let e : k + 1 + n ≡ k + suc n = omega arith in
      let u : suc n + 1 ≡ suc (n + 1) = omega arith in
      rw (u, ← e)
      (ap (λ (l : List ℕ). machine_as f p k ++ l) (machines-snoc n (k + 1) p)
      ∙ sym (append_assoc (machine_as f p k) (machines_as f n (k + 1) p) (machine_as f p (k + 1 + n))))

  -- So what is written of a plant with one machine more is what is written of the plant, and then of that machine.
  pub machine_more : (p : Plant) (states : ℕ) (rs : List Row) → All (λ r. r.machine < machine_count p) p.rows → All (λ r. r.machine ≡ machine_count p) rs
      → machines_as f (machine_count p + 1) 0 (with_rows (with_machine p states) rs) ≡ machines_as f (machine_count p) 0 p ++ (states ∷ (length rs ∷ f rs))
  machine_more p states rs numbered own =
      machines-snoc (machine_count p) 0 (with_rows (with_machine p states) rs)
      ∙ (ap (λ (l : List ℕ). l ++ machine_as f (with_rows (with_machine p states) rs) (0 + machine_count p)) (machines_same (machine_count p) 0 (with_rows (with_machine p states) rs) p before)
      ∙ ap (λ (l : List ℕ). machines_as f (machine_count p) 0 p ++ l) last)
    where
      before : (j : ℕ) → j < 0 + machine_count p → (state_count (with_rows (with_machine p states) rs) j ≡ state_count p j) × (rows_in j (p.rows ++ rs) ≡ rows_in j p.rows)
      before j h =
          let l : j < machine_count p = omega (arith, h) in (
            get_or-append p.states (states ∷ []) 0 j l,
            rows_in-append j p.rows rs
                ∙ (ap (λ (xs : List Row). rows_in j p.rows ++ xs) (rows_in_other j rs (all_weaken _ _ (λ r e f. omega (arith, e, f, l)) rs own)) ∙ append-nil (rows_in j p.rows)),
          )

      last : machine_as f (with_rows (with_machine p states) rs) (0 + machine_count p) ≡ states ∷ (length rs ∷ f rs)
      last =
          let z : 0 + machine_count p ≡ machine_count p = omega arith in
          let rows : rows_in (machine_count p) (p.rows ++ rs) ≡ rs =
          rows_in-append (machine_count p) p.rows rs
          ∙ (ap (λ (xs : List Row). xs ++ rows_in (machine_count p) rs) (rows_in_other (machine_count p) p.rows (all_weaken _ _ (λ r l e. omega (arith, l, e)) p.rows numbered))
          ∙ rows_in_own (machine_count p) rs own) in
          rw (z, rows, get_or_at p.states states [] 0 (machine_count p) refl)

-- The rows of a plant with one machine more are of machines that it has.
pub numbered_more : (p : Plant) (states : ℕ) (rs : List Row) → All (λ r. r.machine < machine_count p) p.rows → All (λ r. r.machine ≡ machine_count p) rs
    → All (λ r. r.machine < machine_count (with_machine p states)) (p.rows ++ rs)
numbered_more p states rs numbered own =
    all_append _ p.rows rs
    (all_weaken _ _ (λ r h. omega (arith, h, length-append p.states (states ∷ []))) p.rows numbered)
    (all_weaken _ _ (λ r h. omega (arith, h, length-append p.states (states ∷ []))) rs own)
