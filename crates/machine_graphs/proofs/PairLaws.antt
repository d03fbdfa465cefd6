-- Laws of the numbers of rows from state to state: no row, one number stored, and one row more.
use mathlib.Core.Path.{◌≡◌, refl, sym, ap, ◌∙◌}
use mathlib.Core.List.{List, []}
use Prim.Native.Nat.{ℕ, zero, suc, ◌+◌, ◌-◌, ◌<◌, ◌≤◌}
use native.Mathlib.Decide.{ℕ_discrete}
use native.Mathlib.Numerals.{add-one}
use native.Mathlib.Omega.{arith}
use borrow.Author.Tests.{eq-eqb, ne_eqb}
use lib.ListN.{length, get_or, set, replicate, length-set}
use lib.Seq.{get_or-set_same, get_or-set_other}
use Rattle.std.proofs.lemmas.List.{get_or-replicate}
use Rattle.livelock.proofs.ListLaws.{get_d_replicate_default}
use Rattle.graphs.specs.Graphs.{pair}
use Rattle.state_marks.specs.Marks.{column}
use Rattle.cycle_counts.specs.Pairs.{rows_between, Between}
use Rattle.machine_graphs.specs.Graphs.{PairRoom}
use Rattle.machine_graphs.specs.Inner.Rows.{one_more}

-- ---- no pairs

-- A table without pairs has room for them,
pub no_pair_room : PairRoom (replicate 24 (replicate 32 0))
no_pair_room = record { rows = refl; long = λ s b. ap (λ (row : List ℕ). length row) (get_or-replicate 24 s (replicate 32 0) [] b) }

-- and none in it.
pub no_pairs : (s t : ℕ) → s < 24 → t < 32 → pair (replicate 24 (replicate 32 0)) s t ≡ 0
no_pairs s t b d = ap (λ (row : List ℕ). get_or row t 0) (get_or-replicate 24 s (replicate 32 0) [] b) ∙ get_d_replicate_default 32 0 t

-- ---- one number stored for a pair

-- A table of pairs with v for states s and t.
abbrev with_pair : List (List ℕ) → ℕ → ℕ → ℕ → List (List ℕ)
with_pair table s t v = set table s (set (get_or table s []) t v)

module _ (table : List (List ℕ)) (s t v : ℕ) (low : s < 24) (room : PairRoom table) where
  -- The first state with another has what it had,
  with_pair_beside : (y : ℕ) → (y ≡ t → ⊥) → pair (with_pair table s t v) s y ≡ pair table s y
  with_pair_beside y n =
      ap (λ (row : List ℕ). get_or row y 0) (get_or-set_same table s (set (get_or table s []) t v) [] (omega (arith, room.rows)))
      ∙ get_or-set_other (get_or table s []) t y v 0 n

  -- so has any other first state,
  with_pair_else : (x y : ℕ) → (x ≡ s → ⊥) → pair (with_pair table s t v) x y ≡ pair table x y
  with_pair_else x y n = ap (λ (row : List ℕ). get_or row y 0) (get_or-set_other table s x (set (get_or table s []) t v) [] n)

  -- and so has any pair with another second state.
  pub with_pair_other : (x y : ℕ) → (y ≡ t → ⊥) → pair (with_pair table s t v) x y ≡ pair table x y
  with_pair_other x y n = go (ℕ_discrete x s)
    where
      go : Dec (x ≡ s) → pair (with_pair table s t v) x y ≡ pair table x y
      go (yes e) = rw e (with_pair_beside y n)
      go (no d) = with_pair_else x y d

  -- The room is the same.
  pub with_pair_room : PairRoom (with_pair table s t v)
  with_pair_room = record { rows = length-set table s (set (get_or table s []) t v) ∙ room.rows; long = λ x b. long x b (ℕ_discrete x s) }
    where
      long : (x : ℕ) → x < 24 → Dec (x ≡ s) → length (get_or (with_pair table s t v) x []) ≡ 32
      long x b (yes e) =
          rw e
          (ap length (get_or-set_same table s (set (get_or table s []) t v) [] (omega (arith, room.rows)))
          ∙ (length-set (get_or table s []) t v ∙ room.long s low))
      long x b (no n) = ap length (get_or-set_other table s x (set (get_or table s []) t v) [] n) ∙ room.long x b

-- ---- one more for a pair

module _ (table : List (List ℕ)) (s t : ℕ) (low : s < 24) (high : t < 24) (room : PairRoom table) where
  -- The pair has one more,
  more_here : pair (one_more table s t) s t ≡ pair table s t + 1
  more_here =
      ap (λ (row : List ℕ). get_or row t 0) (get_or-set_same table s (set (get_or table s []) t (pair table s t + 1)) [] (omega (arith, room.rows)))
      ∙ get_or-set_same (get_or table s []) t (pair table s t + 1) 0 (omega (arith, room.long s low))

  -- the first state with another as many as before,
  more_beside : (y : ℕ) → (y ≡ t → ⊥) → pair (one_more table s t) s y ≡ pair table s y
  more_beside = with_pair_beside table s t (pair table s t + 1) low room

  -- and so has any other first state.
  more_else : (x y : ℕ) → (x ≡ s → ⊥) → pair (one_more table s t) x y ≡ pair table x y
  more_else = with_pair_else table s t (pair table s t + 1) low room

  -- The room is the same.
  pub more_room : PairRoom (one_more table s t)
  more_room = with_pair_room table s t (pair table s t + 1) low room

-- ---- the rows between states

-- Of no rows none lead anywhere.
pub between_none : (left entered : List ℕ) (between : List (List ℕ)) (last : ℕ) → ((s t : ℕ) → s < 24 → t < 24 → pair between s t ≡ 0) → Between left entered between last last
between_none left entered between last z =
    record { known = λ s t b d. let n : last - last ≡ 0 = omega arith in rw n (z s t b d ∙ unfold rows_between in refl) }

-- Row k comes to be one of the rows: one more leads from the state that it leaves to the state that it enters.
module _ (left entered : List ℕ) (between : List (List ℕ)) (k last : ℕ) (g : Between left entered between (k + 1) last) (h : k < last) (low : column left k < 24) (high : column entered k < 24)
    (room : PairRoom between) where
  counted : (s t : ℕ) → s < 24 → t < 24 → Dec (column left k ≡ s) → Dec (column entered k ≡ t)
      → pair (one_more between (column left k) (column entered k)) s t ≡ rows_between left entered s t k (last - k)
  unfolding rows_between
  counted s t b d (yes p) (yes q) =
      let n : last - k ≡ suc (last - (k + 1)) = omega arith in
      rw (n, eq-eqb (column left k) s p, eq-eqb (column entered k) t q, ← add-one k)
      (ap (λ (x : ℕ). pair (one_more between (column left k) (column entered k)) x t) (sym p)
      ∙ ap (pair (one_more between (column left k) (column entered k)) (column left k)) (sym q)
      ∙ more_here between (column left k) (column entered k) low high room
      ∙ omega (arith, ap (λ (x : ℕ). pair between x t) p, ap (pair between (column left k)) q, g.known s t b d))
  counted s t b d (yes p) (no q) =
      let n : last - k ≡ suc (last - (k + 1)) = omega arith in
      rw (n, eq-eqb (column left k) s p, ne_eqb (column entered k) t q, ← add-one k)
      (ap (λ (x : ℕ). pair (one_more between (column left k) (column entered k)) x t) (sym p)
      ∙ more_beside between (column left k) (column entered k) low high room t (λ e. q (sym e))
      ∙ omega (arith, ap (λ (x : ℕ). pair between x t) p, g.known s t b d))
  counted s t b d (no p) q =
      let n : last - k ≡ suc (last - (k + 1)) = omega arith in
      rw (n, ne_eqb (column left k) s p, ← add-one k)
      (more_else between (column left k) (column entered k) low high room s t (λ e. p (sym e)) ∙ omega (arith, g.known s t b d))

  pub between_more : Between left entered (one_more between (column left k) (column entered k)) k last
  between_more = record { known = λ s t b d. counted s t b d (ℕ_discrete (column left k) s) (ℕ_discrete (column entered k) t) }

-- As many rows lead from one state to another where they leave and enter the same states.
rows_same : (left left' entered entered' : List ℕ) (s t k n : ℕ) → ((j : ℕ) → k ≤ j → j < k + n → column left' j ≡ column left j)
    → ((j : ℕ) → k ≤ j → j < k + n → column entered' j ≡ column entered j) → rows_between left' entered' s t k n ≡ rows_between left entered s t k n
unfolding rows_between
rows_same left left' entered entered' s t k zero leaves enters = refl
rows_same left left' entered entered' s t k (suc n) leaves enters =
    rw (
      leaves k (omega arith) (omega arith),
      enters k (omega arith) (omega arith),
      rows_same left left' entered entered' s t (suc k) n (λ j a b. leaves j (omega arith) (omega arith)) (λ j a b. enters j (omega arith) (omega arith)),
    )

pub between_same : (left left' entered entered' : List ℕ) (between : List (List ℕ)) (first last : ℕ) → first ≤ last → ((k : ℕ) → first ≤ k → k < last → column left' k ≡ column left k)
    → ((k : ℕ) → first ≤ k → k < last → column entered' k ≡ column entered k) → Between left entered between first last → Between left' entered' between first last
between_same left left' entered entered' between first last ordered leaves enters g =
    record {
      known = λ s t b d.
          g.known s t b d
          ∙ sym (rows_same left left' entered entered' s t first (last - first) (λ j a l. leaves j a (omega arith)) (λ j a l. enters j a (omega arith)));
    }
