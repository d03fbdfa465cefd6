-- Readers of rows and of machines, of a file or of a list of numbers: what is written is read, and what was read was written there.
use mathlib.Core.Path.{◌≡◌, refl, sym, ◌∙◌, ap, subst}
use mathlib.Core.List.{List, [], ◌∷◌, ◌++◌, append_assoc, append-nil}
use Prim.Native.Nat.{ℕ, zero, suc, ◌+◌, ◌≤◌, ◌<◌}
use native.Mathlib.Nat.{zero-add}
use native.Mathlib.Omega.{arith}
use lib.ListN.{length, drop, length-append}
use lib.Seq.{append_snoc}
use Rattle.livelock.specs.Lists.{All, Distinct}
use Rattle.livelock.specs.Plants.{Row, Plant, row_count, machine_count, state_count}
use Rattle.livelock.proofs.ListLaws.{all_at}
use Rattle.plant.specs.Found.{Found, found, and_then}
use Rattle.plant.specs.Twins.{unless_twin}
use Rattle.plant.specs.Limits.{rows_in, WithinLimits}
use Rattle.plant.specs.Reading.{with_row, with_machine, no_machines}
use Rattle.plant.proofs.Bounds.{RowIn}
use Rattle.plant.proofs.Gives.{Gives, value, gives_then, gives_weaken, gives_unless}
use Rattle.plant.proofs.MachineRows.{rows_in-count}
use Rattle.plant.proofs.TwinLaws.{distinct_fresh}
use Rattle.plant_files.specs.Files.{machine_as, machines_as}
use Rattle.plant_files.specs.Inner.Parts.{with_rows}
use Rattle.plant_files.proofs.Remainders.{Leaves, leaves, leaves_then, leaves_unless}
use Rattle.plant_files.proofs.PlantParts.{rows_below, few_below, distinct_below, below_next, rows_in_lem, up_to, up_to-count, up_to_all, up_to_none, next_machine}
use Rattle.plant_files.proofs.PlantParts.{machine_more, numbered_more}

-- ---- rows

-- `many` reads n rows by reading one after the other with `one`, each of which is no twin of an earlier one, and `all` writes rows by writing one after the other with `row`. `one` gets
-- the count of types and the implied state, at which nothing looks in a list of numbers.
pub record RowReader : Type 0 where
  pub row : ℕ → Row → List ℕ
  pub all : ℕ → List Row → List ℕ
  pub one : ℕ → ℕ → List ℕ → ℕ → Found Row
  pub many : ℕ → ℕ → List ℕ → ℕ → Plant → Found Plant
  pub all_none : (implied : ℕ) → all implied [] ≡ []
  pub all_more : (implied : ℕ) (r : Row) (rs : List Row) → all implied (r ∷ rs) ≡ row implied r ++ all r.left rs
  pub many_none : (implied : ℕ) (s : List ℕ) (at : ℕ) (p : Plant) → many 0 implied s at p ≡ found p at
  pub many_more : (n implied : ℕ) (s : List ℕ) (at : ℕ) (p : Plant)
      → many (suc n) implied s at p ≡ and_then (unless_twin p.rows at (one p.types implied s at)) (λ r next. many n r.left s next (with_row p r))

-- What is written of rows that are all different is read as those rows, if one row is.
module _ (x : RowReader) (m states : ℕ)
    (one-reads : (types implied : ℕ) (r : Row) → RowIn m states types r
    → (s : List ℕ) (at : ℕ) (t : List ℕ) → drop at s ≡ x.row implied r ++ t → Leaves s r t (x.one types implied s at)) where
  pub rows_read : (rs : List Row) (p : Plant) → All (RowIn m states p.types) rs → Distinct (p.rows ++ rs) → (implied : ℕ) (s : List ℕ) (at : ℕ) (t : List ℕ)
      → at ≤ length s → drop at s ≡ x.all implied rs ++ t → Leaves s (with_rows p rs) t (x.many (length rs) implied s at p)
  unfolding All
  rows_read [] p h d implied s at t l e =
      rw (x.many_none implied s at p, append-nil p.rows) (leaves at l (e ∙ ap (λ (y : List ℕ). y ++ t) (x.all_none implied)))
  rows_read (r ∷ rs) p h d implied s at t l e =
      rw (x.many_more (length rs) implied s at p)
      (leaves_then _ (leaves_unless p.rows at (distinct_fresh p.rows r rs d) (one-reads p.types implied r h.0 s at (x.all r.left rs ++ t) before)) λ next l' e'.
      subst
      (λ (rows : List Row). Leaves s (record { types = p.types; states = p.states; rows = rows }) t (x.many (length rs) r.left s next (with_row p r)))
      (append_snoc p.rows r rs)
      (rows_read rs (with_row p r) h.1 (rw (append_snoc p.rows r rs) d) r.left s next t l' e'))
    where
      before : drop at s ≡ x.row implied r ++ (x.all r.left rs ++ t)
      before = e ∙ ap (λ (y : List ℕ). y ++ t) (x.all_more implied r rs) ∙ append_assoc (x.row implied r) (x.all r.left rs) t

-- A relation of an offset, what stands from it on, and the offset after that: of a file, that so many bytes fit between, and these if no more
-- do; of a list of numbers, that these stand there.
pub record Span (From : ℕ → List ℕ → ℕ → Type 0) : Type 0 where
  pub span_none : (a : ℕ) → From a [] a
  pub span_then : (a b c : ℕ) (xs ys : List ℕ) → From a xs b → From b ys c → From a (xs ++ ys) c

-- n rows of machine m were read behind those of p.
pub record RowsFrom (From : ℕ → List ℕ → ℕ → Type 0) (all : List Row → List ℕ) (n m at : ℕ) (p q : Plant) (next : ℕ) : Type 0 where
  pub rows : List Row
  pub count : length rows ≡ n
  pub plant : q ≡ with_rows p rows
  pub machine : All (λ r. r.machine ≡ m) rows
  pub from : From at (all rows) next

-- What was read as rows was written as those rows, if one row was.
module _ (x : RowReader) (From : ℕ → List ℕ → ℕ → Type 0) (span : Span From) (m : ℕ) (s : List ℕ)
    (one_from : (types implied at : ℕ) → Gives (λ r next. (r.machine ≡ m) × From at (x.row implied r) next) (x.one types implied s at)) where
  pub rows_from : (n implied at : ℕ) (p : Plant) → Gives (RowsFrom From (x.all implied) n m at p) (x.many n implied s at p)
  unfolding All
  rows_from zero implied at p =
      rw (x.many_none implied s at p)
      (value {next = at} (record {
        rows = [];
        count = refl;
        plant = λ i. record { types = p.types; states = p.states; rows = sym (append-nil p.rows) i };
        machine = tt;
        from = rw (x.all_none implied) (span.span_none at);
      }))
  rows_from (suc n) implied at p =
      rw (x.many_more n implied s at p)
      (gives_then (gives_unless p.rows at (one_from p.types implied at)) λ r next h.
      gives_weaken (λ q last g. more r next q last h.0 g) (rows_from n r.left next (with_row p r)))
    where
      more : (r : Row) (next : ℕ) (q : Plant) (last : ℕ) → (r.machine ≡ m) × From at (x.row implied r) next
          → RowsFrom From (x.all r.left) n m next (with_row p r) q last → RowsFrom From (x.all implied) (suc n) m at p q last
      more r next q last h g =
          record {
            rows = r ∷ g.rows;
            count = ap suc g.count;
            plant = g.plant ∙ (λ i. record { types = p.types; states = p.states; rows = append_snoc p.rows r g.rows i });
            machine = (h.0, g.machine);
            from = rw (x.all_more implied r g.rows) (span.span_then at next last (x.row implied r) (x.all r.left g.rows) h.1 g.from);
          }

-- ---- machines

-- `many` reads n machines by reading one after the other with `one`.
pub record MachineReader : Type 0 where
  pub rows : List Row → List ℕ
  pub one : List ℕ → ℕ → Plant → Found Plant
  pub many : ℕ → List ℕ → ℕ → Plant → Found Plant
  pub many_none : (s : List ℕ) (at : ℕ) (p : Plant) → many 0 s at p ≡ found p at
  pub many_more : (n : ℕ) (s : List ℕ) (at : ℕ) (p : Plant) → many (suc n) s at p ≡ and_then (one s at p) (λ q next. many n s next q)

-- What is written of the machines of a plant is read as the plant, if one machine is: before machine k the plant so far is the first k
-- machines.
module _ (x : MachineReader) (p : Plant) (w : WithinLimits p)
    (one-reads : (q : Plant) (states : ℕ) (rs : List Row) → (1 ≤ states) × (states ≤ 64) → (length rs ≤ 255) × (row_count q + length rs ≤ 1024)
    → All (RowIn (machine_count q) states q.types) rs → Distinct (q.rows ++ rs)
    → (s : List ℕ) (at : ℕ) (t : List ℕ) → drop at s ≡ states ∷ (length rs ∷ (x.rows rs ++ t)) → Leaves s (with_rows (with_machine q states) rs) t (x.one s at q)) where
  machines_from_k : (n k : ℕ) → k + n ≡ machine_count p → (s : List ℕ) (at : ℕ) (t : List ℕ) → at ≤ length s → drop at s ≡ machines_as x.rows n k p ++ t
      → Leaves s p t (x.many n s at (up_to p k))
  unfolding machines_as up_to
  machines_from_k zero k c s at t l e =
      let k-is : k ≡ machine_count p = omega (arith, c) in
      rw (k-is, x.many_none) (subst (λ (q : Plant). Leaves s p t (found q at)) (sym (up_to_all p w)) (leaves at l e))
  machines_from_k (suc n) k c s at t l e =
      rw x.many_more (leaves_then _ machine λ next l' e'. machines_from_k n (k + 1) (omega (arith, c)) s next t l' e')
    where
      there : k < machine_count p
      there = omega (arith, c)

      rs : List Row
      rs = rows_in k p.rows

      few : (length rs ≤ 255) × (row_count (up_to p k) + length rs ≤ 1024)
      few = (
        omega (arith, rows_in-count k p, w.rows_each k),
        omega (arith, ap length (below_next k p.rows w.ascending), length-append (rows_below k p.rows) rs, few_below (k + 1) p.rows, w.rows_in_all),
      )

      own : All (RowIn (machine_count (up_to p k)) (state_count p k) p.types) rs
      own = rw (up_to-count p w k (omega (arith, c))) (rows_in_lem p.types p.states k p.rows w.formed)

      fresh : Distinct (rows_below k p.rows ++ rs)
      fresh = rw (← below_next k p.rows w.ascending) (distinct_below (k + 1) p.rows w.no_twins)

      machine : Leaves s (up_to p (k + 1)) (machines_as x.rows n (k + 1) p ++ t) (x.one s at (up_to p k))
      machine =
          subst (λ (q : Plant). Leaves s q (machines_as x.rows n (k + 1) p ++ t) (x.one s at (up_to p k))) (next_machine p w k there)
          (one-reads (up_to p k) (state_count p k) rs (all_at _ 0 p.states w.states k there) few own fresh s at (machines_as x.rows n (k + 1) p ++ t)
          (e ∙ append_assoc (machine_as x.rows p k) (machines_as x.rows n (k + 1) p) t))

  pub machines_read : (s : List ℕ) (at : ℕ) → at ≤ length s → drop at s ≡ machines_as x.rows (machine_count p) 0 p
      → Leaves s p [] (x.many (machine_count p) s at (no_machines p.types))
  machines_read s at l e =
      subst (λ (q : Plant). Leaves s p [] (x.many (machine_count p) s at q)) (up_to_none p w)
      (machines_from_k (machine_count p) 0 (zero-add (machine_count p)) s at [] l (e ∙ sym (append-nil (machines_as x.rows (machine_count p) 0 p))))

-- A machine was read behind those of p.
pub record MachineFrom (From : ℕ → List ℕ → ℕ → Type 0) (all : List Row → List ℕ) (at : ℕ) (p q : Plant) (next : ℕ) : Type 0 where
  pub states : ℕ
  pub rows : List Row
  pub plant : q ≡ with_rows (with_machine p states) rows
  pub machine : All (λ r. r.machine ≡ machine_count p) rows
  pub from : From at (states ∷ (length rows ∷ all rows)) next

-- A plant of k machines was read from the offset `at`, where its first machine stands, up to `next`.
pub record MachinesFrom (From : ℕ → List ℕ → ℕ → Type 0) (all : List Row → List ℕ) (at types k : ℕ) (p : Plant) (next : ℕ) : Type 0 where
  pub few : p.types ≡ types
  pub count : machine_count p ≡ k
  pub numbered : All (λ r. r.machine < machine_count p) p.rows
  pub from : From at (machines_as all (machine_count p) 0 p) next

-- What was read as machines was written as those machines, if one machine was.
module _ (x : MachineReader) (From : ℕ → List ℕ → ℕ → Type 0) (span : Span From) (s : List ℕ) (start types : ℕ)
    (one_from : (at : ℕ) (p : Plant) → Gives (MachineFrom From x.rows at p) (x.one s at p)) where
  more : (k : ℕ) (p q : Plant) (at next : ℕ) → MachinesFrom From x.rows start types k p at → MachineFrom From x.rows at p q next
      → MachinesFrom From x.rows start types (k + 1) q next
  more k p q at next c h =
      subst (λ (z : Plant). MachinesFrom From x.rows start types (k + 1) z next) (sym h.plant)
      (record {
        few = c.few;
        count = omega (arith, one_more, c.count);
        numbered = numbered_more p h.states h.rows c.numbered h.machine;
        from =
            rw (one_more, machine_more x.rows p h.states h.rows c.numbered h.machine)
            (span.span_then start at next (machines_as x.rows (machine_count p) 0 p) (h.states ∷ (length h.rows ∷ x.rows h.rows)) c.from h.from);
      })
    where
      one_more : machine_count (with_machine p h.states) ≡ machine_count p + 1
      one_more = length-append p.states (h.states ∷ [])

  machines_on : (n k at : ℕ) (p : Plant) → MachinesFrom From x.rows start types k p at → Gives (MachinesFrom From x.rows start types (k + n)) (x.many n s at p)
  machines_on zero k at p c = let e : k + 0 ≡ k = omega arith in rw (x.many_none, e) (value c)
  machines_on (suc n) k at p c =
      let e : k + suc n ≡ k + 1 + n = omega arith in
      rw (x.many_more, e) (gives_then (one_from at p) λ q next h. machines_on n (k + 1) next q (more k p q at next c h))

  pub machines_from : (n : ℕ) → Gives (MachinesFrom From x.rows start types n) (x.many n s start (no_machines types))
  unfolding All machines_as
  machines_from n =
      subst (λ (k : ℕ). Gives (MachinesFrom From x.rows start types k) (x.many n s start (no_machines types))) (zero-add n)
      (machines_on n 0 start (no_machines types) (record { few = refl; count = refl; numbered = tt; from = span.span_none start }))
