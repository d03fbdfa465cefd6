-- Laws of the machines' first rows.
use mathlib.Core.Path.{◌≡◌, refl, sym, ◌∙◌, subst⁻¹}
use mathlib.Core.Logic.{◌↔◌}
use mathlib.Core.Bool.{Bool, true, false, cond}
use mathlib.Core.List.{List, [], ◌∷◌}
use Prim.Native.Nat.{ℕ, zero, suc, ◌+◌, ◌-◌, ◌≤◌, ◌<◌, zero-le}
use native.Mathlib.Nat.{le_of_suc-le-suc, not-suc-le-zero}
use native.Mathlib.Decide.{ℕ_discrete, dec_lt}
use native.Mathlib.Omega.{arith}
use lib.ListN.{length, get_or, set, drop, length-set}
use lib.Seq.{get_or-set_same, get_or-set_other}
use lib.Dec.{ltb, eqb}
use borrow.Author.Tests.{ltb-true, ltb-false, lt-ltb, le-ltb, eq-eqb, ne_eqb}
use Rattle.livelock.specs.Lists.{All, below, sum, count}
use Rattle.livelock.specs.Plants.{Row, Plant, row_at, row_count, machine_count, no_row}
use Rattle.livelock.proofs.ListLaws.{all_append, all_weaken, all_always, all_at}
use Rattle.livelock.proofs.SumLaws.{sum-append, sum_equal, sum_mono, sum_zero, sum_ones}
use Rattle.plant.specs.Found.{found}
use Rattle.plant.specs.Reading.{with_row, with_machine, read_machine}
use Rattle.plant.specs.Limits.{Ascending, rows_of, WithinLimits}
use Rattle.decoding.specs.Inner.Steps.{FirstRows}
use Rattle.decoding.specs.Tables.{rows_before, plant_of, Ready}
use Rattle.decoding.specs.declared.Shape.{Shape}
use Rattle.plant.proofs.Bounds.{Each, each_then, each_found, byte_in_each, rows_byte_each, read_rows_each, one_bit}
use Rattle.plant.proofs.FileBounds.{each_moved}
use Rattle.decoding.proofs.TableLaws.{rows_counted}

-- ---- while the machines are read

-- Before machine n is read, every row belongs to a machine before n, and the first n + 1 entries are stored. The rows that it then adds have
-- number n, so that no count of rows before a machine up to n changes; and its last row is the last before machine n + 1.

-- Before the first machine is read there are no rows.
pub first_none : (first : List ℕ) (p : Plant) → length first ≡ 17 → get_or first 0 0 ≡ 0 → p.rows ≡ [] → FirstRows first 1 0 p
unfolding All sum
first_none first p e z none =
    record { room = e; at = λ m l. at_0 m (omega arith); numbered = subst⁻¹ (All (λ (r : Row). r.machine < 0)) none tt }
  where
    at_0 : (m : ℕ) → m ≡ 0 → get_or first m 0 ≡ rows_before p m
    at_0 m q = rw (q, none) z

-- Where all rows belong to machines before n, they are counted before n.
all_before : (n : ℕ) (rs : List Row) → All (λ r. r.machine < n) rs → count (λ r. ltb r.machine n) rs ≡ length rs
all_before n rs h =
    sum_equal (λ (r : Row). cond (ltb r.machine n) 1 0) (λ r. 1) rs (all_weaken (λ (r : Row). r.machine < n) _ (λ r l. simp (lt-ltb r.machine n l)) rs h) ∙ sum_ones rs

-- The first row behind those of the machines before n is the count of rows.
first_next : (first : List ℕ) (n rows : ℕ) (p : Plant) → row_count p ≡ rows → n < 17 → FirstRows first n n p → FirstRows (set first n rows) (n + 1) n p
first_next first n rows p e l f =
    record {
      room = length-set first n rows ∙ f.room;
      at = λ m h. go m h (ℕ_discrete m n);
      numbered = f.numbered;
    }
  where
    go : (m : ℕ) → m < n + 1 → Dec (m ≡ n) → get_or (set first n rows) m 0 ≡ rows_before p m
    go m h (yes q) = rw q (get_or-set_same first n rows 0 (omega (arith, f.room)) ∙ (sym e ∙ sym (all_before n p.rows f.numbered)))
    go m h (no q) = get_or-set_other first n m rows 0 q ∙ f.at m (omega arith)

-- A row of machine n is not counted before n.
own_row : (first : List ℕ) (n : ℕ) (p : Plant) (r : Row) → r.machine ≡ n → FirstRows first (n + 1) (n + 1) p → FirstRows first (n + 1) (n + 1) (with_row p r)
unfolding All sum
own_row first n p r e f =
    record {
      room = f.room;
      at =
          λ m l.
          omega (arith, f.at m l, sum-append (λ (q : Row). cond (ltb q.machine m) 1 0) p.rows (r ∷ []), not_before m l);
      numbered = all_append (λ q. q.machine < n + 1) p.rows (r ∷ []) f.numbered (omega arith, tt);
    }
  where
    not_before : (m : ℕ) → m < n + 1 → ◌≡◌ {A = ℕ} (cond (ltb r.machine m) 1 0) 0
    not_before m l = simp (le-ltb r.machine m (omega arith))

-- The first rows of the machines so far, with that of the next, stay what they are while the next machine is read.
first_each : (s : List ℕ) (at : ℕ) (first : List ℕ) (p : Plant) → FirstRows first (machine_count p + 1) (machine_count p) p
    → Each (λ q next. FirstRows first (machine_count p + 1) (machine_count p + 1) q) (length s) (read_machine s at p)
unfolding read_machine
first_each s at first p f =
    each_then (byte_in_each s at 1 _ 3 (omega arith) (omega arith)) λ states a ha.
    each_then (rows_byte_each s a (row_count p)) λ n b hb.
    each_moved s b hb.0.inside
    (λ q next h. h.1)
    (read_rows_each
    (drop b s)
    (λ k i q. FirstRows first (machine_count p + 1) (machine_count p + 1) q)
    (machine_count p)
    states
    (λ k i next q r g l h fresh. own_row first (machine_count p) q r h.machine g)
    n
    0
    0
    (with_machine p states)
    ha.1.0
    zero-le
    (record { room = f.room; at = f.at; numbered = all_weaken (λ r. r.machine < machine_count p) _ (λ r h. omega arith) p.rows f.numbered }))

-- The count of rows, stored as the first row of the next machine once machine n is read.
pub first_stored : (s : List ℕ) (at : ℕ) (first : List ℕ) (n rows : ℕ) (p q : Plant) (next : ℕ) → machine_count p ≡ n → row_count q ≡ rows → n < 16
    → FirstRows first (n + 1) n p → read_machine s at p ≡ found q next → FirstRows (set first (n + 1) rows) (n + 1 + 1) (n + 1) q
first_stored s at first n rows p q next m u l f e =
    first_next first (n + 1) rows q u (omega arith)
    (rw (← m) (each_found q next (first_each s at first p (rw m f)) e))

-- A shape without machines is ready, whatever the table.
pub nothing_ready : (states first : List ℕ) → length states ≡ 16 → get_or first 0 0 ≡ 0 → (table : List ℕ)
    → Ready (record { types = 0; machines = 0; rows = 0; states = states; first = first }) table
unfolding below sum
nothing_ready states first long z table =
    record {
      sound = record { few_machines = zero-le; few_rows = zero-le; few_types = zero-le; states_room = long; room = omega arith };
      first_row = λ m l. at_0 m (omega arith);
    }
  where
    at_0 : (m : ℕ) → m ≡ 0 → get_or first m 0 ≡ 0
    at_0 m q = rw q z

-- ---- for the crates that work on plants

-- In rows that stand in ascending order of machines, those of machines before m stand in front.
in_front : (m : ℕ) (rs : List Row) → Ascending rs → (k : ℕ) → k < length rs → ((get_or rs k no_row).machine < m) ↔ (k < count (λ r. ltb r.machine m) rs)
unfolding Ascending sum
in_front m [] a k l = absurd (not-suc-le-zero l)
in_front m (r ∷ rs) a k l = go (ltb r.machine m) refl k l (in_front m rs a.1)
  where
    go : (b : Bool) → ltb r.machine m ≡ b → (j : ℕ) → j < suc (length rs)
        → ((i : ℕ) → i < length rs → ((get_or rs i no_row).machine < m) ↔ (i < count (λ q. ltb q.machine m) rs))
        → ((get_or (r ∷ rs) j no_row).machine < m) ↔ (j < cond b 1 0 + count (λ q. ltb q.machine m) rs)
    go true e zero h rest = (λ q. omega arith, λ q. ltb-true r.machine m e)
    go true e (suc j) h rest = let i = rest j (le_of_suc-le-suc h) in (λ q. omega (arith, i.0 q), λ q. i.1 (omega arith))
    go false e j h rest = (λ q. absurd (omega (arith, later j h, ltb-false r.machine m e)), λ q. absurd (omega (arith, none)))
      where
        none : sum (λ (q : Row). cond (ltb q.machine m) 1 0) rs ≡ 0
        none =
            sum_equal (λ (q : Row). cond (ltb q.machine m) 1 0) (λ q. 0) rs
            (all_weaken (λ q. r.machine ≤ q.machine) _ (λ q l. simp (le-ltb q.machine m (omega (arith, ltb-false r.machine m e)))) rs a.0)
            ∙ sum_zero rs

        later : (i : ℕ) → i < suc (length rs) → r.machine ≤ (get_or (r ∷ rs) i no_row).machine
        later zero l = omega arith
        later (suc i) l = all_at (λ q. r.machine ≤ q.machine) no_row rs a.0 i (le_of_suc-le-suc l)

-- Row k belongs to machine m exactly where first row of m ≤ k < first row of m + 1.
pub row_of_machine : (p : Plant) → WithinLimits p → (m k : ℕ) → k < row_count p
    → ((row_at p k).machine ≡ m) ↔ ((rows_before p m ≤ k) × (k < rows_before p (m + 1)))
row_of_machine p lim m k l = (λ e. (starts e (dec_lt k (rows_before p m)), next.0 (omega arith)), λ h. is h (dec_lt (row_at p k).machine m))
  where
    front : ((row_at p k).machine < m) ↔ (k < rows_before p m)
    front = in_front m p.rows lim.ascending k l

    next : ((row_at p k).machine < m + 1) ↔ (k < rows_before p (m + 1))
    next = in_front (m + 1) p.rows lim.ascending k l

    starts : (row_at p k).machine ≡ m → Dec (k < rows_before p m) → rows_before p m ≤ k
    starts e (yes q) = absurd (omega (arith, front.1 q))
    starts e (no q) = omega arith

    is : (rows_before p m ≤ k) × (k < rows_before p (m + 1)) → Dec ((row_at p k).machine < m) → (row_at p k).machine ≡ m
    is h (yes q) = absurd (omega (arith, front.0 q, h.0))
    is h (no q) = omega (arith, next.1 h.1)

-- A machine is before m + 1 if it is before m or is m.
one_machine_more : (a m : ℕ) → cond (ltb a (m + 1)) 1 0 ≡ cond (ltb a m) 1 0 + cond (eqb a m) 1 0
one_machine_more a m = go (dec_lt a m) (ℕ_discrete a m)
  where
    go : Dec (a < m) → Dec (a ≡ m) → cond (ltb a (m + 1)) 1 0 ≡ cond (ltb a m) 1 0 + cond (eqb a m) 1 0
    go (yes l) (yes e) = absurd (omega arith)
    go (yes l) (no e) = simp (lt-ltb a (m + 1) (omega arith), lt-ltb a m l, ne_eqb a m e)
    go (no l) (yes e) = simp (lt-ltb a (m + 1) (omega arith), le-ltb a m (omega arith), eq-eqb a m e)
    go (no l) (no e) = simp (le-ltb a (m + 1) (omega arith), le-ltb a m (omega arith), ne_eqb a m e)

-- The rows of the machines before m + 1 are those of the machines before m and those of m.
rows_of_next : (m : ℕ) (rs : List Row) → count (λ r. ltb r.machine (m + 1)) rs ≡ count (λ r. ltb r.machine m) rs + count (λ r. eqb r.machine m) rs
unfolding sum
rows_of_next m [] = refl
rows_of_next m (r ∷ rs) = omega (arith, one_machine_more r.machine m, rows_of_next m rs)

-- The machines before m have no more rows than the plant.
rows_before_bound : (p : Plant) (m : ℕ) → rows_before p m ≤ row_count p
rows_before_bound p m =
    omega (arith, sum_mono (λ (r : Row). cond (ltb r.machine m) 1 0) (λ r. 1) p.rows (all_always _ (λ r. one_bit (ltb r.machine m)) p.rows), sum_ones p.rows)

-- A table has the rows of machine m from its first row up to the next machine's: so many as the machine has, all of them rows of the table.
pub machine_rows : (s : Shape) (table : List ℕ) → Ready s table → (m : ℕ) → m < s.machines
    → (get_or s.first m 0 ≤ get_or s.first (m + 1) 0) × (get_or s.first (m + 1) 0 ≤ s.rows) × (rows_of (plant_of s table) m ≡ get_or s.first (m + 1) 0 - get_or s.first m 0)
machine_rows s table ready m l =
    let low = ready.first_row m (omega arith) in
    let high = ready.first_row (m + 1) (omega arith) in
    let next = rows_of_next m (plant_of s table).rows in (
      omega (arith, low, high, next),
      omega (arith, high, rows_before_bound (plant_of s table) (m + 1), rows_counted s table),
      omega (arith, low, high, next),
    )
