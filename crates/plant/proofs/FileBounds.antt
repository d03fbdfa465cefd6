-- What holds of every plant that is read: it is within the limits, and each fault is placed in the file.
use mathlib.Core.Path.{◌≡◌, refl, sym, ◌∙◌, subst}
use mathlib.Core.Bool.{Bool, true, false, cond}
use mathlib.Core.List.{List, [], ◌∷◌, ◌++◌}
use Prim.Native.Nat.{ℕ, zero, suc, ◌+◌, ◌*◌, ◌≤◌, ◌<◌, zero-le}
use native.Mathlib.Omega.{arith}
use lib.ListN.{length, drop, length-append, length-drop, get_or-append}
use lib.Seq.{get_or_at}
use lib.Dec.{ltb, eqb}
use borrow.Author.Tests.{ltb-true, ltb-false, eqb-true, ne_eqb}
use Rattle.livelock.specs.Lists.{All, Distinct, sum}
use Rattle.livelock.specs.Plants.{Row, Plant, row_count, machine_count, state_count, RowFits, WellFormed}
use Rattle.livelock.proofs.ListLaws.{all_append, all_weaken}
use Rattle.livelock.proofs.SumLaws.{sum-append, sum_equal, sum_zero}
use Rattle.plant.specs.Found.{Found, found, fault, moved_by}
use Rattle.plant.specs.Reading.{with_row, with_machine, read_machine, read_machines, no_machines, read_plant}
use Rattle.plant.specs.Twins.{has_twin}
use Rattle.plant.specs.Limits.{most_row_bytes, longest_file, Ascending, rows_of, Numbered, WithinLimits, Placed, at_the_end, within, at_twin}
use Rattle.plant.proofs.TwinLaws.{distinct_snoc}
use Rattle.plant.proofs.Bounds.{Each, got, stopped, each_found, each_fault, each_then, each-cond, byte_in_each, rows_byte_each, one_bit, RowIn, read_rows_each}

-- ---- the plant while it is read

-- What holds of the plant so far when the next byte is at an offset: each machine has two bytes and each row at most five.
pub record Formed (at : ℕ) (p : Plant) : Type 0 where
  pub few_types : p.types ≤ 64
  pub states : All (λ n. (1 ≤ n) × (n ≤ 64)) p.states
  pub rows_in_all : row_count p ≤ 1024
  pub rows_each : (m : ℕ) → rows_of p m ≤ 255
  pub formed : WellFormed p
  pub ascending : Ascending p.rows
  pub no_twins : Distinct p.rows
  pub bytes : at ≤ 2 + 2 * machine_count p + most_row_bytes * row_count p

-- The plant while the rows of its last machine are read, of which k are to come.
pub record Growing (m states k at : ℕ) (p : Plant) : Type 0 where
  pub so_far : Formed at p
  pub last : machine_count p ≡ suc m
  pub size : state_count p m ≡ states
  pub room : row_count p + k ≤ 1024
  pub own : rows_of p m + k ≤ 255

ascending-snoc : (rs : List Row) (r : Row) → Ascending rs → All (λ q. q.machine ≤ r.machine) rs → Ascending (rs ++ (r ∷ []))
unfolding Ascending All
ascending-snoc [] r a h = (tt, tt)
ascending-snoc (q ∷ rs) r a h = (all_append _ rs (r ∷ []) a.0 (h.0, tt), ascending-snoc rs r a.1 h.1)

rows_of-snoc : (p : Plant) (r : Row) (m : ℕ) → rows_of (with_row p r) m ≡ rows_of p m + cond (eqb r.machine m) 1 0
unfolding sum
rows_of-snoc p r m = omega (arith, sum-append (λ (q : Row). cond (eqb q.machine m) 1 0) p.rows (r ∷ []))

-- A row more of the last machine.
pub with_row_lem : (m states k at next : ℕ) (p : Plant) (r : Row) → Growing m states (suc k) at p → next ≤ at + most_row_bytes → RowIn m states p.types r
    → has_twin r p.rows ≡ false → Growing m states k next (with_row p r)
unfolding All
with_row_lem m states k at next p r g l i fresh =
    record {
      so_far =
          record {
            few_types = g.so_far.few_types;
            states = g.so_far.states;
            rows_in_all = omega (arith, more, g.room);
            rows_each = each;
            formed = all_append _ p.rows (r ∷ []) g.so_far.formed (fits, tt);
            ascending = ascending-snoc p.rows r g.so_far.ascending (all_weaken (RowFits p.types p.states) _ (λ q f. omega (arith, f.machine, i.machine, g.last)) p.rows g.so_far.formed);
            no_twins = distinct_snoc p.rows r g.so_far.no_twins fresh;
            bytes = omega (arith, more, g.so_far.bytes);
          };
      last = g.last;
      size = g.size;
      room = omega (arith, more, g.room);
      own = omega (arith, rows_of-snoc p r m, one_bit (eqb r.machine m), g.own);
    }
  where
    more : row_count (with_row p r) ≡ row_count p + 1
    more = length-append p.rows (r ∷ [])

    fits : RowFits p.types p.states r
    fits =
        record {
          machine = omega (arith, i.machine, g.last);
          left = rw (i.machine, g.size) i.left;
          entered = rw (i.machine, g.size) i.entered;
          sent = i.sent;
          taken = i.taken;
        }

    each : (j : ℕ) → rows_of (with_row p r) j ≤ 255
    each j = go (eqb r.machine j) refl
      where
        go : (b : Bool) → eqb r.machine j ≡ b → rows_of (with_row p r) j ≤ 255
        go true e = omega (arith, rows_of-snoc p r j, one_bit (eqb r.machine j), subst (λ (x : ℕ). rows_of p x + suc k ≤ 255) (sym i.machine ∙ eqb-true r.machine j e) g.own)
        go false e = rw (rows_of-snoc p r j, e) (omega (arith, g.so_far.rows_each j))

-- A row of a plant fits it also with a machine more.
row_kept : (types : ℕ) (states : List ℕ) (n : ℕ) (r : Row) → RowFits types states r → RowFits types (states ++ (n ∷ [])) r
row_kept types states n r f =
    record {
      machine = rw (length-append states (n ∷ [])) (omega (arith, f.machine));
      left = rw (get_or-append states (n ∷ []) 0 r.machine f.machine) f.left;
      entered = rw (get_or-append states (n ∷ []) 0 r.machine f.machine) f.entered;
      sent = f.sent;
      taken = f.taken;
    }

-- A machine that is only begun has no rows.
no_rows_yet : (p : Plant) → WellFormed p → rows_of p (machine_count p) ≡ 0
no_rows_yet p f =
    sum_equal (λ (r : Row). cond (eqb r.machine (machine_count p)) 1 0) (λ r. 0) p.rows
    (all_weaken (RowFits p.types p.states) _ (λ r h. simp (ne_eqb r.machine (machine_count p) (λ e. omega (arith, h.machine)))) p.rows f)
    ∙ sum_zero p.rows

-- A machine more, with n rows to come.
pub with_machine_lem : (states n at next : ℕ) (p : Plant) → Formed at p → next ≤ at + 2 → (1 ≤ states) × (states ≤ 64) → (n ≤ 255) × (row_count p + n ≤ 1024)
    → Growing (machine_count p) states n next (with_machine p states)
unfolding All
with_machine_lem states n at next p f l hs hn =
    record {
      so_far =
          record {
            few_types = f.few_types;
            states = all_append _ p.states (states ∷ []) f.states (hs, tt);
            rows_in_all = f.rows_in_all;
            rows_each = f.rows_each;
            formed = all_weaken (RowFits p.types p.states) _ (row_kept p.types p.states states) p.rows f.formed;
            ascending = f.ascending;
            no_twins = f.no_twins;
            bytes = omega (arith, more, f.bytes);
          };
      last = more_suc;
      size = get_or_at p.states states [] 0 (machine_count p) refl;
      room = hn.1;
      own = omega (arith, no_rows_yet p f.formed, hn.0);
    }
  where
    more : machine_count (with_machine p states) ≡ machine_count p + 1
    more = length-append p.states (states ∷ [])

    more_suc : machine_count (with_machine p states) ≡ suc (machine_count p)
    more_suc = omega (arith, more)

-- ---- machines and the file

-- What holds in the part of a file from an offset on holds in the whole file, with that offset added.
pub each_moved : {A : Type 0} {P R : A → ℕ → Type 0} (s : List ℕ) (b : ℕ) {x : Found A} → b ≤ length s → ((a : A) (next : ℕ) → P a next → R a (b + next))
    → Each P (length (drop b s)) x → Each R (length s) (moved_by b x)
each_moved s b l f (got p) = got (f _ _ p)
each_moved s b l f (stopped h) = stopped (placed_moved h)
  where
    placed_moved : {number place : ℕ} → Placed (length (drop b s)) number place → Placed (length s) number (b + place)
    placed_moved at_the_end = let e : b + length (drop b s) ≡ length s = omega (arith, length-drop b s) in rw e at_the_end
    placed_moved (within {number} {place} h u i) = let g : b + place < length s = omega (arith, length-drop b s) in within h u g
    placed_moved (at_twin {place} i) = let g : b + place < length s = omega (arith, length-drop b s) in at_twin g

-- The rows of a plant are of machines that it has, with a machine more that was read as well.
pub machine_numbered : (s : List ℕ) (at : ℕ) (p : Plant) → Numbered p → Each (λ q next. Numbered q) (length s) (read_machine s at p)
unfolding read_machine All
machine_numbered s at p h =
    each_then (byte_in_each s at 1 _ 3 (omega arith) (omega arith)) λ states a ha.
    each_then (rows_byte_each s a (row_count p)) λ n b hb.
    let more : machine_count (with_machine p states) ≡ machine_count p + 1 = length-append p.states (states ∷ []) in
    each_moved s b hb.0.inside
    (λ q next g. g.1.1)
    (read_rows_each
    (drop b s)
    (λ k i q. (machine_count q ≡ machine_count p + 1) × Numbered q)
    (machine_count p)
    states
    (λ k i next q r g l own fresh. (g.0, all_append _ q.rows (r ∷ []) g.1 (omega (arith, g.0, own.machine), tt)))
    n
    0
    0
    (with_machine p states)
    ha.1.0
    zero-le
    (more, all_weaken (λ r. r.machine < machine_count p) _ (λ r l. omega (arith, l, more)) p.rows h))

-- A plant of k machines.
pub record Machines (k at : ℕ) (p : Plant) : Type 0 where
  pub so_far : Formed at p
  pub number : machine_count p ≡ k

-- A plant of 1 to 16 machines that is formed so is within the limits.
pub formed_limits : (machines : ℕ) (p : Plant) (at : ℕ) → 1 ≤ machines → machines ≤ 16 → Machines (0 + machines) at p → WithinLimits p
formed_limits machines p at least most m =
    record {
      formed = m.so_far.formed;
      some_machine = omega (arith, m.number);
      few_machines = omega (arith, m.number);
      few_types = m.so_far.few_types;
      states = m.so_far.states;
      rows_each = m.so_far.rows_each;
      rows_in_all = m.so_far.rows_in_all;
      ascending = m.so_far.ascending;
      no_twins = m.so_far.no_twins;
    }

module _ (s : List ℕ) where
  -- Reading a machine ends in the file and gives a plant of one machine more,
  pub read_machine_each : (at : ℕ) (p : Plant) → Formed at p
      → Each (λ q next. (next ≤ length s) × Machines (machine_count p + 1) next q) (length s) (read_machine s at p)
  unfolding read_machine
  read_machine_each at p f =
      each_then (byte_in_each s at 1 _ 3 (omega arith) (omega arith)) λ states a ha.
      each_then (rows_byte_each s a (row_count p)) λ n b hb.
      each_moved s b hb.0.inside
      (λ q next h. (omega (arith, h.0, hb.0.inside, length-drop b s), record { so_far = h.1.so_far; number = omega (arith, h.1.last) }))
      (read_rows_each
      (drop b s)
      (λ k i q. Growing (machine_count p) states k (b + i) q)
      (machine_count p)
      states
      (λ k i next q r g l. with_row_lem (machine_count p) states k (b + i) (b + next) q r g (omega arith))
      n
      0
      0
      (with_machine p states)
      ha.1.0
      zero-le
      (with_machine_lem states n at (b + 0) p f (omega (arith, ha.0.near, hb.0.near)) (ha.1.0, omega (arith, ha.1.1)) hb.1))

  -- and reading n machines gives one of n more.
  pub read_machines_each : (n k at : ℕ) (p : Plant) → at ≤ length s → Machines k at p
      → Each (λ q next. (next ≤ length s) × Machines (k + n) next q) (length s) (read_machines n s at p)
  unfolding read_machines
  read_machines_each zero k at p l m = got {a = p} (l, record { so_far = m.so_far; number = omega (arith, m.number) })
  read_machines_each (suc n) k at p l m =
      let e : k + 1 + n ≡ k + suc n = omega arith in
      each_then (read_machine_each at p m.so_far) λ q next h.
      rw (← e) (read_machines_each n (k + 1) next q h.0 (record { so_far = h.1.so_far; number = omega (arith, h.1.number, m.number) }))

  -- The plant before its first machine is one of no machines.
  pub no_machines_lem : (at types : ℕ) → at ≤ 2 → types ≤ 64 → Machines 0 at (no_machines types)
  unfolding All Ascending Distinct sum
  no_machines_lem at types l h =
      record {
        so_far = record { few_types = h; states = tt; rows_in_all = zero-le; rows_each = λ m. zero-le; formed = tt; ascending = tt; no_twins = tt; bytes = omega arith };
        number = refl;
      }

  -- Every plant that a file reads as is within the limits, and was read to the end of the file, which is not far.
  pub read_plant_each : Each (λ p next. WithinLimits p × (next ≡ length s) × (next ≤ 2 + 2 * machine_count p + most_row_bytes * row_count p)) (length s) (read_plant s)
  unfolding read_plant
  read_plant_each =
      each_then (byte_in_each s 0 1 _ 2 (omega arith) (omega arith)) λ machines a ha.
      each_then (byte_in_each s a 0 _ 2 (omega arith) (omega arith)) λ types b hb.
      each_then (read_machines_each machines 0 b (no_machines types) hb.0.inside (no_machines_lem b types (omega (arith, ha.0.near, hb.0.near)) (omega (arith, hb.1.1)))) λ p end h.
      each-cond (ltb end (length s))
      (λ t. stopped (within (omega arith) (omega arith) (ltb-true end (length s) t)))
      (λ t. got (formed_limits machines p end ha.1.0 (omega (arith, ha.1.1)) h.1, omega (arith, h.0, ltb-false end (length s) t), h.1.so_far.bytes))

  -- The laws for callers.
  pub within_limits : (p : Plant) (end : ℕ) → read_plant s ≡ found p end → WithinLimits p
  within_limits p end e = (each_found p end read_plant_each e).0

  -- A plant file has two bytes, two for each machine and at most five for each row,
  pub length_of_file : (p : Plant) (end : ℕ) → read_plant s ≡ found p end → length s ≤ 2 + 2 * machine_count p + most_row_bytes * row_count p
  length_of_file p end e = let h = each_found p end read_plant_each e in omega (arith, h.1, h.2)

  -- so at most as many as the longest file.
  pub longest_file_lem : (p : Plant) (end : ℕ) → read_plant s ≡ found p end → length s ≤ longest_file
  longest_file_lem p end e = let h = within_limits p end e in omega (arith, length_of_file p end e, h.few_machines, h.rows_in_all)

  -- Every fault is placed in the file.
  pub placed : (number place : ℕ) → read_plant s ≡ fault number place → Placed (length s) number place
  placed number place e = each_fault number place read_plant_each e
