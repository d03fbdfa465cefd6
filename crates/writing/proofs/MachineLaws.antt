-- Laws for the functions that read machines from the list and store them.
use Rattle.std.specs.Prelude.{Result, Ok, Err}
use mathlib.Core.Path.{◌≡◌, refl, sym, ◌∙◌, ap, subst}
use mathlib.Core.List.{List, [], ◌∷◌}
use Prim.Native.Nat.{ℕ, suc, ◌+◌, ◌-◌, ◌≤◌, ◌<◌}
use native.Mathlib.Nat.{sub-zero}
use native.Mathlib.Omega.{arith}
use lib.ListN.{length, length-append}
use Rattle.livelock.specs.Lists.{All}
use Rattle.livelock.specs.Plants.{Plant, row_count, machine_count}
use Rattle.plant.specs.Found.{Found, found, and_then}
use Rattle.plant.specs.Reading.{with_machine, no_machines}
use Rattle.plant.specs.Steps.{fault_found}
use Rattle.plant.specs.declared.Fault.{Fault}
use Rattle.plant_files.specs.Files.{rows_bytes, machines_as}
use Rattle.plant_files.specs.Inner.Parts.{with_rows}
use Rattle.plant_files.proofs.PlantParts.{machine_more, numbered_more}
use Rattle.plant_lists.specs.Lists.{count_number, rows_number, listed_rows, listed_machine, listed_machines}
use Rattle.row_bytes.specs.Stores.{Stored}
use Rattle.row_bytes.proofs.StoreLaws.{stored_none, stored_then}
use Rattle.written_rows.specs.Steps.{Near, RowsStored, rows_stored, rows_refused}
use Rattle.writing.specs.declared.Walked.{Walked}
use Rattle.writing.specs.Inner.Steps.{MachineStored, machine_stored, machine_refused}
use Rattle.writing.specs.Inner.Steps.{MachinesGoing, MachinesStored, machines_stored, machines_refused}

-- What ends at most at a limit ends at most at a further one.
pub near_more : (s : List ℕ) (limit most end : ℕ) (r : Result ℕ Fault) → limit ≤ most → Near s limit end r → Near s most end r
near_more s limit most end (Err f) l h = tt
near_more s limit most end (Ok at) l h = (h.0, h.1, omega (arith, h.2, l))

-- ---- one machine

-- Where a machine ends whose rows end so, with this count of rows.
abbrev pub machine_end : ℕ → Result ℕ Fault → Result Walked Fault
machine_end rows (Ok at) = Ok (record { at = at; rows = rows })
machine_end rows (Err f) = Err f

module _ (s : List ℕ) (at : ℕ) (p : Plant) (before after : List ℕ) (pos end used : ℕ) (u : row_count p ≡ used) where
  refuse : (f : Fault) → fault_found f ≡ listed_machine s at p → MachineStored p before after pos end (listed_machine s at p) (Err f)
  refuse f e = subst (λ (x : Found Plant). MachineStored p before after pos end x (Err f)) e machine_refused

  pub no_states : (f : Fault) → count_number 1 64 s at ≡ fault_found f → MachineStored p before after pos end (listed_machine s at p) (Err f)
  unfolding listed_machine
  no_states f e = refuse f (rw e)

  module _ (states a : ℕ) (e : count_number 1 64 s at ≡ found states a) where
    pub no_rows : (f : Fault) → rows_number used s a ≡ fault_found f → MachineStored p before after pos end (listed_machine s at p) (Err f)
    unfolding listed_machine
    no_rows f g = refuse f (rw (e, u, g))

    -- Its two counts and its rows, stored one behind the other.
    pub machine_is : (n b : ℕ) → rows_number used s a ≡ found n b → (b1 b2 : List ℕ) (e1 e2 rows : ℕ) (step : Result ℕ Fault) → rows ≡ used + n
        → Stored before b1 pos (states ∷ []) e1 → Stored b1 b2 e1 (n ∷ []) e2
        → RowsStored n (machine_count p) (with_machine p states) b2 after e2 end (listed_rows n (machine_count p) states s b (with_machine p states)) step
        → MachineStored p before after pos end (listed_machine s at p) (machine_end rows step)
    unfolding listed_machine
    machine_is n b g b1 b2 e1 e2 rows step total one two h = rw (e, u, g) (go (listed_rows n (machine_count p) states s b (with_machine p states)) step h)
      where
        go : (x : Found Plant) (step : Result ℕ Fault) → RowsStored n (machine_count p) (with_machine p states) b2 after e2 end x step
            → MachineStored p before after pos end x (machine_end rows step)
        go x step (rows_stored rs {next} count own stored) =
            machine_stored states rs (omega (arith, total, u, count)) own
            (rw count
            (stored_then before b1 after pos e1 end (states ∷ []) (n ∷ rows_bytes 0 rs) one
            (stored_then b1 b2 after e1 e2 end (n ∷ []) (rows_bytes 0 rs) two stored)))
        go x step rows_refused = machine_refused

-- ---- machines in turn

module _ (n from : ℕ) (s : List ℕ) (types : ℕ) (before : List ℕ) (pos : ℕ) where
  -- Before the first machine,
  pub machines_begin : MachinesGoing n from s types before pos 0 from before pos 0
  unfolding machines_as All
  machines_begin =
      record {
        q = no_machines types;
        few = refl;
        count = refl;
        total = refl;
        numbered = tt;
        stored = stored_none before pos;
        rest = ap (λ (k : ℕ). listed_machines k s from (no_machines types)) (sub-zero n);
      }

  module _ (i at : ℕ) (file : List ℕ) (end rows : ℕ) (g : MachinesGoing n from s types before pos i at file end rows) where
    module _ (more : i < n) where
      one_more : listed_machines (n - i) s at g.q ≡ and_then (listed_machine s at g.q) (λ q next. listed_machines (n - (i + 1)) s next q)
      unfolding listed_machines
      one_more = let e : n - i ≡ suc (n - (i + 1)) = omega arith in rw e

      found_then : (x : Found Plant) → listed_machine s at g.q ≡ x → and_then x (λ q next. listed_machines (n - (i + 1)) s next q) ≡ listed_machines n s from (no_machines types)
      found_then x e = sym (one_more ∙ ap (λ (y : Found Plant). and_then y (λ q next. listed_machines (n - (i + 1)) s next q)) e) ∙ g.rest

      -- after a machine that was read and stored,
      pub machines_next : (w : Walked) (file' : List ℕ) (end' : ℕ) → MachineStored g.q file file' end end' (listed_machine s at g.q) (Ok w)
          → MachinesGoing n from s types before pos (i + 1) w.at file' end' w.rows
      machines_next w file' end' h = go w.at w.rows (listed_machine s at g.q) h refl
        where
          go : (next rows' : ℕ) (x : Found Plant) → MachineStored g.q file file' end end' x (Ok (record { at = next; rows = rows' }))
              → listed_machine s at g.q ≡ x → MachinesGoing n from s types before pos (i + 1) next file' end' rows'
          go next rows' x (machine_stored states rs total own stored) e =
              record {
                q = with_rows (with_machine g.q states) rs;
                few = g.few;
                count = omega (arith, length-append g.q.states (states ∷ []), g.count);
                total = omega (arith, length-append g.q.rows rs, total);
                numbered = numbered_more g.q states rs g.numbered own;
                stored =
                    subst (λ (k : ℕ). Stored before file' pos (machines_as (rows_bytes 0) (k + 1) 0 (with_rows (with_machine g.q states) rs)) end') g.count
                    (rw (machine_more (rows_bytes 0) g.q states rs g.numbered own)
                    (stored_then before file file' pos end end' (machines_as (rows_bytes 0) (machine_count g.q) 0 g.q) (states ∷ (length rs ∷ rows_bytes 0 rs))
                    (subst (λ (k : ℕ). Stored before file pos (machines_as (rows_bytes 0) k 0 g.q) end) (sym g.count) g.stored) stored));
                rest = found_then x e;
              }

      -- at a fault,
      pub machines_stop : (f : Fault) (file' : List ℕ) (end' : ℕ) → MachineStored g.q file file' end end' (listed_machine s at g.q) (Err f)
          → MachinesStored n types before file' pos end' (listed_machines n s from (no_machines types)) (Err f)
      machines_stop f file' end' h =
          subst (λ (x : Found Plant). MachinesStored n types before file' pos end' x (Err f)) (found_then (fault_found f) (is_fault (listed_machine s at g.q) h)) machines_refused
        where
          is_fault : (x : Found Plant) → MachineStored g.q file file' end end' x (Err f) → x ≡ fault_found f
          is_fault x machine_refused = refl

    -- and after the last machine.
    pub machines_finish : i ≤ n → n ≤ i → MachinesStored n types before file pos end (listed_machines n s from (no_machines types)) (Ok at)
    machines_finish l d =
        let same : i ≡ n = omega arith in
        subst (λ (x : Found Plant). MachinesStored n types before file pos end x (Ok at)) done
        (machines_stored g.q (g.count ∙ same) g.few (subst (λ (k : ℕ). Stored before file pos (machines_as (rows_bytes 0) k 0 g.q) end) same g.stored))
      where
        none_left : (k : ℕ) → k ≡ 0 → found g.q at ≡ listed_machines k s at g.q
        none_left k z = rw z (unfold listed_machines in refl)

        done : found g.q at ≡ listed_machines n s from (no_machines types)
        done = none_left (n - i) (omega (arith, d)) ∙ g.rest
