-- Laws for the functions that read a whole list: the plant that it says, stored, and what the writer hands back.
use Rattle.std.specs.Prelude.{Ok, Err}
use mathlib.Core.Path.{◌≡◌, refl, sym, ◌∙◌, ap, subst}
use mathlib.Core.List.{List, [], ◌∷◌, ◌++◌}
use Prim.Native.Nat.{ℕ, ◌≤◌, ◌<◌}
use native.Mathlib.Omega.{arith}
use lib.ListN.{length, take, drop}
use lib.Seq.{take-append_seam}
use borrow.Author.Tests.{lt-ltb, le-ltb}
use Rattle.livelock.specs.Plants.{Plant}
use Rattle.plant.specs.Found.{Found, found, and_then}
use Rattle.plant.specs.Reading.{no_machines}
use Rattle.plant.specs.Steps.{fault_found}
use Rattle.plant.specs.Refusals.{number_of}
use Rattle.plant.specs.declared.Fault.{Fault}
use Rattle.plant_files.specs.Files.{rows_bytes, machines_as, file_of}
use Rattle.plant_lists.specs.Lists.{count_number, listed_machines, list_end, listed_plant}
use Rattle.plant_lists.proofs.ListLengths.{listed_whole}
use Rattle.plant_lists.proofs.ListLaws.{said_shortest}
use Rattle.row_bytes.specs.Stores.{Stored}
use Rattle.row_bytes.proofs.StoreLaws.{stored_then}
use Rattle.writing.specs.Answers.{Answer, wrote, refused}
use Rattle.writing.specs.Writing.{answer_for, buffer_for, SaysShortest, WritesShortest}
use Rattle.writing.specs.Inner.Steps.{MachinesStored, machines_stored, machines_refused, PlantStored, plant_stored, plant_refused}

-- ---- the list

module _ (s : List ℕ) (before after : List ℕ) where
  refuse : (f : Fault) → fault_found f ≡ listed_plant s → PlantStored before after (listed_plant s) (Err f)
  refuse f e = subst (λ (x : Found Plant). PlantStored before after x (Err f)) e plant_refused

  pub no_machine_count : (f : Fault) → count_number 1 16 s 0 ≡ fault_found f → PlantStored before after (listed_plant s) (Err f)
  unfolding listed_plant
  no_machine_count f e = refuse f (rw e)

  module _ (n a : ℕ) (e : count_number 1 16 s 0 ≡ found n a) where
    pub no_type_count : (f : Fault) → count_number 0 64 s a ≡ fault_found f → PlantStored before after (listed_plant s) (Err f)
    unfolding listed_plant
    no_type_count f g = refuse f (rw (e, g))

    module _ (types c : ℕ) (g : count_number 0 64 s a ≡ found types c) (b2 b3 : List ℕ) (e2 end : ℕ) where
      pub no_machine : (f : Fault) → MachinesStored n types b2 b3 e2 end (listed_machines n s c (no_machines types)) (Err f) → PlantStored before after (listed_plant s) (Err f)
      unfolding listed_plant
      no_machine f h = rw (e, g) (go (listed_machines n s c (no_machines types)) h)
        where
          go : (x : Found Plant) → MachinesStored n types b2 b3 e2 end x (Err f) → PlantStored before after (and_then x (list_end s)) (Err f)
          go x machines_refused = plant_refused

      module _ (next : ℕ) (h : MachinesStored n types b2 b3 e2 end (listed_machines n s c (no_machines types)) (Ok next)) where
        -- The list goes on behind them,
        pub no_end : (f : Fault) → ((p : Plant) → fault_found f ≡ list_end s p next) → PlantStored before after (listed_plant s) (Err f)
        unfolding listed_plant
        no_end f ends = rw (e, g) (go (listed_machines n s c (no_machines types)) next h ends)
          where
            go : (x : Found Plant) (next : ℕ) → MachinesStored n types b2 b3 e2 end x (Ok next) → ((p : Plant) → fault_found f ≡ list_end s p next)
                → PlantStored before after (and_then x (list_end s)) (Err f)
            go x next (machines_stored q count few stored) ends = rw (← ends q) plant_refused

        -- or ends: two counts and the machines, stored one behind the other.
        pub plant_is : (b1 : List ℕ) (e1 : ℕ) → Stored before b1 0 (n ∷ []) e1 → Stored b1 b2 e1 (types ∷ []) e2
            → ((p : Plant) → found p next ≡ list_end s p next) → after ≡ b3 → PlantStored before after (listed_plant s) (Ok end)
        unfolding listed_plant
        plant_is b1 e1 one two ends same = rw (e, g) (go (listed_machines n s c (no_machines types)) next h ends)
          where
            whole : (q : Plant) → q.types ≡ types → Stored b2 b3 e2 (machines_as (rows_bytes 0) n 0 q) end
                → Stored before after 0 (n ∷ (q.types ∷ machines_as (rows_bytes 0) n 0 q)) end
            whole q few stored =
                rw same
                (subst (λ (k : ℕ). Stored before b3 0 (n ∷ (k ∷ machines_as (rows_bytes 0) n 0 q)) end) (sym few)
                (stored_then before b1 b3 0 e1 end (n ∷ []) (types ∷ machines_as (rows_bytes 0) n 0 q) one
                (stored_then b1 b2 b3 e1 e2 end (types ∷ []) (machines_as (rows_bytes 0) n 0 q) two stored)))

            go : (x : Found Plant) (next : ℕ) → MachinesStored n types b2 b3 e2 end x (Ok next) → ((p : Plant) → found p next ≡ list_end s p next)
                → PlantStored before after (and_then x (list_end s)) (Ok end)
            go x next (machines_stored q count few stored) ends =
                rw (← ends q) (plant_stored q (subst (λ (k : ℕ). Stored before after 0 (k ∷ (q.types ∷ machines_as (rows_bytes 0) k 0 q)) end) (sym count) (whole q few stored)))

-- ---- the writer

-- What the writer owes: the answer, the buffer afterwards, and what the file in it is.
abbrev pub Owes : List ℕ → List ℕ → List ℕ → Answer → Type 0
Owes s room after a = (a ≡ answer_for (listed_plant s) (length room)) × (after ≡ buffer_for (listed_plant s) room) × WritesShortest s after a

module _ (s before file room : List ℕ) where
  -- With a fault nothing is written,
  pub owes_fault : (f : Fault) → PlantStored before file (listed_plant s) (Err f) → Owes s room room (refused (number_of f.refusal) f.place)
  owes_fault f made = go (listed_plant s) made
    where
      go : (x : Found Plant) → PlantStored before file x (Err f) → (refused (number_of f.refusal) f.place ≡ answer_for x (length room)) × (room ≡ buffer_for x room) × Unit {0}
      go x plant_refused = (refl, refl, tt)

  module _ (end : ℕ) (made : PlantStored before file (listed_plant s) (Ok end)) where
    -- nor into a buffer that is too short,
    pub owes_room : length room < end → Owes s room room (refused 25 0)
    owes_room l = go (listed_plant s) made
      where
        go : (x : Found Plant) → PlantStored before file x (Ok end) → (refused 25 0 ≡ answer_for x (length room)) × (room ≡ buffer_for x room) × Unit {0}
        go x (plant_stored p stored) =
            let short : length room < length (file_of p) = omega (arith, stored.ends) in
            (rw (lt-ltb (length room) (length (file_of p)) short), rw (lt-ltb (length room) (length (file_of p)) short), tt)

    -- and into one that is long enough the file.
    pub owes_file : end ≤ length room → (after : List ℕ) → after ≡ take end file ++ drop end room → Owes s room after (wrote end)
    owes_file l after is = go (listed_plant s) made refl
      where
        go : (x : Found Plant) → PlantStored before file x (Ok end) → listed_plant s ≡ x
            → (wrote end ≡ answer_for x (length room)) × (after ≡ buffer_for x room) × SaysShortest s (take end after)
        go x (plant_stored p {next} stored) says =
            let long : length (file_of p) ≤ length room = omega (arith, stored.ends, l) in
            let size : end ≡ length (file_of p) = omega (arith, stored.ends) in
            let whole : after ≡ file_of p ++ drop (length (file_of p)) room = is ∙ (λ i. stored.front i ++ drop (size i) room) in (
              rw (le-ltb (length room) (length (file_of p)) long, size),
              rw (le-ltb (length room) (length (file_of p)) long) whole,
              record {
                plant = p;
                says = says ∙ ap (found p) (listed_whole s p next says);
                shortest = rw (size, whole, take-append_seam (file_of p) (drop (length (file_of p)) room)) (said_shortest s p next says);
              },
            )
