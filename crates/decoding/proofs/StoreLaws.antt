-- Laws of a table as a store of rows.
use mathlib.Core.Path.{◌≡◌, sym, ◌∙◌, ap}
use mathlib.Core.List.{List, [], ◌∷◌, ◌++◌, map}
use Prim.Native.Nat.{ℕ, ◌+◌, min}
use native.Mathlib.Omega.{arith}
use lib.ListN.{length, length-append}
use Rattle.livelock.specs.Lists.{below}
use Rattle.livelock.specs.Plants.{Row, Plant}
use Rattle.tables.specs.Tables.{row_in, Stored, RoomFor}
use Rattle.tables.proofs.RowLaws.{rows_stored}
use Rattle.std.specs.Borrow.{GName}
use Rattle.std.specs.Prelude.{Result, Ok, Err, IfOk}
use Rattle.plant.specs.Found.{found}
use Rattle.plant.specs.Reading.{read_plant}
use Rattle.plant.specs.declared.Fault.{Fault}
use Rattle.decoding.specs.Tables.{plant_of, decoded_found, rows_before, Ready}
use Rattle.decoding.specs.Reads.{Shaped, PlantRead}
use Rattle.decoding.specs.declared.Shape.{Shape}

-- A row that is stored behind the rows that a table holds is held with them.
pub held_stored : {k : ℕ} {r : Row} {before after : List ℕ} → Stored k r before after → (rows : List Row) → length rows ≡ k
    → rows ≡ map (row_in before) (below (length rows)) → rows ++ (r ∷ []) ≡ map (row_in after) (below (length (rows ++ (r ∷ []))))
held_stored {k} {r} {before} {after} stored rows long held =
    let e : rows ≡ map (row_in before) (below k) = held ∙ ap (λ (j : ℕ). map (row_in before) (below j)) long in
    ap (λ (rs : List Row). rs ++ (r ∷ [])) e
    ∙ sym (ap (λ (j : ℕ). map (row_in after) (below j)) (length-append rows (r ∷ []) ∙ ap (λ (j : ℕ). j + 1) long) ∙ rows_stored stored)

-- The one list that is lent is the same.
pub same_name : {a b : GName} → a ∷ [] ≡ b ∷ [] → a ≡ b
same_name e = cc

-- A table that holds the rows of a plant holds the plant of its shape.
plant_is : (s : Shape) (table : List ℕ) (p : Plant) → Shaped s p → p.rows ≡ map (row_in table) (below (length p.rows)) → plant_of s table ≡ p
plant_is s table p h held =
    let rows : map (row_in table) (below s.rows) ≡ p.rows = ap (λ (n : ℕ). map (row_in table) (below n)) (sym h.rows) ∙ sym held in
    λ i. record { types = sym h.types i; states = sym h.states i; rows = rows i }

-- Where a file was read into a table, the table and the shape give what the file reads as,
pub table_decoded : (file : List ℕ) (table : List ℕ) (r : Result Shape Fault) → PlantRead file (λ rows. rows ≡ map (row_in table) (below (length rows))) r
    → decoded_found r (length file) table ≡ read_plant file
table_decoded file table (Ok s) h =
    let q = h.holds in
    ap (λ (p : Plant). found p (length file)) (plant_is s table h.plant q.2 q.3) ∙ ap (found h.plant) (sym q.0) ∙ h.is
table_decoded file table (Err f) h = h

-- and they are ready, since there are no more rows than bytes.
pub table_ready : (file : List ℕ) (table : List ℕ) (r : Result Shape Fault) → PlantRead file (λ rows. rows ≡ map (row_in table) (below (length rows))) r
    → RoomFor (min 1024 (length file)) table → IfOk r (λ s. Ready s table)
table_ready file table (Ok s) h room =
    let q = h.holds in
    record {
      sound =
          record {
            few_machines = q.2.few_machines;
            few_rows = q.2.few_rows;
            few_types = q.2.few_types;
            states_room = q.2.states_room;
            room = omega (arith, room, q.1, q.2.few_rows);
          };
      first_row = λ m l. q.2.first_row m l ∙ ap (λ (p : Plant). rows_before p m) (sym (plant_is s table h.plant q.2 q.3));
    }
table_ready file table (Err f) h room = tt
