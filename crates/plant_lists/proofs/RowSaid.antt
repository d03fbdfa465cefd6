-- What holds of every row that a list says: it lies in its machine, and its six numbers stand in the list.
use mathlib.Core.Path.{◌≡◌, refl, ◌∙◌, ap}
use mathlib.Core.Bool.{cond}
use mathlib.Core.List.{List, ◌∷◌, ◌++◌}
use Prim.Native.Nat.{ℕ, zero, suc, ◌+◌, ◌≤◌, ◌<◌}
use native.Mathlib.Nat.{not-suc-le-zero}
use native.Mathlib.Omega.{arith}
use lib.ListN.{length, drop}
use lib.Dec.{eqb}
use Rattle.livelock.specs.Plants.{Row, TypeIn}
use Rattle.plant.specs.Reading.{in_range}
use Rattle.plant.proofs.Bounds.{RowIn}
use Rattle.plant.specs.Found.{found}
use Rattle.plant.proofs.Gives.{Gives, value, given_found, gives_then}
use Rattle.plant_lists.specs.Lists.{sent_by, taken_by, types_for, sent_types_for, listed_row, message_kind, message_type, sent_number, row_numbers}
use Rattle.plant_lists.proofs.NumberLaws.{ranged, number_is}

-- A kind, a fourth and a sixth number within their values give types of the plant, and come back from these.
record KindSaid (types kind type sent : ℕ) : Type 0 where
  sent_in : TypeIn types (sent_by kind type sent)
  taken_in : TypeIn types (taken_by kind type)
  kind_back : kind ≡ message_kind (sent_by kind type sent) (taken_by kind type)
  type_back : type ≡ message_type (sent_by kind type sent) (taken_by kind type)
  sent_back : sent ≡ sent_number (sent_by kind type sent) (taken_by kind type)

kind_said : (kind types type sent : ℕ) → kind < 4 → type < types_for kind types → sent < sent_types_for kind types → KindSaid types kind type sent
kind_said zero types type sent k h g = record { sent_in = tt; taken_in = tt; kind_back = refl; type_back = omega (arith, h); sent_back = omega (arith, g) }
kind_said (suc zero) types type sent k h g = record { sent_in = h; taken_in = tt; kind_back = refl; type_back = refl; sent_back = omega (arith, g) }
kind_said (suc (suc zero)) types type sent k h g = record { sent_in = tt; taken_in = h; kind_back = refl; type_back = refl; sent_back = omega (arith, g) }
kind_said (suc (suc (suc zero))) types type sent k h g = record { sent_in = g; taken_in = h; kind_back = refl; type_back = refl; sent_back = refl }
kind_said (suc (suc (suc (suc n)))) types type sent k h g = let z : 1 ≤ 0 = omega (arith, k) in absurd (not-suc-le-zero z)

-- Progress 0 or 1 comes back.
progress_back : (x : ℕ) → x < 2 → x ≡ cond (eqb x 1) 1 0
progress_back zero h = refl
progress_back (suc zero) h = refl
progress_back (suc (suc n)) h = let z : 1 ≤ 0 = omega (arith, h) in absurd (not-suc-le-zero z)

pub record RowSaid (m states types : ℕ) (s : List ℕ) (at : ℕ) (r : Row) (next : ℕ) : Type 0 where
  pub lies : RowIn m states types r
  pub ends : next ≡ at + 6
  pub inside : next ≤ length s
  pub stands : drop at s ≡ row_numbers r ++ drop next s

pub row_said : (m states types : ℕ) (s : List ℕ) (at : ℕ) → Gives (RowSaid m states types s at) (listed_row m states types s at)
unfolding listed_row row_numbers
row_said m states types s at =
    gives_then (number_is (in_range 0 states) s at) λ left a ha.
    gives_then (number_is (in_range 0 states) s a) λ entered b hb.
    gives_then (number_is (in_range 0 4) s b) λ kind c hc.
    gives_then (number_is (in_range 0 (types_for kind types)) s c) λ type d hd.
    gives_then (number_is (in_range 0 2) s d) λ progress e he.
    gives_then (number_is (in_range 0 (sent_types_for kind types)) s e) λ sent f hf.
    let k = kind_said kind types type sent (ranged 0 4 kind hc.passed).1 (ranged 0 (types_for kind types) type hd.passed).1 (ranged 0 (sent_types_for kind types) sent hf.passed).1 in
    let g = progress_back progress (ranged 0 2 progress he.passed).1 in
    value {next = f}
    (record {
      lies =
          record {
            machine = refl;
            left = (ranged 0 states left ha.passed).1;
            entered = (ranged 0 states entered hb.passed).1;
            sent = k.sent_in;
            taken = k.taken_in;
          };
      ends = omega (arith, ha.ends, hb.ends, hc.ends, hd.ends, he.ends, hf.ends);
      inside = omega (arith, hf.inside, hf.ends);
      stands =
          ha.stands ∙ ap (λ (l : List ℕ). left ∷ l)
          (hb.stands ∙ ap (λ (l : List ℕ). entered ∷ l)
          (hc.stands ∙ (λ i. k.kind_back i ∷ (hd.stands ∙ (λ j. k.type_back j ∷ (he.stands ∙ (λ l. g l ∷ (hf.stands ∙ (λ n. k.sent_back n ∷ drop f s)) l)) j)) i)));
    })

-- So a row that was found ends six numbers on, within the list.
pub row_inside : (m states types : ℕ) (s : List ℕ) (at : ℕ) (r : Row) (next : ℕ) → listed_row m states types s at ≡ found r next → (next ≡ at + 6) × (next ≤ length s)
row_inside m states types s at r next e = let h = given_found r next (row_said m states types s at) e in (h.ends, h.inside)
