-- What the kind of a row says of its types.
use mathlib.Core.Path.{◌≡◌, refl}
use mathlib.Core.Bool.{cond}
use Prim.Native.Nat.{ℕ, zero, suc, ◌≤◌, ◌<◌}
use native.Mathlib.Nat.{not-suc-le-zero}
use native.Mathlib.Omega.{arith}
use lib.Dec.{eqb}
use Rattle.plant_files.specs.Files.{byte_if, type_bytes, is_some}
use Rattle.plant_lists.specs.Lists.{sent_by, taken_by}
use Rattle.plant_lists.specs.Inner.Kinds.{sends, takes}

-- A row sends and takes as its kind says; the type sent is the sixth number where the kind is 3, else the fourth, and the type taken is the fourth.
pub record KindBytes (kind type sent : ℕ) : Type 0 where
  sends_it : is_some (sent_by kind type sent) ≡ sends kind
  takes_it : is_some (taken_by kind type) ≡ takes kind
  sent_byte : type_bytes (sent_by kind type sent) ≡ byte_if (sends kind) (cond (eqb kind 3) sent type)
  taken_byte : type_bytes (taken_by kind type) ≡ byte_if (takes kind) type

pub kind_bytes : (kind type sent : ℕ) → kind < 4 → KindBytes kind type sent
kind_bytes zero type sent h = record { sends_it = refl; takes_it = refl; sent_byte = refl; taken_byte = refl }
kind_bytes (suc zero) type sent h = record { sends_it = refl; takes_it = refl; sent_byte = refl; taken_byte = refl }
kind_bytes (suc (suc zero)) type sent h = record { sends_it = refl; takes_it = refl; sent_byte = refl; taken_byte = refl }
kind_bytes (suc (suc (suc zero))) type sent h = record { sends_it = refl; takes_it = refl; sent_byte = refl; taken_byte = refl }
kind_bytes (suc (suc (suc (suc n)))) type sent h = let z : 1 ≤ 0 = omega (arith, h) in absurd (not-suc-le-zero z)
