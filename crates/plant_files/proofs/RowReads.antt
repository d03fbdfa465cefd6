-- What was written of a row reads as that row, with every map byte that fits the row.
use mathlib.Core.Path.{◌≡◌, refl, sym, ◌∙◌, ap, subst}
use mathlib.Core.Bool.{Bool, true, false, ◌&&◌, not}
use Rattle.std.specs.Prelude.{Option, None, Some}
use mathlib.Core.List.{List, ◌∷◌, ◌++◌, append_assoc}
use Prim.Native.Nat.{ℕ, ◌≤◌, ◌<◌}
use native.Mathlib.Omega.{arith}
use lib.ListN.{length, drop}
use lib.Dec.{eqb}
use borrow.Author.Tests.{eqb-true, not-true, not-false}
use Rattle.livelock.specs.Plants.{Row, TypeIn, row_with}
use Rattle.livelock.proofs.Tests.{and_iff}
use Rattle.plant.specs.Found.{found}
use Rattle.plant.specs.Reading.{has_bit, is_map, map_byte, state_field, type_field, read_row}
use Rattle.plant.proofs.Bounds.{RowIn}
use Rattle.plant_files.specs.Files.{byte_if, type_bytes, bytes_with, map_with, differs, is_some, shortest_map, row_bytes}
use Rattle.plant_files.proofs.Remainders.{Leaves, leaves, leaves_then, byte_that_leaves, byte_in_leaves}

-- ---- the map byte

-- A test of a Boolean that holds of both.
holds_of_both : (Bool → Bool) → Bool
holds_of_both f = f true && f false

of_each : (f : Bool → Bool) → holds_of_both f ≡ true → (b : Bool) → f b ≡ true
unfolding holds_of_both
of_each f h true = ((and_iff (f true) (f false)).0 h).0
of_each f h false = ((and_iff (f true) (f false)).0 h).1

same : Bool → Bool → Bool
same true b = b
same false b = not b

same_true : (a b : Bool) → same a b ≡ true → a ≡ b
unfolding same
same_true true b h = sym h
same_true false b h = sym (not-true b h)

-- The bits of a map byte are those that it was made of, and no higher bit stands.
pub record Bits (map : ℕ) (a b c d e : Bool) : Type 0 where
  pub left : has_bit map 1 ≡ a
  pub entered : has_bit map 2 ≡ b
  pub sent : has_bit map 4 ≡ c
  pub taken : has_bit map 8 ≡ d
  pub progress : has_bit map 16 ≡ e
  pub is-map : is_map map ≡ true

bits_agree : (left entered sent taken progress : Bool) → Bool
bits_agree a b c d e =
    same (has_bit (map_with a b c d e) 1) a && (same (has_bit (map_with a b c d e) 2) b && (same (has_bit (map_with a b c d e) 4) c
    && (same (has_bit (map_with a b c d e) 8) d && (same (has_bit (map_with a b c d e) 16) e && is_map (map_with a b c d e)))))

-- All 32 map bytes, computed.
all_agree : holds_of_both (λ a. holds_of_both (λ b. holds_of_both (λ c. holds_of_both (λ d. holds_of_both (λ e. bits_agree a b c d e))))) ≡ true
unfolding holds_of_both bits_agree same
all_agree = refl

pub bits : (a b c d e : Bool) → Bits (map_with a b c d e) a b c d e
unfolding bits_agree
bits a b c d e =
    let h1 = of_each (λ a. holds_of_both (λ b. holds_of_both (λ c. holds_of_both (λ d. holds_of_both (λ e. bits_agree a b c d e))))) all_agree a in
    let h2 = of_each (λ b. holds_of_both (λ c. holds_of_both (λ d. holds_of_both (λ e. bits_agree a b c d e)))) h1 b in
    let h3 = of_each (λ c. holds_of_both (λ d. holds_of_both (λ e. bits_agree a b c d e))) h2 c in
    let h4 = of_each (λ d. holds_of_both (λ e. bits_agree a b c d e)) h3 d in
    let f1 = (and_iff (same (has_bit (map_with a b c d e) 1) a) _).0 (of_each (λ e. bits_agree a b c d e) h4 e) in
    let f2 = (and_iff (same (has_bit (map_with a b c d e) 2) b) _).0 f1.1 in
    let f3 = (and_iff (same (has_bit (map_with a b c d e) 4) c) _).0 f2.1 in
    let f4 = (and_iff (same (has_bit (map_with a b c d e) 8) d) _).0 f3.1 in
    let f5 = (and_iff (same (has_bit (map_with a b c d e) 16) e) _).0 f4.1 in
    record {
      left = same_true _ _ f1.0;
      entered = same_true _ _ f2.0;
      sent = same_true _ _ f3.0;
      taken = same_true _ _ f4.0;
      progress = same_true _ _ f5.0;
      is-map = f5.1;
    }

-- The bits of the shortest map byte: a state's bit stands where the state differs from the one that stands for it.
pub shortest_bits : (implied : ℕ) (r : Row)
    → Bits (shortest_map implied r) (differs r.left implied) (differs r.entered r.left) (is_some r.sent) (is_some r.taken) r.progress
shortest_bits implied r = bits (differs r.left implied) (differs r.entered r.left) (is_some r.sent) (is_some r.taken) r.progress

-- A map byte that a row may have where this state is implied: it says whether the row sends, takes and makes progress, and where it lacks
-- the bit of a state, the state that stands for it is the row's.
pub record Fitting (map implied : ℕ) (r : Row) : Type 0 where
  pub is-map : is_map map ≡ true
  pub left : has_bit map 1 ≡ false → implied ≡ r.left
  pub entered : has_bit map 2 ≡ false → r.left ≡ r.entered
  pub sent : has_bit map 4 ≡ is_some r.sent
  pub taken : has_bit map 8 ≡ is_some r.taken
  pub progress : has_bit map 16 ≡ r.progress

-- A state that is not written is the one that stands for it.
left_out : (state absent : ℕ) → differs state absent ≡ false → absent ≡ state
left_out state absent h = sym (eqb-true state absent (not-false (eqb state absent) h))

-- The shortest map byte fits.
pub shortest_fits : (implied : ℕ) (r : Row) → Fitting (shortest_map implied r) implied r
shortest_fits implied r =
    let b = shortest_bits implied r in
    record {
      is-map = b.is-map;
      left = λ h. left_out r.left implied (sym b.left ∙ h);
      entered = λ h. left_out r.entered r.left (sym b.entered ∙ h);
      sent = b.sent;
      taken = b.taken;
      progress = b.progress;
    }

-- ---- fields and rows

map_byte_leaves : (s : List ℕ) (at b : ℕ) (t : List ℕ) → drop at s ≡ b ∷ t → is_map b ≡ true → Leaves s b t (map_byte s at)
unfolding map_byte
map_byte_leaves s at b t e h = byte_that_leaves s at b t e is_map 4 h

module _ (s : List ℕ) (at : ℕ) (t : List ℕ) (l : at ≤ length s) where
  state_field_leaves : (stands : Bool) (absent states x : ℕ) → drop at s ≡ byte_if stands x ++ t → x < states → (stands ≡ false → absent ≡ x)
      → Leaves s x t (state_field stands absent states s at)
  unfolding state_field
  state_field_leaves true absent states x e h a = byte_in_leaves s at x t e 0 states 5 (omega arith) h
  state_field_leaves false absent states x e h a = rw (a refl) (leaves at l e)

  type_field_leaves : (types : ℕ) (o : Option ℕ) → drop at s ≡ type_bytes o ++ t → TypeIn types o → Leaves s o t (type_field (is_some o) types s at)
  unfolding type_field
  type_field_leaves types None e h = leaves at l e
  type_field_leaves types (Some x) e h = leaves_then _ (byte_in_leaves s at x t e 0 types 6 (omega arith) h) (λ next l e. leaves next l e)

pub append_four : (a b c d t : List ℕ) → (a ++ (b ++ (c ++ d))) ++ t ≡ a ++ (b ++ (c ++ (d ++ t)))
append_four a b c d t = append_assoc a (b ++ (c ++ d)) t ∙ ap (λ (l : List ℕ). a ++ l) (append_assoc b (c ++ d) t ∙ ap (λ (l : List ℕ). b ++ l) (append_assoc c d t))

-- A row with a map byte that fits reads as that row.
pub fitting_reads : (m states types implied map : ℕ) (r : Row) → RowIn m states types r → Fitting map implied r
    → (s : List ℕ) (at : ℕ) (t : List ℕ) → drop at s ≡ bytes_with map r ++ t → Leaves s r t (read_row m states types implied s at)
unfolding read_row
fitting_reads m states types implied map r fits f s at t e =
    leaves_then _ (map_byte_leaves s at map ((left ++ (entered ++ (type_bytes r.sent ++ type_bytes r.taken))) ++ t) e f.is-map) λ n1 l1 e1.
    rw (f.sent, f.taken, f.progress)
    (leaves_then _ (state_field_leaves s n1 _ l1 (has_bit map 1) implied states r.left (e1 ∙ append_four left entered (type_bytes r.sent) (type_bytes r.taken) t) fits.left f.left) λ n2 l2 e2.
    leaves_then _ (state_field_leaves s n2 _ l2 (has_bit map 2) r.left states r.entered e2 fits.entered f.entered) λ n3 l3 e3.
    leaves_then _ (type_field_leaves s n3 _ l3 types r.sent e3 fits.sent) λ n4 l4 e4.
    leaves_then _ (type_field_leaves s n4 t l4 types r.taken e4 fits.taken) λ n5 l5 e5.
    subst (λ (k : ℕ). Leaves s r t (found (row_with k r.left r.entered r.sent r.taken r.progress) n5)) fits.machine (leaves n5 l5 e5))
  where
    left : List ℕ
    left = byte_if (has_bit map 1) r.left

    entered : List ℕ
    entered = byte_if (has_bit map 2) r.entered

-- So do the bytes of a row in the shortest file.
pub row_reads : (m states types implied : ℕ) (r : Row) → RowIn m states types r
    → (s : List ℕ) (at : ℕ) (t : List ℕ) → drop at s ≡ row_bytes implied r ++ t → Leaves s r t (read_row m states types implied s at)
unfolding row_bytes
row_reads m states types implied r fits s at t e =
    fitting_reads m states types implied (shortest_map implied r) r fits (shortest_fits implied r) s at t e
