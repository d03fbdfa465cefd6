-- What was read of a row: its map byte fits it, and its bytes are those of the row with that map byte, which the shortest map byte makes
-- fewest.
use mathlib.Core.Path.{◌≡◌, refl, sym, ◌∙◌, ap, subst}
use mathlib.Core.Bool.{Bool, true, false, cond, true≢false}
use Rattle.std.specs.Prelude.{Option, None, Some}
use mathlib.Core.List.{List, ◌∷◌, ◌++◌}
use Prim.Native.Nat.{ℕ, ◌+◌, ◌≤◌}
use native.Mathlib.Numerals.{add-one}
use native.Mathlib.Omega.{arith}
use lib.ListN.{length, get_or, drop, length-append}
use lib.Seq.{drop-cons}
use lib.Dec.{ltb, eqb}
use borrow.Author.Tests.{eq-eqb, ltb-true}
use Rattle.livelock.specs.Lists.{below}
use Rattle.livelock.specs.Plants.{Row, row_with}
use Rattle.livelock.specs.Tests.{every}
use Rattle.livelock.proofs.Tests.{equal_iff, every_below_iff}
use Rattle.livelock.proofs.BitLaws.{bit_same}
use Rattle.plant.specs.Found.{found, fault, and_then}
use Rattle.plant.specs.Reading.{byte_at, byte_that, byte_in, has_bit, is_map, map_byte, state_field, type_field, read_row}
use Rattle.plant.proofs.Bounds.{one_bit}
use Rattle.plant.proofs.Gives.{Gives, value, no_value, gives_then, gives_weaken, gives_cond}
use Rattle.plant_files.specs.Files.{byte_if, type_bytes, bytes_with, map_with, differs, is_some, shortest_map, row_bytes}
use Rattle.plant_files.proofs.RowReads.{Fitting, shortest_bits, append_four}

-- ---- bytes and fields that were read

module _ (s : List ℕ) (at : ℕ) where
  -- The byte at an offset was read; it passes a test, and what is read next stands behind it.
  record ByteRead (passes : ℕ → Bool) (b next : ℕ) : Type 0 where
    ends : next ≡ at + 1
    passed : passes b ≡ true
    bytes : drop at s ≡ b ∷ drop next s
    is : b ≡ get_or s at 0

  byte_that_is : (passes : ℕ → Bool) (number : ℕ) → Gives (ByteRead passes) (byte_that passes number s at)
  unfolding byte_that byte_at
  byte_that_is passes number = go (ltb at (length s)) refl
    where
      go : (t : Bool) → ltb at (length s) ≡ t
          → Gives (ByteRead passes) (and_then (cond t (found (get_or s at 0) (at + 1)) (fault 1 (length s))) (λ b next. cond (passes b) (found b next) (fault number at)))
      go true l =
          gives_cond (passes (get_or s at 0))
          (λ t. value (record { ends = refl; passed = t; bytes = drop-cons s at 0 (ltb-true at (length s) l) ∙ ap (λ (n : ℕ). get_or s at 0 ∷ drop n s) (sym (add-one at)); is = refl }))
          (λ t. no_value)
      go false l = no_value

  pub byte_that_stands : (passes : ℕ → Bool) (number : ℕ) → Gives (λ b next. (next ≡ at + 1) × (drop at s ≡ b ∷ drop next s)) (byte_that passes number s at)
  byte_that_stands passes number = gives_weaken (λ b next h. (h.ends, h.bytes)) (byte_that_is passes number)

  pub byte_in_stands : (low end number : ℕ) → Gives (λ b next. (next ≡ at + 1) × (drop at s ≡ b ∷ drop next s)) (byte_in low end number s at)
  unfolding byte_in
  byte_in_stands low end number = byte_that_stands _ number

  map_byte_is : Gives (ByteRead is_map) (map_byte s at)
  unfolding map_byte
  map_byte_is = byte_that_is is_map 4

  -- A state field: its byte, or the state that stands for it.
  record StateRead (stands : Bool) (absent x next : ℕ) : Type 0 where
    ends : next ≡ at + cond stands 1 0
    bytes : drop at s ≡ byte_if stands x ++ drop next s
    left_out : stands ≡ false → absent ≡ x

  state_field_is : (stands : Bool) (absent states : ℕ) → Gives (StateRead stands absent) (state_field stands absent states s at)
  unfolding state_field
  state_field_is true absent states = gives_weaken (λ x next h. record { ends = h.0; bytes = h.1; left_out = λ t. absurd (true≢false t) }) (byte_in_stands 0 states 5)
  state_field_is false absent states = value {next = at} (record { ends = omega arith; bytes = refl; left_out = λ t. refl })

  -- A type field: its byte, or no type.
  record TypeRead (stands : Bool) (o : Option ℕ) (next : ℕ) : Type 0 where
    ends : next ≡ at + length (type_bytes o)
    bytes : drop at s ≡ type_bytes o ++ drop next s
    is : stands ≡ is_some o

  type_field_is : (stands : Bool) (types : ℕ) → Gives (TypeRead stands) (type_field stands types s at)
  unfolding type_field
  type_field_is true types = gives_then (byte_in_stands 0 types 6) λ b next h. value {a = Some b} (record { ends = h.0; bytes = h.1; is = refl })
  type_field_is false types = value {a = None} {next = at} (record { ends = omega arith; bytes = refl; is = refl })

-- ---- map bytes

-- A map byte is made of its bits.
bits_make : ℕ → Bool
bits_make map = eqb map (map_with (has_bit map 1) (has_bit map 2) (has_bit map 4) (has_bit map 8) (has_bit map 16))

-- All 32, computed.
all_make : every bits_make (below 32) ≡ true
unfolding every below bits_make
all_make = refl

map_of_bits : (map : ℕ) → is_map map ≡ true → map ≡ map_with (has_bit map 1) (has_bit map 2) (has_bit map 4) (has_bit map 8) (has_bit map 16)
unfolding bits_make
map_of_bits map h = (every_below_iff bits_make _ (λ k. equal_iff k _) 32).0 all_make map (ltb-true map 32 h)

-- ---- rows that were read

if_length : (b : Bool) (x : ℕ) → length (byte_if b x) ≡ cond b 1 0
if_length true x = refl
if_length false x = refl

-- How many bytes a row has with a map byte.
with_length : (map : ℕ) (r : Row) → length (bytes_with map r)
    ≡ 1 + (cond (has_bit map 1) 1 0 + (cond (has_bit map 2) 1 0 + (length (type_bytes r.sent) + length (type_bytes r.taken))))
with_length map r =
    omega (
      arith,
      length-append (byte_if (has_bit map 1) r.left) (byte_if (has_bit map 2) r.entered ++ (type_bytes r.sent ++ type_bytes r.taken)),
      length-append (byte_if (has_bit map 2) r.entered) (type_bytes r.sent ++ type_bytes r.taken),
      length-append (type_bytes r.sent) (type_bytes r.taken),
      if_length (has_bit map 1) r.left,
      if_length (has_bit map 2) r.entered,
    )

-- A row that was read up to the offset `next`: its map byte fits it, and its bytes are those of the row with that map byte.
pub record RowRead (s : List ℕ) (m implied at : ℕ) (r : Row) (next : ℕ) : Type 0 where
  pub fits : Fitting (get_or s at 0) implied r
  pub bytes : drop at s ≡ bytes_with (get_or s at 0) r ++ drop next s
  pub ends : next ≡ at + length (bytes_with (get_or s at 0) r)
  pub machine : r.machine ≡ m

pub read_row_is : (s : List ℕ) (m states types implied at : ℕ) → Gives (RowRead s m implied at) (read_row m states types implied s at)
unfolding read_row
read_row_is s m states types implied at =
    gives_then (map_byte_is s at) λ map a ha.
    gives_then (state_field_is s a (has_bit map 1) implied states) λ left b hb.
    gives_then (state_field_is s b (has_bit map 2) left states) λ entered c hc.
    gives_then (type_field_is s c (has_bit map 4) types) λ sent d hd.
    gives_then (type_field_is s d (has_bit map 8) types) λ taken e he.
    value (row map a left b entered c sent d taken e ha hb hc hd he)
  where
    row : (map a left b entered c : ℕ) (sent : Option ℕ) (d : ℕ) (taken : Option ℕ) (e : ℕ)
        → ByteRead s at is_map map a → StateRead s a (has_bit map 1) implied left b → StateRead s b (has_bit map 2) left entered c
        → TypeRead s c (has_bit map 4) sent d → TypeRead s d (has_bit map 8) taken e
        → RowRead s m implied at (row_with m left entered sent taken (has_bit map 16)) e
    row map a left b entered c sent d taken e ha hb hc hd he =
        let all = subst (λ (x : ℕ). RowWith x) ha.is (
          record { is-map = ha.passed; left = hb.left_out; entered = hc.left_out; sent = hd.is; taken = he.is; progress = refl },
          ha.bytes ∙ ap (λ (l : List ℕ). map ∷ l) (fields ∙ sym (append_four (byte_if (has_bit map 1) left) (byte_if (has_bit map 2) entered) (type_bytes sent) (type_bytes taken) (drop e s))),
          omega (arith, with_length map r, ha.ends, hb.ends, hc.ends, hd.ends, he.ends),
        ) in
        record { fits = all.0; bytes = all.1; ends = all.2; machine = refl }
      where
        r : Row
        r = row_with m left entered sent taken (has_bit map 16)

        RowWith : ℕ → Type 0
        RowWith x = Fitting x implied r × (drop at s ≡ bytes_with x r ++ drop e s) × (e ≡ at + length (bytes_with x r))

        fields : drop a s ≡ byte_if (has_bit map 1) left ++ (byte_if (has_bit map 2) entered ++ (type_bytes sent ++ (type_bytes taken ++ drop e s)))
        fields =
            hb.bytes ∙ ap (λ (l : List ℕ). byte_if (has_bit map 1) left ++ l)
            (hc.bytes ∙ ap (λ (l : List ℕ). byte_if (has_bit map 2) entered ++ l) (hd.bytes ∙ ap (λ (l : List ℕ). type_bytes sent ++ l) he.bytes))

-- Where a state's bit is clear, the state is the one that stands for it, and then the shortest map byte leaves it out as well.
no_more : (stands : Bool) (state absent : ℕ) → (stands ≡ false → absent ≡ state) → cond (differs state absent) 1 0 ≤ cond stands 1 0
no_more true state absent h = one_bit (differs state absent)
no_more false state absent h = rw (eq-eqb state absent (sym (h refl))) (omega arith)

module _ (map implied : ℕ) (r : Row) (f : Fitting map implied r) where
  left_no_more : cond (differs r.left implied) 1 0 ≤ cond (has_bit map 1) 1 0
  left_no_more = no_more (has_bit map 1) r.left implied f.left

  entered_no_more : cond (differs r.entered r.left) 1 0 ≤ cond (has_bit map 2) 1 0
  entered_no_more = no_more (has_bit map 2) r.entered r.left f.entered

  shortest-length : length (row_bytes implied r)
      ≡ 1 + (cond (differs r.left implied) 1 0 + (cond (differs r.entered r.left) 1 0 + (length (type_bytes r.sent) + length (type_bytes r.taken))))
  unfolding row_bytes
  shortest-length =
      let b = shortest_bits implied r in
      omega (
        arith,
        with_length (shortest_map implied r) r,
        ap {B = ℕ} (λ (x : Bool). cond x 1 0) b.left,
        ap {B = ℕ} (λ (x : Bool). cond x 1 0) b.entered,
      )

  -- No map byte that fits a row makes it shorter than the shortest one,
  pub shortest-map : length (row_bytes implied r) ≤ length (bytes_with map r)
  shortest-map = omega (arith, with_length map r, shortest-length, left_no_more, entered_no_more)

  -- and one that makes it as short is the shortest one.
  pub same_map : length (bytes_with map r) ≡ length (row_bytes implied r) → map ≡ shortest_map implied r
  same_map e =
      let left : ◌≡◌ {A = ℕ} (cond (has_bit map 1) 1 0) (cond (differs r.left implied) 1 0) = omega (arith, e, with_length map r, shortest-length, left_no_more, entered_no_more) in
      let entered : ◌≡◌ {A = ℕ} (cond (has_bit map 2) 1 0) (cond (differs r.entered r.left) 1 0) = omega (arith, e, with_length map r, shortest-length, left_no_more, entered_no_more) in
      map_of_bits map f.is-map
      ∙ (λ i. map_with (bit_same (has_bit map 1) (differs r.left implied) left i) (bit_same (has_bit map 2) (differs r.entered r.left) entered i) (f.sent i) (f.taken i) (f.progress i))
