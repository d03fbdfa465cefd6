-- Laws of a row that is stored: six stores, one behind the other.
use mathlib.Core.Path.{◌≡◌, refl, sym, ◌∙◌}
use mathlib.Core.Bool.{Bool, true, false}
use mathlib.Core.List.{List}
use Prim.Native.Nat.{ℕ, ◌+◌, ◌*◌, ◌≤◌, ◌<◌}
use native.Mathlib.Nat.{add-zero}
use native.Mathlib.Omega.{arith}
use lib.ListN.{length, get_or, set, length-set}
use lib.Seq.{get_or-set_same, get_or-set_other}
use lib.Dec.{eqb}
use mir.Val.{bool_byte}
use Rattle.plant.specs.Steps.{type_of}
use Rattle.plant_rows.specs.declared.RowFields.{RowFields}
use Rattle.plant_rows.specs.Rows.{fields_row}
use Rattle.tables.specs.Tables.{row_in, RoomFor, Stored}

-- Bytes of different rows are different bytes.
apart : (i k x y : ℕ) → (i ≡ k → ⊥) → x < 8 → y < 8 → 8 * i + x ≡ 8 * k + y → ⊥
apart i k x y n l m e = omega arith

-- A byte that is 1 where a test holds.
bit_is : (b : Bool) → eqb (bool_byte b) 1 ≡ b
bit_is true = refl
bit_is false = refl

module _ (t : List ℕ) (at a b c d e f : ℕ) where
  abbrev t1 : List ℕ
  t1 = set t at a

  abbrev t2 : List ℕ
  t2 = set t1 (at + 1) b

  abbrev t3 : List ℕ
  t3 = set t2 (at + 2) c

  abbrev t4 : List ℕ
  t4 = set t3 (at + 3) d

  abbrev t5 : List ℕ
  t5 = set t4 (at + 4) e

  abbrev pub six : List ℕ
  six = set t5 (at + 5) f

  six_long : length six ≡ length t
  six_long = simp length-set

  -- Every byte but those that are stored is kept,
  kept : (j : ℕ) → ((y : ℕ) → y < 8 → j ≡ at + y → ⊥) → get_or six j 0 ≡ get_or t j 0
  kept j far =
      get_or-set_other t5 (at + 5) j f 0 (far 5 (omega arith))
      ∙ (get_or-set_other t4 (at + 4) j e 0 (far 4 (omega arith))
      ∙ (get_or-set_other t3 (at + 3) j d 0 (far 3 (omega arith))
      ∙ (get_or-set_other t2 (at + 2) j c 0 (far 2 (omega arith))
      ∙ (get_or-set_other t1 (at + 1) j b 0 (far 1 (omega arith)) ∙ get_or-set_other t at j a 0 (λ q. far 0 (omega arith) (q ∙ sym (add-zero at)))))))

  -- and those are what was stored.
  module _ (room : at + 6 ≤ length t) where
    is_0 : get_or six at 0 ≡ a
    is_0 =
        get_or-set_other t5 (at + 5) at f 0 (λ q. omega arith)
        ∙ (get_or-set_other t4 (at + 4) at e 0 (λ q. omega arith)
        ∙ (get_or-set_other t3 (at + 3) at d 0 (λ q. omega arith)
        ∙ (get_or-set_other t2 (at + 2) at c 0 (λ q. omega arith)
        ∙ (get_or-set_other t1 (at + 1) at b 0 (λ q. omega arith) ∙ get_or-set_same t at a 0 (omega arith)))))

    is_1 : get_or six (at + 1) 0 ≡ b
    is_1 =
        get_or-set_other t5 (at + 5) (at + 1) f 0 (λ q. omega arith)
        ∙ (get_or-set_other t4 (at + 4) (at + 1) e 0 (λ q. omega arith)
        ∙ (get_or-set_other t3 (at + 3) (at + 1) d 0 (λ q. omega arith)
        ∙ (get_or-set_other t2 (at + 2) (at + 1) c 0 (λ q. omega arith) ∙ get_or-set_same t1 (at + 1) b 0 (simp length-set (omega arith)))))

    is_2 : get_or six (at + 2) 0 ≡ c
    is_2 =
        get_or-set_other t5 (at + 5) (at + 2) f 0 (λ q. omega arith)
        ∙ (get_or-set_other t4 (at + 4) (at + 2) e 0 (λ q. omega arith)
        ∙ (get_or-set_other t3 (at + 3) (at + 2) d 0 (λ q. omega arith) ∙ get_or-set_same t2 (at + 2) c 0 (simp length-set (omega arith))))

    is_3 : get_or six (at + 3) 0 ≡ d
    is_3 =
        get_or-set_other t5 (at + 5) (at + 3) f 0 (λ q. omega arith)
        ∙ (get_or-set_other t4 (at + 4) (at + 3) e 0 (λ q. omega arith) ∙ get_or-set_same t3 (at + 3) d 0 (simp length-set (omega arith)))

    is_4 : get_or six (at + 4) 0 ≡ e
    is_4 = get_or-set_other t5 (at + 5) (at + 4) f 0 (λ q. omega arith) ∙ get_or-set_same t4 (at + 4) e 0 (simp length-set (omega arith))

    is_5 : get_or six (at + 5) 0 ≡ f
    is_5 = get_or-set_same t5 (at + 5) f 0 (simp length-set (omega arith))

-- Six bytes that are stored at 8 × k are row k, and every other row is kept.
module _ (t : List ℕ) (k m : ℕ) (r : RowFields) (x y p : ℕ)
    (sent : type_of x ≡ r.sent) (taken : type_of y ≡ r.taken) (bit : p ≡ bool_byte r.progress) (room : RoomFor (k + 1) t) where
  abbrev after : List ℕ
  after = six t (8 * k) m r.left r.entered x y p

  within : 8 * k + 6 ≤ length t
  within = omega (arith, room)

  pub six_stored : Stored k (fields_row m r) t after
  unfolding row_in
  six_stored =
      record {
        stored =
            rw (
              is_0 t (8 * k) m r.left r.entered x y p within,
              is_1 t (8 * k) m r.left r.entered x y p within,
              is_2 t (8 * k) m r.left r.entered x y p within,
              is_3 t (8 * k) m r.left r.entered x y p within,
              is_4 t (8 * k) m r.left r.entered x y p within,
              is_5 t (8 * k) m r.left r.entered x y p within,
              sent,
              taken,
              bit,
              bit_is r.progress,
            );
        others =
            λ i n.
            rw (
              kept t (8 * k) m r.left r.entered x y p (8 * i) (λ z l q. apart i k 0 z n (omega arith) l (add-zero (8 * i) ∙ q)),
              kept t (8 * k) m r.left r.entered x y p (8 * i + 1) (λ z. apart i k 1 z n (omega arith)),
              kept t (8 * k) m r.left r.entered x y p (8 * i + 2) (λ z. apart i k 2 z n (omega arith)),
              kept t (8 * k) m r.left r.entered x y p (8 * i + 3) (λ z. apart i k 3 z n (omega arith)),
              kept t (8 * k) m r.left r.entered x y p (8 * i + 4) (λ z. apart i k 4 z n (omega arith)),
              kept t (8 * k) m r.left r.entered x y p (8 * i + 5) (λ z. apart i k 5 z n (omega arith)),
            );
        long = six_long t (8 * k) m r.left r.entered x y p;
      }
