-- Laws of marks as bits, and of the states found backward from the start.
use mathlib.Core.Path.{◌≡◌, refl, sym, ap, ap₂, ◌∙◌}
use mathlib.Core.List.{List}
use Prim.Native.Nat.{ℕ, zero, suc, ◌-◌, ◌*◌, ◌/◌, ◌%◌, ◌^◌, ◌<◌, min, max}
use native.Mathlib.Nat.{zero-lt-suc, mod-lt, not-suc-le-zero, div-eq_of_lt}
use native.Mathlib.Decide.{ℕ_discrete}
use native.Mathlib.Omega.{arith}
use lib.ListN.{get_or, get_or-replicate}
use lib.Arith.{digits_mod}
use lib.Bits.{bit_and, bit_or, bit_xor, differ, and_step, xor_step, and_shr, xor_shr, shifted_half, shifted_even}
use lib.Pow.{pow_pos, pow_mono}
use Rattle.livelock.proofs.ListLaws.{get_d_replicate_default}
use Rattle.livelock.proofs.BitLaws.{or_bit}
use Rattle.state_marks.specs.Marks.{column, marks_of, BelowOnly, OthersKept, Closed}
use Rattle.state_marks.proofs.MarkLaws.{mark_bit, none_left}

-- The mark of a state, from the bits.
abbrev pub mark : ℕ → ℕ → ℕ
mark bits x = get_or (marks_of 24 bits) x 0

-- ---- one bit

-- A bit is 0 or 1.
bit_lt : (n : ℕ) → n % 2 < 2
bit_lt n = mod-lt n (zero-lt-suc 1)

-- Where two bits differ,
differ_lt : (u v : ℕ) → u < 2 → v < 2 → differ u v < 2
differ_lt zero v a b = b
differ_lt (suc u) zero a b = a
differ_lt (suc u) (suc v) a b = differ_lt u v (omega arith) (omega arith)

-- with 0 it is the bit,
pub differ_zero : (u : ℕ) → differ u 0 ≡ u
differ_zero zero = refl
differ_zero (suc u) = refl

-- and with 1 the other.
differ_one : (u : ℕ) → u < 2 → differ u 1 ≡ 1 - u
differ_one zero l = refl
differ_one (suc zero) l = refl
differ_one (suc (suc u)) l = absurd (omega arith)

and_lowest : (a b : ℕ) → bit_and a b % 2 ≡ min (a % 2) (b % 2)
and_lowest a b = ap (λ (x : ℕ). x % 2) (and_step a b) ∙ digits_mod (bit_and (a / 2) (b / 2)) (omega (arith, bit_lt a, bit_lt b))

xor_lowest : (a b : ℕ) → bit_xor a b % 2 ≡ differ (a % 2) (b % 2)
xor_lowest a b = ap (λ (x : ℕ). x % 2) (xor_step a b) ∙ digits_mod (bit_xor (a / 2) (b / 2)) (differ_lt (a % 2) (b % 2) (bit_lt a) (bit_lt b))

-- ---- marks

module _ (x : ℕ) (l : x < 24) where
  -- A mark is 0 or 1,
  pub mark_lt : (a : ℕ) → mark a x < 2
  mark_lt a = omega (arith, mark_bit 24 a x l, bit_lt (a / 2 ^ x))

  -- the marks of an intersection,
  pub mark_and : (a b : ℕ) → mark (bit_and a b) x ≡ min (mark a x) (mark b x)
  mark_and a b =
      mark_bit 24 (bit_and a b) x l
      ∙ ap (λ (z : ℕ). z % 2) (and_shr a b x)
      ∙ and_lowest (a / 2 ^ x) (b / 2 ^ x)
      ∙ ap₂ min (sym (mark_bit 24 a x l)) (sym (mark_bit 24 b x l))

  -- of a union,
  pub mark_or : (a b : ℕ) → mark (bit_or a b) x ≡ max (mark a x) (mark b x)
  mark_or a b =
      mark_bit 24 (bit_or a b) x l
      ∙ or_bit a b x
      ∙ ap₂ max (sym (mark_bit 24 a x l)) (sym (mark_bit 24 b x l))

  -- and of a difference,
  pub mark_xor : (a b : ℕ) → mark (bit_xor a b) x ≡ differ (mark a x) (mark b x)
  mark_xor a b =
      mark_bit 24 (bit_xor a b) x l
      ∙ ap (λ (z : ℕ). z % 2) (xor_shr a b x)
      ∙ xor_lowest (a / 2 ^ x) (b / 2 ^ x)
      ∙ ap₂ differ (sym (mark_bit 24 a x l)) (sym (mark_bit 24 b x l))

  -- where all states are marked,
  all_marked : mark 16777215 x ≡ 1
  unfolding marks_of
  all_marked = get_or-replicate 24 x 1 0 l

  -- and the states not marked.
  pub mark_not : (a : ℕ) → mark (bit_xor a 16777215) x ≡ 1 - mark a x
  mark_not a = mark_xor a 16777215 ∙ ap (differ (mark a x)) all_marked ∙ differ_one (mark a x) (mark_lt a)

-- No state is marked where no bit stands.
pub none_marked : (x : ℕ) → x < 24 → mark 0 x ≡ 0
unfolding marks_of
none_marked x l = get_or-replicate 24 x 0 0 l

-- ---- backward from the start

-- `live` has the free states with a row to `start`, and those with a row to a state that it has, if that is not in `todo`.
pub record Growing (into : List ℕ) (start free live todo : ℕ) : Type 0 where
  pub from_start : (x : ℕ) → x < 24 → mark (column into start) x ≡ 1 → mark free x ≡ 1 → mark live x ≡ 1
  pub from_done : (x y : ℕ) → x < 24 → y < 24 → mark live y ≡ 1 → mark todo y ≡ 0 → mark (column into y) x ≡ 1 → mark free x ≡ 1 → mark live x ≡ 1

module _ (into : List ℕ) (start free : ℕ) where
  -- At first it has those with a row to `start`, and all are to do.
  pub growing_begins : Growing into start free (bit_and (column into start) free) (bit_and (column into start) free)
  growing_begins =
      record {
        from_start = λ x l i f. omega (arith, mark_and x l (column into start) free);
        from_done = λ x y l m a b i f. absurd (omega arith);
      }

  -- The free states with a row to one state more are put in, and that state is done.
  module _ (live todo s turned : ℕ) (g : Growing into start free live todo) (t : OthersKept s (marks_of 24 todo) (marks_of 24 turned)) where
    abbrev more : ℕ
    more = bit_and (column into s) (bit_xor free live)

    put_in : (x : ℕ) → x < 24 → mark (column into s) x ≡ 1 → mark free x ≡ 1 → mark (bit_or live more) x ≡ 1
    put_in x l i f = go (ℕ_discrete (mark live x) 0)
      where
        go : Dec (mark live x ≡ 0) → mark (bit_or live more) x ≡ 1
        go (yes e) =
            let d : mark (bit_xor free live) x ≡ 1 = mark_xor x l free live ∙ ap₂ differ f e in
            omega (arith, mark_or x l live more, mark_and x l (column into s) (bit_xor free live), e, i, d)
        go (no n) = omega (arith, mark_or x l live more, mark_lt x l live, mark_lt x l more)

    pub growing_step : Growing into start free (bit_or live more) (bit_or turned more)
    growing_step =
        record {
          from_start = λ x l i f. omega (arith, mark_or x l live more, g.from_start x l i f, mark_lt x l more);
          from_done = λ x y l m a b i f. go x y l m a b i f (ℕ_discrete y s);
        }
      where
        go : (x y : ℕ) → x < 24 → y < 24 → mark (bit_or live more) y ≡ 1 → mark (bit_or turned more) y ≡ 0 → mark (column into y) x ≡ 1 → mark free x ≡ 1 → Dec (y ≡ s)
            → mark (bit_or live more) x ≡ 1
        go x y l m a b i f (yes e) = put_in x l (ap (λ (z : ℕ). mark (column into z) x) (sym e) ∙ i) f
        go x y l m a b i f (no n) =
            let u : mark live y ≡ 1 = omega (arith, a, b, mark_or y m live more, mark_or y m turned more) in
            let v : mark todo y ≡ 0 = omega (arith, b, mark_or y m turned more, t.same y m n) in
            omega (arith, mark_or x l live more, g.from_done x y l m u v i f, mark_lt x l more)

  -- Nothing is left to do: the other states are marked.
  pub growing_ends : (marks live todo : ℕ) → free ≡ bit_xor marks 16777215 → Growing into start free live todo → todo ≡ 0
      → Closed into start (marks_of 24 marks) (marks_of 24 (bit_or marks (bit_xor live 16777215)))
  growing_ends marks live todo is g none =
      record {
        kept = λ x l e. omega (arith, e, mark_or x l marks (bit_xor live 16777215));
        to_start = λ x a l i e. spared x l e (g.from_start x l i (free_of x l e));
        onward = λ x y a l m i o e. spared x l e (g.from_done x y l m (alive y m o) (ap (λ (z : ℕ). mark z y) none ∙ none_marked y m) i (free_of x l e));
      }
    where
      free_of : (x : ℕ) → x < 24 → mark marks x ≡ 0 → mark free x ≡ 1
      free_of x l e = ap (λ (z : ℕ). mark z x) is ∙ omega (arith, mark_not x l marks, e)

      alive : (y : ℕ) → y < 24 → mark (bit_or marks (bit_xor live 16777215)) y ≡ 0 → mark live y ≡ 1
      alive y m o = omega (arith, o, mark_or y m marks (bit_xor live 16777215), mark_not y m live, mark_lt y m live)

      spared : (x : ℕ) → x < 24 → mark marks x ≡ 0 → mark live x ≡ 1 → mark (bit_or marks (bit_xor live 16777215)) x ≡ 0
      spared x l e v = omega (arith, e, v, mark_or x l marks (bit_xor live 16777215), mark_not x l live)

-- ---- single bits

-- Where bit s alone stands, no other state is marked.
other_mark : (n s x : ℕ) → x < n → (x ≡ s → ⊥) → get_or (marks_of n (1 * 2 ^ s)) x 0 ≡ 0
unfolding marks_of
other_mark zero s x l h = absurd (not-suc-le-zero l)
other_mark (suc n) zero zero l h = absurd (h refl)
other_mark (suc n) (suc s) zero l h = shifted_even 1 s
other_mark (suc n) zero (suc x) l h = ap (λ (z : List ℕ). get_or z x 0) (none_left n) ∙ get_d_replicate_default {A = ℕ} n 0 x
other_mark (suc n) (suc s) (suc x) l h = ap (λ (z : ℕ). get_or (marks_of n z) x 0) (shifted_half 1 s) ∙ other_mark n s x (omega arith) (λ e. h (ap suc e))

-- So where it is turned, the other marks are kept.
pub turned_kept : (bits s one : ℕ) → one ≡ 1 * 2 ^ s → OthersKept s (marks_of 24 bits) (marks_of 24 (bit_xor bits one))
turned_kept bits s one e =
    record {
      same = λ x l h. mark_xor x l bits one ∙ ap (differ (mark bits x)) (ap (λ (z : ℕ). mark z x) e ∙ other_mark 24 s x l h) ∙ differ_zero (mark bits x);
    }

-- One less than bit s has no bit from s on.
pub below_only : (s one : ℕ) → one ≡ 1 * 2 ^ s → BelowOnly s (marks_of 24 (one - 1))
below_only s one e =
    record {
      above = λ x h l.
          mark_bit 24 (one - 1) x l ∙ ap (λ (z : ℕ). z % 2) (div-eq_of_lt {n = one - 1} {m = 2 ^ x} (omega (arith, e, pow_mono h, pow_pos s)));
    }
