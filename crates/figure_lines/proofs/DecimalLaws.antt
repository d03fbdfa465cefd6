-- Laws of decimal figures.
use mathlib.Core.Path.{◌≡◌, refl, sym, ap, ◌∙◌, subst, subst⁻¹}
use mathlib.Core.List.{List, [], ◌∷◌, ◌++◌, append-nil, append_assoc}
use Prim.Native.Nat.{ℕ, zero, suc, ◌+◌, ◌/◌, ◌%◌, ◌^◌, ◌≤◌, ◌<◌}
use native.Mathlib.Omega.{arith}
use native.Mathlib.Numerals.{add-one}
use native.Mathlib.Nat.{le_refl}
use borrow.Author.Tests.{lt-ltb, le-ltb}
use lib.ListN.{length, get_or, take, length-append}
use lib.Seq.{take-suc, take_all}
use Rattle.std.specs.Fmt as Text
use Rattle.std.proofs.lemmas.Fmt.{decimal_by_steps}
use Rattle.figure_lines.specs.FigureLines.{decimal_within, decimal, figure, figures, line_end, line_with}
use Rattle.figure_lines.specs.Writing.{Wrote}
use Rattle.figure_lines.proofs.WritingLaws.{wrote_then}

-- The digits of n, however many there may be after the first, if they are n or more.
abbrev Within : ℕ → List ℕ → Type 0
Within n ds = (most : ℕ) → n ≤ most → ds ≡ decimal_within most n

-- One digit is its number,
one_digit : (n : ℕ) → n < 10 → Within n ((48 + n) ∷ [])
unfolding decimal_within
one_digit n l zero h = refl
one_digit n l (suc most) h = rw (lt-ltb n 10 l)

-- and a last digit comes after those of a tenth.
last_digit : (n : ℕ) (ds : List ℕ) → 10 ≤ n → Within (n / 10) ds → Within n (ds ++ ((48 + n % 10) ∷ []))
unfolding decimal_within
last_digit n ds l before zero h = absurd (omega arith)
last_digit n ds l before (suc most) h = rw (le-ltb n 10 l) (ap (λ (front : List ℕ). front ++ ((48 + n % 10) ∷ [])) (before most (omega arith)))

-- So a number of 64 bits is printed as its decimal digits.
pub printed : (n : ℕ) → n < 2 ^ 64 → Text.decimal n ≡ decimal n
unfolding decimal
printed n l = decimal_by_steps Within one_digit last_digit n l n (le_refl n)

-- A space and what is printed are a figure.
figure_is : (n : ℕ) (ds : List ℕ) → n < 2 ^ 64 → ds ≡ Text.decimal n → (32 ∷ []) ++ ds ≡ figure n
unfolding figure
figure_is n ds l e = ap (λ (digits : List ℕ). 32 ∷ digits) (e ∙ printed n l)

pub figure_length : (n : ℕ) (ds : List ℕ) → n < 2 ^ 64 → ds ≡ Text.decimal n → 1 + length ds ≡ length (figure n)
figure_length n ds l e = omega (arith, ap length (figure_is n ds l e))

-- Figures and one more.
pub figures_next : (ns : List ℕ) (n : ℕ) → figures (ns ++ (n ∷ [])) ≡ figures ns ++ figure n
unfolding figures
figures_next [] n = append-nil (figure n)
figures_next (m ∷ ns) n = ap (λ (l : List ℕ). figure m ++ l) (figures_next ns n) ∙ sym (append_assoc (figure m) (figures ns) (figure n))

-- The figures of the first numbers and of the one after them.
first_figures : (ns : List ℕ) (i : ℕ) → i < length ns → figures (take (i + 1) ns) ≡ figures (take i ns) ++ figure (get_or ns i 0)
first_figures ns i h = ap figures (ap (λ (k : ℕ). take k ns) (add-one i) ∙ take-suc ns i 0 h) ∙ figures_next (take i ns) (get_or ns i 0)

-- Where all figures have room, so have those of the first numbers and of the one after them.
pub figure_room : (ns : List ℕ) (i : ℕ) → i < length ns → length (figures (take i ns)) + length (figure (get_or ns i 0)) ≤ length (figures ns)
unfolding figures
figure_room [] i h = absurd (omega arith)
figure_room (n ∷ ns) zero h = omega (arith, length-append (figure n) (figures ns))
figure_room (n ∷ ns) (suc i) h =
    omega (arith, figure_room ns i (omega arith), length-append (figure n) (figures ns), length-append (figure n) (figures (take i ns)))

-- The bytes of a line: those of its word, those of its figures, and the line end.
pub line_length : (word ns : List ℕ) → length (line_with word ns) ≡ length word + length (figures ns) + 1
line_length word ns = omega (arith, length-append (word ++ figures ns) line_end, length-append word (figures ns))

-- ---- figures that are written

-- A space and the digits of a number.
pub figure_wrote : {before between after : List ℕ} {at middle next : ℕ} (n : ℕ) (ds : List ℕ) → n < 2 ^ 64 → ds ≡ Text.decimal n
    → Wrote before between at middle (32 ∷ []) → Wrote between after middle next ds → Wrote before after at next (figure n)
figure_wrote {before} {between} {after} {at} {middle} {next} n ds l e w v =
    subst (λ (bytes : List ℕ). Wrote before after at next bytes) (figure_is n ds l e) (wrote_then w v)

-- The figures of the first numbers, and of one number more.
pub figures_more : {before between after : List ℕ} {at middle next : ℕ} (ns : List ℕ) (i : ℕ) → i < length ns
    → Wrote before between at middle (figures (take i ns)) → Wrote between after middle next (figure (get_or ns i 0)) → Wrote before after at next (figures (take (i + 1) ns))
figures_more {before} {between} {after} {at} {middle} {next} ns i h w v = subst⁻¹ (λ (bytes : List ℕ). Wrote before after at next bytes) (first_figures ns i h) (wrote_then w v)

-- The figures of all numbers.
pub figures_all : {before after : List ℕ} {at next : ℕ} (ns : List ℕ) (i : ℕ) → length ns ≤ i → Wrote before after at next (figures (take i ns)) → Wrote before after at next (figures ns)
figures_all {before} {after} {at} {next} ns i h w = subst (λ (ms : List ℕ). Wrote before after at next (figures ms)) (take_all i ns h) w
