-- Laws of the line of an answer: it has at most 512 bytes, and stands at the front of the list that it was written to.
use mathlib.Core.Path.{◌≡◌, ap, ◌∙◌, sym, subst⁻¹}
use mathlib.Core.List.{List, [], ◌∷◌, ◌++◌}
use Prim.Native.Nat.{ℕ, suc, ◌+◌, ◌*◌, ◌^◌, ◌≤◌, ◌<◌}
use native.Mathlib.Omega.{arith}
use native.Mathlib.Nat.{zero-add}
use lib.ListN.{length, get_or, take, drop, length-append}
use lib.Seq.{take_at, sets-eq}
use Rattle.livelock.specs.Lists.{All}
use Rattle.std.proofs.lemmas.Fmt.{length-decimal-le}
use Rattle.figure_lines.specs.FigureLines.{decimal, figure, figures}
use Rattle.figure_lines.specs.Writing.{Wrote, ShortLine, WroteLine}
use Rattle.figure_lines.proofs.DecimalLaws.{printed, line_length}

-- ---- how many bytes figures have

-- A number below ten to the k has at most k digits.
few_digits : (k n : ℕ) → 0 < k → n < 10 ^ k → n < 2 ^ 64 → length (decimal n) ≤ k
few_digits k n h l fits = omega (arith, ap length (printed n fits), length-decimal-le k n h l fits)

-- A figure has at most 21 bytes, and that of a row at most 6.
pub figure_any : (n : ℕ) → n < 2 ^ 64 → length (figure n) ≤ 21
unfolding decimal figure
figure_any n h = omega (arith, few_digits 20 n (omega arith) (omega arith) h)

pub figure_row : (n : ℕ) → n < 65536 → length (figure n) ≤ 6
unfolding decimal figure
figure_row n h = omega (arith, few_digits 5 n (omega arith) (omega arith) (omega arith))

-- Figures of numbers below a bound, each with at most so many bytes.
figures_short : (bound most : ℕ) → ((n : ℕ) → n < bound → length (figure n) ≤ most) → (ns : List ℕ) → All (λ n. n < bound) ns → length (figures ns) ≤ most * length ns
unfolding figures All
figures_short bound most one [] h = omega arith
figures_short bound most one (n ∷ ns) h = omega (arith, one n h.0, figures_short bound most one ns h.1, length-append (figure n) (figures ns))

-- Six bytes for each row.
rows_below : (rows : List ℕ) → ((k : ℕ) → get_or rows k 0 < 65536) → All (λ n. n < 65536) rows
unfolding All
rows_below [] h = tt
rows_below (n ∷ rows) h = (h 0, rows_below rows (λ k. h (suc k)))

pub rows_short : (rows : List ℕ) → ((k : ℕ) → get_or rows k 0 < 65536) → length (figures rows) ≤ 6 * length rows
rows_short rows h = figures_short 65536 6 figure_row rows (rows_below rows h)

-- A word of at most seven letters and at most four figures, or 64 figures of six bytes, make a line of at most 512 bytes.
pub few_figures : {word ns : List ℕ} → length word ≤ 7 → length ns ≤ 4 → All (λ n. n < 2 ^ 64) ns → ShortLine word ns
few_figures {word} {ns} short few all = record { few = omega (arith, line_length word ns, figures_short (2 ^ 64) 21 figure_any ns all) }

pub few_rows : {word ns : List ℕ} (rows : ℕ) → length word ≤ 7 → rows ≤ 64 → length (figures ns) ≤ 6 * rows → ShortLine word ns
few_rows {word} {ns} rows short few six = record { few = omega (arith, line_length word ns) }

-- ---- the line that is written

-- What is written from the start stands there.
pub read_back : {before after : List ℕ} {next : ℕ} {bytes : List ℕ} → Wrote before after 0 next bytes → next ≤ length before → take next after ≡ bytes
read_back {before} {after} {next} {bytes} w h =
    let n : next ≡ length bytes = w.next_is ∙ zero-add _ in
    let e : after ≡ bytes ++ drop (0 + length bytes) before = w.after_is ∙ sets-eq bytes before 0 (omega arith) in
    ap (take next) e ∙ take_at bytes _ next (sym n)

-- A line under another name.
pub line_wrote : {before after : List ℕ} {end : ℕ} {xs ys : List ℕ} → ys ≡ xs → WroteLine before after end xs → WroteLine before after end ys
line_wrote {before} {after} {end} e w = subst⁻¹ (λ (bytes : List ℕ). WroteLine before after end bytes) e w
