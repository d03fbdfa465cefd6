-- Laws of opening: copies, figures and the table, and that the lists hold the run that opening owes.
use mathlib.Core.Path.{◌≡◌, refl, sym, ap, ◌∙◌, subst}
use mathlib.Core.Bool.{false≢true}
use mathlib.Core.List.{List, [], ◌∷◌}
use Prim.Native.Nat.{ℕ, zero, suc, ◌+◌, ◌≤◌, ◌<◌}
use native.Mathlib.Nat.{mul-le-mul}
use native.Mathlib.Decide.{ℕ_discrete, dec_lt}
use native.Mathlib.Omega.{arith}
use denote.Param.Members.{Mut, Called}
use Rattle.std.specs.Array.{IsFromFnResultFrom}
use lib.ListN.{length, get_or, take, get_or-eq_default}
use Rattle.livelock.specs.Lists.{sum}
use Rattle.livelock.specs.Plants.{Plant}
use Rattle.livelock.specs.Runs.{after_all, run}
use Rattle.livelock.specs.Figures.{figures_of}
use Rattle.livelock.specs.Figures as Theory
use Rattle.livelock.proofs.Ceiling.{ceiling}
use Rattle.livelock.proofs.ListLaws.{get_d_replicate_default}
use Rattle.plant.specs.Found.{found}
use Rattle.plant.specs.Reading.{read_plant}
use Rattle.plant.proofs.FileBounds.{longest_file_lem}
use Rattle.decoding.specs.Tables.{plant_of}
use Rattle.decoding.specs.declared.Shape.{Shape}
use Rattle.decoding.proofs.TableLaws.{rows_counted, plant_row_is}
use Rattle.figures.specs.FigureSums.{figures_in}
use Rattle.figures.specs.declared.Figures.{Figures}
use Rattle.figures.proofs.FigureLaws.{most_limit, base_limit, per_progress_limit, per_doubling_limit}
use Rattle.weight_checks.specs.Checks.{judged_weights}
use Rattle.weight_checks.proofs.CheckLaws.{then_found}
use Rattle.contents.specs.Contents.{checked_contents}
use Rattle.contents.proofs.AmountLaws.{contents_good, contents_limit}
use Rattle.quoting.specs.Answers as QuotingAnswers
use Rattle.quoting.specs.Quoting as Quoting
use Rattle.quoting.proofs.CeilingLaws.{Within, judged_within}
use Rattle.quoting.proofs.OwedLaws.{Quotable, quoted_iff}
use Rattle.watched_runs.specs.Answers.{remaining, refused}
use Rattle.watched_runs.specs.WatchedRuns.{stopped, opened_on, unopened, ceiling_from}
use Rattle.watched_runs.specs.Keeping.{Kept, HoldsPlant, HoldsRun, Limited, Inside, no_plant, a_plant, Holds}
use Rattle.watched_runs.specs.Owed.{blank, Opens}
use Rattle.watched_runs.proofs.WholeListLaws.{empty_reads, reads_plant}
use Rattle.watchers.specs.Inner.Openings.{Widened, Passing, FiguresFor, Readable, Tabled, Begun}

-- ---- contents in 64 bits

-- An array of n numbers from index i on that calls made, each of which gives the value of v at its index and leaves the closure as it was.
pub made_at : {F : Type 0} (g : Mut F (ℕ × Unit {0}) ℕ) (v : ℕ → ℕ) (f : F) → ((k y : ℕ) (q : F) → Called g f (k, tt) y q → (y ≡ v k) × (q ≡ f))
    → (ys : List ℕ) (i n : ℕ) → IsFromFnResultFrom g f ys i n → (t : ℕ) → i ≤ t → t < i + n → get_or ys t 0 ≡ v t
made_at g v f step ys i zero h t low high = absurd (omega arith)
made_at g v f step ys i (suc n) (q, y, is, call, rest) t low high =
    go (ℕ_discrete t i) (made_at g v f step ys (i + 1) n (subst (λ p. IsFromFnResultFrom g p ys (i + 1) n) (step i y q call).1 rest) t)
  where
    go : Dec (t ≡ i) → (i + 1 ≤ t → t < i + 1 + n → get_or ys t 0 ≡ v t) → get_or ys t 0 ≡ v t
    go (yes e) more = rw e (is.1 0 ∙ (step i y q call).0)
    go (no e) more = more (omega arith) (omega arith)

-- As many numbers as there are types: those of a list that is no longer, and zeros behind them.
pub widened_by : (xs wide : List ℕ) → length xs ≤ 64 → length wide ≡ 64 → ((t : ℕ) → t < 64 → get_or wide t 0 ≡ get_or xs t 0) → Widened xs wide (length xs)
widened_by xs wide few long each = record { front = λ t l. each t (omega arith); behind = λ t l. go t l (dec_lt t 64) }
  where
    go : (t : ℕ) → length xs ≤ t → Dec (t < 64) → get_or wide t 0 ≡ 0
    go t l (yes h) = each t h ∙ get_or-eq_default xs 0 l
    go t l (no n) = get_or-eq_default wide 0 {n = t} (omega arith)

-- The two lists say the same of every type.
wide_is : (xs wide : List ℕ) → Widened xs wide (length xs) → (t : ℕ) → get_or wide t 0 ≡ get_or xs t 0
wide_is xs wide h t = go (dec_lt t (length xs))
  where
    go : Dec (t < length xs) → get_or wide t 0 ≡ get_or xs t 0
    go (yes l) = h.front t l
    go (no l) = let k : length xs ≤ t = omega arith in h.behind t k ∙ sym (get_or-eq_default xs 0 {n = t} k)

-- ---- the table

-- What was decoded is the plant that the file reads as.
pub tabled : (file : List ℕ) (shape : Shape) (s : Kept) (end : ℕ) → found (plant_of shape s.table) end ≡ read_plant file
    → get_or s.sizes 1 0 ≡ shape.rows → get_or s.sizes 2 0 ≡ shape.types → (P : Plant) (next : ℕ) → read_plant file ≡ found P next → Tabled s P
tabled file shape s end reads rows types P next e =
    let q = reads ∙ e in
    let same : plant_of shape s.table ≡ P = cc in
    subst (Tabled s) same
    (record {
      rows = rows ∙ sym (rows_counted shape s.table);
      each_row = λ k l. sym (plant_row_is shape s.table k (omega (arith, rows_counted shape s.table)));
      types = types;
    })

-- ---- a refused opening

-- Zeros hold the run of a watcher that did not open.
pub blank_holds : Holds blank unopened
blank_holds = record { few = omega arith; copy = refl; inside = subst (Inside blank unopened) (sym empty_reads) (no_plant refl refl) }

pub opens_refused : (file ws contents : List ℕ) (number place : ℕ) (s : Kept) → s ≡ blank
    → Quoting.Owed ws contents 0 0 (QuotingAnswers.refused number place) (Quoting.judged file ws contents 0 0) → Opens file ws contents (refused number place) s
opens_refused file ws contents number place s e owed =
    record {
      quote = QuotingAnswers.refused number place;
      owed = owed;
      answer = refl;
      held = subst (λ (x : Kept). Holds x unopened) (sym e) blank_holds;
      cleared = λ n p q. e;
    }

-- ---- an opening that is not refused

module _ (file ws contents : List ℕ) (figure class : ℕ)
    (owed : Quoting.Owed ws contents 0 0 (QuotingAnswers.quoted figure class) (Quoting.judged file ws contents 0 0)) where
  -- The weights pass in the plant that the file reads as,
  quotable : Quotable ws (Quoting.judged file ws contents 0 0)
  quotable = (quoted_iff file ws contents 0 0 (QuotingAnswers.quoted figure class) owed).0 (figure, class, refl)

  abbrev P : Plant
  P = quotable.0

  within : Within ws contents 0 0 P
  within = judged_within file ws contents 0 0 P quotable.1 quotable.2

  reading : (next : ℕ) × (read_plant file ≡ found P next)
  reading = reads_plant file ws contents 0 0 P quotable.1 quotable.2

  -- and the figure is the ceiling.
  figure_is : figure ≡ Quoting.ceiling_for P ws contents 0 0
  figure_is = at_plant (subst (Quoting.Owed ws contents 0 0 (QuotingAnswers.quoted figure class)) quotable.2 owed)
    where
      at_plant : Quoting.Owed ws contents 0 0 (QuotingAnswers.quoted figure class) (found P quotable.1) → figure ≡ Quoting.ceiling_for P ws contents 0 0
      at_plant (Quoting.for_plant passing failing) = let e = (passing quotable.3).quote in cc

  checked : (end : ℕ) × (judged_weights file ws ≡ found P end) × (length contents ≡ P.types)
  checked =
      let x = then_found (judged_weights file ws) (checked_contents contents (0 ∷ 0 ∷ [])) P quotable.1 quotable.2 in
      let a = contents_good contents (0 ∷ 0 ∷ []) x.0 P x.1 quotable.1 x.3 in
      (x.1, subst (λ (Q : Plant). judged_weights file ws ≡ found Q x.1) a.same x.2, a.one_each ∙ ap (λ (Q : Plant). Q.types) a.same)

  -- What the figures and the lists ask for.
  pub passing : Passing file ws
  passing = (P, checked.0, checked.1, quotable.3)

  pub lengths : (length file ≤ 8192) × (length contents ≤ 64) × Readable file
  lengths = (omega (arith, longest_file_lem file P reading.0 reading.1), omega (arith, checked.2, within.limits.few_types), (P, reading.0, reading.1))

  -- No ceiling that can come is above the largest.
  largest : ceiling_from P ws (stopped contents) 1000000 1000000 ≤ Quoting.largest_ceiling
  largest =
      let light : (t : ℕ) → t < P.types → get_or ws t 0 ≤ 1000 = λ t l. within.light t in
      let most : 1000000 ≤ 1000000 = omega arith in
      omega (
        arith,
        base_limit P within.limits ws light,
        mul-le-mul (most_limit P within.limits) (contents_limit ws contents P.types within.limits.few_types within.light within.small),
        mul-le-mul (per_progress_limit P within.limits ws light) most,
        mul-le-mul (per_doubling_limit P within.limits ws light) most,
      )

  module _ (f : Figures) (figures : FiguresFor file ws f) (s : Kept) (b : Begun file contents figure f s) where
    same_figures : figures_in f ≡ figures_of P ws
    same_figures = figures P checked.0 checked.1 quotable.3

    opened_plant : HoldsPlant s ws P
    opened_plant =
        let t = b.tabled P reading.0 reading.1 in
        record {
          rows = t.rows;
          each_row = t.each_row;
          types = t.types;
          per_progress = b.per_progress ∙ ap (λ (x : Theory.Figures). x.per_progress) same_figures;
          per_doubling = b.per_doubling ∙ ap (λ (x : Theory.Figures). x.per_doubling) same_figures;
        }

    opened_run : HoldsRun s (opened_on file ws contents) P
    unfolding after_all run sum
    opened_run =
        record {
          now =
              λ i.
              record {
                state = λ m. (ap (λ (l : List ℕ). get_or l m 0) b.states ∙ get_d_replicate_default 16 0 m) i;
                content = λ t. wide_is contents s.contents b.wide t i;
              };
          left = omega (arith, b.counts.left_is, figure_is);
          progress = b.counts.progress_is;
          doublings = b.counts.doublings_is;
        }

    opened_limits : Limited (opened_on file ws contents) P
    unfolding run sum
    opened_limits =
        record {
          bounded = ceiling P within.limits.formed ws quotable.3;
          small = within.small;
          few_progress = omega arith;
          few_doublings = omega arith;
          fits = largest;
        }

    pub opens_quoted : Opens file ws contents (remaining figure) s
    opens_quoted =
        record {
          quote = QuotingAnswers.quoted figure class;
          owed = owed;
          answer = refl;
          held =
              record {
                few = omega (arith, b.length_is, lengths.0);
                copy = ap (λ (n : ℕ). take n s.copy) b.length_is ∙ b.copy;
                inside = subst (Inside s (opened_on file ws contents)) (sym reading.1) (a_plant opened_plant opened_run opened_limits);
              };
          cleared = λ n p q. absurd (false≢true cc);
        }
