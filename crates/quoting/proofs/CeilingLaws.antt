-- Laws of the ceiling: what it means, how large it can be, the input for which it is the largest, and which quotes are the former ones.
use mathlib.Core.Path.{◌≡◌, refl, ap, subst}
use mathlib.Core.List.{List, [], ◌∷◌}
use Prim.Native.Nat.{ℕ, zero, suc, ◌*◌, ◌≤◌, ◌<◌}
use native.Mathlib.Nat.{mul-le-mul, mul-le-mul_left, not-suc-le-zero}
use native.Mathlib.Omega.{arith}
use lib.ListN.{get_or, replicate}
use Rattle.livelock.specs.Lists.{below, sum, greatest}
use Rattle.livelock.specs.Plants.{Plant}
use Rattle.livelock.specs.Runs.{Configuration}
use Rattle.livelock.specs.Weights.{weight, Passes}
use Rattle.livelock.specs.Figures.{most_states, per_progress, per_doubling, contents_weight, Bounded}
use Rattle.livelock.specs.Cycles.{RowOf}
use Rattle.livelock.proofs.ListLaws.{all_below, all_at}
use Rattle.livelock.proofs.SumLaws.{sum_equal}
use Rattle.plant.specs.Found.{found, and_then}
use Rattle.plant.specs.Limits.{WithinLimits}
use Rattle.plant.specs.Reading.{byte_at, byte_that, byte_in, read_rows, rows_byte, read_machine, read_machines, read_plant}
use Rattle.weight_checks.specs.Checks.{first_above, checked_sizes, checked_weights, judged_weights}
use Rattle.figures.proofs.FigureLaws.{most_limit, base_limit, per_progress_limit, per_doubling_limit}
use Rattle.weight_checks.proofs.CheckLaws.{none_above, then_found, judged_weights_lem}
use Rattle.price_classes.specs.Classes.{edges, class_of}
use Rattle.contents.specs.Contents.{content, checked_amounts, checked_contents, AllAtMost}
use Rattle.contents.proofs.AmountLaws.{contents_good, contents_limit}
use Rattle.contents.proofs.ZeroLast.{zero_last}
use Rattle.quoting.specs.Quoting.{judged, ceiling_for, OpensWith, IsCeiling, largest_ceiling, OldQuotes}

-- ---- what a ceiling means

-- Contents that agree below the type count weigh the same.
same_weight : (P : Plant) (ws contents : List ℕ) (c : Configuration) → OpensWith P contents c → contents_weight P ws c.content ≡ contents_weight P ws (content contents)
same_weight P ws contents c opens =
    sum_equal (λ t. weight ws t * c.content t) (λ t. weight ws t * content contents t) (below P.types) (all_below _ P.types (λ t l. ap (λ (x : ℕ). weight ws t * x) (opens t l)))

-- The bound of demand 3 gives the ceiling: with the same W, and no less for more progress rows and more doublings.
pub bound_for : (P : Plant) (ws contents : List ℕ) (g d : ℕ) → Bounded P ws → IsCeiling P contents g d (ceiling_for P ws contents g d)
bound_for P ws contents g d bounded c events opens few few_doublings =
    omega (
      arith,
      bounded c events,
      ap (λ (x : ℕ). most_states P * x) (same_weight P ws contents c opens),
      mul-le-mul_left (per_progress P ws) few,
      mul-le-mul_left (per_doubling P ws) few_doublings,
    )

-- ---- the largest ceiling

-- What the file, the weights, the contents, g and d are within.
pub record Within (ws contents : List ℕ) (g d : ℕ) (P : Plant) : Type 0 where
  pub limits : WithinLimits P
  pub light : AllAtMost 1000 ws
  pub small : AllAtMost 1000000 contents
  pub few_progress : g ≤ 1000000
  pub few_doublings : d ≤ 1000000

-- Input that is judged to be a plant is within the limits.
pub judged_within : (file ws contents : List ℕ) (g d : ℕ) (P : Plant) (end : ℕ) → judged file ws contents g d ≡ found P end → Within ws contents g d P
judged_within file ws contents g d P end e =
    let x = then_found (judged_weights file ws) (checked_contents contents (g ∷ d ∷ [])) P end e in
    let w = judged_weights_lem file ws x.0 x.1 x.2 in
    let a = contents_good contents (g ∷ d ∷ []) x.0 P x.1 end x.3 in
    record {
      limits = subst WithinLimits a.same w.0;
      light = none_above 1000 ws w.1.light;
      small = a.small;
      few_progress = a.small_last 0;
      few_doublings = a.small_last 1;
    }

-- So F is at most 64,513,008, n × W at most 64 × 64,000,000,000, G × g at most 4,096,063 × 1,000,000 and n × w × d at most 64,000 × 1,000,000.
pub ceiling_limit : (file ws contents : List ℕ) (g d : ℕ) (P : Plant) (end : ℕ) → judged file ws contents g d ≡ found P end → ceiling_for P ws contents g d ≤ largest_ceiling
ceiling_limit file ws contents g d P end e =
    let w = judged_within file ws contents g d P end e in
    let light : (t : ℕ) → t < P.types → get_or ws t 0 ≤ 1000 = λ t l. w.light t in
    omega (
      arith,
      base_limit P w.limits ws light,
      mul-le-mul (most_limit P w.limits) (contents_limit ws contents P.types w.limits.few_types w.light w.small),
      mul-le-mul (per_progress_limit P w.limits ws light) w.few_progress,
      mul-le-mul (per_doubling_limit P w.limits ws light) w.few_doublings,
    )

-- ---- where it is attained

-- The bytes 40 00, n times: machines of 64 states without rows.
unfoldable pub bare_machines : ℕ → List ℕ
bare_machines zero = []
bare_machines (suc n) = 0x40 ∷ 0x00 ∷ bare_machines n

-- The file with 16 such machines and 64 types, weights of 1,000, contents of 1,000,000 and the plant that is read.
abbrev pub largest_file : List ℕ
largest_file = 0x10 ∷ 0x40 ∷ bare_machines 16

abbrev pub largest_weights : List ℕ
largest_weights = replicate 64 1000

abbrev pub largest_contents : List ℕ
largest_contents = replicate 64 1000000

abbrev pub largest_plant : Plant
largest_plant = record { types = 64; states = replicate 16 64; rows = [] }

-- With g and d 1,000,000 this input is good and its weights pass, and the ceiling is the largest, of class 43.
pub record LargestAttained : Type 0 where
  pub good : judged largest_file largest_weights largest_contents 1000000 1000000 ≡ found largest_plant 34
  pub passes : Passes largest_plant largest_weights
  pub ceiling : ceiling_for largest_plant largest_weights largest_contents 1000000 1000000 ≡ largest_ceiling
  pub class : class_of largest_ceiling ≡ 43

-- All of this holds.
pub largest_attained : LargestAttained
unfolding bare_machines below sum greatest byte_at byte_that byte_in read_rows rows_byte read_machine read_machines read_plant first_above checked_sizes checked_weights checked_amounts checked_contents edges class_of
largest_attained =
    record {
      good = refl;
      -- A cycle has a first row, and the plant has none.
      passes = λ m c s q. absurd (not-suc-le-zero (all_at (RowOf largest_plant m) 0 c s.of_machine 0 s.non_empty).0);
      ceiling = refl;
      class = refl;
    }

-- ---- quotes of before

-- All of this holds: a d of 0 is above no limit, and n × w × 0 adds nothing.
pub old_quotes : OldQuotes
old_quotes =
    record {
      same_input = λ file ws contents g. ap (and_then (judged_weights file ws)) (λ i P end. zero_last contents (g ∷ []) P end i);
      same_ceiling = λ P ws contents g. omega arith;
    }
