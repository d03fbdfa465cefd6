-- Different answers are different structs, and the kinds are those of include/hemtaluq.h.
use mathlib.Core.Path.{◌≡◌, refl, ap}
use native.Mathlib.Omega.{arith}
use Rattle.watched_runs.specs.Answers.{Answer, remaining, refused}
use Rattle.panel.specs.declared.WatchAnswer.{WatchAnswer}
use Rattle.panel.specs.Structs.{watch_struct}

-- HEMTALUQ_REFUSED is 0, and HEMTALUQ_REMAINING 9.
kinds : ((watch_struct (refused 27 0)).kind ≡ 0) × ((watch_struct (remaining 30)).kind ≡ 9)
kinds = (refl, refl)

pub watch_one_to_one : (a b : Answer) → watch_struct a ≡ watch_struct b → a ≡ b
watch_one_to_one (remaining n) (remaining n') e = ap remaining (ap (λ (x : WatchAnswer). x.left) e)
watch_one_to_one (remaining n) (refused m p) e = absurd (omega (arith, ap (λ (x : WatchAnswer). x.kind) e))
watch_one_to_one (refused m p) (remaining n) e = absurd (omega (arith, ap (λ (x : WatchAnswer). x.kind) e))
watch_one_to_one (refused m p) (refused m' p') e =
    let q : m ≡ m' = ap (λ (x : WatchAnswer). x.number) e in
    let r : p ≡ p' = ap (λ (x : WatchAnswer). x.place) e in
    cc
