-- Different answers are different structs, and the kinds are those of include/hemtaluq.h.
use mathlib.Core.Path.{◌≡◌, refl, ap}
use native.Mathlib.Omega.{arith}
use lib.IntN.{negsuc}
use Rattle.reading.specs.Answers as Reading
use Rattle.weighing.specs.Answers as Weighing
use Rattle.quoting.specs.Answers as Quoting
use Rattle.listing.specs.Answers as Listing
use Rattle.cycle_sets.specs.Answers as Confirming
use Rattle.writing.specs.Answers as Writing
use Rattle.answer_structs.specs.declared.ReadAnswer.{ReadAnswer}
use Rattle.answer_structs.specs.declared.WeighAnswer.{WeighAnswer}
use Rattle.answer_structs.specs.declared.QuoteAnswer.{QuoteAnswer}
use Rattle.answer_structs.specs.declared.ListAnswer.{ListAnswer}
use Rattle.answer_structs.specs.declared.ConfirmAnswer.{ConfirmAnswer}
use Rattle.answer_structs.specs.declared.WriteAnswer.{WriteAnswer}
use Rattle.answer_structs.specs.Structs.{read_struct, weigh_struct, quote_struct, list_struct, confirm_struct, write_struct}

-- ---- the numbers of the header

-- HEMTALUQ_REFUSED is 0, of each call.
refused_0 : ((read_struct (Reading.refused 8 4)).kind ≡ 0) × ((weigh_struct (Weighing.refused 8 4)).kind ≡ 0) × ((quote_struct (Quoting.refused 8 4)).kind ≡ 0)
    × ((list_struct (Listing.refused 8 4)).kind ≡ 0) × ((confirm_struct (Confirming.refused 8 4)).kind ≡ 0) × ((write_struct (Writing.refused 24 5)).kind ≡ 0)
refused_0 = (refl, refl, refl, refl, refl, refl)

-- HEMTALUQ_COUNTS 1, HEMTALUQ_PASSED 2, HEMTALUQ_CYCLE 3, HEMTALUQ_CEILING 4, HEMTALUQ_LISTED 5, HEMTALUQ_CONFIRMED 6, HEMTALUQ_NEGATIVE 7,
-- HEMTALUQ_WROTE 8.
kinds : ((read_struct (Reading.counts 2 2 4)).kind ≡ 1)
    × ((weigh_struct (Weighing.passed (record { base = 10; most_states = 2; per_progress = 9; per_doubling = 4 }))).kind ≡ 2) × ((weigh_struct (Weighing.cycle 2)).kind ≡ 3)
    × ((quote_struct (Quoting.quoted 39 6)).kind ≡ 4) × ((list_struct (Listing.entries 3)).kind ≡ 5)
    × ((confirm_struct Confirming.confirmed).kind ≡ 6) × ((confirm_struct (Confirming.negative 1 (negsuc 0))).kind ≡ 7)
    × ((write_struct (Writing.wrote 20)).kind ≡ 8)
kinds = (refl, refl, refl, refl, refl, refl, refl, refl)

-- ---- one struct for each answer

pub read_one_to_one : (a b : Reading.Answer) → read_struct a ≡ read_struct b → a ≡ b
read_one_to_one (Reading.counts m t r) (Reading.counts m' t' r') e =
    let p : m ≡ m' = ap (λ (x : ReadAnswer). x.machines) e in
    let q : t ≡ t' = ap (λ (x : ReadAnswer). x.types) e in
    let s : r ≡ r' = ap (λ (x : ReadAnswer). x.rows) e in
    cc
read_one_to_one (Reading.counts m t r) (Reading.refused n p) e = absurd (omega (arith, ap (λ (x : ReadAnswer). x.kind) e))
read_one_to_one (Reading.refused n p) (Reading.counts m t r) e = absurd (omega (arith, ap (λ (x : ReadAnswer). x.kind) e))
read_one_to_one (Reading.refused n p) (Reading.refused n' p') e =
    let q : n ≡ n' = ap (λ (x : ReadAnswer). x.number) e in
    let r : p ≡ p' = ap (λ (x : ReadAnswer). x.place) e in
    cc

pub weigh_one_to_one : (a b : Weighing.Answer) → weigh_struct a ≡ weigh_struct b → a ≡ b
weigh_one_to_one (Weighing.passed f) (Weighing.passed g) e =
    λ i. Weighing.passed (record { base = (e i).base; most_states = (e i).most_states; per_progress = (e i).per_progress; per_doubling = (e i).per_doubling })
weigh_one_to_one (Weighing.passed f) (Weighing.cycle k) e = absurd (omega (arith, ap (λ (x : WeighAnswer). x.kind) e))
weigh_one_to_one (Weighing.passed f) (Weighing.refused m p) e = absurd (omega (arith, ap (λ (x : WeighAnswer). x.kind) e))
weigh_one_to_one (Weighing.cycle k) (Weighing.passed f) e = absurd (omega (arith, ap (λ (x : WeighAnswer). x.kind) e))
weigh_one_to_one (Weighing.cycle k) (Weighing.cycle k') e = ap Weighing.cycle (ap (λ (x : WeighAnswer). x.rows) e)
weigh_one_to_one (Weighing.cycle k) (Weighing.refused m p) e = absurd (omega (arith, ap (λ (x : WeighAnswer). x.kind) e))
weigh_one_to_one (Weighing.refused m p) (Weighing.passed f) e = absurd (omega (arith, ap (λ (x : WeighAnswer). x.kind) e))
weigh_one_to_one (Weighing.refused m p) (Weighing.cycle k) e = absurd (omega (arith, ap (λ (x : WeighAnswer). x.kind) e))
weigh_one_to_one (Weighing.refused m p) (Weighing.refused m' p') e =
    let q : m ≡ m' = ap (λ (x : WeighAnswer). x.number) e in
    let r : p ≡ p' = ap (λ (x : WeighAnswer). x.place) e in
    cc

pub quote_one_to_one : (a b : Quoting.Answer) → quote_struct a ≡ quote_struct b → a ≡ b
quote_one_to_one (Quoting.quoted c k) (Quoting.quoted c' k') e =
    let p : c ≡ c' = ap (λ (x : QuoteAnswer). x.ceiling) e in
    let q : k ≡ k' = ap (λ (x : QuoteAnswer). x.price_class) e in
    cc
quote_one_to_one (Quoting.quoted c k) (Quoting.refused n p) e = absurd (omega (arith, ap (λ (x : QuoteAnswer). x.kind) e))
quote_one_to_one (Quoting.refused n p) (Quoting.quoted c k) e = absurd (omega (arith, ap (λ (x : QuoteAnswer). x.kind) e))
quote_one_to_one (Quoting.refused n p) (Quoting.refused n' p') e =
    let q : n ≡ n' = ap (λ (x : QuoteAnswer). x.number) e in
    let r : p ≡ p' = ap (λ (x : QuoteAnswer). x.place) e in
    cc

pub list_one_to_one : (a b : Listing.Answer) → list_struct a ≡ list_struct b → a ≡ b
list_one_to_one (Listing.entries k) (Listing.entries k') e = ap Listing.entries (ap (λ (x : ListAnswer). x.entries) e)
list_one_to_one (Listing.entries k) (Listing.refused n p) e = absurd (omega (arith, ap (λ (x : ListAnswer). x.kind) e))
list_one_to_one (Listing.refused n p) (Listing.entries k) e = absurd (omega (arith, ap (λ (x : ListAnswer). x.kind) e))
list_one_to_one (Listing.refused n p) (Listing.refused n' p') e =
    let q : n ≡ n' = ap (λ (x : ListAnswer). x.number) e in
    let r : p ≡ p' = ap (λ (x : ListAnswer). x.place) e in
    cc

pub confirm_one_to_one : (a b : Confirming.Answer) → confirm_struct a ≡ confirm_struct b → a ≡ b
confirm_one_to_one Confirming.confirmed Confirming.confirmed e = refl
confirm_one_to_one Confirming.confirmed (Confirming.negative t z) e = absurd (omega (arith, ap (λ (x : ConfirmAnswer). x.kind) e))
confirm_one_to_one Confirming.confirmed (Confirming.refused n p) e = absurd (omega (arith, ap (λ (x : ConfirmAnswer). x.kind) e))
confirm_one_to_one (Confirming.negative t z) Confirming.confirmed e = absurd (omega (arith, ap (λ (x : ConfirmAnswer). x.kind) e))
confirm_one_to_one (Confirming.negative t z) (Confirming.negative t' z') e =
    let p : t ≡ t' = ap (λ (x : ConfirmAnswer). x.message_type) e in
    let q : z ≡ z' = ap (λ (x : ConfirmAnswer). x.sum) e in
    cc
confirm_one_to_one (Confirming.negative t z) (Confirming.refused n p) e = absurd (omega (arith, ap (λ (x : ConfirmAnswer). x.kind) e))
confirm_one_to_one (Confirming.refused n p) Confirming.confirmed e = absurd (omega (arith, ap (λ (x : ConfirmAnswer). x.kind) e))
confirm_one_to_one (Confirming.refused n p) (Confirming.negative t z) e = absurd (omega (arith, ap (λ (x : ConfirmAnswer). x.kind) e))
confirm_one_to_one (Confirming.refused n p) (Confirming.refused n' p') e =
    let q : n ≡ n' = ap (λ (x : ConfirmAnswer). x.number) e in
    let r : p ≡ p' = ap (λ (x : ConfirmAnswer). x.place) e in
    cc

pub write_one_to_one : (a b : Writing.Answer) → write_struct a ≡ write_struct b → a ≡ b
write_one_to_one (Writing.wrote k) (Writing.wrote k') e = ap Writing.wrote (ap (λ (x : WriteAnswer). x.length) e)
write_one_to_one (Writing.wrote k) (Writing.refused n p) e = absurd (omega (arith, ap (λ (x : WriteAnswer). x.kind) e))
write_one_to_one (Writing.refused n p) (Writing.wrote k) e = absurd (omega (arith, ap (λ (x : WriteAnswer). x.kind) e))
write_one_to_one (Writing.refused n p) (Writing.refused n' p') e =
    let q : n ≡ n' = ap (λ (x : WriteAnswer). x.number) e in
    let r : p ≡ p' = ap (λ (x : WriteAnswer). x.place) e in
    cc
