-- The answers of the C interface: each answer of a call as a struct. Fields that an answer does not use are 0.
use Rattle.std.specs.Prelude.{◌≡◌, List, ℕ, take, pos}
use Rattle.livelock.specs.Plants.{Plant}
use Rattle.plant.specs.Found.{Found}
use Rattle.reading.specs.Answers as Reading
use Rattle.weighing.specs.Answers as WeighingAnswers
use Rattle.weighing.specs.Weighing as Weighing
use Rattle.quoting.specs.Answers as QuotingAnswers
use Rattle.quoting.specs.Quoting as Quoting
use Rattle.listing.specs.Answers as ListingAnswers
use Rattle.listing.specs.Listing.{ListsCycles}
use Rattle.cycle_sets.specs.Answers as ConfirmingAnswers
use Rattle.writing.specs.Answers as WritingAnswers
use Rattle.writing.specs.Writing.{SaysShortest}
use Rattle.answer_structs.specs.declared.ReadAnswer.{ReadAnswer}
use Rattle.answer_structs.specs.declared.WeighAnswer.{WeighAnswer}
use Rattle.answer_structs.specs.declared.QuoteAnswer.{QuoteAnswer}
use Rattle.answer_structs.specs.declared.ListAnswer.{ListAnswer}
use Rattle.answer_structs.specs.declared.ConfirmAnswer.{ConfirmAnswer}
use Rattle.answer_structs.specs.declared.WriteAnswer.{WriteAnswer}

-- "the counts of machines, types and rows": kind 1; a refusal is kind 0.
abbrev pub read_struct : Reading.Answer → ReadAnswer
read_struct (Reading.counts machines types rows) = record { kind = 1; number = 0; place = 0; machines = machines; types = types; rows = rows }
read_struct (Reading.refused number place) = record { kind = 0; number = number; place = place; machines = 0; types = 0; rows = 0 }

-- "Passing hands back F, n and G", and "also … n × w" (document 02, L6): kind 2; a cycle shown, with the count of its rows: kind 3.
abbrev pub weigh_struct : WeighingAnswers.Answer → WeighAnswer
weigh_struct (WeighingAnswers.passed f) =
    record {
      kind = 2;
      number = 0;
      place = 0;
      base = f.base;
      most_states = f.most_states;
      per_progress = f.per_progress;
      per_doubling = f.per_doubling;
      rows = 0;
    }
weigh_struct (WeighingAnswers.cycle rows) =
    record { kind = 3; number = 0; place = 0; base = 0; most_states = 0; per_progress = 0; per_doubling = 0; rows = rows }
weigh_struct (WeighingAnswers.refused number place) =
    record { kind = 0; number = number; place = place; base = 0; most_states = 0; per_progress = 0; per_doubling = 0; rows = 0 }

-- The ceiling and its price class: kind 4.
abbrev pub quote_struct : QuotingAnswers.Answer → QuoteAnswer
quote_struct (QuotingAnswers.quoted ceiling class) = record { kind = 4; number = 0; place = 0; ceiling = ceiling; price_class = class }
quote_struct (QuotingAnswers.refused number place) = record { kind = 0; number = number; place = place; ceiling = 0; price_class = 0 }

-- "the entries used": kind 5.
abbrev pub list_struct : ListingAnswers.Answer → ListAnswer
list_struct (ListingAnswers.entries used) = record { kind = 5; number = 0; place = 0; entries = used }
list_struct (ListingAnswers.refused number place) = record { kind = 0; number = number; place = place; entries = 0 }

-- "confirmed": kind 6; "the lowest type with a negative sum, and that signed sum": kind 7.
abbrev pub confirm_struct : ConfirmingAnswers.Answer → ConfirmAnswer
confirm_struct ConfirmingAnswers.confirmed = record { kind = 6; number = 0; place = 0; message_type = 0; sum = pos 0 }
confirm_struct (ConfirmingAnswers.negative message sum) = record { kind = 7; number = 0; place = 0; message_type = message; sum = sum }
confirm_struct (ConfirmingAnswers.refused number place) = record { kind = 0; number = number; place = place; message_type = 0; sum = pos 0 }

-- "Its length is handed back": kind 8.
abbrev pub write_struct : WritingAnswers.Answer → WriteAnswer
write_struct (WritingAnswers.wrote length) = record { kind = 8; number = 0; place = 0; length = length }
write_struct (WritingAnswers.refused number place) = record { kind = 0; number = number; place = place; length = 0 }

-- The struct is that of an answer that `weigh` owes.
pub record WeighedAs (ws before after : List ℕ) (r : WeighAnswer) (x : Found Plant) : Type 0 where
  pub answer : WeighingAnswers.Answer
  pub struct : r ≡ weigh_struct answer
  pub owed : Weighing.Owed ws before after answer x

-- The struct is that of an answer that `quote` owes.
pub record QuotedAs (ws contents : List ℕ) (g d : ℕ) (r : QuoteAnswer) (x : Found Plant) : Type 0 where
  pub answer : QuotingAnswers.Answer
  pub struct : r ≡ quote_struct answer
  pub owed : Quoting.Owed ws contents g d answer x

-- Where the struct hands back entries, the front of the lent list is every simple cycle of the machine, once.
abbrev pub Lists : List ℕ → ℕ → ListAnswer → List ℕ → Type 0
Lists file machine r after = r.kind ≡ 5 → ListsCycles file machine r.entries after

-- Where the struct hands back a length, the front of the lent buffer is a shortest file of the plant that the list says.
abbrev pub Writes : List ℕ → WriteAnswer → List ℕ → Type 0
Writes numbers r after = r.kind ≡ 8 → SaysShortest numbers (take r.length after)
