-- A file longer than the buffer that it is read into gives the same line as the part that the buffer holds.
use mathlib.Core.Path.{◌≡◌, refl, sym, ap, ◌∙◌, subst}
use mathlib.Core.Bool.{Bool, true, false}
use mathlib.Core.List.{List}
use Prim.Native.Nat.{ℕ, ◌+◌, ◌%◌, ◌≤◌, ◌<◌}
use native.Mathlib.Decide.{dec_le}
use native.Mathlib.Omega.{arith}
use lib.ListN.{length, take, replicate}
use lib.Seq.{take_all, take-take, length-take-le}
use lib.Dec.{eqb}
use Rattle.livelock.specs.Plants.{Plant}
use Rattle.plant.specs.Found.{Found, found, fault, and_then}
use Rattle.plant.specs.Reading.{read_plant}
use Rattle.plant.specs.Limits.{longest_file}
use Rattle.plant.proofs.FileBounds.{within_limits}
use Rattle.plant.proofs.FirstBytes.{first_bytes}
use Rattle.weight_files.specs.WeightFiles.{weights_of}
use Rattle.weight_files.proofs.WeightLaws.{weights-length}
use Rattle.weighing.specs.Answers.{Answer}
use Rattle.weighing.specs.Weighing.{Owed}
use Rattle.answer_line.specs.Files.{checked_bytes, judged_files, Printed, PrintedOf}
use Rattle.answer_line.proofs.OwedLaws.{too_many, any_weights, both_refused, odd_checked, even_checked}

-- No more bytes of a plant file matter than those of the longest file and one more.
pub same_plant : (s : List ℕ) (n : ℕ) → longest_file < n → read_plant (take n s) ≡ read_plant s
same_plant s n h = first_bytes (take n s) ∙ ap read_plant (take-take (longest_file + 1) n s h) ∙ sym (first_bytes s)

-- A weights file of 130 bytes or more has more weights than a plant has types, or an odd length.
long_refused : (weights : List ℕ) (P : Plant) (end : ℕ) → P.types ≤ 64 → 130 ≤ length weights → checked_bytes weights P end ≡ fault 9 0
long_refused weights P end few long = go (eqb (length weights % 2) 1) refl
  where
    go : (b : Bool) → eqb (length weights % 2) 1 ≡ b → checked_bytes weights P end ≡ fault 9 0
    go true e = odd_checked weights P end e
    go false e = even_checked weights P end e ∙ too_many (weights_of weights) P end (omega (arith, weights-length weights))

module _ (weights before after : List ℕ) (a : Answer) (k : ℕ) (room : 130 ≤ k) (long : k ≤ length weights) where
  -- The part of a longer weights file is refused as the whole is.
  part_refused : (x : Found Plant) → ((P : Plant) (end : ℕ) → x ≡ found P end → P.types ≤ 64)
      → Owed (weights_of (take k weights)) before after a (and_then x (checked_bytes (take k weights))) → Owed (weights_of weights) before after a (and_then x (checked_bytes weights))
  part_refused (found P end) few owed =
      both_refused
      (long_refused (take k weights) P end (few P end refl) (omega (arith, length-take-le k weights long)))
      (long_refused weights P end (few P end refl) (omega arith))
      owed
  part_refused (fault number place) few owed = any_weights owed

-- So the line of the two parts is the line of the two files, if the buffers hold more bytes than the longest file has, and 130.
pub same_line : (plant weights line : List ℕ) (n k : ℕ) → longest_file < n → 130 ≤ k → Printed (take n plant) (take k weights) line → Printed plant weights line
same_line plant weights line n k h room p =
    record { answer = p.answer; after = p.after; owed = go (dec_le (length weights) k); line_is = p.line_is }
  where
    part : Owed (weights_of (take k weights)) (replicate 64 0) p.after p.answer (judged_files plant (take k weights))
    part =
        subst
        (λ (x : Found Plant). Owed (weights_of (take k weights)) (replicate 64 0) p.after p.answer (and_then x (checked_bytes (take k weights))))
        (same_plant plant n h)
        p.owed

    go : Dec (length weights ≤ k) → Owed (weights_of weights) (replicate 64 0) p.after p.answer (judged_files plant weights)
    go (yes l) =
        subst (λ (ws : List ℕ). Owed (weights_of ws) (replicate 64 0) p.after p.answer (judged_files plant ws)) (take_all k weights l) part
    go (no l) =
        part_refused weights (replicate 64 0) p.after p.answer k room (omega arith) (read_plant plant) (λ P end e. (within_limits plant P end e).few_types) part

-- The line of what two buffers of so many bytes hold is that of the two files.
pub held_line : (plant weights line : List ℕ) (n m : ℕ) → longest_file < length plant → 130 ≤ length weights → Printed (take n plant) (take m weights) line
    → PrintedOf plant n weights m line
held_line plant weights line n m long long' p plant_file weights_file holds holds' =
    same_line plant_file weights_file line (length plant) (length weights) long long'
    (subst (λ (s : List ℕ). Printed s (take (length weights) weights_file) line) holds
    (subst (λ (s : List ℕ). Printed (take n plant) s line) holds' p))
