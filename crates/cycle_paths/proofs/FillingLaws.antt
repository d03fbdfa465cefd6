-- Laws of storing and counting entries, one part after the other.
use mathlib.Core.Path.{◌≡◌, refl, sym, ap, ◌∙◌}
use mathlib.Core.List.{List, [], ◌++◌}
use Prim.Native.Nat.{ℕ, ◌+◌, ◌≤◌}
use native.Mathlib.Omega.{arith}
use lib.ListN.{length, length-append}
use lib.Seq.{sets}
use Rattle.std.specs.Prelude.{Option, Some, None}
use Rattle.livelock.proofs.StoreLaws.{sets_append}
use Rattle.cycle_entries.specs.Entries.{Added}
use Rattle.cycle_entries.proofs.RoomLaws.{within, above, some_within, none_above}

-- On the way from `before` at `pos`, with `all` to be added, to `out` at `used`: with `rest` added there, it is as if all were added.
pub record Adding (before : List ℕ) (pos : ℕ) (all : List ℕ) (used : ℕ) (out : List ℕ) (rest : List ℕ) : Type 0 where
  pub in_room : used ≤ length before
  pub same_length : length out ≡ length before
  pub counts : used + length rest ≡ pos + length all
  pub stores : sets out used rest ≡ sets before pos all

module _ {before : List ℕ} {pos : ℕ} {all : List ℕ} where
  -- At first all is left.
  pub adding_begins : pos ≤ length before → Adding before pos all pos before all
  adding_begins h = record { in_room = h; same_length = refl; counts = refl; stores = refl }

  module _ {used : ℕ} {out rest : List ℕ} (g : Adding before pos all used out rest) where
    -- The first part of the rest is added,
    pub adding_part : (part later : List ℕ) → rest ≡ part ++ later → {used' : ℕ} {out' : List ℕ} → length out' ≡ length out
        → Added (length out) out used part (Some used') out' → Adding before pos all used' out' later
    adding_part part later e {used'} {out'} l f =
        let n : length rest ≡ length part + length later = ap length e ∙ length-append part later in
        let u = some_within f.counted in
        record {
          in_room = omega (arith, u.0, u.1, g.same_length);
          same_length = l ∙ g.same_length;
          counts = omega (arith, u.0, g.counts);
          stores =
              ap (λ (z : List ℕ). sets z used' later) (f.stored u.1)
              ∙ ap (λ (z : ℕ). sets (sets out used part) z later) u.0
              ∙ sym (sets_append part later out used)
              ∙ ap (sets out used) (sym e)
              ∙ g.stores;
        }

    -- or there is no room for it: whatever is left, there is none for all.
    pub adding_stops : (part later : List ℕ) → rest ≡ part ++ later → {out' : List ℕ} (end : List ℕ)
        → Added (length out) out used part None out' → Added (length before) before pos all None end
    adding_stops part later e end f =
        let n : length rest ≡ length part + length later = ap length e ∙ length-append part later in
        let above_room = none_above f.counted in
        record { counted = above (omega (arith, g.counts, g.same_length)); stored = λ h. absurd (omega (arith, g.counts, g.same_length)) }

    -- The rest is the same, under another name.
    pub adding_none : (later : List ℕ) → rest ≡ later → Adding before pos all used out later
    adding_none later e = rw (← e) g

    -- Nothing is left: all is added.
    pub adding_ends : rest ≡ [] → Added (length before) before pos all (Some used) out
    adding_ends e =
        let n : length rest ≡ 0 = ap length e in
        record { counted = within (omega (arith, g.counts)) (omega (arith, g.counts, g.in_room)); stored = λ h. ap (sets out used) (sym e) ∙ g.stores }

  -- What is kept under other names is the same.
  pub adding_named : {used : ℕ} {out rest : List ℕ} (used' : ℕ) (out' : List ℕ) → used' ≡ used → out' ≡ out → Adding before pos all used out rest
      → Adding before pos all used' out' rest
  adding_named used' out' u o g = rw (u, o) g

-- The list after it under another name.
pub added_named : {limit pos : ℕ} {before entries after after' : List ℕ} {used : Option ℕ} → after' ≡ after → Added limit before pos entries used after → Added limit before pos entries used after'
added_named e f = rw e f
