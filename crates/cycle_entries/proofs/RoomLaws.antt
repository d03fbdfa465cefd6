-- Laws of a number up to a limit: it is there where it is not above the limit, and nothing is where it is.
use mathlib.Core.Path.{◌≡◌, refl, ap}
use mathlib.Core.Bool.{Bool, true, false, cond}
use Prim.Native.Nat.{ℕ, ◌≤◌, ◌<◌}
use lib.Dec.{leb}
use borrow.Author.Tests.{leb-true, leb-false, le-leb, lt-leb}
use Rattle.std.specs.Prelude.{Option, Some, None}
use Rattle.cycle_entries.specs.Entries.{up_to}

-- At most the limit.
pub within : {limit n u : ℕ} → u ≡ n → n ≤ limit → Some u ≡ up_to limit n
unfolding up_to
within {limit} {n} e h = rw (le-leb n limit h) (ap Some e)

-- Above it.
pub above : {limit n : ℕ} → limit < n → None ≡ up_to limit n
unfolding up_to
above {limit} {n} h = rw (lt-leb n limit h)

-- What is there is the number, and not above the limit.
pub some_within : {limit n u : ℕ} → Some u ≡ up_to limit n → (u ≡ n) × (n ≤ limit)
unfolding up_to
some_within {limit} {n} {u} e = go (leb n limit) refl e
  where
    go : (b : Bool) → leb n limit ≡ b → Some u ≡ cond b (Some n) None → (u ≡ n) × (n ≤ limit)
    go true t e = (cc, leb-true n limit t)
    go false t e = (cc, cc)

-- Where nothing is there, it is above.
pub none_above : {limit n : ℕ} → None ≡ up_to limit n → limit < n
unfolding up_to
none_above {limit} {n} e = go (leb n limit) refl e
  where
    nothing : Option ℕ
    nothing = None

    go : (b : Bool) → leb n limit ≡ b → nothing ≡ cond b (Some n) None → limit < n
    go true t e = cc
    go false t e = leb-false n limit t
