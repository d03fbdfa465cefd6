-- Laws of the rounds from one start: from the walks without edges on, up to the least number of edges with which one closes.
use mathlib.Core.Path.{◌≡◌, sym, ◌∙◌, subst}
use mathlib.Core.Logic.{◌⊎◌, inl, inr}
use mathlib.Core.Bool.{true, false, cond}
use mathlib.Core.List.{List}
use Prim.Native.Nat.{ℕ, suc, ◌+◌, ◌≤◌, ◌<◌}
use native.Mathlib.Nat.{not-suc-le-zero}
use native.Mathlib.Decide.{ℕ_discrete}
use native.Mathlib.Numerals.{add-one}
use native.Mathlib.Omega.{arith}
use Rattle.std.specs.Prelude.{Some, None}
use lib.ListN.{length, length-set, set}
use lib.Seq.{get_or-set_same, get_or-set_other}
use lib.IntN.{ℤ, pos, ◌-ℤ◌}
use lib.Signed.{le_z}
use lib.Dec.{eqb}
use mir.Syntax.{w64}
use Rattle.std.proofs.lemmas.Int.{ints}
use mir.Val.{SFits, to_z, of_z}
use borrow.Author.Tests.{eq-eqb, ne_eqb}
use Rattle.livelock.specs.Lists.{below}
use Rattle.livelock.proofs.ListLaws.{all_below}
use Rattle.livelock.proofs.SumLaws.{greatest_equal}
use Rattle.livelock.specs.Graphs.{Graph, via}
use Rattle.livelock.proofs.Graphs.{Leads, via_leads}
use Rattle.livelock.proofs.Rounds.{via_equal}
use Rattle.closed_walks.specs.ClosedWalks.{origin, heaviest, Closes, entry, FirstEdge, FirstEdges, LeastFrom}
use Rattle.closed_walks.specs.Inner.Rounds.{number, Low, Zeros, Square, Round, Exactly}
use Rattle.closed_walks.proofs.WalkLaws.{Searchable, heaviest_bound}

-- ---- rounds

-- The walks without edges, in a table of zeros.
exactly_none : (g : Graph) (start : ℕ) (walks : List ℕ) → start < length walks → Zeros walks → Exactly g start 0 (set walks start origin)
unfolding heaviest
exactly_none g start walks h zeros s l = go (ℕ_discrete s start)
  where
    go : Dec (s ≡ start) → number (set walks start origin) s ≡ cond (eqb s start) origin 0
    go (yes q) = rw (eq-eqb s start q, q) (get_or-set_same walks start origin 0 h)
    go (no q) = rw (ne_eqb s start q) (get_or-set_other walks start s origin 0 q ∙ zeros s)

module _ {g : Graph} {size k : ℕ} {shorter longer : List ℕ} {before edges : List (List ℕ)} (ok : Searchable g (length shorter)) (start : ℕ) (exact : Exactly g start k shorter)
    (r : Round g size g.size k shorter longer before edges) where
  -- One edge, and on as far as the table says: only its numbers for the states matter.
  along_equal : (s e : ℕ) → e < g.size → via g (number shorter) s e ≡ via g (heaviest g start k) s e
  along_equal s e l = via_equal g (number shorter) (heaviest g start k) s e (λ c. exact (g.dst e) (ok.within e (l, c)).1)

  -- A round leads from the walks of k edges to those of k + 1,
  exactly_suc : (s : ℕ) → s < length shorter → number longer s ≡ heaviest g start (suc k) s
  unfolding heaviest
  exactly_suc s l =
      r.relaxed s l ∙ greatest_equal (via g (number shorter) s) (via g (heaviest g start k) s) (below g.size) (all_below _ g.size (along_equal s))

  -- that is, of one edge more,
  exactly_next : Exactly g start (k + 1) longer
  exactly_next s l = rw (add-one k) (exactly_suc s (omega (arith, l, r.same_length)))

  -- and notes their first edges.
  noted_here : (s : ℕ) → s < length shorter → 0 < heaviest g start (suc k) s → FirstEdge g start k s (entry edges k s)
  noted_here s l m = go (via_leads g (heaviest g start k) s e)
    where
      e : ℕ
      e = entry edges k s

      some : 0 < number longer s
      some = omega (arith, exactly_suc s l)

      e_in : e < g.size
      e_in = r.noted_in s l some

      worth : heaviest g start (suc k) s ≡ via g (heaviest g start k) s e
      worth = sym (exactly_suc s l) ∙ r.attained s l some ∙ along_equal s e e_in

      go : (via g (heaviest g start k) s e ≡ 0) ⊎ Leads g (heaviest g start k) s e (via g (heaviest g start k) s e) → FirstEdge g start k s e
      go (inl z) = absurd (omega (arith, worth))
      go (inr d) = record { there = (e_in, d.counted); leaves = d.from; worth = omega (arith, worth, d.long) }

  -- So those of 1 to k + 1 edges are noted: this round's at places of their own, behind those of the rounds before, which it kept.
  first_edges_next : FirstEdges g (length shorter) start k before → FirstEdges g (length shorter) start (k + 1) edges
  first_edges_next h j s x l m = go (ℕ_discrete j k)
    where
      go : Dec (j ≡ k) → FirstEdge g start j s (entry edges j s)
      go (yes e) = rw e (noted_here s l (rw e at m))
      go (no e) = rw (r.rows_kept j (omega arith)) (h j s (omega arith) l m)

-- After k rounds from `start` the table `shorter` has the walks of exactly k edges, and the first edges of the walks of 1 to k edges are noted.
pub record Searched (g : Graph) (size states start k : ℕ) (shorter longer : List ℕ) (noted : List (List ℕ)) : Type 0 where
  pub room : length shorter ≡ states
  pub next_room : length longer ≡ states
  pub square : Square size noted
  pub exact : Exactly g start k shorter
  pub first_edges : FirstEdges g states start k noted

-- Before the first round.
pub searched_first : (g : Graph) (size states start : ℕ) (walks longer : List ℕ) (noted : List (List ℕ)) → start < states → length walks ≡ states → Zeros walks
    → length longer ≡ states → Square size noted → Searched g size states start 0 (set walks start origin) longer noted
searched_first g size states start walks longer noted h long zeros next_room square =
    record {
      room = length-set walks start origin ∙ long;
      next_room = next_room;
      square = square;
      exact = exactly_none g start walks (omega (arith, h, long)) zeros;
      first_edges = λ j s x l m. absurd (not-suc-le-zero x);
    }

module _ {g : Graph} {size states start k : ℕ} {shorter longer : List ℕ} {noted : List (List ℕ)} (ok : Searchable g states) (h : Searched g size states start k shorter longer noted) where
  -- There is room for one edge more.
  pub searched_low : k ≤ 64 → Low shorter
  searched_low few s l = omega (arith, h.exact s l, heaviest_bound g start ok.light k s)

  -- One round more, after which the tables change places.
  pub searched_next : {after : List ℕ} {edges : List (List ℕ)} → Round g size g.size k shorter after noted edges → Searched g size states start (k + 1) after shorter edges
  searched_next {after} {edges} r =
      let ok-here = subst (Searchable g) (sym h.room) ok in
      record {
        room = r.same_length ∙ h.room;
        next_room = h.room;
        square = r.square;
        exact = exactly_next ok-here start h.exact r;
        first_edges = subst (λ (n : ℕ). FirstEdges g n start (k + 1) edges) h.room (first_edges_next ok-here start h.exact r (subst (λ (n : ℕ). FirstEdges g n start k noted) (sym h.room) h.first_edges));
      }

-- ---- the sign of a walk's weight

-- The code's signed number z is the weight of a walk of the table.
module _ (value : ℕ) (z : ℤ) (fits : SFits w64 z) (is-weight : z ≡ pos value -ℤ pos origin) where
  -- It is zero or more,
  pub weighs_zero_or_more : le_z (pos 0) (to_z w64 (of_z w64 z)) ≡ true → origin ≤ value
  weighs_zero_or_more test = grind (arith, ints)

  -- or below zero.
  pub weighs_below_zero : le_z (pos 0) (to_z w64 (of_z w64 z)) ≡ false → value < origin
  weighs_below_zero test = grind (arith, ints)

-- ---- the least number of edges from one start

-- No number of edges from 1 to k closes.
abbrev pub NoneUpTo : Graph → ℕ → ℕ → Type 0
NoneUpTo g start k = (j : ℕ) → 1 ≤ j → j ≤ k → Closes g start j → ⊥

-- Up to 0 there is none.
pub none_at_first : (g : Graph) (start : ℕ) → NoneUpTo g start 0
none_at_first g start j x y q = omega arith

module _ (g : Graph) (start k : ℕ) (none : NoneUpTo g start k) where
  -- k + 1 edges close,
  pub closes_now : (limit : ℕ) → k < limit → Closes g start (k + 1) → LeastFrom g start limit (Some (k + 1))
  closes_now limit l h = record { some_edge = omega arith; few = omega arith; closes = h; least = λ j x y q. none j x (omega arith) q }

  -- or they do not either,
  pub not_yet : heaviest g start (k + 1) start < origin → NoneUpTo g start (k + 1)
  not_yet h j x y q = go (ℕ_discrete j (k + 1))
    where
      go : Dec (j ≡ k + 1) → ⊥
      go (yes e) = let closes : Closes g start (k + 1) = subst (Closes g start) e q in omega arith
      go (no e) = none j x (omega arith) q

  -- up to the limit.
  pub never : (limit : ℕ) → limit ≤ k → LeastFrom g start limit None
  never limit h = record { some_edge = tt; few = tt; closes = tt; least = λ j x y q. none j x (omega arith) q }
