-- Laws of deciding: relaxation in place with the lengths 1 + n × weight, and what it says of the weights.
use mathlib.Core.Path.{◌≡◌, refl, sym, ap, ◌∙◌, subst}
use Rattle.std.specs.Prelude.{Option, Some, None, IsSome, IsNone}
use Rattle.std.specs.Option.{unwrap_or}
use Rattle.std.proofs.lemmas.Option.{none-some, same_Some}
use Rattle.edge_lists.specs.declared.Edge.{Edge}
use mathlib.Core.Logic.{◌⊎◌, inl, inr}
use mathlib.Core.Bool.{true, false}
use mathlib.Core.List.{List}
use Prim.Native.Nat.{ℕ, ◌+◌, ◌-◌, ◌*◌, ◌≤◌, ◌<◌, max}
use native.Mathlib.Nat.{le_refl, not-suc-le-zero, mul-le-mul}
use native.Mathlib.Decide.{ℕ_discrete, dec_lt}
use native.Mathlib.Numerals.{add-one}
use native.Mathlib.Omega.{arith}
use borrow.Author.Tests.{ltb-true, ltb-false}
use lib.Dec.{ltb}
use lib.ListN.{length, get_or, set, length-set}
use lib.Seq.{get_or-set_same, get_or-set_other}
use lib.IntN.{ℤ, pos, ◌+ℤ◌, ◌*ℤ◌}
use Rattle.livelock.specs.Lists.{sum}
use Rattle.livelock.specs.Graphs.{lengthened, Graph, IsEdge, WalkLength}
use Rattle.livelock.proofs.Lengths.{cycle_lengthened, cycle_of_lengthened, lengthened_iff}
use Rattle.livelock.proofs.Graphs.{Within, PositiveCycle, longest}
use Rattle.livelock.proofs.Potentials.{Potential, no_positive_cycle}
use Rattle.livelock.proofs.Rounds.{walk_without_edges, edge_in_front, longer_positive, pass_longest}
use Rattle.edge_lists.specs.EdgeLists.{edge_in, EdgesIn}
use Rattle.edge_lists.specs.Signs.{rise, fall}
use Rattle.deciding.specs.Rounds.{edge_graph, AtMost, WalkLengths, Pass, AllBelowZero, SomeZeroOrMore}
use Rattle.deciding.proofs.SignLaws.{rise_fall, rise_at_most, fall_at_most, difference_same, difference_length}

-- Every edge of the list leads from one of the states to one of them.
pub edges_within : (states : ℕ) (edges : List Edge) → EdgesIn states edges → Within (edge_graph edges) states
edges_within states edges ok e u = (ok.from_in e u.0, ok.to_in e u.0)

-- ---- the length of an edge

module _ (n : ℕ) (z : ℤ) where
  abbrev long : ℤ
  long = pos 1 +ℤ pos n *ℤ z

  -- Both numbers of a length are small.
  pub length_low : n ≤ 64 → rise z ≤ 65535 → fall z ≤ 65535 → (rise (pos 1 +ℤ pos n *ℤ z) ≤ 4194304) × (fall (pos 1 +ℤ pos n *ℤ z) ≤ 4194304)
  length_low most up down = (
    omega (arith, rise_at_most long (1 + n * rise z) (n * fall z) (difference_length 1 n z), mul-le-mul most up),
    omega (arith, fall_at_most long (1 + n * rise z) (n * fall z) (difference_length 1 n z), mul-le-mul most down),
  )

  -- The number of the code, as the graph has it: 1 + n × rise less n × fall.
  length_same : rise long + n * fall z ≡ 1 + n * rise z + fall long
  length_same = difference_same long (rise long) (fall long) (1 + n * rise z) (n * fall z) (rise_fall long) (difference_length 1 n z)

-- ---- one pass

-- With no edge relaxed yet.
pub pass_starts : (g : Graph) (before : List ℕ) → Pass g 0 before before None
pass_starts g before =
    record {
      same_length = refl;
      never_lower = λ s. le_refl _;
      along = λ e l. absurd (not-suc-le-zero l);
      attained = λ w. w;
      rises = λ most h s. omega (arith, h s);
      last_in = λ e q. absurd (none-some e q);
      kept = λ e. refl;
      raised = λ q. absurd (cc);
    }

-- What holds of v at a, and of each entry, holds of each entry after v is stored at a.
after_store : (table : List ℕ) (a v : ℕ) → a < length table → (F : ℕ → ℕ → Type 0) → F a v → ((s : ℕ) → F s (get_or table s 0)) → (s : ℕ) → F s (get_or (set table a v) s 0)
after_store table a v room F here each s = go (ℕ_discrete s a)
  where
    go : Dec (s ≡ a) → F s (get_or (set table a v) s 0)
    go (yes q) = subst (λ (x : ℕ). F x (get_or (set table a v) x 0)) (sym q) (subst (F a) (sym (get_or-set_same table a v 0 room)) here)
    go (no q) = subst (F s) (sym (get_or-set_other table a s v 0 q)) (each s)

-- Edge i, after the edges before it. No height falls, so what held along the edges before still holds;
-- and the height that edge i asks for is reached, since that of its end is no lower than before the pass.
module _ (g : Graph) (i : ℕ) (before now : List ℕ) (last : Option ℕ) (so_far : Pass g i before now last) where
  along_next : (after : List ℕ) → ((s : ℕ) → get_or now s 0 ≤ get_or after s 0) → g.plus i + get_or now (g.dst i) 0 ≤ get_or after (g.src i) 0 + g.minus i
      → (e : ℕ) → e < i + 1 → g.plus e + get_or before (g.dst e) 0 ≤ get_or after (g.src e) 0 + g.minus e
  along_next after grown here e l = go (ℕ_discrete e i)
    where
      go : Dec (e ≡ i) → g.plus e + get_or before (g.dst e) 0 ≤ get_or after (g.src e) 0 + g.minus e
      go (yes q) = rw q (omega (arith, so_far.never_lower (g.dst i)))
      go (no q) = omega (arith, so_far.along e (omega arith), grown (g.src e))

  -- It is not above the height of the state that it leaves: nothing changes.
  pass_keeps : g.plus i + get_or now (g.dst i) 0 ≤ get_or now (g.src i) 0 + g.minus i → Pass g (i + 1) before now last
  pass_keeps here =
      record {
        same_length = so_far.same_length;
        never_lower = so_far.never_lower;
        along = along_next now (λ s. le_refl _) here;
        attained = so_far.attained;
        rises = λ most h s. omega (arith, so_far.rises most h s);
        last_in = λ e q. omega (arith, so_far.last_in e q);
        kept = so_far.kept;
        raised = so_far.raised;
      }

  -- It is: that height becomes v.
  module _ (there : IsEdge g i) (room : g.src i < length now) (small : g.plus i ≤ 4194304)
      (v : ℕ) (is : v + g.minus i ≡ g.plus i + get_or now (g.dst i) 0) (more : get_or now (g.src i) 0 < v) where
    abbrev after : List ℕ
    after = set now (g.src i) v

    each_after : (F : ℕ → ℕ → Type 0) → F (g.src i) v → ((s : ℕ) → F s (get_or now s 0)) → (s : ℕ) → F s (get_or after s 0)
    each_after = after_store now (g.src i) v room

    here_is : get_or after (g.src i) 0 ≡ v
    here_is = get_or-set_same now (g.src i) v 0 room

    grown : (s : ℕ) → get_or now s 0 ≤ get_or after s 0
    grown = each_after (λ s x. get_or now s 0 ≤ x) (omega arith) (λ s. le_refl _)

    pass_raises : Pass g (i + 1) before (set now (g.src i) v) (Some i)
    pass_raises =
        record {
          same_length = length-set now (g.src i) v ∙ so_far.same_length;
          never_lower = λ s. omega (arith, so_far.never_lower s, grown s);
          along = along_next after grown (omega (arith, here_is));
          attained = λ w. each_after (WalkLength g) (edge_in_front g i _ v there is (so_far.attained w (g.dst i))) (so_far.attained w);
          rises =
              λ most h.
              each_after (λ s x. x ≤ most + (i + 1) * 4194304) (omega (arith, so_far.rises most h (g.dst i))) (λ s. omega (arith, so_far.rises most h s));
          last_in = λ e q. omega (arith, same_Some i e q);
          kept = λ q. absurd (cc);
          raised = λ q. (g.src i, omega (arith, so_far.never_lower (g.src i), here_is));
        }

-- The same for an edge list, with the length 1 + n × weight.
module _ (n : ℕ) (edges : List Edge) (most : n ≤ 64) (i : ℕ) (there : i < length edges)
    (before now : List ℕ) {states : ℕ} (ok : EdgesIn states edges) (room : states ≤ length before) (last : Option ℕ) (so_far : Pass (lengthened n (edge_graph edges)) i before now last) where
  abbrev g : Graph
  g = lengthened n (edge_graph edges)

  abbrev z : ℤ
  z = (edge_in edges i).weight

  -- A pass over 256 edges raises no height by more than 2 ^ 30.
  pub pass_low : AtMost 68719476736 before → AtMost 2199023255552 now
  pass_low low s = omega (arith, so_far.rises 68719476736 low s, ok.few)

  -- The length along edge i and on from its end.
  abbrev along : ℕ
  along = (rise (pos 1 +ℤ pos n *ℤ (edge_in edges i).weight) + get_or now (edge_in edges i).to 0) - fall (pos 1 +ℤ pos n *ℤ (edge_in edges i).weight)

  -- Where it is not above the height of the state that the edge leaves, nothing changes,
  pub edge_keeps : ltb (get_or now (edge_in edges i).from 0) along ≡ false → Pass (lengthened n (edge_graph edges)) (i + 1) before now last
  edge_keeps l = pass_keeps g i before now last so_far (omega (arith, ltb-false (get_or now (edge_in edges i).from 0) along l, length_same n z))

  -- and where it is, that height becomes the length.
  pub edge_raises : ltb (get_or now (edge_in edges i).from 0) along ≡ true → (v : ℕ) → v ≡ max (get_or now (edge_in edges i).from 0) along
      → Pass (lengthened n (edge_graph edges)) (i + 1) before (set now (edge_in edges i).from v) (Some i)
  edge_raises more v is =
      pass_raises g i before now last so_far (there, refl)
      (omega (arith, so_far.same_length, ok.from_in i there))
      (omega (arith, mul-le-mul most (ok.rise_in i there)))
      v
      (omega (arith, is, ltb-true (get_or now (edge_in edges i).from 0) along more, length_same n z))
      (omega (arith, is, ltb-true (get_or now (edge_in edges i).from 0) along more))

-- The last edge is kept as a number, which is the number of all edges where there is none.
module _ (g : Graph) (count : ℕ) (before after : List ℕ) where
  pub pass_some : (last : Option ℕ) (n : ℕ) → Pass g count before after last → n ≡ unwrap_or last count → n < count → Pass g count before after (Some n)
  pass_some None n p e l = absurd (omega arith)
  pass_some (Some x) n p e l = subst (λ (y : ℕ). Pass g count before after (Some y)) (sym e) p

  pub pass_none : (last : Option ℕ) (n : ℕ) → Pass g count before after last → n ≡ unwrap_or last count → count ≤ n → Pass g count before after None
  pass_none None n p e l = p
  pass_none (Some x) n p e l = absurd (omega (arith, p.last_in x refl))

-- ---- pass after pass

-- The heights after k passes over all edges of g, each of which raised one. They are lengths of walks and no less than the greatest lengths with at most k edges.
-- As the k-th pass raised the height of some state, that height is above the greatest length with at most k − 1 edges; with k = 0 there was no pass.
pub record Heights (g : Graph) (k : ℕ) (heights : List ℕ) : Type 0 where
  pub low : AtMost (k * 1073741824) heights
  pub attained : WalkLengths g heights
  pub at_least : (s : ℕ) → longest g k s ≤ get_or heights s 0
  pub raised : (k ≡ 0) ⊎ ((s : ℕ) × (longest g (k - 1) s < get_or heights s 0))

-- Before the first pass,
pub heights_first : (g : Graph) (heights : List ℕ) → AtMost 0 heights → Heights g 0 heights
unfolding longest
heights_first g heights none =
    record {
      low = λ s. omega (arith, none s);
      attained = λ s. walk_without_edges g s _ (omega (arith, none s));
      at_least = λ s. omega arith;
      raised = inl refl;
    }

module _ (g : Graph) (k : ℕ) (heights : List ℕ) (here : Heights g k heights) where
  -- after one that raised a height,
  pub heights_next : (after : List ℕ) (last : Option ℕ) → g.size ≤ 256 → IsSome last → Pass g g.size heights after last → Heights g (k + 1) after
  heights_next after last few some p =
      let e : k + 1 - 1 ≡ k = omega arith in
      let x = p.raised some in
      record {
        low = λ s. omega (arith, p.rises (k * 1073741824) here.low s);
        attained = p.attained here.attained;
        at_least = λ s. rw (add-one k) (pass_longest g k (λ x. get_or heights x 0) (λ x. get_or after x 0) (λ e u. p.along e u.0) here.at_least s);
        raised = inr (x.0, rw e (omega (arith, here.at_least x.0, x.1)));
      }

  -- after one that raised none: the heights are a potential,
  pub heights_settled : (after : List ℕ) (last : Option ℕ) → IsNone last → Pass g g.size heights after last → Potential g (λ s. get_or heights s 0)
  heights_settled after last none p e u = omega (arith, p.along e u.0, ap (λ (x : List ℕ). get_or x (g.src e) 0) (p.kept none))

  -- and after as many as there are states: a simple cycle is positive.
  pub heights_positive : (N : ℕ) → Within g N → 1 ≤ N → k ≡ N → PositiveCycle g
  heights_positive N b some e = go here.raised
    where
      go : (k ≡ 0) ⊎ ((s : ℕ) × (longest g (k - 1) s < get_or heights s 0)) → PositiveCycle g
      go (inl z) = absurd (omega arith)
      go (inr x) = longer_positive g N b x.0 _ (here.attained x.0) (rw (← e) x.1)

  -- 64 passes reach 2 ^ 36 at most.
  pub heights_low : k ≤ 64 → AtMost 68719476736 heights
  heights_low few s = omega (arith, here.low s)

-- ---- what the passes say of the weights

module _ (n : ℕ) (g : Graph) (N : ℕ) (b : Within g N) (few : N ≤ n) where
  -- A potential for the lengths: every simple cycle weighs below zero.
  pub all_below : (h : ℕ → ℕ) → Potential (lengthened n g) h → AllBelowZero g
  all_below h p es c = go (dec_lt (sum g.plus es) (sum g.minus es))
    where
      go : Dec (sum g.plus es < sum g.minus es) → sum g.plus es < sum g.minus es
      go (yes l) = l
      go (no l) = absurd (no_positive_cycle (lengthened n g) h p es (cycle_lengthened n g es c) ((lengthened_iff n g es N b few c).1 (omega arith)))

  -- A simple cycle longer than 0: it weighs zero or more.
  pub some_cycle : PositiveCycle (lengthened n g) → SomeZeroOrMore g
  some_cycle x = let c = cycle_of_lengthened n g x.0 x.1 in (x.0, c, (lengthened_iff n g x.0 N b few c).0 x.2)
