-- Walks: they can be joined, and a walk that comes to a state twice has a simple cycle in it.
use mathlib.Core.Path.{◌≡◌, refl, sym, ap, ◌∙◌, subst}
use mathlib.Core.Logic.{◌≢◌, ◌⊎◌, inl, inr}
use mathlib.Core.List.{List, [], ◌∷◌, ◌++◌, map}
use Prim.Native.Nat.{ℕ, suc, ◌<◌}
use native.Mathlib.Decide.{ℕ_discrete}
use native.Mathlib.Nat.{not-suc-le-zero}
use native.Mathlib.Omega.{arith}
use lib.ListN.{length, get_or}
use Rattle.livelock.specs.Lists.{All, Distinct}
use Rattle.livelock.specs.Cycles.{Walk}

module _ (src : ℕ → ℕ) where
  -- The states that a walk comes to, its end t among them.
  unfoldable pub visited : List ℕ → ℕ → List ℕ
  visited [] t = t ∷ []
  visited (e ∷ es) t = src e ∷ visited es t

  -- They are one more than the walk's edges.
  pub visited-length : (es : List ℕ) (t : ℕ) → length (visited es t) ≡ suc (length es)
  unfolding visited
  visited-length [] t = refl
  visited-length (e ∷ es) t = ap suc (visited-length es t)

  -- What holds of each state visited holds of each state that the front part of the walk leaves,
  visited_all : (F : ℕ → Type 0) (ps qs : List ℕ) (t : ℕ) → All F (visited (ps ++ qs) t) → All F (map src ps)
  unfolding visited All
  visited_all F [] qs t h = tt
  visited_all F (e ∷ ps) qs t h = (h.0, visited_all F ps qs t h.1)

  -- and these are distinct if the states visited are.
  visited_distinct : (ps qs : List ℕ) (t : ℕ) → Distinct (visited (ps ++ qs) t) → Distinct (map src ps)
  unfolding visited Distinct
  visited_distinct [] qs t d = tt
  visited_distinct (e ∷ ps) qs t d = (visited_all (λ y. src e ≢ y) ps qs t d.0, visited_distinct ps qs t d.1)

  module _ (dst : ℕ → ℕ) where
    -- A walk to a state and a walk from it, joined, are a walk.
    pub walk-append : (s u t : ℕ) (ps qs : List ℕ) → Walk src dst s ps u → Walk src dst u qs t → Walk src dst s (ps ++ qs) t
    unfolding Walk
    walk-append s u t [] qs v w = subst (λ (z : ℕ). Walk src dst z qs t) (sym v) w
    walk-append s u t (e ∷ ps) qs v w = (v.0, walk-append (dst e) u t ps qs v.1 w)

    -- A walk with an edge starts at the state that its first edge leaves, so a closed one also ends there.
    pub walk_first : (s : ℕ) (es : List ℕ) → 0 < length es → Walk src dst s es s → Walk src dst (src (get_or es 0 0)) es (src (get_or es 0 0))
    unfolding Walk
    walk_first s [] l w = absurd (not-suc-le-zero l)
    walk_first s (e ∷ es) l w = (refl, subst (λ (z : ℕ). Walk src dst (dst e) es z) (sym w.0) w.1)

    -- A walk cut where it first comes to the state x.
    record CutAt (x s t : ℕ) (es : List ℕ) : Type 0 where
      front : List ℕ
      back : List ℕ
      parts : es ≡ front ++ back
      arrives : Walk src dst s front x
      goes_on : Walk src dst x back t
      not_before : All (λ y. x ≢ y) (map src front)

    -- A walk never comes to x, or can be cut where it first does.
    cut : (x s t : ℕ) (es : List ℕ) → Walk src dst s es t → All (λ y. x ≢ y) (visited es t) ⊎ CutAt x s t es
    unfolding visited All Walk
    cut x s t [] w = go (ℕ_discrete x t)
      where
        go : Dec (x ≡ t) → All (λ y. x ≢ y) (visited [] t) ⊎ CutAt x s t []
        go (yes q) = inr (record { front = []; back = []; parts = refl; arrives = w ∙ sym q; goes_on = q; not_before = tt })
        go (no q) = inl (q, tt)
    cut x s t (e ∷ es) w = go (ℕ_discrete x (src e)) (cut x (dst e) t es w.1)
      where
        here : x ≡ src e → CutAt x s t (e ∷ es)
        here q = record { front = []; back = e ∷ es; parts = refl; arrives = sym w.0 ∙ sym q; goes_on = (sym q, w.1); not_before = tt }

        later : x ≢ src e → CutAt x (dst e) t es → CutAt x s t (e ∷ es)
        later q c =
            record {
              front = e ∷ c.front;
              back = c.back;
              parts = ap (λ (z : List ℕ). e ∷ z) c.parts;
              arrives = (w.0, c.arrives);
              goes_on = c.goes_on;
              not_before = (q, c.not_before);
            }

        go : Dec (x ≡ src e) → All (λ y. x ≢ y) (visited es t) ⊎ CutAt x (dst e) t es → All (λ y. x ≢ y) (visited (e ∷ es) t) ⊎ CutAt x s t (e ∷ es)
        go (yes q) r = inr (here q)
        go (no q) (inl h) = inl (q, h)
        go (no q) (inr c) = inr (later q c)

    -- A walk in three parts, of which the middle one is a simple cycle.
    pub record HasCycle (s t : ℕ) (es : List ℕ) : Type 0 where
      pub front : List ℕ
      pub cycle : List ℕ
      pub back : List ℕ
      pub at : ℕ
      pub parts : es ≡ front ++ (cycle ++ back)
      pub arrives : Walk src dst s front at
      pub closed : Walk src dst at cycle at
      pub goes_on : Walk src dst at back t
      pub once : Distinct (map src cycle)
      pub non_empty : 0 < length cycle

    -- A walk comes to each state once at most, or has a simple cycle in it.
    -- Look at the walk from its end backwards. As long as the states visited are distinct, ask whether the state that the edge before them
    -- leaves is among them. If so, that edge and the walk up to there are a simple cycle.
    pub distinct_or_cycle : (s t : ℕ) (es : List ℕ) → Walk src dst s es t → Distinct (visited es t) ⊎ HasCycle s t es
    unfolding visited All Distinct Walk
    distinct_or_cycle s t [] w = inl (tt, tt)
    distinct_or_cycle s t (e ∷ es) w = go (distinct_or_cycle (dst e) t es w.1) (cut (src e) (dst e) t es w.1)
      where
        closes : Distinct (visited es t) → CutAt (src e) (dst e) t es → HasCycle s t (e ∷ es)
        closes d c =
            record {
              front = [];
              cycle = e ∷ c.front;
              back = c.back;
              at = src e;
              parts = ap (λ (z : List ℕ). e ∷ z) c.parts;
              arrives = sym w.0;
              closed = (refl, c.arrives);
              goes_on = c.goes_on;
              once = (c.not_before, visited_distinct c.front c.back t (subst (λ (z : List ℕ). Distinct (visited z t)) c.parts d));
              non_empty = omega arith;
            }

        later : HasCycle (dst e) t es → HasCycle s t (e ∷ es)
        later c =
            record {
              front = e ∷ c.front;
              cycle = c.cycle;
              back = c.back;
              at = c.at;
              parts = ap (λ (z : List ℕ). e ∷ z) c.parts;
              arrives = (w.0, c.arrives);
              closed = c.closed;
              goes_on = c.goes_on;
              once = c.once;
              non_empty = c.non_empty;
            }

        go : Distinct (visited es t) ⊎ HasCycle (dst e) t es → All (λ y. src e ≢ y) (visited es t) ⊎ CutAt (src e) (dst e) t es
            → Distinct (visited (e ∷ es) t) ⊎ HasCycle s t (e ∷ es)
        go (inr c) r = inr (later c)
        go (inl d) (inl h) = inl (h, d)
        go (inl d) (inr c) = inr (closes d c)
