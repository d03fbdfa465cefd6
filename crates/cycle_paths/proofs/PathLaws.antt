-- The paths by extension are the paths back to the start over states above it, none of them twice.
use mathlib.Core.Path.{◌≡◌, refl, sym, ap, ◌∙◌, subst}
use mathlib.Core.Logic.{◌≢◌, ◌⊎◌, inl, inr}
use mathlib.Core.Bool.{Bool, true, false, cond}
use mathlib.Core.List.{List, [], ◌∷◌, map}
use Prim.Native.Nat.{ℕ, zero, suc, ◌≤◌, ◌<◌}
use native.Mathlib.Nat.{not-suc-le-zero}
use native.Mathlib.Decide.{ℕ_discrete}
use native.Mathlib.Omega.{arith}
use lib.ListN.{length, get_or, set, length-set}
use lib.Seq.{get_or-set_other}
use lib.Dec.{eqb, ltb}
use borrow.Author.Tests.{eqb-true, eqb-false, ltb-false, eq-eqb, ne_eqb, le-ltb}
use Rattle.livelock.specs.Lists.{All, Distinct}
use Rattle.livelock.specs.Cycles.{Walk}
use Rattle.livelock.proofs.ListLaws.{all_weaken, all_both, all_of_map, all_map_of}
use Rattle.cycle_paths.specs.Listings.{In, Before}
use Rattle.cycle_paths.specs.Cycles.{unleft, paths_by, paths}
use Rattle.cycle_paths.proofs.ElementLaws.{prefixed_in, in_prefixed, Given, joined_in, in_joined}
use Rattle.cycle_paths.proofs.OrderLaws.{Ordered, Increasing, Begins, ordered_same, before_asymmetric, ordered_prefixed, ordered_joined}
use Rattle.cycle_paths.proofs.MarkLaws.{unleft_falls, now_left, still_left, was_unleft}

module _ (src dst : ℕ → ℕ) (start : ℕ) where
  -- How a path goes on after row k: it is at its end, or `rest` goes on from a state above `start` that is not yet left, as `further` says.
  pub data Onward (marks : List ℕ) (k : ℕ) (rest : List ℕ) (further : Type 0) : Type 0 where
    closes : dst k ≡ start → rest ≡ [] → Onward marks k rest further
    extends : start < dst k → get_or marks (dst k) 0 ≡ 0 → further → Onward marks k rest further

  -- c is a path from state `at` back to `start` over states above `start` that are not yet left, none of them twice.
  unfoldable pub PathBack : ℕ → List ℕ → List ℕ → Type 0
  PathBack at marks [] = ⊥
  PathBack at marks (k ∷ rest) = (src k ≡ at) × Onward marks k rest (PathBack (dst k) (set marks (dst k) 1) rest)

  -- `rest` is a path back from the state that row k enters, which is then left.
  abbrev Further : List ℕ → ℕ → List ℕ → Type 0
  Further marks k rest = PathBack (dst k) (set marks (dst k) 1) rest

  -- ---- the paths by one row

  module _ (at : ℕ) (marks : List ℕ) (onward : ℕ → List (List ℕ)) (k : ℕ) where
    -- c is a path by row k, where `onward` has the paths from the state entered.
    pub record ByRow (c : List ℕ) : Type 0 where
      pub rest : List ℕ
      pub is : c ≡ k ∷ rest
      pub leaves : src k ≡ at
      pub goes : Onward marks k rest (In rest (onward (dst k)))

    -- The paths by row k are of this kind,
    by_row : (c : List ℕ) → In c (paths_by src dst start at marks onward k) → ByRow c
    unfolding In
    by_row c i = go (eqb (src k) at) (eqb (dst k) start) (ltb (dst k) start) (eqb (get_or marks (dst k) 0) 0) refl refl refl refl i
      where
        go : (a b d e : Bool) → eqb (src k) at ≡ a → eqb (dst k) start ≡ b → ltb (dst k) start ≡ d → eqb (get_or marks (dst k) 0) 0 ≡ e
            → In c (cond a (cond b ((k ∷ []) ∷ []) (cond d [] (cond e (map (λ x. k ∷ x) (onward (dst k))) []))) []) → ByRow c
        go false b d e p q r s j = absurd j
        go true true d e p q r s (inl j) = record { rest = []; is = j; leaves = eqb-true _ _ p; goes = closes (eqb-true _ _ q) refl }
        go true true d e p q r s (inr j) = absurd j
        go true false true e p q r s j = absurd j
        go true false false false p q r s j = absurd j
        go true false false true p q r s j =
            let n : dst k ≡ start → ⊥ = eqb-false _ _ q in
            let l : start ≤ dst k = ltb-false _ _ r in
            let x = prefixed_in k (onward (dst k)) c j in
            record { rest = x.rest; is = x.is; leaves = eqb-true _ _ p; goes = extends (omega arith) (eqb-true _ _ s) x.there }

    -- and all of this kind are there.
    in_by_row : (rest : List ℕ) → src k ≡ at → Onward marks k rest (In rest (onward (dst k))) → In (k ∷ rest) (paths_by src dst start at marks onward k)
    unfolding In
    in_by_row rest p (closes q e) = rw (e, eq-eqb (src k) at p, eq-eqb (dst k) start q) (inl refl)
    in_by_row rest p (extends q u i) =
        let n : dst k ≡ start → ⊥ = λ e. omega arith in
        let l : start ≤ dst k = omega arith in
        rw (eq-eqb (src k) at p, ne_eqb (dst k) start n, le-ltb (dst k) start l, eq-eqb (get_or marks (dst k) 0) 0 u) (in_prefixed k (onward (dst k)) rest i)

    -- Each begins with row k,
    by_row_begins : (c : List ℕ) → In c (paths_by src dst start at marks onward k) → Begins k c
    by_row_begins c i = let b = by_row c i in (b.rest, b.is)

    -- and they are in order if the paths from the state entered are.
    by_row_ordered : Ordered Before (onward (dst k)) → Ordered Before (paths_by src dst start at marks onward k)
    unfolding Ordered All
    by_row_ordered h = go (eqb (src k) at) (eqb (dst k) start) (ltb (dst k) start) (eqb (get_or marks (dst k) 0) 0)
      where
        go : (a b d e : Bool) → Ordered Before (cond a (cond b ((k ∷ []) ∷ []) (cond d [] (cond e (map (λ x. k ∷ x) (onward (dst k))) []))) [])
        go false b d e = tt
        go true true d e = (tt, tt)
        go true false true e = tt
        go true false false false = tt
        go true false false true = ordered_prefixed k (onward (dst k)) h

  -- ---- all paths

  module _ (all : List ℕ) where
    -- The paths from the state that a row enters, which is then left.
    abbrev paths_from : ℕ → List ℕ → ℕ → List (List ℕ)
    paths_from n marks s = paths n src dst all start s (set marks s 1) all

    -- c is a path back by rows of `all`.
    pub record PathAmong (at : ℕ) (marks c : List ℕ) : Type 0 where
      pub path : PathBack at marks c
      pub rows : All (λ k. In k all) c

    -- The paths by extension are such paths,
    pub paths_only : (n at : ℕ) (marks ks c : List ℕ) → ((k : ℕ) → In k ks → In k all) → In c (paths n src dst all start at marks ks) → PathAmong at marks c
    unfolding paths In PathBack All
    paths_only zero at marks ks c among i = absurd i
    paths_only (suc n) at marks ks c among i = go (joined_in ks _ c i) (λ s d. paths_only n s (set marks s 1) all d (λ k j. j))
      where
        on : (k : ℕ) (rest : List ℕ) → src k ≡ at → In k all → ((s : ℕ) (d : List ℕ) → In d (paths_from n marks s) → PathAmong s (set marks s 1) d)
            → Onward marks k rest (In rest (paths_from n marks (dst k))) → PathAmong at marks (k ∷ rest)
        on k rest p j later (closes q e) = record { path = (p, closes q e); rows = (j, subst (All (λ x. In x all)) (sym e) tt) }
        on k rest p j later (extends q u i) =
            let x = later (dst k) rest i in
            record { path = (p, extends q u x.path); rows = (j, x.rows) }

        go : Given ks (paths_by src dst start at marks (paths_from n marks)) c → ((s : ℕ) (d : List ℕ) → In d (paths_from n marks s) → PathAmong s (set marks s 1) d)
            → PathAmong at marks c
        go g later =
            let b = by_row at marks (paths_from n marks) g.number c g.there in
            subst (PathAmong at marks) (sym b.is) (on g.number b.rest b.leaves (among g.number g.of) later b.goes)

    -- in ascending order,
    pub paths_ordered : (n at : ℕ) (marks ks : List ℕ) → Increasing ks → Increasing all → Ordered Before (paths n src dst all start at marks ks)
    unfolding paths Ordered
    paths_ordered zero at marks ks u v = tt
    paths_ordered (suc n) at marks ks u v =
        ordered_joined ks (paths_by src dst start at marks (paths_from n marks)) u
        (λ k. by_row_ordered at marks (paths_from n marks) k (paths_ordered n (dst k) (set marks (dst k) 1) all v v))
        (by_row_begins at marks (paths_from n marks))

    -- and where one row is given for the first, each begins with it.
    pub paths_begin : (n at : ℕ) (marks : List ℕ) (k : ℕ) (c : List ℕ) → In c (paths n src dst all start at marks (k ∷ [])) → Begins k c
    unfolding paths In
    paths_begin zero at marks k c i = absurd i
    paths_begin (suc n) at marks k c i = let g = joined_in (k ∷ []) _ c i in one g.number g.of g.there
      where
        one : (j : ℕ) → In j (k ∷ []) → In c (paths_by src dst start at marks (paths_from n marks) j) → Begins k c
        one j (inl e) there = subst (λ (x : ℕ). Begins x c) e (by_row_begins at marks (paths_from n marks) j c there)
        one j (inr e) there = absurd e

    -- Each begins with one of the rows given for the first.
    pub paths_first : (n at : ℕ) (marks ks c : List ℕ) → In c (paths n src dst all start at marks ks) → (k : ℕ) × (rest : List ℕ) × (c ≡ k ∷ rest) × In k ks
    unfolding paths In
    paths_first zero at marks ks c i = absurd i
    paths_first (suc n) at marks ks c i =
        let g = joined_in ks _ c i in
        let b = by_row_begins at marks (paths_from n marks) g.number c g.there in
        (g.number, b.0, b.1, g.of)

    module _ (states : ℕ) (within : (k : ℕ) → In k all → dst k < states) where
      -- And all such paths are there. By induction on the number n that limits their length: the first row is one of the rows given for it,
      -- and if the path goes on, then from the state entered, by rows of `all`. That state is then left, so the states not yet left are
      -- one fewer, and their number stays below n.
      pub paths_every : (n at : ℕ) (marks ks : List ℕ) (k : ℕ) (rest : List ℕ) → length marks ≡ states → unleft marks < n → In k ks → PathAmong at marks (k ∷ rest)
          → In (k ∷ rest) (paths n src dst all start at marks ks)
      unfolding paths PathBack All
      paths_every zero at marks ks k rest l f i p = absurd (not-suc-le-zero f)
      paths_every (suc n) at marks ks k rest l f i p =
          in_joined ks (paths_by src dst start at marks (paths_from n marks)) (k ∷ rest) k i
          (in_by_row at marks (paths_from n marks) k rest p.path.0
          (go rest p.path.1 p.rows.1 (λ j d u r q. paths_every n (dst k) (set marks (dst k) 1) all j d (length-set marks (dst k) 1 ∙ l) u r q)))
        where
          go : (rest : List ℕ) → Onward marks k rest (Further marks k rest) → All (λ j. In j all) rest
              → ((j : ℕ) (d : List ℕ) → unleft (set marks (dst k) 1) < n → In j all → PathAmong (dst k) (set marks (dst k) 1) (j ∷ d) → In (j ∷ d) (paths_from n marks (dst k)))
              → Onward marks k rest (In rest (paths_from n marks (dst k)))
          go rest (closes q e) rows later = closes q e
          go [] (extends q u b) rows later = absurd b
          go (j ∷ d) (extends q u b) rows later =
              let fewer = unleft_falls marks (dst k) (omega (arith, within k p.rows.0)) u in
              extends q u (later j d (omega (arith, fewer)) rows.0 (record { path = b; rows = rows }))

  -- ---- paths and cycles

  -- A path back is a walk.
  pub path_walk : (at : ℕ) (marks c : List ℕ) → PathBack at marks c → Walk src dst at c start
  unfolding PathBack Walk
  path_walk at marks [] p = absurd p
  path_walk at marks (k ∷ rest) p = (p.0, go p.1 (path_walk (dst k) (set marks (dst k) 1) rest))
    where
      go : Onward marks k rest (Further marks k rest)
          → (Further marks k rest → Walk src dst (dst k) rest start) → Walk src dst (dst k) rest start
      go (closes q e) later = subst (λ (d : List ℕ). Walk src dst (dst k) d start) (sym e) q
      go (extends q u b) later = later b

  -- After the first row the states left are above `start` and not yet left.
  pub path_states : (at : ℕ) (marks : List ℕ) (k : ℕ) (rest : List ℕ) → PathBack at marks (k ∷ rest)
      → All (λ j. (start < src j) × (get_or marks (src j) 0 ≡ 0)) rest
  unfolding PathBack All
  path_states at marks k [] p = tt
  path_states at marks k (j ∷ d) p = go p.1 (path_states (dst k) (set marks (dst k) 1) j d)
    where
      go : Onward marks k (j ∷ d) (Further marks k (j ∷ d))
          → (Further marks k (j ∷ d) → All (λ x. (start < src x) × (get_or (set marks (dst k) 1) (src x) 0 ≡ 0)) d)
          → All (λ x. (start < src x) × (get_or marks (src x) 0 ≡ 0)) (j ∷ d)
      go (closes q e) later = absurd (omega (arith, ap length e))
      go (extends q u b) later = (
        (omega (arith, q, b.0), ap (λ (z : ℕ). get_or marks z 0) b.0 ∙ u),
        all_weaken _ _ (λ x h. (h.0, was_unleft marks (dst k) (src x) u h.1)) d (later b),
      )

  -- So no state is left twice: the states left after the first row are not yet left, while the first is left already, and so on along the path.
  pub path_distinct : (at : ℕ) (marks c : List ℕ) → All (λ k. dst k < length marks) c → get_or marks at 0 ≢ 0 → PathBack at marks c → Distinct (map src c)
  unfolding PathBack All Distinct
  path_distinct at marks [] within left p = tt
  path_distinct at marks (k ∷ rest) within left p = (
    all_of_map (λ s. src k ≢ s) src rest
        (all_weaken _ _ (λ j h e. left (ap (λ (z : ℕ). get_or marks z 0) (sym p.0 ∙ e) ∙ h.1)) rest (path_states at marks k rest p)),
    go p.1 (path_distinct (dst k) (set marks (dst k) 1) rest),
  )
    where
      go : Onward marks k rest (Further marks k rest)
          → (All (λ j. dst j < length (set marks (dst k) 1)) rest → get_or (set marks (dst k) 1) (dst k) 0 ≢ 0 → Further marks k rest → Distinct (map src rest))
          → Distinct (map src rest)
      go (closes q e) later = subst (λ (d : List ℕ). Distinct (map src d)) (sym e) tt
      go (extends q u b) later =
          later (subst (λ (n : ℕ). All (λ j. dst j < n) rest) (sym (length-set marks (dst k) 1)) within.1) (now_left marks (dst k) within.0) b

  -- A walk back to `start` is such a path if the states left after the first row are distinct, not below `start` and not yet left.
  -- A state that the walk enters is `start` at its end; before that it is the next one left, so it is not yet left, hence not `start` but
  -- above it. The states left later differ from it, so they are still not left when it is.
  pub walk_path : (at : ℕ) (marks : List ℕ) (k : ℕ) (rest : List ℕ) → Walk src dst at (k ∷ rest) start → get_or marks start 0 ≢ 0 → All (λ j. start ≤ src j) rest
      → All (λ j. get_or marks (src j) 0 ≡ 0) rest → Distinct (map src rest) → PathBack at marks (k ∷ rest)
  unfolding PathBack Walk All Distinct
  walk_path at marks k [] w left high unleft once = (w.0, closes w.1 refl)
  walk_path at marks k (j ∷ d) w left high unleft once =
      let e : src j ≡ dst k = w.1.0 in
      let n : start ≢ dst k = λ q. left (ap (λ (z : ℕ). get_or marks z 0) (q ∙ sym e) ∙ unleft.0) in (
        w.0,
        extends (omega (arith, high.0)) (ap (λ (z : ℕ). get_or marks z 0) (sym e) ∙ unleft.0)
            (walk_path (dst k) (set marks (dst k) 1) j d w.1 (still_left marks (dst k) start left) high.1
            (all_weaken _ _ (λ x h. get_or-set_other marks (dst k) (src x) 1 0 (λ y. h.1 (e ∙ sym y)) ∙ h.0) d
            (all_both _ _ d unleft.1 (all_map_of (λ s. src j ≢ s) src d once.0)))
            once.1),
      )

  -- ---- more marks

  -- Where the first of two lists of marks has no mark only if the second has none, it stays so when one state more is left.
  both_left : (marks after : List ℕ) (s x : ℕ) → s < length marks → (get_or marks x 0 ≡ 0 → get_or after x 0 ≡ 0) → get_or (set marks s 1) x 0 ≡ 0 → get_or (set after s 1) x 0 ≡ 0
  both_left marks after s x l h e = go (ℕ_discrete x s)
    where
      go : Dec (x ≡ s) → get_or (set after s 1) x 0 ≡ 0
      go (yes p) = absurd (now_left marks s l (sym (ap (λ (z : ℕ). get_or (set marks s 1) z 0) p) ∙ e))
      go (no n) = get_or-set_other after s x 1 0 n ∙ h (sym (get_or-set_other marks s x 1 0 n) ∙ e)

  -- `after` marks more states than `marks`, but none above `start` from which a row of `all` leads to `start` or to a state that it does not mark.
  module _ (all : List ℕ) (states : ℕ) (within : (k : ℕ) → In k all → dst k < states) (marks after : List ℕ)
      (kept : (x : ℕ) → x < states → get_or after x 0 ≡ 0 → get_or marks x 0 ≡ 0)
      (spared : (k : ℕ) → In k all → start < src k → (dst k ≡ start) ⊎ (get_or after (dst k) 0 ≡ 0) → get_or marks (src k) 0 ≡ 0 → get_or after (src k) 0 ≡ 0) where
    -- A state above `start` with a path back is not marked: its last state is not, and so none before it.
    path_spared : (s : ℕ) (now c : List ℕ) → ((x : ℕ) → x < states → get_or now x 0 ≡ 0 → get_or marks x 0 ≡ 0) → All (λ k. In k all) c → start < s → get_or marks s 0 ≡ 0
        → PathBack s now c → get_or after s 0 ≡ 0
    unfolding PathBack All
    path_spared s now [] sub rows above u p = absurd p
    path_spared s now (k ∷ rest) sub rows above u p =
        subst (λ (z : ℕ). get_or after z 0 ≡ 0) p.0
        (spared k rows.0 (subst (λ (z : ℕ). start < z) (sym p.0) above) (go p.1 (path_spared (dst k) (set now (dst k) 1) rest)) (ap (λ (z : ℕ). get_or marks z 0) p.0 ∙ u))
      where
        go : Onward now k rest (Further now k rest)
            → (((x : ℕ) → x < states → get_or (set now (dst k) 1) x 0 ≡ 0 → get_or marks x 0 ≡ 0) → All (λ j. In j all) rest → start < dst k → get_or marks (dst k) 0 ≡ 0 → Further now k rest → get_or after (dst k) 0 ≡ 0)
            → (dst k ≡ start) ⊎ (get_or after (dst k) 0 ≡ 0)
        go (closes q e) later = inl q
        go (extends q v b) later = inr (later (λ x l h. sub x l (was_unleft now (dst k) x v h)) rows.1 q (sub (dst k) (within k rows.0) v) b)

    -- So a path back among the states not marked at first is one among those not marked after,
    path_after : (at : ℕ) (now then c : List ℕ) → length now ≡ states → ((x : ℕ) → x < states → get_or now x 0 ≡ 0 → get_or marks x 0 ≡ 0)
        → ((x : ℕ) → x < states → get_or after x 0 ≡ 0 → get_or now x 0 ≡ 0 → get_or then x 0 ≡ 0) → All (λ k. In k all) c → PathBack at now c → PathBack at then c
    unfolding PathBack All
    path_after at now then [] l sub still rows p = absurd p
    path_after at now then (k ∷ rest) l sub still rows p = (p.0, go p.1 (path_after (dst k) (set now (dst k) 1) (set then (dst k) 1) rest))
      where
        go : Onward now k rest (Further now k rest)
            → (length (set now (dst k) 1) ≡ states → ((x : ℕ) → x < states → get_or (set now (dst k) 1) x 0 ≡ 0 → get_or marks x 0 ≡ 0)
            → ((x : ℕ) → x < states → get_or after x 0 ≡ 0 → get_or (set now (dst k) 1) x 0 ≡ 0 → get_or (set then (dst k) 1) x 0 ≡ 0) → All (λ j. In j all) rest → Further now k rest → Further then k rest)
            → Onward then k rest (Further then k rest)
        go (closes q e) later = closes q e
        go (extends q u b) later =
            let w = within k rows.0 in
            let sub' : (x : ℕ) → x < states → get_or (set now (dst k) 1) x 0 ≡ 0 → get_or marks x 0 ≡ 0 = λ x i h. sub x i (was_unleft now (dst k) x u h) in
            let v : get_or after (dst k) 0 ≡ 0 = path_spared (dst k) (set now (dst k) 1) rest sub' rows.1 q (sub (dst k) w u) b in
            extends q (still (dst k) w v u)
            (later (length-set now (dst k) 1 ∙ l) sub' (λ x i a. both_left now then (dst k) x (omega (arith, l)) (still x i a)) rows.1 b)

    -- and the other way.
    path_before : (at : ℕ) (now then c : List ℕ) → length then ≡ states → ((x : ℕ) → x < states → get_or then x 0 ≡ 0 → get_or now x 0 ≡ 0) → All (λ k. In k all) c
        → PathBack at then c → PathBack at now c
    unfolding PathBack All
    path_before at now then [] l sub rows p = absurd p
    path_before at now then (k ∷ rest) l sub rows p = (p.0, go p.1 (path_before (dst k) (set now (dst k) 1) (set then (dst k) 1) rest))
      where
        go : Onward then k rest (Further then k rest)
            → (length (set then (dst k) 1) ≡ states → ((x : ℕ) → x < states → get_or (set then (dst k) 1) x 0 ≡ 0 → get_or (set now (dst k) 1) x 0 ≡ 0) → All (λ j. In j all) rest → Further then k rest → Further now k rest)
            → Onward now k rest (Further now k rest)
        go (closes q e) later = closes q e
        go (extends q u b) later =
            extends q (sub (dst k) (within k rows.0) u)
            (later (length-set then (dst k) 1 ∙ l) (λ x i. both_left then now (dst k) x (omega (arith, l, within k rows.0)) (sub x i)) rows.1 b)

    -- The paths are the same: both lists are in order and have the same elements.
    pub same_paths : length marks ≡ states → length after ≡ states → Increasing all → (at : ℕ) (ks : List ℕ) → Increasing ks → ((k : ℕ) → In k ks → In k all)
        → paths (suc (unleft after)) src dst all start at after ks ≡ paths (suc (unleft marks)) src dst all start at marks ks
    same_paths l m up at ks u among =
        ordered_same Before before_asymmetric _ _ (paths_ordered all (suc (unleft after)) at after ks u up) (paths_ordered all (suc (unleft marks)) at marks ks u up)
        (λ c i.
        let p = paths_only all (suc (unleft after)) at after ks c among i in
        back marks l c (paths_first all (suc (unleft after)) at after ks c i) (record { path = path_before at marks after c m kept p.rows p.path; rows = p.rows }))
        (λ c i.
        let p = paths_only all (suc (unleft marks)) at marks ks c among i in
        back after m c (paths_first all (suc (unleft marks)) at marks ks c i) (record { path = path_after at marks after c l (λ x i h. h) (λ x i a h. a) p.rows p.path; rows = p.rows }))
      where
        back : (now : List ℕ) → length now ≡ states → (c : List ℕ) → (k : ℕ) × (rest : List ℕ) × (c ≡ k ∷ rest) × In k ks → PathAmong all at now c
            → In c (paths (suc (unleft now)) src dst all start at now ks)
        back now e c f p =
            subst (λ (z : List ℕ). In z (paths (suc (unleft now)) src dst all start at now ks)) (sym f.2)
            (paths_every all states within (suc (unleft now)) at now ks f.0 f.1 e (omega arith) f.3 (subst (PathAmong all at now) f.2 p))
