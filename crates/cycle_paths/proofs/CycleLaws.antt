-- The cycles of a machine by extension of a path are its listing, with marks for any number of states that is not below the machine's.
use mathlib.Core.Path.{◌≡◌, refl, sym, ap, ◌∙◌, subst}
use mathlib.Core.Logic.{◌≢◌, inl, inr}
use mathlib.Core.Bool.{true}
use mathlib.Core.List.{List, [], ◌∷◌}
use Prim.Native.Nat.{ℕ, zero, suc, ◌≤◌, ◌<◌}
use native.Mathlib.Nat.{le_refl, not-suc-le-zero}
use native.Mathlib.Omega.{arith}
use lib.ListN.{set}
use lib.Dec.{eqb}
use borrow.Author.Tests.{eqb-true, eq-eqb}
use Rattle.livelock.specs.Lists.{below, All, Distinct}
use Rattle.livelock.specs.Plants.{Plant, row_at, row_count, state_count, WellFormed}
use Rattle.livelock.specs.Cycles.{leaves, enters, RowOf}
use Rattle.livelock.proofs.ListLaws.{all_weaken, all_map_of, all_below}
use Rattle.livelock.proofs.QuietGraphs.{row_within}
use Rattle.cycle_paths.specs.Listings.{In, Ascending, ListedCycle, IsListing}
use Rattle.cycle_paths.specs.Cycles.{unleft, joined, paths, left_only, cycles_by, cycles_through, row_numbers, cycles_of}
use Rattle.cycle_paths.proofs.ElementLaws.{all_in, Given, joined_in, in_joined, all_selected, all_pass, in_selected, in_below}
use Rattle.cycle_paths.proofs.OrderLaws.{Ordered, Increasing, Begins, increasing_below, increasing_selected, ordered_ascending, ordered_joined, one_listing}
use Rattle.cycle_paths.proofs.MarkLaws.{left-length, only_left, others_unleft}
use Rattle.cycle_paths.proofs.PathLaws.{PathAmong, paths_only, paths_every, paths_ordered, paths_begin, path_walk, path_states, path_distinct, walk_path}

-- ---- the row numbers of a machine

module _ (P : Plant) (m : ℕ) where
  -- They are the numbers of its rows,
  pub number_row : (k : ℕ) → In k (row_numbers P m) → RowOf P m k
  number_row k i = (
    all_in (λ j. j < row_count P) (row_numbers P m) k (all_selected _ _ (below (row_count P)) (all_below _ (row_count P) (λ j l. l))) i,
    eqb-true (row_at P k).machine m (all_in (λ j. eqb (row_at P j).machine m ≡ true) (row_numbers P m) k (all_pass _ (below (row_count P))) i),
  )

  -- all of them,
  pub row_number : (k : ℕ) → RowOf P m k → In k (row_numbers P m)
  row_number k r = in_selected _ (below (row_count P)) k (eq-eqb (row_at P k).machine m r.1) (in_below (row_count P) k r.0)

  -- in ascending order.
  pub numbers_increasing : Increasing (row_numbers P m)
  numbers_increasing = increasing_selected _ (below (row_count P)) (increasing_below (row_count P))

  -- ---- the cycles, with marks for so many states

  module _ (formed : WellFormed P) (states : ℕ) (enough : state_count P m ≤ states) where
    -- A cycle that begins with row k is a path from the state that k leaves back to it, with that state left.
    abbrev CycleBy : ℕ → List ℕ → Type 0
    CycleBy k c = PathAmong (leaves P) (enters P) (leaves P k) (row_numbers P m) (leaves P k) (left_only states (leaves P k)) c

    -- The rows leave states that have marks,
    left_within : (k : ℕ) → In k (row_numbers P m) → leaves P k < states
    left_within k i = omega (arith, (row_within P formed m k (number_row k i)).0)

    -- and enter such states.
    entered_within : (k : ℕ) → In k (row_numbers P m) → enters P k < states
    entered_within k i = omega (arith, (row_within P formed m k (number_row k i)).1)

    -- Such a path is a simple cycle from its lowest state: the other states that it leaves are above the first,
    path_cycle : (k : ℕ) (rest : List ℕ) → CycleBy k (k ∷ rest) → ListedCycle P m (k ∷ rest)
    unfolding All
    path_cycle k rest p =
        let s = leaves P k in
        let marks = left_only states s in
        record {
          simple =
              record {
                non_empty = omega arith;
                of_machine = all_weaken _ _ number_row (k ∷ rest) p.rows;
                closed = path_walk (leaves P) (enters P) s s marks (k ∷ rest) p.path;
                once =
                    path_distinct (leaves P) (enters P) s s marks (k ∷ rest)
                    (all_weaken _ _ (λ j i. omega (arith, entered_within j i, left-length states s)) (k ∷ rest) p.rows)
                    (only_left states s (left_within k p.rows.0))
                    p.path;
              };
          from_lowest = (le_refl s, all_weaken _ _ (λ j h. omega (arith, h.0)) rest (path_states (leaves P) (enters P) s s marks k rest p.path));
        }

    -- and such a cycle is a path: the other states that it leaves are not below the first, and are not the first.
    cycle_path : (k : ℕ) (rest : List ℕ) → ListedCycle P m (k ∷ rest) → CycleBy k (k ∷ rest)
    unfolding All Distinct
    cycle_path k rest c =
        let s = leaves P k in
        let rows : All (λ j. In j (row_numbers P m)) (k ∷ rest) = all_weaken _ _ row_number (k ∷ rest) c.simple.of_machine in
        record {
          path =
              walk_path (leaves P) (enters P) s s (left_only states s) k rest c.simple.closed (only_left states s (left_within k rows.0)) c.from_lowest.1
              (all_weaken _ _ (λ j n. others_unleft states s (leaves P j) (λ e. n (sym e))) rest (all_map_of (λ x. s ≢ x) (leaves P) rest c.simple.once.0))
              c.simple.once.1;
          rows = rows;
        }

    -- The cycles by row k begin with it,
    by_begin : (k : ℕ) (c : List ℕ) → In c (cycles_by states (leaves P) (enters P) (row_numbers P m) k) → Begins k c
    by_begin k =
        paths_begin (leaves P) (enters P) (leaves P k) (row_numbers P m) (suc (unleft (left_only states (leaves P k)))) (leaves P k) (left_only states (leaves P k)) k

    -- and are paths of that kind.
    by_path : (k : ℕ) → In k (row_numbers P m) → (c : List ℕ) → In c (cycles_by states (leaves P) (enters P) (row_numbers P m) k) → CycleBy k c
    unfolding In
    by_path k number c =
        let marks = left_only states (leaves P k) in
        paths_only (leaves P) (enters P) (leaves P k) (row_numbers P m) (suc (unleft marks)) (leaves P k) marks (k ∷ []) c among
      where
        among : (j : ℕ) → In j (k ∷ []) → In j (row_numbers P m)
        among j (inl e) = subst (λ (x : ℕ). In x (row_numbers P m)) (sym e) number
        among j (inr e) = absurd e

    -- Only listed cycles are there,
    cycles_only : (c : List ℕ) → In c (cycles_through states (leaves P) (enters P) (row_numbers P m)) → ListedCycle P m c
    unfolding cycles_through
    cycles_only c i = go (joined_in (row_numbers P m) (cycles_by states (leaves P) (enters P) (row_numbers P m)) c i)
      where
        go : Given (row_numbers P m) (cycles_by states (leaves P) (enters P) (row_numbers P m)) c → ListedCycle P m c
        go g =
            let k = g.number in
            let b = by_begin k c g.there in
            let p = by_path k g.of c g.there in
            subst (ListedCycle P m) (sym b.1) (path_cycle k b.0 (subst (CycleBy k) b.1 p))

    -- every one is,
    cycles_every : (c : List ℕ) → ListedCycle P m c → In c (cycles_through states (leaves P) (enters P) (row_numbers P m))
    unfolding cycles_through In All
    cycles_every [] c = absurd (not-suc-le-zero c.simple.non_empty)
    cycles_every (k ∷ rest) c =
        let p = cycle_path k rest c in
        let marks = left_only states (leaves P k) in
        in_joined (row_numbers P m) (cycles_by states (leaves P) (enters P) (row_numbers P m)) (k ∷ rest) k p.rows.0
        (paths_every (leaves P) (enters P) (leaves P k) (row_numbers P m) states entered_within (suc (unleft marks)) (leaves P k) marks (k ∷ []) k rest
        (left-length states (leaves P k)) (omega arith) (inl refl) p)

    -- and they are in ascending order.
    cycles_ascending : Ascending (cycles_through states (leaves P) (enters P) (row_numbers P m))
    unfolding cycles_through Ordered All
    cycles_ascending =
        ordered_ascending _
        (ordered_joined (row_numbers P m) (cycles_by states (leaves P) (enters P) (row_numbers P m)) numbers_increasing
        (λ k.
        let marks = left_only states (leaves P k) in
        paths_ordered (leaves P) (enters P) (leaves P k) (row_numbers P m) (suc (unleft marks)) (leaves P k) marks (k ∷ []) (tt, tt) numbers_increasing)
        by_begin)

    -- So they are a listing.
    pub through_are : IsListing P m (cycles_through states (leaves P) (enters P) (row_numbers P m))
    through_are = record { only = cycles_only; every = cycles_every; ascending = cycles_ascending }

-- The cycles of a machine are its listing.
pub cycles_are : (P : Plant) → WellFormed P → (m : ℕ) → IsListing P m (cycles_of P m)
cycles_are P formed m = through_are P m formed (state_count P m) (le_refl (state_count P m))

-- Marks for more states change nothing, since there is one listing only.
pub same_cycles : (P : Plant) → WellFormed P → (m states : ℕ) → state_count P m ≤ states → cycles_of P m ≡ cycles_through states (leaves P) (enters P) (row_numbers P m)
same_cycles P formed m states enough = one_listing P m _ _ (cycles_are P formed m) (through_are P m formed states enough)

-- ---- other columns

-- Functions that agree on the elements of a list give the same lists joined.
joined_same : (f g : ℕ → List (List ℕ)) (ks : List ℕ) → All (λ k. f k ≡ g k) ks → joined ks f ≡ joined ks g
unfolding joined All
joined_same f g [] h = refl
joined_same f g (k ∷ ks) h = rw (h.0, joined_same f g ks h.1)

-- States left and entered that agree on the rows give the same cycles.
module _ (src dst src' dst' : ℕ → ℕ) (all : List ℕ) (agree : All (λ k. (src k ≡ src' k) × (dst k ≡ dst' k)) all) where
  -- They give the same paths,
  paths_same : (n start at : ℕ) (marks ks : List ℕ) → All (λ k. (src k ≡ src' k) × (dst k ≡ dst' k)) ks
      → paths n src dst all start at marks ks ≡ paths n src' dst' all start at marks ks
  unfolding paths
  paths_same zero start at marks ks h = refl
  paths_same (suc n) start at marks ks h =
      joined_same _ _ ks
      (all_weaken _ _ (λ k e. rw (e.0, e.1, paths_same n start (dst' k) (set marks (dst' k) 1) all agree)) ks h)

  -- so the same cycles.
  pub through_same : (states : ℕ) → cycles_through states src dst all ≡ cycles_through states src' dst' all
  unfolding cycles_through All
  through_same states =
      joined_same _ _ all
      (all_weaken _ _
      (λ k e.
      paths_same (suc (unleft (left_only states (src k)))) (src k) (src k) (left_only states (src k)) (k ∷ []) (e, tt)
      ∙ ap (λ (s : ℕ). paths (suc (unleft (left_only states s))) src' dst' all s s (left_only states s) (k ∷ [])) e.0) all agree)
