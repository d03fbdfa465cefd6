-- Laws of the rows of a table and the plant that it holds.
use mathlib.Core.Path.{◌≡◌, refl, ◌∙◌}
use mathlib.Core.List.{List, [], ◌∷◌, ◌++◌, map, map-append}
use Prim.Native.Nat.{ℕ, zero, suc, ◌+◌, ◌<◌}
use native.Mathlib.Nat.{not-suc-le-zero}
use native.Mathlib.Decide.{ℕ_discrete}
use native.Mathlib.Numerals.{add-one}
use native.Mathlib.Omega.{arith}
use lib.ListN.{length, take, get_or, set, length-map, get_or-append}
use lib.Seq.{take-suc-set, get_or_at}
use Rattle.livelock.specs.Lists.{below, All}
use Rattle.livelock.specs.Plants.{Row, row_at, no_row, has_progress}
use Rattle.livelock.proofs.ListLaws.{all_below}
use Rattle.livelock.proofs.Pigeonhole.{below_length}
use Rattle.plant.specs.Reading.{with_row, with_machine}
use Rattle.tables.specs.Tables.{row_in, row_of, plant_in, Stored}
use Rattle.tables.specs.declared.TableRow.{TableRow}

-- The first n rows of a table are n.
pub rows_in : (table : List ℕ) (n : ℕ) → length (map (row_in table) (below n)) ≡ n
rows_in table n = length-map (below n) (row_in table) ∙ below_length n

map_equal : {A : Type 0} (f g : ℕ → A) (ks : List ℕ) → All (λ k. f k ≡ g k) ks → map f ks ≡ map g ks
unfolding All
map_equal f g [] h = refl
map_equal f g (k ∷ ks) h = rw (h.0, map_equal f g ks h.1)

get_d_map_below : {A : Type 0} (f : ℕ → A) (d : A) (n k : ℕ) → k < n → get_or (map f (below n)) k d ≡ f k
unfolding below
get_d_map_below f d zero k l = absurd (not-suc-le-zero l)
get_d_map_below f d (suc n) k l = rw (map-append f (below n) (n ∷ [])) (go (ℕ_discrete k n) (get_d_map_below f d n k))
  where
    long : length (map f (below n)) ≡ n
    long = length-map (below n) f ∙ below_length n

    go : Dec (k ≡ n) → (k < n → get_or (map f (below n)) k d ≡ f k) → get_or (map f (below n) ++ (f n ∷ [])) k d ≡ f k
    go (yes e) earlier = rw e (get_or_at (map f (below n)) (f n) [] d n long)
    go (no e) earlier =
        let h : k < n = omega arith in
        get_or-append (map f (below n)) (f n ∷ []) d k (omega (arith, long)) ∙ earlier h

-- The plant's row k is the table's.
pub row_is : (types : ℕ) (states : List ℕ) (rows : ℕ) (table : List ℕ) (k : ℕ) → k < rows → row_at (plant_in types states rows table) k ≡ row_in table k
row_is types states rows table k l = get_d_map_below (row_in table) no_row rows k l

-- The mark of a value of `row_in` says whether its row has progress. Nothing else above the theory looks into `has_progress`.
pub row_progress : (r : TableRow) → r.fields.progress ≡ has_progress (row_of r)
unfolding has_progress
row_progress r = refl

-- A row is stored behind the others: there is one row more,
pub rows_stored : {k : ℕ} {r : Row} {before after : List ℕ} → Stored k r before after → map (row_in after) (below (k + 1)) ≡ map (row_in before) (below k) ++ (r ∷ [])
unfolding below
rows_stored {k} {r} {before} {after} h =
    rw (
      add-one k,
      map-append (row_in after) (below k) (k ∷ []),
      map_equal (row_in after) (row_in before) (below k) (all_below _ k (λ i l. h.others i (λ e. omega arith))),
      h.stored,
    )

-- in the plant as well.
pub with_row_lem : {k : ℕ} {r : Row} {before after : List ℕ} → Stored k r before after → (types : ℕ) (states : List ℕ)
    → plant_in types states (k + 1) after ≡ with_row (plant_in types states k before) r
with_row_lem h types states = λ i. record { types = types; states = states; rows = rows_stored h i }

-- A machine's count of states is stored behind the others: the plant has one machine more.
pub with_machine_lem : (types m states rows : ℕ) (all table : List ℕ) → m < length all
    → plant_in types (take (m + 1) (set all m states)) rows table ≡ with_machine (plant_in types (take m all) rows table) states
with_machine_lem types m states rows all table l = rw (add-one m, take-suc-set)
