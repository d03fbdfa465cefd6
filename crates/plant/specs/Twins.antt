-- Twin rows (document 02, L4): number 26, of a file and of the writer's list.
use Rattle.std.specs.Prelude.{Bool, true, false, ◌&&◌, ◌||◌, cond, List, [], ◌∷◌, ℕ, eqb, Option, None, Some}
use Rattle.std.specs.Bool.{beq}
use Rattle.livelock.specs.Plants.{Row}
use Rattle.plant.specs.Found.{Found, found, fault}

-- The same type, or no type both times.
abbrev pub same_type : Option ℕ → Option ℕ → Bool
same_type None None = true
same_type None (Some u) = false
same_type (Some t) None = false
same_type (Some t) (Some u) = eqb t u

-- "equal to an earlier row of its machine in both states, type sent, type taken and progress": the rows as they were read, "however its
-- fields were left out".
abbrev pub same_row : Row → Row → Bool
same_row q r =
    eqb q.machine r.machine && (eqb q.left r.left && (eqb q.entered r.entered
    && (same_type q.sent r.sent && (same_type q.taken r.taken && beq q.progress r.progress))))

-- "A row equal to an earlier row": one of the earlier rows is the same.
abbrev pub has_twin : Row → List Row → Bool
has_twin r [] = false
has_twin r (q ∷ earlier) = same_row q r || has_twin r earlier

-- "It refuses with 26, at the map byte of the second row, after that row's own fields are judged and before the next byte is read; the writer
-- does so after the row's last number is judged, at its first": what was found of a row that begins at an offset, or at an index.
abbrev pub unless_twin : List Row → ℕ → Found Row → Found Row
unless_twin earlier at (found r next) = cond (has_twin r earlier) (fault 26 at) (found r next)
unless_twin earlier at (fault number place) = fault number place
