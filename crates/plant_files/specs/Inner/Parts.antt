-- A plant while it is read or written.
use Rattle.std.specs.Prelude.{List, ◌++◌}
use Rattle.livelock.specs.Plants.{Row, Plant}

-- A plant with more rows.
abbrev pub with_rows : Plant → List Row → Plant
with_rows p rs = record { types = p.types; states = p.states; rows = p.rows ++ rs }
