-- The version of the C interface: HEMTALUQ_VERSION of the header.
use Rattle.std.specs.Prelude.{ℕ}

abbrev pub interface_version : ℕ
interface_version = 7
