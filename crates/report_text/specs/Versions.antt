-- The versions of a report's format.
use Rattle.std.specs.Prelude.{ℕ}
use Rattle.report_text.specs.declared.version.Version.{Version}
use Rattle.report_text.specs.declared.version.Version.TheVariants.{One}

-- the number that the first line says
abbrev pub version_number : Version → ℕ
version_number One = 1

-- how many operations there are at most
abbrev pub operation_limit : Version → ℕ
operation_limit One = 64

-- each number of gates is below this: 2 to the power 16, which is more than any first encoding has
abbrev pub gate_limit : Version → ℕ
gate_limit One = 65536
