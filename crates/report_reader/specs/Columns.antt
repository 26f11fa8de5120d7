-- What scenarios say, each kind for itself.
use Rattle.report_reader.specs.declared.scenarios.Scenarios.{Scenarios}
use Rattle.report_reader.specs.Scenarios.{Columns}

-- what all scenarios say, as clauses see it
abbrev pub columns_of : Scenarios → Columns
columns_of s = record { names = s.names; codes = s.codes.items; patterns = s.given.items; scenarios = s.scenarios.items }
