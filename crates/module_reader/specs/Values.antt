-- What the reader's own types stand for.
use Rattle.std.specs.Prelude.{ℕ, Bool, List, map}
use Rattle.module_reader.specs.declared.ports.Ports.{Ports}
use Rattle.module_reader.specs.declared.wires.Declared.{Declared}

-- how many inputs, and the names of the operations
abbrev pub ports_value : Ports → ℕ × List (List ℕ)
ports_value p = (p.inputs, p.names)

-- how many gates, and for each two operations a bit
abbrev pub declared_value : Declared → ℕ × List (List Bool)
declared_value d = (d.gates, map (λ row. row.items) d.arcs.items)
