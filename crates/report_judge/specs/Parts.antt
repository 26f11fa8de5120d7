-- The parts of a report that are tested, in the order in which they are tested.
use Rattle.std.specs.Prelude.{ℕ}

-- the parts on the scenarios, the codes, the conditions, the module, the number of gates, the evidence, and what is left open
pub data Part : Type 0 where
  Acyclic : Part
  Different : Part
  Codes : Part
  Given : Part
  Fitting : Part
  Netlist : Part
  Count : Part
  Evidence : Part
  Shown : Part
  Open : Part
  Followed : Part
  Long : Part

-- the place of a part in this order
abbrev pub place : Part → ℕ
place Part.Acyclic = 0
place Part.Different = 1
place Part.Codes = 2
place Part.Given = 3
place Part.Fitting = 4
place Part.Netlist = 5
place Part.Count = 6
place Part.Evidence = 7
place Part.Shown = 8
place Part.Open = 9
place Part.Followed = 10
place Part.Long = 11
