-- What is read of a whole text.
use Rattle.std.specs.Prelude.{◌≡◌, ℕ, List}
use Rattle.text_rows.specs.FirstBad.{IsFirstBad}
use Rattle.netlist_verilog.specs.Module.{ModuleValue, IsModule}
use Rattle.netlist_verilog.specs.Rows.{module_lines}
use Rattle.module_reader.specs.declared.module.ModuleFault.{ModuleFault}
use Rattle.module_reader.specs.declared.module.ModuleFault.TheVariants as faults

-- the lines are those of a module
abbrev pub IsModuleText : List (List ℕ) → Type 0
IsModuleText lines = (m : ModuleValue) × IsModule m × (lines ≡ module_lines m)

-- a bad line is the first
abbrev pub IsFaultOf : List (List ℕ) → ModuleFault → Type 0
IsFaultOf lines (faults.BadLine k) = IsFirstBad IsModuleText lines k
IsFaultOf lines faults.Memory = Unit {0}
