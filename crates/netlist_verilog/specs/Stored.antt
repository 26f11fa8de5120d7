-- How a module is stored as a value.
use Rattle.std.specs.Prelude.{ℕ, List, refl}
use Rattle.std.specs.Coded.{Coded, code_by, coded×, coded_ℕ, coded_list}
use Rattle.handshake_eqs.specs.Netlists.{Netlist}
use Rattle.handshake_eqs.specs.StoredNetlist.{netlist_code}
use Rattle.netlist_verilog.specs.Module.{ModuleValue}

-- a module as its names and its netlist
abbrev pub module_code : Coded ModuleValue
module_code = code_by (List (List ℕ) × Netlist) (coded× (coded_list (coded_list coded_ℕ)) netlist_code)
    (λ m. (m.names, m.netlist)) (λ p. record { names = p.0; netlist = p.1 }) (λ _. refl)
