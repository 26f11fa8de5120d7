use Rattle.std.proofs.Common.{◌∙◌, ◌∷◌, []}
use Rattle.netlist_verilog.specs.Equations.{gate_at, gate_equation}
use Rattle.netlist_verilog.proofs.WritingLemmas.{equations_more}
use Rattle.netlist_verilog.proofs.equations.put_gates.Goals as goal

pub gates-preserved : goal.gates-preserved
gates-preserved c =
    c.in_ok-put_gate.ensures ∙ equations_more c.args.design.now
    (λ g. gate_equation c.args.design.now.netlist.gates.inputs g
    (gate_at c.args.design.now.netlist.gates g) ∷ []) c.gates.g _ _ c.gates.invariant
