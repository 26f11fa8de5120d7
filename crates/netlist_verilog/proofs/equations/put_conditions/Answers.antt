use Rattle.std.proofs.Common.{◌∙◌, ◌∷◌, []}
use Rattle.handshake_eqs.specs.Netlists.{condition_of}
use Rattle.netlist_verilog.specs.Equations.{condition_equation}
use Rattle.netlist_verilog.proofs.WritingLemmas.{equations_more}
use Rattle.netlist_verilog.proofs.equations.put_conditions.Goals as goal

pub conditions-preserved : goal.conditions-preserved
conditions-preserved c =
    c.in_ok-put_condition.ensures ∙ equations_more c.args.design.now
    (λ v. condition_equation v (condition_of c.args.design.now.netlist v) ∷ []) c.conditions.v _ _
    c.conditions.invariant
