use Rattle.std.proofs.Common.{◌∙◌, length}
use Rattle.netlist_verilog.specs.Equations.{arc_equations_from}
use Rattle.netlist_verilog.proofs.WritingLemmas.{equations_more}
use Rattle.netlist_verilog.proofs.equations.put_arcs.Goals as goal

pub firsts-preserved : goal.firsts-preserved
firsts-preserved c =
    c.in_ok-put_arcs_from.ensures ∙ equations_more c.args.design.now
    (λ u. arc_equations_from c.args.design.now.netlist u
    (length c.args.design.now.netlist.conditions)) c.firsts.u _ _ c.firsts.invariant
