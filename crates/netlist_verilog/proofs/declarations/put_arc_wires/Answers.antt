use Rattle.std.proofs.Common.{◌∙◌, length}
use Rattle.netlist_verilog.specs.Rows.{arc_wires_from}
use Rattle.netlist_verilog.proofs.WritingLemmas.{wires_more}
use Rattle.netlist_verilog.proofs.declarations.put_arc_wires.Goals as goal

pub firsts-preserved : goal.firsts-preserved
firsts-preserved c =
    c.in_ok-put_arc_wires_from.ensures ∙ wires_more c.args.design.now (λ u. arc_wires_from c.args.design.now.netlist u (length c.args.design.now.netlist.conditions)) c.firsts.u _ _ c.firsts.invariant
