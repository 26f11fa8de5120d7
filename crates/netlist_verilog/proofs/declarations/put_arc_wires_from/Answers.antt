use Rattle.std.proofs.Common.{◌∙◌}
use Rattle.handshake_eqs.specs.Netlists.{wire_of}
use Rattle.netlist_verilog.specs.Rows.{arc_wire}
use Rattle.netlist_verilog.proofs.WritingLemmas.{wires_more}
use Rattle.netlist_verilog.proofs.declarations.put_arc_wires_from.Goals as goal

pub seconds-preserved : goal.seconds-preserved
seconds-preserved c = c.in_ok-put_arc_wire.ensures ∙ wires_more c.args.design.now (λ v. arc_wire c.args.u.0 v (wire_of c.args.design.now.netlist c.args.u.0 v)) c.seconds.v _ _ c.seconds.invariant
