use Rattle.std.proofs.Common.{◌∙◌}
use Rattle.handshake_eqs.specs.Netlists.{wire_of}
use Rattle.netlist_verilog.specs.Equations.{arc_equation}
use Rattle.netlist_verilog.proofs.WritingLemmas.{equations_more}
use Rattle.netlist_verilog.proofs.equations.put_arcs_from.Goals as goal

pub seconds-preserved : goal.seconds-preserved
seconds-preserved c = c.in_ok-put_arc.ensures ∙ equations_more c.args.design.now (λ v. arc_equation c.args.u.0 v (wire_of c.args.design.now.netlist c.args.u.0 v)) c.seconds.v _ _ c.seconds.invariant
