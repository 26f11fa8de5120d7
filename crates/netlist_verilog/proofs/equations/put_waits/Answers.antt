use Rattle.std.proofs.Common.{◌∙◌}
use Rattle.std.specs.FinSet as set
use Rattle.handshake_eqs.specs.Netlists.{waits_of}
use Rattle.netlist_verilog.specs.Equations.{arc_formula}
use Rattle.netlist_verilog.specs.Rows.{and_text}
use Rattle.netlist_verilog.proofs.WritingLemmas.{pieces_more}
use Rattle.netlist_verilog.proofs.equations.put_waits.Goals as goal

pub waits-preserved : goal.waits-preserved
waits-preserved c =
    c.in_ok-put_wait.ensures ∙ pieces_more (λ u. and_text c.args.design.now
    (set.contains (waits_of c.args.design.now.netlist c.args.v.0) u)
    (arc_formula c.args.v.0 u)) c.waits.u _ _ c.waits.invariant
