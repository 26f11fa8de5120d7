use Rattle.std.proofs.Common.{sym, subst, ◌∙◌}
use Rattle.handshake_eqs.specs.Netlists.{IsNetlistOf}
use Rattle.handshake_eqs.proofs.EncodedLemmas.{netlist_of_parts}
use Rattle.handshake_eqs.proofs.NetlistLemmas.{agrees_over_runs}
use Rattle.handshake_eqs.proofs.encoded.equations.Goals as goal

pub from_parts-requires : goal.from_parts-requires
from_parts-requires c =
    (netlist_of_parts c.args.encoding.now c.in_ok-waits.waits.items c.graph-graph.ensures.encoding c.graph-graph.ensures.few c.graph-graph.ensures.graph
    (c.in_ok-gates.ensures ∙ c.gates.ensures.gates) c.in_ok-conditions.ensures c.in_ok-wires.ensures c.in_ok-waits.ensures.len c.in_ok-waits.ensures.each).netlist

pub returns-clause-netlist : goal.returns-clause-netlist
returns-clause-netlist c =
    subst (IsNetlistOf c.args.encoding.now) (sym c.from_parts.ensures)
    (netlist_of_parts c.args.encoding.now c.in_ok-waits.waits.items c.graph-graph.ensures.encoding c.graph-graph.ensures.few c.graph-graph.ensures.graph
    (c.in_ok-gates.ensures ∙ c.gates.ensures.gates) c.in_ok-conditions.ensures c.in_ok-wires.ensures c.in_ok-waits.ensures.len c.in_ok-waits.ensures.each)

pub returns-clause-agrees : goal.returns-clause-agrees
returns-clause-agrees c = agrees_over_runs c.args.encoding.now c.from_parts.result c.graph-graph.ensures.encoding (subst (IsNetlistOf c.args.encoding.now) (sym c.from_parts.ensures)
    (netlist_of_parts c.args.encoding.now c.in_ok-waits.waits.items c.graph-graph.ensures.encoding c.graph-graph.ensures.few c.graph-graph.ensures.graph
    (c.in_ok-gates.ensures ∙ c.gates.ensures.gates) c.in_ok-conditions.ensures c.in_ok-wires.ensures c.in_ok-waits.ensures.len c.in_ok-waits.ensures.each))
