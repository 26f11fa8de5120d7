use Rattle.std.proofs.Common.{arith, sym, subst}
use Rattle.cpog_defs.specs.Graphs.{IsGraph}
use Rattle.cpog_merge.proofs.GraphLemmas.{square_by_class, set_conditions, by_class_is_graph}
use Rattle.cpog_merge.proofs.conditions.graph_by_class.Goals as goal

pub returns-clause-conditions : goal.returns-clause-conditions
returns-clause-conditions c =
    let set = c.loop-u.invariant in
    set_conditions c.args.list.now c.args.refs.now c.loop-u.graph c.loop-u.u (omega (arith, c.loop-u-test.false, c.operations-count.ensures.operations)) set.ops set.done

pub returns-clause-value : goal.returns-clause-value
returns-clause-value c =
    square_by_class c.args.list.now c.args.refs.now c.loop-u.graph c.count-count.ensures.square c.loop-u.invariant.count (returns-clause-conditions c)

pub returns-clause-graph : goal.returns-clause-graph
returns-clause-graph c = λ signals over. subst (IsGraph c.args.list.now.count signals) (sym (returns-clause-value c)) (by_class_is_graph signals c.args.list.now c.args.refs.now over).0
