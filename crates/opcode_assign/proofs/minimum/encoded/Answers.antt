use Rattle.std.proofs.Common.{◌≡◌, refl, sym, subst}
use Rattle.std.specs.List.{All}
use Rattle.cpog_defs.specs.Gates.{signal_count, IsRefOver}
use Rattle.cpog_merge.specs.ByClass.{IsGraphByClass}
use Rattle.cnf_build.specs.Decoded.{parts_of}
use Rattle.opcode_assign.specs.Searches.{IsEncodedBy}
use Rattle.opcode_assign.proofs.minimum.encoded.Goals as goal

pub new-requires-clause-encoding : goal.new-requires-clause-encoding
new-requires-clause-encoding c =
    let refs : c.deref.result.now ≡ c.args.parts.refs.items = cc in
    let graph = c.in_ok-graph.ensures.graph (signal_count c.args.parts.gates) (subst (All (IsRefOver (signal_count c.args.parts.gates))) (sym refs) c.requires.over) in
    rw graph.ops (record { codes = c.requires.codes; gates = c.requires.gates; graph = graph })

pub returns-clause-encoding : goal.returns-clause-encoding
returns-clause-encoding c =
    let refs : c.deref.result.now ≡ c.args.parts.refs.items = cc in
    let graph = c.in_ok-graph.ensures.graph (signal_count c.args.parts.gates) (subst (All (IsRefOver (signal_count c.args.parts.gates))) (sym refs) c.requires.over) in
    subst (IsEncodedBy c.args.classes.now (parts_of c.args.parts.codes.items c.args.parts.gates c.args.parts.refs.items)) (sym c.new.ensures) (record {
      same = refl;
      is_graph = graph;
      conditions = subst (λ rs. IsGraphByClass c.args.classes.now.count c.args.classes.now rs c.in_ok-graph.graph) refs c.in_ok-graph.ensures.conditions;
    })
