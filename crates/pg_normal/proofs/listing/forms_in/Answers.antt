use Rattle.std.specs.Prelude.{◌+◌, length, [], ◌∷◌, ◌++◌, refl, map}
use Rattle.std.proofs.Common.{ap, ◌∙◌, sym, subst, arith}
use Rattle.pg_text.specs.declared.statement.Statement.TheVariants as statement
use Rattle.pg_normal.specs.declared.normal.Kind.TheVariants as kind
use Rattle.pg_normal.specs.declared.normal.Normal.{Normal}
use Rattle.pg_normal.specs.Normals.{IsBinding, params_in, none_before, AreNormals}
use Rattle.pg_normal.proofs.ListingLemmas.{origin_of, at_first, at_last, origins_at_last}
use Rattle.pg_normal.proofs.StatementLemmas.{known_first, at_match, below_match, at_same, one_more, graph_new, graph_sound, scenario_sound, after_params, after_graph, after_scenario}
use Rattle.pg_normal.proofs.listing.forms_in.Goals as goal
use Rattle.pg_normal.proofs.listing.forms_in.Goals.{in-Params, in-Graph+in_ok-more-in-Graph+in_ok-put_normal-in-Graph, in-Scenario+in_ok-form-in-Scenario+in_ok-put_normal-in-Scenario}

pub statements-init : goal.statements-init
statements-init c = rw c.new-normals.ensures.items (record {
  at = at_first c.len-count.result c.args.file.now c.requires.in_order c.len-i-end.ensures.file c.new-known.result
      (known_first c.args.file.now c.new-known.result c.in_ok-try_clone.field-0 c.args.scope.now c.new-known.ensures c.in_ok-try_clone.ensures c.requires.whole);
  few = omega arith;
})

pub with_graph-requires-clause-sound : goal.with_graph-requires-clause-sound
with_graph-requires-clause-sound c =
    graph_sound c.len-count.result c.args.file.now c.statements.known c.statements.i c.statements.normals.items c.statements.invariant.at c.in-Graph.name c.in-Graph.expr
    (at_match c.args.file.now c.statements.i c.statement.result.now (statement.Graph c.in-Graph.name c.in-Graph.expr) c.statement.ensures.statement c.in-Graph.is)
    (below_match c.args.file.now c.len-count.result c.operations.result.now c.statement.result.now
    (statement.Graph c.in-Graph.name c.in-Graph.expr) c.statement.ensures.numbers c.in-Graph.is
    c.len-count.ensures.len c.operations.ensures)

pub with_graph-requires-clause-new : goal.with_graph-requires-clause-new
with_graph-requires-clause-new c = rw c.as_str.ensures
    (graph_new c.len-count.result c.args.file.now c.statements.known c.statements.i c.statements.normals.items c.statements.invariant.at c.in-Graph.name c.in-Graph.expr
    (at_match c.args.file.now c.statements.i c.statement.result.now (statement.Graph c.in-Graph.name c.in-Graph.expr) c.statement.ensures.statement c.in-Graph.is))

pub form_of-requires-clause-sound : goal.form_of-requires-clause-sound
form_of-requires-clause-sound c =
    scenario_sound c.len-count.result c.args.file.now c.statements.known c.statements.i c.statements.normals.items
    c.statements.invariant.at c.in-Scenario.name c.in-Scenario.expr c.in-Scenario.bindings
    (at_match c.args.file.now c.statements.i c.statement.result.now (statement.Scenario c.in-Scenario.name c.in-Scenario.expr c.in-Scenario.bindings) c.statement.ensures.statement c.in-Scenario.is)
    (below_match c.args.file.now c.len-count.result c.operations.result.now c.statement.result.now
    (statement.Scenario c.in-Scenario.name c.in-Scenario.expr c.in-Scenario.bindings) c.statement.ensures.numbers
    c.in-Scenario.is c.len-count.ensures.len c.operations.ensures)

pub statements-preserved : goal.statements-preserved
statements-preserved c = elim c.match-statement.branch [
  | in-Params w ↦ record {
    at = at_same c.len-count.result c.args.file.now c.statements.known c.match-statement.known
        (c.statements.i + 1) c.statements.normals.items c.match-statement.normals.items w.known-is
        (ap (λ v. v.items) w.normals-is)
        (after_params c.len-count.result c.args.file.now c.statements.known c.statements.i c.statements.normals.items c.statements.invariant.at w.in-Params.names
        (at_match c.args.file.now c.statements.i c.statement.result.now (statement.Params w.in-Params.names) c.statement.ensures.statement w.in-Params.is)
        c.line-line.result c.line-line.ensures);
    few = (let few = c.statements.invariant.few in let same = ap (λ v. length v.items) w.normals-is in omega (arith, few, same));
  }
  | in-Graph+in_ok-more-in-Graph+in_ok-put_normal-in-Graph w ↦
      let x : Normal = record { form = w.in_ok-more-in-Graph.form; binding = w.no_binding.result; origin = record { statement = c.statements.i; line = c.line-line.result; kind = kind.Graph } } in
      let put = ap (λ v. v.items) w.normals-is ∙ w.in_ok-put_normal-in-Graph.ensures in record {
        at =
            at_same c.len-count.result c.args.file.now w.in_ok-more-in-Graph.more c.match-statement.known
            (c.statements.i + 1) (c.statements.normals.items ++ x ∷ []) c.match-statement.normals.items w.known-is put
            (after_graph c.len-count.result c.args.file.now c.statements.known c.statements.i c.statements.normals.items c.statements.invariant.at w.as_str.result.now w.in-Graph.expr
            (at_match c.args.file.now c.statements.i c.statement.result.now
            (statement.Graph w.as_str.result.now w.in-Graph.expr) c.statement.ensures.statement (w.in-Graph.is
            ∙ ap (λ n. statement.Graph n w.in-Graph.expr) (sym w.as_str.ensures)))
            c.line-line.result c.line-line.ensures w.in_ok-more-in-Graph.more x refl w.in_ok-more-in-Graph.ensures.known w.in_ok-more-in-Graph.ensures.params w.in_ok-more-in-Graph.ensures.names
            (λ n other h. w.in_ok-more-in-Graph.ensures.graphs n other h) w.in_ok-more-in-Graph.ensures.orders w.in_ok-more-in-Graph.ensures.form (w.no_binding.ensures (params_in c.args.file.now)));
        few = one_more c.statements.normals.items c.match-statement.normals.items x c.statements.i c.statements.invariant.few put;
      }
  | in-Scenario+in_ok-form-in-Scenario+in_ok-put_normal-in-Scenario w ↦
      let x : Normal =
      record {
        form = w.in_ok-form-in-Scenario.form;
        binding = w.binding_of-binding.result;
        origin = record
            { statement = c.statements.i; line = c.line-line.result; kind = kind.Scenario };
      } in
      let put = ap (λ v. v.items) w.normals-is ∙ w.in_ok-put_normal-in-Scenario.ensures in record {
        at =
            at_same c.len-count.result c.args.file.now c.statements.known c.match-statement.known (c.statements.i + 1)
            (c.statements.normals.items ++ x ∷ []) c.match-statement.normals.items w.known-is put
            (after_scenario c.len-count.result c.args.file.now c.statements.known c.statements.i
            c.statements.normals.items c.statements.invariant.at w.in-Scenario.name w.in-Scenario.expr
            w.in-Scenario.bindings
            (at_match c.args.file.now c.statements.i c.statement.result.now
            (statement.Scenario w.in-Scenario.name w.in-Scenario.expr w.in-Scenario.bindings)
            c.statement.ensures.statement w.in-Scenario.is)
            c.line-line.result c.line-line.ensures x refl w.in_ok-form-in-Scenario.ensures
            (subst (λ bs. IsBinding c.statements.known.params bs w.binding_of-binding.result) w.as_slice.ensures
            w.binding_of-binding.ensures));
        few = one_more c.statements.normals.items c.match-statement.normals.items x c.statements.i c.statements.invariant.few put;
      }
]

pub new-requires : goal.new-requires
new-requires c = let few = c.statements.invariant.few in let end = c.statements.auto.i-end in let small = c.len-i-end.type_inv in omega (arith, few, end, small)

pub returns : goal.returns
returns c = record {
  names = c.requires.in_order;
  forms = subst (AreNormals (params_in c.args.file.now) none_before c.args.file.now.statements) (sym c.new.ensures)
      (at_last c.len-count.result c.args.file.now c.statements.known c.statements.i c.statements.normals.items
      c.statements.invariant.at (omega (arith, c.len-i-end.ensures.len, c.statements-test.false)));
  origins = ap (map origin_of) c.new.ensures
      ∙ origins_at_last c.len-count.result c.args.file.now c.statements.known c.statements.i
      c.statements.normals.items c.statements.invariant.at
      (omega (arith, c.len-i-end.ensures.len, c.statements-test.false));
}
