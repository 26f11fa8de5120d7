use Rattle.std.proofs.Common.{◌≡◌, length, subst, sym, ap, ◌∙◌, arith}
use Rattle.cnf_build.specs.Evidence.{evidence_of, open_of}
use Rattle.cpog_base.specs.Names.{AreDistinct}
use Rattle.cpog_defs.specs.Gates.{GateList}
use Rattle.pg_normal.specs.Denoting.{scenario_names_of}
use Rattle.pg_text.specs.Text.{IsFile}
use Rattle.netlist_verilog.specs.Module.{AreNames}
use Rattle.graph_answers.specs.Synthesis.{free_patterns}
use Rattle.report_judge.specs.Known.{Attains}
use Rattle.graph_answers.proofs.FileNames.{operations_are_names}
use Rattle.graph_answers.proofs.ReportLemmas.{orders_alike, same_count, search_of_equal, report_is_lawful, report_is_synthesis}
use Rattle.graph_answers.proofs.synthesis.report_of.Goals as goal

pub open_assign-requires-clause-scenarios : goal.open_assign-requires-clause-scenarios
open_assign-requires-clause-scenarios c =
    let e = c.args.encodable in
    let is = c.requires.encodable in
    rw c.deref-2.ensures.value (record { some = is.some; few = is.few; alike = orders_alike e.file e.orders.items is.orders is.some; some_bit = is.some_bit; few_bits = is.few_bits })

pub open_assign-requires-clause-few_ops : goal.open_assign-requires-clause-few_ops
open_assign-requires-clause-few_ops c =
    let e = c.args.encodable in
    let file : IsFile e.file = subst IsFile c.file.view_is c.file.invariant in
    rw c.deref-2.ensures.value (omega (arith, same_count e.file e.orders.items c.requires.encodable.orders c.requires.encodable.some, file.1.few_operations))

pub new-design-requires-clause-names : goal.new-design-requires-clause-names
new-design-requires-clause-names c =
    let file : IsFile c.args.encodable.file = subst IsFile c.file.view_is c.file.invariant in
    subst AreNames (sym (c.in_ok-try_clone.ensures ∙ c.into_operations-names.ensures)) (operations_are_names c.args.encodable.file file)

pub new-design-requires-clause-one_name_each : goal.new-design-requires-clause-one_name_each
new-design-requires-clause-one_name_each c =
    let e = c.args.encodable in
    let conditions : length c.in_ok-netlist.netlist.conditions ≡ length c.in_ok-encoding.field-0.encoding.graph.ops = ap length c.in_ok-netlist.ensures.netlist.conditions in
    ap length (c.in_ok-try_clone.ensures ∙ c.into_operations-names.ensures)
    ∙ sym (conditions ∙ c.in_ok-encoding.ensures.encodes.encoding.graph.ops ∙ rw c.deref-2.ensures.value (same_count e.file e.orders.items c.requires.encodable.orders c.requires.encodable.some))

pub new-requires : goal.new-requires
new-requires c =
    let e = c.args.encodable in
    let file : IsFile e.file = subst IsFile c.file.view_is c.file.invariant in
    let distinct : AreDistinct (scenario_names_of e.file) = subst AreDistinct (c.scenario_names.view_is ∙ c.requires.encodable.names) c.scenario_names.invariant.1 in
    let a = c.in_ok-encoding.field-0 in
    let given = c.deref-3.ensures.value ∙ c.in_ok-given.ensures ∙ ap (λ n. free_patterns n e.bits) (ap length c.as_slice.ensures.value) in
    let attained : Attains (length a.encoding.gates.gates) c.bound_of-bound.result =
    subst (λ gates. Attains (length gates) c.bound_of-bound.result) (c.gates-2.ensures.gates ∙ ap (λ (g : GateList). g.gates) c.gates.ensures.gates) c.bound_of-bound.ensures.attained in
    let found = search_of_equal _ e.orders.items _ (free_patterns (length e.orders.items) e.bits) c.deref-2.ensures.value given _ _ _ _ _ _ c.in_ok-encoding.ensures in
    rw (c.requires.encodable.names, c.in_ok-scenarios.ensures, c.deref.ensures.value, c.new-design.ensures, c.in_ok-try_clone.ensures, c.into_operations-names.ensures, c.in_ok-given.ensures, c.as_slice.ensures.value)
    (report_is_lawful c.args.options c.requires.options e c.requires.encodable file distinct a.encoding a.lo (evidence_of a.evidence) (open_of a.open_part) found
    c.bound_of-bound.result c.bound_of-bound.ensures.lower attained c.in_ok-netlist.netlist c.in_ok-netlist.ensures.netlist)

pub returns : goal.returns
returns c =
    let e = c.args.encodable in
    let file : IsFile e.file = subst IsFile c.file.view_is c.file.invariant in
    let distinct : AreDistinct (scenario_names_of e.file) = subst AreDistinct (c.scenario_names.view_is ∙ c.requires.encodable.names) c.scenario_names.invariant.1 in
    let a = c.in_ok-encoding.field-0 in
    let given = c.deref-3.ensures.value ∙ c.in_ok-given.ensures ∙ ap (λ n. free_patterns n e.bits) (ap length c.as_slice.ensures.value) in
    let attained : Attains (length a.encoding.gates.gates) c.bound_of-bound.result =
    subst (λ gates. Attains (length gates) c.bound_of-bound.result) (c.gates-2.ensures.gates ∙ ap (λ (g : GateList). g.gates) c.gates.ensures.gates) c.bound_of-bound.ensures.attained in
    let found = search_of_equal _ e.orders.items _ (free_patterns (length e.orders.items) e.bits) c.deref-2.ensures.value given _ _ _ _ _ _ c.in_ok-encoding.ensures in
    rw (c.new.ensures, c.requires.encodable.names, c.in_ok-scenarios.ensures, c.deref.ensures.value, c.new-design.ensures, c.in_ok-try_clone.ensures, c.into_operations-names.ensures, c.in_ok-given.ensures, c.as_slice.ensures.value)
    (report_is_synthesis c.args.options c.requires.options e c.requires.encodable file distinct a.encoding a.lo (evidence_of a.evidence) (open_of a.open_part) found
    c.bound_of-bound.result c.bound_of-bound.ensures.lower attained c.in_ok-netlist.netlist c.in_ok-netlist.ensures.netlist)
