use Rattle.std.proofs.Common.{refl, ap, ap₂, ◌∙◌}
use Rattle.gate_template.specs.Counts.{selections}
use Rattle.gate_template.specs.Counts.{all_defined}
use Rattle.cnf_build.proofs.TotalLemmas.{variables_total, clauses_total, literals_total}
use Rattle.cnf_build.proofs.size.template_size.Goals as goal

pub returns-clause-variables : goal.returns-clause-variables
returns-clause-variables c =
    let given = c.args.given.now in
    let columns = c.args.classes.now.columns in
    c.variables_of.ensures ∙ variables_total c.args.kind given c.args.bits c.args.gates columns c.requires _ _ _ _ _ _ _ _
    refl c.from.ensures c.from-2.ensures (c.from-3.ensures ∙ c.count.ensures.count) (c.scenario_pairs.ensures.count)
    (c.selections_of.ensures.count ∙ ap₂ selections c.from-4.ensures c.from-5.ensures) (c.all_defined_entries.ensures.count ∙ ap all_defined c.columns.ensures.columns) c.further_size.ensures.count

pub returns-clause-clauses : goal.returns-clause-clauses
returns-clause-clauses c =
    let given = c.args.given.now in
    let columns = c.args.classes.now.columns in
    c.clauses_of.ensures ∙ clauses_total c.args.kind given c.args.bits c.args.gates columns c.requires _ _ _ _ _ _ _ _
    refl c.from.ensures c.from-2.ensures (c.from-3.ensures ∙ c.count.ensures.count) (c.scenario_pairs.ensures.count)
    (c.selections_of.ensures.count ∙ ap₂ selections c.from-4.ensures c.from-5.ensures) (c.all_defined_entries.ensures.count ∙ ap all_defined c.columns.ensures.columns) c.further_size.ensures.count

pub returns-clause-literals : goal.returns-clause-literals
returns-clause-literals c =
    let given = c.args.given.now in
    let columns = c.args.classes.now.columns in
    c.literals_of.ensures ∙ literals_total c.args.kind given c.args.bits c.args.gates columns c.requires _ _ _ _ _ _ _ _
    refl c.from.ensures c.from-2.ensures (c.from-3.ensures ∙ c.count.ensures.count) (c.scenario_pairs.ensures.count)
    (c.selections_of.ensures.count ∙ ap₂ selections c.from-4.ensures c.from-5.ensures) (c.all_defined_entries.ensures.count ∙ ap all_defined c.columns.ensures.columns) c.further_size.ensures.count
