use Rattle.std.proofs.Common.{refl, subst}
use Rattle.pg_normal.specs.Instances.{IsScenarioOf}
use Rattle.pg_normal.proofs.ChangeLemmas.{one_graph}
use Rattle.pg_normal.proofs.instances.instance.Goals as goal

pub returns-clause-ok : goal.returns-clause-ok
returns-clause-ok c n h agrees = subst (λ g. IsScenarioOf c.args.count g c.in_ok-scenario.scenario)
    (one_graph c.args.form.now c.args.binding.fixed c.args.binding.values c.agreeing.result.0 c.agreeing.ensures
    c.in_default.ensures c.args.binding.values n c.requires.values h (λ k small bound. refl) agrees)
    c.in_ok-scenario.ensures
