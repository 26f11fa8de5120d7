use Rattle.std.proofs.Common.{ap, ◌∙◌, ◌<◌, length, arith}
use Rattle.cpog_base.specs.Names.{with_text}
use Rattle.cpog_base.proofs.NamesLemmas.{with_next}
use Rattle.cpog_base.proofs.names.Names.try_clone.Goals as goal

pub names-preserved : goal.names-preserved
names-preserved c =
    let within : c.names.i < length c.args.self.now = omega (arith, c.names-test.true, c.len-i-end.ensures.len) in
    c.in_ok-insert.ensures.names
    ∙ ap (λ names. with_text names c.get.result.now) c.names.invariant
    ∙ with_next c.args.self.now c.names.i c.get.result.now c.len-i-end.ensures.distinct within c.get.ensures
