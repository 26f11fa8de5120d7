use Rattle.std.proofs.Common.{◌≡◌, sym, ap, ◌∙◌, length, arith}
use Rattle.cpog_base.specs.PatternLaws.{length-given}
use Rattle.cpog_base.proofs.pattern.Pattern.len.Goals as goal

pub returns : goal.returns
returns c =
    let size : c.self.inside.len ≡ length c.args.self.now = sym (length-given c.self.inside.len c.self.inside.mask c.self.inside.value) ∙ ap length c.self.view_is in
    record { len = size; few = omega (arith, c.self.invariant.few) }
