use Rattle.std.proofs.Common.{◌≡◌, ℕ, suc, ◌-◌, ◌+◌, sym, ap, ◌∙◌, arith}
use Rattle.module_reader.specs.Lists.{names_run}
use Rattle.module_reader.proofs.NameSteps.{names_none, match_none}
use Rattle.module_reader.proofs.lists.names_of.Goals as goal

pub returns-in_default : goal.returns-in_default
returns-in_default c =
    let n : 128 - c.loop-index.index ≡ suc (128 - (c.loop-index.index + 1)) = omega (arith, c.loop-index-test.true) in
    sym (match_none c.in_ok-more.field-0 _ _ c.in_ok-more.ensures.next c.in_default.is (128 - (c.loop-index.index + 1))) ∙ ap (λ (k : ℕ). names_run k c.loop-index.names c.loop-index.rest.now) (sym n) ∙ c.loop-index.invariant.1

pub returns : goal.returns
returns c = sym (names_none c.loop-index.names (128 - c.loop-index.index) c.loop-index.rest.now (omega (arith, c.loop-index-test.false))) ∙ c.loop-index.invariant.1
