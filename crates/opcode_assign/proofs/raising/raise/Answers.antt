use Rattle.std.proofs.Common.{◌≡◌, sym, subst, arith}
use Rattle.cnf_build.specs.Decoded.{parts_of}
use Rattle.cnf_build.specs.Evidence.{evidence_of}
use Rattle.opcode_assign.specs.declared.raising.Raised.{Raised}
use Rattle.opcode_assign.specs.Searches.{IsAttempt, IsEnd, IsShownBy, Raises}
use Rattle.opcode_assign.proofs.GivenLemmas.{keeps_given}
use Rattle.opcode_assign.proofs.raising.raise.Goals as goal

pub loop-gates-init : goal.loop-gates-init
loop-gates-init c = record { raises = λ operations orders h. h; shown = λ taken h. h; written = λ h. h }

pub returns-in-Found-clause-raises : goal.returns-in-Found-clause-raises
returns-in-Found-clause-raises c =
    subst (λ (r : Raised). Raises c.args.given.now c.args.bits c.args.classes.now.columns c.args.bound.lo (evidence_of c.args.bound.evidence) r.bound.lo (evidence_of r.bound.evidence)) (sym c.at.ensures) c.loop-gates.invariant.raises

pub returns-in-Found-clause-end : goal.returns-in-Found-clause-end
returns-in-Found-clause-end c =
    let found = subst (IsAttempt c.template_for-kind.result c.args.given.now c.args.bits c.args.classes.now.columns c.loop-gates.gates c.args.budget) c.in-Found.is c.in_ok-log.ensures in
    subst (λ (r : Raised). IsEnd c.args.given.now c.args.bits c.args.classes.now.columns r.bound.lo c.args.hi c.args.budget r.end) (sym c.at.ensures)
    (keeps_given c.args.given.now c.args.classes.now.columns c.args.bits (parts_of c.in-Found.decoded.codes.items c.in-Found.decoded.gates c.in-Found.decoded.refs.items) c.template_for-kind.result c.template_for-kind.ensures found.0, found.1, c.loop-gates-test.true)

pub returns-in-Open-clause-raises : goal.returns-in-Open-clause-raises
returns-in-Open-clause-raises c =
    subst (λ (r : Raised). Raises c.args.given.now c.args.bits c.args.classes.now.columns c.args.bound.lo (evidence_of c.args.bound.evidence) r.bound.lo (evidence_of r.bound.evidence)) (sym c.at-in-Open.ensures) c.loop-gates.invariant.raises

pub returns-in-TooLarge-clause-raises : goal.returns-in-TooLarge-clause-raises
returns-in-TooLarge-clause-raises c =
    subst (λ (r : Raised). Raises c.args.given.now c.args.bits c.args.classes.now.columns c.args.bound.lo (evidence_of c.args.bound.evidence) r.bound.lo (evidence_of r.bound.evidence)) (sym c.at-in-TooLarge.ensures) c.loop-gates.invariant.raises

pub returns-clause-raises : goal.returns-clause-raises
returns-clause-raises c =
    let end : c.loop-gates.gates ≡ c.args.hi = omega (arith, c.loop-gates-test.false, c.loop-gates.auto.gates-end c.requires.below) in
    subst (λ (r : Raised). Raises c.args.given.now c.args.bits c.args.classes.now.columns c.args.bound.lo (evidence_of c.args.bound.evidence) r.bound.lo (evidence_of r.bound.evidence)) (sym c.at-2.ensures)
    (subst (λ n. Raises c.args.given.now c.args.bits c.args.classes.now.columns c.args.bound.lo (evidence_of c.args.bound.evidence) n (evidence_of c.loop-gates.evidence)) end c.loop-gates.invariant.raises)

pub returns-in-Found-clause-shown : goal.returns-in-Found-clause-shown
returns-in-Found-clause-shown c = λ taken h.
    subst (λ (r : Raised). IsShownBy c.args.classes.now c.args.given.now c.args.bits c.args.budget taken r.bound.lo (evidence_of r.bound.evidence)) (sym c.at.ensures) (c.loop-gates.invariant.shown taken h)

pub returns-in-Open-clause-shown : goal.returns-in-Open-clause-shown
returns-in-Open-clause-shown c = λ taken h.
    subst (λ (r : Raised). IsShownBy c.args.classes.now c.args.given.now c.args.bits c.args.budget taken r.bound.lo (evidence_of r.bound.evidence)) (sym c.at-in-Open.ensures) (c.loop-gates.invariant.shown taken h)

pub returns-in-TooLarge-clause-shown : goal.returns-in-TooLarge-clause-shown
returns-in-TooLarge-clause-shown c = λ taken h.
    subst (λ (r : Raised). IsShownBy c.args.classes.now c.args.given.now c.args.bits c.args.budget taken r.bound.lo (evidence_of r.bound.evidence)) (sym c.at-in-TooLarge.ensures) (c.loop-gates.invariant.shown taken h)

pub returns-clause-shown : goal.returns-clause-shown
returns-clause-shown c = λ taken h.
    let end : c.loop-gates.gates ≡ c.args.hi = omega (arith, c.loop-gates-test.false, c.loop-gates.auto.gates-end c.requires.below) in
    subst (λ (r : Raised). IsShownBy c.args.classes.now c.args.given.now c.args.bits c.args.budget taken r.bound.lo (evidence_of r.bound.evidence)) (sym c.at-2.ensures)
    (subst (λ n. IsShownBy c.args.classes.now c.args.given.now c.args.bits c.args.budget taken n (evidence_of c.loop-gates.evidence)) end (c.loop-gates.invariant.shown taken h))
