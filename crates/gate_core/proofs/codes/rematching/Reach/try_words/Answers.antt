use Rattle.std.proofs.Common.{refl, sym, subst, arith}
use Rattle.gate_core.specs.declared.codes.rematching.Reach.{Reach}
use Rattle.gate_core.specs.Matching.{IsReach, Grows, IsOwned}
use Rattle.gate_core.specs.Patterns.{MayHave}
use Rattle.gate_core.proofs.ReachLemmas.{more_words}
use Rattle.std.proofs.lemmas.Bool.{both_ways}
use Rattle.gate_core.proofs.codes.rematching.Reach.try_words.Goals as goal
use Rattle.gate_core.proofs.codes.rematching.Reach.try_words.Goals.{then-may_have+in_default, else-may_have}

pub loop-word-preserved : goal.loop-word-preserved
loop-word-preserved c = elim c.if-may_have.branch [
  | then-may_have+in_default w ↦ record {
    reach =
        subst (λ (s : Reach). IsReach (MayHave c.args.task.now.given.now c.args.task.now.fixed.now)
        c.args.task.now.top c.args.task.now.count c.args.hole c.args.words.now s.lists s.reached) (sym w.self-is)
        (w.in_default.ensures.reach refl);
    grows = λ i t. subst (λ (s : Reach). Grows c.loop-word.self.reached s.reached) (sym w.self-is) (w.in_default.ensures.grows refl) i (c.loop-word.invariant.grows i t);
    tried =
        more_words (MayHave c.args.task.now.given.now c.args.task.now.fixed.now) c.args.task.now.top
        c.args.task.now.count c.args.hole c.args.words.now c.loop-word.self.reached c.if-may_have.self.reached
        c.args.i c.loop-word.word
        (subst (λ (s : Reach). Grows c.loop-word.self.reached s.reached) (sym w.self-is) (w.in_default.ensures.grows refl))
        c.loop-word.invariant.tried
        (λ _. subst (λ (s : Reach). IsOwned c.args.task.now.count c.args.hole c.args.words.now s.reached c.loop-word.word) (sym w.self-is) (w.in_default.ensures.owned refl));
  }
  | else-may_have w ↦ record {
    reach =
        subst (λ (s : Reach). IsReach (MayHave c.args.task.now.given.now c.args.task.now.fixed.now)
        c.args.task.now.top c.args.task.now.count c.args.hole c.args.words.now s.lists s.reached)
        (sym w.self-is) c.loop-word.invariant.reach;
    grows = subst (λ (s : Reach). Grows c.args.self.now.reached s.reached) (sym w.self-is) c.loop-word.invariant.grows;
    tried =
        more_words (MayHave c.args.task.now.given.now c.args.task.now.fixed.now) c.args.task.now.top
        c.args.task.now.count c.args.hole c.args.words.now c.loop-word.self.reached c.if-may_have.self.reached
        c.args.i c.loop-word.word
        (subst (λ (s : Reach). Grows c.loop-word.self.reached s.reached) (sym w.self-is) (λ _ t. t))
        c.loop-word.invariant.tried
        (λ may. absurd (both_ways _ w.if-may_have.false (c.may_have.ensures.1 may)));
  }
]

pub loop-word-init : goal.loop-word-init
loop-word-init c = record {
  reach = c.requires.reach;
  grows = λ _ t. t;
  tried = λ w below l may. absurd (omega (arith, l, (c.range-first.ensures.within w below may).0));
}

pub returns-clause-tried : goal.returns-clause-tried
returns-clause-tried c = λ _ w below may. c.loop-word.invariant.tried w below (omega (arith, (c.range-first.ensures.within w below may).1, c.loop-word-test.false)) may
