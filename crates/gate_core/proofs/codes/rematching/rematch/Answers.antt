use Rattle.std.proofs.Common.{refl, ◌∙◌, arith}
use Rattle.std.proofs.Common.{false}
use Rattle.std.proofs.lemmas.Bool.{both_ways}
use Rattle.std.proofs.lemmas.List.{get_or-replicate}
use Rattle.std.proofs.Math.ListN.{length-set}
use Rattle.gate_core.specs.Patterns.{MayHave}
use Rattle.gate_core.proofs.ReachLemmas.{begins_as, tried_more, none_left, closed_now}
use Rattle.gate_core.proofs.codes.rematching.rematch.Goals as goal

pub turns-init : goal.turns-init
turns-init c = record {
  reach = begins_as (MayHave c.args.task.now.given.now c.args.task.now.fixed.now) c.args.task.now.top c.args.task.now.count c.args.hole c.args.words.now c.told-words c.requires.small c.requires.words
      c.new-reach.ensures.lists.0 c.new-reach.ensures.reached.0 c.new-reach.ensures.lists.1 c.new-reach.ensures.reached.1
      c.new-reach.result.lists c.new-reach.result.reached c.new-reach.ensures.lists.2 c.new-reach.ensures.reached.2;
  size = refl;
  tried = λ i p t. absurd (both_ways _ (get_or-replicate 64 i false false (omega (arith, c.requires.small))) t);
}

pub turns-preserved : goal.turns-preserved
turns-preserved c = record {
  reach = c.in_default-try_words.ensures.reach refl;
  size = length-set c.turns.tried c.in-Some.i _ ∙ c.turns.invariant.size;
  tried =
      tried_more (MayHave c.args.task.now.given.now c.args.task.now.fixed.now) c.args.task.now.top
      c.args.task.now.count c.args.hole c.args.words.now c.turns.reach.reached c.try_words.new.self.reached
      c.turns.tried c.in-Some.i
      (c.in_default-try_words.ensures.grows refl) c.turns.invariant.tried (c.in_default-try_words.ensures.tried refl);
}

pub returns-clause-none : goal.returns-clause-none
returns-clause-none c = λ _ other k.
    none_left (MayHave c.args.task.now.given.now c.args.task.now.fixed.now) c.args.task.now.top c.args.task.now.count c.args.hole c.args.words.now other c.turns.reach.lists c.turns.reach.reached
    (omega (arith, c.requires.small)) c.requires.words c.turns.invariant.reach
    (λ i p t. c.turns.invariant.tried i p (c.in_default.ensures.none refl i p t)) k

pub returns-clause-closed : goal.returns-clause-closed
returns-clause-closed c = λ _.
    closed_now (MayHave c.args.task.now.given.now c.args.task.now.fixed.now) c.args.task.now.top c.args.task.now.count c.args.hole c.args.words.now c.turns.reach.lists c.turns.reach.reached
    c.turns.invariant.reach (λ i p t. c.turns.invariant.tried i p (c.in_default.ensures.none refl i p t))
