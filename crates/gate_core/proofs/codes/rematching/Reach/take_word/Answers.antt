use Rattle.std.proofs.Common.{refl}
use Rattle.gate_core.specs.Patterns.{MayHave}
use Rattle.gate_core.proofs.ReachLemmas.{found, moved}
use Rattle.gate_core.proofs.codes.rematching.Reach.take_word.Goals as goal

pub returns-then-not-self-o-clause-reach : goal.returns-then-not-self-o-clause-reach
returns-then-not-self-o-clause-reach c = λ _.
    moved (MayHave c.args.task.now.given.now c.args.task.now.fixed.now) c.args.task.now.top c.args.task.now.count c.args.hole c.args.words.now c.args.self.now.lists c.args.self.now.reached
    c.requires.small c.requires.reach c.requires.words c.args.i c.args.word c.requires.within c.requires.here c.requires.below c.requires.may
    c.in-Some.o c.in-Some.ensures.some c.if-not-self-o.true

pub returns-in-None-clause-all : goal.returns-in-None-clause-all
returns-in-None-clause-all c =
    found (MayHave c.args.task.now.given.now c.args.task.now.fixed.now) c.args.task.now.top c.args.task.now.count c.args.hole c.args.words.now c.args.self.now.lists c.args.self.now.reached
    c.requires.small c.requires.reach c.requires.words c.args.i c.args.word c.requires.within c.requires.here c.requires.below c.requires.may
    (c.in-None.ensures.none refl)
