use Rattle.std.proofs.Common.{Err, refl, ap, subst, ◌≡◌, ◌*◌, ◌%◌, ◌^◌, length, take, arith}
use Rattle.gate_core.specs.declared.codes.CodesFault.TheVariants.{Clash}
use Rattle.gate_core.specs.Matching.{IsMatching}
use Rattle.gate_core.specs.Patterns.{MayHave}
use Rattle.gate_core.specs.Least.{AreLeast, IsFirstClash}
use Rattle.gate_core.proofs.CodesLemmas.{least_are_codes}
use Rattle.gate_core.proofs.LeastLemmas.{top_is, least_more, finished}
use Rattle.gate_core.proofs.codes.least_codes.Goals as goal

pub loop-s-preserved : goal.loop-s-preserved
loop-s-preserved c = record {
  words = c.lower-words.ensures.words;
  least = least_more c.args.given.now _ (length c.args.given.now) c.loop-s.fixed c.lower-words.new.fixed c.loop-s.s c.lower-words.ensures.same c.loop-s.invariant.least c.lower-words.ensures.least;
}

pub returns-in-Ok-to_vec-clause-least : goal.returns-in-Ok-to_vec-clause-least
returns-in-Ok-to_vec-clause-least c =
    let ended : c.loop-s.s ≡ length c.args.given.now = omega arith in
    subst (λ top. AreLeast c.args.given.now top c.in-Ok-to_vec.codes.items) (top_is c.args.bits c.requires.bits)
    (finished c.args.given.now (1 * 2 ^ c.args.bits % 65536)
    (length c.args.given.now) c.loop-s.fixed c.loop-s.words c.in-Ok-to_vec.codes.items refl
    (omega (arith, c.requires.few, c.loop-s-test.array_long))
    (subst (λ s. IsMatching (MayHave c.args.given.now (take s c.loop-s.fixed)) (1 * 2 ^ c.args.bits % 65536) (length c.args.given.now) c.loop-s.words) ended c.loop-s.invariant.words)
    (λ other k l. c.loop-s.invariant.least other k (omega (arith, l, ended))) (c.in-Ok-to_vec.ensures.items_if_clones_equal (λ x y same. same)))

pub returns-in-Ok-to_vec-clause-codes : goal.returns-in-Ok-to_vec-clause-codes
returns-in-Ok-to_vec-clause-codes c = (least_are_codes c.args.given.now c.args.bits c.in-Ok-to_vec.codes.items (returns-in-Ok-to_vec-clause-least c)).0

pub returns-in-Ok-to_vec-clause-given : goal.returns-in-Ok-to_vec-clause-given
returns-in-Ok-to_vec-clause-given c = (least_are_codes c.args.given.now c.args.bits c.in-Ok-to_vec.codes.items (returns-in-Ok-to_vec-clause-least c)).1

pub returns-in-Err-clause-clash : goal.returns-in-Err-clause-clash
returns-in-Err-clause-clash c = λ k h.
    let e : c.in-Err.fault ≡ Clash (record { 0 = k }) = cc in
    subst (λ top. IsFirstClash c.args.given.now top k) (top_is c.args.bits c.requires.bits) (c.in-Err.ensures.clash k (ap Err e))
