use Rattle.std.proofs.Common.{List, Bool, false, ap, refl, sym, subst, ◌∙◌, length, take, arith}
use Rattle.std.proofs.lemmas.Bool.{both_ways}
use Rattle.std.proofs.lemmas.List.{take-set, get_or-replicate}
use Rattle.gate_core.specs.Matching.{IsMatching, IsTight}
use Rattle.gate_core.specs.Patterns.{MayHave}
use Rattle.gate_core.proofs.LeastLemmas.{word_more, more_fixed, but_s, tight_after, word_blocked}
use Rattle.gate_core.proofs.codes.lower.Goals as goal
use Rattle.gate_core.proofs.codes.lower.Goals.{then-not-is_blocked+in_default, else-not-is_blocked}

pub returns-clause-words : goal.returns-clause-words
returns-clause-words c =
    more_fixed c.args.given.now c.args.top (length c.args.given.now) c.loop-word.fixed c.args.words.now c.args.s _ (omega (arith, c.told-fixed)) c.requires.within
    (subst (λ xs. IsMatching (MayHave c.args.given.now xs) c.args.top (length c.args.given.now) c.args.words.now) (sym c.loop-word.invariant.same) c.requires.words) refl

pub loop-word-init : goal.loop-word-init
loop-word-init c = record {
  same = refl;
  tried = λ other m l. absurd (omega (arith, l));
  blocked = λ i w l off t below may. absurd (both_ways _ (get_or-replicate 64 i false false (omega (arith, c.requires.few, l))) t);
}

pub rematch-requires-clause-words : goal.rematch-requires-clause-words
rematch-requires-clause-words c =
    but_s c.args.given.now c.args.top (length c.args.given.now) c.args.fixed.now c.loop-word.fixed c.args.words.now
    c.args.s c.loop-word.word (omega (arith, c.told-fixed, c.requires.few, c.requires.within))
    (omega (
      arith,
      c.told-fixed,
      c.requires.few,
      c.requires.within,
    )) c.requires.within c.loop-word.invariant.same c.requires.words

pub loop-word-preserved : goal.loop-word-preserved
loop-word-preserved c = elim c.if-not-is_blocked.branch [
  | then-not-is_blocked+in_default w ↦ record {
    same = ap (take c.args.s) w.fixed-is ∙ take-set c.loop-word.fixed c.args.s c.loop-word.word ∙ c.loop-word.invariant.same;
    tried =
        word_more c.args.given.now c.args.top (length c.args.given.now) c.args.fixed.now c.loop-word.fixed c.args.s
        c.loop-word.word (omega (arith, c.told-fixed)) c.requires.within c.loop-word.invariant.same
        c.loop-word.invariant.tried (w.in_default.ensures.none refl);
    blocked = subst (λ (ms : List Bool). IsTight (MayHave c.args.given.now (take c.args.s c.args.fixed.now)) c.args.top (length c.args.given.now) c.args.s c.args.words.now ms) (sym w.marks-is)
        (tight_after c.args.given.now c.args.top
        (length c.args.given.now) c.args.fixed.now c.loop-word.fixed c.args.words.now c.args.s c.loop-word.word
        (omega (arith, c.told-fixed, c.requires.few, c.requires.within))
        (omega (
          arith,
          c.told-fixed,
          c.requires.few,
          c.requires.within,
        )) c.requires.within c.loop-word.invariant.same _ (w.in_default.ensures.closed refl));
  }
  | else-not-is_blocked w ↦ record {
    same = ap (take c.args.s) w.fixed-is ∙ c.loop-word.invariant.same;
    tried =
        word_more c.args.given.now c.args.top (length c.args.given.now) c.args.fixed.now c.loop-word.fixed c.args.s
        c.loop-word.word (omega (
          arith,
          c.if-not-is_blocked.array_long,
          ap length w.fixed-is,
          c.requires.few,
          c.requires.within,
        )) c.requires.within c.loop-word.invariant.same
        c.loop-word.invariant.tried
        (word_blocked c.args.given.now c.args.top
        (length c.args.given.now) c.args.fixed.now c.loop-word.fixed c.args.words.now c.args.s c.loop-word.word
        (omega (arith, c.if-not-is_blocked.array_long, ap length w.fixed-is, c.requires.few, c.requires.within))
        (omega (
          arith,
          c.told-fixed,
          c.requires.few,
          c.requires.within,
        )) c.requires.within c.loop-word.invariant.same c.loop-word.marks c.requires.few
        c.told-words c.requires.words c.loop-word.invariant.blocked
        (c.is_blocked.ensures w.if-not-is_blocked.false));
    blocked =
        subst (λ (ms : List Bool). IsTight (MayHave c.args.given.now (take c.args.s c.args.fixed.now)) c.args.top
        (length c.args.given.now) c.args.s c.args.words.now ms) (sym w.marks-is) c.loop-word.invariant.blocked;
  }
]
