-- The answers of `solve` to a text: one answer, or finds.
use Rattle.std.proofs.Common.{◌≡◌, ℕ, List, Some, sym, ap, ◌∙◌, arith, inl, inr}
use Rattle.cpog_base.specs.declared.status.Status.{Status}
use Rattle.cpog_base.specs.declared.status.Status.TheVariants as status
use Rattle.clause_arena.specs.Clauses.{Clause}
use Rattle.text_rows.specs.FirstBad.{IsFirstBad}
use Rattle.text_rows.specs.Lines.{free_lines}
use Rattle.text_rows.proofs.WritingLemmas.{bad_lines_told}
use Rattle.dimacs_text.proofs.OneTextLemmas.{one_formula}
use Rattle.dimacs_text.specs.Formulas.{SpellsFormula}
use Rattle.dimacs_text.specs.Texts.{IsFormulaText}
use Rattle.refusal_lines.specs.declared.refusal.Refusal.TheVariants as refusal
use Rattle.refusal_lines.specs.Refusal.{refusal_text}
use Rattle.formula_answers.specs.Solved.{IsSolveAnswer, SpellFormula}
use Rattle.refusal_lines.specs.Alike.{AreOneOrFound}

module _ (budget : ℕ) (bytes : List ℕ) where
  not_bad : (line v : ℕ) (cs : List Clause) → IsFirstBad IsFormulaText (free_lines bytes) line → SpellsFormula (free_lines bytes) v cs → ⊥
  not_bad line v cs first spells = (bad_lines_told IsFormulaText).0 (free_lines bytes) line first (v, cs, spells)

  -- two answers are one, or each is a find
  pub solve_answers_alike : (s t : Status) (x y : List ℕ) → IsSolveAnswer budget bytes s x → IsSolveAnswer budget bytes t y → AreOneOrFound (λ k. k ≡ status.Ok) s x t y
  solve_answers_alike s t x y (inl (inl h)) (inl (inl k)) = inl (
    h.0 ∙ sym k.0,
    h.1.output_is ∙ (ap (λ line. refusal_text (refusal.Text line)) ((bad_lines_told IsFormulaText).1 (free_lines bytes) h.1.line k.1.line h.1.first k.1.first) ∙ sym k.1.output_is),
  )
  solve_answers_alike s t x y (inl (inl h)) (inl (inr k)) = absurd (not_bad h.1.line k.1.variables k.1.clauses h.1.first k.1.spells)
  solve_answers_alike s t x y (inl (inl h)) (inr k) = absurd (not_bad h.1.line k.1.variables k.1.clauses h.1.first k.1.spells)
  solve_answers_alike s t x y (inl (inr h)) (inl (inl k)) = absurd (not_bad k.1.line h.1.variables h.1.clauses k.1.first h.1.spells)
  solve_answers_alike s t x y (inl (inr h)) (inl (inr k)) = inl (h.0 ∙ sym k.0, h.1.output_is ∙ sym k.1.output_is)
  solve_answers_alike s t x y (inl (inr h)) (inr k) =
      let same = one_formula (free_lines bytes) h.1.variables k.1.variables h.1.clauses k.1.clauses h.1.spells k.1.spells in
      absurd (omega (arith, same.0, h.1.many, k.1.few))
  solve_answers_alike s t x y (inr h) (inl (inl k)) = absurd (not_bad k.1.line h.1.variables h.1.clauses k.1.first h.1.spells)
  solve_answers_alike s t x y (inr h) (inl (inr k)) =
      let same = one_formula (free_lines bytes) h.1.variables k.1.variables h.1.clauses k.1.clauses h.1.spells k.1.spells in
      absurd (omega (arith, same.0, k.1.many, h.1.few))
  solve_answers_alike s t x y (inr h) (inr k) = inr (h.0, k.0)

  -- the answer has status 0 where the bytes spell a formula of few variables
  pub solve_is_ok : SpellFormula bytes → (s : Status) (x : List ℕ) → IsSolveAnswer budget bytes s x → s ≡ status.Ok
  solve_is_ok good s x (inl (inl h)) = absurd (not_bad h.1.line good.variables good.clauses h.1.first good.spells)
  solve_is_ok good s x (inl (inr h)) =
      let same = one_formula (free_lines bytes) h.1.variables good.variables h.1.clauses good.clauses h.1.spells good.spells in
      absurd (omega (arith, same.0, h.1.many, good.few))
  solve_is_ok good s x (inr h) = h.0
