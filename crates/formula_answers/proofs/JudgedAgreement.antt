-- A formula and a log have one answer.
use Rattle.std.proofs.Common.{◌≡◌, ℕ, zero, suc, ◌<◌, ◌≤◌, List, [], ◌∷◌, length, sym, ap, ap₂, ◌∙◌, subst, arith, inl, inr}
use Rattle.std.specs.Prelude.{take}
use Rattle.std.proofs.lemmas.Bool.{cases_lt}
use Rattle.clause_arena.specs.Clauses.{Clause}
use Rattle.cpog_base.specs.declared.limits.TheConstants.{VARIABLE_LIMIT}
use Rattle.cpog_base.specs.declared.status.Status.{Status}
use Rattle.cpog_base.specs.declared.status.Status.TheVariants as status
use Rattle.dimacs_text.specs.Texts.{IsJoinedText}
use Rattle.dimacs_text.proofs.OneTextLemmas.{one_joined}
use Rattle.proof_check.specs.Lines.{Line, line_at}
use Rattle.proof_check.specs.Following.{Live, after, first_live, live_after, AllFollow, LineFollows, HasEmpty, Refutes, IsFirstBreak}
use Rattle.proof_check.proofs.RefuteLemmas.{breaks_not, one_break}
use Rattle.text_rows.specs.Lines.{free_lines}
use Rattle.text_rows.proofs.WritingLemmas.{bad_lines_told}
use Rattle.refusal_lines.specs.declared.refusal.Refusal.TheVariants as refusal
use Rattle.formula_answers.specs.Judged.{Spell, IsBadRowAnswer, IsWideAnswer, IsRefutedAnswer, IsBreakAnswer, IsOpenAnswer, IsJoinedRefusal, IsNoAnswer, IsLratAnswer, SpellRefutation}
use Rattle.refusal_lines.specs.Refusal.{refusal_text, At}
use Rattle.refusal_lines.proofs.Causes.{Cause, IsOne, AreApart, either, one_at, one_either}

-- ---- lines that follow

-- of lines that follow, each does behind those before it
follow_at : (v n : ℕ) (live : Live) (lines : List Line) (k : ℕ) → k < length lines → AllFollow v n live lines → LineFollows v n (live_after live (take k lines)) (line_at lines k)
follow_at v n live [] k below h = absurd (omega (arith, below))
follow_at v n live (l ∷ ls) zero below h = h.0
follow_at v n live (l ∷ ls) (suc k) below h = follow_at v n (after live l) ls k (omega (arith, below)) h.1

-- the same of the lines before another one
follow_before : (v n : ℕ) (live : Live) (lines : List Line) (k m : ℕ) → k < m → k < length lines → AllFollow v n live (take m lines) → LineFollows v n (live_after live (take k lines)) (line_at lines k)
follow_before v n live [] k m less below h = absurd (omega (arith, below))
follow_before v n live (l ∷ ls) k zero less below h = absurd (omega (arith, less))
follow_before v n live (l ∷ ls) zero (suc m) less below h = h.0
follow_before v n live (l ∷ ls) (suc k) (suc m) less below h = follow_before v n (after live l) ls k m (omega (arith, less)) (omega (arith, below)) h.1

module _ (v : ℕ) (formula : List Clause) (log : List Line) where
  -- lines that follow have no first one that doesn't
  follow_or_break : (line hint : ℕ) → IsFirstBreak v formula log line hint → AllFollow v (length formula) (first_live formula) log → ⊥
  follow_or_break zero hint h all = h
  follow_or_break (suc k) hint h all =
      breaks_not v (length formula) (live_after (first_live formula) (take k log)) (line_at log k) hint h.2 (follow_at v (length formula) (first_live formula) log k h.0 all)

  not_earlier : (j k a b : ℕ) → IsFirstBreak v formula log (suc j) a → IsFirstBreak v formula log (suc k) b → j < k → ⊥
  not_earlier j k a b h g less =
      breaks_not v (length formula) (live_after (first_live formula) (take j log)) (line_at log j) a h.2
      (follow_before v (length formula) (first_live formula) log j k less h.0 g.1)

  same_line : (i j a b : ℕ) → IsFirstBreak v formula log i a → IsFirstBreak v formula log j b → i ≡ j
  same_line zero j a b h g = absurd h
  same_line (suc i) zero a b h g = absurd g
  same_line (suc i) (suc j) a b h g = elim (cases_lt i j) [
    | inl less ↦ absurd (not_earlier i j a b h g less)
    | inr above ↦ elim (cases_lt j i) [
      | inl less ↦ absurd (not_earlier j i b a g h less)
      | inr below ↦ omega (arith, above, below)
    ]
  ]

  same_hint : (i a b : ℕ) → IsFirstBreak v formula log i a → IsFirstBreak v formula log i b → a ≡ b
  same_hint zero a b h g = absurd h
  same_hint (suc k) a b h g = one_break v (length formula) (live_after (first_live formula) (take k log)) (line_at log k) a b h.2 g.2

-- ---- one answer

module _ (bytes : List ℕ) where
  abbrev lines : List (List ℕ)
  lines = free_lines bytes

  -- bytes that spell a formula and a log have no bad line
  not_bad : (x : List ℕ) → IsBadRowAnswer bytes x → (v : ℕ) (f : List Clause) (l : List Line) → Spell bytes v f l → ⊥
  not_bad x h v f l s = (bad_lines_told IsJoinedText).0 lines h.line h.first (v, f, l, s)

  one_row : (x y : List ℕ) → IsBadRowAnswer bytes x → IsBadRowAnswer bytes y → x ≡ y
  one_row x y h k = h.output_is ∙ ap (λ n. refusal_text (refusal.Text n)) ((bad_lines_told IsJoinedText).1 lines h.line k.line h.first k.first) ∙ sym k.output_is

  one_wide : (x y : List ℕ) → IsWideAnswer bytes x → IsWideAnswer bytes y → x ≡ y
  one_wide x y h k = h.output_is ∙ sym k.output_is

  one_open : (x y : List ℕ) → IsOpenAnswer bytes x → IsOpenAnswer bytes y → x ≡ y
  one_open x y h k = h.output_is ∙ sym k.output_is

  one_refuted : (x y : List ℕ) → IsRefutedAnswer bytes x → IsRefutedAnswer bytes y → x ≡ y
  one_refuted x y h k = h.output_is ∙ sym k.output_is

  -- what is said of one spelling is said of another
  said_of : (P : ℕ → List Clause → List Line → Type 0) (v w : ℕ) (f g : List Clause) (l m : List Line) → Spell bytes v f l → Spell bytes w g m → P w g m → P v f l
  said_of P v w f g l m s t p =
      let same = one_joined lines w v g f m l t s in
      subst (λ n. P n f l) same.0 (subst (λ c. P w c l) same.1 (subst (λ z. P w g z) same.2 p))

  one_broken : (x y : List ℕ) → IsBreakAnswer bytes x → IsBreakAnswer bytes y → x ≡ y
  one_broken x y h k =
      let there = said_of (λ v f l. IsFirstBreak v f l k.line k.hint) h.variables k.variables h.formula k.formula h.log k.log h.spelled k.spelled k.first in
      let line : h.line ≡ k.line = same_line h.variables h.formula h.log h.line k.line h.hint k.hint h.first there in
      let here = subst (λ n. IsFirstBreak h.variables h.formula h.log n h.hint) line h.first in
      h.output_is ∙ ap₂ (λ n m. refusal_text (refusal.NoLine n m)) line (same_hint h.variables h.formula h.log k.line h.hint k.hint here there) ∙ sym k.output_is

  break_or : (x : List ℕ) → IsBreakAnswer bytes x → (v : ℕ) (f : List Clause) (l : List Line) → Spell bytes v f l → AllFollow v (length f) (first_live f) l → ⊥
  break_or x h v f l s all =
      follow_or_break h.variables h.formula h.log h.line h.hint h.first
      (said_of (λ n c z. AllFollow n (length c) (first_live c) z) h.variables v h.formula f h.log l h.spelled s all)

  abbrev bad_row : Cause
  bad_row = At status.Text (IsBadRowAnswer bytes)

  abbrev wide : Cause
  wide = At status.Limit (IsWideAnswer bytes)

  abbrev broken : Cause
  broken = At status.No (IsBreakAnswer bytes)

  abbrev no_empty : Cause
  no_empty = At status.No (IsOpenAnswer bytes)

  abbrev refuted : Cause
  refuted = At status.Ok (IsRefutedAnswer bytes)

  -- a formula of too many variables isn't one of few
  not_wide : (x : List ℕ) → IsWideAnswer bytes x → (v : ℕ) (f : List Clause) (l : List Line) → Spell bytes v f l → v ≤ VARIABLE_LIMIT → ⊥
  not_wide x h v f l s few = let same = one_joined lines h.variables v h.formula f h.log l h.spelled s in absurd (omega (arith, same.0, h.many, few))

  -- bytes that are refused are not checked
  refused_or : (s : Status) (x : List ℕ) → IsJoinedRefusal bytes s x → (v : ℕ) (f : List Clause) (l : List Line) → Spell bytes v f l → v ≤ VARIABLE_LIMIT → ⊥
  refused_or s x (inl h) v f l t few = not_bad x h.1 v f l t
  refused_or s x (inr h) v f l t few = not_wide x h.1 v f l t few

  -- a log that isn't a refutation refutes nothing
  no_or_refuted : (s : Status) (x : List ℕ) → IsNoAnswer bytes s x → (v : ℕ) (f : List Clause) (l : List Line) → Spell bytes v f l → Refutes v f l → ⊥
  no_or_refuted s x (inl h) v f l t r = break_or x h.1 v f l t r.follow
  no_or_refuted s x (inr h) v f l t r = h.1.none_empty (said_of (λ n c z. HasEmpty z) h.1.variables v h.1.formula f h.1.log l h.1.spelled t r.empty)

  refused_or_checked : AreApart (either bad_row wide) (either (either broken no_empty) refuted)
  refused_or_checked s t x y h (inl (inl k)) = refused_or s x h k.1.variables k.1.formula k.1.log k.1.spelled k.1.few
  refused_or_checked s t x y h (inl (inr k)) = refused_or s x h k.1.variables k.1.formula k.1.log k.1.spelled k.1.few
  refused_or_checked s t x y h (inr k) = refused_or s x h k.1.variables k.1.formula k.1.log k.1.spelled k.1.few

  pub lrat_answers_agree : IsOne (IsLratAnswer bytes)
  lrat_answers_agree =
      one_either (either bad_row wide) (either (either broken no_empty) refuted)
      (one_either bad_row wide (one_at status.Text (IsBadRowAnswer bytes) one_row) (one_at status.Limit (IsWideAnswer bytes) one_wide)
      (λ s t x y h k. not_bad x h.1 k.1.variables k.1.formula k.1.log k.1.spelled))
      (one_either (either broken no_empty) refuted
      (one_either broken no_empty (one_at status.No (IsBreakAnswer bytes) one_broken) (one_at status.No (IsOpenAnswer bytes) one_open)
      (λ s t x y h k. break_or x h.1 k.1.variables k.1.formula k.1.log k.1.spelled k.1.follow))
      (one_at status.Ok (IsRefutedAnswer bytes) one_refuted)
      (λ s t x y h k. no_or_refuted s x h k.1.variables k.1.formula k.1.log k.1.spelled k.1.refutes))
      refused_or_checked

  -- bytes that spell a refutation are answered at status 0
  pub lrat_is_ok : SpellRefutation bytes → (s : Status) (x : List ℕ) → IsLratAnswer bytes s x → s ≡ status.Ok
  lrat_is_ok good s x (inl h) = absurd (refused_or s x h good.variables good.formula good.log good.spelled good.few)
  lrat_is_ok good s x (inr (inl h)) = absurd (no_or_refuted s x h good.variables good.formula good.log good.spelled good.refutes)
  lrat_is_ok good s x (inr (inr h)) = h.0
