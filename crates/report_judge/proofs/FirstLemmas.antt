-- There is one first of each kind.
use Rattle.std.proofs.Common.{◌≡◌, ℕ, zero, suc, ◌<◌, List, [], ◌∷◌, length, sym, subst, inl, inr, arith}
use Rattle.std.specs.Prelude.{take}
use Rattle.std.proofs.lemmas.Bool.{cases_lt}
use Rattle.clause_arena.specs.Clauses.{Clause}
use Rattle.proof_check.specs.Lines.{Line, line_at}
use Rattle.proof_check.specs.Following.{Live, after, first_live, live_after, AllFollow, LineFollows, IsFirstBreak}
use Rattle.proof_check.proofs.RefuteLemmas.{breaks_not, one_break}

-- one number fails where all below pass
pub one_number : (P : ℕ → Type 0) (a b : ℕ) → (P a → ⊥) → ((k : ℕ) → k < a → P k) → (P b → ⊥) → ((k : ℕ) → k < b → P k) → a ≡ b
one_number P a b not_a below_a not_b below_b = elim (cases_lt a b) [
  | inl less ↦ absurd (not_a (below_b a less))
  | inr above ↦ elim (cases_lt b a) [
    | inl less ↦ absurd (not_b (below_a b less))
    | inr below ↦ omega arith
  ]
]

-- one pair is the first for which a relation holds, by the later and then the earlier
pub one_pair : (R : ℕ → ℕ → Type 0) (a b c d : ℕ) → R a b → ((i j : ℕ) → i < a → R i j → ⊥) → ((j : ℕ) → j < b → R a j → ⊥) →
    R c d → ((i j : ℕ) → i < c → R i j → ⊥) → ((j : ℕ) → j < d → R c j → ⊥) → (a ≡ c) × (b ≡ d)
one_pair R a b c d h least first k least' first' =
    let later : a ≡ c = one_number (λ n. (j : ℕ) → R n j → ⊥) a c (λ f. f b h) (λ i l j. least i j l) (λ f. f d k) (λ i l j. least' i j l) in
    let there : R a d = subst (λ (n : ℕ). R n d) (sym later) k in
    let first'' : (j : ℕ) → j < d → R a j → ⊥ = subst (λ (n : ℕ). (j : ℕ) → j < d → R n j → ⊥) (sym later) first' in
    (later, one_number (λ n. R a n → ⊥) b d (λ f. f h) first (λ f. f there) first'')

-- ---- lines of a log

-- of lines that follow, each does behind those before it
follow_at : (v n : ℕ) (live : Live) (lines : List Line) (k : ℕ) → k < length lines → AllFollow v n live lines → LineFollows v n (live_after live (take k lines)) (line_at lines k)
follow_at v n live [] k below h = absurd (omega (arith, below))
follow_at v n live (l ∷ ls) zero below h = h.0
follow_at v n live (l ∷ ls) (suc k) below h = follow_at v n (after live l) ls k (omega (arith, below)) h.1

-- the same of the lines before another one
follow_before : (v n : ℕ) (live : Live) (lines : List Line) (k m : ℕ) → k < m → k < length lines → AllFollow v n live (take m lines) → LineFollows v n (live_after live (take k lines)) (line_at lines k)
follow_before v n live [] k m less below h = absurd (omega (arith, below))
follow_before v n live (l ∷ ls) k zero less below h = absurd (omega (arith, less))
follow_before v n live (l ∷ ls) zero (suc m) less below h = h.0
follow_before v n live (l ∷ ls) (suc k) (suc m) less below h = follow_before v n (after live l) ls k m (omega (arith, less)) (omega (arith, below)) h.1

module _ (v : ℕ) (formula : List Clause) (log : List Line) where
  -- lines that follow have no first one that doesn't
  pub follow_or_break : (line hint : ℕ) → IsFirstBreak v formula log line hint → AllFollow v (length formula) (first_live formula) log → ⊥
  follow_or_break zero hint h all = h
  follow_or_break (suc k) hint h all =
      breaks_not v (length formula) (live_after (first_live formula) (take k log)) (line_at log k) hint h.2 (follow_at v (length formula) (first_live formula) log k h.0 all)

  not_earlier : (j k a b : ℕ) → IsFirstBreak v formula log (suc j) a → IsFirstBreak v formula log (suc k) b → j < k → ⊥
  not_earlier j k a b h g less =
      breaks_not v (length formula) (live_after (first_live formula) (take j log)) (line_at log j) a h.2
      (follow_before v (length formula) (first_live formula) log j k less h.0 g.1)

  same_line : (i j a b : ℕ) → IsFirstBreak v formula log i a → IsFirstBreak v formula log j b → i ≡ j
  same_line zero j a b h g = absurd h
  same_line (suc i) zero a b h g = absurd g
  same_line (suc i) (suc j) a b h g = elim (cases_lt i j) [
    | inl less ↦ absurd (not_earlier i j a b h g less)
    | inr above ↦ elim (cases_lt j i) [
      | inl less ↦ absurd (not_earlier j i b a g h less)
      | inr below ↦ omega (arith, above, below)
    ]
  ]

  same_hint : (i a b : ℕ) → IsFirstBreak v formula log i a → IsFirstBreak v formula log i b → a ≡ b
  same_hint zero a b h g = absurd h
  same_hint (suc k) a b h g = one_break v (length formula) (live_after (first_live formula) (take k log)) (line_at log k) a b h.2 g.2

  -- a log has one first break
  pub one_first_break : (i j a b : ℕ) → IsFirstBreak v formula log i a → IsFirstBreak v formula log j b → (i ≡ j) × (a ≡ b)
  one_first_break i j a b h g =
      let line = same_line i j a b h g in (line, same_hint i a b h (subst (λ (n : ℕ). IsFirstBreak v formula log n b) (sym line) g))
