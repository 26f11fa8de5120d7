-- A log with one more line.
use Rattle.std.proofs.Common.{◌≡◌, ◌≢◌, ◌⊎◌, ℕ, zero, suc, ◌+◌, List, [], ◌∷◌, ◌++◌, length, length-append, Some, slice_get, refl, sym, ap, ◌∙◌, subst, inl, inr, arith}
use Rattle.proof_check.specs.Progress.{IsKnown, IsProgress, IsProgressLine}
use Rattle.proof_check.specs.Lines.{Line, Add, Del, numbers, numbers_of, last_id}
use Rattle.proof_check.specs.Following.{Live, after, live_after, LineFollows, AllFollow, HasEmpty}
use Rattle.std.proofs.lemmas.Bool.{cases_eq, eq-eqb, ne_eqb}
use Rattle.clause_arena.specs.Clauses.{Clause}
use Rattle.sat_engine.specs.Steps.{added, known_after, CountsFrom}

pub progress_push : (v c : ℕ) (lines : List Line) (live : Live) (known : List Clause) (id : ℕ) (lits : Clause) (hints : List ℕ) →
    IsProgress v c live known lines → LineFollows v c (live_after live lines) (Add id lits hints) → IsProgressLine (known_after known lines) lits → IsProgress v c live known (lines ++ Add id lits hints ∷ [])
progress_push v c [] live known id lits hints p follows line = (follows, line, tt)
progress_push v c (Add i ls hs ∷ lines) live known id lits hints p follows line = (p.0, p.1, progress_push v c lines (after live (Add i ls hs)) (ls ∷ known) id lits hints p.2 follows line)
progress_push v c (Del ids ∷ lines) live known id lits hints p follows line = absurd p

pub progress_follows : (v c : ℕ) (lines : List Line) (live : Live) (known : List Clause) → IsProgress v c live known lines → AllFollow v c live lines
progress_follows v c [] live known p = tt
progress_follows v c (Add i ls hs ∷ lines) live known p = (p.0, progress_follows v c lines (after live (Add i ls hs)) (ls ∷ known) p.2)
progress_follows v c (Del ids ∷ lines) live known p = absurd p

pub follow_push : (v c : ℕ) (lines : List Line) (live : Live) (line : Line) → AllFollow v c live lines → LineFollows v c (live_after live lines) line → AllFollow v c live (lines ++ line ∷ [])
follow_push v c [] live line a f = (f, tt)
follow_push v c (l ∷ lines) live line a f = (a.0, follow_push v c lines (after live l) line a.1 f)

pub empty_last : (lines : List Line) (id : ℕ) (hints : List ℕ) → HasEmpty (lines ++ Add id [] hints ∷ [])
empty_last [] id hints = tt
empty_last (Add i [] hs ∷ lines) id hints = tt
empty_last (Add i (l ∷ ls) hs ∷ lines) id hints = empty_last lines id hints
empty_last (Del ids ∷ lines) id hints = empty_last lines id hints

pub numbers_push : (lines : List Line) (line : Line) → numbers (lines ++ line ∷ []) ≡ numbers lines + numbers_of line
numbers_push [] line = omega arith
numbers_push (l ∷ lines) line = omega (arith, numbers_push lines line)

pub counts_push : (lines : List Line) (n id : ℕ) (lits : Clause) (hints : List ℕ) → CountsFrom n lines → id ≡ n + length lines → CountsFrom n (lines ++ Add id lits hints ∷ [])
counts_push [] n id lits hints c e = (omega (arith, e), tt)
counts_push (Add i ls hs ∷ lines) n id lits hints c e = (c.0, counts_push lines (suc n) id lits hints c.1 (omega (arith, e)))
counts_push (Del ids ∷ lines) n id lits hints c e = absurd c

get_append_here : (base : List Clause) (c : Clause) (k : ℕ) → k ≡ length base → slice_get (base ++ c ∷ []) k ≡ Some c
get_append_here [] c zero e = refl
get_append_here [] c (suc k) e = absurd (omega (arith, e))
get_append_here (b ∷ base) c zero e = absurd (omega (arith, e))
get_append_here (b ∷ base) c (suc k) e = get_append_here base c k (omega (arith, e))

get_append_before : (base : List Clause) (c : Clause) (k : ℕ) → k ≢ length base → slice_get (base ++ c ∷ []) k ≡ slice_get base k
get_append_before [] c zero e = absurd (e refl)
get_append_before [] c (suc k) e = refl
get_append_before (b ∷ base) c zero e = refl
get_append_before (b ∷ base) c (suc k) e = get_append_before base c k (λ s. e (omega (arith, s)))

push_more : (base : List Clause) (c : Clause) (cs : List Clause) → (base ++ c ∷ []) ++ cs ≡ base ++ (c ∷ cs)
push_more [] c cs = refl
push_more (b ∷ base) c cs = ap (λ l. b ∷ l) (push_more base c cs)

-- the clause with id k + 1 is the one at place k of the formula and the added ones
pub live_is : (lines : List Line) (live : Live) (base : List Clause) → ((k : ℕ) → live (suc k) ≡ slice_get base k) → CountsFrom (suc (length base)) lines →
    (k : ℕ) → live_after live lines (suc k) ≡ slice_get (base ++ added lines) k
live_is [] live base is counts k = is k ∙ ap (λ l. slice_get l k) (sym (no_more base))
  where
    no_more : (base : List Clause) → base ++ [] ≡ base
    no_more [] = refl
    no_more (b ∷ base) = ap (λ l. b ∷ l) (no_more base)
live_is (Add id lits hints ∷ lines) live base is counts k =
    live_is lines (after live (Add id lits hints)) (base ++ lits ∷ []) now (subst (λ n. CountsFrom n lines) longer counts.1) k
    ∙ ap (λ l. slice_get l k) (push_more base lits (added lines))
  where
    longer : suc (suc (length base)) ≡ suc (length (base ++ lits ∷ []))
    longer = grind (arith, length-append)

    now : (j : ℕ) → after live (Add id lits hints) (suc j) ≡ slice_get (base ++ lits ∷ []) j
    now j = elim (cases_eq j (length base)) [
      | inl same ↦ rw (eq-eqb (suc j) id (omega (arith, same, counts.0))) (sym (get_append_here base lits j same))
      | inr other ↦ rw (ne_eqb (suc j) id (λ s. other (omega (arith, s, counts.0)))) (is j ∙ sym (get_append_before base lits j other))
    ]
live_is (Del ids ∷ lines) live base is counts k = absurd counts

-- the known clauses are those of the formula and the added ones
pub known_is : (lines : List Line) (known : List Clause) (c : Clause) → IsKnown c (known_after known lines) → IsKnown c known ⊎ IsKnown c (added lines)
known_is [] known c k = inl k
known_is (Add id lits hints ∷ lines) known c k = elim (known_is lines (lits ∷ known) c k) [
  | inl (inl same) ↦ inr (inl same)
  | inl (inr old) ↦ inl old
  | inr new ↦ inr (inr new)
]
known_is (Del ids ∷ lines) known c k = known_is lines known c k

-- the last id after one more addition
pub last_push : (lines : List Line) (n id : ℕ) (lits : Clause) (hints : List ℕ) → last_id n (lines ++ Add id lits hints ∷ []) ≡ id
last_push [] n id lits hints = refl
last_push (Add i ls hs ∷ lines) n id lits hints = last_push lines i id lits hints
last_push (Del ids ∷ lines) n id lits hints = last_push lines n id lits hints
