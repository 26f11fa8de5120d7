-- Flags of clauses and lines, and what is live by them.
use Rattle.std.proofs.Common.{◌≡◌, ℕ, zero, suc, ◌+◌, ◌-◌, ◌*◌, ◌<◌, ◌≤◌, Bool, true, false, ◌||◌, cond, eqb, leb, List, [], ◌∷◌, ◌++◌, Option, Some, None, length, take, slice_get, slice_index_or, slice_set, refl, sym, ap, ◌∙◌, inl, inr, arith, replicate}
use Rattle.std.specs.List.{list_any, list_all}
use Rattle.std.proofs.lemmas.List.{get_or-set_same, get_or-set_other}
use Rattle.std.proofs.lemmas.Bool.{and_parts, leb-true, cases_eq, cases_lt, eq-eqb, ne_eqb, eqb-true, le-leb, lt-leb}
use Rattle.clause_arena.specs.Clauses.{Clause}
use Rattle.proof_check.specs.Lines.{Line, no_line, line_at, Rise, is_add_of}
use Rattle.proof_check.specs.Following.{Live, first_live, after, live_after, LineFollows, AllFollow}
use Rattle.proof_check.specs.Marks.{Within, IsTable}
use Rattle.clause_arena.specs.Formulas.{is_lit_within, is_within, are_within}
use Rattle.proof_check.specs.Lives.{flag, line_clause, formula_clause, live_by, ScratchState, Fits, line_within, FlaggedWithin}

later_above : (last : ℕ) (lines : List Line) (k id : ℕ) → Rise last lines → is_add_of id (line_at lines k) ≡ true → last < id
later_above last [] k id r e = absurd (false_true e)
  where
    false_true : is_add_of id no_line ≡ true → ⊥
    false_true h = cc
later_above last (Line.Add i lits hints ∷ ls) zero id r e = omega (arith, r.0, eqb-true i id e)
later_above last (Line.Add i lits hints ∷ ls) (suc k) id r e = omega (arith, r.0, later_above i ls k id r.1 e)
later_above last (Line.Del ids ∷ ls) zero id r e = absurd (no_add e)
  where
    no_add : false ≡ true → ⊥
    no_add h = cc
later_above last (Line.Del ids ∷ ls) (suc k) id r e = later_above last ls k id r e

-- the clause of the line
abbrev pub clause_of : Line → Clause
clause_of (Line.Add id lits hints) = lits
clause_of (Line.Del ids) = []

abbrev pub flagged : Bool → Clause → Option Clause
flagged b c = cond b (Some c) None

pub clause_at : (last : ℕ) (lines : List Line) (flags : List Bool) (k id : ℕ) → Rise last lines → k < length flags → is_add_of id (line_at lines k) ≡ true → line_clause lines flags id ≡ flagged (flag flags k) (clause_of (line_at lines k))
clause_at last [] flags k id r lt e = absurd (no_add e)
  where
    no_add : false ≡ true → ⊥
    no_add h = cc
clause_at last (l ∷ ls) [] k id r lt e = absurd (omega (arith, lt))
clause_at last (Line.Add i lits hints ∷ ls) (b ∷ bs) zero id r lt e = rw e refl
clause_at last (Line.Add i lits hints ∷ ls) (b ∷ bs) (suc k) id r lt e =
    let above = later_above i ls k id r.1 e in
    let ne : eqb i id ≡ false = ne_eqb i id (λ s. omega (arith, above, s)) in
    rw ne (clause_at i ls bs k id r.1 (omega (arith, lt)) e)
clause_at last (Line.Del ids ∷ ls) (b ∷ bs) zero id r lt e = absurd (no_add e)
  where
    no_add : false ≡ true → ⊥
    no_add h = cc
clause_at last (Line.Del ids ∷ ls) (b ∷ bs) (suc k) id r lt e = clause_at last ls bs k id r (omega (arith, lt)) e

pub clause_none : (lines : List Line) (flags : List Bool) (id : ℕ) → ((k : ℕ) → is_add_of id (line_at lines k) ≡ false) → line_clause lines flags id ≡ None
clause_none [] flags id none = refl
clause_none (Line.Add i lits hints ∷ ls) [] id none = refl
clause_none (Line.Del ids ∷ ls) [] id none = refl
clause_none (Line.Add i lits hints ∷ ls) (b ∷ bs) id none = rw (none 0) (clause_none ls bs id (λ k. none (suc k)))
clause_none (Line.Del ids ∷ ls) (b ∷ bs) id none = clause_none ls bs id (λ k. none (suc k))

-- a flag is set or cleared
pub clause_set : (last : ℕ) (lines : List Line) (flags : List Bool) (k id : ℕ) (v : Bool) → Rise last lines → k < length flags → is_add_of id (line_at lines k) ≡ true → (other : ℕ) → line_clause lines (slice_set flags k v) other ≡ cond (eqb id other) (flagged v (clause_of (line_at lines k))) (line_clause lines flags other)
clause_set last [] flags k id v r lt e other = absurd (no_add e)
  where
    no_add : false ≡ true → ⊥
    no_add h = cc
clause_set last (l ∷ ls) [] k id v r lt e other = absurd (omega (arith, lt))
clause_set last (Line.Add i lits hints ∷ ls) (b ∷ bs) zero id v r lt e other = rw (eqb-true i id e) (twice (eqb id other))
  where
    twice : (t : Bool) → cond t (flagged v lits) (line_clause ls bs other) ≡ cond t (flagged v lits) (cond t (flagged b lits) (line_clause ls bs other))
    twice true = refl
    twice false = refl
clause_set last (Line.Add i lits hints ∷ ls) (b ∷ bs) (suc k) id v r lt e other =
    let above = later_above i ls k id r.1 e in
    let rest = clause_set i ls bs k id v r.1 (omega (arith, lt)) e other in
    elim (cases_eq i other) [
      | inl here ↦ rw (eq-eqb i other here, ne_eqb id other (λ s. omega (arith, above, s, here))) refl
      | inr there ↦ rw (ne_eqb i other there) rest
    ]
clause_set last (Line.Del ids ∷ ls) (b ∷ bs) zero id v r lt e other = absurd (no_add e)
  where
    no_add : false ≡ true → ⊥
    no_add h = cc
clause_set last (Line.Del ids ∷ ls) (b ∷ bs) (suc k) id v r lt e other = clause_set last ls bs k id v r (omega (arith, lt)) e other

-- ---- ids of the formula and of the log

pub live_low : (formula : List Clause) (lines : List Line) (cf lf : List Bool) (id : ℕ) → id ≤ length formula → live_by formula lines cf lf id ≡ formula_clause formula cf id
live_low formula lines cf lf id le = rw (le-leb id (length formula) le) refl

pub live_high : (formula : List Clause) (lines : List Line) (cf lf : List Bool) (id : ℕ) → length formula < id → live_by formula lines cf lf id ≡ line_clause lines lf id
live_high formula lines cf lf id lt = rw (lt-leb id (length formula) lt) refl

pub live_at_line : (last : ℕ) (formula : List Clause) (lines : List Line) (cf lf : List Bool) (k id : ℕ) → Rise last lines → length lf ≡ length lines → k < length lines → is_add_of id (line_at lines k) ≡ true → length formula < id → live_by formula lines cf lf id ≡ flagged (flag lf k) (clause_of (line_at lines k))
live_at_line last formula lines cf lf k id r n lt e above = live_high formula lines cf lf id above ∙ clause_at last lines lf k id r (omega (arith, lt, n)) e

pub live_no_line : (formula : List Clause) (lines : List Line) (cf lf : List Bool) (id : ℕ) → ((k : ℕ) → is_add_of id (line_at lines k) ≡ false) → length formula < id → live_by formula lines cf lf id ≡ None
live_no_line formula lines cf lf id none above = live_high formula lines cf lf id above ∙ clause_none lines lf id none

pub live_zero : (formula : List Clause) (lines : List Line) (cf lf : List Bool) (id : ℕ) → id ≡ 0 → live_by formula lines cf lf id ≡ None
live_zero formula lines cf lf id e = live_low formula lines cf lf id (omega (arith, e)) ∙ rw (eq-eqb id 0 e) refl

pub live_clause_is : (formula : List Clause) (lines : List Line) (cf lf : List Bool) (id : ℕ) → 0 < id → id ≤ length formula → live_by formula lines cf lf id ≡ flagged (flag cf (id - 1)) (slice_index_or formula (id - 1) [])
live_clause_is formula lines cf lf id some le = live_low formula lines cf lf id le ∙ rw (ne_eqb id 0 (λ e. omega (arith, some, e)), get_is formula (id - 1) (omega (arith, some, le))) refl
  where
    get_is : (formula : List Clause) (k : ℕ) → k < length formula → slice_get formula k ≡ Some (slice_index_or formula k [])
    get_is [] k lt = absurd (omega (arith, lt))
    get_is (c ∷ formula) zero lt = refl
    get_is (c ∷ formula) (suc k) lt = get_is formula k (omega (arith, lt))

-- setting the flag of a line above the formula's ids
pub live_set : (last : ℕ) (formula : List Clause) (lines : List Line) (cf lf : List Bool) (k id : ℕ) (v : Bool) → Rise last lines → length lf ≡ length lines → k < length lines → is_add_of id (line_at lines k) ≡ true → length formula < id → (other : ℕ) → live_by formula lines cf (slice_set lf k v) other ≡ cond (eqb id other) (flagged v (clause_of (line_at lines k))) (live_by formula lines cf lf other)
live_set last formula lines cf lf k id v r n lt e above other = elim (cases_lt (length formula) other) [
  | inl high ↦ live_high formula lines cf (slice_set lf k v) other high ∙ clause_set last lines lf k id v r (omega (arith, lt, n)) e other ∙ ap (λ (t : Option Clause). cond (eqb id other) (flagged v (clause_of (line_at lines k))) t) (sym (live_high formula lines cf lf other high))
  | inr low ↦ live_low formula lines cf (slice_set lf k v) other low ∙ rw (ne_eqb id other (λ s. omega (arith, above, low, s))) (sym (live_low formula lines cf lf other low))
]

-- clearing the flag of a clause
pub live_clear : (formula : List Clause) (lines : List Line) (cf lf : List Bool) (id : ℕ) → length cf ≡ length formula → 0 < id → id ≤ length formula → (other : ℕ) → live_by formula lines (slice_set cf (id - 1) false) lf other ≡ cond (eqb id other) None (live_by formula lines cf lf other)
live_clear formula lines cf lf id n some le other = elim (cases_lt (length formula) other) [
  | inl high ↦ live_high formula lines (slice_set cf (id - 1) false) lf other high ∙ rw (ne_eqb id other (λ s. omega (arith, le, high, s))) (sym (live_high formula lines cf lf other high))
  | inr low ↦ live_low formula lines (slice_set cf (id - 1) false) lf other low ∙ at_low low ∙ ap (λ (t : Option Clause). cond (eqb id other) None t) (sym (live_low formula lines cf lf other low))
]
  where
    at_low : other ≤ length formula → formula_clause formula (slice_set cf (id - 1) false) other ≡ cond (eqb id other) None (formula_clause formula cf other)
    at_low low = elim (cases_eq id other) [
      | inl same ↦ rw (eq-eqb id other same, ne_eqb other 0 (λ z. omega (arith, some, same, z)), ap (λ (m : ℕ). m - 1) (sym same), get_or-set_same cf (id - 1) false false (omega (arith, some, le, n))) refl
      | inr apart ↦ rw (ne_eqb id other apart) (elim (cases_eq other 0) [
        | inl zero_is ↦ rw (eq-eqb other 0 zero_is) refl
        | inr more ↦ rw (get_or-set_other cf (id - 1) (other - 1) false false (λ s. apart (omega (arith, some, more, s)))) refl
      ])
    ]

-- nothing is cleared where the id isn't live
pub none_stays : (live : Live) (id : ℕ) → live id ≡ None → (other : ℕ) → live other ≡ cond (eqb id other) None (live other)
none_stays live id none other = elim (cases_eq id other) [
  | inl same ↦ rw (eq-eqb id other same) (ap live (sym same) ∙ none)
  | inr apart ↦ rw (ne_eqb id other apart) refl
]

-- ---- the flags at the beginning

flag_all : (n k : ℕ) → k < n → flag (replicate n true) k ≡ true
flag_all zero k lt = absurd (omega (arith, lt))
flag_all (suc n) zero lt = refl
flag_all (suc n) (suc k) lt = flag_all n k (omega (arith, lt))

pub flag_none : (n k : ℕ) → flag (replicate n false) k ≡ false
flag_none zero k = refl
flag_none (suc n) zero = refl
flag_none (suc n) (suc k) = flag_none n k

clause_none_set : (lines : List Line) (n id : ℕ) → line_clause lines (replicate n false) id ≡ None
clause_none_set [] n id = refl
clause_none_set (Line.Add i lits hints ∷ ls) zero id = refl
clause_none_set (Line.Del ids ∷ ls) zero id = refl
clause_none_set (Line.Add i lits hints ∷ ls) (suc n) id = both (eqb i id) (clause_none_set ls n id)
  where
    both : (t : Bool) → line_clause ls (replicate n false) id ≡ None → cond t None (line_clause ls (replicate n false) id) ≡ None
    both true h = refl
    both false h = h
clause_none_set (Line.Del ids ∷ ls) (suc n) id = clause_none_set ls n id

past : (formula : List Clause) (k : ℕ) → length formula ≤ k → slice_get formula k ≡ None
past [] k le = refl
past (c ∷ formula) zero le = absurd (omega (arith, le))
past (c ∷ formula) (suc k) le = past formula k (omega (arith, le))

pub first_live_is : (formula : List Clause) (lines : List Line) (n id : ℕ) → first_live formula id ≡ live_by formula lines (replicate (length formula) true) (replicate n false) id
first_live_is formula lines n id = elim (cases_eq id 0) [
  | inl z ↦ at_zero z ∙ sym (live_zero formula lines (replicate (length formula) true) (replicate n false) id z)
  | inr nz ↦ elim (cases_lt (length formula) id) [
    | inl high ↦ above nz ∙ (past formula (id - 1) (omega (arith, high)) ∙ sym (live_high formula lines (replicate (length formula) true) (replicate n false) id high ∙ clause_none_set lines n id))
    | inr low ↦ above nz ∙ sym (live_low formula lines (replicate (length formula) true) (replicate n false) id low ∙ rw (ne_eqb id 0 nz, flag_all (length formula) (id - 1) (omega (arith, low, nz))) refl)
  ]
]
  where
    at_zero : id ≡ 0 → first_live formula id ≡ None
    at_zero z = rw (eq-eqb id 0 z) refl

    above : (id ≡ 0 → ⊥) → first_live formula id ≡ slice_get formula (id - 1)
    above nz = rw (ne_eqb id 0 nz) refl

-- ---- one more line

pub live_more : (live : Live) (lines : List Line) (i : ℕ) → i < length lines → live_after live (take (suc i) lines) ≡ after (live_after live (take i lines)) (line_at lines i)
live_more live [] i lt = absurd (omega (arith, lt))
live_more live (l ∷ ls) zero lt = refl
live_more live (l ∷ ls) (suc i) lt = live_more (after live l) ls i (omega (arith, lt))

pub follow_more : (v n : ℕ) (live : Live) (lines : List Line) (i : ℕ) → i < length lines → AllFollow v n live (take i lines) → LineFollows v n (live_after live (take i lines)) (line_at lines i) → AllFollow v n live (take (suc i) lines)
follow_more v n live [] i lt all f = absurd (omega (arith, lt))
follow_more v n live (l ∷ ls) zero lt all f = (f, tt)
follow_more v n live (l ∷ ls) (suc i) lt all f = (all.0, follow_more v n (after live l) ls i (omega (arith, lt)) all.1 f)

line_within_follows : (v n : ℕ) (live : Live) (line : Line) → LineFollows v n live line → line_within v line
line_within_follows v n live (Line.Add id lits hints) f = f.0.within
line_within_follows v n live (Line.Del ids) f = tt

within_at : (v n : ℕ) (live : Live) (lines : List Line) (i k : ℕ) → AllFollow v n live (take i lines) → k < i → line_within v (line_at lines k)
within_at v n live [] i k all lt = tt
within_at v n live (l ∷ ls) zero k all lt = absurd (omega (arith, lt))
within_at v n live (l ∷ ls) (suc i) zero all lt = line_within_follows v n live l all.0
within_at v n live (l ∷ ls) (suc i) (suc k) all lt = within_at v n (after live l) ls i k all.1 (omega (arith, lt))

pub fits_within : (v : ℕ) (formula : List Clause) (lines : List Line) (s : ScratchState) (index : ℕ) → Fits v formula lines s index → FlaggedWithin v lines s.lines_live
fits_within v formula lines s index fits k e = elim (cases_lt k index) [
  | inl lt ↦ within_at v (length formula) (first_live formula) lines index k fits.follow lt
  | inr le ↦ absurd (clash (flag s.lines_live k) e (fits.later k le))
]
  where
    clash : (b : Bool) → b ≡ true → b ≡ false → ⊥
    clash b t f = let h : true ≡ false = sym t ∙ f in absurd cc

pub any_last : (p : ℕ → Bool) (xs : List ℕ) (x : ℕ) → list_any p (xs ++ x ∷ []) ≡ (list_any p xs || p x)
any_last p [] x = or_false (p x)
  where
    or_false : (b : Bool) → (b || false) ≡ b
    or_false true = refl
    or_false false = refl
any_last p (y ∷ xs) x = head (p y) (any_last p xs x)
  where
    head : (b : Bool) → list_any p (xs ++ x ∷ []) ≡ (list_any p xs || p x) → (b || list_any p (xs ++ x ∷ [])) ≡ ((b || list_any p xs) || p x)
    head true h = refl
    head false h = h

all_at : (p : Clause → Bool) (xs : List Clause) (k : ℕ) → list_all p xs ≡ true → k < length xs → p (slice_index_or xs k []) ≡ true
all_at p [] k h lt = absurd (omega (arith, lt))
all_at p (x ∷ xs) zero h lt = (and_parts (p x) (list_all p xs) h).0
all_at p (x ∷ xs) (suc k) h lt = all_at p xs k ((and_parts (p x) (list_all p xs) h).1) (omega (arith, lt))

pub within_of : (v : ℕ) (c : Clause) → is_within v c ≡ true → Within v c
within_of v [] h l i = absurd i
within_of v (m ∷ c) h l (inl same) =
    let a = and_parts (is_lit_within v m) (is_within v c) h in
    let b = and_parts (leb 1 m.var) (leb m.var v) a.0 in
    rw same (leb-true m.var v b.1)
within_of v (m ∷ c) h l (inr i) = within_of v c ((and_parts (is_lit_within v m) (is_within v c) h).1) l i

pub formula_within : (v : ℕ) (formula : List Clause) (k : ℕ) → are_within v formula ≡ true → k < length formula → Within v (slice_index_or formula k [])
formula_within v formula k h lt = within_of v (slice_index_or formula k []) (all_at (is_within v) formula k h lt)

take_nil : {X : Type 0} (n : ℕ) (xs : List X) → xs ≡ [] → take n xs ≡ []
take_nil zero xs e = refl
take_nil (suc n) xs e = ap (take (suc n)) e

-- what a list that was filled up holds
pub filled : {X : Type 0} (n m : ℕ) (v : X) (old new : List X) → old ≡ [] → m ≡ 0 → new ≡ take n old ++ replicate (n - m) v → new ≡ replicate n v
filled {X} n m v old new e z h =
    let all : n - m ≡ n = omega arith in
    h ∙ (ap (λ (xs : List X). xs ++ replicate (n - m) v) (take_nil n old e) ∙ ap (λ (k : ℕ). replicate k v) all)

length_replicate : {X : Type 0} (n : ℕ) (v : X) → length (replicate n v) ≡ n
length_replicate zero v = refl
length_replicate (suc n) v = ap suc (length_replicate n v)

pub new_fits : (v : ℕ) (formula : List Clause) (lines : List Line) (cf lf : List Bool) → cf ≡ replicate (length formula) true → lf ≡ replicate (length lines) false → Fits v formula lines (record { variables = v; done = 0; clauses_live = cf; lines_live = lf }) 0
new_fits v formula lines cf lf ec el = record {
  variables_are = refl;
  clauses_are = ap length ec ∙ length_replicate (length formula) true;
  lines_are = ap length el ∙ length_replicate (length lines) false;
  done = refl;
  follow = tt;
  live = λ id. rw (ec, el) (first_live_is formula lines (length lines) id);
  later = λ k le. rw el (flag_none (length lines) k);
}

pub new_table : (v : ℕ) (marks : List ℕ) → marks ≡ replicate (2 * v + 2) 0 → IsTable v marks 0
new_table v marks e = record { size = ap length e ∙ length_replicate (2 * v + 2) 0; below = λ k. rw e (zeros (2 * v + 2) k) }
  where
    zeros : (n k : ℕ) → slice_index_or (replicate n 0) k 0 ≤ 0
    zeros zero k = omega arith
    zeros (suc n) zero = omega arith
    zeros (suc n) (suc k) = zeros n k
