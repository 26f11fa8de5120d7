-- How long a line of a progress log is, and how many there are.
use Rattle.std.proofs.Common.{◌≡◌, ◌≢◌, ◌⊎◌, ℕ, zero, suc, ◌+◌, ◌-◌, ◌*◌, ◌^◌, ◌<◌, ◌≤◌, ◌==◌, if◌then◌else◌, Bool, true, false, List, [], ◌∷◌, length, Option, Some, None, IsSomeAnd, slice_get, refl, sym, ap, ◌∙◌, subst, inl, inr, arith, pow-suc}
use Rattle.sat_trail.proofs.LitLemmas.{opposite_twice, lit_same, same_var, same_lit}
use Rattle.sat_engine.specs.Steps.{IsWithin}
use Rattle.proof_check.specs.Progress.{IsKnown, IsNew, given, forced, IsProgress, IsProgressLog, IsProgressLine}
use Rattle.proof_check.specs.Lines.{Line, Add, Del, numbers}
use Rattle.proof_check.specs.Following.{Live, after, first_live, IsUnit, HintsLead, LineFollows}
use Rattle.std.proofs.lemmas.Bool.{cases_eq, cases_Bool, eq-eqb, ne_eqb}
use Rattle.clause_arena.specs.Clauses.{Lit, opposite, Clause, In, HasEachVariableOnce}
use Rattle.std.proofs.Math.Nat.{mul-le-mul_left}

-- the literals of other variables
without : ℕ → Clause → Clause
without v [] = []
without v (l ∷ c) = if l.var == v then without v c else (l ∷ without v c)

without_here : (v : ℕ) (l : Lit) (c : Clause) → l.var ≡ v → without v (l ∷ c) ≡ without v c
unfolding without
without_here v l c e = rw (eq-eqb l.var v e) refl

without_other : (v : ℕ) (l : Lit) (c : Clause) → l.var ≢ v → without v (l ∷ c) ≡ l ∷ without v c
unfolding without
without_other v l c e = rw (ne_eqb l.var v e) refl

without_none : (v : ℕ) → without v [] ≡ []
unfolding without
without_none v = refl

without_in : (v : ℕ) (c : Clause) (m : Lit) → In m (without v c) → In m c × (m.var ≢ v)
without_in v [] m i = absurd (subst (λ q. In m q) (without_none v) i)
without_in v (l ∷ c) m i = elim (cases_eq l.var v) [
  | inl here ↦ let r = without_in v c m (subst (λ q. In m q) (without_here v l c here) i) in (inr r.0, r.1)
  | inr other ↦ elim (in_cons (subst (λ q. In m q) (without_other v l c other) i)) [
    | inl same ↦ (inl same, λ e. other (sym (ap (λ (k : Lit). k.var) same) ∙ e))
    | inr j ↦ let r = without_in v c m j in (inr r.0, r.1)
  ]
]
  where
    in_cons : In m (l ∷ without v c) → (m ≡ l) ⊎ In m (without v c)
    in_cons h = h

without_once : (v : ℕ) (c : Clause) → HasEachVariableOnce c → HasEachVariableOnce (without v c)
without_once v [] once = subst HasEachVariableOnce (sym (without_none v)) tt
without_once v (l ∷ c) once = elim (cases_eq l.var v) [
  | inl here ↦ subst HasEachVariableOnce (sym (without_here v l c here)) (without_once v c once.1)
  | inr other ↦ subst HasEachVariableOnce (sym (without_other v l c other)) (λ m i. once.0 m (without_in v c m i).0, without_once v c once.1)
]

without_same : (v : ℕ) (c : Clause) → ((m : Lit) → In m c → m.var ≢ v) → without v c ≡ c
without_same v [] h = without_none v
without_same v (l ∷ c) h = without_other v l c (h l (inl refl)) ∙ ap (λ q. l ∷ q) (without_same v c (λ m i. h m (inr i)))

without_length : (v : ℕ) (c : Clause) → HasEachVariableOnce c → length c ≤ length (without v c) + 1
without_length v [] once = omega arith
without_length v (l ∷ c) once = elim (cases_eq l.var v) [
  | inl here ↦ omega (arith, ap length (without_here v l c here), ap length (without_same v c (λ m i e. once.0 m i (e ∙ sym here))))
  | inr other ↦ omega (arith, ap length (without_other v l c other), without_length v c once.1)
]

-- literals of different variables from 1 to n are at most n
pub few_vars : (n : ℕ) (c : Clause) → HasEachVariableOnce c → ((l : Lit) → In l c → (0 < l.var) × (l.var ≤ n)) → length c ≤ n
few_vars zero [] once within = omega arith
few_vars zero (l ∷ c) once within = let w = within l (inl refl) in absurd (omega (arith, w.0, w.1))
few_vars (suc n) c once within =
    omega (
      arith,
      without_length (suc n) c once,
      few_vars n (without (suc n) c) (without_once (suc n) c once) (λ l i.
          let r = without_in (suc n) c l i in
          let w = within l r.0 in
          (w.0, omega (arith, w.1, r.1))),
    )

abbrev pub LiveWithin : Live → ℕ → Type 0
LiveWithin live n = (id : ℕ) (c : Clause) → live id ≡ Some c → (l : Lit) → In l c → (0 < l.var) × (l.var ≤ n)

some_of : (q : Option Clause) (P : Clause → Type 0) → IsSomeAnd q P → (c : Clause) × (q ≡ Some c) × P c
some_of None P h = absurd h
some_of (Some c) P h = (c, refl, h)

-- each hint but the last gives one more variable
pub leads_few : (n : ℕ) (live : Live) → LiveWithin live n → (hints : List ℕ) (falses : List Lit) → HasEachVariableOnce falses → ((l : Lit) → In l falses → (0 < l.var) × (l.var ≤ n)) → HintsLead live falses hints → length falses + length hints ≤ n + 1
leads_few n live live_in [] falses once within lead = absurd lead
leads_few n live live_in (h ∷ []) falses once within lead = omega (arith, few_vars n falses once within)
leads_few n live live_in (h ∷ k ∷ hints) falses once within lead =
    let c = some_of (live h) (λ c. (l : Lit) × IsUnit falses c l × HintsLead live (opposite l ∷ falses) (k ∷ hints)) lead in
    let l = c.2.0 in
    let u = c.2.1 in
    let lw = live_in h c.0 c.1 l u.holds in
    let more = leads_few n live live_in (k ∷ hints) (opposite l ∷ falses) (
      λ m i e. elim (same_var m l e) [
        | inl same ↦ u.not_false (subst (λ q. In q falses) same i)
        | inr other ↦ u.not_true (subst (λ q. In q falses) other i)
      ],
      once,
    ) (in_more l falses within lw) c.2.2 in
    omega (arith, more)
  where
    in_more : (l : Lit) (falses : List Lit) → ((m : Lit) → In m falses → (0 < m.var) × (m.var ≤ n)) → (0 < l.var) × (l.var ≤ n) → (m : Lit) → In m (opposite l ∷ falses) → (0 < m.var) × (m.var ≤ n)
    in_more l falses within lw m (inl same) = let v : m.var ≡ l.var = ap (λ (q : Lit). q.var) same in (omega (arith, lw.0, v), omega (arith, lw.1, v))
    in_more l falses within lw m (inr i) = within m i

-- ---- how many lines

member : (l : Lit) (c : Clause) → In l c ⊎ (In l c → ⊥)
member l [] = inr (λ i. i)
member l (m ∷ c) = elim (same_lit l m) [
  | inl same ↦ inl (inl same)
  | inr other ↦ elim (member l c) [
    | inl i ↦ inl (inr i)
    | inr none ↦ inr (λ i. elim i [ inl same ↦ other same | inr j ↦ none j ])
  ]
]

abbrev choose : {A B : Type 0} → A ⊎ B → ℕ → ℕ → ℕ
choose (inl a) x y = x
choose (inr b) x y = y

abbrev plain_of : ℕ → Lit
plain_of v = record { var = v; negated = false }

abbrev negated_of : ℕ → Lit
negated_of v = record { var = v; negated = true }

-- 1 where the clause holds the variable, 2 where it holds its complement, else 0
abbrev digit : ℕ → Clause → ℕ
digit v c = choose (member (plain_of v) c) 1 (choose (member (negated_of v) c) 2 0)

choose_small : {A B C D : Type 0} (a : A ⊎ B) (b : C ⊎ D) → choose a 1 (choose b 2 0) ≤ 2
choose_small (inl a) b = omega arith
choose_small (inr a) (inl b) = omega arith
choose_small (inr a) (inr b) = omega arith

plain_moves : {P Q R S : Type 0} (a : P ⊎ (P → ⊥)) (b : Q ⊎ (Q → ⊥)) (c : R ⊎ (R → ⊥)) (d : S ⊎ (S → ⊥)) → choose a 1 (choose b 2 0) ≡ choose c 1 (choose d 2 0) → P → R
plain_moves (inr n) b c d e p = absurd (n p)
plain_moves (inl x) b (inl r) d e p = r
plain_moves (inl x) b (inr r) (inl s) e p = absurd (omega (arith, e))
plain_moves (inl x) b (inr r) (inr s) e p = absurd (omega (arith, e))

negated_moves : {P Q R S : Type 0} (a : P ⊎ (P → ⊥)) (b : Q ⊎ (Q → ⊥)) (c : R ⊎ (R → ⊥)) (d : S ⊎ (S → ⊥)) → (P → Q → ⊥) → choose a 1 (choose b 2 0) ≡ choose c 1 (choose d 2 0) → Q → S
negated_moves (inl x) b c d apart e q = absurd (apart x q)
negated_moves (inr n) (inr m) c d apart e q = absurd (m q)
negated_moves (inr n) (inl y) (inl r) d apart e q = absurd (omega (arith, e))
negated_moves (inr n) (inl y) (inr r) (inl s) apart e q = s
negated_moves (inr n) (inl y) (inr r) (inr s) apart e q = absurd (omega (arith, e))

code : ℕ → Clause → ℕ
code zero c = 0
code (suc n) c = digit (suc n) c + 3 * code n c

code_zero : (c : Clause) → code zero c ≡ 0
unfolding code
code_zero c = refl

code_suc : (n : ℕ) (c : Clause) → code (suc n) c ≡ digit (suc n) c + 3 * code n c
unfolding code
code_suc n c = refl

digit_small : (v : ℕ) (c : Clause) → digit v c ≤ 2
digit_small v c = choose_small (member (plain_of v) c) (member (negated_of v) c)

code_small : (n : ℕ) (c : Clause) → code n c < 3 ^ n
code_small zero c = omega (arith, code_zero c)
code_small (suc n) c = omega (arith, code_suc n c, digit_small (suc n) c, code_small n c, pow-suc 3 n)

code_same : (n : ℕ) (c d : Clause) → code n c ≡ code n d → (v : ℕ) → 0 < v → v ≤ n → digit v c ≡ digit v d
code_same zero c d e v pos le = absurd (omega (arith, pos, le))
code_same (suc n) c d e v pos le =
    let both : digit (suc n) c + 3 * code n c ≡ digit (suc n) d + 3 * code n d = sym (code_suc n c) ∙ e ∙ code_suc n d in
    let a = digit_small (suc n) c in
    let b = digit_small (suc n) d in
    elim (cases_eq v (suc n)) [
      | inl same ↦ let here : digit (suc n) c ≡ digit (suc n) d = three (digit (suc n) c) (digit (suc n) d) (code n c) (code n d) a b both in ap (λ q. digit q c) same ∙ here ∙ ap (λ q. digit q d) (sym same)
      | inr other ↦ code_same n c d (rest (digit (suc n) c) (digit (suc n) d) (code n c) (code n d) a b both) v pos (omega (arith, le, other))
    ]
  where
    three : (x y p q : ℕ) → x ≤ 2 → y ≤ 2 → x + 3 * p ≡ y + 3 * q → x ≡ y
    three x y p q a b e = omega (arith, a, b, e)

    rest : (x y p q : ℕ) → x ≤ 2 → y ≤ 2 → x + 3 * p ≡ y + 3 * q → p ≡ q
    rest x y p q a b e = omega (arith, a, b, e)

-- within the variables, and no variable in both signs
record IsRanged (n : ℕ) (c : Clause) : Type 0 where
  within : (l : Lit) → In l c → (0 < l.var) × (l.var ≤ n)
  one_sign : (l : Lit) → In l c → In (opposite l) c → ⊥

-- equal codes are equal sets
code_subset : (n : ℕ) (c d : Clause) → IsRanged n c → code n c ≡ code n d → (l : Lit) → In l c → In l d
code_subset n c d proper e l i = of_bit l.negated refl
  where
    digits : digit l.var c ≡ digit l.var d
    digits = let w = proper.within l i in code_same n c d e l.var w.0 w.1

    of_bit : (b : Bool) → l.negated ≡ b → In l d
    of_bit false p =
        let is : l ≡ plain_of l.var = lit_same l (plain_of l.var) refl p in
        subst (λ q. In q d) (sym is) (plain_moves (member (plain_of l.var) c) (member (negated_of l.var) c) (member (plain_of l.var) d) (member (negated_of l.var) d) digits (subst (λ q. In q c) is i))
    of_bit true p =
        let is : l ≡ negated_of l.var = lit_same l (negated_of l.var) refl p in
        subst (λ q. In q d) (sym is) (negated_moves (member (plain_of l.var) c) (member (negated_of l.var) c) (member (plain_of l.var) d) (member (negated_of l.var) d) (λ a b. proper.one_sign (plain_of l.var) a b) digits (subst (λ q. In q c) is i))

-- a line that is new isn't a known clause, as a set
new_differs : (known : List Clause) (line c : Clause) → IsNew known line → IsKnown c known → ((l : Lit) → In l line → In l c) → ((l : Lit) → In l c → In l line) → ⊥
new_differs known line c new k there back =
    new.1.not_true (forced c k (there new.0 new.1.holds) (λ m i ne. given (subst (λ q. In q line) (sym (opposite_twice m)) (back m i), λ e. ne (sym (opposite_twice m) ∙ e))))

code_lit : ℕ → Clause → Lit
code_lit n c = record { var = code n c + 1; negated = false }

code_var : (n : ℕ) (c : Clause) → (code_lit n c).var ≡ code n c + 1
unfolding code_lit
code_var n c = refl

abbrev code_lits : ℕ → List Line → List Lit
code_lits n [] = []
code_lits n (Add id lits hints ∷ lines) = code_lit n lits ∷ code_lits n lines
code_lits n (Del ids ∷ lines) = code_lits n lines

proper_of : (n c : ℕ) (live : Live) (known : List Clause) (id : ℕ) (lits : Clause) (hints : List ℕ) → LineFollows n c live (Add id lits hints) → IsProgressLine known lits → IsRanged n lits
proper_of n c live known id lits hints follows line = record { within = λ l i. (line.positive l i, follows.0.within l i); one_sign = follows.0.one_sign }

later_differ : (n c : ℕ) (lines : List Line) (live : Live) (known : List Clause) (old : Clause) → IsRanged n old → IsKnown old known → IsProgress n c live known lines → (m : Lit) → In m (code_lits n lines) → m.var ≢ (code_lit n old).var
later_differ n c [] live known old proper k p m i e = absurd i
later_differ n c (Add id lits hints ∷ lines) live known old proper k p m (inl same) e =
    let codes : code n lits ≡ code n old = omega (arith, ap (λ (l : Lit). l.var) same, e, code_var n lits, code_var n old) in
    new_differs known lits old p.1.new k (code_subset n lits old (proper_of n c live known id lits hints p.0 p.1) codes) (code_subset n old lits proper (sym codes))
later_differ n c (Add id lits hints ∷ lines) live known old proper k p m (inr i) e = later_differ n c lines (after live (Add id lits hints)) (lits ∷ known) old proper (inr k) p.2 m i e
later_differ n c (Del ids ∷ lines) live known old proper k p m i e = absurd p

codes_once : (n c : ℕ) (lines : List Line) (live : Live) (known : List Clause) → IsProgress n c live known lines → HasEachVariableOnce (code_lits n lines)
codes_once n c [] live known p = tt
codes_once n c (Add id lits hints ∷ lines) live known p =
    (later_differ n c lines (after live (Add id lits hints)) (lits ∷ known) lits (proper_of n c live known id lits hints p.0 p.1) (inl refl) p.2, codes_once n c lines (after live (Add id lits hints)) (lits ∷ known) p.2)
codes_once n c (Del ids ∷ lines) live known p = absurd p

codes_length : (n c : ℕ) (lines : List Line) (live : Live) (known : List Clause) → IsProgress n c live known lines → length (code_lits n lines) ≡ length lines
codes_length n c [] live known p = refl
codes_length n c (Add id lits hints ∷ lines) live known p = omega (arith, codes_length n c lines (after live (Add id lits hints)) (lits ∷ known) p.2)
codes_length n c (Del ids ∷ lines) live known p = absurd p

codes_within : (n : ℕ) (lines : List Line) (l : Lit) → In l (code_lits n lines) → (0 < l.var) × (l.var ≤ 3 ^ n)
codes_within n [] l i = absurd i
codes_within n (Add id lits hints ∷ lines) l (inl same) = let v : l.var ≡ code n lits + 1 = ap (λ (q : Lit). q.var) same ∙ code_var n lits in (omega (arith, v), omega (arith, v, code_small n lits))
codes_within n (Add id lits hints ∷ lines) l (inr i) = codes_within n lines l i
codes_within n (Del ids ∷ lines) l i = codes_within n lines l i

-- a progress log with n variables has at most 3 ^ n lines
pub progress_few : (n c : ℕ) (lines : List Line) (live : Live) (known : List Clause) → IsProgress n c live known lines → length lines ≤ 3 ^ n
progress_few n c lines live known p = omega (arith, codes_length n c lines live known p, few_vars (3 ^ n) (code_lits n lines) (codes_once n c lines live known p) (codes_within n lines))

live_more : (n : ℕ) (live : Live) (id : ℕ) (lits : Clause) (hints : List ℕ) → LiveWithin live n → ((l : Lit) → In l lits → (0 < l.var) × (l.var ≤ n)) → LiveWithin (after live (Add id lits hints)) n
live_more n live id lits hints live_in within k c e = elim (cases_Bool (k == id)) [
  | inl here ↦ let s : Some lits ≡ Some c = rw here at e in let is : lits ≡ c = cc in subst (λ q. (l : Lit) → In l q → (0 < l.var) × (l.var ≤ n)) is within
  | inr there ↦ let s : live k ≡ Some c = rw there at e in live_in k c s
]

-- and at most n + 1 numbers a line
pub progress_numbers : (n c : ℕ) (lines : List Line) (live : Live) (known : List Clause) → LiveWithin live n → IsProgress n c live known lines → numbers lines ≤ length lines * (n + 1)
progress_numbers n c [] live known live_in p = omega arith
progress_numbers n c (Add id lits hints ∷ lines) live known live_in p =
    let within : (l : Lit) → In l lits → (0 < l.var) × (l.var ≤ n) = λ l i. (p.1.positive l i, p.0.0.within l i) in
    let line = leads_few n live live_in hints lits p.1.once within p.0.1 in
    let rest = progress_numbers n c lines (after live (Add id lits hints)) (lits ∷ known) (live_more n live id lits hints live_in within) p.2 in
    step (length lits + length hints) (numbers lines) (length lines) n line rest
  where
    step : (x y k n : ℕ) → x ≤ n + 1 → y ≤ k * (n + 1) → x + y ≤ suc k * (n + 1)
    step x y k n a b = omega (arith, a, b)
progress_numbers n c (Del ids ∷ lines) live known live_in p = absurd p

pub known_get : (cs : List Clause) (k : ℕ) (c : Clause) → slice_get cs k ≡ Some c → IsKnown c cs
known_get [] k c e = absurd (let s : None ≡ Some c = e in cc)
known_get (d ∷ cs) zero c e = inl (let s : Some d ≡ Some c = e in cc)
known_get (d ∷ cs) (suc k) c e = inr (known_get cs k c e)

pub first_within : (clauses : List Clause) (n : ℕ) → IsWithin clauses n → LiveWithin (first_live clauses) n
first_within clauses n within id c e = elim (cases_Bool (id == 0)) [
  | inl none ↦ absurd (let s : None ≡ Some c = rw none at e in cc)
  | inr some ↦ let s : slice_get clauses (id - 1) ≡ Some c = rw some at e in within c (known_get clauses (id - 1) c s)
]

pub progress_bounded : (n : ℕ) (formula : List Clause) (lines : List Line) → IsWithin formula n → IsProgressLog n formula lines → numbers lines ≤ 3 ^ n * (2 * n + 1)
progress_bounded n formula lines within p =
    let few = progress_few n (length formula) lines (first_live formula) formula p in
    let sum_of = progress_numbers n (length formula) lines (first_live formula) formula (first_within formula n within) p in
    let wide : length lines * (n + 1) ≤ length lines * (2 * n + 1) = mul-le-mul_left (length lines) (omega arith) in
    let tall : (2 * n + 1) * length lines ≤ (2 * n + 1) * 3 ^ n = mul-le-mul_left (2 * n + 1) few in
    close (numbers lines) (length lines) (3 ^ n) n sum_of wide tall
  where
    close : (x k t n : ℕ) → x ≤ k * (n + 1) → k * (n + 1) ≤ k * (2 * n + 1) → (2 * n + 1) * k ≤ (2 * n + 1) * t → x ≤ t * (2 * n + 1)
    close x k t n a b c = omega (arith, a, b, c)
