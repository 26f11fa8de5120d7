-- Lines that follow one after another, and what they refute.
use Rattle.std.proofs.Common.{◌≡◌, ℕ, zero, suc, ◌+◌, ◌-◌, ◌<◌, ◌≤◌, ◌==◌, Bool, true, false, not, ◌||◌, if◌then◌else◌, cond, eqb, IsTrue, List, [], ◌∷◌, length, take, Option, Some, None, IsSomeAnd, slice_get, slice_set, refl, sym, ap, ◌∙◌, subst, inl, inr, arith, add-one, length-set}
use Rattle.std.specs.List.{list_any}
use Rattle.std.proofs.lemmas.List.{take_all, get_or-set_other}
use Rattle.std.proofs.lemmas.Bool.{both_ways, cases_Bool, cases_eq, or_cases, or_left, or_right, false_from_ne_true, true_from_ne_false, eq-eqb, ne_eqb}
use Rattle.std.proofs.lemmas.Option.{none-some}
use Rattle.clause_arena.specs.Clauses.{Lit, opposite, Clause, In, lit_true, clause_true, Satisfies, HaveNoSolution}
use Rattle.proof_check.specs.Lines.{Line, line_at, is_add_of, is_empty_add, Rise}
use Rattle.proof_check.specs.Following.{Live, first_live, after, AllFalse, IsUnit, HintsLead, IsProper, LineFollows, AllFollow, BreaksAt, Breaks, HasEmpty, Refutes, IsFirstBreak}
use Rattle.proof_check.specs.Lives.{flag, live_by, ScratchState, Fits}
use Rattle.proof_check.specs.Verdicts.{live_at}
use Rattle.clause_arena.specs.Lits.{code_of}
use Rattle.proof_check.proofs.MarkLemmas.{code_same}
use Rattle.proof_check.proofs.LiveLemmas.{clause_of, live_set, live_more, follow_more}

-- two ways to say what is live
pub same_live : (f g : Live) → ((id : ℕ) → f id ≡ g id) → f ≡ g
same_live f g h = λ i. λ id. h id i

pub live_is : (v : ℕ) (formula : List Clause) (lines : List Line) (s : ScratchState) (index : ℕ) → Fits v formula lines s index → live_at formula lines index ≡ live_by formula lines s.clauses_live s.lines_live
live_is v formula lines s index fits = same_live (live_at formula lines index) (live_by formula lines s.clauses_live s.lines_live) fits.live

live_next : (formula : List Clause) (lines : List Line) (index : ℕ) (line : Line) → index < length lines → line_at lines index ≡ line → (id : ℕ) → live_at formula lines (index + 1) id ≡ after (live_at formula lines index) line id
live_next formula lines index line lt is id =
    let n : index + 1 ≡ suc index = omega arith in
    ap (λ (k : ℕ). live_at formula lines k id) n ∙ ap (λ (f : Live). f id) (live_more (first_live formula) lines index lt) ∙ ap (λ (l : Line). after (live_at formula lines index) l id) is

follow_next : (v : ℕ) (formula : List Clause) (lines : List Line) (index : ℕ) → index < length lines → AllFollow v (length formula) (first_live formula) (take index lines) → LineFollows v (length formula) (live_at formula lines index) (line_at lines index) → AllFollow v (length formula) (first_live formula) (take (index + 1) lines)
follow_next v formula lines index lt all f =
    let n : suc index ≡ index + 1 = omega arith in
    subst (λ (k : ℕ). AllFollow v (length formula) (first_live formula) (take k lines)) n (follow_more v (length formula) (first_live formula) lines index lt all f)

pub add_follows : (v : ℕ) (formula : List Clause) (lines : List Line) (s : ScratchState) (index id : ℕ) (lits : Clause) (hints : List ℕ) → Fits v formula lines s index → line_at lines index ≡ Line.Add id lits hints → IsProper v (length formula) id lits hints → HintsLead (live_by formula lines s.clauses_live s.lines_live) lits hints → LineFollows v (length formula) (live_at formula lines index) (line_at lines index)
add_follows v formula lines s index id lits hints fits is p l = rw is (p, rw (live_is v formula lines s index fits) l)

pub add_breaks : (v : ℕ) (formula : List Clause) (lines : List Line) (s : ScratchState) (index h : ℕ) (line : Line) → Fits v formula lines s index → line_at lines index ≡ line → Breaks v (length formula) (live_by formula lines s.clauses_live s.lines_live) line h → Breaks v (length formula) (live_at formula lines index) (line_at lines index) h
add_breaks v formula lines s index h line fits is b = rw (is, live_is v formula lines s index fits) b

pub add_fits : (v last : ℕ) (formula : List Clause) (lines : List Line) (s : ScratchState) (index id : ℕ) (lits : Clause) (hints : List ℕ) → Rise last lines → index < length lines → Fits v formula lines s index → line_at lines index ≡ Line.Add id lits hints → LineFollows v (length formula) (live_at formula lines index) (line_at lines index)
    → Fits v formula lines (record { variables = s.variables; done = s.done + 1; clauses_live = s.clauses_live; lines_live = slice_set s.lines_live index true }) (index + 1)
add_fits v last formula lines s index id lits hints rise lt fits is follows = record {
  variables_are = fits.variables_are;
  clauses_are = fits.clauses_are;
  lines_are = length-set s.lines_live index true ∙ fits.lines_are;
  done = ap (λ (n : ℕ). n + 1) fits.done;
  follow = follow_next v formula lines index lt fits.follow follows;
  live = λ other.
      let own : is_add_of id (line_at lines index) ≡ true = rw is (eq-eqb id id refl) in
      let proper : IsProper v (length formula) id lits hints = (rw is at follows).0 in
      let clause : clause_of (line_at lines index) ≡ lits = ap clause_of is in
      live_next formula lines index (Line.Add id lits hints) lt is other
      ∙ swapped (eqb other id) (eqb id other) (eqb_swap other id) (fits.live other)
      ∙ sym (live_set last formula lines s.clauses_live s.lines_live index id true rise fits.lines_are lt own proper.id_above other ∙ ap (λ (c : Clause). cond (eqb id other) (Some c) (live_by formula lines s.clauses_live s.lines_live other)) clause);
  later = λ k le. get_or-set_other s.lines_live index k true false (omega (arith, le)) ∙ fits.later k (omega (arith, le));
}
  where
    eqb_swap : (a b : ℕ) → eqb a b ≡ eqb b a
    eqb_swap a b = elim (cases_eq a b) [
      | inl e ↦ eq-eqb a b e ∙ sym (eq-eqb b a (sym e))
      | inr ne ↦ ne_eqb a b ne ∙ sym (ne_eqb b a (λ e. ne (sym e)))
    ]

    swapped : (p q : Bool) → p ≡ q → {x y : Option Clause} → x ≡ y → cond p (Some lits) x ≡ cond q (Some lits) y
    swapped p q e {x} {y} h = rw (e, h) refl

pub del_fits : (v : ℕ) (formula : List Clause) (lines : List Line) (s : ScratchState) (index : ℕ) (ids : List ℕ) (cf lf : List Bool) → index < length lines → Fits v formula lines s index → line_at lines index ≡ Line.Del ids
    → length cf ≡ length formula → length lf ≡ length lines → ((k : ℕ) → flag s.lines_live k ≡ false → flag lf k ≡ false) → ((other : ℕ) → live_by formula lines cf lf other ≡ (if list_any (λ i. i == other) ids then None else live_by formula lines s.clauses_live s.lines_live other))
    → Fits v formula lines (record { variables = s.variables; done = s.done + 1; clauses_live = cf; lines_live = lf }) (index + 1)
del_fits v formula lines s index ids cf lf lt fits is nc nl later live = record {
  variables_are = fits.variables_are;
  clauses_are = nc;
  lines_are = nl;
  done = ap (λ (n : ℕ). n + 1) fits.done;
  follow = follow_next v formula lines index lt fits.follow (rw is tt);
  live = λ other.
      live_next formula lines index (Line.Del ids) lt is other
      ∙ ap (λ (x : Option Clause). cond (list_any (λ i. eqb i other) ids) None x) (fits.live other)
      ∙ sym (live other);
  later = λ k le. later k (fits.later k (omega (arith, le)));
}

pub del_follows : (v : ℕ) (formula : List Clause) (lines : List Line) (index : ℕ) (ids : List ℕ) → line_at lines index ≡ Line.Del ids → LineFollows v (length formula) (live_at formula lines index) (line_at lines index)
del_follows v formula lines index ids is = rw is tt

-- ---- an empty addition

abbrev pub has_empty : List Line → Bool
has_empty lines = list_any is_empty_add lines

pub empty_more : (lines : List Line) (i : ℕ) → i < length lines → has_empty (take (i + 1) lines) ≡ (has_empty (take i lines) || is_empty_add (line_at lines i))
empty_more lines i lt = ap (λ (k : ℕ). has_empty (take k lines)) (add-one i) ∙ more lines i lt
  where
    or_false : (b : Bool) → (b || false) ≡ b
    or_false true = refl
    or_false false = refl

    or_assoc : (a b c : Bool) → b ≡ c → (a || b) ≡ (a || c)
    or_assoc a b c e = ap (λ (x : Bool). a || x) e

    or_flat : (a b c : Bool) → (a || (b || c)) ≡ ((a || b) || c)
    or_flat true b c = refl
    or_flat false b c = refl

    more : (lines : List Line) (i : ℕ) → i < length lines → has_empty (take (suc i) lines) ≡ (has_empty (take i lines) || is_empty_add (line_at lines i))
    more [] i lt = absurd (omega (arith, lt))
    more (l ∷ ls) zero lt = or_false (is_empty_add l)
    more (l ∷ ls) (suc i) lt = or_assoc (is_empty_add l) _ _ (more ls i (omega (arith, lt))) ∙ or_flat (is_empty_add l) (has_empty (take i ls)) (is_empty_add (line_at ls i))

pub empty_is : (lines : List Line) → has_empty lines ≡ true → HasEmpty lines
empty_is [] h = absurd cc
empty_is (Line.Add id [] hints ∷ lines) h = tt
empty_is (Line.Add id (l ∷ lits) hints ∷ lines) h = empty_is lines h
empty_is (Line.Del ids ∷ lines) h = empty_is lines h

pub no_empty_is : (lines : List Line) → has_empty lines ≡ false → HasEmpty lines → ⊥
no_empty_is [] h e = e
no_empty_is (Line.Add id [] hints ∷ lines) h e = absurd cc
no_empty_is (Line.Add id (l ∷ lits) hints ∷ lines) h e = no_empty_is lines h e
no_empty_is (Line.Del ids ∷ lines) h e = no_empty_is lines h e

-- ---- a refutation leaves no solution

module _ (v : ℕ → Bool) where
  -- the assignment makes every live clause true
  abbrev Holds : Live → Type 0
  Holds live = (k : ℕ) (c : Clause) → live k ≡ Some c → IsTrue (clause_true v c)

  -- a true clause has a true literal
  true_in : (c : Clause) → IsTrue (clause_true v c) → (l : Lit) × In l c × IsTrue (lit_true v l)
  true_in [] h = absurd (both_ways _ refl h)
  true_in (m ∷ c) h = elim (or_cases _ _ h) [
    | inl a ↦ (m, inl refl, a)
    | inr b ↦ let x = true_in c b in (x.0, inr x.1, x.2)
  ]

  in_true : (c : Clause) (l : Lit) → In l c → IsTrue (lit_true v l) → IsTrue (clause_true v c)
  in_true [] l i h = absurd i
  in_true (m ∷ c) l (inl same) h = or_left _ _ (subst (λ k. IsTrue (lit_true v k)) same h)
  in_true (m ∷ c) l (inr i) h = or_right _ _ (in_true c l i h)

  each_false : (c : Clause) → clause_true v c ≡ false → (l : Lit) → In l c → lit_true v l ≡ false
  each_false c h l i = false_from_ne_true _ (λ t. both_ways _ h (in_true c l i t))

  opposite_false : (l : Lit) → IsTrue (lit_true v l) → lit_true v (opposite l) ≡ false
  opposite_false l h = of_bits l.negated (v l.var) h
    where
      of_bits : (b x : Bool) → IsTrue (if b then not x else x) → (if not b then not x else x) ≡ false
      of_bits true true h = sym h
      of_bits true false h = refl
      of_bits false true h = refl
      of_bits false false h = absurd (both_ways _ refl h)

  some_of : (q : Option Clause) (P : Clause → Type 0) → IsSomeAnd q P → (c : Clause) × (q ≡ Some c) × P c
  some_of None P h = absurd h
  some_of (Some c) P h = (c, refl, h)

  -- hints that lead from literals that are all false lead to a contradiction
  leads_nowhere : (live : Live) → Holds live → (hints : List ℕ) (falses : List Lit) → ((m : Lit) → In m falses → lit_true v m ≡ false) → HintsLead live falses hints → ⊥
  leads_nowhere live holds [] falses are lead = lead
  leads_nowhere live holds (h ∷ []) falses are lead =
      let c = some_of (live h) (AllFalse falses) lead in
      let t = true_in c.0 (holds h c.0 c.1) in
      both_ways _ (are t.0 (c.2 t.0 t.1)) t.2
  leads_nowhere live holds (h ∷ k ∷ hints) falses are lead =
      let c = some_of (live h) (λ c. (l : Lit) × IsUnit falses c l × HintsLead live (opposite l ∷ falses) (k ∷ hints)) lead in
      let l = c.2.0 in
      let t = true_in c.0 (holds h c.0 c.1) in
      let l_true : IsTrue (lit_true v l) = true_from_ne_false _ (λ f.
      both_ways _ (are t.0 (c.2.1.others t.0 t.1 (λ same. both_ways _ f (subst (λ m. IsTrue (lit_true v m)) same t.2)))) t.2) in
      leads_nowhere live holds (k ∷ hints) (opposite l ∷ falses) (now_false l falses are l_true) c.2.2
    where
      now_false : (l : Lit) (falses : List Lit) → ((m : Lit) → In m falses → lit_true v m ≡ false) → IsTrue (lit_true v l) → (m : Lit) → In m (opposite l ∷ falses) → lit_true v m ≡ false
      now_false l falses are t m (inl same) = rw same (opposite_false l t)
      now_false l falses are t m (inr i) = are m i

  line_keeps : (variables clauses : ℕ) (live : Live) (line : Line) → Holds live → LineFollows variables clauses live line → Holds (after live line)
  line_keeps variables clauses live (Line.Add id lits hints) holds follows k c e = elim (cases_Bool (k == id)) [
    | inl here ↦
        let same : Some lits ≡ Some c = rw here at e in
        let it : lits ≡ c = cc in
        rw (← it) (true_from_ne_false _ (λ f. leads_nowhere live holds hints lits (each_false lits f) follows.1))
    | inr there ↦ let old : live k ≡ Some c = rw there at e in holds k c old
  ]
  line_keeps variables clauses live (Line.Del ids) holds follows k c e = elim (cases_Bool (list_any (λ i. i == k) ids)) [
    | inl gone ↦ let none : None ≡ Some c = rw gone at e in absurd (none-some c none)
    | inr stays ↦ let old : live k ≡ Some c = rw stays at e in holds k c old
  ]

  no_empty : (variables clauses : ℕ) (lines : List Line) (live : Live) → Holds live → AllFollow variables clauses live lines → HasEmpty lines → ⊥
  no_empty variables clauses [] live holds follow empty = empty
  no_empty variables clauses (Line.Add id [] hints ∷ lines) live holds follow empty = leads_nowhere live holds hints [] (λ m i. absurd i) follow.0.1
  no_empty variables clauses (Line.Add id (l ∷ lits) hints ∷ lines) live holds follow empty =
      no_empty variables clauses lines (after live (Line.Add id (l ∷ lits) hints)) (line_keeps variables clauses live (Line.Add id (l ∷ lits) hints) holds follow.0) follow.1 empty
  no_empty variables clauses (Line.Del ids ∷ lines) live holds follow empty =
      no_empty variables clauses lines (after live (Line.Del ids)) (line_keeps variables clauses live (Line.Del ids) holds follow.0) follow.1 empty

  satisfied_at : (formula : List Clause) (j : ℕ) (c : Clause) → Satisfies v formula → slice_get formula j ≡ Some c → IsTrue (clause_true v c)
  satisfied_at [] j c s e = absurd (none-some c e)
  satisfied_at (x ∷ formula) zero c s e = let it : x ≡ c = cc in rw it at s.0
  satisfied_at (x ∷ formula) (suc j) c s e = satisfied_at formula j c s.1 e

  first_holds : (formula : List Clause) → Satisfies v formula → Holds (first_live formula)
  first_holds formula s k c e = elim (cases_Bool (k == 0)) [
    | inl z ↦ let none : None ≡ Some c = rw z at e in absurd (none-some c none)
    | inr nz ↦ let old : slice_get formula (k - 1) ≡ Some c = rw nz at e in satisfied_at formula (k - 1) c s old
  ]

pub no_solution : (variables : ℕ) (formula : List Clause) (lines : List Line) → Refutes variables formula lines → HaveNoSolution formula
no_solution variables formula lines r v s = no_empty v variables (length formula) lines (first_live formula) (first_holds v formula s) r.follow r.empty

-- ---- the end of a log

pub whole_follow : (v : ℕ) (formula : List Clause) (lines : List Line) (s : ScratchState) (index : ℕ) → Fits v formula lines s index → length lines ≤ index → AllFollow v (length formula) (first_live formula) lines
whole_follow v formula lines s index fits le = subst (AllFollow v (length formula) (first_live formula)) (take_all index lines le) fits.follow

pub whole_refutes : (v : ℕ) (formula : List Clause) (lines : List Line) (s : ScratchState) (index : ℕ) (b : Bool) → Fits v formula lines s index → length lines ≤ index → b ≡ has_empty (take index lines) → b ≡ true → Refutes v formula lines × HaveNoSolution formula
whole_refutes v formula lines s index b fits le e t =
    let r : Refutes v formula lines = record { follow = whole_follow v formula lines s index fits le; empty = empty_is lines (ap has_empty (sym (take_all index lines le)) ∙ sym e ∙ t) } in
    (r, no_solution v formula lines r)

pub whole_open : (v : ℕ) (formula : List Clause) (lines : List Line) (s : ScratchState) (index : ℕ) (b : Bool) → Fits v formula lines s index → length lines ≤ index → b ≡ has_empty (take index lines) → b ≡ false → AllFollow v (length formula) (first_live formula) lines × (HasEmpty lines → ⊥)
whole_open v formula lines s index b fits le e t = (whole_follow v formula lines s index fits le, no_empty_is lines (ap has_empty (sym (take_all index lines le)) ∙ sym e ∙ t))

pub first_break : (v : ℕ) (formula : List Clause) (lines : List Line) (s : ScratchState) (index line h : ℕ) → Fits v formula lines s index → index < length lines → Breaks v (length formula) (live_at formula lines index) (line_at lines index) h → line ≡ suc index → IsFirstBreak v formula lines line h
first_break v formula lines s index line h fits lt b e = rw e (lt, fits.follow, b)

-- ---- what breaks doesn't follow

same_unit : (falses : List Lit) (c : Clause) (l k : Lit) → IsUnit falses c l → IsUnit falses c k → code_of l ≡ code_of k
same_unit falses c l k a b = elim (cases_eq (code_of l) (code_of k)) [
  | inl e ↦ e
  | inr ne ↦ absurd (a.not_false (b.others l a.holds (λ e. ne (ap code_of e))))
]

with_some : {R : Type 0} (q : Option Clause) (P Q : Clause → Type 0) → ((c : Clause) → P c → Q c → R) → IsSomeAnd q P → IsSomeAnd q Q → R
with_some None P Q h p q = absurd p
with_some (Some c) P Q h p q = h c p q

weaker : (q : Option Clause) (P Q : Clause → Type 0) → ((c : Clause) → P c → Q c) → IsSomeAnd q P → IsSomeAnd q Q
weaker None P Q h p = p
weaker (Some c) P Q h p = h c p

not_lead : (live : Live) (hints : List ℕ) (falses : List Lit) (k : ℕ) → BreaksAt live falses hints (suc k) → HintsLead live falses hints → ⊥
not_lead live [] falses k b l = b
not_lead live (h ∷ []) falses k b l = b.1 l
not_lead live (h ∷ j ∷ hints) falses zero b l = b (weaker (live h) _ _ (λ c p. (p.0, p.1)) l)
not_lead live (h ∷ j ∷ hints) falses (suc k) b l =
    with_some (live h) _ _ (λ c p q.
    let same : p.0 ≡ q.0 = code_same p.0 q.0 (same_unit falses c p.0 q.0 p.1 q.1) in
    not_lead live (j ∷ hints) (opposite q.0 ∷ falses) k (subst (λ (m : Lit). BreaksAt live (opposite m ∷ falses) (j ∷ hints) (suc k)) same p.2) q.2) b l

pub breaks_not : (v n : ℕ) (live : Live) (line : Line) (h : ℕ) → Breaks v n live line h → LineFollows v n live line → ⊥
breaks_not v n live (Line.Add id lits hints) zero b f = b f.0
breaks_not v n live (Line.Add id lits hints) (suc k) b f = not_lead live hints lits k b.1 f.1
breaks_not v n live (Line.Del ids) h b f = b

-- there is one first hint that breaks the rule
one_hint : (live : Live) (hints : List ℕ) (falses : List Lit) (j k : ℕ) → BreaksAt live falses hints (suc j) → BreaksAt live falses hints (suc k) → j ≡ k
one_hint live [] falses j k a b = absurd a
one_hint live (h ∷ []) falses j k a b = omega (arith, a.0, b.0)
one_hint live (h ∷ i ∷ hints) falses zero zero a b = refl
one_hint live (h ∷ i ∷ hints) falses zero (suc k) a b = absurd (a (weaker (live h) _ _ (λ c p. (p.0, p.1)) b))
one_hint live (h ∷ i ∷ hints) falses (suc j) zero a b = absurd (b (weaker (live h) _ _ (λ c p. (p.0, p.1)) a))
one_hint live (h ∷ i ∷ hints) falses (suc j) (suc k) a b =
    ap suc (with_some (live h) _ _ (λ c p q.
    let same : p.0 ≡ q.0 = code_same p.0 q.0 (same_unit falses c p.0 q.0 p.1 q.1) in
    one_hint live (i ∷ hints) (opposite q.0 ∷ falses) j k (subst (λ (m : Lit). BreaksAt live (opposite m ∷ falses) (i ∷ hints) (suc j)) same p.2) q.2) a b)

pub one_break : (v n : ℕ) (live : Live) (line : Line) (j k : ℕ) → Breaks v n live line j → Breaks v n live line k → j ≡ k
one_break v n live (Line.Add id lits hints) zero zero a b = refl
one_break v n live (Line.Add id lits hints) zero (suc k) a b = absurd (a b.0)
one_break v n live (Line.Add id lits hints) (suc j) zero a b = absurd (b a.0)
one_break v n live (Line.Add id lits hints) (suc j) (suc k) a b = ap suc (one_hint live hints lits j k a.1 b.1)
one_break v n live (Line.Del ids) j k a b = absurd a
