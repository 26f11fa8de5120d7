-- Marks, and the literals of a front of a clause.
use Rattle.std.proofs.Common.{◌≡◌, ◌⊎◌, ℕ, zero, suc, ◌+◌, ◌*◌, ◌<◌, ◌≤◌, Bool, true, false, not, cond, List, [], ◌∷◌, ◌++◌, Option, Some, None, MatchOption, length, take, slice_index_or, slice_set, refl, sym, ap, ◌∙◌, subst, inl, inr, arith, length-set}
use Rattle.std.proofs.lemmas.List.{take_more, get_or-set_same, get_or-set_other}
use Rattle.std.proofs.lemmas.Bool.{cases_eq}
use Rattle.clause_arena.specs.Clauses.{Lit, Clause, In, opposite}
use Rattle.clause_arena.specs.Lits.{code_of}
use Rattle.proof_check.specs.Marks.{Marked, AllMarked, IsOpen, Within, Represent, IsTable}
use Rattle.proof_check.specs.Proper.{IsOneSigned}

code_parts : (v w : ℕ) (p q : Bool) → 2 * v + cond p 1 0 ≡ 2 * w + cond q 1 0 → (v ≡ w) × (p ≡ q)
code_parts v w true true e = (omega (arith, e), refl)
code_parts v w true false e = absurd (omega (arith, e))
code_parts v w false true e = absurd (omega (arith, e))
code_parts v w false false e = (omega (arith, e), refl)

pub lit_same : (a b : Lit) → a.var ≡ b.var → a.negated ≡ b.negated → a ≡ b
lit_same a b v n = λ i. record { var = v i; negated = n i }

pub code_same : (a b : Lit) → code_of a ≡ code_of b → a ≡ b
code_same a b e = let p = code_parts a.var b.var a.negated b.negated e in lit_same a b p.0 p.1

pub code_fits : (variables : ℕ) (l : Lit) → l.var ≤ variables → code_of l < 2 * variables + 2
code_fits variables l le = fits l.negated
  where
    fits : (b : Bool) → 2 * l.var + cond b 1 0 < 2 * variables + 2
    fits true = omega arith
    fits false = omega arith

pub opposite_twice : (l : Lit) → opposite (opposite l) ≡ l
opposite_twice l = lit_same (opposite (opposite l)) l refl (twice l.negated)
  where
    twice : (b : Bool) → not (not b) ≡ b
    twice true = refl
    twice false = refl

pub opposite_other : (l : Lit) → opposite l ≡ l → ⊥
opposite_other l e = other l.negated (ap (λ (m : Lit). m.negated) e)
  where
    other : (b : Bool) → not b ≡ b → ⊥
    other true h = absurd cc
    other false h = absurd cc

in_last : (c : Clause) (x m : Lit) → In m (c ++ x ∷ []) → In m c ⊎ (m ≡ x)
in_last [] x m (inl e) = inr e
in_last [] x m (inr h) = absurd h
in_last (y ∷ c) x m (inl e) = inl (inl e)
in_last (y ∷ c) x m (inr h) = elim (in_last c x m h) [ inl i ↦ inl (inr i) | inr e ↦ inr e ]

in_left : (c : Clause) (x m : Lit) → In m c → In m (c ++ x ∷ [])
in_left [] x m h = absurd h
in_left (y ∷ c) x m (inl e) = inl e
in_left (y ∷ c) x m (inr h) = inr (in_left c x m h)

in_end : (c : Clause) (x : Lit) → In x (c ++ x ∷ [])
in_end [] x = inl refl
in_end (y ∷ c) x = inr (in_end c x)

more_is : (c : Clause) (i : ℕ) (x : Lit) → i < length c → x ≡ slice_index_or c i x → take (i + 1) c ≡ take i c ++ x ∷ []
more_is c i x lt is = take_more c i x lt ∙ ap (λ (y : Lit). take i c ++ y ∷ []) (sym is)

pub in_more : (c : Clause) (i : ℕ) (x m : Lit) → i < length c → x ≡ slice_index_or c i x → In m (take (i + 1) c) → In m (take i c) ⊎ (m ≡ x)
in_more c i x m lt is h = in_last (take i c) x m (subst (In m) (more_is c i x lt is) h)

pub in_before : (c : Clause) (i : ℕ) (x m : Lit) → i < length c → x ≡ slice_index_or c i x → In m (take i c) → In m (take (i + 1) c)
in_before c i x m lt is h = subst (In m) (sym (more_is c i x lt is)) (in_left (take i c) x m h)

pub in_now : (c : Clause) (i : ℕ) (x : Lit) → i < length c → x ≡ slice_index_or c i x → In x (take (i + 1) c)
in_now c i x lt is = subst (In x) (sym (more_is c i x lt is)) (in_end (take i c) x)

pub in_front : (c : Clause) (i : ℕ) (m : Lit) → In m (take i c) → In m c
in_front [] zero m h = absurd h
in_front [] (suc i) m h = absurd h
in_front (y ∷ c) zero m h = absurd h
in_front (y ∷ c) (suc i) m (inl e) = inl e
in_front (y ∷ c) (suc i) m (inr h) = inr (in_front c i m h)

pub in_here : (c : Clause) (i : ℕ) (x : Lit) → i < length c → x ≡ slice_index_or c i x → In x c
in_here c i x lt is = in_front c (i + 1) x (in_now c i x lt is)

-- ---- one literal that isn't marked

open_is : (marks : List ℕ) (stamp : ℕ) (c : Clause) (l x : Lit) → IsOpen marks stamp c l → In x c → (Marked marks stamp x → ⊥) → code_of x ≡ code_of l
open_is marks stamp c l x o i u = elim (cases_eq (code_of x) (code_of l)) [
  | inl e ↦ e
  | inr ne ↦ absurd (u (o.others x i (λ e. ne (ap code_of e))))
]

pub two_open : (marks : List ℕ) (stamp : ℕ) (c : Clause) (l x y : Lit) → In x c → In y c → (Marked marks stamp x → ⊥) → (Marked marks stamp y → ⊥) → (code_of x ≡ code_of y → ⊥) → IsOpen marks stamp c l → ⊥
two_open marks stamp c l x y ix iy ux uy ne o = ne (open_is marks stamp c l x o ix ux ∙ sym (open_is marks stamp c l y o iy uy))

pub open_first : (marks : List ℕ) (stamp : ℕ) (c : Clause) (i : ℕ) (x : Lit) → i < length c → x ≡ slice_index_or c i x → AllMarked marks stamp (take i c) → (Marked marks stamp x → ⊥) → IsOpen marks stamp (take (i + 1) c) x
open_first marks stamp c i x lt is all u = record {
  holds = in_now c i x lt is;
  others = λ m h ne. elim (in_more c i x m lt is h) [ inl old ↦ all m old | inr e ↦ absurd (ne e) ];
  not_false = u;
}

pub open_again : (marks : List ℕ) (stamp : ℕ) (c : Clause) (i : ℕ) (x l : Lit) → i < length c → x ≡ slice_index_or c i x → IsOpen marks stamp (take i c) l → code_of l ≡ code_of x → IsOpen marks stamp (take (i + 1) c) l
open_again marks stamp c i x l lt is o e = record {
  holds = in_before c i x l lt is o.holds;
  others = λ m h ne. elim (in_more c i x m lt is h) [ inl old ↦ o.others m old ne | inr s ↦ absurd (ne (s ∙ sym (code_same l x e))) ];
  not_false = o.not_false;
}

pub all_more : (marks : List ℕ) (stamp : ℕ) (c : Clause) (i : ℕ) (x : Lit) → i < length c → x ≡ slice_index_or c i x → AllMarked marks stamp (take i c) → Marked marks stamp x → AllMarked marks stamp (take (i + 1) c)
all_more marks stamp c i x lt is all k m h = elim (in_more c i x m lt is h) [ inl old ↦ all m old | inr e ↦ rw e k ]

pub front_more : (marks : List ℕ) (stamp : ℕ) (c : Clause) (i : ℕ) (x : Lit) → i < length c → x ≡ slice_index_or c i x → Marked marks stamp x → (o : Option Lit) → MatchOption o (AllMarked marks stamp (take i c)) (λ u. IsOpen marks stamp (take i c) u) → MatchOption o (AllMarked marks stamp (take (i + 1) c)) (λ u. IsOpen marks stamp (take (i + 1) c) u)
front_more marks stamp c i x lt is k None h = all_more marks stamp c i x lt is h k
front_more marks stamp c i x lt is k (Some l) h = record {
  holds = in_before c i x l lt is h.holds;
  others = λ m n ne. elim (in_more c i x m lt is n) [ inl old ↦ h.others m old ne | inr e ↦ rw e k ];
  not_false = h.not_false;
}

-- ---- marking a clause

pub table_set : (variables : ℕ) (marks : List ℕ) (stamp code : ℕ) → IsTable variables marks stamp → code < length marks → IsTable variables (slice_set marks code stamp) stamp
table_set variables marks stamp code t lt = record {
  size = length-set marks code stamp ∙ t.size;
  below = λ k. elim (cases_eq k code) [
    | inl e ↦ rw e (omega (arith, get_or-set_same marks code stamp 0 lt))
    | inr ne ↦ omega (arith, get_or-set_other marks code k stamp 0 ne, t.below k)
  ];
}

pub marked_set : (marks : List ℕ) (stamp : ℕ) (x m : Lit) → code_of x < length marks → Marked marks stamp m → Marked (slice_set marks (code_of x) stamp) stamp m
marked_set marks stamp x m lt h = elim (cases_eq (code_of m) (code_of x)) [
  | inl e ↦ rw e (get_or-set_same marks (code_of x) stamp 0 lt)
  | inr ne ↦ get_or-set_other marks (code_of x) (code_of m) stamp 0 ne ∙ h
]

pub represent_set : (variables : ℕ) (marks : List ℕ) (stamp : ℕ) (falses : List Lit) (x : Lit) → code_of x < length marks → Represent variables marks stamp falses → Represent variables (slice_set marks (code_of x) stamp) stamp (x ∷ falses)
represent_set variables marks stamp falses x lt r = record {
  marked = λ m le h. now m le h;
  only = λ m le h. elim (cases_eq (code_of m) (code_of x)) [
    | inl e ↦ inl (code_same m x e)
    | inr ne ↦ inr (r.only m le (sym (get_or-set_other marks (code_of x) (code_of m) stamp 0 ne) ∙ h))
  ];
}
  where
    now : (m : Lit) → m.var ≤ variables → In m (x ∷ falses) → Marked (slice_set marks (code_of x) stamp) stamp m
    now m le (inl e) = rw e (get_or-set_same marks (code_of x) stamp 0 lt)
    now m le (inr h) = marked_set marks stamp x m lt (r.marked m le h)

represent_same : (variables : ℕ) (marks : List ℕ) (stamp : ℕ) (f g : List Lit) → ((m : Lit) → In m f → In m g) → ((m : Lit) → In m g → In m f) → Represent variables marks stamp f → Represent variables marks stamp g
represent_same variables marks stamp f g there back r = record { marked = λ m le h. r.marked m le (back m h); only = λ m le h. there m (r.only m le h) }

pub represent_more : (variables : ℕ) (marks : List ℕ) (stamp : ℕ) (c : Clause) (i : ℕ) (x : Lit) → i < length c → x ≡ slice_index_or c i x → code_of x < length marks → Represent variables marks stamp (take i c) → Represent variables (slice_set marks (code_of x) stamp) stamp (take (i + 1) c)
represent_more variables marks stamp c i x lt is fits r =
    represent_same variables (slice_set marks (code_of x) stamp) stamp (x ∷ take i c) (take (i + 1) c) there (λ m h. elim (in_more c i x m lt is h) [ inl old ↦ inr old | inr e ↦ inl e ]) (represent_set variables marks stamp (take i c) x fits r)
  where
    there : (m : Lit) → In m (x ∷ take i c) → In m (take (i + 1) c)
    there m (inl e) = rw e (in_now c i x lt is)
    there m (inr h) = in_before c i x m lt is h

pub within_more : (variables : ℕ) (c : Clause) (i : ℕ) (x : Lit) → i < length c → x ≡ slice_index_or c i x → x.var ≤ variables → Within variables (take i c) → Within variables (take (i + 1) c)
within_more variables c i x lt is le w m h = elim (in_more c i x m lt is h) [ inl old ↦ w m old | inr e ↦ rw e le ]

pub signed_more : (variables : ℕ) (marks : List ℕ) (stamp : ℕ) (c : Clause) (i : ℕ) (x : Lit) → i < length c → x ≡ slice_index_or c i x → x.var ≤ variables → Represent variables marks stamp (take i c) → (Marked marks stamp (opposite x) → ⊥) → IsOneSigned (take i c) → IsOneSigned (take (i + 1) c)
signed_more variables marks stamp c i x lt is le r u one l a b = elim (in_more c i x l lt is a) [
  | inl old ↦ elim (in_more c i x (opposite l) lt is b) [
    | inl back ↦ one l old back
    | inr e ↦ u (r.marked (opposite x) le (subst (λ (m : Lit). In m (take i c)) (sym (opposite_twice l) ∙ ap opposite e) old))
  ]
  | inr same ↦ elim (in_more c i x (opposite l) lt is b) [
    | inl back ↦ u (r.marked (opposite x) le (subst (λ (m : Lit). In (opposite m) (take i c)) same back))
    | inr e ↦ opposite_other l (e ∙ sym same)
  ]
]
