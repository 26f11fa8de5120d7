-- A clause copied, each literal once.
use Rattle.std.proofs.Common.{◌≡◌, ◌≢◌, ◌⊎◌, ℕ, ◌<◌, ◌≤◌, Bool, true, false, List, [], ◌∷◌, ◌++◌, length, Option, Some, None, IsSome, IsTrue, slice_get, slice_index_or, slice_set, replicate, refl, sym, ap, ◌∙◌, subst, inl, inr, arith, length-append}
use Rattle.sat_trail.proofs.LitLemmas.{same_var}
use Rattle.sat_engine.specs.Steps.{IsWithin}
use Rattle.std.specs.Option.{is_some}
use Rattle.std.proofs.lemmas.Bool.{cases_eq, cases_lt, and_parts}
use Rattle.std.proofs.lemmas.List.{get_or-replicate, get_or_past, length-replicate}
use Rattle.std.proofs.lemmas.List.Sums.{sum_by-append}
use Rattle.clause_arena.specs.Clauses.{Lit, opposite, Clause, In}
use Rattle.clause_arena.specs.Formulas.{is_within, are_within}
use Rattle.clause_arena.proofs.WithinLemmas.{lit_within}
use Rattle.clause_arena.specs.Arenas.{clause_at, literals}
use Rattle.sat_trail.proofs.TrailLemmas.{in_more, in_last}
use Rattle.clause_arena.specs.Lits.{code_of}
use Rattle.proof_check.specs.Marks.{Represent}
use Rattle.proof_check.proofs.MarkLemmas.{represent_set}
use Rattle.sat_trail.specs.Trails.{TrailState}
use Rattle.watch_lists.specs.Watching.{Watching, listed, IsFit}
use Rattle.sat_engine.specs.Searches.{IsSameSet, AreSameSets, IsAttached}
use Rattle.sat_engine.specs.Copies.{CopiesOne, IsCopy, IsLoaded}
use Rattle.sat_engine.proofs.PlaceLemmas.{in_split}
use Rattle.sat_engine.proofs.MarkLemmas.{once_push}
use Rattle.sat_engine.proofs.KeepLemmas.{get_push_at, get_below, known_at}

pub copies_push : (old : Clause) (l : Lit) (both : Bool) → (In l old → ⊥) → (both ≡ true → In (opposite l) old) → (both ≡ false → In (opposite l) old → ⊥) → CopiesOne old (old ++ l ∷ []) l both
copies_push old l both fresh known unknown = record {
  from = λ m i. in_split old l m i;
  stay = λ m i. in_more old (l ∷ []) m i;
  here = in_last old l;
  few = omega (arith, length-append old (l ∷ []));
  opposites = λ e. in_more old (l ∷ []) (opposite l) (known e);
  once = λ e once. once_push old l once (λ m i v. elim (same_var m l v) [
    | inl same ↦ fresh (subst (λ q. In q old) same i)
    | inr other ↦ unknown e (subst (λ q. In q old) other i)
  ]);
}

pub copy_none : IsCopy [] [] false
copy_none = record { same = λ l. (λ i. i, λ i. i); few = omega arith; opposites = λ e. (let no : false ≡ true = e in cc); once = λ e. tt }

copy_same : (c old new : Clause) (l : Lit) (both found : Bool) → IsCopy c old both → CopiesOne old new l found → IsSameSet new (c ++ l ∷ [])
copy_same c old new l both found copy one m = (
  λ i. elim (one.from m i) [ inl was ↦ in_more c (l ∷ []) m ((copy.same m).0 was) | inr is ↦ subst (λ q. In q (c ++ l ∷ [])) (sym is) (in_last c l) ],
  λ i. elim (in_split c l m i) [ inl was ↦ one.stay m ((copy.same m).1 was) | inr is ↦ subst (λ q. In q new) (sym is) one.here ],
)

pub copy_found : (c old new : Clause) (l : Lit) (both : Bool) → IsCopy c old both → CopiesOne old new l true → IsCopy (c ++ l ∷ []) new true
copy_found c old new l both copy one = record {
  same = copy_same c old new l both true copy one;
  few = omega (arith, one.few, copy.few, length-append c (l ∷ []));
  opposites = λ e. (l, one.here, one.opposites refl);
  once = λ e. absurd (let no : true ≡ false = e in cc);
}

pub copy_more : (c old new : Clause) (l : Lit) (both : Bool) → IsCopy c old both → CopiesOne old new l false → IsCopy (c ++ l ∷ []) new both
copy_more c old new l both copy one = record {
  same = copy_same c old new l both false copy one;
  few = omega (arith, one.few, copy.few, length-append c (l ∷ []));
  opposites = λ e. let o = copy.opposites e in (o.0, one.stay o.0 o.1, one.stay (opposite o.0) o.2);
  once = λ e. one.once refl (copy.once e);
}

pub loaded_none : (w : Watching) → ((k : ℕ) → listed w k ≡ None) → IsLoaded [] [] w
loaded_none w none = record {
  same = (refl, λ k c d e f. absurd (let no : None ≡ Some c = e in cc));
  few = omega arith;
  ids = λ k a. absurd (let no : false ≡ true = sym (ap is_some (none k)) ∙ a in cc);
  covered = λ k c e. absurd (let no : None ≡ Some c = e in cc);
}

same_copy : (formula clauses : List Clause) (c new : Clause) → AreSameSets clauses formula → IsSameSet new c → AreSameSets (clauses ++ new ∷ []) (formula ++ c ∷ [])
same_copy formula clauses c new same is = (omega (arith, same.0, length-append clauses (new ∷ []), length-append formula (c ∷ [])), at)
  where
    at : (k : ℕ) (a b : Clause) → slice_get (clauses ++ new ∷ []) k ≡ Some a → slice_get (formula ++ c ∷ []) k ≡ Some b → IsSameSet a b
    at k a b e f = elim (get_push_at clauses new a k e) [
      | inl old ↦ elim (get_push_at formula c b k f) [
        | inl was ↦ same.1 k a b old was
        | inr last ↦ absurd (omega (arith, get_below clauses k a old, last.0, same.0))
      ]
      | inr here ↦ elim (get_push_at formula c b k f) [
        | inl was ↦ absurd (omega (arith, get_below formula k b was, here.0, same.0))
        | inr last ↦ λ l. (λ i. subst (λ q. In l q) last.1 ((is l).0 (subst (λ q. In l q) (sym here.1) i)), λ i. subst (λ q. In l q) here.1 ((is l).1 (subst (λ q. In l q) (sym last.1) i)))
      ]
    ]

few_push : (formula clauses : List Clause) (c new : Clause) → literals clauses ≤ literals formula → length new ≤ length c → literals (clauses ++ new ∷ []) ≤ literals (formula ++ c ∷ [])
few_push formula clauses c new a b = omega (arith, a, b, sum_by-append (λ x. length x) clauses (new ∷ []), sum_by-append (λ x. length x) formula (c ∷ []))

-- a clause comes: it is attached, holds a variable in both signs, or has one literal at most
pub loaded_more : (formula clauses : List Clause) (w w2 : Watching) (c new : Clause) (both : Bool) (id : ℕ) → id ≡ length clauses → IsLoaded formula clauses w → IsCopy c new both → ((k : ℕ) → k ≢ id → listed w2 k ≡ listed w k) → IsAttached w2 id ⊎ (both ≡ true) ⊎ (length new ≤ 1) → IsLoaded (formula ++ c ∷ []) (clauses ++ new ∷ []) w2
loaded_more formula clauses w w2 c new both id is loaded copy others here = record {
  same = same_copy formula clauses c new loaded.same copy.same;
  few = few_push formula clauses c new loaded.few copy.few;
  ids = λ k a. elim (cases_eq k id) [
    | inl same ↦ omega (arith, same, is, length-append clauses (new ∷ []))
    | inr other ↦ omega (arith, loaded.ids k (subst (λ (q : Option (Lit × Lit)). IsSome q) (others k other) a), length-append clauses (new ∷ []))
  ];
  covered = λ k d e. elim (get_push_at clauses new d k e) [
    | inl old ↦ elim (loaded.covered k d old) [
      | inl a ↦ inl (subst (λ (q : Option (Lit × Lit)). IsSome q) (sym (others k (λ same. omega (arith, get_below clauses k d old, same, is)))) a)
      | inr b ↦ inr b
    ]
    | inr last ↦ elim here [
      | inl a ↦ inl (subst (λ q. IsAttached w2 q) (is ∙ sym last.0) a)
      | inr r ↦ elim r [
        | inl signs ↦ inr (inl (let o = copy.opposites signs in (o.0, subst (λ q. In o.0 q) last.1 o.1, subst (λ q. In (opposite o.0) q) last.1 o.2)))
        | inr short ↦ inr (inr (omega (arith, short, ap length last.1)))
      ]
    ]
  ];
}

pub within_all : (formula : List Clause) (n : ℕ) (c new : Clause) (both : Bool) (id : ℕ) → IsWithin formula n → id < length formula → clause_at formula id ≡ c → IsCopy c new both → (l : Lit) → In l new → l.var ≤ n
within_all formula n c new both id within idl is copy l i = (within (clause_at formula id) (known_at formula id idl) l (subst (In l) (sym is) ((copy.same l).0 i))).1

pub fit_same : (w w2 : Watching) (clauses : List Clause) (t : TrailState) → w2.variables ≡ w.variables → ((k : ℕ) → listed w2 k ≡ listed w k) → IsFit w clauses t → IsFit w2 clauses t
fit_same w w2 clauses t v same fit = record {
  variables = v ∙ fit.variables;
  within = fit.within;
  listing = λ k x y e. fit.listing k x y (sym (same k) ∙ e);
  apart = λ k x y e. fit.apart k x y (sym (same k) ∙ e);
  cover = λ k x y e. fit.cover k x y (sym (same k) ∙ e);
}

pub fit_none : (w : Watching) (t : TrailState) → w.variables ≡ t.variables → ((k : ℕ) → listed w k ≡ None) → IsFit w [] t
fit_none w t v none = record {
  variables = v;
  within = λ k kl. absurd (omega (arith, kl));
  listing = λ k x y e. absurd (no k x y e);
  apart = λ k x y e. absurd (no k x y e);
  cover = λ k x y e. absurd (no k x y e);
}
  where
    no : (k : ℕ) (x y : Lit) → listed w k ≡ Some (x, y) → ⊥
    no k x y e = let h : false ≡ true = sym (ap is_some (none k)) ∙ ap is_some e in cc

-- the formula's own invariant, clause by clause
pub formula_within : (n : ℕ) (formula : List Clause) → IsTrue (are_within n formula) → IsWithin formula n
formula_within n [] h c k l i = absurd k
formula_within n (d ∷ formula) h c (inl same) l i = let parts = and_parts _ _ h in clause_within d parts.0 (subst (λ q. In l q) same i)
  where
    clause_within : (c : Clause) → IsTrue (is_within n c) → In l c → (0 < l.var) × (l.var ≤ n)
    clause_within [] h i = absurd i
    clause_within (m ∷ c) h (inl is) = let w = lit_within n m (and_parts _ _ h).0 in rw is (omega (arith, w.0), w.1)
    clause_within (m ∷ c) h (inr i) = clause_within c (and_parts _ _ h).1 i
formula_within n (d ∷ formula) h c (inr k) l i = formula_within n formula (and_parts _ _ h).1 c k l i

-- one more literal is marked
pub represent_last : (n : ℕ) (marks : List ℕ) (stamp : ℕ) (lits : Clause) (x : Lit) → code_of x < length marks → Represent n marks stamp lits → Represent n (slice_set marks (code_of x) stamp) stamp (lits ++ x ∷ [])
represent_last n marks stamp lits x fits r =
    let r2 = represent_set n marks stamp lits x fits r in
    record {
      marked = λ m le i. r2.marked m le (elim (in_split lits x m i) [ inl old ↦ inr old | inr is ↦ inl is ]);
      only = λ m le h. elim (r2.only m le h) [ inl e ↦ subst (λ q. In q (lits ++ x ∷ [])) (sym e) (in_last lits x) | inr old ↦ in_more lits (x ∷ []) m old ];
    }

-- under a stamp above all marks nothing is marked
pub represent_fresh : (n : ℕ) (marks : List ℕ) (stamp : ℕ) → ((k : ℕ) → slice_index_or marks k 0 < stamp) → Represent n marks stamp []
represent_fresh n marks stamp fresh = record { marked = λ m le i. absurd i; only = λ m le h. absurd (omega (arith, fresh (code_of m), h)) }

-- a table of one number has no other
pub same_at : (n k z : ℕ) → slice_index_or (replicate n z) k z ≡ z
same_at n k z = elim (cases_lt k n) [
  | inl h ↦ get_or-replicate n k z z h
  | inr h ↦ get_or_past (replicate n z) k z (omega (arith, h, length-replicate n z))
]
