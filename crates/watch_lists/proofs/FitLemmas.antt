-- From the links to what callers see, and a clause that is attached.
use Rattle.std.proofs.Common.{◌≡◌, ◌≢◌, ◌⊎◌, ℕ, zero, suc, ◌+◌, ◌-◌, ◌*◌, ◌/◌, ◌%◌, ◌<◌, ◌≤◌, ◌^◌, true, false, List, length, Some, None, IsSome, slice_index_or, refl, sym, ap, ◌∙◌, subst, inl, inr, arith}
use Rattle.sat_trail.specs.Propagation.{IsQuiet}
use Rattle.std.specs.Option.{is_some}
use Rattle.std.proofs.lemmas.Bool.{cases_eq, cases_lt}
use Rattle.std.proofs.lemmas.List.{get_or_past}
use Rattle.clause_arena.specs.Clauses.{Lit, Clause, In}
use Rattle.sat_trail.specs.Trails.{TrailState, true_lits, IsTrail, lit_at}
use Rattle.clause_arena.specs.Lits.{code_of}
use Rattle.clause_arena.specs.Arenas.{clause_at}
use Rattle.sat_trail.proofs.LitLemmas.{code_same, code_fits}
use Rattle.watch_lists.specs.declared.link.Link.{Link}
use Rattle.watch_lists.specs.Chains.{Has, AreLists}
use Rattle.watch_lists.specs.Watched.{next_at, other_at, own_at, own_code, sibling, place_of, IsNode, IsListed, AreOfDifferentVariables, AreTied, AreFitting, IsCovered, AreSameListed, IsLinked, ArePendingFrom}
use Rattle.watch_lists.specs.Steps.{AreFit, IsExtended, IsRun, IsLinkedClause}
use Rattle.watch_lists.specs.Watching.{listed, reserved, pair_of, pair_at, pairs_from, view_of, AreKept, IsFit, IsFitBelow, IsCoveredBelow, AreSameAttached, IsGrown, IsOutcome}
use Rattle.watch_lists.specs.declared.propagation.Propagation.{Propagation}
use Rattle.watch_lists.specs.declared.propagation.Propagation.TheVariants.{Done, Conflict}
use Rattle.watch_lists.proofs.ChainLemmas.{inserted_lists, lists_insert, lists_owners, lists_nexts, inserted_here, inserted_else}
use Rattle.watch_lists.proofs.SwapLemmas.{in_place}
use Rattle.watch_lists.proofs.VisitLemmas.{sib_one, sib_node, fitting_quiet}

pair_listed : (n : ℕ) (x y : Lit) → n ≢ 1 → pair_of n x y ≡ Some (x, y)
pair_listed zero x y ne = refl
pair_listed (suc zero) x y ne = absurd (ne refl)
pair_listed (suc (suc n)) x y ne = refl

pair_some : (n : ℕ) (x y a b : Lit) → pair_of n x y ≡ Some (a, b) → (n ≢ 1) × (x ≡ a) × (y ≡ b)
pair_some zero x y a b e = let p : (x, y) ≡ (a, b) = cc in (omega arith, ap (λ (q : Lit × Lit). q.0) p, ap (λ (q : Lit × Lit). q.1) p)
pair_some (suc zero) x y a b e = let no : None ≡ Some (a, b) = e in cc
pair_some (suc (suc n)) x y a b e = let p : (x, y) ≡ (a, b) = cc in (omega arith, ap (λ (q : Lit × Lit). q.0) p, ap (λ (q : Lit × Lit). q.1) p)

pub pair_is_some : (n : ℕ) (x y : Lit) → IsSome (pair_of n x y) → n ≢ 1
pair_is_some zero x y s = omega arith
pair_is_some (suc zero) x y s = let no : false ≡ true = s in cc
pair_is_some (suc (suc n)) x y s = omega arith

pair_bits : (n m : ℕ) (x y a b : Lit) → (n ≢ 1 → m ≢ 1) → (m ≢ 1 → n ≢ 1) → is_some (pair_of n x y) ≡ is_some (pair_of m a b)
pair_bits n m x y a b f g = elim (cases_eq n 1) [
  | inl e ↦ elim (cases_eq m 1) [
    | inl d ↦ rw (e, d) refl
    | inr nd ↦ absurd (g nd e)
  ]
  | inr ne ↦ rw (pair_listed n x y ne, pair_listed m a b (f ne)) refl
]

pairs_length : (heads : ℕ) (links : List Link) (r k : ℕ) → length (pairs_from heads links r k) ≡ r
pairs_length heads links zero k = refl
pairs_length heads links (suc r) k = ap suc (pairs_length heads links r (k + 1))

pairs_at : (heads : ℕ) (links : List Link) (r k i : ℕ) → i < r → slice_index_or (pairs_from heads links r k) i None ≡ pair_at heads links (k + i)
pairs_at heads links zero k i l = absurd (omega (arith, l))
pairs_at heads links (suc r) k zero l = let e : k ≡ k + 0 = omega arith in ap (pair_at heads links) e
pairs_at heads links (suc r) k (suc i) l = let e : k + 1 + i ≡ k + suc i = omega arith in pairs_at heads links r (k + 1) i (omega (arith, l)) ∙ ap (pair_at heads links) e

past_end : (ls : List Link) (n : ℕ) → length ls ≤ n → next_at ls n ≡ 1
past_end ls n h = ap (λ (q : Link). q.next) (get_or_past ls n _ h)

pub listed_is : (heads : ℕ) (links : List Link) (r k : ℕ) → length links ≡ heads + 2 * r → listed (view_of heads links) k ≡ pair_at heads links k
unfolding view_of
listed_is heads links r k whole =
    let n : (length links - heads) / 2 ≡ r = omega arith in
    elim (cases_lt k r) [
      | inl l ↦ let z : 0 + k ≡ k = omega arith in rw n (pairs_at heads links r 0 k l ∙ ap (pair_at heads links) z)
      | inr h ↦
          let one : next_at links (heads + 2 * k) ≡ 1 = past_end links (heads + 2 * k) (omega arith) in
          rw (n, one) (get_or_past (pairs_from heads links r 0) k None (omega (arith, pairs_length heads links r 0, h)))
    ]

pub variables_is : (heads : ℕ) (links : List Link) → (view_of heads links).variables ≡ heads / 2 - 1
unfolding view_of
variables_is heads links = refl

pub reserved_is : (heads : ℕ) (links : List Link) (r : ℕ) → length links ≡ heads + 2 * r → reserved (view_of heads links) ≡ r
unfolding view_of
reserved_is heads links r whole =
    let n : (length links - heads) / 2 ≡ r = omega arith in
    rw n (pairs_length heads links r 0)

module _ (heads : ℕ) (links : List Link) (v : ℕ) (even : heads ≡ 2 * v + 2) (paired : (m : ℕ) → IsNode heads links m → IsListed links (sibling m)) (whole : (r : ℕ) × (length links ≡ heads + 2 * r)) where
  abbrev first_node : ℕ → ℕ
  first_node m = heads + 2 * place_of heads m

  -- a node is the first or the second of its clause
  which : (m : ℕ) → heads ≤ m → (m ≡ first_node m) × (m % 2 ≡ 0) × (sibling m ≡ first_node m + 1) ⊎ ((m ≡ first_node m + 1) × (m % 2 ≡ 1) × (sibling m ≡ first_node m))
  which m from = elim (cases_eq (m % 2) 0) [
    | inl e ↦ inl (omega arith, e, omega arith)
    | inr ne ↦ inr (omega arith, omega arith, omega arith)
  ]

  listed_pair : (m : ℕ) → IsNode heads links m → listed (view_of heads links) (place_of heads m) ≡ Some (other_at links (first_node m + 1), other_at links (first_node m))
  listed_pair m n = listed_is heads links whole.0 (place_of heads m) whole.1 ∙ elim (which m n.0) [
    | inl w ↦ pair_listed _ _ _ (λ e. n.2 (ap (next_at links) w.0 ∙ e))
    | inr w ↦ pair_listed _ _ _ (λ e. paired m n (ap (next_at links) w.2 ∙ e))
  ]

  -- facts of an attached clause at its two nodes
  at_nodes : (P : Lit → Lit → ℕ → Type 0) → (m : ℕ) → IsNode heads links m → P (other_at links (first_node m + 1)) (other_at links (first_node m)) 0 → P (other_at links (first_node m)) (other_at links (first_node m + 1)) 1 → P (own_at links m) (other_at links m) (m % 2)
  at_nodes P m n zero_is one_is = elim (which m n.0) [
    | inl w ↦ rw (w.2, w.1) (subst (λ q. P (other_at links (first_node m + 1)) (other_at links q) 0) (sym w.0) zero_is)
    | inr w ↦ rw (w.2, w.1) (subst (λ q. P (other_at links (first_node m)) (other_at links q) 1) (sym w.0) one_is)
  ]

  pub tied_in : (clauses : List Clause) (t : TrailState) → IsFit (view_of heads links) clauses t → AreTied heads t.variables links clauses
  tied_in clauses t fit = record {
    even = let e : heads / 2 - 1 ≡ t.variables = sym (variables_is heads links) ∙ fit.variables in omega arith;
    whole = whole;
    paired = paired;
    held = λ m n. let l = fit.listing (place_of heads m) _ _ (listed_pair m n) in (l.0, l.1);
    listing = λ m n. let l = fit.listing (place_of heads m) _ _ (listed_pair m n) in at_nodes (λ own other slot. lit_at (clause_at clauses (place_of heads m)) slot ≡ own) m n l.2 l.3;
    apart = λ m n. fit.apart (place_of heads m) _ _ (listed_pair m n);
    within = fit.within;
  }

  pub cover_in : (clauses : List Clause) (t : TrailState) → IsFit (view_of heads links) clauses t → (m : ℕ) → IsNode heads links m → IsCovered t.entries t.given (own_at links m) (other_at links m)
  cover_in clauses t fit m n =
      let c = fit.cover (place_of heads m) _ _ (listed_pair m n) in
      at_nodes (λ own other slot. IsCovered t.entries t.given own other) m n c.0 c.1

pub fit_in : (heads : ℕ) (links : List Link) (clauses : List Clause) (t : TrailState) → AreKept heads links → IsFit (view_of heads links) clauses t → IsTrail t → AreFit heads links clauses t t.given
fit_in heads links clauses t kept fit trail = (
  kept.lists.0,
  record {
    tied = tied_in heads links kept.even.0 kept.even.1 kept.paired kept.whole clauses t fit;
    are = kept.lists.1;
    trail = trail;
    cover = cover_in heads links kept.even.0 kept.even.1 kept.paired kept.whole clauses t fit;
  },
)

pub kept_out : (heads : ℕ) (links : List Link) (clauses : List Clause) (t : TrailState) (n : ℕ) → AreFit heads links clauses t n → length links < 2 ^ 32 → AreKept heads links
kept_out heads links clauses t n fit few = record {
  even = (t.variables, fit.1.tied.even);
  whole = fit.1.tied.whole;
  few = few;
  paired = fit.1.tied.paired;
  lists = (fit.0, fit.1.are);
}

-- the first node of an attached clause
module _ (heads : ℕ) (links : List Link) (clauses : List Clause) (t : TrailState) (n : ℕ) (fit : AreFit heads links clauses t n) where
  node_in : (k : ℕ) → next_at links (heads + 2 * k) ≢ 1 → IsNode heads links (heads + 2 * k)
  node_in k listed = (omega arith, in_range, listed)
    where
      in_range : heads + 2 * k < length links
      in_range = elim (cases_lt (heads + 2 * k) (length links)) [ inl l ↦ l | inr h ↦ absurd (listed (past_end links (heads + 2 * k) h)) ]

  place_here : (k : ℕ) → place_of heads (heads + 2 * k) ≡ k
  place_here k = omega arith

  sib_here : (k : ℕ) → sibling (heads + 2 * k) ≡ heads + 2 * k + 1
  sib_here k = let e = fit.1.tied.even in omega arith

  sib_there : (k : ℕ) → sibling (heads + 2 * k + 1) ≡ heads + 2 * k
  sib_there k = let e = fit.1.tied.even in omega arith

  pub listing_out : (k : ℕ) → next_at links (heads + 2 * k) ≢ 1 → (k < length clauses) × (2 ≤ length (clause_at clauses k)) × (lit_at (clause_at clauses k) 0 ≡ other_at links (heads + 2 * k + 1)) × (lit_at (clause_at clauses k) 1 ≡ other_at links (heads + 2 * k))
  listing_out k listed =
      let node = node_in k listed in
      let h = fit.1.tied.held (heads + 2 * k) node in
      let l = fit.1.tied.listing (heads + 2 * k) node in
      let s = sib_node heads t.variables links clauses fit.1.tied (heads + 2 * k) node in
      let l2 = fit.1.tied.listing (sibling (heads + 2 * k)) s in
      let e = fit.1.tied.even in
      let place = place_here k in
      let place2 : place_of heads (sibling (heads + 2 * k)) ≡ k = omega arith in
      let low : (heads + 2 * k) % 2 ≡ 0 = omega arith in
      let high : sibling (heads + 2 * k) % 2 ≡ 1 = omega arith in (
        subst (λ q. q < length clauses) place h.0,
        subst (λ q. 2 ≤ length (clause_at clauses q)) place h.1,
        ap (lit_at (clause_at clauses k)) (sym low) ∙ ap (λ q. lit_at (clause_at clauses q) ((heads + 2 * k) % 2)) (sym place) ∙ l ∙ ap (other_at links) (sib_here k),
        ap (lit_at (clause_at clauses k)) (sym high) ∙ ap (λ q. lit_at (clause_at clauses q) (sibling (heads + 2 * k) % 2)) (sym place2) ∙ l2 ∙ ap (λ q. other_at links (sibling q)) (sib_here k) ∙ ap (other_at links) (sib_there k),
      )

  pub apart_out : (k : ℕ) → next_at links (heads + 2 * k) ≢ 1 → AreOfDifferentVariables (clause_at clauses k)
  apart_out k listed = subst (λ q. AreOfDifferentVariables (clause_at clauses q)) (place_here k) (fit.1.tied.apart (heads + 2 * k) (node_in k listed))

  pub cover_out : (k : ℕ) → next_at links (heads + 2 * k) ≢ 1 → IsCovered t.entries n (other_at links (heads + 2 * k + 1)) (other_at links (heads + 2 * k)) × IsCovered t.entries n (other_at links (heads + 2 * k)) (other_at links (heads + 2 * k + 1))
  cover_out k listed =
      let node = node_in k listed in
      let s = sib_node heads t.variables links clauses fit.1.tied (heads + 2 * k) node in
      let a = fit.1.cover (heads + 2 * k) node in
      let b = fit.1.cover (sibling (heads + 2 * k)) s in (
        subst (λ q. IsCovered t.entries n (other_at links q) (other_at links (heads + 2 * k))) (sib_here k) a,
        subst (λ q. IsCovered t.entries n (other_at links q) (other_at links (heads + 2 * k + 1))) (ap sibling (sib_here k) ∙ sib_there k) (subst (λ q. IsCovered t.entries n (own_at links (sibling (heads + 2 * k))) (other_at links q)) (sib_here k) b),
      )

  pub variables_out : (view_of heads links).variables ≡ t.variables
  variables_out = let e = fit.1.tied.even in variables_is heads links ∙ omega arith

  pub pair_out : (k : ℕ) (x y : Lit) → listed (view_of heads links) k ≡ Some (x, y) → (next_at links (heads + 2 * k) ≢ 1) × (other_at links (heads + 2 * k + 1) ≡ x) × (other_at links (heads + 2 * k) ≡ y)
  pair_out k x y e = pair_some _ _ _ x y (sym (listed_is heads links fit.1.tied.whole.0 k fit.1.tied.whole.1) ∙ e)

pub fit_out : (heads : ℕ) (links : List Link) (clauses : List Clause) (t : TrailState) → AreFit heads links clauses t t.given → IsFit (view_of heads links) clauses t
fit_out heads links clauses t fit = record {
  variables = variables_out heads links clauses t t.given fit;
  within = fit.1.tied.within;
  listing = λ k x y e.
      let p = pair_out heads links clauses t t.given fit k x y e in
      let l = listing_out heads links clauses t t.given fit k p.0 in
      (l.0, l.1, l.2 ∙ p.1, l.3 ∙ p.2);
  apart = λ k x y e. apart_out heads links clauses t t.given fit k (pair_out heads links clauses t t.given fit k x y e).0;
  cover = λ k x y e.
      let p = pair_out heads links clauses t t.given fit k x y e in
      let c = cover_out heads links clauses t t.given fit k p.0 in
      (rw (← p.1, ← p.2) c.0, rw (← p.1, ← p.2) c.1);
}

-- after a conflict: what is below the present level was given before
pub fit_below : (heads : ℕ) (links : List Link) (clauses : List Clause) (t : TrailState) (n : ℕ) → AreFit heads links clauses t n → ArePendingFrom t n → IsFitBelow (view_of heads links) clauses t t.level
fit_below heads links clauses t n fit pending = record {
  variables = variables_out heads links clauses t n fit;
  within = fit.1.tied.within;
  listing = λ k x y e.
      let p = pair_out heads links clauses t n fit k x y e in
      let l = listing_out heads links clauses t n fit k p.0 in
      (l.0, l.1, l.2 ∙ p.1, l.3 ∙ p.2);
  apart = λ k x y e. apart_out heads links clauses t n fit k (pair_out heads links clauses t n fit k x y e).0;
  cover = λ k x y e.
      let p = pair_out heads links clauses t n fit k x y e in
      let c = cover_out heads links clauses t n fit k p.0 in
      (rw (← p.1, ← p.2) (below _ _ c.0), rw (← p.1, ← p.2) (below _ _ c.1));
}
  where
    below : (a b : Lit) → IsCovered t.entries n a b → IsCoveredBelow t.entries t.level a b
    below a b c p pl is low = elim (cases_lt p n) [
      | inl first ↦ c p first pl is
      | inr later ↦ absurd (omega (arith, pending p later pl, low))
    ]

pub attached_same : (heads v r : ℕ) (links links2 : List Link) → heads ≡ 2 * v + 2 → length links ≡ heads + 2 * r → AreSameListed heads links links2 → AreSameAttached (view_of heads links) (view_of heads links2)
attached_same heads v r links links2 even whole same = record {
  variables = variables_is heads links2 ∙ sym (variables_is heads links);
  places = reserved_is heads links2 r (same.size ∙ whole) ∙ sym (reserved_is heads links r whole);
  attached = λ k. ap is_some (listed_is heads links2 r k (same.size ∙ whole)) ∙ (elim (cases_lt (heads + 2 * k) (length links)) [
    | inl l ↦ pair_bits _ _ _ _ _ _ (same.back (heads + 2 * k) (omega arith) l) (same.there (heads + 2 * k) (omega arith) l)
    | inr h ↦ pair_bits _ _ _ _ _ _ (λ n. absurd (n (past_end links2 (heads + 2 * k) (omega (arith, h, same.size))))) (λ n. absurd (n (past_end links (heads + 2 * k) h)))
  ]) ∙ sym (ap is_some (listed_is heads links r k whole));
}

pub attached_some : (heads : ℕ) (links : List Link) (r id : ℕ) → length links ≡ heads + 2 * r → IsLinkedClause heads links id → IsSome (listed (view_of heads links) id)
attached_some heads links r id whole n = subst (λ q. IsSome q) (sym (listed_is heads links r id whole ∙ pair_listed _ (other_at links (heads + 2 * id + 1)) (other_at links (heads + 2 * id)) n.2)) refl

pub grown_out : (heads : ℕ) (links : List Link) (clauses : List Clause) (r : ℕ) (old new : TrailState) → length links ≡ heads + 2 * r → old.given ≤ new.given → IsExtended heads links clauses old new → IsGrown (view_of heads links) clauses old new
grown_out heads links clauses r old new whole given g = record {
  more = g.more;
  appended = g.appended;
  level = g.level;
  variables = g.variables;
  given = given;
  reasons = λ p from below. let r1 = g.reasons p from below in (r1.0, (r1.1.0, r1.1.1, attached_some heads links r r1.1.0 whole r1.1.2, r1.1.3, r1.1.4, r1.1.5));
}

pub quiet_out : (heads : ℕ) (links : List Link) (clauses : List Clause) (t : TrailState) → AreFit heads links clauses t t.given → t.given ≡ length t.entries → (k : ℕ) → IsSome (listed (view_of heads links) k) → IsQuiet (clause_at clauses k) (true_lits t.entries)
quiet_out heads links clauses t fit all k s =
    let node = node_in heads links clauses t t.given fit k (pair_is_some _ (other_at links (heads + 2 * k + 1)) (other_at links (heads + 2 * k)) (subst (λ q. IsSome q) (listed_is heads links fit.1.tied.whole.0 k fit.1.tied.whole.1) s)) in
    subst (λ q. IsQuiet (clause_at clauses q) (true_lits t.entries)) (place_here heads links clauses t t.given fit k) (fitting_quiet heads links clauses t fit.0 (subst (λ q. AreFitting heads links clauses t q fit.0) all fit.1) (heads + 2 * k) node)

pub run_out : (heads : ℕ) (links : List Link) (clauses : List Clause) (t : TrailState) (result : Propagation) → IsRun heads links clauses t result → IsOutcome (view_of heads links) clauses t result
run_out heads links clauses t Done h = (fit_out heads links clauses t h.0, h.1, quiet_out heads links clauses t h.0 h.1)
run_out heads links clauses t (Conflict id) h =
    let w = h.0.1.tied.whole in
    (fit_below heads links clauses t (t.given - 1) h.0 h.2, (λ p from below. h.2 p (omega (arith, from)) below), attached_some heads links w.0 id w.1 h.3.0, h.3.1, h.3.2)

pub run_kept : (heads : ℕ) (links : List Link) (clauses : List Clause) (t : TrailState) (result : Propagation) → length links < 2 ^ 32 → IsRun heads links clauses t result → AreKept heads links
run_kept heads links clauses t Done few h = kept_out heads links clauses t t.given h.0 few
run_kept heads links clauses t (Conflict id) few h = kept_out heads links clauses t (t.given - 1) h.0 few

pub run_trail : (heads : ℕ) (links : List Link) (clauses : List Clause) (t : TrailState) (result : Propagation) → IsRun heads links clauses t result → IsTrail t
run_trail heads links clauses t Done h = h.0.1.trail
run_trail heads links clauses t (Conflict id) h = h.0.1.trail

-- ---- a clause is attached

module _ (heads : ℕ) (links links2 : List Link) (clauses : List Clause) (t : TrailState) (lists : ℕ → List ℕ) (fit : AreFitting heads links clauses t t.given lists) (id : ℕ) (x y : Lit) (below : heads + 2 * id + 1 < length links)
    (free : next_at links (heads + 2 * id) ≡ 1) (low : id < length clauses) (long : 2 ≤ length (clause_at clauses id)) (x_is : lit_at (clause_at clauses id) 0 ≡ x) (y_is : lit_at (clause_at clauses id) 1 ≡ y) (different : AreOfDifferentVariables (clause_at clauses id))
    (x_low : 1 < code_of x) (y_low : 1 < code_of y) (cover_x : IsCovered t.entries t.given x y) (cover_y : IsCovered t.entries t.given y x) (linked : IsLinked links links2 (heads + 2 * id) x y) where
  even : heads ≡ 2 * t.variables + 2
  even = fit.tied.even

  abbrev n : ℕ
  n = heads + 2 * id

  sib_n : sibling (heads + 2 * id) ≡ heads + 2 * id + 1
  sib_n = let e = even in omega arith

  sib_m : sibling (heads + 2 * id + 1) ≡ heads + 2 * id
  sib_m = let e = even in omega arith

  x_high : code_of x < heads
  x_high = omega (arith, even, code_fits x t.variables (fit.tied.within id low x (subst (λ q. In q (clause_at clauses id)) x_is (in_place (clause_at clauses id) 0 (omega (arith, long))))))

  y_high : code_of y < heads
  y_high = omega (arith, even, code_fits y t.variables (fit.tied.within id low y (subst (λ q. In q (clause_at clauses id)) y_is (in_place (clause_at clauses id) 1 (omega (arith, long))))))

  x_not_y : code_of x ≢ code_of y
  x_not_y e =
      let same : x ≡ y = code_same x y e in
      different 0 1 (omega (arith, long)) (omega (arith, long)) (omega arith) (ap (λ (l : Lit). l.var) (x_is ∙ same ∙ sym y_is))

  free_m : next_at links (heads + 2 * id + 1) ≡ 1
  free_m = elim (cases_eq (next_at links (heads + 2 * id + 1)) 1) [
    | inl e ↦ e
    | inr ne ↦
        let listed : IsListed links (sibling (heads + 2 * id + 1)) = fit.tied.paired (heads + 2 * id + 1) (omega arith, below, ne) in
        absurd (listed (ap (next_at links) sib_m ∙ free))
  ]

  size : length links2 ≡ length links
  size = linked.two.size ∙ linked.one.size ∙ linked.size

  other_is : (k : ℕ) → other_at links2 k ≡ other_at linked.paired k
  other_is k = linked.two.kept k ∙ linked.one.kept k

  other_n : other_at links2 (heads + 2 * id) ≡ y
  other_n = other_is (heads + 2 * id) ∙ linked.first

  other_m : other_at links2 (heads + 2 * id + 1) ≡ x
  other_m = other_is (heads + 2 * id + 1) ∙ linked.second

  own_n : own_at links2 (heads + 2 * id) ≡ x
  own_n = ap (other_at links2) sib_n ∙ other_m

  own_m : own_at links2 (heads + 2 * id + 1) ≡ y
  own_m = ap (other_at links2) sib_m ∙ other_n

  other_old : (k : ℕ) → k ≢ heads + 2 * id → k ≢ heads + 2 * id + 1 → other_at links2 k ≡ other_at links k
  other_old k a b = other_is k ∙ linked.kept k a b

  own_old : (k : ℕ) → k ≢ heads + 2 * id → k ≢ heads + 2 * id + 1 → own_at links2 k ≡ own_at links k
  own_old k a b = other_old (sibling k) (λ e. b (sib_one k (heads + 2 * id + 1) (e ∙ sym sib_m))) (λ e. a (sib_one k (heads + 2 * id) (e ∙ sym sib_n)))

  listed_not : (k : ℕ) → next_at links k ≢ 1 → (k ≢ heads + 2 * id) × (k ≢ heads + 2 * id + 1)
  listed_not k l = (λ e. l (ap (next_at links) e ∙ free), λ e. l (ap (next_at links) e ∙ free_m))

  are0 : AreLists heads (length links) (next_at linked.paired) (own_code links2) lists
  are0 = lists_nexts heads (length links) (next_at links) (next_at linked.paired) (own_code links2) lists
      (lists_owners heads (length links) (next_at links) (own_code links) (own_code links2) lists fit.are (λ k f b l. let a = listed_not k l in ap code_of (own_old k a.0 a.1)))
      linked.nexts

  between_free : next_at linked.between (heads + 2 * id + 1) ≡ 1
  between_free = linked.one.others (heads + 2 * id + 1) (omega arith) (λ e. omega (arith, e, x_high)) ∙ linked.nexts (heads + 2 * id + 1) ∙ free_m

  are1 : AreLists heads (length links) (next_at linked.between) (own_code links2) (inserted_lists lists (heads + 2 * id) (code_of x))
  are1 = lists_insert heads (length links) (next_at linked.paired) (next_at linked.between) (own_code links2) lists are0 (heads + 2 * id) (code_of x) (omega arith) (omega (arith, below)) (linked.nexts (heads + 2 * id) ∙ free) (ap code_of own_n) x_low x_high linked.one.follows linked.one.front linked.one.others

  pub attached_lists : AreLists heads (length links) (next_at links2) (own_code links2) (inserted_lists (inserted_lists lists (heads + 2 * id) (code_of x)) (heads + 2 * id + 1) (code_of y))
  attached_lists = lists_insert heads (length links) (next_at linked.between) (next_at links2) (own_code links2) (inserted_lists lists (heads + 2 * id) (code_of x)) are1 (heads + 2 * id + 1) (code_of y) (omega arith) below between_free (ap code_of own_m) y_low y_high linked.two.follows linked.two.front linked.two.others

  n_listed : next_at links2 (heads + 2 * id) ≢ 1
  n_listed = (attached_lists.sound (code_of x) (heads + 2 * id) x_low x_high has).3
    where
      has : Has (heads + 2 * id) (inserted_lists (inserted_lists lists (heads + 2 * id) (code_of x)) (heads + 2 * id + 1) (code_of y) (code_of x))
      has = subst (Has (heads + 2 * id)) (sym (inserted_else (inserted_lists lists (heads + 2 * id) (code_of x)) (heads + 2 * id + 1) (code_of y) (code_of x) x_not_y ∙ inserted_here lists (heads + 2 * id) (code_of x))) (inl refl)

  m_listed : next_at links2 (heads + 2 * id + 1) ≢ 1
  m_listed = (attached_lists.sound (code_of y) (heads + 2 * id + 1) y_low y_high has).3
    where
      has : Has (heads + 2 * id + 1) (inserted_lists (inserted_lists lists (heads + 2 * id) (code_of x)) (heads + 2 * id + 1) (code_of y) (code_of y))
      has = subst (Has (heads + 2 * id + 1)) (sym (inserted_here (inserted_lists lists (heads + 2 * id) (code_of x)) (heads + 2 * id + 1) (code_of y))) (inl refl)

  next_old : (k : ℕ) → heads ≤ k → k ≢ heads + 2 * id → k ≢ heads + 2 * id + 1 → next_at links2 k ≡ next_at links k
  next_old k f a b = linked.two.others k b (λ e. omega (arith, f, e, y_high)) ∙ linked.one.others k a (λ e. omega (arith, f, e, x_high)) ∙ linked.nexts k

  old_node : (k : ℕ) → k ≢ heads + 2 * id → k ≢ heads + 2 * id + 1 → IsNode heads links2 k → IsNode heads links k
  old_node k a b node = (node.0, omega (arith, node.1, size), λ e. node.2 (next_old k node.0 a b ∙ e))

  -- at each node: the new clause's two, or an old one
  by_node : (P : ℕ → Type 0) → P (heads + 2 * id) → P (heads + 2 * id + 1) → ((k : ℕ) → k ≢ heads + 2 * id → k ≢ heads + 2 * id + 1 → IsNode heads links k → IsNode heads links2 k → P k) → (k : ℕ) → IsNode heads links2 k → P k
  by_node P first second rest k node = elim (cases_eq k (heads + 2 * id)) [
    | inl e ↦ subst P (sym e) first
    | inr a ↦ elim (cases_eq k (heads + 2 * id + 1)) [
      | inl e ↦ subst P (sym e) second
      | inr b ↦ rest k a b (old_node k a b node) node
    ]
  ]

  place_n : place_of heads (heads + 2 * id) ≡ id
  place_n = omega arith

  place_m : place_of heads (heads + 2 * id + 1) ≡ id
  place_m = omega arith

  slot_n : (heads + 2 * id) % 2 ≡ 0
  slot_n = let e = even in omega arith

  slot_m : (heads + 2 * id + 1) % 2 ≡ 1
  slot_m = let e = even in omega arith

  attached_tied : AreTied heads t.variables links2 clauses
  attached_tied = record {
    even = even;
    whole = (fit.tied.whole.0, size ∙ fit.tied.whole.1);
    paired = by_node (λ k. IsListed links2 (sibling k)) (rw sib_n m_listed) (rw sib_m n_listed) (λ k a b old node.
        let s = fit.tied.paired k old in
        let c = listed_not (sibling k) s in
        let from : heads ≤ sibling k = let e = even in let f = old.0 in omega arith in
        λ e. s (sym (next_old (sibling k) from c.0 c.1) ∙ e));
    held = by_node (λ k. (place_of heads k < length clauses) × (2 ≤ length (clause_at clauses (place_of heads k)))) (rw place_n (low, long)) (rw place_m (low, long)) (λ k a b old node. fit.tied.held k old);
    listing = by_node (λ k. lit_at (clause_at clauses (place_of heads k)) (k % 2) ≡ own_at links2 k) (ap (λ q. lit_at (clause_at clauses q) ((heads + 2 * id) % 2)) place_n ∙ ap (lit_at (clause_at clauses id)) slot_n ∙ x_is ∙ sym own_n) (ap (λ q. lit_at (clause_at clauses q) ((heads + 2 * id + 1) % 2)) place_m ∙ ap (lit_at (clause_at clauses id)) slot_m ∙ y_is ∙ sym own_m) (λ k a b old node. fit.tied.listing k old ∙ sym (own_old k a b));
    apart = by_node (λ k. AreOfDifferentVariables (clause_at clauses (place_of heads k))) (rw place_n different) (rw place_m different) (λ k a b old node. fit.tied.apart k old);
    within = fit.tied.within;
  }

  pub attached_fitting : AreFitting heads links2 clauses t t.given (inserted_lists (inserted_lists lists (heads + 2 * id) (code_of x)) (heads + 2 * id + 1) (code_of y))
  attached_fitting = record {
    tied = attached_tied;
    are = subst (λ q. AreLists heads q (next_at links2) (own_code links2) (inserted_lists (inserted_lists lists (heads + 2 * id) (code_of x)) (heads + 2 * id + 1) (code_of y))) (sym size) attached_lists;
    trail = fit.trail;
    cover = by_node (λ k. IsCovered t.entries t.given (own_at links2 k) (other_at links2 k)) (cover_at _ _ _ _ own_n other_n cover_x) (cover_at _ _ _ _ own_m other_m cover_y) (λ k a b old node. cover_at _ _ _ _ (own_old k a b) (other_old k a b) (fit.cover k old));
  }
    where
      cover_at : (a b c d : Lit) → a ≡ c → b ≡ d → IsCovered t.entries t.given c d → IsCovered t.entries t.given a b
      cover_at a b c d e f h = subst (λ q. IsCovered t.entries t.given q b) (sym e) (subst (λ q. IsCovered t.entries t.given c q) (sym f) h)

  pub attached_listed : (k : ℕ) → (next_at links2 (heads + 2 * k) ≡ next_at links (heads + 2 * k)) × (other_at links2 (heads + 2 * k) ≡ other_at links (heads + 2 * k)) × (other_at links2 (heads + 2 * k + 1) ≡ other_at links (heads + 2 * k + 1)) ⊎ (k ≡ id)
  attached_listed k = elim (cases_eq k id) [
    | inl e ↦ inr e
    | inr ne ↦ inl (next_old (heads + 2 * k) (omega arith) (omega arith) (omega arith), other_old (heads + 2 * k) (omega arith) (omega arith), other_old (heads + 2 * k + 1) (omega arith) (omega arith))
  ]

-- what the places say after a clause was attached
pub attach_pairs : (heads : ℕ) (links links2 : List Link) (r id k : ℕ) (x y : Lit) → length links ≡ heads + 2 * r → length links2 ≡ length links → next_at links2 (heads + 2 * id) ≢ 1 → other_at links2 (heads + 2 * id) ≡ y → other_at links2 (heads + 2 * id + 1) ≡ x →
    ((k ≢ id) → (next_at links2 (heads + 2 * k) ≡ next_at links (heads + 2 * k)) × (other_at links2 (heads + 2 * k) ≡ other_at links (heads + 2 * k)) × (other_at links2 (heads + 2 * k + 1) ≡ other_at links (heads + 2 * k + 1))) →
    (k ≡ id → listed (view_of heads links2) k ≡ Some (x, y)) × (k ≢ id → listed (view_of heads links2) k ≡ listed (view_of heads links) k)
attach_pairs heads links links2 r id k x y whole size listed_id other_n other_m old = (
  λ e. rw e (listed_is heads links2 r id (size ∙ whole) ∙ pair_listed _ _ _ listed_id ∙ ap (λ q. Some (q, other_at links2 (heads + 2 * id))) other_m ∙ ap (λ q. Some (x, q)) other_n),
  λ ne. let o = old ne in
      listed_is heads links2 r k (size ∙ whole)
      ∙ ap (λ q. pair_of q (other_at links2 (heads + 2 * k + 1)) (other_at links2 (heads + 2 * k))) o.0
      ∙ ap (λ q. pair_of (next_at links (heads + 2 * k)) q (other_at links2 (heads + 2 * k))) o.2
      ∙ ap (λ q. pair_of (next_at links (heads + 2 * k)) (other_at links (heads + 2 * k + 1)) q) o.1
      ∙ sym (listed_is heads links r k whole),
)

-- a place that says nothing is free
pub free_by : (heads : ℕ) (links : List Link) (r id : ℕ) → length links ≡ heads + 2 * r → listed (view_of heads links) id ≡ None → next_at links (heads + 2 * id) ≡ 1
free_by heads links r id whole e = elim (cases_eq (next_at links (heads + 2 * id)) 1) [
  | inl one ↦ one
  | inr ne ↦ absurd (let no : Some (other_at links (heads + 2 * id + 1), other_at links (heads + 2 * id)) ≡ None = sym (pair_listed _ _ _ ne) ∙ sym (listed_is heads links r id whole) ∙ e in cc)
]

-- the whole of `attach` over the links
pub attach_by : (heads : ℕ) (links links2 : List Link) (clauses : List Clause) (t : TrailState) (id : ℕ) (x y : Lit) → AreKept heads links → IsFit (view_of heads links) clauses t → IsTrail t → id < reserved (view_of heads links) → listed (view_of heads links) id ≡ None → id < length clauses →
    2 ≤ length (clause_at clauses id) → lit_at (clause_at clauses id) 0 ≡ x → lit_at (clause_at clauses id) 1 ≡ y → AreOfDifferentVariables (clause_at clauses id) → 1 < code_of x → 1 < code_of y → IsCovered t.entries t.given x y → IsCovered t.entries t.given y x → IsLinked links links2 (heads + 2 * id) x y →
    AreKept heads links2 × IsFit (view_of heads links2) clauses t × (reserved (view_of heads links2) ≡ reserved (view_of heads links)) × ((k : ℕ) → (k ≡ id → listed (view_of heads links2) k ≡ Some (x, y)) × (k ≢ id → listed (view_of heads links2) k ≡ listed (view_of heads links) k))
attach_by heads links links2 clauses t id x y kept fit trail placed none low long x_is y_is different x_low y_low cover_x cover_y linked =
    let f = fit_in heads links clauses t kept fit trail in
    let r = kept.whole.0 in
    let whole = kept.whole.1 in
    let in_range : heads + 2 * id + 1 < length links = omega (arith, whole, placed, reserved_is heads links r whole) in
    let free = free_by heads links r id whole none in
    let g = attached_fitting heads links links2 clauses t f.0 f.1 id x y in_range free low long x_is y_is different x_low y_low cover_x cover_y linked in
    let n_in = n_listed heads links links2 clauses t f.0 f.1 id x y in_range free low long x_is y_is different x_low y_low cover_x cover_y linked in
    let other_one = other_n heads links links2 clauses t f.0 f.1 id x y in_range free low long x_is y_is different x_low y_low cover_x cover_y linked in
    let other_two = other_m heads links links2 clauses t f.0 f.1 id x y in_range free low long x_is y_is different x_low y_low cover_x cover_y linked in
    let wide : length links2 ≡ length links = linked.two.size ∙ linked.one.size ∙ linked.size in
    let few : length links2 < 2 ^ 32 = omega (arith, wide, kept.few) in
    let fit2 : AreFit heads links2 clauses t t.given = (_, g) in (
      kept_out heads links2 clauses t t.given fit2 few,
      fit_out heads links2 clauses t fit2,
      reserved_is heads links2 r (wide ∙ whole) ∙ sym (reserved_is heads links r whole),
      λ k. attach_pairs heads links links2 r id k x y whole wide n_in other_one other_two (λ ne. elim (attached_listed heads links links2 clauses t f.0 f.1 id x y in_range free low long x_is y_is different x_low y_low cover_x cover_y linked k) [ inl h ↦ h | inr e ↦ absurd (ne e) ]),
    )
