-- What the code of one node, one list and all lists shows.
use Rattle.std.proofs.Common.{◌≡◌, ◌≢◌, ◌⊎◌, ℕ, zero, suc, ◌+◌, ◌-◌, ◌*◌, ◌%◌, ◌<◌, ◌≤◌, List, [], ◌∷◌, ◌++◌, take, length, Some, None, slice_set, refl, sym, ap, ◌∙◌, subst, inl, inr, arith, length-append, append_assoc}
use Rattle.std.specs.List.{swap}
use Rattle.std.proofs.lemmas.Bool.{cases_eq, cases_lt}
use Rattle.std.proofs.lemmas.List.{take-append-le, take_all, append-nil}
use Rattle.clause_arena.specs.Clauses.{Lit, opposite, Clause, In}
use Rattle.sat_trail.specs.Trails.{Entry, TrailState, entry_at, true_lits, IsTrail, lit_at}
use Rattle.sat_trail.proofs.LitLemmas.{opposite_twice}
use Rattle.clause_arena.specs.Lits.{code_of}
use Rattle.clause_arena.specs.Arenas.{clause_at}
use Rattle.sat_trail.proofs.LitLemmas.{code_same, code_fits}
use Rattle.watch_lists.specs.declared.link.Link.{Link}
use Rattle.watch_lists.specs.Chains.{Has, AreApart}
use Rattle.watch_lists.specs.Watched.{next_at, other_at, sibling, place_of, IsNode, IsVisiting, AreSameListed, IsRelinked, IsReplacement, ArePendingFrom, count_left, AreRearranged}
use Rattle.watch_lists.specs.Steps.{AtNode, AtList, AreFit, IsSameOrMore, IsExtended, IsFalseClause, IsLinkedClause, HasLinkedReason}
use Rattle.watch_lists.proofs.ChainLemmas.{has_left, end_has, apart_not}
use Rattle.watch_lists.proofs.SwapLemmas.{in_place, same_sets}
use Rattle.watch_lists.proofs.TrailFacts.{entry_before, entry_last}
use Rattle.watch_lists.proofs.VisitLemmas.{sib_node, other_in, left_is, m_node, a_false, other_within, visit_kept, others_false, all_false, visit_assigned, visit_moved, listed_same, visit_done}

-- the place before which a part of the list stands
pub place_low : (heads : ℕ) (links : List Link) (clauses : List Clause) (t : TrailState) (a : Lit) (before : ℕ) → AtList heads links clauses t a before →
    (before < length links) × ((before ≡ code_of a) ⊎ (heads ≤ before)) × (code_of a < heads) × (heads ≤ length links)
place_low heads links clauses t a before at =
    let v = at.3 in
    let whole = v.fitting.tied.whole in
    of_end (subst (λ q. Has q (code_of a ∷ at.1)) v.at_end (end_has (code_of a) at.1))
  where
    of_end : Has before (code_of a ∷ at.1) → (before < length links) × ((before ≡ code_of a) ⊎ (heads ≤ before)) × (code_of a < heads) × (heads ≤ length links)
    of_end (inl e) = let w = at.3.fitting.tied.whole in let h = at.3.high in (omega (arith, w.1, h, e), inl e, h, omega (arith, w.1))
    of_end (inr i) =
        let v = at.3 in
        let w = v.fitting.tied.whole in
        let s = v.fitting.are.sound (code_of a) before v.low v.high (subst (Has before) (sym v.split) (has_left at.1 at.2 before i)) in
        (s.1, inr s.0, v.high, omega (arith, w.1))

module _ (heads : ℕ) (links : List Link) (clauses : List Clause) (t : TrailState) (a : Lit) (before m : ℕ) (at : AtNode heads links clauses t a before m) where
  abbrev v : IsVisiting heads links clauses t a before at.0 at.1 (m ∷ at.2)
  v = at.3

  pub node_is : IsNode heads links m
  node_is = m_node heads links clauses t a before m at.0 at.1 at.2 v

  pub before_low : before < length links
  before_low = (place_low heads links clauses t a before (at.0, at.1, m ∷ at.2, v)).0

  pub pair_low : sibling m < length links
  pair_low = (sib_node heads t.variables links clauses v.fitting.tied m node_is).1

  pub id_low : place_of heads m < length clauses
  id_low = (v.fitting.tied.held m node_is).0

  pub two : 2 ≤ length (clause_at clauses (place_of heads m))
  two = (v.fitting.tied.held m node_is).1

  pub within_all : (l : Lit) → In l (clause_at clauses (place_of heads m)) → l.var ≤ t.variables
  within_all l i = v.fitting.tied.within (place_of heads m) id_low l i

  pub other_low : (other_at links m).var ≤ t.variables
  other_low = other_within heads links clauses t a before m at.0 at.1 at.2 v

  pub before_apart : before ≢ m
  before_apart e = of_end (subst (λ q. Has q (code_of a ∷ at.1)) v.at_end (end_has (code_of a) at.1))
    where
      of_end : Has before (code_of a ∷ at.1) → ⊥
      of_end (inl h) = let high = v.high in omega (arith, node_is.0, e, h, high)
      of_end (inr i) = apart_not at.1 at.2 m (subst AreApart v.split (v.fitting.are.apart (code_of a) v.low v.high)) (has_left at.1 at.2 m (subst (λ q. Has q at.1) e i))

  pub attached_by : IsLinkedClause heads links (place_of heads m)
  attached_by =
      let n = node_is in
      let s = sib_node heads t.variables links clauses v.fitting.tied m n in
      let even = v.fitting.tied.even in
      elim (cases_eq (heads + 2 * place_of heads m) m) [
        | inl e ↦ rw e n
        | inr ne ↦ let e : heads + 2 * place_of heads m ≡ sibling m = omega (arith, n.0, even, ne) in rw e s
      ]

  pub kept_by : (o : Lit) → o ≡ other_at links m → In o (true_lits t.entries) → AtList heads links clauses t a m × (suc (count_left links m) ≡ count_left links before)
  kept_by o e i =
      let k = visit_kept heads links clauses t a before m at.0 at.1 at.2 v (subst (λ q. In q (true_lits t.entries)) e i) in
      let b = (left_is heads links clauses t a before at.0 at.1 (m ∷ at.2) v).0 in
      let n = (left_is heads links clauses t a m at.0 (at.1 ++ m ∷ []) at.2 k).0 in
      ((at.0, at.1 ++ m ∷ [], at.2, k), ap suc n ∙ sym b)

  pub assigned_by : (o : Lit) (t2 : TrailState) → o ≡ other_at links m → t2 ≡ record t { entries = t.entries ++ (record { lit = o; level = t.level; reason = Some (place_of heads m) }) ∷ [] } → IsTrail t2 →
      AtList heads links clauses t2 a m × (suc (count_left links m) ≡ count_left links before)
  assigned_by o t2 e is trail2 =
      let same : t2 ≡ record t { entries = t.entries ++ (record { lit = other_at links m; level = t.level; reason = Some (place_of heads m) }) ∷ [] } = is ∙ ap (λ (q : Lit). record t { entries = t.entries ++ (record { lit = q; level = t.level; reason = Some (place_of heads m) }) ∷ [] }) e in
      let k = visit_assigned heads links clauses t a before m at.0 at.1 at.2 v (Some (place_of heads m)) (subst IsTrail same trail2) in
      let b = (left_is heads links clauses t a before at.0 at.1 (m ∷ at.2) v).0 in
      let k2 : IsVisiting heads links clauses t2 a m at.0 (at.1 ++ m ∷ []) at.2 = subst (λ q. IsVisiting heads links clauses q a m at.0 (at.1 ++ m ∷ []) at.2) (sym same) k in
      let n = (left_is heads links clauses t2 a m at.0 (at.1 ++ m ∷ []) at.2 k2).0 in
      ((at.0, at.1 ++ m ∷ [], at.2, k2), ap suc n ∙ sym b)

  pub grown_by : (o : Lit) (t2 : TrailState) → o ≡ other_at links m → t2 ≡ record t { entries = t.entries ++ (record { lit = o; level = t.level; reason = Some (place_of heads m) }) ∷ [] } →
      IsReplacement (clause_at clauses (place_of heads m)) (true_lits t.entries) None → IsSameOrMore heads links clauses t t2
  grown_by o t2 e is none = inr (
    record { lit = o; level = t.level; reason = Some (place_of heads m) },
    is,
    refl,
    (
      place_of heads m,
      refl,
      attached_by,
      id_low,
      subst (λ q. In q (clause_at clauses (place_of heads m))) (sym e) (other_in heads t.variables links clauses v.fitting.tied m node_is),
      λ l i ne. others_false heads links clauses t a before m at.0 at.1 at.2 v none l i (λ q. ne (q ∙ sym e)),
    ),
  )

  pub conflict_by : (o : Lit) → o ≡ other_at links m → In (opposite o) (true_lits t.entries) → IsReplacement (clause_at clauses (place_of heads m)) (true_lits t.entries) None → IsFalseClause heads links clauses t (place_of heads m)
  conflict_by o e f none = (attached_by, id_low, all_false heads links clauses t a before m at.0 at.1 at.2 v none (subst (λ q. In (opposite q) (true_lits t.entries)) e f))

  module _ (j : ℕ) (open_at : IsReplacement (clause_at clauses (place_of heads m)) (true_lits t.entries) (Some j)) where
    pub code_high : code_of (lit_at (clause_at clauses (place_of heads m)) j) < heads
    code_high = omega (arith, code_fits (lit_at (clause_at clauses (place_of heads m)) j) t.variables (within_all (lit_at (clause_at clauses (place_of heads m)) j) (in_place (clause_at clauses (place_of heads m)) j open_at.1)), v.fitting.tied.even)

    pub code_not_before : code_of (lit_at (clause_at clauses (place_of heads m)) j) ≢ before
    code_not_before e = elim (place_low heads links clauses t a before (at.0, at.1, m ∷ at.2, v)).1 [
      | inl head ↦ open_at.2 (subst (λ q. In (opposite q) (true_lits t.entries)) (sym (code_same (lit_at (clause_at clauses (place_of heads m)) j) a (e ∙ head))) (a_false heads links clauses t a before m at.0 at.1 at.2 v))
      | inr node ↦ omega (arith, code_high, e, node)
    ]

    pub code_not_node : code_of (lit_at (clause_at clauses (place_of heads m)) j) ≢ m
    code_not_node e = omega (arith, code_high, e, node_is.0)

    pub moved_by : (links2 : List Link) → 1 < code_of (lit_at (clause_at clauses (place_of heads m)) j) → IsRelinked links links2 before m (lit_at (clause_at clauses (place_of heads m)) j) →
        AreSameListed heads links links2 × AtList heads links2 (slice_set clauses (place_of heads m) (swap (clause_at clauses (place_of heads m)) (m % 2) j)) t a before × (suc (count_left links2 before) ≡ count_left links before)
    moved_by links2 low relinked =
        let l = listed_same heads links clauses t a before m at.0 at.1 at.2 v links2 j open_at.0 open_at.1 low code_high open_at.2 relinked in
        let k = visit_moved heads links clauses t a before m at.0 at.1 at.2 v links2 j open_at.0 open_at.1 low code_high open_at.2 relinked in
        let b = (left_is heads links clauses t a before at.0 at.1 (m ∷ at.2) v).0 in
        let n = (left_is heads links2 (slice_set clauses (place_of heads m) (swap (clause_at clauses (place_of heads m)) (m % 2) j)) t a before _ at.1 at.2 k).0 in
        (l, (_, at.1, at.2, k), ap suc n ∙ sym b)

    pub moved_sets : AreRearranged clauses (slice_set clauses (place_of heads m) (swap (clause_at clauses (place_of heads m)) (m % 2) j))
    moved_sets = same_sets clauses (place_of heads m) (m % 2) j id_low (omega (arith, two)) open_at.1 (omega (arith, open_at.0))

pub listed_refl : (heads : ℕ) (links : List Link) → AreSameListed heads links links
listed_refl heads links = record { size = refl; there = λ m f b l. l; back = λ m f b l. l }

pub listed_trans : (heads : ℕ) (a b c : List Link) → AreSameListed heads a b → AreSameListed heads b c → AreSameListed heads a c
listed_trans heads a b c s t = record {
  size = t.size ∙ s.size;
  there = λ m f l i. t.there m f (omega (arith, l, s.size)) (s.there m f l i);
  back = λ m f l i. s.back m f l (t.back m f (omega (arith, l, s.size)) i);
}

-- the next node of the list, or its end
pub at_next : (heads : ℕ) (links : List Link) (clauses : List Clause) (t : TrailState) (a : Lit) (before n : ℕ) → AtList heads links clauses t a before → n ≡ next_at links before → n ≢ 0 → AtNode heads links clauses t a before n
at_next heads links clauses t a before n at e ne = of_rest at.2 at.3
  where
    of_rest : (rest : List ℕ) → IsVisiting heads links clauses t a before at.0 at.1 rest → AtNode heads links clauses t a before n
    of_rest [] v = let p = (left_is heads links clauses t a before at.0 at.1 [] v).1 in absurd (ne (e ∙ p))
    of_rest (m ∷ rest) v =
        let p = (left_is heads links clauses t a before at.0 at.1 (m ∷ rest) v).1 in
        (at.0, at.1, rest, subst (λ q. IsVisiting heads links clauses t a before at.0 at.1 (q ∷ rest)) (sym (e ∙ p.0)) v)

pub at_last : (heads : ℕ) (links : List Link) (clauses : List Clause) (t : TrailState) (a : Lit) (before : ℕ) → AtList heads links clauses t a before → next_at links before ≡ 0 → AreFit heads links clauses t t.given × ArePendingFrom t t.given
at_last heads links clauses t a before at e = ((at.0, visit_done heads links clauses t a before at.0 at.1 at.2 at.3 e), λ p from below. at.3.pending p (omega (arith, from)) below)

-- what a reason says of the clauses as they were
pub reason_back : (heads : ℕ) (links links2 : List Link) (clauses clauses2 : List Clause) (entries : List Entry) (e : Entry) → AreRearranged clauses clauses2 → AreSameListed heads links links2 → HasLinkedReason heads links2 clauses2 entries e → HasLinkedReason heads links clauses entries e
reason_back heads links links2 clauses clauses2 entries e sets listed h =
    let low : h.0 < length clauses = omega (arith, h.3, sets.count) in
    let n = h.2 in
    let below : heads + 2 * h.0 < length links = omega (arith, n.1, listed.size) in
    (h.0, h.1, (n.0, below, listed.back (heads + 2 * h.0) n.0 below n.2), low, sets.back h.0 low e.lit h.4, λ l i ne. h.5 l (sets.there h.0 low l i) ne)

pub extended_refl : (heads : ℕ) (links : List Link) (clauses : List Clause) (t : TrailState) → IsExtended heads links clauses t t
extended_refl heads links clauses t = record { more = []; appended = sym (append-nil t.entries); level = refl; variables = refl; reasons = λ p from below. absurd (omega (arith, from, below)) }

pub extended_by : (heads : ℕ) (links links2 : List Link) (clauses clauses2 : List Clause) (old t t2 : TrailState) → AreRearranged clauses clauses2 → AreSameListed heads links links2 →
    IsExtended heads links clauses old t → IsSameOrMore heads links2 clauses2 t t2 → IsExtended heads links clauses old t2
extended_by heads links links2 clauses clauses2 old t t2 sets listed g (inl same) = subst (IsExtended heads links clauses old) (sym same) g
extended_by heads links links2 clauses clauses2 old t t2 sets listed g (inr h) = subst (IsExtended heads links clauses old) (sym h.1) (record {
  more = g.more ++ e ∷ [];
  appended = ap (λ q. q ++ e ∷ []) g.appended ∙ append_assoc old.entries g.more (e ∷ []);
  level = g.level;
  variables = g.variables;
  reasons = λ p from below. elim (cases_eq p (length t.entries)) [
    | inl same ↦
        let all : take p (t.entries ++ e ∷ []) ≡ t.entries = take-append-le p t.entries (e ∷ []) (omega arith) ∙ take_all p t.entries (omega arith) in
        rw (entry_last t.entries e p same, all) (h.2 ∙ g.level, reason_back heads links links2 clauses clauses2 t.entries e sets listed h.3)
    | inr other ↦
        let pl : p < length t.entries = omega (arith, below, other, length-append t.entries (e ∷ [])) in
        let first : take p (t.entries ++ e ∷ []) ≡ take p t.entries = take-append-le p t.entries (e ∷ []) (omega arith) in
        rw (entry_before t.entries e p pl, first) (g.reasons p from pl)
  ];
})
  where
    e : Entry
    e = h.0

entry_more : (xs ys : List Entry) (p : ℕ) → p < length xs → entry_at (xs ++ ys) p ≡ entry_at xs p
entry_more [] ys p h = absurd (omega (arith, h))
entry_more (x ∷ xs) ys zero h = refl
entry_more (x ∷ xs) ys (suc p) h = entry_more xs ys p (omega (arith, h))

pub extended_trans : (heads : ℕ) (links links2 : List Link) (clauses clauses2 : List Clause) (old t t2 : TrailState) → AreRearranged clauses clauses2 → AreSameListed heads links links2 →
    IsExtended heads links clauses old t → IsExtended heads links2 clauses2 t t2 → IsExtended heads links clauses old t2
extended_trans heads links links2 clauses clauses2 old t t2 sets listed g h = record {
  more = g.more ++ h.more;
  appended = h.appended ∙ ap (λ q. q ++ h.more) g.appended ∙ append_assoc old.entries g.more h.more;
  level = h.level ∙ g.level;
  variables = h.variables ∙ g.variables;
  reasons = λ p from below. elim (cases_lt p (length t.entries)) [
    | inl first ↦
        let r = g.reasons p from first in
        let e : entry_at t2.entries p ≡ entry_at t.entries p = ap (λ q. entry_at q p) h.appended ∙ entry_more t.entries h.more p first in
        let k : take p t2.entries ≡ take p t.entries = ap (take p) h.appended ∙ take-append-le p t.entries h.more (omega arith) in
        rw (e, k) r
    | inr later ↦
        let r = h.reasons p later below in
        (r.0 ∙ g.level, reason_back heads links links2 clauses clauses2 (take p t2.entries) (entry_at t2.entries p) sets listed r.1)
  ];
}

-- the beginning of a list
pub start_of : (heads : ℕ) (links : List Link) (clauses : List Clause) (t t2 : TrailState) (l : Lit) → AreFit heads links clauses t t.given → ArePendingFrom t t.given → t.given < length t.entries → l ≡ (entry_at t.entries t.given).lit → t2 ≡ record t { given = t.given + 1 } → IsTrail t2 →
    AtList heads links clauses t2 (opposite l) (code_of (opposite l))
start_of heads links clauses t t2 l fit pending below is same trail2 = subst (λ q. AtList heads links clauses q (opposite l) (code_of (opposite l))) (sym same) (
  fit.0,
  [],
  fit.0 (code_of (opposite l)),
  record {
    fitting = record {
      tied = fit.1.tied;
      are = fit.1.are;
      trail = subst IsTrail same trail2;
      cover = λ m n. let e : t.given + 1 - 1 ≡ t.given = omega arith in rw e (fit.1.cover m n);
    };
    pending = λ p from pl. pending p (omega (arith, from)) pl;
    given = omega arith;
    here = let e : t.given + 1 - 1 ≡ t.given = omega arith in rw e (sym is ∙ sym (opposite_twice l));
    low = omega (arith, positive);
    high = omega (arith, code_fits (opposite l) t.variables fits, fit.1.tied.even);
    split = refl;
    at_end = refl;
    seen = λ m i. absurd i;
  },
)
  where
    positive : 0 < l.var
    positive = rw is ((fit.1.trail.within t.given below).0)

    fits : l.var ≤ t.variables
    fits = rw is ((fit.1.trail.within t.given below).1)

pub given_same : (heads : ℕ) (links : List Link) (clauses : List Clause) (t t2 : TrailState) → IsSameOrMore heads links clauses t t2 → t2.given ≡ t.given
given_same heads links clauses t t2 (inl e) = ap (λ (q : TrailState). q.given) e
given_same heads links clauses t t2 (inr h) = ap (λ (q : TrailState). q.given) h.1

pub extended_given : (heads : ℕ) (links : List Link) (clauses : List Clause) (old t t2 : TrailState) (n : ℕ) → t2 ≡ record t { given = n } → IsExtended heads links clauses old t → IsExtended heads links clauses old t2
extended_given heads links clauses old t t2 n e g = subst (IsExtended heads links clauses old) (sym e) (record { more = g.more; appended = g.appended; level = g.level; variables = g.variables; reasons = g.reasons })
