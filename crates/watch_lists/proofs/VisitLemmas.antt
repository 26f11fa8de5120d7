-- One node of a list on the way through it.
use Rattle.std.proofs.Common.{◌≡◌, ◌≢◌, ◌⊎◌, ℕ, ◌+◌, ◌-◌, ◌*◌, ◌%◌, ◌<◌, ◌≤◌, List, [], ◌∷◌, ◌++◌, length, Option, None, slice_set, refl, sym, ap, ◌∙◌, subst, inl, inr, arith, length-append, append_assoc}
use Rattle.sat_trail.specs.Propagation.{OthersFalseIn, IsFalseIn, IsQuiet}
use Rattle.std.specs.List.{swap}
use Rattle.std.proofs.lemmas.Bool.{cases_eq}
use Rattle.clause_arena.specs.Clauses.{Lit, opposite, Clause, In}
use Rattle.sat_trail.specs.Trails.{Entry, TrailState, entry_at, true_lits, IsTrail, lit_at}
use Rattle.sat_trail.proofs.LitLemmas.{opposite_twice, same_lit}
use Rattle.clause_arena.specs.Lits.{code_of}
use Rattle.clause_arena.specs.Arenas.{clause_at}
use Rattle.sat_trail.proofs.LitLemmas.{code_same}
use Rattle.watch_lists.specs.declared.link.Link.{Link}
use Rattle.watch_lists.specs.Chains.{Has, AreApart, IsPath, moved_lists}
use Rattle.watch_lists.specs.Watched.{next_at, other_at, sibling, own_at, own_code, place_of, IsNode, AreOfDifferentVariables, AreTied, IsCovered, AreFitting, IsVisiting, AreSameListed, IsRelinked, IsReplacement, count_left, AreRearranged}
use Rattle.watch_lists.proofs.ChainLemmas.{has_left, has_right, has_cases, end_more, path_end, apart_few, steps_are, Relinks, lists_move, listed_stays, at_a}
use Rattle.watch_lists.proofs.SwapLemmas.{place_in, in_place, at_first, at_else, swap_different, clause_here, clause_else, same_sets}
use Rattle.watch_lists.proofs.TrailFacts.{true_place, place_true, consistent, true_by_level, entry_before, entry_last, true_more, true_last, covered_more}

pub sib_twice : (n : ℕ) → sibling (sibling n) ≡ n
sib_twice n = omega arith

pub sib_mod : (n : ℕ) → sibling n % 2 ≡ 1 - n % 2
sib_mod n = omega arith

pub sib_one : (k m : ℕ) → sibling k ≡ sibling m → k ≡ m
sib_one k m e = sym (sib_twice k) ∙ ap sibling e ∙ sib_twice m

pub sib_from : (heads v n : ℕ) → heads ≡ 2 * v + 2 → heads ≤ n → heads ≤ sibling n
sib_from heads v n e h = omega arith

pub sib_below : (heads v size r n : ℕ) → heads ≡ 2 * v + 2 → size ≡ heads + 2 * r → n < size → sibling n < size
sib_below heads v size r n e s h = omega arith

pub sib_place : (heads v n : ℕ) → heads ≡ 2 * v + 2 → heads ≤ n → place_of heads (sibling n) ≡ place_of heads n
sib_place heads v n e h = omega arith

pub same_place : (heads v k m : ℕ) → heads ≡ 2 * v + 2 → heads ≤ k → heads ≤ m → place_of heads k ≡ place_of heads m → k ≢ m → k ≡ sibling m
same_place heads v k m h a b e ne = omega arith

-- what the nodes of a clause say of it
module _ (heads variables : ℕ) (links : List Link) (clauses : List Clause) (tied : AreTied heads variables links clauses) where
  pub sib_node : (m : ℕ) → IsNode heads links m → IsNode heads links (sibling m)
  sib_node m n = (sib_from heads variables m tied.even n.0, sib_below heads variables (length links) tied.whole.0 m tied.even tied.whole.1 n.1, tied.paired m n)

  pub other_listing : (m : ℕ) → IsNode heads links m → lit_at (clause_at clauses (place_of heads m)) (1 - m % 2) ≡ other_at links m
  other_listing m n =
      let l = tied.listing (sibling m) (sib_node m n) in
      let place = sib_place heads variables m tied.even n.0 in
      ap (lit_at (clause_at clauses (place_of heads m))) (sym (sib_mod m))
      ∙ ap (λ q. lit_at (clause_at clauses q) (sibling m % 2)) (sym place)
      ∙ l ∙ ap (other_at links) (sib_twice m)

  pub own_in : (m : ℕ) → IsNode heads links m → In (own_at links m) (clause_at clauses (place_of heads m))
  own_in m n = let h = tied.held m n in subst (λ q. In q (clause_at clauses (place_of heads m))) (tied.listing m n) (in_place (clause_at clauses (place_of heads m)) (m % 2) (omega (arith, h.1)))

  pub other_in : (m : ℕ) → IsNode heads links m → In (other_at links m) (clause_at clauses (place_of heads m))
  other_in m n = let h = tied.held m n in subst (λ q. In q (clause_at clauses (place_of heads m))) (other_listing m n) (in_place (clause_at clauses (place_of heads m)) (1 - m % 2) (omega (arith, h.1)))

  pub own_not_other : (m : ℕ) → IsNode heads links m → own_at links m ≢ other_at links m
  own_not_other m n e =
      let h = tied.held m n in
      let ne : m % 2 ≢ 1 - m % 2 = omega arith in
      tied.apart m n (m % 2) (1 - m % 2) (omega (arith, h.1)) (omega (arith, h.1)) ne (ap (λ (l : Lit). l.var) (tied.listing m n ∙ e ∙ sym (other_listing m n)))

  -- a literal of the clause is its own, the other one, or stands from 2 on
  pub three_ways : (m : ℕ) → IsNode heads links m → (l : Lit) → In l (clause_at clauses (place_of heads m)) →
      (l ≡ own_at links m) ⊎ ((l ≡ other_at links m) ⊎ ((i : ℕ) × (2 ≤ i) × (i < length (clause_at clauses (place_of heads m))) × (lit_at (clause_at clauses (place_of heads m)) i ≡ l)))
  three_ways m n l i =
      let r = place_in (clause_at clauses (place_of heads m)) l i in
      elim (cases_eq r.0 (m % 2)) [
        | inl e ↦ inl (sym r.2 ∙ ap (lit_at (clause_at clauses (place_of heads m))) e ∙ tied.listing m n)
        | inr ne ↦ elim (cases_eq r.0 (1 - m % 2)) [
          | inl e ↦ inr (inl (sym r.2 ∙ ap (lit_at (clause_at clauses (place_of heads m))) e ∙ other_listing m n))
          | inr ne2 ↦ inr (inr (r.0, omega arith, r.1, r.2))
        ]
      ]

-- the nodes after a watch was moved
module _ (heads variables : ℕ) (links links2 : List Link) (clauses : List Clause) (tied : AreTied heads variables links clauses) (before m j : ℕ) (node : IsNode heads links m)
    (from : 2 ≤ j) (jl : j < length (clause_at clauses (place_of heads m))) (relinked : IsRelinked links links2 before m (lit_at (clause_at clauses (place_of heads m)) j)) (listed : AreSameListed heads links links2) where
  id : ℕ
  id = place_of heads m

  abbrev c_before : Clause
  c_before = clause_at clauses (place_of heads m)

  abbrev pub moved_clauses : List Clause
  moved_clauses = slice_set clauses (place_of heads m) (swap (clause_at clauses (place_of heads m)) (m % 2) j)

  slot_low : m % 2 < length c_before
  slot_low = omega (arith, (tied.held m node).1)

  differs : m % 2 ≢ j
  differs = omega arith

  old_node : (k : ℕ) → IsNode heads links2 k → IsNode heads links k
  old_node k n = let below : k < length links = omega (arith, n.1, listed.size) in (n.0, below, listed.back k n.0 below n.2)

  sets : AreRearranged clauses moved_clauses
  sets = same_sets clauses (place_of heads m) (m % 2) j (tied.held m node).0 slot_low jl differs

  here_is : clause_at moved_clauses (place_of heads m) ≡ swap c_before (m % 2) j
  here_is = clause_here clauses (place_of heads m) (swap c_before (m % 2) j) (tied.held m node).0

  pub own_moved : own_at links2 m ≡ lit_at c_before j
  own_moved = relinked.watched

  pub own_other : (k : ℕ) → k ≢ m → own_at links2 k ≡ own_at links k
  own_other k ne = relinked.kept (sibling k) (λ e. ne (sib_one k m e))

  listing_of : (k : ℕ) → IsNode heads links2 k → lit_at (clause_at moved_clauses (place_of heads k)) (k % 2) ≡ own_at links2 k
  listing_of k n = elim (cases_eq (place_of heads k) (place_of heads m)) [
    | inl same ↦ elim (cases_eq k m) [
      | inl is ↦
          ap (λ q. lit_at (clause_at moved_clauses (place_of heads q)) (q % 2)) is
          ∙ ap (λ q. lit_at q (m % 2)) here_is ∙ at_first c_before (m % 2) j slot_low jl differs ∙ sym own_moved ∙ ap (own_at links2) (sym is)
      | inr nm ↦
          let is : k ≡ sibling m = same_place heads variables k m tied.even n.0 node.0 same nm in
          let slot : k % 2 ≡ 1 - m % 2 = ap (λ q. q % 2) is ∙ sib_mod m in
          let old = tied.listing k (old_node k n) in
          ap (λ q. lit_at (clause_at moved_clauses q) (k % 2)) same
          ∙ ap (λ q. lit_at q (k % 2)) here_is
          ∙ at_else c_before (m % 2) j slot_low jl differs (k % 2) (omega arith) (omega arith)
          ∙ ap (λ q. lit_at (clause_at clauses q) (k % 2)) (sym same)
          ∙ old ∙ sym (own_other k nm)
    ]
    | inr ne ↦
        ap (λ q. lit_at q (k % 2)) (clause_else clauses (place_of heads m) (place_of heads k) (swap c_before (m % 2) j) ne)
        ∙ tied.listing k (old_node k n) ∙ sym (own_other k (λ e. ne (ap (place_of heads) e)))
  ]

  apart_of : (k : ℕ) → IsNode heads links2 k → AreOfDifferentVariables (clause_at moved_clauses (place_of heads k))
  apart_of k n = elim (cases_eq (place_of heads k) (place_of heads m)) [
    | inl same ↦ subst AreOfDifferentVariables (sym (ap (clause_at moved_clauses) same ∙ here_is)) (swap_different c_before (m % 2) j slot_low jl differs (tied.apart m node))
    | inr ne ↦ subst AreOfDifferentVariables (sym (clause_else clauses (place_of heads m) (place_of heads k) (swap c_before (m % 2) j) ne)) (tied.apart k (old_node k n))
  ]

  pub tied_moved : AreTied heads variables links2 moved_clauses
  tied_moved = record {
    even = tied.even;
    whole = (tied.whole.0, listed.size ∙ tied.whole.1);
    paired = λ k n. let o = sib_node heads variables links clauses tied k (old_node k n) in listed.there (sibling k) o.0 o.1 o.2;
    held = λ k n. let o = tied.held k (old_node k n) in (omega (arith, o.0, sets.count), omega (arith, o.1, sets.lengths (place_of heads k) o.0));
    listing = listing_of;
    apart = apart_of;
    within = λ k kl l i. tied.within k (omega (arith, kl, sets.count)) l (sets.back k (omega (arith, kl, sets.count)) l i);
  }

-- how far the list goes
pub left_is : (heads : ℕ) (links : List Link) (clauses : List Clause) (t : TrailState) (a : Lit) (before : ℕ) (lists : ℕ → List ℕ) (done rest : List ℕ) → IsVisiting heads links clauses t a before lists done rest →
    (count_left links before ≡ length rest) × IsPath (next_at links) before rest
left_is heads links clauses t a before lists done rest v =
    let are = v.fitting.are in
    let p : IsPath (next_at links) (code_of a) (done ++ rest) = subst (IsPath (next_at links) (code_of a)) v.split (are.path (code_of a) v.low v.high) in
    let q : IsPath (next_at links) before rest = subst (λ n. IsPath (next_at links) n rest) v.at_end (path_end (next_at links) (code_of a) done rest p) in
    let apart : AreApart (done ++ rest) = subst AreApart v.split (are.apart (code_of a) v.low v.high) in
    let few : length (done ++ rest) ≤ length links = apart_few (length links) (done ++ rest) apart (λ k i. (are.sound (code_of a) k v.low v.high (subst (Has k) (sym v.split) i)).1) in
    (steps_are (length links) (next_at links) before rest q (omega (arith, few, length-append done rest)), q)

module _ (heads : ℕ) (links : List Link) (clauses : List Clause) (t : TrailState) (a : Lit) (before m : ℕ) (lists : ℕ → List ℕ) (done rest : List ℕ) (v : IsVisiting heads links clauses t a before lists done (m ∷ rest)) where
  fit : AreFitting heads links clauses t (t.given - 1) lists
  fit = v.fitting

  pub m_has : Has m (lists (code_of a))
  m_has = subst (Has m) (sym v.split) (has_right done (m ∷ rest) m (inl refl))

  pub m_node : IsNode heads links m
  m_node = let s = fit.are.sound (code_of a) m v.low v.high m_has in (s.0, s.1, s.3)

  pub m_own : own_at links m ≡ a
  m_own = code_same (own_at links m) a (fit.are.sound (code_of a) m v.low v.high m_has).2

  pub a_false : In (opposite a) (true_lits t.entries)
  a_false = place_true t.entries (t.given - 1) (opposite a) (omega (arith, v.given, fit.trail.given_in)) v.here

  pub a_not_true : In a (true_lits t.entries) → ⊥
  a_not_true i = consistent t fit.trail a i a_false

  pub other_within : (other_at links m).var ≤ t.variables
  other_within = fit.tied.within (place_of heads m) (fit.tied.held m m_node).0 (other_at links m) (other_in heads t.variables links clauses fit.tied m m_node)

  -- the node stays where its other literal is true
  pub visit_kept : In (other_at links m) (true_lits t.entries) → IsVisiting heads links clauses t a m lists (done ++ m ∷ []) rest
  visit_kept i = record {
    fitting = v.fitting;
    pending = v.pending;
    given = v.given;
    here = v.here;
    low = v.low;
    high = v.high;
    split = v.split ∙ sym (append_assoc done (m ∷ []) rest);
    at_end = end_more (code_of a) done m;
    seen = λ k h. elim (has_cases done (m ∷ []) k h) [ inl old ↦ v.seen k old | inr new ↦ last k new ];
  }
    where
      last : (k : ℕ) → Has k (m ∷ []) → In (other_at links k) (true_lits t.entries)
      last k (inl e) = rw e i
      last k (inr none) = absurd none

  -- all but the other literal are false
  pub others_false : IsReplacement (clause_at clauses (place_of heads m)) (true_lits t.entries) None → OthersFalseIn (clause_at clauses (place_of heads m)) (true_lits t.entries) (other_at links m)
  others_false none l i ne = elim (three_ways heads t.variables links clauses fit.tied m m_node l i) [
    | inl own ↦ subst (λ q. In (opposite q) (true_lits t.entries)) (sym (own ∙ m_own)) a_false
    | inr more ↦ elim more [
      | inl other ↦ absurd (ne other)
      | inr far ↦ subst (λ q. In (opposite q) (true_lits t.entries)) far.3 (none far.0 far.1 far.2)
    ]
  ]

  pub all_false : IsReplacement (clause_at clauses (place_of heads m)) (true_lits t.entries) None → In (opposite (other_at links m)) (true_lits t.entries) → IsFalseIn (clause_at clauses (place_of heads m)) (true_lits t.entries)
  all_false none f l i = elim (three_ways heads t.variables links clauses fit.tied m m_node l i) [
    | inl own ↦ subst (λ q. In (opposite q) (true_lits t.entries)) (sym (own ∙ m_own)) a_false
    | inr more ↦ elim more [
      | inl other ↦ subst (λ q. In (opposite q) (true_lits t.entries)) (sym other) f
      | inr far ↦ subst (λ q. In (opposite q) (true_lits t.entries)) far.3 (none far.0 far.1 far.2)
    ]
  ]

  -- the other literal becomes true
  pub visit_assigned : (reason : Option ℕ) → IsTrail (record t { entries = t.entries ++ (record { lit = other_at links m; level = t.level; reason = reason }) ∷ [] }) →
      IsVisiting heads links clauses (record t { entries = t.entries ++ (record { lit = other_at links m; level = t.level; reason = reason }) ∷ [] }) a m lists (done ++ m ∷ []) rest
  visit_assigned reason trail2 = record {
    fitting = record {
      tied = fit.tied;
      are = fit.are;
      trail = trail2;
      cover = λ k n. covered_more t.entries e (t.given - 1) (own_at links k) (other_at links k) (omega (arith, fit.trail.given_in)) (fit.cover k n);
    };
    pending = λ p from below. elim (cases_eq p (length t.entries)) [
      | inl same ↦ ap (λ (q : Entry). q.level) (entry_last t.entries e p same)
      | inr other ↦ let pl : p < length t.entries = omega (arith, below, other, length-append t.entries (e ∷ [])) in ap (λ (q : Entry). q.level) (entry_before t.entries e p pl) ∙ v.pending p from pl
    ];
    given = v.given;
    here = ap (λ (q : Entry). q.lit) (entry_before t.entries e (t.given - 1) (omega (arith, v.given, fit.trail.given_in))) ∙ v.here;
    low = v.low;
    high = v.high;
    split = v.split ∙ sym (append_assoc done (m ∷ []) rest);
    at_end = end_more (code_of a) done m;
    seen = λ k h. elim (has_cases done (m ∷ []) k h) [ inl old ↦ true_more t.entries e (other_at links k) (v.seen k old) | inr new ↦ last k new ];
  }
    where
      e : Entry
      e = record { lit = other_at links m; level = t.level; reason = reason }

      last : (k : ℕ) → Has k (m ∷ []) → In (other_at links k) (true_lits (t.entries ++ e ∷ []))
      last k (inl is) = rw is (true_last t.entries e)
      last k (inr none) = absurd none

  -- the node goes to the list of a literal that isn't false
  module _ (links2 : List Link) (j : ℕ) (from : 2 ≤ j) (jl : j < length (clause_at clauses (place_of heads m))) (c_low : 1 < code_of (lit_at (clause_at clauses (place_of heads m)) j)) (c_high : code_of (lit_at (clause_at clauses (place_of heads m)) j) < heads)
      (open_c : In (opposite (lit_at (clause_at clauses (place_of heads m)) j)) (true_lits t.entries) → ⊥) (relinked : IsRelinked links links2 before m (lit_at (clause_at clauses (place_of heads m)) j)) where
    abbrev c : Lit
    c = lit_at (clause_at clauses (place_of heads m)) j

    c_not_a : code_of c ≢ code_of a
    c_not_a e = open_c (subst (λ q. In (opposite q) (true_lits t.entries)) (sym (code_same c a e)) a_false)

    relinks : Relinks heads (length links) (next_at links) (next_at links2) (own_code links) (own_code links2) (code_of a) before m (code_of c)
    relinks = record {
      cut = relinked.cut;
      follows = relinked.follows;
      front = relinked.front;
      others = relinked.others;
      owner = ap code_of relinked.watched;
      owners = λ k f b ne l. ap code_of (relinked.kept (sibling k) (λ e. ne (sib_one k m e)));
    }

    pub listed_same : AreSameListed heads links links2
    listed_same = record {
      size = relinked.size;
      there = λ k f b. (listed_stays heads (length links) (next_at links) (next_at links2) (own_code links) (own_code links2) lists fit.are (code_of a) before m (code_of c) relinks done rest v.split v.at_end v.low v.high c_low c_high c_not_a k f b).0;
      back = λ k f b. (listed_stays heads (length links) (next_at links) (next_at links2) (own_code links) (own_code links2) lists fit.are (code_of a) before m (code_of c) relinks done rest v.split v.at_end v.low v.high c_low c_high c_not_a k f b).1;
    }

    abbrev pub lists_moved : ℕ → List ℕ
    lists_moved = moved_lists lists (code_of a) (code_of c) (done ++ rest) m

    sib_other : other_at links (sibling m) ≡ a
    sib_other = m_own

    not_sibling : (k : ℕ) → Has k done → k ≢ sibling m
    not_sibling k h e =
        let i : Has k (lists (code_of a)) = subst (Has k) (sym v.split) (has_left done (m ∷ rest) k h) in
        let own : own_at links k ≡ a = code_same (own_at links k) a (fit.are.sound (code_of a) k v.low v.high i).2 in
        let same : other_at links m ≡ own_at links k = ap (other_at links) (sym (sib_twice m)) ∙ ap (own_at links) (sym e) in
        own_not_other heads t.variables links clauses fit.tied m m_node (m_own ∙ sym own ∙ sym same)

    cover_of : (k : ℕ) → IsNode heads links2 k → IsCovered t.entries (t.given - 1) (own_at links2 k) (other_at links2 k)
    cover_of k n = elim (cases_eq k m) [
      | inl is ↦ λ p pn pl e. absurd (open_c (place_true t.entries p (opposite c) pl (e ∙ ap (λ q. opposite (own_at links2 q)) is ∙ ap opposite relinked.watched)))
      | inr nm ↦
          let own : own_at links2 k ≡ own_at links k = relinked.kept (sibling k) (λ e. nm (sib_one k m e)) in
          let below : k < length links = omega (arith, n.1, relinked.size) in
          let old : IsNode heads links k = (n.0, below, listed_same.back k n.0 below n.2) in
          elim (cases_eq k (sibling m)) [
            | inl is ↦ λ p pn pl e.
                let r = fit.cover k old p pn pl (e ∙ ap opposite own) in
                let other : other_at links k ≡ a = ap (other_at links) is ∙ sib_other in
                absurd (a_not_true (place_true t.entries r.0 a r.1.0 (r.1.1 ∙ other)))
            | inr ns ↦
                let other : other_at links2 k ≡ other_at links k = relinked.kept k ns in
                rw (own, other) (fit.cover k old)
          ]
    ]

    pub visit_moved : IsVisiting heads links2 (slice_set clauses (place_of heads m) (swap (clause_at clauses (place_of heads m)) (m % 2) j)) t a before lists_moved done rest
    visit_moved = record {
      fitting = record {
        tied = tied_moved heads t.variables links links2 clauses fit.tied before m j m_node from jl relinked listed_same;
        are = rw relinked.size (lists_move heads (length links) (next_at links) (next_at links2) (own_code links) (own_code links2) lists fit.are (code_of a) before m (code_of c) relinks done rest v.split v.at_end v.low v.high c_low c_high c_not_a);
        trail = fit.trail;
        cover = cover_of;
      };
      pending = v.pending;
      given = v.given;
      here = v.here;
      low = v.low;
      high = v.high;
      split = at_a heads (length links) (next_at links) (next_at links2) (own_code links) (own_code links2) lists fit.are (code_of a) before m (code_of c) relinks done rest v.split v.at_end v.low v.high c_low c_high c_not_a;
      at_end = v.at_end;
      seen = λ k h. let other : other_at links2 k ≡ other_at links k = relinked.kept k (not_sibling k h) in rw other (v.seen k h);
    }

-- at the end of the list the last given entry is covered too
pub visit_done : (heads : ℕ) (links : List Link) (clauses : List Clause) (t : TrailState) (a : Lit) (before : ℕ) (lists : ℕ → List ℕ) (done rest : List ℕ) → IsVisiting heads links clauses t a before lists done rest → next_at links before ≡ 0 → AreFitting heads links clauses t t.given lists
visit_done heads links clauses t a before lists done (m ∷ rest) v e = let p = (left_is heads links clauses t a before lists done (m ∷ rest) v).1 in absurd (omega (arith, p.0, p.1, e))
visit_done heads links clauses t a before lists done [] v e = record {
  tied = v.fitting.tied;
  are = v.fitting.are;
  trail = v.fitting.trail;
  cover = cover_of;
}
  where
    cover_of : (k : ℕ) → IsNode heads links k → IsCovered t.entries t.given (own_at links k) (other_at links k)
    cover_of k n p pn pl is = elim (cases_eq p (t.given - 1)) [
      | inl same ↦
          let both : opposite (own_at links k) ≡ opposite a = sym is ∙ ap (λ q. (entry_at t.entries q).lit) same ∙ v.here in
          let own : own_at links k ≡ a = sym (opposite_twice (own_at links k)) ∙ ap opposite both ∙ opposite_twice a in
          let h : Has k (lists (code_of a)) = subst (λ q. Has k (lists (code_of q))) own (v.fitting.are.complete k n.0 n.1 n.2) in
          let d : Has k done = elim (has_cases done [] k (subst (Has k) v.split h)) [ inl i ↦ i | inr none ↦ absurd none ] in
          true_by_level t v.fitting.trail (other_at links k) (entry_at t.entries p).level (omega (arith, v.pending p (omega (arith, same)) pl)) (v.seen k d)
      | inr other ↦ v.fitting.cover k n p (omega (arith, pn, other)) pl is
    ]

-- with every entry given out, what is watched is quiet
pub fitting_quiet : (heads : ℕ) (links : List Link) (clauses : List Clause) (t : TrailState) (lists : ℕ → List ℕ) → AreFitting heads links clauses t (length t.entries) lists → (m : ℕ) → IsNode heads links m → IsQuiet (clause_at clauses (place_of heads m)) (true_lits t.entries)
fitting_quiet heads links clauses t lists fit m n l i others =
    let own = own_at links m in
    let other = other_at links m in
    let T = true_lits t.entries in
    let covered : (k : ℕ) → IsNode heads links k → In (opposite (own_at links k)) T → In (other_at links k) T = λ k nk f.
    let r = true_place t.entries (opposite (own_at links k)) f in
    let c = fit.cover k nk r.0 r.1 r.1 r.2 in
    place_true t.entries c.0 (other_at links k) c.1.0 c.1.1 in
    let sib = sib_node heads t.variables links clauses fit.tied m n in
    let ne = own_not_other heads t.variables links clauses fit.tied m n in
    let own_i = own_in heads t.variables links clauses fit.tied m n in
    let other_i = other_in heads t.variables links clauses fit.tied m n in
    let sib_own : own_at links (sibling m) ≡ other = ap (other_at links) (sib_twice m) in
    elim (same_lit own l) [
      | inl is ↦
          let f : In (opposite (own_at links (sibling m))) T = rw sib_own (others other other_i (λ e. ne (is ∙ sym e))) in
          subst (λ q. In q T) is (covered (sibling m) sib f)
      | inr not_own ↦
          let f : In (opposite own) T = others own own_i not_own in
          let t_other : In other T = covered m n f in
          elim (same_lit other l) [
            | inl is ↦ subst (λ q. In q T) is t_other
            | inr not_other ↦ absurd (consistent t fit.trail other t_other (others other other_i not_other))
          ]
    ]
