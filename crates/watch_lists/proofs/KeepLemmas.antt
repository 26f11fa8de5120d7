-- How the fit is kept by a cut of the trail, by one more literal, and by one more clause in the arena.
use Rattle.std.proofs.Common.{◌≡◌, ℕ, zero, suc, ◌+◌, ◌-◌, ◌<◌, ◌≤◌, List, [], ◌∷◌, ◌++◌, length, sym, ap, ◌∙◌, subst, inl, inr, arith, length-append}
use Rattle.std.proofs.lemmas.Bool.{cases_lt}
use Rattle.std.proofs.lemmas.List.{get_or_append_left, get_or_at}
use Rattle.clause_arena.specs.Clauses.{Lit, opposite, Clause, In}
use Rattle.sat_trail.specs.Trails.{Entry, TrailState, entry_at, no_entry, true_lits, IsTrail, IsCutTo, IsTrueBy}
use Rattle.clause_arena.specs.Arenas.{clause_at}
use Rattle.watch_lists.specs.Watched.{IsCovered}
use Rattle.watch_lists.specs.Watching.{Watching, IsFit, IsFitBelow, IsCoveredBelow}
use Rattle.watch_lists.proofs.TrailFacts.{covered_more, consistent, place_true, true_by_level}

module _ (t t2 : TrailState) (level : ℕ) (cut : IsCutTo t t2 level) where
  same_entry : (p : ℕ) → p < length t2.entries → entry_at t.entries p ≡ entry_at t2.entries p
  same_entry p l = ap (λ q. entry_at q p) cut.split ∙ get_or_append_left t2.entries cut.rest no_entry p l

  -- what is true at a low level is left
  left_true : (j : ℕ) (l : Lit) → j ≤ level → IsTrueBy t.entries j l → IsTrueBy t2.entries j l
  left_true j l low h = elim (cases_lt h.0 (length t2.entries)) [
    | inl there ↦
        let e = same_entry h.0 there in
        (h.0, (there, ap (λ (n : Entry). n.lit) (sym e) ∙ h.1.1), omega (arith, ap (λ (n : Entry). n.level) e, h.2))
    | inr gone ↦
        let at : h.0 ≡ length t2.entries + (h.0 - length t2.entries) = omega arith in
        let size : length t.entries ≡ length t2.entries + length cut.rest = ap length cut.split ∙ length-append t2.entries cut.rest in
        let in_rest : h.0 - length t2.entries < length cut.rest = omega (arith, h.1.0, size) in
        let e : entry_at t.entries h.0 ≡ entry_at cut.rest (h.0 - length t2.entries) = ap (λ q. entry_at q h.0) cut.split ∙ past t2.entries cut.rest h.0 (h.0 - length t2.entries) at in
        absurd (omega (arith, cut.high (h.0 - length t2.entries) in_rest, ap (λ (n : Entry). n.level) e, h.2, low))
  ]
    where
      past : (xs ys : List Entry) (p q : ℕ) → p ≡ length xs + q → entry_at (xs ++ ys) p ≡ entry_at ys q
      past [] ys p q e = let s : p ≡ q = omega (arith, e) in ap (entry_at ys) s
      past (x ∷ xs) ys zero q e = absurd (omega (arith, e))
      past (x ∷ xs) ys (suc p) q e = past xs ys p q (omega (arith, e))

  cut_cover : (x y : Lit) → IsCovered t.entries t.given x y → IsCovered t2.entries t2.given x y
  cut_cover x y c p pn pl is =
      let e = same_entry p pl in
      let size : length t.entries ≡ length t2.entries + length cut.rest = ap length cut.split ∙ length-append t2.entries cut.rest in
      let r = c p (omega (arith, pn, cut.given_first)) (omega (arith, pl, size)) (ap (λ (n : Entry). n.lit) e ∙ is) in
      let r2 : IsTrueBy t.entries (entry_at t2.entries p).level y = subst (λ q. IsTrueBy t.entries q y) (ap (λ (n : Entry). n.level) e) r in
      left_true (entry_at t2.entries p).level y (cut.low p pl) r2

  cut_cover_below : (high : ℕ) → level < high → (x y : Lit) → IsCoveredBelow t.entries high x y → IsCovered t2.entries t2.given x y
  cut_cover_below high lt x y c p pn pl is =
      let e = same_entry p pl in
      let size : length t.entries ≡ length t2.entries + length cut.rest = ap length cut.split ∙ length-append t2.entries cut.rest in
      let r = c p (omega (arith, pl, size)) (ap (λ (n : Entry). n.lit) e ∙ is) (omega (arith, ap (λ (n : Entry). n.level) e, cut.low p pl, lt)) in
      let r2 : IsTrueBy t.entries (entry_at t2.entries p).level y = subst (λ q. IsTrueBy t.entries q y) (ap (λ (n : Entry). n.level) e) r in
      left_true (entry_at t2.entries p).level y (cut.low p pl) r2

  pub fit_cut : (w : Watching) (clauses : List Clause) → IsFit w clauses t → IsFit w clauses t2
  fit_cut w clauses fit = record {
    variables = fit.variables ∙ sym cut.variables;
    within = rw cut.variables fit.within;
    listing = fit.listing;
    apart = fit.apart;
    cover = λ k x y e. let c = fit.cover k x y e in (cut_cover x y c.0, cut_cover y x c.1);
  }

  pub fit_cut_below : (w : Watching) (clauses : List Clause) (high : ℕ) → level < high → IsFitBelow w clauses t high → IsFit w clauses t2
  fit_cut_below w clauses high lt fit = record {
    variables = fit.variables ∙ sym cut.variables;
    within = rw cut.variables fit.within;
    listing = fit.listing;
    apart = fit.apart;
    cover = λ k x y e. let c = fit.cover k x y e in (cut_cover_below high lt x y c.0, cut_cover_below high lt y x c.1);
  }

-- one more literal
pub fit_more : (w : Watching) (clauses : List Clause) (t t2 : TrailState) (e : Entry) → t2.entries ≡ t.entries ++ e ∷ [] → t2.given ≡ t.given → t2.variables ≡ t.variables → t.given ≤ length t.entries → IsFit w clauses t → IsFit w clauses t2
fit_more w clauses t t2 e more given variables fits fit = record {
  variables = fit.variables ∙ sym variables;
  within = rw variables fit.within;
  listing = fit.listing;
  apart = fit.apart;
  cover = λ k x y is.
      let c = fit.cover k x y is in
      (rw (more, given) (covered_more t.entries e t.given x y fits c.0), rw (more, given) (covered_more t.entries e t.given y x fits c.1));
}

-- one more clause
pub fit_push : (w : Watching) (clauses : List Clause) (c : Clause) (t : TrailState) → ((l : Lit) → In l c → l.var ≤ t.variables) → IsFit w clauses t → IsFit w (clauses ++ c ∷ []) t
fit_push w clauses c t low fit = record {
  variables = fit.variables;
  within = λ k kl l i. elim (cases_lt k (length clauses)) [
    | inl there ↦ fit.within k there l (subst (In l) (before k there) i)
    | inr past ↦ let last : length clauses ≡ k = omega (arith, kl, past, length-append clauses (c ∷ [])) in low l (subst (In l) (get_or_at clauses c [] [] k last) i)
  ];
  listing = λ k x y e. let l = fit.listing k x y e in (omega (arith, l.0, length-append clauses (c ∷ [])), rw (before k l.0) l.1, rw (before k l.0) l.2, rw (before k l.0) l.3);
  apart = λ k x y e. let l = fit.listing k x y e in rw (before k l.0) (fit.apart k x y e);
  cover = fit.cover;
}
  where
    before : (k : ℕ) → k < length clauses → clause_at (clauses ++ c ∷ []) k ≡ clause_at clauses k
    before k l = get_or_append_left clauses (c ∷ []) [] k l

-- a literal that isn't false is covered by any
pub cover_open : (t : TrailState) (n : ℕ) (x y : Lit) → (In (opposite x) (true_lits t.entries) → ⊥) → IsCovered t.entries n x y
cover_open t n x y open_x p pn pl is = absurd (open_x (place_true t.entries p (opposite x) pl is))

-- a learnt clause whose first literal was made true, and whose second is false at no lower level than the present one
pub cover_true : (t : TrailState) → IsTrail t → (n : ℕ) (x y : Lit) → In x (true_lits t.entries) → IsCovered t.entries n x y
cover_true t trail n x y i = cover_open t n x y (consistent t trail x i)

pub cover_highest : (t : TrailState) → IsTrail t → (n : ℕ) (x y : Lit) → In x (true_lits t.entries) → ((p : ℕ) → p < length t.entries → (entry_at t.entries p).lit ≡ opposite y → t.level ≤ (entry_at t.entries p).level) → IsCovered t.entries n y x
cover_highest t trail n x y i high p pn pl is = true_by_level t trail x (entry_at t.entries p).level (high p pl is) i
