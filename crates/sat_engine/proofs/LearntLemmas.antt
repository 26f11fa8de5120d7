-- A learnt clause comes under watch.
use Rattle.std.proofs.Common.{◌≡◌, ◌≢◌, ℕ, ◌+◌, ◌<◌, ◌≤◌, List, [], ◌∷◌, ◌++◌, length, sym, ap, ◌∙◌, subst, inl, inr, arith, length-append}
use Rattle.proof_check.specs.Lines.{numbers, last_id}
use Rattle.std.proofs.lemmas.Bool.{cases_lt}
use Rattle.clause_arena.specs.Clauses.{Lit, Clause, In}
use Rattle.proof_check.specs.Records.{LogState}
use Rattle.sat_trail.specs.Trails.{Entry, TrailState, entry_at, true_lits, IsTrail, IsCutTo, lit_at}
use Rattle.sat_trail.proofs.TrailLemmas.{place_of}
use Rattle.watch_lists.specs.Watched.{IsCovered, AreRearranged}
use Rattle.watch_lists.specs.Watching.{Watching, listed, IsFit, IsFitBelow}
use Rattle.watch_lists.proofs.TrailFacts.{one_place, place_true}
use Rattle.watch_lists.proofs.KeepLemmas.{fit_cut_below, fit_more, fit_push, cover_true, cover_highest}
use Rattle.sat_engine.specs.Searches.{IsJump, IsOfLevel, IsSized}
use Rattle.sat_engine.proofs.JumpLemmas.{first_part, last_part}
use Rattle.sat_engine.proofs.CopyLemmas.{fit_same}
use Rattle.sat_engine.proofs.SetLemmas.{literals_same}

module _ (t cut new : TrailState) (e : Entry) (x : Lit) (lits : Clause) (jump : ℕ) (trail : IsTrail t) (valid : IsTrail new) (is_cut : IsCutTo t cut jump) (entries_is : new.entries ≡ cut.entries ++ e ∷ []) (lit_is : e.lit ≡ x) (level_is : e.level ≡ new.level) (at_jump : new.level ≡ jump) (first : lit_at lits 0 ≡ x) where
  now_true : In x (true_lits new.entries)
  now_true =
      let here = last_part cut.entries (e ∷ []) (length cut.entries) 0 (omega arith) in
      subst (λ q. In x (true_lits q)) (sym entries_is) (place_true (cut.entries ++ e ∷ []) (length cut.entries) x (omega (arith, length-append cut.entries (e ∷ []))) (ap (λ (n : Entry). n.lit) here ∙ lit_is))

  pub first_covers : (n : ℕ) → IsCovered new.entries n (lit_at lits 0) (lit_at lits 1)
  first_covers n = cover_true new valid n (lit_at lits 0) (lit_at lits 1) (subst (λ q. In q (true_lits new.entries)) (sym first) now_true)

  pub second_covers : (n : ℕ) (found : Clause) → IsJump t x found jump → lit_at found 0 ≡ x → ((i : ℕ) → 0 < i → i < length found → IsOfLevel t jump (lit_at found i) → IsOfLevel t jump (lit_at lits 1)) → IsCovered new.entries n (lit_at lits 1) (lit_at lits 0)
  second_covers n found far found_first second = cover_highest new valid n (lit_at lits 0) (lit_at lits 1) (subst (λ q. In q (true_lits new.entries)) (sym first) now_true) (λ p pl is. elim far.some [
    | inl none ↦ omega (arith, none, at_jump)
    | inr b ↦
        let place = place_of b.0 found b.1 in
        let not_first : place.0 ≢ 0 = λ z. b.2 (sym place.2 ∙ ap (lit_at found) z ∙ found_first) in
        let of_level : IsOfLevel t jump (lit_at found place.0) = λ q ql v.
        let same : q ≡ b.3 = one_place t trail q b.3 ql b.4.0 (v ∙ ap (λ (m : Lit). m.var) place.2 ∙ sym (ap (λ (m : Lit). m.var) b.4.1)) in
        ap (λ k. (entry_at t.entries k).level) same ∙ b.5 in
        let high = second place.0 (omega (arith, not_first)) place.1 of_level in
        elim (cases_lt p (length cut.entries)) [
          | inl old ↦
              let e1 : entry_at new.entries p ≡ entry_at cut.entries p = ap (λ (es : List Entry). entry_at es p) entries_is ∙ first_part cut.entries (e ∷ []) p old in
              let e2 : entry_at t.entries p ≡ entry_at cut.entries p = ap (λ (es : List Entry). entry_at es p) is_cut.split ∙ first_part cut.entries is_cut.rest p old in
              let both : entry_at t.entries p ≡ entry_at new.entries p = e2 ∙ sym e1 in
              let tl : p < length t.entries = omega (arith, old, ap length is_cut.split, length-append cut.entries is_cut.rest) in
              let l = high p tl (ap (λ (m : Entry). m.lit.var) both ∙ ap (λ (m : Lit). m.var) is) in
              omega (arith, l, ap (λ (m : Entry). m.level) both, at_jump)
          | inr last ↦
              let p_is : p ≡ length cut.entries + 0 = omega (arith, last, pl, ap length entries_is, length-append cut.entries (e ∷ [])) in
              let e1 : entry_at new.entries p ≡ e = ap (λ (es : List Entry). entry_at es p) entries_is ∙ last_part cut.entries (e ∷ []) p 0 p_is in
              omega (arith, ap (λ (m : Entry). m.level) e1, level_is)
        ]
  ])

-- the watches after a cut, with room for one more clause, with that clause in the arena, and with its literal true
pub fit_learnt : (clauses : List Clause) (w w2 : Watching) (t cut new : TrailState) (e : Entry) (lits : Clause) (jump : ℕ) → IsFitBelow w clauses t t.level → jump < t.level → IsCutTo t cut jump → IsTrail cut → w2.variables ≡ w.variables → ((k : ℕ) → listed w2 k ≡ listed w k) → ((l : Lit) → In l lits → l.var ≤ t.variables) →
    new.entries ≡ cut.entries ++ e ∷ [] → new.given ≡ cut.given → new.variables ≡ cut.variables → IsFit w2 (clauses ++ lits ∷ []) new
fit_learnt clauses w w2 t cut new e lits jump fit below is_cut valid vars same within entries given variables =
    fit_more w2 (clauses ++ lits ∷ []) cut new e entries given variables valid.given_in
    (fit_push w2 clauses lits cut (λ l i. omega (arith, within l i, is_cut.variables)) (fit_same w w2 clauses cut vars same (fit_cut_below t cut jump is_cut w clauses t.level below fit)))

pub sized_same : (n n2 : ℕ) (clauses new : List Clause) (log log2 : LogState) → AreRearranged clauses new → log2 ≡ log → n2 ≡ n → IsSized n clauses log → IsSized n2 new log2
sized_same n n2 clauses new log log2 same now vars sized =
    let lines = ap (λ (q : LogState). numbers q.lines) now in
    record {
      variables_few = omega (arith, vars, sized.variables_few);
      numbers_few = omega (arith, lines, sized.numbers_few);
      clauses_few = omega (arith, lines, same.count, literals_same clauses new same, sized.clauses_few);
      last = ap (λ (q : LogState). last_id q.first q.lines) now ∙ sized.last ∙ sym same.count;
    }
