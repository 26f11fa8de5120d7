-- The hints of an addition, one after another.
use Rattle.std.proofs.Common.{◌≡◌, ℕ, suc, ◌+◌, ◌<◌, List, [], ◌∷◌, Option, Some, None, IsSomeAnd, length, drop, get_or, refl, sym, ap, ◌∙◌, subst, arith, drop-cons, length-drop}
use Rattle.clause_arena.specs.Clauses.{Lit, Clause, opposite}
use Rattle.proof_check.specs.Lines.{Line}
use Rattle.proof_check.specs.Following.{Live, AllFalse, IsUnit, HintsLead, BreaksAt, Breaks, IsProper}
use Rattle.proof_check.specs.Marks.{AllMarked, IsMarkedUnit, Within, Represent}

-- what breaks or leads from here on, with these literals false, breaks or leads from the line's own literals
pub record IsAhead (live : Live) (lits : Clause) (hints : List ℕ) (falses : List Lit) (i : ℕ) : Type 0 where
  pub breaks : (k : ℕ) → BreaksAt live falses (drop i hints) (suc k) → BreaksAt live lits hints (suc (i + k))
  pub leads : HintsLead live falses (drop i hints) → HintsLead live lits hints

pub ahead_start : (live : Live) (lits : Clause) (hints : List ℕ) → IsAhead live lits hints lits 0
ahead_start live lits hints = record {
  breaks = λ k b. let e : suc k ≡ suc (0 + k) = omega arith in subst (BreaksAt live lits hints) e b;
  leads = λ l. l;
}

drop_two : (hints : List ℕ) (i h : ℕ) → i + 1 < length hints → h ≡ get_or hints i 0 → (j : ℕ) × (rest : List ℕ) × (drop i hints ≡ h ∷ j ∷ rest) × (drop (i + 1) hints ≡ j ∷ rest)
drop_two hints i h lt e =
    let one : drop (i + 1) hints ≡ get_or hints (i + 1) 0 ∷ drop (suc (i + 1)) hints = drop-cons hints (i + 1) 0 lt in
    let at : i < length hints = omega arith in
    let two : drop i hints ≡ get_or hints i 0 ∷ drop (i + 1) hints = drop-cons hints i 0 at ∙ ap (λ (n : ℕ). get_or hints i 0 ∷ drop n hints) (let s : suc i ≡ i + 1 = omega arith in s) in
    (get_or hints (i + 1) 0, drop (suc (i + 1)) hints, two ∙ ap (λ (t : List ℕ). get_or hints i 0 ∷ t) one ∙ ap (λ (n : ℕ). n ∷ get_or hints (i + 1) 0 ∷ drop (suc (i + 1)) hints) (sym e), one)

drop_end : (hints : List ℕ) (i h : ℕ) → i + 1 ≡ length hints → h ≡ get_or hints i 0 → drop i hints ≡ h ∷ []
drop_end hints i h n e =
    let at : i < length hints = omega arith in
    drop-cons hints i 0 at ∙ (ap (λ (t : List ℕ). get_or hints i 0 ∷ t) (none (drop (suc i) hints) (omega (arith, length-drop (suc i) hints))) ∙ ap (λ (n : ℕ). n ∷ []) (sym e))
  where
    none : (xs : List ℕ) → length xs ≡ 0 → xs ≡ []
    none [] z = refl
    none (x ∷ xs) z = absurd (omega arith)

of_some : (q : Option Clause) (c : Clause) (P : Clause → Type 0) → q ≡ Some c → P c → IsSomeAnd q P
of_some q c P e p = rw e p

some_of : (q : Option Clause) (c : Clause) (P : Clause → Type 0) → q ≡ Some c → IsSomeAnd q P → P c
some_of q c P e p = rw e at p

none_of : (q : Option Clause) (P : Clause → Type 0) → q ≡ None → IsSomeAnd q P → ⊥
none_of q P e p = rw e at p

pub ahead_step : (live : Live) (lits : Clause) (hints : List ℕ) (falses : List Lit) (i h : ℕ) (c : Clause) (l : Lit) → IsAhead live lits hints falses i → i + 1 < length hints → h ≡ get_or hints i 0 → live h ≡ Some c → IsUnit falses c l → IsAhead live lits hints (opposite l ∷ falses) (i + 1)
ahead_step live lits hints falses i h c l ahead lt e is unit =
    let d = drop_two hints i h lt e in
    record {
      breaks = λ k b.
          let here : BreaksAt live (opposite l ∷ falses) (d.0 ∷ d.1) (suc k) = rw d.3 at b in
          let whole : BreaksAt live falses (h ∷ d.0 ∷ d.1) (suc (suc k)) = of_some (live h) c (λ c. (l : Lit) × IsUnit falses c l × BreaksAt live (opposite l ∷ falses) (d.0 ∷ d.1) (suc k)) is (l, unit, here) in
          let n : suc (i + suc k) ≡ suc (i + 1 + k) = omega arith in
          subst (BreaksAt live lits hints) n (ahead.breaks (suc k) (rw d.2 whole));
      leads = λ b.
          let here : HintsLead live (opposite l ∷ falses) (d.0 ∷ d.1) = rw d.3 at b in
          let whole : HintsLead live falses (h ∷ d.0 ∷ d.1) = of_some (live h) c (λ c. (l : Lit) × IsUnit falses c l × HintsLead live (opposite l ∷ falses) (d.0 ∷ d.1)) is (l, unit, here) in
          ahead.leads (rw d.2 whole);
    }

break_here : (live : Live) (lits : Clause) (hints : List ℕ) (falses : List Lit) (i h : ℕ) → IsAhead live lits hints falses i → i + 1 < length hints → h ≡ get_or hints i 0 → (IsSomeAnd (live h) (λ c. (l : Lit) × IsUnit falses c l) → ⊥) → BreaksAt live lits hints (suc i)
break_here live lits hints falses i h ahead lt e no_unit =
    let d = drop_two hints i h lt e in
    let whole : BreaksAt live falses (h ∷ d.0 ∷ d.1) 1 = no_unit in
    let n : suc (i + 0) ≡ suc i = omega arith in
    subst (BreaksAt live lits hints) n (ahead.breaks 0 (rw d.2 whole))

pub break_none : (live : Live) (lits : Clause) (hints : List ℕ) (falses : List Lit) (i h : ℕ) → IsAhead live lits hints falses i → i + 1 < length hints → h ≡ get_or hints i 0 → live h ≡ None → BreaksAt live lits hints (suc i)
break_none live lits hints falses i h ahead lt e is = break_here live lits hints falses i h ahead lt e (λ s. none_of (live h) (λ c. (l : Lit) × IsUnit falses c l) is s)

pub break_unit : (live : Live) (lits : Clause) (hints : List ℕ) (falses : List Lit) (i h : ℕ) (c : Clause) → IsAhead live lits hints falses i → i + 1 < length hints → h ≡ get_or hints i 0 → live h ≡ Some c → ((l : Lit) → IsUnit falses c l → ⊥) → BreaksAt live lits hints (suc i)
break_unit live lits hints falses i h c ahead lt e is no_unit = break_here live lits hints falses i h ahead lt e (λ s. let u = some_of (live h) c (λ c. (l : Lit) × IsUnit falses c l) is s in no_unit u.0 u.1)

break_end : (live : Live) (lits : Clause) (hints : List ℕ) (falses : List Lit) (i h : ℕ) → IsAhead live lits hints falses i → i + 1 ≡ length hints → h ≡ get_or hints i 0 → (IsSomeAnd (live h) (AllFalse falses) → ⊥) → BreaksAt live lits hints (suc i)
break_end live lits hints falses i h ahead n e bad =
    let whole : BreaksAt live falses (h ∷ []) 1 = (refl, bad) in
    let m : suc (i + 0) ≡ suc i = omega arith in
    subst (BreaksAt live lits hints) m (ahead.breaks 0 (rw (drop_end hints i h n e) whole))

pub break_end_none : (live : Live) (lits : Clause) (hints : List ℕ) (falses : List Lit) (i h : ℕ) → IsAhead live lits hints falses i → i + 1 ≡ length hints → h ≡ get_or hints i 0 → live h ≡ None → BreaksAt live lits hints (suc i)
break_end_none live lits hints falses i h ahead n e is = break_end live lits hints falses i h ahead n e (none_of (live h) (AllFalse falses) is)

pub break_end_open : (live : Live) (lits : Clause) (hints : List ℕ) (falses : List Lit) (i h : ℕ) (c : Clause) → IsAhead live lits hints falses i → i + 1 ≡ length hints → h ≡ get_or hints i 0 → live h ≡ Some c → (AllFalse falses c → ⊥) → BreaksAt live lits hints (suc i)
break_end_open live lits hints falses i h c ahead n e is bad = break_end live lits hints falses i h ahead n e (λ s. bad (some_of (live h) c (AllFalse falses) is s))

pub lead_end : (live : Live) (lits : Clause) (hints : List ℕ) (falses : List Lit) (i h : ℕ) (c : Clause) → IsAhead live lits hints falses i → i + 1 ≡ length hints → h ≡ get_or hints i 0 → live h ≡ Some c → AllFalse falses c → HintsLead live lits hints
lead_end live lits hints falses i h c ahead n e is all = ahead.leads (rw (drop_end hints i h n e) (of_some (live h) c (AllFalse falses) is all))

-- ---- marks and false literals

pub false_from : (v : ℕ) (marks : List ℕ) (stamp : ℕ) (falses : List Lit) (c : Clause) → Represent v marks stamp falses → Within v c → AllMarked marks stamp c → AllFalse falses c
false_from v marks stamp falses c r w all m i = r.only m (w m i) (all m i)

pub marked_from : (v : ℕ) (marks : List ℕ) (stamp : ℕ) (falses : List Lit) (c : Clause) → Represent v marks stamp falses → Within v c → AllFalse falses c → AllMarked marks stamp c
marked_from v marks stamp falses c r w all m i = r.marked m (w m i) (all m i)

pub unit_from : (v : ℕ) (marks : List ℕ) (stamp : ℕ) (falses : List Lit) (c : Clause) (l : Lit) → Represent v marks stamp falses → Within v c → IsMarkedUnit marks stamp c l → IsUnit falses c l
unit_from v marks stamp falses c l r w u = record {
  holds = u.open_alone.holds;
  others = λ m i ne. r.only m (w m i) (u.open_alone.others m i ne);
  not_false = λ i. u.open_alone.not_false (r.marked l (w l u.open_alone.holds) i);
  not_true = λ i. u.not_true (r.marked (opposite l) (w l u.open_alone.holds) i);
}

pub unit_marked : (v : ℕ) (marks : List ℕ) (stamp : ℕ) (falses : List Lit) (c : Clause) (l : Lit) → Represent v marks stamp falses → Within v c → IsUnit falses c l → IsMarkedUnit marks stamp c l
unit_marked v marks stamp falses c l r w u = record {
  open_alone = record {
    holds = u.holds;
    others = λ m i ne. r.marked m (w m i) (u.others m i ne);
    not_false = λ k. u.not_false (r.only l (w l u.holds) k);
  };
  not_true = λ k. u.not_true (r.only (opposite l) (w l u.holds) k);
}

pub breaks_is : (v n : ℕ) (live : Live) (id : ℕ) (lits : Clause) (hints : List ℕ) (i h : ℕ) → IsProper v n id lits hints → BreaksAt live lits hints (suc i) → h ≡ suc i → Breaks v n live (Line.Add id lits hints) h
breaks_is v n live id lits hints i h p b e = rw e (p, b)
