-- A log as it is kept.
use Rattle.std.proofs.Common.{◌≡◌, ℕ, zero, suc, ◌+◌, ◌-◌, ◌<◌, ◌≤◌, true, false, List, [], ◌∷◌, ◌++◌, Option, Some, None, MatchOption, IsTrue, length, take, drop, slice_range, slice_index_or, refl, sym, ap, ap₂, ◌∙◌, subst, inl, inr, arith, length-append, length-drop}
use Rattle.std.proofs.lemmas.List.{append-nil, drop-append-le, take-append-le, length-take-le}
use Rattle.std.proofs.Math.Seq.{drop-append_seam}
use Rattle.std.proofs.lemmas.Bool.{cases_lt, eq-eqb, ne_eqb, lt-ltb, le-ltb}
use Rattle.clause_arena.specs.Clauses.{Lit}
use Rattle.proof_check.specs.declared.record.Record.{Record}
use Rattle.proof_check.specs.Lines.{Line, no_line, line_at, numbers, Rise, last_id, is_add_of, ArePositive, LinesPositive}
use Rattle.proof_check.specs.Records.{LogState, start, record_at, record_before, last_record, line_of, lines_from, IsStep, IsLaid, IsStored, IsLog}

range_append : {X : Type 0} (xs more : List X) (s e : ℕ) → s ≤ e → e ≤ length xs → slice_range (xs ++ more) s e ≡ slice_range xs s e
range_append {X} xs more s e p w =
    let a : s ≤ length xs = omega arith in
    let b : e - s ≤ length (drop s xs) = omega (arith, length-drop s xs) in
    ap (take (e - s)) (drop-append-le s xs more a) ∙ take-append-le (e - s) (drop s xs) more b

take_whole : {X : Type 0} (l : List X) → take (length l) l ≡ l
take_whole [] = refl
take_whole {X} (x ∷ l) = ap (λ (t : List X). x ∷ t) (take_whole l)

range_last : {X : Type 0} (xs more : List X) (s e : ℕ) → s ≡ length xs → e ≡ length xs + length more → slice_range (xs ++ more) s e ≡ more
range_last {X} xs more s e a b =
    let n : e - s ≡ length more = omega arith in
    let d : drop s (xs ++ more) ≡ more = rw a (drop-append_seam xs more) in
    rw (n, d) (take_whole more)

pub length_range : {X : Type 0} (xs : List X) (s e : ℕ) → s ≤ e → e ≤ length xs → length (slice_range xs s e) ≡ e - s
length_range {X} xs s e p w = length-take-le (e - s) (drop s xs) (omega (arith, length-drop s xs))

pub laid_ends : (l h : ℕ) (b : Record) (rs : List Record) → IsLaid l h b rs → (b.lits_end ≤ l) × (b.hints_end ≤ h)
laid_ends l h b [] laid = (omega (arith, laid.0), omega (arith, laid.1))
laid_ends l h b (r ∷ rs) laid = let t = laid_ends l h r rs laid.1 in (omega (arith, t.0, laid.0.lits), omega (arith, t.1, laid.0.hints))

line_more : (lits ml : List Lit) (hints mh : List ℕ) (b r : Record) → IsStep b r → r.lits_end ≤ length lits → r.hints_end ≤ length hints → line_of (lits ++ ml) (hints ++ mh) b r ≡ line_of lits hints b r
line_more lits ml hints mh b r step l h =
    rw (range_append lits ml b.lits_end r.lits_end step.lits l, range_append hints mh b.hints_end r.hints_end step.hints h) refl

pub lines_more : (lits ml : List Lit) (hints mh : List ℕ) (b : Record) (rs : List Record) → IsLaid (length lits) (length hints) b rs → lines_from (lits ++ ml) (hints ++ mh) b rs ≡ lines_from lits hints b rs
lines_more lits ml hints mh b [] laid = refl
lines_more lits ml hints mh b (r ∷ rs) laid =
    let e = laid_ends (length lits) (length hints) r rs laid.1 in
    ap₂ (λ (x : Line) (xs : List Line). x ∷ xs) (line_more lits ml hints mh b r laid.0 e.0 e.1) (lines_more lits ml hints mh r rs laid.1)

pub lines_push : (lits : List Lit) (hints : List ℕ) (b : Record) (rs : List Record) (r : Record) → lines_from lits hints b (rs ++ r ∷ []) ≡ lines_from lits hints b rs ++ line_of lits hints (last_record b rs) r ∷ []
lines_push lits hints b [] r = refl
lines_push lits hints b (x ∷ rs) r = ap (λ (t : List Line). line_of lits hints b x ∷ t) (lines_push lits hints x rs r)

pub laid_push : (l h : ℕ) (b : Record) (rs : List Record) (r : Record) → IsLaid l h b rs → IsStep (last_record b rs) r → IsLaid r.lits_end r.hints_end b (rs ++ r ∷ [])
laid_push l h b [] r laid step = (step, (refl, refl))
laid_push l h b (x ∷ rs) r laid step = (laid.0, laid_push l h x rs r laid.1 step)

pub laid_last : (l h : ℕ) (b : Record) (rs : List Record) → IsLaid l h b rs → ((last_record b rs).lits_end ≡ l) × ((last_record b rs).hints_end ≡ h)
laid_last l h b [] laid = laid
laid_last l h b (r ∷ rs) laid = laid_last l h r rs laid.1

-- cases on which kind of line a record ends
line_cases : (lits : List Lit) (hints : List ℕ) (b r : Record) (P : Line → Type 0) → (b.id < r.id → P (Line.Add r.id (slice_range lits b.lits_end r.lits_end) (slice_range hints b.hints_end r.hints_end))) → (r.id ≤ b.id → P (Line.Del (slice_range hints b.hints_end r.hints_end))) → P (line_of lits hints b r)
line_cases lits hints b r P add del = elim (cases_lt b.id r.id) [
  | inl lt ↦ rw (lt-ltb b.id r.id lt) (add lt)
  | inr le ↦ rw (le-ltb b.id r.id le) (del le)
]

pub laid_rise : (lits : List Lit) (hints : List ℕ) (l h : ℕ) (b : Record) (rs : List Record) → IsLaid l h b rs → Rise b.id (lines_from lits hints b rs)
laid_rise lits hints l h b [] laid = tt
laid_rise lits hints l h b (r ∷ rs) laid =
    let rest = laid_rise lits hints l h r rs laid.1 in
    line_cases lits hints b r (λ line. Rise b.id (line ∷ lines_from lits hints r rs)) (λ lt. (lt, rest)) (λ le. let same : r.id ≡ b.id = omega (arith, le, laid.0.ids) in subst (λ (i : ℕ). Rise i (lines_from lits hints r rs)) same rest)

pub last_id_is : (lits : List Lit) (hints : List ℕ) (l h : ℕ) (b : Record) (rs : List Record) → IsLaid l h b rs → last_id b.id (lines_from lits hints b rs) ≡ (last_record b rs).id
last_id_is lits hints l h b [] laid = refl
last_id_is lits hints l h b (r ∷ rs) laid =
    let rest = last_id_is lits hints l h r rs laid.1 in
    line_cases lits hints b r (λ line. last_id b.id (line ∷ lines_from lits hints r rs) ≡ (last_record r rs).id) (λ lt. rest) (λ le. let same : r.id ≡ b.id = omega (arith, le, laid.0.ids) in subst (λ (i : ℕ). last_id i (lines_from lits hints r rs) ≡ (last_record r rs).id) same rest)

positive_drop : (n : ℕ) (ns : List ℕ) → ArePositive ns → ArePositive (drop n ns)
positive_drop zero ns h = h
positive_drop (suc n) [] h = tt
positive_drop (suc n) (x ∷ ns) h = positive_drop n ns h.1

positive_take : (n : ℕ) (ns : List ℕ) → ArePositive ns → ArePositive (take n ns)
positive_take zero ns h = tt
positive_take (suc n) [] h = tt
positive_take (suc n) (x ∷ ns) h = (h.0, positive_take n ns h.1)

pub positive_append : (ms ns : List ℕ) → ArePositive ms → ArePositive ns → ArePositive (ms ++ ns)
positive_append [] ns hm hn = hn
positive_append (m ∷ ms) ns hm hn = (hm.0, positive_append ms ns hm.1 hn)

pub lines_positive : (lits : List Lit) (hints : List ℕ) (b : Record) (rs : List Record) → ArePositive hints → LinesPositive (lines_from lits hints b rs)
lines_positive lits hints b [] h = tt
lines_positive lits hints b (r ∷ rs) h =
    let here = positive_take (r.hints_end - b.hints_end) (drop b.hints_end hints) (positive_drop b.hints_end hints h) in
    line_cases lits hints b r (λ line. LinesPositive (line ∷ lines_from lits hints r rs)) (λ lt. (here, lines_positive lits hints r rs h)) (λ le. (here, lines_positive lits hints r rs h))

pub length_lines : (lits : List Lit) (hints : List ℕ) (b : Record) (rs : List Record) → length (lines_from lits hints b rs) ≡ length rs
length_lines lits hints b [] = refl
length_lines lits hints b (r ∷ rs) = ap suc (length_lines lits hints r rs)

pub numbers_is : (lits : List Lit) (hints : List ℕ) (b : Record) (rs : List Record) → IsLaid (length lits) (length hints) b rs → numbers (lines_from lits hints b rs) + (b.lits_end + b.hints_end) ≡ length lits + length hints
numbers_is lits hints b [] laid = omega (arith, laid.0, laid.1)
numbers_is lits hints b (r ∷ rs) laid =
    let rest = numbers_is lits hints r rs laid.1 in
    let e = laid_ends (length lits) (length hints) r rs laid.1 in
    let nl = length_range lits b.lits_end r.lits_end laid.0.lits e.0 in
    let nh = length_range hints b.hints_end r.hints_end laid.0.hints e.1 in
    line_cases lits hints b r (λ line. numbers (line ∷ lines_from lits hints r rs) + (b.lits_end + b.hints_end) ≡ length lits + length hints)
    (λ lt. omega (arith, rest, nl, nh, laid.0.lits, laid.0.hints))
    (λ le. omega (arith, rest, nh, laid.0.hints, laid.0.deletion le))

pub line_get : (lits : List Lit) (hints : List ℕ) (b : Record) (rs : List Record) (k : ℕ) → k < length rs → line_at (lines_from lits hints b rs) k ≡ line_of lits hints (record_before b rs k) (record_at rs k)
line_get lits hints b [] k lt = absurd (omega (arith, lt))
line_get lits hints b (r ∷ rs) zero lt = refl
line_get lits hints b (r ∷ rs) (suc zero) lt = line_get lits hints r rs zero (omega (arith, lt))
line_get lits hints b (r ∷ rs) (suc (suc k)) lt = line_get lits hints r rs (suc k) (omega (arith, lt))

pub laid_at : (l h : ℕ) (b : Record) (rs : List Record) (k : ℕ) → IsLaid l h b rs → k < length rs → IsStep (record_before b rs k) (record_at rs k) × ((record_at rs k).lits_end ≤ l) × ((record_at rs k).hints_end ≤ h)
laid_at l h b [] k laid lt = absurd (omega (arith, lt))
laid_at l h b (r ∷ rs) zero laid lt = let e = laid_ends l h r rs laid.1 in (laid.0, e.0, e.1)
laid_at l h b (r ∷ rs) (suc zero) laid lt = laid_at l h r rs zero laid.1 (omega (arith, lt))
laid_at l h b (r ∷ rs) (suc (suc k)) laid lt = laid_at l h r rs (suc k) laid.1 (omega (arith, lt))

-- the ids of the records never fall
pub before_below : (l h : ℕ) (b : Record) (rs : List Record) (k : ℕ) → IsLaid l h b rs → k < length rs → b.id ≤ (record_at rs k).id
before_below l h b [] k laid lt = absurd (omega (arith, lt))
before_below l h b (r ∷ rs) zero laid lt = laid.0.ids
before_below l h b (r ∷ rs) (suc k) laid lt = omega (arith, laid.0.ids, before_below l h r rs k laid.1 (omega (arith, lt)))

pub ids_rise : (l h : ℕ) (b : Record) (rs : List Record) (j k : ℕ) → IsLaid l h b rs → j ≤ k → k < length rs → (record_at rs j).id ≤ (record_at rs k).id
ids_rise l h b [] j k laid le lt = absurd (omega (arith, lt))
ids_rise l h b (r ∷ rs) zero zero laid le lt = omega arith
ids_rise l h b (r ∷ rs) zero (suc k) laid le lt = before_below l h r rs k laid.1 (omega (arith, lt))
ids_rise l h b (r ∷ rs) (suc j) zero laid le lt = absurd (omega (arith, le))
ids_rise l h b (r ∷ rs) (suc j) (suc k) laid le lt = ids_rise l h r rs j k laid.1 (omega (arith, le)) (omega (arith, lt))

pub any_default : {X : Type 0} (xs : List X) (k : ℕ) (a b : X) → k < length xs → slice_index_or xs k a ≡ slice_index_or xs k b
any_default [] k a b lt = absurd (omega (arith, lt))
any_default (x ∷ xs) zero a b lt = refl
any_default (x ∷ xs) (suc k) a b lt = any_default xs k a b (omega (arith, lt))

-- what is known of a record that was read, and of the one before it
pub record LineFacts (lits : List Lit) (hints : List ℕ) (line : Line) (p q : Record) : Type 0 where
  pub step : IsStep p q
  pub in_lits : q.lits_end ≤ length lits
  pub in_hints : q.hints_end ≤ length hints
  pub is : line_of lits hints p q ≡ line

pub line_facts : (first : ℕ) (lits : List Lit) (hints : List ℕ) (rs : List Record) (lines : List Line) (k : ℕ) (p q : Record) → IsStored first lits hints rs → lines_from lits hints (start first) rs ≡ lines → k < length lines → p ≡ record_before (start first) rs k → q ≡ slice_index_or rs k q → LineFacts lits hints (line_at lines k) p q
line_facts first lits hints rs lines k p q stored is lt e d =
    let n : k < length rs = omega (arith, lt, ap length is, length_lines lits hints (start first) rs) in
    let at = laid_at (length lits) (length hints) (start first) rs k stored.laid n in
    let f : q ≡ record_at rs k = d ∙ any_default rs k q (start 0) n in
    rw (e, f) (record { step = at.0; in_lits = at.1; in_hints = at.2; is = sym (line_get lits hints (start first) rs k n) ∙ ap (λ (l : List Line). line_at l k) is })

pub stored_len : (first : ℕ) (lits : List Lit) (hints : List ℕ) (rs : List Record) (lines : List Line) → lines_from lits hints (start first) rs ≡ lines → length rs ≡ length lines
stored_len first lits hints rs lines is = sym (length_lines lits hints (start first) rs) ∙ ap length is

pub stored_numbers : (first : ℕ) (lits : List Lit) (hints : List ℕ) (rs : List Record) (lines : List Line) → IsStored first lits hints rs → lines_from lits hints (start first) rs ≡ lines → length lits + length hints ≡ numbers lines
stored_numbers first lits hints rs lines stored is = omega (arith, numbers_is lits hints (start first) rs stored.laid, ap numbers is)

pub stored_log : (first : ℕ) (lits : List Lit) (hints : List ℕ) (rs : List Record) (log : LogState) → IsStored first lits hints rs → lines_from lits hints (start first) rs ≡ log.lines → first ≡ log.first → IsLog log
stored_log first lits hints rs log stored is e = record {
  rise = subst (λ (n : ℕ). Rise n log.lines) e (subst (Rise first) is (laid_rise lits hints (length lits) (length hints) (start first) rs stored.laid));
  positive = subst LinesPositive is (lines_positive lits hints (start first) rs stored.positive);
  few = omega (arith, stored.few, stored_len first lits hints rs log.lines is);
  first_fits = omega (arith, stored.first_fits, e);
}

-- one more record
pub pushed_lines : (first : ℕ) (lits ml : List Lit) (hints mh : List ℕ) (rs : List Record) (r : Record) (lines : List Line) (line : Line) → IsStored first lits hints rs → lines_from lits hints (start first) rs ≡ lines → line_of (lits ++ ml) (hints ++ mh) (last_record (start first) rs) r ≡ line
    → lines_from (lits ++ ml) (hints ++ mh) (start first) (rs ++ r ∷ []) ≡ lines ++ line ∷ []
pushed_lines first lits ml hints mh rs r lines line stored is e =
    lines_push (lits ++ ml) (hints ++ mh) (start first) rs r ∙ ap₂ (λ (x : List Line) (y : Line). x ++ y ∷ []) (lines_more lits ml hints mh (start first) rs stored.laid ∙ is) e

last_of : (first : ℕ) (lits : List Lit) (hints : List ℕ) (rs : List Record) (lines : List Line) → IsStored first lits hints rs → lines_from lits hints (start first) rs ≡ lines → (last_record (start first) rs).id ≡ last_id first lines
last_of first lits hints rs lines stored is = sym (last_id_is lits hints (length lits) (length hints) (start first) rs stored.laid) ∙ ap (last_id first) is

pub pushed_add : (first : ℕ) (lits ml : List Lit) (hints mh : List ℕ) (rs : List Record) (r : Record) (lines : List Line) → IsStored first lits hints rs → lines_from lits hints (start first) rs ≡ lines → last_id first lines < r.id → r.lits_end ≡ length lits + length ml → r.hints_end ≡ length hints + length mh
    → lines_from (lits ++ ml) (hints ++ mh) (start first) (rs ++ r ∷ []) ≡ lines ++ Line.Add r.id ml mh ∷ []
pushed_add first lits ml hints mh rs r lines stored is above el eh =
    let b = last_record (start first) rs in
    let ends = laid_last (length lits) (length hints) (start first) rs stored.laid in
    let lt : b.id < r.id = omega (arith, above, last_of first lits hints rs lines stored is) in
    pushed_lines first lits ml hints mh rs r lines _ stored is (rw (lt-ltb b.id r.id lt, range_last lits ml b.lits_end r.lits_end ends.0 el, range_last hints mh b.hints_end r.hints_end ends.1 eh) refl)

pub stored_add : (first : ℕ) (lits ml : List Lit) (hints mh : List ℕ) (rs : List Record) (r : Record) (lines : List Line) → IsStored first lits hints rs → lines_from lits hints (start first) rs ≡ lines → last_id first lines < r.id → r.lits_end ≡ length lits + length ml → r.hints_end ≡ length hints + length mh
    → ArePositive mh → length rs + 1 < 4294967295 → length lits + length hints + (length ml + length mh) < 4294967295 → IsStored first (lits ++ ml) (hints ++ mh) (rs ++ r ∷ [])
stored_add first lits ml hints mh rs r lines stored is above el eh positive few few_numbers =
    let b = last_record (start first) rs in
    let ends = laid_last (length lits) (length hints) (start first) rs stored.laid in
    let lt : b.id < r.id = omega (arith, above, last_of first lits hints rs lines stored is) in
    let step : IsStep b r = record { ids = omega arith; lits = omega (arith, el, ends.0); hints = omega (arith, eh, ends.1); deletion = λ le. absurd (omega (arith, le, lt)) } in
    let laid : IsLaid r.lits_end r.hints_end (start first) (rs ++ r ∷ []) = laid_push (length lits) (length hints) (start first) rs r stored.laid step in
    let el2 : r.lits_end ≡ length (lits ++ ml) = omega (arith, el, length-append lits ml) in
    let eh2 : r.hints_end ≡ length (hints ++ mh) = omega (arith, eh, length-append hints mh) in
    record {
      laid = subst (λ (l : ℕ). IsLaid l (length (hints ++ mh)) (start first) (rs ++ r ∷ [])) el2 (subst (λ (h : ℕ). IsLaid r.lits_end h (start first) (rs ++ r ∷ [])) eh2 laid);
      positive = positive_append hints mh stored.positive positive;
      few = omega (arith, few, length-append rs (r ∷ []));
      few_numbers = omega (arith, few_numbers, length-append lits ml, length-append hints mh);
      first_fits = stored.first_fits;
    }

pub pushed_del : (first : ℕ) (lits : List Lit) (hints mh : List ℕ) (rs : List Record) (r : Record) (lines : List Line) → IsStored first lits hints rs → lines_from lits hints (start first) rs ≡ lines → r.id ≡ (last_record (start first) rs).id → r.lits_end ≡ (last_record (start first) rs).lits_end → r.hints_end ≡ length hints + length mh
    → lines_from lits (hints ++ mh) (start first) (rs ++ r ∷ []) ≡ lines ++ Line.Del mh ∷ []
pushed_del first lits hints mh rs r lines stored is ei el eh =
    let b = last_record (start first) rs in
    let ends = laid_last (length lits) (length hints) (start first) rs stored.laid in
    subst (λ (l : List Lit). lines_from l (hints ++ mh) (start first) (rs ++ r ∷ []) ≡ lines ++ Line.Del mh ∷ []) (append-nil lits)
    (pushed_lines first lits [] hints mh rs r lines _ stored is (rw (le-ltb b.id r.id (omega (arith, ei)), range_last hints mh b.hints_end r.hints_end ends.1 eh) refl))

pub stored_del : (first : ℕ) (lits : List Lit) (hints mh : List ℕ) (rs : List Record) (r : Record) (lines : List Line) → IsStored first lits hints rs → lines_from lits hints (start first) rs ≡ lines → r.id ≡ (last_record (start first) rs).id → r.lits_end ≡ (last_record (start first) rs).lits_end → r.hints_end ≡ length hints + length mh
    → ArePositive mh → length rs + 1 < 4294967295 → length lits + length hints + length mh < 4294967295 → IsStored first lits (hints ++ mh) (rs ++ r ∷ [])
stored_del first lits hints mh rs r lines stored is ei el eh positive few few_numbers =
    let b = last_record (start first) rs in
    let ends = laid_last (length lits) (length hints) (start first) rs stored.laid in
    let step : IsStep b r = record { ids = omega (arith, ei); lits = omega (arith, el); hints = omega (arith, eh, ends.1); deletion = λ le. sym el } in
    let laid : IsLaid r.lits_end r.hints_end (start first) (rs ++ r ∷ []) = laid_push (length lits) (length hints) (start first) rs r stored.laid step in
    let el2 : r.lits_end ≡ length lits = omega (arith, el, ends.0) in
    let eh2 : r.hints_end ≡ length (hints ++ mh) = omega (arith, eh, length-append hints mh) in
    record {
      laid = subst (λ (l : ℕ). IsLaid l (length (hints ++ mh)) (start first) (rs ++ r ∷ [])) el2 (subst (λ (h : ℕ). IsLaid r.lits_end h (start first) (rs ++ r ∷ [])) eh2 laid);
      positive = positive_append hints mh stored.positive positive;
      few = omega (arith, few, length-append rs (r ∷ []));
      few_numbers = omega (arith, few_numbers, length-append hints mh);
      first_fits = stored.first_fits;
    }

pub last_is_before : (b : Record) (rs : List Record) → record_before b rs (length rs) ≡ last_record b rs
last_is_before b [] = refl
last_is_before b (r ∷ []) = refl
last_is_before b (r ∷ x ∷ rs) = last_is_before r (x ∷ rs)

pub place_is : (first : ℕ) (lits : List Lit) (hints : List ℕ) (rs : List Record) (lines : List Line) (id k : ℕ) → lines_from lits hints (start first) rs ≡ lines → k < length rs → (record_before (start first) rs k).id < id → (record_at rs k).id ≡ id → is_add_of id (line_at lines k) ≡ true
place_is first lits hints rs lines id k is lt above same =
    let at : line_at lines k ≡ line_of lits hints (record_before (start first) rs k) (record_at rs k) = ap (λ (l : List Line). line_at l k) (sym is) ∙ line_get lits hints (start first) rs k lt in
    rw (at, lt-ltb (record_before (start first) rs k).id (record_at rs k).id (omega (arith, above, same))) (eq-eqb _ _ same)

pub place_none : (first : ℕ) (lits : List Lit) (hints : List ℕ) (rs : List Record) (lines : List Line) (id : ℕ) → lines_from lits hints (start first) rs ≡ lines → ((k : ℕ) → k < length rs → (record_before (start first) rs k).id < id → (record_at rs k).id ≡ id → ⊥) → (k : ℕ) → is_add_of id (line_at lines k) ≡ false
place_none first lits hints rs lines id is none k = elim (cases_lt k (length rs)) [
  | inl lt ↦
      let at : line_at lines k ≡ line_of lits hints (record_before (start first) rs k) (record_at rs k) = ap (λ (l : List Line). line_at l k) (sym is) ∙ line_get lits hints (start first) rs k lt in
      rw at (line_cases lits hints (record_before (start first) rs k) (record_at rs k) (λ line. is_add_of id line ≡ false) (λ above. ne_eqb _ _ (λ same. none k lt (omega (arith, above, same)) same)) (λ le. refl))
  | inr ge ↦ rw (past lines k (omega (arith, ge, stored_len first lits hints rs lines is))) refl
]
  where
    past : (lines : List Line) (k : ℕ) → length lines ≤ k → line_at lines k ≡ no_line
    past [] k le = refl
    past (x ∷ lines) zero le = absurd (omega (arith, le))
    past (x ∷ lines) (suc k) le = past lines k (omega (arith, le))

pub place_match : (first : ℕ) (lits : List Lit) (hints : List ℕ) (rs all : List Record) (lines : List Line) (id : ℕ) → lines_from lits hints (start first) rs ≡ lines → all ≡ rs → (o : Option ℕ)
    → MatchOption o ((k : ℕ) → k < length all → (record_before (start first) all k).id < id → (record_at all k).id ≡ id → ⊥) (λ k. (k < length all) × ((record_before (start first) all k).id < id) × ((record_at all k).id ≡ id))
    → MatchOption o ((k : ℕ) → is_add_of id (line_at lines k) ≡ false) (λ k. (k < length lines) × IsTrue (is_add_of id (line_at lines k)))
place_match first lits hints rs all lines id is e None h = place_none first lits hints rs lines id is (rw e at h)
place_match first lits hints rs all lines id is e (Some k) h =
    let g = rw e at h in (omega (arith, g.0, stored_len first lits hints rs lines is), place_is first lits hints rs lines id k is g.0 g.1 g.2)
