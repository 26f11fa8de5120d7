-- The trail without the entries of higher levels.
use Rattle.std.proofs.Common.{◌≡◌, ◌≢◌, ℕ, ◌+◌, ◌*◌, ◌<◌, ◌≤◌, List, [], ◌∷◌, ◌++◌, map, take, drop, length, sum_by, slice_index_or, slice_set, refl, sym, ap, ◌∙◌, subst, inl, inr, arith, length-append, length-set, length-drop, get_or-set_other, get_or-set_same, get_or-take}
use Rattle.std.proofs.lemmas.List.{length-map, length-take-le, get_or-drop, map-append, take-append-drop, get_or-map}
use Rattle.std.proofs.lemmas.List.Sums.{sum_by-set}
use Rattle.std.proofs.lemmas.Bool.{cases_lt}
use Rattle.clause_arena.specs.Clauses.{Lit, opposite, In}
use Rattle.sat_trail.specs.Trails.{Entry, TrailState, entry_at, no_entry, IsTrail, IsCutTo, lit_at, no_lit}
use Rattle.clause_arena.specs.Lits.{code_of}
use Rattle.sat_trail.specs.declared.info.Info.{Info}
use Rattle.sat_trail.specs.declared.value.Value.{Value}
use Rattle.sat_trail.specs.declared.value.Value.TheVariants.{Open, True, False}
use Rattle.sat_trail.specs.Kept.{IsKept, entry_of, entries_of, value_at, one_if_open}
use Rattle.sat_trail.proofs.TrailLemmas.{SignsAt, entry_is, lit_before, lit_last}
use Rattle.sat_trail.proofs.LitLemmas.{same_var, code_var, code_other, code_fits}

-- what the values say, of the literals that are left
pub record IsPart (lits : List Lit) (values : List Value) (infos : List Info) : Type 0 where
  pub same : length values ≡ 2 * length infos + 2
  pub count : sum_by one_if_open values + 2 * length lits ≡ 2 * length infos
  pub signs : (p : ℕ) → p < length lits → SignsAt values infos (lit_at lits p)
  pub backed_true : (l : Lit) → 0 < l.var → l.var ≤ length infos → value_at values l ≡ True → In l lits
  pub backed_false : (l : Lit) → 0 < l.var → l.var ≤ length infos → value_at values l ≡ False → In (opposite l) lits
  pub distinct : (p q : ℕ) → p < q → q < length lits → (lit_at lits p).var ≢ (lit_at lits q).var

pub part_of : (lits : List Lit) (values : List Value) (infos : List Info) (starts : List ℕ) (given room_lits room_starts : ℕ) → IsKept lits values infos starts given room_lits room_starts → IsPart lits values infos
part_of lits values infos starts given room_lits room_starts kept = record { same = kept.same; count = kept.count; signs = kept.signs; backed_true = kept.backed_true; backed_false = kept.backed_false; distinct = kept.distinct }

in_before : (lits : List Lit) (l m : Lit) → m ≢ l → In m (lits ++ l ∷ []) → In m lits
in_before [] l m ne (inl e) = ne e
in_before [] l m ne (inr i) = i
in_before (x ∷ lits) l m ne (inl e) = inl e
in_before (x ∷ lits) l m ne (inr i) = inr (in_before lits l m ne i)

abbrev pub cleared : List Value → Lit → List Value
cleared values l = slice_set (slice_set values (code_of l) Open) (code_of (opposite l)) Open

module _ (lits : List Lit) (l : Lit) (values : List Value) (infos : List Info) (part : IsPart (lits ++ l ∷ []) values infos) where
  last_low : length lits < length (lits ++ l ∷ [])
  last_low = omega (arith, length-append lits (l ∷ []))

  here : SignsAt values infos l
  here = subst (SignsAt values infos) (lit_last lits l (length lits) refl) (part.signs (length lits) last_low)

  lengths : length (cleared values l) ≡ length values
  lengths = length-set (slice_set values (code_of l) Open) (code_of (opposite l)) Open ∙ length-set values (code_of l) Open

  here_lt : code_of l < length values
  here_lt = omega (arith, code_fits l (length infos) here.1, part.same)

  there_lt : code_of (opposite l) < length values
  there_lt = omega (arith, code_fits (opposite l) (length infos) here.1, part.same)

  open_here : value_at (cleared values l) l ≡ Open
  open_here = get_or-set_other (slice_set values (code_of l) Open) (code_of (opposite l)) (code_of l) Open Open (code_other l) ∙ get_or-set_same values (code_of l) Open Open here_lt

  open_there : value_at (cleared values l) (opposite l) ≡ Open
  open_there = get_or-set_same (slice_set values (code_of l) Open) (code_of (opposite l)) Open Open (omega (arith, there_lt, length-set values (code_of l) Open))

  value_old : (m : Lit) → m.var ≢ l.var → value_at (cleared values l) m ≡ value_at values m
  value_old m ne = get_or-set_other (slice_set values (code_of l) Open) (code_of (opposite l)) (code_of m) Open Open (λ e. ne (code_var m (opposite l) e)) ∙ get_or-set_other values (code_of l) (code_of m) Open Open (λ e. ne (code_var m l e))

  sums : sum_by one_if_open (cleared values l) ≡ sum_by one_if_open values + 2
  sums =
      let between : slice_index_or (slice_set values (code_of l) Open) (code_of (opposite l)) Open ≡ False = get_or-set_other values (code_of l) (code_of (opposite l)) Open Open (λ e. code_other l (sym e)) ∙ here.3 in
      omega (arith, sum_by-set one_if_open values (code_of l) Open Open here_lt, sum_by-set one_if_open (slice_set values (code_of l) Open) (code_of (opposite l)) Open Open (omega (arith, there_lt, length-set values (code_of l) Open)), ap one_if_open here.2, ap one_if_open between)

  old_var : (p : ℕ) → p < length lits → (lit_at lits p).var ≢ l.var
  old_var p pl = let d = part.distinct p (length lits) pl last_low in λ e. d (ap (λ (q : Lit). q.var) (lit_before lits l p pl) ∙ e ∙ sym (ap (λ (q : Lit). q.var) (lit_last lits l (length lits) refl)))

  not_cleared : (m : Lit) (v : Value) → v ≢ Open → value_at (cleared values l) m ≡ v → m.var ≢ l.var
  not_cleared m v ne e same = elim (same_var m l same) [
    | inl is ↦ ne (sym e ∙ ap (value_at (cleared values l)) is ∙ open_here)
    | inr other ↦ ne (sym e ∙ ap (value_at (cleared values l)) other ∙ open_there)
  ]

  pub pop_part : IsPart lits (cleared values l) infos
  pop_part = record {
    same = lengths ∙ part.same;
    count = omega (arith, sums, part.count, length-append lits (l ∷ []));
    signs = λ p pl.
        let old = subst (SignsAt values infos) (lit_before lits l p pl) (part.signs p (omega (arith, pl, last_low))) in
        (old.0, old.1, value_old (lit_at lits p) (old_var p pl) ∙ old.2, value_old (opposite (lit_at lits p)) (old_var p pl) ∙ old.3);
    backed_true = λ m pos fits e.
        let ne = not_cleared m True (λ q. let no : True ≡ Open = q in cc) e in
        in_before lits l m (λ q. ne (ap (λ (n : Lit). n.var) q)) (part.backed_true m pos fits (sym (value_old m ne) ∙ e));
    backed_false = λ m pos fits e.
        let ne = not_cleared m False (λ q. let no : False ≡ Open = q in cc) e in
        in_before lits l (opposite m) (λ q. ne (ap (λ (n : Lit). n.var) q)) (part.backed_false m pos fits (sym (value_old m ne) ∙ e));
    distinct = λ p q pq ql.
        let d = part.distinct p q pq (omega (arith, ql, last_low)) in
        λ e. d (ap (λ (n : Lit). n.var) (lit_before lits l p (omega (arith, pq, ql))) ∙ e ∙ sym (ap (λ (n : Lit). n.var) (lit_before lits l q ql)));
  }

-- the cut at the place where the next level starts
module _ (lits : List Lit) (values : List Value) (infos : List Info) (starts : List ℕ) (given room_lits room_starts : ℕ) (kept : IsKept lits values infos starts given room_lits room_starts) (level start : ℕ) (below : level < length starts) (is_start : start ≡ slice_index_or starts level 0) where
  start_in : start ≤ length lits
  start_in = rw is_start (kept.cuts level below)

  taken : length (take start lits) ≡ start
  taken = length-take-le start lits start_in

  starts_taken : length (take level starts) ≡ level
  starts_taken = length-take-le level starts (omega (arith, below))

  lit_taken : (p : ℕ) → p < start → lit_at (take start lits) p ≡ lit_at lits p
  lit_taken p l = get_or-take start lits p no_lit l

  start_taken : (k : ℕ) → k < level → slice_index_or (take level starts) k 0 ≡ slice_index_or starts k 0
  start_taken k l = get_or-take level starts k 0 l

  -- an earlier level starts no later
  ordered : (k : ℕ) → k < level → slice_index_or starts k 0 ≤ start
  ordered k l = elim (cases_lt start (slice_index_or starts k 0)) [
    | inl late ↦
        let in_lits : start < length lits = omega (arith, late, kept.cuts k (omega (arith, l, below))) in
        let low = kept.cut_low k start (omega (arith, l, below)) late in
        let high = kept.cut_high level start below (omega (arith, is_start)) in_lits in
        absurd (omega (arith, low, high, l))
    | inr fine ↦ fine
  ]

  pub kept_cut : (values2 : List Value) (given2 : ℕ) → IsPart (take start lits) values2 infos → given2 ≤ start → IsKept (take start lits) values2 infos (take level starts) given2 room_lits room_starts
  kept_cut values2 given2 part low = record {
    same = part.same;
    few = kept.few;
    count = part.count;
    signs = part.signs;
    backed_true = part.backed_true;
    backed_false = part.backed_false;
    distinct = part.distinct;
    below = λ p h. let pl : p < start = omega (arith, h, taken) in rw (lit_taken p pl) (omega (arith, kept.cut_low level p below (omega (arith, pl, is_start)), starts_taken));
    cuts = λ k h. let kl : k < level = omega (arith, h, starts_taken) in rw (start_taken k kl) (omega (arith, ordered k kl, taken));
    cut_low = λ k p h lt.
        let kl : k < level = omega (arith, h, starts_taken) in
        let lt2 : p < slice_index_or starts k 0 = (let x = rw (start_taken k kl) at lt in x) in
        let pl : p < start = omega (arith, lt2, ordered k kl) in
        rw (lit_taken p pl) (kept.cut_low k p (omega (arith, kl, below)) lt2);
    cut_high = λ k p h le pl.
        let kl : k < level = omega (arith, h, starts_taken) in
        let le2 : slice_index_or starts k 0 ≤ p = (let x = rw (start_taken k kl) at le in x) in
        let ps : p < start = omega (arith, pl, taken) in
        rw (lit_taken p ps) (kept.cut_high k p (omega (arith, kl, below)) le2 (omega (arith, ps, start_in)));
    levels = omega (arith, starts_taken, taken, kept.rising level below, is_start);
    rising = λ k h. let kl : k < level = omega (arith, h, starts_taken) in rw (start_taken k kl) (kept.rising k (omega (arith, kl, below)));
    given_in = omega (arith, low, taken);
    room_of_lits = kept.room_of_lits;
    room_of_starts = kept.room_of_starts;
  }

  entry_low : (p : ℕ) → p < start → entry_at (entries_of (take start lits) infos) p ≡ entry_of infos (lit_at lits p)
  entry_low p l = get_or-map (entry_of infos) (take start lits) p no_lit no_entry (omega (arith, l, taken)) ∙ ap (entry_of infos) (lit_taken p l)

  entry_rest : (p : ℕ) → p < length (drop start lits) → entry_at (map (entry_of infos) (drop start lits)) p ≡ entry_of infos (lit_at lits (start + p))
  entry_rest p l = get_or-map (entry_of infos) (drop start lits) p no_lit no_entry l ∙ ap (entry_of infos) (get_or-drop start lits p no_lit)

  pub cut_to : (given2 : ℕ) → given2 ≤ given → (given ≤ start → given2 ≡ given) → (start ≤ given → given2 ≡ start) →
      IsCutTo (record { entries = entries_of lits infos; level = length starts; given = given; variables = length infos }) (record { entries = entries_of (take start lits) infos; level = length (take level starts); given = given2; variables = length infos }) level
  cut_to given2 low whole cut =
      let size : length (entries_of (take start lits) infos) ≡ start = length-map (take start lits) (entry_of infos) ∙ taken in
      record {
        rest = map (entry_of infos) (drop start lits);
        split = sym rejoin;
        low = λ p h. let pl : p < start = omega (arith, h, size) in rw (entry_low p pl) (kept.cut_low level p below (omega (arith, pl, is_start)));
        high = λ p h.
            let pl : p < length (drop start lits) = omega (arith, h, length-map (drop start lits) (entry_of infos)) in
            rw (entry_rest p pl) (kept.cut_high level (start + p) below (omega (arith, is_start)) (omega (arith, pl, length-drop start lits)));
        level_is = starts_taken;
        given_first = low;
        given_is = (λ h. whole (omega (arith, h, size)), λ h. cut (omega (arith, h, size)) ∙ sym size);
        variables = refl;
      }
    where
      rejoin : map (entry_of infos) (take start lits) ++ map (entry_of infos) (drop start lits) ≡ entries_of lits infos
      rejoin = sym (map-append (entry_of infos) (take start lits) (drop start lits)) ∙ ap (map (entry_of infos)) (take-append-drop start lits)

-- the same by what the code leaves
module _ (lits lits2 : List Lit) (values values2 : List Value) (infos infos2 : List Info) (starts starts2 : List ℕ) (given room_lits room_starts room_lits2 room_starts2 : ℕ) (kept : IsKept lits values infos starts given room_lits room_starts) (level start : ℕ) (below : level < length starts) (is_start : start ≡ slice_index_or starts level 0)
    (lits_is : lits2 ≡ take start lits) (infos_is : infos2 ≡ infos) (starts_is : starts2 ≡ take level starts) (part : IsPart lits2 values2 infos2) where
  pub kept_by : (given2 : ℕ) → given2 ≤ start → room_lits2 ≡ room_lits → room_starts2 ≡ room_starts → IsKept lits2 values2 infos2 starts2 given2 room_lits2 room_starts2
  kept_by given2 low a b = rw (lits_is, infos_is, starts_is, a, b) (kept_cut lits values infos starts given room_lits room_starts kept level start below is_start values2 given2 (subst (λ q. IsPart q values2 infos) lits_is (subst (λ q. IsPart lits2 values2 q) infos_is part)) low)

  pub cut_by : (given2 : ℕ) → given2 ≤ given → (given ≤ start → given2 ≡ given) → (start ≤ given → given2 ≡ start) →
      IsCutTo (record { entries = entries_of lits infos; level = length starts; given = given; variables = length infos }) (record { entries = entries_of lits2 infos2; level = length starts2; given = given2; variables = length infos2 }) level
  cut_by given2 low whole cut = rw (lits_is, infos_is, starts_is) (cut_to lits values infos starts given room_lits room_starts kept level start below is_start given2 low whole cut)

-- nothing is cut at the present level
pub cut_none : (t : TrailState) → IsTrail t → IsCutTo t t t.level
cut_none t trail = record {
  rest = [];
  split = sym (append_none t.entries);
  low = trail.below;
  high = λ p h. absurd (omega (arith, h));
  level_is = refl;
  given_first = omega arith;
  given_is = (λ h. refl, λ h. let l = trail.given_in in omega arith);
  variables = refl;
}
  where
    append_none : (xs : List Entry) → xs ++ [] ≡ xs
    append_none [] = refl
    append_none (x ∷ xs) = ap (λ q. x ∷ q) (append_none xs)

-- the entries of level 0 are the first ones
module _ (lits : List Lit) (values : List Value) (infos : List Info) (starts : List ℕ) (given room_lits room_starts : ℕ) (kept : IsKept lits values infos starts given room_lits room_starts) where
  entry_here : (p : ℕ) → p < length lits → entry_at (entries_of lits infos) p ≡ entry_of infos (lit_at lits p)
  entry_here p h = entry_is lits values infos starts given room_lits room_starts kept p h

  pub zeros_none : length starts ≡ 0 → (p : ℕ) → p < length lits → (entry_at (entries_of lits infos) p).level ≡ 0
  zeros_none none p h = omega (arith, ap (λ (n : Entry). n.level) (entry_here p h), kept.below p h, none)

  pub zeros_low : 0 < length starts → (p : ℕ) → p < slice_index_or starts 0 0 → (entry_at (entries_of lits infos) p).level ≡ 0
  zeros_low some p h = let pl : p < length lits = omega (arith, h, kept.cuts 0 some) in omega (arith, ap (λ (n : Entry). n.level) (entry_here p pl), kept.cut_low 0 p some h)

  pub zeros_high : 0 < length starts → (p : ℕ) → slice_index_or starts 0 0 ≤ p → p < length (entries_of lits infos) → 0 < (entry_at (entries_of lits infos) p).level
  zeros_high some p le h = let pl : p < length lits = omega (arith, h, length-map lits (entry_of infos)) in omega (arith, ap (λ (n : Entry). n.level) (entry_here p pl), kept.cut_high 0 p some le pl)
