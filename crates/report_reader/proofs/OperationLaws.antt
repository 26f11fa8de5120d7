-- The operations and the arcs of a scenario are read exactly.
use Rattle.std.proofs.Common.{◌≡◌, ℕ, zero, suc, ◌<◌, ◌≤◌, ◌+◌, ◌-◌, Bool, true, false, cond, eqb, ltb, leb, ◌&&◌, ◌||◌, List, [], ◌∷◌, ◌++◌, length, map, take, drop, get_or, Option, Some, None, refl, sym, ap, ap₂, subst, ◌∙◌, arith, inl, inr, ◌⊎◌, append_assoc, length-append, add-one, drop-cons}
use Rattle.std.specs.Prelude.{codes}
use Rattle.std.specs.List.{All, AllByRecursion, position_or_len, list_any}
use Rattle.std.specs.Str.{bytes_eq}
use Rattle.std.specs.FinSet as set
use Rattle.std.specs.FinSet.{nat_cmp-IsAntisymmetric}
use Rattle.std.specs.Cmp.{nat_cmp_total, unsigned_tied}
use Rattle.std.specs.Ordering.{nat_cmp}
use Rattle.std.proofs.lemmas.Bool.{cases_Bool, cases_lt, cases_eq, both_ways, lt-ltb, le-ltb, ltb-true, leb-true, le-leb, eqb-true, eq-eqb, ne_eqb}
use Rattle.std.proofs.lemmas.Bool.Decides.{nat_tests}
use Rattle.std.proofs.lemmas.Slice.Eq.{bytes_eq-Decides}
use Rattle.std.proofs.lemmas.List.{append-nil, take_at, drop_at, get_or_append_left, get_or-append_right, drop-drop, take-append-drop}
use Rattle.std.proofs.lemmas.List.Sums.{position_or_len_is, passes_at_first}
use Rattle.std.proofs.lemmas.List.Quantifiers.{position-Some}
use Rattle.std.proofs.lemmas.List.Elements.{All-from_recursion, recursion_from_All, All-get_or}
use Rattle.cpog_base.specs.Names.{place_of, AreDistinct}
use Rattle.cpog_base.specs.Arcs.{has_arc, with_arc}
use Rattle.cpog_defs.specs.declared.types.OpId.{OpId}
use Rattle.cpog_defs.specs.Orders.{Set, each_below, arc_of}
use Rattle.line_text.specs.Words.{is_free_name, continues_name}
use Rattle.line_text.proofs.TellingLemmas.{AllPass, free_name_passes}
use Rattle.netlist_verilog.specs.Wires.{name_of}
use Rattle.netlist_verilog.proofs.WordLemmas.{name_is}
use Rattle.report_text.specs.Rows.{blank_names, members_below, arc_text}
use Rattle.line_rows.specs.Words.{◌>>=?◌, behind_of}
use Rattle.line_rows.proofs.Exact.{IsExact, exact-behind, some_of, some_is, tested, both_true, same_bytes}
use Rattle.report_reader.specs.Lists.{words_from, words_after}
use Rattle.report_reader.specs.Operations.{Members, member_from, take_member, members_of, has_in, word_to, ends_in, Pair, is_from, Written, arc_from, take_arc, arcs_of, arcs_in}
use Rattle.report_reader.proofs.ListLaws.{IsPlain, words_again, words_takes}

-- ---- names of operations

-- distinct names, each free
pub record AreKnown (names : List (List ℕ)) : Type 0 where
  pub distinct : AreDistinct names
  pub free : AllByRecursion (λ w. is_free_name w ≡ true) names

out_of_name : (c b : ℕ) → continues_name c ≡ false → continues_name b ≡ true → eqb b c ≡ false
out_of_name c b out h = ne_eqb b c (λ e. absurd (both_ways (continues_name c) out (ap continues_name (sym e) ∙ h)))

no_bytes : (c : ℕ) → continues_name c ≡ false → (w : List ℕ) → AllPass continues_name w → AllByRecursion (λ b. eqb b c ≡ false) w
no_bytes c out [] h = tt
no_bytes c out (b ∷ bs) h = (out_of_name c b out h.0, no_bytes c out bs h.1)

-- a name has no byte that can't stand in one
pub name_without : (c : ℕ) → continues_name c ≡ false → (names : List (List ℕ)) (v : ℕ) → AllByRecursion (λ w. is_free_name w ≡ true) names → AllByRecursion (λ b. eqb b c ≡ false) (name_of names v)
name_without c out [] v h = tt
name_without c out (w ∷ ws) zero h = no_bytes c out w (free_name_passes w h.0)
name_without c out (w ∷ ws) (suc v) h = name_without c out ws v h.1

pub name_is_plain : (names : List (List ℕ)) (v : ℕ) → AllByRecursion (λ w. is_free_name w ≡ true) names → IsPlain (name_of names v)
name_is_plain names v free = All-from_recursion (λ b. eqb b 32 ≡ false) (name_of names v) (name_without 32 refl names v free)

other_name : (names : List (List ℕ)) (v k : ℕ) → AreDistinct names → v < length names → k < v → bytes_eq (name_of names v) (name_of names k) ≡ false
other_name names v k distinct lt below = elim (cases_Bool (bytes_eq (name_of names v) (name_of names k))) [
  | inl same ↦ let e : v ≡ k = name_is names v k distinct lt (omega arith) ((bytes_eq-Decides _ _).0 same) in absurd (omega (arith, e))
  | inr is ↦ is
]

pub place_again : (names : List (List ℕ)) (v : ℕ) → AreDistinct names → v < length names → place_of names (name_of names v) ≡ Some v
place_again names v distinct lt =
    let at : position_or_len (bytes_eq (name_of names v)) names ≡ v = position_or_len_is (bytes_eq (name_of names v)) names v [] (omega arith) (λ k below. other_name names v k distinct lt below) (λ _. same_bytes (name_of names v)) in
    let within : ltb v (length names) ≡ true = lt-ltb v (length names) lt in
    let step : cond (ltb (position_or_len (bytes_eq (name_of names v)) names) (length names)) (Some (position_or_len (bytes_eq (name_of names v)) names)) None ≡ Some v = rw (at, within) refl in
    step

pub place_takes : (names : List (List ℕ)) (w : List ℕ) (v : ℕ) → place_of names w ≡ Some v → (v < length names) × (w ≡ name_of names v)
place_takes names w v e = let at = position-Some (bytes_eq w) names v [] e in (at.0, (bytes_eq-Decides _ _).0 at.1)

pub operation_exact : (names : List (List ℕ)) → AreDistinct names → IsExact (λ v. v < length names) (name_of names) (place_of names)
operation_exact names distinct = record { again = λ v lt. place_again names v distinct lt; takes = λ w v e. place_takes names w v e }

-- ---- members, one after another

pub below_front : {A : Type 0} (f : ℕ → List A) (n : ℕ) → each_below f (suc n) ≡ f 0 ++ each_below (λ k. f (suc k)) n
below_front f zero = sym (append-nil (f 0))
below_front {A = A} f (suc n) = ap (λ (xs : List A). xs ++ f (suc n)) (below_front f n) ∙ append_assoc (f 0) (each_below (λ k. f (suc k)) n) (f (suc n))

abbrev pub forward : {A : Type 0} → (ℕ → List A) → ℕ → ℕ → List A
forward g v zero = []
forward g v (suc n) = g v ++ forward g (v + 1) n

forward_shift : {A : Type 0} (g : ℕ → List A) (s n : ℕ) → each_below (λ k. g (s + k)) n ≡ forward g s n
forward_shift g s zero = refl
forward_shift {A = A} g s (suc n) =
    let step : (k : ℕ) → g (s + suc k) ≡ g (s + 1 + k) = λ k. ap g (omega arith) in
    below_front (λ k. g (s + k)) n
    ∙ ap₂ (λ (x y : List A). x ++ y) (ap g (omega arith)) (ap (λ (f : ℕ → List A). each_below f n) (λ i k. step k i) ∙ forward_shift g (s + 1) n)

pub below_forward : {A : Type 0} (g : ℕ → List A) (n : ℕ) → each_below g n ≡ forward g 0 n
below_forward {A = A} g n =
    let step : (k : ℕ) → g k ≡ g (0 + k) = λ k. ap g (omega arith) in
    ap (λ (f : ℕ → List A). each_below f n) (λ i k. step k i) ∙ forward_shift g 0 n

abbrev members : Set → ℕ → ℕ → List ℕ
members s = forward (λ v. cond (set.contains s v) (v ∷ []) [])

contains_with : (s : Set) (v q : ℕ) → set.contains (set.insert s v) q ≡ (eqb q v || set.contains s q)
contains_with s v q = set.contains-insert nat_cmp_total s v q ∙ ap (λ (b : Bool). b || set.contains s q) (unsigned_tied q v)

no_members : (s : Set) (n lo : ℕ) → ((q : ℕ) → set.contains s q ≡ true → q < lo) → members s lo n ≡ []
no_members s zero lo below = refl
no_members s (suc n) lo below = elim (cases_Bool (set.contains s lo)) [
  | inl has ↦ absurd (let lt = below lo has in omega (arith, lt))
  | inr none ↦ rw none (no_members s n (lo + 1) (λ q h. let lt = below q h in omega (arith, lt)))
]

skip_to : (s : Set) (n lo v : ℕ) → lo ≤ v → v < lo + n → ((q : ℕ) → lo ≤ q → q < v → set.contains s q ≡ false) → set.contains s v ≡ true → members s lo n ≡ v ∷ members s (v + 1) (lo + n - (v + 1))
skip_to s zero lo v le lt none has = absurd (omega arith)
skip_to s (suc n) lo v le lt none has = elim (cases_lt lo v) [
  | inl below ↦
      let gone : set.contains s lo ≡ false = none lo (omega arith) below in
      rw gone (skip_to s n (lo + 1) v (omega arith) (omega arith) (λ q l m. none q (omega arith) m) has ∙ ap (λ (k : ℕ). v ∷ members s (v + 1) k) (omega arith))
  | inr ge ↦
      let here : lo ≡ v = omega arith in
      let there : set.contains s lo ≡ true = ap (set.contains s) here ∙ has in
      rw there (ap₂ (λ (k m : ℕ). k ∷ members s (k + 1) m) here (omega (arith, here)))
]

module _ (names : List (List ℕ)) (known : AreKnown names) where
  abbrev word : ℕ → List ℕ
  word v = name_of names v

  -- ---- has

  -- the members below v, and v
  agree_here : (s done : Set) (v : ℕ) → set.contains s v ≡ true → ((q : ℕ) → set.contains done q ≡ (set.contains s q && ltb q v)) → (q : ℕ) → set.contains (set.insert done v) q ≡ (set.contains s q && ltb q (v + 1))
  agree_here s done v has agree q =
      contains_with done v q ∙ ap (λ (b : Bool). eqb q v || b) (agree q) ∙ elim (cases_lt q v) [
        | inl lt ↦ rw (ne_eqb q v (λ e. absurd (omega (arith, e, lt))), lt-ltb q v lt, lt-ltb q (v + 1) (omega arith)) refl
        | inr ge ↦ elim (cases_lt v q) [
          | inl gt ↦ rw (ne_eqb q v (λ e. absurd (omega (arith, e, gt))), le-ltb q v ge, le-ltb q (v + 1) (omega arith)) refl
          | inr le ↦ let same : q ≡ v = omega arith in rw (eq-eqb q v same, ap (set.contains s) same ∙ has, lt-ltb q (v + 1) (omega arith)) refl
        ]
      ]

  -- the members below v, which is none
  agree_past : (s done : Set) (v : ℕ) → set.contains s v ≡ false → ((q : ℕ) → set.contains done q ≡ (set.contains s q && ltb q v)) → (q : ℕ) → set.contains done q ≡ (set.contains s q && ltb q (v + 1))
  agree_past s done v none agree q = agree q ∙ elim (cases_lt q v) [
    | inl lt ↦ rw (lt-ltb q v lt, lt-ltb q (v + 1) (omega arith)) refl
    | inr ge ↦ elim (cases_lt v q) [
      | inl gt ↦ rw (le-ltb q v ge, le-ltb q (v + 1) (omega arith)) refl
      | inr le ↦ let same : q ≡ v = omega arith in rw (ap (set.contains s) same ∙ none) refl
    ]
  ]

  abbrev some_members : ℕ → Set → Members
  some_members lo done = record { least = lo; ops = done }

  abbrev taken : Members → List (List ℕ) → Option Set
  taken m ws = words_from (take_member names) m ws >>=? members_of

  all_agree : (s done : Set) (v : ℕ) → ((q : ℕ) → set.contains s q ≡ true → q < v) → ((q : ℕ) → set.contains done q ≡ (set.contains s q && ltb q v)) → done ≡ s
  all_agree s done v below agree = set.same_set nat_cmp_total nat_cmp-IsAntisymmetric done s (λ q. agree q ∙ whole q)
    where
      whole : (q : ℕ) → (set.contains s q && ltb q v) ≡ set.contains s q
      whole q = elim (cases_Bool (set.contains s q)) [
        | inl has ↦ let lt : ltb q v ≡ true = lt-ltb q v (below q has) in rw (has, lt) refl
        | inr none ↦ rw none refl
      ]

  take_it : (lo v : ℕ) (done : Set) → lo ≤ v → v < length names → take_member names (some_members lo done) (word v) ≡ Some (some_members (v + 1) (set.insert done v))
  take_it lo v done le lt = rw (place_again names v known.distinct lt, le-leb lo v le) refl

  has_again : (n lo v : ℕ) (s done : Set) → lo ≤ v → v + n ≡ length names → ((q : ℕ) → set.contains s q ≡ true → q < length names) → ((q : ℕ) → set.contains done q ≡ (set.contains s q && ltb q v))
      → taken (some_members lo done) (map word (members s v n)) ≡ Some s
  has_again zero lo v s done le size below agree = ap (λ (x : Set). Some x) (all_agree s done v (λ q h. let lt = below q h in omega (arith, lt, size)) agree)
  has_again (suc n) lo v s done le size below agree =
      step (set.contains s v) refl
      (λ has. has_again n (v + 1) (v + 1) s (set.insert done v) (omega arith) (omega (arith, size)) below (agree_here s done v has agree))
      (λ none. has_again n lo (v + 1) s done (omega arith) (omega (arith, size)) below (agree_past s done v none agree))
    where
      step : (b : Bool) → set.contains s v ≡ b → (set.contains s v ≡ true → taken (some_members (v + 1) (set.insert done v)) (map word (members s (v + 1) n)) ≡ Some s) → (set.contains s v ≡ false → taken (some_members lo done) (map word (members s (v + 1) n)) ≡ Some s)
          → taken (some_members lo done) (map word (cond b (v ∷ []) [] ++ members s (v + 1) n)) ≡ Some s
      step true has taking passing = rw (take_it lo v done le (omega (arith, size))) (taking has)
      step false none taking passing = passing none

  record Taken (lo n : ℕ) (done : Set) (ws : List (List ℕ)) (s : Set) : Type 0 where
    words : ws ≡ map word (members s lo n)
    before : (q : ℕ) → q < lo → set.contains s q ≡ set.contains done q
    below : (q : ℕ) → set.contains s q ≡ true → q < length names

  has_takes : (ws : List (List ℕ)) (lo n : ℕ) (done : Set) (m : Members) → lo + n ≡ length names → ((q : ℕ) → set.contains done q ≡ true → q < lo) → words_from (take_member names) (some_members lo done) ws ≡ Some m → Taken lo n done ws m.ops
  has_takes [] lo n done m size below e =
      let same : done ≡ m.ops = ap (λ (x : Members). x.ops) (some_is (some_members lo done) m e) in
      subst (Taken lo n done []) same (record {
        words = ap (map word) (sym (no_members done n lo below));
        before = λ q lt. refl;
        below = λ q h. let lt = below q h in omega (arith, lt, size);
      })
  has_takes (w ∷ ws) lo n done m size below e =
      let t = some_of (take_member names (some_members lo done) w) (λ t. words_from (take_member names) t ws) m e in
      let p = some_of (place_of names w) (member_from (some_members lo done)) t.0 t.1 in
      let v = p.0 in
      let g = tested (leb lo v) (some_members (v + 1) (set.insert done v)) t.0 p.2 in
      let at = place_takes names w v p.1 in
      let lov : lo ≤ v = leb-true lo v g.0 in
      let rest = has_takes ws (v + 1) (length names - (v + 1)) (set.insert done v) m (omega (arith, at.0)) (inserted v lov) (ap (λ (x : Members). words_from (take_member names) x ws) g.1 ∙ t.2) in
      record {
        words = ap₂ (λ (x : List ℕ) (xs : List (List ℕ)). x ∷ xs) at.1 rest.words ∙ ap (λ (k : ℕ). word v ∷ map word (members m.ops (v + 1) k)) (omega (arith, size)) ∙ ap (map word) (sym (skip_to m.ops n lo v lov (omega (arith, at.0, size)) (λ q l lt. gone v rest q l lt) (here v rest)));
        before = λ q lt. rest.before q (omega (arith, lov, lt)) ∙ contains_with done v q ∙ rw (ne_eqb q v (λ e. absurd (omega (arith, e, lov, lt)))) refl;
        below = rest.below;
      }
    where
      inserted : (v : ℕ) → lo ≤ v → (q : ℕ) → set.contains (set.insert done v) q ≡ true → q < v + 1
      inserted v lov q h = elim (cases_lt q (v + 1)) [
        | inl lt ↦ lt
        | inr ge ↦
            let ne : eqb q v ≡ false = ne_eqb q v (λ e. absurd (omega (arith, e, ge))) in
            let old : set.contains done q ≡ true = ap (λ (b : Bool). b || set.contains done q) (sym ne) ∙ sym (contains_with done v q) ∙ h in
            absurd (let lt = below q old in omega (arith, lt, lov, ge))
      ]

      gone : {k : ℕ} {xs : List (List ℕ)} (v : ℕ) → Taken (v + 1) k (set.insert done v) xs m.ops → (q : ℕ) → lo ≤ q → q < v → set.contains m.ops q ≡ false
      gone v rest q l lt = elim (cases_Bool (set.contains m.ops q)) [
        | inl has ↦
            let old : (eqb q v || set.contains done q) ≡ true = sym (contains_with done v q) ∙ sym (rest.before q (omega (arith, lt))) ∙ has in
            let ne : eqb q v ≡ false = ne_eqb q v (λ e. absurd (omega (arith, e, lt))) in
            let there : set.contains done q ≡ true = ap (λ (b : Bool). b || set.contains done q) (sym ne) ∙ old in
            absurd (let lt2 = below q there in omega (arith, lt2, l))
        | inr none ↦ none
      ]

      here : {k : ℕ} {xs : List (List ℕ)} (v : ℕ) → Taken (v + 1) k (set.insert done v) xs m.ops → set.contains m.ops v ≡ true
      here v rest = rest.before v (omega arith) ∙ contains_with done v v ∙ rw (eq-eqb v v refl) refl

  abbrev pub FitsHas : Set → Type 0
  FitsHas s = (q : ℕ) → set.contains s q ≡ true → q < length names

  abbrev members_text : Set → List ℕ
  members_text s = blank_names (map word (members_below s (length names)))

  names_plain : (vs : List ℕ) → AllByRecursion IsPlain (map word vs)
  names_plain [] = tt
  names_plain (v ∷ vs) = (name_is_plain names v known.free, names_plain vs)

  abbrev members_after : List ℕ → Option Set
  members_after bytes = words_after (take_member names) (some_members 0 set.empty) bytes >>=? members_of

  members_exact : IsExact FitsHas members_text members_after
  members_exact = record {
    again = λ s below.
        ap (λ (vs : List ℕ). members_after (blank_names (map word vs))) (below_forward (λ v. cond (set.contains s v) (v ∷ []) []) (length names))
        ∙ ap (λ (o : Option Members). o >>=? members_of) (words_again (take_member names) (some_members 0 set.empty) (map word (members s 0 (length names))) (names_plain (members s 0 (length names))))
        ∙ has_again (length names) 0 0 s set.empty (omega arith) (omega arith) below (λ q. set.contains-empty nat_cmp q ∙ none (set.contains s q) q);
    takes = λ bytes s e.
        let m = some_of (words_after (take_member names) (some_members 0 set.empty) bytes) members_of s e in
        let w = words_takes (take_member names) (some_members 0 set.empty) bytes m.0 m.1 in
        let t = has_takes w.0 0 (length names) set.empty m.0 (omega arith) (λ q h. absurd (both_ways (set.contains (set.empty {R = nat_cmp}) q) (set.contains-empty nat_cmp q) h)) w.2 in
        let same : m.0.ops ≡ s = some_is m.0.ops s m.2 in
        subst (λ (x : Set). FitsHas x × (bytes ≡ members_text x)) same
        (t.below, w.1 ∙ ap blank_names t.words ∙ ap (λ (vs : List ℕ). blank_names (map word vs)) (sym (below_forward (λ v. cond (set.contains m.0.ops v) (v ∷ []) []) (length names))));
  }
    where
      none : (b : Bool) (q : ℕ) → false ≡ (b && ltb q 0)
      none true q = sym (le-ltb q 0 (omega arith))
      none false q = refl

  pub has_exact : IsExact FitsHas (λ s. codes "has" ++ members_text s) (has_in names)
  unfolding has_in
  has_exact = exact-behind (codes "has") members_exact

  -- ---- arcs

  cut_here : (c : ℕ) (bytes : List ℕ) (i b : ℕ) → i < length bytes → get_or bytes i 0 ≡ b → bytes ≡ take i bytes ++ b ∷ drop (i + 1) bytes
  cut_here c bytes i b lt e = sym (take-append-drop i bytes) ∙ ap (λ (x : List ℕ). take i bytes ++ x) (rw (add-one, ← e) (drop-cons bytes i 0 lt))

  past_it : (c : ℕ) (w rest : List ℕ) → drop (length w + 1) (w ++ c ∷ rest) ≡ rest
  past_it c w rest = sym (drop-drop 1 (length w) (w ++ c ∷ rest)) ∙ ap (drop 1) (drop_at w (c ∷ rest) (length w) refl)

  no_difference : (n : ℕ) → n - n ≡ 0
  no_difference n = omega arith

  word_again : (c : ℕ) (w rest : List ℕ) → AllByRecursion (λ b. eqb b c ≡ false) w → word_to c (w ++ c ∷ rest) ≡ Some (w, rest)
  unfolding word_to
  word_again c w rest none =
      let here : eqb (get_or (w ++ c ∷ rest) (length w) 0) c ≡ true = ap (λ (b : ℕ). eqb b c) (get_or-append_right w (c ∷ rest) (length w) (length w) 0 refl (omega arith) ∙ ap (λ (i : ℕ). get_or (c ∷ rest) i 0) (no_difference (length w))) ∙ eq-eqb c c refl in
      let at : position_or_len (λ b. eqb b c) (w ++ c ∷ rest) ≡ length w = position_or_len_is (λ b. eqb b c) (w ++ c ∷ rest) (length w) 0 (omega (arith, length-append w (c ∷ rest))) (λ k lt. ap (λ (b : ℕ). eqb b c) (get_or_append_left w (c ∷ rest) 0 k lt) ∙ All-get_or (λ b. eqb b c ≡ false) w k 0 lt (All-from_recursion (λ b. eqb b c ≡ false) w none)) (λ _. here) in
      let within : ltb (length w) (length (w ++ c ∷ rest)) ≡ true = lt-ltb _ _ (omega (arith, length-append w (c ∷ rest))) in
      rw (at, within, take_at w (c ∷ rest) (length w) refl, past_it c w rest) refl

  word_takes : (c : ℕ) (bytes : List ℕ) (w : List ℕ × List ℕ) → word_to c bytes ≡ Some w → bytes ≡ w.0 ++ c ∷ w.1
  unfolding word_to
  word_takes c bytes w e =
      let t = tested _ _ _ e in
      let lt : position_or_len (λ b. eqb b c) bytes < length bytes = ltb-true _ _ t.0 in
      cut_here c bytes (position_or_len (λ b. eqb b c) bytes) c lt (eqb-true _ _ (passes_at_first (λ b. eqb b c) bytes 0 lt)) ∙ ap (λ (p : List ℕ × List ℕ). p.0 ++ c ∷ p.1) t.1

  abbrev ends_text : ℕ × ℕ → List ℕ
  ends_text p = word p.0 ++ 62 ∷ word p.1

  abbrev FitsEnds : ℕ × ℕ → Type 0
  FitsEnds p = (p.0 < length names) × (p.1 < length names)

  ends_again : (p : ℕ × ℕ) → FitsEnds p → ends_in names (ends_text p) ≡ Some p
  unfolding ends_in
  ends_again p fits = rw (word_again 62 (word p.0) (word p.1) (name_without 62 refl names p.0 known.free), place_again names p.0 known.distinct fits.0, place_again names p.1 known.distinct fits.1) refl

  ends_takes : (bytes : List ℕ) (p : ℕ × ℕ) → ends_in names bytes ≡ Some p → FitsEnds p × (bytes ≡ ends_text p)
  unfolding ends_in
  ends_takes bytes p e =
      let w = some_of (word_to 62 bytes) (λ w. place_of names w.0 >>=? λ u. place_of names w.1 >>=? λ v. Some (u, v)) p e in
      let u = some_of (place_of names w.0.0) (λ u. place_of names w.0.1 >>=? λ v. Some (u, v)) p w.2 in
      let v = some_of (place_of names w.0.1) (λ v. Some (u.0, v)) p u.2 in
      let a = place_takes names w.0.0 u.0 u.1 in
      let b = place_takes names w.0.1 v.0 v.1 in
      subst (λ (x : ℕ × ℕ). FitsEnds x × (bytes ≡ ends_text x)) (some_is (u.0, v.0) p v.2) ((a.0, b.0), word_takes 62 bytes w.0 w.1 ∙ ap₂ (λ (x y : List ℕ). x ++ 62 ∷ y) a.1 b.1)

  abbrev next_pair : OpId × OpId → Pair
  next_pair a = record { first = a.0.0; second = a.1.0 + 1 }

  -- arcs between members, each from the least on that may come
  abbrev pub FitsArcs : Set → Pair → List (OpId × OpId) → Type 0
  FitsArcs ops least [] = Unit {0}
  FitsArcs ops least (a ∷ arcs) = ((is_from least a.0.0 a.1.0 ≡ true) × ((set.contains ops a.0.0 ≡ true) × (set.contains ops a.1.0 ≡ true))) × FitsArcs ops (next_pair a) arcs

  abbrev AllBefore : Pair → List (OpId × OpId) → Type 0
  AllBefore least arcs = AllByRecursion (λ a. is_from least a.0.0 a.1.0 ≡ false) arcs

  later : (a b u v x y : ℕ) → (ltb a u || (eqb a u && leb b v)) ≡ true → (ltb a x || (eqb a x && leb b y)) ≡ false → (ltb u x || (eqb u x && leb (v + 1) y)) ≡ false
  later a b u v x y h g = grind (arith, nat_tests)

  past_self : (u v : ℕ) → (ltb u u || (eqb u u && leb (v + 1) v)) ≡ false
  past_self u v = grind (arith, nat_tests)

  apart : (a b u v x y : ℕ) → (ltb a u || (eqb a u && leb b v)) ≡ true → (ltb a x || (eqb a x && leb b y)) ≡ false → (eqb x u && eqb y v) ≡ false
  apart a b u v x y h g = grind (arith, nat_tests)

  none_has : (least : Pair) (u v : ℕ) (arcs : List (OpId × OpId)) → is_from least u v ≡ true → AllBefore least arcs → has_arc arcs u v ≡ false
  none_has least u v [] h before = refl
  none_has least u v (a ∷ arcs) h before = rw (apart least.first least.second u v a.0.0 a.1.0 h before.0) (none_has least u v arcs h before.1)

  all_later : (least : Pair) (u v : ℕ) (arcs : List (OpId × OpId)) → is_from least u v ≡ true → AllBefore least arcs → AllBefore (record { first = u; second = v + 1 }) (arcs ++ arc_of u v ∷ [])
  all_later least u v [] h before = (past_self u v, tt)
  all_later least u v (a ∷ arcs) h before = (later least.first least.second u v a.0.0 a.1.0 h before.0, all_later least u v arcs h before.1)

  goes_last : (least : Pair) (u v : ℕ) (arcs : List (OpId × OpId)) → is_from least u v ≡ true → AllBefore least arcs → with_arc arcs u v ≡ arcs ++ arc_of u v ∷ []
  goes_last least u v arcs h before = rw (none_has least u v arcs h before) refl

  abbrev so_far : Pair → List (OpId × OpId) → Written
  so_far least arcs = record { least = least; arcs = arcs }

  arcs_again : (ops : Set) → FitsHas ops → (arcs : List (OpId × OpId)) (least : Pair) (done : List (OpId × OpId)) → FitsArcs ops least arcs → AllBefore least done → (words_from (take_arc names ops) (so_far least done) (map (arc_text names) arcs) >>=? arcs_of) ≡ Some (done ++ arcs)
  arcs_again ops below [] least done fits before = ap (λ (x : List (OpId × OpId)). Some x) (sym (append-nil done))
  arcs_again ops below (a ∷ arcs) least done fits before =
      let e : take_arc names ops (so_far least done) (arc_text names a) ≡ Some (so_far (next_pair a) (with_arc done a.0.0 a.1.0)) = rw (ends_again (a.0.0, a.1.0) (below a.0.0 fits.0.1.0, below a.1.0 fits.0.1.1), fits.0.0, fits.0.1.0, fits.0.1.1) refl in
      let last : with_arc done a.0.0 a.1.0 ≡ done ++ arc_of a.0.0 a.1.0 ∷ [] = goes_last least a.0.0 a.1.0 done fits.0.0 before in
      rw (e, last) (arcs_again ops below arcs (next_pair a) (done ++ a ∷ []) fits.1 (all_later least a.0.0 a.1.0 done fits.0.0 before) ∙ ap (λ (x : List (OpId × OpId)). Some x) (append_assoc done (a ∷ []) arcs))

  abbrev GivesArcs : Set → Pair → List (OpId × OpId) → List (List ℕ) → List (OpId × OpId) → Type 0
  GivesArcs ops least done ws all = (arcs : List (OpId × OpId)) × FitsArcs ops least arcs × (ws ≡ map (arc_text names) arcs) × (done ++ arcs ≡ all)

  arcs_takes : (ops : Set) (ws : List (List ℕ)) (least : Pair) (done : List (OpId × OpId)) (w : Written) → AllBefore least done → words_from (take_arc names ops) (so_far least done) ws ≡ Some w → GivesArcs ops least done ws w.arcs
  arcs_takes ops [] least done w before e = ([], tt, refl, append-nil done ∙ ap (λ (x : Written). x.arcs) (some_is (so_far least done) w e))
  arcs_takes ops (x ∷ ws) least done w before e =
      let t = some_of (take_arc names ops (so_far least done) x) (λ t. words_from (take_arc names ops) t ws) w e in
      let p = some_of (ends_in names x) (arc_from ops (so_far least done)) t.0 t.1 in
      let u = p.0.0 in
      let v = p.0.1 in
      let g = tested (is_from least u v && (set.contains ops u && set.contains ops v)) (so_far (record { first = u; second = v + 1 }) (with_arc done u v)) t.0 p.2 in
      let b = both_true (is_from least u v) _ g.0 in
      let c = both_true (set.contains ops u) (set.contains ops v) b.1 in
      let at = ends_takes x p.0 p.1 in
      let last : with_arc done u v ≡ done ++ arc_of u v ∷ [] = goes_last least u v done b.0 before in
      let state : t.0 ≡ so_far (record { first = u; second = v + 1 }) (done ++ arc_of u v ∷ []) = sym g.1 ∙ ap (so_far (record { first = u; second = v + 1 })) last in
      let rest = arcs_takes ops ws (record { first = u; second = v + 1 }) (done ++ arc_of u v ∷ []) w (all_later least u v done b.0 before) (ap (λ (s : Written). words_from (take_arc names ops) s ws) (sym state) ∙ t.2) in
      (arc_of u v ∷ rest.0, ((b.0, (c.0, c.1)), rest.1), ap₂ (λ (y : List ℕ) (ys : List (List ℕ)). y ∷ ys) at.1 rest.2, sym (append_assoc done (arc_of u v ∷ []) rest.0) ∙ rest.3)

  arc_plain : (a : OpId × OpId) → IsPlain (arc_text names a)
  arc_plain a = All-from_recursion (λ b. eqb b 32 ≡ false) (arc_text names a) (joined (word a.0.0) (word a.1.0) (name_without 32 refl names a.0.0 known.free) (name_without 32 refl names a.1.0 known.free))
    where
      joined : (x y : List ℕ) → AllByRecursion (λ b. eqb b 32 ≡ false) x → AllByRecursion (λ b. eqb b 32 ≡ false) y → AllByRecursion (λ b. eqb b 32 ≡ false) (x ++ 62 ∷ y)
      joined [] y hx hy = (refl, hy)
      joined (b ∷ x) y hx hy = (hx.0, joined x y hx.1 hy)

  arcs_plain : (arcs : List (OpId × OpId)) → AllByRecursion IsPlain (map (arc_text names) arcs)
  arcs_plain [] = tt
  arcs_plain (a ∷ arcs) = (arc_plain a, arcs_plain arcs)

  abbrev pub no_pair : Pair
  no_pair = record { first = 0; second = 0 }

  abbrev arcs_after : Set → List ℕ → Option (List (OpId × OpId))
  arcs_after ops bytes = words_after (take_arc names ops) (so_far no_pair []) bytes >>=? arcs_of

  list_exact : (ops : Set) → FitsHas ops → IsExact (FitsArcs ops no_pair) (λ arcs. blank_names (map (arc_text names) arcs)) (arcs_after ops)
  list_exact ops below = record {
    again = λ arcs fits.
        ap (λ (o : Option Written). o >>=? arcs_of) (words_again (take_arc names ops) (so_far no_pair []) (map (arc_text names) arcs) (arcs_plain arcs))
        ∙ arcs_again ops below arcs no_pair [] fits tt;
    takes = λ bytes arcs e.
        let m = some_of (words_after (take_arc names ops) (so_far no_pair []) bytes) arcs_of arcs e in
        let w = words_takes (take_arc names ops) (so_far no_pair []) bytes m.0 m.1 in
        let t = arcs_takes ops w.0 no_pair [] m.0 tt w.2 in
        subst (λ (x : List (OpId × OpId)). FitsArcs ops no_pair x × (bytes ≡ blank_names (map (arc_text names) x))) (t.3 ∙ some_is m.0.arcs arcs m.2) (t.1, w.1 ∙ ap blank_names t.2);
  }

  pub arcs_exact : (ops : Set) → FitsHas ops → IsExact (FitsArcs ops no_pair) (λ arcs. codes "arcs" ++ blank_names (map (arc_text names) arcs)) (arcs_in names ops)
  unfolding arcs_in
  arcs_exact ops below = exact-behind (codes "arcs") (list_exact ops below)
