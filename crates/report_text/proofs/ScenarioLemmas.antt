-- The three lines of a scenario tell its name, its code, its operations and its arcs.
use Rattle.std.proofs.Common.{◌≡◌, ℕ, ◌^◌, ◌<◌, Bool, true, false, ◌||◌, eqb, List, [], ◌∷◌, ◌++◌, map, length, refl, sym, ap, ap₂, ◌∙◌, inl, inr, arith, append_assoc, subst}
use Rattle.std.specs.Prelude.{codes, if◌then◌else◌}
use Rattle.std.specs.List.{AllByRecursion}
use Rattle.std.specs.FinSet as set
use Rattle.std.specs.FinSet.{nat_cmp-IsAntisymmetric}
use Rattle.std.specs.Cmp.{nat_cmp_total}
use Rattle.std.proofs.lemmas.List.{append_cancel_left}
use Rattle.std.proofs.lemmas.List.Elements.{recursion_from_All}
use Rattle.cpog_base.specs.Names.{AreDistinct}
use Rattle.cpog_defs.specs.declared.types.Bit3.{Bit3}
use Rattle.cpog_defs.specs.declared.types.OpId.{OpId}
use Rattle.cpog_defs.specs.Orders.{Set}
use Rattle.cpog_defs.specs.Scenarios.{Scenario, IsScenario}
use Rattle.line_text.specs.Lines.{text_of}
use Rattle.line_text.specs.Words.{continues_name}
use Rattle.line_text.proofs.TellingLemmas.{AllPass, word_told, list_told, AllPass-append, or-true_left}
use Rattle.netlist_verilog.specs.Wires.{name_of}
use Rattle.report_text.specs.Rows.{members_below, arc_text, digits_of, given_text, scenario_row, has_row, arcs_row}
use Rattle.report_text.proofs.BelowLemmas.{In, in_below, below_in}
use Rattle.report_text.proofs.NetlistLemmas.{bool_same}
use Rattle.netlist_verilog.proofs.FeedLemmas.{name_passes}
use Rattle.netlist_verilog.proofs.WordLemmas.{name_is}
use Rattle.report_text.proofs.WordLemmas.{digits_before, given_front, given_told}
use Rattle.report_text.proofs.RowLemmas.{lines_differ, AllBy-below}
use Rattle.report_text.proofs.WritingLemmas.{ends_below}

cons_parts : {X : Type 0} (x y : X) (xs ys : List X) → (x ∷ xs) ≡ (y ∷ ys) → (x ≡ y) × (xs ≡ ys)
cons_parts x y xs ys e = (cc, cc)

-- ---- sets

one_in : (b : Bool) (v : ℕ) → b ≡ true → In v (if b then v ∷ [] else [])
one_in true v h = inl refl
one_in false v h = absurd cc

one_cases : (b : Bool) (v w : ℕ) → In w (if b then v ∷ [] else []) → (b ≡ true) × (w ≡ v)
one_cases true v w h = elim h [ inl e ↦ (refl, e) | inr n ↦ absurd n ]
one_cases false v w h = absurd h

has_member : (s : Set) (n v : ℕ) → v < n → set.contains s v ≡ true → In v (members_below s n)
has_member s n v lt h = in_below v (λ w. if set.contains s w then w ∷ [] else []) n v lt (one_in (set.contains s v) v h)

member_has : (s : Set) (n v : ℕ) → In v (members_below s n) → set.contains s v ≡ true
member_has s n v h =
    let a = below_in v (λ w. if set.contains s w then w ∷ [] else []) n h in
    let b = one_cases (set.contains s a.0) a.0 v a.2 in
    ap (set.contains s) b.1 ∙ b.0

half : (s t : Set) (n q : ℕ) → ((v : ℕ) → set.contains s v ≡ true → v < n) → members_below s n ≡ members_below t n → set.contains s q ≡ true → set.contains t q ≡ true
half s t n q below e h = member_has t n q (subst (λ (vs : List ℕ). In q vs) e (has_member s n q (below q h) h))

same_members : (s t : Set) (n : ℕ) → ((v : ℕ) → set.contains s v ≡ true → v < n) → ((v : ℕ) → set.contains t v ≡ true → v < n) → members_below s n ≡ members_below t n → s ≡ t
same_members s t n hs ht e = set.same_set nat_cmp_total nat_cmp-IsAntisymmetric s t (λ q. bool_same (set.contains s q) (set.contains t q) (half s t n q hs e) (half t s n q ht (sym e)))

one_below : (b : Bool) (v n : ℕ) → v < n → AllByRecursion (λ w. w < n) (if b then v ∷ [] else [])
one_below true v n lt = (lt, tt)
one_below false v n lt = tt

members_are_below : (s : Set) (n : ℕ) → AllByRecursion (λ v. v < n) (members_below s n)
members_are_below s n = AllBy-below (λ v. v < n) (λ v. if set.contains s v then v ∷ [] else []) n (λ v lt. one_below (set.contains s v) v n lt)

numbers_are : (names : List (List ℕ)) (vs ws : List ℕ) → AreDistinct names →
    AllByRecursion (λ v. v < length names) vs → AllByRecursion (λ v. v < length names) ws →
    map (name_of names) vs ≡ map (name_of names) ws → vs ≡ ws
numbers_are names [] [] distinct hv hw e = refl
numbers_are names [] (w ∷ ws) distinct hv hw e = absurd cc
numbers_are names (v ∷ vs) [] distinct hv hw e = absurd cc
numbers_are names (v ∷ vs) (w ∷ ws) distinct hv hw e =
    let p = cons_parts (name_of names v) (name_of names w) (map (name_of names) vs) (map (name_of names) ws) e in
    ap₂ (λ (z : ℕ) (zs : List ℕ). z ∷ zs) (name_is names v w distinct hv.0 hw.0 p.0) (numbers_are names vs ws distinct hv.1 hw.1 p.1)

names_pass : (names : List (List ℕ)) (vs : List ℕ) → AllByRecursion (AllPass continues_name) names → AllByRecursion (AllPass continues_name) (map (name_of names) vs)
names_pass names [] h = tt
names_pass names (v ∷ vs) h = (name_passes names v h, names_pass names vs h)

-- ---- arcs

-- a byte of an arc: one of a name, or '>'
abbrev arc_byte : ℕ → Bool
arc_byte b = continues_name b || eqb b 62

wider : (w : List ℕ) → AllPass continues_name w → AllPass arc_byte w
wider [] h = tt
wider (b ∷ w) h = (or-true_left (continues_name b) (eqb b 62) h.0, wider w h.1)

arcs_pass : (names : List (List ℕ)) (arcs : List (OpId × OpId)) → AllByRecursion (AllPass continues_name) names → AllByRecursion (AllPass arc_byte) (map (arc_text names) arcs)
arcs_pass names [] h = tt
arcs_pass names (a ∷ arcs) h = (
  AllPass-append arc_byte (name_of names a.0.0) (62 ∷ name_of names a.1.0)
      (wider (name_of names a.0.0) (name_passes names a.0.0 h))
      (refl, wider (name_of names a.1.0) (name_passes names a.1.0 h)),
  arcs_pass names arcs h,
)

abbrev EndsBelow : ℕ → (OpId × OpId) → Type 0
EndsBelow n a = (a.0.0 < n) × (a.1.0 < n)

same_arc : (a b : OpId × OpId) → a.0.0 ≡ b.0.0 → a.1.0 ≡ b.1.0 → a ≡ b
same_arc a b p q = λ i. (record { 0 = p i }, record { 0 = q i })

arc_is : (names : List (List ℕ)) (a b : OpId × OpId) → AreDistinct names →
    AllByRecursion (AllPass continues_name) names → EndsBelow (length names) a → EndsBelow (length names) b →
    arc_text names a ≡ arc_text names b → a ≡ b
arc_is names a b distinct pass ha hb e =
    let first =
    word_told continues_name (name_of names a.0.0) (name_of names b.0.0) 62 (name_of names a.1.0)
    (name_of names b.1.0) (name_passes names a.0.0 pass) (name_passes names b.0.0 pass) refl e in
    same_arc a b (name_is names a.0.0 b.0.0 distinct ha.0 hb.0 first.0) (name_is names a.1.0 b.1.0 distinct ha.1 hb.1 first.1)

arcs_are : (names : List (List ℕ)) (vs ws : List (OpId × OpId)) → AreDistinct names →
    AllByRecursion (AllPass continues_name) names → AllByRecursion (EndsBelow (length names)) vs →
    AllByRecursion (EndsBelow (length names)) ws
    → map (arc_text names) vs ≡ map (arc_text names) ws → vs ≡ ws
arcs_are names [] [] distinct pass hv hw e = refl
arcs_are names [] (w ∷ ws) distinct pass hv hw e = absurd cc
arcs_are names (v ∷ vs) [] distinct pass hv hw e = absurd cc
arcs_are names (v ∷ vs) (w ∷ ws) distinct pass hv hw e =
    let p = cons_parts (arc_text names v) (arc_text names w) (map (arc_text names) vs) (map (arc_text names) ws) e in
    ap₂ (λ (z : OpId × OpId) (zs : List (OpId × OpId)). z ∷ zs) (arc_is names v w distinct pass hv.0 hw.0 p.0) (arcs_are names vs ws distinct pass hv.1 hw.1 p.1)

ends_are_below : (sc : Scenario) (n : ℕ) → IsScenario sc → sc.count ≡ n → AllByRecursion (EndsBelow n) sc.arcs
ends_are_below sc n is count = recursion_from_All (EndsBelow n) sc.arcs (λ k d lt. let h = ends_below sc k d is lt in (omega (arith, h.0, count), omega (arith, h.1, count)))

-- ---- a scenario

abbrev pub block : ℕ → List (List ℕ) → List ℕ → ℕ → List Bit3 → Scenario → List (List ℕ)
block bits names name code pattern sc = scenario_row bits name code pattern ∷ has_row names sc ∷ arcs_row names sc ∷ []

same_scenario : (s t : Scenario) → s.count ≡ t.count → s.ops ≡ t.ops → s.arcs ≡ t.arcs → s ≡ t
same_scenario s t p q r = λ i. record { count = p i; ops = q i; arcs = r i }

pub block_told : (bits : ℕ) (names : List (List ℕ)) (m n : List ℕ) (c d : ℕ) (p q : List Bit3) (s t : Scenario) (x y : List ℕ) → AreDistinct names → AllByRecursion (AllPass continues_name) names
    → AllPass continues_name m → AllPass continues_name n → c < 2 ^ bits → d < 2 ^ bits → length p ≡ length q → IsScenario s → IsScenario t → s.count ≡ length names → t.count ≡ length names
    → text_of (block bits names m c p s) ++ x ≡ text_of (block bits names n d q t) ++ y → ((m ≡ n) × ((c ≡ d) × ((p ≡ q) × (s ≡ t)))) × (x ≡ y)
block_told bits names m n c d p q s t x y distinct pass hm hn hc hd even is it sn tn e =
    let e1 =
    append_cancel_left (codes "scenario ") _ _
    (lines_differ (scenario_row bits m c p) (scenario_row bits n d q) (has_row names s ∷ arcs_row names s ∷ [])
    (has_row names t ∷ arcs_row names t ∷ []) x y e) in
    let x1 = text_of (has_row names s ∷ arcs_row names s ∷ []) ++ x in
    let y1 = text_of (has_row names t ∷ arcs_row names t ∷ []) ++ y in
    let first = digits_of bits c ++ given_text p in
    let second = digits_of bits d ++ given_text q in
    let name =
    word_told continues_name m n 32 (first ++ 10 ∷ x1) (second ++ 10 ∷ y1) hm hn refl
    (sym (append_assoc m (32 ∷ first) (10 ∷ x1)) ∙ e1 ∙ append_assoc n (32 ∷ second) (10 ∷ y1)) in
    let pf = given_front p x1 in
    let qf = given_front q y1 in
    let code =
    digits_before bits c d pf.0 qf.0 pf.1 qf.1 hc hd pf.2 qf.2
    (ap (λ (z : List ℕ). digits_of bits c ++ z) (sym pf.3) ∙ sym (append_assoc (digits_of bits c) (given_text p) (10 ∷ x1)) ∙ name.1
    ∙ append_assoc (digits_of bits d) (given_text q) (10 ∷ y1) ∙ ap (λ (z : List ℕ). digits_of bits d ++ z) qf.3) in
    let given = given_told p q x1 y1 even (pf.3 ∙ code.1 ∙ sym qf.3) in
    let e2 = append_cancel_left (codes "has") _ _ (lines_differ (has_row names s) (has_row names t) (arcs_row names s ∷ []) (arcs_row names t ∷ []) x y given.1) in
    let has' =
    list_told continues_name (map (name_of names) (members_below s.ops s.count))
    (map (name_of names) (members_below t.ops t.count)) (text_of (arcs_row names s ∷ []) ++ x)
    (text_of (arcs_row names t ∷ []) ++ y) refl refl (names_pass names _ pass) (names_pass names _ pass) e2 in
    let members : map (name_of names) (members_below s.ops (length names)) ≡ map (name_of names) (members_below t.ops (length names)) =
    ap (λ k. map (name_of names) (members_below s.ops k)) (sym sn) ∙ has'.0 ∙ ap (λ k. map (name_of names) (members_below t.ops k)) tn in
    let ops = same_members s.ops t.ops (length names) (λ v h. omega (arith, is.below v h, sn)) (λ v h. omega (arith, it.below v h, tn))
    (numbers_are names (members_below s.ops (length names)) (members_below t.ops (length names)) distinct (members_are_below s.ops (length names)) (members_are_below t.ops (length names)) members) in
    let e3 = append_cancel_left (codes "arcs") _ _ (lines_differ (arcs_row names s) (arcs_row names t) [] [] x y has'.1) in
    let arcs' = list_told arc_byte (map (arc_text names) s.arcs) (map (arc_text names) t.arcs) x y refl refl (arcs_pass names s.arcs pass) (arcs_pass names t.arcs pass) e3 in
    let arcs = arcs_are names s.arcs t.arcs distinct pass (ends_are_below s (length names) is sn) (ends_are_below t (length names) it tn) arcs'.0 in
    ((name.0, (code.0, (given.0, same_scenario s t (sn ∙ sym tn) ops arcs))), arcs'.1)
