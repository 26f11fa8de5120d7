-- The lines of a report tell what they were made of.
use Rattle.std.proofs.Common.{◌≡◌, ℕ, zero, suc, ◌^◌, ◌<◌, ◌≤◌, true, false, List, [], ◌∷◌, ◌++◌, length, get_or, refl, sym, ap, ap₂, ◌∙◌, ◌⊎◌, inl, inr, arith, append_assoc, subst}
use Rattle.std.specs.Prelude.{codes}
use Rattle.std.specs.List.{AllByRecursion, flat_map}
use Rattle.std.specs.Fmt.{decimal}
use Rattle.std.proofs.lemmas.Bool.{cases_eq}
use Rattle.std.proofs.lemmas.List.{append_cancel_left, ext_get_or}
use Rattle.std.proofs.lemmas.List.Concat.{flat_map-append}
use Rattle.cpog_base.specs.Names.{AreDistinct}
use Rattle.cpog_defs.specs.declared.types.Gate.{Gate}
use Rattle.cpog_defs.specs.declared.types.Ref.{Ref}
use Rattle.cpog_defs.specs.declared.types.Ref.TheVariants.{Const, Signal}
use Rattle.cpog_defs.specs.declared.types.Place.TheVariants.{Arc}
use Rattle.cpog_defs.specs.Orders.{each_below}
use Rattle.cpog_defs.specs.Gates.{IsRefOver}
use Rattle.cpog_defs.specs.Graphs.{ConditionalGraph, IsGraph, op_ref, arc_ref}
use Rattle.gate_core.proofs.GateLemmas.{gate_by_parts}
use Rattle.line_text.specs.Lines.{text_of}
use Rattle.line_text.specs.Words.{continues_name}
use Rattle.line_text.proofs.TellingLemmas.{AllPass, word_told, heads, tails, number_told, until_told}
use Rattle.netlist_verilog.specs.Wires.{name_of, signal_text}
use Rattle.report_text.specs.Rows.{digits_of, ref_text, gate_row, op_row, arc_row, line_unless_zero, arc_lines_from, arc_lines}
use Rattle.report_text.proofs.BelowLemmas.{flat_below, text_below, same_below, In, in_below, below_in}
use Rattle.netlist_verilog.proofs.FeedLemmas.{name_passes}
use Rattle.netlist_verilog.proofs.WordLemmas.{signal_told, name_is}
use Rattle.report_text.proofs.WordLemmas.{digits_told, ref_told}

-- the first line of more, before other text
pub line_first : (row : List ℕ) (ls : List (List ℕ)) (x : List ℕ) → text_of (row ∷ ls) ++ x ≡ row ++ 10 ∷ (text_of ls ++ x)
line_first row ls x = append_assoc (row ++ 10 ∷ []) (text_of ls) x ∙ append_assoc row (10 ∷ []) (text_of ls ++ x)

-- lines before lines, before other text
pub lists_split : (ks ns : List (List ℕ)) (z : List ℕ) → text_of (ks ++ ns) ++ z ≡ text_of ks ++ (text_of ns ++ z)
lists_split ks ns z = ap (λ t. t ++ z) (flat_map-append (λ l. l ++ 10 ∷ []) ks ns) ∙ append_assoc (text_of ks) (text_of ns) z

pub lists_differ : (ls ls' ms ms' : List (List ℕ)) (x y : List ℕ) → text_of (ls ++ ms) ++ x ≡ text_of (ls' ++ ms') ++ y → text_of ls ++ (text_of ms ++ x) ≡ text_of ls' ++ (text_of ms' ++ y)
lists_differ ls ls' ms ms' x y e = sym (lists_split ls ms x) ∙ e ∙ lists_split ls' ms' y

pub lines_differ : (row row' : List ℕ) (ls ls' : List (List ℕ)) (x y : List ℕ) → text_of (row ∷ ls) ++ x ≡ text_of (row' ∷ ls') ++ y → row ++ 10 ∷ (text_of ls ++ x) ≡ row' ++ 10 ∷ (text_of ls' ++ y)
lines_differ row row' ls ls' x y e = sym (line_first row ls x) ∙ e ∙ line_first row' ls' y

-- ---- gates

signal_step : (inputs m n : ℕ) (p q x y : List ℕ) → m < 2 ^ 64 → n < 2 ^ 64 → (signal_text inputs m ++ (32 ∷ p)) ++ x ≡ (signal_text inputs n ++ (32 ∷ q)) ++ y → (m ≡ n) × (p ++ x ≡ q ++ y)
signal_step inputs m n p q x y hm hn e =
    signal_told inputs m n 32 (p ++ x) (q ++ y) hm hn refl (sym (append_assoc (signal_text inputs m) (32 ∷ p) x) ∙ e
    ∙ append_assoc (signal_text inputs n) (32 ∷ q) y)

pub gate_told : (inputs i : ℕ) (g h : Gate) (x y : List ℕ) → i < 2 ^ 64 → g.j < 2 ^ 64 → g.k < 2 ^ 64 → g.table < 16 → h.j < 2 ^ 64 → h.k < 2 ^ 64 → h.table < 16
    → text_of (gate_row inputs i g ∷ []) ++ x ≡ text_of (gate_row inputs i h ∷ []) ++ y → (g ≡ h) × (x ≡ y)
gate_told inputs i g h x y hi gj gk gt hj hk ht e =
    let behind : Gate → List ℕ = λ (z : Gate). signal_text inputs z.j ++ (32 ∷ (signal_text inputs z.k ++ (32 ∷ digits_of 4 z.table))) in
    let a = tails 103 103 _ _ (lines_differ (gate_row inputs i g) (gate_row inputs i h) [] [] x y e) in
    let b = number_told i i 32 (behind g ++ 10 ∷ x) (behind h ++ 10 ∷ y) hi hi refl (sym (append_assoc (decimal i) (32 ∷ behind g) (10 ∷ x)) ∙ a ∙ append_assoc (decimal i) (32 ∷ behind h) (10 ∷ y)) in
    let c = signal_step inputs g.j h.j (signal_text inputs g.k ++ (32 ∷ digits_of 4 g.table)) (signal_text inputs h.k ++ (32 ∷ digits_of 4 h.table)) (10 ∷ x) (10 ∷ y) gj hj b.1 in
    let d = signal_step inputs g.k h.k (digits_of 4 g.table) (digits_of 4 h.table) (10 ∷ x) (10 ∷ y) gk hk c.1 in
    let t = digits_told 4 g.table h.table x y gt ht d.1 in
    (gate_by_parts g h c.0 d.0 t.0, t.1)

-- ---- the conditions of operations

pub op_told : (inputs signals : ℕ) (name : List ℕ) (r s : Ref) (x y : List ℕ) → signals ≤ 2 ^ 64 → IsRefOver signals r → IsRefOver signals s
    → text_of (op_row inputs name r ∷ []) ++ x ≡ text_of (op_row inputs name s ∷ []) ++ y → (r ≡ s) × (x ≡ y)
op_told inputs signals name r s x y fit hr hs e =
    let a = append_cancel_left (codes "op ") _ _ (lines_differ (op_row inputs name r) (op_row inputs name s) [] [] x y e) in
    let b = append_cancel_left name _ _ (sym (append_assoc name (32 ∷ ref_text inputs r) (10 ∷ x)) ∙ a ∙ append_assoc name (32 ∷ ref_text inputs s) (10 ∷ y)) in
    ref_told inputs signals r s x y fit hr hs (tails 32 32 _ _ b)

-- ---- the conditions of pairs

abbrev pub Entry : Type 0
Entry = ℕ × (ℕ × Ref)

abbrev pub entry : ℕ → ℕ → Ref → List Entry
entry u v (Const false) = []
entry u v (Const true) = (u, (v, Const true)) ∷ []
entry u v (Signal n negated) = (u, (v, Signal n negated)) ∷ []

abbrev pub entries_from : ConditionalGraph → ℕ → ℕ → List Entry
entries_from graph n u = each_below (λ v. entry u v (arc_ref graph u v)) n

abbrev pub arc_entries : ConditionalGraph → ℕ → List Entry
arc_entries graph n = each_below (entries_from graph n) n

abbrev pub entry_text : ℕ → List (List ℕ) → Entry → List ℕ
entry_text inputs names t = arc_row inputs (name_of names t.0) (name_of names t.1.0) t.1.1 ++ 10 ∷ []

one_text : (inputs : ℕ) (names : List (List ℕ)) (u v : ℕ) (r : Ref) →
    text_of (line_unless_zero (arc_row inputs (name_of names u) (name_of names v) r) r) ≡ flat_map
    (entry_text inputs names) (entry u v r)
one_text inputs names u v (Const false) = refl
one_text inputs names u v (Const true) = refl
one_text inputs names u v (Signal n negated) = refl

from_text : (inputs : ℕ) (names : List (List ℕ)) (graph : ConditionalGraph) (n u : ℕ) → text_of (arc_lines_from inputs names graph u n) ≡ flat_map (entry_text inputs names) (entries_from graph n u)
from_text inputs names graph n u =
    text_below (λ v. line_unless_zero (arc_row inputs (name_of names u) (name_of names v) (arc_ref graph u v)) (arc_ref graph u v)) n
    ∙ same_below _ _ n (λ v. one_text inputs names u v (arc_ref graph u v))
    ∙ sym (flat_below (entry_text inputs names) (λ v. entry u v (arc_ref graph u v)) n)

pub entries_text : (inputs : ℕ) (names : List (List ℕ)) (graph : ConditionalGraph) → text_of (arc_lines inputs names graph) ≡ flat_map (entry_text inputs names) (arc_entries graph (length names))
entries_text inputs names graph =
    text_below (λ u. arc_lines_from inputs names graph u (length names)) (length names)
    ∙ same_below _ _ (length names) (λ u. from_text inputs names graph (length names) u)
    ∙ sym (flat_below (entry_text inputs names) (entries_from graph (length names)) (length names))

abbrev pub FitsEntry : ℕ → ℕ → Entry → Type 0
FitsEntry n signals t = (t.0 < n) × ((t.1.0 < n) × IsRefOver signals t.1.1)

pub AllBy-append : {X : Type 0} (P : X → Type 0) (xs ys : List X) → AllByRecursion P xs → AllByRecursion P ys → AllByRecursion P (xs ++ ys)
AllBy-append P [] ys hx hy = hy
AllBy-append P (x ∷ xs) ys hx hy = (hx.0, AllBy-append P xs ys hx.1 hy)

pub AllBy-below : {X : Type 0} (P : X → Type 0) (f : ℕ → List X) (n : ℕ) → ((k : ℕ) → k < n → AllByRecursion P (f k)) → AllByRecursion P (each_below f n)
AllBy-below P f zero h = tt
AllBy-below P f (suc n) h = AllBy-append P (each_below f n) (f n) (AllBy-below P f n (λ k lt. h k (omega arith))) (h n (omega arith))

entry_fits : (n signals u v : ℕ) (r : Ref) → u < n → v < n → IsRefOver signals r → AllByRecursion (FitsEntry n signals) (entry u v r)
entry_fits n signals u v (Const false) hu hv h = tt
entry_fits n signals u v (Const true) hu hv h = ((hu, (hv, tt)), tt)
entry_fits n signals u v (Signal m negated) hu hv h = ((hu, (hv, h)), tt)

pub ref_over : (n signals : ℕ) (graph : ConditionalGraph) (u v : ℕ) → IsGraph n signals graph → u < n → v < n → IsRefOver signals (arc_ref graph u v)
ref_over n signals graph u v is hu hv = elim (cases_eq u v) [
  | inl e ↦ subst (IsRefOver signals) (sym (ap (arc_ref graph u) (sym e) ∙ is.diagonal u)) tt
  | inr ne ↦ is.over (Arc (record { 0 = u }) (record { 0 = v })) (hu, hv, ne)
]

pub entries_fit : (n signals : ℕ) (graph : ConditionalGraph) → IsGraph n signals graph → AllByRecursion (FitsEntry n signals) (arc_entries graph n)
entries_fit n signals graph is =
    AllBy-below (FitsEntry n signals) (entries_from graph n) n
    (λ u hu. AllBy-below (FitsEntry n signals) (λ v. entry u v (arc_ref graph u v)) n
    (λ v hv. entry_fits n signals u v (arc_ref graph u v) hu hv (ref_over n signals graph u v is hu hv)))

same_entry : (a b : Entry) → a.0 ≡ b.0 → a.1.0 ≡ b.1.0 → a.1.1 ≡ b.1.1 → a ≡ b
same_entry a b p q r = λ i. (p i, (q i, r i))

-- a name before a blank
pub name_step : (names : List (List ℕ)) (u v : ℕ) (p q x y : List ℕ) → AreDistinct names → AllByRecursion (AllPass continues_name) names → u < length names → v < length names
    → (name_of names u ++ (32 ∷ p)) ++ x ≡ (name_of names v ++ (32 ∷ q)) ++ y → (u ≡ v) × (p ++ x ≡ q ++ y)
name_step names u v p q x y distinct pass hu hv e =
    let r = word_told continues_name (name_of names u) (name_of names v) 32 (p ++ x) (q ++ y) (name_passes names u pass) (name_passes names v pass) refl
    (sym (append_assoc (name_of names u) (32 ∷ p) x) ∙ e ∙ append_assoc (name_of names v) (32 ∷ q) y) in
    (name_is names u v distinct hu hv r.0, r.1)

entry_told : (inputs signals : ℕ) (names : List (List ℕ)) → signals ≤ 2 ^ 64 → AreDistinct names → AllByRecursion (AllPass continues_name) names
    → (a b : Entry) (x y : List ℕ) → FitsEntry (length names) signals a → FitsEntry (length names) signals b → entry_text inputs names a ++ x ≡ entry_text inputs names b ++ y → (a ≡ b) × (x ≡ y)
entry_told inputs signals names fit distinct pass a b x y ha hb e =
    let first = append_assoc (arc_row inputs (name_of names a.0) (name_of names a.1.0) a.1.1) (10 ∷ []) x in
    let second = append_assoc (arc_row inputs (name_of names b.0) (name_of names b.1.0) b.1.1) (10 ∷ []) y in
    let p = append_cancel_left (codes "arc ") _ _ (sym first ∙ e ∙ second) in
    let q = name_step names a.0 b.0 (name_of names a.1.0 ++ (32 ∷ ref_text inputs a.1.1)) (name_of names b.1.0 ++ (32 ∷ ref_text inputs b.1.1)) (10 ∷ x) (10 ∷ y) distinct pass ha.0 hb.0 p in
    let r = name_step names a.1.0 b.1.0 (ref_text inputs a.1.1) (ref_text inputs b.1.1) (10 ∷ x) (10 ∷ y) distinct pass ha.1.0 hb.1.0 q.1 in
    let s = ref_told inputs signals a.1.1 b.1.1 x y fit ha.1.1 hb.1.1 r.1 in
    (same_entry a b q.0 r.0 s.0, s.1)

-- what follows the conditions of pairs begins with a later letter
abbrev pub IsAfterArcs : List ℕ → Type 0
IsAfterArcs x = (b : ℕ) × (r : List ℕ) × (97 < b) × (x ≡ b ∷ r)

entry_apart : (inputs : ℕ) (names : List (List ℕ)) (a : Entry) (x y : List ℕ) → IsAfterArcs y → entry_text inputs names a ++ x ≡ y → ⊥
entry_apart inputs names a x y h e = let k = heads 97 h.0 _ _ (e ∙ h.3) in omega (arith, k, h.2)

pub entries_told : (inputs signals : ℕ) (names : List (List ℕ)) (g h : ConditionalGraph) (x y : List ℕ) → signals ≤ 2 ^ 64 → AreDistinct names → AllByRecursion (AllPass continues_name) names
    → IsGraph (length names) signals g → IsGraph (length names) signals h → IsAfterArcs x → IsAfterArcs y → text_of (arc_lines inputs names g) ++ x ≡ text_of (arc_lines inputs names h) ++ y
    → (arc_entries g (length names) ≡ arc_entries h (length names)) × (x ≡ y)
entries_told inputs signals names g h x y fit distinct pass gs hs ex ey e =
    until_told (entry_text inputs names) (FitsEntry (length names) signals) IsAfterArcs (entry_told inputs signals names fit distinct pass) (entry_apart inputs names)
    (arc_entries g (length names)) (arc_entries h (length names)) x y (entries_fit (length names) signals g gs) (entries_fit (length names) signals h hs) ex ey
    (ap (λ z. z ++ x) (sym (entries_text inputs names g)) ∙ e ∙ ap (λ z. z ++ y) (entries_text inputs names h))

entry_in : (u v : ℕ) (r : Ref) → (r ≡ Const false) ⊎ In (u, (v, r)) (entry u v r)
entry_in u v (Const false) = inl refl
entry_in u v (Const true) = inr (inl refl)
entry_in u v (Signal n negated) = inr (inl refl)

in_entry : (t : Entry) (u v : ℕ) (r : Ref) → In t (entry u v r) → t ≡ (u, (v, r))
in_entry t u v (Const false) h = absurd h
in_entry t u v (Const true) h = elim h [ inl e ↦ e | inr n ↦ absurd n ]
in_entry t u v (Signal m negated) h = elim h [ inl e ↦ e | inr n ↦ absurd n ]

found : (g : ConditionalGraph) (n u v : ℕ) → u < n → v < n → (arc_ref g u v ≡ Const false) ⊎ In (u, (v, arc_ref g u v)) (arc_entries g n)
found g n u v hu hv = elim (entry_in u v (arc_ref g u v)) [
  | inl z ↦ inl z
  | inr h ↦ inr (in_below (u, (v, arc_ref g u v)) (entries_from g n) n u hu (in_below (u, (v, arc_ref g u v)) (λ w. entry u w (arc_ref g u w)) n v hv h))
]

only : (g : ConditionalGraph) (n u v : ℕ) (r : Ref) → In (u, (v, r)) (arc_entries g n) → arc_ref g u v ≡ r
only g n u v r h =
    let a = below_in (u, (v, r)) (entries_from g n) n h in
    let b = below_in (u, (v, r)) (λ w. entry a.0 w (arc_ref g a.0 w)) n a.2 in
    let e : (u, (v, r)) ≡ (a.0, (b.0, arc_ref g a.0 b.0)) = in_entry (u, (v, r)) a.0 b.0 (arc_ref g a.0 b.0) b.2 in
    ap₂ (arc_ref g) (ap (λ (t : Entry). t.0) e) (ap (λ (t : Entry). t.1.0) e) ∙ sym (ap (λ (t : Entry). t.1.1) e)

same_ref : (g h : ConditionalGraph) (n u v : ℕ) → arc_entries g n ≡ arc_entries h n → u < n → v < n → arc_ref g u v ≡ arc_ref h u v
same_ref g h n u v e hu hv = elim (found g n u v hu hv) [
  | inr i ↦ sym (only h n u v (arc_ref g u v) (subst (λ (ts : List Entry). In (u, (v, arc_ref g u v)) ts) e i))
  | inl z ↦ elim (found h n u v hu hv) [
    | inr i ↦ only g n u v (arc_ref h u v) (subst (λ (ts : List Entry). In (u, (v, arc_ref h u v)) ts) (sym e) i)
    | inl z' ↦ z ∙ sym z'
  ]
]

pub same_graph : (n signals : ℕ) (g h : ConditionalGraph) → IsGraph n signals g → IsGraph n signals h → ((v : ℕ) → v < n → op_ref g v ≡ op_ref h v) → arc_entries g n ≡ arc_entries h n → g ≡ h
same_graph n signals g h gs hs ops e =
    let same_ops = ext_get_or (Const false) g.ops h.ops (gs.ops ∙ sym hs.ops) (λ v lt. ops v (omega (arith, gs.ops))) in
    let same_arcs = ext_get_or [] g.arcs h.arcs (gs.arcs ∙ sym hs.arcs) (λ u lt.
    let hu : u < n = omega (arith, gs.arcs) in
    ext_get_or (Const false) (get_or g.arcs u []) (get_or h.arcs u []) (gs.rows u hu ∙ sym (hs.rows u hu)) (λ v lt'. same_ref g h n u v e hu (omega (arith, gs.rows u hu)))) in
    λ i. record { ops = same_ops i; arcs = same_arcs i }
