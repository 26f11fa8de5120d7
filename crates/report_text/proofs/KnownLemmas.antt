-- The lines of what is known tell it: the bound, what shows it, and what is left open.
use Rattle.std.proofs.Common.{◌≡◌, ℕ, ◌<◌, ◌≤◌, ◌^◌, List, [], ◌∷◌, ◌++◌, map, length, refl, sym, ap, ap₂, ◌∙◌, subst, arith, append_assoc}
use Rattle.std.specs.Prelude.{codes}
use Rattle.std.specs.List.{AllByRecursion, flat_map}
use Rattle.std.specs.Fmt.{decimal}
use Rattle.std.proofs.lemmas.List.{append_cancel_left}
use Rattle.std.proofs.lemmas.List.Elements.{recursion_from_All}
use Rattle.cpog_base.specs.Names.{AreDistinct}
use Rattle.cpog_defs.specs.declared.types.OpId.{OpId}
use Rattle.cpog_defs.specs.declared.types.Place.{Place}
use Rattle.cpog_defs.specs.declared.types.Place.TheVariants.{Op, Arc}
use Rattle.cpog_defs.specs.Graphs.{IsPlace}
use Rattle.line_text.specs.Lines.{text_of}
use Rattle.line_text.specs.Words.{continues_name}
use Rattle.line_text.proofs.TellingLemmas.{AllPass, word_told, heads, number_told, until_told}
use Rattle.gate_template.specs.declared.types.Template.{Template}
use Rattle.gate_template.specs.declared.types.Template.TheVariants.{First, Second, Third}
use Rattle.cnf_build.specs.Evidence.{EvidenceValue, OpenValue}
use Rattle.netlist_verilog.specs.Wires.{name_of}
use Rattle.netlist_verilog.proofs.FeedLemmas.{name_passes}
use Rattle.netlist_verilog.proofs.WordLemmas.{name_is}
use Rattle.report_text.specs.declared.bound.Bound.{Bound}
use Rattle.report_text.specs.declared.bound.Bound.TheVariants.{Minimum, Between}
use Rattle.report_text.specs.Report.{IsBound, IsReportEvidence, IsReportOpen}
use Rattle.report_text.specs.Rows.{bound_row, template_number, template_text, place_row}
use Rattle.report_text.specs.Spelling.{SpellsEvidence, SpellsOpen}
use Rattle.report_text.proofs.RowLemmas.{lines_differ, name_step, IsAfterArcs}
use Rattle.report_text.proofs.SpellingLemmas.{in_forms, log_told}

-- ---- the bound

pub bound_told : (limit : ℕ) (a b : Bound) (x y : List ℕ) → limit ≤ 2 ^ 64 → IsBound limit a → IsBound limit b → bound_row a ++ 10 ∷ x ≡ bound_row b ++ 10 ∷ y → (a ≡ b) × (x ≡ y)
bound_told limit (Minimum g) (Minimum h) x y fit ha hb e =
    let t = number_told g h 10 x y (omega (arith, fit, ha)) (omega (arith, fit, hb)) refl (append_cancel_left (codes "minimum ") _ _ e) in
    (ap (λ k. Minimum k) t.0, t.1)
bound_told limit (Minimum g) (Between lo hi) x y fit ha hb e = absurd (omega (arith, heads 109 98 _ _ e))
bound_told limit (Between lo hi) (Minimum h) x y fit ha hb e = absurd (omega (arith, heads 98 109 _ _ e))
bound_told limit (Between lo hi) (Between lo' hi') x y fit ha hb e =
    let a = append_cancel_left (codes "between ") _ _ e in
    let b =
    number_told lo lo' 32 (decimal hi ++ 10 ∷ x) (decimal hi' ++ 10 ∷ y) (omega (arith, fit, ha.0)) (omega (arith, fit, hb.0)) refl
    (sym (append_assoc (decimal lo) (32 ∷ decimal hi) (10 ∷ x)) ∙ a ∙ append_assoc (decimal lo') (32 ∷ decimal hi') (10 ∷ y)) in
    let c = number_told hi hi' 10 x y (omega (arith, fit, ha.1)) (omega (arith, fit, hb.1)) refl b.1 in
    (ap₂ (λ m n. Between m n) b.0 c.0, c.1)

-- what follows the arcs
pub bound_after : (b : Bound) (x : List ℕ) → IsAfterArcs (bound_row b ++ 10 ∷ x)
bound_after (Minimum h) x = (109, _, omega arith, refl)
bound_after (Between lo hi) x = (98, _, omega arith, refl)

-- ---- a template and its number of gates

same_template : (t u : Template) → template_number t ≡ template_number u → t ≡ u
same_template First First e = refl
same_template First Second e = absurd (omega (arith, e))
same_template First Third e = absurd (omega (arith, e))
same_template Second First e = absurd (omega (arith, e))
same_template Second Second e = refl
same_template Second Third e = absurd (omega (arith, e))
same_template Third First e = absurd (omega (arith, e))
same_template Third Second e = absurd (omega (arith, e))
same_template Third Third e = refl

pub number_fits : (t : Template) → template_number t < 2 ^ 64
number_fits First = omega arith
number_fits Second = omega arith
number_fits Third = omega arith

template_told : (t u : Template) (g h : ℕ) (x y : List ℕ) → g < 2 ^ 64 → h < 2 ^ 64 → template_text t g ++ 10 ∷ x ≡ template_text u h ++ 10 ∷ y → ((t ≡ u) × (g ≡ h)) × (x ≡ y)
template_told t u g h x y hg hh e =
    let a =
    number_told (template_number t) (template_number u) 32 (decimal g ++ 10 ∷ x) (decimal h ++ 10 ∷ y) (number_fits t) (number_fits u) refl
    (sym (append_assoc (decimal (template_number t)) (32 ∷ decimal g) (10 ∷ x)) ∙ e ∙ append_assoc (decimal (template_number u)) (32 ∷ decimal h) (10 ∷ y)) in
    let b = number_told g h 10 x y hg hh refl a.1 in
    ((same_template t u a.0, b.0), b.1)

-- ---- places

abbrev place_text : List (List ℕ) → Place → List ℕ
place_text names p = place_row names p ++ 10 ∷ []

same_op : (u v : OpId) → u.0 ≡ v.0 → u ≡ v
same_op u v e = λ i. record { 0 = e i }

place_told : (names : List (List ℕ)) → AreDistinct names → AllByRecursion (AllPass continues_name) names → (p q : Place) (x y : List ℕ) → IsPlace (length names) p → IsPlace (length names) q
    → place_text names p ++ x ≡ place_text names q ++ y → (p ≡ q) × (x ≡ y)
place_told names distinct pass (Op u) (Op v) x y hp hq e =
    let a = append_cancel_left (codes "op ") _ _ e in
    let b =
    word_told continues_name (name_of names u.0) (name_of names v.0) 10 x y (name_passes names u.0 pass) (name_passes names v.0 pass) refl
    (sym (append_assoc (name_of names u.0) (10 ∷ []) x) ∙ a ∙ append_assoc (name_of names v.0) (10 ∷ []) y) in
    (ap (λ w. Op w) (same_op u v (name_is names u.0 v.0 distinct hp hq b.0)), b.1)
place_told names distinct pass (Op u) (Arc v w) x y hp hq e = absurd (omega (arith, heads 111 97 _ _ e))
place_told names distinct pass (Arc u v) (Op w) x y hp hq e = absurd (omega (arith, heads 97 111 _ _ e))
place_told names distinct pass (Arc u v) (Arc u' v') x y hp hq e =
    let a = append_cancel_left (codes "arc ") _ _ e in
    let first = name_of names u.0 ++ (32 ∷ name_of names v.0) in
    let second = name_of names u'.0 ++ (32 ∷ name_of names v'.0) in
    let b = name_step names u.0 u'.0 (name_of names v.0) (name_of names v'.0) (10 ∷ x) (10 ∷ y) distinct pass hp.0 hq.0 (sym (append_assoc first (10 ∷ []) x) ∙ a ∙ append_assoc second (10 ∷ []) y) in
    let c = word_told continues_name (name_of names v.0) (name_of names v'.0) 10 x y (name_passes names v.0 pass) (name_passes names v'.0 pass) refl b.1 in
    (ap₂ (λ m n. Arc m n) (same_op u u' b.0) (same_op v v' (name_is names v.0 v'.0 distinct hp.1 hq.1 c.0)), c.1)

-- what follows the evidence begins with these letters
abbrev pub IsAfterEvidence : List ℕ → Type 0
IsAfterEvidence x = (r : List ℕ) × (x ≡ 111 ∷ 112 ∷ 101 ∷ r)

place_apart : (names : List (List ℕ)) (p : Place) (x y : List ℕ) → IsAfterEvidence y → place_text names p ++ x ≡ y → ⊥
place_apart names (Op v) x y h e = let a = append_cancel_left (codes "op") _ _ (e ∙ h.1) in omega (arith, heads 32 101 _ _ a)
place_apart names (Arc u v) x y h e = omega (arith, heads 97 111 _ _ (e ∙ h.1))

places_text : (names : List (List ℕ)) (ps : List Place) → text_of (map (place_row names) ps) ≡ flat_map (place_text names) ps
places_text names [] = refl
places_text names (p ∷ ps) = ap (λ (t : List ℕ). place_text names p ++ t) (places_text names ps)

places_told : (names : List (List ℕ)) (ps qs : List Place) (x y : List ℕ) → AreDistinct names → AllByRecursion (AllPass continues_name) names →
    AllByRecursion (IsPlace (length names)) ps → AllByRecursion (IsPlace (length names)) qs → IsAfterEvidence x → IsAfterEvidence y
    → text_of (map (place_row names) ps) ++ x ≡ text_of (map (place_row names) qs) ++ y → (ps ≡ qs) × (x ≡ y)
places_told names ps qs x y distinct pass hp hq ex ey e =
    until_told (place_text names) (IsPlace (length names)) IsAfterEvidence (place_told names distinct pass) (place_apart names) ps qs x y hp hq ex ey
    (ap (λ (t : List ℕ). t ++ x) (sym (places_text names ps)) ∙ e ∙ ap (λ (t : List ℕ). t ++ y) (places_text names qs))

-- ---- evidence

places_by : (n : ℕ) (ps : List Place) → IsReportEvidence n 0 (EvidenceValue.Count ps) → AllByRecursion (IsPlace n) ps
places_by n ps h = recursion_from_All (IsPlace n) ps h

pub evidence_told : (limit : ℕ) (names : List (List ℕ)) (a b : EvidenceValue) (la lb : List (List ℕ)) (x y : List ℕ) → limit ≤ 2 ^ 64 → AreDistinct names → AllByRecursion (AllPass continues_name) names
    → IsReportEvidence (length names) limit a → IsReportEvidence (length names) limit b → SpellsEvidence names a la → SpellsEvidence names b lb → IsAfterEvidence x → IsAfterEvidence y
    → text_of la ++ x ≡ text_of lb ++ y → (a ≡ b) × (x ≡ y)
evidence_told limit names EvidenceValue.Zero EvidenceValue.Zero la lb x y fit distinct pass ha hb sa sb ex ey e = (refl, append_cancel_left (codes "evidence zero\n") _ _ (in_forms la (codes "evidence zero" ∷ []) lb (codes "evidence zero" ∷ []) x y sa sb e))
evidence_told limit names EvidenceValue.Zero (EvidenceValue.Count qs) la lb x y fit distinct pass ha hb sa sb ex ey e = absurd (omega (arith, heads 122 99 _ _ (append_cancel_left (codes "evidence ") _ _ (in_forms la (codes "evidence zero" ∷ []) lb (codes "evidence count" ∷ map (place_row names) qs) x y sa sb e))))
evidence_told limit names EvidenceValue.Zero (EvidenceValue.Refutation u h ms) la lb x y fit distinct pass ha hb sa sb ex ey e = absurd (omega (arith, heads 122 114 _ _ (append_cancel_left (codes "evidence ") _ _ (in_forms la (codes "evidence zero" ∷ []) lb ((codes "evidence refutation " ++ template_text u h) ∷ sb.0) x y sa sb.1 e))))
evidence_told limit names (EvidenceValue.Count ps) EvidenceValue.Zero la lb x y fit distinct pass ha hb sa sb ex ey e = absurd (omega (arith, heads 99 122 _ _ (append_cancel_left (codes "evidence ") _ _ (in_forms la (codes "evidence count" ∷ map (place_row names) ps) lb (codes "evidence zero" ∷ []) x y sa sb e))))
evidence_told limit names (EvidenceValue.Count ps) (EvidenceValue.Count qs) la lb x y fit distinct pass ha hb sa sb ex ey e =
    let r = places_told names ps qs x y distinct pass (places_by (length names) ps ha) (places_by (length names) qs hb) ex ey (append_cancel_left (codes "evidence count\n") _ _ (in_forms la (codes "evidence count" ∷ map (place_row names) ps) lb (codes "evidence count" ∷ map (place_row names) qs) x y sa sb e)) in
    (ap (λ z. EvidenceValue.Count z) r.0, r.1)
evidence_told limit names (EvidenceValue.Count ps) (EvidenceValue.Refutation u h ms) la lb x y fit distinct pass ha hb sa sb ex ey e = absurd (omega (arith, heads 99 114 _ _ (append_cancel_left (codes "evidence ") _ _ (in_forms la (codes "evidence count" ∷ map (place_row names) ps) lb ((codes "evidence refutation " ++ template_text u h) ∷ sb.0) x y sa sb.1 e))))
evidence_told limit names (EvidenceValue.Refutation t g ls) EvidenceValue.Zero la lb x y fit distinct pass ha hb sa sb ex ey e = absurd (omega (arith, heads 114 122 _ _ (append_cancel_left (codes "evidence ") _ _ (in_forms la ((codes "evidence refutation " ++ template_text t g) ∷ sa.0) lb (codes "evidence zero" ∷ []) x y sa.1 sb e))))
evidence_told limit names (EvidenceValue.Refutation t g ls) (EvidenceValue.Count qs) la lb x y fit distinct pass ha hb sa sb ex ey e = absurd (omega (arith, heads 114 99 _ _ (append_cancel_left (codes "evidence ") _ _ (in_forms la ((codes "evidence refutation " ++ template_text t g) ∷ sa.0) lb (codes "evidence count" ∷ map (place_row names) qs) x y sa.1 sb e))))
evidence_told limit names (EvidenceValue.Refutation t g ls) (EvidenceValue.Refutation u h ms) la lb x y fit distinct pass ha hb sa sb ex ey e =
    let line = lines_differ (codes "evidence refutation " ++ template_text t g) (codes "evidence refutation " ++ template_text u h) sa.0 sb.0 x y (in_forms la ((codes "evidence refutation " ++ template_text t g) ∷ sa.0) lb ((codes "evidence refutation " ++ template_text u h) ∷ sb.0) x y sa.1 sb.1 e) in
    let r = template_told t u g h (text_of sa.0 ++ x) (text_of sb.0 ++ y) (omega (arith, fit, ha.0)) (omega (arith, fit, hb.0)) (append_cancel_left (codes "evidence refutation ") _ _ line) in
    let s = log_told sa.0 sb.0 ls ms x y sa.2 sb.2 r.1 in
    ((λ i. EvidenceValue.Refutation (r.0.0 i) (r.0.1 i) (s.0 i)), s.1)

-- ---- what is left open

-- what follows the evidence
pub open_after : (o : OpenValue) (lines : List (List ℕ)) (x : List ℕ) → SpellsOpen o lines → IsAfterEvidence (text_of lines ++ x)
open_after OpenValue.Closed lines x h = subst (λ (z : List (List ℕ)). IsAfterEvidence (text_of z ++ x)) (sym h) (_, refl)
open_after (OpenValue.Log t g ls) lines x h = subst (λ (z : List (List ℕ)). IsAfterEvidence (text_of z ++ x)) (sym h.1) (_, refl)
open_after (OpenValue.Size t g) lines x h = subst (λ (z : List (List ℕ)). IsAfterEvidence (text_of z ++ x)) (sym h) (_, refl)

pub open_told : (limit : ℕ) (a b : OpenValue) (la lb : List (List ℕ)) (x y : List ℕ) → limit ≤ 2 ^ 64 → IsReportOpen limit a → IsReportOpen limit b → SpellsOpen a la → SpellsOpen b lb
    → text_of la ++ x ≡ text_of lb ++ y → (a ≡ b) × (x ≡ y)
open_told limit OpenValue.Closed OpenValue.Closed la lb x y fit ha hb sa sb e = (refl, append_cancel_left (codes "open none\n") _ _ (in_forms la (codes "open none" ∷ []) lb (codes "open none" ∷ []) x y sa sb e))
open_told limit OpenValue.Closed (OpenValue.Log u h ms) la lb x y fit ha hb sa sb e = absurd (omega (arith, heads 110 108 _ _ (append_cancel_left (codes "open ") _ _ (in_forms la (codes "open none" ∷ []) lb ((codes "open log " ++ template_text u h) ∷ sb.0) x y sa sb.1 e))))
open_told limit OpenValue.Closed (OpenValue.Size u h) la lb x y fit ha hb sa sb e = absurd (omega (arith, heads 110 115 _ _ (append_cancel_left (codes "open ") _ _ (in_forms la (codes "open none" ∷ []) lb ((codes "open size " ++ template_text u h) ∷ []) x y sa sb e))))
open_told limit (OpenValue.Log t g ls) OpenValue.Closed la lb x y fit ha hb sa sb e = absurd (omega (arith, heads 108 110 _ _ (append_cancel_left (codes "open ") _ _ (in_forms la ((codes "open log " ++ template_text t g) ∷ sa.0) lb (codes "open none" ∷ []) x y sa.1 sb e))))
open_told limit (OpenValue.Log t g ls) (OpenValue.Log u h ms) la lb x y fit ha hb sa sb e =
    let line = lines_differ (codes "open log " ++ template_text t g) (codes "open log " ++ template_text u h) sa.0 sb.0 x y (in_forms la ((codes "open log " ++ template_text t g) ∷ sa.0) lb ((codes "open log " ++ template_text u h) ∷ sb.0) x y sa.1 sb.1 e) in
    let r = template_told t u g h (text_of sa.0 ++ x) (text_of sb.0 ++ y) (omega (arith, fit, ha.0)) (omega (arith, fit, hb.0)) (append_cancel_left (codes "open log ") _ _ line) in
    let s = log_told sa.0 sb.0 ls ms x y sa.2 sb.2 r.1 in
    ((λ i. OpenValue.Log (r.0.0 i) (r.0.1 i) (s.0 i)), s.1)
open_told limit (OpenValue.Log t g ls) (OpenValue.Size u h) la lb x y fit ha hb sa sb e = absurd (omega (arith, heads 108 115 _ _ (append_cancel_left (codes "open ") _ _ (in_forms la ((codes "open log " ++ template_text t g) ∷ sa.0) lb ((codes "open size " ++ template_text u h) ∷ []) x y sa.1 sb e))))
open_told limit (OpenValue.Size t g) OpenValue.Closed la lb x y fit ha hb sa sb e = absurd (omega (arith, heads 115 110 _ _ (append_cancel_left (codes "open ") _ _ (in_forms la ((codes "open size " ++ template_text t g) ∷ []) lb (codes "open none" ∷ []) x y sa sb e))))
open_told limit (OpenValue.Size t g) (OpenValue.Log u h ms) la lb x y fit ha hb sa sb e = absurd (omega (arith, heads 115 108 _ _ (append_cancel_left (codes "open ") _ _ (in_forms la ((codes "open size " ++ template_text t g) ∷ []) lb ((codes "open log " ++ template_text u h) ∷ sb.0) x y sa sb.1 e))))
open_told limit (OpenValue.Size t g) (OpenValue.Size u h) la lb x y fit ha hb sa sb e =
    let line = lines_differ (codes "open size " ++ template_text t g) (codes "open size " ++ template_text u h) [] [] x y (in_forms la ((codes "open size " ++ template_text t g) ∷ []) lb ((codes "open size " ++ template_text u h) ∷ []) x y sa sb e) in
    let r = template_told t u g h x y (omega (arith, fit, ha)) (omega (arith, fit, hb)) (append_cancel_left (codes "open size ") _ _ line) in
    ((λ i. OpenValue.Size (r.0.0 i) (r.0.1 i)), r.1)
