-- The first lines of evidence and of what is left open, and the places of a count, are read exactly.
use Rattle.std.proofs.Common.{◌≡◌, ◌≢◌, ℕ, ◌<◌, ◌≤◌, ◌^◌, true, false, List, [], ◌∷◌, ◌++◌, length, Option, Some, None, refl, sym, ap, subst, ◌∙◌, arith, inl, inr}
use Rattle.std.specs.Prelude.{codes, ◌==◌}
use Rattle.std.specs.Fmt.{decimal}
use Rattle.std.specs.Str.{bytes_eq}
use Rattle.std.specs.List.{AllByRecursion, position_or_len}
use Rattle.std.proofs.lemmas.Bool.{cases_Bool, lt-ltb, ne_eqb, eqb-true, eqb-false}
use Rattle.std.proofs.lemmas.List.Sums.{position_or_len_is}
use Rattle.std.proofs.lemmas.List.Quantifiers.{position-Some}
use Rattle.std.proofs.lemmas.List.Elements.{All-from_recursion}
use Rattle.std.proofs.lemmas.Slice.Eq.{bytes_eq-Decides}
use Rattle.cpog_base.specs.Names.{AreDistinct}
use Rattle.cpog_defs.specs.declared.types.Place.{Place}
use Rattle.cpog_defs.specs.declared.types.Place.TheVariants.{Op, Arc}
use Rattle.cpog_defs.specs.Graphs.{IsPlace}
use Rattle.line_text.specs.Words.{is_free_name, continues_name}
use Rattle.line_text.proofs.TellingLemmas.{AllPass, free_name_passes}
use Rattle.netlist_verilog.specs.Module.{AreNames}
use Rattle.netlist_verilog.specs.Wires.{name_of}
use Rattle.netlist_verilog.proofs.WordLemmas.{name_is}
use Rattle.gate_template.specs.declared.types.Template.{Template}
use Rattle.gate_template.specs.declared.types.Template.TheVariants.{First, Second, Third}
use Rattle.report_text.specs.Rows.{template_number, template_text, place_row}
use Rattle.line_rows.specs.Words.{behind, behind_of, pair_of, made_of}
use Rattle.line_rows.proofs.Exact.{IsExact, IsWord, number_exact, exact-pair, exact-made, decimal_word, is_blank, some_of, some_is, chosen, same_bytes, behind_again, behind_takes}
use Rattle.evidence_reader.specs.Rows.{kind_of, kind_in, template_in, evidence_row, IsEvidenceHead, refutation_of, evidence_head_in, open_row, IsOpenHead, open_log_of, open_size_of, open_head_in, known_in, op_of, arc_of, place_in, is_member_row}
use Rattle.evidence_reader.specs.declared.heads.EvidenceHead.{EvidenceHead}
use Rattle.evidence_reader.specs.declared.heads.EvidenceHead.TheVariants as evidence_heads
use Rattle.evidence_reader.specs.declared.heads.OpenHead.{OpenHead}
use Rattle.evidence_reader.specs.declared.heads.OpenHead.TheVariants as open_heads
use Rattle.evidence_reader.proofs.LogLineLaws.{bytes_apart, first_from}

-- ---- templates

number_small : (kind : Template) → template_number kind < 4
number_small First = omega arith
number_small Second = omega arith
number_small Third = omega arith

kind_again : (kind : Template) → kind_of (template_number kind) ≡ Some kind
kind_again First = refl
kind_again Second = refl
kind_again Third = refl

kind_takes : (n : ℕ) (kind : Template) → kind_of n ≡ Some kind → template_number kind ≡ n
kind_takes n kind e = elim (chosen (n == 1) First _ kind e) [
  | inl h ↦ ap template_number (sym h.1) ∙ sym (eqb-true n 1 h.0)
  | inr h ↦ elim (chosen (n == 2) Second _ kind h.1) [
    | inl g ↦ ap template_number (sym g.1) ∙ sym (eqb-true n 2 g.0)
    | inr g ↦ elim (chosen (n == 3) Third None kind g.1) [
      | inl f ↦ ap template_number (sym f.1) ∙ sym (eqb-true n 3 f.0)
      | inr f ↦ absurd cc
    ]
  ]
]

kind_exact : IsExact (λ (k : Template). Unit {0}) (λ k. decimal (template_number k)) kind_in
unfolding kind_in
kind_exact = exact-made kind_of (λ (k : Template). Unit {0}) (λ k. decimal (template_number k)) (number_exact 4 (omega arith))
    (λ kind h. (template_number kind, number_small kind, kind_again kind, refl))
    (λ n kind lt e. (tt, ap decimal (kind_takes n kind e)))

kind_word : IsWord (λ (k : Template). Unit {0}) (λ k. decimal (template_number k))
kind_word = record { no_blank = λ kind h. (decimal_word 4 (omega arith)).no_blank (template_number kind) (number_small kind) }

abbrev pub IsTemplateBelow : ℕ → Template × ℕ → Type 0
IsTemplateBelow limit x = Unit {0} × (x.1 < limit)

template_exact : (limit : ℕ) → limit ≤ 2 ^ 64 → IsExact (IsTemplateBelow limit) (λ x. template_text x.0 x.1) (template_in limit)
unfolding template_in
template_exact limit fits = exact-pair kind_exact kind_word (λ kind h. number_exact limit fits)

-- ---- a template behind words

behind_template_again : {X : Type 0} (limit : ℕ) → limit ≤ 2 ^ 64 → (front : List ℕ) (make : Template × ℕ → Option X) (kind : Template) (gates : ℕ) → gates < limit → behind_of front (made_of make (template_in limit)) (front ++ template_text kind gates) ≡ make (kind, gates)
behind_template_again limit fits front make kind gates lt = rw (behind_again front (template_text kind gates), (template_exact limit fits).again (kind, gates) (tt, lt)) refl

behind_template_takes : {X : Type 0} (limit : ℕ) → limit ≤ 2 ^ 64 → (front : List ℕ) (make : Template × ℕ → Option X) (line : List ℕ) (x : X) → behind_of front (made_of make (template_in limit)) line ≡ Some x
    → (t : Template × ℕ) × (t.1 < limit) × (line ≡ front ++ template_text t.0 t.1) × (make t ≡ Some x)
behind_template_takes limit fits front make line x e =
    let r = some_of (behind front line) (made_of make (template_in limit)) x e in
    let t = some_of (template_in limit r.0) make x r.2 in
    let k = (template_exact limit fits).takes r.0 t.0 t.1 in
    (t.0, k.0.1, behind_takes front line r.0 r.1 ∙ ap (λ (b : List ℕ). front ++ b) k.1, t.2)

-- ---- the first line of evidence

evidence_again : (limit : ℕ) → limit ≤ 2 ^ 64 → (h : EvidenceHead) → IsEvidenceHead limit h → evidence_head_in limit (evidence_row h) ≡ Some h
unfolding evidence_head_in
evidence_again limit fits evidence_heads.Zero is = refl
evidence_again limit fits evidence_heads.Count is = refl
evidence_again limit fits (evidence_heads.Refutation kind gates) is = behind_template_again limit fits (codes "evidence refutation ") refutation_of kind gates is

evidence_takes : (limit : ℕ) → limit ≤ 2 ^ 64 → (line : List ℕ) (h : EvidenceHead) → evidence_head_in limit line ≡ Some h → IsEvidenceHead limit h × (line ≡ evidence_row h)
unfolding evidence_head_in
evidence_takes limit fits line h e = elim (chosen (bytes_eq line (codes "evidence zero")) evidence_heads.Zero _ h e) [
  | inl z ↦ subst (λ (x : EvidenceHead). IsEvidenceHead limit x × (line ≡ evidence_row x)) z.1 (tt, (bytes_eq-Decides line (codes "evidence zero")).0 z.0)
  | inr z ↦ elim (chosen (bytes_eq line (codes "evidence count")) evidence_heads.Count _ h z.1) [
    | inl c ↦ subst (λ (x : EvidenceHead). IsEvidenceHead limit x × (line ≡ evidence_row x)) c.1 (tt, (bytes_eq-Decides line (codes "evidence count")).0 c.0)
    | inr c ↦
        let t = behind_template_takes limit fits (codes "evidence refutation ") refutation_of line h c.1 in
        subst (λ (x : EvidenceHead). IsEvidenceHead limit x × (line ≡ evidence_row x)) (some_is (evidence_heads.Refutation t.0.0 t.0.1) h t.3) (t.1, t.2)
  ]
]

pub evidence_head_exact : (limit : ℕ) → limit ≤ 2 ^ 64 → IsExact (IsEvidenceHead limit) evidence_row (evidence_head_in limit)
evidence_head_exact limit fits = record {
  again = λ h is. evidence_again limit fits h is;
  takes = λ line h e. evidence_takes limit fits line h e;
}

-- ---- the first line of what is left open

open_again : (limit : ℕ) → limit ≤ 2 ^ 64 → (h : OpenHead) → IsOpenHead limit h → open_head_in limit (open_row h) ≡ Some h
unfolding open_head_in behind
open_again limit fits open_heads.Closed is = refl
open_again limit fits (open_heads.Log kind gates) is = rw (behind_template_again limit fits (codes "open log ") open_log_of kind gates is) refl
open_again limit fits (open_heads.Size kind gates) is = behind_template_again limit fits (codes "open size ") open_size_of kind gates is

open_takes : (limit : ℕ) → limit ≤ 2 ^ 64 → (line : List ℕ) (h : OpenHead) → open_head_in limit line ≡ Some h → IsOpenHead limit h × (line ≡ open_row h)
unfolding open_head_in
open_takes limit fits line h e = elim (chosen (bytes_eq line (codes "open none")) open_heads.Closed _ h e) [
  | inl z ↦ subst (λ (x : OpenHead). IsOpenHead limit x × (line ≡ open_row x)) z.1 (tt, (bytes_eq-Decides line (codes "open none")).0 z.0)
  | inr z ↦ elim (first_from (behind_of (codes "open log ") (made_of open_log_of (template_in limit)) line) (behind_of (codes "open size ") (made_of open_size_of (template_in limit)) line) h z.1) [
    | inl l ↦
        let t = behind_template_takes limit fits (codes "open log ") open_log_of line h l in
        subst (λ (x : OpenHead). IsOpenHead limit x × (line ≡ open_row x)) (some_is (open_heads.Log t.0.0 t.0.1) h t.3) (t.1, t.2)
    | inr l ↦
        let t = behind_template_takes limit fits (codes "open size ") open_size_of line h l.1 in
        subst (λ (x : OpenHead). IsOpenHead limit x × (line ≡ open_row x)) (some_is (open_heads.Size t.0.0 t.0.1) h t.3) (t.1, t.2)
  ]
]

pub open_head_exact : (limit : ℕ) → limit ≤ 2 ^ 64 → IsExact (IsOpenHead limit) open_row (open_head_in limit)
open_head_exact limit fits = record {
  again = λ h is. open_again limit fits h is;
  takes = λ line h e. open_takes limit fits line h e;
}

-- ---- places

module _ (names : List (List ℕ)) (are : AreNames names) (distinct : AreDistinct names) where
  first_place : (v : ℕ) → v < length names → position_or_len (bytes_eq (name_of names v)) names ≡ v
  first_place v lt = position_or_len_is (bytes_eq (name_of names v)) names v [] (omega (arith, lt))
      (λ k below. bytes_apart (name_of names v) (name_of names k) (λ e. absurd (omega (arith, below, name_is names v k distinct lt (omega (arith, below, lt)) e))))
      (λ _. same_bytes (name_of names v))

  known_again : (v : ℕ) → v < length names → known_in names (name_of names v) ≡ Some v
  unfolding known_in
  known_again v lt =
      let free : is_free_name (name_of names v) ≡ true = are v [] lt in
      rw (free, first_place v lt, lt-ltb v (length names) lt) refl

  known_takes : (word : List ℕ) (v : ℕ) → known_in names word ≡ Some v → (v < length names) × (word ≡ name_of names v)
  unfolding known_in
  known_takes word v e = elim (cases_Bool (is_free_name word)) [
    | inl t ↦
        let p = position-Some (bytes_eq word) names v [] (sym (rw t refl) ∙ e) in
        (p.0, (bytes_eq-Decides word (name_of names v)).0 p.1)
    | inr f ↦ let none : None ≡ Some v = sym (rw f refl) ∙ e in absurd cc
  ]

  known_exact : IsExact (λ v. v < length names) (name_of names) (known_in names)
  known_exact = record { again = known_again; takes = known_takes }

  no_blank_byte : (b : ℕ) → continues_name b ≡ true → is_blank b ≡ false
  no_blank_byte b h = ne_eqb b 32 (λ e. let t : continues_name 32 ≡ true = subst (λ (x : ℕ). continues_name x ≡ true) e h in absurd cc)

  no_blank : (w : List ℕ) → AllPass continues_name w → AllByRecursion (λ b. is_blank b ≡ false) w
  no_blank [] h = tt
  no_blank (b ∷ bs) h = (no_blank_byte b h.0, no_blank bs h.1)

  known_word : IsWord (λ v. v < length names) (name_of names)
  known_word = record { no_blank = λ v lt. All-from_recursion (λ b. is_blank b ≡ false) (name_of names v) (no_blank (name_of names v) (free_name_passes (name_of names v) (are v [] lt))) }

  arc_exact : IsExact (λ (x : ℕ × ℕ). (x.0 < length names) × (x.1 < length names)) (λ x. name_of names x.0 ++ 32 ∷ name_of names x.1) (pair_of (known_in names) (λ _. known_in names))
  arc_exact = exact-pair known_exact known_word (λ u lt. known_exact)

  place_again : (p : Place) → IsPlace (length names) p → place_in names (place_row names p) ≡ Some p
  unfolding place_in behind
  place_again (Op v) is = rw (known_again v.0 is) refl
  place_again (Arc u v) is = rw (arc_exact.again (u.0, v.0) (is.0, is.1), ne_eqb u.0 v.0 is.2) refl

  arc_takes : (x : ℕ × ℕ) (p : Place) → arc_of x ≡ Some p → (x.0 ≢ x.1) × (Arc (record { 0 = x.0 }) (record { 0 = x.1 }) ≡ p)
  arc_takes x p e = elim (cases_Bool (x.0 == x.1)) [
    | inl t ↦ let none : None ≡ Some p = sym (rw t refl) ∙ e in absurd cc
    | inr f ↦
        let apart : x.0 ≢ x.1 = eqb-false x.0 x.1 f in
        (apart, some_is (Arc (record { 0 = x.0 }) (record { 0 = x.1 })) p (sym (rw f refl) ∙ e))
  ]

  place_takes : (line : List ℕ) (p : Place) → place_in names line ≡ Some p → IsPlace (length names) p × (line ≡ place_row names p)
  unfolding place_in
  place_takes line p e =
      elim (first_from (behind_of (codes "op ") (made_of op_of (known_in names)) line) (behind_of (codes "arc ") (made_of arc_of (pair_of (known_in names) (λ _. known_in names))) line) p e) [
        | inl o ↦
            let r = some_of (behind (codes "op ") line) (made_of op_of (known_in names)) p o in
            let v = some_of (known_in names r.0) op_of p r.2 in
            let k = known_takes r.0 v.0 v.1 in
            subst (λ (q : Place). IsPlace (length names) q × (line ≡ place_row names q)) (some_is (Op (record { 0 = v.0 })) p v.2)
            (k.0, behind_takes (codes "op ") line r.0 r.1 ∙ ap (λ (b : List ℕ). codes "op " ++ b) k.1)
        | inr a ↦
            let r = some_of (behind (codes "arc ") line) (made_of arc_of (pair_of (known_in names) (λ _. known_in names))) p a.1 in
            let x = some_of (pair_of (known_in names) (λ _. known_in names) r.0) arc_of p r.2 in
            let k = arc_exact.takes r.0 x.0 x.1 in
            let t = arc_takes x.0 p x.2 in
            subst (λ (q : Place). IsPlace (length names) q × (line ≡ place_row names q)) t.1
            ((k.0.0, k.0.1, t.0), behind_takes (codes "arc ") line r.0 r.1 ∙ ap (λ (b : List ℕ). codes "arc " ++ b) k.1)
      ]

  pub place_exact : IsExact (IsPlace (length names)) (place_row names) (place_in names)
  place_exact = record { again = place_again; takes = place_takes }

-- no place begins what is left open, which each of its first lines does
pub place_is_member : (names : List (List ℕ)) (p : Place) → is_member_row (place_row names p) ≡ true
place_is_member names (Op v) = refl
place_is_member names (Arc u v) = refl

pub open_is_no_member : (h : OpenHead) → is_member_row (open_row h) ≡ false
open_is_no_member open_heads.Closed = refl
open_is_no_member (open_heads.Log kind gates) = refl
open_is_no_member (open_heads.Size kind gates) = refl
