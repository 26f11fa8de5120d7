-- The line of the inputs tells how many signals they have, and the names of the operations.
use Rattle.std.proofs.Common.{◌≡◌, ℕ, ◌+◌, Bool, true, false, eqb, List, [], ◌∷◌, ◌++◌, length, get_or, refl, sym, ap, ap₂, ◌∙◌, inl, inr, arith, append_assoc}
use Rattle.std.specs.Prelude.{codes}
use Rattle.std.specs.List.{AllByRecursion}
use Rattle.std.proofs.lemmas.List.{append_cancel_left, ext_get_or}
use Rattle.cpog_defs.specs.Orders.{each_below}
use Rattle.line_text.specs.Words.{continues_name}
use Rattle.line_text.proofs.TellingLemmas.{AllPass, words_told, heads, tails}
use Rattle.netlist_verilog.specs.Module.{ModuleValue, IsModule}
use Rattle.netlist_verilog.specs.Wires.{name_of, signal_text}
use Rattle.netlist_verilog.specs.Rows.{joined, wire_texts, input_wires, inputs_row}
use Rattle.netlist_verilog.proofs.ValueLemmas.{parts_joined, parts_below}
use Rattle.netlist_verilog.proofs.FeedLemmas.{names_pass, name_passes}
use Rattle.netlist_verilog.proofs.WritingLemmas.{is_nil, input_texts}
use Rattle.netlist_verilog.proofs.BelowLemmas.{cons_parts, parted, ones_told}
use Rattle.netlist_verilog.proofs.WordLemmas.{signal_cases, signal_passes}

-- ---- lists with commas

-- what follows a text of a list begins with a comma or the semicolon at the end
after_text : (ts : List (List ℕ)) → (c : ℕ) × (r : List ℕ) × (continues_name c ≡ false) × (joined false ts ++ codes ";" ≡ c ∷ r)
after_text [] = (59, [], refl, refl)
after_text (t ∷ ts) = (44, 32 ∷ ((t ++ joined false ts) ++ codes ";"), refl, refl)

first_told : (t u : List ℕ) (ts us : List (List ℕ)) → AllPass continues_name t → AllPass continues_name u →
    (t ++ joined false ts) ++ codes ";" ≡ (u ++ joined false us) ++ codes ";" →
    (t ≡ u) × (joined false ts ++ codes ";" ≡ joined false us ++ codes ";")
first_told t u ts us ht hu e =
    let a = after_text ts in
    let b = after_text us in
    let e' : t ++ a.0 ∷ a.1 ≡ u ++ b.0 ∷ b.1 =
    ap (λ (z : List ℕ). t ++ z) (sym a.3) ∙ sym (append_assoc t (joined false ts) (codes ";")) ∙ e
    ∙ append_assoc u (joined false us) (codes ";") ∙ ap (λ (z : List ℕ). u ++ z) b.3 in
    let r = words_told continues_name t u a.0 b.0 a.1 b.1 ht hu a.2 b.2 e' in
    (r.0, a.3 ∙ r.1 ∙ sym b.3)

more_told : (ts us : List (List ℕ)) → AllByRecursion (AllPass continues_name) ts → AllByRecursion (AllPass continues_name) us → joined false ts ++ codes ";" ≡ joined false us ++ codes ";" → ts ≡ us
more_told [] [] ht hu e = refl
more_told [] (u ∷ us) ht hu e = absurd (omega (arith, heads 59 44 _ _ e))
more_told (t ∷ ts) [] ht hu e = absurd (omega (arith, heads 44 59 _ _ e))
more_told (t ∷ ts) (u ∷ us) ht hu e =
    let r = first_told t u ts us ht.0 hu.0 (tails 32 32 _ _ (tails 44 44 _ _ e)) in
    ap₂ (λ (z : List ℕ) (zs : List (List ℕ)). z ∷ zs) r.0 (more_told ts us ht.1 hu.1 r.1)

joined_told : (ts us : List (List ℕ)) → is_nil ts ≡ false → is_nil us ≡ false →
    AllByRecursion (AllPass continues_name) ts → AllByRecursion (AllPass continues_name) us →
    joined true ts ++ codes ";" ≡ joined true us ++ codes ";" → ts ≡ us
joined_told [] us nt nu ht hu e = absurd cc
joined_told (t ∷ ts) [] nt nu ht hu e = absurd cc
joined_told (t ∷ ts) (u ∷ us) nt nu ht hu e =
    let r = first_told t u ts us ht.0 hu.0 e in
    ap₂ (λ (z : List ℕ) (zs : List (List ℕ)). z ∷ zs) r.0 (more_told ts us ht.1 hu.1 r.1)

-- ---- the inputs

abbrev input_signals : ModuleValue → List (List ℕ)
input_signals m = each_below (λ k. signal_text m.netlist.gates.inputs (0 + k) ∷ []) m.netlist.gates.inputs

abbrev acknowledges : ModuleValue → List (List ℕ)
acknowledges m = each_below (λ v. (codes "a_" ++ name_of m.names v) ∷ []) (length m.netlist.conditions)

-- the texts of the inputs: signals, go, and the acknowledges
abbrev inputs_of : ModuleValue → List (List ℕ)
inputs_of m = input_signals m ++ (codes "go" ∷ acknowledges m)

inputs_pass : (m : ModuleValue) → IsModule m → AllByRecursion (AllPass continues_name) (inputs_of m)
inputs_pass m is =
    parts_joined (AllPass continues_name) (input_signals m) (codes "go" ∷ acknowledges m)
    (parts_below (AllPass continues_name) (λ k. signal_text m.netlist.gates.inputs
    (0 + k) ∷ []) m.netlist.gates.inputs (λ k lt.
    (signal_passes m.netlist.gates.inputs (0 + k) (omega (arith, is.few_inputs)), tt))) (
      (refl, (refl, tt)),
      parts_below (AllPass continues_name) (λ v. (codes "a_" ++ name_of m.names v) ∷ [])
          (length m.netlist.conditions) (λ v lt. (
            (refl, (refl, name_passes m.names v (names_pass m.names is.names))),
            tt,
          )),
    )

-- whether a text begins as an input signal does
abbrev is_input : List ℕ → Bool
is_input t = eqb (get_or t 0 0) 120

signals_are : (m : ModuleValue) → AllByRecursion (λ t. is_input t ≡ true) (input_signals m)
signals_are m = parts_below (λ t. is_input t ≡ true) (λ k. signal_text m.netlist.gates.inputs (0 + k) ∷ []) m.netlist.gates.inputs (λ k lt. (
  elim (signal_cases m.netlist.gates.inputs (0 + k)) [
    | inl h ↦ ap is_input h.1
    | inr h ↦ absurd (omega (arith, h.0))
  ],
  tt,
))

others_not : (m : ModuleValue) → AllByRecursion (λ t. is_input t ≡ false) (codes "go" ∷ acknowledges m)
others_not m = (refl, parts_below (λ t. is_input t ≡ false) (λ v. (codes "a_" ++ name_of m.names v) ∷ []) (length m.netlist.conditions) (λ v lt. (refl, tt)))

some_texts : (ts us : List (List ℕ)) (u : List ℕ) → is_nil (ts ++ u ∷ us) ≡ false
some_texts [] us u = refl
some_texts (t ∷ ts) us u = refl

pub record SamePorts (a b : ModuleValue) : Type 0 where
  pub inputs : a.netlist.gates.inputs ≡ b.netlist.gates.inputs
  pub count : length a.netlist.conditions ≡ length b.netlist.conditions
  pub names : a.names ≡ b.names

pub ports_told : (a b : ModuleValue) → IsModule a → IsModule b → inputs_row a ≡ inputs_row b → SamePorts a b
ports_told a b ia ib e =
    let text : (m : ModuleValue) → joined true (wire_texts m (input_wires m.netlist)) ++ codes ";" ≡ joined true
    (inputs_of m) ++ codes ";" = λ m. ap (λ (ts : List (List ℕ)). joined true ts ++ codes ";") (input_texts m) in
    let same : inputs_of a ≡ inputs_of b =
    joined_told (inputs_of a) (inputs_of b) (some_texts (input_signals a) (acknowledges a) (codes "go"))
    (some_texts (input_signals b) (acknowledges b) (codes "go")) (inputs_pass a ia) (inputs_pass b ib)
    (sym (text a) ∙ append_cancel_left (codes "  input ") _ _ e ∙ text b) in
    let split = parted is_input (input_signals a) (input_signals b) (codes "go" ∷ acknowledges a) (codes "go" ∷ acknowledges b) (signals_are a) (signals_are b) (others_not a) (others_not b) same in
    let signals = ones_told (λ k. signal_text a.netlist.gates.inputs (0 + k)) (λ k. signal_text b.netlist.gates.inputs (0 + k)) a.netlist.gates.inputs b.netlist.gates.inputs split.0 in
    let acks =
    ones_told (λ v. codes "a_" ++ name_of a.names v) (λ v. codes "a_" ++ name_of b.names v)
    (length a.netlist.conditions) (length b.netlist.conditions)
    (cons_parts (codes "go") (codes "go") (acknowledges a) (acknowledges b) split.1).1 in
    record {
      inputs = signals.0;
      count = acks.0;
      names = ext_get_or [] a.names b.names (ia.one_name_each ∙ acks.0 ∙ sym ib.one_name_each) (λ v lt. append_cancel_left (codes "a_") _ _ (acks.1 v (omega (arith, ia.one_name_each))));
    }
