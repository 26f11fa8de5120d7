-- What is printed are the lines that the names determine.
use Rattle.std.proofs.Common.{◌≡◌, ℕ, ◌≤◌, true, false, eqb, List, [], ◌∷◌, ◌++◌, length, refl, sym, ap, ap₂, ◌∙◌, append_assoc}
use Rattle.std.specs.Prelude.{codes}
use Rattle.cpog_defs.specs.Orders.{each_below}
use Rattle.netlist_verilog.specs.Wires.{Go, Acknowledge, name_of}
use Rattle.netlist_verilog.specs.Formulas.{Read, Not}
use Rattle.netlist_verilog.specs.Equations.{through_formula}
use Rattle.netlist_verilog.specs.Rows.{separator, joined, and_text}
use Rattle.netlist_verilog.proofs.WritingLemmas.{is_nil, nil_below, joined_append, each_text}
use Rattle.module_reader.specs.Modules.{outputs_text, header_end, inputs_line, outputs_line, done_line, idle_line, plain_module}
use Rattle.module_reader.proofs.PortLaws.{signals_of, acknowledges, requests, inputs_parts, outputs_are}

pub outputs_put : (names : List (List ℕ)) (len : ℕ) (sep a o1 o2 : List ℕ) → len ≡ length names → sep ≡ separator (eqb len 0) → o1 ≡ a ++ joined true (requests names) → o2 ≡ o1 ++ (sep ++ codes "done, idle") → o2 ≡ a ++ outputs_text 0 names
outputs_put names len sep a o1 o2 el es e1 e2 =
    let last : List (List ℕ) = codes "done" ∷ codes "idle" ∷ [] in
    e2
    ∙ ap₂ (λ (x y : List ℕ). x ++ (y ++ codes "done, idle")) e1 (es ∙ ap (λ (n : ℕ). separator (eqb n 0)) el ∙ ap separator (sym (nil_below (λ v. codes "r_" ++ name_of names v) (length names))))
    ∙ append_assoc a (joined true (requests names)) (separator (is_nil (requests names)) ++ codes "done, idle")
    ∙ ap (λ (x : List ℕ). a ++ x) (sym (outputs_are 0 names ∙ joined_append true (requests names) last))

pub header_end_put : (names : List (List ℕ)) (o0 o1 o2 o3 : List ℕ) → o0 ≡ [] → o1 ≡ o0 ++ codes ", " → o2 ≡ o1 ++ outputs_text 0 names → o3 ≡ o2 ++ codes ");" → o3 ≡ header_end names
header_end_put names o0 o1 o2 o3 e0 e1 e2 e3 =
    e3 ∙ ap (λ (x : List ℕ). x ++ codes ");") (e2 ∙ ap (λ (x : List ℕ). x ++ outputs_text 0 names) (e1 ∙ ap (λ (x : List ℕ). x ++ codes ", ") e0)) ∙ append_assoc (codes ", ") (outputs_text 0 names) (codes ");")

pub outputs_line_put : (inputs : ℕ) (names : List (List ℕ)) (o0 o1 o2 o3 : List ℕ) → o0 ≡ [] → o1 ≡ o0 ++ codes "  output " → o2 ≡ o1 ++ outputs_text 0 names → o3 ≡ o2 ++ codes ";" → o3 ≡ outputs_line inputs names
outputs_line_put inputs names o0 o1 o2 o3 e0 e1 e2 e3 =
    e3 ∙ ap (λ (x : List ℕ). x ++ codes ";") (e2 ∙ ap₂ (λ (x y : List ℕ). x ++ y) (e1 ∙ ap (λ (x : List ℕ). x ++ codes "  output ") e0) (outputs_are 0 names ∙ sym (outputs_are inputs names))) ∙ append_assoc (codes "  output ") (outputs_text inputs names) (codes ";")

pub inputs_line_put : (inputs : ℕ) (names : List (List ℕ)) (o0 o1 o2 o3 o4 o5 : List ℕ) → 1 ≤ inputs → o0 ≡ [] → o1 ≡ o0 ++ codes "  input " → o2 ≡ o1 ++ joined true (signals_of inputs) → o3 ≡ o2 ++ codes ", go" → o4 ≡ o3 ++ joined false (acknowledges names) → o5 ≡ o4 ++ codes ";" → o5 ≡ inputs_line inputs names
inputs_line_put inputs names o0 o1 o2 o3 o4 o5 some e0 e1 e2 e3 e4 e5 =
    let a : List ℕ = joined true (signals_of inputs) in
    let b : List ℕ = joined false (acknowledges names) in
    e5
    ∙ ap (λ (x : List ℕ). x ++ codes ";") (e4 ∙ ap (λ (x : List ℕ). x ++ b) (e3 ∙ ap (λ (x : List ℕ). x ++ codes ", go") (e2 ∙ ap (λ (x : List ℕ). x ++ a) (e1 ∙ ap (λ (x : List ℕ). x ++ codes "  input ") e0))))
    ∙ pieces a b
    ∙ ap (λ (x : List ℕ). codes "  input " ++ (x ++ codes ";")) (sym (inputs_parts inputs names some))
  where
    pieces : (a b : List ℕ) → (((codes "  input " ++ a) ++ codes ", go") ++ b) ++ codes ";" ≡ codes "  input " ++ ((a ++ (codes ", go" ++ b)) ++ codes ";")
    pieces a b = simp append_assoc

each_put : (inputs : ℕ) (names : List (List ℕ)) (begin : List ℕ) (o0 o1 o2 o3 parts : List ℕ) → o0 ≡ [] → o1 ≡ o0 ++ begin → o2 ≡ o1 ++ parts → o3 ≡ o2 ++ codes ";" → o3 ≡ begin ++ (parts ++ codes ";")
each_put inputs names begin o0 o1 o2 o3 parts e0 e1 e2 e3 =
    e3 ∙ ap (λ (x : List ℕ). x ++ codes ";") (e2 ∙ ap (λ (x : List ℕ). x ++ parts) (e1 ∙ ap (λ (x : List ℕ). x ++ begin) e0)) ∙ append_assoc begin parts (codes ";")

pub done_line_put : (inputs : ℕ) (names : List (List ℕ)) (o0 o1 o2 o3 : List ℕ) → o0 ≡ [] → o1 ≡ o0 ++ codes "  assign done = go" → o2 ≡ o1 ++ each_below (λ v. and_text (plain_module inputs names) true (through_formula v)) (length names) → o3 ≡ o2 ++ codes ";" → o3 ≡ done_line inputs names
done_line_put inputs names o0 o1 o2 o3 e0 e1 e2 e3 =
    each_put inputs names (codes "  assign done = go") o0 o1 o2 o3 _ e0 e1 e2 e3
    ∙ ap (λ (f : List ℕ). codes "  assign done = " ++ (f ++ codes ";")) (sym (each_text (plain_module inputs names) (Read Go) (λ _. true) through_formula (length names) (λ text. refl)))

pub idle_line_put : (inputs : ℕ) (names : List (List ℕ)) (o0 o1 o2 o3 : List ℕ) → o0 ≡ [] → o1 ≡ o0 ++ codes "  assign idle = ~go" → o2 ≡ o1 ++ each_below (λ v. and_text (plain_module inputs names) true (Not (Read (Acknowledge v)))) (length names) → o3 ≡ o2 ++ codes ";" → o3 ≡ idle_line inputs names
idle_line_put inputs names o0 o1 o2 o3 e0 e1 e2 e3 =
    each_put inputs names (codes "  assign idle = ~go") o0 o1 o2 o3 _ e0 e1 e2 e3
    ∙ ap (λ (f : List ℕ). codes "  assign idle = " ++ (f ++ codes ";")) (sym (each_text (plain_module inputs names) (Not (Read Go)) (λ _. true) (λ v. Not (Read (Acknowledge v))) (length names) (λ text. refl)))
