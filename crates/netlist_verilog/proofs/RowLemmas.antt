-- The lines of a module, told apart by their first bytes: the wires, the gates, the conditions, the arcs and the requests.
use Rattle.std.proofs.Common.{◌≡◌, ℕ, ◌+◌, Bool, true, false, eqb, List, [], ◌∷◌, ◌++◌, length, get_or, refl, sym, ap, ◌∙◌, inl, inr, arith, Option, None, Some}
use Rattle.std.specs.Prelude.{codes}
use Rattle.std.specs.List.{AllByRecursion}
use Rattle.std.proofs.lemmas.List.{append_cancel_right}
use Rattle.cpog_defs.specs.declared.types.Ref.{Ref}
use Rattle.handshake_eqs.specs.Netlists.{Netlist, condition_of, wire_of}
use Rattle.netlist_verilog.specs.Module.{ModuleValue}
use Rattle.netlist_verilog.specs.Wires.{Signal, wire_text}
use Rattle.netlist_verilog.specs.Formulas.{Equation, formula_text, comment_text, equation_row}
use Rattle.netlist_verilog.specs.Equations.{gate_at, gate_equation, gate_equations, condition_equation, arc_equation, arc_equations_from, request_equation}
use Rattle.netlist_verilog.specs.Rows.{wire_texts, inner_wires, wire_lines, header_row, inputs_row, outputs_row, equation_rows, equation_lines, module_lines}
use Rattle.netlist_verilog.proofs.ValueLemmas.{parts_joined, parts_below, condition_part, arc_part, request_part, end_part}
use Rattle.netlist_verilog.proofs.WritingLemmas.{rows_split}
use Rattle.netlist_verilog.proofs.BelowLemmas.{cons_parts, parted, mapped}
use Rattle.netlist_verilog.proofs.WordLemmas.{signal_cases}

-- ---- the line of the wires

-- a line of wires has its w (119) where the later lines have another letter
abbrev declares_wires : List ℕ → Bool
declares_wires line = eqb (get_or line 2 0) 119

wires_declare : (ts : List (List ℕ)) → AllByRecursion (λ l. declares_wires l ≡ true) (wire_lines ts)
wires_declare [] = tt
wires_declare (t ∷ ts) = (refl, tt)

others_dont : (m : ModuleValue) (es : List Equation) → AllByRecursion (λ l. declares_wires l ≡ false) (equation_rows m es ++ codes "endmodule" ∷ [])
others_dont m [] = (refl, tt)
others_dont m (e ∷ es) = (refl, others_dont m es)

pub record SameLines (a b : ModuleValue) : Type 0 where
  pub inputs : inputs_row a ≡ inputs_row b
  pub equations : equation_lines a ≡ equation_lines b

pub lines_told : (a b : ModuleValue) → module_lines a ≡ module_lines b → SameLines a b
lines_told a b e =
    let header = cons_parts (header_row a) (header_row b) _ _ e in
    let inputs = cons_parts (inputs_row a) (inputs_row b) _ _ header.1 in
    let outputs = cons_parts (outputs_row a) (outputs_row b) _ _ inputs.1 in
    let wires : ModuleValue → List (List ℕ) = λ m. wire_lines (wire_texts m (inner_wires m.netlist)) in
    let rest =
    parted declares_wires (wires a) (wires b) (equation_lines a ++ codes "endmodule" ∷ [])
    (equation_lines b ++ codes "endmodule" ∷ []) (wires_declare _) (wires_declare _) (others_dont a _)
    (others_dont b _) outputs.1 in
    record { inputs = inputs.0; equations = append_cancel_right (equation_lines a) (equation_lines b) (codes "endmodule" ∷ []) rest.1 }

-- ---- the lines of the equations

-- whether the wire of an equation's line begins with this byte: c is 99, e is 101, g is 103, and r is 114
abbrev assigns : ℕ → List ℕ → Bool
assigns c line = eqb (get_or line 9 0) c

abbrev AllAssign : ℕ → Bool → List (List ℕ) → Type 0
AllAssign c b lines = AllByRecursion (λ l. assigns c l ≡ b) lines

rows_assign : (m : ModuleValue) (c : ℕ) (b : Bool) (es : List Equation) → AllByRecursion (λ e. assigns c (equation_row m.netlist.gates.inputs m.names e) ≡ b) es → AllAssign c b (equation_rows m es)
rows_assign m c b es h = mapped (λ e. assigns c (equation_row m.netlist.gates.inputs m.names e) ≡ b) (λ l. assigns c l ≡ b) (equation_row m.netlist.gates.inputs m.names) (λ e t. t) es h

gate_rows : (m : ModuleValue) → AllAssign 103 true (equation_rows m (gate_equations m.netlist.gates))
gate_rows m =
    let inputs = m.netlist.gates.inputs in
    rows_assign m 103 true (gate_equations m.netlist.gates)
    (parts_below (λ e. assigns 103 (equation_row inputs m.names e) ≡ true)
    (λ g. gate_equation inputs g (gate_at m.netlist.gates g) ∷ []) (length m.netlist.gates.gates) (λ g lt.
    (one g (gate_equation inputs g (gate_at m.netlist.gates g)) refl, tt)))
  where
    one : (g : ℕ) (e : Equation) → e.wire ≡ Signal (m.netlist.gates.inputs + g) → assigns 103 (equation_row m.netlist.gates.inputs m.names e) ≡ true
    one g e is =
        let rest : List ℕ = codes " = " ++ (formula_text m.netlist.gates.inputs m.names e.formula ++ (comment_text m.netlist.gates.inputs m.names e.comment ++ codes ";")) in
        let line : List ℕ → Bool = λ name. assigns 103 (codes "  assign " ++ (name ++ rest)) in
        elim (signal_cases m.netlist.gates.inputs (m.netlist.gates.inputs + g)) [
          | inl h ↦ absurd (omega (arith, h.0))
          | inr h ↦ ap (λ w. line (wire_text m.netlist.gates.inputs m.names w)) is ∙ ap line h.1
        ]

condition_rows : (m : ModuleValue) (c : ℕ) (b : Bool) → eqb 99 c ≡ b → AllAssign c b (equation_rows m (condition_part m.netlist))
condition_rows m c b h =
    rows_assign m c b (condition_part m.netlist)
    (parts_below (λ e. assigns c (equation_row m.netlist.gates.inputs m.names e) ≡ b)
    (λ v. condition_equation v (condition_of m.netlist v) ∷ []) (length m.netlist.conditions) (λ v lt. (h, tt)))

arc_rows : (m : ModuleValue) (c : ℕ) (b : Bool) → eqb 101 c ≡ b → AllAssign c b (equation_rows m (arc_part m.netlist))
arc_rows m c b h =
    let n : Netlist = m.netlist in
    let P : Equation → Type 0 = λ e. assigns c (equation_row n.gates.inputs m.names e) ≡ b in
    rows_assign m c b (arc_part n) (parts_below P (λ u. arc_equations_from n u (length n.conditions))
    (length n.conditions) (λ u lu. parts_below P (λ v. arc_equation u v (wire_of n u v)) (length n.conditions)
    (λ v lv. one u v (wire_of n u v))))
  where
    one : (u v : ℕ) (w : Option Ref) → AllByRecursion (λ e. assigns c (equation_row m.netlist.gates.inputs m.names e) ≡ b) (arc_equation u v w)
    one u v None = tt
    one u v (Some r) = (h, tt)

request_rows : (m : ModuleValue) (c : ℕ) (b : Bool) → eqb 114 c ≡ b → AllAssign c b (equation_rows m (request_part m.netlist))
request_rows m c b h =
    rows_assign m c b (request_part m.netlist)
    (parts_below (λ e. assigns c (equation_row m.netlist.gates.inputs m.names e) ≡ b)
    (λ v. request_equation m.netlist v ∷ []) (length m.netlist.conditions) (λ v lt. (h, tt)))

pub record SameRows (a b : ModuleValue) : Type 0 where
  pub gates : equation_rows a (gate_equations a.netlist.gates) ≡ equation_rows b (gate_equations b.netlist.gates)
  pub conditions : equation_rows a (condition_part a.netlist) ≡ equation_rows b (condition_part b.netlist)
  pub arcs : equation_rows a (arc_part a.netlist) ≡ equation_rows b (arc_part b.netlist)
  pub requests : equation_rows a (request_part a.netlist) ≡ equation_rows b (request_part b.netlist)

pub rows_told : (a b : ModuleValue) → equation_lines a ≡ equation_lines b → SameRows a b
rows_told a b e =
    let gates : ModuleValue → List (List ℕ) = λ m. equation_rows m (gate_equations m.netlist.gates) in
    let conditions : ModuleValue → List (List ℕ) = λ m. equation_rows m (condition_part m.netlist) in
    let arcs : ModuleValue → List (List ℕ) = λ m. equation_rows m (arc_part m.netlist) in
    let requests : ModuleValue → List (List ℕ) = λ m. equation_rows m (request_part m.netlist) in
    let ends : ModuleValue → List (List ℕ) = λ m. equation_rows m (end_part m.netlist) in
    let split : (m : ModuleValue) → equation_lines m ≡ gates m ++ (conditions m ++ (arcs m ++ (requests m ++ ends m))) = λ m.
    rows_split m (gate_equations m.netlist.gates) (condition_part m.netlist) (arc_part m.netlist) (request_part m.netlist) (end_part m.netlist) in
    let no_request : (c : ℕ) (m : ModuleValue) → eqb 114 c ≡ false → AllAssign c false (ends m) →
    AllAssign c false (requests m ++ ends m) = λ c m r h. parts_joined (λ l. assigns c l ≡ false) (requests m)
    (ends m) (request_rows m c false r) h in
    let no_arc : (c : ℕ) (m : ModuleValue) → eqb 101 c ≡ false → AllAssign c false (requests m ++ ends m) →
    AllAssign c false (arcs m ++ (requests m ++ ends m)) = λ c m r h. parts_joined (λ l. assigns c l ≡ false)
    (arcs m) (requests m ++ ends m) (arc_rows m c false r) h in
    let after_gates : (m : ModuleValue) → AllAssign 103 false (conditions m ++ (arcs m ++ (requests m ++ ends m))) = λ m.
    parts_joined (λ l. assigns 103 l ≡ false) (conditions m) (arcs m ++ (requests m ++ ends m)) (condition_rows m 103 false refl) (no_arc 103 m refl (no_request 103 m refl (refl, (refl, tt)))) in
    let after_conditions : (m : ModuleValue) → AllAssign 99 false (arcs m ++ (requests m ++ ends m)) = λ m. no_arc 99 m refl (no_request 99 m refl (refl, (refl, tt))) in
    let after_arcs : (m : ModuleValue) → AllAssign 101 false (requests m ++ ends m) = λ m. no_request 101 m refl (refl, (refl, tt)) in
    let first =
    parted (assigns 103) (gates a) (gates b) (conditions a ++ (arcs a ++ (requests a ++ ends a)))
    (conditions b ++ (arcs b ++ (requests b ++ ends b))) (gate_rows a) (gate_rows b) (after_gates a)
    (after_gates b) (sym (split a) ∙ e ∙ split b) in
    let second =
    parted (assigns 99) (conditions a) (conditions b) (arcs a ++ (requests a ++ ends a))
    (arcs b ++ (requests b ++ ends b)) (condition_rows a 99 true refl) (condition_rows b 99 true refl)
    (after_conditions a) (after_conditions b) first.1 in
    let third = parted (assigns 101) (arcs a) (arcs b) (requests a ++ ends a) (requests b ++ ends b) (arc_rows a 101 true refl) (arc_rows b 101 true refl) (after_arcs a) (after_arcs b) second.1 in
    let fourth = parted (assigns 114) (requests a) (requests b) (ends a) (ends b) (request_rows a 114 true refl) (request_rows b 114 true refl) (refl, (refl, tt)) (refl, (refl, tt)) third.1 in
    record { gates = first.0; conditions = second.0; arcs = third.0; requests = fourth.0 }
