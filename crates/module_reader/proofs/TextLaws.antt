-- The rows of a netlist are those by which a module is written.
use Rattle.std.proofs.Common.{◌≡◌, ℕ, zero, suc, ◌<◌, ◌≤◌, ◌+◌, ◌-◌, Bool, true, false, ◌&&◌, eqb, ltb, List, [], ◌∷◌, ◌++◌, length, get_or, refl, sym, ap, ap₂, subst, ◌∙◌, arith, append_assoc}
use Rattle.std.specs.Prelude.{codes}
use Rattle.std.specs.Fmt.{decimal}
use Rattle.std.proofs.lemmas.Bool.{le-ltb, ne_eqb}
use Rattle.cpog_defs.specs.Orders.{each_below}
use Rattle.handshake_eqs.specs.Netlists.{Netlist}
use Rattle.netlist_verilog.specs.Module.{ModuleValue}
use Rattle.netlist_verilog.specs.Wires.{name_of, signal_text}
use Rattle.netlist_verilog.specs.Formulas.{equation_row}
use Rattle.netlist_verilog.specs.Equations.{done_equation, idle_equation, gate_equations}
use Rattle.netlist_verilog.specs.Rows.{joined, wire_texts, inner_wires, arc_wires, wire_lines, equation_rows, equation_lines}
use Rattle.netlist_verilog.proofs.ValueLemmas.{condition_part, arc_part, request_part, end_part}
use Rattle.netlist_verilog.proofs.WritingLemmas.{is_nil, nil_below, joined_append, inner_texts, wire_line, rows_split}
use Rattle.module_reader.specs.Modules.{gate_item, condition_names, no_netlist}
use Rattle.module_reader.proofs.RowLaws.{gates_lines, conditions_lines}
use Rattle.module_reader.proofs.ArcLaws.{matrix_lines, AreDeclared, IsDeclared}
use Rattle.module_reader.proofs.ListLaws.{items_text, items_joined}
use Rattle.module_reader.proofs.MatrixLaws.{bits_of, arcs_text, arcs_are, fits_length, fit_at}
use Rattle.module_reader.proofs.PortLaws.{below_same}
use Rattle.module_reader.proofs.WireLaws.{wires_line, matrix_text, close}
use Rattle.module_reader.proofs.BodyLaws.{requests_lines, end_lines, parts_lines, parts_of, wires_of, IsFull, full_lines}
use Rattle.module_reader.specs.Modules.{is_declared}

abbrev pub module_of : List (List ℕ) → Netlist → ModuleValue
module_of names n = record { names = names; netlist = n }

-- the lines of a module behind those of its ports
abbrev pub body_lines : List (List ℕ) → Netlist → List (List ℕ)
body_lines names n = wire_lines (wire_texts (module_of names n) (inner_wires n)) ++ (equation_lines (module_of names n) ++ codes "endmodule" ∷ [])

-- ---- the line of wires

positive : (n : ℕ) → 1 ≤ n → eqb n 0 ≡ false
positive n h = ne_eqb n 0 (λ e. omega (arith, e, h))

both_zero : (g n : ℕ) → 0 < g + n → (eqb g 0 && eqb n 0) ≡ false
both_zero zero n h = positive n (omega (arith, h))
both_zero (suc g) n h = ap (λ b. b && eqb n 0) (positive (suc g) (omega arith))

nil_append : (ts us : List (List ℕ)) → is_nil (ts ++ us) ≡ (is_nil ts && is_nil us)
nil_append [] us = refl
nil_append (t ∷ ts) us = refl

nil_both : (a b c : Bool) → (a && b) ≡ false → (a && (b && c)) ≡ false
nil_both true true c h = absurd cc
nil_both true false c h = refl
nil_both false b c h = refl

gate_word : (inputs k : ℕ) → signal_text inputs (inputs + k) ≡ codes "g" ++ decimal (0 + k)
gate_word inputs k =
    let g : ltb (inputs + k) inputs ≡ false = le-ltb (inputs + k) inputs (omega arith) in
    let back : inputs + k - inputs ≡ 0 + k = omega arith in
    rw (g, back) refl

gates_are : (inputs g : ℕ) → joined true (each_below (λ k. signal_text inputs (inputs + k) ∷ []) g) ≡ items_text gate_item g 0
gates_are inputs g = ap (joined true) (below_same _ _ g (λ k lt. ap (λ (t : List ℕ). t ∷ []) (gate_word inputs k))) ∙ sym (items_joined (λ j. codes "g" ++ decimal j) g 0)

wires_written : (names : List (List ℕ)) (n : Netlist) → 0 < length n.gates.gates + length names → length n.conditions ≡ length names → length n.wires ≡ length names → ((u : ℕ) → u < length names → length (get_or n.wires u []) ≡ length names)
    → wire_lines (wire_texts (module_of names n) (inner_wires n)) ≡ wires_line names (wires_of n) ∷ []
wires_written names n some count long rows =
    let inputs = n.gates.inputs in
    let g = length n.gates.gates in
    let gs : List (List ℕ) = each_below (λ k. signal_text inputs (inputs + k) ∷ []) g in
    let named : ℕ → List (List ℕ) = λ k. each_below (λ v. (codes "c_" ++ name_of names v) ∷ []) k in
    let cs : List (List ℕ) = named (length n.conditions) in
    let arcs : List (List ℕ) = wire_texts (module_of names n) (arc_wires n) in
    let ng : is_nil gs ≡ eqb g 0 = nil_below (λ k. signal_text inputs (inputs + k)) g in
    let nc : is_nil cs ≡ eqb (length n.conditions) 0 = nil_below (λ v. codes "c_" ++ name_of names v) (length n.conditions) in
    let neither : (is_nil gs && is_nil cs) ≡ false = ap₂ (λ (x y : Bool). x && y) ng nc ∙ both_zero g (length n.conditions) (omega (arith, some, count)) in
    let text : joined true (gs ++ (cs ++ arcs)) ≡ joined true gs ++ (joined (is_nil gs) cs ++ joined false arcs) =
    joined_append true gs (cs ++ arcs) ∙ ap (λ (x : List ℕ). joined true gs ++ x) (joined_append (is_nil gs) cs arcs ∙ ap (λ (b : Bool). joined (is_nil gs) cs ++ joined b arcs) neither) in
    let second : joined (is_nil gs) cs ≡ condition_names (eqb g 0) names = ap₂ (λ (b : Bool) (k : ℕ). joined b (named k)) ng count in
    let third : joined false arcs ≡ matrix_text (length names) (bits_of n.wires) = ap (λ (k : ℕ). arcs_text inputs names k n.wires) count ∙ arcs_are inputs names (length names) n.wires long rows in
    ap wire_lines (inner_texts (module_of names n))
    ∙ wire_line (gs ++ (cs ++ arcs)) (nil_append gs (cs ++ arcs) ∙ ap (λ (b : Bool). is_nil gs && b) (nil_append cs arcs) ∙ nil_both (is_nil gs) (is_nil cs) (is_nil arcs) neither)
    ∙ ap (λ (x : List ℕ). (codes "  wire " ++ (x ++ close)) ∷ []) (text ∙ ap₂ (λ (a b : List ℕ). a ++ b) (gates_are inputs g) (ap₂ (λ (a b : List ℕ). a ++ b) second third))
    ∙ ap (λ (x : List ℕ). (codes "  wire " ++ x) ∷ []) (pieces (items_text gate_item g 0) (condition_names (eqb g 0) names) (matrix_text (length names) (bits_of n.wires)))
  where
    pieces : (a b c : List ℕ) → (a ++ (b ++ c)) ++ close ≡ a ++ (b ++ (c ++ close))
    pieces a b c = append_assoc a (b ++ c) close ∙ ap (λ (x : List ℕ). a ++ x) (append_assoc b c close)

-- ---- the equations

equations_written : (names : List (List ℕ)) (n : Netlist) → length n.conditions ≡ length names → equation_lines (module_of names n) ++ codes "endmodule" ∷ [] ≡ parts_lines n.gates.inputs names (parts_of n)
equations_written names n count =
    let m : ModuleValue = module_of names n in
    let inputs = n.gates.inputs in
    let arcs : ℕ → List (List ℕ) = λ k. matrix_lines inputs names k n.wires in
    let requests : ℕ → List (List ℕ) = λ k. requests_lines inputs names k n.waits in
    let gs : List (List ℕ) = gates_lines inputs names n.gates.gates in
    let cs : List (List ℕ) = conditions_lines inputs names n.conditions in
    let ends : List (List ℕ) = equation_rows m (end_part n) in
    let split : equation_lines m ≡ gs ++ (cs ++ (arcs (length n.conditions) ++ (requests (length n.conditions) ++ ends))) = rows_split m (gate_equations n.gates) (condition_part n) (arc_part n) (request_part n) (end_part n) in
    ap (λ (x : List (List ℕ)). x ++ codes "endmodule" ∷ []) split
    ∙ pieces gs cs (arcs (length n.conditions)) (requests (length n.conditions)) ends
    ∙ ap (λ (k : ℕ). gs ++ (cs ++ (arcs k ++ (requests k ++ end_of k)))) count
  where
    end_of : ℕ → List (List ℕ)
    end_of k = equation_row n.gates.inputs names (done_equation k) ∷ equation_row n.gates.inputs names (idle_equation k) ∷ codes "endmodule" ∷ []

    pieces : (a b c d e : List (List ℕ)) → (a ++ (b ++ (c ++ (d ++ e)))) ++ codes "endmodule" ∷ [] ≡ a ++ (b ++ (c ++ (d ++ (e ++ codes "endmodule" ∷ []))))
    pieces a b c d e = simp append_assoc

-- ---- together

full_own : (names : List (List ℕ)) (n : Netlist) → IsFull n.gates.inputs names n → body_lines names n ≡ full_lines n.gates.inputs names n
full_own names n full =
    let h = full.netlist.1 in
    let signals = n.gates.inputs + length n.gates.gates in
    let rows : (u : ℕ) → u < length names → length (get_or n.wires u []) ≡ length names = λ u lt.
    fits_length (λ v w. IsDeclared signals (is_declared (bits_of n.wires) (0 + u) v) w) (length names) 0 (get_or n.wires u [])
    (fit_at (λ u ws. AreDeclared signals (is_declared (bits_of n.wires)) (length names) u ws) [] (length names) 0 n.wires h.1.1.0 u lt) in
    ap₂ (λ (x y : List (List ℕ)). x ++ y)
    (wires_written names n full.wires.some h.1.0.1 (fits_length (λ u ws. AreDeclared signals (is_declared (bits_of n.wires)) (length names) u ws) (length names) 0 n.wires h.1.1.0) rows)
    (equations_written names n h.1.0.1)

pub full_text : (inputs : ℕ) (names : List (List ℕ)) (n : Netlist) → IsFull inputs names n → body_lines names n ≡ full_lines inputs names n
full_text inputs names n full =
    subst (λ (k : ℕ). IsFull k names n → body_lines names n ≡ full_lines k names n) full.netlist.0 (full_own names n) full

pub empty_text : (inputs : ℕ) → body_lines [] (no_netlist inputs) ≡ end_lines inputs []
empty_text inputs = refl
