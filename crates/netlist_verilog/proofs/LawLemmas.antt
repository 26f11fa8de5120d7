-- Two modules with the same text are one: equal texts have equal lines, and these tell the parts of a module one by one.
use Rattle.std.proofs.Common.{◌≡◌, ℕ, ◌^◌, ◌<◌, ◌≤◌, true, false, List, [], map, length, get_or, sym, ap, ap₂, ◌∙◌, inl, inr, arith, subst, Option, None, IsSome}
use Rattle.std.specs.FinSet as set
use Rattle.std.specs.FinSet.{nat_cmp-IsAntisymmetric}
use Rattle.std.specs.Cmp.{nat_cmp_total}
use Rattle.std.specs.Prelude.{slice_index_or}
use Rattle.std.proofs.lemmas.Bool.{cases_lt}
use Rattle.std.proofs.lemmas.List.{ext_get_or, get_or_past}
use Rattle.cpog_defs.specs.declared.types.Ref.{Ref}
use Rattle.cpog_defs.specs.declared.types.Ref.TheVariants.{Const}
use Rattle.cpog_defs.specs.Gates.{IsRefOver, signal_count}
use Rattle.gate_core.proofs.GateLemmas.{gate_reads, gate_list_by_parts}
use Rattle.handshake_eqs.specs.Netlists.{Netlist, condition_of, wire_of, waits_of, IsNetlist, IsWireOver}
use Rattle.line_text.specs.Lines.{lines_of, text_of}
use Rattle.line_text.proofs.SplittingLemmas.{lines_again}
use Rattle.netlist_verilog.specs.Module.{ModuleValue, IsModule}
use Rattle.netlist_verilog.specs.Wires.{Condition}
use Rattle.netlist_verilog.specs.Formulas.{Equation, equation_row}
use Rattle.netlist_verilog.specs.Equations.{gate_at, gate_equation, condition_equation, request_equation}
use Rattle.netlist_verilog.specs.Rows.{module_lines}
use Rattle.netlist_verilog.proofs.ValueLemmas.{arc_part}
use Rattle.netlist_verilog.proofs.FeedLemmas.{lines_free}
use Rattle.netlist_verilog.proofs.WritingLemmas.{table_small}
use Rattle.netlist_verilog.proofs.BelowLemmas.{map_ones, ones_told}
use Rattle.netlist_verilog.proofs.RowLemmas.{lines_told, SameRows, rows_told}
use Rattle.netlist_verilog.proofs.PortLemmas.{SamePorts, ports_told}
use Rattle.netlist_verilog.proofs.GateRowLemmas.{IsGateBelow, gate_told}
use Rattle.netlist_verilog.proofs.ConditionRowLemmas.{condition_told, arcs_told}
use Rattle.netlist_verilog.proofs.RequestRowLemmas.{request_of, request_told, same_bool}

abbrev row : ModuleValue → Equation → List ℕ
row m e = equation_row m.netlist.gates.inputs m.names e

-- a line of one module under the names of another
renamed : (a b : ModuleValue) → SamePorts a b → (e : Equation) → row b e ≡ row a e
renamed a b p e = ap₂ (λ inputs names. equation_row inputs names e) (sym p.inputs) (sym p.names)

-- ---- gates

gate_below : (m : ModuleValue) → IsModule m → (g : ℕ) → g < length m.netlist.gates.gates → IsGateBelow (2 ^ 64) (gate_at m.netlist.gates g)
gate_below m is g lt =
    let reads = gate_reads m.netlist.gates.inputs m.netlist.gates.gates g (record { j = 0; k = 0; table = 0 }) is.gates lt in
    record {
      lower = reads.0;
      earlier = omega
          (arith, reads.1, lt, is.few_inputs, is.few_gates);
      table = table_small m.netlist.gates.gates m.netlist.gates.inputs g
          (record { j = 0; k = 0; table = 0 }) is.gates lt;
    }

gates_told : (a b : ModuleValue) → IsModule a → IsModule b → SamePorts a b → SameRows a b → a.netlist.gates ≡ b.netlist.gates
gates_told a b ia ib p rows =
    let ga = a.netlist.gates in
    let gb = b.netlist.gates in
    let ones = ones_told (λ g. row a (gate_equation ga.inputs g (gate_at ga g))) (λ g. row b (gate_equation gb.inputs g (gate_at gb g))) (length ga.gates) (length gb.gates)
    (sym (map_ones (row a) (λ g. gate_equation ga.inputs g (gate_at ga g)) (length ga.gates)) ∙ rows.gates ∙ map_ones (row b) (λ g. gate_equation gb.inputs g (gate_at gb g)) (length gb.gates)) in
    gate_list_by_parts ga gb p.inputs (ext_get_or (record { j = 0; k = 0; table = 0 }) ga.gates gb.gates ones.0 (λ g lt.
    gate_told ga.inputs a.names (2 ^ 64) g (gate_at ga g) (gate_at gb g) (omega arith) (gate_below a ia g lt) (gate_below b ib g (omega (arith, lt, ones.0)))
    (ones.1 g lt ∙ ap₂ (λ inputs names. equation_row inputs names (gate_equation inputs g (gate_at gb g))) (sym p.inputs) (sym p.names))))

-- ---- conditions and arcs

signals_fit : (m : ModuleValue) → IsModule m → signal_count m.netlist.gates ≤ 2 ^ 64
signals_fit m is = omega (arith, is.few_inputs, is.few_gates)

conditions_told : (a b : ModuleValue) → IsModule a → IsModule b → SamePorts a b → SameRows a b → a.netlist.gates ≡ b.netlist.gates → a.netlist.conditions ≡ b.netlist.conditions
conditions_told a b ia ib p rows gates =
    let na : Netlist = a.netlist in
    let nb : Netlist = b.netlist in
    let ones = ones_told (λ v. row a (condition_equation v (condition_of na v))) (λ v. row b (condition_equation v (condition_of nb v))) (length na.conditions) (length nb.conditions)
    (sym (map_ones (row a) (λ v. condition_equation v (condition_of na v)) (length na.conditions)) ∙ rows.conditions
    ∙ map_ones (row b) (λ v. condition_equation v (condition_of nb v)) (length nb.conditions)) in
    ext_get_or (Const false) na.conditions nb.conditions ones.0 (λ v lt.
    condition_told na.gates.inputs a.names (signal_count na.gates) (Condition v) (condition_of na v) (condition_of nb v) (signals_fit a ia) (ia.netlist.conditions_over v)
    (subst (λ n. IsRefOver n (condition_of nb v)) (ap signal_count (sym gates)) (ib.netlist.conditions_over v)) (ones.1 v lt ∙ renamed a b p (condition_equation v (condition_of nb v))))

wires_told : (a b : ModuleValue) → IsModule a → IsModule b → SamePorts a b → SameRows a b → a.netlist.gates ≡ b.netlist.gates → a.netlist.wires ≡ b.netlist.wires
wires_told a b ia ib p rows gates =
    let na : Netlist = a.netlist in
    let nb : Netlist = b.netlist in
    let same = arcs_told na.gates.inputs a.names (signal_count na.gates) na nb (signals_fit a ia) (omega (arith, ia.netlist.few)) p.count ia.netlist.wires_over
    (λ u v. subst (λ n. IsWireOver n (wire_of nb u v)) (ap signal_count (sym gates)) (ib.netlist.wires_over u v))
    (rows.arcs ∙ ap₂ (λ inputs names. map (equation_row inputs names) (arc_part nb)) (sym p.inputs) (sym p.names)) in
    ext_get_or [] na.wires nb.wires (ia.netlist.wires ∙ p.count ∙ sym ib.netlist.wires) (λ u lt.
    let hu : u < length na.conditions = omega (arith, lt, ia.netlist.wires) in
    ext_get_or None (get_or na.wires u []) (get_or nb.wires u []) (ia.netlist.rows u hu ∙ p.count
    ∙ sym (ib.netlist.rows u (omega (arith, hu, p.count))))
    (λ v lt'. same u v hu (omega (arith, lt', ia.netlist.rows u hu))))

-- ---- waits

-- only operations are waited for
waits_below : (n : Netlist) → IsNetlist n → (u v : ℕ) → set.contains (waits_of n v) u ≡ true → u < length n.conditions
waits_below n is u v h = elim (cases_lt u (length n.conditions)) [
  | inl l ↦ l
  | inr g ↦ (
      let none : wire_of n u v ≡ None = ap (λ (r : List (Option Ref)). slice_index_or r v None) (get_or_past n.wires u [] (omega (arith, g, is.wires))) in
      let t : false ≡ true = subst IsSome none (is.declared u v h) in
      absurd cc)
]

waits_told : (a b : ModuleValue) → IsModule a → IsModule b → SamePorts a b → SameRows a b → a.netlist.waits ≡ b.netlist.waits
waits_told a b ia ib p rows =
    let na : Netlist = a.netlist in
    let nb : Netlist = b.netlist in
    let ones = ones_told (λ v. row a (request_equation na v)) (λ v. row b (request_equation nb v)) (length na.conditions) (length nb.conditions)
    (sym (map_ones (row a) (request_equation na) (length na.conditions)) ∙ rows.requests ∙ map_ones (row b) (request_equation nb) (length nb.conditions)) in
    let same : (v u : ℕ) → v < length na.conditions → u < length na.conditions → set.contains (waits_of na v) u ≡ set.contains (waits_of nb v) u = λ v u lv lu.
    request_told a v (length na.conditions) (waits_of na v) (waits_of nb v) ia.names ia.distinct (omega (arith, ia.one_name_each))
    (ones.1 v lv ∙ renamed a b p (request_equation nb v) ∙ ap (λ count. row a (request_of (waits_of nb v) count v)) (sym p.count)) u lu in
    ext_get_or set.empty na.waits nb.waits (ia.netlist.waits ∙ p.count ∙ sym ib.netlist.waits) (λ v lt.
    let lv : v < length na.conditions = omega (arith, lt, ia.netlist.waits) in
    set.same_set nat_cmp_total nat_cmp-IsAntisymmetric (waits_of na v) (waits_of nb v) (λ u. same_bool (set.contains (waits_of na v) u) (set.contains (waits_of nb v) u)
    (λ h. sym (same v u lv (waits_below na ia.netlist u v h)) ∙ h) (λ h. same v u lv (omega (arith, waits_below nb ib.netlist u v h, p.count)) ∙ h)))

-- ---- the whole module

same_modules : (a b : ModuleValue) → a.names ≡ b.names → a.netlist.gates ≡ b.netlist.gates →
    a.netlist.conditions ≡ b.netlist.conditions → a.netlist.wires ≡ b.netlist.wires →
    a.netlist.waits ≡ b.netlist.waits → a ≡ b
same_modules a b p q r s t = λ i. record { names = p i; netlist = record { gates = q i; conditions = r i; wires = s i; waits = t i } }

-- two modules with the same text are one
pub module_told : (a b : ModuleValue) → IsModule a → IsModule b → text_of (module_lines a) ≡ text_of (module_lines b) → a ≡ b
module_told a b ia ib e =
    let lines = lines_told a b (sym (lines_again (module_lines a) (lines_free a ia)) ∙ ap lines_of e ∙ lines_again (module_lines b) (lines_free b ib)) in
    let ports = ports_told a b ia ib lines.inputs in
    let rows = rows_told a b lines.equations in
    let gates = gates_told a b ia ib ports rows in
    same_modules a b ports.names gates (conditions_told a b ia ib ports rows gates) (wires_told a b ia ib ports rows gates) (waits_told a b ia ib ports rows)
