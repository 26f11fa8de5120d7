-- A module is read exactly from its rows, and each text has one first bad line.
use Rattle.std.proofs.Common.{◌≡◌, ℕ, ◌<◌, ◌≤◌, ◌+◌, ◌^◌, ◌⊎◌, inl, inr, Bool, true, false, cond, eqb, List, [], ◌∷◌, ◌++◌, length, map, get_or, Option, Some, None, is_some, Result, Ok, Err, refl, sym, ap, ap₂, subst, ◌∙◌, arith}
use Rattle.std.specs.Prelude.{codes, IsTrue}
use Rattle.std.specs.List.{AllByRecursion}
use Rattle.std.specs.FinSet as set
use Rattle.std.specs.Ordering.{nat_cmp}
use Rattle.std.proofs.lemmas.Bool.{cases_Bool, cases_lt, both_ways, eqb-true, eq-eqb}
use Rattle.std.proofs.lemmas.List.{get_or_past, length-map}
use Rattle.std.proofs.lemmas.List.Elements.{All-from_recursion, recursion_from_All, All-get_or, All-from_get_or}
use Rattle.cpog_defs.specs.declared.types.Gate.{Gate}
use Rattle.cpog_defs.specs.declared.types.Ref.{Ref}
use Rattle.cpog_defs.specs.declared.types.Ref.TheVariants.{Const}
use Rattle.cpog_defs.specs.Orders.{Set}
use Rattle.cpog_defs.specs.Gates.{GateList, AreGatesFrom, IsRefOver}
use Rattle.handshake_eqs.specs.Netlists.{Netlist, IsNetlist, IsWireOver, condition_of, wire_of, waits_of}
use Rattle.handshake_eqs.proofs.PartLemmas.{netlist-zero}
use Rattle.line_text.specs.Words.{is_free_name, continues_name}
use Rattle.line_text.proofs.TellingLemmas.{AllPass, free_name_passes}
use Rattle.netlist_verilog.specs.Wires.{Go, Acknowledge, Request, Done, Idle, wire_text}
use Rattle.netlist_verilog.specs.Module.{ModuleValue, IsModule}
use Rattle.netlist_verilog.specs.Rows.{joined, signals_from, for_each, module_lines}
use Rattle.line_rows.proofs.RowLaws.{IsRows, rows-then, rows-view, whole_found, whole_first_bad}
use Rattle.line_rows.specs.declared.fault.ReadError.{ReadError}
use Rattle.line_rows.specs.declared.fault.ReadError.TheVariants as errors
use Rattle.line_rows.specs.Reading.{Fails, Gives, whole}
use Rattle.line_rows.specs.FirstBad as rows
use Rattle.text_rows.specs.FirstBad.{IsFirstBad, NoneBegins}
use Rattle.module_reader.specs.Faults.{IsModuleText}
use Rattle.module_reader.specs.Modules.{netlist_of, requests_at, body_at, is_declared, no_netlist, gate_room, module_from, module_at, IsPorts}
use Rattle.module_reader.specs.Rows.{gates_at, conditions_at, arcs_at}
use Rattle.line_rows.specs.Position.{Position}
use Rattle.module_reader.proofs.RowLaws.{gates_rows, conditions_rows}
use Rattle.module_reader.proofs.ArcLaws.{IsDeclared, AreDeclared, arcs_rows}
use Rattle.module_reader.proofs.MatrixLaws.{matrix_square, bits_of, row_at, declared_at, fits_count, fit_at, fits_length}
use Rattle.module_reader.proofs.PortLaws.{ports_lines, ports_rows}
use Rattle.module_reader.specs.Fits.{NotOwn, IsRow, IsMatrix, IsWires}
use Rattle.module_reader.proofs.RequestLaws.{IsWaits}
use Rattle.module_reader.proofs.BodyLaws.{requests_rows, room_ahead, full_made, AreGood, IsNetlistFor, wires_of, IsFull}
use Rattle.module_reader.proofs.TextLaws.{module_of, body_lines}
use Rattle.module_reader.proofs.ModuleLaws.{IsBody, body_rows}

all_passes : (names : List (List ℕ)) → AllByRecursion (λ w. is_free_name w ≡ true) names → AllByRecursion (AllPass continues_name) names
all_passes [] h = tt
all_passes (w ∷ ws) h = (free_name_passes w h.0, all_passes ws h.1)

good_of : (h : ℕ × List (List ℕ)) → IsPorts h → AreGood h.1
good_of h fits = record { pass = all_passes h.1 fits.free; distinct = fits.distinct; few = fits.few_names }

-- ---- the parts of a module

ports_of : (names : List (List ℕ)) (n : Netlist) → IsModule (module_of names n) → IsPorts (n.gates.inputs, names)
ports_of names n is = record {
  some = is.some_input;
  few = omega (arith, is.few_inputs);
  free = recursion_from_All (λ w. is_free_name w ≡ true) names (λ k d lt. is.names k d lt);
  distinct = is.distinct;
  few_names = omega (arith, is.one_name_each, is.netlist.few);
}

lone_gates : (gates : List Gate) → AreGatesFrom 1 gates → length gates ≡ 0
lone_gates [] h = refl
lone_gates (g ∷ gates) h = absurd (omega (arith, h.0, h.1))

few_gates : (inputs : ℕ) (gates : List Gate) → AreGatesFrom inputs gates → length gates < 262144 → length gates ≤ gate_room inputs
few_gates inputs gates are lt = elim (cases_Bool (eqb inputs 1)) [
  | inl one ↦
      let none = lone_gates gates (subst (λ (k : ℕ). AreGatesFrom k gates) (eqb-true inputs 1 one) are) in
      subst (λ (b : Bool). length gates ≤ cond b 0 262143) (sym one) (omega (arith, none))
  | inr more ↦ subst (λ (b : Bool). length gates ≤ cond b 0 262143) (sym more) (omega (arith, lt))
]

-- past the last operation there is no arc wire
none_past : (n : Netlist) → IsNetlist n → (u v : ℕ) → length n.conditions ≤ u → wire_of n u v ≡ None
none_past n is u v past = ap (λ (row : List (Option Ref)). get_or row v None) (get_or_past n.wires u [] (omega (arith, is.wires, past)))

full_of : (names : List (List ℕ)) (n : Netlist) → IsModule (module_of names n) → 0 < length n.gates.gates + length names → IsFull n.gates.inputs names n
full_of names n is some =
    let inputs = n.gates.inputs in
    let signals = n.gates.inputs + length n.gates.gates in
    let count = length names in
    let net = is.netlist in
    let bits : List (List Bool) = bits_of n.wires in
    let long : length n.wires ≡ count = net.wires ∙ sym is.one_name_each in
    let size : (u : ℕ) → u < count → length (get_or n.wires u []) ≡ count = λ u lt. net.rows u (omega (arith, lt, is.one_name_each)) ∙ sym is.one_name_each in
    let bit : (u v : ℕ) → is_declared bits (0 + u) (0 + v) ≡ is_some (wire_of n u v) = λ u v. ap₂ (is_declared bits) (omega arith) (omega arith) ∙ declared_at n.wires u v in
    let own : (u v : ℕ) → eqb (0 + u) (0 + v) ≡ true → get_or (get_or bits u []) v false ≡ false = λ u v same.
    let e : v ≡ u = omega (arith, eqb-true (0 + u) (0 + v) same) in
    declared_at n.wires u v ∙ ap (λ (k : ℕ). is_some (wire_of n u k)) e ∙ ap is_some (net.diagonal u) in
    let row : (u : ℕ) → u < count → IsRow count (0 + u) (get_or bits u []) = λ u lt.
    fits_count (NotOwn (0 + u)) false count 0 (get_or bits u []) (ap length (row_at n.wires u) ∙ length-map (get_or n.wires u []) is_some ∙ size u lt) (λ v lv same. own u v same) in
    let conditions : AllByRecursion (IsRefOver signals) n.conditions = recursion_from_All (IsRefOver signals) n.conditions (All-from_get_or (IsRefOver signals) n.conditions (Const false) (λ k lt. net.conditions_over k)) in
    let wired : (u : ℕ) → u < count → AreDeclared signals (is_declared bits) count (0 + u) (get_or n.wires u []) = λ u lt.
    fits_count (λ v w. IsDeclared signals (is_declared bits (0 + u) v) w) None count 0 (get_or n.wires u []) (size u lt) (λ v lv. (sym (bit u v), net.wires_over u v)) in
    let waits : (v : ℕ) → v < count → IsWaits names bits (0 + v) (get_or n.waits v set.empty) = λ v lv u h.
    let there : is_some (wire_of n u v) ≡ true = net.declared u v h in (
      elim (cases_lt u count) [ inl l ↦ l | inr g ↦ absurd (both_ways (is_some (wire_of n u v)) (ap is_some (none_past n net u v (omega (arith, g, is.one_name_each)))) there) ],
      ap (is_declared bits u) (omega arith) ∙ declared_at n.wires u v ∙ there,
    ) in
    record {
      wires = record {
        few = few_gates inputs n.gates.gates is.gates is.few_gates;
        matrix = fits_count (IsRow count) [] count 0 bits (length-map n.wires (λ row. map is_some row) ∙ long) row;
        some = some;
      };
      netlist = (
        refl,
        (
          (is.gates, refl),
          (
            (conditions, sym is.one_name_each),
            (
              fits_count (λ u ws. AreDeclared signals (is_declared bits) count u ws) [] count 0 n.wires long wired,
              (fits_count (IsWaits names bits) set.empty count 0 n.waits (net.waits ∙ sym is.one_name_each) waits, tt),
            ),
          ),
        ),
      );
    }

nil_is : {A : Type 0} (xs : List A) → length xs ≡ 0 → xs ≡ []
nil_is [] h = refl
nil_is (x ∷ xs) h = absurd (omega (arith, h))

body_of : (names : List (List ℕ)) (n : Netlist) → IsModule (module_of names n) → IsBody n.gates.inputs names n
body_of (w ∷ ws) n is = full_of (w ∷ ws) n is (omega arith)
body_of [] n is = elim (cases_lt 0 (length n.gates.gates)) [
  | inl l ↦ inl (full_of [] n is (omega (arith, l)))
  | inr g ↦
      let gates = nil_is n.gates.gates (omega (arith, g)) in
      let conditions = nil_is n.conditions (sym is.one_name_each) in
      let wires = nil_is n.wires (is.netlist.wires ∙ sym is.one_name_each) in
      let waits = nil_is n.waits (is.netlist.waits ∙ sym is.one_name_each) in
      inr (λ i. record { gates = record { inputs = n.gates.inputs; gates = gates i }; conditions = conditions i; wires = wires i; waits = waits i })
]

-- ---- a module of parts

room_small : (inputs count : ℕ) → count ≤ gate_room inputs → count < 262144
room_small inputs count h = step (eqb inputs 1) h
  where
    step : (b : Bool) → count ≤ cond b 0 262143 → count < 262144
    step true h = omega (arith, h)
    step false h = omega (arith, h)

is_none : {A : Type 0} (o : Option A) → is_some o ≡ false → o ≡ None
is_none None h = refl
is_none (Some x) h = absurd cc

from_full : (names : List (List ℕ)) (n : Netlist) → IsPorts (n.gates.inputs, names) → IsFull n.gates.inputs names n → IsModule (module_of names n)
from_full names n ports full =
    let h = full.netlist.1 in
    let signals = n.gates.inputs + length n.gates.gates in
    let count = length names in
    let bits : List (List Bool) = bits_of n.wires in
    let conditions : length n.conditions ≡ count = h.1.0.1 in
    let long : length n.wires ≡ count = fits_length (λ u ws. AreDeclared signals (is_declared bits) count u ws) count 0 n.wires h.1.1.0 in
    let wired : (u : ℕ) → u < count → AreDeclared signals (is_declared bits) count (0 + u) (get_or n.wires u []) = λ u lt. fit_at (λ u ws. AreDeclared signals (is_declared bits) count u ws) [] count 0 n.wires h.1.1.0 u lt in
    let size : (u : ℕ) → u < count → length (get_or n.wires u []) ≡ count = λ u lt. fits_length (λ v w. IsDeclared signals (is_declared bits (0 + u) v) w) count 0 (get_or n.wires u []) (wired u lt) in
    let past : (u v : ℕ) → (count ≤ u) ⊎ (count ≤ v) → wire_of n u v ≡ None = λ u v p. elim (cases_lt u count) [
      | inl l ↦ get_or_past (get_or n.wires u []) v None (elim p [ inl g ↦ absurd (omega (arith, l, g)) | inr g ↦ omega (arith, g, size u l) ])
      | inr g ↦ ap (λ (row : List (Option Ref)). get_or row v None) (get_or_past n.wires u [] (omega (arith, long, g)))
    ] in
    let over : (u v : ℕ) → IsWireOver signals (wire_of n u v) = λ u v. elim (cases_lt u count) [
      | inr g ↦ subst (IsWireOver signals) (sym (past u v (inl g))) tt
      | inl lu ↦ elim (cases_lt v count) [
        | inr g ↦ subst (IsWireOver signals) (sym (past u v (inr g))) tt
        | inl lv ↦ (fit_at (λ v w. IsDeclared signals (is_declared bits (0 + u) v) w) None count 0 (get_or n.wires u []) (wired u lu) v lv).1
      ]
    ] in
    let diagonal : (u : ℕ) → wire_of n u u ≡ None = λ u. elim (cases_lt u count) [
      | inr g ↦ past u u (inl g)
      | inl l ↦ is_none (wire_of n u u) (sym (declared_at n.wires u u) ∙ fit_at (NotOwn (0 + u)) false count 0 (get_or bits u []) (fit_at (IsRow count) [] count 0 bits full.wires.matrix u l) u l (eq-eqb (0 + u) (0 + u) refl))
    ] in
    let conditions_over : (v : ℕ) → IsRefOver signals (condition_of n v) = λ v. elim (cases_lt v (length n.conditions)) [
      | inl l ↦ All-get_or (IsRefOver signals) n.conditions v (Const false) l (All-from_recursion (IsRefOver signals) n.conditions h.1.0.0)
      | inr g ↦ subst (IsRefOver signals) (sym (get_or_past n.conditions v (Const false) g)) tt
    ] in
    let waits : length n.waits ≡ count = fits_length (IsWaits names bits) count 0 n.waits h.1.1.1.0 in
    let declared : (u v : ℕ) → IsTrue (set.contains (waits_of n v) u) → is_some (wire_of n u v) ≡ true = λ u v t. elim (cases_lt v count) [
      | inl l ↦
          let same : (0 + v) ≡ v = omega arith in
          sym (declared_at n.wires u v) ∙ ap (is_declared bits u) (sym same) ∙ (fit_at (IsWaits names bits) set.empty count 0 n.waits h.1.1.1.0 v l u t).1
      | inr g ↦ absurd (both_ways (set.contains (waits_of n v) u) (ap (λ (s : Set). set.contains s u) (get_or_past n.waits v set.empty (omega (arith, waits, g))) ∙ set.contains-empty nat_cmp u) t)
    ] in
    record {
      names = All-from_recursion (λ w. IsTrue (is_free_name w)) names ports.free;
      distinct = ports.distinct;
      one_name_each = sym conditions;
      some_input = ports.some;
      few_inputs = omega (arith, ports.few);
      few_gates = room_small n.gates.inputs (length n.gates.gates) full.wires.few;
      gates = h.0.0;
      netlist = record {
        few = omega (arith, conditions, ports.few_names);
        wires = long ∙ sym conditions;
        rows = λ u lt. size u (omega (arith, lt, conditions)) ∙ sym conditions;
        waits = waits ∙ sym conditions;
        diagonal = diagonal;
        conditions_over = conditions_over;
        wires_over = over;
        declared = declared;
      };
    }

from_small : (inputs : ℕ) → IsPorts (inputs, []) → IsModule (module_of [] (no_netlist inputs))
from_small inputs ports = record {
  names = All-from_recursion (λ w. IsTrue (is_free_name w)) [] tt;
  distinct = ports.distinct;
  one_name_each = refl;
  some_input = ports.some;
  few_inputs = omega (arith, ports.few);
  few_gates = omega arith;
  gates = tt;
  netlist = netlist-zero (record { inputs = inputs; gates = [] }) 0 (omega arith);
}

full_module : (inputs : ℕ) (names : List (List ℕ)) (n : Netlist) → IsPorts (inputs, names) → IsFull inputs names n → IsModule (module_of names n) × (n.gates.inputs ≡ inputs)
full_module inputs names n ports full =
    (subst (λ (k : ℕ). IsPorts (k, names) → IsFull k names n → IsModule (module_of names n)) full.netlist.0 (from_full names n) ports full, full.netlist.0)

module_made : (inputs : ℕ) (names : List (List ℕ)) (n : Netlist) → IsPorts (inputs, names) → IsBody inputs names n → IsModule (module_of names n) × (n.gates.inputs ≡ inputs)
module_made inputs (w ∷ ws) n ports full = full_module inputs (w ∷ ws) n ports full
module_made inputs [] n ports (inl full) = full_module inputs [] n ports full
module_made inputs [] n ports (inr small) = subst (λ (x : Netlist). IsModule (module_of [] x) × (x.gates.inputs ≡ inputs)) (sym small) (from_small inputs ports, refl)

-- the parts that were read make a netlist
pub parts_netlist : (inputs : ℕ) (names : List (List ℕ)) (d : ℕ × List (List Bool)) (p0 p1 p2 p3 p4 : Position) (gates : List Gate) (conditions : List Ref) (wires : List (List (Option Ref))) (waits : List Set) → IsPorts (inputs, names) → IsWires inputs names d
    → gates_at inputs d.0 p0 ≡ Ok (gates, p1) → conditions_at inputs d.0 names p1 ≡ Ok (conditions, p2) → arcs_at inputs d.0 (is_declared d.1) (length names) p2 ≡ Ok (wires, p3) → requests_at names d.1 p3 ≡ Ok (waits, p4)
    → IsNetlist (netlist_of inputs gates conditions wires waits)
parts_netlist inputs names d p0 p1 p2 p3 p4 gates conditions wires waits ports w e1 e2 e3 e4 =
    let n : Netlist = netlist_of inputs gates conditions wires waits in
    let good = good_of (inputs, names) ports in
    let ahead = room_ahead inputs d.0 ports.some ports.few w.few in
    let small : inputs + d.0 < 2 ^ 32 = omega (arith, ahead.small) in
    let fits : IsNetlistFor inputs names d n = (
      refl,
      (
        ((gates_rows inputs d.0 names ahead).takes p0 (gates, p1) e1).0,
        (
          ((conditions_rows inputs d.0 names small).takes p1 (conditions, p2) e2).0,
          (
            ((arcs_rows inputs d.0 names (is_declared d.1) (length names) small).takes p2 (wires, p3) e3).0,
            (((requests_rows inputs names d.1 good.pass good.distinct).takes p3 (waits, p4) e4).0, tt),
          ),
        ),
      ),
    ) in
    let same : wires_of n ≡ d = full_made inputs names d n w fits in
    let full : IsFull inputs names n = subst (λ (x : ℕ × List (List Bool)). IsWires inputs names x → IsNetlistFor inputs names x n → IsFull inputs names n) same (λ a b. record { wires = a; netlist = b }) w fits in
    (from_full names n ports full).netlist

-- and what was read behind the ports a module
pub body_module : (inputs : ℕ) (names : List (List ℕ)) (p : Position) (n : Netlist) (q : Position) → IsPorts (inputs, names) → body_at inputs names p ≡ Ok (n, q) → IsModule (module_of names n)
body_module inputs names p n q ports e =
    (module_made inputs names n ports ((body_rows inputs names ports.some ports.few (good_of (inputs, names) ports)).takes p (n, q) e).0).0

-- ---- its lines

lines_split : (names : List (List ℕ)) (n : Netlist) → length names ≡ length n.conditions → module_lines (module_of names n) ≡ ports_lines (n.gates.inputs, names) ++ body_lines names n
lines_split names n count = ap (λ (k : ℕ). header k ∷ inputs k ∷ outputs k ∷ body_lines names n) (sym count)
  where
    given : ℕ → List ℕ
    given k = joined true (map (wire_text n.gates.inputs names) (signals_from 0 n.gates.inputs ++ (Go ∷ for_each Acknowledge k)))

    answered : ℕ → List ℕ
    answered k = joined true (map (wire_text n.gates.inputs names) (for_each Request k ++ (Done ∷ Idle ∷ [])))

    header : ℕ → List ℕ
    header k = codes "module cpog(" ++ (given k ++ (codes ", " ++ (answered k ++ codes ");")))

    inputs : ℕ → List ℕ
    inputs k = codes "  input " ++ (given k ++ codes ";")

    outputs : ℕ → List ℕ
    outputs k = codes "  output " ++ (answered k ++ codes ";")

pub module_law : IsRows IsModule module_lines module_at
unfolding module_at
module_law =
    rows-view module_from IsModule module_lines (rows-then ports_rows (λ h fits. body_rows h.0 h.1 fits.some fits.few (good_of h fits)))
    (λ m is. (((m.netlist.gates.inputs, m.names), m.netlist), (ports_of m.names m.netlist is, body_of m.names m.netlist is), lines_split m.names m.netlist is.one_name_each, refl))
    (λ x fits.
    let made = module_made x.0.0 x.0.1 x.1 fits.0 fits.1 in
    (made.0, lines_split x.0.1 x.1 made.0.one_name_each ∙ ap (λ (k : ℕ). ports_lines (k, x.0.1) ++ body_lines x.0.1 x.1) made.1))

-- ---- a whole text

pub is_found : (lines : List (List ℕ)) (m : ModuleValue) → whole module_at lines ≡ Ok m → lines ≡ module_lines m
is_found lines m given = (whole_found module_law lines m given).1

none_begin : (good after : List (List ℕ)) → rows.NoneBegins IsModule module_lines good after → NoneBegins IsModuleText good after
none_begin good [] h = λ t. h t.0 t.1 (sym t.2)
none_begin good (l ∷ rest) h = λ more t. h t.0 more t.1 (sym t.2)

pub is_first : (lines : List (List ℕ)) (k : ℕ) → whole module_at lines ≡ Err k → IsFirstBad IsModuleText lines k
is_first lines k given =
    let f = whole_first_bad module_law lines k given in
    record { good = f.good; after = f.after; parts = f.parts; number = f.number; begins = (f.begins.1, (f.begins.0, f.begins.2, sym f.begins.3)); none = none_begin f.good f.after f.none }

pub fault_first : (lines : List (List ℕ)) (e : ReadError) (k : ℕ) → e ≡ errors.BadLine k → Fails e (whole module_at lines) → IsFirstBad IsModuleText lines k
fault_first lines e k is h = is_first lines k (subst (λ (x : ReadError). Fails x (whole module_at lines)) is h)

-- ---- what the functions below are asked

pub gates_small : (inputs count : ℕ) → count ≤ gate_room inputs → count < 2 ^ 30
gates_small inputs count h = let lt = room_small inputs count h in omega (arith, lt)

-- the same, in the words of the function
pub parts_made : (inputs : ℕ) (names : List (List ℕ)) (d : ℕ × List (List Bool)) (p0 p1 p2 p3 p4 : Position) (g : GateList) (cs cs' : List Ref) (ws ws' : List (List (Option Ref))) (ss ss' : List Set) → IsPorts (inputs, names) → IsWires inputs names d
    → g.inputs ≡ inputs → cs' ≡ cs → ws' ≡ ws → ss' ≡ ss
    → gates_at inputs d.0 p0 ≡ Ok (g.gates, p1) → conditions_at inputs d.0 names p1 ≡ Ok (cs, p2) → arcs_at inputs d.0 (is_declared d.1) (length names) p2 ≡ Ok (ws, p3) → requests_at names d.1 p3 ≡ Ok (ss, p4)
    → IsNetlist (record { gates = g; conditions = cs'; wires = ws'; waits = ss' })
parts_made inputs names d p0 p1 p2 p3 p4 g cs cs' ws ws' ss ss' ports w ei ec ew es e1 e2 e3 e4 =
    subst IsNetlist (λ i. record { gates = record { inputs = sym ei i; gates = g.gates }; conditions = sym ec i; wires = sym ew i; waits = sym es i })
    (parts_netlist inputs names d p0 p1 p2 p3 p4 g.gates cs ws ss ports w e1 e2 e3 e4)

-- ---- what the rows are asked of a matrix

pub record Asked {X : Type 0} (f : X → List Bool) (count : ℕ) (xs : List X) : Type 0 where
  pub total : length xs ≡ count
  pub few : length xs ≤ 128
  pub square : (u : ℕ) → u < length xs → length (get_or (map f xs) u []) ≡ length xs

pub asked : {X : Type 0} (f : X → List Bool) (count : ℕ) (xs ys : List X) → ys ≡ xs → IsMatrix count (map f xs) → count ≤ 128 → Asked f count ys
asked f count xs ys same m few =
    let total : length xs ≡ count = sym (length-map xs f) ∙ (matrix_square count (map f xs) m).0 in
    subst (Asked f count) (sym same) (record {
      total = total;
      few = omega (arith, total, few);
      square = λ u lt. (matrix_square count (map f xs) m).1 u (omega (arith, lt, total)) ∙ sym total;
    })

pub gives_at : {X Y : Type 0} (view : X → Y) (r : Result X ReadError) (a b : Result Y ℕ) → a ≡ b → Gives view r a → Gives view r b
gives_at view r a b e h = subst (Gives view r) e h
