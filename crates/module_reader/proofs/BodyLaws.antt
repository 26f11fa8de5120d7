-- The rows of a netlist, from its gates to the last line, and with the line of its wires before them.
use Rattle.std.proofs.Common.{◌≡◌, ℕ, ◌<◌, ◌≤◌, ◌+◌, ◌^◌, Bool, true, false, cond, eqb, List, [], ◌∷◌, ◌++◌, length, map, get_or, Result, refl, sym, ap, subst, ◌∙◌, arith}
use Rattle.std.specs.Prelude.{codes}
use Rattle.std.specs.List.{AllByRecursion}
use Rattle.std.specs.FinSet as set
use Rattle.std.specs.Ordering.{nat_cmp}
use Rattle.std.proofs.lemmas.Bool.{eqb-false}
use Rattle.cpog_base.specs.Names.{AreDistinct}
use Rattle.cpog_defs.specs.Orders.{Set, each_below}
use Rattle.handshake_eqs.specs.Netlists.{Netlist}
use Rattle.line_text.specs.Words.{continues_name}
use Rattle.line_text.proofs.TellingLemmas.{AllPass}
use Rattle.netlist_verilog.specs.Formulas.{equation_row}
use Rattle.netlist_verilog.proofs.BelowLemmas.{map_ones}
use Rattle.netlist_verilog.proofs.RequestRowLemmas.{request_of}
use Rattle.line_rows.specs.Position.{Position}
use Rattle.line_rows.specs.Reading.{row, then_of, view_of, lines_many}
use Rattle.line_rows.proofs.RowLaws.{IsRows, rows-row, rows-then, rows-view, rows-many, exact-exactly, FitsMany}
use Rattle.module_reader.specs.Modules.{requests_at, done_line, idle_line, nothing, last_at, ends_at, netlist_of, Parts, netlist_from, netlist_at, is_declared, wires_in, gate_room}
use Rattle.module_reader.proofs.RowLaws.{rows-same, lines_from_first, Ahead, SoManyGates, gates_lines, gates_rows, SoManyRefs, conditions_lines, conditions_rows}
use Rattle.module_reader.proofs.ArcLaws.{AreAllDeclared, matrix_lines, arcs_rows}
use Rattle.module_reader.proofs.MatrixLaws.{bits_of, fits_length, matrix_is}
use Rattle.module_reader.specs.Fits.{IsWires}
use Rattle.module_reader.proofs.WireLaws.{wires_line, wires_exact}
use Rattle.module_reader.proofs.RequestLaws.{IsWaits, request_line, request_exact}

-- ---- requests

abbrev pub AreAllWaits : List (List ℕ) → List (List Bool) → List Set → Type 0
AreAllWaits names arcs waits = FitsMany (IsWaits names arcs) (λ v _. v + 1) (length names) 0 waits

abbrev no_waits : Set
no_waits = set.empty

abbrev pub requests_lines : ℕ → List (List ℕ) → ℕ → List Set → List (List ℕ)
requests_lines inputs names count waits = map (equation_row inputs names) (each_below (λ v. request_of (get_or waits v no_waits) count v ∷ []) count)

requests_written : (inputs : ℕ) (names : List (List ℕ)) (arcs : List (List Bool)) (waits : List Set) → AreAllWaits names arcs waits → requests_lines inputs names (length names) waits ≡ lines_many (λ v s. request_line inputs names v s ∷ []) (λ v _. v + 1) 0 waits
requests_written inputs names arcs waits h =
    map_ones (equation_row inputs names) (λ v. request_of (get_or waits v no_waits) (length names) v) (length names)
    ∙ ap (each_below (λ v. request_line inputs names v (get_or waits v no_waits) ∷ [])) (sym (fits_length (IsWaits names arcs) (length names) 0 waits h))
    ∙ sym (lines_from_first (λ v s. request_line inputs names v s ∷ []) no_waits waits)

none_waits : (names : List (List ℕ)) (arcs : List (List Bool)) (v : ℕ) → IsWaits names arcs v no_waits
none_waits names arcs v u h = absurd (no_both (set.contains no_waits u) (set.contains-empty nat_cmp u) h)
  where
    no_both : (b : Bool) → b ≡ false → b ≡ true → ⊥
    no_both true e f = cc
    no_both false e f = cc

pub requests_rows : (inputs : ℕ) (names : List (List ℕ)) (arcs : List (List Bool)) → AllByRecursion (AllPass continues_name) names → AreDistinct names → IsRows (AreAllWaits names arcs) (requests_lines inputs names (length names)) (requests_at names arcs)
requests_rows inputs names arcs pass distinct =
    rows-same (AreAllWaits names arcs) (requests_lines inputs names (length names))
    (rows-many (λ v _. v + 1) (λ _ _. Unit {0}) (λ n v h. rows-row (request_exact inputs names arcs v pass distinct) (no_waits, none_waits names arcs v)) (λ n v s h fits. tt) (length names) 0 tt)
    (λ waits h. (h, requests_written inputs names arcs waits h))
    (λ waits h. (h, requests_written inputs names arcs waits h))

-- ---- the last lines

abbrev pub last_lines : ℕ → List (List ℕ) → List (List ℕ)
last_lines inputs names = idle_line inputs names ∷ codes "endmodule" ∷ []

abbrev pub end_lines : ℕ → List (List ℕ) → List (List ℕ)
end_lines inputs names = done_line inputs names ∷ last_lines inputs names

abbrev Nothing : Unit {0} → Type 0
Nothing _ = Unit {0}

last_rows : (inputs : ℕ) (names : List (List ℕ)) → IsRows Nothing (λ _. last_lines inputs names) (last_at inputs names)
unfolding last_at
last_rows inputs names =
    rows-view nothing Nothing (λ _. last_lines inputs names) (rows-then (rows-row (exact-exactly (idle_line inputs names)) (tt, tt)) (λ _ _. rows-row (exact-exactly (codes "endmodule")) (tt, tt)))
    (λ b h. ((tt, tt), (tt, tt), refl, refl)) (λ a h. (tt, refl))

pub ends_rows : (inputs : ℕ) (names : List (List ℕ)) → IsRows Nothing (λ _. end_lines inputs names) (ends_at inputs names)
unfolding ends_at
ends_rows inputs names =
    rows-view nothing Nothing (λ _. end_lines inputs names) (rows-then (rows-row (exact-exactly (done_line inputs names)) (tt, tt)) (λ _ _. last_rows inputs names))
    (λ b h. ((tt, tt), (tt, tt), refl, refl)) (λ a h. (tt, refl))

-- ---- behind the line of wires

abbrev pub PartsFit : ℕ → List (List ℕ) → ℕ × List (List Bool) → Parts → Type 0
PartsFit inputs names d x =
    SoManyGates inputs d.0 x.0 × (SoManyRefs (inputs + d.0) (length names) x.1.0 × (AreAllDeclared (inputs + d.0) (is_declared d.1) (length names) x.1.1.0 × (AreAllWaits names d.1 x.1.1.1.0 × Unit {0})))

abbrev pub parts_lines : ℕ → List (List ℕ) → Parts → List (List ℕ)
parts_lines inputs names x =
    gates_lines inputs names x.0 ++ (conditions_lines inputs names x.1.0 ++ (matrix_lines inputs names (length names) x.1.1.0 ++ (requests_lines inputs names (length names) x.1.1.1.0 ++ end_lines inputs names)))

abbrev pub parts_of : Netlist → Parts
parts_of n = (n.gates.gates, (n.conditions, (n.wires, (n.waits, tt))))

abbrev pub IsNetlistFor : ℕ → List (List ℕ) → ℕ × List (List Bool) → Netlist → Type 0
IsNetlistFor inputs names d n = (n.gates.inputs ≡ inputs) × PartsFit inputs names d (parts_of n)

-- what is said of the names
pub record AreGood (names : List (List ℕ)) : Type 0 where
  pub pass : AllByRecursion (AllPass continues_name) names
  pub distinct : AreDistinct names
  pub few : length names ≤ 128

abbrev with_inputs : Netlist → ℕ → Netlist
with_inputs n inputs = netlist_of inputs n.gates.gates n.conditions n.wires n.waits

pub netlist_rows : (inputs : ℕ) (names : List (List ℕ)) (d : ℕ × List (List Bool)) → Ahead inputs d.0 0 → AreGood names → IsRows (IsNetlistFor inputs names d) (λ n. parts_lines inputs names (parts_of n)) (netlist_at inputs names d)
unfolding netlist_at
netlist_rows inputs names d ahead good =
    let small : inputs + d.0 < 2 ^ 32 = omega (arith, ahead.small) in
    rows-view (netlist_from inputs) (IsNetlistFor inputs names d) (λ n. parts_lines inputs names (parts_of n))
    (rows-then (gates_rows inputs d.0 names ahead) (λ _ _. rows-then (conditions_rows inputs d.0 names small) (λ _ _.
    rows-then (arcs_rows inputs d.0 names (is_declared d.1) (length names) small) (λ _ _. rows-then (requests_rows inputs names d.1 good.pass good.distinct) (λ _ _. ends_rows inputs names)))))
    (λ n h. (parts_of n, h.1, refl, ap (with_inputs n) (sym h.0)))
    (λ x h. ((refl, h), refl))

-- ---- with the line of wires

abbrev pub wires_of : Netlist → ℕ × List (List Bool)
wires_of n = (length n.gates.gates, bits_of n.wires)

pub record IsFull (inputs : ℕ) (names : List (List ℕ)) (n : Netlist) : Type 0 where
  pub wires : IsWires inputs names (wires_of n)
  pub netlist : IsNetlistFor inputs names (wires_of n) n

abbrev pub full_lines : ℕ → List (List ℕ) → Netlist → List (List ℕ)
full_lines inputs names n = wires_line names (wires_of n) ∷ parts_lines inputs names (parts_of n)

abbrev pub second_of : {A B : Type 0} → A × B → B
second_of x = x.1

abbrev pub full_at : ℕ → List (List ℕ) → Position → Result (Netlist × Position) ℕ
full_at inputs names = view_of second_of (then_of (row (wires_in inputs names)) (netlist_at inputs names))

pub room_ahead : (inputs count : ℕ) → 1 ≤ inputs → inputs ≤ 8 → count ≤ gate_room inputs → Ahead inputs count 0
room_ahead inputs count some few room = step (eqb inputs 1) refl room
  where
    step : (b : Bool) → eqb inputs 1 ≡ b → count ≤ cond b 0 262143 → Ahead inputs count 0
    step true e h = record { enough = λ lt. absurd (omega (arith, h, lt)); small = omega (arith, h, few) }
    step false e h = record { enough = λ lt. more e; small = omega (arith, h, few) }
      where
        more : eqb inputs 1 ≡ false → 2 ≤ inputs + 0
        more e = omega (arith, some, eqb-false inputs 1 e)

pub full_made : (inputs : ℕ) (names : List (List ℕ)) (d : ℕ × List (List Bool)) (n : Netlist) → IsWires inputs names d → IsNetlistFor inputs names d n → wires_of n ≡ d
full_made inputs names d n w h = λ i. (h.1.0.1 i, matrix_is (inputs + d.0) (length names) d.1 n.wires h.1.1.1.0 w.matrix i)

abbrev WiresFit : ℕ → List (List ℕ) → (ℕ × List (List Bool)) × Netlist → Type 0
WiresFit inputs names x = IsWires inputs names x.0 × IsNetlistFor inputs names x.0 x.1

some_line : (inputs : ℕ) (names : List (List ℕ)) → (d : ℕ × List (List Bool)) × IsWires inputs names d → (d : ℕ × List (List Bool)) × IsWires inputs names d
some_line inputs names d = d

pub full_rows : (inputs : ℕ) (names : List (List ℕ)) → 1 ≤ inputs → inputs ≤ 8 → AreGood names → (d : ℕ × List (List Bool)) × IsWires inputs names d → IsRows (IsFull inputs names) (full_lines inputs names) (full_at inputs names)
full_rows inputs names some few good witness =
    rows-view second_of (IsFull inputs names) (full_lines inputs names)
    (rows-then (rows-row (wires_exact inputs names good.few) witness) (λ d w. netlist_rows inputs names d (room_ahead inputs d.0 some few w.few) good))
    (λ n h. ((wires_of n, n), (h.wires, h.netlist), refl, refl))
    (λ x h.
    let same : wires_of x.1 ≡ x.0 = full_made inputs names x.0 x.1 h.0 h.1 in (
      subst (λ (d : ℕ × List (List Bool)). IsWires inputs names d → IsNetlistFor inputs names d x.1 → IsFull inputs names x.1) same (λ w n. record { wires = w; netlist = n }) h.0 h.1,
      ap (λ (d : ℕ × List (List Bool)). wires_line names d ∷ parts_lines inputs names (parts_of x.1)) same,
    ))
