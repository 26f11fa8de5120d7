-- The rows of a report are read exactly, one behind another.
use Rattle.std.proofs.Common.{lit<, ◌≡◌, ℕ, zero, suc, ◌<◌, ◌≤◌, ◌+◌, ◌^◌, Bool, true, leb, List, [], ◌∷◌, ◌++◌, length, map, Result, refl, sym, ap, subst, ◌∙◌, arith}
use Rattle.std.specs.Prelude.{codes, IsTrue}
use Rattle.std.specs.List.{AllByRecursion, IsDistinct}
use Rattle.std.proofs.lemmas.Bool.{leb-true}
use Rattle.std.proofs.lemmas.List.Elements.{All-from_recursion}
use Rattle.cpog_base.specs.Names.{AreDistinct}
use Rattle.cpog_defs.specs.declared.types.Gate.{Gate}
use Rattle.cpog_defs.specs.declared.types.Ref.{Ref}
use Rattle.cnf_build.specs.Evidence.{EvidenceValue, OpenValue}
use Rattle.line_text.specs.Words.{is_free_name}
use Rattle.netlist_verilog.specs.Module.{ModuleValue, IsModule, AreNames}
use Rattle.netlist_verilog.specs.Rows.{module_lines}
use Rattle.report_text.specs.declared.bound.Bound.{Bound}
use Rattle.report_text.specs.Report.{IsBound}
use Rattle.report_text.specs.Rows.{gates_row, gate_lines, bound_row}
use Rattle.line_rows.specs.Position.{Position}
use Rattle.line_rows.specs.Reading.{row, exactly, then_of, lines_many}
use Rattle.line_rows.specs.Spelling.{IsOf, ThenSpells}
use Rattle.line_rows.proofs.RowLaws.{IsRows, rows-row, exact-exactly}
use Rattle.line_rows.proofs.UntilLaws.{FitsUntil}
use Rattle.line_rows.proofs.SpelledLaws.{IsSpelled, spelled-rows, spelled-row, spelled-then}
use Rattle.evidence_reader.specs.Shown.{SpellsShown, shown_at}
use Rattle.evidence_reader.proofs.ShownLaws.{shown_spelled}
use Rattle.module_reader.specs.Modules.{module_at}
use Rattle.module_reader.proofs.WholeLaws.{module_law}
use Rattle.report_reader.specs.Reading.{AreNext}
use Rattle.report_reader.specs.Heads.{HeadValue, IsHead, lines_of_head, head_at}
use Rattle.report_reader.specs.Scenarios.{Block, FitsBlock, block_lines, with_name, gate_bound, scenarios_at}
use Rattle.report_reader.specs.Gates.{first_pair, gates_at, ops_at, arcs_at}
use Rattle.report_reader.specs.Entries.{FitEntries, entry_row}
use Rattle.report_reader.specs.Reports.{Scenes, Parts, end_at, body_at, parts_at}
use Rattle.report_reader.specs.declared.gates.ArcLine.{ArcLine}
use Rattle.report_reader.proofs.NameLaws.{next_free}
use Rattle.report_reader.proofs.Distinct.{next_are_distinct}
use Rattle.report_reader.proofs.OperationLaws.{AreKnown}
use Rattle.report_reader.proofs.HeadRows.{head_rows}
use Rattle.report_reader.proofs.BlockLaws.{scenarios_rows}
use Rattle.report_reader.proofs.GateLaws.{Ahead, SoManyGates, gates_rows, SoManyRefs, ref_lines, ops_rows}
use Rattle.report_reader.proofs.ArcLaws.{arcs_spelled}
use Rattle.report_reader.proofs.ColumnLaws.{fits_end}

-- ---- names of a head

pub no_names_twice : AreDistinct []
unfolding IsDistinct
no_names_twice = tt

pub known_names : (names : List (List ℕ)) → AreNext 64 [] names → AreKnown names
known_names names next = record { distinct = (next_are_distinct 64 [] names next no_names_twice (omega arith)).0; free = next_free 64 [] names next }

pub few_names : (names : List (List ℕ)) → AreNext 64 [] names → length names ≤ 64
few_names names next = (next_are_distinct 64 [] names next no_names_twice (omega arith)).1

pub are_names : (names : List (List ℕ)) → AreNext 64 [] names → AreNames names
are_names names next = All-from_recursion (λ name. is_free_name name ≡ true) names (next_free 64 [] names next)

-- ---- what the rows spell

abbrev pub FitsScenes : HeadValue → Scenes → Type 0
FitsScenes h s = FitsBlock h.bits h.names [] s.0 × FitsUntil (FitsBlock h.bits h.names) with_name (λ n. n < gate_bound h.bits) 63 (s.0.name ∷ []) s.1.0 s.1.1

abbrev pub scenes_lines : HeadValue → Scenes → List (List ℕ)
scenes_lines h s = block_lines h.bits h.names s.0 ++ (lines_many (λ _ b. block_lines h.bits h.names b) with_name (s.0.name ∷ []) s.1.0 ++ gates_row s.1.1 ∷ [])

abbrev pub SpellsArcs : ℕ → ℕ → List (List ℕ) → List ArcLine × Bound → List (List ℕ) → Type 0
SpellsArcs inputs gates names x ls = (FitEntries (inputs + gates) (length names) first_pair x.0 × IsBound 65536 x.1) × (ls ≡ map (entry_row inputs names) x.0 ++ bound_row x.1 ∷ [])

abbrev pub AnyUnit : Unit {0} → Type 0
AnyUnit u = Unit {0}

abbrev pub netlist_line : Unit {0} → List (List ℕ)
netlist_line u = codes "netlist" ∷ []

abbrev pub SpellsEnd : List (List ℕ) → ((EvidenceValue × OpenValue) × (Unit {0} × ModuleValue)) → List (List ℕ) → Type 0
SpellsEnd names = ThenSpells (SpellsShown names 65536) (λ _. ThenSpells (IsOf AnyUnit netlist_line) (λ _. IsOf IsModule module_lines))

abbrev pub SpellsBody : ℕ → List (List ℕ) → ℕ → (List Gate × (List Ref × ((List ArcLine × Bound) × ((EvidenceValue × OpenValue) × (Unit {0} × ModuleValue))))) → List (List ℕ) → Type 0
SpellsBody bits names count = ThenSpells (IsOf (SoManyGates bits count) (gate_lines bits)) (λ _. ThenSpells (IsOf (SoManyRefs (bits + count) (length names)) (ref_lines bits names)) (λ _. ThenSpells (SpellsArcs bits count names) (λ _. SpellsEnd names)))

abbrev pub SpellsParts : Parts → List (List ℕ) → Type 0
SpellsParts = ThenSpells (IsOf IsHead lines_of_head) (λ h. ThenSpells (IsOf (FitsScenes h) (scenes_lines h)) (λ s. SpellsBody h.bits h.names s.1.1))

-- ---- and each is read so

netlist_rows : IsSpelled (IsOf AnyUnit netlist_line) (row (exactly (codes "netlist")))
netlist_rows = spelled-rows (rows-row (exact-exactly (codes "netlist")) (tt, tt))

end_spelled : (names : List (List ℕ)) → AreNext 64 [] names → IsSpelled (SpellsEnd names) (end_at names)
end_spelled names next =
    spelled-then (shown_spelled names 65536 (are_names names next) (known_names names next).distinct (omega arith)) (λ _ _ _.
    spelled-then netlist_rows (λ _ _ _. spelled-rows module_law))

two_bits : (bits count : ℕ) → 1 ≤ bits → count < gate_bound bits → 0 < count → 2 ≤ bits + 0
two_bits bits count low small some = grind arith

pub bound_most : (bits : ℕ) → gate_bound bits ≤ 65536
bound_most bits = grind arith

ahead : (bits count : ℕ) → 1 ≤ bits → bits ≤ 8 → count < gate_bound bits → Ahead bits count 0
ahead bits count low few small = record { enough = λ some. two_bits bits count low small some; small = omega (arith, bound_most bits) }

body_spelled : (bits : ℕ) (names : List (List ℕ)) (count : ℕ) → 1 ≤ bits → bits ≤ 8 → count < gate_bound bits → AreNext 64 [] names → IsSpelled (SpellsBody bits names count) (body_at bits names count)
body_spelled bits names count low few small next =
    let below : bits + count < 2 ^ 32 = omega (arith, bound_most bits) in
    spelled-then (spelled-rows (gates_rows bits count (ahead bits count low few small))) (λ _ _ _.
    spelled-then (spelled-rows (ops_rows bits count names below)) (λ _ _ _.
    spelled-then (arcs_spelled bits count names (known_names names next) below) (λ _ _ _. end_spelled names next)))

pub count_of_scenes : (h : HeadValue) (s : Scenes) → FitsScenes h s → s.1.1 < gate_bound h.bits
count_of_scenes h s fits = fits_end h.bits h.names (λ n. n < gate_bound h.bits) 63 (s.0.name ∷ []) s.1.0 s.1.1 fits.1

pub parts_spelled : IsSpelled SpellsParts parts_at
parts_spelled =
    spelled-then (spelled-rows head_rows) (λ h _ head.
    spelled-then (spelled-rows (scenarios_rows h.bits h.names (known_names h.names head.0.names))) (λ s _ scenes.
    body_spelled h.bits h.names s.1.1 head.0.some_bit head.0.few_bits (count_of_scenes h s scenes.0) head.0.names))
