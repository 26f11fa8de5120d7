-- A report is read exactly.
use Rattle.std.proofs.Common.{lit<, ◌≡◌, ℕ, zero, suc, ◌<◌, ◌≤◌, ◌+◌, ◌-◌, ◌^◌, Bool, true, false, leb, List, [], ◌∷◌, ◌++◌, length, map, get_or, eqb, inl, inr, ◌⊎◌, Result, Ok, Err, refl, sym, ap, ap₂, subst, ◌∙◌, arith, append_assoc}
use Rattle.std.specs.Prelude.{codes}
use Rattle.std.specs.List.{AllByRecursion, All}
use Rattle.std.proofs.lemmas.Bool.{cases_Bool, eqb-true}
use Rattle.std.proofs.lemmas.List.{append-nil}
use Rattle.std.proofs.lemmas.List.Elements.{All-from_recursion, recursion_from_All, All-get_or, All-from_get_or}
use Rattle.cpog_base.specs.Names.{AreDistinct}
use Rattle.cpog_defs.specs.declared.types.Bit3.{Bit3}
use Rattle.cpog_defs.specs.declared.types.Gate.{Gate}
use Rattle.cpog_defs.specs.declared.types.OpId.{OpId}
use Rattle.cpog_defs.specs.declared.types.Ref.{Ref}
use Rattle.cpog_defs.specs.declared.types.Ref.TheVariants.{Const}
use Rattle.cpog_defs.specs.declared.types.Place.TheVariants.{Op}
use Rattle.cpog_defs.specs.Orders.{each_below}
use Rattle.cpog_defs.specs.Scenarios.{Scenario}
use Rattle.cpog_defs.specs.Gates.{AreGatesFrom, IsRefOver}
use Rattle.cpog_defs.specs.Graphs.{ConditionalGraph, IsGraph, op_ref, arc_ref}
use Rattle.cpog_defs.specs.Encodings.{Encoding, IsEncoding}
use Rattle.cnf_build.specs.Evidence.{EvidenceValue, OpenValue}
use Rattle.line_text.specs.Words.{is_free_name}
use Rattle.netlist_verilog.specs.Module.{ModuleValue, IsModule, AreNames}
use Rattle.netlist_verilog.specs.Rows.{module_lines}
use Rattle.netlist_verilog.specs.Wires.{name_of}
use Rattle.report_text.specs.declared.bound.Bound.{Bound}
use Rattle.report_text.specs.declared.version.Version.{Version}
use Rattle.report_text.specs.declared.version.Version.TheVariants as versions
use Rattle.report_text.specs.Report.{ReportValue, IsReport, IsReported, IsBound, IsReportEvidence, IsReportOpen}
use Rattle.report_text.specs.Versions.{operation_limit, gate_limit}
use Rattle.std.proofs.lemmas.Fmt.{decimal_digit}
use Rattle.report_text.specs.Rows.{version_row, bits_row, budget_row, operations_row, head_lines, scenario_lines, gates_row, gate_lines, op_row, op_lines, arc_lines, bound_row, netlist_lines}
use Rattle.report_text.specs.Spelling.{SpellsReport, lines_to_bound}
use Rattle.report_text.proofs.LawLemmas.{one_report}
use Rattle.line_rows.specs.Reading.{lines_many, view_of, whole}
use Rattle.line_rows.specs.Spelling.{IsOf, ThenSpells}
use Rattle.line_rows.proofs.UntilLaws.{FitsUntil}
use Rattle.line_rows.proofs.SpelledLaws.{IsSpelled, spelled-view, spelled_found, spelled_first_bad}
use Rattle.evidence_reader.specs.Shown.{SpellsShown}
use Rattle.report_reader.specs.Reading.{AreNext}
use Rattle.report_reader.specs.Heads.{HeadValue, IsHead, lines_of_head}
use Rattle.report_reader.specs.Scenarios.{Block, FitsBlock, block_lines, with_name, gate_bound, Columns, all_blocks, no_columns}
use Rattle.report_reader.specs.Gates.{first_pair}
use Rattle.report_reader.specs.Entries.{FitEntries, entry_row, graph_from}
use Rattle.report_reader.specs.Reports.{Scenes, Parts, report_from, parts_at, report_at}
use Rattle.report_reader.specs.declared.gates.ArcLine.{ArcLine}
use Rattle.report_reader.proofs.Distinct.{next_are_distinct, distinct_are_next}
use Rattle.report_reader.proofs.ColumnLaws.{block_names, block_codes, block_patterns, block_scenarios, columns_behind, columns_are_maps, scene_at, scenes_written, lengths_same, fits_next, fits_few, fits_end, fits_codes, fits_patterns, fits_scenarios, fits_from, blocks_of, their_scenarios, their_names, their_codes, their_patterns, some_block}
use Rattle.report_reader.proofs.GateLaws.{SoManyGates, SoManyRefs, ref_lines}
use Rattle.report_reader.proofs.EntryLaws.{graph_fits, table_entries, all_entries, arcs_written, graph_entries_fit}
use Rattle.report_reader.proofs.PartLaws.{known_names, few_names, are_names, no_names_twice, FitsScenes, scenes_lines, SpellsArcs, SpellsEnd, SpellsBody, SpellsParts, bound_most, count_of_scenes, parts_spelled}

-- ---- the lines, grouped in another way

regrouped : (H S g o A e p N : List (List ℕ)) (G : List ℕ) → H ++ ((S ++ G ∷ []) ++ (g ++ (o ++ (A ++ ((e ++ p) ++ N))))) ≡ (H ++ (S ++ (G ∷ (g ++ (o ++ A))))) ++ (e ++ (p ++ N))
regrouped H S g o A e p N G =
    let tail : List (List ℕ) = e ++ (p ++ N) in
    ap (λ (t : List (List ℕ)). H ++ ((S ++ G ∷ []) ++ (g ++ (o ++ (A ++ t))))) (append_assoc e p N)
    ∙ ap (λ (t : List (List ℕ)). H ++ t) (append_assoc S (G ∷ []) (g ++ (o ++ (A ++ tail))))
    ∙ ap (λ (t : List (List ℕ)). H ++ (S ++ (G ∷ (g ++ t)))) (sym (append_assoc o A tail))
    ∙ ap (λ (t : List (List ℕ)). H ++ (S ++ (G ∷ t))) (sym (append_assoc g (o ++ A) tail))
    ∙ ap (λ (t : List (List ℕ)). H ++ t) (sym (append_assoc S (G ∷ (g ++ (o ++ A))) tail))
    ∙ sym (append_assoc H (S ++ (G ∷ (g ++ (o ++ A)))) tail)

-- ---- a report of these parts

abbrev report_with : HeadValue → Columns → List Gate → ConditionalGraph → Bound → EvidenceValue → OpenValue → ModuleValue → ReportValue
report_with h c gates graph bound evidence open_part design = record {
  version = versions.One;
  bits = h.bits;
  budget = h.budget;
  names = h.names;
  scenario_names = c.names;
  patterns = c.patterns;
  scenarios = c.scenarios;
  encoding = record { codes = c.codes; gates = record { inputs = h.bits; gates = gates }; graph = graph };
  bound = bound;
  evidence = evidence;
  open_part = open_part;
  design = design;
}

abbrev maps_of : List Block → Columns
maps_of bs = record { names = block_names bs; codes = block_codes bs; patterns = block_patterns bs; scenarios = block_scenarios bs }

head_same : (h : HeadValue) (c : Columns) (gates : List Gate) (graph : ConditionalGraph) (bound : Bound) (evidence : EvidenceValue) (open_part : OpenValue) (design : ModuleValue) → lines_of_head h ≡ head_lines (report_with h c gates graph bound evidence open_part design)
head_same h c gates graph bound evidence open_part design = ap (λ (t : List ℕ). (codes "cpog report " ++ t) ∷ (bits_row h.bits ∷ (budget_row h.budget ∷ (operations_row h.names ∷ [])))) (sym (decimal_digit 1 (lit< tt)))

ops_same : (inputs : ℕ) (names : List (List ℕ)) (graph : ConditionalGraph) → length graph.ops ≡ length names → ref_lines inputs names graph.ops ≡ op_lines inputs names graph
ops_same inputs names graph len = ap (each_below (λ v. op_row inputs (name_of names v) (op_ref graph v) ∷ [])) len

-- ---- what the rows say is a report

module _ (x : Parts) (ls : List (List ℕ)) (h : SpellsParts x ls) where
  abbrev head : HeadValue
  head = x.0

  abbrev blocks : List Block
  blocks = x.1.0.0 ∷ x.1.0.1.0

  abbrev count : ℕ
  count = x.1.0.1.1

  abbrev gates : List Gate
  gates = x.1.1.0

  abbrev ops : List Ref
  ops = x.1.1.1.0

  abbrev arcs : List ArcLine
  arcs = x.1.1.1.1.0.0

  abbrev bound : Bound
  bound = x.1.1.1.1.0.1

  abbrev design : ModuleValue
  design = x.1.1.1.1.1.1.1

  abbrev graph : ConditionalGraph
  graph = graph_from (length head.names) ops arcs

  is_head : IsHead head
  is_head = h.2.0

  fits_scenes : FitsScenes head x.1.0
  fits_scenes = h.3.2.0

  body : SpellsBody head.bits head.names count x.1.1 h.3.1
  body = h.3.3

  so_many_gates : SoManyGates head.bits count gates
  so_many_gates = body.2.0

  so_many_ops : SoManyRefs (head.bits + count) (length head.names) ops
  so_many_ops = body.3.2.0

  arcs_spelt : SpellsArcs head.bits count head.names (arcs, bound) body.3.3.0
  arcs_spelt = body.3.3.2

  end : SpellsEnd head.names x.1.1.1.1.1 body.3.3.1
  end = body.3.3.3

  next : AreNext 64 [] (block_names blocks)
  next = (fits_scenes.0.next, fits_next head.bits head.names (λ n. n < gate_bound head.bits) 63 (x.1.0.0.name ∷ []) x.1.0.1.0 count fits_scenes.1)

  few_blocks : length x.1.0.1.0 ≤ 63
  few_blocks = fits_few head.bits head.names (λ n. n < gate_bound head.bits) 63 (x.1.0.0.name ∷ []) x.1.0.1.0 count fits_scenes.1

  small : count < gate_bound head.bits
  small = count_of_scenes head x.1.0 fits_scenes

  codes_below : AllByRecursion (λ w. w < 2 ^ head.bits) (block_codes blocks)
  codes_below = (fits_scenes.0.code, fits_codes head.bits head.names (λ n. n < gate_bound head.bits) 63 (x.1.0.0.name ∷ []) x.1.0.1.0 count fits_scenes.1)

  patterns_are : AllByRecursion (λ p. length p ≡ head.bits) (block_patterns blocks)
  patterns_are = (fits_scenes.0.pattern, fits_patterns head.bits head.names (λ n. n < gate_bound head.bits) 63 (x.1.0.0.name ∷ []) x.1.0.1.0 count fits_scenes.1)

  scenarios_are : AllByRecursion (IsReported (length head.names)) (block_scenarios blocks)
  scenarios_are = (fits_scenes.0.scenario, fits_scenarios head.bits head.names (λ n. n < gate_bound head.bits) 63 (x.1.0.0.name ∷ []) x.1.0.1.0 count fits_scenes.1)

  graph_is : IsGraph (length head.names) (head.bits + count) graph
  graph_is = graph_fits (head.bits + count) (length head.names) ops arcs so_many_ops.1
      (λ v lt. All-get_or (IsRefOver (head.bits + count)) ops v (Const false) (omega (arith, so_many_ops.1)) (All-from_recursion (IsRefOver (head.bits + count)) ops so_many_ops.0))
      arcs_spelt.0.0

  encoding_is : IsEncoding (length head.names) (record { codes = block_codes blocks; gates = record { inputs = head.bits; gates = gates }; graph = graph })
  encoding_is = record {
    codes = All-from_recursion (λ w. w < 2 ^ head.bits) (block_codes blocks) codes_below;
    gates = so_many_gates.0;
    graph = subst (λ (n : ℕ). IsGraph (length head.names) (head.bits + n) graph) (sym so_many_gates.1) graph_is;
  }

  abbrev report_of_maps : ReportValue
  report_of_maps = report_with head (maps_of blocks) gates graph bound x.1.1.1.1.1.0.0 x.1.1.1.1.1.0.1 design

  is_report : IsReport report_of_maps
  is_report = record {
    some_bit = is_head.some_bit;
    few_bits = is_head.few_bits;
    some_budget = is_head.some_budget;
    few_budget = is_head.few_budget;
    few_names = few_names head.names is_head.names;
    names = are_names head.names is_head.names;
    distinct = (known_names head.names is_head.names).distinct;
    some_scenario = omega arith;
    few_scenarios = omega (arith, few_blocks, lengths_same (λ (b : Block). b.scenario) x.1.0.1.0);
    one_name_each = lengths_same (λ (b : Block). b.name) blocks ∙ sym (lengths_same (λ (b : Block). b.scenario) blocks);
    scenario_names = are_names (block_names blocks) next;
    distinct_scenarios = (known_names (block_names blocks) next).distinct;
    patterns = record {
      one_each = lengths_same (λ (b : Block). b.pattern) blocks ∙ sym (lengths_same (λ (b : Block). b.scenario) blocks);
      lengths = All-from_recursion (λ p. length p ≡ head.bits) (block_patterns blocks) patterns_are;
    };
    scenarios = All-from_recursion (IsReported (length head.names)) (block_scenarios blocks) scenarios_are;
    inputs = refl;
    one_code_each = lengths_same (λ (b : Block). b.code) blocks ∙ sym (lengths_same (λ (b : Block). b.scenario) blocks);
    few_gates = omega (arith, so_many_gates.1, small, bound_most head.bits);
    encoding = encoding_is;
    bound = arcs_spelt.0.1;
    evidence = end.2.2.0;
    open_part = end.2.3.0;
    design = end.3.3.0;
  }

  ops_length : length (graph_from (length head.names) ops arcs).ops ≡ length head.names
  unfolding graph_from
  ops_length = so_many_ops.1

  ops_lines_are : ref_lines head.bits head.names ops ≡ op_lines head.bits head.names graph
  unfolding graph_from
  ops_lines_are = ops_same head.bits head.names (graph_from (length head.names) ops arcs) so_many_ops.1

  arc_lines_are : map (entry_row head.bits head.names) arcs ≡ arc_lines head.bits head.names graph
  arc_lines_are =
      ap (map (entry_row head.bits head.names)) (sym (table_entries (head.bits + count) (length head.names) ops arcs arcs_spelt.0.0))
      ∙ sym (arcs_written head.bits head.names graph)

  scenes_are : scenes_lines head x.1.0 ≡ each_below (scenario_lines report_of_maps) (length (block_scenarios blocks)) ++ gates_row count ∷ []
  scenes_are =
      sym (append_assoc (block_lines head.bits head.names x.1.0.0) (lines_many (λ _ b. block_lines head.bits head.names b) with_name (x.1.0.0.name ∷ []) x.1.0.1.0) (gates_row count ∷ []))
      ∙ ap (λ (t : List (List ℕ)). t ++ gates_row count ∷ []) (sym (scenes_written head.bits head.names [] blocks))

  head_is : lines_of_head head ≡ head_lines report_of_maps
  head_is = head_same head (maps_of blocks) gates graph bound x.1.1.1.1.1.0.0 x.1.1.1.1.1.0.1 design

  abbrev arcs_and_bound : List (List ℕ)
  arcs_and_bound = arc_lines head.bits head.names graph ++ bound_row bound ∷ []

  lines_are : ls ≡ lines_to_bound report_of_maps ++ (end.2.0 ++ (end.2.1 ++ netlist_lines design))
  lines_are =
      h.4
      ∙ ap₂ (λ (a b : List (List ℕ)). a ++ b) (h.2.1 ∙ head_is) (h.3.4
      ∙ ap₂ (λ (a b : List (List ℕ)). a ++ b) (h.3.2.1 ∙ scenes_are) (body.4
      ∙ ap₂ (λ (a b : List (List ℕ)). a ++ b) body.2.1 (body.3.4
      ∙ ap₂ (λ (a b : List (List ℕ)). a ++ b) (body.3.2.1 ∙ ops_lines_are) (body.3.3.4
      ∙ ap₂ (λ (a b : List (List ℕ)). a ++ b) (arcs_spelt.1 ∙ ap (λ (a : List (List ℕ)). a ++ bound_row bound ∷ []) arc_lines_are) (end.4
      ∙ ap₂ (λ (a b : List (List ℕ)). a ++ b) end.2.4 (end.3.4
      ∙ ap₂ (λ (a b : List (List ℕ)). a ++ b) end.3.2.1 end.3.3.1))))))
      ∙ regrouped (head_lines report_of_maps) (each_below (scenario_lines report_of_maps) (length (block_scenarios blocks))) (gate_lines head.bits gates) (op_lines head.bits head.names graph) arcs_and_bound end.2.0 end.2.1 (netlist_lines design) (gates_row count)
      ∙ ap (λ (n : ℕ). (head_lines report_of_maps ++ (each_below (scenario_lines report_of_maps) (length (block_scenarios blocks)) ++ (gates_row n ∷ (gate_lines head.bits gates ++ (op_lines head.bits head.names graph ++ arcs_and_bound))))) ++ (end.2.0 ++ (end.2.1 ++ netlist_lines design))) (sym so_many_gates.1)

  spells_maps : SpellsReport report_of_maps ls
  spells_maps = record {
    report = is_report;
    evidence_lines = end.2.0;
    evidence = end.2.2.1;
    open_lines = end.2.1;
    open_part = end.2.3.1;
    whole = lines_are;
  }

  pub spells_report : SpellsReport (report_from x) ls
  spells_report = subst (λ (c : Columns). SpellsReport (report_with head c gates graph bound x.1.1.1.1.1.0.0 x.1.1.1.1.1.0.1 design) ls) (sym (columns_are_maps no_columns blocks)) spells_maps

-- ---- each report is said by rows

one_version : (v : Version) → v ≡ versions.One
one_version versions.One = refl

module _ (r : ReportValue) (ls : List (List ℕ)) (h : SpellsReport r ls) where
  is : IsReport r
  is = h.report

  abbrev r_head : HeadValue
  r_head = record { bits = r.bits; budget = r.budget; names = r.names }

  abbrev r_count : ℕ
  r_count = length r.encoding.gates.gates

  abbrev r_blocks : List Block
  r_blocks = blocks_of r.scenarios r.scenario_names r.encoding.codes r.patterns

  abbrev r_arcs : List ArcLine
  r_arcs = all_entries (length r.names) (arc_ref r.encoding.graph) 0 (length r.names)

  version_is : r.version ≡ versions.One
  version_is = one_version r.version

  few_operations : length r.names ≤ 64
  few_operations = subst (λ (v : Version). length r.names ≤ operation_limit v) version_is is.few_names

  few_gates_are : r_count < 65536
  few_gates_are = subst (λ (v : Version). r_count < gate_limit v) version_is is.few_gates

  bound_is : IsBound 65536 r.bound
  bound_is = subst (λ (v : Version). IsBound (gate_limit v) r.bound) version_is is.bound

  next_names : AreNext 64 [] r.names
  next_names = distinct_are_next 64 [] r.names (recursion_from_All (λ name. is_free_name name ≡ true) r.names is.names) is.distinct few_operations

  next_scenarios : AreNext 64 [] (block_names r_blocks)
  next_scenarios =
      subst (AreNext 64 []) (sym (their_names r.scenarios r.scenario_names r.encoding.codes r.patterns is.one_name_each))
      (distinct_are_next 64 [] r.scenario_names (recursion_from_All (λ name. is_free_name name ≡ true) r.scenario_names is.scenario_names) is.distinct_scenarios (omega (arith, is.one_name_each, is.few_scenarios)))

  blocks_length : length r_blocks ≡ length r.scenarios
  blocks_length = sym (lengths_same (λ (b : Block). b.scenario) r_blocks) ∙ ap length (their_scenarios r.scenarios r.scenario_names r.encoding.codes r.patterns)

  codes_are : All (λ w. w < 2 ^ r.bits) r.encoding.codes
  codes_are = subst (λ (n : ℕ). All (λ w. w < 2 ^ n) r.encoding.codes) is.inputs is.encoding.codes

  gates_are : AreGatesFrom r.bits r.encoding.gates.gates
  gates_are = subst (λ (n : ℕ). AreGatesFrom n r.encoding.gates.gates) is.inputs is.encoding.gates

  the_graph : IsGraph (length r.names) (r.bits + r_count) r.encoding.graph
  the_graph = subst (λ (n : ℕ). IsGraph (length r.names) (n + r_count) r.encoding.graph) is.inputs is.encoding.graph

  no_gate_of_one : (bits : ℕ) (gates : List Gate) → bits ≤ 1 → AreGatesFrom bits gates → gates ≡ []
  no_gate_of_one bits [] le h = refl
  no_gate_of_one bits (g ∷ gates) le h = absurd (omega (arith, le, h.0, h.1))

  in_bound : r_count < gate_bound r.bits
  in_bound = step (cases_Bool (eqb r.bits 1))
    where
      step : (eqb r.bits 1 ≡ true) ⊎ (eqb r.bits 1 ≡ false) → r_count < gate_bound r.bits
      step (inl one) = rw one (omega (arith, ap length (no_gate_of_one r.bits r.encoding.gates.gates (omega (arith, eqb-true r.bits 1 one)) gates_are)))
      step (inr more) = rw more few_gates_are

  all_fit : FitsUntil (FitsBlock r.bits r.names) with_name (λ n. n < gate_bound r.bits) 64 [] r_blocks r_count
  all_fit = fits_from r.bits r.names (λ n. n < gate_bound r.bits) 64 [] r_blocks r_count next_scenarios
      (subst (AllByRecursion (λ w. w < 2 ^ r.bits)) (sym (their_codes r.scenarios r.scenario_names r.encoding.codes r.patterns is.one_code_each)) (recursion_from_All (λ w. w < 2 ^ r.bits) r.encoding.codes codes_are))
      (subst (AllByRecursion (λ p. length p ≡ r.bits)) (sym (their_patterns r.scenarios r.scenario_names r.encoding.codes r.patterns is.patterns.one_each)) (recursion_from_All (λ p. length p ≡ r.bits) r.patterns is.patterns.lengths))
      (subst (AllByRecursion (IsReported (length r.names))) (sym (their_scenarios r.scenarios r.scenario_names r.encoding.codes r.patterns)) (recursion_from_All (IsReported (length r.names)) r.scenarios is.scenarios))
      (omega (arith, blocks_length, is.few_scenarios))
      in_bound

  first : (b : Block) × (rest : List Block) × (r_blocks ≡ b ∷ rest)
  first = some_block r_blocks (omega (arith, blocks_length, is.some_scenario))

  abbrev r_scenes : Scenes
  r_scenes = (first.0, (first.1, r_count))

  r_fits : FitsScenes r_head r_scenes
  r_fits = subst (λ (bs : List Block). FitsUntil (FitsBlock r.bits r.names) with_name (λ n. n < gate_bound r.bits) 64 [] bs r_count) first.2 all_fit

  abbrev r_parts : Parts
  r_parts = (r_head, (r_scenes, (r.encoding.gates.gates, (r.encoding.graph.ops, ((r_arcs, r.bound), ((r.evidence, r.open_part), (tt, r.design)))))))

  r_scenes_are : scenes_lines r_head r_scenes ≡ each_below (scenario_lines r) (length r.scenarios) ++ gates_row r_count ∷ []
  r_scenes_are =
      sym (append_assoc (block_lines r.bits r.names first.0) (lines_many (λ _ b. block_lines r.bits r.names b) with_name (first.0.name ∷ []) first.1) (gates_row r_count ∷ []))
      ∙ ap (λ (t : List (List ℕ)). t ++ gates_row r_count ∷ [])
      (sym (ap (lines_many (λ _ b. block_lines r.bits r.names b) with_name []) first.2)
      ∙ sym (scenes_written r.bits r.names [] r_blocks)
      ∙ (λ i. each_below (scene_at r.bits r.names (their_names r.scenarios r.scenario_names r.encoding.codes r.patterns is.one_name_each i) (their_codes r.scenarios r.scenario_names r.encoding.codes r.patterns is.one_code_each i) (their_patterns r.scenarios r.scenario_names r.encoding.codes r.patterns is.patterns.one_each i) (their_scenarios r.scenarios r.scenario_names r.encoding.codes r.patterns i)) (length (their_scenarios r.scenarios r.scenario_names r.encoding.codes r.patterns i))))

  r_head_is : lines_of_head r_head ≡ head_lines r
  r_head_is =
      head_same r_head no_columns [] r.encoding.graph r.bound r.evidence r.open_part r.design
      ∙ ap (λ (v : Version). version_row v ∷ (bits_row r.bits ∷ (budget_row r.budget ∷ (operations_row r.names ∷ [])))) (sym version_is)

  refs_over : (xs : List Ref) → length xs ≡ length r.names → ((v : ℕ) → v < length xs → IsRefOver (r.bits + r_count) (get_or xs v (Const false))) → AllByRecursion (IsRefOver (r.bits + r_count)) xs
  refs_over xs len all = recursion_from_All (IsRefOver (r.bits + r_count)) xs (All-from_get_or (IsRefOver (r.bits + r_count)) xs (Const false) all)

  r_ops : SoManyRefs (r.bits + r_count) (length r.names) r.encoding.graph.ops
  r_ops = (refs_over r.encoding.graph.ops the_graph.ops (λ v lt. the_graph.over (Op (record { 0 = v })) (omega (arith, lt, the_graph.ops))), the_graph.ops)

  abbrev r_end : List (List ℕ)
  r_end = (h.evidence_lines ++ h.open_lines) ++ netlist_lines r.design

  abbrev r_arc_lines : List (List ℕ)
  r_arc_lines = map (entry_row r.bits r.names) r_arcs ++ bound_row r.bound ∷ []

  spells_end : SpellsEnd r.names ((r.evidence, r.open_part), (tt, r.design)) r_end
  spells_end = (
    h.evidence_lines ++ h.open_lines,
    netlist_lines r.design,
    (h.evidence_lines, h.open_lines, (subst (λ (v : Version). IsReportEvidence (length r.names) (gate_limit v) r.evidence) version_is is.evidence, h.evidence), (subst (λ (v : Version). IsReportOpen (gate_limit v) r.open_part) version_is is.open_part, h.open_part), refl),
    (codes "netlist" ∷ [], module_lines r.design, (tt, refl), (is.design, refl), refl),
    refl,
  )

  spells_body : SpellsBody r.bits r.names r_count r_parts.1.1 (gate_lines r.bits r.encoding.gates.gates ++ (ref_lines r.bits r.names r.encoding.graph.ops ++ (r_arc_lines ++ r_end)))
  spells_body = (
    gate_lines r.bits r.encoding.gates.gates,
    ref_lines r.bits r.names r.encoding.graph.ops ++ (r_arc_lines ++ r_end),
    ((gates_are, refl), refl),
    (
      ref_lines r.bits r.names r.encoding.graph.ops,
      r_arc_lines ++ r_end,
      (r_ops, refl),
      (r_arc_lines, r_end, ((graph_entries_fit (r.bits + r_count) (length r.names) r.encoding.graph the_graph, bound_is), refl), spells_end, refl),
      refl,
    ),
    refl,
  )

  r_lines_are : ls ≡ lines_of_head r_head ++ (scenes_lines r_head r_scenes ++ (gate_lines r.bits r.encoding.gates.gates ++ (ref_lines r.bits r.names r.encoding.graph.ops ++ (r_arc_lines ++ r_end))))
  r_lines_are = h.whole ∙ sym (
      ap₂ (λ (a b : List (List ℕ)). a ++ b) r_head_is
      (ap₂ (λ (a b : List (List ℕ)). a ++ b) r_scenes_are
      (ap (λ (b : List (List ℕ)). gate_lines r.bits r.encoding.gates.gates ++ b)
      (ap₂ (λ (a b : List (List ℕ)). a ++ b) (ops_same r.bits r.names r.encoding.graph the_graph.ops)
      (ap (λ (a : List (List ℕ)). (a ++ bound_row r.bound ∷ []) ++ r_end) (sym (arcs_written r.bits r.names r.encoding.graph))))))
      ∙ regrouped (head_lines r) (each_below (scenario_lines r) (length r.scenarios)) (gate_lines r.bits r.encoding.gates.gates) (op_lines r.bits r.names r.encoding.graph) (arc_lines r.bits r.names r.encoding.graph ++ bound_row r.bound ∷ []) h.evidence_lines h.open_lines (netlist_lines r.design) (gates_row r_count))

  spells_parts : SpellsParts r_parts ls
  spells_parts = (
    lines_of_head r_head,
    scenes_lines r_head r_scenes ++ (gate_lines r.bits r.encoding.gates.gates ++ (ref_lines r.bits r.names r.encoding.graph.ops ++ (r_arc_lines ++ r_end))),
    (record { some_bit = is.some_bit; few_bits = is.few_bits; some_budget = is.some_budget; few_budget = is.few_budget; names = next_names }, refl),
    (scenes_lines r_head r_scenes, gate_lines r.bits r.encoding.gates.gates ++ (ref_lines r.bits r.names r.encoding.graph.ops ++ (r_arc_lines ++ r_end)), (r_fits, refl), spells_body, refl),
    r_lines_are,
  )

  from_report : (x : Parts) × SpellsParts x ls × (report_from x ≡ r)
  from_report = (r_parts, spells_parts, one_report ls (report_from r_parts) r (spells_report r_parts ls spells_parts) h)

pub report_spelled : IsSpelled SpellsReport report_at
report_spelled = spelled-view report_from SpellsReport parts_spelled (λ r ls h. from_report r ls h) (λ x ls h. spells_report x ls h)
