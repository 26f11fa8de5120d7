-- The lines of a report before its line `netlist`: none is that line, and none holds a line feed.
use Rattle.std.proofs.Common.{◌≡◌, ◌≢◌, ℕ, ◌^◌, ◌<◌, ◌≤◌, Bool, true, false, eqb, eq-eqb, not, ◌&&◌, List, [], ◌∷◌, ◌++◌, map, length, get_or, refl, sym, ap, ◌∙◌, arith}
use Rattle.std.specs.Prelude.{codes, slice_index, slice_index_or, if◌then◌else◌}
use Rattle.std.specs.List.{AllByRecursion, list_any}
use Rattle.std.specs.Fmt.{decimal}
use Rattle.std.proofs.lemmas.Bool.{and_parts}
use Rattle.std.proofs.lemmas.List.Elements.{recursion_from_All}
use Rattle.cpog_defs.specs.declared.types.OpId.{OpId}
use Rattle.cpog_defs.specs.declared.types.Gate.{Gate}
use Rattle.cpog_defs.specs.declared.types.Bit3.{Bit3}
use Rattle.cpog_defs.specs.declared.types.Bit3.TheVariants as bits
use Rattle.cpog_defs.specs.declared.types.Place.{Place}
use Rattle.cpog_defs.specs.declared.types.Place.TheVariants.{Op, Arc}
use Rattle.cpog_defs.specs.declared.types.Ref.{Ref}
use Rattle.cpog_defs.specs.declared.types.Ref.TheVariants.{Const, Signal}
use Rattle.cpog_base.specs.Pattern.{is_given}
use Rattle.cpog_defs.specs.Codes.{word_bits}
use Rattle.cpog_defs.specs.Gates.{IsRefOver, signal_count}
use Rattle.cpog_defs.specs.Graphs.{op_ref, arc_ref}
use Rattle.gate_core.proofs.GateLemmas.{gate_reads}
use Rattle.line_text.proofs.FeedLemmas.{NoFeed, is_clean, joined_free, passes_free, clean_free, clean_front, decimal_free, mapped_free}
use Rattle.line_text.proofs.TellingLemmas.{apart, heads, free_name_passes}
use Rattle.report_text.specs.declared.bound.Bound.{Bound}
use Rattle.report_text.specs.declared.bound.Bound.TheVariants.{Minimum, Between}
use Rattle.report_text.specs.declared.version.Version.{Version}
use Rattle.report_text.specs.declared.version.Version.TheVariants.{One}
use Rattle.report_text.specs.Versions.{version_number, gate_limit}
use Rattle.gate_template.specs.declared.types.Template.{Template}
use Rattle.cnf_build.specs.Evidence.{EvidenceValue, OpenValue}
use Rattle.proof_check.specs.Lines.{Line}
use Rattle.dimacs_text.specs.Writing.{log_lines}
use Rattle.netlist_verilog.specs.Module.{AreNames}
use Rattle.report_text.specs.Report.{ReportValue, IsReport, IsBound, IsReportEvidence, IsReportOpen, EvidenceFits, OpenFits}
use Rattle.netlist_verilog.specs.Wires.{signal_text, name_of}
use Rattle.report_text.specs.Rows.{digit, digits_of, entry_digit, given_text, ref_text, blank_names, scenario_lines, arc_text, gates_row, gate_row, gate_lines, op_row, op_lines, arc_row, arc_lines_from, arc_lines, line_unless_zero, bound_row, template_number, template_text, place_row, closed_log, evidence_lines, open_lines, head_lines}
use Rattle.netlist_verilog.proofs.FeedLemmas.{names_pass, name_passes, signal_free}
use Rattle.report_text.proofs.RowLemmas.{AllBy-append, AllBy-below, ref_over}
use Rattle.report_text.proofs.KnownLemmas.{number_fits}
use Rattle.report_text.proofs.LogLemmas.{IsPrinted, IsLogRow, rows_of}

-- a line that isn't `netlist` and holds no line feed
abbrev pub IsFrontLine : List ℕ → Type 0
IsFrontLine line = NoFeed line × (line ≢ codes "netlist")

-- whether the bytes begin with another letter than that line, and hold no line feed
abbrev begins_front : List ℕ → Bool
begins_front [] = false
begins_front (b ∷ bs) = not (eqb b 110) && is_clean (b ∷ bs)

front_line : (w x : List ℕ) → begins_front w ≡ true → NoFeed x → IsFrontLine (w ++ x)
front_line [] x h free = absurd (apart true false refl refl (sym h))
front_line (b ∷ bs) x h free =
    let t = and_parts (not (eqb b 110)) (is_clean (b ∷ bs)) h in
    (clean_front (b ∷ bs) x t.1 free, λ e. apart (not (eqb b 110)) (not true) t.0 refl (ap not (eq-eqb b 110 (heads b 110 _ _ e))))

-- ---- words

word_free : (names : List (List ℕ)) (v : ℕ) → AreNames names → NoFeed (name_of names v)
word_free names v are = passes_free (name_of names v) (name_passes names v (names_pass names are))

blanks_free : (names : List (List ℕ)) → AllByRecursion NoFeed names → NoFeed (blank_names names)
blanks_free [] h = tt
blanks_free (n ∷ ns) h = clean_front (codes " ") (n ++ blank_names ns) refl (joined_free n (blank_names ns) h.0 (blanks_free ns h.1))

digit_free : (b : Bool) → digit b ≢ 10
digit_free true e = omega (arith, e)
digit_free false e = omega (arith, e)

digits_free : (bits word : ℕ) → NoFeed (digits_of bits word)
digits_free bits word = each (word_bits word bits)
  where
    each : (bs : List Bool) → NoFeed (map digit bs)
    each [] = tt
    each (b ∷ bs) = (digit_free b, each bs)

entry_free : (b : Bit3) → entry_digit b ≢ 10
entry_free bits.Zero e = omega (arith, e)
entry_free bits.One e = omega (arith, e)
entry_free bits.Free e = omega (arith, e)

given_free : (pattern : List Bit3) → NoFeed (given_text pattern)
given_free pattern = by (list_any is_given pattern)
  where
    each : (ps : List Bit3) → NoFeed (map entry_digit ps)
    each [] = tt
    each (p ∷ ps) = (entry_free p, each ps)

    by : (b : Bool) → NoFeed (if b then 32 ∷ map entry_digit pattern else [])
    by true = clean_front (codes " ") (map entry_digit pattern) refl (each pattern)
    by false = tt

version_free : (v : Version) → NoFeed (decimal (version_number v))
version_free One = decimal_free 1 (omega arith)

template_free : (t : Template) (gates : ℕ) → gates < 2 ^ 64 → NoFeed (template_text t gates)
template_free t gates lt = joined_free (decimal (template_number t)) _ (decimal_free (template_number t) (number_fits t)) (clean_front (codes " ") (decimal gates) refl (decimal_free gates lt))

ref_free : (inputs signals : ℕ) (r : Ref) → signals ≤ 2 ^ 64 → IsRefOver signals r → NoFeed (ref_text inputs r)
ref_free inputs signals (Const false) fit h = clean_free (codes "0") refl
ref_free inputs signals (Const true) fit h = clean_free (codes "1") refl
ref_free inputs signals (Signal n false) fit h = signal_free inputs n (omega (arith, fit, h))
ref_free inputs signals (Signal n true) fit h = clean_front (codes "!") (signal_text inputs n) refl (signal_free inputs n (omega (arith, fit, h)))

-- ---- logs

row_front : (row : List ℕ) → IsLogRow row → IsFrontLine row
row_front row h = (h.0, λ e. omega (arith, h.1.2, heads h.1.0 110 _ _ (sym h.1.3 ∙ e)))

rows_front : (rows : List (List ℕ)) → AllByRecursion IsLogRow rows → AllByRecursion IsFrontLine rows
rows_front [] h = tt
rows_front (row ∷ rows) h = (row_front row h.0, rows_front rows h.1)

log_front : (log : List Line) → IsPrinted log → AllByRecursion IsFrontLine (closed_log log)
log_front log h = AllBy-append IsFrontLine (log_lines log) (codes "end" ∷ []) (rows_front (log_lines log) (rows_of log h)) (front_line (codes "end") [] refl tt, tt)

-- ---- lines

module _ (r : ReportValue) (is : IsReport r) where
  operation_free : (v : ℕ) → NoFeed (name_of r.names v)
  operation_free v = word_free r.names v is.names

  names_free : NoFeed (blank_names r.names)
  names_free = blanks_free r.names (recursion_from_All NoFeed r.names (λ k d lt. passes_free (get_or r.names k d) (free_name_passes (get_or r.names k d) (is.names k d lt))))

  pub head_front : AllByRecursion IsFrontLine (head_lines r)
  head_front = (
    front_line (codes "cpog report ") (decimal (version_number r.version)) refl (version_free r.version),
    (
      front_line (codes "bits ") (decimal r.bits) refl (decimal_free r.bits (omega (arith, is.few_bits))),
      (
        front_line (codes "budget ") (decimal r.budget) refl (decimal_free r.budget (omega (arith, is.few_budget))),
        (front_line (codes "operations") (blank_names r.names) refl names_free, tt),
      ),
    ),
  )

  arc_free : (arc : OpId × OpId) → NoFeed (arc_text r.names arc)
  arc_free arc = joined_free (name_of r.names arc.0.0) (codes ">" ++ name_of r.names arc.1.0) (operation_free arc.0.0) (clean_front (codes ">") (name_of r.names arc.1.0) refl (operation_free arc.1.0))

  pub scenario_front : (s : ℕ) → AllByRecursion IsFrontLine (scenario_lines r s)
  scenario_front s = (
    front_line (codes "scenario ") _ refl (joined_free (name_of r.scenario_names s) _
        (word_free r.scenario_names s is.scenario_names)
        (clean_front (codes " ") _ refl (joined_free (digits_of r.bits (slice_index r.encoding.codes s)) _
        (digits_free r.bits (slice_index r.encoding.codes s)) (given_free (slice_index_or r.patterns s []))))),
    (
      front_line (codes "has") _ refl (blanks_free _ (mapped_free (name_of r.names) operation_free _)),
      (front_line (codes "arcs") _ refl (blanks_free _ (mapped_free (arc_text r.names) arc_free _)), tt),
    ),
  )

  limit : gate_limit r.version ≤ 65536
  limit = of_version r.version
    where
      of_version : (v : Version) → gate_limit v ≤ 65536
      of_version One = omega arith

  signals_fit : signal_count r.encoding.gates ≤ 2 ^ 64
  signals_fit = omega (arith, is.inputs, is.few_bits, is.few_gates, limit)

  gate_number : (g : ℕ) → g < length r.encoding.gates.gates → g < 2 ^ 64
  gate_number g lt = omega (arith, lt, is.few_gates, limit)

  pub gate_front : (g : ℕ) → g < length r.encoding.gates.gates → IsFrontLine (gate_row r.bits g (get_or r.encoding.gates.gates g (record { j = 0; k = 0; table = 0 })))
  gate_front g lt =
      let gate : Gate = get_or r.encoding.gates.gates g (record { j = 0; k = 0; table = 0 }) in
      let reads = gate_reads r.encoding.gates.inputs r.encoding.gates.gates g (record { j = 0; k = 0; table = 0 }) is.encoding.gates lt in
      let first_fits : gate.j < 2 ^ 64 = omega (arith, reads.0, reads.1, lt, signals_fit) in
      let second =
      clean_front (codes " ") _ refl (joined_free (signal_text r.bits gate.k) _
      (signal_free r.bits gate.k (omega (arith, reads.1, lt, signals_fit)))
      (clean_front (codes " ") (digits_of 4 gate.table) refl (digits_free 4 gate.table))) in
      let first = clean_front (codes " ") _ refl (joined_free (signal_text r.bits gate.j) _ (signal_free r.bits gate.j first_fits) second) in
      front_line (codes "g") _ refl (joined_free (decimal g) _ (decimal_free g (gate_number g lt)) first)

  pub gates_front : AllByRecursion IsFrontLine (gate_lines r.bits r.encoding.gates.gates)
  gates_front =
      AllBy-below IsFrontLine (λ g. gate_row r.bits g
      (get_or r.encoding.gates.gates g (record { j = 0; k = 0; table = 0 })) ∷ []) (length r.encoding.gates.gates)
      (λ g lt. (gate_front g lt, tt))

  pub ops_front : AllByRecursion IsFrontLine (op_lines r.bits r.names r.encoding.graph)
  ops_front = AllBy-below IsFrontLine (λ v. op_row r.bits (name_of r.names v) (op_ref r.encoding.graph v) ∷ []) (length r.names) (λ v lt. (
    front_line (codes "op ") _ refl (joined_free (name_of r.names v) _ (operation_free v)
        (clean_front (codes " ") _ refl (ref_free r.bits (signal_count r.encoding.gates)
        (op_ref r.encoding.graph v) signals_fit (is.encoding.graph.over (Op (record { 0 = v })) lt)))),
    tt,
  ))

  unless_zero_front : (line : List ℕ) (ref : Ref) → IsFrontLine line → AllByRecursion IsFrontLine (line_unless_zero line ref)
  unless_zero_front line (Const false) h = tt
  unless_zero_front line (Const true) h = (h, tt)
  unless_zero_front line (Signal n negated) h = (h, tt)

  arc_front : (u v : ℕ) → u < length r.names → v < length r.names → IsFrontLine (arc_row r.bits (name_of r.names u) (name_of r.names v) (arc_ref r.encoding.graph u v))
  arc_front u v lu lv =
      let ref =
      clean_front (codes " ") _ refl (ref_free r.bits (signal_count r.encoding.gates)
      (arc_ref r.encoding.graph u v) signals_fit
      (ref_over (length r.names) (signal_count r.encoding.gates) r.encoding.graph u v is.encoding.graph lu lv)) in
      front_line (codes "arc ") _ refl (joined_free (name_of r.names u) _ (operation_free u) (clean_front (codes " ") _ refl (joined_free (name_of r.names v) _ (operation_free v) ref)))

  pub arcs_front : AllByRecursion IsFrontLine (arc_lines r.bits r.names r.encoding.graph)
  arcs_front = AllBy-below IsFrontLine (λ u. arc_lines_from r.bits r.names r.encoding.graph u (length r.names)) (length r.names) (λ u lu.
      AllBy-below IsFrontLine (λ v. line_unless_zero (arc_row r.bits (name_of r.names u) (name_of r.names v) (arc_ref r.encoding.graph u v)) (arc_ref r.encoding.graph u v)) (length r.names) (λ v lv.
      unless_zero_front _ (arc_ref r.encoding.graph u v) (arc_front u v lu lv)))

  pub bound_front : IsFrontLine (bound_row r.bound)
  bound_front = of_bound r.bound is.bound
    where
      of_bound : (b : Bound) → IsBound (gate_limit r.version) b → IsFrontLine (bound_row b)
      of_bound (Minimum h) lt = front_line (codes "minimum ") (decimal h) refl (decimal_free h (omega (arith, limit, lt)))
      of_bound (Between lo hi) lt = front_line (codes "between ") _ refl (joined_free (decimal lo) _ (decimal_free lo (omega (arith, limit, lt.0))) (clean_front (codes " ") (decimal hi) refl (decimal_free hi (omega (arith, limit, lt.1)))))

  place_front : (p : Place) → IsFrontLine (place_row r.names p)
  place_front (Op v) = front_line (codes "op ") (name_of r.names v.0) refl (operation_free v.0)
  place_front (Arc u v) = front_line (codes "arc ") _ refl (joined_free (name_of r.names u.0) _ (operation_free u.0) (clean_front (codes " ") (name_of r.names v.0) refl (operation_free v.0)))

  places_front : (ps : List Place) → AllByRecursion IsFrontLine (map (place_row r.names) ps)
  places_front [] = tt
  places_front (p ∷ ps) = (place_front p, places_front ps)

  pub evidence_front : EvidenceFits r.evidence → AllByRecursion IsFrontLine (evidence_lines r.names r.evidence)
  evidence_front fits = of_evidence r.evidence is.evidence fits
    where
      of_evidence : (e : EvidenceValue) → IsReportEvidence (length r.names) (gate_limit r.version) e → EvidenceFits e → AllByRecursion IsFrontLine (evidence_lines r.names e)
      of_evidence EvidenceValue.Zero h f = (front_line (codes "evidence zero") [] refl tt, tt)
      of_evidence (EvidenceValue.Count places) h f = (front_line (codes "evidence count") [] refl tt, places_front places)
      of_evidence (EvidenceValue.Refutation t gates log) h f = (front_line (codes "evidence refutation ") _ refl (template_free t gates (omega (arith, limit, h.0))), log_front log (h.1, f))

  pub open_front : OpenFits r.open_part → AllByRecursion IsFrontLine (open_lines r.open_part)
  open_front fits = of_open r.open_part is.open_part fits
    where
      of_open : (o : OpenValue) → IsReportOpen (gate_limit r.version) o → OpenFits o → AllByRecursion IsFrontLine (open_lines o)
      of_open OpenValue.Closed h f = (front_line (codes "open none") [] refl tt, tt)
      of_open (OpenValue.Log t gates log) h f = (front_line (codes "open log ") _ refl (template_free t gates (omega (arith, limit, h.0))), log_front log (h.1, f))
      of_open (OpenValue.Size t gates) h f = (front_line (codes "open size ") _ refl (template_free t gates (omega (arith, limit, h))), tt)

  pub gates_line_front : IsFrontLine (gates_row (length r.encoding.gates.gates))
  gates_line_front = front_line (codes "gates ") _ refl (decimal_free (length r.encoding.gates.gates) (omega (arith, is.few_gates, limit)))
