-- How a report is stored as a value.
use Rattle.std.specs.Prelude.{◌≡◌, ℕ, zero, suc, Bool, ◌⊎◌, List, refl}
use Rattle.std.proofs.Common.{inl, inr}
use Rattle.std.specs.Coded.{Coded, code_by, coded×, coded⊎, coded_ℕ, coded_bool, coded_list}
use Rattle.cpog_defs.specs.declared.types.Bit3.{Bit3}
use Rattle.cpog_defs.specs.declared.types.Bit3.TheVariants as bits
use Rattle.cpog_defs.specs.declared.types.OpId.{OpId}
use Rattle.cpog_defs.specs.declared.types.Place.{Place}
use Rattle.cpog_defs.specs.declared.types.Place.TheVariants.{Op, Arc}
use Rattle.cpog_defs.specs.declared.types.Ref.{Ref}
use Rattle.cpog_defs.specs.Gates.{GateList}
use Rattle.cpog_defs.specs.Graphs.{ConditionalGraph}
use Rattle.cpog_defs.specs.Encodings.{Encoding}
use Rattle.cpog_defs.specs.Scenarios.{Scenario}
use Rattle.cpog_defs.specs.Stored.{op_code, scenario_code}
use Rattle.handshake_eqs.specs.StoredNetlist.{gate_list_code, ref_code}
use Rattle.clause_arena.specs.Clauses.{Lit}
use Rattle.proof_check.specs.Lines.{Line}
use Rattle.gate_template.specs.declared.types.Template.{Template}
use Rattle.gate_template.specs.declared.types.Template.TheVariants.{First, Second, Third}
use Rattle.cnf_build.specs.Evidence.{EvidenceValue, OpenValue}
use Rattle.netlist_verilog.specs.Module.{ModuleValue}
use Rattle.netlist_verilog.specs.Stored.{module_code}
use Rattle.report_text.specs.declared.bound.Bound.{Bound}
use Rattle.report_text.specs.declared.bound.Bound.TheVariants.{Minimum, Between}
use Rattle.report_text.specs.declared.version.Version.{Version}
use Rattle.report_text.specs.declared.version.Version.TheVariants.{One}
use Rattle.report_text.specs.Versions.{version_number}
use Rattle.report_text.specs.Report.{ReportValue}

-- a version by its number
abbrev to_version : ℕ → Version
to_version n = One

pub version_back : (v : Version) → to_version (version_number v) ≡ v
version_back One = refl

-- how versions are stored
abbrev pub version_code : Coded Version
version_code = code_by ℕ coded_ℕ version_number to_version version_back

-- an entry of a pattern as a number
abbrev from_entry : Bit3 → ℕ
from_entry bits.Zero = 0
from_entry bits.One = 1
from_entry bits.Free = 2

-- and back
abbrev to_entry : ℕ → Bit3
to_entry zero = bits.Zero
to_entry (suc zero) = bits.One
to_entry (suc (suc n)) = bits.Free

pub entry_back : (b : Bit3) → to_entry (from_entry b) ≡ b
entry_back bits.Zero = refl
entry_back bits.One = refl
entry_back bits.Free = refl

-- how entries are stored
abbrev pub entry_code : Coded Bit3
entry_code = code_by ℕ coded_ℕ from_entry to_entry entry_back

-- a bound as its number or its two
abbrev from_bound : Bound → ℕ ⊎ (ℕ × ℕ)
from_bound (Minimum h) = inl h
from_bound (Between lo hi) = inr (lo, hi)

-- and back
abbrev to_bound : ℕ ⊎ (ℕ × ℕ) → Bound
to_bound (inl h) = Minimum h
to_bound (inr p) = Between p.0 p.1

pub bound_back : (b : Bound) → to_bound (from_bound b) ≡ b
bound_back (Minimum h) = refl
bound_back (Between lo hi) = refl

-- how bounds are stored
abbrev pub bound_code : Coded Bound
bound_code = code_by (ℕ ⊎ (ℕ × ℕ)) (coded⊎ coded_ℕ (coded× coded_ℕ coded_ℕ)) from_bound to_bound bound_back

-- a place as its operation or its two
abbrev from_place : Place → OpId ⊎ (OpId × OpId)
from_place (Op v) = inl v
from_place (Arc u v) = inr (u, v)

-- and back
abbrev to_place : OpId ⊎ (OpId × OpId) → Place
to_place (inl v) = Op v
to_place (inr p) = Arc p.0 p.1

pub place_back : (p : Place) → to_place (from_place p) ≡ p
place_back (Op v) = refl
place_back (Arc u v) = refl

-- how places are stored
abbrev pub place_code : Coded Place
place_code = code_by (OpId ⊎ (OpId × OpId)) (coded⊎ op_code (coded× op_code op_code)) from_place to_place place_back

-- a template as its number
abbrev from_template : Template → ℕ
from_template First = 0
from_template Second = 1
from_template Third = 2

-- and back
abbrev to_template : ℕ → Template
to_template zero = First
to_template (suc zero) = Second
to_template (suc (suc n)) = Third

pub template_back : (t : Template) → to_template (from_template t) ≡ t
template_back First = refl
template_back Second = refl
template_back Third = refl

-- how templates are stored
abbrev pub template_code : Coded Template
template_code = code_by ℕ coded_ℕ from_template to_template template_back

-- a literal as its variable and its sign
abbrev pub lit_code : Coded Lit
lit_code = code_by (ℕ × Bool) (coded× coded_ℕ coded_bool) (λ l. (l.var, l.negated)) (λ p. record { var = p.0; negated = p.1 }) (λ _. refl)

-- a line of a log as its id, literals and hints, or as its ids
abbrev from_line : Line → (ℕ × (List Lit × List ℕ)) ⊎ List ℕ
from_line (Line.Add id lits hints) = inl (id, (lits, hints))
from_line (Line.Del ids) = inr ids

-- and back
abbrev to_line : (ℕ × (List Lit × List ℕ)) ⊎ List ℕ → Line
to_line (inl p) = Line.Add p.0 p.1.0 p.1.1
to_line (inr ids) = Line.Del ids

pub line_back : (l : Line) → to_line (from_line l) ≡ l
line_back (Line.Add id lits hints) = refl
line_back (Line.Del ids) = refl

-- how logs are stored
abbrev pub log_code : Coded (List Line)
log_code =
    coded_list (code_by ((ℕ × (List Lit × List ℕ)) ⊎ List ℕ)
    (coded⊎ (coded× coded_ℕ (coded× (coded_list lit_code) (coded_list coded_ℕ))) (coded_list coded_ℕ)) from_line to_line line_back)

-- a template with its number of gates, and a log of it
abbrev LogOf : Type 0
LogOf = Template × (ℕ × List Line)

abbrev log_of_code : Coded LogOf
log_of_code = coded× template_code (coded× coded_ℕ log_code)

-- evidence as a choice of its parts
abbrev from_evidence : EvidenceValue → ℕ ⊎ (List Place ⊎ LogOf)
from_evidence EvidenceValue.Zero = inl 0
from_evidence (EvidenceValue.Count places) = inr (inl places)
from_evidence (EvidenceValue.Refutation template gates log) = inr (inr (template, (gates, log)))

-- and back
abbrev to_evidence : ℕ ⊎ (List Place ⊎ LogOf) → EvidenceValue
to_evidence (inl n) = EvidenceValue.Zero
to_evidence (inr (inl places)) = EvidenceValue.Count places
to_evidence (inr (inr p)) = EvidenceValue.Refutation p.0 p.1.0 p.1.1

pub evidence_back : (e : EvidenceValue) → to_evidence (from_evidence e) ≡ e
evidence_back EvidenceValue.Zero = refl
evidence_back (EvidenceValue.Count places) = refl
evidence_back (EvidenceValue.Refutation template gates log) = refl

-- how evidence is stored
abbrev pub evidence_code : Coded EvidenceValue
evidence_code = code_by (ℕ ⊎ (List Place ⊎ LogOf)) (coded⊎ coded_ℕ (coded⊎ (coded_list place_code) log_of_code)) from_evidence to_evidence evidence_back

-- an open part as a choice of its parts
abbrev from_open : OpenValue → ℕ ⊎ (LogOf ⊎ (Template × ℕ))
from_open OpenValue.Closed = inl 0
from_open (OpenValue.Log template gates log) = inr (inl (template, (gates, log)))
from_open (OpenValue.Size template gates) = inr (inr (template, gates))

-- and back
abbrev to_open : ℕ ⊎ (LogOf ⊎ (Template × ℕ)) → OpenValue
to_open (inl n) = OpenValue.Closed
to_open (inr (inl p)) = OpenValue.Log p.0 p.1.0 p.1.1
to_open (inr (inr p)) = OpenValue.Size p.0 p.1

pub open_back : (o : OpenValue) → to_open (from_open o) ≡ o
open_back OpenValue.Closed = refl
open_back (OpenValue.Log template gates log) = refl
open_back (OpenValue.Size template gates) = refl

-- how open parts are stored
abbrev pub open_code : Coded OpenValue
open_code = code_by (ℕ ⊎ (LogOf ⊎ (Template × ℕ))) (coded⊎ coded_ℕ (coded⊎ log_of_code (coded× template_code coded_ℕ))) from_open to_open open_back

-- a conditional graph as its two parts
abbrev pub graph_code : Coded ConditionalGraph
graph_code = code_by (List Ref × List (List Ref)) (coded× (coded_list ref_code) (coded_list (coded_list ref_code)))
    (λ g. (g.ops, g.arcs)) (λ p. record { ops = p.0; arcs = p.1 }) (λ _. refl)

-- an encoding as its three parts
abbrev pub encoding_code : Coded Encoding
encoding_code =
    code_by (List ℕ × (GateList × ConditionalGraph)) (coded× (coded_list coded_ℕ) (coded× gate_list_code graph_code))
    (λ e. (e.codes, (e.gates, e.graph))) (λ p. record { codes = p.0; gates = p.1.0; graph = p.1.1 }) (λ _. refl)

-- what is known of the least number of gates: the bound, what shows it, and what is left open
abbrev Known : Type 0
Known = Bound × (EvidenceValue × OpenValue)

-- the scenarios: their names, patterns and contents
abbrev Written : Type 0
Written = List (List ℕ) × (List (List Bit3) × List Scenario)

-- a report as its twelve parts
abbrev pub report_code : Coded ReportValue
report_code = code_by (Version × (ℕ × (ℕ × (List (List ℕ) × (Written × (Encoding × (Known × ModuleValue)))))))
    (coded× version_code (coded× coded_ℕ (coded× coded_ℕ (coded× (coded_list (coded_list coded_ℕ))
    (coded× (coded× (coded_list (coded_list coded_ℕ)) (coded× (coded_list (coded_list entry_code)) (coded_list scenario_code)))
    (coded× encoding_code
    (coded× (coded× bound_code (coded× evidence_code open_code)) module_code)))))))
    (λ r. (r.version, (r.bits, (r.budget, (r.names, ((r.scenario_names, (r.patterns, r.scenarios)), (r.encoding, ((r.bound, (r.evidence, r.open_part)), r.design))))))))
    (λ p. record {
      version = p.0;
      bits = p.1.0;
      budget = p.1.1.0;
      names = p.1.1.1.0;
      scenario_names = p.1.1.1.1.0.0;
      patterns = p.1.1.1.1.0.1.0;
      scenarios = p.1.1.1.1.0.1.1;
      encoding = p.1.1.1.1.1.0;
      bound = p.1.1.1.1.1.1.0.0;
      evidence = p.1.1.1.1.1.1.0.1.0;
      open_part = p.1.1.1.1.1.1.0.1.1;
      design = p.1.1.1.1.1.1.1;
    })
    (λ _. refl)
