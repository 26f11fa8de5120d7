use Rattle.std.proofs.Common.{◌∙◌, ap, sym, subst, ℕ, Vec, Global}
use Rattle.cpog_defs.specs.Gates.{GateList}
use Rattle.cpog_defs.specs.Encodings.{Encoding}
use Rattle.cnf_build.specs.Evidence.{evidence_of, open_of}
use Rattle.report_text.specs.Report.{EvidenceFits, OpenFits}
use Rattle.report_text.specs.Versions.{gate_limit}
use Rattle.report_text.proofs.WritingLemmas.{report_written, evidence_written, places_of}
use Rattle.report_text.proofs.writing.write_report.Goals as goal

pub returns-clause-text : goal.returns-clause-text
returns-clause-text c =
    ap (λ (v : Vec ℕ Global). v.items) c.into_bytes.ensures.value
    ∙ report_written c.args.report.now c.bits-bits.result c.gates-2.result.now c.names.result.now c.names-2.result.now
    c.graph.result.now c.graph-2.result.now c.bound.result (open_of c.open_part.result.now) c.design.result.now _ _ _ _ _ _ _ _ _ _
    c.bits-bits.ensures.bits
    (c.gates-2.ensures.gates ∙ ap (λ (g : GateList). g.gates) c.gates.ensures.gates ∙ ap (λ (e : Encoding). e.gates.gates) c.encoding-encoding.ensures)
    c.names.ensures
    (c.graph.ensures.graph ∙ ap (λ (e : Encoding). e.graph) c.encoding-encoding.ensures)
    c.names-2.ensures
    (c.graph-2.ensures.graph ∙ ap (λ (e : Encoding). e.graph) c.encoding-encoding.ensures)
    c.bound.ensures
    c.open_part.ensures
    c.design.ensures
    c.new-out.ensures.bytes
    c.in_ok-put_head.ensures
    c.in_ok-put_scenarios.ensures
    c.in_ok-put_gates.ensures
    c.in_ok-put_ops.ensures
    c.in_ok-put_arcs.ensures
    c.in_ok-put_bound.ensures
    (evidence_written c.args.report.now.names c.names-3.result.now c.args.report.now.evidence (evidence_of c.evidence.result.now) _ _ c.names-3.ensures c.evidence.ensures c.in_ok-text.ensures.text)
    c.in_ok-text-2.ensures.text
    c.in_ok-text-3.ensures

pub returns-clause-fits : goal.returns-clause-fits
returns-clause-fits c = (subst EvidenceFits c.evidence.ensures c.in_ok-text.ensures.fits, subst OpenFits c.open_part.ensures c.in_ok-text-2.ensures.fits)

pub append_evidence-requires : goal.append_evidence-requires
append_evidence-requires c places e =
    places_of c.args.report.now.names c.names-3.result.now (gate_limit c.args.report.now.version) c.args.report.now.evidence places
    c.bits-bits.ensures.report.evidence c.names-3.ensures (sym c.evidence.ensures ∙ e)
