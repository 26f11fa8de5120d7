use Rattle.std.proofs.Common.{length, Err, ◌^◌, ap, sym, subst}
use Rattle.gate_core.specs.Least.{IsFirstClash}
use Rattle.gate_template.specs.Templates.{ArePatterns}
use Rattle.graph_answers.proofs.PatternLemmas.{free_codes}
use Rattle.graph_answers.proofs.ReportLemmas.{free_are_patterns}
use Rattle.graph_answers.proofs.synthesis.open_assign.Goals as goal

pub assign-requires-clause-given : goal.assign-requires-clause-given
assign-requires-clause-given c = subst (ArePatterns c.args.bits (length c.args.orders.now)) (sym c.requires.given) (free_are_patterns (length c.args.orders.now) c.args.bits)

pub unreachable-requires-in-Err-Clash : goal.unreachable-requires-in-Err-Clash
unreachable-requires-in-Err-Clash c =
    let k = c.in-Err-Clash.field-0-0.0 in
    let clash : IsFirstClash c.args.given.now (2 ^ c.args.bits) k = c.in-Err-Clash.ensures.clash k (ap Err c.in-Err-Clash.field-0-is) in
    free_codes (length c.args.orders.now) c.args.bits k c.requires.enough (subst (λ p. IsFirstClash p (2 ^ c.args.bits) k) c.requires.given clash)
