use Rattle.std.proofs.Common.{◌∙◌, ◌<◌, ap, length, arith}
use Rattle.cpog_defs.specs.Gates.{GateList}
use Rattle.cpog_defs.specs.Encodings.{Encoding}
use Rattle.report_judge.specs.Known.{printed_lower}
use Rattle.report_judge.proofs.KnownLemmas.{may_ask_between}
use Rattle.report_judge.proofs.left_open.is_open_between.Goals as goal

pub is_small-requires : goal.is_small-requires
is_small-requires c =
    let r = c.args.report.now in
    let lo = c.printed_lower-lo.ensures ∙ ap printed_lower c.bound.ensures in
    let hi = c.len-hi.ensures.len ∙ ap (λ (list : GateList). length list.gates) (c.gates.ensures.gates ∙ ap (λ (e : Encoding). e.gates) c.encoding.ensures) in
    let less : printed_lower r.bound < length r.encoding.gates.gates = omega (arith, lo, hi, c.if-lo-hi.true) in
    rw (c.given-given.ensures, c.bits-bits.ensures.bits)
    (may_ask_between r c.bits-bits.ensures.report c.args.basis.now c.requires.basis c.in-Log.gates less (c.if-gates-lo.true ∙ lo))

pub is_small-requires-then-gates-lo-2 : goal.is_small-requires-then-gates-lo-2
is_small-requires-then-gates-lo-2 c =
    let r = c.args.report.now in
    let lo = c.printed_lower-lo.ensures ∙ ap printed_lower c.bound.ensures in
    let hi = c.len-hi.ensures.len ∙ ap (λ (list : GateList). length list.gates) (c.gates.ensures.gates ∙ ap (λ (e : Encoding). e.gates) c.encoding.ensures) in
    let less : printed_lower r.bound < length r.encoding.gates.gates = omega (arith, lo, hi, c.if-lo-hi-2.true) in
    rw (c.given-given.ensures, c.bits-bits.ensures.bits)
    (may_ask_between r c.bits-bits.ensures.report c.args.basis.now c.requires.basis c.in-Size.gates less (c.if-gates-lo-2.true ∙ lo))
