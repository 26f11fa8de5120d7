use Rattle.opcode_assign.proofs.minimum.assign.Goals as goal

pub returns-in-Err-Clash-clause-clash : goal.returns-in-Err-Clash-clause-clash
returns-in-Err-Clash-clause-clash c = λ k h. c.in-Err-Clash.ensures.clash k (cc (c.in-Err-Clash.field-0-is, c.in-Err-Clash.s-is, h))
