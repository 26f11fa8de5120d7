use Rattle.std.proofs.Common.{arith}
use Rattle.cnf_build.proofs.GivenLemmas.{no_example}
use Rattle.report_text.proofs.given.allows_at.Goals as goal

pub returns : goal.returns
returns c = no_example c.args.pattern.now c.args.i c.args.value c.requires c.len-bits.ensures.few (λ w l. c.loop-word.invariant w (omega arith))
