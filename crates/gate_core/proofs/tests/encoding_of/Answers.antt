use Rattle.std.proofs.Common.{length, sym, subst}
use Rattle.cpog_defs.specs.Codes.{AreCodes}
use Rattle.gate_core.proofs.tests.encoding_of.Goals as goal

pub first_encode-requires-clause-codes : goal.first_encode-requires-clause-codes
first_encode-requires-clause-codes c =
    subst (λ codes. AreCodes c.args.bits (length codes) codes) (sym c.as_slice-2.ensures.value)
    (subst (λ n. AreCodes c.args.bits n c.in-Ok.codes.items) (sym c.in-Ok.ensures.codes.one_each) c.in-Ok.ensures.codes)
