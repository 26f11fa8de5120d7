use Rattle.std.proofs.Common.{◌≡◌, take, map}
use Rattle.gate_forms.specs.Forms.{new_ref}
use Rattle.gate_forms.proofs.signs.refs_under.Given as goal

abbrev pub invariant-loop-reference : goal.invariant-loop-reference
invariant-loop-reference l = l.list.items ≡ map (new_ref l.flags) (take l.reference-index l.refs)
