use Rattle.std.proofs.Common.{ℕ, Bool, false, true, ap, ◌∙◌}
use Rattle.cpog_defs.specs.declared.types.Gate.{Gate}
use Rattle.cpog_defs.specs.Gates.{gate_value}
use Rattle.gate_forms.specs.Forms.{new_table, table_with, flipped, flag_at}
use Rattle.gate_forms.proofs.signs.gate_under.Goals as goal

pub returns : goal.returns
unfolding new_table
returns c =
    let g = c.args.gate in
    let j = flag_at c.args.flags.now g.j in
    let k = flag_at c.args.flags.now g.k in
    let make : ℕ → Gate = λ t. record { j = g.j; k = g.k; table = t } in
    let table : Bool → ℕ = λ f. table_with (flipped f (gate_value g.table (flipped j false) (flipped k false))) (flipped f (gate_value g.table (flipped j false) (flipped k true))) (flipped f (gate_value g.table (flipped j true) (flipped k false))) (flipped f (gate_value g.table (flipped j true) (flipped k true))) in
    ap make (c.flipped_table.ensures ∙ ap table c.flag_of-flag.ensures)
