use Rattle.cpog_base.proofs.ServeLemmas.{opposes_tells}
use Rattle.cpog_base.proofs.column.Column.opposes.Goals as goal

pub returns : goal.returns
returns c =
    let b = c.self.inside in
    let a = c.other.inside in
    let x = c.is_within.result in
    let y = c.is_within-2.result in
    rw (← c.self.view_is, ← c.other.view_is)
    (opposes_tells b.len b.ones b.zeros a.len a.ones a.zeros c.self.invariant c.other.invariant x y c.is_within.ensures c.is_within-2.ensures)
