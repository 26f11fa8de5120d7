use Rattle.cpog_base.proofs.ServeLemmas.{differs_tells}
use Rattle.cpog_base.proofs.column.Column.differs_somewhere.Goals as goal

pub returns : goal.returns
returns c =
    let b = c.self.inside in
    let a = c.other.inside in
    let x = c.share_bit.result in
    let y = c.share_bit-2.result in
    rw (← c.self.view_is, ← c.other.view_is)
    (differs_tells b.len b.ones b.zeros a.len a.ones a.zeros c.self.invariant c.other.invariant x y c.share_bit.ensures c.share_bit-2.ensures)
