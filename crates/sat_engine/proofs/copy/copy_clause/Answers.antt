use Rattle.std.proofs.Common.{◌≡◌, ◌+◌, ◌++◌, ◌∷◌, [], take, sym, ap, ◌∙◌, subst, arith}
use Rattle.std.proofs.lemmas.List.{take_more}
use Rattle.sat_engine.specs.Copies.{CopiesOne, IsCopy}
use Rattle.sat_engine.proofs.PlaceLemmas.{in_read}
use Rattle.sat_engine.proofs.CopyLemmas.{copy_none, copy_found, copy_more, represent_fresh}
use Rattle.sat_engine.proofs.copy.copy_clause.Goals as goal
use Rattle.sat_engine.proofs.copy.copy_clause.Goals.{then-branch, else-branch}

pub loop-lit-init : goal.loop-lit-init
loop-lit-init c = record {
  copy = rw c.requires.empty copy_none;
  table = record { size = c.requires.size; below = λ k. omega (arith, c.requires.fresh k) };
  marked = rw c.requires.empty (represent_fresh c.args.variables c.args.marks.now.items c.args.stamp c.requires.fresh);
}

pub copy_one-requires-clause-within : goal.copy_one-requires-clause-within
copy_one-requires-clause-within c = c.requires.within c.lit-item.result (in_read c.args.clause.now c.loop-lit.lit-index c.lit-item.result c.loop-lit-test.true c.lit-item.is)

pub loop-lit-preserved : goal.loop-lit-preserved
loop-lit-preserved c =
    let x = c.lit-item.result in
    let k = c.loop-lit.lit-index in
    let clause = c.args.clause.now in
    let old = c.loop-lit.into.items in
    let new = c.copy_one.new.into.items in
    let grow : take (k + 1) clause ≡ take k clause ++ x ∷ [] = take_more clause k x c.loop-lit-test.true ∙ ap (λ q. take k clause ++ q ∷ []) (sym c.lit-item.is) in
    record {
      copy = subst (λ q. IsCopy q new c.if-branch.both) (sym grow) (elim c.if-branch.branch [
        | then-branch w ↦ subst (IsCopy (take k clause ++ x ∷ []) new) (sym w.both-is) (copy_found (take k clause) old new x c.loop-lit.both c.loop-lit.invariant.copy (subst (CopiesOne old new x) w.if-branch.true c.in_ok-copy_one.ensures.copied))
        | else-branch w ↦ subst (IsCopy (take k clause ++ x ∷ []) new) (sym w.both-is) (copy_more (take k clause) old new x c.loop-lit.both c.loop-lit.invariant.copy (subst (CopiesOne old new x) w.if-branch.false c.in_ok-copy_one.ensures.copied))
      ]);
      table = c.copy_one.ensures.table;
      marked = c.in_ok-copy_one.ensures.marked;
    }
