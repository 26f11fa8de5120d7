use Rattle.std.proofs.Common.{◌++◌, ◌∙◌, take, length, sym, subst, arith}
use Rattle.cpog_outside.specs.Room.{HasRoom}
use Rattle.cpog_outside.proofs.ToldLemmas.{Appends-trans, split_more, length-rest}
use Rattle.cpog_outside.proofs.writing.write_all.Goals as goal

pub pieces-preserved : goal.pieces-preserved
pieces-preserved g c = record {
  taken = (
    c.pieces.invariant.taken.0 ++ take c.in-Ok.count c.pieces.rest.now,
    split_more c.args.bytes.now c.pieces.invariant.taken.0 c.pieces.rest.now c.in-Ok.count c.pieces.invariant.taken.1 c.in-Ok.ensures.bound,
    Appends-trans _ _ _ _ _ c.pieces.invariant.taken.2 c.in-Ok.ensures.bytes,
  );
  later = omega (arith, c.pieces.invariant.later, c.in-Ok.ensures.cause.later);
  room = λ h. subst (HasRoom _) (sym (length-rest c.pieces.rest.now c.in-Ok.count)) ((c.in-Ok.ensures.quiet (c.pieces.invariant.room h)).left (length c.pieces.rest.now) (c.pieces.invariant.room h));
  quiet = λ h. (c.in-Ok.ensures.quiet (c.pieces.invariant.room h)).same ∙ c.pieces.invariant.quiet h;
}
