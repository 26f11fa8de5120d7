use Rattle.std.proofs.Common.{◌∙◌, sym, inl, inr}
use Rattle.std.proofs.lemmas.Bool.{both_ways}
use Rattle.std.proofs.lemmas.Bool.Decides.{same_from_decides}
use Rattle.cpog_merge.specs.Classes.{IsServedBy}
use Rattle.cpog_merge.specs.Opens.{serves}
use Rattle.cpog_merge.proofs.ServingLemmas.{served_decides}
use Rattle.cpog_merge.proofs.serving.serves.Goals as goal

pub returns-then-serves : goal.returns-then-serves
returns-then-serves c =
    c.if-serves.true ∙ sym ((served_decides c.args.by.now c.args.to.now).1 (inl (c.serves.ensures.0 c.if-serves.true)))

pub returns-else-serves : goal.returns-else-serves
returns-else-serves c =
    same_from_decides {P = IsServedBy c.args.to.now c.args.by.now} c.opposes.result (serves c.args.by.now c.args.to.now) (
      λ t. inr (c.opposes.ensures.0 t),
      λ h. elim h [ inl s ↦ absurd (both_ways _ c.if-serves.false (c.serves.ensures.1 s)) | inr o ↦ c.opposes.ensures.1 o ],
    )
    (served_decides c.args.by.now c.args.to.now)
