use Rattle.std.proofs.Common.{◌≡◌, ℕ, ◌<◌, ◌==◌, false, List, [], ◌∷◌, ◌∙◌, if◌then◌else◌, refl, sym, ap, subst, arith}
use Rattle.std.proofs.lemmas.Bool.{ne_eqb, eq-eqb}
use Rattle.cpog_defs.specs.declared.types.Place.TheVariants.{Arc}
use Rattle.cpog_merge.specs.declared.class_list.Belongs.{Belongs}
use Rattle.cpog_merge.specs.declared.class_list.Belongs.TheVariants.{Const}
use Rattle.cpog_merge.specs.Columns.{column_at}
use Rattle.cpog_merge.specs.Opens.{HasClass, belonging}
use Rattle.cpog_merge.proofs.ListLemmas.{each_more}
use Rattle.cpog_merge.proofs.choosing.push_belongs_from.Goals.{then-u-v+in_ok-push, else-u-v+in_ok-push-2}
use Rattle.cpog_merge.proofs.choosing.push_belongs_from.Goals as goal

pub belongs_to-requires-clause-served : goal.belongs_to-requires-clause-served
belongs_to-requires-clause-served c =
    let v : ℕ = c.loop-v.v in
    let below : v < c.args.columns.now.count = omega (arith, c.count-v-end.ensures.count) in
    subst (HasClass c.args.classes.now) (sym c.arc.ensures) (c.requires.served.each (Arc c.args.u (record { 0 = v })) (c.requires.below, below, c.if-u-v.false))

pub loop-v-preserved : goal.loop-v-preserved
loop-v-preserved c =
    let t = c.args.columns.now in
    let classes = c.args.classes.now in
    let u : ℕ = c.args.u.0 in
    let v : ℕ = c.loop-v.v in
    let here : ℕ → List Belongs = λ k. (if u == k then Const false else belonging classes (column_at t (Arc (record { 0 = u }) (record { 0 = k })))) ∷ [] in
    elim c.if-u-v.branch [
      | then-u-v+in_ok-push w ↦
          let is : Const false ∷ [] ≡ here v = rw (eq-eqb u v w.if-u-v.true) refl in
          each_more here v _ c.loop-v.list.items _ _ c.loop-v.invariant is (ap (λ list. list.items) w.list-is ∙ w.in_ok-push.ensures.items)
      | else-u-v+in_ok-push-2 w ↦
          let is : w.belongs_to.result ∷ [] ≡ here v = rw (ne_eqb u v w.if-u-v.false) (ap (λ x. x ∷ []) (w.belongs_to.ensures ∙ ap (belonging classes) w.arc.ensures)) in
          each_more here v _ c.loop-v.list.items _ _ c.loop-v.invariant is (ap (λ list. list.items) w.list-is ∙ w.in_ok-push-2.ensures.items)
    ]
