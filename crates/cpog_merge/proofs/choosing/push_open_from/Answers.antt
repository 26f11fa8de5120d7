use Rattle.std.proofs.Common.{◌≡◌, ℕ, [], ◌∷◌, ◌∙◌, if◌then◌else◌, sym, ap, refl, append-nil}
use Rattle.std.proofs.lemmas.Bool.{ne_eqb, eq-eqb}
use Rattle.cpog_defs.specs.declared.types.Place.{Place}
use Rattle.cpog_defs.specs.declared.types.Place.TheVariants.{Arc}
use Rattle.cpog_merge.specs.Opens.{is_open}
use Rattle.cpog_merge.proofs.ListLemmas.{each_more}
use Rattle.cpog_merge.proofs.OpenLemmas.{arc_list}
use Rattle.cpog_merge.proofs.choosing.push_open_from.Goals.{then-u-v+in_ok-push_if_open, else-u-v}
use Rattle.cpog_merge.proofs.choosing.push_open_from.Goals as goal

pub loop-v-preserved : goal.loop-v-preserved
loop-v-preserved c =
    let t = c.args.columns.now in
    let u : ℕ = c.args.u.0 in
    let v : ℕ = c.loop-v.v in
    let p : Place = Arc (record { 0 = u }) (record { 0 = v }) in
    elim c.if-u-v.branch [
      | then-u-v+in_ok-push_if_open w ↦
          let there : (if is_open w.arc.result then p ∷ [] else []) ≡ arc_list t u v =
          rw (ne_eqb u v w.if-u-v.true) (ap (λ column. if is_open column then p ∷ [] else []) w.arc.ensures) in
          each_more (arc_list t u) v _ c.loop-v.places.items _ _ c.loop-v.invariant there (ap (λ places. places.items) w.places-is ∙ w.in_ok-push_if_open.ensures)
      | else-u-v w ↦
          let none : [] ≡ arc_list t u v = rw (eq-eqb u v w.if-u-v.false) refl in
          each_more (arc_list t u) v _ c.loop-v.places.items [] _ c.loop-v.invariant none (ap (λ places. places.items) w.places-is ∙ sym (append-nil c.loop-v.places.items))
    ]
