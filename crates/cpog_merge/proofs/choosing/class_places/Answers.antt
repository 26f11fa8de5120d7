use Rattle.std.proofs.Common.{◌≡◌, ◌≤◌, ◌∙◌, sym, ap, ap₂, subst, length, map}
use Rattle.std.specs.List.{All}
use Rattle.std.proofs.lemmas.Result.{IfOk-weaker}
use Rattle.cpog_defs.specs.Graphs.{IsPlace}
use Rattle.cpog_merge.specs.Columns.{column_at}
use Rattle.cpog_merge.specs.Classes.{AreClassPlaces}
use Rattle.cpog_merge.specs.Opens.{open_places, chosen}
use Rattle.cpog_merge.proofs.ClassLemmas.{open_columns, class_list, opens_are_places, are_class_places, few_classes}
use Rattle.cpog_merge.proofs.choosing.class_places.Goals as goal

pub columns_of-requires : goal.columns_of-requires
columns_of-requires c =
    let t = c.args.columns.now in
    subst (All (IsPlace t.count)) (sym (c.deref.ensures.value ∙ c.in_ok-open.ensures)) (opens_are_places t c.count-count.ensures.columns)

pub returns-clause-places : goal.returns-clause-places
returns-clause-places c =
    let t = c.args.columns.now in
    let is = c.count-count.ensures.columns in
    let columns : c.deref-3.result.now ≡ open_columns t is =
    c.deref-3.ensures.value ∙ c.in_ok-open_columns.ensures ∙ ap (map (column_at t)) (c.deref.ensures.value ∙ c.in_ok-open.ensures) in
    let open_there : c.deref-2.result.now ≡ open_places t = c.deref-2.ensures.value ∙ c.in_ok-open.ensures in
    let list : chosen c.deref-3.result.now c.deref-2.result.now (length c.deref-3.result.now) ≡ class_list t is =
    ap₂ (λ xs ps. chosen xs ps (length xs)) columns open_there in
    IfOk-weaker c.choose.result _ _ (λ places h. subst (AreClassPlaces t) (sym (h ∙ list)) (are_class_places t is)) c.choose.ensures

pub returns-clause-few : goal.returns-clause-few
returns-clause-few c =
    let t = c.args.columns.now in
    let is = c.count-count.ensures.columns in
    let columns : c.deref-3.result.now ≡ open_columns t is =
    c.deref-3.ensures.value ∙ c.in_ok-open_columns.ensures ∙ ap (map (column_at t)) (c.deref.ensures.value ∙ c.in_ok-open.ensures) in
    let open_there : c.deref-2.result.now ≡ open_places t = c.deref-2.ensures.value ∙ c.in_ok-open.ensures in
    let list : chosen c.deref-3.result.now c.deref-2.result.now (length c.deref-3.result.now) ≡ class_list t is =
    ap₂ (λ xs ps. chosen xs ps (length xs)) columns open_there in
    IfOk-weaker c.choose.result _ _ (λ places h. subst (λ ps. length ps ≤ 16384) (sym (h ∙ list)) (few_classes t is)) c.choose.ensures
