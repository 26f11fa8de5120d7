use Rattle.std.proofs.Common.{◌<◌, length, sym, subst}
use Rattle.cpog_base.specs.declared.status.Status.TheVariants as status
use Rattle.refusal_lines.specs.declared.refusal.Refusal.TheVariants as refusal
use Rattle.refusal_lines.specs.Refusal.{At, Tells}
use Rattle.graph_answers.specs.Refusals.{IsEqualAnswer}
use Rattle.graph_answers.proofs.RefusalLemmas.{later_below, earlier_below, equal_told}
use Rattle.refusal_lines.proofs.StopLemmas.{stop_map}
use Rattle.graph_answers.proofs.encodable.check_different.Goals as goal

pub get-later-requires : goal.get-later-requires
get-later-requires c =
    subst (λ i. i < length c.args.names.now) (sym c.from.ensures) (rw c.in-Some.later-is (later_below c.args.file.now c.args.names.now c.requires.names c.args.orders.now c.requires.orders c.in-Some.later.0 c.in-Some.earlier.0 c.in-Some.ensures))

pub get-earlier-requires : goal.get-earlier-requires
get-earlier-requires c =
    subst (λ i. i < length c.args.names.now) (sym c.from-in-Some.ensures) (rw c.in-Some.earlier-is (earlier_below c.args.file.now c.args.names.now c.requires.names c.args.orders.now c.requires.orders c.in-Some.later.0 c.in-Some.earlier.0 c.in-Some.ensures))

pub returns-in-Some-clause-err : goal.returns-in-Some-clause-err
returns-in-Some-clause-err c =
    let f = c.args.file.now in
    let names = c.args.names.now in
    let later = c.get-later.result.now in
    let earlier = c.get-earlier.result.now in
    stop_map (Tells status.Equal (refusal.Equal later earlier)) (At status.Equal (IsEqualAnswer f))
    (equal_told f names c.requires.names c.args.orders.now c.requires.orders c.from.result c.from-in-Some.result later earlier (rw (c.from.ensures, c.from-in-Some.ensures, c.in-Some.later-is, c.in-Some.earlier-is) c.in-Some.ensures) c.get-later.ensures c.get-earlier.ensures)
    c.refuse_equal.result c.refuse_equal.ensures
