use Rattle.std.proofs.Common.{◌∙◌, refl, sym, ap, subst, get_or, arith, below_more}
use Rattle.std.proofs.lemmas.Bool.{both_ways}
use Rattle.cpog_defs.specs.declared.types.Bit3.{Bit3}
use Rattle.cpog_defs.specs.declared.types.Place.TheVariants.{Op}
use Rattle.std.specs.Prelude.{List}
use Rattle.std.specs.List.{list_any}
use Rattle.cpog_base.specs.Column.{is_one, is_zero}
use Rattle.cpog_merge.specs.Incompatible.{AreIncompatible}
use Rattle.report_judge.specs.Known.{member_column}
use Rattle.report_judge.proofs.KnownLemmas.{member_is, is_open}
use Rattle.report_judge.proofs.evidence.is_member.Goals as goal

pub returns-then-not-incompatible : goal.returns-then-not-incompatible
returns-then-not-incompatible c =
    let orders = c.args.basis.now.orders.items in
    let places = c.args.places.now in
    let here = c.column_of-column.ensures ∙ member_is orders c.args.basis.now.table places c.args.i _ c.requires.columns c.requires.places c.requires.within in
    let there = c.column_of.ensures ∙ member_is orders c.args.basis.now.table places c.loop-j.j _ c.requires.columns c.requires.places (omega (arith, c.loop-j-test.true, c.requires.within)) in (
      λ t. absurd (both_ways _ refl t),
      λ member.
          let apart = member.apart c.loop-j.j c.loop-j-test.true in
          sym c.if-not-incompatible.true
          ∙ c.incompatible.ensures.1 (subst (λ (x : List Bit3). AreIncompatible x c.column_of-column.result) (sym there) (subst (λ (x : List Bit3). AreIncompatible (member_column orders places c.loop-j.j) x) (sym here) apart)),
    )

pub loop-j-preserved : goal.loop-j-preserved
loop-j-preserved c =
    let orders = c.args.basis.now.orders.items in
    let places = c.args.places.now in
    let here = c.column_of-column.ensures ∙ member_is orders c.args.basis.now.table places c.args.i _ c.requires.columns c.requires.places c.requires.within in
    let there = c.column_of.ensures ∙ member_is orders c.args.basis.now.table places c.loop-j.j _ c.requires.columns c.requires.places (omega (arith, c.loop-j-test.true, c.requires.within)) in
    let apart = c.incompatible.ensures.0 c.if-not-incompatible.false in
    below_more _ _ c.loop-j.invariant (subst (λ (x : List Bit3). AreIncompatible x (member_column orders places c.args.i)) there (subst (λ (x : List Bit3). AreIncompatible c.column_of.result x) here apart))

pub returns : goal.returns
returns c =
    let orders = c.args.basis.now.orders.items in
    let places = c.args.places.now in
    let here = c.column_of-column.ensures ∙ member_is orders c.args.basis.now.table places c.args.i _ c.requires.columns c.requires.places c.requires.within in
    let ones = sym (ap (list_any is_one) here) ∙ sym c.has_one.ensures ∙ c.if-not-has_one.false in
    let zeros = sym (ap (list_any is_zero) here) ∙ sym c.has_zero.ensures ∙ c.if-not-has_zero.false in (
      λ _. record {
        is_open = is_open orders (get_or places c.args.i (Op (record { 0 = 0 }))) ones zeros;
        apart = λ j l. c.loop-j.invariant j (omega (arith, l, c.loop-j-test.false));
      },
      λ _. refl,
    )
