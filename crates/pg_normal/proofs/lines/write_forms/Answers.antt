use Rattle.std.specs.Prelude.{◌<◌, ◌≤◌, ◌++◌, length, refl}
use Rattle.std.proofs.Common.{ap, ◌∙◌, subst, slice_index_or}
use Rattle.line_text.specs.Lines.{text_of}
use Rattle.pg_normal.specs.Listing.{params_lines}
use Rattle.pg_normal.proofs.LineLemmas.{written_first, written_last, statement_within, written_more}
use Rattle.pg_normal.proofs.lines.write_forms.Goals as goal

pub forms-init : goal.forms-init
forms-init c = written_first c.args.file.now c.args.normals.now.normals c.args.scope.now.params c.put_params.new.out.items c.requires.forms (ap (λ s. s.params) c.requires.scope.whole)
    (c.in_ok-put_params.ensures ∙ ap (λ o. o ++ text_of (params_lines c.args.scope.now.params)) c.new-out.ensures.items)

pub statement-statement-requires : goal.statement-statement-requires
statement-statement-requires c =
    statement_within c.args.file.now c.args.normals.now.normals c.forms.normal-index c.normal-item.result c.normal-item.result c.forms.out.items
    (subst (λ xs. c.forms.normal-index < length xs) c.as_slice-normal-items.ensures c.forms-test.true)
    (c.normal-item.is ∙ ap (λ xs. slice_index_or xs c.forms.normal-index c.normal-item.result) c.as_slice-normal-items.ensures) c.forms.invariant

pub forms-preserved : goal.forms-preserved
forms-preserved c =
    written_more c.args.file.now c.args.normals.now.normals c.forms.normal-index c.normal-item.result c.normal-item.result c.forms.out.items
    (subst (λ xs. c.forms.normal-index < length xs) c.as_slice-normal-items.ensures c.forms-test.true)
    (c.normal-item.is ∙ ap (λ xs. slice_index_or xs c.forms.normal-index c.normal-item.result) c.as_slice-normal-items.ensures) c.forms.invariant
    c.statement-statement.result.now c.operations-names.result.now c.args.scope.now.params c.normal-item.result.form c.put_line.new.out.items
    c.statement-statement.ensures.statement c.operations-names.ensures (ap (λ s. s.params) c.requires.scope.whole) refl c.in_ok-put_line.ensures

pub returns : goal.returns
returns c =
    written_last c.args.file.now c.args.normals.now.normals c.forms.normal-index c.forms.out.items c.forms.invariant
    (subst (λ xs. length xs ≤ c.forms.normal-index) c.as_slice-normal-items.ensures c.forms-test.false)
