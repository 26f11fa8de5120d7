use Rattle.std.proofs.Common.{◌≡◌, ◌<◌, ◌≤◌, None, List, Option, length, map, slice_index_or, slice_set, subst, sym, ap, arith, ◌∙◌}
use Rattle.std.proofs.lemmas.List.{length-map}
use Rattle.cpog_defs.specs.declared.types.Ref.{Ref}
use Rattle.cpog_defs.specs.Gates.{signal_count}
use Rattle.handshake_eqs.specs.Netlists.{Netlist, IsWireOver}
use Rattle.module_reader.proofs.AssemblyLaws.{rows_step, rows_done, row_later, columns_later, rows_later}
use Rattle.module_reader.proofs.assembly.put_wires.Goals as goal

pub put_wires_from-requires-clause-few : goal.put_wires_from-requires-clause-few
put_wires_from-requires-clause-few c =
    subst (λ (r : List (Option Ref)). length r ≤ 128) (sym c.wires_at.ensures) (omega (arith, c.requires.square c.loop-u.u (omega (arith, c.loop-u-test.true, c.requires.long)), c.requires.few, c.requires.long))

pub put_wires_from-requires-clause-long : goal.put_wires_from-requires-clause-long
put_wires_from-requires-clause-long c =
    ap length c.wires_at.ensures ∙ c.requires.square c.loop-u.u (omega (arith, c.loop-u-test.true, c.requires.long)) ∙ sym (ap (λ (k : Netlist). length k.conditions) c.loop-u.invariant)

pub put_wires_from-requires-clause-first : goal.put_wires_from-requires-clause-first
put_wires_from-requires-clause-first c = subst (λ (k : Netlist). c.loop-u.u < length k.conditions) (sym c.loop-u.invariant) (omega (arith, c.loop-u-test.true, c.requires.long))

pub put_wires_from-requires-clause-rows : goal.put_wires_from-requires-clause-rows
put_wires_from-requires-clause-rows c =
    rows_later c.args.netlist.now c.loop-u.netlist c.loop-u.u _ c.loop-u.invariant ∙ c.requires.rows ∙ sym (ap (λ (k : Netlist). length k.conditions) c.loop-u.invariant)

pub put_wires_from-requires-clause-columns : goal.put_wires_from-requires-clause-columns
put_wires_from-requires-clause-columns c =
    let rows : List (List (Option Ref)) = map (λ row. row.items) c.args.wires.now in
    let long : length rows ≡ length c.args.netlist.now.wires = length-map c.args.wires.now (λ row. row.items) ∙ c.requires.long ∙ sym c.requires.rows in
    columns_later c.args.netlist.now c.loop-u.netlist c.loop-u.u rows c.loop-u.invariant long ∙ c.requires.columns c.loop-u.u (omega (arith, c.loop-u-test.true, c.requires.long)) ∙ sym (ap (λ (k : Netlist). length k.conditions) c.loop-u.invariant)

pub put_wires_from-requires-clause-own : goal.put_wires_from-requires-clause-own
put_wires_from-requires-clause-own c = ap (λ (r : List (Option Ref)). slice_index_or r c.loop-u.u None) c.wires_at.ensures ∙ c.requires.own c.loop-u.u

pub put_wires_from-requires-clause-over : goal.put_wires_from-requires-clause-over
put_wires_from-requires-clause-over c = λ v.
    subst (λ (k : Netlist). IsWireOver (signal_count k.gates) (slice_index_or c.wires_at.result.now v None)) (sym c.loop-u.invariant)
    (subst (λ (r : List (Option Ref)). IsWireOver (signal_count c.args.netlist.now.gates) (slice_index_or r v None)) (sym c.wires_at.ensures) (c.requires.over c.loop-u.u v))

pub put_wires_from-requires-clause-undeclared : goal.put_wires_from-requires-clause-undeclared
put_wires_from-requires-clause-undeclared c = λ v.
    let rows : List (List (Option Ref)) = map (λ row. row.items) c.args.wires.now in
    let long : length rows ≡ length c.args.netlist.now.wires = length-map c.args.wires.now (λ row. row.items) ∙ c.requires.long ∙ sym c.requires.rows in
    row_later c.args.netlist.now c.loop-u.netlist c.loop-u.u v rows c.loop-u.invariant long (c.requires.undeclared c.loop-u.u v)

pub loop-u-preserved : goal.loop-u-preserved
loop-u-preserved c =
    let rows : List (List (Option Ref)) = map (λ row. row.items) c.args.wires.now in
    let total = length-map c.args.wires.now (λ row. row.items) in
    let long : length rows ≡ length c.args.netlist.now.wires = total ∙ c.requires.long ∙ sym c.requires.rows in
    c.in_ok-put_wires_from.ensures
    ∙ ap (λ (r : List (Option Ref)). record c.loop-u.netlist { wires = slice_set c.loop-u.netlist.wires c.loop-u.u r }) c.wires_at.ensures
    ∙ rows_step c.args.netlist.now c.loop-u.netlist c.loop-u.u rows c.loop-u.invariant (omega (arith, c.loop-u-test.true, total)) long

pub returns : goal.returns
returns c =
    let rows : List (List (Option Ref)) = map (λ row. row.items) c.args.wires.now in
    let total = length-map c.args.wires.now (λ row. row.items) in
    let long : length rows ≡ length c.args.netlist.now.wires = total ∙ c.requires.long ∙ sym c.requires.rows in
    rows_done c.args.netlist.now c.loop-u.netlist c.loop-u.u rows c.loop-u.invariant (omega (arith, c.loop-u-test.false, c.loop-u.auto.u-end, total)) long
