use Rattle.std.proofs.Common.{◌≡◌, ℕ, ◌-◌, ◌+◌, Bool, List, length, map, sym, ap, ◌∙◌, arith}
use Rattle.cpog_defs.specs.Orders.{Set}
use Rattle.netlist_verilog.specs.Wires.{name_of}
use Rattle.netlist_verilog.proofs.WritingLemmas.{name_at}
use Rattle.module_reader.specs.Lists.{steps, wait_mark, with_wait}
use Rattle.module_reader.specs.Modules.{is_declared, wait_item, wait_words}
use Rattle.module_reader.proofs.ListLaws.{steps_on}
use Rattle.module_reader.proofs.requests.waits_of.Goals as goal

pub loop-u-preserved : goal.loop-u-preserved
loop-u-preserved c =
    let names = c.args.names.now in
    let rows : List (List Bool) = map (λ row. row.items) c.args.arcs.now in
    let u : ℕ = c.loop-u.u in
    let f : ℕ → Set × List ℕ → Set × List ℕ = λ u s. with_wait u s.0 (wait_mark (is_declared rows u c.args.v) (wait_item names c.args.v u) s.1) in
    let left : ℕ = length names - (u + 1) in
    let name : c.get.result.now ≡ name_of names u = name_at names c.from.result u _ c.from.ensures c.get.ensures in
    ap (λ (s : Set). steps f left (u + 1) (pair s c.in_ok-is_waited.more.now)) c.joined_by-waits.ensures
    ∙ ap (λ (x : Bool × List ℕ). steps f left (u + 1) (with_wait u c.loop-u.waits x)) (c.in_ok-is_waited.ensures ∙ ap (λ (b : Bool). wait_mark b (wait_words c.get.result.now u c.args.v) c.loop-u.rest.now) c.bit_at-is_declared.ensures ∙ ap (λ (n : List ℕ). wait_mark (is_declared rows u c.args.v) (wait_words n u c.args.v) c.loop-u.rest.now) name)
    ∙ sym (steps_on f (length names - u) left u (c.loop-u.waits, c.loop-u.rest.now) (omega (arith, c.loop-u-test.true)))
    ∙ c.loop-u.invariant
  where
    pair : Set → List ℕ → Set × List ℕ
    pair s rest = (s, rest)
