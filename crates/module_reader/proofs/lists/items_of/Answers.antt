use Rattle.std.proofs.Common.{◌≡◌, ℕ, ◌-◌, ◌+◌, ◌++◌, eqb, List, None, Some, sym, ap, ◌∙◌, arith}
use Rattle.std.specs.Fmt.{decimal}
use Rattle.std.specs.Option.{option_copied}
use Rattle.line_rows.specs.Words.{behind}
use Rattle.netlist_verilog.specs.Rows.{separator}
use Rattle.module_reader.proofs.ListLaws.{run_done, run_on, run_none}
use Rattle.module_reader.proofs.lists.items_of.Goals as goal

pub returns-in_default-clause-run : goal.returns-in_default-clause-run
returns-in_default-clause-run c =
    let item : ℕ → List ℕ = λ i. separator (eqb i 0) ++ (c.args.letter.now ++ decimal i) in
    let text : c.as_bytes.result.now ≡ item c.loop-index.index = c.as_bytes.ensures.value ∙ c.in_ok-item.ensures in
    let none : behind (item c.loop-index.index) c.loop-index.rest.now ≡ None = ap (λ (t : List ℕ). behind t c.loop-index.rest.now) (sym text) ∙ sym c.behind.ensures ∙ ap option_copied c.in_default.is in
    sym (run_done item (c.args.limit - c.loop-index.index) (c.args.limit - (c.loop-index.index + 1)) c.loop-index.index c.loop-index.rest.now (omega (arith, c.loop-index-test.true)) none) ∙ c.loop-index.invariant

pub loop-index-preserved : goal.loop-index-preserved
loop-index-preserved c =
    let item : ℕ → List ℕ = λ i. separator (eqb i 0) ++ (c.args.letter.now ++ decimal i) in
    let text : c.as_bytes.result.now ≡ item c.loop-index.index = c.as_bytes.ensures.value ∙ c.in_ok-item.ensures in
    let there : behind (item c.loop-index.index) c.loop-index.rest.now ≡ Some c.in-Some.more.now = ap (λ (t : List ℕ). behind t c.loop-index.rest.now) (sym text) ∙ sym c.in-Some.ensures in
    sym (run_on item (c.args.limit - c.loop-index.index) (c.args.limit - (c.loop-index.index + 1)) c.loop-index.index c.loop-index.rest.now c.in-Some.more.now (omega (arith, c.loop-index-test.true)) there) ∙ c.loop-index.invariant

pub returns-clause-run : goal.returns-clause-run
returns-clause-run c =
    let item : ℕ → List ℕ = λ i. separator (eqb i 0) ++ (c.args.letter.now ++ decimal i) in
    let stop : c.loop-index.index ≡ c.args.limit = omega (arith, c.loop-index-test.false, c.loop-index.auto.index-end) in
    ap (λ (k : ℕ). pair k c.loop-index.rest.now) (sym stop)
    ∙ sym (run_none item (c.args.limit - c.loop-index.index) c.loop-index.index c.loop-index.rest.now (omega (arith, c.loop-index-test.false))) ∙ c.loop-index.invariant
  where
    pair : ℕ → List ℕ → ℕ × List ℕ
    pair k rest = (k, rest)
