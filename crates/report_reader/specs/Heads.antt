-- The head of a report: what it says, and how it is read.
use Rattle.std.specs.Prelude.{ℕ, ◌<◌, ◌≤◌, List, [], ◌∷◌, Result, codes}
use Rattle.cpog_base.specs.Names.{AreDistinct}
use Rattle.netlist_verilog.specs.Module.{AreNames}
use Rattle.report_text.specs.Rows.{bits_row, budget_row, operations_row}
use Rattle.line_rows.specs.Position.{Position}
use Rattle.line_rows.specs.Reading.{row, exactly, then_of, view_of}
use Rattle.report_reader.specs.Reading.{bits_in, budget_in, operations_in, AreNext}
use Rattle.report_reader.specs.declared.rows.Head.{Head}

-- what the first four lines say
pub record HeadValue : Type 0 where
  pub bits : ℕ
  pub budget : ℕ
  pub names : List (List ℕ)

-- a head as clauses see it
abbrev pub value_of : Head → HeadValue
value_of h = record { bits = h.bits; budget = h.budget; names = h.names }

-- the first four lines of a report that says this
abbrev pub lines_of_head : HeadValue → List (List ℕ)
lines_of_head h = codes "cpog report 1" ∷ bits_row h.bits ∷ budget_row h.budget ∷ operations_row h.names ∷ []

pub record IsHead (h : HeadValue) : Type 0 where
  pub some_bit : 1 ≤ h.bits
  pub few_bits : h.bits ≤ 8
  pub some_budget : 1 ≤ h.budget
  pub few_budget : h.budget ≤ 8388608
  pub names : AreNext 64 [] h.names

abbrev pub head_from : Unit {0} × (ℕ × (ℕ × List (List ℕ))) → HeadValue
head_from x = record { bits = x.1.0; budget = x.1.1.0; names = x.1.1.1 }

unfoldable pub head_at : Position → Result (HeadValue × Position) ℕ
head_at = view_of head_from (then_of (row (exactly (codes "cpog report 1"))) (λ _. then_of (row bits_in) (λ _. then_of (row budget_in) (λ _. row operations_in))))
