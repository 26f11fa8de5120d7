-- A refuted template bounds the gates of every encoding from below.
use Rattle.std.proofs.Common.{◌≡◌, ℕ, ◌+◌, ◌≤◌, List, length, sym, subst, arith, All}
use Rattle.cpog_defs.specs.declared.types.Bit3.{Bit3}
use Rattle.cpog_defs.specs.Codes.{open_patterns}
use Rattle.cpog_defs.specs.Orders.{Order, IsOrderOf}
use Rattle.cpog_defs.specs.Encodings.{Encodes, HasEncoding}
use Rattle.clause_arena.specs.Clauses.{HaveNoSolution}
use Rattle.gate_core.specs.Bounds.{IsLowerBound}
use Rattle.gate_core.proofs.CodesLemmas.{given_bits_may_be_left}
use Rattle.cpog_merge.specs.Columns.{Columns, count_of, AreColumnsOf}
use Rattle.cpog_merge.specs.Classes.{Classes, AreClassesOf}
use Rattle.gate_template.specs.declared.types.Template.{Template}
use Rattle.gate_template.specs.declared.types.Template.TheVariants.{First, Second, Third}
use Rattle.gate_template.specs.Templates.{template, kept_patterns, ArePatterns}
use Rattle.gate_template.proofs.FromEncodingLemmas.{satisfied_by}

-- an encoding that keeps all given bits keeps those that a template keeps
module _ (orders : List Order) (patterns : List (List Bit3)) (bits cost : ℕ) (one_each : length patterns ≡ length orders) (has : HasEncoding (count_of orders) orders patterns bits cost) where
  left_open : HasEncoding (count_of orders) orders (open_patterns (length patterns)) bits cost
  left_open = record {
    encoding = has.encoding;
    encodes = subst (λ n. Encodes (count_of orders) orders (open_patterns n) bits has.encoding) (sym one_each)
        (given_bits_may_be_left (count_of orders) bits orders patterns has.encoding has.encodes);
    cost_is = has.cost_is;
  }

  kept : (kind : Template) → HasEncoding (count_of orders) orders (kept_patterns kind patterns) bits cost
  kept First = left_open
  kept Second = left_open
  kept Third = has

pub refuted_bounds : (kind : Template) (orders : List Order) (patterns : List (List Bit3)) (t : Columns) (list : Classes) (bits gates : ℕ) →
    All (IsOrderOf (count_of orders)) orders → AreColumnsOf orders t → AreClassesOf t list → 1 ≤ length orders → 2 ≤ bits → ArePatterns bits (length orders) patterns →
    HaveNoSolution (template kind patterns bits gates list.columns) → IsLowerBound (count_of orders) orders patterns bits (gates + 1)
refuted_bounds kind orders patterns t list bits gates alike are classes some two ps none cost low has =
    let s = satisfied_by kind orders patterns t list bits gates alike are classes some two ps
    (record { cost = cost; within = omega (arith, low); encoding = kept orders patterns bits cost ps.one_each has kind }) in
    none s.0 s.1
