-- What the scenarios of a file are encoded from.
use Rattle.std.specs.Prelude.{◌≡◌, ◌≤◌, ◌^◌, length}
use Rattle.cpog_base.specs.declared.limits.TheConstants.{BIT_LIMIT, SCENARIO_LIMIT}
use Rattle.pg_text.specs.Contents.{Contents}
use Rattle.graph_answers.specs.declared.encodable.Encodable.{Encodable}
use Rattle.graph_answers.specs.declared.encodable.CodeLength.{CodeLength}
use Rattle.graph_answers.specs.Bits.{IsBits}
use Rattle.pg_normal.specs.Denoting.{scenario_names_of}
use Rattle.graph_answers.specs.Ordered.{AreOrdersIn}
use Rattle.scenario_check.specs.Equals.{AreDifferent}

-- the file, the names and orders of its scenarios, 1 to 64 of which no two are equal, and 1 to 8 bits that have a code for each
pub record IsEncodable (asked : CodeLength) (f : Contents) (e : Encodable) : Type 0 where
  pub file : e.file ≡ f
  pub names : e.names ≡ scenario_names_of f
  pub some : 1 ≤ length e.orders.items
  pub few : length e.orders.items ≤ SCENARIO_LIMIT
  pub orders : AreOrdersIn f e.orders.items
  pub different : AreDifferent e.orders.items
  pub bits : IsBits asked (length e.orders.items) e.bits
  pub some_bit : 1 ≤ e.bits
  pub least : asked.least ≤ e.bits
  pub few_bits : e.bits ≤ BIT_LIMIT
  pub enough : length e.orders.items ≤ 2 ^ e.bits
