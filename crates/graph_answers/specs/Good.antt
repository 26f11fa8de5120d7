-- Graph texts that a command refuses for no cause.
use Rattle.std.specs.Prelude.{◌≡◌, ◌≢◌, List, [], ℕ, ◌≤◌, ◌^◌, length}
use Rattle.cpog_base.specs.declared.limits.TheConstants.{INPUT_LIMIT, TEMPLATE_LIMIT}
use Rattle.clause_arena.specs.Arenas.{literals}
use Rattle.cpog_merge.specs.Classes.{Classes}
use Rattle.cpog_defs.specs.Orders.{Order}
use Rattle.pg_text.specs.Contents.{Contents}
use Rattle.pg_text.specs.Text.{IsFileOf}
use Rattle.pg_normal.specs.Denoting.{stated_in}
use Rattle.scenario_check.specs.Equals.{AreDifferent}
use Rattle.command_words.specs.declared.words.CnfOptions.{CnfOptions}
use Rattle.graph_answers.specs.declared.encodable.CodeLength.{CodeLength}
use Rattle.graph_answers.specs.Bits.{cnf_length, IsBits}
use Rattle.graph_answers.specs.Formula.{AreClassesIn, open_template}
use Rattle.graph_answers.specs.Ordered.{AreOrdersIn}

-- names are in order; there are scenarios, each bound and with no operation before itself, no two are equal, and there
-- are codes for them
pub record CanBeEncoded (asked : CodeLength) (f : Contents) : Type 0 where
  pub some : stated_in f ≢ []
  pub orders : List Order
  pub of_file : AreOrdersIn f orders
  pub different : AreDifferent orders
  pub bits : ℕ
  pub bits_are : IsBits asked (length orders) bits
  pub enough : length orders ≤ 2 ^ bits

-- the bytes are within the limit and spell a file of which this holds
pub record SpellFile (OfFile : Contents → Type 0) (bytes : List ℕ) : Type 0 where
  pub within : length bytes ≤ INPUT_LIMIT
  pub file : Contents
  pub is_file : IsFileOf bytes file
  pub holds : OfFile file

-- the scenarios can be encoded, and the formula that asks for it isn't too large
pub record CanBeAsked (options : CnfOptions) (f : Contents) : Type 0 where
  pub encoded : CanBeEncoded (cnf_length options) f
  pub few : (scenarios bits : ℕ) (classes : Classes) → AreClassesIn options f scenarios bits classes →
      literals (open_template scenarios bits options.gates classes) ≤ TEMPLATE_LIMIT
