-- The templates: the clauses that a list of codes, gates and references of classes satisfies.
use Rattle.std.specs.Prelude.{◌≡◌, ℕ, List, [], ◌++◌, length}
use Rattle.std.specs.List.{All}
use Rattle.cpog_defs.specs.declared.types.Bit3.{Bit3}
use Rattle.cpog_defs.specs.Codes.{open_patterns}
use Rattle.clause_arena.specs.Clauses.{Clause}
use Rattle.gate_template.specs.declared.types.Shape.{Shape}
use Rattle.gate_template.specs.declared.types.Template.{Template}
use Rattle.gate_template.specs.declared.types.Template.TheVariants.{First, Second, Third}
use Rattle.gate_template.specs.Families.{NamedLiteral, as_clauses, code_clauses, gate_clauses, class_clauses, given_clauses, all_zero_clauses, zero_clauses}

-- a template of these patterns, one for each scenario, over so many bits, gates and these columns of classes
abbrev pub shape_of : List (List Bit3) → ℕ → ℕ → List (List Bit3) → Shape
shape_of patterns bits gates columns = record {
  scenarios = length patterns;
  bits = bits;
  gates = gates;
  classes = length columns;
}

-- what each template adds to the first
abbrev pub further_clauses : Template → Shape → List (List Bit3) → List (List NamedLiteral)
further_clauses First z patterns = []
further_clauses Second z patterns = all_zero_clauses z
further_clauses Third z patterns = given_clauses z patterns ++ zero_clauses z patterns

-- the clauses of a template by name: distinct codes, gates, classes, and what it adds to the first
abbrev pub named_template : Template → Shape → List (List Bit3) → List (List Bit3) → List (List NamedLiteral)
named_template kind z patterns columns =
    code_clauses z ++ (gate_clauses z ++ (class_clauses z columns ++ further_clauses kind z patterns))

-- the clauses of a template, in order
abbrev pub template : Template → List (List Bit3) → ℕ → ℕ → List (List Bit3) → List Clause
template kind patterns bits gates columns =
    let z = shape_of patterns bits gates columns in as_clauses z (named_template kind z patterns columns)

-- the given bits that a template keeps: all, or none
abbrev pub kept_patterns : Template → List (List Bit3) → List (List Bit3)
kept_patterns First patterns = open_patterns (length patterns)
kept_patterns Second patterns = open_patterns (length patterns)
kept_patterns Third patterns = patterns

-- a pattern of so many bits for each of n scenarios
pub record ArePatterns (bits n : ℕ) (patterns : List (List Bit3)) : Type 0 where
  pub one_each : length patterns ≡ n
  pub lengths : All (λ pattern. length pattern ≡ bits) patterns
