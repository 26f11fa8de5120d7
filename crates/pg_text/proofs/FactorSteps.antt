-- A factor is told by its first token.
use Rattle.std.specs.Prelude.{◌≡◌, ◌≤◌, ◌-◌, ℕ, List, [], ◌∷◌, ◌++◌, Bool, refl}
use Rattle.std.proofs.Common.{◌∙◌, ap, subst, arith}
use Rattle.pg_algebra.specs.declared.cond.Cond.{Cond, Bit, Param}
use Rattle.pg_algebra.specs.declared.cond.Cond.TheViews as cond
use Rattle.pg_text.specs.declared.fault.LineFault.{LineFault}
use Rattle.pg_text.specs.declared.fault.LineFault.TheVariants as fault
use Rattle.pg_text.specs.declared.sign.Sign.TheVariants as signs
use Rattle.pg_text.specs.declared.sign.Fixed.TheVariants as words
use Rattle.pg_text.specs.Tokens.{Token, name, word, sign, bit_word, BeginsWith}
use Rattle.pg_text.specs.Faults.{IsDue}
use Rattle.pg_text.specs.Grammar.{Side, condition, graph, sum, factor, row, Phrase, named, group, bit, negated, empty, reference, under, tokens, Tree, tree, join}
use Rattle.pg_text.specs.Reading.{Lacks, IsAtFront, Reads, ReadsNone}
use Rattle.pg_text.proofs.TokenLaws.{same_token}
use Rattle.pg_text.proofs.PhraseLaws.{both_begin, parts_begin, after_token, same_phrase, stops_at_close, name_no_sign, bit_no_sign, empty_no_sign, open_no_not, open_no_at, open_no_square}

pub no_first : (t u : Token) (bytes after next : List ℕ) → (t ≡ u → ⊥) → BeginsWith bytes t next → BeginsWith bytes u after → ⊥
no_first t u bytes after next differ h k = differ (same_token bytes t u next after h k).0

-- ---- a factor in parentheses

-- after `(` a phrase stands, and then `)`
pub record IsGroup (s : Side) (room : ℕ) (after rest : List ℕ) : Type 0 where
  pub deep : 1 ≤ room
  pub inside : Phrase s (row sum)
  pub middle : List ℕ
  pub front : IsAtFront (room - 1) after inside middle
  pub close : BeginsWith middle (sign signs.Close) rest

is_group : (s : Side) (room : ℕ) (bytes after rest : List ℕ) (p : Phrase s factor) → BeginsWith bytes (sign signs.Open) after → IsAtFront room bytes p rest → IsGroup s room after rest
is_group s room bytes after rest (named w) h k = absurd (no_first (name w) (sign signs.Open) bytes after k.spelled.0 (name_no_sign w signs.Open) k.spelled.1 h)
is_group s room bytes after rest (group x) h k =
    let m = after_token bytes (sign signs.Open) k.spelled.0 after (tokens x ++ sign signs.Close ∷ []) rest k.spelled.1 h k.spelled.2 in
    let p = parts_begin (tokens x) (sign signs.Close ∷ []) after rest m in
    record { deep = k.within.0; inside = x; middle = p.0; front = record { spelled = p.1; within = k.within.1; stops = stops_at_close s (row sum) p.0 p.2.0 p.2.1 }; close = subst (λ r. BeginsWith p.0 (sign signs.Close) r) p.2.2 p.2.1 }
is_group s room bytes after rest (bit b) h k = absurd (no_first (bit_word b) (sign signs.Open) bytes after k.spelled.0 (bit_no_sign b signs.Open) k.spelled.1 h)
is_group s room bytes after rest (negated x) h k = absurd (no_first (sign signs.Open) (sign signs.Not) bytes k.spelled.0 after open_no_not h k.spelled.1)
is_group s room bytes after rest empty h k = absurd (no_first (word words.Empty) (sign signs.Open) bytes after k.spelled.0 (empty_no_sign signs.Open) k.spelled.1 h)
is_group s room bytes after rest (reference w) h k = absurd (no_first (sign signs.Open) (sign signs.At) bytes k.spelled.0 after open_no_at h k.spelled.1)
is_group s room bytes after rest (under c x) h k = absurd (no_first (sign signs.Open) (sign signs.OpenSquare) bytes k.spelled.0 after open_no_square h k.spelled.1)

module _ (s : Side) (room : ℕ) (bytes after : List ℕ) (opens : BeginsWith bytes (sign signs.Open) after) where
  pub group_too_deep : room ≡ 0 → ReadsNone s factor room bytes
  group_too_deep none p rest h = let d = (is_group s room bytes after rest p opens h).deep in omega arith

  pub no_inside : (e : LineFault) → IsDue (ReadsNone s (row sum) (room - 1) after) e → IsDue (ReadsNone s factor room bytes) e
  no_inside fault.Memory h = tt
  no_inside fault.Bad h = λ p rest k. let g = is_group s room bytes after rest p opens k in h g.inside g.middle g.front

  module _ (names names_new : List (List ℕ)) (e : Tree s) (left : List ℕ) (inside : Reads s (row sum) (room - 1) names after e names_new left) where
    pub no_close : Lacks (sign signs.Close) left → ReadsNone s factor room bytes
    no_close none p rest h =
        let g = is_group s room bytes after rest p opens h in
        let same = same_phrase g.inside inside.phrase after g.middle left g.front.spelled inside.front.spelled g.front.stops inside.front.stops in
        none rest (subst (λ m. BeginsWith m (sign signs.Close) rest) same.1 g.close)

    pub group_read : (rest : List ℕ) → 1 ≤ room → BeginsWith left (sign signs.Close) rest → Reads s factor room names bytes e names_new rest
    group_read rest deep closes = record {
      phrase = group inside.phrase;
      front = record { spelled = (after, opens, both_begin (tokens inside.phrase) (sign signs.Close ∷ []) after left rest inside.front.spelled (rest, closes, refl)); within = (deep, inside.front.within); stops = tt };
      means = inside.means ∙ stands_for_itself s (tree names inside.phrase);
      named = inside.named;
    }
      where
        stands_for_itself : (s : Side) (t : Tree s) → t ≡ join s factor (t ∷ [])
        stands_for_itself condition t = refl
        stands_for_itself graph t = refl

-- ---- a negation

record IsNegation (room : ℕ) (after rest : List ℕ) : Type 0 where
  pub deep : 1 ≤ room
  pub operand : Phrase condition factor
  pub front : IsAtFront (room - 1) after operand rest

is_negation : (room : ℕ) (bytes after rest : List ℕ) (p : Phrase condition factor) → BeginsWith bytes (sign signs.Not) after → IsAtFront room bytes p rest → IsNegation room after rest
is_negation room bytes after rest (named w) h k = absurd (no_first (name w) (sign signs.Not) bytes after k.spelled.0 (name_no_sign w signs.Not) k.spelled.1 h)
is_negation room bytes after rest (group x) h k = absurd (no_first (sign signs.Open) (sign signs.Not) bytes after k.spelled.0 open_no_not k.spelled.1 h)
is_negation room bytes after rest (bit b) h k = absurd (no_first (bit_word b) (sign signs.Not) bytes after k.spelled.0 (bit_no_sign b signs.Not) k.spelled.1 h)
is_negation room bytes after rest (negated x) h k =
    record { deep = k.within.0; operand = x; front = record { spelled = after_token bytes (sign signs.Not) k.spelled.0 after (tokens x) rest k.spelled.1 h k.spelled.2; within = k.within.1; stops = tt } }

module _ (room : ℕ) (bytes after : List ℕ) (opens : BeginsWith bytes (sign signs.Not) after) where
  pub negation_too_deep : room ≡ 0 → ReadsNone condition factor room bytes
  negation_too_deep none p rest h = let d = (is_negation room bytes after rest p opens h).deep in omega arith

  pub no_operand : (e : LineFault) → IsDue (ReadsNone condition factor (room - 1) after) e → IsDue (ReadsNone condition factor room bytes) e
  no_operand fault.Memory h = tt
  no_operand fault.Bad h = λ p rest k. let g = is_negation room bytes after rest p opens k in h g.operand rest g.front

  pub negation_read : (e : Cond) (rest : List ℕ) → 1 ≤ room → Reads condition factor (room - 1) [] after e [] rest → Reads condition factor room [] bytes (cond.Not e) [] rest
  negation_read e rest deep h = record {
    phrase = negated h.phrase;
    front = record { spelled = (after, opens, h.front.spelled); within = (deep, h.front.within); stops = tt };
    means = ap cond.Not h.means;
    named = refl;
  }

-- ---- a parameter, a bit, or nothing

pub parameter_read : (room : ℕ) (bytes rest w v : List ℕ) → BeginsWith bytes (name w) rest → v ≡ w → Reads condition factor room [] bytes (Param v) [] rest
parameter_read room bytes rest w v h is = record { phrase = named w; front = record { spelled = (rest, h, refl); within = tt; stops = tt }; means = ap Param is; named = refl }

pub bit_read : (room : ℕ) (bytes rest : List ℕ) (b : Bool) → BeginsWith bytes (bit_word b) rest → Reads condition factor room [] bytes (Bit b) [] rest
bit_read room bytes rest b h = record { phrase = bit b; front = record { spelled = (rest, h, refl); within = tt; stops = tt }; means = refl; named = refl }

pub no_condition : (room : ℕ) (bytes : List ℕ) → ((w rest : List ℕ) → BeginsWith bytes (name w) rest → ⊥) → ((b : Bool) (rest : List ℕ) → BeginsWith bytes (bit_word b) rest → ⊥)
    → Lacks (sign signs.Not) bytes → Lacks (sign signs.Open) bytes → ReadsNone condition factor room bytes
no_condition room bytes no_name no_bit no_not no_open (named w) rest h = no_name w h.spelled.0 h.spelled.1
no_condition room bytes no_name no_bit no_not no_open (group x) rest h = no_open h.spelled.0 h.spelled.1
no_condition room bytes no_name no_bit no_not no_open (bit b) rest h = no_bit b h.spelled.0 h.spelled.1
no_condition room bytes no_name no_bit no_not no_open (negated x) rest h = no_not h.spelled.0 h.spelled.1
