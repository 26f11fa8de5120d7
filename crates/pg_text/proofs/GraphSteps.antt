-- A factor of a graph that begins with `@` or `[`, a name, or nothing.
use Rattle.std.specs.Prelude.{◌≡◌, ◌≤◌, ◌-◌, ℕ, List, [], ◌∷◌, ◌++◌, refl}
use Rattle.std.proofs.Common.{ap, ap₂, subst, arith}
use Rattle.std.specs.List.{position_or_len}
use Rattle.std.specs.Str.{bytes_eq}
use Rattle.cpog_base.specs.Names.{with_text}
use Rattle.pg_algebra.specs.declared.cond.Cond.{Cond}
use Rattle.pg_algebra.specs.declared.expr.Expr.{Expr, Empty, Op, Graph}
use Rattle.pg_algebra.specs.declared.expr.Expr.TheViews as expr
use Rattle.pg_text.specs.declared.fault.LineFault.{LineFault}
use Rattle.pg_text.specs.declared.fault.LineFault.TheVariants as fault
use Rattle.pg_text.specs.declared.sign.Sign.TheVariants as signs
use Rattle.pg_text.specs.declared.sign.Fixed.TheVariants as words
use Rattle.pg_text.specs.Tokens.{name, word, sign, BeginsWith}
use Rattle.pg_text.specs.Faults.{IsDue}
use Rattle.pg_text.specs.Grammar.{condition, graph, sum, factor, row, Phrase, named, group, empty, reference, under, tokens}
use Rattle.pg_text.specs.Reading.{Lacks, IsAtFront, Reads, ReadsNone}
use Rattle.pg_text.proofs.TokenLaws.{same_token}
use Rattle.pg_text.proofs.PhraseLaws.{both_begin, parts_begin, after_token, same_phrase, stops_at_square, name_no_sign, empty_no_sign, open_no_at, open_no_square, at_no_square}
use Rattle.pg_text.proofs.FactorSteps.{no_first}

-- ---- a reference

is_reference : (room : ℕ) (bytes after rest : List ℕ) (p : Phrase graph factor) → BeginsWith bytes (sign signs.At) after → IsAtFront room bytes p rest → (w : List ℕ) × BeginsWith after (name w) rest
is_reference room bytes after rest (named w) h k = absurd (no_first (name w) (sign signs.At) bytes after k.spelled.0 (name_no_sign w signs.At) k.spelled.1 h)
is_reference room bytes after rest (group x) h k = absurd (no_first (sign signs.Open) (sign signs.At) bytes after k.spelled.0 open_no_at k.spelled.1 h)
is_reference room bytes after rest empty h k = absurd (no_first (word words.Empty) (sign signs.At) bytes after k.spelled.0 (empty_no_sign signs.At) k.spelled.1 h)
is_reference room bytes after rest (reference w) h k =
    let m = after_token bytes (sign signs.At) k.spelled.0 after (name w ∷ []) rest k.spelled.1 h k.spelled.2 in
    (w, subst (λ r. BeginsWith after (name w) r) m.2 m.1)
is_reference room bytes after rest (under c x) h k = absurd (no_first (sign signs.At) (sign signs.OpenSquare) bytes k.spelled.0 after at_no_square h k.spelled.1)

pub no_reference : (bytes after : List ℕ) → BeginsWith bytes (sign signs.At) after → ((w rest : List ℕ) → BeginsWith after (name w) rest → ⊥) → (room : ℕ) → ReadsNone graph factor room bytes
no_reference bytes after at none room p rest h = let r = is_reference room bytes after rest p at h in none r.0 rest r.1

pub reference_read : (bytes after rest w v : List ℕ) → BeginsWith bytes (sign signs.At) after → BeginsWith after (name w) rest → v ≡ w → (room : ℕ) (names : List (List ℕ)) → Reads graph factor room names bytes (Graph v) names rest
reference_read bytes after rest w v at h is room names = record {
  phrase = reference w;
  front = record { spelled = (after, at, (rest, h, refl)); within = tt; stops = tt };
  means = ap Graph is;
  named = refl;
}

pub at_each : (room : ℕ) (bytes : List ℕ) (e : LineFault) → IsDue ((room : ℕ) → ReadsNone graph factor room bytes) e → IsDue (ReadsNone graph factor room bytes) e
at_each room bytes fault.Memory h = tt
at_each room bytes fault.Bad h = h room

-- ---- a condition and what it governs

pub record IsGuard (room : ℕ) (after rest : List ℕ) : Type 0 where
  pub deep : 1 ≤ room
  pub guard : Phrase condition (row sum)
  pub governed : Phrase graph factor
  pub middle : List ℕ
  pub next : List ℕ
  pub front : IsAtFront (room - 1) after guard middle
  pub close : BeginsWith middle (sign signs.CloseSquare) next
  pub last : IsAtFront (room - 1) next governed rest

is_guard : (room : ℕ) (bytes after rest : List ℕ) (p : Phrase graph factor) → BeginsWith bytes (sign signs.OpenSquare) after → IsAtFront room bytes p rest → IsGuard room after rest
is_guard room bytes after rest (named w) h k = absurd (no_first (name w) (sign signs.OpenSquare) bytes after k.spelled.0 (name_no_sign w signs.OpenSquare) k.spelled.1 h)
is_guard room bytes after rest (group x) h k = absurd (no_first (sign signs.Open) (sign signs.OpenSquare) bytes after k.spelled.0 open_no_square k.spelled.1 h)
is_guard room bytes after rest empty h k = absurd (no_first (word words.Empty) (sign signs.OpenSquare) bytes after k.spelled.0 (empty_no_sign signs.OpenSquare) k.spelled.1 h)
is_guard room bytes after rest (reference w) h k = absurd (no_first (sign signs.At) (sign signs.OpenSquare) bytes after k.spelled.0 at_no_square k.spelled.1 h)
is_guard room bytes after rest (under c x) h k =
    let m = after_token bytes (sign signs.OpenSquare) k.spelled.0 after (tokens c ++ sign signs.CloseSquare ∷ tokens x) rest k.spelled.1 h k.spelled.2 in
    let p = parts_begin (tokens c) (sign signs.CloseSquare ∷ tokens x) after rest m in
    record {
      deep = k.within.0;
      guard = c;
      governed = x;
      middle = p.0;
      next = p.2.0;
      front = record { spelled = p.1; within = k.within.1; stops = stops_at_square condition (row sum) p.0 p.2.0 p.2.1 };
      close = p.2.1;
      last = record { spelled = p.2.2; within = k.within.2; stops = tt };
    }

module _ (room : ℕ) (bytes after : List ℕ) (opens : BeginsWith bytes (sign signs.OpenSquare) after) where
  pub guard_too_deep : room ≡ 0 → ReadsNone graph factor room bytes
  guard_too_deep none p rest h = let d = (is_guard room bytes after rest p opens h).deep in omega arith

  pub no_guard : (e : LineFault) → IsDue (ReadsNone condition (row sum) (room - 1) after) e → IsDue (ReadsNone graph factor room bytes) e
  no_guard fault.Memory h = tt
  no_guard fault.Bad h = λ p rest k. let g = is_guard room bytes after rest p opens k in h g.guard g.middle g.front

  module _ (c : Cond) (left : List ℕ) (guard : Reads condition (row sum) (room - 1) [] after c [] left) where
    pub no_square : Lacks (sign signs.CloseSquare) left → ReadsNone graph factor room bytes
    no_square none p rest h =
        let g = is_guard room bytes after rest p opens h in
        let same = same_phrase g.guard guard.phrase after g.middle left g.front.spelled guard.front.spelled g.front.stops guard.front.stops in
        none g.next (subst (λ m. BeginsWith m (sign signs.CloseSquare) g.next) same.1 g.close)

    module _ (next : List ℕ) (closes : BeginsWith left (sign signs.CloseSquare) next) where
      pub no_governed : (e : LineFault) → IsDue (ReadsNone graph factor (room - 1) next) e → IsDue (ReadsNone graph factor room bytes) e
      no_governed fault.Memory h = tt
      no_governed fault.Bad h = λ p rest k.
          let g = is_guard room bytes after rest p opens k in
          let same = same_phrase g.guard guard.phrase after g.middle left g.front.spelled guard.front.spelled g.front.stops guard.front.stops in
          let there = same_token left (sign signs.CloseSquare) (sign signs.CloseSquare) g.next next (subst (λ m. BeginsWith m (sign signs.CloseSquare) g.next) same.1 g.close) closes in
          h g.governed rest (subst (λ n. IsAtFront (room - 1) n g.governed rest) there.1 g.last)

      pub guard_read : (names names_new : List (List ℕ)) (e : Expr) (rest : List ℕ) → 1 ≤ room → Reads graph factor (room - 1) names next e names_new rest → Reads graph factor room names bytes (expr.When c e) names_new rest
      guard_read names names_new e rest deep h = record {
        phrase = under guard.phrase h.phrase;
        front = record {
          spelled = (after, opens, both_begin (tokens guard.phrase) (sign signs.CloseSquare ∷ tokens h.phrase) after left rest guard.front.spelled (next, closes, h.front.spelled));
          within = (deep, guard.front.within, h.front.within);
          stops = tt;
        };
        means = ap₂ expr.When guard.means h.means;
        named = h.named;
      }

-- ---- an operation, the empty graph, or nothing

pub operation_read : (room : ℕ) (names names_new : List (List ℕ)) (bytes rest w : List ℕ) (n : ℕ) → BeginsWith bytes (name w) rest → n ≡ position_or_len (bytes_eq w) (with_text names w) → names_new ≡ with_text names w
    → Reads graph factor room names bytes (Op n) names_new rest
operation_read room names names_new bytes rest w n h is more = record { phrase = named w; front = record { spelled = (rest, h, refl); within = tt; stops = tt }; means = ap Op is; named = more }

pub empty_read : (room : ℕ) (names : List (List ℕ)) (bytes rest : List ℕ) → BeginsWith bytes (word words.Empty) rest → Reads graph factor room names bytes Empty names rest
empty_read room names bytes rest h = record { phrase = empty; front = record { spelled = (rest, h, refl); within = tt; stops = tt }; means = refl; named = refl }

pub no_graph : (room : ℕ) (bytes : List ℕ) → ((w rest : List ℕ) → BeginsWith bytes (name w) rest → ⊥) → Lacks (word words.Empty) bytes → Lacks (sign signs.At) bytes → Lacks (sign signs.Open) bytes → Lacks (sign signs.OpenSquare) bytes
    → ReadsNone graph factor room bytes
no_graph room bytes no_name no_empty no_at no_open no_square (named w) rest h = no_name w h.spelled.0 h.spelled.1
no_graph room bytes no_name no_empty no_at no_open no_square (group x) rest h = no_open h.spelled.0 h.spelled.1
no_graph room bytes no_name no_empty no_at no_open no_square empty rest h = no_empty h.spelled.0 h.spelled.1
no_graph room bytes no_name no_empty no_at no_open no_square (reference w) rest h = no_at h.spelled.0 h.spelled.1
no_graph room bytes no_name no_empty no_at no_open no_square (under c x) rest h = no_square h.spelled.0 h.spelled.1
