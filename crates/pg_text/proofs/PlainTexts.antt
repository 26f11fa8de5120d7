-- The text of a tree is the text of the phrase that has no needless parentheses.
use Rattle.std.specs.Prelude.{◌≡◌, refl, ℕ, Bool, true, false, cond, List, [], ◌∷◌, ◌++◌, map, codes, Some, None}
use Rattle.std.proofs.Common.{ap, ap₂, sym, ◌∙◌, append_assoc, append-nil, get_or, inl, inr}
use Rattle.std.specs.List.{position_or_len}
use Rattle.std.specs.Str.{bytes_eq}
use Rattle.std.proofs.lemmas.Bool.{cases_Bool}
use Rattle.std.proofs.lemmas.List.{get_or_append_left}
use Rattle.std.proofs.lemmas.List.Quantifiers.{position-Some}
use Rattle.std.proofs.lemmas.Slice.Eq.{bytes_eq-Decides}
use Rattle.cpog_base.specs.Names.{has_text, with_text}
use Rattle.cpog_base.proofs.NamesLemmas.{place-with_text}
use Rattle.pg_text.specs.declared.position.Position.{Position}
use Rattle.pg_text.specs.declared.position.Position.TheVariants as position
use Rattle.pg_text.specs.Grammar.{Side, condition, graph, Row, product, sum, Level, factor, row, member, Phrase, single, joined, named, group, bit, negated, empty, reference, under, names_after, Tree, join, members, tree}
use Rattle.pg_text.specs.Writing.{placed, bit_text, cond_text, expr_text, rest_text, row_text}
use Rattle.pg_text.proofs.RowTexts.{text-Not, text-And, text-Or, text-When, text-Overlay, text-Sequence}
use Rattle.pg_text.proofs.PlainPhrases.{as_row, as_factor, fit, natural, rows, one}

-- ---- lists of names that go on

abbrev pub Extends : List (List ℕ) → List (List ℕ) → Type 0
Extends names final = (more : List (List ℕ)) × (final ≡ names ++ more)

pub extends-more : (a b c : List (List ℕ)) → Extends a b → Extends b c → Extends a c
extends-more a b c h k = (h.0 ++ k.0, k.1 ∙ ap (λ x. x ++ k.0) h.1 ∙ append_assoc a h.0 k.0)

pub extends-self : (a : List (List ℕ)) → Extends a a
extends-self a = ([], sym (append-nil a))

extends-with_text : (names : List (List ℕ)) (w : List ℕ) → Extends names (with_text names w)
extends-with_text names w = elim (cases_Bool (has_text names w)) [
  | inl there ↦ rw there (extends-self names)
  | inr new ↦ rw new (w ∷ [], refl)
]

pub extends-names : {s : Side} {l : Level} (names : List (List ℕ)) (p : Phrase s l) → Extends names (names_after names p)
extends-names names (single r x) = extends-names names x
extends-names names (joined r x y) =
    extends-more names (names_after names x) (names_after (names_after names x) y) (extends-names names x) (extends-names (names_after names x) y)
extends-names names (named {s = condition} w) = extends-self names
extends-names names (named {s = graph} w) = extends-with_text names w
extends-names names (group x) = extends-names names x
extends-names names (bit b) = extends-self names
extends-names names (negated x) = extends-self names
extends-names names empty = extends-self names
extends-names names (reference w) = extends-self names
extends-names names (under c x) = extends-names names x

some_is : (b : Bool) (a i : ℕ) → cond b (Some a) None ≡ Some i → a ≡ i
some_is true a i e = cc
some_is false a i e = cc

-- the number of an operation stands for its name in every list that goes on from there
pub name_at_place : (names final : List (List ℕ)) (w : List ℕ) → Extends (with_text names w) final → get_or final (position_or_len (bytes_eq w) (with_text names w)) [] ≡ w
name_at_place names final w (more, is) =
    let there = place-with_text names w in
    let same : position_or_len (bytes_eq w) (with_text names w) ≡ position_or_len (bytes_eq w) names = some_is _ (position_or_len (bytes_eq w) (with_text names w)) (position_or_len (bytes_eq w) names) there in
    let at = position-Some (bytes_eq w) (with_text names w) (position_or_len (bytes_eq w) names) [] there in
    ap₂ (λ f n. get_or f n []) is same ∙ get_or_append_left (with_text names w) more [] (position_or_len (bytes_eq w) names) at.0
    ∙ sym ((bytes_eq-Decides w (get_or (with_text names w) (position_or_len (bytes_eq w) names) [])).0 at.1)

-- ---- the text of a phrase

abbrev pub joint_text : Side → Row → List ℕ
joint_text condition product = codes " & "
joint_text condition sum = codes " | "
joint_text graph product = codes " -> "
joint_text graph sum = codes " + "

abbrev pub written : {s : Side} {l : Level} → Phrase s l → List ℕ
written (single r x) = written x
written (joined {s} r x y) = written x ++ (joint_text s r ++ written y)
written (named w) = w
written (group x) = codes "(" ++ (written x ++ codes ")")
written (bit b) = bit_text b
written (negated x) = codes "!" ++ written x
written empty = codes "empty"
written (reference w) = codes "@" ++ w
written (under c x) = codes "[" ++ (written c ++ (codes "] " ++ written x))

abbrev pub position_of : Level → Position
position_of factor = position.Factor
position_of (row product) = position.Product
position_of (row sum) = position.Sum

abbrev pub tree_text : (s : Side) → List (List ℕ) → Position → Tree s → List ℕ
tree_text condition final p c = cond_text p c
tree_text graph final p e = expr_text final p e

written-factor : {s : Side} (l : Level) (x : Phrase s factor) → written (fit l (as_factor x)) ≡ written x
written-factor factor x = refl
written-factor (row product) x = refl
written-factor (row sum) x = refl

written-row : {s : Side} (l : Level) (r : Row) (p : Phrase s (row r)) → written (fit l (as_row r p)) ≡ placed (position_of l) r (written p)
written-row factor product p = refl
written-row factor sum p = refl
written-row (row product) product p = sym (append-nil (written p))
written-row (row product) sum p = refl
written-row (row sum) product p = sym (append-nil (written p))
written-row (row sum) sum p = sym (append-nil (written p))

-- ---- rows of trees

text-join : (s : Side) (r : Row) (final : List (List ℕ)) (p : Position) (t u : Tree s) (us : List (Tree s))
    → tree_text s final p (join s (row r) (t ∷ (u ∷ us))) ≡ placed p r (row_text (joint_text s r) (map (tree_text s final (position_of (member r))) (t ∷ (u ∷ us))))
text-join condition product final p t u us = text-And p (t ∷ (u ∷ us))
text-join condition sum final p t u us = text-Or p (t ∷ (u ∷ us))
text-join graph product final p t u us = text-Sequence final p (t ∷ (u ∷ us))
text-join graph sum final p t u us = text-Overlay final p (t ∷ (u ∷ us))

-- a row has a first member
text-joined : {s : Side} (r : Row) (names final : List (List ℕ)) (p : Position) (t : Tree s) (y : Phrase s (row r))
    → tree_text s final p (join s (row r) (t ∷ members names y)) ≡ placed p r (row_text (joint_text s r) (map (tree_text s final (position_of (member r))) (t ∷ members names y)))
text-joined {s} r names final p t (single _ x) = text-join s r final p t (join s (member r) (members names x)) []
text-joined {s} r names final p t (joined _ x y) = text-join s r final p t (join s (member r) (members names x)) (members (names_after names x) y)

rest-row : {s : Side} (r : Row) (names : List (List ℕ)) (f : Tree s → List ℕ) (sign : List ℕ) (y : Phrase s (row r)) → rest_text sign (map f (members names y)) ≡ sign ++ row_text sign (map f (members names y))
rest-row r names f sign (single _ x) = refl
rest-row r names f sign (joined _ x y) = refl

-- ---- the text of a tree

mutual
  pub written-plain : {s : Side} {k : Level} (final names : List (List ℕ)) (l : Level) (p : Phrase s k) → Extends (names_after names p) final → written (fit l (natural p)) ≡ tree_text s final (position_of l) (tree names p)
  written-plain final names l (single {s} r x) h = written-plain final names l x h ∙ ap (tree_text s final (position_of l)) (sym (one s (row r) (tree names x)))
  written-plain final names l (joined {s} r x y) h =
      written-row l r (joined r (fit (member r) (natural x)) (rows y))
      ∙ ap (placed (position_of l) r) (
      ap₂ (λ a b. a ++ (joint_text s r ++ b)) (written-plain final names (member r) x (extends-more (names_after names x) (names_after (names_after names x) y) final (extends-names (names_after names x) y) h)) (written-rows final (names_after names x) r y h)
      ∙ ap (λ b. tree_text s final (position_of (member r)) (tree names x) ++ b) (sym (rest-row r (names_after names x) (tree_text s final (position_of (member r))) (joint_text s r) y))
      )
      ∙ sym (text-joined r (names_after names x) final (position_of l) (tree names x) y)
  written-plain final names l (named {s = condition} w) h = written-factor l (named w)
  written-plain final names l (named {s = graph} w) h = written-factor l (named w) ∙ sym (name_at_place names final w h)
  written-plain final names l (group {s} x) h = written-plain final names l x h ∙ ap (tree_text s final (position_of l)) (sym (one s factor (tree names x)))
  written-plain final names l (bit b) h = written-factor l (bit b)
  written-plain final names l (negated x) h =
      written-factor l (negated (fit factor (natural x))) ∙ ap (λ t. codes "!" ++ t) (written-plain (names_after names x) names factor x (extends-self (names_after names x))) ∙ sym (text-Not (position_of l) (tree names x))
  written-plain final names l empty h = written-factor l empty
  written-plain final names l (reference w) h = written-factor l (reference w)
  written-plain final names l (under c x) h =
      written-factor l (under (fit (row sum) (natural c)) (fit factor (natural x)))
      ∙ ap₂ (λ a b. codes "[" ++ (a ++ (codes "] " ++ b))) (written-plain (names_after [] c) [] (row sum) c (extends-self (names_after [] c))) (written-plain final names factor x h)
      ∙ sym (text-When final (position_of l) (tree [] c) (tree names x))

  written-rows : {s : Side} (final names : List (List ℕ)) (r : Row) (p : Phrase s (row r)) → Extends (names_after names p) final → written (rows p) ≡ row_text (joint_text s r) (map (tree_text s final (position_of (member r))) (members names p))
  written-rows final names r (single _ x) h = written-plain final names (member r) x h ∙ sym (append-nil _)
  written-rows {s} final names r (joined _ x y) h =
      ap₂ (λ a b. a ++ (joint_text s r ++ b)) (written-plain final names (member r) x (extends-more (names_after names x) (names_after (names_after names x) y) final (extends-names (names_after names x) y) h)) (written-rows final (names_after names x) r y h)
      ∙ ap (λ b. tree_text s final (position_of (member r)) (tree names x) ++ b) (sym (rest-row r (names_after names x) (tree_text s final (position_of (member r))) (joint_text s r) y))
