-- The text of a phrase is its tokens.
use Rattle.std.specs.Prelude.{◌≡◌, refl, ℕ, Bool, true, false, not, ◌&&◌, ◌||◌, ◌==◌, List, [], ◌∷◌, ◌++◌, codes}
use Rattle.std.proofs.Common.{ap, sym, ◌∙◌, subst, append_assoc, arith}
use Rattle.std.specs.List.{list_all}
use Rattle.std.proofs.lemmas.Bool.{both_ways, and_parts, and_from}
use Rattle.std.proofs.lemmas.Bool.Decides.{nat_tests}
use Rattle.line_text.specs.Words.{begins_name, continues_name, all_continue, is_free_name}
use Rattle.pg_text.specs.declared.sign.Sign.TheVariants as signs
use Rattle.pg_text.specs.declared.sign.Fixed.{Fixed}
use Rattle.pg_text.specs.declared.sign.Fixed.TheVariants as words
use Rattle.pg_text.specs.Tokens.{Token, name, word, sign, bit_word, sign_text, word_text, is_blank, NoneFirst, StartsWith, BeginsWith, BeginsWithAll}
use Rattle.pg_text.specs.Grammar.{Side, condition, graph, Row, product, sum, Level, joint, Phrase, single, joined, named, group, bit, negated, empty, reference, under, tokens}
use Rattle.pg_text.specs.Writing.{bit_text}
use Rattle.pg_text.proofs.PhraseLaws.{both_begin, parts_begin}
use Rattle.pg_text.proofs.PlainPhrases.{HasNames}
use Rattle.pg_text.proofs.PlainTexts.{written, joint_text}

-- ---- bytes of names

or_left : (a b : Bool) → a ≡ true → (a || b) ≡ true
or_left true b h = refl
or_left false b h = absurd (both_ways false refl h)

each-continue : (w : List ℕ) → all_continue w ≡ true → list_all continues_name w ≡ true
each-continue [] h = refl
each-continue (b ∷ bs) h = and_from (continues_name b) (list_all continues_name bs) (and_parts (continues_name b) (all_continue bs) h).0 (each-continue bs (and_parts (continues_name b) (all_continue bs) h).1)

pub each-name : (w : List ℕ) → is_free_name w ≡ true → list_all continues_name w ≡ true
each-name [] h = refl
each-name (b ∷ bs) h =
    let word = (and_parts _ _ h).0 in
    let tail = (and_parts _ _ (and_parts _ _ word).1).0 in
    and_from (continues_name b) (list_all continues_name bs) (or_left (begins_name b) _ (and_parts _ _ word).0) (each-continue bs tail)

continues-not_blank : (b : ℕ) → continues_name b ≡ true → is_blank b ≡ false
continues-not_blank b h = grind (arith, nat_tests)

-- ---- one token

abbrev pub EndsWord : List ℕ → Type 0
EndsWord rest = NoneFirst continues_name rest

abbrev pub token_text : Token → List ℕ
token_text (name w) = w
token_text (word w) = word_text w
token_text (sign s) = sign_text s

abbrev pub IsSpellable : Token → List ℕ → Type 0
IsSpellable (name w) rest = (is_free_name w ≡ true) × EndsWord rest
IsSpellable (word w) rest = EndsWord rest
IsSpellable (sign s) rest = Unit {0}

name-not_blank : (w rest : List ℕ) → is_free_name w ≡ true → NoneFirst is_blank (w ++ rest)
name-not_blank [] rest h = absurd (both_ways false refl h)
name-not_blank (b ∷ bs) rest h = continues-not_blank b (and_parts (continues_name b) (list_all continues_name bs) (each-name (b ∷ bs) h)).0

not_blank : (t : Token) (rest : List ℕ) → IsSpellable t rest → NoneFirst is_blank (token_text t ++ rest)
not_blank (name w) rest h = name-not_blank w rest h.0
not_blank (word words.Params) rest h = refl
not_blank (word words.Graph) rest h = refl
not_blank (word words.Scenario) rest h = refl
not_blank (word words.With) rest h = refl
not_blank (word words.Empty) rest h = refl
not_blank (word words.Zero) rest h = refl
not_blank (word words.One) rest h = refl
not_blank (sign signs.Open) rest h = refl
not_blank (sign signs.Close) rest h = refl
not_blank (sign signs.OpenSquare) rest h = refl
not_blank (sign signs.CloseSquare) rest h = refl
not_blank (sign signs.Not) rest h = refl
not_blank (sign signs.Or) rest h = refl
not_blank (sign signs.And) rest h = refl
not_blank (sign signs.At) rest h = refl
not_blank (sign signs.Comma) rest h = refl
not_blank (sign signs.Equals) rest h = refl
not_blank (sign signs.Plus) rest h = refl
not_blank (sign signs.Arrow) rest h = refl

each-word : (w : Fixed) → list_all continues_name (word_text w) ≡ true
each-word words.Params = refl
each-word words.Graph = refl
each-word words.Scenario = refl
each-word words.With = refl
each-word words.Empty = refl
each-word words.Zero = refl
each-word words.One = refl

starts_with : (t : Token) (rest : List ℕ) → IsSpellable t rest → StartsWith (token_text t ++ rest) t rest
starts_with (name w) rest h = (h.0, record { whole = refl; each = each-name w h.0; stops = h.1 })
starts_with (word w) rest h = record { whole = refl; each = each-word w; stops = h }
starts_with (sign s) rest h = refl

pub spell : (t : Token) (rest : List ℕ) → IsSpellable t rest → BeginsWith (token_text t ++ rest) t rest
spell t rest h = record { blanks = []; after = token_text t ++ rest; run = record { whole = refl; each = refl; stops = not_blank t rest h }; token = starts_with t rest h }

pub behind_blank : (bytes : List ℕ) (t : Token) (rest : List ℕ) → BeginsWith bytes t rest → BeginsWith (32 ∷ bytes) t rest
behind_blank bytes t rest h = record {
  blanks = 32 ∷ h.blanks;
  after = h.after;
  run = record { whole = ap (λ x. 32 ∷ x) h.run.whole; each = and_from (is_blank 32) (list_all is_blank h.blanks) refl h.run.each; stops = h.run.stops };
  token = h.token;
}

-- ---- a phrase

-- a phrase has a token
pub some_token : {s : Side} {l : Level} (p : Phrase s l) → (t : Token) × (ts : List Token) × (tokens p ≡ t ∷ ts)
some_token (single r x) = some_token x
some_token (joined {s} r x y) = let h = some_token x in (h.0, h.1 ++ sign (joint s r) ∷ tokens y, ap (λ l. l ++ sign (joint s r) ∷ tokens y) h.2)
some_token (named w) = (name w, [], refl)
some_token (group x) = (sign signs.Open, tokens x ++ sign signs.Close ∷ [], refl)
some_token (bit b) = (bit_word b, [], refl)
some_token (negated x) = (sign signs.Not, tokens x, refl)
some_token empty = (word words.Empty, [], refl)
some_token (reference w) = (sign signs.At, name w ∷ [], refl)
some_token (under c x) = (sign signs.OpenSquare, tokens c ++ sign signs.CloseSquare ∷ tokens x, refl)

pub all_behind_blank : (bytes : List ℕ) (us : List Token) (t : Token) (ts : List Token) (rest : List ℕ) → us ≡ t ∷ ts → BeginsWithAll bytes us rest → BeginsWithAll (32 ∷ bytes) us rest
all_behind_blank bytes us t ts rest is h =
    let k = subst (λ l. BeginsWithAll bytes l rest) is h in
    subst (λ l. BeginsWithAll (32 ∷ bytes) l rest) (sym is) (k.0, behind_blank bytes t k.0 k.1, k.2)

joint-ends : (s : Side) (r : Row) (x : List ℕ) → EndsWord (joint_text s r ++ x)
joint-ends condition product x = refl
joint-ends condition sum x = refl
joint-ends graph product x = refl
joint-ends graph sum x = refl

spell-joint : (s : Side) (r : Row) (x : List ℕ) → BeginsWith (joint_text s r ++ x) (sign (joint s r)) (32 ∷ x)
spell-joint condition product x = behind_blank (codes "&" ++ 32 ∷ x) (sign signs.And) (32 ∷ x) (spell (sign signs.And) (32 ∷ x) tt)
spell-joint condition sum x = behind_blank (codes "|" ++ 32 ∷ x) (sign signs.Or) (32 ∷ x) (spell (sign signs.Or) (32 ∷ x) tt)
spell-joint graph product x = behind_blank (codes "->" ++ 32 ∷ x) (sign signs.Arrow) (32 ∷ x) (spell (sign signs.Arrow) (32 ∷ x) tt)
spell-joint graph sum x = behind_blank (codes "+" ++ 32 ∷ x) (sign signs.Plus) (32 ∷ x) (spell (sign signs.Plus) (32 ∷ x) tt)

pub spell-bit : (b : Bool) (rest : List ℕ) → EndsWord rest → BeginsWith (bit_text b ++ rest) (bit_word b) rest
spell-bit true rest h = spell (word words.One) rest h
spell-bit false rest h = spell (word words.Zero) rest h

pub spell-phrase : {s : Side} {l : Level} (p : Phrase s l) (rest : List ℕ) → HasNames p → EndsWord rest → BeginsWithAll (written p ++ rest) (tokens p) rest
spell-phrase (single r x) rest h ends = spell-phrase x rest h ends
spell-phrase (joined {s} r x y) rest h ends =
    let some = some_token y in
    let parts : (written x ++ (joint_text s r ++ written y)) ++ rest ≡ written x ++ (joint_text s r ++ (written y ++ rest)) =
    append_assoc (written x) (joint_text s r ++ written y) rest ∙ ap (λ b. written x ++ b) (append_assoc (joint_text s r) (written y) rest)
    in
    subst (λ b. BeginsWithAll b (tokens x ++ sign (joint s r) ∷ tokens y) rest) (sym parts)
    (both_begin (tokens x) (sign (joint s r) ∷ tokens y) (written x ++ (joint_text s r ++ (written y ++ rest))) (joint_text s r ++ (written y ++ rest)) rest
    (spell-phrase x (joint_text s r ++ (written y ++ rest)) h.0 (joint-ends s r (written y ++ rest)))
    (32 ∷ (written y ++ rest), spell-joint s r (written y ++ rest), all_behind_blank (written y ++ rest) (tokens y) some.0 some.1 rest some.2 (spell-phrase y rest h.1 ends)))
spell-phrase (named w) rest h ends = (rest, spell (name w) rest (h, ends), refl)
spell-phrase (group x) rest h ends =
    let parts : (written x ++ codes ")") ++ rest ≡ written x ++ (41 ∷ rest) = append_assoc (written x) (codes ")") rest in (
      (written x ++ codes ")") ++ rest,
      spell (sign signs.Open) ((written x ++ codes ")") ++ rest) tt,
      subst (λ b. BeginsWithAll b (tokens x ++ sign signs.Close ∷ []) rest) (sym parts)
          (both_begin (tokens x) (sign signs.Close ∷ []) (written x ++ (41 ∷ rest)) (41 ∷ rest) rest (spell-phrase x (41 ∷ rest) h refl) (rest, spell (sign signs.Close) rest tt, refl)),
    )
spell-phrase (bit b) rest h ends = (rest, spell-bit b rest ends, refl)
spell-phrase (negated x) rest h ends = (written x ++ rest, spell (sign signs.Not) (written x ++ rest) tt, spell-phrase x rest h ends)
spell-phrase empty rest h ends = (rest, spell (word words.Empty) rest ends, refl)
spell-phrase (reference w) rest h ends = (w ++ rest, spell (sign signs.At) (w ++ rest) tt, (rest, spell (name w) rest (h, ends), refl))
spell-phrase (under c x) rest h ends =
    let some = some_token x in
    let parts : (written c ++ (codes "] " ++ written x)) ++ rest ≡ written c ++ (93 ∷ (32 ∷ (written x ++ rest))) = append_assoc (written c) (codes "] " ++ written x) rest in (
      (written c ++ (codes "] " ++ written x)) ++ rest,
      spell (sign signs.OpenSquare) ((written c ++ (codes "] " ++ written x)) ++ rest) tt,
      subst (λ b. BeginsWithAll b (tokens c ++ sign signs.CloseSquare ∷ tokens x) rest) (sym parts)
          (both_begin (tokens c) (sign signs.CloseSquare ∷ tokens x) (written c ++ (93 ∷ (32 ∷ (written x ++ rest)))) (93 ∷ (32 ∷ (written x ++ rest))) rest
          (spell-phrase c (93 ∷ (32 ∷ (written x ++ rest))) h.0 refl)
          (32 ∷ (written x ++ rest), spell (sign signs.CloseSquare) (32 ∷ (written x ++ rest)) tt, all_behind_blank (written x ++ rest) (tokens x) some.0 some.1 rest some.2 (spell-phrase x rest h.1 ends))),
    )

-- ---- no line end stands in it

abbrev pub in_line : ℕ → Bool
in_line b = not (b == 10) && not (b == 13)

pub all-append : (p : ℕ → Bool) (xs ys : List ℕ) → list_all p xs ≡ true → list_all p ys ≡ true → list_all p (xs ++ ys) ≡ true
all-append p [] ys h k = k
all-append p (x ∷ xs) ys h k = and_from (p x) (list_all p (xs ++ ys)) (and_parts (p x) (list_all p xs) h).0 (all-append p xs ys (and_parts (p x) (list_all p xs) h).1 k)

continues-in_line : (b : ℕ) → continues_name b ≡ true → in_line b ≡ true
continues-in_line b h = grind (arith, nat_tests)

word-in_line : (w : List ℕ) → list_all continues_name w ≡ true → list_all in_line w ≡ true
word-in_line [] h = refl
word-in_line (b ∷ bs) h =
    and_from (in_line b) (list_all in_line bs) (continues-in_line b (and_parts (continues_name b) (list_all continues_name bs) h).0) (word-in_line bs (and_parts (continues_name b) (list_all continues_name bs) h).1)

pub name-in_line : (w : List ℕ) → is_free_name w ≡ true → list_all in_line w ≡ true
name-in_line w h = word-in_line w (each-name w h)

joint-in_line : (s : Side) (r : Row) → list_all in_line (joint_text s r) ≡ true
joint-in_line condition product = refl
joint-in_line condition sum = refl
joint-in_line graph product = refl
joint-in_line graph sum = refl

pub bit-in_line : (b : Bool) → list_all in_line (bit_text b) ≡ true
bit-in_line true = refl
bit-in_line false = refl

pub phrase-in_line : {s : Side} {l : Level} (p : Phrase s l) → HasNames p → list_all in_line (written p) ≡ true
phrase-in_line (single r x) h = phrase-in_line x h
phrase-in_line (joined {s} r x y) h = all-append in_line (written x) (joint_text s r ++ written y) (phrase-in_line x h.0) (all-append in_line (joint_text s r) (written y) (joint-in_line s r) (phrase-in_line y h.1))
phrase-in_line (named w) h = name-in_line w h
phrase-in_line (group x) h = all-append in_line (codes "(") (written x ++ codes ")") refl (all-append in_line (written x) (codes ")") (phrase-in_line x h) refl)
phrase-in_line (bit b) h = bit-in_line b
phrase-in_line (negated x) h = all-append in_line (codes "!") (written x) refl (phrase-in_line x h)
phrase-in_line empty h = refl
phrase-in_line (reference w) h = all-append in_line (codes "@") w refl (name-in_line w h)
phrase-in_line (under c x) h =
    all-append in_line (codes "[") (written c ++ (codes "] " ++ written x)) refl (all-append in_line (written c) (codes "] " ++ written x) (phrase-in_line c h.0) (all-append in_line (codes "] ") (written x) refl (phrase-in_line x h.1)))

-- ---- what a text spells has names

pub spelled-names : {s : Side} {l : Level} (p : Phrase s l) (bytes rest : List ℕ) → BeginsWithAll bytes (tokens p) rest → HasNames p
spelled-names (single r x) bytes rest h = spelled-names x bytes rest h
spelled-names (joined {s} r x y) bytes rest h =
    let p = parts_begin (tokens x) (sign (joint s r) ∷ tokens y) bytes rest h in
    (spelled-names x bytes p.0 p.1, spelled-names y p.2.0 rest p.2.2)
spelled-names (named w) bytes rest h = h.1.token.0
spelled-names (group x) bytes rest h = let p = parts_begin (tokens x) (sign signs.Close ∷ []) h.0 rest h.2 in spelled-names x h.0 p.0 p.1
spelled-names (bit b) bytes rest h = tt
spelled-names (negated x) bytes rest h = spelled-names x h.0 rest h.2
spelled-names empty bytes rest h = tt
spelled-names (reference w) bytes rest h = h.2.1.token.0
spelled-names (under c x) bytes rest h =
    let p = parts_begin (tokens c) (sign signs.CloseSquare ∷ tokens x) h.0 rest h.2 in
    (spelled-names c h.0 p.0 p.1, spelled-names x p.2.0 rest p.2.2)
