-- One phrase stands at the front of some bytes at most.
use Rattle.std.specs.Prelude.{◌≡◌, ℕ, List, [], ◌∷◌, ◌++◌, Bool, true, false, refl}
use Rattle.std.proofs.Common.{sym, ◌∙◌, ap, ap₂, subst}
use Rattle.pg_text.specs.declared.sign.Sign.{Sign}
use Rattle.pg_text.specs.declared.sign.Sign.TheVariants as signs
use Rattle.pg_text.specs.declared.sign.Fixed.TheVariants as words
use Rattle.pg_text.specs.Tokens.{Token, name, word, sign, bit_word, BeginsWith, BeginsWithAll, HasNoToken}
use Rattle.pg_text.specs.Grammar.{Side, condition, graph, Row, product, sum, Level, factor, row, member, joint, Phrase, single, joined, named, group, bit, negated, empty, reference, under, tokens}
use Rattle.pg_text.specs.Reading.{Lacks, Stops}
use Rattle.pg_text.proofs.TokenLaws.{same_token, no_token}

-- ---- tokens one after another

pub both_begin : (xs ys : List Token) (bytes middle rest : List ℕ) → BeginsWithAll bytes xs middle → BeginsWithAll middle ys rest → BeginsWithAll bytes (xs ++ ys) rest
both_begin [] ys bytes middle rest h k = subst (λ b. BeginsWithAll b ys rest) (sym h) k
both_begin (x ∷ xs) ys bytes middle rest h k = (h.0, h.1, both_begin xs ys h.0 middle rest h.2 k)

pub parts_begin : (xs ys : List Token) (bytes rest : List ℕ) → BeginsWithAll bytes (xs ++ ys) rest → (middle : List ℕ) × BeginsWithAll bytes xs middle × BeginsWithAll middle ys rest
parts_begin [] ys bytes rest h = (bytes, refl, h)
parts_begin (x ∷ xs) ys bytes rest h = let k = parts_begin xs ys h.0 rest h.2 in (k.0, (h.0, h.1, k.1), k.2)

-- what follows one token is one text
pub after_token : (bytes : List ℕ) (t : Token) (q r : List ℕ) (ts : List Token) (rest : List ℕ) → BeginsWith bytes t q → BeginsWith bytes t r → BeginsWithAll q ts rest → BeginsWithAll r ts rest
after_token bytes t q r ts rest h k more = subst (λ b. BeginsWithAll b ts rest) (same_token bytes t t q r h k).1 more

-- ---- what does not come next

-- where a token comes next no other does
pub others_lack : (t u : Token) (bytes rest : List ℕ) → (t ≡ u → ⊥) → BeginsWith bytes t rest → Lacks u bytes
others_lack t u bytes rest differ h more k = differ (same_token bytes t u rest more h k).0

pub end_lacks : (t : Token) (bytes : List ℕ) → HasNoToken bytes → Lacks t bytes
end_lacks t bytes none rest h = no_token bytes t rest none h

-- a token that joins nothing stops every row
joins_not : (s : Side) (r : Row) (t : Token) → (t ≡ sign signs.And → ⊥) → (t ≡ sign signs.Or → ⊥) → (t ≡ sign signs.Arrow → ⊥) → (t ≡ sign signs.Plus → ⊥) → t ≡ sign (joint s r) → ⊥
joins_not condition product t a o w p e = a e
joins_not condition sum t a o w p e = o e
joins_not graph product t a o w p e = w e
joins_not graph sum t a o w p e = p e

stops_before : (s : Side) (l : Level) (bytes rest : List ℕ) (t : Token) → ((r : Row) → t ≡ sign (joint s r) → ⊥) → BeginsWith bytes t rest → Stops s l bytes
stops_before s factor bytes rest t differ h = tt
stops_before s (row product) bytes rest t differ h = others_lack t (sign (joint s product)) bytes rest (differ product) h
stops_before s (row sum) bytes rest t differ h = (others_lack t (sign (joint s product)) bytes rest (differ product) h, others_lack t (sign (joint s sum)) bytes rest (differ sum) h)

close_no_and : sign signs.Close ≡ sign signs.And → ⊥
close_no_and e = cc

close_no_or : sign signs.Close ≡ sign signs.Or → ⊥
close_no_or e = cc

close_no_arrow : sign signs.Close ≡ sign signs.Arrow → ⊥
close_no_arrow e = cc

close_no_plus : sign signs.Close ≡ sign signs.Plus → ⊥
close_no_plus e = cc

square_no_and : sign signs.CloseSquare ≡ sign signs.And → ⊥
square_no_and e = cc

square_no_or : sign signs.CloseSquare ≡ sign signs.Or → ⊥
square_no_or e = cc

square_no_arrow : sign signs.CloseSquare ≡ sign signs.Arrow → ⊥
square_no_arrow e = cc

square_no_plus : sign signs.CloseSquare ≡ sign signs.Plus → ⊥
square_no_plus e = cc

with_no_sign : (s : Sign) → word words.With ≡ sign s → ⊥
with_no_sign s e = cc

pub stops_at_close : (s : Side) (l : Level) (bytes rest : List ℕ) → BeginsWith bytes (sign signs.Close) rest → Stops s l bytes
stops_at_close s l bytes rest h = stops_before s l bytes rest (sign signs.Close) (λ r. joins_not s r (sign signs.Close) close_no_and close_no_or close_no_arrow close_no_plus) h

pub stops_at_square : (s : Side) (l : Level) (bytes rest : List ℕ) → BeginsWith bytes (sign signs.CloseSquare) rest → Stops s l bytes
stops_at_square s l bytes rest h = stops_before s l bytes rest (sign signs.CloseSquare) (λ r. joins_not s r (sign signs.CloseSquare) square_no_and square_no_or square_no_arrow square_no_plus) h

pub stops_at_with : (s : Side) (l : Level) (bytes rest : List ℕ) → BeginsWith bytes (word words.With) rest → Stops s l bytes
stops_at_with s l bytes rest h = stops_before s l bytes rest (word words.With) (λ r. with_no_sign (joint s r)) h

pub stops_at_end : (s : Side) (l : Level) (bytes : List ℕ) → HasNoToken bytes → Stops s l bytes
stops_at_end s factor bytes none = tt
stops_at_end s (row product) bytes none = end_lacks (sign (joint s product)) bytes none
stops_at_end s (row sum) bytes none = (end_lacks (sign (joint s product)) bytes none, end_lacks (sign (joint s sum)) bytes none)

-- a row that stops has members that stop
pub member_stops : (s : Side) (r : Row) (bytes : List ℕ) → Stops s (row r) bytes → Stops s (member r) bytes
member_stops s product bytes h = tt
member_stops s sum bytes h = h.0

pub row_lacks : (s : Side) (r : Row) (bytes : List ℕ) → Stops s (row r) bytes → Lacks (sign (joint s r)) bytes
row_lacks s product bytes h = h
row_lacks s sum bytes h = h.1

pub row_stops : (s : Side) (r : Row) (bytes : List ℕ) → Stops s (member r) bytes → Lacks (sign (joint s r)) bytes → Stops s (row r) bytes
row_stops s product bytes h k = k
row_stops s sum bytes h k = (h, k)

plus_no_arrow : (s : Side) → sign (joint s sum) ≡ sign (joint s product) → ⊥
plus_no_arrow condition e = cc
plus_no_arrow graph e = cc

-- before the sign of a row its member stops
pub stops_at_joint : (s : Side) (r : Row) (bytes rest : List ℕ) → BeginsWith bytes (sign (joint s r)) rest → Stops s (member r) bytes
stops_at_joint s product bytes rest h = tt
stops_at_joint s sum bytes rest h = others_lack (sign (joint s sum)) (sign (joint s product)) bytes rest (plus_no_arrow s) h

-- ---- tokens that differ

clash : (t u : Token) (bytes : List ℕ) (ts us : List Token) (q r : List ℕ) → (t ≡ u → ⊥) → BeginsWithAll bytes (t ∷ ts) q → BeginsWithAll bytes (u ∷ us) r → ⊥
clash t u bytes ts us q r differ h k = differ (same_token bytes t u h.0 k.0 h.1 k.1).0

pub name_no_sign : (w : List ℕ) (s : Sign) → name w ≡ sign s → ⊥
name_no_sign w s e = cc

pub bit_no_name : (b : Bool) (w : List ℕ) → bit_word b ≡ name w → ⊥
bit_no_name true w e = cc
bit_no_name false w e = cc

pub bit_no_sign : (b : Bool) (s : Sign) → bit_word b ≡ sign s → ⊥
bit_no_sign true s e = cc
bit_no_sign false s e = cc

pub empty_no_name : (w : List ℕ) → word words.Empty ≡ name w → ⊥
empty_no_name w e = cc

pub empty_no_sign : (s : Sign) → word words.Empty ≡ sign s → ⊥
empty_no_sign s e = cc

pub open_no_not : sign signs.Open ≡ sign signs.Not → ⊥
open_no_not e = cc

pub open_no_at : sign signs.Open ≡ sign signs.At → ⊥
open_no_at e = cc

pub open_no_square : sign signs.Open ≡ sign signs.OpenSquare → ⊥
open_no_square e = cc

pub at_no_square : sign signs.At ≡ sign signs.OpenSquare → ⊥
at_no_square e = cc

flip : (t u : Token) → (t ≡ u → ⊥) → u ≡ t → ⊥
flip t u differ e = differ (sym e)

pub name_of : (v w : List ℕ) → name v ≡ name w → v ≡ w
name_of v w e = cc

pub bit_of : (a b : Bool) → bit_word a ≡ bit_word b → a ≡ b
bit_of true true e = refl
bit_of true false e = cc
bit_of false true e = cc
bit_of false false e = refl

-- ---- one phrase

pub same_phrase : {s : Side} {l : Level} (p q : Phrase s l) (bytes a b : List ℕ) → BeginsWithAll bytes (tokens p) a → BeginsWithAll bytes (tokens q) b → Stops s l a → Stops s l b → (p ≡ q) × (a ≡ b)
same_phrase (single {s} r x) (single _ y) bytes a b h k ha hb =
    let e = same_phrase x y bytes a b h k (member_stops s r a ha) (member_stops s r b hb) in (ap (single r) e.0, e.1)
same_phrase (single {s} r x) (joined _ y z) bytes a b h k ha hb =
    let p = parts_begin (tokens y) (sign (joint s r) ∷ tokens z) bytes b k in
    let e = same_phrase x y bytes a p.0 h p.1 (member_stops s r a ha) (stops_at_joint s r p.0 p.2.0 p.2.1) in
    absurd (subst (Lacks (sign (joint s r))) e.1 (row_lacks s r a ha) p.2.0 p.2.1)
same_phrase (joined {s} r x z) (single _ y) bytes a b h k ha hb =
    let p = parts_begin (tokens x) (sign (joint s r) ∷ tokens z) bytes a h in
    let e = same_phrase x y bytes p.0 b p.1 k (stops_at_joint s r p.0 p.2.0 p.2.1) (member_stops s r b hb) in
    absurd (subst (Lacks (sign (joint s r))) (sym e.1) (row_lacks s r b hb) p.2.0 p.2.1)
same_phrase (joined {s} r x z) (joined _ y w) bytes a b h k ha hb =
    let p = parts_begin (tokens x) (sign (joint s r) ∷ tokens z) bytes a h in
    let o = parts_begin (tokens y) (sign (joint s r) ∷ tokens w) bytes b k in
    let e = same_phrase x y bytes p.0 o.0 p.1 o.1 (stops_at_joint s r p.0 p.2.0 p.2.1) (stops_at_joint s r o.0 o.2.0 o.2.1) in
    let f = same_phrase z w o.2.0 a b (after_token o.0 (sign (joint s r)) p.2.0 o.2.0 (tokens z) a (subst (λ m. BeginsWith m (sign (joint s r)) p.2.0) e.1 p.2.1) o.2.1 p.2.2) o.2.2 ha hb in
    (ap₂ (joined r) e.0 f.0, f.1)
same_phrase (named v) (named w) bytes a b h k ha hb = let e = same_token bytes (name v) (name w) h.0 k.0 h.1 k.1 in (ap named (name_of v w e.0), sym h.2 ∙ e.1 ∙ k.2)
same_phrase (named v) (group {s} y) bytes a b h k ha hb = absurd (clash (name v) (sign signs.Open) bytes [] (tokens y ++ sign signs.Close ∷ []) a b (name_no_sign v signs.Open) h k)
same_phrase (named v) (bit c) bytes a b h k ha hb = absurd (clash (name v) (bit_word c) bytes [] [] a b (flip (bit_word c) (name v) (bit_no_name c v)) h k)
same_phrase (named v) (negated y) bytes a b h k ha hb = absurd (clash (name v) (sign signs.Not) bytes [] (tokens y) a b (name_no_sign v signs.Not) h k)
same_phrase (named v) empty bytes a b h k ha hb = absurd (clash (name v) (word words.Empty) bytes [] [] a b (flip (word words.Empty) (name v) (empty_no_name v)) h k)
same_phrase (named v) (reference w) bytes a b h k ha hb = absurd (clash (name v) (sign signs.At) bytes [] (name w ∷ []) a b (name_no_sign v signs.At) h k)
same_phrase (named v) (under c y) bytes a b h k ha hb = absurd (clash (name v) (sign signs.OpenSquare) bytes [] (tokens c ++ sign signs.CloseSquare ∷ tokens y) a b (name_no_sign v signs.OpenSquare) h k)
same_phrase (group {s} x) (named v) bytes a b h k ha hb = absurd (clash (name v) (sign signs.Open) bytes [] (tokens x ++ sign signs.Close ∷ []) b a (name_no_sign v signs.Open) k h)
same_phrase (group {s} x) (group y) bytes a b h k ha hb =
    let p = parts_begin (tokens x) (sign signs.Close ∷ []) h.0 a h.2 in
    let o = parts_begin (tokens y) (sign signs.Close ∷ []) k.0 b k.2 in
    let e = same_phrase x y k.0 p.0 o.0 (after_token bytes (sign signs.Open) h.0 k.0 (tokens x) p.0 h.1 k.1 p.1) o.1 (stops_at_close s (row sum) p.0 p.2.0 p.2.1) (stops_at_close s (row sum) o.0 o.2.0 o.2.1) in
    let f = same_token o.0 (sign signs.Close) (sign signs.Close) p.2.0 o.2.0 (subst (λ m. BeginsWith m (sign signs.Close) p.2.0) e.1 p.2.1) o.2.1 in
    (ap group e.0, sym p.2.2 ∙ f.1 ∙ o.2.2)
same_phrase (group {s} x) (bit c) bytes a b h k ha hb = absurd (clash (bit_word c) (sign signs.Open) bytes [] (tokens x ++ sign signs.Close ∷ []) b a (bit_no_sign c signs.Open) k h)
same_phrase (group {s} x) (negated y) bytes a b h k ha hb = absurd (clash (sign signs.Open) (sign signs.Not) bytes (tokens x ++ sign signs.Close ∷ []) (tokens y) a b open_no_not h k)
same_phrase (group {s} x) empty bytes a b h k ha hb = absurd (clash (word words.Empty) (sign signs.Open) bytes [] (tokens x ++ sign signs.Close ∷ []) b a (empty_no_sign signs.Open) k h)
same_phrase (group {s} x) (reference w) bytes a b h k ha hb = absurd (clash (sign signs.Open) (sign signs.At) bytes (tokens x ++ sign signs.Close ∷ []) (name w ∷ []) a b open_no_at h k)
same_phrase (group {s} x) (under c y) bytes a b h k ha hb = absurd (clash (sign signs.Open) (sign signs.OpenSquare) bytes (tokens x ++ sign signs.Close ∷ []) (tokens c ++ sign signs.CloseSquare ∷ tokens y) a b open_no_square h k)
same_phrase (bit c) (named v) bytes a b h k ha hb = absurd (clash (bit_word c) (name v) bytes [] [] a b (bit_no_name c v) h k)
same_phrase (bit c) (group y) bytes a b h k ha hb = absurd (clash (bit_word c) (sign signs.Open) bytes [] (tokens y ++ sign signs.Close ∷ []) a b (bit_no_sign c signs.Open) h k)
same_phrase (bit c) (bit d) bytes a b h k ha hb = let e = same_token bytes (bit_word c) (bit_word d) h.0 k.0 h.1 k.1 in (ap bit (bit_of c d e.0), sym h.2 ∙ e.1 ∙ k.2)
same_phrase (bit c) (negated y) bytes a b h k ha hb = absurd (clash (bit_word c) (sign signs.Not) bytes [] (tokens y) a b (bit_no_sign c signs.Not) h k)
same_phrase (negated x) (named v) bytes a b h k ha hb = absurd (clash (name v) (sign signs.Not) bytes [] (tokens x) b a (name_no_sign v signs.Not) k h)
same_phrase (negated x) (group y) bytes a b h k ha hb = absurd (clash (sign signs.Open) (sign signs.Not) bytes (tokens y ++ sign signs.Close ∷ []) (tokens x) b a open_no_not k h)
same_phrase (negated x) (bit c) bytes a b h k ha hb = absurd (clash (bit_word c) (sign signs.Not) bytes [] (tokens x) b a (bit_no_sign c signs.Not) k h)
same_phrase (negated x) (negated y) bytes a b h k ha hb =
    let e = same_phrase x y k.0 a b (after_token bytes (sign signs.Not) h.0 k.0 (tokens x) a h.1 k.1 h.2) k.2 tt tt in (ap negated e.0, e.1)
same_phrase empty (named v) bytes a b h k ha hb = absurd (clash (word words.Empty) (name v) bytes [] [] a b (empty_no_name v) h k)
same_phrase empty (group y) bytes a b h k ha hb = absurd (clash (word words.Empty) (sign signs.Open) bytes [] (tokens y ++ sign signs.Close ∷ []) a b (empty_no_sign signs.Open) h k)
same_phrase empty empty bytes a b h k ha hb = let e = same_token bytes (word words.Empty) (word words.Empty) h.0 k.0 h.1 k.1 in (refl, sym h.2 ∙ e.1 ∙ k.2)
same_phrase empty (reference w) bytes a b h k ha hb = absurd (clash (word words.Empty) (sign signs.At) bytes [] (name w ∷ []) a b (empty_no_sign signs.At) h k)
same_phrase empty (under c y) bytes a b h k ha hb = absurd (clash (word words.Empty) (sign signs.OpenSquare) bytes [] (tokens c ++ sign signs.CloseSquare ∷ tokens y) a b (empty_no_sign signs.OpenSquare) h k)
same_phrase (reference v) (named w) bytes a b h k ha hb = absurd (clash (name w) (sign signs.At) bytes [] (name v ∷ []) b a (name_no_sign w signs.At) k h)
same_phrase (reference v) (group y) bytes a b h k ha hb = absurd (clash (sign signs.Open) (sign signs.At) bytes (tokens y ++ sign signs.Close ∷ []) (name v ∷ []) b a open_no_at k h)
same_phrase (reference v) empty bytes a b h k ha hb = absurd (clash (word words.Empty) (sign signs.At) bytes [] (name v ∷ []) b a (empty_no_sign signs.At) k h)
same_phrase (reference v) (reference w) bytes a b h k ha hb =
    let m = after_token bytes (sign signs.At) h.0 k.0 (name v ∷ []) a h.1 k.1 h.2 in
    let e = same_token k.0 (name v) (name w) m.0 k.2.0 m.1 k.2.1 in (ap reference (name_of v w e.0), sym m.2 ∙ e.1 ∙ k.2.2)
same_phrase (reference v) (under c y) bytes a b h k ha hb = absurd (clash (sign signs.At) (sign signs.OpenSquare) bytes (name v ∷ []) (tokens c ++ sign signs.CloseSquare ∷ tokens y) a b at_no_square h k)
same_phrase (under d x) (named v) bytes a b h k ha hb = absurd (clash (name v) (sign signs.OpenSquare) bytes [] (tokens d ++ sign signs.CloseSquare ∷ tokens x) b a (name_no_sign v signs.OpenSquare) k h)
same_phrase (under d x) (group y) bytes a b h k ha hb = absurd (clash (sign signs.Open) (sign signs.OpenSquare) bytes (tokens y ++ sign signs.Close ∷ []) (tokens d ++ sign signs.CloseSquare ∷ tokens x) b a open_no_square k h)
same_phrase (under d x) empty bytes a b h k ha hb = absurd (clash (word words.Empty) (sign signs.OpenSquare) bytes [] (tokens d ++ sign signs.CloseSquare ∷ tokens x) b a (empty_no_sign signs.OpenSquare) k h)
same_phrase (under d x) (reference w) bytes a b h k ha hb = absurd (clash (sign signs.At) (sign signs.OpenSquare) bytes (name w ∷ []) (tokens d ++ sign signs.CloseSquare ∷ tokens x) b a at_no_square k h)
same_phrase (under d x) (under c y) bytes a b h k ha hb =
    let p = parts_begin (tokens d) (sign signs.CloseSquare ∷ tokens x) h.0 a h.2 in
    let o = parts_begin (tokens c) (sign signs.CloseSquare ∷ tokens y) k.0 b k.2 in
    let e = same_phrase d c k.0 p.0 o.0 (after_token bytes (sign signs.OpenSquare) h.0 k.0 (tokens d) p.0 h.1 k.1 p.1) o.1 (stops_at_square condition (row sum) p.0 p.2.0 p.2.1) (stops_at_square condition (row sum) o.0 o.2.0 o.2.1) in
    let f = same_phrase x y o.2.0 a b (after_token o.0 (sign signs.CloseSquare) p.2.0 o.2.0 (tokens x) a (subst (λ m. BeginsWith m (sign signs.CloseSquare) p.2.0) e.1 p.2.1) o.2.1 p.2.2) o.2.2 tt tt in
    (ap₂ under e.0 f.0, f.1)
