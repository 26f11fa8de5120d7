-- Texts that grow member by member, and the tests by which their members are chosen.
use Rattle.std.specs.Prelude.{◌≡◌, ◌≢◌, ◌<◌, ◌≤◌, ◌+◌, ◌==◌, refl, ℕ, Bool, true, false, ◌&&◌, ◌||◌, if◌then◌else◌, List, [], ◌∷◌, ◌++◌, map, take, length, nat_lt, codes}
use Rattle.std.specs.Bool.{MatchBool}
use Rattle.std.specs.List.{flat_map, slice_get}
use Rattle.std.specs.Option.{IsSomeAnd}
use Rattle.std.proofs.Common.{zero, suc, add-one, ap, ap₂, sym, arith, ◌∙◌, append_assoc, append-nil, get_or, inl, inr}
use Rattle.std.proofs.lemmas.Bool.{cases_Bool, both_ways}
use Rattle.std.proofs.lemmas.Bool.Decides.{nat_tests}
use Rattle.std.proofs.lemmas.List.{take_more}
use Rattle.std.proofs.lemmas.List.Concat.{flat_map-append}
use Rattle.std.proofs.lemmas.Nat.Bits.{bit_at_above}
use Rattle.cpog_defs.specs.Codes.{bit}
use Rattle.cpog_defs.specs.Orders.{any_below, each_below}
use Rattle.pg_algebra.specs.Tables.{flip, Changes, Stays}
use Rattle.pg_algebra.specs.declared.table.Table.{Table}
use Rattle.pg_text.specs.Writing.{when_needed, rest_text, row_text}
use Rattle.pg_text.proofs.RowTexts.{rest_append}
use Rattle.pg_normal.specs.Writing.{differ, depends, sets_needed, chosen, sum_text}
use Rattle.pg_normal.proofs.MakingLemmas.{none_below}

-- ---- one member more

-- the terms of one member more are put behind those that stand there
pub follow_more : {X : Type 0} (f : X → List (List ℕ)) (sign : List ℕ) (xs : List X) (i : ℕ) (x d : X) (start out next : List ℕ) → i < length xs → x ≡ get_or xs i d
    → out ≡ start ++ rest_text sign (flat_map f (take i xs)) → next ≡ out ++ rest_text sign (f x) → next ≡ start ++ rest_text sign (flat_map f (take (i + 1) xs))
follow_more f sign xs i x d start out next lt is before last =
    let more : flat_map f (take (i + 1) xs) ≡ flat_map f (take i xs) ++ f x =
    ap (flat_map f) (take_more xs i d lt ∙ ap (λ y. take i xs ++ y ∷ []) (sym is)) ∙ flat_map-append f (take i xs) (x ∷ []) ∙ ap (λ t. flat_map f (take i xs) ++ t) (append-nil (f x))
    in
    last ∙ ap (λ o. o ++ rest_text sign (f x)) before ∙ append_assoc start (rest_text sign (flat_map f (take i xs))) (rest_text sign (f x))
    ∙ ap (λ t. start ++ t) (sym (rest_append sign (flat_map f (take i xs)) (f x)) ∙ ap (rest_text sign) (sym more))

not_zero : (n : ℕ) → (suc n == 0) ≡ false
not_zero n = grind (arith, nat_tests)

-- the first terms, or the word for none, and then the others behind a sign each
sum_parts : (f : ℕ → List ℕ) (g : ℕ → List (List ℕ)) (vs : List ℕ)
    → (when_needed (length vs == 0) (codes "empty") ++ row_text (codes " + ") (map f vs)) ++ rest_text (codes " + ") (flat_map g vs) ≡ sum_text (map f vs ++ flat_map g vs)
sum_parts f g [] = refl
sum_parts f g (v ∷ vs) =
    ap (λ b. (when_needed b (codes "empty") ++ row_text (codes " + ") (map f (v ∷ vs))) ++ rest_text (codes " + ") (flat_map g (v ∷ vs))) (not_zero (length vs))
    ∙ append_assoc (f v) (rest_text (codes " + ") (map f vs)) (rest_text (codes " + ") (flat_map g (v ∷ vs)))
    ∙ ap (λ x. f v ++ x) (sym (rest_append (codes " + ") (map f vs) (flat_map g (v ∷ vs))))

pub written_sum : (start : List ℕ) (f : ℕ → List ℕ) (g : List ℕ → ℕ → List (List ℕ)) (vs a b : List ℕ) (n : ℕ) (first second : List ℕ) → a ≡ vs → b ≡ vs → n ≡ length vs
    → first ≡ start ++ when_needed (n == 0) (codes "empty") → second ≡ first ++ row_text (codes " + ") (map f a)
    → second ++ rest_text (codes " + ") (flat_map (g b) b) ≡ start ++ sum_text (map f vs ++ flat_map (g vs) vs)
written_sum start f g vs a b n first second ea eb en none terms =
    let word = when_needed (length vs == 0) (codes "empty") in
    let front = row_text (codes " + ") (map f vs) in
    let others = rest_text (codes " + ") (flat_map (g vs) vs) in
    ap (λ xs. second ++ rest_text (codes " + ") (flat_map (g xs) xs)) eb
    ∙ ap (λ o. o ++ others) (terms ∙ ap (λ xs. first ++ row_text (codes " + ") (map f xs)) ea
    ∙ ap (λ o. o ++ front) (none ∙ ap (λ k. start ++ when_needed (k == 0) (codes "empty")) en)
    ∙ append_assoc start word front)
    ∙ append_assoc start (word ++ front) others ∙ ap (λ t. start ++ t) (sum_parts f (g vs) vs)

-- ---- the tests

no_such : (p : ℕ → Bool) (w : ℕ) → ((n : ℕ) → n < w → p n ≡ false) → any_below p w ≡ false
no_such p zero none = refl
no_such p (suc w) none = ap₂ (λ a b. a || b) (none w (omega arith)) (no_such p w (λ n lt. none n (omega arith)))

differ_true : (a b : Bool) → a ≢ b → differ a b ≡ true
differ_true true true ne = absurd (ne refl)
differ_true true false ne = refl
differ_true false true ne = refl
differ_true false false ne = absurd (ne refl)

differ_same : (a b : Bool) → a ≡ b → differ a b ≡ false
differ_same true true e = refl
differ_same true false e = e
differ_same false true e = sym e
differ_same false false e = refl

depends_true : (table k : ℕ) → Changes table k → true ≡ depends table k
unfolding depends
depends_true table k h = elim (cases_Bool (depends table k)) [
  | inl e ↦ sym e
  | inr e ↦ absurd (both_ways _ (none_below
      (λ n. differ (bit table n) (bit table (flip n k))) 64 e h.valuation h.below)
      (differ_true (bit table h.valuation) (bit table (flip h.valuation k)) h.differs))
]

depends_false : (table k : ℕ) → Stays table k → false ≡ depends table k
unfolding depends
depends_false table k h = sym (no_such (λ n. differ (bit table n) (bit table (flip n k))) 64 (λ n lt. differ_same (bit table n) (bit table (flip n k)) (h n lt)))

pub depends_from : (r : Bool) (table k : ℕ) → MatchBool r (Changes table k) (Stays table k) → r ≡ depends table k
depends_from true table k h = depends_true table k h
depends_from false table k h = depends_false table k h

reads : (es : List (ℕ × Table)) (i v : ℕ) → IsSomeAnd (slice_get es i) (λ e. v ≡ e.0) → take (suc i) (map (λ e. e.0) es) ≡ take i (map (λ e. e.0) es) ++ v ∷ []
reads [] i v h = absurd h
reads (e ∷ es) zero v h = ap (λ x. x ∷ []) (sym h)
reads (e ∷ es) (suc i) v h = ap (λ x. e.0 ∷ x) (reads es i v h)

-- the first so many vertices and the one at the next place
pub vertex_read : (es : List (ℕ × Table)) (i v : ℕ) → IsSomeAnd (slice_get es i) (λ e. v ≡ e.0) → take (i + 1) (map (λ e. e.0) es) ≡ take i (map (λ e. e.0) es) ++ v ∷ []
vertex_read es i v h = ap (λ n. take n (map (λ e. e.0) es)) (add-one i) ∙ reads es i v h

-- all valuations have been looked at
pub chosen_all : (table n : ℕ) (ns : List ℕ) → n ≡ 64 → ns ≡ each_below (λ m. if bit table m && sets_needed table m then m ∷ [] else []) n → ns ≡ chosen table
unfolding chosen
chosen_all table n ns all h = h ∙ ap (each_below (λ m. if bit table m && sets_needed table m then m ∷ [] else [])) all

not_below : (k n : ℕ) → n ≤ k → nat_lt k n ≡ false
not_below k n le = grind (arith, nat_tests)

-- a byte has no bit above its eighth
pub above_word : (word k : ℕ) → word < 256 → 8 ≤ k → nat_lt k 8 ≡ bit word k
above_word word k h le = not_below k 8 le ∙ sym (ap (λ b. b == 1) (bit_at_above word 8 k h le))
