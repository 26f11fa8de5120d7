-- A reader is exact where it reads each value from its text, and nothing from another text.
use Rattle.std.proofs.Common.{◌≡◌, ℕ, ◌<◌, ◌≤◌, ◌^◌, ◌+◌, ◌-◌, Bool, true, false, cond, ◌&&◌, eqb, ltb, leb, List, [], ◌∷◌, ◌++◌, length, take, drop, Option, Some, None, refl, sym, ap, subst, ◌∙◌, arith, get_or, add-one, drop-cons, ◌⊎◌, inl, inr, length-append}
use Rattle.std.specs.Fmt.{decimal}
use Rattle.std.specs.Str.{bytes_eq, all_ascii_digits}
use Rattle.std.specs.Str.Parse.{digits_value, AllDigits}
use Rattle.std.specs.List.{position_or_len, before_first, after_first, All}
use Rattle.std.proofs.lemmas.Bool.{ltb-true, lt-ltb, le-leb, eqb-true, ne_eqb}
use Rattle.std.proofs.lemmas.Slice.Eq.{bytes_eq-Decides}
use Rattle.std.proofs.lemmas.List.{get_or_append_left, get_or-append_right, take_at, drop-drop, drop_at, take-append-drop}
use Rattle.std.proofs.lemmas.Fmt.{decimal_is_IsNumeral, digits_decimal, digits_value-decimal}
use Rattle.std.proofs.lemmas.Str.Parse.{IsNumeralModel, numerals_by_value, tells_all_ascii_digits, digit_from_value}
use Rattle.line_rows.specs.Words.{Recovers, ◌>>=?◌, number_in, behind, before, word_at, behind_of, before_of, pair_of, made_of}
use Rattle.std.proofs.lemmas.List.Sums.{position_or_len_is, passes_at_first}
use Rattle.std.proofs.lemmas.List.Elements.{All-get_or, All-from_recursion}
use Rattle.std.specs.List.{AllByRecursion}
use Rattle.std.specs.Int.{IsInRange}

pub record IsExact {V : Type 0} (Fits : V → Type 0) (text : V → List ℕ) (read : List ℕ → Option V) : Type 0 where
  pub again : (v : V) → Fits v → read (text v) ≡ Some v
  pub takes : (bytes : List ℕ) (v : V) → read bytes ≡ Some v → Fits v × (bytes ≡ text v)

-- an option that is chosen by a test
pub chosen : {V : Type 0} (b : Bool) (x : V) (o : Option V) (y : V) → cond b (Some x) o ≡ Some y → ((b ≡ true) × (x ≡ y)) ⊎ ((b ≡ false) × (o ≡ Some y))
chosen true x o y e = inl (refl, cc)
chosen false x o y e = inr (refl, e)

pub tested : {V : Type 0} (b : Bool) (x y : V) → cond b (Some x) None ≡ Some y → (b ≡ true) × (x ≡ y)
tested true x y e = (refl, cc)
tested false x y e = absurd cc

pub both_true : (a b : Bool) → (a && b) ≡ true → (a ≡ true) × (b ≡ true)
both_true true b e = (refl, e)
both_true false b e = absurd cc

pub same_bytes : (bs : List ℕ) → bytes_eq bs bs ≡ true
same_bytes bs = (bytes_eq-Decides bs bs).1 refl

pub none_where : {V : Type 0} (o : Option V) → ((v : V) → o ≡ Some v → ⊥) → None ≡ o
none_where None h = refl
none_where (Some v) h = absurd (h v refl)

-- what an exact reader answers is what a function answers that recovers the same values
pub recovered : {V : Type 0} (Fits : V → Type 0) (text : V → List ℕ) (read : List ℕ → Option V) (bytes : List ℕ) (r : Option V) → IsExact Fits text read → Recovers (λ (v : V). v) Fits text bytes r → r ≡ read bytes
recovered Fits text read bytes (Some v) exact h = sym (ap read h.1 ∙ exact.again v h.0)
recovered Fits text read bytes None exact h = none_where (read bytes) (λ v e. let t = exact.takes bytes v e in h v t.0 t.1)

own : IsNumeralModel (λ ds. all_ascii_digits ds ≡ true) (digits_value 10)
own = numerals_by_value _ tells_all_ascii_digits

pub number_exact : (bound : ℕ) → bound ≤ 2 ^ 64 → IsExact (λ n. n < bound) decimal (number_in bound)
unfolding number_in
number_exact bound fits = record {
  again = λ v lt.
      let small : v < 2 ^ 64 = omega arith in
      let digits : all_ascii_digits (decimal v) ≡ true = digits_decimal own v small in
      let value : digits_value 10 (decimal v) ≡ v = digits_value-decimal own v small in
      let below : ltb v bound ≡ true = lt-ltb v bound lt in
      rw (digits, value, below, same_bytes (decimal v)) refl;
  takes = λ bytes v e.
      let t = tested _ _ _ e in
      let a = both_true _ _ t.0 in
      let b = both_true _ _ a.1 in
      (rw (← t.1) (ltb-true _ _ b.0), rw (← t.1) ((bytes_eq-Decides _ _).0 b.1));
}

pub behind_again : (front bytes : List ℕ) → behind front (front ++ bytes) ≡ Some bytes
unfolding behind
behind_again front bytes = rw (take_at front bytes (length front) refl, drop_at front bytes (length front) refl, same_bytes front) refl

pub behind_takes : (front bytes rest : List ℕ) → behind front bytes ≡ Some rest → bytes ≡ front ++ rest
unfolding behind
behind_takes front bytes rest e =
    let t = tested _ _ _ e in
    let f : take (length front) bytes ≡ front = (bytes_eq-Decides _ _).0 t.0 in
    sym (take-append-drop (length front) bytes) ∙ ap (λ (x : List ℕ). x ++ drop (length front) bytes) f ∙ ap (λ (x : List ℕ). front ++ x) t.1

-- behind a front, and before an end
pub some_of : {A B : Type 0} (o : Option A) (f : A → Option B) (y : B) → (o >>=? f) ≡ Some y → (x : A) × (o ≡ Some x) × (f x ≡ Some y)
some_of (Some x) f y e = (x, refl, e)
some_of None f y e = absurd cc

pub exact-behind : {V : Type 0} (front : List ℕ) {Fits : V → Type 0} {text : V → List ℕ} {read : List ℕ → Option V} → IsExact Fits text read → IsExact Fits (λ v. front ++ text v) (behind_of front read)
exact-behind front exact = record {
  again = λ v fits. rw (behind_again front (_), exact.again v fits) refl;
  takes = λ bytes v e.
      let s = some_of _ _ v e in
      let t = exact.takes s.0 v s.2 in
      (t.0, behind_takes front bytes s.0 s.1 ∙ ap (λ (x : List ℕ). front ++ x) t.1);
}

pub before_again : (end bytes : List ℕ) → before end (bytes ++ end) ≡ Some bytes
unfolding before
before_again end bytes =
    let n : length (bytes ++ end) - length end ≡ length bytes = omega (arith, length-append bytes end) in
    let le : leb (length end) (length (bytes ++ end)) ≡ true = le-leb _ _ (omega (arith, length-append bytes end)) in
    rw (n, le, take_at bytes end (length bytes) refl, drop_at bytes end (length bytes) refl, same_bytes end) refl

pub before_takes : (end bytes rest : List ℕ) → before end bytes ≡ Some rest → bytes ≡ rest ++ end
unfolding before
before_takes end bytes rest e =
    let t = tested _ _ _ e in
    let b = both_true _ _ t.0 in
    let f : drop (length bytes - length end) bytes ≡ end = (bytes_eq-Decides _ _).0 b.1 in
    sym (take-append-drop (length bytes - length end) bytes) ∙ ap (λ (x : List ℕ). take (length bytes - length end) bytes ++ x) f ∙ ap (λ (x : List ℕ). x ++ end) t.1

pub exact-before : {V : Type 0} (end : List ℕ) {Fits : V → Type 0} {text : V → List ℕ} {read : List ℕ → Option V} → IsExact Fits text read → IsExact Fits (λ v. text v ++ end) (before_of end read)
exact-before end exact = record {
  again = λ v fits. rw (before_again end (_), exact.again v fits) refl;
  takes = λ bytes v e.
      let s = some_of _ _ v e in
      let t = exact.takes s.0 v s.2 in
      (t.0, before_takes end bytes s.0 s.1 ∙ ap (λ (x : List ℕ). x ++ end) t.1);
}

abbrev pub put : {A : Type 0} → A → Option A
put x = Some x

abbrev pub is_blank : ℕ → Bool
is_blank b = eqb b 32

sub_self : (n : ℕ) → n - n ≡ 0
sub_self n = omega arith

drop_past : (word rest : List ℕ) → drop (length word + 1) (word ++ 32 ∷ rest) ≡ rest
drop_past word rest = sym (drop-drop 1 (length word) (word ++ 32 ∷ rest)) ∙ ap (drop 1) (drop_at word (32 ∷ rest) (length word) refl)

cut_at : (bytes : List ℕ) (i b : ℕ) → i < length bytes → get_or bytes i 0 ≡ b → bytes ≡ take i bytes ++ b ∷ drop (i + 1) bytes
cut_at bytes i b lt e = sym (take-append-drop i bytes) ∙ ap (λ (x : List ℕ). take i bytes ++ x) (rw (add-one, ← e) (drop-cons bytes i 0 lt))

pub some_is : {A : Type 0} (x y : A) → put x ≡ put y → x ≡ y
some_is x y e = cc

pub word_again : (word rest : List ℕ) → All (λ b. is_blank b ≡ false) word → word_at (word ++ 32 ∷ rest) ≡ Some (word, rest)
unfolding word_at
word_again word rest none =
    let here : is_blank (get_or (word ++ 32 ∷ rest) (length word) 0) ≡ true = ap is_blank (get_or-append_right word (32 ∷ rest) (length word) (length word) 0 refl (omega arith) ∙ ap (λ (i : ℕ). get_or (32 ∷ rest) i 0) (sub_self (length word))) in
    let at : position_or_len is_blank (word ++ 32 ∷ rest) ≡ length word = position_or_len_is is_blank (word ++ 32 ∷ rest) (length word) 0 (omega (arith, length-append word (32 ∷ rest))) (λ k lt. ap is_blank (get_or_append_left word (32 ∷ rest) 0 k lt) ∙ All-get_or (λ b. is_blank b ≡ false) word k 0 lt none) (λ _. here) in
    let within : ltb (length word) (length (word ++ 32 ∷ rest)) ≡ true = lt-ltb _ _ (omega (arith, length-append word (32 ∷ rest))) in
    let after : drop (length word + 1) (word ++ 32 ∷ rest) ≡ rest = drop_past word rest in
    rw (at, within, take_at word (32 ∷ rest) (length word) refl, after) refl

pub word_takes : (bytes : List ℕ) (w : List ℕ × List ℕ) → word_at bytes ≡ Some w → bytes ≡ w.0 ++ 32 ∷ w.1
unfolding word_at
word_takes bytes w e =
    let t = tested _ _ _ e in
    let lt : position_or_len is_blank bytes < length bytes = ltb-true _ _ t.0 in
    let whole : bytes ≡ before_first is_blank bytes ++ 32 ∷ after_first is_blank bytes = cut_at bytes (position_or_len is_blank bytes) 32 lt (eqb-true _ _ (passes_at_first is_blank bytes 0 lt)) in
    whole ∙ ap (λ (p : List ℕ × List ℕ). p.0 ++ 32 ∷ p.1) t.1

pub record IsWord {A : Type 0} (Fits : A → Type 0) (text : A → List ℕ) : Type 0 where
  pub no_blank : (a : A) → Fits a → All (λ b. is_blank b ≡ false) (text a)

pub exact-pair : {A B : Type 0} {F : A → Type 0} {t : A → List ℕ} {r : List ℕ → Option A} {G : A → B → Type 0} {u : A → B → List ℕ} {s : A → List ℕ → Option B} → IsExact F t r → IsWord F t → ((a : A) → F a → IsExact (G a) (u a) (s a))
    → IsExact (λ (p : A × B). F p.0 × G p.0 p.1) (λ (p : A × B). t p.0 ++ 32 ∷ u p.0 p.1) (pair_of r s)
exact-pair {A = A} {B = B} {F = F} {t = t} {G = G} {u = u} first word second = record {
  again = λ v fits. rw (word_again (t v.0) (u v.0 v.1) (word.no_blank v.0 fits.0), first.again v.0 fits.0, (second v.0 fits.0).again v.1 fits.1) refl;
  takes = λ bytes v e.
      let w = some_of _ _ v e in
      let a = some_of _ _ v w.2 in
      let b = some_of _ _ v a.2 in
      let fa = first.takes w.0.0 a.0 a.1 in
      let fb = (second a.0 fa.0).takes w.0.1 b.0 b.1 in
      let whole : bytes ≡ t a.0 ++ 32 ∷ u a.0 b.0 = word_takes bytes w.0 w.1 ∙ ap (λ (x : List ℕ). x ++ 32 ∷ w.0.1) fa.1 ∙ ap (λ (x : List ℕ). t a.0 ++ 32 ∷ x) fb.1 in
      let same : (a.0, b.0) ≡ v = some_is (a.0, b.0) v b.2 in
      subst (λ (p : A × B). (F p.0 × G p.0 p.1) × (bytes ≡ t p.0 ++ 32 ∷ u p.0 p.1)) same ((fa.0, fb.0), whole);
}

-- what is made of the values that are read
pub exact-made : {A B : Type 0} (make : A → Option B) {F : A → Type 0} {t : A → List ℕ} {r : List ℕ → Option A} (G : B → Type 0) (u : B → List ℕ) → IsExact F t r
    → ((b : B) → G b → (a : A) × F a × (make a ≡ Some b) × (u b ≡ t a)) → ((a : A) (b : B) → F a → make a ≡ Some b → G b × (u b ≡ t a)) → IsExact G u (made_of make r)
exact-made make {r = r} G u exact from to = record {
  again = λ b fits. let a = from b fits in ap (λ (bytes : List ℕ). made_of make r bytes) a.3 ∙ rw (exact.again a.0 a.1) a.2;
  takes = λ bytes b e.
      let s = some_of (r bytes) make b e in
      let one = exact.takes bytes s.0 s.1 in
      let made = to s.0 b one.0 s.2 in
      (made.0, one.1 ∙ sym made.1);
}

-- those of the values that pass a test
abbrev pub if_so : {A : Type 0} → (A → Bool) → A → Option A
if_so test a = cond (test a) (Some a) None

pub exact-where : {A : Type 0} (test : A → Bool) {F : A → Type 0} {t : A → List ℕ} {r : List ℕ → Option A} → IsExact F t r → IsExact (λ a. F a × (test a ≡ true)) t (made_of (if_so test) r)
exact-where {A = A} test {F = F} {t = t} exact = exact-made (if_so test) (λ a. F a × (test a ≡ true)) t exact
    (λ a fits. (a, fits.0, rw fits.1 refl, refl))
    (λ a b fits e. let h = tested (test a) a b e in subst (λ (y : A). (F y × (test y ≡ true)) × (t y ≡ t a)) h.1 ((fits, h.0), refl))

no_blank_digit : (d : ℕ) → IsInRange 48 57 d → is_blank d ≡ false
no_blank_digit d h = ne_eqb d 32 (λ e. omega (arith, h))

no_blank_digits : (ds : List ℕ) → AllDigits 10 ds → AllByRecursion (λ b. is_blank b ≡ false) ds
no_blank_digits [] h = tt
no_blank_digits (d ∷ ds) h = (no_blank_digit d (digit_from_value d h.0), no_blank_digits ds h.1)

pub decimal_word : (bound : ℕ) → bound ≤ 2 ^ 64 → IsWord (λ n. n < bound) decimal
decimal_word bound fits = record { no_blank = λ n lt. All-from_recursion (λ b. is_blank b ≡ false) (decimal n) (no_blank_digits (decimal n) ((decimal_is_IsNumeral n (omega arith)).0.1)) }
