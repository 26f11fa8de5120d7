-- The names of a header are read exactly.
use Rattle.std.proofs.Common.{◌≡◌, ℕ, zero, suc, ◌≤◌, ◌-◌, Bool, true, false, cond, ◌||◌, not, List, [], ◌∷◌, ◌++◌, length, drop, get_or, Option, Some, None, refl, sym, ap, ap₂, subst, ◌∙◌, arith, append_assoc, length-append, inl, inr}
use Rattle.std.specs.Prelude.{codes}
use Rattle.std.specs.List.{position_or_len, before_first, All, AllByRecursion, IsDistinct}
use Rattle.std.specs.Str.{bytes_eq}
use Rattle.std.specs.Cmp.Lexicographic.{bytes_decides}
use Rattle.std.proofs.lemmas.Bool.{both_ways, cases_Bool, ne_eqb}
use Rattle.std.proofs.lemmas.List.{append-nil, take_at, drop_at, take-append-drop, get_or_append_left, get_or-append_right}
use Rattle.std.proofs.lemmas.List.Sums.{position_or_len_is}
use Rattle.std.proofs.lemmas.List.Elements.{All-get_or, All-from_recursion}
use Rattle.cpog_base.specs.Names.{has_text, AreDistinct}
use Rattle.line_text.specs.Words.{is_free_name, continues_name}
use Rattle.line_text.proofs.TellingLemmas.{AllPass, free_name_passes}
use Rattle.line_rows.specs.Words.{behind}
use Rattle.line_rows.proofs.Exact.{behind_again, behind_takes, both_true}
use Rattle.module_reader.specs.Lists.{next_or, is_comma, is_new_name, names_run}

-- ---- a word before a comma

not_comma : (b : ℕ) → continues_name b ≡ true → is_comma b ≡ false
not_comma b h = ne_eqb b 44 (λ e. absurd (both_ways (continues_name b) (ap continues_name e) h))

no_commas : (w : List ℕ) → AllPass continues_name w → AllByRecursion (λ b. is_comma b ≡ false) w
no_commas [] h = tt
no_commas (b ∷ bs) h = (not_comma b h.0, no_commas bs h.1)

word_plain : (w : List ℕ) → is_free_name w ≡ true → All (λ b. is_comma b ≡ false) w
word_plain w h = All-from_recursion (λ b. is_comma b ≡ false) w (no_commas w (free_name_passes w h))

place_at : (w r : List ℕ) → is_free_name w ≡ true → position_or_len is_comma (w ++ 44 ∷ r) ≡ length w
place_at w r h =
    let here : is_comma (get_or (w ++ 44 ∷ r) (length w) 0) ≡ true = ap is_comma (get_or-append_right w (44 ∷ r) (length w) (length w) 0 refl (omega arith) ∙ ap (λ (i : ℕ). get_or (44 ∷ r) i 0) (none (length w))) in
    position_or_len_is is_comma (w ++ 44 ∷ r) (length w) 0 (omega (arith, length-append w (44 ∷ r))) (λ k lt. ap is_comma (get_or_append_left w (44 ∷ r) 0 k lt) ∙ All-get_or (λ b. is_comma b ≡ false) w k 0 lt (word_plain w h)) (λ _. here)
  where
    none : (n : ℕ) → n - n ≡ 0
    none n = omega arith

first_word : (w r : List ℕ) → is_free_name w ≡ true → before_first is_comma (w ++ 44 ∷ r) ≡ w
first_word w r h = rw (place_at w r h) (take_at w (44 ∷ r) (length w) refl)

after_word : (w r : List ℕ) → is_free_name w ≡ true → drop (position_or_len is_comma (w ++ 44 ∷ r)) (w ++ 44 ∷ r) ≡ 44 ∷ r
after_word w r h = rw (place_at w r h) (drop_at w (44 ∷ r) (length w) refl)

-- ---- all of them

-- each is a name, and not among those before it
abbrev pub AreNew : List (List ℕ) → List (List ℕ) → Type 0
AreNew done [] = Unit {0}
AreNew done (w ∷ ws) = (is_new_name done w ≡ true) × AreNew (done ++ w ∷ []) ws

abbrev pub names_text : List (List ℕ) → List ℕ
names_text [] = []
names_text (w ∷ ws) = codes ", a_" ++ (w ++ names_text ws)

pub record IsNamed (n : ℕ) (done : List (List ℕ)) (bytes : List ℕ) (x : List (List ℕ) × List ℕ) : Type 0 where
  pub names : List (List ℕ)
  pub few : length names ≤ n
  pub new : AreNew done names
  pub made : x.0 ≡ done ++ names
  pub whole : bytes ≡ names_text names ++ x.1

abbrev named_so : List (List ℕ) → List ℕ → List (List ℕ) × List ℕ
named_so done bytes = (done, bytes)

none_named : (n : ℕ) (done : List (List ℕ)) (bytes : List ℕ) → IsNamed n done bytes (done, bytes)
none_named n done bytes = record { names = []; few = omega arith; new = tt; made = sym (append-nil done); whole = refl }

abbrev go_on : ℕ → List (List ℕ) → List ℕ → List ℕ → List (List ℕ) × List ℕ
go_on n done bytes more = cond (is_new_name done (before_first is_comma more)) (names_run n (done ++ before_first is_comma more ∷ []) (drop (position_or_len is_comma more) more)) (done, bytes)

word_step : (n : ℕ) (done : List (List ℕ)) (bytes more w rest : List ℕ) → IsNamed n (done ++ w ∷ []) rest (names_run n (done ++ w ∷ []) rest) → bytes ≡ codes ", a_" ++ more → more ≡ w ++ rest
    → (b : Bool) → is_new_name done w ≡ b → IsNamed (suc n) done bytes (cond b (names_run n (done ++ w ∷ []) rest) (done, bytes))
word_step n done bytes more w rest r whole parts false new = none_named (suc n) done bytes
word_step n done bytes more w rest r whole parts true new = record {
  names = w ∷ r.names;
  few = omega (arith, r.few);
  new = (new, r.new);
  made = r.made ∙ append_assoc done (w ∷ []) r.names;
  whole = whole ∙ ap (λ (x : List ℕ). codes ", a_" ++ x) (parts ∙ ap (λ (x : List ℕ). w ++ x) r.whole ∙ sym (append_assoc w (names_text r.names) (names_run n (done ++ w ∷ []) rest).1));
}

name_step : (n : ℕ) (done : List (List ℕ)) (bytes : List ℕ) → ((w rest : List ℕ) → IsNamed n (done ++ w ∷ []) rest (names_run n (done ++ w ∷ []) rest))
    → (o : Option (List ℕ)) → behind (codes ", a_") bytes ≡ o → IsNamed (suc n) done bytes (next_or (done, bytes) (go_on n done bytes) o)
unfolding names_run
name_step n done bytes each None e = none_named (suc n) done bytes
name_step n done bytes each (Some more) e =
    word_step n done bytes more (before_first is_comma more) (drop (position_or_len is_comma more) more) (each _ _) (behind_takes (codes ", a_") bytes more e) (sym (take-append-drop (position_or_len is_comma more) more)) (is_new_name done (before_first is_comma more)) refl

pub names_take : (n : ℕ) (done : List (List ℕ)) (bytes : List ℕ) → IsNamed n done bytes (names_run n done bytes)
unfolding names_run
names_take zero done bytes = none_named zero done bytes
names_take (suc n) done bytes = name_step n done bytes (λ w rest. names_take n (done ++ w ∷ []) rest) (behind (codes ", a_") bytes) refl

-- what follows the names begins with a comma, and not as one of them
pub record Follows (rest : List ℕ) : Type 0 where
  pub after : List ℕ
  pub comma : rest ≡ 44 ∷ after
  pub no_name : behind (codes ", a_") rest ≡ None

commas_first : (ws : List (List ℕ)) (rest : List ℕ) → Follows rest → (r : List ℕ) × (names_text ws ++ rest ≡ 44 ∷ r)
commas_first [] rest f = (f.after, f.comma)
commas_first (w ∷ ws) rest f = (_, refl)

pub names_again : (n : ℕ) (done ws : List (List ℕ)) (rest : List ℕ) → length ws ≤ n → AreNew done ws → Follows rest → names_run n done (names_text ws ++ rest) ≡ (done ++ ws, rest)
unfolding names_run
names_again zero done [] rest le new f = ap (λ (x : List (List ℕ)). named_so x rest) (sym (append-nil done))
names_again zero done (w ∷ ws) rest le new f = absurd (omega (arith, le))
names_again (suc n) done [] rest le new f = rw f.no_name (ap (λ (x : List (List ℕ)). named_so x rest) (sym (append-nil done)))
names_again (suc n) done (w ∷ ws) rest le new f =
    let c = commas_first ws rest f in
    let free : is_free_name w ≡ true = (both_true (is_free_name w) _ new.0).0 in
    let more : List ℕ = w ++ 44 ∷ c.0 in
    let parts : (w ++ names_text ws) ++ rest ≡ more = append_assoc w (names_text ws) rest ∙ ap (λ (x : List ℕ). w ++ x) c.1 in
    let there : behind (codes ", a_") (codes ", a_" ++ ((w ++ names_text ws) ++ rest)) ≡ Some more = ap (λ (x : List ℕ). behind (codes ", a_") (codes ", a_" ++ x)) parts ∙ behind_again (codes ", a_") more in
    rw (there, first_word w c.0 free, new.0, after_word w c.0 free)
    (ap (names_run n (done ++ w ∷ [])) (sym c.1) ∙ names_again n (done ++ w ∷ []) ws rest (omega (arith, le)) new.1 f ∙ ap (λ (x : List (List ℕ)). named_so x rest) (append_assoc done (w ∷ []) ws))

-- ---- names that come one behind another are distinct, and distinct names come so

other_way : (x w : List ℕ) → bytes_eq w x ≡ false → bytes_eq x w ≡ false
other_way x w ne = elim (cases_Bool (bytes_eq x w)) [
  | inl same ↦ absurd (both_ways (bytes_eq w x) ne ((bytes_decides w x).1 (sym ((bytes_decides x w).0 same))))
  | inr is ↦ is
]

none_of : (a b : Bool) → (a || b) ≡ false → (a ≡ false) × (b ≡ false)
none_of false b h = (refl, h)
none_of true b h = absurd (both_ways true h refl)

not_true : (b : Bool) → not b ≡ true → b ≡ false
not_true false h = refl
not_true true h = absurd cc

all_push : (P : List ℕ → Type 0) (xs : List (List ℕ)) (w : List ℕ) → AllByRecursion P xs → P w → AllByRecursion P (xs ++ w ∷ [])
all_push P [] w h p = (p, tt)
all_push P (x ∷ xs) w h p = (h.0, all_push P xs w h.1 p)

all_at : (P : List ℕ → Type 0) (xs : List (List ℕ)) (w : List ℕ) (ws : List (List ℕ)) → AllByRecursion P (xs ++ w ∷ ws) → P w
all_at P [] w ws h = h.0
all_at P (x ∷ xs) w ws h = all_at P xs w ws h.1

push : (xs : List (List ℕ)) (w : List ℕ) → AreDistinct xs → has_text xs w ≡ false → AreDistinct (xs ++ w ∷ [])
unfolding IsDistinct
push [] w h new = (tt, tt)
push (x ∷ xs) w h new = let n = none_of (bytes_eq w x) (has_text xs w) new in (all_push (λ y. bytes_eq x y ≡ false) xs w h.0 (other_way x w n.0), push xs w h.1 n.1)

is_new : (xs : List (List ℕ)) (w : List ℕ) (ws : List (List ℕ)) → AreDistinct (xs ++ w ∷ ws) → has_text xs w ≡ false
unfolding IsDistinct
is_new [] w ws h = refl
is_new (x ∷ xs) w ws h = ap₂ (λ (a b : Bool). a || b) (other_way w x (all_at (λ y. bytes_eq x y ≡ false) xs w ws h.0)) (is_new xs w ws h.1)

pub new_are_distinct : (done ws : List (List ℕ)) → AreNew done ws → AreDistinct done → AreDistinct (done ++ ws) × AllByRecursion (λ w. is_free_name w ≡ true) ws
new_are_distinct done [] h distinct = (subst AreDistinct (sym (append-nil done)) distinct, tt)
new_are_distinct done (w ∷ ws) h distinct =
    let b = both_true (is_free_name w) _ h.0 in
    let r = new_are_distinct (done ++ w ∷ []) ws h.1 (push done w distinct (not_true (has_text done w) b.1)) in
    (subst AreDistinct (append_assoc done (w ∷ []) ws) r.0, (b.0, r.1))

pub distinct_are_new : (done ws : List (List ℕ)) → AllByRecursion (λ w. is_free_name w ≡ true) ws → AreDistinct (done ++ ws) → AreNew done ws
distinct_are_new done [] free distinct = tt
distinct_are_new done (w ∷ ws) free distinct = (
  rw (free.0, is_new done w ws distinct) refl,
  distinct_are_new (done ++ w ∷ []) ws free.1 (subst AreDistinct (sym (append_assoc done (w ∷ []) ws)) distinct),
)
