-- Names that come one behind another are distinct, and distinct names come so.
use Rattle.std.proofs.Common.{◌≡◌, ℕ, zero, suc, ◌<◌, ◌≤◌, ◌+◌, Bool, true, false, ◌&&◌, ◌||◌, not, List, [], ◌∷◌, ◌++◌, length, refl, sym, ap, ap₂, subst, ◌∙◌, arith, append_assoc, length-append, inl, inr}
use Rattle.std.specs.List.{AllByRecursion, IsDistinct, list_any}
use Rattle.std.specs.Str.{bytes_eq}
use Rattle.std.specs.Cmp.Lexicographic.{bytes_decides}
use Rattle.std.proofs.lemmas.Bool.{both_ways, cases_Bool, ltb-true, lt-ltb}
use Rattle.std.proofs.lemmas.List.{append-nil}
use Rattle.cpog_base.specs.Names.{has_text, AreDistinct}
use Rattle.line_text.specs.Words.{is_free_name}
use Rattle.line_rows.proofs.Exact.{both_true}
use Rattle.report_reader.specs.Reading.{is_next, AreNext}

other_way : (x w : List ℕ) → bytes_eq w x ≡ false → bytes_eq x w ≡ false
other_way x w ne = elim (cases_Bool (bytes_eq x w)) [
  | inl same ↦ absurd (both_ways (bytes_eq w x) ne ((bytes_decides w x).1 (sym ((bytes_decides x w).0 same))))
  | inr is ↦ is
]

none_of : (a b : Bool) → (a || b) ≡ false → (a ≡ false) × (b ≡ false)
none_of false b h = (refl, h)
none_of true b h = absurd (both_ways true h refl)

not_true : (b : Bool) → not b ≡ true → b ≡ false
not_true false h = refl
not_true true h = absurd cc

all_push : (P : List ℕ → Type 0) (xs : List (List ℕ)) (w : List ℕ) → AllByRecursion P xs → P w → AllByRecursion P (xs ++ w ∷ [])
all_push P [] w h p = (p, tt)
all_push P (x ∷ xs) w h p = (h.0, all_push P xs w h.1 p)

all_at : (P : List ℕ → Type 0) (xs : List (List ℕ)) (w : List ℕ) (ws : List (List ℕ)) → AllByRecursion P (xs ++ w ∷ ws) → P w
all_at P [] w ws h = h.0
all_at P (x ∷ xs) w ws h = all_at P xs w ws h.1

push : (xs : List (List ℕ)) (w : List ℕ) → AreDistinct xs → has_text xs w ≡ false → AreDistinct (xs ++ w ∷ [])
unfolding IsDistinct
push [] w h new = (tt, tt)
push (x ∷ xs) w h new = let n = none_of (bytes_eq w x) (has_text xs w) new in (all_push (λ y. bytes_eq x y ≡ false) xs w h.0 (other_way x w n.0), push xs w h.1 n.1)

is_new : (xs : List (List ℕ)) (w : List ℕ) (ws : List (List ℕ)) → AreDistinct (xs ++ w ∷ ws) → has_text xs w ≡ false
unfolding IsDistinct
is_new [] w ws h = refl
is_new (x ∷ xs) w ws h = ap₂ (λ (a b : Bool). a || b) (other_way w x (all_at (λ y. bytes_eq x y ≡ false) xs w ws h.0)) (is_new xs w ws h.1)

pub next_are_distinct : (limit : ℕ) (done ws : List (List ℕ)) → AreNext limit done ws → AreDistinct done → length done ≤ limit → AreDistinct (done ++ ws) × (length (done ++ ws) ≤ limit)
next_are_distinct limit done [] h distinct few = subst (λ (x : List (List ℕ)). AreDistinct x × (length x ≤ limit)) (sym (append-nil done)) (distinct, few)
next_are_distinct limit done (w ∷ ws) h distinct few =
    let b = both_true (is_free_name w) _ h.0 in
    let c = both_true (not (has_text done w)) _ b.1 in
    subst (λ (x : List (List ℕ)). AreDistinct x × (length x ≤ limit)) (append_assoc done (w ∷ []) ws)
    (next_are_distinct limit (done ++ w ∷ []) ws h.1 (push done w distinct (not_true (has_text done w) c.0)) (omega (arith, length-append done (w ∷ []), ltb-true _ _ c.1)))

pub distinct_are_next : (limit : ℕ) (done ws : List (List ℕ)) → AllByRecursion (λ w. is_free_name w ≡ true) ws → AreDistinct (done ++ ws) → length (done ++ ws) ≤ limit → AreNext limit done ws
distinct_are_next limit done [] free distinct few = tt
distinct_are_next limit done (w ∷ ws) free distinct few = (
  rw (free.0, is_new done w ws distinct, lt-ltb (length done) limit (omega (arith, length-append done (w ∷ ws), few))) refl,
  distinct_are_next limit (done ++ w ∷ []) ws free.1 (subst AreDistinct (sym (append_assoc done (w ∷ []) ws)) distinct) (subst (λ (x : List (List ℕ)). length x ≤ limit) (sym (append_assoc done (w ∷ []) ws)) few),
)
