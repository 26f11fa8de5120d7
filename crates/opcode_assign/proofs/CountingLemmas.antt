-- Classes that are taken in order are no more than there are classes.
use Rattle.std.proofs.Common.{◌≡◌, ℕ, zero, suc, ◌+◌, ◌-◌, ◌<◌, ◌≤◌, List, [], ◌∷◌, ◌++◌, length, map, take, get_or, sym, ap, ◌∙◌, arith, inl, inr}
use Rattle.std.specs.List.{AllPairs}
use Rattle.std.proofs.lemmas.Bool.{cases_eq}
use Rattle.std.proofs.lemmas.List.{take_more, map-append}
use Rattle.std.proofs.lemmas.List.Elements.{Contains-get_or}
use Rattle.cpog_defs.specs.declared.types.Bit3.{Bit3}
use Rattle.cpog_merge.specs.Incompatible.{AreTaken}

rank : (xs : List ℕ) → AllPairs (λ s t. s < t) xs → (k : ℕ) → k < length xs → k ≤ get_or xs k 0
rank xs h zero l = omega arith
rank xs h (suc k) l = omega (arith, rank xs h k (omega arith), h k (suc k) 0 (omega arith) l)

pub taken_few : (columns : List (List Bit3)) (n : ℕ) (taken : List ℕ) → AreTaken columns n taken → length taken ≤ n
taken_few columns n taken h = elim (cases_eq (length taken) 0) [
  | inl none ↦ omega (arith, none)
  | inr some ↦
      let last : length taken - 1 < length taken = omega (arith, some) in
      omega (arith, rank taken h.in_order (length taken - 1) last, ((h.exactly (get_or taken (length taken - 1) 0)).0 (Contains-get_or taken (length taken - 1) 0 last)).0)
]

-- one more item of a list, as a function has it
pub mapped_more : {A B : Type 0} (f : A → B) (xs : List A) (d : A) (k : ℕ) (now new : List B) (y : B) → k < length xs → now ≡ map f (take k xs) → y ≡ f (get_or xs k d) → new ≡ now ++ y ∷ [] → new ≡ map f (take (k + 1) xs)
mapped_more f xs d k now new y l e is pushed =
    pushed ∙ ap (λ ys. ys ++ y ∷ []) e ∙ ap (λ z. map f (take k xs) ++ z ∷ []) is ∙ sym (ap (map f) (take_more xs k d l) ∙ map-append f (take k xs) (get_or xs k d ∷ []))
