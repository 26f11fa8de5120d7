-- The steps that fill a column.
use Rattle.std.proofs.Common.{◌≡◌, ℕ, suc, ◌+◌, ◌-◌, ◌<◌, List, [], ◌∷◌, ◌++◌, map, take, length, get_or, replicate, slice_set, sym, ◌∙◌, arith, append_assoc}
use Rattle.std.proofs.lemmas.List.{length-map, map-append, take_more, set-append_right, length-take}

-- the first i entries are said, and the rest is as it was
module _ {A B : Type 0} (f : A → B) (free : B) (xs : List A) where
  abbrev pub filled : ℕ → List B
  filled i = map f (take i xs) ++ replicate (length xs - i) free

  pub fill_more : (i : ℕ) (d : A) → i < length xs → slice_set (filled i) i (f (get_or xs i d)) ≡ filled (i + 1)
  fill_more i d l =
      let rest : length xs - i ≡ suc (length xs - (i + 1)) = omega arith in
      let front : length (map f (take i xs)) ≡ i = length-map (take i xs) f ∙ omega (arith, length-take i xs) in
      let none : i - i ≡ 0 = omega arith in
      rw (set-append_right (map f (take i xs)) (replicate (length xs - i) free) i i (f (get_or xs i d)) front (omega arith), none, rest, take_more xs i d l, map-append)
      (sym (append_assoc (map f (take i xs)) (f (get_or xs i d) ∷ []) (replicate (length xs - (i + 1)) free)))
