-- Whether each parameter that a condition names is there.
use Rattle.std.specs.Prelude.{◌≡◌, refl, ℕ, ◌+◌, Bool, true, false, cond, not, nat_lt, ◌&&◌, ◌||◌, List, [], ◌∷◌, length, Option, Some, None, is_some, IfSome}
use Rattle.std.specs.List.{list_all, list_any, flat_map, position_or_len}
use Rattle.std.specs.Str.{bytes_eq}
use Rattle.std.proofs.Common.{suc, ap, ◌∙◌, sym, arith}
use Rattle.std.proofs.lemmas.Bool.Decides.{nat_tests}
use Rattle.std.proofs.lemmas.List.Folds.{list_all-append}
use Rattle.cpog_base.specs.Names.{has_text, place_of}
use Rattle.pg_algebra.specs.declared.cond.Cond.{Cond, Param}
use Rattle.pg_algebra.specs.declared.cond.Cond.TheViews.{Not, And, Or}
use Rattle.pg_algebra.specs.Conditions.{params_of}
use Rattle.pg_algebra.proofs.TreeLaws.{params_of-Not, params_of-And, params_of-Or}

abbrev pub knows : List (List ℕ) → Cond → Bool
knows params c = list_all (has_text params) (params_of c)

knows-members : (params : List (List ℕ)) (cs : List Cond) → list_all (has_text params) (flat_map params_of cs) ≡ list_all (knows params) cs
knows-members params [] = refl
knows-members params (c ∷ cs) = list_all-append (has_text params) (params_of c) (flat_map params_of cs) ∙ ap (λ b. knows params c && b) (knows-members params cs)

pub knows-And : (params : List (List ℕ)) (cs : List Cond) → knows params (And (record { members = cs })) ≡ list_all (knows params) cs
knows-And params cs = ap (list_all (has_text params)) (params_of-And cs) ∙ knows-members params cs

pub knows-Or : (params : List (List ℕ)) (cs : List Cond) → knows params (Or (record { members = cs })) ≡ list_all (knows params) cs
knows-Or params cs = ap (list_all (has_text params)) (params_of-Or cs) ∙ knows-members params cs

pub knows-Not : (params : List (List ℕ)) (c : Cond) → knows params (Not c) ≡ knows params c
knows-Not params c = ap (list_all (has_text params)) (params_of-Not c)

-- a place is found exactly where an element passes
within : {X : Type 0} (p : X → Bool) (xs : List X) → nat_lt (position_or_len p xs) (length xs) ≡ list_any p xs
within p [] = refl
within p (x ∷ xs) = elim (p x) as (λ b. nat_lt (cond (not b) (1 + position_or_len p xs) 0) (length (x ∷ xs)) ≡ (b || list_any p xs)) [
  | true ↦ grind (arith, nat_tests)
  | false ↦ both_more (position_or_len p xs) (length xs) ∙ within p xs
]
  where
    both_more : (m n : ℕ) → nat_lt (1 + m) (suc n) ≡ nat_lt m n
    both_more m n = grind (arith, nat_tests)

some_where : (b : Bool) (k : ℕ) → is_some (cond b (Some k) None) ≡ b
some_where true k = refl
some_where false k = refl

is_some-place : (params : List (List ℕ)) (name : List ℕ) → is_some (place_of params name) ≡ has_text params name
is_some-place params name = some_where (nat_lt (position_or_len (bytes_eq name) params) (length params)) (position_or_len (bytes_eq name) params) ∙ within (bytes_eq name) params

pub knows-Param : (params : List (List ℕ)) (name : List ℕ) → knows params (Param name) ≡ is_some (place_of params name)
knows-Param params name = alone (has_text params name) ∙ sym (is_some-place params name)
  where
    alone : (b : Bool) → (b && true) ≡ b
    alone true = refl
    alone false = refl

-- what follows for a value, follows for one that may be there
pub on_some : {X : Type 0} {P Q : X → Type 0} (o : Option X) → ((x : X) → P x → Q x) → IfSome o P → IfSome o Q
on_some None f h = h
on_some (Some x) f h = f x h
