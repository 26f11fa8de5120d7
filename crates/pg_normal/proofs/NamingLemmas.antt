-- Faults of names, part by part.
use Rattle.std.specs.Prelude.{◌≡◌, ◌⊎◌, refl, ℕ, ◌<◌, ◌+◌, false, List, [], ◌∷◌, ◌++◌, map, length, slice_get, Some, is_some}
use Rattle.std.specs.List.{flat_map}
use Rattle.std.proofs.Common.{ap, ◌∙◌, sym, subst, get_or, slice_index_or, drop, suc, add-one, inl, inr}
use Rattle.std.proofs.Math.Seq.{drop-cons}
use Rattle.std.proofs.Math.Bool.{and-true}
use Rattle.std.proofs.lemmas.Bool.{both_ways}
use Rattle.std.proofs.lemmas.Grind.{flat_map-append}
use Rattle.std.proofs.lemmas.List.Folds.{flat_map-map}
use Rattle.std.proofs.lemmas.Option.{slice_get_within, get_or_from_slice_get, slice_get-get_or}
use denote.Hole.Carrier.{hidden}
use Rattle.cpog_base.specs.Names.{has_text, place_of}
use Rattle.pg_algebra.specs.declared.cond.Cond.{Cond}
use Rattle.pg_algebra.specs.declared.cond.Cond.TheViews.{Not, And, Or}
use Rattle.pg_algebra.specs.declared.expr.Expr.{Expr}
use Rattle.pg_algebra.specs.declared.expr.Expr.TheBlock.{hidden-the_row-Expr-0, hidden-the_row-Expr-1}
use Rattle.pg_algebra.specs.declared.expr.Expr.TheViews.{When, Overlay, Sequence}
use Rattle.pg_algebra.specs.Conditions.{params_of}
use Rattle.pg_algebra.proofs.KnownLemmas.{knows-Param}
use Rattle.pg_algebra.proofs.TreeLaws.{params_of-Not, params_of-And, params_of-Or}
use Rattle.pg_text.specs.declared.statement.Numbered.{Numbered}
use Rattle.pg_normal.specs.declared.scope.Scope.{Scope}
use Rattle.pg_normal.specs.declared.naming.NameFault.{NameFault}
use Rattle.pg_normal.specs.declared.naming.NameFault.TheVariants as fault
use Rattle.pg_normal.specs.Naming.{param_used, uses, unknown_param, unknown, expr_faults, statement_faults, scope_after, scope_from, faults_from, first, IsFirst}

pub has_place : (names : List (List ℕ)) (name : List ℕ) → is_some (place_of names name) ≡ has_text names name
has_place names name = sym (knows-Param names name) ∙ and-true (has_text names name)

-- ---- the first of more faults

first_of_more : (xs ys : List NameFault) (f : NameFault) → first xs ≡ Some f → first (xs ++ ys) ≡ Some f
first_of_more [] ys f h = absurd (both_ways false refl (ap is_some h))
first_of_more (x ∷ xs) ys f h = h

pub first_left : (xs ys : List NameFault) (f : NameFault) → IsFirst xs f → IsFirst (xs ++ ys) f
first_left xs ys (fault.Duplicate line name) h = first_of_more xs ys (fault.Duplicate line name) h
first_left xs ys (fault.UnknownGraph line name) h = first_of_more xs ys (fault.UnknownGraph line name) h
first_left xs ys (fault.UnknownParam line name) h = first_of_more xs ys (fault.UnknownParam line name) h
first_left xs ys fault.Memory h = h

-- the first of the whole is that of a part behind parts without faults
pub first_in : (whole part rest : List NameFault) (f : NameFault) → whole ≡ part ++ rest → IsFirst part f → IsFirst whole f
first_in whole part rest f is h = subst (λ fs. IsFirst fs f) (sym is) (first_left part rest f h)

-- ---- one item of a list

pub next : {X : Type 0} (xs : List X) (i : ℕ) (x d : X) → i < length xs → x ≡ get_or xs i d → drop i xs ≡ x ∷ drop (i + 1) xs
next xs i x d h is = rw add-one (drop-cons xs i d h ∙ ap (λ y. y ∷ drop (suc i) xs) (sym is))

-- ---- the parts of trees

flat_map-twice : {X Y A : Type 0} (g : Y → List A) (f : X → List Y) (xs : List X) → flat_map g (flat_map f xs) ≡ flat_map (λ x. flat_map g (f x)) xs
flat_map-twice g f [] = refl
flat_map-twice g f (x ∷ xs) = flat_map-append g (f x) (flat_map f xs) ∙ ap (λ l. flat_map g (f x) ++ l) (flat_map-twice g f xs)

abbrev pub cond_faults : ℕ → List (List ℕ) → Cond → List NameFault
cond_faults line params c = flat_map (unknown_param line params) (params_of c)

pub faults-Not : (line : ℕ) (params : List (List ℕ)) (c : Cond) → cond_faults line params (Not c) ≡ cond_faults line params c
faults-Not line params c = ap (flat_map (unknown_param line params)) (params_of-Not c)

-- whichever sign joins them
pub faults-conditions : (line : ℕ) (params : List (List ℕ)) (c : Cond) (cs : List Cond) →
    (c ≡ And (record { members = cs })) ⊎ (c ≡ Or (record { members = cs })) →
    flat_map (unknown_param line params) (flat_map params_of cs) ≡ cond_faults line params c
faults-conditions line params c cs (inl is) = ap (flat_map (unknown_param line params)) (sym (ap params_of is ∙ params_of-And cs))
faults-conditions line params c cs (inr is) = ap (flat_map (unknown_param line params)) (sym (ap params_of is ∙ params_of-Or cs))

uses-When : (c : Cond) (e : Expr) → uses (When c e) ≡ map param_used (params_of c) ++ uses e
unfolding hidden-the_row-Expr-0 hidden
uses-When c e = refl

uses-Overlay : (es : List Expr) → uses (Overlay (record { members = es })) ≡ flat_map uses es
unfolding hidden-the_row-Expr-1 hidden
uses-Overlay [] = refl
uses-Overlay (e ∷ es) = ap (λ us. uses e ++ us) (uses-Overlay es)

uses-Sequence : (es : List Expr) → uses (Sequence (record { members = es })) ≡ flat_map uses es
unfolding hidden-the_row-Expr-1 hidden
uses-Sequence [] = refl
uses-Sequence (e ∷ es) = ap (λ us. uses e ++ us) (uses-Sequence es)

pub faults-When : (line : ℕ) (scope : Scope) (c : Cond) (e : Expr) → expr_faults line scope (When c e) ≡ cond_faults line scope.params c ++ expr_faults line scope e
faults-When line scope c e = ap (flat_map (unknown line scope)) (uses-When c e) ∙ flat_map-append (unknown line scope) (map param_used (params_of c)) (uses e)
    ∙ ap (λ fs. fs ++ expr_faults line scope e) (flat_map-map (unknown line scope) param_used (params_of c))

uses-row : (e : Expr) (es : List Expr) → (e ≡ Overlay (record { members = es })) ⊎ (e ≡ Sequence (record { members = es })) → uses e ≡ flat_map uses es
uses-row e es (inl is) = ap uses is ∙ uses-Overlay es
uses-row e es (inr is) = ap uses is ∙ uses-Sequence es

pub faults-row : (line : ℕ) (scope : Scope) (e : Expr) (es : List Expr) →
    (e ≡ Overlay (record { members = es })) ⊎ (e ≡ Sequence (record { members = es })) →
    flat_map (expr_faults line scope) es ≡ expr_faults line scope e
faults-row line scope e es is = sym (ap (flat_map (unknown line scope)) (uses-row e es is) ∙ flat_map-twice (unknown line scope) uses es)

-- ---- one line more

-- the item of a list that is gone over
pub item_at : (ss xs : List Numbered) (i : ℕ) (n d : Numbered) → xs ≡ ss → i < length xs → n ≡ slice_index_or xs i d → slice_get ss i ≡ Some n
item_at ss xs i n d same within is = ap (λ ys. slice_get ys i) (sym same) ∙ slice_get-get_or xs i d within ∙ ap Some (sym is)

module _ (ss : List Numbered) (i : ℕ) (n : Numbered) (here : slice_get ss i ≡ Some n) where
  split : drop i ss ≡ n ∷ drop (i + 1) ss
  split = next ss i n n (slice_get_within ss i n here) (sym (get_or_from_slice_get ss i n n here))

  module _ (scope : Scope) (whole : List NameFault) (so_far : whole ≡ faults_from scope (drop i ss)) where
    parts : whole ≡ statement_faults n.line scope n.statement ++ faults_from (scope_after scope n.statement) (drop (i + 1) ss)
    parts = so_far ∙ ap (faults_from scope) split

    pub line_passes : (new : Scope) → statement_faults n.line scope n.statement ≡ [] → new ≡ scope_after scope n.statement → whole ≡ faults_from new (drop (i + 1) ss)
    line_passes new none is = parts ∙ ap (λ fs. fs ++ faults_from (scope_after scope n.statement) (drop (i + 1) ss)) none ∙ ap (λ x. faults_from x (drop (i + 1) ss)) (sym is)

    pub line_faulty : (f : NameFault) → IsFirst (statement_faults n.line scope n.statement) f → IsFirst whole f
    line_faulty f h = first_in whole (statement_faults n.line scope n.statement) (faults_from (scope_after scope n.statement) (drop (i + 1) ss)) f parts h

  pub line_defines : (scope whole : Scope) → whole ≡ scope_from scope (drop i ss) → (new : Scope) → new ≡ scope_after scope n.statement → whole ≡ scope_from new (drop (i + 1) ss)
  line_defines scope whole so_far new is = so_far ∙ ap (scope_from scope) split ∙ ap (λ x. scope_from x (drop (i + 1) ss)) (sym is)
