-- What an expression has is what its members have.
use Rattle.std.specs.Prelude.{◌≡◌, ◌⊎◌, refl, ℕ, ◌<◌, ◌+◌, ◌&&◌, List, [], ◌∷◌, ◌++◌, length, IsTrue}
use Rattle.std.specs.List.{list_all, flat_map}
use Rattle.std.proofs.Common.{ap, ◌∙◌, sym, subst, get_or, drop, inl, inr}
use Rattle.std.proofs.lemmas.Bool.{and_parts}
use denote.Hole.Carrier.{hidden}
use Rattle.cpog_base.specs.Names.{has_text}
use Rattle.pg_algebra.specs.declared.cond.Cond.{Cond}
use Rattle.pg_algebra.specs.declared.expr.Expr.{Expr}
use Rattle.pg_algebra.specs.declared.expr.Expr.TheBlock.{hidden-the_row-Expr-0, hidden-the_row-Expr-1}
use Rattle.pg_algebra.specs.declared.expr.Expr.TheViews.{When, Overlay, Sequence}
use Rattle.pg_algebra.specs.Conditions.{params_of}
use Rattle.pg_normal.specs.Appearing.{appearing, with_number, with_numbers}
use Rattle.pg_normal.specs.Sound.{is_sound, all_sound}
use Rattle.pg_normal.proofs.RowLemmas.{next_item}

sound-When : (count : ℕ) (params : List (List ℕ)) (c : Cond) (e : Expr) → is_sound count params (When c e) ≡ (list_all (has_text params) (params_of c) && is_sound count params e)
unfolding hidden-the_row-Expr-0 hidden
sound-When count params c e = refl

-- what a prefix and what it governs speak of
pub under_parts : (count : ℕ) (params : List (List ℕ)) (whole : Expr) (c : Cond) (e : Expr) → whole ≡ When c e → IsTrue (is_sound count params whole)
    → IsTrue (list_all (has_text params) (params_of c)) × IsTrue (is_sound count params e)
under_parts count params whole c e is sound =
    and_parts (list_all (has_text params) (params_of c)) (is_sound count params e)
    (subst (λ b. IsTrue b) (ap (is_sound count params) is ∙ sound-When count params c e) sound)

pub sound-Overlay : (count : ℕ) (params : List (List ℕ)) (es : List Expr) → is_sound count params (Overlay (record { members = es })) ≡ all_sound count params es
unfolding hidden-the_row-Expr-1 hidden
sound-Overlay count params [] = refl
sound-Overlay count params (e ∷ es) = ap (λ b. is_sound count params e && b) (sound-Overlay count params es)

pub sound-Sequence : (count : ℕ) (params : List (List ℕ)) (es : List Expr) → is_sound count params (Sequence (record { members = es })) ≡ all_sound count params es
unfolding hidden-the_row-Expr-1 hidden
sound-Sequence count params [] = refl
sound-Sequence count params (e ∷ es) = ap (λ b. is_sound count params e && b) (sound-Sequence count params es)

pub appearing-When : (earlier : List ℕ → List ℕ) (c : Cond) (e : Expr) → appearing earlier (When c e) ≡ appearing earlier e
unfolding hidden-the_row-Expr-0 hidden
appearing-When earlier c e = refl

appearing-Overlay : (earlier : List ℕ → List ℕ) (es : List Expr) → appearing earlier (Overlay (record { members = es })) ≡ flat_map (appearing earlier) es
unfolding hidden-the_row-Expr-1 hidden
appearing-Overlay earlier [] = refl
appearing-Overlay earlier (e ∷ es) = ap (λ vs. appearing earlier e ++ vs) (appearing-Overlay earlier es)

appearing-Sequence : (earlier : List ℕ → List ℕ) (es : List Expr) → appearing earlier (Sequence (record { members = es })) ≡ flat_map (appearing earlier) es
unfolding hidden-the_row-Expr-1 hidden
appearing-Sequence earlier [] = refl
appearing-Sequence earlier (e ∷ es) = ap (λ vs. appearing earlier e ++ vs) (appearing-Sequence earlier es)

-- whichever sign joins the members
pub appearing-row : (earlier : List ℕ → List ℕ) (e : Expr) (es : List Expr) →
    (e ≡ Overlay (record { members = es })) ⊎ (e ≡ Sequence (record { members = es })) →
    flat_map (appearing earlier) es ≡ appearing earlier e
appearing-row earlier e es (inl is) = sym (ap (appearing earlier) is ∙ appearing-Overlay earlier es)
appearing-row earlier e es (inr is) = sym (ap (appearing earlier) is ∙ appearing-Sequence earlier es)

pub with_numbers-append : (vs xs ys : List ℕ) → with_numbers vs (xs ++ ys) ≡ with_numbers (with_numbers vs xs) ys
with_numbers-append vs [] ys = refl
with_numbers-append vs (x ∷ xs) ys = with_numbers-append (with_number vs x) xs ys

-- one more member is noted
pub note_step : (earlier : List ℕ → List ℕ) (items : List Expr) (i : ℕ) (x : Expr) (old new whole : List ℕ) → i < length items → x ≡ get_or items i x
    → new ≡ with_numbers old (appearing earlier x)
    → with_numbers old (flat_map (appearing earlier) (drop i items)) ≡ whole
    → with_numbers new (flat_map (appearing earlier) (drop (i + 1) items)) ≡ whole
note_step earlier items i x old new whole h at is so_far =
    ap (λ vs. with_numbers vs (flat_map (appearing earlier) (drop (i + 1) items))) is
    ∙ sym (with_numbers-append old (appearing earlier x) (flat_map (appearing earlier) (drop (i + 1) items)))
    ∙ ap (λ es. with_numbers old (flat_map (appearing earlier) es)) (sym (next_item items i x h at))
    ∙ so_far

pub note_one : (items : List ℕ) (i x : ℕ) (old new whole : List ℕ) → i < length items → x ≡ get_or items i x
    → new ≡ with_number old x
    → with_numbers old (drop i items) ≡ whole
    → with_numbers new (drop (i + 1) items) ≡ whole
note_one items i x old new whole h at is so_far =
    ap (λ vs. with_numbers vs (drop (i + 1) items)) is ∙ ap (with_numbers old) (sym (next_item items i x h at)) ∙ so_far
