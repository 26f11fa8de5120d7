-- Lists of the values of a function, and references that serve columns place by place.
use Rattle.std.proofs.Common.{◌≡◌, ℕ, zero, suc, ◌<◌, false, List, [], ◌∷◌, length, All, slice_get, Some, get_or, refl, sym, ◌∙◌, subst, inl, inr, arith, length-append}
use Rattle.std.proofs.lemmas.Bool.{cases_eq}
use Rattle.std.proofs.lemmas.List.{get_or_append_left, get_or_at}
use Rattle.std.proofs.lemmas.Option.{slice_get_within, slice_get-get_or, get_or_from_slice_get}
use Rattle.cpog_defs.specs.declared.types.Bit3.{Bit3}
use Rattle.cpog_defs.specs.declared.types.Ref.{Ref}
use Rattle.cpog_defs.specs.declared.types.Ref.TheVariants.{Const}
use Rattle.cpog_defs.specs.Gates.{GateList, signal_count, IsRefOver}
use Rattle.cpog_defs.specs.Encodings.{RefAgrees}
use Rattle.gate_core.specs.Serving.{ReferencesServe}
use Rattle.gate_template.specs.Listed.{listed}

pub length-listed : {A : Type 0} (f : ℕ → A) (n : ℕ) → length (listed f n) ≡ n
unfolding listed
length-listed f zero = refl
length-listed f (suc n) = omega (arith, length-append (listed f n) (f n ∷ []), length-listed f n)

pub get_or-listed : {A : Type 0} (f : ℕ → A) (n i : ℕ) (d : A) → i < n → get_or (listed f n) i d ≡ f i
unfolding listed
get_or-listed f zero i d l = absurd (omega arith)
get_or-listed f (suc n) i d l = elim (cases_eq i n) [
  | inl same ↦ rw same (get_or_at (listed f n) (f n) [] d n (length-listed f n))
  | inr other ↦ get_or_append_left (listed f n) (f n ∷ []) d i (omega (arith, length-listed f n)) ∙ get_or-listed f n i d (omega arith)
]

pub from_listed : {A : Type 0} (f : ℕ → A) (n i : ℕ) (x : A) → slice_get (listed f n) i ≡ Some x → (i < n) × (x ≡ f i)
from_listed f n i x e =
    let l : i < n = omega (arith, slice_get_within (listed f n) i x e, length-listed f n) in
    (l, sym (get_or_from_slice_get (listed f n) i x x e) ∙ get_or-listed f n i x l)

-- ---- references that serve columns

-- the reference at a place serves the column there
pub agrees_at : (columns : List (List Bit3)) (codes : List ℕ) (gates : GateList) (refs : List Ref) → ReferencesServe columns codes gates refs →
    (c : ℕ) → c < length columns → RefAgrees gates codes (get_or columns c []) (get_or refs c (Const false))
agrees_at columns codes gates refs serve c l =
    serve.agrees c (get_or columns c []) (get_or refs c (Const false)) (slice_get-get_or columns c [] l) (slice_get-get_or refs c (Const false) (omega (arith, l, serve.one_each)))

-- references serve columns where each serves the one at its place
pub serve_from : (columns : List (List Bit3)) (codes : List ℕ) (gates : GateList) (refs : List Ref) → length refs ≡ length columns → All (IsRefOver (signal_count gates)) refs →
    ((c : ℕ) → c < length columns → RefAgrees gates codes (get_or columns c []) (get_or refs c (Const false))) → ReferencesServe columns codes gates refs
serve_from columns codes gates refs each over h = record {
  one_each = each;
  over = over;
  agrees = λ c column ref at there.
      subst (λ r. RefAgrees gates codes column r) (get_or_from_slice_get refs c ref (Const false) there)
      (subst (λ col. RefAgrees gates codes col (get_or refs c (Const false))) (get_or_from_slice_get columns c column [] at) (h c (slice_get_within columns c column at)));
}
