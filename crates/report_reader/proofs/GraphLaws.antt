-- Conditions that are put into a table.
use Rattle.std.proofs.Common.{◌≡◌, ◌≢◌, ℕ, zero, suc, ◌<◌, ◌≤◌, ◌+◌, ◌-◌, Bool, true, false, cond, eqb, ◌&&◌, List, [], ◌∷◌, ◌++◌, length, inl, inr, get_or, drop, refl, sym, ap, ap₂, subst, ◌∙◌, arith, drop-cons}
use Rattle.std.specs.Prelude.{slice_set, slice_index_or, replicate}
use Rattle.std.specs.List.{AllByRecursion}
use Rattle.std.proofs.lemmas.Bool.{cases_Bool, cases_eq, cases_lt, eqb-true, eq-eqb, ne_eqb}
use Rattle.std.proofs.lemmas.List.{same_lists, get_or-set_same, get_or-set_other, get_or-replicate, length-replicate, drop_all}
use Rattle.cpog_defs.specs.declared.types.Ref.{Ref}
use Rattle.cpog_defs.specs.declared.types.Ref.TheVariants.{Const}
use Rattle.cpog_defs.specs.Orders.{each_below}
use Rattle.report_reader.specs.Entries.{look, table_of, EndsFit, arc_set, arcs_set}
use Rattle.report_reader.specs.declared.gates.ArcLine.{ArcLine}
use Rattle.report_reader.proofs.EntryLaws.{length-ones, get-ones}

pub length-put : {A : Type 0} (xs : List A) (i : ℕ) (x : A) → length (slice_set xs i x) ≡ length xs
length-put [] i x = refl
length-put (y ∷ xs) zero x = refl
length-put (y ∷ xs) (suc i) x = ap suc (length-put xs i x)

put_ones : {A : Type 0} (f : ℕ → A) (n k : ℕ) (x : A) → k < n → slice_set (each_below (λ v. f v ∷ []) n) k x ≡ each_below (λ v. cond (eqb k v) x (f v) ∷ []) n
put_ones {A = A} f n k x lt = same_lists (slice_set xs k x) ys (length-put xs k x ∙ length-ones f n ∙ sym (length-ones (λ v. cond (eqb k v) x (f v)) n)) each
  where
    xs : List A
    xs = each_below (λ v. f v ∷ []) n

    ys : List A
    ys = each_below (λ v. cond (eqb k v) x (f v) ∷ []) n

    each : (i : ℕ) (d : A) → i < length (slice_set (each_below (λ v. f v ∷ []) n) k x) → get_or (slice_set (each_below (λ v. f v ∷ []) n) k x) i d ≡ get_or (each_below (λ v. cond (eqb k v) x (f v) ∷ []) n) i d
    each i d within =
        let li : i < n = omega (arith, within, length-put (each_below (λ v. f v ∷ []) n) k x, length-ones f n) in
        elim (cases_eq i k) [
          | inl same ↦ ap (λ (j : ℕ). get_or (slice_set (each_below (λ v. f v ∷ []) n) k x) j d) same ∙ get_or-set_same (each_below (λ v. f v ∷ []) n) k x d (omega (arith, lt, length-ones f n)) ∙ sym (get-ones (λ v. cond (eqb k v) x (f v)) n i d li ∙ ap (λ (b : Bool). cond b x (f i)) (eq-eqb k i (sym same)))
          | inr other ↦ get_or-set_other (each_below (λ v. f v ∷ []) n) k i x d other ∙ get-ones f n i d li ∙ sym (get-ones (λ v. cond (eqb k v) x (f v)) n i d li ∙ ap (λ (b : Bool). cond b x (f i)) (ne_eqb k i (λ e. other (sym e))))
        ]

same_ones : {A : Type 0} (f g : ℕ → A) (n : ℕ) → ((v : ℕ) → f v ≡ g v) → each_below (λ v. f v ∷ []) n ≡ each_below (λ v. g v ∷ []) n
same_ones {A = A} f g n same = ap (λ (h : ℕ → A). each_below (λ v. h v ∷ []) n) (λ i v. same v i)

put_table : (n : ℕ) (es : List ArcLine) (e : ArcLine) → EndsFit n e → arc_set (table_of n es) e ≡ table_of n (e ∷ es)
put_table n es e fits =
    ap (λ (row : List Ref). slice_set (table_of n es) e.first (slice_set row e.second e.condition)) (get-ones (λ u. each_below (λ v. look es u v ∷ []) n) n e.first [] fits.0)
    ∙ ap (λ (row : List Ref). slice_set (table_of n es) e.first row) (put_ones (look es e.first) n e.second e.condition fits.1.0)
    ∙ put_ones (λ u. each_below (λ v. look es u v ∷ []) n) n e.first (each_below (λ v. cond (eqb e.second v) e.condition (look es e.first v) ∷ []) n) fits.0
    ∙ same_ones (λ u. cond (eqb e.first u) (each_below (λ v. cond (eqb e.second v) e.condition (look es e.first v) ∷ []) n) (each_below (λ v. look es u v ∷ []) n)) (λ u. each_below (λ v. look (e ∷ es) u v ∷ []) n) n row
  where
    row : (u : ℕ) → cond (eqb e.first u) (each_below (λ v. cond (eqb e.second v) e.condition (look es e.first v) ∷ []) n) (each_below (λ v. look es u v ∷ []) n) ≡ each_below (λ v. look (e ∷ es) u v ∷ []) n
    row u = elim (cases_Bool (eqb e.first u)) [
      | inl is ↦
          ap (λ (b : Bool). cond b (each_below (λ v. cond (eqb e.second v) e.condition (look es e.first v) ∷ []) n) (each_below (λ v. look es u v ∷ []) n)) is
          ∙ ap (λ (k : ℕ). each_below (λ v. cond (eqb e.second v) e.condition (look es k v) ∷ []) n) (eqb-true e.first u is)
          ∙ ap (λ (b : Bool). each_below (λ v. cond (b && eqb e.second v) e.condition (look es u v) ∷ []) n) (sym is)
      | inr off ↦
          ap (λ (b : Bool). cond b (each_below (λ v. cond (eqb e.second v) e.condition (look es e.first v) ∷ []) n) (each_below (λ v. look es u v ∷ []) n)) off
          ∙ ap (λ (b : Bool). each_below (λ v. cond (b && eqb e.second v) e.condition (look es u v) ∷ []) n) (sym off)
    ]

same_replicate : {A : Type 0} (n : ℕ) (x : A) → replicate n x ≡ each_below (λ v. x ∷ []) n
same_replicate {A = A} n x = same_lists (replicate n x) (each_below (λ v. x ∷ []) n) (length-replicate n x ∙ sym (length-ones (λ v. x) n)) each
  where
    each : (k : ℕ) (d : A) → k < length (replicate n x) → get_or (replicate n x) k d ≡ get_or (each_below (λ v. x ∷ []) n) k d
    each k d lt = let l : k < n = omega (arith, lt, length-replicate n x) in get_or-replicate n k x d l ∙ sym (get-ones (λ v. x) n k d l)

-- into a table of zeros
pub arcs_are_table : (n : ℕ) (es : List ArcLine) → AllByRecursion (EndsFit n) es → arcs_set (replicate n (replicate n (Const false))) es ≡ table_of n es
arcs_are_table n [] fits = same_replicate n (replicate n (Const false)) ∙ ap (λ (row : List Ref). each_below (λ u. row ∷ []) n) (same_replicate n (Const false))
arcs_are_table n (e ∷ es) fits = ap (λ (rows : List (List Ref)). arc_set rows e) (arcs_are_table n es fits.1) ∙ put_table n es e fits.0
