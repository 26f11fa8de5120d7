-- Columns that are the same at each place have the same classes.
use Rattle.std.proofs.Common.{◌≡◌, suc, List, [], ◌∷◌, length, map, refl, sym, ap₂, ◌∙◌, arith, subst}
use Rattle.std.specs.List.{All}
use Rattle.cpog_defs.specs.declared.types.Place.{Place}
use Rattle.cpog_defs.specs.Graphs.{IsPlace}
use Rattle.gate_core.specs.Columns.{IsOpenColumn}
use Rattle.cpog_merge.specs.Columns.{Columns, column_at, AreSameColumns}
use Rattle.cpog_merge.specs.Classes.{IsOpenPlace, IsClass, IsServedBy, belongs_at, BelongsTo}
use Rattle.cpog_merge.specs.Laws.{SameColumnsSameClasses}

other_way : (t u : Columns) → AreSameColumns t u → AreSameColumns u t
other_way t u same = record {
  count = sym same.count;
  columns = λ p l. sym (same.columns p (subst (λ n. IsPlace n p) (sym same.count) l));
}

same_open : (t u : Columns) (p : Place) → AreSameColumns t u → IsOpenPlace t p → IsOpenPlace u p
same_open t u p same is = record {
  place = subst (λ n. IsPlace n p) same.count is.place;
  column = subst (λ c. IsOpenColumn (length c) c) (same.columns p is.place) is.column;
}

same_served : (t u : Columns) (p q : Place) → AreSameColumns t u → IsPlace t.count p → IsPlace t.count q → IsServedBy (column_at t p) (column_at t q) → IsServedBy (column_at u p) (column_at u q)
same_served t u p q same lp lq h = subst (λ c. IsServedBy c (column_at u q)) (same.columns p lp) (subst (λ c. IsServedBy (column_at t p) c) (same.columns q lq) h)

same_class : (t u : Columns) (p : Place) → AreSameColumns t u → IsClass t p → IsClass u p
same_class t u p same is =
    let back = other_way t u same in
    let opened = same_open t u p same is.is_open in
    record {
      is_open = opened;
      none_earlier = λ q o before served. is.none_earlier q (same_open u t q back o) before (same_served u t p q back opened.place o.place served);
      serves_back = λ q o after served. same_served t u q p same (same_open u t q back o).place is.is_open.place (is.serves_back q (same_open u t q back o) after (same_served u t p q back opened.place o.place served));
    }

all_of : {A B : Type 0} (P : A → Type 0) (f g : A → B) (xs : List A) → All P xs → ((x : A) → P x → f x ≡ g x) → map f xs ≡ map g xs
all_of P f g [] all same = refl
all_of P f g (x ∷ xs) all same = ap₂ (λ z zs. z ∷ zs) (same x (all 0 x (omega arith))) (all_of P f g xs (λ k d l. all (suc k) d (omega arith)) same)

pub same_classes : SameColumnsSameClasses
same_classes t u list same are = record {
  count = are.count ∙ same.count;
  places = record {
    each = λ k d l. same_class t u _ same (are.places.each k d l);
    all = λ p is. are.places.all p (same_class u t p (other_way t u same) is);
    in_order = are.places.in_order;
  };
  columns = are.columns ∙ all_of (IsClass t) (column_at t) (column_at u) list.places are.places.each (λ p is. same.columns p is.is_open.place);
  belongs = λ p l. let here = subst (λ n. IsPlace n p) (sym same.count) l in subst (λ c. BelongsTo list c (belongs_at list p)) (same.columns p here) (are.belongs p here);
}
