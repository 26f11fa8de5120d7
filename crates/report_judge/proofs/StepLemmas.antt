-- One part after the other.
use Rattle.std.proofs.Common.{◌≡◌, ℕ, zero, suc, ◌+◌, ◌<◌, refl, sym, ap, ◌∙◌, subst, inl, inr, arith}
use Rattle.std.specs.Prelude.{List, Result, Ok, Err, OnOk, IfErr}
use Rattle.std.proofs.lemmas.Bool.{cases_eq}
use Rattle.cpog_defs.specs.declared.types.Bit3.{Bit3}
use Rattle.cpog_defs.specs.Orders.{Order}
use Rattle.report_text.specs.Report.{ReportValue}
use Rattle.report_judge.specs.declared.basis.Basis.{Basis}
use Rattle.report_judge.specs.declared.fault.Fault.{Fault}
use Rattle.report_judge.specs.declared.fault.Fault.TheVariants as faults
use Rattle.report_judge.specs.Good.{ByClasses, Holds, IsGood}
use Rattle.report_judge.specs.Parts.{Part, place}
use Rattle.report_judge.specs.Reasons.{HoldBelow}
use Rattle.report_judge.specs.Steps.{IsBasis, IsFaultAt, IsFirstFault}

-- the part at a place
part_at : ℕ → Part
part_at zero = Part.Acyclic
part_at (suc zero) = Part.Different
part_at (suc (suc zero)) = Part.Codes
part_at (suc (suc (suc zero))) = Part.Given
part_at (suc (suc (suc (suc zero)))) = Part.Fitting
part_at (suc (suc (suc (suc (suc zero))))) = Part.Netlist
part_at (suc (suc (suc (suc (suc (suc zero)))))) = Part.Count
part_at (suc (suc (suc (suc (suc (suc (suc zero))))))) = Part.Evidence
part_at (suc (suc (suc (suc (suc (suc (suc (suc zero)))))))) = Part.Shown
part_at (suc (suc (suc (suc (suc (suc (suc (suc (suc zero))))))))) = Part.Open
part_at (suc (suc (suc (suc (suc (suc (suc (suc (suc (suc zero)))))))))) = Part.Followed
part_at (suc (suc (suc (suc (suc (suc (suc (suc (suc (suc (suc n))))))))))) = Part.Long

part_back : (part : Part) → part_at (place part) ≡ part
unfolding part_at
part_back Part.Acyclic = refl
part_back Part.Different = refl
part_back Part.Codes = refl
part_back Part.Given = refl
part_back Part.Fitting = refl
part_back Part.Netlist = refl
part_back Part.Count = refl
part_back Part.Evidence = refl
part_back Part.Shown = refl
part_back Part.Open = refl
part_back Part.Followed = refl
part_back Part.Long = refl

-- no two parts have one place
pub one_part : (a b : Part) → place a ≡ place b → a ≡ b
one_part a b e = sym (part_back a) ∙ ap part_at e ∙ part_back b

pub place_below : (part : Part) → place part < 12
place_below Part.Acyclic = omega arith
place_below Part.Different = omega arith
place_below Part.Codes = omega arith
place_below Part.Given = omega arith
place_below Part.Fitting = omega arith
place_below Part.Netlist = omega arith
place_below Part.Count = omega arith
place_below Part.Evidence = omega arith
place_below Part.Shown = omega arith
place_below Part.Open = omega arith
place_below Part.Followed = omega arith
place_below Part.Long = omega arith

-- what holds on success, and what a fault tells, may be weakened
pub ok_more : {A E : Type 0} (x : Result A E) (P Q : Type 0) → (P → Q) → OnOk x P → OnOk x Q
ok_more (Ok a) P Q f h = f h
ok_more (Err e) P Q f h = tt

pub err_more : {A E : Type 0} (x : Result A E) (P Q : E → Type 0) → ((e : E) → P e → Q e) → IfErr x P → IfErr x Q
err_more (Ok a) P Q f h = tt
err_more (Err e) P Q f h = f e h

module _ (r : ReportValue) where
  -- what is so by the basis of a report is so by its classes
  pub by_classes : (b : Basis) → IsBasis r.scenarios b → (P : List Order → List (List Bit3) → Type 0) → P b.orders.items b.classes.columns → ByClasses r P
  by_classes b is P h = record {
    orders = b.orders.items;
    columns = b.classes.columns;
    are_columns = record { are_orders = is.are_orders; table = b.table; are_columns = is.are_columns; classes = b.classes; are_classes = is.are_classes; columns_are = refl };
    holds = h;
  }

  -- one part more holds
  pub one_more : (part : Part) → HoldBelow r (place part) → Holds r part → HoldBelow r (place part + 1)
  one_more part below holds other l = elim (cases_eq (place other) (place part)) [
    | inl same ↦ subst (Holds r) (one_part part other (sym same)) holds
    | inr differ ↦ below other (omega (arith, l, differ))
  ]

  pub all_hold : HoldBelow r 12 → IsGood r
  all_hold below part = below part (place_below part)

  -- the fault of a part is the first where those before it hold
  pub first_fault : (part : Part) → HoldBelow r (place part) → (f : Fault) → IsFaultAt r part f → IsFirstFault r f
  first_fault part below (faults.Fails reason) h = record { fails = h.1; earlier = subst (λ (p : Part). HoldBelow r (place p)) (sym h.0) below }
  first_fault part below faults.Memory h = tt
