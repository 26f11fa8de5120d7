-- A file has one fault of names, and none where it has forms.
use Rattle.std.specs.Prelude.{◌≡◌, refl, List, [], Some}
use Rattle.std.proofs.Common.{◌∙◌, sym, subst}
use Rattle.std.proofs.lemmas.Option.{none-some, same_Some}
use Rattle.pg_text.specs.Contents.{Contents}
use Rattle.pg_normal.specs.declared.normal.Normal.{Normal}
use Rattle.pg_normal.specs.declared.naming.NameFault.{NameFault}
use Rattle.pg_normal.specs.declared.naming.NameFault.TheVariants as fault
use Rattle.pg_normal.specs.Naming.{name_faults, first, IsFirst, IsNameFault}
use Rattle.pg_normal.specs.Normals.{AreNormalsOf}

told : (fs : List NameFault) (x : NameFault) → IsFirst fs x → (x ≡ fault.Memory → ⊥) → first fs ≡ Some x
told fs (fault.Duplicate line name) h other = h
told fs (fault.UnknownGraph line name) h other = h
told fs (fault.UnknownParam line name) h other = h
told fs fault.Memory h other = absurd (other refl)

pub one_name_fault : (f : Contents) (x y : NameFault) → IsNameFault f x → IsNameFault f y → (x ≡ fault.Memory → ⊥) → (y ≡ fault.Memory → ⊥) → x ≡ y
one_name_fault f x y hx hy not_x not_y = same_Some x y (sym (told (name_faults f) x hx not_x) ∙ told (name_faults f) y hy not_y)

none_told : (x : NameFault) → IsFirst [] x → x ≡ fault.Memory
none_told (fault.Duplicate line name) h = absurd (none-some (fault.Duplicate line name) h)
none_told (fault.UnknownGraph line name) h = absurd (none-some (fault.UnknownGraph line name) h)
none_told (fault.UnknownParam line name) h = absurd (none-some (fault.UnknownParam line name) h)
none_told fault.Memory h = refl

pub forms_have_no_fault : (f : Contents) (xs : List Normal) (x : NameFault) → AreNormalsOf f xs → IsNameFault f x → x ≡ fault.Memory
forms_have_no_fault f xs x are h = none_told x (subst (λ fs. IsFirst fs x) are.names h)
