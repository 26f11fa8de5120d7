-- Facts of optional elements and answers.
use Rattle.std.proofs.Common.{◌≡◌, Option, Some, None, refl}
use Rattle.std.specs.Prelude.{IfOk, IsSomeAnd, Result, Ok, Err}

-- the element that is known of a place
pub some_at : {X : Type 0} (P : X → Type 0) (o : Option X) → IsSomeAnd o P → (x : X) × (o ≡ Some x) × P x
some_at P None h = elim h [ ]
some_at P (Some x) h = (x, refl, h)

-- a fact of the answer that follows from another
pub if_ok_map : {X E : Type 0} (P Q : X → Type 0) (r : Result X E) → ((x : X) → P x → Q x) → IfOk r P → IfOk r Q
if_ok_map P Q (Ok x) f h = f x h
if_ok_map P Q (Err e) f h = tt
