-- Rows of a matrix, as loops read them.
use Rattle.std.proofs.Common.{◌≡◌, ℕ, zero, suc, ◌<◌, ◌+◌, Bool, false, List, [], ◌∷◌, length, map, get_or, refl, ap, ◌∙◌, arith}
use Rattle.line_rows.specs.Position.{Position}
use Rattle.line_rows.specs.Reading.{many_of}
use Rattle.module_reader.specs.Rows.{arc_at, arcs_from_at}
use Rattle.module_reader.specs.Modules.{is_declared}

-- the row of a matrix that stands at a place
pub row_same : (inputs gates count u : ℕ) (rows : List (List Bool)) (d : List Bool) (p : Position) → d ≡ get_or rows u [] → length (get_or rows u []) ≡ count
    → many_of (λ v. arc_at inputs gates (get_or d v false) u v) (λ v _. v + 1) (length d) 0 p ≡ arcs_from_at inputs gates (is_declared rows) count u p
row_same inputs gates count u rows d p e long =
    ap (λ (x : List Bool). many_of (λ v. arc_at inputs gates (get_or x v false) u v) (λ v _. v + 1) (length x) 0 p) e
    ∙ ap (λ (n : ℕ). many_of (λ v. arc_at inputs gates (is_declared rows u v) u v) (λ v _. v + 1) n 0 p) long

pub mapped_at : {X Y : Type 0} (f : X → Y) (xs : List X) (i : ℕ) (d : X) (e : Y) → i < length xs → get_or (map f xs) i e ≡ f (get_or xs i d)
mapped_at f [] i d e lt = absurd (omega (arith, lt))
mapped_at f (x ∷ xs) zero d e lt = refl
mapped_at f (x ∷ xs) (suc i) d e lt = mapped_at f xs i d e (omega (arith, lt))
