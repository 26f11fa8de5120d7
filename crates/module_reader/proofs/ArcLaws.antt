-- The rows of arc wires: a line where the wire is declared, and the matrix of the netlist is what they say.
use Rattle.std.proofs.Common.{◌≡◌, ℕ, zero, suc, ◌<◌, ◌+◌, ◌^◌, Bool, true, false, List, [], ◌∷◌, ◌++◌, length, map, get_or, Option, Some, None, refl, sym, ap, subst, ◌∙◌}
use Rattle.std.specs.Prelude.{codes, is_some}
use Rattle.std.proofs.lemmas.List.{map-append}
use Rattle.cpog_defs.specs.declared.types.Ref.{Ref}
use Rattle.cpog_defs.specs.declared.types.Ref.TheVariants.{Const, Signal}
use Rattle.cpog_defs.specs.Orders.{each_below}
use Rattle.cpog_defs.specs.Gates.{IsRefOver}
use Rattle.handshake_eqs.specs.Netlists.{IsWireOver}
use Rattle.netlist_verilog.specs.Wires.{ArcCondition, wire_text}
use Rattle.netlist_verilog.specs.Formulas.{equation_row}
use Rattle.netlist_verilog.specs.Equations.{arc_equation, ref_formula}
use Rattle.line_rows.specs.Reading.{lines_many}
use Rattle.line_rows.proofs.Exact.{IsExact, exact-behind, exact-before}
use Rattle.line_rows.proofs.RowLaws.{IsRows, rows-row, rows-view, rows-none, rows-many, FitsMany}
use Rattle.module_reader.specs.Rows.{arc_in, declared_wire, arc_at, arcs_from_at, arcs_at}
use Rattle.module_reader.proofs.References.{reference_text, reference_exact, exact-same}
use Rattle.module_reader.proofs.RowLaws.{rows-same, lines_from_first}

abbrev arc_text : ℕ → List (List ℕ) → ℕ → ℕ → Ref → List ℕ
arc_text inputs names u v r = equation_row inputs names (record { wire = ArcCondition u v; formula = ref_formula r; comment = None })

arc_same : (inputs : ℕ) (names : List (List ℕ)) (u v : ℕ) (r : Ref) → codes "  assign " ++ (wire_text inputs [] (ArcCondition u v) ++ (codes " = " ++ (reference_text inputs r ++ codes ";"))) ≡ arc_text inputs names u v r
arc_same inputs names u v (Const false) = refl
arc_same inputs names u v (Const true) = refl
arc_same inputs names u v (Signal n false) = refl
arc_same inputs names u v (Signal n true) = refl

arc_exact : (inputs gates : ℕ) (names : List (List ℕ)) (u v : ℕ) → inputs + gates < 2 ^ 32 → IsExact (IsRefOver (inputs + gates)) (arc_text inputs names u v) (arc_in inputs gates u v)
unfolding arc_in
arc_exact inputs gates names u v small =
    exact-same (arc_text inputs names u v) (λ r _. arc_same inputs names u v r)
    (exact-behind (codes "  assign ") (exact-behind (wire_text inputs [] (ArcCondition u v)) (exact-behind (codes " = ") (exact-before (codes ";") (reference_exact inputs gates small)))))

-- a wire that is declared or not
abbrev pub IsDeclared : ℕ → Bool → Option Ref → Type 0
IsDeclared signals d w = (is_some w ≡ d) × IsWireOver signals w

abbrev pub wire_lines : ℕ → List (List ℕ) → ℕ → ℕ → Option Ref → List (List ℕ)
wire_lines inputs names u v w = map (equation_row inputs names) (arc_equation u v w)

arc_rows : (inputs gates : ℕ) (names : List (List ℕ)) (d : Bool) (u v : ℕ) → inputs + gates < 2 ^ 32 → IsRows (IsDeclared (inputs + gates) d) (wire_lines inputs names u v) (arc_at inputs gates d u v)
arc_rows inputs gates names false u v small = rows-same (IsDeclared (inputs + gates) false) (wire_lines inputs names u v) (rows-none None) from (λ w e. subst (λ (x : Option Ref). IsDeclared (inputs + gates) false x × (wire_lines inputs names u v x ≡ [])) (sym e) ((refl, tt), refl))
  where
    from : (w : Option Ref) → IsDeclared (inputs + gates) false w → (w ≡ None) × (wire_lines inputs names u v w ≡ [])
    from None h = (refl, refl)
    from (Some r) h = absurd cc
arc_rows inputs gates names true u v small = rows-view declared_wire (IsDeclared (inputs + gates) true) (wire_lines inputs names u v) (rows-row (arc_exact inputs gates names u v small) (Const false, tt)) from (λ r fits. ((refl, fits), refl))
  where
    from : (w : Option Ref) → IsDeclared (inputs + gates) true w → (r : Ref) × IsRefOver (inputs + gates) r × (wire_lines inputs names u v w ≡ arc_text inputs names u v r ∷ []) × (declared_wire r ≡ w)
    from None h = absurd cc
    from (Some r) h = (r, h.1, refl, refl)

-- ---- those of one operation

pub map_below : {X Y : Type 0} (f : X → Y) (g : ℕ → List X) (n : ℕ) → map f (each_below g n) ≡ each_below (λ k. map f (g k)) n
map_below f g zero = refl
map_below {Y = Y} f g (suc n) = map-append f (each_below g n) (g n) ∙ ap (λ (ys : List Y). ys ++ map f (g n)) (map_below f g n)

abbrev pub AreDeclared : ℕ → (ℕ → ℕ → Bool) → ℕ → ℕ → List (Option Ref) → Type 0
AreDeclared signals declared count u ws = FitsMany (λ v w. IsDeclared signals (declared u v) w) (λ v _. v + 1) count 0 ws

fits_length : {A : Type 0} (F : ℕ → A → Type 0) (n i : ℕ) (xs : List A) → FitsMany F (λ i _. i + 1) n i xs → length xs ≡ n
fits_length F zero i [] h = refl
fits_length F zero i (x ∷ xs) h = absurd h
fits_length F (suc n) i [] h = absurd h
fits_length F (suc n) i (x ∷ xs) h = ap suc (fits_length F n (i + 1) xs h.1)

abbrev pub wires_lines : ℕ → List (List ℕ) → ℕ → ℕ → List (Option Ref) → List (List ℕ)
wires_lines inputs names count u ws = map (equation_row inputs names) (each_below (λ v. arc_equation u v (get_or ws v None)) count)

wires_written : (inputs : ℕ) (names : List (List ℕ)) (signals count u : ℕ) (declared : ℕ → ℕ → Bool) (ws : List (Option Ref)) → AreDeclared signals declared count u ws → wires_lines inputs names count u ws ≡ lines_many (wire_lines inputs names u) (λ v _. v + 1) 0 ws
wires_written inputs names signals count u declared ws h =
    map_below (equation_row inputs names) (λ v. arc_equation u v (get_or ws v None)) count
    ∙ ap (λ (n : ℕ). each_below (λ v. wire_lines inputs names u v (get_or ws v None)) n) (sym (fits_length (λ v w. IsDeclared signals (declared u v) w) count 0 ws h))
    ∙ sym (lines_from_first (wire_lines inputs names u) None ws)

pub arcs_from_rows : (inputs gates : ℕ) (names : List (List ℕ)) (declared : ℕ → ℕ → Bool) (count u : ℕ) → inputs + gates < 2 ^ 32 → IsRows (AreDeclared (inputs + gates) declared count u) (wires_lines inputs names count u) (arcs_from_at inputs gates declared count u)
arcs_from_rows inputs gates names declared count u small =
    rows-same (AreDeclared (inputs + gates) declared count u) (wires_lines inputs names count u)
    (rows-many (λ v _. v + 1) (λ _ _. Unit {0}) (λ n v h. arc_rows inputs gates names (declared u v) u v small) (λ n v w h fits. tt) count 0 tt)
    (λ ws h. (h, wires_written inputs names (inputs + gates) count u declared ws h))
    (λ ws h. (h, wires_written inputs names (inputs + gates) count u declared ws h))

-- ---- those of all

abbrev pub AreAllDeclared : ℕ → (ℕ → ℕ → Bool) → ℕ → List (List (Option Ref)) → Type 0
AreAllDeclared signals declared count rows = FitsMany (λ u ws. AreDeclared signals declared count u ws) (λ u _. u + 1) count 0 rows

-- as the equations of a netlist with these wires
abbrev pub matrix_lines : ℕ → List (List ℕ) → ℕ → List (List (Option Ref)) → List (List ℕ)
matrix_lines inputs names count rows = map (equation_row inputs names) (each_below (λ u. each_below (λ v. arc_equation u v (get_or (get_or rows u []) v None)) count) count)

matrix_written : (inputs : ℕ) (names : List (List ℕ)) (signals count : ℕ) (declared : ℕ → ℕ → Bool) (rows : List (List (Option Ref))) → AreAllDeclared signals declared count rows → matrix_lines inputs names count rows ≡ lines_many (wires_lines inputs names count) (λ u _. u + 1) 0 rows
matrix_written inputs names signals count declared rows h =
    map_below (equation_row inputs names) (λ u. each_below (λ v. arc_equation u v (get_or (get_or rows u []) v None)) count) count
    ∙ ap (λ (n : ℕ). each_below (λ u. wires_lines inputs names count u (get_or rows u [])) n) (sym (fits_length (λ u ws. AreDeclared signals declared count u ws) count 0 rows h))
    ∙ sym (lines_from_first (wires_lines inputs names count) [] rows)

pub arcs_rows : (inputs gates : ℕ) (names : List (List ℕ)) (declared : ℕ → ℕ → Bool) (count : ℕ) → inputs + gates < 2 ^ 32 → IsRows (AreAllDeclared (inputs + gates) declared count) (matrix_lines inputs names count) (arcs_at inputs gates declared count)
arcs_rows inputs gates names declared count small =
    rows-same (AreAllDeclared (inputs + gates) declared count) (matrix_lines inputs names count)
    (rows-many (λ u _. u + 1) (λ _ _. Unit {0}) (λ n u h. arcs_from_rows inputs gates names declared count u small) (λ n u w h fits. tt) count 0 tt)
    (λ rows h. (h, matrix_written inputs names (inputs + gates) count declared rows h))
    (λ rows h. (h, matrix_written inputs names (inputs + gates) count declared rows h))
