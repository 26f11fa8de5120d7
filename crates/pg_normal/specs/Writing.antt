-- The text that a normal form is written as.
use Rattle.std.specs.Prelude.{ℕ, ◌^◌, ◌-◌, ◌==◌, Bool, true, false, not, ◌&&◌, ◌||◌, if◌then◌else◌, List, [], ◌∷◌, ◌++◌, map, codes}
use Rattle.std.specs.List.{flat_map}
use Rattle.std.proofs.Common.{get_or}
use Rattle.cpog_base.specs.declared.limits.TheConstants.{PARAM_LIMIT}
use Rattle.cpog_defs.specs.Codes.{bit}
use Rattle.cpog_defs.specs.Orders.{all_below, each_below}
use Rattle.pg_algebra.specs.Tables.{flip}
use Rattle.pg_text.specs.Writing.{when_needed, row_text}
use Rattle.pg_normal.specs.Forms.{Form, vertex_table, arc_table, sometimes}

-- whether two bits differ
abbrev pub differ : Bool → Bool → Bool
differ true b = not b
differ false b = b

-- whether the table's value changes with parameter k under some valuation
unfoldable pub depends : ℕ → ℕ → Bool
depends table k = sometimes (λ n. differ (bit table n) (bit table (flip n k)))

-- the parameters on which a table depends, in their order
unfoldable pub needed : ℕ → List ℕ
needed table = each_below (λ k. if depends table k then k ∷ [] else []) PARAM_LIMIT

-- whether a valuation sets no other parameter than those
unfoldable pub sets_needed : ℕ → ℕ → Bool
sets_needed table n = all_below (λ k. not (bit n k) || depends table k) PARAM_LIMIT

-- the valuations of those parameters under which the table is 1, each with the others left at 0: their numbers have the
-- order of the numbers in which the first of those parameters has weight 1, the second weight 2 and so on
unfoldable pub chosen : ℕ → List ℕ
chosen table = each_below (λ n. if bit table n && sets_needed table n then n ∷ [] else []) 64

-- a parameter, with a sign before it where it is 0
abbrev pub literal_text : List (List ℕ) → ℕ → ℕ → List ℕ
literal_text params n k = when_needed (not (bit n k)) (codes "!") ++ get_or params k []

-- the bits of these parameters under a valuation
abbrev pub valuation_text : List (List ℕ) → List ℕ → ℕ → List ℕ
valuation_text params ks n = row_text (codes " & ") (map (literal_text params n) ks)

-- one of these valuations
abbrev pub valuations_text : List (List ℕ) → List ℕ → List ℕ → List ℕ
valuations_text params ks ns = row_text (codes " | ") (map (valuation_text params ks) ns)

-- the condition before a term, and nothing where the table is constant 1
unfoldable pub prefix_text : List (List ℕ) → ℕ → List ℕ
prefix_text params table =
    if table == 2 ^ 64 - 1 then []
    else codes "[" ++ (valuations_text params (needed table) (chosen table) ++ codes "] ")

-- an arc between two names
abbrev pub arc_text : List ℕ → List ℕ → List ℕ
arc_text first second = codes "(" ++ (first ++ (codes " -> " ++ (second ++ codes ")")))

-- a vertex
abbrev pub vertex_term : Form → List (List ℕ) → List (List ℕ) → ℕ → List ℕ
vertex_term f names params v = prefix_text params (vertex_table f v) ++ get_or names v []

-- the arc of a pair, if the form has it
abbrev pub arc_terms : Form → List (List ℕ) → List (List ℕ) → ℕ → ℕ → List (List ℕ)
arc_terms f names params u v =
    if arc_table f u v == 0 then []
    else (prefix_text params (arc_table f u v) ++ arc_text (get_or names u []) (get_or names v [])) ∷ []

-- the arcs from a vertex to these
abbrev pub arc_terms_from : Form → List (List ℕ) → List (List ℕ) → List ℕ → ℕ → List (List ℕ)
arc_terms_from f names params vs u = flat_map (arc_terms f names params u) vs

-- the vertices, and then the arcs by the places of their first and then their second ends
abbrev pub terms_over : Form → List (List ℕ) → List (List ℕ) → List ℕ → List (List ℕ)
terms_over f names params vs = map (vertex_term f names params) vs ++ flat_map (arc_terms_from f names params vs) vs

-- the vertices of a form, in their order
abbrev pub vertices_of : Form → List ℕ
vertices_of f = map (λ e. e.0) f.vertices

-- the terms of a sum, or the word for none
abbrev pub sum_text : List (List ℕ) → List ℕ
sum_text [] = codes "empty"
sum_text (t ∷ ts) = row_text (codes " + ") (t ∷ ts)

-- the text of a form
abbrev pub form_text : Form → List (List ℕ) → List (List ℕ) → List ℕ
form_text f names params = sum_text (terms_over f names params (vertices_of f))
