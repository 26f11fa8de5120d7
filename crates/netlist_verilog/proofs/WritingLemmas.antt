-- Texts that grow piece by piece.
use Rattle.std.proofs.Common.{◌≡◌, ℕ, zero, suc, ◌+◌, ◌<◌, ◌≤◌, Bool, true, false, cond, eqb, ◌&&◌, List, [], ◌∷◌, ◌++◌, length, get_or, refl, sym, ap, ap₂, ◌∙◌, append_assoc, add-one, arith, None, Some}
use Rattle.std.specs.List.{slice_get}
use Rattle.std.specs.Prelude.{codes}
use Rattle.std.proofs.lemmas.Option.{get_or_from_slice_get}
use Rattle.std.proofs.lemmas.Bool.{ne_eqb}
use Rattle.std.proofs.lemmas.List.{append-nil, map-append}
use Rattle.std.proofs.lemmas.List.Concat.{flat_map-append}
use Rattle.cpog_defs.specs.Orders.{each_below}
use Rattle.cpog_defs.specs.declared.types.Gate.{Gate}
use Rattle.cpog_defs.specs.Gates.{AreGatesFrom}
use Rattle.line_text.specs.Lines.{text_of}
use Rattle.std.specs.FinSet as set
use Rattle.std.specs.Fmt.{decimal}
use Rattle.cpog_defs.specs.declared.types.Ref.{Ref}
use Rattle.cpog_defs.specs.Orders.{Set}
use Rattle.handshake_eqs.specs.Netlists.{Netlist, condition_of, waits_of}
use Rattle.netlist_verilog.specs.Module.{ModuleValue, IsModule}
use Rattle.netlist_verilog.specs.Wires.{Wire, Signal, Go, Acknowledge, Request, Done, Idle, Condition, name_of, signal_text, wire_text}
use Rattle.netlist_verilog.specs.Formulas.{Formula, Read, Not, And, Equation, tightness, grouped, formula_text, comment_text, equation_row}
use Rattle.netlist_verilog.specs.Equations.{gate_at, gate_equation, gate_equations, ref_formula, condition_equation, arc_equations_from, and_each, through_formula, arc_formula, request_equation, done_equation, idle_equation}
use Rattle.netlist_verilog.specs.Rows.{separator, joined, wire_texts, signals_from, for_each, input_wires, output_wires, arc_wires_from, arc_wires, inner_wires, wire_lines, port_lines, equation_rows, and_text, function_text, module_lines}

-- a line that was written up to its line feed
pub line_ends : (a row : List ℕ) → (a ++ row) ++ 10 ∷ [] ≡ a ++ text_of (row ∷ [])
line_ends a row = append_assoc a row (10 ∷ []) ∙ ap (λ x. a ++ x) (sym (append-nil (row ++ 10 ∷ [])))

-- the text of more lines
pub text_more : (a : List ℕ) (ls ms : List (List ℕ)) → (a ++ text_of ls) ++ text_of ms ≡ a ++ text_of (ls ++ ms)
text_more a ls ms = append_assoc a (text_of ls) (text_of ms) ∙ ap (λ x. a ++ x) (sym (flat_map-append (λ l. l ++ 10 ∷ []) ls ms))

-- one more group of equations
pub equations_more : (m : ModuleValue) (f : ℕ → List Equation) (n : ℕ) (a b : List ℕ) →
    b ≡ a ++ text_of (equation_rows m (each_below f n)) →
    b ++ text_of (equation_rows m (f n)) ≡ a ++ text_of (equation_rows m (each_below f (n + 1)))
equations_more m f n a b h =
    ap (λ x. x ++ text_of (equation_rows m (f n))) h
    ∙ text_more a (equation_rows m (each_below f n)) (equation_rows m (f n))
    ∙ ap (λ ls. a ++ text_of ls) (sym (map-append _ (each_below f n) (f n)) ∙ ap (λ k. equation_rows m (each_below f k)) (sym (add-one n)))

-- one more piece
pub pieces_more : (f : ℕ → List ℕ) (n : ℕ) (a b : List ℕ) → b ≡ a ++ each_below f n → b ++ f n ≡ a ++ each_below f (n + 1)
pieces_more f n a b h = ap (λ x. x ++ f n) h ∙ append_assoc a (each_below f n) (f n) ∙ ap (λ k. a ++ each_below f k) (sym (add-one n))

-- a number read at a place that is given by an equation
pub name_at : (names : List (List ℕ)) (i v : ℕ) (name : List ℕ) → i ≡ v → slice_get names i ≡ Some name → name ≡ name_of names v
name_at names i v name e h = sym (get_or_from_slice_get names v name [] (ap (slice_get names) (sym e) ∙ h))

-- ---- lists with commas

abbrev pub is_nil : {X : Type 0} → List X → Bool
is_nil [] = true
is_nil (x ∷ xs) = false

pub joined_append : (first : Bool) (ts us : List (List ℕ)) → joined first (ts ++ us) ≡ joined first ts ++ joined (first && is_nil ts) us
joined_append true [] us = refl
joined_append false [] us = refl
joined_append true (t ∷ ts) us = ap (λ x. t ++ x) (joined_append false ts us) ∙ sym (append_assoc t (joined false ts) (joined false us))
joined_append false (t ∷ ts) us = ap (λ x. codes ", " ++ (t ++ x)) (joined_append false ts us) ∙ ap (λ x. codes ", " ++ x) (sym (append_assoc t (joined false ts) (joined false us)))

not_nil : (first : Bool) (xs : List (List ℕ)) (t : List ℕ) → false ≡ (first && is_nil (xs ++ t ∷ []))
not_nil true [] t = refl
not_nil true (x ∷ xs) t = refl
not_nil false xs t = refl

-- so many texts were written, and whether the next one is the first
pub record IsJoined (first here : Bool) (f : ℕ → List ℕ) (n : ℕ) (a b : List ℕ) : Type 0 where
  pub written : b ≡ a ++ joined first (each_below (λ k. f k ∷ []) n)
  pub left : here ≡ (first && is_nil (each_below (λ k. f k ∷ []) n))

pub none_joined : (first : Bool) (f : ℕ → List ℕ) (a : List ℕ) → IsJoined first first f 0 a a
none_joined true f a = record { written = sym (append-nil a); left = refl }
none_joined false f a = record { written = sym (append-nil a); left = refl }

-- one more text of a list
pub joined_more : (first here : Bool) (f : ℕ → List ℕ) (n : ℕ) (sep t a b new : List ℕ) → sep ≡ separator here →
    t ≡ f n → new ≡ b ++ (sep ++ t) → IsJoined first here f n a b → IsJoined first false f (n + 1) a new
joined_more first here f n sep t a b new es et e h =
    let before : List (List ℕ) = each_below (λ k. f k ∷ []) n in
    record {
      written =
          e
          ∙ ap₂ (λ x y. b ++ (x ++ y)) es et
          ∙ ap₂ (λ x c. x ++ (separator c ++ f n)) h.written h.left
          ∙ append_assoc a (joined first before) (separator (first && is_nil before) ++ f n)
          ∙ ap (λ x. a ++ (joined first before ++ (separator (first && is_nil before) ++ x))) (sym (append-nil (f n)))
          ∙ ap (λ x. a ++ x) (sym (joined_append first before (f n ∷ [])) ∙ ap (λ k. joined first (each_below (λ i. f i ∷ []) k)) (sym (add-one n)));
      left = not_nil first before (f n) ∙ ap (λ k. first && is_nil (each_below (λ i. f i ∷ []) k)) (sym (add-one n));
    }

-- one more group of wires behind commas
pub wires_more : (m : ModuleValue) (f : ℕ → List Wire) (n : ℕ) (a b : List ℕ) →
    b ≡ a ++ joined false (wire_texts m (each_below f n)) →
    b ++ joined false (wire_texts m (f n)) ≡ a ++ joined false (wire_texts m (each_below f (n + 1)))
wires_more m f n a b h =
    ap (λ x. x ++ joined false (wire_texts m (f n))) h
    ∙ append_assoc a (joined false (wire_texts m (each_below f n))) (joined false (wire_texts m (f n)))
    ∙ ap (λ x. a ++ x) (sym (joined_append false (wire_texts m (each_below f n)) (wire_texts m (f n)))
    ∙ ap (joined false) (sym (map-append _ (each_below f n) (f n)))
    ∙ ap (λ k. joined false (wire_texts m (each_below f k))) (sym (add-one n)))

-- the texts of wires by number
pub texts_below : (m : ModuleValue) (f : ℕ → Wire) (n : ℕ) → wire_texts m (each_below (λ k. f k ∷ []) n) ≡ each_below (λ k. wire_texts m (f k ∷ [])) n
texts_below m f zero = refl
texts_below m f (suc n) = map-append _ (each_below (λ k. f k ∷ []) n) (f n ∷ []) ∙ ap (λ x. x ++ wire_texts m (f n ∷ [])) (texts_below m f n)

-- ---- gates and formulas

-- a gate's table has four bits
pub table_small : (gates : List Gate) (signals g : ℕ) (d : Gate) → AreGatesFrom signals gates → g < length gates → (get_or gates g d).table < 16
table_small [] signals g d h lt = absurd (omega arith)
table_small (x ∷ gates) signals zero d h lt = h.2
table_small (x ∷ gates) signals (suc g) d h lt = table_small gates (signals + 1) g d h.3 (omega arith)

-- formulas that are joined by & stand without parentheses on its left
each_tight : (first : Formula) (passes : ℕ → Bool) (each : ℕ → Formula) (n : ℕ) (text : List ℕ) →
    grouped 2 (tightness first) text ≡ text → grouped 2 (tightness (and_each first passes each n)) text ≡ text
each_tight first passes each zero text h = h
each_tight first passes each (suc n) text h = chosen (passes n) (and_each first passes each n) (each n) (each_tight first passes each n text h)
  where
    chosen : (b : Bool) (f g : Formula) → grouped 2 (tightness f) text ≡ text → grouped 2 (tightness (cond b (And f g) f)) text ≡ text
    chosen true f g h = refl
    chosen false f g h = h

-- the text of formulas that are joined by &
pub each_text : (m : ModuleValue) (first : Formula) (passes : ℕ → Bool) (each : ℕ → Formula) (n : ℕ) → ((text : List ℕ) → grouped 2 (tightness first) text ≡ text)
    → formula_text m.netlist.gates.inputs m.names (and_each first passes each n) ≡ formula_text m.netlist.gates.inputs m.names first ++ each_below (λ k. and_text m (passes k) (each k)) n
each_text m first passes each zero h = sym (append-nil _)
each_text m first passes each (suc n) h =
    chosen (passes n) (and_each first passes each n) (each n) (each_tight first passes each n _ (h _))
    ∙ ap (λ x. x ++ and_text m (passes n) (each n)) (each_text m first passes each n h)
    ∙ append_assoc (formula_text m.netlist.gates.inputs m.names first) (each_below (λ k. and_text m (passes k) (each k)) n) (and_text m (passes n) (each n))
  where
    chosen : (b : Bool) (f g : Formula) → grouped 2 (tightness f) (formula_text m.netlist.gates.inputs m.names f) ≡ formula_text m.netlist.gates.inputs m.names f
        → formula_text m.netlist.gates.inputs m.names (cond b (And f g) f) ≡ formula_text m.netlist.gates.inputs m.names f ++ and_text m b g
    chosen true f g e = ap (λ x. x ++ (codes " & " ++ grouped 3 (tightness g) (formula_text m.netlist.gates.inputs m.names g))) e
    chosen false f g e = sym (append-nil _)

-- ---- whole lines

-- an equation's line, written in three pieces
pub row_written : (target f a o1 o2 o3 : List ℕ) → o1 ≡ a ++ (codes "  assign " ++ (target ++ codes " = ")) →
    o2 ≡ o1 ++ f → o3 ≡ o2 ++ codes ";\n" → o3 ≡ a ++ text_of
    ((codes "  assign " ++ (target ++ (codes " = " ++ (f ++ codes ";")))) ∷ [])
row_written target f a o1 o2 o3 e1 e2 e3 = e3 ∙ ap (λ x. x ++ codes ";\n") (e2 ∙ ap (λ x. x ++ f) e1) ∙ simp (append_assoc, append-nil)

pub condition_written : (m : ModuleValue) (v : ℕ) (name : List ℕ) (ref : Ref) (a o1 o2 o3 : List ℕ) →
    name ≡ name_of m.names v → ref ≡ condition_of m.netlist v →
    o1 ≡ a ++ (codes "  assign c_" ++ (name ++ codes " = "))
    → o2 ≡ o1 ++ formula_text m.netlist.gates.inputs m.names (ref_formula ref) → o3 ≡ o2 ++ codes ";\n" → o3 ≡ a ++ text_of (equation_rows m (condition_equation v (condition_of m.netlist v) ∷ []))
condition_written m v name ref a o1 o2 o3 en er e1 e2 e3 =
    row_written (codes "c_" ++ name_of m.names v) (formula_text m.netlist.gates.inputs m.names (ref_formula (condition_of m.netlist v))) a o1 o2 o3
    (e1 ∙ ap (λ x. a ++ (codes "  assign c_" ++ (x ++ codes " = "))) en)
    (e2 ∙ ap (λ r. o1 ++ formula_text m.netlist.gates.inputs m.names (ref_formula r)) er)
    e3

pub gate_written : (m : ModuleValue) (bits g : ℕ) (gate : Gate) (a o1 o2 o3 : List ℕ) →
    bits ≡ m.netlist.gates.inputs → gate ≡ gate_at m.netlist.gates g →
    o1 ≡ a ++ (codes "  assign " ++ (signal_text bits (bits + g) ++ codes " = "))
    → o2 ≡ o1 ++ function_text m gate → o3 ≡ o2 ++ codes ";\n" → o3 ≡ a ++ text_of (equation_rows m (gate_equation m.netlist.gates.inputs g (gate_at m.netlist.gates g) ∷ []))
gate_written m bits g gate a o1 o2 o3 eb eg e1 e2 e3 =
    let e = gate_equation m.netlist.gates.inputs g (gate_at m.netlist.gates g) in
    let name = signal_text m.netlist.gates.inputs (m.netlist.gates.inputs + g) in
    let f = formula_text m.netlist.gates.inputs m.names e.formula in
    let comment = comment_text m.netlist.gates.inputs m.names e.comment in
    row_written name (f ++ comment) a o1 o2 o3
    (e1 ∙ ap (λ b. a ++ (codes "  assign " ++ (signal_text b (b + g) ++ codes " = "))) eb)
    (e2 ∙ ap (λ x. o1 ++ function_text m x) eg)
    e3
    ∙ ap (λ x. a ++ text_of ((codes "  assign " ++ (name ++ (codes " = " ++ x))) ∷ [])) (append_assoc f comment (codes ";"))

-- a line whose formula goes on after its first part
pub each_written : (m : ModuleValue) (w : Wire) (first : Formula) (passes : ℕ → Bool) (each : ℕ → Formula) (n : ℕ) (a o1 o2 o3 : List ℕ) → ((text : List ℕ) → grouped 2 (tightness first) text ≡ text)
    → o1 ≡ a ++ (codes "  assign " ++ (wire_text m.netlist.gates.inputs m.names w ++
    (codes " = " ++ formula_text m.netlist.gates.inputs m.names first))) →
    o2 ≡ o1 ++ each_below (λ k. and_text m (passes k) (each k)) n → o3 ≡ o2 ++ codes ";\n"
    → o3 ≡ a ++ text_of (equation_rows m (record { wire = w; formula = and_each first passes each n; comment = None } ∷ []))
each_written m w first passes each n a o1 o2 o3 tight e1 e2 e3 =
    let name = wire_text m.netlist.gates.inputs m.names w in
    let begin = formula_text m.netlist.gates.inputs m.names first in
    let more = each_below (λ k. and_text m (passes k) (each k)) n in
    row_written name (begin ++ more) a (a ++ (codes "  assign " ++ (name ++ codes " = "))) o2 o3 refl
    (e2 ∙ ap (λ x. x ++ more) e1 ∙ pieces a name begin more) e3
    ∙ ap (λ x. a ++ text_of ((codes "  assign " ++ (name ++ (codes " = " ++ (x ++ codes ";")))) ∷ [])) (sym (each_text m first passes each n tight))
  where
    pieces : (a name begin more : List ℕ) → (a ++ (codes "  assign " ++ (name ++ (codes " = " ++ begin)))) ++ more ≡ (a ++ (codes "  assign " ++ (name ++ codes " = "))) ++ (begin ++ more)
    pieces a name begin more = simp append_assoc

pub request_written : (m : ModuleValue) (v : ℕ) (name : List ℕ) (a o1 o2 o3 : List ℕ) → name ≡ name_of m.names v → o1 ≡ a ++ (codes "  assign r_" ++ (name ++ (codes " = go & c_" ++ name)))
    → o2 ≡ o1 ++ each_below (λ u. and_text m (set.contains (waits_of m.netlist v) u) (arc_formula v u))
    (length m.netlist.conditions) → o3 ≡ o2 ++ codes ";\n" →
    o3 ≡ a ++ text_of (equation_rows m (request_equation m.netlist v ∷ []))
request_written m v name a o1 o2 o3 en e1 e2 e3 =
    each_written m (Request v) (And (Read Go) (Read (Condition v))) (set.contains (waits_of m.netlist v)) (arc_formula v) (length m.netlist.conditions) a o1 o2 o3 (λ text. refl)
    (e1 ∙ ap (λ x. a ++ (codes "  assign r_" ++ (x ++ (codes " = go & c_" ++ x)))) en) e2 e3

wait_joined : (name du dv : List ℕ) → codes " & (a_" ++ (name ++ (codes " | ~c_" ++ (name ++ (codes " | ~e" ++ (du ++ (codes "_" ++ (dv ++ codes ")")))))))
    ≡ codes " & (" ++ ((((codes "a_" ++ name) ++ (codes " | ~c_" ++ name)) ++ (codes " | ~e" ++ (du ++ (codes "_" ++ dv)))) ++ codes ")")
wait_joined name du dv =
    let first : List ℕ = codes "a_" ++ name in
    let second : List ℕ = codes " | ~c_" ++ name in
    let third : List ℕ = codes " | ~e" ++ (du ++ (codes "_" ++ dv)) in
    ap (λ x. codes " & (" ++ x) (sym (
    append_assoc (first ++ second) third (codes ")")
    ∙ append_assoc first second (third ++ codes ")")
    ∙ ap (λ x. first ++ (second ++ (codes " | ~e" ++ x))) (append_assoc du (codes "_" ++ dv) (codes ")"))))

pub wait_written : (m : ModuleValue) (u v : ℕ) (name : List ℕ) (waits : Set) (here : Bool) (a new : List ℕ) →
    name ≡ name_of m.names u → waits ≡ waits_of m.netlist v → here ≡ set.contains waits u → here ≡ true
    → new ≡ a ++ (codes " & (a_" ++ (name ++
    (codes " | ~c_" ++ (name ++ (codes " | ~e" ++ (decimal u ++ (codes "_" ++ (decimal v ++ codes ")")))))))) →
    new ≡ a ++ and_text m (set.contains (waits_of m.netlist v) u) (arc_formula v u)
wait_written m u v name waits here a new en ew eh yes' e =
    e
    ∙ ap (λ x. a ++ x) (wait_joined name (decimal u) (decimal v))
    ∙ ap (λ x. a ++ (codes " & (" ++ ((((codes "a_" ++ x) ++ (codes " | ~c_" ++ x)) ++ (codes " | ~e" ++ (decimal u ++ (codes "_" ++ decimal v)))) ++ codes ")"))) en
    ∙ ap (λ b. a ++ and_text m b (arc_formula v u)) (sym yes' ∙ eh ∙ ap (λ s. set.contains s u) ew)

pub no_wait_written : (m : ModuleValue) (u v : ℕ) (waits : Set) (here : Bool) (a : List ℕ) →
    waits ≡ waits_of m.netlist v → here ≡ set.contains waits u → here ≡ false →
    a ≡ a ++ and_text m (set.contains (waits_of m.netlist v) u) (arc_formula v u)
no_wait_written m u v waits here a ew eh no' = sym (append-nil a) ∙ ap (λ b. a ++ and_text m b (arc_formula v u)) (sym no' ∙ eh ∙ ap (λ s. set.contains s u) ew)

through_joined : (name : List ℕ) → codes " & (a_" ++ (name ++ (codes " | ~c_" ++ (name ++ codes ")"))) ≡ codes " & (" ++ (((codes "a_" ++ name) ++ (codes " | ~c_" ++ name)) ++ codes ")")
through_joined name = ap (λ x. codes " & (" ++ x) (sym (append_assoc (codes "a_" ++ name) (codes " | ~c_" ++ name) (codes ")")))

pub through_more : (m : ModuleValue) (v : ℕ) (name a b new : List ℕ) → name ≡ name_of m.names v → b ≡ a ++ each_below (λ k. and_text m true (through_formula k)) v
    → new ≡ b ++ (codes " & (a_" ++ (name ++ (codes " | ~c_" ++ (name ++ codes ")")))) → new ≡ a ++ each_below (λ k. and_text m true (through_formula k)) (v + 1)
through_more m v name a b new en h e =
    e
    ∙ ap (λ x. b ++ x) (through_joined name)
    ∙ ap (λ x. b ++ (codes " & (" ++ (((codes "a_" ++ x) ++ (codes " | ~c_" ++ x)) ++ codes ")"))) en
    ∙ pieces_more (λ k. and_text m true (through_formula k)) v a b h

pub unacknowledged_more : (m : ModuleValue) (v : ℕ) (name a b new : List ℕ) → name ≡ name_of m.names v → b ≡ a ++ each_below (λ k. and_text m true (Not (Read (Acknowledge k)))) v
    → new ≡ b ++ (codes " & ~a_" ++ name) → new ≡ a ++ each_below (λ k. and_text m true (Not (Read (Acknowledge k)))) (v + 1)
unacknowledged_more m v name a b new en h e = e ∙ ap (λ x. b ++ (codes " & ~a_" ++ x)) en ∙ pieces_more (λ k. and_text m true (Not (Read (Acknowledge k)))) v a b h

-- ---- declarations

nil_snoc : (xs : List (List ℕ)) (t : List ℕ) → is_nil (xs ++ t ∷ []) ≡ false
nil_snoc [] t = refl
nil_snoc (x ∷ xs) t = refl

positive : (n : ℕ) → 1 ≤ n → eqb n 0 ≡ false
positive n h = ne_eqb n 0 (λ e. omega (arith, e))

pub nil_below : (f : ℕ → List ℕ) (n : ℕ) → is_nil (each_below (λ k. f k ∷ []) n) ≡ eqb n 0
nil_below f zero = refl
nil_below f (suc n) = nil_snoc (each_below (λ k. f k ∷ []) n) (f n) ∙ sym (positive (suc n) (omega arith))

-- a list of texts, one more, and others
pub middle : (t : List ℕ) (ts us : List (List ℕ)) → is_nil ts ≡ false → joined true (ts ++ t ∷ us) ≡ joined true ts ++ (codes ", " ++ (t ++ joined false us))
middle t ts us h = joined_append true ts (t ∷ us) ∙ ap (λ b. joined true ts ++ (separator b ++ (t ++ joined false us))) h

-- the texts of the inputs and of the outputs
pub input_texts : (m : ModuleValue) → wire_texts m (input_wires m.netlist)
    ≡ each_below (λ k. signal_text m.netlist.gates.inputs (0 + k) ∷ []) m.netlist.gates.inputs ++ (codes "go" ∷ each_below (λ v. (codes "a_" ++ name_of m.names v) ∷ []) (length m.netlist.conditions))
input_texts m =
    map-append _ (signals_from 0 m.netlist.gates.inputs) (Go ∷ for_each Acknowledge (length m.netlist.conditions))
    ∙ ap₂ (λ x y. x ++ (codes "go" ∷ y)) (texts_below m (λ k. Signal (0 + k)) m.netlist.gates.inputs) (texts_below m Acknowledge (length m.netlist.conditions))

pub output_texts : (m : ModuleValue) → wire_texts m (output_wires m.netlist) ≡ each_below
    (λ v. (codes "r_" ++ name_of m.names v) ∷ []) (length m.netlist.conditions) ++ (codes "done" ∷ codes "idle" ∷ [])
output_texts m =
    map-append _ (for_each Request (length m.netlist.conditions)) (Done ∷ Idle ∷ [])
    ∙ ap (λ x. x ++ (codes "done" ∷ codes "idle" ∷ [])) (texts_below m Request (length m.netlist.conditions))

pub inputs_written : (m : ModuleValue) (bits count : ℕ) (names : List (List ℕ)) (a o1 o2 o3 : List ℕ) → IsModule m → bits ≡ m.netlist.gates.inputs → count ≡ bits → names ≡ m.names
    → o1 ≡ a ++ joined true (each_below (λ k. signal_text bits (0 + k) ∷ []) count) → o2 ≡ o1 ++ codes ", go" →
    o3 ≡ o2 ++ joined false (each_below (λ v. (codes "a_" ++ name_of names v) ∷ []) (length names))
    → o3 ≡ a ++ joined true (wire_texts m (input_wires m.netlist))
inputs_written m bits count names a o1 o2 o3 is eb ec en e1 e2 e3 =
    let ts : ℕ → ℕ → List (List ℕ) = λ b n. each_below (λ k. signal_text b (0 + k) ∷ []) n in
    let inputs = m.netlist.gates.inputs in
    let us : List (List ℕ) → ℕ → List (List ℕ) = λ ns n. each_below (λ v. (codes "a_" ++ name_of ns v) ∷ []) n in
    let acks = us m.names (length m.netlist.conditions) in
    e3
    ∙ ap₂ (λ x y. x ++ joined false y)
    (e2 ∙ ap (λ x. x ++ codes ", go") (e1 ∙ ap₂ (λ b n. a ++ joined true (ts b n)) eb (ec ∙ eb)))
    (ap (λ ns. us ns (length ns)) en ∙ ap (us m.names) is.one_name_each)
    ∙ append_assoc (a ++ joined true (ts inputs inputs)) (codes ", go") (joined false acks)
    ∙ append_assoc a (joined true (ts inputs inputs)) (codes ", go" ++ joined false acks)
    ∙ ap (λ x. a ++ x) (sym (ap (joined true) (input_texts m) ∙ middle (codes "go") (ts inputs inputs) acks (nil_below (λ k. signal_text inputs (0 + k)) inputs ∙ positive inputs is.some_input)))

pub outputs_written : (m : ModuleValue) (len : ℕ) (names : List (List ℕ)) (sep a o1 o2 : List ℕ) → IsModule m → names ≡ m.names → len ≡ length names → sep ≡ separator (eqb len 0)
    → o1 ≡ a ++ joined true (each_below (λ v. (codes "r_" ++ name_of names v) ∷ []) (length names)) →
    o2 ≡ o1 ++ (sep ++ codes "done, idle") → o2 ≡ a ++ joined true (wire_texts m (output_wires m.netlist))
outputs_written m len names sep a o1 o2 is en el es e1 e2 =
    let us : List (List ℕ) → ℕ → List (List ℕ) = λ ns n. each_below (λ v. (codes "r_" ++ name_of ns v) ∷ []) n in
    let count = length m.netlist.conditions in
    let reqs = us m.names count in
    e2
    ∙ ap₂ (λ x y. x ++ (y ++ codes "done, idle"))
    (e1 ∙ ap (λ y. a ++ joined true y) (ap (λ ns. us ns (length ns)) en ∙ ap (us m.names) is.one_name_each))
    (es ∙ ap (λ n. separator (eqb n 0)) (el ∙ ap length en ∙ is.one_name_each) ∙ ap separator (sym (nil_below (λ v. codes "r_" ++ name_of m.names v) count)))
    ∙ append_assoc a (joined true reqs) (separator (is_nil reqs) ++ codes "done, idle")
    ∙ ap (λ x. a ++ x) (sym (ap (joined true) (output_texts m) ∙ joined_append true reqs (codes "done" ∷ codes "idle" ∷ [])))

-- the header and the ports
pub ports_written : (inputs outputs a o1 o2 o3 o4 o5 o6 o7 o8 o9 : List ℕ) → o1 ≡ a ++ codes "module cpog(" →
    o2 ≡ o1 ++ inputs → o3 ≡ o2 ++ codes ", " → o4 ≡ o3 ++ outputs → o5 ≡ o4 ++ codes ");\n  input " →
    o6 ≡ o5 ++ inputs → o7 ≡ o6 ++ codes ";\n  output " → o8 ≡ o7 ++ outputs → o9 ≡ o8 ++ codes ";\n"
    → o9 ≡ a ++ text_of ((codes "module cpog(" ++ (inputs ++ (codes ", " ++ (outputs ++ codes ");")))) ∷
    (codes "  input " ++ (inputs ++ codes ";")) ∷ (codes "  output " ++ (outputs ++ codes ";")) ∷ [])
ports_written i o a o1 o2 o3 o4 o5 o6 o7 o8 o9 e1 e2 e3 e4 e5 e6 e7 e8 e9 =
    let header : List ℕ = codes "module cpog(" ++ (i ++ (codes ", " ++ (o ++ codes ");"))) in
    let first : List ℕ = codes "  input " ++ (i ++ codes ";") in
    let second : List ℕ = codes "  output " ++ (o ++ codes ";") in
    let q5 : o5 ≡ (a ++ text_of (header ∷ [])) ++ codes "  input " =
    e5 ∙ ap (λ x. x ++ codes ");\n  input ") (e4 ∙ ap (λ x. x ++ o) (e3 ∙ ap (λ x. x ++ codes ", ") (e2 ∙ ap (λ x. x ++ i) e1))) ∙ head i o a in
    let q7 : o7 ≡ (a ++ text_of (header ∷ first ∷ [])) ++ codes "  output " =
    e7 ∙ ap (λ x. x ++ codes ";\n  output ") (e6 ∙ ap (λ x. x ++ i) q5)
    ∙ port (a ++ text_of (header ∷ [])) (codes "  input ") i (codes "  output ")
    ∙ ap (λ x. x ++ codes "  output ") (text_more a (header ∷ []) (first ∷ [])) in
    e9 ∙ ap (λ x. x ++ codes ";\n") (e8 ∙ ap (λ x. x ++ o) q7) ∙ port (a ++ text_of (header ∷ first ∷ [])) (codes "  output ") o [] ∙ append-nil _ ∙ text_more a (header ∷ first ∷ []) (second ∷ [])
  where
    head : (i o a : List ℕ) → ((((a ++ codes "module cpog(") ++ i) ++ codes ", ") ++ o) ++ codes ");\n  input " ≡
        (a ++ text_of ((codes "module cpog(" ++ (i ++ (codes ", " ++ (o ++ codes ");")))) ∷ [])) ++ codes "  input "
    head i o a = simp (append_assoc, append-nil)

    port : (b front t next : List ℕ) → ((b ++ front) ++ t) ++ (codes ";\n" ++ next) ≡ (b ++ text_of ((front ++ (t ++ codes ";")) ∷ [])) ++ next
    port b front t next = simp (append_assoc, append-nil)

-- ---- the line of the other wires

both_zero : (g n : ℕ) → 0 < g + n → (eqb g 0 && eqb n 0) ≡ false
both_zero zero n h = positive n (omega arith)
both_zero (suc g) n h = ap (λ b. b && eqb n 0) (positive (suc g) (omega arith))

pub wire_line : (ts : List (List ℕ)) → is_nil ts ≡ false → wire_lines ts ≡ (codes "  wire " ++ (joined true ts ++ codes ";")) ∷ []
wire_line [] h = absurd cc
wire_line (t ∷ ts) h = refl

nil_append : (ts us : List (List ℕ)) → is_nil (ts ++ us) ≡ (is_nil ts && is_nil us)
nil_append [] us = refl
nil_append (t ∷ ts) us = refl

nil_both : (a b c : Bool) → (a && b) ≡ false → (a && (b && c)) ≡ false
nil_both true true c h = absurd cc
nil_both true false c h = refl
nil_both false b c h = refl

pub inner_texts : (m : ModuleValue) → wire_texts m (inner_wires m.netlist)
    ≡ each_below (λ k. signal_text m.netlist.gates.inputs (m.netlist.gates.inputs + k) ∷ [])
    (length m.netlist.gates.gates) ++ (each_below (λ v. (codes "c_" ++ name_of m.names v) ∷ [])
    (length m.netlist.conditions) ++ wire_texts m (arc_wires m.netlist))
inner_texts m =
    map-append _ (signals_from m.netlist.gates.inputs (length m.netlist.gates.gates)) (for_each Condition (length m.netlist.conditions) ++ arc_wires m.netlist)
    ∙ ap₂ (λ x y. x ++ y) (texts_below m (λ k. Signal (m.netlist.gates.inputs + k)) (length m.netlist.gates.gates))
    (map-append _ (for_each Condition (length m.netlist.conditions)) (arc_wires m.netlist) ∙ ap (λ x. x ++ wire_texts m (arc_wires m.netlist)) (texts_below m Condition (length m.netlist.conditions)))

pub no_wire_lines : (m : ModuleValue) (n : ℕ) → n ≡ length m.netlist.gates.gates + length m.netlist.conditions → n ≡ 0 → wire_lines (wire_texts m (inner_wires m.netlist)) ≡ []
no_wire_lines m n en h =
    let g0 : length m.netlist.gates.gates ≡ 0 = omega arith in
    let n0 : length m.netlist.conditions ≡ 0 = omega arith in
    ap₂ (λ g k. wire_lines (wire_texts m (signals_from m.netlist.gates.inputs g ++ (for_each Condition k ++ each_below (λ u. arc_wires_from m.netlist u k) k)))) g0 n0

pub wires_written : (m : ModuleValue) (bits start gates : ℕ) (first : Bool) (names : List (List ℕ))
    (a o1 o2 o3 o4 o5 : List ℕ) → IsModule m → 0 < length m.netlist.gates.gates + length m.netlist.conditions
    → bits ≡ m.netlist.gates.inputs → start ≡ bits → gates ≡ length m.netlist.gates.gates → first ≡ eqb gates 0 →
    names ≡ m.names → o1 ≡ a ++ codes "  wire " →
    o2 ≡ o1 ++ joined true (each_below (λ k. signal_text bits (start + k) ∷ []) gates)
    → o3 ≡ o2 ++ joined first (each_below (λ v. (codes "c_" ++ name_of names v) ∷ []) (length names)) →
    o4 ≡ o3 ++ joined false (wire_texts m (arc_wires m.netlist)) → o5 ≡ o4 ++ codes ";\n" →
    o5 ≡ a ++ text_of (wire_lines (wire_texts m (inner_wires m.netlist)))
wires_written m bits start gates first names a o1 o2 o3 o4 o5 is some eb es eg ef en e1 e2 e3 e4 e5 =
    let inputs = m.netlist.gates.inputs in
    let count = length m.netlist.conditions in
    let g = length m.netlist.gates.gates in
    let us : List (List ℕ) → ℕ → List (List ℕ) = λ ns n. each_below (λ v. (codes "c_" ++ name_of ns v) ∷ []) n in
    let ts : ℕ → ℕ → ℕ → List (List ℕ) = λ b s n. each_below (λ k. signal_text b (s + k) ∷ []) n in
    let gs = ts inputs inputs g in
    let cs = us m.names count in
    let arcs = wire_texts m (arc_wires m.netlist) in
    let ng : is_nil gs ≡ eqb g 0 = nil_below (λ k. signal_text inputs (inputs + k)) g in
    let nc : is_nil cs ≡ eqb count 0 = nil_below (λ v. codes "c_" ++ name_of m.names v) count in
    let neither : (is_nil gs && is_nil cs) ≡ false = ap₂ (λ x y. x && y) ng nc ∙ both_zero g count some in
    let text : joined true (gs ++ (cs ++ arcs)) ≡ joined true gs ++ (joined (is_nil gs) cs ++ joined false arcs) =
    joined_append true gs (cs ++ arcs) ∙ ap (λ x. joined true gs ++ x) (joined_append (is_nil gs) cs arcs ∙ ap (λ b. joined (is_nil gs) cs ++ joined b arcs) neither) in
    let line : wire_lines (wire_texts m (inner_wires m.netlist)) ≡ (codes "  wire " ++ ((joined true gs ++ (joined (is_nil gs) cs ++ joined false arcs)) ++ codes ";")) ∷ [] =
    ap wire_lines (inner_texts m)
    ∙ wire_line (gs ++ (cs ++ arcs)) (nil_append gs (cs ++ arcs) ∙ ap (λ b. is_nil gs && b) (nil_append cs arcs) ∙ nil_both (is_nil gs) (is_nil cs) (is_nil arcs) neither)
    ∙ ap (λ x. (codes "  wire " ++ (x ++ codes ";")) ∷ []) text in
    let p2 : o2 ≡ (a ++ codes "  wire ") ++ joined true gs =
    e2 ∙ ap₂ (λ x n. x ++ joined true (ts bits start n)) e1 eg ∙ ap₂ (λ b s. (a ++ codes "  wire ") ++ joined true (ts b s g)) eb (es ∙ eb) in
    let p3 : o3 ≡ ((a ++ codes "  wire ") ++ joined true gs) ++ joined (is_nil gs) cs =
    e3 ∙ ap₂ (λ x y. x ++ joined first y) p2 (ap (λ ns. us ns (length ns)) en ∙ ap (us m.names) is.one_name_each)
    ∙ ap (λ b. ((a ++ codes "  wire ") ++ joined true gs) ++ joined b cs) (ef ∙ ap (λ n. eqb n 0) eg ∙ sym ng) in
    e5
    ∙ ap (λ x. x ++ codes ";\n") (e4 ∙ ap (λ x. x ++ joined false arcs) p3)
    ∙ pieces a (joined true gs) (joined (is_nil gs) cs) (joined false arcs)
    ∙ ap (λ ls. a ++ text_of ls) (sym line)
  where
    pieces : (a x y z : List ℕ) → (((((a ++ codes "  wire ") ++ x) ++ y) ++ z) ++ codes ";\n") ≡ a ++ text_of ((codes "  wire " ++ ((x ++ (y ++ z)) ++ codes ";")) ∷ [])
    pieces a x y z = simp (append_assoc, append-nil)

-- ---- the whole module

parts_written : (p w r1 r2 r3 r4 : List (List ℕ)) (d i e a : List ℕ) → let t : List (List ℕ) → List ℕ =
    text_of in ((((((((a ++ t p) ++ t w) ++ t r1) ++ t r2) ++ t r3) ++ t r4) ++ t (d ∷ [])) ++ t (i ∷ [])) ++ t
    (e ∷ [])
    ≡ a ++ t (p ++ (w ++ ((r1 ++ (r2 ++ (r3 ++ (r4 ++ (d ∷ i ∷ []))))) ++ e ∷ [])))
parts_written p w r1 r2 r3 r4 d i e a =
    let x1 : List ℕ = (a ++ text_of p) ++ text_of w in
    let x2 : List ℕ = (x1 ++ text_of r1) ++ text_of r2 in
    let x4 : List ℕ = (x2 ++ text_of r3) ++ text_of r4 in
    text_more (x4 ++ text_of (d ∷ [])) (i ∷ []) (e ∷ [])
    ∙ text_more x4 (d ∷ []) (i ∷ e ∷ [])
    ∙ text_more (x2 ++ text_of r3) r4 (d ∷ i ∷ e ∷ [])
    ∙ text_more x2 r3 (r4 ++ (d ∷ i ∷ e ∷ []))
    ∙ text_more (x1 ++ text_of r1) r2 (r3 ++ (r4 ++ (d ∷ i ∷ e ∷ [])))
    ∙ text_more x1 r1 (r2 ++ (r3 ++ (r4 ++ (d ∷ i ∷ e ∷ []))))
    ∙ text_more (a ++ text_of p) w (r1 ++ (r2 ++ (r3 ++ (r4 ++ (d ∷ i ∷ e ∷ [])))))
    ∙ text_more a p (w ++ (r1 ++ (r2 ++ (r3 ++ (r4 ++ (d ∷ i ∷ e ∷ []))))))
    ∙ ap (λ ls. a ++ text_of (p ++ (w ++ ls))) (sym (
    append_assoc r1 (r2 ++ (r3 ++ (r4 ++ (d ∷ i ∷ [])))) (e ∷ [])
    ∙ ap (λ ls. r1 ++ ls) (append_assoc r2 (r3 ++ (r4 ++ (d ∷ i ∷ []))) (e ∷ [])
    ∙ ap (λ ls. r2 ++ ls) (append_assoc r3 (r4 ++ (d ∷ i ∷ [])) (e ∷ []) ∙ ap (λ ls. r3 ++ ls) (append_assoc r4 (d ∷ i ∷ []) (e ∷ []))))))

pub rows_split : (m : ModuleValue) (e1 e2 e3 e4 es : List Equation) →
    equation_rows m (e1 ++ (e2 ++ (e3 ++ (e4 ++ es)))) ≡ equation_rows m e1 ++
    (equation_rows m e2 ++ (equation_rows m e3 ++ (equation_rows m e4 ++ equation_rows m es)))
rows_split m e1 e2 e3 e4 es =
    map-append _ e1 (e2 ++ (e3 ++ (e4 ++ es)))
    ∙ ap (λ x. equation_rows m e1 ++ x) (map-append _ e2 (e3 ++ (e4 ++ es))
    ∙ ap (λ x. equation_rows m e2 ++ x) (map-append _ e3 (e4 ++ es) ∙ ap (λ x. equation_rows m e3 ++ x) (map-append _ e4 es)))

pub module_written : (m : ModuleValue) (a o1 o2 o3 o4 o5 o6 o7 o8 o9 : List ℕ) → let n : Netlist =
    m.netlist in let count : ℕ = length n.conditions in let rows : List Equation → List (List ℕ) = equation_rows m in
    o1 ≡ a ++ text_of (port_lines m) → o2 ≡ o1 ++ text_of (wire_lines (wire_texts m (inner_wires n))) → o3 ≡ o2 ++ text_of (rows (gate_equations n.gates))
    → o4 ≡ o3 ++ text_of (rows (each_below (λ v. condition_equation v (condition_of n v) ∷ []) count)) → o5 ≡ o4 ++ text_of (rows (each_below (λ u. arc_equations_from n u count) count))
    → o6 ≡ o5 ++ text_of (rows (each_below (λ v. request_equation n v ∷ []) count)) →
    o7 ≡ o6 ++ text_of (rows (done_equation count ∷ [])) → o8 ≡ o7 ++ text_of (rows (idle_equation count ∷ [])) →
    o9 ≡ o8 ++ codes "endmodule\n"
    → o9 ≡ a ++ text_of (module_lines m)
module_written m a o1 o2 o3 o4 o5 o6 o7 o8 o9 e1 e2 e3 e4 e5 e6 e7 e8 e9 =
    let n : Netlist = m.netlist in
    let count : ℕ = length n.conditions in
    let rows : List Equation → List (List ℕ) = equation_rows m in
    let wires : List (List ℕ) = wire_lines (wire_texts m (inner_wires n)) in
    let es2 : List Equation = each_below (λ v. condition_equation v (condition_of n v) ∷ []) count in
    let es3 : List Equation = each_below (λ u. arc_equations_from n u count) count in
    let es4 : List Equation = each_below (λ v. request_equation n v ∷ []) count in
    let add : List (List ℕ) → List ℕ → List ℕ = λ ls x. x ++ text_of ls in
    e9
    ∙ ap (add (codes "endmodule" ∷ [])) (e8 ∙ ap (add (rows (idle_equation count ∷ []))) (e7
    ∙ ap (add (rows (done_equation count ∷ []))) (e6
    ∙ ap (add (rows es4)) (e5 ∙ ap (add (rows es3)) (e4
    ∙ ap (add (rows es2)) (e3 ∙ ap (add (rows (gate_equations n.gates))) (e2 ∙ ap (add wires) e1)))))))
    ∙ parts_written (port_lines m) wires (rows (gate_equations n.gates)) (rows es2) (rows es3) (rows es4)
    (equation_row n.gates.inputs m.names (done_equation count))
    (equation_row n.gates.inputs m.names (idle_equation count)) (codes "endmodule") a
    ∙ ap (λ ls. a ++ text_of (port_lines m ++ (wires ++ (ls ++ codes "endmodule" ∷ [])))) (sym (rows_split m (gate_equations n.gates) es2 es3 es4 (done_equation count ∷ idle_equation count ∷ [])))
