-- No line of a module holds a line feed.
use Rattle.std.proofs.Common.{◌≡◌, ℕ, zero, suc, ◌-◌, ◌^◌, ◌<◌, Bool, true, false, cond, List, [], ◌∷◌, ◌++◌, get_or, refl, arith, Option, None, Some}
use Rattle.std.specs.Prelude.{codes, nat_lt}
use Rattle.std.specs.List.{AllByRecursion}
use Rattle.std.specs.Fmt.{decimal}
use Rattle.std.proofs.lemmas.List.Elements.{recursion_from_All}
use Rattle.line_text.specs.Words.{continues_name}
use Rattle.line_text.proofs.FeedLemmas.{NoFeed, is_clean, joined_free, passes_free, clean_free, clean_front, decimal_free}
use Rattle.line_text.proofs.TellingLemmas.{AllPass, free_name_passes}
use Rattle.netlist_verilog.specs.Module.{ModuleValue, IsModule, AreNames, IsWireOf, called}
use Rattle.netlist_verilog.specs.Wires.{Wire, Signal, Go, Acknowledge, Request, Done, Idle, Condition, ArcCondition, name_of, signal_text}
use Rattle.netlist_verilog.specs.Formulas.{Formula, Bit, Read, Not, And, Xor, Or, ReadsOnly, NamesOnly, Equation, grouped, tightness, formula_text, comment_text, equation_row}
use Rattle.netlist_verilog.specs.Equations.{equations}
use Rattle.netlist_verilog.specs.Rows.{separator, joined, wire_texts, input_wires, output_wires, inner_wires, wire_lines, equation_lines, module_lines}
use Rattle.netlist_verilog.proofs.ValueLemmas.{parts_joined}
use Rattle.netlist_verilog.specs.Laws.{IsEquationOf}
use Rattle.netlist_verilog.proofs.BelowLemmas.{mapped}
use Rattle.netlist_verilog.proofs.CallingLemmas.{signal_fits}
use Rattle.netlist_verilog.proofs.OwnLemmas.{equations_over, inputs_own, outputs_own, inner_own}

-- ---- names

pub names_pass : (names : List (List ℕ)) → AreNames names → AllByRecursion (AllPass continues_name) names
names_pass names h = recursion_from_All (AllPass continues_name) names (λ k d lt. free_name_passes (get_or names k d) (h k d lt))

pub name_passes : (names : List (List ℕ)) (v : ℕ) → AllByRecursion (AllPass continues_name) names → AllPass continues_name (name_of names v)
name_passes [] v h = tt
name_passes (n ∷ ns) zero h = h.0
name_passes (n ∷ ns) (suc v) h = name_passes ns v h.1

-- ---- wires and equations

-- a signal holds none
pub signal_free : (inputs n : ℕ) → n < 2 ^ 64 → NoFeed (signal_text inputs n)
signal_free inputs n lt = chosen (nat_lt n inputs)
  where
    chosen : (b : Bool) → NoFeed (cond b (codes "x" ++ decimal n) (codes "g" ++ decimal (n - inputs)))
    chosen true = clean_front (codes "x") (decimal n) refl (decimal_free n lt)
    chosen false = clean_front (codes "g") (decimal (n - inputs)) refl (decimal_free (n - inputs) (omega arith))

name_free : (m : ModuleValue) (v : ℕ) → IsModule m → NoFeed (name_of m.names v)
name_free m v is = passes_free (name_of m.names v) (name_passes m.names v (names_pass m.names is.names))

wire_free : (m : ModuleValue) (w : Wire) → IsModule m → IsWireOf m w → NoFeed (called m w)
wire_free m (Signal n) is own = signal_free m.netlist.gates.inputs n (signal_fits m n is own)
wire_free m Go is own = clean_free (codes "go") refl
wire_free m (Acknowledge v) is own = clean_front (codes "a_") (name_of m.names v) refl (name_free m v is)
wire_free m (Request v) is own = clean_front (codes "r_") (name_of m.names v) refl (name_free m v is)
wire_free m Done is own = clean_free (codes "done") refl
wire_free m Idle is own = clean_free (codes "idle") refl
wire_free m (Condition v) is own = clean_front (codes "c_") (name_of m.names v) refl (name_free m v is)
wire_free m (ArcCondition u v) is own =
    clean_front (codes "e") (decimal u ++ (codes "_" ++ decimal v)) refl
    (joined_free (decimal u) (codes "_" ++ decimal v) (decimal_free u (omega (arith, own.0, is.netlist.few)))
    (clean_front (codes "_") (decimal v) refl (decimal_free v (omega (arith, own.1, is.netlist.few)))))

grouped_free : (least tight : ℕ) (t : List ℕ) → NoFeed t → NoFeed (grouped least tight t)
grouped_free least tight t h = chosen (nat_lt tight least)
  where
    chosen : (b : Bool) → NoFeed (cond b (codes "(" ++ (t ++ codes ")")) t)
    chosen true = clean_front (codes "(") (t ++ codes ")") refl (joined_free t (codes ")") h (clean_free (codes ")") refl))
    chosen false = h

infix_free : (op x y : List ℕ) → is_clean op ≡ true → NoFeed x → NoFeed y → NoFeed (x ++ (op ++ y))
infix_free op x y h hx hy = joined_free x (op ++ y) hx (clean_front op y h hy)

formula_free : (m : ModuleValue) (f : Formula) → IsModule m → ReadsOnly (IsWireOf m) f → NoFeed (formula_text m.netlist.gates.inputs m.names f)
formula_free m (Bit false) is h = clean_free (codes "1'b0") refl
formula_free m (Bit true) is h = clean_free (codes "1'b1") refl
formula_free m (Read w) is h = wire_free m w is h
formula_free m (Not f) is h = clean_front (codes "~") _ refl (grouped_free 4 (tightness f) (formula_text m.netlist.gates.inputs m.names f) (formula_free m f is h))
formula_free m (And f g) is h =
    infix_free (codes " & ") _ _ refl (grouped_free 2 (tightness f) (formula_text m.netlist.gates.inputs m.names f)
    (formula_free m f is h.0)) (grouped_free 3 (tightness g) (formula_text m.netlist.gates.inputs m.names g)
    (formula_free m g is h.1))
formula_free m (Xor f g) is h =
    infix_free (codes " ^ ") _ _ refl (grouped_free 1 (tightness f) (formula_text m.netlist.gates.inputs m.names f)
    (formula_free m f is h.0)) (grouped_free 2 (tightness g) (formula_text m.netlist.gates.inputs m.names g)
    (formula_free m g is h.1))
formula_free m (Or f g) is h =
    infix_free (codes " | ") _ _ refl (formula_free m f is h.0) (grouped_free 1 (tightness g) (formula_text m.netlist.gates.inputs m.names g) (formula_free m g is h.1))

comment_free : (m : ModuleValue) (c : Option (Wire × Wire)) → IsModule m → NamesOnly (IsWireOf m) c → NoFeed (comment_text m.netlist.gates.inputs m.names c)
comment_free m None is h = tt
comment_free m (Some both) is h =
    clean_front (codes " /* ") _ refl (joined_free _ _ (wire_free m both.0 is h.0)
    (clean_front (codes " ") _ refl (joined_free _ (codes " */") (wire_free m both.1 is h.1)
    (clean_free (codes " */") refl))))

row_free : (m : ModuleValue) (e : Equation) → IsModule m → IsEquationOf m e → NoFeed (equation_row m.netlist.gates.inputs m.names e)
row_free m e is h =
    clean_front (codes "  assign ") _ refl (joined_free _ _ (wire_free m e.wire is h.assigned) (clean_front (codes " = ") _ refl
    (joined_free _ _ (formula_free m e.formula is h.read) (joined_free _ (codes ";") (comment_free m e.comment is h.named) (clean_free (codes ";") refl)))))

-- ---- lists of wires

separator_free : (first : Bool) → NoFeed (separator first)
separator_free true = tt
separator_free false = clean_free (codes ", ") refl

list_free : (first : Bool) (ts : List (List ℕ)) → AllByRecursion NoFeed ts → NoFeed (joined first ts)
list_free first [] h = tt
list_free first (t ∷ ts) h = joined_free (separator first) _ (separator_free first) (joined_free t (joined false ts) h.0 (list_free false ts h.1))

wires_free : (m : ModuleValue) → IsModule m → (ws : List Wire) → AllByRecursion (IsWireOf m) ws → AllByRecursion NoFeed (wire_texts m ws)
wires_free m is ws own = mapped (IsWireOf m) NoFeed (called m) (λ w h. wire_free m w is h) ws own

declared_free : (ts : List (List ℕ)) → AllByRecursion NoFeed ts → AllByRecursion NoFeed (wire_lines ts)
declared_free [] h = tt
declared_free (t ∷ ts) h = (clean_front (codes "  wire ") _ refl (joined_free _ (codes ";") (list_free true (t ∷ ts) h) (clean_free (codes ";") refl)), tt)

pub lines_free : (m : ModuleValue) → IsModule m → AllByRecursion NoFeed (module_lines m)
lines_free m is =
    let ins = list_free true _ (wires_free m is (input_wires m.netlist) (inputs_own m)) in
    let outs = list_free true _ (wires_free m is (output_wires m.netlist) (outputs_own m)) in (
      clean_front (codes "module cpog(") _ refl (joined_free _ _ ins (clean_front (codes ", ") _ refl (joined_free _ (codes ");") outs (clean_free (codes ");") refl)))),
      (
        clean_front (codes "  input ") _ refl (joined_free _ (codes ";") ins (clean_free (codes ";") refl)),
        (
          clean_front (codes "  output ") _ refl (joined_free _ (codes ";") outs (clean_free (codes ";") refl)),
          parts_joined NoFeed (wire_lines (wire_texts m (inner_wires m.netlist))) _ (declared_free _ (wires_free m is (inner_wires m.netlist) (inner_own m)))
              (parts_joined NoFeed (equation_lines m) (codes "endmodule" ∷ [])
              (mapped (IsEquationOf m) NoFeed (equation_row m.netlist.gates.inputs m.names) (λ e h. row_free m e is h) (equations m.netlist) (equations_over m is))
              (clean_free (codes "endmodule") refl, tt)),
        ),
      ),
    )
