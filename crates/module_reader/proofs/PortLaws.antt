-- The lines of the ports are read exactly.
use Rattle.std.proofs.Common.{◌≡◌, ℕ, zero, suc, ◌<◌, ◌≤◌, ◌+◌, Bool, true, false, cond, ◌&&◌, eqb, leb, List, [], ◌∷◌, ◌++◌, length, map, Option, Some, None, refl, sym, ap, ap₂, subst, ◌∙◌, arith, append_assoc}
use Rattle.std.specs.Prelude.{codes}
use Rattle.std.specs.Fmt.{decimal}
use Rattle.std.specs.List.{AllByRecursion, IsDistinct}
use Rattle.std.specs.Str.{bytes_eq}
use Rattle.std.proofs.lemmas.Bool.{le-leb, leb-true, lt-ltb, ne_eqb}
use Rattle.std.proofs.lemmas.List.{map-append}
use Rattle.std.proofs.lemmas.Slice.Eq.{bytes_eq-Decides}
use Rattle.cpog_base.specs.Names.{AreDistinct}
use Rattle.cpog_defs.specs.Orders.{each_below}
use Rattle.line_text.specs.Words.{is_free_name}
use Rattle.line_text.proofs.TellingLemmas.{heads, tails}
use Rattle.netlist_verilog.specs.Wires.{Signal, Go, Acknowledge, Request, Done, Idle, name_of, signal_text, wire_text}
use Rattle.netlist_verilog.specs.Rows.{separator, joined, signals_from, for_each}
use Rattle.netlist_verilog.proofs.BelowLemmas.{map_ones}
use Rattle.netlist_verilog.proofs.WritingLemmas.{nil_below, middle}
use Rattle.line_rows.specs.Words.{◌>>=?◌, behind}
use Rattle.line_rows.proofs.Exact.{IsExact, behind_again, behind_takes, some_of, tested, both_true, none_where}
use Rattle.line_rows.proofs.RowLaws.{IsRows, rows-row, rows-then, rows-view, exact-exactly}
use Rattle.module_reader.specs.Lists.{run, names_run}
use Rattle.module_reader.specs.Modules.{inputs_text, outputs_text, header_line, inputs_line, outputs_line, input_item, header_end, header_from, header_names, header_in, first_of, ports_at, IsPorts}
use Rattle.module_reader.proofs.RowLaws.{below_front}
use Rattle.module_reader.proofs.ListLaws.{items_text, run_takes, run_again, items_joined}
use Rattle.module_reader.proofs.NameLaws.{names_text, names_take, names_again, Follows, new_are_distinct, distinct_are_new}

pub none_behind : (front bytes : List ℕ) → ((rest : List ℕ) → bytes ≡ front ++ rest → ⊥) → behind front bytes ≡ None
none_behind front bytes h = sym (none_where (behind front bytes) (λ rest e. h rest (behind_takes front bytes rest e)))

pub below_same : {A : Type 0} (f g : ℕ → List A) (n : ℕ) → ((k : ℕ) → k < n → f k ≡ g k) → each_below f n ≡ each_below g n
below_same f g zero h = refl
below_same {A = A} f g (suc n) h = ap₂ (λ (x y : List A). x ++ y) (below_same f g n (λ k lt. h k (omega (arith, lt)))) (h n (omega arith))

-- ---- the texts of the ports

pub input_word : (inputs k : ℕ) → k < inputs → signal_text inputs (0 + k) ≡ codes "x" ++ decimal (0 + k)
input_word inputs k lt = let l : (0 + k) < inputs = omega (arith, lt) in rw (lt-ltb (0 + k) inputs l) refl

abbrev pub acknowledges : List (List ℕ) → List (List ℕ)
acknowledges names = each_below (λ v. (codes "a_" ++ name_of names v) ∷ []) (length names)

names_joined : (names : List (List ℕ)) → joined false (acknowledges names) ≡ names_text names
names_joined [] = refl
names_joined (w ∷ ws) = ap (joined false) (below_front (λ v. (codes "a_" ++ name_of (w ∷ ws) v) ∷ []) (length ws)) ∙ ap (λ (x : List ℕ). codes ", a_" ++ (w ++ x)) (names_joined ws)

positive : (n : ℕ) → 1 ≤ n → eqb n 0 ≡ false
positive n h = ne_eqb n 0 (λ e. omega (arith, e, h))

abbrev pub signals_of : ℕ → List (List ℕ)
signals_of inputs = each_below (λ k. signal_text inputs (0 + k) ∷ []) inputs

pub inputs_parts : (inputs : ℕ) (names : List (List ℕ)) → 1 ≤ inputs → inputs_text inputs names ≡ joined true (signals_of inputs) ++ (codes ", go" ++ joined false (acknowledges names))
inputs_parts inputs names some =
    let texts : map (wire_text inputs names) (signals_from 0 inputs ++ (Go ∷ for_each Acknowledge (length names))) ≡ signals_of inputs ++ (codes "go" ∷ acknowledges names) =
    map-append (wire_text inputs names) (signals_from 0 inputs) (Go ∷ for_each Acknowledge (length names))
    ∙ ap₂ (λ (x y : List (List ℕ)). x ++ (codes "go" ∷ y)) (map_ones (wire_text inputs names) (λ k. Signal (0 + k)) inputs) (map_ones (wire_text inputs names) Acknowledge (length names)) in
    ap (joined true) texts ∙ middle (codes "go") (signals_of inputs) (acknowledges names) (nil_below (λ k. signal_text inputs (0 + k)) inputs ∙ positive inputs some)

pub inputs_split : (inputs : ℕ) (names : List (List ℕ)) → 1 ≤ inputs → inputs_text inputs names ≡ items_text input_item inputs 0 ++ (codes ", go" ++ names_text names)
inputs_split inputs names some =
    let same : signals_of inputs ≡ each_below (λ k. (codes "x" ++ decimal (0 + k)) ∷ []) inputs = below_same _ _ inputs (λ k lt. ap (λ (t : List ℕ). t ∷ []) (input_word inputs k lt)) in
    inputs_parts inputs names some
    ∙ ap₂ (λ (x y : List ℕ). x ++ (codes ", go" ++ y)) (ap (joined true) same ∙ sym (items_joined (λ j. codes "x" ++ decimal j) inputs 0)) (names_joined names)

abbrev pub requests : List (List ℕ) → List (List ℕ)
requests names = each_below (λ v. (codes "r_" ++ name_of names v) ∷ []) (length names)

pub outputs_are : (inputs : ℕ) (names : List (List ℕ)) → outputs_text inputs names ≡ joined true (requests names ++ (codes "done" ∷ codes "idle" ∷ []))
outputs_are inputs names =
    ap (joined true) (map-append (wire_text inputs names) (for_each Request (length names)) (Done ∷ Idle ∷ []) ∙ ap (λ (x : List (List ℕ)). x ++ (codes "done" ∷ codes "idle" ∷ [])) (map_ones (wire_text inputs names) Request (length names)))

-- ---- the header

header_split : (inputs : ℕ) (names : List (List ℕ)) → 1 ≤ inputs → header_line inputs names ≡ codes "module cpog(" ++ (items_text input_item inputs 0 ++ (codes ", go" ++ (names_text names ++ header_end names)))
header_split inputs names some =
    let end : List ℕ → List ℕ = λ o. codes ", " ++ (o ++ codes ");") in
    ap₂ (λ (x y : List ℕ). codes "module cpog(" ++ (x ++ end y)) (inputs_split inputs names some) (outputs_are inputs names ∙ sym (outputs_are 0 names))
    ∙ ap (λ (x : List ℕ). codes "module cpog(" ++ x) (append_assoc (items_text input_item inputs 0) (codes ", go" ++ names_text names) (header_end names))

first_output : (names : List (List ℕ)) → (b : ℕ) × (r : List ℕ) × (header_end names ≡ 44 ∷ 32 ∷ b ∷ r) × (100 ≤ b)
first_output [] = (100, _, refl, omega arith)
first_output (w ∷ ws) =
    (114, _, ap (λ (o : List ℕ). codes ", " ++ (o ++ codes ");")) (outputs_are 0 (w ∷ ws) ∙ ap (λ (x : List (List ℕ)). joined true (x ++ (codes "done" ∷ codes "idle" ∷ []))) (below_front (λ v. (codes "r_" ++ name_of (w ∷ ws) v) ∷ []) (length ws))), omega arith)

follows : (names : List (List ℕ)) → Follows (header_end names)
follows names =
    let f = first_output names in
    record {
      after = 32 ∷ f.0 ∷ f.1;
      comma = f.2;
      no_name = none_behind (codes ", a_") (header_end names) (λ rest e. omega (arith, f.3, heads f.0 97 _ _ (tails 32 32 _ _ (tails 44 44 _ _ (sym f.2 ∙ e)))));
    }

no_more_inputs : (k : ℕ) (rest : List ℕ) → 1 ≤ k → behind (input_item (0 + k)) (codes ", go" ++ rest) ≡ None
no_more_inputs k rest some =
    let later : eqb (0 + k) 0 ≡ false = positive (0 + k) (omega (arith, some)) in
    ap (λ (b : Bool). behind (separator b ++ (codes "x" ++ decimal (0 + k))) (codes ", go" ++ rest)) later
    ∙ none_behind (codes ", " ++ (codes "x" ++ decimal (0 + k))) (codes ", go" ++ rest) (λ more e. omega (arith, heads 103 120 _ _ (tails 32 32 _ _ (tails 44 44 _ _ e))))

from_end : (inputs : ℕ) (names : List (List ℕ)) (end : List ℕ) → 1 ≤ inputs → end ≡ header_end names → header_from inputs (names, end) ≡ Some (inputs, names)
from_end inputs names end some e = taken (leb 1 inputs) (bytes_eq end (header_end names)) (le-leb 1 inputs some) ((bytes_eq-Decides end (header_end names)).1 e)
  where
    taken : (a b : Bool) → a ≡ true → b ≡ true → cond {A = Option (ℕ × List (List ℕ))} (a && b) (Some (inputs, names)) None ≡ Some (inputs, names)
    taken true true p q = refl
    taken true false p q = absurd cc
    taken false b p q = absurd cc

header_again : (inputs : ℕ) (names : List (List ℕ)) → IsPorts (inputs, names) → header_in (header_line inputs names) ≡ Some (inputs, names)
unfolding header_in
header_again inputs names fits =
    let end : List ℕ = header_end names in
    let listed : List ℕ = names_text names ++ end in
    let more : List ℕ = codes ", go" ++ listed in
    let first : behind (codes "module cpog(") (header_line inputs names) ≡ Some (items_text input_item inputs 0 ++ more) =
    ap (behind (codes "module cpog(")) (header_split inputs names fits.some) ∙ behind_again (codes "module cpog(") (items_text input_item inputs 0 ++ more) in
    let ran : run input_item 8 0 (items_text input_item inputs 0 ++ more) ≡ (0 + inputs, more) = run_again input_item 8 0 inputs more fits.few (no_more_inputs inputs listed fits.some) in
    let go : behind (codes ", go") more ≡ Some listed = behind_again (codes ", go") listed in
    let found : names_run 128 [] listed ≡ (names, end) = names_again 128 [] names end fits.few_names (distinct_are_new [] names fits.free fits.distinct) (follows names) in
    let zero_more : (0 + inputs) ≡ inputs = omega arith in
    ap (λ (o : Option (List ℕ)). o >>=? λ rest. header_names (run input_item 8 0 rest)) first
    ∙ ap header_names ran
    ∙ ap (λ (o : Option (List ℕ)). o >>=? λ rest. header_from (0 + inputs) (names_run 128 [] rest)) go
    ∙ ap (header_from (0 + inputs)) found
    ∙ ap (λ (k : ℕ). header_from k (names, end)) zero_more
    ∙ from_end inputs names end fits.some refl

header_takes : (line : List ℕ) (h : ℕ × List (List ℕ)) → header_in line ≡ Some h → IsPorts h × (line ≡ header_line h.0 h.1)
unfolding header_in IsDistinct
header_takes line h e =
    let a = some_of _ _ h e in
    let ran = run input_item 8 0 a.0 in
    let r = run_takes input_item 8 0 a.0 in
    let b = some_of (behind (codes ", go") ran.1) (λ rest. header_from ran.0 (names_run 128 [] rest)) h a.2 in
    let found = names_run 128 [] b.0 in
    let n = names_take 128 [] b.0 in
    let t = tested (leb 1 ran.0 && bytes_eq found.1 (header_end found.0)) (ran.0, found.0) h b.2 in
    let both = both_true _ _ t.0 in
    let some : 1 ≤ ran.0 = leb-true 1 ran.0 both.0 in
    let end : found.1 ≡ header_end found.0 = (bytes_eq-Decides _ _).0 both.1 in
    let count : ran.0 ≡ r.count = omega (arith, r.stops) in
    let good = new_are_distinct [] n.names n.new tt in
    let fits : IsPorts (ran.0, found.0) = record {
      some = some;
      few = omega (arith, r.few, count);
      free = subst (AllByRecursion (λ w. is_free_name w ≡ true)) (sym n.made) good.1;
      distinct = subst AreDistinct (sym n.made) good.0;
      few_names = subst (λ (x : List (List ℕ)). length x ≤ 128) (sym n.made) n.few;
    } in
    let listed : b.0 ≡ names_text found.0 ++ header_end found.0 = n.whole ∙ ap₂ (λ (x : List (List ℕ)) (y : List ℕ). names_text x ++ y) (sym n.made) end in
    let whole : line ≡ header_line ran.0 found.0 =
    behind_takes (codes "module cpog(") line a.0 a.1
    ∙ ap (λ (x : List ℕ). codes "module cpog(" ++ x) (r.whole ∙ ap₂ (λ (k : ℕ) (x : List ℕ). items_text input_item k 0 ++ x) (sym count) (behind_takes (codes ", go") ran.1 b.0 b.1 ∙ ap (λ (x : List ℕ). codes ", go" ++ x) listed))
    ∙ sym (header_split ran.0 found.0 some) in
    subst (λ (y : ℕ × List (List ℕ)). IsPorts y × (line ≡ header_line y.0 y.1)) t.1 (fits, whole)

pub header_exact : IsExact IsPorts (λ h. header_line h.0 h.1) header_in
header_exact = record { again = λ h fits. header_again h.0 h.1 fits; takes = λ line h e. header_takes line h e }

-- ---- the three lines

abbrev pub ports_lines : ℕ × List (List ℕ) → List (List ℕ)
ports_lines h = header_line h.0 h.1 ∷ inputs_line h.0 h.1 ∷ outputs_line h.0 h.1 ∷ []

some_ports : IsPorts (1, [])
unfolding IsDistinct
some_ports = record { some = omega arith; few = omega arith; free = tt; distinct = tt; few_names = omega arith }

pub ports_rows : IsRows IsPorts ports_lines ports_at
unfolding ports_at
ports_rows =
    rows-view first_of IsPorts ports_lines
    (rows-then (rows-row header_exact ((1, []), some_ports)) (λ h _. rows-then (rows-row (exact-exactly (inputs_line h.0 h.1)) (tt, tt)) (λ _ _. rows-row (exact-exactly (outputs_line h.0 h.1)) (tt, tt))))
    (λ h fits. ((h, (tt, tt)), (fits, (tt, tt)), refl, refl))
    (λ x fits. (fits.0, refl))

-- what the parts of the line say
pub header_by : (line rest : List ℕ) (x : ℕ × List ℕ) → behind (codes "module cpog(") line ≡ Some rest → x ≡ run input_item 8 0 rest → header_names x ≡ header_in line
unfolding header_in
header_by line rest x first ran = ap header_names ran ∙ sym (ap (λ (o : Option (List ℕ)). o >>=? λ r. header_names (run input_item 8 0 r)) first)
