-- An encoding of at most so many gates satisfies the template with so many.
use Rattle.std.proofs.Common.{◌≡◌, ℕ, suc, ◌<◌, ◌≤◌, Bool, true, false, not, ◌&&◌, if◌then◌else◌, IsTrue, bit_xor, List, [], ◌∷◌, map, length, get_or, All, refl, sym, ap, ◌∙◌, subst, arith}
use Rattle.std.specs.List.{list_any}
use Rattle.std.proofs.lemmas.List.{length-map, get_or-map}
use Rattle.std.proofs.lemmas.List.Elements.{All-get_or, All-from_get_or}
use Rattle.cpog_defs.specs.declared.types.Bit3.{Bit3}
use Rattle.cpog_defs.specs.declared.types.Ref.TheVariants.{Const}
use Rattle.cpog_defs.specs.declared.types.Place.{Place}
use Rattle.cpog_defs.specs.declared.types.Place.TheVariants.{Op}
use Rattle.cpog_defs.specs.Codes.{bit, AreCodes}
use Rattle.cpog_defs.specs.Orders.{Order, IsOrderOf}
use Rattle.cpog_defs.specs.Gates.{signal_count, IsRefOver}
use Rattle.cpog_defs.specs.Graphs.{IsPlace, ref_of}
use Rattle.cpog_defs.specs.Columns.{entry}
use Rattle.cpog_defs.specs.declared.types.Gate.{Gate}
use Rattle.cpog_defs.specs.Entries.{Agrees, entry_at}
use Rattle.cpog_defs.specs.Gates.{signal_values, ref_value}
use Rattle.cpog_base.specs.Column.{is_one, is_zero}
use Rattle.gate_core.specs.Columns.{IsOpenColumn}
use Rattle.cpog_merge.specs.Columns.{Columns, column_at, count_of, AreColumnsOf, AgreesWith}
use Rattle.cpog_merge.specs.Classes.{IsClass, Classes, AreClassesOf}
use Rattle.cpog_merge.proofs.FitLemmas.{columns_fit}
use Rattle.clause_arena.specs.Clauses.{IsSatisfiable, by_place}
use Rattle.gate_forms.specs.Forms.{IsNormalForm, padded, ReadTheSame, new_ref}
use Rattle.gate_forms.proofs.FormLemmas.{normal_form, normal_list, normal_flags, normal_valid, flipped_form, flipped_list, flipped_flags, flipped_valid, length-padded, padded_normal}
use Rattle.gate_template.specs.declared.types.Template.{Template}
use Rattle.gate_template.specs.Values.{Parts, IsSolution, HasZeros, TakesOpenBits, value_of}
use Rattle.gate_template.specs.Families.{gives}
use Rattle.gate_template.specs.Templates.{shape_of, template, kept_patterns, ArePatterns}
use Rattle.gate_template.specs.Laws.{HasEncodingWithin}
use Rattle.gate_template.proofs.NumberLemmas.{in_order}
use Rattle.gate_template.proofs.DecodeLemmas.{number_from, number_from-lt, bit-number_from}
use Rattle.gate_template.specs.Listed.{listed}
use Rattle.gate_template.proofs.ListedLemmas.{length-listed, get_or-listed, serve_from}
use Rattle.gate_template.proofs.ServeLemmas.{parts_satisfy, normal_serves, padded_serves}
use Rattle.gate_template.proofs.FlippedLemmas.{flipped_is_solution, flipped_has_zeros}

-- ---- what serves, made normal and padded

pub served_satisfied : (kind : Template) (patterns columns : List (List Bit3)) (bits gates : ℕ) (e : Parts) → IsSolution kind patterns bits columns e → HasZeros kind patterns bits e.codes → length e.gates.gates ≤ gates → 2 ≤ bits →
    All (IsOpenColumn (length patterns)) columns → 1 ≤ length patterns → IsSatisfiable (template kind patterns bits gates columns)
served_satisfied kind patterns columns bits gates e sv zeros few two opens some =
    let list = normal_list e.gates sv.gates in
    let refs = map (new_ref (normal_flags e.gates sv.gates)) e.refs in
    let form : IsNormalForm e.gates e.refs list refs = normal_form e.gates e.refs sv.gates sv.references.over in
    let n : Parts = record { codes = e.codes; gates = list; refs = refs } in
    let ns : IsSolution kind patterns bits columns n = normal_serves kind patterns columns bits e list refs sv (normal_valid e.gates sv.gates) form in
    let fits : length list.gates ≤ gates = omega (arith, form.as_many, few) in
    let p : Parts = record { codes = e.codes; gates = padded list gates; refs = refs } in
    let ps : IsSolution kind patterns bits columns p = padded_serves kind patterns columns bits gates n two fits ns in (
      by_place (in_order (shape_of patterns bits gates columns) (value_of p)),
      parts_satisfy kind patterns columns bits gates p ps zeros (padded_normal list gates form.normal) (length-padded list gates fits) opens some,
    )

-- ---- a first code with the zeros that a template asks for

module _ (kind : Template) (patterns columns : List (List Bit3)) (bits : ℕ) (e : Parts) (sv : IsSolution kind patterns bits columns e) (even : All (λ p. length p ≡ bits) patterns) (some : 1 ≤ length patterns) where
  -- where the first code is 1 and no pattern gives a bit
  abbrev flips : ℕ → Bool
  flips i = not (gives (kept_patterns kind patterns) i) && bit (get_or e.codes 0 0) i

  abbrev mask : ℕ
  mask = number_from bits flips

  takes : TakesOpenBits kind patterns bits mask e
  takes = record {
    below = number_from-lt bits flips;
    bits_are = λ i l. bit-number_from bits flips i l ∙ choice (gives (kept_patterns kind patterns) i) (bit (get_or e.codes 0 0) i);
  }
    where
      choice : (g b : Bool) → (not g && b) ≡ (if g then false else b)
      choice true b = refl
      choice false b = refl

  moved : Parts
  moved = record { codes = map (bit_xor mask) e.codes; gates = flipped_list mask e.gates sv.gates; refs = map (new_ref (flipped_flags mask e.gates sv.gates)) e.refs }

  pub flipped_satisfied : (gates : ℕ) → length e.gates.gates ≤ gates → 2 ≤ bits → All (IsOpenColumn (length patterns)) columns → IsSatisfiable (template kind patterns bits gates columns)
  unfolding moved
  flipped_satisfied gates few two opens =
      let fl = flipped_form mask e.gates e.refs sv.gates sv.references.over in
      let ok = flipped_valid mask e.gates sv.gates in
      served_satisfied kind patterns columns bits gates moved (flipped_is_solution kind patterns columns bits mask e moved even sv takes refl ok fl)
      (flipped_has_zeros kind patterns columns bits mask e moved even sv takes refl ok fl some)
      (omega (arith, few, same_count e.gates.gates (flipped_list mask e.gates sv.gates).gates fl.reads)) two opens some
    where
      same_count : (a b : List Gate) → ReadTheSame a b → length a ≡ length b
      same_count [] [] h = refl
      same_count (x ∷ a) (y ∷ b) h = ap suc (same_count a b h.2)
      same_count [] (y ∷ b) h = absurd h
      same_count (x ∷ a) [] h = absurd h

-- ---- from an encoding

first_place : Place
first_place = Op (record { 0 = 0 })

pub satisfied_by : (kind : Template) (orders : List Order) (patterns : List (List Bit3)) (t : Columns) (list : Classes) (bits gates : ℕ) →
    All (IsOrderOf (count_of orders)) orders → AreColumnsOf orders t → AreClassesOf t list → 1 ≤ length orders → 2 ≤ bits → ArePatterns bits (length orders) patterns →
    HasEncodingWithin (count_of orders) orders (kept_patterns kind patterns) bits gates → IsSatisfiable (template kind patterns bits gates list.columns)
satisfied_by kind orders patterns t list bits gates alike are classes some two ps has =
    let e = has.encoding.encoding in
    let enc = has.encoding.encodes in
    let agree : AgreesWith e t = (columns_fit orders t alike are e enc.encoding).0 enc.fits in
    let k : ℕ = length list.columns in
    let place = λ (c : ℕ). get_or list.places c first_place in
    let ref = λ (c : ℕ). ref_of e.graph (place c) in
    let same : k ≡ length list.places = ap length classes.columns ∙ length-map list.places (column_at t) in
    let class = λ (c : ℕ) (l : c < k). All-get_or (IsClass t) list.places c first_place (omega (arith, same)) classes.places.each in
    let column_is = λ (c : ℕ) (l : c < k). (ap (λ cs. get_or cs c []) classes.columns) ∙ get_or-map (column_at t) list.places c first_place [] (omega (arith, same)) in
    let in_orders = λ (c : ℕ) (l : c < k). subst (λ n. IsPlace n (place c)) are.count (class c l).is_open.place in
    let p : Parts = record { codes = e.codes; gates = e.gates; refs = listed ref k } in
    let serves : IsSolution kind patterns bits list.columns p = record {
      inputs = enc.bits_are;
      codes = subst (λ n. AreCodes bits n e.codes) (sym ps.one_each) enc.codes;
      given = enc.given;
      gates = enc.encoding.gates;
      references = serve_from list.columns e.codes e.gates (listed ref k) (length-listed ref k)
          (λ c d l. let m : c < k = omega (arith, length-listed ref k) in
          subst (IsRefOver (signal_count e.gates)) (sym (get_or-listed ref k c d m)) (enc.encoding.graph.over (place c) (in_orders c m)))
          (λ c l s word at.
          subst (λ r. Agrees (entry_at (get_or list.columns c []) s) (ref_value (signal_values e.gates word) r)) (sym (get_or-listed ref k c (Const false) l))
          (subst (λ col. Agrees (entry_at col s) (ref_value (signal_values e.gates word) (ref c))) (sym (column_is c l)) (agree.agrees (place c) (class c l).is_open.place s word at)));
    } in
    let opens : All (IsOpenColumn (length patterns)) list.columns = All-from_get_or (IsOpenColumn (length patterns)) list.columns [] (λ c l. record {
      entries = ap length (column_is c l ∙ are.columns (place c) (in_orders c l)) ∙ length-map orders (entry (place c)) ∙ sym ps.one_each;
      some_one = subst (λ col. IsTrue (list_any is_one col)) (sym (column_is c l)) (class c l).is_open.column.some_one;
      some_zero = subst (λ col. IsTrue (list_any is_zero col)) (sym (column_is c l)) (class c l).is_open.column.some_zero;
    }) in
    flipped_satisfied kind patterns list.columns bits p serves ps.lengths (omega (arith, ps.one_each)) gates (omega (arith, has.encoding.cost_is, has.within)) two opens
