-- What serves the classes of a template satisfies it, once its gates are normal and as many as the template has.
use Rattle.std.proofs.Common.{◌≡◌, ℕ, zero, suc, ◌+◌, ◌^◌, ◌<◌, ◌≤◌, ◌==◌, Bool, true, false, List, [], ◌∷◌, ◌++◌, map, length, slice_index_or, slice_get, Some, get_or, All, refl, sym, ap, ◌∙◌, subst, inl, inr, arith, drop}
use Rattle.std.proofs.lemmas.Bool.{cases_Bool, cases_lt}
use Rattle.std.proofs.lemmas.Bool.Decides.{nat_tests}
use Rattle.std.proofs.lemmas.Nat.Bits.{same_from_bits_below, bit_at-lt}
use Rattle.std.proofs.lemmas.List.{get_or_past}
use Rattle.std.proofs.lemmas.List.Elements.{All-get_or}
use Rattle.std.proofs.lemmas.Option.{slice_get_within, slice_get-get_or, get_or_from_slice_get}
use Rattle.cpog_defs.specs.declared.types.Bit3.{Bit3}
use Rattle.cpog_defs.specs.declared.types.Bit3.TheVariants.{Free}
use Rattle.cpog_defs.specs.declared.types.Ref.{Ref}
use Rattle.cpog_defs.specs.declared.types.Ref.TheVariants.{Const, Signal}
use Rattle.cpog_defs.specs.Codes.{bit, open_patterns}
use Rattle.cpog_defs.specs.Entries.{Agrees, entry_at}
use Rattle.cpog_defs.specs.Gates.{GateList, IsGateList, signal_count, signal_values, ref_value, IsRefOver}
use Rattle.cpog_defs.specs.Columns.{column}
use Rattle.cpog_defs.specs.Encodings.{RefAgrees}
use Rattle.gate_core.specs.Columns.{IsOpenColumn}
use Rattle.cpog_base.specs.BitLaws.{bit-zero}
use Rattle.gate_core.proofs.GateLemmas.{input-signal, gate-signal, gate_reads}
use Rattle.cpog_merge.proofs.ConverseLemmas.{no_constant}
use Rattle.clause_arena.specs.Clauses.{Satisfies, by_place}
use Rattle.gate_forms.specs.Forms.{flipped, IsNormal, IsNormalForm, idle_gate, padded, DifferBy, IsFlipped}
use Rattle.gate_forms.proofs.FormLemmas.{flipped_twice, padded_ref_value, length-padded, padded_valid}
use Rattle.gate_template.specs.declared.types.Shape.{Shape}
use Rattle.gate_template.specs.declared.types.Template.{Template}
use Rattle.gate_template.specs.declared.types.Template.TheVariants.{First, Second, Third}
use Rattle.gate_template.specs.Values.{Parts, code_of, gate_of, signal_of, sign_of, ref_at, value_of, IsSolution, HasZeros}
use Rattle.gate_template.specs.Families.{code_clauses, gate_clauses, class_clauses, given_clauses, zero_clauses, gives}
use Rattle.gate_template.specs.Templates.{shape_of, further_clauses, named_template, template, kept_patterns}
use Rattle.gate_template.proofs.ClauseLemmas.{NamedSat, sat_both}
use Rattle.gate_template.proofs.NumberLemmas.{all_zero_is, in_order, numbers_from, template_stands}
use Rattle.gate_template.proofs.EncodeLemmas.{codes_sat, AreGates, gates_sat, classes_sat, given_sat, zeros_sat}
use Rattle.gate_template.proofs.ListedLemmas.{agrees_at, serve_from}
use Rattle.gate_template.proofs.LiftLemmas.{keeps, kept_at, not_given, open_at, length-kept}

-- ---- an open column takes a signal

abbrev pub IsSignal : Ref → Type 0
IsSignal r = r ≡ Signal (signal_of r) (sign_of r)

pub takes_signal : (n : ℕ) (gates : GateList) (codes : List ℕ) (column : List Bit3) (r : Ref) → length codes ≡ n → IsOpenColumn n column → RefAgrees gates codes column r → IsSignal r
takes_signal n gates codes column (Signal m negated) each opens agree = refl
takes_signal n gates codes column (Const b) each opens agree =
    absurd (no_constant gates codes column (Const b) (record { entries = refl; some_one = opens.some_one; some_zero = opens.some_zero }) (each ∙ sym opens.entries) agree)

-- ---- normal gates, as many as asked for

zero_bits : (n i : ℕ) → n ≡ 0 → bit n i ≡ false
zero_bits n i e = ap (λ k. bit k i) e ∙ bit-zero i

module _ (kind : Template) (patterns columns : List (List Bit3)) (bits gates : ℕ) (e : Parts) (sv : IsSolution kind patterns bits columns e) (zeros : HasZeros kind patterns bits e.codes)
    (normal : All IsNormal e.gates.gates) (as_many : length e.gates.gates ≡ gates) (opens : All (IsOpenColumn (length patterns)) columns) (some : 1 ≤ length patterns) where
  abbrev z : Shape
  z = shape_of patterns bits gates columns

  there : (s : ℕ) → s < length patterns → slice_get e.codes s ≡ Some (code_of e s)
  there s l = slice_get-get_or e.codes s 0 (omega (arith, sv.codes.one_each))

  signal_there : (c : ℕ) → c < length columns → IsSignal (ref_at e c)
  signal_there c l = takes_signal (length patterns) e.gates e.codes (get_or columns c []) (ref_at e c) sv.codes.one_each (All-get_or (IsOpenColumn (length patterns)) columns c [] l opens) (agrees_at columns e.codes e.gates e.refs sv.references c l)

  first_bits : (s i : ℕ) → s < length patterns → i < bits → slice_index_or (signal_values e.gates (code_of e s)) i false ≡ bit (code_of e s) i
  first_bits s i l m = input-signal e.gates (code_of e s) i (omega (arith, sv.inputs))

  are_gates : AreGates z e sv.inputs
  are_gates = record {
    reads = λ h l.
        let r = gate_reads e.gates.inputs e.gates.gates h idle_gate sv.gates (omega (arith, as_many)) in
        (r.0, omega (arith, r.1, sv.inputs));
    normal = λ h l. normal h idle_gate (omega (arith, as_many));
    computed = λ h s l m. gate-signal e.gates (code_of e s) h (gate_of e h) sv.gates (slice_get-get_or e.gates.gates h idle_gate (omega (arith, as_many)));
  }

  agrees_there : (c s : ℕ) → c < length columns → s < length patterns → Agrees (entry_at (get_or columns c []) s) (ref_value (signal_values e.gates (code_of e s)) (Signal (signal_of (ref_at e c)) (sign_of (ref_at e c))))
  agrees_there c s l m =
      subst (λ r. Agrees (entry_at (get_or columns c []) s) (ref_value (signal_values e.gates (code_of e s)) r)) (signal_there c l) (agrees_at columns e.codes e.gates e.refs sv.references c l s (code_of e s) (there s m))

  signal_within : (c : ℕ) → c < length columns → signal_of (ref_at e c) < bits + gates
  signal_within c l =
      let o : IsRefOver (signal_count e.gates) (ref_at e c) = All-get_or (IsRefOver (signal_count e.gates)) e.refs c (Const false) (omega (arith, sv.references.one_each)) sv.references.over in
      let o' : signal_of (ref_at e c) < signal_count e.gates = subst (IsRefOver (signal_count e.gates)) (signal_there c l) o in
      omega (arith, o', sv.inputs, as_many)

  given_there : (s i : ℕ) → s < length patterns → i < bits → Agrees (entry_at (get_or (kept_patterns kind patterns) s []) i) (bit (code_of e s) i)
  given_there s i l m = kept_at (kept_patterns kind patterns) e.codes sv.given s i (omega (arith, sv.codes.one_each))

  further_sat : (k : Template) → kind ≡ k → NamedSat (value_of e) (further_clauses k z patterns)
  further_sat First at = tt
  further_sat Second at = subst (NamedSat (value_of e)) (sym (all_zero_is z (length patterns))) (zeros_sat z e sv.inputs (open_patterns (length patterns)) (λ i l g. zero_bits (code_of e 0) i (subst (λ k. HasZeros k patterns bits e.codes) at zeros)))
  further_sat Third at =
      sat_both (value_of e) (given_clauses z patterns) (zero_clauses z patterns)
      (given_sat z e sv.inputs patterns (subst (λ k. (s i : ℕ) → s < length patterns → i < bits → Agrees (entry_at (get_or (kept_patterns k patterns) s []) i) (bit (code_of e s) i)) at given_there))
      (zeros_sat z e sv.inputs patterns (subst (λ k. HasZeros k patterns bits e.codes) at zeros))

  named_sat : NamedSat (value_of e) (named_template kind z patterns columns)
  named_sat =
      sat_both (value_of e) (code_clauses z) (gate_clauses z ++ (class_clauses z columns ++ further_clauses kind z patterns))
      (codes_sat z e sv.inputs (λ s l. All-get_or (λ word. word < 2 ^ bits) e.codes s 0 (omega (arith, sv.codes.one_each)) sv.codes.within) (λ s t l m. sv.codes.distinct s t 0 l (omega (arith, sv.codes.one_each))))
      (sat_both (value_of e) (gate_clauses z) (class_clauses z columns ++ further_clauses kind z patterns) (gates_sat z e sv.inputs first_bits are_gates)
      (sat_both (value_of e) (class_clauses z columns) (further_clauses kind z patterns) (classes_sat z e sv.inputs columns first_bits signal_within agrees_there) (further_sat kind refl)))

  pub parts_satisfy : Satisfies (by_place (in_order z (value_of e))) (template kind patterns bits gates columns)
  parts_satisfy = numbers_from z (value_of e) (named_template kind z patterns columns) (template_stands z kind patterns columns some) named_sat

-- ---- other forms serve too

map_at : (f g : Ref → Bool) (xs ys : List Ref) (c : ℕ) (d : Ref) → map f xs ≡ map g ys → c < length xs → c < length ys → f (get_or xs c d) ≡ g (get_or ys c d)
map_at f g [] ys c d h l m = absurd (omega arith)
map_at f g (x ∷ xs) [] c d h l m = absurd (omega arith)
map_at f g (x ∷ xs) (y ∷ ys) zero d h l m = ap (λ vs. get_or vs 0 false) h
map_at f g (x ∷ xs) (y ∷ ys) (suc c) d h l m = map_at f g xs ys c d (ap (λ vs. drop 1 vs) h) (omega arith) (omega arith)

-- the normal form of what serves serves
pub normal_serves : (kind : Template) (patterns columns : List (List Bit3)) (bits : ℕ) (e : Parts) (list : GateList) (refs : List Ref) → IsSolution kind patterns bits columns e → IsGateList list → IsNormalForm e.gates e.refs list refs →
    IsSolution kind patterns bits columns (record { codes = e.codes; gates = list; refs = refs })
normal_serves kind patterns columns bits e list refs sv ok n = record {
  inputs = n.inputs ∙ sv.inputs;
  codes = sv.codes;
  given = sv.given;
  gates = ok;
  references = serve_from columns e.codes list refs (n.one_each ∙ sv.references.one_each) n.over (λ c l s word at.
      subst (Agrees (entry_at (get_or columns c []) s)) (sym (map_at (ref_value (signal_values list word)) (ref_value (signal_values e.gates word)) refs e.refs c (Const false) (n.values word) (omega (arith, n.one_each, sv.references.one_each)) (omega (arith, sv.references.one_each))))
      (agrees_at columns e.codes e.gates e.refs sv.references c l s word at));
}

-- with idle gates behind it too
pub padded_serves : (kind : Template) (patterns columns : List (List Bit3)) (bits to : ℕ) (e : Parts) → 2 ≤ bits → length e.gates.gates ≤ to → IsSolution kind patterns bits columns e →
    IsSolution kind patterns bits columns (record { codes = e.codes; gates = padded e.gates to; refs = e.refs })
padded_serves kind patterns columns bits to e two few sv = record {
  inputs = sv.inputs;
  codes = sv.codes;
  given = sv.given;
  gates = padded_valid e.gates to (omega (arith, sv.inputs)) sv.gates;
  references = serve_from columns e.codes (padded e.gates to) e.refs sv.references.one_each (λ c d l. wider (get_or e.refs c d) (sv.references.over c d l)) (λ c l s word at.
      subst (Agrees (entry_at (get_or columns c []) s)) (sym (padded_ref_value e.gates to word (ref_at e c) (All-get_or (IsRefOver (signal_count e.gates)) e.refs c (Const false) (omega (arith, sv.references.one_each)) sv.references.over)))
      (agrees_at columns e.codes e.gates e.refs sv.references c l s word at));
}
  where
    wider : (r : Ref) → IsRefOver (signal_count e.gates) r → IsRefOver (signal_count (padded e.gates to)) r
    wider (Const b) h = tt
    wider (Signal n negated) h = omega (arith, h, length-padded e.gates to few)

-- codes that differ by a mask which leaves each given bit, and the flipped gates and references over them, serve too
pub flipped_serves : (kind : Template) (patterns columns : List (List Bit3)) (bits mask : ℕ) (e : Parts) (codes : List ℕ) (list : GateList) (refs : List Ref) → IsSolution kind patterns bits columns e → IsGateList list → IsFlipped mask e.gates e.refs list refs →
    All (λ word. word < 2 ^ bits) codes → length codes ≡ length e.codes → ((s : ℕ) → s < length codes → DifferBy bits mask (get_or e.codes s 0) (get_or codes s 0)) →
    All (λ p. length p ≡ bits) patterns → ((i : ℕ) → i < bits → gives (kept_patterns kind patterns) i ≡ true → bit mask i ≡ false) →
    IsSolution kind patterns bits columns (record { codes = codes; gates = list; refs = refs })
flipped_serves kind patterns columns bits mask e codes list refs sv ok fl within each differ even leaves = record {
  inputs = fl.inputs ∙ sv.inputs;
  codes = record { one_each = each ∙ sv.codes.one_each; within = within; distinct = λ s t d l m same. apart s t l m (at_zero s d (omega arith) ∙ same ∙ sym (at_zero t d m)) };
  given = keeps (kept_patterns kind patterns) codes (length-kept kind patterns ∙ sym (each ∙ sv.codes.one_each)) (λ s i l. stays s i l);
  gates = ok;
  references = serve_from columns codes list refs (fl.one_each ∙ sv.references.one_each) fl.over (λ c l s word at.
      let lc : s < length codes = slice_get_within codes s word at in
      let old = get_or e.codes s 0 in
      let d : DifferBy e.gates.inputs mask old word = λ i m. subst (λ k. bit k i ≡ flipped (bit mask i) (bit old i)) (get_or_from_slice_get codes s word 0 at) (differ s lc i (omega (arith, sv.inputs))) in
      subst (Agrees (entry_at (get_or columns c []) s)) (sym (map_at (ref_value (signal_values list word)) (ref_value (signal_values e.gates old)) refs e.refs c (Const false) (fl.values old word d) (omega (arith, fl.one_each, sv.references.one_each)) (omega (arith, sv.references.one_each))))
      (agrees_at columns e.codes e.gates e.refs sv.references c l s old (slice_get-get_or e.codes s 0 (omega (arith, each)))));
}
  where
    any_default : (xs : List ℕ) (k a b : ℕ) → k < length xs → get_or xs k a ≡ get_or xs k b
    any_default [] k a b l = absurd (omega arith)
    any_default (x ∷ xs) zero a b l = refl
    any_default (x ∷ xs) (suc k) a b l = any_default xs k a b (omega arith)

    at_zero : (s d : ℕ) → s < length codes → get_or codes s 0 ≡ get_or codes s d
    at_zero s d l = any_default codes s 0 d l

    unflip : (f a b : Bool) → flipped f a ≡ flipped f b → a ≡ b
    unflip f a b h = sym (flipped_twice f a) ∙ ap (flipped f) h ∙ flipped_twice f b

    same_bit : (a b : ℕ) → a < 2 → b < 2 → (a == 1) ≡ (b == 1) → a ≡ b
    same_bit a b la lb h = grind (arith, nat_tests)

    apart : (s t : ℕ) → s < t → t < length codes → get_or codes s 0 ≡ get_or codes t 0 → ⊥
    apart s t l m same =
        let te : t < length e.codes = omega (arith, each) in
        sv.codes.distinct s t 0 l te (same_from_bits_below bits (get_or e.codes s 0) (get_or e.codes t 0)
        (All-get_or (λ word. word < 2 ^ bits) e.codes s 0 (omega arith) sv.codes.within) (All-get_or (λ word. word < 2 ^ bits) e.codes t 0 te sv.codes.within)
        (λ i li. same_bit _ _ (bit_at-lt (get_or e.codes s 0) i) (bit_at-lt (get_or e.codes t 0) i)
        (unflip (bit mask i) (bit (get_or e.codes s 0) i) (bit (get_or e.codes t 0) i) (sym (differ s (omega arith) i li) ∙ ap (λ k. bit k i) same ∙ differ t m i li))))

    free_past : (k : Template) (s i : ℕ) → s < length patterns → bits ≤ i → entry_at (get_or (kept_patterns k patterns) s []) i ≡ Free
    free_past First s i l far = open_at (length patterns) s i
    free_past Second s i l far = open_at (length patterns) s i
    free_past Third s i l far = get_or_past (get_or patterns s []) i Free (subst (λ n. n ≤ i) (sym (All-get_or (λ p. length p ≡ bits) patterns s [] l even)) far)

    stays : (s i : ℕ) → s < length codes → Agrees (entry_at (get_or (kept_patterns kind patterns) s []) i) (bit (get_or codes s 0) i)
    stays s i l =
        let lp : s < length patterns = omega (arith, each, sv.codes.one_each) in
        let asked = entry_at (get_or (kept_patterns kind patterns) s []) i in
        elim (cases_lt i bits) [
          | inr far ↦ subst (λ b. Agrees b (bit (get_or codes s 0) i)) (sym (free_past kind s i lp far)) tt
          | inl near ↦ elim (cases_Bool (gives (kept_patterns kind patterns) i)) [
            | inr none ↦ subst (λ b. Agrees b (bit (get_or codes s 0) i)) (sym (not_given (kept_patterns kind patterns) i s none)) tt
            | inl some ↦
                let kept : bit (get_or codes s 0) i ≡ bit (get_or e.codes s 0) i = differ s l i near ∙ ap (λ f. flipped f (bit (get_or e.codes s 0) i)) (leaves i near some) in
                subst (Agrees asked) (sym kept) (kept_at (kept_patterns kind patterns) e.codes sv.given s i (omega (arith, each)))
          ]
        ]
