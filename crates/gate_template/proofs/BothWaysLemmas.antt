-- What the loops of decode and encode have to establish.
use Rattle.std.proofs.Common.{◌≡◌, ℕ, ◌+◌, ◌<◌, ◌≤◌, Bool, false, List, length, get_or, refl, sym, subst, arith, All}
use Rattle.std.proofs.lemmas.List.Elements.{All-from_get_or}
use Rattle.cpog_defs.specs.declared.types.Bit3.{Bit3}
use Rattle.cpog_defs.specs.declared.types.Gate.{Gate}
use Rattle.cpog_defs.specs.declared.types.Ref.{Ref}
use Rattle.cpog_defs.specs.declared.types.Ref.TheVariants.{Const}
use Rattle.cpog_defs.specs.Gates.{GateList, IsGateList, IsRefOver}
use Rattle.gate_core.specs.Columns.{IsOpenColumn}
use Rattle.clause_arena.specs.Clauses.{Satisfies, by_place}
use Rattle.gate_forms.specs.Forms.{IsNormalForm, padded}
use Rattle.gate_forms.proofs.FormLemmas.{length-padded, padded_normal}
use Rattle.gate_template.specs.declared.types.Template.{Template}
use Rattle.gate_template.specs.Values.{Parts, value_of, IsSolution, HasZeros}
use Rattle.gate_template.specs.Templates.{shape_of, named_template, template}
use Rattle.gate_template.proofs.ClauseLemmas.{NamedSat, by_name, named_from}
use Rattle.gate_template.proofs.NumberLemmas.{in_order}
use Rattle.gate_template.proofs.DecodeLemmas.{AreGatesRead, gates_read_from, IsRefRead}
use Rattle.gate_template.proofs.ListedLemmas.{serve_from}
use Rattle.gate_template.proofs.LiftLemmas.{codes, are_codes, keep_given, read_agree, read_over}
use Rattle.gate_template.proofs.ServeLemmas.{parts_satisfy, normal_serves, padded_serves}

-- the codes of an assignment, gates that are read from selected pairs, and references that are read from chosen signals serve the classes
pub decoded_serves : (kind : Template) (patterns columns : List (List Bit3)) (bits gates : ℕ) (v : ℕ → Bool) (even : All (λ p. length p ≡ bits) patterns) →
    (sat : Satisfies v (template kind patterns bits gates columns)) (read : List Gate) (refs : List Ref) → length read ≡ gates → AreGatesRead (by_name v (shape_of patterns bits gates columns)) (shape_of patterns bits gates columns) 0 read →
    length refs ≡ length columns → ((c : ℕ) → c < length columns → IsRefRead (by_name v (shape_of patterns bits gates columns)) (shape_of patterns bits gates columns) c (get_or refs c (Const false))) →
    IsSolution kind patterns bits columns (record {
      codes = codes kind patterns columns bits gates (by_name v (shape_of patterns bits gates columns)) even (named_from v (shape_of patterns bits gates columns) (named_template kind (shape_of patterns bits gates columns) patterns columns) sat);
      gates = record { inputs = bits; gates = read };
      refs = refs;
    })
decoded_serves kind patterns columns bits gates v even sat read refs each are one_each is =
    let z = shape_of patterns bits gates columns in
    let w = by_name v z in
    let named : NamedSat w (named_template kind z patterns columns) = named_from v z (named_template kind z patterns columns) sat in
    let signals : bits + length read ≡ bits + gates = omega (arith, each) in
    record {
      inputs = refl;
      codes = are_codes kind patterns columns bits gates w even named;
      given = keep_given kind patterns columns bits gates w even named;
      gates = gates_read_from w z 0 bits read (omega arith) are;
      references = serve_from columns (codes kind patterns columns bits gates w even named) (record { inputs = bits; gates = read }) refs one_each
          (All-from_get_or (IsRefOver (bits + length read)) refs (Const false) (λ c l. subst (λ n. IsRefOver n (get_or refs c (Const false))) (sym signals) (read_over w z c (get_or refs c (Const false)) (is c (omega (arith, one_each))))))
          (λ c l. read_agree kind patterns columns bits gates w even named read each are c (get_or refs c (Const false)) l (is c l));
    }

-- the values of the normal and padded form of what serves the classes, in the printed order, satisfy the template
pub encoded_satisfies : (kind : Template) (patterns columns : List (List Bit3)) (bits gates : ℕ) (e : Parts) (list : GateList) (refs : List Ref) → IsSolution kind patterns bits columns e → HasZeros kind patterns bits e.codes →
    IsGateList list → IsNormalForm e.gates e.refs list refs → length e.gates.gates ≤ gates → 2 ≤ bits → All (IsOpenColumn (length patterns)) columns → 1 ≤ length patterns →
    Satisfies (by_place (in_order (shape_of patterns bits gates columns) (value_of (record { codes = e.codes; gates = padded list gates; refs = refs })))) (template kind patterns bits gates columns)
encoded_satisfies kind patterns columns bits gates e list refs sv zeros ok form few two opens some =
    let n : Parts = record { codes = e.codes; gates = list; refs = refs } in
    let ns : IsSolution kind patterns bits columns n = normal_serves kind patterns columns bits e list refs sv ok form in
    let fits : length list.gates ≤ gates = omega (arith, form.as_many, few) in
    let p : Parts = record { codes = e.codes; gates = padded list gates; refs = refs } in
    parts_satisfy kind patterns columns bits gates p (padded_serves kind patterns columns bits gates n two fits ns) zeros (padded_normal list gates form.normal) (length-padded list gates fits) opens some
