-- A template is satisfiable exactly where the scenarios have an encoding of at most so many gates.
use Rattle.std.proofs.Common.{◌≡◌, ℕ, zero, suc, ◌+◌, ◌^◌, ◌<◌, ◌≤◌, Bool, true, false, ◌||◌, List, [], ◌∷◌, ◌++◌, length, get_or, All, refl, sym, ◌∙◌, subst, inl, inr, arith, length-append}
use Rattle.std.proofs.lemmas.Bool.{both_ways, cases_lt, cases_eq}
use Rattle.std.proofs.lemmas.List.{get_or_past, get_or_at, get_or_append_left, length-replicate}
use Rattle.std.proofs.lemmas.List.Elements.{All-get_or, All-from_get_or}
use Rattle.std.proofs.lemmas.Option.{slice_get_within, slice_get-get_or, get_or_from_slice_get}
use Rattle.cpog_defs.specs.declared.types.Bit3.{Bit3}
use Rattle.cpog_defs.specs.declared.types.Bit3.TheVariants.{Zero, One, Free}
use Rattle.cpog_defs.specs.declared.types.Gate.{Gate}
use Rattle.cpog_defs.specs.declared.types.Ref.{Ref}
use Rattle.cpog_defs.specs.declared.types.Ref.TheVariants.{Const}
use Rattle.cpog_defs.specs.Codes.{bit, AreCodes, KeepGivenBits, open_patterns}
use Rattle.cpog_defs.specs.Entries.{Agrees, entry_at}
use Rattle.cpog_defs.specs.Orders.{Order, IsOrderOf}
use Rattle.cpog_defs.specs.Gates.{GateList, signal_count, signal_values, ref_value, IsRefOver}
use Rattle.cpog_defs.specs.Graphs.{IsGraph}
use Rattle.cpog_defs.specs.Encodings.{Encoding, IsEncoding, RefAgrees}
use Rattle.cpog_merge.specs.Columns.{Columns, count_of, AreColumnsOf, AgreesWith}
use Rattle.cpog_merge.specs.Classes.{Classes, AreClassesOf}
use Rattle.cpog_merge.specs.ByClass.{IsGraphByClass, graph_by_class}
use Rattle.cpog_merge.proofs.AgreeLemmas.{graph_by_class_lem}
use Rattle.cpog_merge.proofs.GraphLemmas.{by_class_is_graph}
use Rattle.cpog_merge.proofs.FitLemmas.{columns_fit}
use Rattle.clause_arena.specs.Clauses.{IsSatisfiable}
use Rattle.gate_template.specs.declared.types.Shape.{Shape}
use Rattle.gate_template.specs.declared.types.Template.{Template}
use Rattle.gate_template.specs.declared.types.Template.TheVariants.{First, Second, Third}
use Rattle.gate_template.specs.Variables.{Var}
use Rattle.gate_template.specs.Families.{code_clauses, gate_clauses, class_clauses, given_clauses, zero_clauses, gives}
use Rattle.cpog_base.specs.Pattern.{is_given}
use Rattle.gate_template.specs.Templates.{shape_of, further_clauses, named_template, template, kept_patterns, ArePatterns}
use Rattle.gate_template.specs.Laws.{HasEncodingWithin}
use Rattle.gate_template.proofs.ClauseLemmas.{NamedSat, sat_append, by_name, named_from}
use Rattle.gate_template.proofs.DecodeLemmas.{code, code-lt, codes_differ, AreGatesRead, gates_read_from, all_gates, have_values, IsRefRead, ref_agrees, some_ref, given_agrees}
use Rattle.gate_template.specs.Listed.{listed}
use Rattle.gate_template.proofs.ListedLemmas.{length-listed, get_or-listed, from_listed, serve_from}

-- ---- patterns

pub open_at : (n s i : ℕ) → entry_at (get_or (open_patterns n) s []) i ≡ Free
open_at zero s i = refl
open_at (suc n) zero i = refl
open_at (suc n) (suc s) i = open_at n s i

-- codes keep patterns where each has the bits that its pattern gives below its length
pub keeps : (patterns : List (List Bit3)) (codes : List ℕ) → length patterns ≡ length codes → ((s i : ℕ) → s < length codes → Agrees (entry_at (get_or patterns s []) i) (bit (get_or codes s 0) i)) → KeepGivenBits patterns codes
keeps patterns codes each h = record {
  one_each = each;
  kept = λ s word i pattern at given. subst (λ p. Agrees (entry_at p i) (bit word i)) (get_or_from_slice_get patterns s pattern [] given)
      (subst (λ c. Agrees (entry_at (get_or patterns s []) i) (bit c i)) (get_or_from_slice_get codes s word 0 at) (h s i (slice_get_within codes s word at)));
}

pub kept_at : (patterns : List (List Bit3)) (codes : List ℕ) → KeepGivenBits patterns codes → (s i : ℕ) → s < length codes → Agrees (entry_at (get_or patterns s []) i) (bit (get_or codes s 0) i)
kept_at patterns codes k s i l =
    k.kept s (get_or codes s 0) i (get_or patterns s []) (slice_get-get_or codes s 0 l) (slice_get-get_or patterns s [] (omega (arith, k.one_each, l)))

pub not_given : (patterns : List (List Bit3)) (i s : ℕ) → gives patterns i ≡ false → entry_at (get_or patterns s []) i ≡ Free
not_given [] i s h = refl
not_given (p ∷ patterns) i zero h = free (entry_at p i) (gives patterns i) h
  where
    free : (e : Bit3) (b : Bool) → (is_given e || b) ≡ false → e ≡ Free
    free Free b h = refl
    free One b h = absurd (both_ways _ h refl)
    free Zero b h = absurd (both_ways _ h refl)
not_given (p ∷ patterns) i (suc s) h = not_given patterns i s (rest (is_given (entry_at p i)) (gives patterns i) h)
  where
    rest : (a b : Bool) → (a || b) ≡ false → b ≡ false
    rest true b h = absurd (both_ways _ h refl)
    rest false b h = h

pub length-kept : (kind : Template) (patterns : List (List Bit3)) → length (kept_patterns kind patterns) ≡ length patterns
length-kept First patterns = length-replicate (length patterns) []
length-kept Second patterns = length-replicate (length patterns) []
length-kept Third patterns = refl

-- ---- from an assignment

module _ (kind : Template) (patterns columns : List (List Bit3)) (bits gates : ℕ) (w : Var → Bool) (even : All (λ p. length p ≡ bits) patterns)
    (sat : NamedSat w (named_template kind (shape_of patterns bits gates columns) patterns columns)) where
  abbrev z : Shape
  z = shape_of patterns bits gates columns

  sat_codes : NamedSat w (code_clauses z)
  sat_codes = (sat_append w (code_clauses z) (gate_clauses z ++ (class_clauses z columns ++ further_clauses kind z patterns)) sat).0

  sat_rest : NamedSat w (gate_clauses z ++ (class_clauses z columns ++ further_clauses kind z patterns))
  sat_rest = (sat_append w (code_clauses z) (gate_clauses z ++ (class_clauses z columns ++ further_clauses kind z patterns)) sat).1

  pub sat_gates : NamedSat w (gate_clauses z)
  sat_gates = (sat_append w (gate_clauses z) (class_clauses z columns ++ further_clauses kind z patterns) sat_rest).0

  sat_after : NamedSat w (class_clauses z columns ++ further_clauses kind z patterns)
  sat_after = (sat_append w (gate_clauses z) (class_clauses z columns ++ further_clauses kind z patterns) sat_rest).1

  pub sat_classes : NamedSat w (class_clauses z columns)
  sat_classes = (sat_append w (class_clauses z columns) (further_clauses kind z patterns) sat_after).0

  -- the codes of the scenarios
  abbrev pub codes : List ℕ
  codes = listed (code w z) (length patterns)

  pub are_codes : AreCodes bits (length patterns) codes
  are_codes = record {
    one_each = length-listed (code w z) (length patterns);
    within = λ s d l.
        let m : s < length patterns = omega (arith, l, length-listed (code w z) (length patterns)) in
        subst (λ c. c < 2 ^ bits) (sym (get_or-listed (code w z) (length patterns) s d m)) (code-lt w z s);
    distinct = λ s t d l m same.
        let tn : t < length patterns = omega (arith, m, length-listed (code w z) (length patterns)) in
        codes_differ w z sat_codes s t l tn (sym (get_or-listed (code w z) (length patterns) s d (omega arith)) ∙ same ∙ get_or-listed (code w z) (length patterns) t d tn);
  }

  kept_bits : (kind' : Template) → kind ≡ kind' → NamedSat w (further_clauses kind' z patterns) → (s i : ℕ) → s < length patterns → Agrees (entry_at (get_or (kept_patterns kind' patterns) s []) i) (bit (code w z s) i)
  kept_bits First e h s i l = subst (λ b. Agrees b (bit (code w z s) i)) (sym (open_at (length patterns) s i)) tt
  kept_bits Second e h s i l = subst (λ b. Agrees b (bit (code w z s) i)) (sym (open_at (length patterns) s i)) tt
  kept_bits Third e h s i l = elim (cases_lt i bits) [
    | inl near ↦ given_agrees w z patterns s i (sat_append w (given_clauses z patterns) (zero_clauses z patterns) h).0 l near
    | inr far ↦
        let past : entry_at (get_or patterns s []) i ≡ Free = get_or_past (get_or patterns s []) i Free (subst (λ n. n ≤ i) (sym (All-get_or (λ p. length p ≡ bits) patterns s [] l even)) far) in
        subst (λ b. Agrees b (bit (code w z s) i)) (sym past) tt
  ]

  pub keep_given : KeepGivenBits (kept_patterns kind patterns) codes
  keep_given = keeps (kept_patterns kind patterns) codes (length-kept kind patterns ∙ sym (length-listed (code w z) (length patterns))) (λ s i l.
      let m : s < length patterns = omega (arith, l, length-listed (code w z) (length patterns)) in
      subst (λ c. Agrees (entry_at (get_or (kept_patterns kind patterns) s []) i) (bit c i)) (sym (get_or-listed (code w z) (length patterns) s 0 m))
      (kept_bits kind refl (sat_append w (class_clauses z columns) (further_clauses kind z patterns) sat_after).1 s i m))

  -- gates and references that are read so agree with the classes
  pub read_agree : (read : List Gate) → length read ≡ gates → AreGatesRead w z 0 read → (c : ℕ) (ref : Ref) → c < length columns → IsRefRead w z c ref → RefAgrees (record { inputs = bits; gates = read }) codes (get_or columns c []) ref
  read_agree read each are c ref lc is s word at =
      let there = from_listed (code w z) (length patterns) s word at in
      subst (λ k. Agrees (entry_at (get_or columns c []) s) (ref_value (signal_values (record { inputs = bits; gates = read }) k) ref)) (sym there.1)
      (ref_agrees w z columns read c ref sat_classes each (have_values w z read each sat_gates are) lc is s there.0)

  -- some references
  abbrev refs_to : (c : ℕ) → c < length columns → Ref
  refs_to c l = (some_ref w z columns c sat_classes l).0

  some_refs : (k : ℕ) → k ≤ length columns → (refs : List Ref) × (length refs ≡ k) × ((c : ℕ) → c < k → IsRefRead w z c (get_or refs c (Const false)))
  some_refs zero l = ([], refl, λ c m. absurd (omega arith))
  some_refs (suc k) l =
      let before = some_refs k (omega arith) in
      let last = some_ref w z columns k sat_classes (omega arith) in (
        before.0 ++ last.0 ∷ [],
        omega (arith, before.1, length-append before.0 (last.0 ∷ [])),
        λ c m. elim (cases_eq c k) [
          | inl same ↦ subst (λ r. IsRefRead w z c r) (sym (get_or_at before.0 last.0 [] (Const false) c (omega (arith, same, before.1)))) (subst (λ n. IsRefRead w z n last.0) (sym same) last.1)
          | inr other ↦ subst (λ r. IsRefRead w z c r) (sym (get_or_append_left before.0 (last.0 ∷ []) (Const false) c (omega (arith, before.1)))) (before.2 c (omega arith))
        ],
      )

pub read_over : (w : Var → Bool) (z : Shape) (c : ℕ) (ref : Ref) → IsRefRead w z c ref → IsRefOver (z.bits + z.gates) ref
read_over w z c ref is = subst (IsRefOver (z.bits + z.gates)) (sym is.is) is.in_range

pub encoding_from : (kind : Template) (orders : List Order) (patterns : List (List Bit3)) (t : Columns) (list : Classes) (bits gates : ℕ) →
    All (IsOrderOf (count_of orders)) orders → AreColumnsOf orders t → AreClassesOf t list → ArePatterns bits (length orders) patterns →
    IsSatisfiable (template kind patterns bits gates list.columns) → HasEncodingWithin (count_of orders) orders (kept_patterns kind patterns) bits gates
encoding_from kind orders patterns t list bits gates alike are classes ps (v, s) =
    let columns = list.columns in
    let z = shape_of patterns bits gates columns in
    let w = by_name v z in
    let sat : NamedSat w (named_template kind z patterns columns) = named_from v z (named_template kind z patterns columns) s in
    let read = all_gates w z (sat_gates kind patterns columns bits gates w ps.lengths sat) in
    let refs = some_refs kind patterns columns bits gates w ps.lengths sat (length columns) (omega arith) in
    let cs = codes kind patterns columns bits gates w ps.lengths sat in
    let list' : GateList = record { inputs = bits; gates = read.0 } in
    let signals : bits + length read.0 ≡ bits + gates = omega (arith, read.1) in
    let over : All (IsRefOver (signal_count list')) refs.0 = All-from_get_or (IsRefOver (signal_count list')) refs.0 (Const false)
    (λ c l. subst (λ n. IsRefOver n (get_or refs.0 c (Const false))) (sym signals) (read_over w z c (get_or refs.0 c (Const false)) (refs.2 c (omega (arith, refs.1))))) in
    let count = count_of orders in
    let graph = by_class_is_graph (signal_count list') list refs.0 over in
    let e : Encoding = record { codes = cs; gates = list'; graph = graph_by_class list refs.0 } in
    let acs : AreCodes bits (length patterns) cs = are_codes kind patterns columns bits gates w ps.lengths sat in
    let acs' : AreCodes bits (length orders) cs = subst (λ n. AreCodes bits n cs) ps.one_each acs in
    let is : IsEncoding count e = record {
      codes = acs.within;
      gates = gates_read_from w z 0 bits read.0 (omega arith) read.2;
      graph = subst (λ n. IsGraph n (signal_count list') (graph_by_class list refs.0)) (classes.count ∙ are.count) graph.0;
    } in
    let agrees : AgreesWith e t = graph_by_class_lem e t list refs.0 classes (acs'.one_each ∙ sym are.scenarios)
    (serve_from columns cs list' refs.0 refs.1 over (λ c l. read_agree kind patterns columns bits gates w ps.lengths sat read.0 read.1 read.2 c (get_or refs.0 c (Const false)) l (refs.2 c l)))
    (subst (λ n. IsGraphByClass n list refs.0 (graph_by_class list refs.0)) classes.count graph.1) in
    record {
      cost = gates;
      within = omega arith;
      encoding = record {
        encoding = e;
        encodes = record {
          bits_are = refl;
          codes = acs';
          given = keep_given kind patterns columns bits gates w ps.lengths sat;
          encoding = is;
          fits = (columns_fit orders t alike are e is).1 agrees;
        };
        cost_is = read.1;
      };
    }
