-- A part that holds doesn't fail, and a part fails by one reason.
use Rattle.std.proofs.Common.{◌≡◌, ℕ, zero, suc, ◌<◌, Bool, List, [], length, get_or, refl, sym, ap, ap₂, ◌∙◌, subst, inl, inr, arith}
use Rattle.std.specs.FinSet as set
use Rattle.std.proofs.lemmas.Bool.{cases_lt}
use Rattle.std.proofs.lemmas.Option.{slice_get-get_or}
use Rattle.cpog_defs.specs.declared.types.Bit3.{Bit3}
use Rattle.cpog_defs.specs.declared.types.OpId.{OpId}
use Rattle.cpog_defs.specs.declared.types.Place.{Place}
use Rattle.cpog_defs.specs.declared.types.Place.TheVariants.{Op}
use Rattle.cpog_defs.specs.declared.types.ScenId.{ScenId}
use Rattle.cpog_defs.specs.Codes.{KeepGivenBits}
use Rattle.cpog_defs.specs.Encodings.{Encoding, FitsScenarios}
use Rattle.cpog_defs.specs.Graphs.{ConditionalGraph}
use Rattle.cpog_defs.specs.Orders.{Order}
use Rattle.cpog_defs.specs.Scenarios.{Scenario}
use Rattle.cpog_merge.specs.Incompatible.{IsCountEvidence}
use Rattle.cnf_build.specs.Evidence.{EvidenceValue, OpenValue}
use Rattle.scenario_check.specs.Equals.{AreEqualAt, IsFirstPair}
use Rattle.scenario_check.proofs.CycleLemmas.{one_first, cyclic_or_ordered}
use Rattle.gate_template.specs.Templates.{template}
use Rattle.report_text.specs.Report.{ReportValue}
use Rattle.report_judge.specs.declared.reason.Reason.{Reason}
use Rattle.report_judge.specs.declared.reason.Reason.TheVariants as reasons
use Rattle.report_judge.specs.Codes.{HaveOneCode, IsKeptAt, IsFirstLost}
use Rattle.report_judge.specs.Fitting.{scenario_at, values_at, OperationFits, IsFirstOther, IsFirstDisordered, FitsAt, IsFirstWrongOperation, IsFirstWrongPair}
use Rattle.report_judge.specs.Good.{Holds}
use Rattle.report_judge.specs.Known.{template_variables, IsShown, IsMember, FailsAtMember, FailsAtLine, FailsWithoutEmpty, OpenFollows, OpenBreaks}
use Rattle.report_judge.specs.Parts.{place}
use Rattle.report_judge.specs.Reasons.{part_of, Fails, IsFirstFailing}
use Rattle.report_judge.proofs.BasisLemmas.{one_orders, with_both}
use Rattle.report_judge.proofs.FirstLemmas.{one_number, one_pair, follow_or_break, one_first_break}
use Rattle.report_judge.proofs.FittingLemmas.{same_truth}

-- ---- what holds doesn't fail

kept_at : (patterns : List (List Bit3)) (codes : List ℕ) (s : ℕ) → KeepGivenBits patterns codes → s < length codes → IsKeptAt patterns codes s
kept_at patterns codes s h l i =
    h.kept s (get_or codes s 0) i (get_or patterns s []) (slice_get-get_or codes s 0 l) (slice_get-get_or patterns s [] (omega (arith, l, h.one_each)))

fits_at : (e : Encoding) (scenarios : List Scenario) (s : ℕ) → FitsScenarios e scenarios → s < length scenarios → FitsAt e scenarios s
fits_at e scenarios s h l =
    let none : Scenario = record { count = 0; ops = set.empty; arcs = [] } in
    let p = h.projects s (get_or e.codes s 0) (get_or scenarios s none) (slice_get-get_or e.codes s 0 (omega (arith, l, h.one_code_each))) (slice_get-get_or scenarios s none l) in
    record {
      operations = λ v. same_truth _ _ (p.operations v).0 (p.operations v).1;
      pairs = λ u v. p.before u v;
    }

member_of : (operations : ℕ) (orders : List Order) (places : List Place) (i : ℕ) → IsCountEvidence operations orders places → i < length places → IsMember orders places i
member_of operations orders places i h l = record {
  is_open = h.open_columns i (Op (record { 0 = 0 })) l;
  apart = λ j m. h.apart j i (Op (record { 0 = 0 })) m l;
}

module _ (operations : ℕ) (orders : List Order) (patterns : List (List Bit3)) (bits : ℕ) (columns : List (List Bit3)) where
  member_or_shown : (evidence : EvidenceValue) (i : ℕ) → IsShown operations orders patterns bits columns evidence → FailsAtMember orders evidence i → ⊥
  member_or_shown EvidenceValue.Zero i h k = k
  member_or_shown (EvidenceValue.Count places) zero h k = k
  member_or_shown (EvidenceValue.Count places) (suc i) h k = k.1 (member_of operations orders places i h k.0)
  member_or_shown (EvidenceValue.Refutation kind gates log) i h k = k

  line_or_shown : (evidence : EvidenceValue) (line hint : ℕ) → IsShown operations orders patterns bits columns evidence → FailsAtLine patterns bits columns evidence line hint → ⊥
  line_or_shown EvidenceValue.Zero line hint h k = k
  line_or_shown (EvidenceValue.Count places) line hint h k = k
  line_or_shown (EvidenceValue.Refutation kind gates log) line hint h k =
      follow_or_break (template_variables patterns bits gates columns) (template kind patterns bits gates columns) log line hint k h.follow

  empty_or_shown : (evidence : EvidenceValue) → IsShown operations orders patterns bits columns evidence → FailsWithoutEmpty patterns bits columns evidence → ⊥
  empty_or_shown EvidenceValue.Zero h k = k
  empty_or_shown (EvidenceValue.Count places) h k = k
  empty_or_shown (EvidenceValue.Refutation kind gates log) h k = k.1 h.empty

  open_or_follows : (open_part : OpenValue) (line hint : ℕ) → OpenFollows patterns bits columns open_part → OpenBreaks patterns bits columns open_part line hint → ⊥
  open_or_follows OpenValue.Closed line hint h k = k
  open_or_follows (OpenValue.Log kind gates log) line hint h k =
      follow_or_break (template_variables patterns bits gates columns) (template kind patterns bits gates columns) log line hint k h
  open_or_follows (OpenValue.Size kind gates) line hint h k = k

  -- ---- there is one first member, and one first line

  one_member : (evidence : EvidenceValue) (i j : ℕ) → FailsAtMember orders evidence i → FailsAtMember orders evidence j → i ≡ j
  one_member EvidenceValue.Zero i j h k = absurd h
  one_member (EvidenceValue.Count places) zero j h k = absurd h
  one_member (EvidenceValue.Count places) (suc i) zero h k = absurd k
  one_member (EvidenceValue.Count places) (suc i) (suc j) h k = ap suc (one_number (IsMember orders places) i j h.1 h.2 k.1 k.2)
  one_member (EvidenceValue.Refutation kind gates log) i j h k = absurd h

  one_line : (evidence : EvidenceValue) (i j a b : ℕ) → FailsAtLine patterns bits columns evidence i a → FailsAtLine patterns bits columns evidence j b → (i ≡ j) × (a ≡ b)
  one_line EvidenceValue.Zero i j a b h k = absurd h
  one_line (EvidenceValue.Count places) i j a b h k = absurd h
  one_line (EvidenceValue.Refutation kind gates log) i j a b h k =
      one_first_break (template_variables patterns bits gates columns) (template kind patterns bits gates columns) log i j a b h k

  member_or_line : (evidence : EvidenceValue) (i line hint : ℕ) → FailsAtMember orders evidence i → FailsAtLine patterns bits columns evidence line hint → ⊥
  member_or_line EvidenceValue.Zero i line hint h k = h
  member_or_line (EvidenceValue.Count places) i line hint h k = k
  member_or_line (EvidenceValue.Refutation kind gates log) i line hint h k = h

  member_or_empty : (evidence : EvidenceValue) (i : ℕ) → FailsAtMember orders evidence i → FailsWithoutEmpty patterns bits columns evidence → ⊥
  member_or_empty EvidenceValue.Zero i h k = h
  member_or_empty (EvidenceValue.Count places) i h k = k
  member_or_empty (EvidenceValue.Refutation kind gates log) i h k = h

  line_or_empty : (evidence : EvidenceValue) (line hint : ℕ) → FailsAtLine patterns bits columns evidence line hint → FailsWithoutEmpty patterns bits columns evidence → ⊥
  line_or_empty EvidenceValue.Zero line hint h k = h
  line_or_empty (EvidenceValue.Count places) line hint h k = h
  line_or_empty (EvidenceValue.Refutation kind gates log) line hint h k =
      follow_or_break (template_variables patterns bits gates columns) (template kind patterns bits gates columns) log line hint h k.0

  one_open_line : (open_part : OpenValue) (i j a b : ℕ) → OpenBreaks patterns bits columns open_part i a → OpenBreaks patterns bits columns open_part j b → (i ≡ j) × (a ≡ b)
  one_open_line OpenValue.Closed i j a b h k = absurd h
  one_open_line (OpenValue.Log kind gates log) i j a b h k =
      one_first_break (template_variables patterns bits gates columns) (template kind patterns bits gates columns) log i j a b h k
  one_open_line (OpenValue.Size kind gates) i j a b h k = absurd h

module _ (r : ReportValue) where
  -- a part that fails by a reason doesn't hold
  pub part_fails : (reason : Reason) → Fails r reason → Holds r (part_of reason) → ⊥
  part_fails (reasons.Cyclic s v) h k = cyclic_or_ordered r.scenarios k.0 s.0 v.0 h k.1
  part_fails (reasons.Equal later earlier) h k =
      let same = one_orders r.scenarios h.orders k.orders h.are_orders k.are_orders in
      k.different later.0 earlier.0 (subst (λ (os : List Order). AreEqualAt os later.0 earlier.0) same h.first.equal)
  part_fails (reasons.Codes later earlier) h k = k earlier.0 later.0 0 h.same.earlier_first h.same.within (sym h.same.same)
  part_fails (reasons.Given s) h k = h.lost (kept_at r.patterns r.encoding.codes s.0 k h.within)
  part_fails (reasons.Operation s v) h k = h.operation.other ((fits_at r.encoding r.scenarios s.0 k h.within).operations v.0)
  part_fails (reasons.Order s u v) h k = h.pair.disordered ((fits_at r.encoding r.scenarios s.0 k h.within).pairs u.0 v.0)
  part_fails reasons.Netlist h k = h k
  part_fails reasons.Count h k = h k
  part_fails reasons.Evidence h k = with_both r _ _ h k (λ orders columns are f holds. f holds)
  part_fails (reasons.EvidenceCondition member) h k =
      with_both r _ _ h k (λ orders columns are f holds. member_or_shown (length r.names) orders r.patterns r.bits columns r.evidence member holds f)
  part_fails (reasons.RefutationLine line hint) h k =
      with_both r _ _ h k (λ orders columns are f holds. line_or_shown (length r.names) orders r.patterns r.bits columns r.evidence line hint holds f)
  part_fails reasons.RefutationNoEmptyClause h k =
      with_both r _ _ h k (λ orders columns are f holds. empty_or_shown (length r.names) orders r.patterns r.bits columns r.evidence holds f)
  part_fails reasons.Open h k = with_both r _ _ h k (λ orders columns are f holds. f holds)
  part_fails (reasons.OpenLine line hint) h k =
      with_both r _ _ h k (λ orders columns are f holds. open_or_follows (length r.names) orders r.patterns r.bits columns r.open_part line hint holds f)
  part_fails reasons.OpenShort h k = h k

-- ---- a part fails by one reason

same_scenario : (a b : ScenId) → a.0 ≡ b.0 → a ≡ b
same_scenario a b e = λ i. record { 0 = e i }

same_op : (a b : OpId) → a.0 ≡ b.0 → a ≡ b
same_op a b e = λ i. record { 0 = e i }

one_lost : (patterns : List (List Bit3)) (codes : List ℕ) (s t : ℕ) → IsFirstLost patterns codes s → IsFirstLost patterns codes t → s ≡ t
one_lost patterns codes s t h k = one_number (IsKeptAt patterns codes) s t h.lost h.kept k.lost k.kept

one_other : (graph : ConditionalGraph) (values : List Bool) (sc : Scenario) (v w : ℕ) → IsFirstOther graph values sc v → IsFirstOther graph values sc w → v ≡ w
one_other graph values sc v w h k = one_number (OperationFits graph values sc) v w h.other h.earlier k.other k.earlier

one_disordered : (graph : ConditionalGraph) (values : List Bool) (sc : Scenario) (u v a b : ℕ) → IsFirstDisordered graph values sc u v → IsFirstDisordered graph values sc a b → (u ≡ a) × (v ≡ b)
one_disordered graph values sc u v a b h k =
    let first : u ≡ a = elim (cases_lt u a) [
      | inl less ↦ absurd (h.disordered (k.earlier u v (inl less)))
      | inr above ↦ elim (cases_lt a u) [
        | inl less ↦ absurd (k.disordered (h.earlier a b (inl less)))
        | inr below ↦ omega arith
      ]
    ] in
    let second : v ≡ b = elim (cases_lt v b) [
      | inl less ↦ absurd (h.disordered (k.earlier u v (inr (first, less))))
      | inr above ↦ elim (cases_lt b v) [
        | inl less ↦ absurd (k.disordered (h.earlier a b (inr (sym first, less))))
        | inr below ↦ omega arith
      ]
    ] in
    (first, second)

module _ (e : Encoding) (scenarios : List Scenario) where
  -- the first scenario that isn't left is one
  one_wrong : (s t : ℕ) → (FitsAt e scenarios s → ⊥) → ((k : ℕ) → k < s → FitsAt e scenarios k) → (FitsAt e scenarios t → ⊥) → ((k : ℕ) → k < t → FitsAt e scenarios k) → s ≡ t
  one_wrong = one_number (FitsAt e scenarios)

  wrong_operation : (s v : ℕ) → IsFirstWrongOperation e scenarios s v → FitsAt e scenarios s → ⊥
  wrong_operation s v h f = h.operation.other (f.operations v)

  wrong_pair : (s u v : ℕ) → IsFirstWrongPair e scenarios s u v → FitsAt e scenarios s → ⊥
  wrong_pair s u v h f = h.pair.disordered (f.pairs u v)

  one_wrong_operation : (s t v w : ℕ) → IsFirstWrongOperation e scenarios s v → IsFirstWrongOperation e scenarios t w → (s ≡ t) × (v ≡ w)
  one_wrong_operation s t v w h k =
      let same : s ≡ t = one_wrong s t (wrong_operation s v h) h.earlier (wrong_operation t w k) k.earlier in (
        same,
        one_other e.graph (values_at e s) (scenario_at scenarios s) v w h.operation
            (subst (λ (n : ℕ). IsFirstOther e.graph (values_at e n) (scenario_at scenarios n) w) (sym same) k.operation),
      )

  one_wrong_pair : (s t u v a b : ℕ) → IsFirstWrongPair e scenarios s u v → IsFirstWrongPair e scenarios t a b → (s ≡ t) × (u ≡ a) × (v ≡ b)
  one_wrong_pair s t u v a b h k =
      let same : s ≡ t = one_wrong s t (wrong_pair s u v h) h.earlier (wrong_pair t a b k) k.earlier in
      let ends = one_disordered e.graph (values_at e s) (scenario_at scenarios s) u v a b h.pair
      (subst (λ (n : ℕ). IsFirstDisordered e.graph (values_at e n) (scenario_at scenarios n) a b) (sym same) k.pair) in
      (same, ends.0, ends.1)

  operation_or_pair : (s t v a b : ℕ) → IsFirstWrongOperation e scenarios s v → IsFirstWrongPair e scenarios t a b → ⊥
  operation_or_pair s t v a b h k =
      let same : s ≡ t = one_wrong s t (wrong_operation s v h) h.earlier (wrong_pair t a b k) k.earlier in
      h.operation.other (subst (λ (n : ℕ). OperationFits e.graph (values_at e n) (scenario_at scenarios n) v) (sym same) (k.pair.operations v))

module _ (r : ReportValue) where
  one_cyclic : (s : ScenId) (v : OpId) (b : Reason) → Fails r (reasons.Cyclic s v) → Fails r b → 0 ≡ place (part_of b) → reasons.Cyclic s v ≡ b
  one_cyclic s v (reasons.Cyclic t w) h k e =
      let same = one_first r.scenarios s.0 t.0 v.0 w.0 h k in ap₂ (λ x y. reasons.Cyclic x y) (same_scenario s t same.0) (same_op v w same.1)
  one_cyclic s v b h k e = absurd (omega (arith, e))

  one_equal : (later earlier : ScenId) (b : Reason) → Fails r (reasons.Equal later earlier) → Fails r b → 1 ≡ place (part_of b) → reasons.Equal later earlier ≡ b
  one_equal later earlier (reasons.Equal i j) h k e =
      let there = subst (λ (os : List Order). IsFirstPair os i.0 j.0) (one_orders r.scenarios k.orders h.orders k.are_orders h.are_orders) k.first in
      let same = one_pair (AreEqualAt h.orders) later.0 earlier.0 i.0 j.0 h.first.equal h.first.least h.first.first there.equal there.least there.first in
      ap₂ (λ x y. reasons.Equal x y) (same_scenario later i same.0) (same_scenario earlier j same.1)
  one_equal later earlier b h k e = absurd (omega (arith, e))

  one_codes : (later earlier : ScenId) (b : Reason) → Fails r (reasons.Codes later earlier) → Fails r b → 2 ≡ place (part_of b) → reasons.Codes later earlier ≡ b
  one_codes later earlier (reasons.Codes i j) h k e =
      let same = one_pair (HaveOneCode r.encoding.codes) later.0 earlier.0 i.0 j.0 h.same h.least h.first k.same k.least k.first in
      ap₂ (λ x y. reasons.Codes x y) (same_scenario later i same.0) (same_scenario earlier j same.1)
  one_codes later earlier b h k e = absurd (omega (arith, e))

  one_given : (s : ScenId) (b : Reason) → Fails r (reasons.Given s) → Fails r b → 3 ≡ place (part_of b) → reasons.Given s ≡ b
  one_given s (reasons.Given t) h k e = ap (λ x. reasons.Given x) (same_scenario s t (one_lost r.patterns r.encoding.codes s.0 t.0 h k))
  one_given s b h k e = absurd (omega (arith, e))

  one_operation : (s : ScenId) (v : OpId) (b : Reason) → Fails r (reasons.Operation s v) → Fails r b → 4 ≡ place (part_of b) → reasons.Operation s v ≡ b
  one_operation s v (reasons.Operation t w) h k e =
      let same = one_wrong_operation r.encoding r.scenarios s.0 t.0 v.0 w.0 h k in
      ap₂ (λ x y. reasons.Operation x y) (same_scenario s t same.0) (same_op v w same.1)
  one_operation s v (reasons.Order t a b) h k e = absurd (operation_or_pair r.encoding r.scenarios s.0 t.0 v.0 a.0 b.0 h k)
  one_operation s v b h k e = absurd (omega (arith, e))

  one_order : (s : ScenId) (u v : OpId) (b : Reason) → Fails r (reasons.Order s u v) → Fails r b → 4 ≡ place (part_of b) → reasons.Order s u v ≡ b
  one_order s u v (reasons.Operation t w) h k e = absurd (operation_or_pair r.encoding r.scenarios t.0 s.0 w.0 u.0 v.0 k h)
  one_order s u v (reasons.Order t a b) h k e =
      let same = one_wrong_pair r.encoding r.scenarios s.0 t.0 u.0 v.0 a.0 b.0 h k in
      let first = ap₂ (λ x y. reasons.Order x y v) (same_scenario s t same.0) (same_op u a same.1) in
      first ∙ ap (λ x. reasons.Order t a x) (same_op v b same.2)
  one_order s u v b h k e = absurd (omega (arith, e))

  one_netlist : (b : Reason) → Fails r b → 5 ≡ place (part_of b) → reasons.Netlist ≡ b
  one_netlist reasons.Netlist k e = refl
  one_netlist b k e = absurd (omega (arith, e))

  one_count : (b : Reason) → Fails r b → 6 ≡ place (part_of b) → reasons.Count ≡ b
  one_count reasons.Count k e = refl
  one_count b k e = absurd (omega (arith, e))

  one_evidence : (b : Reason) → Fails r b → 7 ≡ place (part_of b) → reasons.Evidence ≡ b
  one_evidence reasons.Evidence k e = refl
  one_evidence b k e = absurd (omega (arith, e))

  one_condition : (i : ℕ) (b : Reason) → Fails r (reasons.EvidenceCondition i) → Fails r b → 8 ≡ place (part_of b) → reasons.EvidenceCondition i ≡ b
  one_condition i (reasons.EvidenceCondition j) h k e =
      ap (λ x. reasons.EvidenceCondition x) (with_both r _ _ h k (λ orders columns are x y. one_member (length r.names) orders r.patterns r.bits columns r.evidence i j x y))
  one_condition i (reasons.RefutationLine line hint) h k e =
      absurd (with_both r _ _ h k (λ orders columns are x y. member_or_line (length r.names) orders r.patterns r.bits columns r.evidence i line hint x y))
  one_condition i reasons.RefutationNoEmptyClause h k e =
      absurd (with_both r _ _ h k (λ orders columns are x y. member_or_empty (length r.names) orders r.patterns r.bits columns r.evidence i x y))
  one_condition i b h k e = absurd (omega (arith, e))

  one_refutation_line : (line hint : ℕ) (b : Reason) → Fails r (reasons.RefutationLine line hint) → Fails r b → 8 ≡ place (part_of b) → reasons.RefutationLine line hint ≡ b
  one_refutation_line line hint (reasons.EvidenceCondition j) h k e =
      absurd (with_both r _ _ k h (λ orders columns are x y. member_or_line (length r.names) orders r.patterns r.bits columns r.evidence j line hint x y))
  one_refutation_line line hint (reasons.RefutationLine i j) h k e =
      let same = with_both r _ _ h k (λ orders columns are x y. one_line (length r.names) orders r.patterns r.bits columns r.evidence line i hint j x y) in
      ap₂ (λ x y. reasons.RefutationLine x y) same.0 same.1
  one_refutation_line line hint reasons.RefutationNoEmptyClause h k e =
      absurd (with_both r _ _ h k (λ orders columns are x y. line_or_empty (length r.names) orders r.patterns r.bits columns r.evidence line hint x y))
  one_refutation_line line hint b h k e = absurd (omega (arith, e))

  one_no_empty : (b : Reason) → Fails r reasons.RefutationNoEmptyClause → Fails r b → 8 ≡ place (part_of b) → reasons.RefutationNoEmptyClause ≡ b
  one_no_empty (reasons.EvidenceCondition j) h k e =
      absurd (with_both r _ _ k h (λ orders columns are x y. member_or_empty (length r.names) orders r.patterns r.bits columns r.evidence j x y))
  one_no_empty (reasons.RefutationLine i j) h k e =
      absurd (with_both r _ _ k h (λ orders columns are x y. line_or_empty (length r.names) orders r.patterns r.bits columns r.evidence i j x y))
  one_no_empty reasons.RefutationNoEmptyClause h k e = refl
  one_no_empty b h k e = absurd (omega (arith, e))

  one_open : (b : Reason) → Fails r b → 9 ≡ place (part_of b) → reasons.Open ≡ b
  one_open reasons.Open k e = refl
  one_open b k e = absurd (omega (arith, e))

  one_followed : (line hint : ℕ) (b : Reason) → Fails r (reasons.OpenLine line hint) → Fails r b → 10 ≡ place (part_of b) → reasons.OpenLine line hint ≡ b
  one_followed line hint (reasons.OpenLine i j) h k e =
      let same = with_both r _ _ h k (λ orders columns are x y. one_open_line (length r.names) orders r.patterns r.bits columns r.open_part line i hint j x y) in
      ap₂ (λ x y. reasons.OpenLine x y) same.0 same.1
  one_followed line hint b h k e = absurd (omega (arith, e))

  one_short : (b : Reason) → Fails r b → 11 ≡ place (part_of b) → reasons.OpenShort ≡ b
  one_short reasons.OpenShort k e = refl
  one_short b k e = absurd (omega (arith, e))

  one_reason : (a b : Reason) → Fails r a → Fails r b → place (part_of a) ≡ place (part_of b) → a ≡ b
  one_reason (reasons.Cyclic s v) b h k e = one_cyclic s v b h k e
  one_reason (reasons.Equal later earlier) b h k e = one_equal later earlier b h k e
  one_reason (reasons.Codes later earlier) b h k e = one_codes later earlier b h k e
  one_reason (reasons.Given s) b h k e = one_given s b h k e
  one_reason (reasons.Operation s v) b h k e = one_operation s v b h k e
  one_reason (reasons.Order s u v) b h k e = one_order s u v b h k e
  one_reason reasons.Netlist b h k e = one_netlist b k e
  one_reason reasons.Count b h k e = one_count b k e
  one_reason reasons.Evidence b h k e = one_evidence b k e
  one_reason (reasons.EvidenceCondition member) b h k e = one_condition member b h k e
  one_reason (reasons.RefutationLine line hint) b h k e = one_refutation_line line hint b h k e
  one_reason reasons.RefutationNoEmptyClause b h k e = one_no_empty b h k e
  one_reason reasons.Open b h k e = one_open b k e
  one_reason (reasons.OpenLine line hint) b h k e = one_followed line hint b h k e
  one_reason reasons.OpenShort b h k e = one_short b k e

  -- a report has one first reason
  pub one_first_reason : (a b : Reason) → IsFirstFailing r a → IsFirstFailing r b → a ≡ b
  one_first_reason a b h k = elim (cases_lt (place (part_of a)) (place (part_of b))) [
    | inl less ↦ absurd (part_fails r a h.fails (k.earlier (part_of a) less))
    | inr above ↦ elim (cases_lt (place (part_of b)) (place (part_of a))) [
      | inl less ↦ absurd (part_fails r b k.fails (h.earlier (part_of b) less))
      | inr below ↦ one_reason a b h.fails k.fails (omega (arith, above, below))
    ]
  ]
