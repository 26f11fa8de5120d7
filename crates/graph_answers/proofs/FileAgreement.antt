-- What is printed for a file is one answer: each cause has one output, and it stands only where no cause before it does.
use Rattle.std.proofs.Common.{◌≢◌, ◌≡◌, ℕ, ◌≤◌, ◌^◌, List, [], length, map, Some, slice_get, sym, ap, ap₂, ◌∙◌, subst, arith, inl, inr}
use Rattle.std.proofs.lemmas.Bool.{cases_lt}
use Rattle.std.proofs.lemmas.List.{length-map}
use Rattle.std.proofs.lemmas.Option.{none-some, same_Some}
use Rattle.cpog_base.specs.declared.limits.Counted.TheVariants as counted
use Rattle.cpog_base.specs.declared.status.Status.{Status}
use Rattle.cpog_base.specs.declared.status.Status.TheVariants as status
use Rattle.cpog_defs.specs.Orders.{Order}
use Rattle.cpog_defs.specs.Scenarios.{Scenario}
use Rattle.pg_text.specs.Contents.{Contents}
use Rattle.pg_normal.specs.declared.naming.NameFault.{NameFault}
use Rattle.pg_normal.specs.declared.naming.NameFault.TheVariants as fault
use Rattle.pg_normal.specs.Naming.{name_faults, first, IsFirst}
use Rattle.pg_normal.specs.Normals.{params_in}
use Rattle.scenario_check.specs.Equals.{AreEqualAt, IsFirstPair}
use Rattle.refusal_lines.specs.declared.refusal.Refusal.TheVariants as refusal
use Rattle.command_words.specs.declared.words.SynthOptions.{SynthOptions}
use Rattle.graph_answers.specs.declared.encodable.CodeLength.{CodeLength}
use Rattle.graph_answers.specs.Bits.{synth_length, IsBits}
use Rattle.refusal_lines.specs.Refusal.{refusal_text, At}
use Rattle.graph_answers.specs.Refusals.{IsNamesLine, IsEncodingRefusal, IsNameFaultAnswer, IsEmptyAnswer, IsUnboundAnswer, IsCyclicAnswer, IsEqualAnswer, IsManyAnswer}
use Rattle.pg_normal.specs.Denoting.{Stated, stated_in, scenario_names_of, AreScenariosOf, LeavesOpen, IsFirstUnbound}
use Rattle.graph_answers.specs.Ordered.{AreOrdersIn}
use Rattle.graph_answers.specs.Answers.{IsFormsAnswer, IsNormalAnswer, IsReportAnswer, IsClosedReport, IsOpenReport, IsReportStatus, IsSynthAnswer}
use Rattle.graph_answers.specs.Good.{CanBeEncoded}
use Rattle.refusal_lines.specs.Alike.{AreOneOrFound}
use Rattle.refusal_lines.proofs.Causes.{Cause, IsOne, AreApart, either, one_at, one_either}
use Rattle.graph_answers.proofs.BitLemmas.{one_bits}
use Rattle.graph_answers.proofs.DenotingLemmas.{none_open, length-denoted}
use Rattle.graph_answers.proofs.OrderAgreement.{one_orders, cyclic_again}
use Rattle.graph_answers.proofs.ReportLemmas.{length-orders}
use Rattle.scenario_check.proofs.CycleLemmas.{cyclic_or_ordered, one_first}
use Rattle.pg_normal.proofs.TextLaws.{one_normal_text}

-- ---- what comes first is one

-- a fault that is told is the first
told : (fs : List NameFault) (x : NameFault) (output : List ℕ) → IsFirst fs x → IsNamesLine x output → first fs ≡ Some x
told fs (fault.Duplicate line name) output h k = h
told fs (fault.UnknownGraph line name) output h k = h
told fs (fault.UnknownParam line name) output h k = h
told fs fault.Memory output h k = absurd k

one_line : (f : NameFault) (x y : List ℕ) → IsNamesLine f x → IsNamesLine f y → x ≡ y
one_line (fault.Duplicate line name) x y h k = h ∙ sym k
one_line (fault.UnknownGraph line name) x y h k = h ∙ sym k
one_line (fault.UnknownParam line name) x y h k = h ∙ sym k
one_line fault.Memory x y h k = absurd h

-- one scenario is the first that leaves a parameter open, and one parameter is its least
first_unbound : (f : Contents) (m n j k : ℕ) → IsFirstUnbound f m j → IsFirstUnbound f n k → (m ≡ n) × (j ≡ k)
first_unbound f m n j k a b = elim (cases_lt a.place b.place) [
  | inl less ↦ absurd (b.earlier a.place j a.scenario less a.stands a.unbound)
  | inr most ↦ elim (cases_lt b.place a.place) [
    | inl less ↦ absurd (a.earlier b.place k b.scenario less b.stands b.unbound)
    | inr least ↦
        let place : a.place ≡ b.place = omega arith in
        let same : a.scenario ≡ b.scenario = same_Some a.scenario b.scenario (sym a.stands ∙ ap (slice_get (stated_in f)) place ∙ b.stands) in (
          sym a.line_is ∙ ap (λ x. x.line) same ∙ b.line_is,
          elim (cases_lt j k) [
            | inl less ↦ absurd (b.least j less (subst (λ x. LeavesOpen x j) same a.unbound))
            | inr up ↦ elim (cases_lt k j) [
              | inl less ↦ absurd (a.least k less (subst (λ x. LeavesOpen x k) (sym same) b.unbound))
              | inr down ↦ omega arith
            ]
          ],
        )
  ]
]

-- one pair is the first of equal scenarios
first_pair : (orders : List Order) (l m e g : ℕ) → IsFirstPair orders l e → IsFirstPair orders m g → (l ≡ m) × (e ≡ g)
first_pair orders l m e g a b = elim (cases_lt l m) [
  | inl less ↦ absurd (b.least l e less a.equal)
  | inr most ↦ elim (cases_lt m l) [
    | inl less ↦ absurd (a.least m g less b.equal)
    | inr least ↦
        let same : l ≡ m = omega arith in (
          same,
          elim (cases_lt e g) [
            | inl less ↦ absurd (b.first e less (subst (λ i. AreEqualAt orders i e) same a.equal))
            | inr up ↦ elim (cases_lt g e) [
              | inl less ↦ absurd (a.first g less (subst (λ i. AreEqualAt orders i g) (sym same) b.equal))
              | inr down ↦ omega arith
            ]
          ],
        )
  ]
]

module _ (f : Contents) where
  one_fault_answer : (x y : List ℕ) → IsNameFaultAnswer f x → IsNameFaultAnswer f y → x ≡ y
  one_fault_answer x y h k =
      let same : h.fault ≡ k.fault = same_Some h.fault k.fault (sym (told (name_faults f) h.fault x h.first h.output_is) ∙ told (name_faults f) k.fault y k.first k.output_is) in
      one_line h.fault x y h.output_is (subst (λ a. IsNamesLine a y) (sym same) k.output_is)

  one_forms_answer : (x y : List ℕ) → IsFormsAnswer f x → IsFormsAnswer f y → x ≡ y
  one_forms_answer x y h k = h.output_is ∙ one_normal_text f h.normals k.normals h.of_file k.of_file ∙ sym k.output_is

  abbrev name_fault : Cause
  name_fault = At status.Names (IsNameFaultAnswer f)

  abbrev forms : Cause
  forms = At status.Ok (IsFormsAnswer f)

  no_fault : (x : List ℕ) → name_faults f ≡ [] → IsNameFaultAnswer f x → ⊥
  no_fault x none h = none-some h.fault (ap first (sym none) ∙ told (name_faults f) h.fault x h.first h.output_is)

  one_normal : IsOne (either name_fault forms)
  one_normal = one_either name_fault forms (one_at status.Names (IsNameFaultAnswer f) one_fault_answer) (one_at status.Ok (IsFormsAnswer f) one_forms_answer) (λ s t x y h k. no_fault x k.1.of_file.names h.1)

module _ (asked : CodeLength) (f : Contents) where
  -- ---- each cause has one output

  one_empty_answer : (x y : List ℕ) → IsEmptyAnswer f x → IsEmptyAnswer f y → x ≡ y
  one_empty_answer x y h k = h.output_is ∙ sym k.output_is

  one_unbound_answer : (x y : List ℕ) → IsUnboundAnswer f x → IsUnboundAnswer f y → x ≡ y
  one_unbound_answer x y h k =
      let same = first_unbound f h.line k.line h.number k.number h.first k.first in
      let name : h.name ≡ k.name = same_Some h.name k.name (sym h.name_is ∙ ap (slice_get (params_in f)) same.1 ∙ k.name_is) in
      h.output_is ∙ ap₂ (λ line w. refusal_text (refusal.Unbound line w)) same.0 name ∙ sym k.output_is

  one_cyclic_answer : (x y : List ℕ) → IsCyclicAnswer f x → IsCyclicAnswer f y → x ≡ y
  one_cyclic_answer x y h k =
      let same = one_first k.scenarios h.number k.number h.operation k.operation (cyclic_again f h.scenarios k.scenarios h.number h.operation h.denoted k.denoted h.first) k.first in
      let scenario : h.scenario_name ≡ k.scenario_name = same_Some h.scenario_name k.scenario_name (sym h.scenario_is ∙ ap (slice_get (scenario_names_of f)) same.0 ∙ k.scenario_is) in
      let operation : h.operation_name ≡ k.operation_name = same_Some h.operation_name k.operation_name (sym h.operation_is ∙ ap (slice_get f.operations) same.1 ∙ k.operation_is) in
      h.output_is ∙ ap₂ (λ a b. refusal_text (refusal.Cyclic a b)) scenario operation ∙ sym k.output_is

  one_equal_answer : (x y : List ℕ) → IsEqualAnswer f x → IsEqualAnswer f y → x ≡ y
  one_equal_answer x y h k =
      let same = first_pair k.orders h.later k.later h.earlier k.earlier (subst (λ os. IsFirstPair os h.later h.earlier) (one_orders f h.orders k.orders h.of_file k.of_file) h.first) k.first in
      let later : h.later_name ≡ k.later_name = same_Some h.later_name k.later_name (sym h.later_is ∙ ap (slice_get (scenario_names_of f)) same.0 ∙ k.later_is) in
      let earlier : h.earlier_name ≡ k.earlier_name = same_Some h.earlier_name k.earlier_name (sym h.earlier_is ∙ ap (slice_get (scenario_names_of f)) same.1 ∙ k.earlier_is) in
      h.output_is ∙ ap₂ (λ a b. refusal_text (refusal.Equal a b)) later earlier ∙ sym k.output_is

  one_many_answer : (x y : List ℕ) → IsManyAnswer asked f x → IsManyAnswer asked f y → x ≡ y
  one_many_answer x y h k =
      let orders : k.orders ≡ h.orders = one_orders f k.orders h.orders k.of_file h.of_file in
      let bits : h.bits ≡ k.bits = one_bits asked (length h.orders) h.bits k.bits h.bits_are (subst (λ os. IsBits asked (length os) k.bits) orders k.bits_are) in
      h.output_is ∙ ap (λ n. refusal_text (refusal.Limit counted.Bits n)) bits ∙ sym k.output_is

  -- ---- the causes in their order

  abbrev empty : Cause
  empty = At status.Names (IsEmptyAnswer f)

  abbrev unbound : Cause
  unbound = At status.Names (IsUnboundAnswer f)

  abbrev cyclic : Cause
  cyclic = At status.Cyclic (IsCyclicAnswer f)

  abbrev equal : Cause
  equal = At status.Equal (IsEqualAnswer f)

  abbrev many : Cause
  many = At status.Limit (IsManyAnswer asked f)

  abbrev from_equal : Cause
  from_equal = either equal many

  abbrev from_cyclic : Cause
  from_cyclic = either cyclic from_equal

  abbrev from_unbound : Cause
  from_unbound = either unbound from_cyclic

  abbrev from_empty : Cause
  from_empty = either empty from_unbound

  -- from there on no scenario has an operation before itself
  ordered : (s : Status) (x : List ℕ) → from_equal s x → (orders : List Order) × AreOrdersIn f orders
  ordered s x (inl h) = (h.1.orders, h.1.of_file)
  ordered s x (inr h) = (h.1.orders, h.1.of_file)

  -- none leaves a parameter open
  denoted : (s : Status) (x : List ℕ) → from_cyclic s x → (scenarios : List Scenario) × AreScenariosOf f scenarios
  denoted s x (inl h) = (h.1.scenarios, h.1.denoted)
  denoted s x (inr h) = let k = ordered s x h in (k.1.scenarios, k.1.denoted)

  -- names are in order
  in_order : (s : Status) (x : List ℕ) → from_cyclic s x → name_faults f ≡ []
  in_order s x (inl h) = h.1.named
  in_order s x (inr h) = (ordered s x h).1.named

  named : (s : Status) (x : List ℕ) → from_empty s x → name_faults f ≡ []
  named s x (inl h) = h.1.named
  named s x (inr (inl h)) = h.1.named
  named s x (inr (inr h)) = in_order s x h

  -- ---- each stands where none before it does

  -- a file without scenarios has none that is cyclic or equal to another, nor too many
  none_there : (s : Status) (x : List ℕ) → stated_in f ≡ [] → from_unbound s x → ⊥
  none_there s x none (inl h) = none-some h.1.first.scenario (ap (λ xs. slice_get xs h.1.first.place) (sym none) ∙ h.1.first.stands)
  none_there s x none (inr (inl h)) = no_cycle h.1
    where
      no_cycle : IsCyclicAnswer f x → ⊥
      no_cycle h = none-some h.scenario_name (ap (λ xs. slice_get (map (λ (y : Stated). y.name) xs) h.number) (sym none) ∙ h.scenario_is)
  none_there s x none (inr (inr (inl h))) = none-some h.1.later_name (ap (λ xs. slice_get (map (λ (y : Stated). y.name) xs) h.1.later) (sym none) ∙ h.1.later_is)
  none_there s x none (inr (inr (inr h))) = absurd (omega (arith, h.1.many, no_orders h.1.orders h.1.of_file))
    where
      no_orders : (orders : List Order) → AreOrdersIn f orders → length orders ≡ 0
      no_orders orders z = length-orders z.scenarios orders z.of_scenarios ∙ length-denoted (length f.operations) (stated_in f) z.scenarios z.denoted ∙ ap length none

  equal_or_many : AreApart equal many
  equal_or_many s t x y h k =
      k.1.different h.1.later h.1.earlier
      (subst (λ os. AreEqualAt os h.1.later h.1.earlier) (one_orders f h.1.orders k.1.orders h.1.of_file k.1.of_file) h.1.first.equal)

  cyclic_or_more : AreApart cyclic from_equal
  cyclic_or_more s t x y h k =
      let rest = ordered t y k in
      cyclic_or_ordered rest.1.scenarios rest.0 h.1.number h.1.operation (cyclic_again f h.1.scenarios rest.1.scenarios h.1.number h.1.operation h.1.denoted rest.1.denoted h.1.first) rest.1.of_scenarios

  unbound_or_more : AreApart unbound from_cyclic
  unbound_or_more s t x y h k =
      let rest = denoted t y k in
      none_open (length f.operations) (stated_in f) rest.0 rest.1 h.1.first.place h.1.number h.1.first.scenario h.1.first.stands h.1.first.unbound

  -- ---- a file has one refusal

  one_refusal : IsOne (IsEncodingRefusal asked f)
  one_refusal =
      one_either (name_fault f) from_empty (one_at status.Names (IsNameFaultAnswer f) (one_fault_answer f))
      (one_either empty from_unbound (one_at status.Names (IsEmptyAnswer f) one_empty_answer)
      (one_either unbound from_cyclic (one_at status.Names (IsUnboundAnswer f) one_unbound_answer)
      (one_either cyclic from_equal (one_at status.Cyclic (IsCyclicAnswer f) one_cyclic_answer)
      (one_either equal many (one_at status.Equal (IsEqualAnswer f) one_equal_answer) (one_at status.Limit (IsManyAnswer asked f) one_many_answer)
      equal_or_many)
      cyclic_or_more)
      unbound_or_more)
      (λ s t x y h k. none_there t y h.1.none k))
      (λ s t x y h k. no_fault f x (named t y k) h.1)

-- ---- a file whose scenarios can be encoded is refused for no cause

module _ (asked : CodeLength) (f : Contents) (good : CanBeEncoded asked f) where
  not_empty : (x : List ℕ) → IsEmptyAnswer f x → ⊥
  not_empty x h = good.some h.none

  not_unbound : (x : List ℕ) → IsUnboundAnswer f x → ⊥
  not_unbound x h = none_open (length f.operations) (stated_in f) good.of_file.scenarios good.of_file.denoted h.first.place h.number h.first.scenario h.first.stands h.first.unbound

  not_cyclic : (x : List ℕ) → IsCyclicAnswer f x → ⊥
  not_cyclic x h =
      let z = good.of_file in
      cyclic_or_ordered z.scenarios good.orders h.number h.operation (cyclic_again f h.scenarios z.scenarios h.number h.operation h.denoted z.denoted h.first) z.of_scenarios

  not_equal : (x : List ℕ) → IsEqualAnswer f x → ⊥
  not_equal x h = good.different h.later h.earlier (subst (λ os. AreEqualAt os h.later h.earlier) (one_orders f h.orders good.orders h.of_file good.of_file) h.first.equal)

  not_many : (x : List ℕ) → IsManyAnswer asked f x → ⊥
  not_many x h =
      let same : length h.orders ≡ length good.orders = ap length (one_orders f h.orders good.orders h.of_file good.of_file) in
      let bits : h.bits ≡ good.bits = one_bits asked (length h.orders) h.bits good.bits h.bits_are (subst (λ n. IsBits asked n good.bits) (sym same) good.bits_are) in
      let few : length good.orders ≤ 2 ^ h.bits = subst (λ n. length good.orders ≤ 2 ^ n) (sym bits) good.enough in
      omega (arith, same, few, h.many)

  pub not_refused : (s : Status) (x : List ℕ) → IsEncodingRefusal asked f s x → ⊥
  not_refused s x (inl h) = no_fault f x good.of_file.named h.1
  not_refused s x (inr (inl h)) = not_empty x h.1
  not_refused s x (inr (inr (inl h))) = not_unbound x h.1
  not_refused s x (inr (inr (inr (inl h)))) = not_cyclic x h.1
  not_refused s x (inr (inr (inr (inr (inl h))))) = not_equal x h.1
  not_refused s x (inr (inr (inr (inr (inr h))))) = not_many x h.1

-- one answer of a file whose scenarios can be encoded, and the refusals of others, are one answer
pub encoding_answers_agree : (asked : CodeLength) (f : Contents) (answers : Cause) → IsOne answers →
    ((s : Status) (x : List ℕ) → answers s x → CanBeEncoded asked f) → IsOne (either (IsEncodingRefusal asked f) answers)
encoding_answers_agree asked f answers one encoded =
    one_either (IsEncodingRefusal asked f) answers (one_refusal asked f) one (λ s t x y h k. not_refused asked f (encoded t y k) s x h)

-- ---- `synth`

module _ (options : SynthOptions) (f : Contents) where
  some_stated : (x : List ℕ) → IsReportAnswer options f x → stated_in f ≢ []
  some_stated x h none =
      let sound = h.synthesis.sound in
      let names : length h.report.scenario_names ≡ 0 = ap length sound.scenario_names ∙ length-map (stated_in f) _ ∙ ap length none in
      absurd (omega (arith, names, sound.report.one_name_each, sound.report.some_scenario))

  of_encoded : (x : List ℕ) → IsReportAnswer options f x → CanBeEncoded (synth_length options) f
  of_encoded x h = record {
    some = some_stated x h;
    orders = h.synthesis.sound.orders;
    of_file = h.synthesis.sound.of_file;
    different = h.synthesis.sound.different;
    bits = h.report.bits;
    bits_are = h.synthesis.bits;
    enough = h.synthesis.sound.enough_bits;
  }

  -- a report is printed at the status of one
  found : (s : Status) (x : List ℕ) → either (At status.Ok (IsClosedReport options f)) (At status.Budget (IsOpenReport options f)) s x → IsReportStatus options s × IsReportAnswer options f x
  found s x (inl h) = (inl h.0, h.1.printed)
  found s x (inr h) = (inr (h.1.exact, h.0), h.1.printed)

  -- two answers are one, or each is a find
  pub synth_answers_alike : (s t : Status) (x y : List ℕ) → IsSynthAnswer options f s x → IsSynthAnswer options f t y → AreOneOrFound (IsReportStatus options) s x t y
  synth_answers_alike s t x y (inl h) (inl k) = inl (one_refusal (synth_length options) f s t x y h k)
  synth_answers_alike s t x y (inl h) (inr k) = absurd (not_refused (synth_length options) f (of_encoded y (found t y k).1) s x h)
  synth_answers_alike s t x y (inr h) (inl k) = absurd (not_refused (synth_length options) f (of_encoded x (found s x h).1) t y k)
  synth_answers_alike s t x y (inr h) (inr k) = inr ((found s x h).0, (found t y k).0)

  -- its answer has the status of a report where the scenarios can be encoded
  pub synth_is_answered : CanBeEncoded (synth_length options) f → (s : Status) (x : List ℕ) → IsSynthAnswer options f s x → IsReportStatus options s
  synth_is_answered good s x (inl h) = absurd (not_refused (synth_length options) f good s x h)
  synth_is_answered good s x (inr h) = (found s x h).0

-- ---- `normal`

-- no option is asked of normal forms
pub normal_answers_agree : (f : Contents) → IsOne (IsNormalAnswer f)
normal_answers_agree f = one_normal f

pub normal_is_ok : (f : Contents) → name_faults f ≡ [] → (s : Status) (x : List ℕ) → IsNormalAnswer f s x → s ≡ status.Ok
normal_is_ok f none s x (inl h) = absurd (no_fault f x none h.1)
normal_is_ok f none s x (inr h) = h.0
