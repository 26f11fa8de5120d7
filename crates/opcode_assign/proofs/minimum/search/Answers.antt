use Rattle.std.proofs.Common.{◌≤◌, length, All, refl, sym, subst, arith, inl}
use Rattle.gate_core.specs.Columns.{IsOpenColumn}
use Rattle.cnf_build.specs.Decoded.{parts_of}
use Rattle.cnf_build.specs.Evidence.{OpenValue, evidence_of, open_of, IsOpenPart}
use Rattle.opcode_assign.specs.Assignments.{most_gates}
use Rattle.opcode_assign.specs.Searches.{IsEnd}
use Rattle.opcode_assign.proofs.SearchLemmas.{two_scenarios, counted_evidence, counted_written, counted_shown, below_solution, searched, first_assigned, fewer_than_first, first_few, answered, asked_first}
use Rattle.opcode_assign.proofs.minimum.search.Goals as goal

pub raise-requires-clause-below : goal.raise-requires-clause-below
raise-requires-clause-below c =
    let are = c.in_ok-columns.ensures.columns in
    let classes = c.in_ok-list.ensures.classes in
    let parts = parts_of c.in_ok-first.first.codes.items c.in_ok-first.first.gates c.in_ok-first.first.refs.items in
    let solution = c.in_ok-first.ensures.solution c.args.given.now (sym c.requires.codes.one_each) c.requires.kept in
    let shown = counted_evidence c.args.orders.now c.args.given.now c.args.bits c.in_ok-columns.columns c.in_ok-list.list c.in_ok-bound.bound.lo (evidence_of c.in_ok-bound.bound.evidence) are classes c.in_ok-bound.ensures in
    omega (
      arith,
      c.len-hi.ensures.len,
      below_solution c.args.orders.now c.args.given.now c.args.bits c.in_ok-columns.columns c.in_ok-list.list are classes c.in_ok-columns.ensures.fits c.requires.given c.requires.scenarios
          c.in_ok-bound.bound.lo (evidence_of c.in_ok-bound.bound.evidence) parts shown solution,
    )

pub raise-requires-clause-asked : goal.raise-requires-clause-asked
raise-requires-clause-asked c = λ l.
    let are = c.in_ok-columns.ensures.columns in
    let classes = c.in_ok-list.ensures.classes in
    let parts = parts_of c.in_ok-first.first.codes.items c.in_ok-first.first.gates c.in_ok-first.first.refs.items in
    let solution = c.in_ok-first.ensures.solution c.args.given.now (sym c.requires.codes.one_each) c.requires.kept in
    let opens : All (IsOpenColumn (length c.args.orders.now)) c.in_ok-list.list.columns = subst (λ n. All (IsOpenColumn n) c.in_ok-list.list.columns) are.scenarios c.in_ok-list.ensures.open_columns in
    let few = first_few c.args.orders.now c.args.given.now c.args.bits c.in_ok-columns.columns c.in_ok-list.list are classes c.in_ok-columns.ensures.fits c.requires.given c.requires.scenarios
    c.args.codes.now parts.codes parts.refs parts.gates c.requires.few_ops c.in_ok-first.ensures.first c.in_ok-first.ensures.few_gates in
    asked_first c.args.orders.now c.args.given.now c.args.bits c.in_ok-columns.columns c.in_ok-list.list are classes c.in_ok-columns.ensures.fits c.requires.given c.requires.scenarios
    c.len-hi.result parts opens solution few c.len-hi.ensures.len l

pub raise-requires-clause-two : goal.raise-requires-clause-two
raise-requires-clause-two c = λ l.
    let are = c.in_ok-columns.ensures.columns in
    let first = c.in_ok-first.first in
    let opens : All (IsOpenColumn (length c.args.orders.now)) c.in_ok-list.list.columns = subst (λ n. All (IsOpenColumn n) c.in_ok-list.list.columns) are.scenarios c.in_ok-list.ensures.open_columns in
    let two = two_scenarios (length c.args.orders.now) c.args.bits c.len-hi.result c.args.codes.now c.in_ok-list.list.columns first.codes.items first.gates first.refs.items c.requires.scenarios.some opens c.in_ok-first.ensures.first c.len-hi.ensures.len l in
    omega (arith, two, c.requires.given.one_each)

pub returns-in-Found : goal.returns-in-Found
returns-in-Found c =
    let are = c.in_ok-columns.ensures.columns in
    let classes = c.in_ok-list.ensures.classes in
    let first = parts_of c.in_ok-first.first.codes.items c.in_ok-first.first.gates c.in_ok-first.first.refs.items in
    let first_solution = c.in_ok-first.ensures.solution c.args.given.now (sym c.requires.codes.one_each) c.requires.kept in
    let parts = parts_of c.in-Found.found.codes.items c.in-Found.found.gates c.in-Found.found.refs.items in
    let begun = c.in_ok-bound.bound in
    let bound = c.in_ok-bound-2.field-0.bound in
    let raised = c.in_ok-bound-2.ensures in
    let end = subst (IsEnd c.args.given.now c.args.bits c.in_ok-list.list.columns bound.lo c.len-hi.result c.args.budget) c.in-Found.is raised.end in
    let few = first_few c.args.orders.now c.args.given.now c.args.bits c.in_ok-columns.columns c.in_ok-list.list are classes c.in_ok-columns.ensures.fits c.requires.given c.requires.scenarios
    c.args.codes.now first.codes first.refs first.gates c.requires.few_ops c.in_ok-first.ensures.first c.in_ok-first.ensures.few_gates in
    let fewer : length parts.gates.gates ≤ most_gates = omega (arith, end.1, raised.below, c.len-hi.ensures.len, few) in
    let counted = counted_evidence c.args.orders.now c.args.given.now c.args.bits c.in_ok-columns.columns c.in_ok-list.list begun.lo (evidence_of begun.evidence) are classes c.in_ok-bound.ensures in
    let shown_by = raised.shown c.in_ok-bound.ensures.taken (counted_shown c.in_ok-list.list c.args.given.now c.args.bits c.args.budget begun.lo (evidence_of begun.evidence) c.in_ok-bound.ensures) in
    answered c.args.orders.now c.args.given.now c.args.bits c.in_ok-columns.columns c.in_ok-list.list are classes c.in_ok-columns.ensures.fits c.requires.given c.requires.scenarios
    c.args.budget bound.lo (evidence_of bound.evidence) OpenValue.Closed parts c.encoded.result c.encoded.ensures.encoding c.encoded.ensures.lo c.encoded.ensures.evidence c.encoded.ensures.open_part
    (λ graph is_graph conditions.
    searched c.args.orders.now c.args.given.now c.args.bits c.in_ok-columns.columns c.in_ok-list.list are classes c.in_ok-columns.ensures.fits c.requires.given c.requires.scenarios
    c.args.budget bound.lo begun.lo (evidence_of begun.evidence) (evidence_of bound.evidence) OpenValue.Closed parts graph c.in_ok-bound.ensures shown_by
    (raised.raises _ c.args.orders.now counted) (raised.written (counted_written c.in_ok-list.list c.args.bits begun.lo (evidence_of begun.evidence) c.in_ok-bound.ensures)) end.0
    is_graph conditions fewer (sym end.1) tt (λ l. absurd (omega (arith, l, end.1)))
    (fewer_than_first c.args.orders.now c.args.given.now c.args.bits c.in_ok-columns.columns c.in_ok-list.list are classes c.in_ok-columns.ensures.fits c.requires.given c.requires.scenarios
    c.args.codes.now first.codes first.refs first.gates (record { codes = parts.codes; gates = parts.gates; graph = graph }) c.requires.least c.requires.codes c.in_ok-first.ensures.same c.in_ok-first.ensures.first
    first_solution (omega (arith, end.1, end.2, c.len-hi.ensures.len))))

pub returns : goal.returns
returns c =
    let are = c.in_ok-columns.ensures.columns in
    let classes = c.in_ok-list.ensures.classes in
    let parts = parts_of c.in_ok-first.first.codes.items c.in_ok-first.first.gates c.in_ok-first.first.refs.items in
    let solution = c.in_ok-first.ensures.solution c.args.given.now (sym c.requires.codes.one_each) c.requires.kept in
    let begun = c.in_ok-bound.bound in
    let bound = c.in_ok-bound-2.field-0.bound in
    let raised = c.in_ok-bound-2.ensures in
    let end = subst (IsEnd c.args.given.now c.args.bits c.in_ok-list.list.columns bound.lo c.len-hi.result c.args.budget) c.in-Left.is raised.end in
    let few = first_few c.args.orders.now c.args.given.now c.args.bits c.in_ok-columns.columns c.in_ok-list.list are classes c.in_ok-columns.ensures.fits c.requires.given c.requires.scenarios
    c.args.codes.now parts.codes parts.refs parts.gates c.requires.few_ops c.in_ok-first.ensures.first c.in_ok-first.ensures.few_gates in
    let left = subst (λ n. IsOpenPart c.args.given.now c.args.bits c.in_ok-list.list.columns bound.lo n c.args.budget (open_of c.in-Left.open_part)) c.len-hi.ensures.len end.0 in
    let counted = counted_evidence c.args.orders.now c.args.given.now c.args.bits c.in_ok-columns.columns c.in_ok-list.list begun.lo (evidence_of begun.evidence) are classes c.in_ok-bound.ensures in
    let shown_by = raised.shown c.in_ok-bound.ensures.taken (counted_shown c.in_ok-list.list c.args.given.now c.args.bits c.args.budget begun.lo (evidence_of begun.evidence) c.in_ok-bound.ensures) in
    answered c.args.orders.now c.args.given.now c.args.bits c.in_ok-columns.columns c.in_ok-list.list are classes c.in_ok-columns.ensures.fits c.requires.given c.requires.scenarios
    c.args.budget bound.lo (evidence_of bound.evidence) (open_of c.in-Left.open_part) parts c.encoded-in-Left.result c.encoded-in-Left.ensures.encoding c.encoded-in-Left.ensures.lo c.encoded-in-Left.ensures.evidence c.encoded-in-Left.ensures.open_part
    (λ graph is_graph conditions.
    let first = first_assigned c.args.orders.now c.args.given.now c.args.bits c.in_ok-columns.columns c.in_ok-list.list are classes c.in_ok-columns.ensures.fits c.requires.given c.requires.scenarios
    c.args.codes.now parts.codes parts.refs parts.gates graph c.requires.least c.requires.codes c.in_ok-first.ensures.same c.in_ok-first.ensures.first solution is_graph conditions in
    searched c.args.orders.now c.args.given.now c.args.bits c.in_ok-columns.columns c.in_ok-list.list are classes c.in_ok-columns.ensures.fits c.requires.given c.requires.scenarios
    c.args.budget bound.lo begun.lo (evidence_of begun.evidence) (evidence_of bound.evidence) (open_of c.in-Left.open_part) parts graph c.in_ok-bound.ensures shown_by
    (raised.raises _ c.args.orders.now counted) (raised.written (counted_written c.in_ok-list.list c.args.bits begun.lo (evidence_of begun.evidence) c.in_ok-bound.ensures)) solution
    is_graph conditions few left end.1 (λ l. first)
    (record { first = record { codes = parts.codes; gates = parts.gates; graph = graph }; is_first = first; kept = inl refl }))
