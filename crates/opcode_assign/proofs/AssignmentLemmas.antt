-- Scenarios have one first assignment.
use Rattle.std.proofs.Common.{◌≡◌, ℕ, ◌^◌, List, sym, ap, ap₂, ◌∙◌, subst}
use Rattle.cpog_defs.specs.Graphs.{IsPlace}
use Rattle.cpog_defs.specs.Encodings.{Encoding}
use Rattle.gate_core.specs.First.{FirstEncoding, IsFirstEncoding}
use Rattle.cpog_merge.specs.Columns.{AreSameColumns}
use Rattle.cpog_merge.specs.ByClass.{ref_by}
use Rattle.cpog_merge.proofs.AgreeLemmas.{classes_are_one_lem}
use Rattle.cpog_merge.proofs.SameLemmas.{same_classes}
use Rattle.cpog_merge.proofs.GraphLemmas.{graphs_are_one}
use Rattle.cpog_defs.specs.Orders.{Order}
use Rattle.opcode_assign.specs.Assignments.{IsAssignmentOn}
use Rattle.opcode_assign.specs.Laws.{FirstAssignmentsAgree}
use Rattle.gate_core.proofs.CodesLemmas.{least_codes_agree}
use Rattle.gate_core.proofs.OnceLemmas.{first_encodings_are_one}

-- ---- one first assignment

same_encodings : (a b : Encoding) → a.codes ≡ b.codes → a.gates ≡ b.gates → a.graph ≡ b.graph → a ≡ b
same_encodings a b codes gates graph = λ i. record { codes = codes i; gates = gates i; graph = graph i }

-- scenarios have one assignment on the same codes
one_on_codes : (codes : List ℕ) (count bits : ℕ) (orders : List Order) (a b : Encoding) → IsAssignmentOn codes count orders bits a → IsAssignmentOn codes count orders bits b → a ≡ b
one_on_codes codes count bits orders a b x y =
    let same : AreSameColumns y.table x.table = record {
      count = y.count_is ∙ sym x.count_is;
      columns = λ p l. y.columns.columns p (subst (λ n. IsPlace n p) y.columns.count l) ∙ sym (x.columns.columns p (subst (λ n. IsPlace n p) y.columns.count l));
    } in
    let classes = classes_are_one_lem x.table x.classes y.classes x.are_classes (same_classes y.table x.table y.classes same y.are_classes) in
    let first = first_encodings_are_one codes bits x.classes.columns (record { codes = a.codes; gates = a.gates; refs = x.refs }) (record { codes = b.codes; gates = b.gates; refs = y.refs }) x.first
    (subst (λ columns. IsFirstEncoding codes bits columns (record { codes = b.codes; gates = b.gates; refs = y.refs })) (sym classes.1) y.first) in
    let refs : x.refs ≡ y.refs = ap (λ (e : FirstEncoding). e.refs) first in
    same_encodings a b (ap (λ (e : FirstEncoding). e.codes) first) (ap (λ (e : FirstEncoding). e.gates) first)
    (graphs_are_one count _ _ a.graph b.graph x.encoding.graph y.encoding.graph (λ p l.
    x.conditions p l ∙ ap₂ ref_by refs (classes.2 p (subst (λ n. IsPlace n p) (sym x.count_is) l)) ∙ sym (y.conditions p l)))

-- scenarios have one first assignment of so many bits that keeps the given ones
pub one_first_assignment : FirstAssignmentsAgree
one_first_assignment count bits orders patterns a b x y =
    let codes : a.codes ≡ b.codes = least_codes_agree patterns (2 ^ bits) a.codes b.codes x.codes y.codes in
    one_on_codes a.codes count bits orders a b x.assigned (subst (λ c. IsAssignmentOn c count orders bits b) (sym codes) y.assigned)
