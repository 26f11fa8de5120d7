-- Graphs by classes encode the scenarios.
use Rattle.std.proofs.Common.{◌≡◌, ◌↔◌, ℕ, ◌^◌, ◌<◌, List, length, subst, sym, ◌∙◌}
use Rattle.cpog_defs.specs.declared.types.Bit3.{Bit3}
use Rattle.cpog_defs.specs.declared.types.Ref.{Ref}
use Rattle.cpog_defs.specs.Codes.{AreCodes, KeepGivenBits}
use Rattle.cpog_defs.specs.Orders.{Order}
use Rattle.cpog_defs.specs.Encodings.{Encoding, IsEncoding, Fits, Encodes}
use Rattle.gate_core.specs.Least.{AreLeast}
use Rattle.gate_core.specs.Serving.{ReferencesServe}
use Rattle.opcode_assign.specs.Assignments.{IsAssignmentOn, IsFirstAssignment}
use Rattle.std.specs.List.{All}
use Rattle.cpog_defs.specs.Gates.{IsGateList, signal_count}
use Rattle.cpog_defs.specs.Graphs.{IsGraph}
use Rattle.gate_core.specs.First.{IsFirstEncoding}
use Rattle.cpog_merge.specs.Columns.{Columns, AreColumnsOf, AgreesWith}
use Rattle.cpog_merge.specs.Classes.{Classes, AreClassesOf}
use Rattle.cpog_merge.specs.ByClass.{IsGraphByClass}
use Rattle.cpog_merge.proofs.AgreeLemmas.{graph_by_class_lem}

-- codes and gates that serve the classes, and a graph whose conditions are those of the classes, encode the scenarios
pub by_class_encodes : (count bits : ℕ) (orders : List Order) (patterns : List (List Bit3)) (t : Columns)
    (list : Classes) (refs : List Ref) (e : Encoding)
    → ((f : Encoding) → IsEncoding count f → Fits f orders ↔ AgreesWith f t) → t.scenarios ≡ length orders →
    t.count ≡ count → AreClassesOf t list
    → e.gates.inputs ≡ bits → AreCodes bits (length orders) e.codes → KeepGivenBits patterns e.codes → IsEncoding count e
    → ReferencesServe list.columns e.codes e.gates refs → IsGraphByClass count list refs e.graph
    → Encodes count orders patterns bits e
by_class_encodes count bits orders patterns t list refs e fits scenarios same are inputs codes given encoding serves graph = record {
  bits_are = inputs;
  codes = codes;
  given = given;
  encoding = encoding;
  fits = (fits e encoding).1 (graph_by_class_lem e t list refs are (codes.one_each ∙ sym scenarios) serves
      (subst (λ n. IsGraphByClass n list refs e.graph) (sym same) graph));
}

-- the least codes, and the assignment on them
pub first_from : (codes : List ℕ) (count bits : ℕ) (orders : List Order) (patterns : List (List Bit3))
    (e : Encoding) → AreLeast patterns (2 ^ bits) codes → IsAssignmentOn codes count orders bits e
    → IsFirstAssignment count orders patterns bits e
first_from codes count bits orders patterns e least on = record {
  codes = subst (AreLeast patterns (2 ^ bits)) (sym on.first.same_codes) least;
  assigned = subst (λ c. IsAssignmentOn c count orders bits e) (sym on.first.same_codes) on;
}

-- what is made on the codes is the assignment on them
pub assignment_on : (codes : List ℕ) (count bits n : ℕ) (orders : List Order) (t : Columns) (list : Classes)
    (refs : List Ref) (e : Encoding)
    → AreCodes bits n codes → e.codes ≡ codes → e.gates.inputs ≡ bits → IsGateList e.gates → t.count ≡ count →
    AreColumnsOf orders t → AreClassesOf t list
    → IsFirstEncoding codes bits list.columns (record { codes = e.codes; gates = e.gates; refs = refs })
    → IsGraph list.count (signal_count e.gates) e.graph → IsGraphByClass list.count list refs e.graph →
    IsAssignmentOn codes count orders bits e
assignment_on codes count bits n orders t list refs e are same inputs gates count_is columns classes first graph conditions =
    let whole : list.count ≡ count = classes.count ∙ count_is in record {
      encoding = record {
        codes =
            subst (All (λ word. word < 2 ^ e.gates.inputs)) (sym same)
            (subst (λ b. All (λ word. word < 2 ^ b) codes) (sym inputs) are.within);
        gates = gates;
        graph = subst (λ k. IsGraph k (signal_count e.gates) e.graph) whole graph;
      };
      table = t;
      count_is = count_is;
      columns = columns;
      classes = list;
      are_classes = classes;
      refs = refs;
      first = first;
      conditions = subst (λ k. IsGraphByClass k list refs e.graph) whole conditions;
    }
