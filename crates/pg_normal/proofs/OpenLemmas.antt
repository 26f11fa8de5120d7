-- Scenarios under bindings, and the parameters that are left open.
use Rattle.std.proofs.Common.{◌≡◌, ℕ, zero, suc, ◌<◌, ◌≤◌, Bool, if◌then◌else◌, List, [], ◌∷◌, ◌++◌, length, Some, None, slice_get, refl, sym, ap, ◌∙◌, subst, arith, inl, inr}
use Rattle.std.specs.Prelude.{Option}
use Rattle.std.specs.Str.{bytes_eq}
use Rattle.std.proofs.lemmas.Bool.{cases_eq, cases_lt}
use Rattle.std.proofs.lemmas.Option.{none-some, same_Some}
use Rattle.std.proofs.lemmas.List.Quantifiers.{position-Some}
use Rattle.cpog_base.specs.Names.{place_of}
use Rattle.cpog_defs.specs.Codes.{bit}
use Rattle.cpog_defs.specs.Scenarios.{Scenario}
use Rattle.pg_algebra.specs.Conditions.{valuation, bit_of_place}
use Rattle.pg_algebra.specs.Graphs.{Graph}
use Rattle.pg_algebra.specs.Meaning.{graph_of}
use Rattle.pg_algebra.specs.Tables.{flip, with_param}
use Rattle.pg_algebra.specs.declared.expr.Expr.{Expr}
use Rattle.pg_algebra.proofs.ValuationLaws.{valuations_are_numbered}
use Rattle.pg_text.specs.declared.statement.Statement.{Statement}
use Rattle.pg_text.specs.declared.statement.Statement.TheVariants as statement
use Rattle.pg_text.specs.declared.statement.Numbered.{Numbered}
use Rattle.pg_text.specs.Contents.{Contents}
use Rattle.pg_normal.specs.declared.normal.Normal.{Normal}
use Rattle.pg_normal.specs.Instances.{Agrees, ChangesGraph, IsInstance, IsScenarioOf}
use Rattle.pg_normal.specs.Normals.{Before, none_before, with_statement, params_in, binds, binds_one, IsNormal}
use Rattle.pg_normal.specs.Denoting.{Stated, stated, stated_from, stated_in, AgreesWith, IsDenoted, LeavesOpen}

-- ---- some valuation agrees with any bindings

bits_below : (bits : ℕ → Bool) (k : ℕ) → k ≤ 6 → (n : ℕ) × (n < 64) × ((j : ℕ) → j < k → bit n j ≡ bits j)
bits_below bits zero h = (0, omega arith, λ j l. absurd (omega arith))
bits_below bits (suc k) h =
    let m = bits_below bits k (omega arith) in (
      with_param m.0 k (bits k),
      valuations_are_numbered.set_below m.0 k (bits k) (omega arith) m.1,
      λ j l. elim (cases_eq j k) [
        | inl e ↦ ap (bit (with_param m.0 k (bits k))) e ∙ valuations_are_numbered.set_one m.0 k (bits k) ∙ ap bits (sym e)
        | inr ne ↦ valuations_are_numbered.set_others m.0 k j (bits k) ne ∙ m.2 j (omega arith)
      ],
    )

pub agreeing : (x : Stated) → (n : ℕ) × (n < 64) × AgreesWith x n
agreeing x = let m = bits_below x.values 6 (omega arith) in (m.0, m.1, λ k l b. m.2 k l)

-- ---- a scenario that is denoted leaves no parameter open

one_graph : (count : ℕ) (g h : Graph) (sc : Scenario) → IsScenarioOf count g sc → IsScenarioOf count h sc → g ≡ h
one_graph count g h sc a b = λ i. record { vertex = λ v. (sym (a.ops v) ∙ b.ops v) i; arc = λ u v. (sym (a.arcs u v) ∙ b.arcs u v) i }

pub denoted_closed : (count : ℕ) (x : Stated) (sc : Scenario) (k : ℕ) → IsDenoted count x sc → LeavesOpen x k → ⊥
denoted_closed count x sc k d left =
    left.differs (one_graph count (x.graph left.valuation) (x.graph (flip left.valuation k)) sc (d left.valuation left.numbered left.agrees)
    (d (flip left.valuation k) (valuations_are_numbered.flip_below left.valuation k left.below left.numbered) left.turned_agrees))

-- ---- a statement and its normal form

module _ (params : List (List ℕ)) (before : Before) (e : Expr) (bindings : List (List ℕ × Bool)) (x : Stated) (one : Normal) (is : IsNormal params before e bindings one)
    (graph : (n : ℕ) → x.graph n ≡ graph_of (before.graphs n) (valuation params n) e) (fixed : (k : ℕ) →
    x.fixed k ≡ binds params bindings k) (values : (k : ℕ) → x.values k ≡ binds_one params bindings k) where
  agrees : (n : ℕ) → AgreesWith x n → Agrees one.binding.fixed one.binding.values n
  agrees n a k l held = a k l (fixed k ∙ sym (is.binding.fixed k) ∙ held) ∙ values k ∙ sym (is.binding.values k)

  agreed : (n : ℕ) → Agrees one.binding.fixed one.binding.values n → AgreesWith x n
  agreed n a k l held = a k l (is.binding.fixed k ∙ sym (fixed k) ∙ held) ∙ is.binding.values k ∙ sym (values k)

  -- its instance is its scenario
  pub denoted : (count : ℕ) (sc : Scenario) → IsInstance one.form one.binding.fixed one.binding.values count sc → IsDenoted count x sc
  denoted count sc instance n l a = subst (λ g. IsScenarioOf count g sc) (is.form.graph n l ∙ sym (graph n)) (instance n l (agrees n a))

  -- what changes its form is left open
  pub open_from : (k : ℕ) → k < 6 → ChangesGraph one.form one.binding.fixed one.binding.values k → LeavesOpen x k
  open_from k l h = record {
    below = l;
    valuation = h.valuation;
    numbered = h.below;
    agrees = agreed h.valuation h.agrees;
    turned_agrees = agreed (flip h.valuation k) h.turned_agrees;
    differs =
        λ same. h.differs (is.form.graph h.valuation h.below ∙ sym (graph h.valuation) ∙ same
        ∙ graph (flip h.valuation k) ∙ sym (is.form.graph (flip h.valuation k)
        (valuations_are_numbered.flip_below h.valuation k l h.below)));
  }

  pub to_open : (k : ℕ) → LeavesOpen x k → ChangesGraph one.form one.binding.fixed one.binding.values k
  to_open k h = record {
    valuation = h.valuation;
    below = h.numbered;
    agrees = agrees h.valuation h.agrees;
    turned_agrees = agrees (flip h.valuation k) h.turned_agrees;
    differs =
        λ same. h.differs (graph h.valuation ∙ sym (is.form.graph h.valuation h.numbered) ∙ same
        ∙ is.form.graph (flip h.valuation k) (valuations_are_numbered.flip_below h.valuation k h.below h.numbered)
        ∙ sym (graph (flip h.valuation k)));
  }

-- ---- a parameter that is left open is one of the file's

place_bit : (n k : ℕ) (params : List (List ℕ)) (o : Option ℕ) → ((i : ℕ) → o ≡ Some i → i < length params) → length params ≤ k → bit_of_place n o ≡ bit_of_place (flip n k) o
place_bit n k params None within le = refl
place_bit n k params (Some i) within le = sym (valuations_are_numbered.flip_others n k i (let l = within i refl in λ e. absurd (omega (arith, l, e))))

same_valuation : (params : List (List ℕ)) (n k : ℕ) → length params ≤ k → valuation params n ≡ valuation params (flip n k)
same_valuation params n k le = λ i name. place_bit n k params (place_of params name) (λ j e. (position-Some (bytes_eq name) params j [] e).0) le i

module _ (params : List (List ℕ)) (a b : ℕ) (v : valuation params a ≡ valuation params b) where
  same_after : (before : Before) (s : Statement) → before.graphs a ≡ before.graphs b → (with_statement params before s).graphs a ≡ (with_statement params before s).graphs b
  same_after before (statement.Params names) g = g
  same_after before (statement.Graph name e) g = λ i other. if bytes_eq other name then graph_of (g i) (v i) e else g i other
  same_after before (statement.Scenario name e bindings) g = g

  same_at : (before : Before) (line : ℕ) (s : Statement) (rest : List Stated) → before.graphs a ≡ before.graphs b → ((t : ℕ) (x : Stated) → slice_get rest t ≡ Some x → x.graph a ≡ x.graph b)
      → (t : ℕ) (x : Stated) → slice_get (stated params before line s ++ rest) t ≡ Some x → x.graph a ≡ x.graph b
  same_at before line (statement.Params names) rest g later t x at = later t x at
  same_at before line (statement.Graph name e) rest g later t x at = later t x at
  same_at before line (statement.Scenario name e bindings) rest g later zero x at = subst (λ (y : Stated). y.graph a ≡ y.graph b) (same_Some _ x at) (λ i. graph_of (g i) (v i) e)
  same_at before line (statement.Scenario name e bindings) rest g later (suc t) x at = later t x at

  pub same_graphs : (before : Before) (ss : List Numbered) → before.graphs a ≡ before.graphs b → (t : ℕ) (x : Stated) → slice_get (stated_from params before ss) t ≡ Some x → x.graph a ≡ x.graph b
  same_graphs before [] g t x at = absurd (none-some x at)
  same_graphs before (s ∷ ss) g t x at =
      same_at before s.line s.statement (stated_from params (with_statement params before s.statement) ss) g
      (same_graphs (with_statement params before s.statement) ss (same_after before s.statement g)) t x at

pub open_is_known : (f : Contents) (t k : ℕ) (x : Stated) → slice_get (stated_in f) t ≡ Some x → LeavesOpen x k → k < length (params_in f)
open_is_known f t k x at left = elim (cases_lt k (length (params_in f))) [
  | inl l ↦ l
  | inr past ↦ absurd (left.differs (same_graphs (params_in f) left.valuation (flip left.valuation k) (same_valuation (params_in f) left.valuation k past) none_before f.statements refl t x at))
]
