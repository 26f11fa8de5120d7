-- One statement more among the forms of a file.
use Rattle.std.specs.Prelude.{◌≡◌, refl, ℕ, ◌<◌, ◌≤◌, ◌+◌, Bool, true, false, cond, List, [], ◌∷◌, ◌++◌, length, slice_get}
use Rattle.std.specs.List.{AllByRecursion}
use Rattle.std.specs.Option.{IsSomeAnd}
use Rattle.std.specs.Str.{bytes_eq}
use Rattle.std.proofs.Common.{ap, ap₂, ◌∙◌, sym, subst, drop, arith, append_assoc, length-append}
use Rattle.cpog_base.specs.Names.{has_text}
use Rattle.pg_algebra.specs.declared.expr.Expr.{Expr}
use Rattle.pg_algebra.specs.Conditions.{valuation}
use Rattle.pg_algebra.specs.Meaning.{graph_of}
use Rattle.pg_text.specs.declared.statement.Statement.{Statement}
use Rattle.pg_text.specs.declared.statement.Statement.TheVariants as statement
use Rattle.pg_text.specs.Numbers.{numbers_of, statement_numbers}
use Rattle.pg_text.specs.Contents.{Contents}
use Rattle.pg_normal.specs.declared.scope.Scope.{Scope}
use Rattle.pg_normal.specs.declared.naming.NameFault.{NameFault}
use Rattle.pg_normal.specs.declared.naming.NameFault.TheVariants as fault
use Rattle.pg_normal.specs.declared.known.Known.{Known}
use Rattle.pg_normal.specs.declared.normal.Normal.{Normal}
use Rattle.pg_normal.specs.declared.normal.Kind.TheVariants as kind
use Rattle.pg_normal.specs.Appearing.{first_appearing}
use Rattle.pg_normal.specs.Forms.{IsFormOf}
use Rattle.pg_normal.specs.Known.{IsKnown, graphs_known, orders_known}
use Rattle.pg_normal.specs.Naming.{fault_if, again, expr_faults, statement_faults, scope_after, scope_in, faults_from}
use Rattle.pg_normal.specs.Normals.{IsBinding, with_statement, params_in, none_before, AreNormals}
use Rattle.pg_normal.specs.Sound.{is_sound}
use Rattle.pg_normal.proofs.MakingLemmas.{form_same}
use Rattle.pg_normal.proofs.ListingLemmas.{left_empty, right_empty, sound, kept_param, line_without_faults, At, whole_after, forms_after, origins_after, origins_added}

new_if : (b : Bool) (f : NameFault) → fault_if b f ≡ [] → b ≡ false
new_if false f h = refl
new_if true f h = let e = ap length h in absurd (omega (arith, e))

pub known_first : (f : Contents) (known : Known) (params : List (List ℕ)) (scope : Scope) → known ≡ record { params = params; graphs = []; tables = [] } → params ≡ scope.params → scope ≡ scope_in f
    → known ≡ record { params = params_in f; graphs = []; tables = [] }
known_first f known params scope is same whole = is ∙ (λ j. record { params = (same ∙ ap (λ s. s.params) whole) j; graphs = []; tables = [] })

-- the statement at hand, as it is matched
pub at_match : (f : Contents) (i : ℕ) (s t : Statement) → IsSomeAnd (slice_get f.statements i) (λ n. s ≡ n.statement) → s ≡ t → IsSomeAnd (slice_get f.statements i) (λ n. t ≡ n.statement)
at_match f i s t at is = subst (λ u. IsSomeAnd (slice_get f.statements i) (λ n. u ≡ n.statement)) is at

pub below_match : (f : Contents) (count : ℕ) (operations : List (List ℕ)) (s t : Statement) →
    AllByRecursion (λ n. n < length f.operations) (statement_numbers s) → s ≡ t → count ≡ length operations →
    operations ≡ f.operations
    → AllByRecursion (λ n. n < count) (statement_numbers t)
below_match f count operations s t below is counts same =
    subst (λ k. AllByRecursion (λ n. n < k) (statement_numbers t)) (sym (counts ∙ ap length same))
    (subst (λ u. AllByRecursion (λ n. n < length f.operations) (statement_numbers u)) is below)

pub at_same : (count : ℕ) (f : Contents) (known more : Known) (i : ℕ) (xs new : List Normal) → more ≡ known → new ≡ xs → At count f known i xs → At count f more i new
at_same count f known more i xs new same is at = subst (λ k. At count f k i new) (sym same) (subst (At count f known i) (sym is) at)

pub one_more : {X : Type 0} (xs new : List X) (x : X) (i : ℕ) → length xs ≤ i → new ≡ xs ++ x ∷ [] → length new ≤ i + 1
one_more xs new x i few is = let l = ap length is ∙ length-append xs (x ∷ []) in omega (arith, few, l)

module _ (count : ℕ) (f : Contents) (known : Known) (i : ℕ) (xs : List Normal) (at : At count f known i xs) where
  more_known : (x : List ℕ) → has_text at.scope.params x ≡ true → has_text known.params x ≡ true
  more_known x h = ap (λ ps. has_text ps x) at.params ∙ ap (λ sc. has_text sc.params x) at.whole ∙ kept_param (drop i f.statements) at.scope x h

  module _ (names : List (List ℕ)) (at_s : IsSomeAnd (slice_get f.statements i) (λ n. statement.Params names ≡ n.statement)) where
    pub after_params : (n : ℕ) → IsSomeAnd (slice_get f.statements i) (λ t. n ≡ t.line) → At count f known (i + 1) xs
    after_params n at_n = record {
      scope = scope_after at.scope (statement.Params names);
      before = at.before;
      faults = (line_without_faults at.scope f.statements i (statement.Params names) at_s at.faults).2;
      whole = whole_after count f known i xs at (statement.Params names) at_s;
      names = at.names;
      params = at.params;
      is_known = at.is_known;
      graphs = at.graphs;
      orders = at.orders;
      forms = forms_after count f known i xs at (statement.Params names) at_s;
      origins = origins_after count f known i xs at (statement.Params names) at_s n at_n;
    }

  -- the form of an expression over the graphs that are known is that over the graphs of the lines before
  form_before : (e : Expr) (x : Normal) → IsFormOf (λ n. graph_of (graphs_known known n) (valuation known.params n) e) (first_appearing (orders_known known) e) x.form
      → IsFormOf (λ n. graph_of (at.before.graphs n) (valuation (params_in f) n) e) (first_appearing at.before.orders e) x.form
  form_before e x form = form_same _ _ _ _ x.form (λ n h. ap₂ (λ g ps. graph_of g (valuation ps n) e) (at.graphs n h) at.params) (ap (λ o. first_appearing o e) at.orders) form

  listed : (x : Normal) (rest : List Normal) → AreNormals (params_in f) none_before f.statements (xs ++ x ∷ rest) → AreNormals (params_in f) none_before f.statements ((xs ++ x ∷ []) ++ rest)
  listed x rest h = subst (AreNormals (params_in f) none_before f.statements) (sym (append_assoc xs (x ∷ []) rest)) h

  module _ (name : List ℕ) (e : Expr) (at_s : IsSomeAnd (slice_get f.statements i) (λ n. statement.Graph name e ≡ n.statement)) where
    graph_faults : (line : ℕ) × (statement_faults line at.scope (statement.Graph name e) ≡ []) × (faults_from (scope_after at.scope (statement.Graph name e)) (drop (i + 1) f.statements) ≡ [])
    graph_faults = line_without_faults at.scope f.statements i (statement.Graph name e) at_s at.faults

    pub graph_new : has_text known.graphs name ≡ false
    graph_new =
        ap (λ gs. has_text gs name) at.names ∙ new_if (has_text at.scope.graphs name)
        (fault.Duplicate graph_faults.0 name) (left_empty
        (again graph_faults.0 at.scope.graphs name) _ graph_faults.1)

    pub graph_sound : AllByRecursion (λ n. n < count) (numbers_of e) → is_sound count known.params e ≡ true
    graph_sound below = sound count graph_faults.0 at.scope known.params more_known e below (right_empty (again graph_faults.0 at.scope.graphs name) _ graph_faults.1)

    pub after_graph : (n : ℕ) → IsSomeAnd (slice_get f.statements i) (λ t. n ≡ t.line) → (more : Known) (x : Normal) → x.origin ≡ record { statement = i; line = n; kind = kind.Graph }
        → IsKnown count more → more.params ≡ known.params → more.graphs ≡ known.graphs ++ name ∷ []
        → ((n : ℕ) (other : List ℕ) → n < 64 → graphs_known more n other ≡ cond (bytes_eq other name) (graph_of (graphs_known known n) (valuation known.params n) e) (graphs_known known n other))
        → ((other : List ℕ) → orders_known more other ≡ cond (bytes_eq other name) (first_appearing (orders_known known) e) (orders_known known other))
        → IsFormOf (λ n. graph_of (graphs_known known n) (valuation known.params n) e) (first_appearing (orders_known known) e) x.form
        → IsBinding (params_in f) [] x.binding
        → At count f more (i + 1) (xs ++ x ∷ [])
    after_graph n at_n more x origin_is is_known params names graphs orders form binding = record {
      scope = scope_after at.scope (statement.Graph name e);
      before = with_statement (params_in f) at.before (statement.Graph name e);
      faults = graph_faults.2;
      whole = whole_after count f known i xs at (statement.Graph name e) at_s;
      names = names ∙ ap (λ gs. gs ++ name ∷ []) at.names;
      params = params ∙ at.params;
      is_known = is_known;
      graphs = λ m h. (λ j other. (graphs m other h ∙ ap₂ (λ g ps. cond (bytes_eq other name) (graph_of g (valuation ps m) e) (g other)) (at.graphs m h) at.params) j);
      origins = origins_added count f known i xs at (statement.Graph name e) at_s n x _ at_n origin_is refl;
      orders = λ j other. (orders other ∙ ap (λ o. cond (bytes_eq other name) (first_appearing o e) (o other)) at.orders) j;
      forms =
          λ rest h. listed x rest (forms_after count f known i xs at (statement.Graph name e) at_s (x ∷ rest)
          (record {
            one = x;
            more = rest;
            whole = refl;
            is = record
                { form = form_before e x form; binding = binding };
            rest = h;
          }));
    }

  module _ (name : List ℕ) (e : Expr) (bindings : List (List ℕ × Bool)) (at_s : IsSomeAnd (slice_get f.statements i) (λ n. statement.Scenario name e bindings ≡ n.statement)) where
    scenario_faults : (line : ℕ) × (statement_faults line at.scope (statement.Scenario name e bindings) ≡ []) ×
        (faults_from (scope_after at.scope (statement.Scenario name e bindings)) (drop (i + 1) f.statements) ≡ [])
    scenario_faults = line_without_faults at.scope f.statements i (statement.Scenario name e bindings) at_s at.faults

    pub scenario_sound : AllByRecursion (λ n. n < count) (numbers_of e) → is_sound count known.params e ≡ true
    scenario_sound below = sound count scenario_faults.0 at.scope known.params more_known e below
        (left_empty (expr_faults scenario_faults.0 at.scope e) _ (right_empty (again scenario_faults.0 at.scope.scenarios name) _ scenario_faults.1))

    pub after_scenario : (n : ℕ) → IsSomeAnd (slice_get f.statements i) (λ t. n ≡ t.line) → (x : Normal) → x.origin ≡ record { statement = i; line = n; kind = kind.Scenario }
        → IsFormOf (λ n. graph_of (graphs_known known n) (valuation known.params n) e) (first_appearing (orders_known known) e) x.form
        → IsBinding known.params bindings x.binding
        → At count f known (i + 1) (xs ++ x ∷ [])
    after_scenario n at_n x origin_is form binding = record {
      scope = scope_after at.scope (statement.Scenario name e bindings);
      before = at.before;
      faults = scenario_faults.2;
      whole = whole_after count f known i xs at (statement.Scenario name e bindings) at_s;
      names = at.names;
      params = at.params;
      is_known = at.is_known;
      graphs = at.graphs;
      orders = at.orders;
      origins = origins_added count f known i xs at (statement.Scenario name e bindings) at_s n x _ at_n origin_is refl;
      forms =
          λ rest h. listed x rest (forms_after count f known i xs at (statement.Scenario name e bindings) at_s
          (x ∷ rest) (record {
            one = x;
            more = rest;
            whole = refl;
            is = record
                { form = form_before e x form; binding = subst (λ ps. IsBinding ps bindings x.binding) at.params binding };
            rest = h;
          }));
    }
