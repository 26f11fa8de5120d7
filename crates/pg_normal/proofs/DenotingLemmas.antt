-- The scenarios of the forms so far, and the forms that are left.
use Rattle.std.specs.Prelude.{◌≡◌, refl, ℕ, ◌<◌, ◌≤◌, ◌+◌, List, [], ◌∷◌, ◌++◌, length, slice_get, Some}
use Rattle.std.proofs.Common.{zero, suc, ap, ◌∙◌, sym, subst, drop, arith, slice_index_or, append_assoc, append-nil}
use Rattle.std.proofs.lemmas.List.{drop_all}
use Rattle.std.proofs.lemmas.Option.{none-some, same_Some, slice_get-get_or}
use Rattle.std.specs.Option.{IsSomeAnd}
use Rattle.cpog_defs.specs.Scenarios.{Scenario}
use Rattle.pg_text.specs.Contents.{Contents}
use Rattle.pg_text.specs.Text.{IsFile}
use Rattle.pg_normal.specs.declared.denoting.DenotingFault.{DenotingFault}
use Rattle.pg_normal.specs.declared.denoting.DenotingFault.TheVariants as fault
use Rattle.pg_normal.specs.declared.normal.Kind.TheVariants as kind
use Rattle.pg_normal.specs.declared.normal.Normal.{Normal}
use Rattle.pg_normal.specs.Changes.{IsBelow}
use Rattle.pg_normal.specs.Instances.{IsInstance, IsUnbound}
use Rattle.pg_normal.specs.Normals.{params_in, none_before, AreNormalsOf}
use Rattle.pg_normal.specs.Denoting.{Stated, stated_in, IsDenoted, AreDenoted, AreScenariosOf, LeavesOpen, IsFirstUnbound, IsDenotingFault, NamesParam, IsUnboundForm}
use Rattle.pg_normal.proofs.BindingLemmas.{form_is_below, binding_is_few}
use Rattle.pg_normal.proofs.NamingLemmas.{next}
use Rattle.pg_normal.proofs.OpenLemmas.{denoted_closed, denoted, open_from, to_open, open_is_known}
use Rattle.pg_normal.proofs.StatedLemmas.{IsFormFor, IsNext, AreFormsFor, forms_for, count_stated}

-- ---- scenarios one by one

denoted_push : (count : ℕ) (xs : List Stated) (scs : List Scenario) (x : Stated) (sc : Scenario) → AreDenoted count xs scs → IsDenoted count x sc → AreDenoted count (xs ++ x ∷ []) (scs ++ sc ∷ [])
denoted_push count [] [] x sc h is = (is, tt)
denoted_push count [] (s ∷ scs) x sc h is = absurd h
denoted_push count (y ∷ xs) [] x sc h is = absurd h
denoted_push count (y ∷ xs) (s ∷ scs) x sc h is = (h.0, denoted_push count xs scs x sc h.1 is)

-- none that has its scenario leaves a parameter open
none_open : (count : ℕ) (xs : List Stated) (scs : List Scenario) → AreDenoted count xs scs → (t k : ℕ) (x : Stated) → slice_get xs t ≡ Some x → LeavesOpen x k → ⊥
none_open count [] scs h t k x at left = none-some x at
none_open count (y ∷ xs) [] h t k x at left = h
none_open count (y ∷ xs) (s ∷ scs) h zero k x at left = denoted_closed count x s k (subst (λ z. IsDenoted count z s) (same_Some y x at) h.0) left
none_open count (y ∷ xs) (s ∷ scs) h (suc t) k x at left = none_open count xs scs h.1 t k x at left

length-denoted : (count : ℕ) (xs : List Stated) (scs : List Scenario) → AreDenoted count xs scs → length scs ≡ length xs
length-denoted count [] [] h = refl
length-denoted count [] (s ∷ scs) h = absurd h
length-denoted count (x ∷ xs) [] h = absurd h
length-denoted count (x ∷ xs) (s ∷ scs) h = ap suc (length-denoted count xs scs h.1)

front_get : (xs ys : List Stated) (t : ℕ) (x : Stated) → t < length xs → slice_get (xs ++ ys) t ≡ Some x → slice_get xs t ≡ Some x
front_get [] ys t x l at = absurd (omega arith)
front_get (y ∷ xs) ys zero x l at = at
front_get (y ∷ xs) ys (suc t) x l at = front_get xs ys t x (omega arith) at

next_get : (xs ys : List Stated) (x : Stated) → slice_get (xs ++ x ∷ ys) (length xs) ≡ Some x
next_get [] ys x = refl
next_get (y ∷ xs) ys x = next_get xs ys x

-- ---- with these forms left

pub record At (f : Contents) (ys : List Normal) (scs : List Scenario) : Type 0 where
  pub done : List Stated
  pub left : List Stated
  pub whole : stated_in f ≡ done ++ left
  pub forms : AreFormsFor (params_in f) ys left
  pub denotes : AreDenoted (length f.operations) done scs

pub at_first : (f : Contents) (ys : List Normal) → AreNormalsOf f ys → At f ys []
at_first f ys are = record { done = []; left = stated_in f; whole = refl; forms = forms_for f ys are; denotes = tt }

pub at_last : (f : Contents) (all : List Normal) (k : ℕ) (scs : List Scenario) → At f (drop k all) scs → length all ≤ k → AreScenariosOf f scs
at_last f all k scs at le =
    let none : at.left ≡ [] = subst (λ ys. AreFormsFor (params_in f) ys at.left) (drop_all k all le) at.forms in
    subst (λ xs. AreDenoted (length f.operations) xs scs) (sym (at.whole ∙ ap (λ xs. at.done ++ xs) none ∙ append-nil at.done)) at.denotes

pub few_scenarios : (f : Contents) (scs : List Scenario) → IsFile f → AreScenariosOf f scs → length scs ≤ 64
few_scenarios f scs file are =
    let few = file.1.few_scenarios in
    let same = length-denoted (length f.operations) (stated_in f) scs are in
    let counts = count_stated (params_in f) none_before f.statements in
    omega (arith, few, same, counts)

-- the first form that is left
module _ (f : Contents) (all : List Normal) (k : ℕ) (y d : Normal) (within : k < length all) (is : y ≡ slice_index_or all k d) where
  stands : slice_get all k ≡ Some y
  stands = slice_get-get_or all k d within ∙ ap Some (sym is)

  -- what making its scenario asks for
  module _ (file : IsFile f) (are : AreNormalsOf f all) where
    pub below_there : (count : ℕ) → count ≡ length f.operations → IsBelow count y.form
    below_there count count_is = form_is_below f all k count y.form file are (subst (λ o. IsSomeAnd o (λ x. y.form ≡ x.form)) (sym stands) refl) count_is

    pub few_there : y.binding.values < 64
    few_there = binding_is_few f all k y.binding file are (subst (λ o. IsSomeAnd o (λ x. y.binding ≡ x.binding)) (sym stands) refl)

  module _ (scs : List Scenario) (at : At f (drop k all) scs) where
    forms_here : IsNext (params_in f) y.origin.kind at.left y (AreFormsFor (params_in f) (drop (k + 1) all))
    forms_here = subst (λ ys. AreFormsFor (params_in f) ys at.left) (next all k y d within is) at.forms

    pub at_graph : y.origin.kind ≡ kind.Graph → At f (drop (k + 1) all) scs
    at_graph graph = record {
      done = at.done;
      left = at.left;
      whole = at.whole;
      forms = subst (λ j. IsNext (params_in f) j at.left y (AreFormsFor (params_in f) (drop (k + 1) all))) graph forms_here;
      denotes = at.denotes;
    }

    -- the scenario that it is of
    module _ (scenario : y.origin.kind ≡ kind.Scenario) where
      split : (left : List Stated) → IsNext (params_in f) kind.Scenario left y (AreFormsFor (params_in f) (drop (k + 1) all))
          → (x : Stated) × (more : List Stated) × (left ≡ x ∷ more) × IsFormFor (params_in f) x y × AreFormsFor (params_in f) (drop (k + 1) all) more
      split [] h = absurd h
      split (x ∷ more) h = (x, more, refl, h.0, h.1)

      abbrev here : (x : Stated) × (more : List Stated) × (at.left ≡ x ∷ more) × IsFormFor (params_in f) x y × AreFormsFor (params_in f) (drop (k + 1) all) more
      here = split at.left (subst (λ j. IsNext (params_in f) j at.left y (AreFormsFor (params_in f) (drop (k + 1) all))) scenario forms_here)

      whole : stated_in f ≡ at.done ++ here.0 ∷ here.1
      whole = at.whole ∙ ap (λ xs. at.done ++ xs) here.2

      -- its scenario is the next
      pub at_scenario : (count : ℕ) → count ≡ length f.operations → (sc : Scenario) → IsInstance y.form y.binding.fixed y.binding.values count sc → At f (drop (k + 1) all) (scs ++ sc ∷ [])
      at_scenario count count_is sc instance = record {
        done = at.done ++ here.0 ∷ [];
        left = here.1;
        whole = whole ∙ sym (append_assoc at.done (here.0 ∷ []) here.1);
        forms = here.4;
        denotes = denoted_push (length f.operations) at.done scs here.0 sc at.denotes
            (denoted (params_in f) here.3.before here.3.expr here.3.bindings here.0 y here.3.normal here.3.graph
            here.3.fixed here.3.values (length f.operations) sc
            (subst (λ n. IsInstance y.form y.binding.fixed y.binding.values n sc) count_is instance));
      }

      -- or it is the first that leaves a parameter open
      at_unbound : (line j : ℕ) → line ≡ y.origin.line → IsUnbound y.form y.binding.fixed y.binding.values j → IsFirstUnbound f line j
      at_unbound line j line_is unbound = record {
        place = length at.done;
        scenario = here.0;
        stands = ap (λ xs. slice_get xs (length at.done)) whole ∙ next_get at.done here.1 here.0;
        line_is = sym (line_is ∙ here.3.line);
        unbound = open_from (params_in f) here.3.before here.3.expr here.3.bindings here.0 y here.3.normal here.3.graph here.3.fixed here.3.values j unbound.below unbound.changes;
        least = λ i l left. unbound.least i l (to_open (params_in f) here.3.before here.3.expr here.3.bindings here.0 y here.3.normal here.3.graph here.3.fixed here.3.values i left);
        earlier = λ t i x l at_t left. none_open (length f.operations) at.done scs at.denotes t i x (front_get at.done (here.0 ∷ here.1) t x l (ap (λ xs. slice_get xs t) (sym whole) ∙ at_t)) left;
      }

      pub at_fault : (e : DenotingFault) → IsUnboundForm y e → IsDenotingFault f e
      at_fault (fault.Unbound line j) h = at_unbound line j h.0 h.1
      at_fault fault.Memory h = tt

-- the parameter that the first such scenario leaves open is one of the file's
pub fault_names_param : (f : Contents) (e : DenotingFault) → IsDenotingFault f e → NamesParam f e
fault_names_param f (fault.Unbound line k) h = open_is_known f h.place k h.scenario h.stands h.unbound
fault_names_param f fault.Memory h = tt
