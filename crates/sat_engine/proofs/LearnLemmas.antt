-- Closed sets hold what propagation gives, and a cut of reasons leads through its hints.
use Rattle.std.proofs.Common.{◌≡◌, ◌≢◌, ◌⊎◌, ℕ, List, [], ◌∷◌, Option, Some, IsSomeAnd, refl, subst, inl, inr}
use Rattle.sat_trail.proofs.LitLemmas.{opposite_twice, opposite_back}
use Rattle.proof_check.specs.Progress.{IsKnown, Propagated, given, forced, OthersFalse, IsNewBy}
use Rattle.proof_check.specs.Following.{Live, AllFalse}
use Rattle.clause_arena.specs.Clauses.{Lit, opposite, Clause, In}
use Rattle.sat_engine.specs.Steps.{IsClosed, IsConsistent, CutLeads}

-- what propagates from literals of a closed set is in it
pub stays_inside : (known : List Clause) (S start : Lit → Type 0) → IsClosed known S → ((l : Lit) → start l → S l) → (l : Lit) → Propagated known start l → S l
stays_inside known S start closed sub l (given g) = sub l g
stays_inside known S start closed sub l (forced c k i others) = closed c k l i (λ m im ne. stays_inside known S start closed sub (opposite m) (others m im ne))

-- a clause with all its literals but one false in a closed set, and that one unassigned there, is new
pub new_by : (known : List Clause) (S : Lit → Type 0) (line : Clause) (x : Lit) →
    IsClosed known S → IsConsistent S → ((c : Clause) → IsKnown c known → c ≢ []) →
    In x line → ((l : Lit) → OthersFalse line x l → S l) → (S x → ⊥) → (S (opposite x) → ⊥) → IsNewBy known line x
new_by known S line x closed consistent filled i sub not_true not_false = record {
  holds = i;
  not_true = λ p. not_true (stays_inside known S (OthersFalse line x) closed sub x p);
  not_false = λ p. not_false (stays_inside known S (OthersFalse line x) closed sub (opposite x) p);
  none_false = λ c k all. of_clause c (filled c k) k all;
}
  where
    of_clause : (c : Clause) → c ≢ [] → IsKnown c known → ((m : Lit) → In m c → Propagated known (OthersFalse line x) (opposite m)) → ⊥
    of_clause [] ne k all = ne refl
    of_clause (m ∷ c) ne k all =
        let inside = λ (n : Lit). λ (j : In n (m ∷ c)). stays_inside known S (OthersFalse line x) closed sub (opposite n) (all n j) in
        consistent m (closed (m ∷ c) k m (inl refl) (λ n j d. inside n j)) (inside m (inl refl))

pub some_and : (o : Option Clause) (c : Clause) (P : Clause → Type 0) → o ≡ Some c → P c → IsSomeAnd o P
some_and o c P e p = rw e p

-- the clause that is false throughout, alone
pub leads_first : (live : Live) (S Cut : Lit → Type 0) (id : ℕ) (c : Clause) → live id ≡ Some c → ((m : Lit) → In m c → Cut m) → CutLeads live S Cut [] (id ∷ [])
leads_first live S Cut id c e cut = record { lead = λ falses sub are avoid. some_and (live id) c (AllFalse falses) e (λ m i. sub m (cut m i)) }

-- a false literal of the cut is resolved with the reason of its opposite
pub leads_more : (live : Live) (S Cut Rest : Lit → Type 0) (resolved : List Lit) (r : Lit) (id : ℕ) (c : Clause) (k : ℕ) (hints : List ℕ) →
    IsConsistent S → live id ≡ Some c → In r c → S r → (In r resolved → ⊥) →
    ((m : Lit) → Cut m → (m ≡ opposite r) ⊎ Rest m) → ((m : Lit) → In m c → m ≢ r → Rest m) →
    CutLeads live S Cut resolved (k ∷ hints) → CutLeads live S Rest (r ∷ resolved) (id ∷ k ∷ hints)
leads_more live S Cut Rest resolved r id c k hints consistent e i t fresh cut others leads = record {
  lead = λ falses sub are avoid. some_and (live id) c _ e (
    r,
    record {
      holds = i;
      others = λ m im ne. sub m (others m im ne);
      not_false = λ f. consistent r t (are r f);
      not_true = λ f. avoid r (inl refl) f;
    },
    leads.lead (opposite r ∷ falses) (now_in falses sub) (now_false falses are) (now_avoids falses avoid),
  );
}
  where
    now_in : (falses : List Lit) → ((m : Lit) → Rest m → In m falses) → (m : Lit) → Cut m → In m (opposite r ∷ falses)
    now_in falses sub m h = elim (cut m h) [ inl same ↦ inl same | inr rest ↦ inr (sub m rest) ]

    now_false : (falses : List Lit) → ((m : Lit) → In m falses → S (opposite m)) → (m : Lit) → In m (opposite r ∷ falses) → S (opposite m)
    now_false falses are m (inl same) = rw (same, opposite_twice r) t
    now_false falses are m (inr j) = are m j

    now_avoids : (falses : List Lit) → ((q : Lit) → In q (r ∷ resolved) → In (opposite q) falses → ⊥) → (q : Lit) → In q resolved → In (opposite q) (opposite r ∷ falses) → ⊥
    now_avoids falses avoid q j (inl same) = fresh (subst (λ l. In l resolved) (opposite_back q r same) j)
    now_avoids falses avoid q j (inr f) = avoid q (inr j) f
