-- Evidence bounds the gates of every encoding, and which template is asked.
use Rattle.std.proofs.Common.{◌≡◌, ◌-◌, ◌≤◌, true, false, if◌then◌else◌, List, [], ◌∷◌, length, refl, subst, arith, inl, inr}
use Rattle.std.specs.List.{list_any}
use Rattle.std.proofs.lemmas.Bool.{cases_eq}
use Rattle.std.proofs.lemmas.List.Sums.{sum_by-cons}
use Rattle.cpog_defs.specs.declared.types.Bit3.{Bit3}
use Rattle.cpog_defs.specs.declared.types.Bit3.TheVariants.{Zero, One, Free}
use Rattle.cpog_base.specs.Pattern.{is_given}
use Rattle.gate_template.specs.Counts.{defined, all_defined}
use Rattle.cpog_merge.specs.Columns.{count_of}
use Rattle.gate_core.specs.Bounds.{IsLowerBound}
use Rattle.cpog_merge.proofs.CountLemmas.{count_bounds_lem}
use Rattle.gate_template.proofs.RefutedLemmas.{refuted_bounds}
use Rattle.proof_check.proofs.RefuteLemmas.{no_solution}
use Rattle.cnf_build.specs.Evidence.{EvidenceValue}
use Rattle.cnf_build.specs.Laws.{EvidenceBounds}

pub evidence_bounds_lem : EvidenceBounds
evidence_bounds_lem orders patterns t list bits lo EvidenceValue.Zero alike columns classes some fit h = λ cost below. absurd (omega (arith, below, h))
evidence_bounds_lem orders patterns t list bits lo (EvidenceValue.Count places) alike columns classes some fit h =
    let e : length places - bits ≡ lo = omega (arith, h.0) in
    subst (IsLowerBound (count_of orders) orders patterns bits) e (count_bounds_lem orders patterns (count_of orders) bits places alike h.1)
evidence_bounds_lem orders patterns t list bits lo (EvidenceValue.Refutation kind gates log) alike columns classes some fit h =
    subst (IsLowerBound (count_of orders) orders patterns bits) h.one_fewer
    (refuted_bounds kind orders patterns t list bits gates alike columns classes some h.some_bits fit (no_solution _ _ log h.refutes))

-- ---- whether some bit is given

no_entry : (entries : List Bit3) → defined entries ≡ 0 → list_any is_given entries ≡ false
no_entry [] h = refl
no_entry (Zero ∷ xs) h = absurd (omega (arith, h, sum_by-cons (λ e. if is_given e then 1 else 0) Zero xs))
no_entry (One ∷ xs) h = absurd (omega (arith, h, sum_by-cons (λ e. if is_given e then 1 else 0) One xs))
no_entry (Free ∷ xs) h = no_entry xs (omega (arith, h, sum_by-cons (λ e. if is_given e then 1 else 0) Free xs))

some_entry : (entries : List Bit3) → 1 ≤ defined entries → list_any is_given entries ≡ true
some_entry [] h = absurd (omega (arith, h))
some_entry (Zero ∷ xs) h = refl
some_entry (One ∷ xs) h = refl
some_entry (Free ∷ xs) h = some_entry xs (omega (arith, h, sum_by-cons (λ e. if is_given e then 1 else 0) Free xs))

pub none_given : (patterns : List (List Bit3)) → all_defined patterns ≡ 0 → list_any (list_any is_given) patterns ≡ false
none_given [] h = refl
none_given (p ∷ ps) h =
    let e = sum_by-cons defined p ps in
    rw (no_entry p (omega (arith, h, e))) (none_given ps (omega (arith, h, e)))

pub some_given : (patterns : List (List Bit3)) → 1 ≤ all_defined patterns → list_any (list_any is_given) patterns ≡ true
some_given [] h = absurd (omega (arith, h))
some_given (p ∷ ps) h =
    let e = sum_by-cons defined p ps in elim (cases_eq (defined p) 0) [
      | inl none ↦ rw (no_entry p none) (some_given ps (omega (arith, h, e, none)))
      | inr other ↦ rw (some_entry p (omega (arith, other))) refl
    ]
