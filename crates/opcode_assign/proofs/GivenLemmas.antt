-- Where no bit is given any codes keep the given bits, so a solution of the template that is asked keeps them.
use Rattle.std.proofs.Common.{◌≡◌, ℕ, zero, suc, Bool, true, false, if◌then◌else◌, List, [], ◌∷◌, length, Some, slice_get, refl, sym, subst, ap, ◌∙◌}
use Rattle.std.specs.List.{list_any}
use Rattle.std.proofs.lemmas.Bool.{both_ways}
use Rattle.std.proofs.lemmas.List.{length-replicate}
use Rattle.std.proofs.lemmas.List.Folds.{list_any_at}
use Rattle.std.proofs.lemmas.Option.{slice_get_within, get_or_from_slice_get}
use Rattle.cpog_base.specs.Pattern.{is_given}
use Rattle.cpog_defs.specs.declared.types.Bit3.{Bit3}
use Rattle.cpog_defs.specs.declared.types.Bit3.TheVariants.{Zero, One, Free}
use Rattle.cpog_defs.specs.Codes.{bit, KeepGivenBits, open_patterns}
use Rattle.cpog_defs.specs.Entries.{Agrees, entry_at}
use Rattle.gate_template.specs.declared.types.Template.{Template}
use Rattle.gate_template.specs.declared.types.Template.TheVariants.{Second, Third}
use Rattle.gate_template.specs.Values.{Parts, IsSolution}
use Rattle.cnf_build.specs.Evidence.{template_for}

free_entry : (xs : List Bit3) (i : ℕ) → list_any is_given xs ≡ false → entry_at xs i ≡ Free
free_entry [] i h = refl
free_entry (Zero ∷ xs) i h = absurd (both_ways _ h refl)
free_entry (One ∷ xs) i h = absurd (both_ways _ h refl)
free_entry (Free ∷ xs) zero h = refl
free_entry (Free ∷ xs) (suc i) h = free_entry xs i h

free_by : (b : Bool) (xs : List Bit3) (i : ℕ) → list_any is_given xs ≡ b → (b ≡ true → ⊥) → entry_at xs i ≡ Free
free_by true xs i e apart = absurd (apart refl)
free_by false xs i e apart = free_entry xs i e

free_pattern : (patterns : List (List Bit3)) (s i : ℕ) (pattern : List Bit3) → list_any (list_any is_given) patterns ≡ false → slice_get patterns s ≡ Some pattern → entry_at pattern i ≡ Free
free_pattern patterns s i pattern h g =
    free_by (list_any is_given pattern) pattern i refl (λ t.
    both_ways _ h (list_any_at (list_any is_given) patterns s [] (slice_get_within patterns s pattern g) (ap (list_any is_given) (get_or_from_slice_get patterns s pattern [] g) ∙ t)))

module _ (patterns columns : List (List Bit3)) (bits : ℕ) (e : Parts) where
  free : list_any (list_any is_given) patterns ≡ false → KeepGivenBits (open_patterns (length patterns)) e.codes → KeepGivenBits patterns e.codes
  free none h = record {
    one_each = sym (length-replicate (length patterns) []) ∙ h.one_each;
    kept = λ s word i pattern a b. subst (λ entry. Agrees entry (bit word i)) (sym (free_pattern patterns s i pattern none b)) tt;
  }

  by_given : (b : Bool) → list_any (list_any is_given) patterns ≡ b → (kind : Template) → kind ≡ (if b then Third else Second) → IsSolution kind patterns bits columns e → IsSolution Third patterns bits columns e
  by_given true h kind is s = subst (λ k. IsSolution k patterns bits columns e) is s
  by_given false h kind is s =
      let second : IsSolution Second patterns bits columns e = subst (λ k. IsSolution k patterns bits columns e) is s in record {
        inputs = second.inputs;
        codes = second.codes;
        given = free h second.given;
        gates = second.gates;
        references = second.references;
      }

  -- a solution of the template that is asked keeps the given bits
  pub keeps_given : (kind : Template) → kind ≡ template_for patterns → IsSolution kind patterns bits columns e → IsSolution Third patterns bits columns e
  keeps_given kind is s = by_given (list_any (list_any is_given) patterns) refl kind is s
