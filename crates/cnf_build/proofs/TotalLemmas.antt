-- The sums that code makes are the sizes.
use Rattle.std.proofs.Common.{◌≡◌, ℕ, ◌+◌, ◌*◌, List, length, refl, sym, ◌∙◌, arith}
use Rattle.cpog_defs.specs.declared.types.Bit3.{Bit3}
use Rattle.gate_template.specs.declared.types.Shape.{Shape}
use Rattle.gate_template.specs.declared.types.Template.{Template}
use Rattle.gate_template.specs.Counts.{pairs, selections}
use Rattle.gate_template.specs.Variables.{variables}
use Rattle.gate_template.specs.Templates.{shape_of, template}
use Rattle.gate_template.proofs.PlaceLemmas.{length-variables}
use Rattle.gate_template.specs.Counts.{further_count}
use Rattle.gate_template.proofs.SizeLemmas.{clauses_are, literals_are}
use Rattle.clause_arena.specs.Arenas.{literals}
use Rattle.gate_template.specs.Counts.{all_defined}
use Rattle.cnf_build.specs.Sizes.{IsAsked}

module _ (kind : Template) (patterns : List (List Bit3)) (bits gates : ℕ) (columns : List (List Bit3)) (asked : IsAsked patterns bits gates columns) (n l g k p s e f : ℕ)
    (en : n ≡ length patterns) (el : l ≡ bits) (eg : g ≡ gates) (ek : k ≡ length columns) (ep : p ≡ pairs (length patterns)) (es : s ≡ selections bits gates) (ee : e ≡ all_defined columns) (ef : f ≡ further_count kind bits patterns) where
  abbrev z : Shape
  z = shape_of patterns bits gates columns

  pub variables_total : n * l + p * l + s + g * 3 + g * n + k * (l + g) + k ≡ length (variables z)
  variables_total = rw (en, el, eg, ek, ep, es) (sym (length-variables z))

  pub clauses_total : p * (l * 2 + 1) + (g + s * (n * 7)) + (k + (l + g) * (e * 2)) + f ≡ length (template kind patterns bits gates columns)
  clauses_total = rw (en, el, eg, ek, ep, es, ee, ef) (join (pairs (length patterns)) bits gates (selections bits gates) (length patterns) (length columns) (all_defined columns) (further_count kind bits patterns) ∙ sym (clauses_are kind z patterns columns refl asked.patterns_fit refl asked.columns_fit))
    where
      join : (p l g s n k e f : ℕ) → p * (l * 2 + 1) + (g + s * (n * 7)) + (k + (l + g) * (e * 2)) + f ≡ p * (l * 2 + 1) + ((g * 1 + s * (n * 7 + 0)) + ((k * 1 + (l + g) * (e * 2)) + f))
      join p l g s n k e f = omega arith

  pub literals_total : p * (l * 7) + s * (n * 34 + 1) + (k * (l + g) + (l + g) * (e * 6)) + f ≡ literals (template kind patterns bits gates columns)
  literals_total = rw (en, el, eg, ek, ep, es, ee, ef) (join (pairs (length patterns)) bits gates (selections bits gates) (length patterns) (length columns) (all_defined columns) (further_count kind bits patterns) ∙ sym (literals_are kind z patterns columns refl asked.patterns_fit refl asked.columns_fit))
    where
      join : (p l g s n k e f : ℕ) → p * (l * 7) + s * (n * 34 + 1) + (k * (l + g) + (l + g) * (e * 6)) + f ≡ p * (l * 6 + l) + ((g * 0 + s * (n * 34 + 1)) + ((k * (l + g) + (l + g) * (e * 6)) + f))
      join p l g s n k e f = omega arith
