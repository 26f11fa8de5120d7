-- The line of an equation is spelled as its assignment.
use Rattle.std.proofs.Common.{◌≡◌, ◌≢◌, ℕ, List, [], ◌∷◌, ◌++◌, sym, ap, ◌∙◌, arith, append_assoc, subst, refl, Option, None, Some}
use Rattle.std.specs.Prelude.{codes}
use Rattle.std.specs.List.{AllByRecursion}
use Rattle.line_text.specs.Words.{continues_name}
use Rattle.line_text.proofs.TellingLemmas.{AllPass, apart, or-true_left}
use Rattle.netlist_verilog.specs.Module.{ModuleValue, IsModule, IsWireOf, called}
use Rattle.netlist_verilog.specs.Wires.{Wire}
use Rattle.netlist_verilog.specs.Formulas.{NamesOnly, Equation, comment_text, equation_row}
use Rattle.netlist_verilog.specs.Grammar.{Token, name, assign, equals, semicolon, HoldsNoEnd, nothing, Spells, tokens, IsAssignment}
use Rattle.netlist_verilog.specs.Laws.{IsEquationOf}
use Rattle.netlist_verilog.proofs.ValueLemmas.{parts_joined}
use Rattle.netlist_verilog.proofs.SpellingLemmas.{letters, wire_token, Ends, blank_ends, semicolon_ends, after_blank, after_comment, before, text, top, level, expression, spelled, topped, whole_formula}

abbrev IsUnstarred : ℕ → Type 0
IsUnstarred b = b ≢ 42

blank_unstarred : IsUnstarred 32
blank_unstarred e = omega (arith, e)

no_end : (bs : List ℕ) → AllByRecursion IsUnstarred bs → HoldsNoEnd bs
no_end [] h = tt
no_end (b ∷ bs) h = (λ e. absurd (h.0 e), no_end bs h.1)

name_unstarred : (w : List ℕ) → AllPass continues_name w → AllByRecursion IsUnstarred w
name_unstarred [] h = tt
name_unstarred (b ∷ bs) h = (λ e. apart (continues_name b) (continues_name 42) h.0 refl (ap continues_name e), name_unstarred bs h.1)

called_unstarred : (m : ModuleValue) (w : Wire) → IsModule m → IsWireOf m w → AllByRecursion IsUnstarred (called m w)
called_unstarred m w is own = let l = letters m w is own in subst (AllByRecursion IsUnstarred) (sym l.whole) (name_unstarred (l.first ∷ l.rest) (or-true_left _ _ l.begins, l.goes_on))

-- what stands behind a formula in its line
record IsEnd (m : ModuleValue) (rest : List ℕ) : Type 0 where
  ends : Ends rest
  spells : Spells m (semicolon ∷ []) rest

plain_end : (m : ModuleValue) → IsEnd m (59 ∷ [])
plain_end m = record { ends = semicolon_ends []; spells = before m semicolon [] [] tt tt (nothing, tt, refl) }

line_end : (m : ModuleValue) (c : Option (Wire × Wire)) → IsModule m → NamesOnly (IsWireOf m) c → IsEnd m (comment_text m.netlist.gates.inputs m.names c ++ codes ";")
line_end m None is h = plain_end m
line_end m (Some both) is h =
    let p = called m both.0 in
    let q = called m both.1 in
    let bytes : List ℕ = 32 ∷ (p ++ 32 ∷ (q ++ 32 ∷ [])) in
    let free : HoldsNoEnd bytes =
    no_end bytes (
      blank_unstarred,
      parts_joined IsUnstarred p (32 ∷ (q ++ 32 ∷ []))
          (called_unstarred m both.0 is h.0) (
            blank_unstarred,
            parts_joined IsUnstarred q (32 ∷ []) (called_unstarred m both.1 is h.1) (blank_unstarred, tt),
          ),
    ) in
    let same : bytes ++ 42 ∷ 47 ∷ 59 ∷ [] ≡ 32 ∷ ((p ++ 32 ∷ (q ++ 32 ∷ 42 ∷ 47 ∷ [])) ++ 59 ∷ []) =
    ap (λ (x : List ℕ). 32 ∷ x) (append_assoc p (32 ∷ (q ++ 32 ∷ [])) (42 ∷ 47 ∷ 59 ∷ [])
    ∙ ap (λ (x : List ℕ). p ++ 32 ∷ x) (append_assoc q (32 ∷ []) (42 ∷ 47 ∷ 59 ∷ [])
    ∙ sym (append_assoc q (32 ∷ 42 ∷ 47 ∷ []) (59 ∷ [])))
    ∙ sym (append_assoc p (32 ∷ (q ++ 32 ∷ 42 ∷ 47 ∷ [])) (59 ∷ []))) in
    record {
      ends = blank_ends (47 ∷ 42 ∷ (32 ∷ ((p ++ 32 ∷ (q ++ 32 ∷ 42 ∷ 47 ∷ [])) ++ 59 ∷ [])));
      spells =
          after_blank m (semicolon ∷ []) (47 ∷ 42 ∷ (32 ∷ ((p ++ 32 ∷ (q ++ 32 ∷ 42 ∷ 47 ∷ [])) ++ 59 ∷ [])))
          (subst (λ (x : List ℕ). Spells m (semicolon ∷ []) (47 ∷ 42 ∷ x)) same
          (after_comment m bytes (semicolon ∷ []) (59 ∷ []) free (plain_end m).spells));
    }

pub equation_read : (m : ModuleValue) (e : Equation) → IsModule m → IsEquationOf m e → IsAssignment m (equation_row m.netlist.gates.inputs m.names e) e.wire e.formula
equation_read m e is own =
    let f = e.formula in
    let xs : List Token = tokens (top (level f) (expression f)) ++ semicolon ∷ [] in
    let back : List ℕ = comment_text m.netlist.gates.inputs m.names e.comment ++ codes ";" in
    let end = line_end m e.comment is own.named in
    let right : Spells m xs (text m f ++ back) =
    subst (λ (ts : List Token). Spells m (ts ++ semicolon ∷ []) (text m f ++ back)) (sym (topped (level f) (expression f))) (spelled m f is own.read (semicolon ∷ []) back end.ends end.spells) in
    let sign : Spells m (equals ∷ xs) (61 ∷ 32 ∷ (text m f ++ back)) =
    before m equals xs (32 ∷ (text m f ++ back)) tt (blank_ends (text m f ++ back) equals)
    (after_blank m xs (text m f ++ back) right) in
    let wire : Spells m (name e.wire ∷ equals ∷ xs) (called m e.wire ++ 32 ∷ 61 ∷ 32 ∷ (text m f ++ back)) =
    before m (name e.wire) (equals ∷ xs) (32 ∷ 61 ∷ 32 ∷ (text m f ++ back)) (wire_token m e.wire is own.assigned)
    (blank_ends (61 ∷ 32 ∷ (text m f ++ back)) (name e.wire))
    (after_blank m (equals ∷ xs) (61 ∷ 32 ∷ (text m f ++ back)) sign) in
    let left : List ℕ = called m e.wire ++ 32 ∷ 61 ∷ 32 ∷ (text m f ++ back) in
    let word : Spells m (assign ∷ name e.wire ∷ equals ∷ xs) (codes "assign" ++ 32 ∷ left) =
    before m assign (name e.wire ∷ equals ∷ xs) (32 ∷ left) tt (blank_ends left assign)
    (after_blank m (name e.wire ∷ equals ∷ xs) left wire) in (
      top (level f) (expression f),
      after_blank m (assign ∷ name e.wire ∷ equals ∷ xs) (32 ∷ (codes "assign" ++ 32 ∷ left)) (after_blank m (assign ∷ name e.wire ∷ equals ∷ xs) (codes "assign" ++ 32 ∷ left) word),
      whole_formula f,
    )
