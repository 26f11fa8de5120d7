-- No wire of a module is called as a keyword.
use Rattle.std.proofs.Common.{◌≡◌, ℕ, ◌-◌, ◌^◌, ◌<◌, eqb, Bool, true, false, not, ◌&&◌, ◌||◌, List, [], ◌∷◌, ◌++◌, get_or, refl, sym, ap, ◌∙◌, inl, inr, arith}
use Rattle.std.specs.Prelude.{nat_le, codes}
use Rattle.std.specs.List.{list_all, list_any}
use Rattle.std.specs.Fmt.{decimal}
use Rattle.std.specs.Int.{IsInRange}
use Rattle.std.specs.Str.{bytes_eq}
use Rattle.std.specs.Str.Parse.{IsNumeral}
use Rattle.std.proofs.lemmas.Bool.{and_parts, and_from, le-leb}
use Rattle.std.proofs.lemmas.Fmt.{decimal_is_IsNumeral}
use Rattle.std.proofs.lemmas.List.{append-nil}
use Rattle.std.proofs.lemmas.Slice.Eq.{bytes_eq-Decides}
use Rattle.std.proofs.lemmas.Str.Parse.{digit_from_value}
use Rattle.line_text.proofs.TellingLemmas.{or-true_left}
use Rattle.netlist_verilog.specs.Module.{ModuleValue, IsModule, IsWireOf, called}
use Rattle.netlist_verilog.specs.Wires.{Wire, Signal, Go, Acknowledge, Request, Done, Idle, Condition, ArcCondition}
use Rattle.netlist_verilog.specs.Keywords.{verilog_keywords, is_verilog_keyword}
use Rattle.netlist_verilog.proofs.WordLemmas.{signal_cases}
use Rattle.netlist_verilog.proofs.CallingLemmas.{signal_fits}

-- whether the second byte is a digit or `_`, which it is in no keyword
abbrev is_marked : List ℕ → Bool
is_marked word = (nat_le 48 (get_or word 1 0) && nat_le (get_or word 1 0) 57) || eqb (get_or word 1 0) 95

none_alike : (p : List ℕ → Bool) (word : List ℕ) (ks : List (List ℕ)) → p word ≡ true → list_all (λ k. not (p k)) ks ≡ true → list_any (bytes_eq word) ks ≡ false
none_alike p word [] h each = refl
none_alike p word (k ∷ ks) h each = let t =
    and_parts (not (p k)) (list_all (λ x. not (p x)) ks) each in
    rw (differ (bytes_eq word k) ((bytes_eq-Decides word k).0) (p k) refl t.0) (none_alike p word ks h t.1)
  where
    differ : (b : Bool) → (b ≡ true → word ≡ k) → (c : Bool) → p k ≡ c → not c ≡ true → b ≡ false
    differ false told c e n = refl
    differ true told true e n = cc
    differ true told false e n = let t : true ≡ false = sym h ∙ ap p (told refl) ∙ e in absurd cc

marked_free : (word : List ℕ) → is_marked word ≡ true → is_verilog_keyword word ≡ false
marked_free word h = none_alike is_marked word verilog_keywords h refl

-- a letter before a number
number_marked : (b : ℕ) (ds x : List ℕ) → IsNumeral 10 ds → is_marked (b ∷ (ds ++ x)) ≡ true
number_marked b [] x h = absurd (omega (arith, h.0))
number_marked b (d ∷ ds) x h = digit (digit_from_value d h.1.0)
  where
    digit : IsInRange 48 57 d → is_marked (b ∷ ((d ∷ ds) ++ x)) ≡ true
    digit r = or-true_left _ _ (and_from (nat_le 48 d) (nat_le d 57) (le-leb 48 d r.0) (le-leb d 57 r.1))

decimal_marked : (b n : ℕ) → n < 2 ^ 64 → is_marked (b ∷ decimal n) ≡ true
decimal_marked b n lt = ap (λ (w : List ℕ). is_marked (b ∷ w)) (sym (append-nil (decimal n))) ∙ number_marked b (decimal n) [] (decimal_is_IsNumeral n lt).0

pub no_keyword : (m : ModuleValue) (w : Wire) → IsModule m → IsWireOf m w → is_verilog_keyword (called m w) ≡ false
no_keyword m (Signal n) is own = elim (signal_cases m.netlist.gates.inputs n) [
  | inl h ↦ marked_free (called m (Signal n)) (ap is_marked h.1 ∙ decimal_marked 120 n (signal_fits m n is own))
  | inr h ↦ marked_free (called m (Signal n)) (ap is_marked h.1 ∙ decimal_marked 103 (n - m.netlist.gates.inputs) (let fits = signal_fits m n is own in omega (arith, fits)))
]
no_keyword m Go is own = refl
no_keyword m (Acknowledge v) is own = marked_free (called m (Acknowledge v)) refl
no_keyword m (Request v) is own = marked_free (called m (Request v)) refl
no_keyword m Done is own = refl
no_keyword m Idle is own = refl
no_keyword m (Condition v) is own = marked_free (called m (Condition v)) refl
no_keyword m (ArcCondition u v) is own =
    marked_free (called m (ArcCondition u v))
    (number_marked 101 (decimal u) (codes "_" ++ decimal v)
    (decimal_is_IsNumeral u (omega (arith, own.0, is.netlist.few))).0)
