-- Signals and references are read exactly.
use Rattle.std.proofs.Common.{◌≡◌, ℕ, ◌<◌, ◌+◌, ◌-◌, ◌^◌, true, false, ltb, List, ◌∷◌, ◌++◌, Option, Some, None, refl, sym, ap, subst, ◌∙◌, arith, inl, inr, ◌⊎◌}
use Rattle.std.specs.Prelude.{codes}
use Rattle.std.specs.Fmt.{decimal}
use Rattle.std.specs.Str.{bytes_eq}
use Rattle.std.proofs.lemmas.Bool.{cases_lt, lt-ltb, le-ltb}
use Rattle.std.proofs.lemmas.List.Elements.{All-cons}
use Rattle.std.proofs.lemmas.Slice.Eq.{bytes_eq-Decides}
use Rattle.line_rows.specs.Words.{behind}
use Rattle.line_rows.proofs.Exact.{IsExact, exact-behind, exact-before, number_exact, behind_again, behind_takes, some_of, some_is, chosen, IsWord, is_blank, decimal_word}
use Rattle.cpog_defs.specs.declared.types.Ref.{Ref}
use Rattle.cpog_defs.specs.declared.types.Ref.TheVariants.{Const, Signal}
use Rattle.cpog_defs.specs.Gates.{IsRefOver}
use Rattle.netlist_verilog.specs.Wires.{signal_text, name_of}
use Rattle.netlist_verilog.specs.Formulas.{equation_row}
use Rattle.netlist_verilog.specs.Equations.{condition_equation}
use Rattle.module_reader.specs.Reading.{signal_from, signal_in, reference_from, reference_in, condition_in}

abbrev pub reference_text : ℕ → Ref → List ℕ
reference_text inputs (Const false) = codes "1'b0"
reference_text inputs (Const true) = codes "1'b1"
reference_text inputs (Signal n false) = signal_text inputs n
reference_text inputs (Signal n true) = codes "~" ++ signal_text inputs n

no_x : (digits : List ℕ) → behind (codes "x") (codes "g" ++ digits) ≡ None
unfolding behind
no_x digits = refl

signal_takes : (inputs gates : ℕ) → inputs + gates < 2 ^ 32 → (word : List ℕ) (a b : Option (List ℕ)) (n : ℕ) → a ≡ behind (codes "x") word → b ≡ behind (codes "g") word → signal_from inputs gates a b ≡ Some n → (n < inputs + gates) × (word ≡ signal_text inputs n)
signal_takes inputs gates small word (Some digits) b n ea eb e =
    let t = (number_exact inputs (omega arith)).takes digits n e in
    let lt : ltb n inputs ≡ true = lt-ltb n inputs t.0 in
    (omega (arith, t.0), behind_takes (codes "x") word digits (sym ea) ∙ rw (lt, ← t.1) refl)
signal_takes inputs gates small word None (Some digits) n ea eb e =
    let s = some_of _ _ n e in
    let t = (number_exact gates (omega arith)).takes digits s.0 s.1 in
    let m : inputs + s.0 ≡ n = some_is _ _ s.2 in
    let le : ltb n inputs ≡ false = le-ltb n inputs (omega (arith, m)) in
    let back : n - inputs ≡ s.0 = omega (arith, m) in
    (omega (arith, t.0, m), behind_takes (codes "g") word digits (sym eb) ∙ rw (le, back, ← t.1) refl)
signal_takes inputs gates small word None None n ea eb e = absurd cc

pub signal_exact : (inputs gates : ℕ) → inputs + gates < 2 ^ 32 → IsExact (λ n. n < inputs + gates) (signal_text inputs) (signal_in inputs gates)
unfolding signal_in
signal_exact inputs gates small = record {
  again = λ n lt. elim (cases_lt n inputs) [
    | inl l ↦
        let t : ltb n inputs ≡ true = lt-ltb n inputs l in
        rw (t, behind_again (codes "x") (decimal n)) ((number_exact inputs (omega arith)).again n l)
    | inr g ↦
        let t : ltb n inputs ≡ false = le-ltb n inputs g in
        let sum : inputs + (n - inputs) ≡ n = omega arith in
        rw (t, no_x (decimal (n - inputs)), behind_again (codes "g") (decimal (n - inputs)), (number_exact gates (omega arith)).again (n - inputs) (omega arith), sum) refl
  ];
  takes = λ word n e. signal_takes inputs gates small word _ _ n refl refl e;
}

-- a signal's name is no constant, and no complement
signal_head : (inputs n : ℕ) → (b : ℕ) × (t : List ℕ) × (signal_text inputs n ≡ b ∷ t) × ((b ≡ 120) ⊎ (b ≡ 103))
signal_head inputs n = elim (cases_lt n inputs) [
  | inl l ↦ let t : ltb n inputs ≡ true = lt-ltb n inputs l in (120, decimal n, rw t refl, inl refl)
  | inr g ↦ let t : ltb n inputs ≡ false = le-ltb n inputs g in (103, decimal (n - inputs), rw t refl, inr refl)
]

record Plain (word : List ℕ) : Type 0 where
  not_zero : bytes_eq word (codes "1'b0") ≡ false
  not_one : bytes_eq word (codes "1'b1") ≡ false
  not_negated : behind (codes "~") word ≡ None

plain : (b : ℕ) (t : List ℕ) → ((b ≡ 120) ⊎ (b ≡ 103)) → Plain (b ∷ t)
unfolding behind
plain b t (inl e) = subst (λ (x : ℕ). Plain (x ∷ t)) (sym e) (record { not_zero = refl; not_one = refl; not_negated = refl })
plain b t (inr e) = subst (λ (x : ℕ). Plain (x ∷ t)) (sym e) (record { not_zero = refl; not_one = refl; not_negated = refl })

signal_plain : (inputs n : ℕ) → Plain (signal_text inputs n)
signal_plain inputs n = let h = signal_head inputs n in subst Plain (sym h.2) (plain h.0 h.1 h.3)

reference_again : (inputs gates : ℕ) → inputs + gates < 2 ^ 32 → (r : Ref) → IsRefOver (inputs + gates) r → reference_in inputs gates (reference_text inputs r) ≡ Some r
unfolding reference_in
reference_again inputs gates small (Const false) fits = refl
reference_again inputs gates small (Const true) fits = refl
reference_again inputs gates small (Signal n false) fits =
    let p = signal_plain inputs n in
    rw (p.not_zero, p.not_one, p.not_negated, (signal_exact inputs gates small).again n fits) refl
reference_again inputs gates small (Signal n true) fits =
    rw (behind_again (codes "~") (signal_text inputs n), (signal_exact inputs gates small).again n fits) refl

reference_from_takes : (inputs gates : ℕ) → inputs + gates < 2 ^ 32 → (word : List ℕ) (a : Option (List ℕ)) (r : Ref) → a ≡ behind (codes "~") word → reference_from inputs gates word a ≡ Some r → IsRefOver (inputs + gates) r × (word ≡ reference_text inputs r)
reference_from_takes inputs gates small word (Some w) r ea e =
    let s = some_of (signal_in inputs gates w) (λ n. Some (Signal n true)) r e in
    let t = (signal_exact inputs gates small).takes w s.0 s.1 in
    subst (λ (x : Ref). IsRefOver (inputs + gates) x × (word ≡ reference_text inputs x)) (some_is (Signal s.0 true) r s.2) (t.0, behind_takes (codes "~") word w (sym ea) ∙ ap (λ (x : List ℕ). codes "~" ++ x) t.1)
reference_from_takes inputs gates small word None r ea e =
    let s = some_of (signal_in inputs gates word) (λ n. Some (Signal n false)) r e in
    let t = (signal_exact inputs gates small).takes word s.0 s.1 in
    subst (λ (x : Ref). IsRefOver (inputs + gates) x × (word ≡ reference_text inputs x)) (some_is (Signal s.0 false) r s.2) (t.0, t.1)

pub reference_exact : (inputs gates : ℕ) → inputs + gates < 2 ^ 32 → IsExact (IsRefOver (inputs + gates)) (reference_text inputs) (reference_in inputs gates)
unfolding reference_in
reference_exact inputs gates small = record {
  again = reference_again inputs gates small;
  takes = λ word r e.
      let P : Ref → Type 0 = λ x. IsRefOver (inputs + gates) x × (word ≡ reference_text inputs x) in
      elim (chosen (bytes_eq word (codes "1'b0")) (Const false) _ r e) [
        | inl z ↦ subst P z.1 (tt, (bytes_eq-Decides word (codes "1'b0")).0 z.0)
        | inr z ↦ elim (chosen (bytes_eq word (codes "1'b1")) (Const true) _ r z.1) [
          | inl y ↦ subst P y.1 (tt, (bytes_eq-Decides word (codes "1'b1")).0 y.0)
          | inr y ↦ reference_from_takes inputs gates small word _ r refl y.1
        ]
      ];
}

-- as the writer's definition says it
pub exact-same : {V : Type 0} {Fits : V → Type 0} {text : V → List ℕ} (other : V → List ℕ) {read : List ℕ → Option V} → ((v : V) → Fits v → text v ≡ other v) → IsExact Fits text read → IsExact Fits other read
exact-same other {read = read} same exact = record {
  again = λ v fits. ap read (sym (same v fits)) ∙ exact.again v fits;
  takes = λ bytes v e. let t = exact.takes bytes v e in (t.0, t.1 ∙ same v t.0);
}

abbrev pub condition_text : ℕ → List (List ℕ) → ℕ → Ref → List ℕ
condition_text inputs names v r = equation_row inputs names (condition_equation v r)

pub condition_same : (inputs : ℕ) (names : List (List ℕ)) (v : ℕ) (r : Ref) → codes "  assign c_" ++ (name_of names v ++ (codes " = " ++ (reference_text inputs r ++ codes ";"))) ≡ condition_text inputs names v r
condition_same inputs names v (Const false) = refl
condition_same inputs names v (Const true) = refl
condition_same inputs names v (Signal n false) = refl
condition_same inputs names v (Signal n true) = refl

pub condition_exact : (inputs gates : ℕ) (names : List (List ℕ)) (v : ℕ) → inputs + gates < 2 ^ 32 → IsExact (IsRefOver (inputs + gates)) (condition_text inputs names v) (condition_in inputs gates (name_of names v))
unfolding condition_in
condition_exact inputs gates names v small =
    exact-same (condition_text inputs names v) (λ r _. condition_same inputs names v r)
    (exact-behind (codes "  assign c_") (exact-behind (name_of names v) (exact-behind (codes " = ") (exact-before (codes ";") (reference_exact inputs gates small)))))

pub signal_word : (inputs gates : ℕ) → inputs + gates < 2 ^ 32 → IsWord (λ n. n < inputs + gates) (signal_text inputs)
signal_word inputs gates small = record {
  no_blank = λ n lt. elim (cases_lt n inputs) [
    | inl l ↦ let t : ltb n inputs ≡ true = lt-ltb n inputs l in rw t (All-cons (λ b. is_blank b ≡ false) 120 (decimal n) refl ((decimal_word inputs (omega arith)).no_blank n l))
    | inr g ↦ let t : ltb n inputs ≡ false = le-ltb n inputs g in rw t (All-cons (λ b. is_blank b ≡ false) 103 (decimal (n - inputs)) refl ((decimal_word gates (omega arith)).no_blank (n - inputs) (omega arith)))
  ];
}
