-- The words of the command line: numbers, options, and what a command says of them.
use Rattle.std.proofs.Common.{◌≡◌, ◌≤◌, ◌<◌, ◌⊎◌, ℕ, suc, zero, List, [], ◌∷◌, Some, None, true, false, Bool, refl, sym, ◌∙◌, ap, subst, arith, inl, inr, if◌then◌else◌, length, ◌-◌, take, drop, get_or}
use Rattle.std.specs.Prelude.{Option, nat_le, option_and_then, option_map, unwrap_or}
use Rattle.std.specs.Fmt.{decimal}
use Rattle.std.specs.Str.{bytes_eq}
use Rattle.std.specs.Str.Parse.{digits_value}
use Rattle.std.proofs.lemmas.Bool.{and_parts}
use Rattle.std.proofs.lemmas.Bool.Decides.{nat_tests}
use Rattle.std.proofs.lemmas.Fmt.{decimal_is_IsNumeral}
use Rattle.std.proofs.lemmas.Option.{none-some, same_Some}
use Rattle.std.proofs.lemmas.Slice.Eq.{bytes_eq-Decides}
use Rattle.command_words.specs.declared.words.Command.{Command}
use Rattle.command_words.specs.declared.words.Command.TheVariants as command
use Rattle.command_words.specs.declared.words.SaidOptions.{SaidOptions}
use Rattle.command_words.specs.Words.{is_number_within, number_within, bits_in, budget_in, bits_alone, budget_alone, exact_alone, either_said, once_said, all_said, joined, unsaid, option_in, before, is_exact, options_in, without, without_exact, synth_of, synth_in, alone, cnf_over, cnf_of, cnf_in, solve_of, solve_in, command_of}
use Rattle.command_words.specs.Ranges.{MayBeSaid, MayBeNamed}

-- ---- numbers

value_is : (w : List ℕ) (n : ℕ) → n < 10000000000 → w ≡ decimal n → digits_value 10 w ≡ n
value_is w n few e = ap (digits_value 10) e ∙ (decimal_is_IsNumeral n (omega (arith, few))).1

-- what a test says of a number
tested : (least most : ℕ) (w : List ℕ) → is_number_within least most w ≡ true → (w ≡ decimal (digits_value 10 w)) × (least ≤ digits_value 10 w) × (digits_value 10 w ≤ most)
tested least most w t =
    let p = and_parts (bytes_eq w (decimal (digits_value 10 w))) _ t in
    let q = and_parts (nat_le least (digits_value 10 w)) (nat_le (digits_value 10 w) most) p.1 in
    ((bytes_eq-Decides w (decimal (digits_value 10 w))).0 p.0, grind (arith, nat_tests, q.0), grind (arith, nat_tests, q.1))

-- a number in range is said
pub number_found : (least most : ℕ) (w : List ℕ) (n : ℕ) → n < 10000000000 → w ≡ decimal n → least ≤ n → n ≤ most → number_within least most w ≡ Some n
number_found least most w n few e low high =
    let v : digits_value 10 w ≡ n = value_is w n few e in
    let same : bytes_eq w (decimal (digits_value 10 w)) ≡ true = (bytes_eq-Decides w (decimal (digits_value 10 w))).1 (e ∙ ap decimal (sym v)) in
    let above : nat_le least (digits_value 10 w) ≡ true = grind (arith, nat_tests, low, v) in
    let below : nat_le (digits_value 10 w) most ≡ true = grind (arith, nat_tests, high, v) in
    rw (same, above, below) (ap Some v)

-- what is no number in range says none
number_missed : (least most : ℕ) (w : List ℕ) → (w ≡ decimal (digits_value 10 w) → least ≤ digits_value 10 w → digits_value 10 w ≤ most → ⊥) → None ≡ number_within least most w
number_missed least most w none = by_test (is_number_within least most w) refl
  where
    by_test : (t : Bool) → is_number_within least most w ≡ t → None ≡ (if t then Some (digits_value 10 w) else None)
    by_test false e = refl
    by_test true e = let p = tested least most w e in absurd (none p.0 p.1 p.2)

pub number_outside : (least most : ℕ) (w : List ℕ) (n : ℕ) → n < 10000000000 → w ≡ decimal n → (n < least) ⊎ (most < n) → None ≡ number_within least most w
number_outside least most w n few e (inl low) = number_missed least most w (λ same above below. omega (arith, value_is w n few e, low, above))
number_outside least most w n few e (inr high) = number_missed least most w (λ same above below. omega (arith, value_is w n few e, high, below))

pub no_number : (least most : ℕ) (w : List ℕ) → most < 4294967296 → ((n : ℕ) → n < 10000000000 → w ≡ decimal n → ⊥) → None ≡ number_within least most w
no_number least most w few none = number_missed least most w (λ same above below. none (digits_value 10 w) (omega (arith, few, below)) same)

-- a number that is said lies in the range
pub said_within : (least most : ℕ) (w : List ℕ) (n : ℕ) → number_within least most w ≡ Some n → (least ≤ n) × (n ≤ most)
said_within least most w n = by_test (is_number_within least most w) refl
  where
    by_test : (t : Bool) → is_number_within least most w ≡ t → (if t then Some (digits_value 10 w) else None) ≡ Some n → (least ≤ n) × (n ≤ most)
    by_test false e f = absurd (none-some n f)
    by_test true e f =
        let p = tested least most w e in
        let same : digits_value 10 w ≡ n = same_Some (digits_value 10 w) n f in
        (omega (arith, p.1, same), omega (arith, p.2, same))

-- ---- options

-- options of equal parts are equal
same_said : (p q : Option (Option ℕ)) (r s : Option (Option ℕ)) (t u : Option Bool) → p ≡ q → r ≡ s → t ≡ u → all_said p r t ≡ all_said q s u
same_said p q r s t u bits budget exact = λ i. all_said (bits i) (budget i) (exact i)

-- nothing is joined to no options
pub joined_unsaid : (said : SaidOptions) → joined said unsaid ≡ Some said
joined_unsaid said = same_said _ _ _ _ _ _ (alone said.bits) (alone said.budget) (alone_exact said.exact)
  where
    alone : (o : Option ℕ) → either_said o None ≡ Some o
    alone None = refl
    alone (Some n) = refl

    alone_exact : (exact : Bool) → once_said exact false ≡ Some exact
    alone_exact false = refl
    alone_exact true = refl

no_budget : (bits : Option (Option ℕ)) (exact : Option Bool) → all_said bits None exact ≡ None
no_budget None exact = refl
no_budget (Some d) exact = refl

no_exact : (bits budget : Option (Option ℕ)) → all_said bits budget None ≡ None
no_exact None budget = refl
no_exact (Some d) None = refl
no_exact (Some d) (Some n) = refl

behind_all : (a : SaidOptions) (p q : Option (Option ℕ)) (r : Option Bool) →
    option_and_then (joined a) (all_said p q r) ≡ all_said (option_and_then (either_said a.bits) p) (option_and_then (either_said a.budget) q) (option_and_then (once_said a.exact) r)
behind_all a None q r = refl
behind_all a (Some d) None r = sym (no_budget (either_said a.bits d) (option_and_then (once_said a.exact) r))
behind_all a (Some d) (Some n) None = sym (no_exact (either_said a.bits d) (either_said a.budget n))
behind_all a (Some d) (Some n) (Some x) = refl

before_all : (c : SaidOptions) (p q : Option (Option ℕ)) (r : Option Bool) →
    option_and_then (λ s. joined s c) (all_said p q r) ≡ all_said (option_and_then (λ d. either_said d c.bits) p) (option_and_then (λ n. either_said n c.budget) q) (option_and_then (λ x. once_said x c.exact) r)
before_all c None q r = refl
before_all c (Some d) None r = sym (no_budget (either_said d c.bits) (option_and_then (λ x. once_said x c.exact) r))
before_all c (Some d) (Some n) None = sym (no_exact (either_said d c.bits) (either_said n c.budget))
before_all c (Some d) (Some n) (Some x) = refl

either_behind : (a b c : Option ℕ) → option_and_then (either_said a) (either_said b c) ≡ option_and_then (λ d. either_said d c) (either_said a b)
either_behind None None c = refl
either_behind None (Some n) None = refl
either_behind None (Some n) (Some m) = refl
either_behind (Some n) None None = refl
either_behind (Some n) None (Some m) = refl
either_behind (Some n) (Some m) None = refl
either_behind (Some n) (Some m) (Some k) = refl

once_behind : (a b c : Bool) → option_and_then (once_said a) (once_said b c) ≡ option_and_then (λ x. once_said x c) (once_said a b)
once_behind false false c = refl
once_behind false true false = refl
once_behind false true true = refl
once_behind true false false = refl
once_behind true false true = refl
once_behind true true false = refl
once_behind true true true = refl

-- options are joined in any order of steps
pub joined_behind : (a b : SaidOptions) (others : Option SaidOptions) → option_and_then (joined a) (option_and_then (joined b) others) ≡ option_and_then (λ s. option_and_then (joined s) others) (joined a b)
joined_behind a b None = sym (none (joined a b))
  where
    nothing : SaidOptions → Option SaidOptions
    nothing s = None

    none : (o : Option SaidOptions) → option_and_then nothing o ≡ None
    none None = refl
    none (Some s) = refl
joined_behind a b (Some c) =
    behind_all a (either_said b.bits c.bits) (either_said b.budget c.budget) (once_said b.exact c.exact)
    ∙ (same_said _ _ _ _ _ _ (either_behind a.bits b.bits c.bits) (either_behind a.budget b.budget c.budget) (once_behind a.exact b.exact c.exact)
    ∙ sym (before_all c (either_said a.bits b.bits) (either_said a.budget b.budget) (once_said a.exact b.exact)))

take_whole : {W : Type 0} (ws : List W) (n : ℕ) → n ≡ length ws → take n ws ≡ ws
take_whole [] zero e = refl
take_whole [] (suc n) e = refl
take_whole (w ∷ ws) zero e = absurd (omega (arith, e))
take_whole (w ∷ ws) (suc n) e = ap (λ us. w ∷ us) (take_whole ws n (omega (arith, e)))

-- what stands first is one word
pub same_first : {W : Type 0} (ws : List W) (a b : W) → 1 ≤ length ws → a ≡ get_or ws 0 a → b ≡ get_or ws 0 b → a ≡ b
same_first [] a b l first second = absurd (omega (arith, l))
same_first (x ∷ ws) a b l first second = first ∙ sym second

-- one word stands first
pub one_first : {W : Type 0} (ws : List W) (w : W) → 1 ≤ length ws → w ≡ get_or ws 0 w → ws ≡ w ∷ take (length ws - 1) (drop 1 ws)
one_first [] w l first = absurd (omega (arith, l))
one_first (x ∷ ws) w l first =
    let rest : take (length (x ∷ ws) - 1) ws ≡ ws = take_whole ws (length (x ∷ ws) - 1) (omega arith) in
    λ i. sym first i ∷ sym rest i

-- two words stand first
pub two_first : {W : Type 0} (ws : List W) (n v : W) → 2 ≤ length ws → n ≡ get_or ws 0 n → v ≡ get_or ws 1 v → ws ≡ n ∷ v ∷ take (length ws - 2) (drop 2 ws)
two_first [] n v l first second = absurd (omega (arith, l))
two_first (x ∷ []) n v l first second = absurd (omega (arith, l))
two_first (x ∷ y ∷ ws) n v l first second =
    let rest : take (length (x ∷ y ∷ ws) - 2) ws ≡ ws = take_whole ws (length (x ∷ y ∷ ws) - 2) (omega arith) in
    λ i. sym first i ∷ sym second i ∷ sym rest i

-- an option is joined before those behind it
joined_before : (a one both : SaidOptions) (others result : Option SaidOptions) → Some both ≡ joined a one → result ≡ option_and_then (joined both) others → result ≡ option_and_then (joined a) (before (Some one) others)
joined_before a one both others result all e = e ∙ (ap (option_and_then (λ s. option_and_then (joined s) others)) all ∙ sym (joined_behind a one others))

-- an option with its value is joined before the words behind it
pub options_joined : (a one both : SaidOptions) (name value : List ℕ) (words : List (List ℕ)) (result : Option SaidOptions) → is_exact name ≡ false → Some one ≡ option_in name value → Some both ≡ joined a one →
    result ≡ option_and_then (joined both) (options_in words) → result ≡ option_and_then (joined a) (options_in (name ∷ value ∷ words))
options_joined a one both name value words result other said all e =
    rw (other, sym said) (joined_before a one both (options_in words) result all e)

-- so is the word `--exact`
pub exact_first : (word : List ℕ) (words : List (List ℕ)) → is_exact word ≡ true → options_in (word ∷ words) ≡ before (Some exact_alone) (options_in words)
exact_first word [] e = rw e refl
exact_first word (value ∷ words) e = rw e refl

pub exact_joined : (a both : SaidOptions) (word : List ℕ) (words : List (List ℕ)) (result : Option SaidOptions) → is_exact word ≡ true → Some both ≡ joined a exact_alone →
    result ≡ option_and_then (joined both) (options_in words) → result ≡ option_and_then (joined a) (options_in (word ∷ words))
exact_joined a both word words result is all e =
    joined_before a exact_alone both (options_in words) result all e ∙ ap (option_and_then (joined a)) (sym (exact_first word words is))

-- a budget, where one is said, is from 1 to 8388608
abbrev MayBudget : Option ℕ → Type 0
MayBudget None = Unit {0}
MayBudget (Some budget) = (1 ≤ budget) × (budget ≤ 8388608)

abbrev MaySay : SaidOptions → Type 0
MaySay said = MayBeSaid 1 said.bits × MayBudget said.budget

either_may : (P : Option ℕ → Type 0) (a b c : Option ℕ) → P a → P b → either_said a b ≡ Some c → P c
either_may P None b c h k e = subst P (same_Some b c e) k
either_may P (Some n) None c h k e = subst P (same_Some (Some n) c e) h
either_may P (Some n) (Some m) c h k e = absurd (none-some c e)

joined_may : (a b c : SaidOptions) → MaySay a → MaySay b → joined a b ≡ Some c → MaySay c
joined_may a b c h k e = over (either_said a.bits b.bits) (either_said a.budget b.budget) (once_said a.exact b.exact) refl refl e
  where
    over : (p q : Option (Option ℕ)) (r : Option Bool) → either_said a.bits b.bits ≡ p → either_said a.budget b.budget ≡ q → all_said p q r ≡ Some c → MaySay c
    over None q r first second f = absurd (none-some c f)
    over (Some d) None r first second f = absurd (none-some c f)
    over (Some d) (Some n) None first second f = absurd (none-some c f)
    over (Some d) (Some n) (Some x) first second f =
        subst MaySay (same_Some (record { bits = d; budget = n; exact = x }) c f)
        (either_may (MayBeSaid 1) a.bits b.bits d h.0 k.0 first, either_may MayBudget a.budget b.budget n h.1 k.1 second)

option_may : (name value : List ℕ) (said : SaidOptions) → option_in name value ≡ Some said → MaySay said
option_may name value said e = named _ _ e
  where
    bits : (o : Option ℕ) → bits_in value ≡ o → option_map bits_alone o ≡ Some said → MaySay said
    bits None p f = absurd (none-some said f)
    bits (Some n) p f = subst MaySay (same_Some (bits_alone n) said f) (said_within 1 8 value n p, tt)

    budget : (o : Option ℕ) → budget_in value ≡ o → option_map budget_alone o ≡ Some said → MaySay said
    budget None p f = absurd (none-some said f)
    budget (Some n) p f = subst MaySay (same_Some (budget_alone n) said f) (tt, said_within 1 8388608 value n p)

    named : (t u : Bool) → (if t then option_map bits_alone (bits_in value) else (if u then option_map budget_alone (budget_in value) else None)) ≡ Some said → MaySay said
    named true u f = bits (bits_in value) refl f
    named false true f = budget (budget_in value) refl f
    named false false f = absurd (none-some said f)

before_may : (one others : Option SaidOptions) (said : SaidOptions) → ((a : SaidOptions) → one ≡ Some a → MaySay a) → ((b : SaidOptions) → others ≡ Some b → MaySay b) → before one others ≡ Some said → MaySay said
before_may None others said h k f = absurd (none-some said f)
before_may (Some a) None said h k f = absurd (none-some said f)
before_may (Some a) (Some b) said h k f = joined_may a b said (h a refl) (k b refl) f

either_way : (t : Bool) (x y : Option SaidOptions) (said : SaidOptions) → (x ≡ Some said → MaySay said) → (y ≡ Some said → MaySay said) → (if t then x else y) ≡ Some said → MaySay said
either_way true x y said h k f = h f
either_way false x y said h k f = k f

-- the options that words say, say 1 to 8 bits or none, and a budget from 1 to 8388608 or none
options_may : (words : List (List ℕ)) (said : SaidOptions) → options_in words ≡ Some said → MaySay said
options_may [] said e = subst MaySay (same_Some unsaid said e) (tt, tt)
options_may (word ∷ []) said e =
    either_way (is_exact word) (Some exact_alone) None said (λ f. subst MaySay (same_Some exact_alone said f) (tt, tt)) (λ f. absurd (none-some said f)) e
options_may (word ∷ value ∷ words) said e =
    either_way (is_exact word) (before (Some exact_alone) (options_in (value ∷ words))) (before (option_in word value) (options_in words)) said
    (λ f. before_may (Some exact_alone) (options_in (value ∷ words)) said (λ a p. subst MaySay (same_Some exact_alone a p) (tt, tt)) (λ o p. options_may (value ∷ words) o p) f)
    (λ f. before_may (option_in word value) (options_in words) said (λ a p. option_may word value a p) (λ o p. options_may words o p) f) e

-- ---- commands

-- a command where an option isn't said is that command
unsaid_is : (option : Option ℕ) (command : Option Command) (c : Command) → without option command ≡ Some c → command ≡ Some c
unsaid_is None command c f = f
unsaid_is (Some n) command c f = absurd (none-some c f)

inexact_is : (exact : Bool) (command : Option Command) (c : Command) → without_exact exact command ≡ Some c → command ≡ Some c
inexact_is false command c f = f
inexact_is true command c f = absurd (none-some c f)

-- the budget that is said, or the default one, may be said
settled : (budget : Option ℕ) → MayBudget budget → (1 ≤ unwrap_or budget 2000000) × (unwrap_or budget 2000000 ≤ 8388608)
settled None h = (omega arith, omega arith)
settled (Some budget) h = h

module _ (words : List (List ℕ)) (c : Command) where
  synth_may : synth_in words ≡ Some c → MayBeNamed c
  synth_may f = over (options_in words) refl f
    where
      over : (said : Option SaidOptions) → options_in words ≡ said → option_map synth_of said ≡ Some c → MayBeNamed c
      over None p f = absurd (none-some c f)
      over (Some said) p f =
          let may = options_may words said p in
          let budget = settled said.budget may.1 in
          subst MayBeNamed (same_Some (synth_of said) c f) (record { bits = may.0; some_budget = budget.0; few_budget = budget.1 })

  solve_may : solve_in words ≡ Some c → MayBeNamed c
  solve_may f = over (options_in words) refl f
    where
      over : (said : Option SaidOptions) → options_in words ≡ said → option_and_then solve_of said ≡ Some c → MayBeNamed c
      over None p f = absurd (none-some c f)
      over (Some said) p f =
          subst MayBeNamed (same_Some (command.Solve (unwrap_or said.budget 2000000)) c (unsaid_is said.bits _ c (inexact_is said.exact _ c f)))
          (settled said.budget (options_may words said p).1)

alone_may : (command : Command) → MayBeNamed command → (words : List (List ℕ)) (c : Command) → alone command words ≡ Some c → MayBeNamed c
alone_may command may [] c f = subst MayBeNamed (same_Some command c f) may
alone_may command may (word ∷ words) c f = absurd (none-some c f)

over_may : (gates : ℕ) (bits : Option ℕ) (c : Command) → gates ≤ 4096 → MayBeSaid 1 bits → cnf_over gates bits ≡ Some c → MayBeNamed c
over_may gates None c few may f = subst MayBeNamed (same_Some (command.Cnf (record { gates = gates; bits = None })) c f) (record { few_gates = few; bits = tt })
over_may gates (Some zero) c few may f = absurd (omega (arith, may.0))
over_may gates (Some (suc zero)) c few may f = absurd (none-some c f)
over_may gates (Some (suc (suc bits))) c few may f =
    subst MayBeNamed (same_Some (command.Cnf (record { gates = gates; bits = Some (suc (suc bits)) })) c f) (record { few_gates = few; bits = (omega arith, may.1) })

cnf_may : (words : List (List ℕ)) (c : Command) → cnf_in words ≡ Some c → MayBeNamed c
cnf_may [] c f = absurd (none-some c f)
cnf_may (word ∷ words) c f = over (number_within 0 4096 word) refl f
  where
    with_said : (gates : ℕ) (said : Option SaidOptions) → gates ≤ 4096 → options_in words ≡ said → option_and_then (cnf_of gates) said ≡ Some c → MayBeNamed c
    with_said gates None few p f = absurd (none-some c f)
    with_said gates (Some said) few p f = over_may gates said.bits c few (options_may words said p).0 (unsaid_is said.budget (cnf_over gates said.bits) c (inexact_is said.exact _ c f))

    over : (gates : Option ℕ) → number_within 0 4096 word ≡ gates → option_and_then (λ g. option_and_then (cnf_of g) (options_in words)) gates ≡ Some c → MayBeNamed c
    over None p f = absurd (none-some c f)
    over (Some gates) p f = with_said gates (options_in words) (said_within 0 4096 word gates p).1 refl f

-- what words name may be named
pub may_be_named : (words : List (List ℕ)) (c : Command) → command_of words ≡ Some c → MayBeNamed c
may_be_named [] c e = absurd (none-some c e)
may_be_named (word ∷ words) c e = named _ _ _ _ _ _ _ e
  where
    read : (check verilog : Bool) → (if check then alone command.Check words else (if verilog then alone command.Verilog words else None)) ≡ Some c → MayBeNamed c
    read true verilog f = alone_may command.Check tt words c f
    read false true f = alone_may command.Verilog tt words c f
    read false false f = absurd (none-some c f)

    named : (synth normal cnf lrat solve check verilog : Bool) →
        (if synth then synth_in words else (if normal then alone command.Normal words else (if cnf then cnf_in words else (if lrat then alone command.Lrat words
        else (if solve then solve_in words else (if check then alone command.Check words else (if verilog then alone command.Verilog words else None))))))) ≡ Some c → MayBeNamed c
    named true normal cnf lrat solve check verilog f = synth_may words c f
    named false true cnf lrat solve check verilog f = alone_may command.Normal tt words c f
    named false false true lrat solve check verilog f = cnf_may words c f
    named false false false true solve check verilog f = alone_may command.Lrat tt words c f
    named false false false false true check verilog f = solve_may words c f
    named false false false false false check verilog f = read check verilog f
