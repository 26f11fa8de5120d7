-- The text of a formula is spelled as an expression whose formula it is.
use Rattle.std.proofs.Common.{◌≡◌, ℕ, ◌-◌, eqb, Bool, true, false, not, cond, ◌||◌, List, [], ◌∷◌, ◌++◌, refl, sym, ap, ap₂, ◌∙◌, inl, inr, arith, append_assoc, subst}
use Rattle.std.specs.Prelude.{codes, nat_lt, if◌then◌else◌}
use Rattle.std.specs.List.{list_all}
use Rattle.std.specs.Fmt.{decimal}
use Rattle.std.proofs.lemmas.Bool.{and_from}
use Rattle.std.proofs.lemmas.List.{append-nil}
use Rattle.line_text.specs.Words.{begins_name, continues_name}
use Rattle.line_text.proofs.TellingLemmas.{AllPass, AllPass-append, decimal_continues, or-true_left}
use Rattle.netlist_verilog.specs.Module.{ModuleValue, IsModule, IsWireOf, called}
use Rattle.netlist_verilog.specs.Wires.{Wire, Signal, Go, Acknowledge, Request, Done, Idle, Condition, ArcCondition, name_of}
use Rattle.netlist_verilog.specs.Formulas.{Formula, Bit, Read, Not, And, Xor, Or, ReadsOnly, tightness, grouped, formula_text}
use Rattle.netlist_verilog.specs.Keywords.{is_verilog_keyword}
use Rattle.netlist_verilog.specs.Grammar.{Operator, and, xor, or, Token, name, bit, tilde, operator, opening, closing, assign, equals, semicolon, token_text, continues_identifier, is_identifier, IsTokenOf, lengthens, is_blank, NoneFirst, Spells, Level, primary, unary, row, Expression, named, constant, group, plain, negated, single, joined, tokens, formula, IsReadAs, HoldsNoEnd, nothing, blank, comment, gap_text}
use Rattle.netlist_verilog.proofs.FeedLemmas.{names_pass, name_passes}
use Rattle.netlist_verilog.proofs.WordLemmas.{signal_cases}
use Rattle.netlist_verilog.proofs.CallingLemmas.{signal_fits}
use Rattle.netlist_verilog.proofs.KeywordLemmas.{no_keyword}

-- ---- wires are called by identifiers

abbrev is_sign : ℕ → Bool
is_sign b = eqb b 49 || (eqb b 126 || (eqb b 38 || (eqb b 94 || (eqb b 124 || (eqb b 40 || (eqb b 41 || (eqb b 61 || eqb b 59)))))))

-- letters begin a name, and each other byte a token of its own
abbrev pub kind_at : ℕ → ℕ
kind_at b = if is_sign b then b else 0

-- the first letter of a wire, and the rest
pub record Letters (text : List ℕ) : Type 0 where
  pub first : ℕ
  pub rest : List ℕ
  pub whole : text ≡ first ∷ rest
  pub begins : begins_name first ≡ true
  pub goes_on : AllPass continues_name rest
  pub not_after_tilde : lengthens tilde first ≡ false
  pub not_after_opening : lengthens opening first ≡ false
  pub kind_is : kind_at first ≡ 0
  pub is_no_blank : is_blank first ≡ false
  pub is_no_slash : eqb first 47 ≡ false

name_letters : (m : ModuleValue) (v b : ℕ) → IsModule m → begins_name b ≡ true → lengthens tilde b ≡ false →
    lengthens opening b ≡ false → kind_at b ≡ 0 → is_blank b ≡ false → eqb b 47 ≡ false →
    Letters (b ∷ 95 ∷ name_of m.names v)
name_letters m v b is begins tilde' opening' kind' blank' slash' =
    record {
      first = b;
      rest = 95 ∷ name_of m.names v;
      whole = refl;
      begins = begins;
      goes_on = (
        refl,
        name_passes m.names v (names_pass m.names is.names),
      );
      not_after_tilde = tilde';
      not_after_opening = opening';
      kind_is = kind';
      is_no_blank = blank';
      is_no_slash = slash';
    }

pub letters : (m : ModuleValue) (w : Wire) → IsModule m → IsWireOf m w → Letters (called m w)
letters m (Signal n) is lt = elim (signal_cases m.netlist.gates.inputs n) [
  | inl h ↦ record {
    first = 120;
    rest = decimal n;
    whole = h.1;
    begins = refl;
    goes_on = decimal_continues n
        (signal_fits m n is lt);
    not_after_tilde = refl;
    not_after_opening = refl;
    kind_is = refl;
    is_no_blank = refl;
    is_no_slash = refl;
  }
  | inr h ↦ record {
    first = 103;
    rest = decimal
        (n - m.netlist.gates.inputs);
    whole = h.1;
    begins = refl;
    goes_on = decimal_continues (n - m.netlist.gates.inputs) (let fits = signal_fits m n is lt in
        omega (arith, fits));
    not_after_tilde = refl;
    not_after_opening = refl;
    kind_is = refl;
    is_no_blank = refl;
    is_no_slash = refl;
  }
]
letters m Go is lt =
    record {
      first = 103;
      rest = codes "o";
      whole = refl;
      begins = refl;
      goes_on = (
        refl,
        tt,
      );
      not_after_tilde = refl;
      not_after_opening = refl;
      kind_is = refl;
      is_no_blank = refl;
      is_no_slash = refl;
    }
letters m (Acknowledge v) is lt = name_letters m v 97 is refl refl refl refl refl refl
letters m (Request v) is lt = name_letters m v 114 is refl refl refl refl refl refl
letters m Done is lt =
    record {
      first = 100;
      rest = codes "one";
      whole = refl;
      begins = refl;
      goes_on = (
        refl,
        (refl, (refl, tt)),
      );
      not_after_tilde = refl;
      not_after_opening = refl;
      kind_is = refl;
      is_no_blank = refl;
      is_no_slash = refl;
    }
letters m Idle is lt =
    record {
      first = 105;
      rest = codes "dle";
      whole = refl;
      begins = refl;
      goes_on = (
        refl,
        (refl, (refl, tt)),
      );
      not_after_tilde = refl;
      not_after_opening = refl;
      kind_is = refl;
      is_no_blank = refl;
      is_no_slash = refl;
    }
letters m (Condition v) is lt = name_letters m v 99 is refl refl refl refl refl refl
letters m (ArcCondition u v) is lt = record {
  first = 101;
  rest = decimal u ++ (codes "_" ++ decimal v);
  whole = refl;
  begins = refl;
  goes_on =
      AllPass-append continues_name (decimal u) (codes "_" ++ decimal v)
      (decimal_continues u (omega (arith, lt.0, is.netlist.few)))
      (refl, decimal_continues v (omega (arith, lt.1, is.netlist.few)));
  not_after_tilde = refl;
  not_after_opening = refl;
  kind_is = refl;
  is_no_blank = refl;
  is_no_slash = refl;
}

all_continue : (w : List ℕ) → AllPass continues_name w → list_all continues_identifier w ≡ true
all_continue [] h = refl
all_continue (b ∷ bs) h = and_from (continues_identifier b) (list_all continues_identifier bs) (or-true_left (continues_name b) _ h.0) (all_continue bs h.1)

pub wire_token : (m : ModuleValue) (w : Wire) → IsModule m → IsWireOf m w → IsTokenOf m (name w)
wire_token m w is own =
    let l = letters m w is own in
    let free : not (is_verilog_keyword (l.first ∷ l.rest)) ≡ true = ap not (ap is_verilog_keyword (sym l.whole) ∙ no_keyword m w is own) in
    (own, ap is_identifier l.whole ∙ and_from (begins_name l.first) _ l.begins (and_from (list_all continues_identifier l.rest) _ (all_continue l.rest l.goes_on) free))

-- ---- one token more

-- no token goes on in these bytes
abbrev pub Ends : List ℕ → Type 0
Ends rest = (t : Token) → NoneFirst (lengthens t) rest

pub blank_ends : (r : List ℕ) → Ends (32 ∷ r)
blank_ends r (name w) = refl
blank_ends r (bit b) = refl
blank_ends r tilde = refl
blank_ends r (operator and) = refl
blank_ends r (operator xor) = refl
blank_ends r (operator or) = refl
blank_ends r opening = refl
blank_ends r closing = refl
blank_ends r assign = refl
blank_ends r equals = refl
blank_ends r semicolon = refl

closing_ends : (r : List ℕ) → Ends (41 ∷ r)
closing_ends r (name w) = refl
closing_ends r (bit b) = refl
closing_ends r tilde = refl
closing_ends r (operator and) = refl
closing_ends r (operator xor) = refl
closing_ends r (operator or) = refl
closing_ends r opening = refl
closing_ends r closing = refl
closing_ends r assign = refl
closing_ends r equals = refl
closing_ends r semicolon = refl

pub semicolon_ends : (r : List ℕ) → Ends (59 ∷ r)
semicolon_ends r (name w) = refl
semicolon_ends r (bit b) = refl
semicolon_ends r tilde = refl
semicolon_ends r (operator and) = refl
semicolon_ends r (operator xor) = refl
semicolon_ends r (operator or) = refl
semicolon_ends r opening = refl
semicolon_ends r closing = refl
semicolon_ends r assign = refl
semicolon_ends r equals = refl
semicolon_ends r semicolon = refl

pub after_blank : (m : ModuleValue) (ts : List Token) (text : List ℕ) → Spells m ts text → Spells m ts (32 ∷ text)
after_blank m [] text s = (blank 32 s.0, (refl, s.1), ap (λ (x : List ℕ). 32 ∷ x) s.2)
after_blank m (t ∷ ts) text s = (s.0, record { known = s.1.known; gap = blank 32 s.1.gap; is_gap = (refl, s.1.is_gap); whole = ap (λ (x : List ℕ). 32 ∷ x) s.1.whole; ends = s.1.ends }, s.2)

pub after_comment : (m : ModuleValue) (bytes : List ℕ) (ts : List Token) (text : List ℕ) → HoldsNoEnd bytes → Spells m ts text → Spells m ts (47 ∷ 42 ∷ (bytes ++ 42 ∷ 47 ∷ text))
after_comment m bytes [] text h s = (comment bytes s.0, (h, s.1), ap (λ (x : List ℕ). 47 ∷ 42 ∷ (bytes ++ 42 ∷ 47 ∷ x)) s.2)
after_comment m bytes (t ∷ ts) text h s = (
  s.0,
  record {
    known = s.1.known;
    gap = comment bytes s.1.gap;
    is_gap = (h, s.1.is_gap);
    whole = ap
        (λ (x : List ℕ). 47 ∷ 42 ∷ (bytes ++ 42 ∷ 47 ∷ x)) s.1.whole
        ∙ ap (λ (x : List ℕ). 47 ∷ 42 ∷ x) (sym (append_assoc bytes (42 ∷ 47 ∷ gap_text s.1.gap) _));
    ends = s.1.ends;
  },
  s.2,
)

pub before : (m : ModuleValue) (t : Token) (ts : List Token) (rest : List ℕ) → IsTokenOf m t → NoneFirst (lengthens t) rest → Spells m ts rest → Spells m (t ∷ ts) (token_text m t ++ rest)
before m t ts rest known ends s = (rest, record { known = known; gap = nothing; is_gap = tt; whole = refl; ends = ends }, s)

-- the text is these tokens, before whatever no token goes on in
abbrev pub Carries : ModuleValue → List Token → List ℕ → Type 0
Carries m xs text = (ts : List Token) (rest : List ℕ) → Ends rest → Spells m ts rest → Spells m (xs ++ ts) (text ++ rest)

-- ---- the text of a formula

abbrev pub text : ModuleValue → Formula → List ℕ
text m f = formula_text m.netlist.gates.inputs m.names f

-- the first byte of a group
grouped_first : (p : ℕ → Bool) (least tight : ℕ) (t rest : List ℕ) → p 40 ≡ false → NoneFirst p (t ++ rest) → NoneFirst p (grouped least tight t ++ rest)
grouped_first p least tight t rest h k = chosen (nat_lt tight least)
  where
    chosen : (b : Bool) → NoneFirst p (cond b (codes "(" ++ (t ++ codes ")")) t ++ rest)
    chosen true = h
    chosen false = k

-- no text of a formula makes a longer token of a parenthesis
formula_first : (m : ModuleValue) (f : Formula) (rest : List ℕ) → IsModule m → ReadsOnly (IsWireOf m) f → NoneFirst (lengthens opening) (text m f ++ rest)
formula_first m (Bit false) rest is own = refl
formula_first m (Bit true) rest is own = refl
formula_first m (Read w) rest is own = let l = letters m w is own in subst (λ (x : List ℕ). NoneFirst (lengthens opening) (x ++ rest)) (sym l.whole) l.not_after_opening
formula_first m (Not f) rest is own = refl
formula_first m (And f g) rest is own =
    subst (NoneFirst (lengthens opening)) (sym (append_assoc (grouped 2 (tightness f) (text m f)) _ rest))
    (grouped_first (lengthens opening) 2 (tightness f) (text m f) _ refl (formula_first m f _ is own.0))
formula_first m (Xor f g) rest is own =
    subst (NoneFirst (lengthens opening)) (sym (append_assoc (grouped 1 (tightness f) (text m f)) _ rest))
    (grouped_first (lengthens opening) 1 (tightness f) (text m f) _ refl (formula_first m f _ is own.0))
formula_first m (Or f g) rest is own = subst (NoneFirst (lengthens opening)) (sym (append_assoc (text m f) _ rest)) (formula_first m f _ is own.0)

-- nor does one of a primary of a tilde
primary_first : (m : ModuleValue) (f : Formula) (rest : List ℕ) → IsModule m → ReadsOnly (IsWireOf m) f → NoneFirst (lengthens tilde) (grouped 4 (tightness f) (text m f) ++ rest)
primary_first m (Bit false) rest is own = refl
primary_first m (Bit true) rest is own = refl
primary_first m (Read w) rest is own = let l = letters m w is own in subst (λ (x : List ℕ). NoneFirst (lengthens tilde) (x ++ rest)) (sym l.whole) l.not_after_tilde
primary_first m (Not f) rest is own = refl
primary_first m (And f g) rest is own = refl
primary_first m (Xor f g) rest is own = refl
primary_first m (Or f g) rest is own = refl

-- ---- the expression of a formula

abbrev pub top : (l : Level) → Expression l → Expression (row or)
top primary e = single or (single xor (single and (plain e)))
top unary e = single or (single xor (single and e))
top (row and) e = single or (single xor e)
top (row xor) e = single or e
top (row or) e = e

abbrev shut : (l : Level) → Expression l → Expression primary
shut l e = group (top l e)

-- an expression, in parentheses where it binds less tightly than its place asks
abbrev fit : (goal l : Level) → Expression l → Expression goal
fit primary primary e = e
fit primary unary e = shut unary e
fit primary (row o) e = shut (row o) e
fit unary primary e = plain e
fit unary unary e = e
fit unary (row o) e = plain (shut (row o) e)
fit (row and) primary e = single and (plain e)
fit (row and) unary e = single and e
fit (row and) (row and) e = e
fit (row and) (row xor) e = single and (plain (shut (row xor) e))
fit (row and) (row or) e = single and (plain (shut (row or) e))
fit (row xor) primary e = single xor (single and (plain e))
fit (row xor) unary e = single xor (single and e)
fit (row xor) (row and) e = single xor e
fit (row xor) (row xor) e = e
fit (row xor) (row or) e = single xor (single and (plain (shut (row or) e)))
fit (row or) l e = top l e

abbrev rank : Level → ℕ
rank primary = 4
rank unary = 3
rank (row and) = 2
rank (row xor) = 1
rank (row or) = 0

-- its tokens and its formula
record Fits (goal l : Level) (e : Expression l) : Type 0 where
  spelled : tokens (fit goal l e) ≡ cond (nat_lt (rank l) (rank goal)) (opening ∷ (tokens e ++ closing ∷ [])) (tokens e)
  same : formula (fit goal l e) ≡ formula e

fits : (goal l : Level) (e : Expression l) → Fits goal l e
fits primary primary e = record { spelled = refl; same = refl }
fits primary unary e = record { spelled = refl; same = refl }
fits primary (row and) e = record { spelled = refl; same = refl }
fits primary (row xor) e = record { spelled = refl; same = refl }
fits primary (row or) e = record { spelled = refl; same = refl }
fits unary primary e = record { spelled = refl; same = refl }
fits unary unary e = record { spelled = refl; same = refl }
fits unary (row and) e = record { spelled = refl; same = refl }
fits unary (row xor) e = record { spelled = refl; same = refl }
fits unary (row or) e = record { spelled = refl; same = refl }
fits (row and) primary e = record { spelled = refl; same = refl }
fits (row and) unary e = record { spelled = refl; same = refl }
fits (row and) (row and) e = record { spelled = refl; same = refl }
fits (row and) (row xor) e = record { spelled = refl; same = refl }
fits (row and) (row or) e = record { spelled = refl; same = refl }
fits (row xor) primary e = record { spelled = refl; same = refl }
fits (row xor) unary e = record { spelled = refl; same = refl }
fits (row xor) (row and) e = record { spelled = refl; same = refl }
fits (row xor) (row xor) e = record { spelled = refl; same = refl }
fits (row xor) (row or) e = record { spelled = refl; same = refl }
fits (row or) primary e = record { spelled = refl; same = refl }
fits (row or) unary e = record { spelled = refl; same = refl }
fits (row or) (row and) e = record { spelled = refl; same = refl }
fits (row or) (row xor) e = record { spelled = refl; same = refl }
fits (row or) (row or) e = record { spelled = refl; same = refl }

abbrev pub level : Formula → Level
level (Bit b) = primary
level (Read w) = primary
level (Not f) = unary
level (And f g) = row and
level (Xor f g) = row xor
level (Or f g) = row or

level_rank : (f : Formula) → rank (level f) ≡ tightness f
level_rank (Bit b) = refl
level_rank (Read w) = refl
level_rank (Not f) = refl
level_rank (And f g) = refl
level_rank (Xor f g) = refl
level_rank (Or f g) = refl

abbrev pub expression : (f : Formula) → Expression (level f)
expression (Bit b) = constant b
expression (Read w) = named w
expression (Not f) = negated (fit primary (level f) (expression f))
expression (And f g) = joined and (fit (row and) (level f) (expression f)) (fit unary (level g) (expression g))
expression (Xor f g) = joined xor (fit (row xor) (level f) (expression f)) (fit (row and) (level g) (expression g))
expression (Or f g) = joined or (fit (row or) (level f) (expression f)) (fit (row xor) (level g) (expression g))

formula_again : (f : Formula) → formula (expression f) ≡ f
formula_again (Bit b) = refl
formula_again (Read w) = refl
formula_again (Not f) = ap Not ((fits primary (level f) (expression f)).same ∙ formula_again f)
formula_again (And f g) = ap₂ And ((fits (row and) (level f) (expression f)).same ∙ formula_again f) ((fits unary (level g) (expression g)).same ∙ formula_again g)
formula_again (Xor f g) = ap₂ Xor ((fits (row xor) (level f) (expression f)).same ∙ formula_again f) ((fits (row and) (level g) (expression g)).same ∙ formula_again g)
formula_again (Or f g) = ap₂ Or ((fits (row or) (level f) (expression f)).same ∙ formula_again f) ((fits (row xor) (level g) (expression g)).same ∙ formula_again g)

-- ---- its spelling

-- a formula at a place
placed : (m : ModuleValue) (goal : Level) (f : Formula) → IsModule m → ReadsOnly (IsWireOf m) f →
    Carries m (tokens (expression f)) (text m f) →
    Carries m (tokens (fit goal (level f) (expression f))) (grouped (rank goal) (tightness f) (text m f))
placed m goal f is own h =
    subst (λ (ts : List Token). Carries m ts (grouped (rank goal) (tightness f) (text m f))) (sym (fits goal (level f) (expression f)).spelled)
    (subst (λ (r : ℕ). Carries m (cond (nat_lt r (rank goal)) (opening ∷ (tokens (expression f) ++ closing ∷ []))
    (tokens (expression f))) (grouped (rank goal) (tightness f) (text m f))) (sym (level_rank f))
    (chosen (nat_lt (tightness f) (rank goal))))
  where
    chosen : (b : Bool) → Carries m (cond b (opening ∷ (tokens (expression f) ++ closing ∷ [])) (tokens (expression f))) (cond b (codes "(" ++ (text m f ++ codes ")")) (text m f))
    chosen false = h
    chosen true = λ ts rest ends s.
        let inner : Spells m (tokens (expression f) ++ closing ∷ ts) (text m f ++ 41 ∷ rest) = h (closing ∷ ts) (41 ∷ rest) (closing_ends rest) (before m closing ts rest tt (ends closing) s) in
        let outer = before m opening (tokens (expression f) ++ closing ∷ ts) (text m f ++ 41 ∷ rest) tt (formula_first m f (41 ∷ rest) is own) inner in
        subst (λ (xs : List Token). Spells m (opening ∷ xs) (40 ∷ ((text m f ++ 41 ∷ []) ++ rest))) (sym (append_assoc (tokens (expression f)) (closing ∷ []) ts))
        (subst (λ (x : List ℕ). Spells m (opening ∷ (tokens (expression f) ++ closing ∷ ts)) (40 ∷ x)) (sym (append_assoc (text m f) (41 ∷ []) rest)) outer)

-- two parts with an operator between them
between : (m : ModuleValue) (o : Operator) (xs ys : List Token) (x y : List ℕ) → Carries m xs x → Carries m ys y →
    Carries m (xs ++ operator o ∷ ys) (x ++ (32 ∷ (token_text m (operator o) ++ (32 ∷ y))))
between m o xs ys x y hx hy ts rest ends s =
    let right : Spells m (ys ++ ts) (32 ∷ (y ++ rest)) = after_blank m (ys ++ ts) (y ++ rest) (hy ts rest ends s) in
    let sign = after_blank m (operator o ∷ (ys ++ ts)) _ (before m (operator o) (ys ++ ts) (32 ∷ (y ++ rest)) tt (blank_ends (y ++ rest) (operator o)) right) in
    let left = hx (operator o ∷ (ys ++ ts)) (32 ∷ (token_text m (operator o) ++ (32 ∷ (y ++ rest)))) (blank_ends (token_text m (operator o) ++ (32 ∷ (y ++ rest)))) sign in
    subst (λ (zs : List Token). Spells m zs ((x ++ (32 ∷ (token_text m (operator o) ++ (32 ∷ y)))) ++ rest)) (sym (append_assoc xs (operator o ∷ ys) ts))
    (subst (λ (z : List ℕ). Spells m (xs ++ operator o ∷ (ys ++ ts)) z)
    (ap (λ (z : List ℕ). x ++ 32 ∷ z) (sym (append_assoc (token_text m (operator o)) (32 ∷ y) rest))
    ∙ sym (append_assoc x _ rest)) left)

pub spelled : (m : ModuleValue) (f : Formula) → IsModule m → ReadsOnly (IsWireOf m) f → Carries m (tokens (expression f)) (text m f)
spelled m (Bit false) is own = λ ts rest ends s. before m (bit false) ts rest tt (ends (bit false)) s
spelled m (Bit true) is own = λ ts rest ends s. before m (bit true) ts rest tt (ends (bit true)) s
spelled m (Read w) is own = λ ts rest ends s. before m (name w) ts rest (wire_token m w is own) (ends (name w)) s
spelled m (Not f) is own =
    λ ts rest ends s. before m tilde (tokens (fit primary (level f) (expression f)) ++ ts)
    (grouped 4 (tightness f) (text m f) ++ rest) tt (primary_first m f rest is own)
    (placed m primary f is own (spelled m f is own) ts rest ends s)
spelled m (And f g) is own = between m and _ _ _ _ (placed m (row and) f is own.0 (spelled m f is own.0)) (placed m unary g is own.1 (spelled m g is own.1))
spelled m (Xor f g) is own = between m xor _ _ _ _ (placed m (row xor) f is own.0 (spelled m f is own.0)) (placed m (row and) g is own.1 (spelled m g is own.1))
spelled m (Or f g) is own = between m or _ _ _ _ (alone (level f) (expression f) (spelled m f is own.0)) (placed m (row xor) g is own.1 (spelled m g is own.1))
  where
    alone : (l : Level) (e : Expression l) → Carries m (tokens e) (text m f) → Carries m (tokens (fit (row or) l e)) (text m f)
    alone primary e h = h
    alone unary e h = h
    alone (row and) e h = h
    alone (row xor) e h = h
    alone (row or) e h = h

-- an expression of a formula, as one may stand alone
pub topped : (l : Level) (e : Expression l) → tokens (top l e) ≡ tokens e
topped primary e = refl
topped unary e = refl
topped (row and) e = refl
topped (row xor) e = refl
topped (row or) e = refl

pub whole_formula : (f : Formula) → formula (top (level f) (expression f)) ≡ f
whole_formula f = (fits (row or) (level f) (expression f)).same ∙ formula_again f

pub read_as_written : (m : ModuleValue) (f : Formula) → IsModule m → ReadsOnly (IsWireOf m) f → IsReadAs m (text m f) f
read_as_written m f is own =
    let all : Spells m (tokens (expression f)) (text m f) =
    subst (λ (ts : List Token). Spells m ts (text m f)) (append-nil (tokens (expression f)))
    (subst (λ (x : List ℕ). Spells m (tokens (expression f) ++ []) x) (append-nil (text m f)) (spelled m f is own [] [] (λ t. tt) (nothing, tt, refl))) in
    (top (level f) (expression f), subst (λ (ts : List Token). Spells m ts (text m f)) (sym (topped (level f) (expression f))) all, whole_formula f)
