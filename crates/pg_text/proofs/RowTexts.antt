-- The texts of trees, by the lists of their members.
use Rattle.std.specs.Prelude.{◌≡◌, ◌<◌, ◌+◌, refl, ℕ, Bool, true, List, [], ◌∷◌, ◌++◌, map, take, length, codes, nat_lt}
use Rattle.std.proofs.Common.{ap, ap₂, sym, suc, arith, ◌∙◌, append_assoc, append-nil, get_or, subst}
use Rattle.std.proofs.lemmas.Bool.Decides.{nat_tests}
use Rattle.std.specs.Result.{OnOk}
use Rattle.std.specs.declared.result.Result.{Result}
use Rattle.std.proofs.lemmas.List.{take_more, length-take-le, length-map, map-append}
use denote.Hole.Carrier.{hidden}
use Rattle.pg_algebra.specs.declared.cond.Cond.{Cond}
use Rattle.pg_algebra.specs.declared.cond.Cond.TheBlock.{hidden-the_row-Cond-1}
use Rattle.pg_algebra.specs.declared.cond.Cond.TheViews as cond
use Rattle.pg_algebra.specs.declared.expr.Expr.{Expr}
use Rattle.pg_algebra.specs.declared.expr.Expr.TheBlock.{hidden-the_row-Expr-1}
use Rattle.pg_algebra.specs.declared.expr.Expr.TheViews as expr
use Rattle.pg_text.specs.declared.position.Position.{Position}
use Rattle.pg_text.specs.declared.position.Position.TheVariants as position
use Rattle.pg_text.specs.Grammar.{product, sum}
use Rattle.pg_text.specs.Writing.{when_needed, placed, cond_text, cond_row, cond_rest, expr_text, expr_row, expr_rest, rest_text, row_text}

cond_rest-members : (sign : List ℕ) (p : Position) (cs : List Cond) → cond_rest sign p (hidden-the_row-Cond-1 cs) ≡ rest_text sign (map (cond_text p) cs)
unfolding hidden-the_row-Cond-1 hidden
cond_rest-members sign p [] = refl
cond_rest-members sign p (c ∷ cs) = ap (λ t. sign ++ (cond_text p c ++ t)) (cond_rest-members sign p cs)

cond_row-members : (sign : List ℕ) (p : Position) (cs : List Cond) → cond_row sign p (hidden-the_row-Cond-1 cs) ≡ row_text sign (map (cond_text p) cs)
unfolding hidden-the_row-Cond-1 hidden
cond_row-members sign p [] = refl
cond_row-members sign p (c ∷ cs) = ap (λ t. cond_text p c ++ t) (cond_rest-members sign p cs)

pub text-Not : (p : Position) (c : Cond) → cond_text p (cond.Not c) ≡ codes "!" ++ cond_text position.Factor c
unfolding hidden-the_row-Cond-1 hidden
text-Not p c = refl

pub text-And : (p : Position) (cs : List Cond) → cond_text p (cond.And (record { members = cs })) ≡ placed p product (row_text (codes " & ") (map (cond_text position.Factor) cs))
unfolding hidden-the_row-Cond-1 hidden
text-And p cs = ap (placed p product) (cond_row-members (codes " & ") position.Factor cs)

pub text-Or : (p : Position) (cs : List Cond) → cond_text p (cond.Or (record { members = cs })) ≡ placed p sum (row_text (codes " | ") (map (cond_text position.Product) cs))
unfolding hidden-the_row-Cond-1 hidden
text-Or p cs = ap (placed p sum) (cond_row-members (codes " | ") position.Product cs)

expr_rest-members : (names : List (List ℕ)) (sign : List ℕ) (p : Position) (es : List Expr) → expr_rest names sign p (hidden-the_row-Expr-1 es) ≡ rest_text sign (map (expr_text names p) es)
unfolding hidden-the_row-Expr-1 hidden
expr_rest-members names sign p [] = refl
expr_rest-members names sign p (e ∷ es) = ap (λ t. sign ++ (expr_text names p e ++ t)) (expr_rest-members names sign p es)

expr_row-members : (names : List (List ℕ)) (sign : List ℕ) (p : Position) (es : List Expr) → expr_row names sign p (hidden-the_row-Expr-1 es) ≡ row_text sign (map (expr_text names p) es)
unfolding hidden-the_row-Expr-1 hidden
expr_row-members names sign p [] = refl
expr_row-members names sign p (e ∷ es) = ap (λ t. expr_text names p e ++ t) (expr_rest-members names sign p es)

pub text-When : (names : List (List ℕ)) (p : Position) (c : Cond) (e : Expr) → expr_text names p (expr.When c e) ≡ codes "[" ++ (cond_text position.Sum c ++ (codes "] " ++ expr_text names position.Factor e))
unfolding hidden-the_row-Expr-1 hidden
text-When names p c e = refl

pub text-Overlay : (names : List (List ℕ)) (p : Position) (es : List Expr) → expr_text names p (expr.Overlay (record { members = es })) ≡ placed p sum (row_text (codes " + ") (map (expr_text names position.Product) es))
unfolding hidden-the_row-Expr-1 hidden
text-Overlay names p es = ap (placed p sum) (expr_row-members names (codes " + ") position.Product es)

pub text-Sequence : (names : List (List ℕ)) (p : Position) (es : List Expr) → expr_text names p (expr.Sequence (record { members = es })) ≡ placed p product (row_text (codes " -> ") (map (expr_text names position.Factor) es))
unfolding hidden-the_row-Expr-1 hidden
text-Sequence names p es = ap (placed p product) (expr_row-members names (codes " -> ") position.Factor es)

-- ---- one member more

pub rest_append : (sign : List ℕ) (ts us : List (List ℕ)) → rest_text sign (ts ++ us) ≡ rest_text sign ts ++ rest_text sign us
rest_append sign [] us = refl
rest_append sign (t ∷ ts) us =
    ap (λ x. sign ++ (t ++ x)) (rest_append sign ts us)
    ∙ ap (λ x. sign ++ x) (sym (append_assoc t (rest_text sign ts) (rest_text sign us)))
    ∙ sym (append_assoc sign (t ++ rest_text sign ts) (rest_text sign us))

rest_more : (sign t : List ℕ) (ts : List (List ℕ)) → rest_text sign (ts ++ t ∷ []) ≡ rest_text sign ts ++ (sign ++ t)
rest_more sign t [] = ap (λ x. sign ++ x) (append-nil t)
rest_more sign t (u ∷ us) =
    ap (λ x. sign ++ (u ++ x)) (rest_more sign t us)
    ∙ ap (λ x. sign ++ x) (sym (append_assoc u (rest_text sign us) (sign ++ t)))
    ∙ sym (append_assoc sign (u ++ rest_text sign us) (sign ++ t))

positive : (n : ℕ) → nat_lt 0 (suc n) ≡ true
positive n = grind (arith, nat_tests)

pub row_more : (sign t : List ℕ) (ts : List (List ℕ)) → row_text sign (ts ++ t ∷ []) ≡ row_text sign ts ++ (when_needed (nat_lt 0 (length ts)) sign ++ t)
row_more sign t [] = append-nil t
row_more sign t (u ∷ us) =
    ap (λ x. u ++ x) (rest_more sign t us) ∙ sym (append_assoc u (rest_text sign us) (sign ++ t)) ∙ ap (λ b. (u ++ rest_text sign us) ++ (when_needed b sign ++ t)) (sym (positive (length us)))

-- one member more is put behind those that stand there
pub put_more : {X : Type 0} (f : X → List ℕ) (sign : List ℕ) (xs : List X) (i : ℕ) (x d : X) (start out middle next : List ℕ) → i < length xs → x ≡ get_or xs i d
    → out ≡ start ++ row_text sign (map f (take i xs)) → middle ≡ out ++ when_needed (nat_lt 0 i) sign → next ≡ middle ++ f x → next ≡ start ++ row_text sign (map f (take (i + 1) xs))
put_more f sign xs i x d start out middle next lt is before between last =
    let count : length (map f (take i xs)) ≡ i = length-map (take i xs) f ∙ length-take-le i xs (omega arith) in
    let more : row_text sign (map f (take (i + 1) xs)) ≡ row_text sign (map f (take i xs)) ++ (when_needed (nat_lt 0 i) sign ++ f x) =
    ap (λ l. row_text sign (map f l)) (take_more xs i d lt ∙ ap (λ y. take i xs ++ y ∷ []) (sym is)) ∙ ap (row_text sign) (map-append f (take i xs) (x ∷ [])) ∙ row_more sign (f x) (map f (take i xs))
    ∙ ap (λ n. row_text sign (map f (take i xs)) ++ (when_needed (nat_lt 0 n) sign ++ f x)) count
    in
    last ∙ ap (λ m. m ++ f x) (between ∙ ap (λ o. o ++ when_needed (nat_lt 0 i) sign) before) ∙ append_assoc (start ++ row_text sign (map f (take i xs))) (when_needed (nat_lt 0 i) sign) (f x)
    ∙ append_assoc start (row_text sign (map f (take i xs))) (when_needed (nat_lt 0 i) sign ++ f x) ∙ ap (λ t. start ++ t) (sym more)

-- a row is put between the parentheses that are needed
pub put_placed : (old text start out : List ℕ) (a b n : Bool) (left right : List ℕ) → start ≡ old ++ when_needed a left → out ≡ start ++ text → a ≡ n → b ≡ n
    → out ++ when_needed b right ≡ old ++ (when_needed n left ++ (text ++ when_needed n right))
put_placed old text start out a b n left right opens puts e h =
    ap₂ (λ o c. o ++ when_needed c right) (puts ∙ ap (λ s. s ++ text) (opens ∙ ap (λ c. old ++ when_needed c left) e)) h
    ∙ append_assoc (old ++ when_needed n left) text (when_needed n right)
    ∙ append_assoc old (when_needed n left) (text ++ when_needed n right)

pub on_ok : {A E : Type 0} (r : Result A E) (a b c : List ℕ) → b ≡ c → OnOk r (a ≡ b) → OnOk r (a ≡ c)
on_ok r a b c e h = subst (λ x. OnOk r (a ≡ x)) e h

pub two_parts : (old a b o1 : List ℕ) → o1 ≡ old ++ a → o1 ++ b ≡ old ++ (a ++ b)
two_parts old a b o1 h = ap (λ o. o ++ b) h ∙ append_assoc old a b

pub three_parts : (old a b c o1 o2 : List ℕ) → o1 ≡ old ++ a → o2 ≡ o1 ++ b → o2 ++ c ≡ old ++ (a ++ (b ++ c))
three_parts old a b c o1 o2 h k = two_parts o1 b c o2 k ∙ two_parts old a (b ++ c) o1 h

pub four_parts : (old a b c d o1 o2 o3 : List ℕ) → o1 ≡ old ++ a → o2 ≡ o1 ++ b → o3 ≡ o2 ++ c → o3 ++ d ≡ old ++ (a ++ (b ++ (c ++ d)))
four_parts old a b c d o1 o2 o3 h k l = two_parts o2 c d o3 l ∙ three_parts old a b (c ++ d) o1 o2 h k
