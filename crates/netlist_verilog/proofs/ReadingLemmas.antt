-- No text is read in two ways: it is these tokens alone, and a stack of what was read tells the formula from them.
use Rattle.std.proofs.Common.{eqb, ◌≡◌, ℕ, Bool, true, false, cond, List, [], ◌∷◌, ◌++◌, refl, sym, ap, ap₂, ◌∙◌, arith, append_assoc, subst, Option, None, Some}
use Rattle.std.proofs.lemmas.List.{append-nil, append_cancel_left, append_cancel_right}
use Rattle.std.specs.Prelude.{codes}
use Rattle.line_text.specs.Words.{continues_name}
use Rattle.line_text.proofs.TellingLemmas.{AllPass, apart, heads, tails, or-true_left}
use Rattle.netlist_verilog.specs.Module.{ModuleValue, IsModule, IsWireOf, called}
use Rattle.netlist_verilog.specs.Wires.{Wire}
use Rattle.netlist_verilog.specs.Formulas.{Formula, Bit, Read, Not, And, Xor, Or}
use Rattle.netlist_verilog.specs.Grammar.{Operator, and, xor, or, Token, name, bit, tilde, operator, opening, closing, assign, equals, semicolon, token_text, continues_identifier, IsTokenOf, lengthens, is_identifier, is_blank, NoneFirst, HoldsNoEnd, Gap, nothing, blank, comment, gap_text, IsGap, Begins, Spells, Level, primary, unary, row, Expression, named, constant, group, plain, negated, single, joined, tokens, formula, IsReadAs, IsAssignment}
use Rattle.netlist_verilog.proofs.BelowLemmas.{cons_parts, some_push}
use Rattle.netlist_verilog.proofs.CallingLemmas.{wires_told}
use Rattle.netlist_verilog.proofs.SpellingLemmas.{kind_at, letters}

-- ---- one token

abbrev kind : Token → ℕ
kind (name w) = 0
kind (bit b) = 49
kind tilde = 126
kind (operator and) = 38
kind (operator xor) = 94
kind (operator or) = 124
kind opening = 40
kind closing = 41
kind assign = 0
kind equals = 61
kind semicolon = 59

record Head (t : Token) (text : List ℕ) : Type 0 where
  first : ℕ
  rest : List ℕ
  whole : text ≡ first ∷ rest
  kind_is : kind_at first ≡ kind t
  is_no_blank : is_blank first ≡ false
  is_no_slash : eqb first 47 ≡ false

head : (m : ModuleValue) (t : Token) → IsModule m → IsTokenOf m t → Head t (token_text m t)
head m (name w) is known = let l = letters m w is known.0 in record { first = l.first; rest = l.rest; whole = l.whole; kind_is = l.kind_is; is_no_blank = l.is_no_blank; is_no_slash = l.is_no_slash }
head m (bit false) is known = record { first = 49; rest = 39 ∷ 98 ∷ 48 ∷ []; whole = refl; kind_is = refl; is_no_blank = refl; is_no_slash = refl }
head m (bit true) is known = record { first = 49; rest = 39 ∷ 98 ∷ 49 ∷ []; whole = refl; kind_is = refl; is_no_blank = refl; is_no_slash = refl }
head m tilde is known = record { first = 126; rest = []; whole = refl; kind_is = refl; is_no_blank = refl; is_no_slash = refl }
head m (operator and) is known = record { first = 38; rest = []; whole = refl; kind_is = refl; is_no_blank = refl; is_no_slash = refl }
head m (operator xor) is known = record { first = 94; rest = []; whole = refl; kind_is = refl; is_no_blank = refl; is_no_slash = refl }
head m (operator or) is known = record { first = 124; rest = []; whole = refl; kind_is = refl; is_no_blank = refl; is_no_slash = refl }
head m opening is known = record { first = 40; rest = []; whole = refl; kind_is = refl; is_no_blank = refl; is_no_slash = refl }
head m closing is known = record { first = 41; rest = []; whole = refl; kind_is = refl; is_no_blank = refl; is_no_slash = refl }
head m assign is known = record { first = 97; rest = codes "ssign"; whole = refl; kind_is = refl; is_no_blank = refl; is_no_slash = refl }
head m equals is known = record { first = 61; rest = []; whole = refl; kind_is = refl; is_no_blank = refl; is_no_slash = refl }
head m semicolon is known = record { first = 59; rest = []; whole = refl; kind_is = refl; is_no_blank = refl; is_no_slash = refl }

-- words as long as they can be
words_alike : (p : ℕ → Bool) (v w x y : List ℕ) → AllPass p v → AllPass p w → NoneFirst p x → NoneFirst p y → v ++ x ≡ w ++ y → (v ≡ w) × (x ≡ y)
words_alike p [] [] x y hv hw hx hy e = (refl, e)
words_alike p [] (c ∷ w) x y hv hw hx hy e = let k : p c ≡ false = subst (NoneFirst p) e hx in absurd (apart (p c) (p c) hw.0 k refl)
words_alike p (c ∷ v) [] x y hv hw hx hy e = let k : p c ≡ false = subst (NoneFirst p) (sym e) hy in absurd (apart (p c) (p c) hv.0 k refl)
words_alike p (c ∷ v) (d ∷ w) x y hv hw hx hy e =
    let r = words_alike p v w x y hv.1 hw.1 hx hy (tails c d _ _ e) in
    (ap₂ (λ (b : ℕ) (bs : List ℕ). b ∷ bs) (heads c d _ _ e) r.0, r.1)

identifier_bytes : (w : List ℕ) → AllPass continues_name w → AllPass continues_identifier w
identifier_bytes [] h = tt
identifier_bytes (b ∷ bs) h = (or-true_left (continues_name b) _ h.0, identifier_bytes bs h.1)

called_bytes : (m : ModuleValue) (w : Wire) → IsModule m → IsWireOf m w → AllPass continues_identifier (called m w)
called_bytes m w is own = let l = letters m w is own in subst (AllPass continues_identifier) (sym l.whole) (identifier_bytes (l.first ∷ l.rest) (or-true_left _ _ l.begins, l.goes_on))

assign_bytes : AllPass continues_identifier (codes "assign")
assign_bytes = (refl, (refl, (refl, (refl, (refl, (refl, tt))))))

-- no name is the word assign
no_assign : (m : ModuleValue) (w : Wire) → IsModule m → IsTokenOf m (name w) → called m w ≡ codes "assign" → ⊥
no_assign m w is known e = let t : false ≡ true = ap is_identifier (sym e) ∙ known.1 in cc

-- two tokens of one kind, each as long as it can be
of_one_kind : (m : ModuleValue) (t u : Token) (x y : List ℕ) → IsModule m → IsTokenOf m t → IsTokenOf m u →
    NoneFirst (lengthens t) x → NoneFirst (lengthens u) y → kind t ≡ kind u →
    token_text m t ++ x ≡ token_text m u ++ y → (t ≡ u) × (x ≡ y)
of_one_kind m (name w) (name z) x y is kt ku hx hy k e =
    let r = words_alike continues_identifier (called m w) (called m z) x y (called_bytes m w is kt.0) (called_bytes m z is ku.0) hx hy e in
    (ap name (wires_told m w z is kt.0 ku.0 r.0), r.1)
of_one_kind m (bit false) (bit false) x y is kt ku hx hy k e = (refl, tails 48 48 _ _ (tails 98 98 _ _ (tails 39 39 _ _ (tails 49 49 _ _ e))))
of_one_kind m (bit true) (bit true) x y is kt ku hx hy k e = (refl, tails 49 49 _ _ (tails 98 98 _ _ (tails 39 39 _ _ (tails 49 49 _ _ e))))
of_one_kind m (bit false) (bit true) x y is kt ku hx hy k e = absurd (omega (arith, heads 48 49 _ _ (tails 98 98 _ _ (tails 39 39 _ _ (tails 49 49 _ _ e)))))
of_one_kind m (bit true) (bit false) x y is kt ku hx hy k e = absurd (omega (arith, heads 49 48 _ _ (tails 98 98 _ _ (tails 39 39 _ _ (tails 49 49 _ _ e)))))
of_one_kind m tilde tilde x y is kt ku hx hy k e = (refl, tails 126 126 _ _ e)
of_one_kind m (operator and) (operator and) x y is kt ku hx hy k e = (refl, tails 38 38 _ _ e)
of_one_kind m (operator xor) (operator xor) x y is kt ku hx hy k e = (refl, tails 94 94 _ _ e)
of_one_kind m (operator or) (operator or) x y is kt ku hx hy k e = (refl, tails 124 124 _ _ e)
of_one_kind m opening opening x y is kt ku hx hy k e = (refl, tails 40 40 _ _ e)
of_one_kind m closing closing x y is kt ku hx hy k e = (refl, tails 41 41 _ _ e)
of_one_kind m assign assign x y is kt ku hx hy k e = (refl, append_cancel_left (codes "assign") x y e)
of_one_kind m equals equals x y is kt ku hx hy k e = (refl, tails 61 61 _ _ e)
of_one_kind m semicolon semicolon x y is kt ku hx hy k e = (refl, tails 59 59 _ _ e)
of_one_kind m (name w) assign x y is kt ku hx hy k e =
    absurd (no_assign m w is kt (words_alike continues_identifier (called m w) (codes "assign") x y
    (called_bytes m w is kt.0) assign_bytes hx hy e).0)
of_one_kind m assign (name z) x y is kt ku hx hy k e =
    absurd (no_assign m z is ku (words_alike continues_identifier (called m z) (codes "assign") y x
    (called_bytes m z is ku.0) assign_bytes hy hx (sym e)).0)
of_one_kind m t (operator and) x y is kt ku hx hy k e = absurd (omega (arith, k))
of_one_kind m t (operator xor) x y is kt ku hx hy k e = absurd (omega (arith, k))
of_one_kind m t (operator or) x y is kt ku hx hy k e = absurd (omega (arith, k))
of_one_kind m (operator and) u x y is kt ku hx hy k e = absurd (omega (arith, k))
of_one_kind m (operator xor) u x y is kt ku hx hy k e = absurd (omega (arith, k))
of_one_kind m (operator or) u x y is kt ku hx hy k e = absurd (omega (arith, k))
of_one_kind m t u x y is kt ku hx hy k e = absurd (omega (arith, k))

-- ---- gaps

slash_apart : (b : ℕ) → eqb b 47 ≡ false → b ≡ 47 → ⊥
slash_apart b h e = apart (eqb 47 47) (eqb b 47) refl h (ap (λ c. eqb c 47) (sym e))

-- a comment goes up to the first `*/`
comments_alike : (v w x y : List ℕ) → HoldsNoEnd v → HoldsNoEnd w → v ++ 42 ∷ 47 ∷ x ≡ w ++ 42 ∷ 47 ∷ y → x ≡ y
comments_alike [] [] x y hv hw e = tails 47 47 _ _ (tails 42 42 _ _ e)
comments_alike [] (c ∷ []) x y hv hw e = absurd (omega (arith, heads 47 42 _ _ (tails 42 c _ _ e)))
comments_alike [] (c ∷ d ∷ w) x y hv hw e = absurd (slash_apart d (hw.0 (sym (heads 42 c _ _ e))) (sym (heads 47 d _ _ (tails 42 c _ _ e))))
comments_alike (c ∷ []) [] x y hv hw e = absurd (omega (arith, heads 42 47 _ _ (tails c 42 _ _ e)))
comments_alike (c ∷ d ∷ v) [] x y hv hw e = absurd (slash_apart d (hv.0 (heads c 42 _ _ e)) (heads d 47 _ _ (tails c 42 _ _ e)))
comments_alike (b ∷ v) (c ∷ w) x y hv hw e = comments_alike v w x y hv.1 hw.1 (tails b c _ _ e)

-- a token ends a gap
same_gap : (g h : Gap) (b c : ℕ) (x y : List ℕ) → IsGap g → IsGap h → is_blank b ≡ false → is_blank c ≡ false →
    eqb b 47 ≡ false → eqb c 47 ≡ false → gap_text g ++ b ∷ x ≡ gap_text h ++ c ∷ y → (b ∷ x) ≡ (c ∷ y)
same_gap nothing nothing b c x y hg hh nb nc sb sc e = e
same_gap nothing (blank d h) b c x y hg hh nb nc sb sc e = absurd (apart (is_blank d) (is_blank b) hh.0 nb (ap is_blank (sym (heads b d _ _ e))))
same_gap nothing (comment w h) b c x y hg hh nb nc sb sc e = absurd (slash_apart b sb (heads b 47 _ _ e))
same_gap (blank d g) nothing b c x y hg hh nb nc sb sc e = absurd (apart (is_blank d) (is_blank c) hg.0 nc (ap is_blank (heads d c _ _ e)))
same_gap (blank d g) (blank d' h) b c x y hg hh nb nc sb sc e = same_gap g h b c x y hg.1 hh.1 nb nc sb sc (tails d d' _ _ e)
same_gap (blank d g) (comment w h) b c x y hg hh nb nc sb sc e = absurd (apart (is_blank d) (is_blank 47) hg.0 refl (ap is_blank (heads d 47 _ _ e)))
same_gap (comment v g) nothing b c x y hg hh nb nc sb sc e = absurd (slash_apart c sc (sym (heads 47 c _ _ e)))
same_gap (comment v g) (blank d h) b c x y hg hh nb nc sb sc e = absurd (apart (is_blank d) (is_blank 47) hh.0 refl (ap is_blank (sym (heads 47 d _ _ e))))
same_gap (comment v g) (comment w h) b c x y hg hh nb nc sb sc e =
    let inner = sym (append_assoc v (42 ∷ 47 ∷ gap_text g) (b ∷ x)) ∙ tails 42 42 _ _ (tails 47 47 _ _ e) ∙ append_assoc w (42 ∷ 47 ∷ gap_text h) (c ∷ y) in
    same_gap g h b c x y hg.1 hh.1 nb nc sb sc (comments_alike v w (gap_text g ++ b ∷ x) (gap_text h ++ c ∷ y) hg.0 hh.0 inner)

-- a text begins with one token at most
same_token : (m : ModuleValue) (t u : Token) (text x y : List ℕ) → IsModule m → Begins m t text x → Begins m u text y → (t ≡ u) × (x ≡ y)
same_token m t u text x y is h k =
    let a = head m t is h.known in
    let b = head m u is k.known in
    let ta : token_text m t ++ x ≡ a.first ∷ (a.rest ++ x) = ap (λ (w : List ℕ). w ++ x) a.whole in
    let tb : token_text m u ++ y ≡ b.first ∷ (b.rest ++ y) = ap (λ (w : List ℕ). w ++ y) b.whole in
    let r = same_gap h.gap k.gap a.first b.first (a.rest ++ x) (b.rest ++ y) h.is_gap k.is_gap a.is_no_blank b.is_no_blank a.is_no_slash b.is_no_slash
    (ap (λ (z : List ℕ). gap_text h.gap ++ z) (sym ta) ∙ sym h.whole ∙ k.whole ∙ ap (λ (z : List ℕ). gap_text k.gap ++ z) tb) in
    of_one_kind m t u x y is h.known k.known h.ends k.ends (sym a.kind_is ∙ ap kind_at (heads a.first b.first _ _ r) ∙ b.kind_is) (ta ∙ r ∙ sym tb)

-- a gap holds no token
gap_alone : (m : ModuleValue) (t : Token) (text x : List ℕ) (g : Gap) → IsModule m → IsGap g → text ≡ gap_text g → Begins m t text x → ⊥
gap_alone m t text x g is hg e h =
    let a = head m t is h.known in
    let both : gap_text g ++ 59 ∷ [] ≡ gap_text h.gap ++ a.first ∷ ((a.rest ++ x) ++ 59 ∷ []) =
    ap (λ (z : List ℕ). z ++ 59 ∷ []) (sym e ∙ h.whole ∙ ap (λ (w : List ℕ). gap_text h.gap ++ (w ++ x)) a.whole) ∙ append_assoc (gap_text h.gap) (a.first ∷ (a.rest ++ x)) (59 ∷ []) in
    some_push (a.rest ++ x) 59 (tails 59 a.first _ _ (same_gap g h.gap 59 a.first [] ((a.rest ++ x) ++ 59 ∷ []) hg h.is_gap refl a.is_no_blank refl a.is_no_slash both))

-- a text is these tokens or those, not both
same_tokens : (m : ModuleValue) (ts us : List Token) (text : List ℕ) → IsModule m → Spells m ts text → Spells m us text → ts ≡ us
same_tokens m [] [] text is s r = refl
same_tokens m [] (u ∷ us) text is s r = absurd (gap_alone m u text r.0 s.0 is s.1 s.2 r.1)
same_tokens m (t ∷ ts) [] text is s r = absurd (gap_alone m t text s.0 r.0 is r.1 r.2 s.1)
same_tokens m (t ∷ ts) (u ∷ us) text is s r =
    let e = same_token m t u text s.0 r.0 is s.1 r.1 in
    ap₂ (λ (z : Token) (zs : List Token). z ∷ zs) e.0 (same_tokens m ts us r.0 is (subst (Spells m ts) e.1 s.2) r.2)

-- ---- what was read: in each open parenthesis what stands left of |, of ^ and of &, and whether ~ was read last

record Frame : Type 0 where
  ors : Option Formula
  xors : Option Formula
  ands : Option Formula
  complement : Bool

abbrev frame : Option Formula → Option Formula → Option Formula → Bool → Frame
frame o x a n = record { ors = o; xors = x; ands = a; complement = n }

abbrev empty : Frame
empty = frame None None None false

abbrev joined_to : (Formula → Formula → Formula) → Option Formula → Formula → Formula
joined_to op None f = f
joined_to op (Some l) f = op l f

abbrev held : Option Formula → Formula
held None = Bit false
held (Some f) = f

abbrev xor_of : Frame → Formula
xor_of r = joined_to Xor r.xors (held r.ands)

abbrev or_of : Frame → Formula
or_of r = joined_to Or r.ors (xor_of r)

-- a primary was read
abbrev with_primary : Formula → Frame → Frame
with_primary f r = frame r.ors r.xors (Some (joined_to And r.ands (cond r.complement (Not f) f))) false

abbrev run : List Token → Frame → List Frame → Formula
run [] r rs = or_of r
run (name w ∷ ts) r rs = run ts (with_primary (Read w) r) rs
run (bit b ∷ ts) r rs = run ts (with_primary (Bit b) r) rs
run (tilde ∷ ts) r rs = run ts (frame r.ors r.xors r.ands true) rs
run (operator and ∷ ts) r rs = run ts r rs
run (operator xor ∷ ts) r rs = run ts (frame r.ors (Some (xor_of r)) None false) rs
run (operator or ∷ ts) r rs = run ts (frame (Some (or_of r)) None None false) rs
run (opening ∷ ts) r rs = run ts empty (r ∷ rs)
run (closing ∷ ts) r [] = or_of r
run (closing ∷ ts) r (q ∷ rs) = run ts (with_primary (or_of r) q) rs
run (assign ∷ ts) r rs = or_of r
run (equals ∷ ts) r rs = or_of r
run (semicolon ∷ ts) r rs = or_of r

-- what the tokens of an expression do, whatever comes behind them
abbrev Runs : (l : Level) → List Token → Formula → Type 0
Runs primary xs f = (ts : List Token) (r : Frame) (rs : List Frame) → run (xs ++ ts) r rs ≡ run ts (with_primary f r) rs
Runs unary xs f = (ts : List Token) (o x a : Option Formula) (rs : List Frame) → run (xs ++ ts) (frame o x a false) rs ≡ run ts (frame o x (Some (joined_to And a f)) false) rs
Runs (row and) xs f = (ts : List Token) (o x : Option Formula) (rs : List Frame) → run (xs ++ ts) (frame o x None false) rs ≡ run ts (frame o x (Some f) false) rs
Runs (row xor) xs f =
    (ts : List Token) (o : Option Formula) (rs : List Frame) →
    (x : Option Formula) × (a : Formula) × (joined_to Xor x a ≡ f) ×
    (run (xs ++ ts) (frame o None None false) rs ≡ run ts (frame o x (Some a) false) rs)
Runs (row or) xs f =
    (ts : List Token) (rs : List Frame) → (o : Option Formula) × (x : Option Formula) × (a : Formula) ×
    (joined_to Or o (joined_to Xor x a) ≡ f) × (run (xs ++ ts) empty rs ≡ run ts (frame o x (Some a) false) rs)

-- a row, the operator, and one more
split : (xs ys ts : List Token) (o : Operator) (r : Frame) (rs : List Frame) → run ((xs ++ operator o ∷ ys) ++ ts) r rs ≡ run (xs ++ operator o ∷ (ys ++ ts)) r rs
split xs ys ts o r rs = ap (λ (zs : List Token). run zs r rs) (append_assoc xs (operator o ∷ ys) ts)

runs : {l : Level} (e : Expression l) → Runs l (tokens e) (formula e)
runs (named w) = λ ts r rs. refl
runs (constant b) = λ ts r rs. refl
runs (group e) = λ ts r rs.
    let h = runs e (closing ∷ ts) (r ∷ rs) in
    ap (λ (zs : List Token). run zs empty (r ∷ rs)) (append_assoc (tokens e) (closing ∷ []) ts) ∙ h.4 ∙ ap (λ f. run ts (with_primary f r) rs) h.3
runs (plain e) = λ ts o x a rs. runs e ts (frame o x a false) rs
runs (negated e) = λ ts o x a rs. runs e ts (frame o x a true) rs
runs (single and e) = λ ts o x rs. runs e ts o x None rs
runs (single xor e) = λ ts o rs. (None, formula e, refl, runs e ts o None rs)
runs (single or e) = λ ts rs. let h = runs e ts None rs in (None, h.0, h.1, h.2, h.3)
runs (joined and e g) = λ ts o x rs. split (tokens e) (tokens g) ts and (frame o x None false) rs ∙ runs e (operator and ∷ (tokens g ++ ts)) o x rs ∙ runs g ts o x (Some (formula e)) rs
runs (joined xor e g) = λ ts o rs.
    let h = runs e (operator xor ∷ (tokens g ++ ts)) o rs in (
      Some (formula e),
      formula g,
      refl,
      split (tokens e) (tokens g) ts xor (frame o None None false) rs ∙ h.3
          ∙ ap (λ f. run (tokens g ++ ts) (frame o (Some f) None false) rs) h.2 ∙ runs g ts o (Some (formula e)) rs,
    )
runs (joined or e g) = λ ts rs.
    let h = runs e (operator or ∷ (tokens g ++ ts)) rs in
    let k = runs g ts (Some (formula e)) rs in
    (Some (formula e), k.0, k.1, ap (Or (formula e)) k.2, split (tokens e) (tokens g) ts or empty rs ∙ h.4 ∙ ap (λ f. run (tokens g ++ ts) (frame (Some f) None None false) rs) h.3 ∙ k.3)

-- the tokens tell the formula
told : (e : Expression (row or)) → run (tokens e) empty [] ≡ formula e
told e = let h = runs e [] [] in ap (λ (zs : List Token). run zs empty []) (sym (append-nil (tokens e))) ∙ h.4 ∙ h.3

pub read_once : (m : ModuleValue) (text : List ℕ) (f g : Formula) → IsModule m → IsReadAs m text f → IsReadAs m text g → f ≡ g
read_once m text f g is a b = sym a.2 ∙ sym (told a.0) ∙ ap (λ (zs : List Token). run zs empty []) (same_tokens m (tokens a.0) (tokens b.0) text is a.1 b.1) ∙ told b.0 ∙ b.2

first_is : (w z : Wire) → name w ≡ name z → w ≡ z
first_is w z e = cc

pub assigned_once : (m : ModuleValue) (text : List ℕ) (w z : Wire) (f g : Formula) → IsModule m → IsAssignment m text w f → IsAssignment m text z g → (w ≡ z) × (f ≡ g)
assigned_once m text w z f g is a b =
    let t = (cons_parts assign assign _ _ (same_tokens m _ _ text is a.1 b.1)).1 in
    let u = cons_parts (name w) (name z) _ _ t in
    let v = (cons_parts equals equals _ _ u.1).1 in
    (first_is w z u.0, sym a.2 ∙ sym (told a.0) ∙ ap (λ (zs : List Token). run zs empty []) (append_cancel_right (tokens a.0) (tokens b.0) (semicolon ∷ []) v) ∙ told b.0 ∙ b.2)
