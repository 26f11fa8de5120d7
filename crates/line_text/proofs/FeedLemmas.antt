-- Texts that hold no line feed.
use Rattle.std.proofs.Common.{◌≡◌, ◌≢◌, ℕ, ◌^◌, ◌<◌, Bool, true, eqb, eq-eqb, not, ◌&&◌, List, [], ◌∷◌, ◌++◌, map, refl, ap}
use Rattle.std.specs.List.{AllByRecursion}
use Rattle.std.specs.Fmt.{decimal}
use Rattle.std.proofs.lemmas.Bool.{and_parts}
use Rattle.line_text.specs.Words.{continues_name}
use Rattle.line_text.proofs.TellingLemmas.{AllPass, apart, decimal_continues}

-- no byte is a line feed
abbrev pub NoFeed : List ℕ → Type 0
NoFeed line = AllByRecursion (λ b. b ≢ 10) line

pub joined_free : (x y : List ℕ) → NoFeed x → NoFeed y → NoFeed (x ++ y)
joined_free [] y hx hy = hy
joined_free (b ∷ bs) y hx hy = (hx.0, joined_free bs y hx.1 hy)

-- bytes of names are no line feeds
pub passes_free : (w : List ℕ) → AllPass continues_name w → NoFeed w
passes_free [] h = tt
passes_free (b ∷ bs) h = ((λ e. apart (continues_name b) (continues_name 10) h.0 refl (ap continues_name e)), passes_free bs h.1)

-- whether no byte is a line feed
abbrev pub is_clean : List ℕ → Bool
is_clean [] = true
is_clean (b ∷ bs) = not (eqb b 10) && is_clean bs

pub clean_free : (w : List ℕ) → is_clean w ≡ true → NoFeed w
clean_free [] h = tt
clean_free (b ∷ bs) h =
    let t = and_parts (not (eqb b 10)) (is_clean bs) h in
    ((λ e. apart (not (eqb b 10)) (not true) t.0 refl (ap not (eq-eqb b 10 e))), clean_free bs t.1)

pub clean_front : (w x : List ℕ) → is_clean w ≡ true → NoFeed x → NoFeed (w ++ x)
clean_front w x h hx = joined_free w x (clean_free w h) hx

pub decimal_free : (n : ℕ) → n < 2 ^ 64 → NoFeed (decimal n)
decimal_free n lt = passes_free (decimal n) (decimal_continues n lt)

pub mapped_free : {X : Type 0} (text : X → List ℕ) → ((x : X) → NoFeed (text x)) → (xs : List X) → AllByRecursion NoFeed (map text xs)
mapped_free text free [] = tt
mapped_free text free (x ∷ xs) = (free x, mapped_free text free xs)
