-- A line is one statement at most.
use Rattle.std.specs.Prelude.{◌≡◌, ℕ, Bool, List, [], ◌∷◌, ◌++◌, Option, Some, None, refl}
use Rattle.std.proofs.Common.{sym, ◌∙◌, ap, ap₂, subst}
use Rattle.pg_text.specs.declared.sign.Sign.TheVariants as signs
use Rattle.pg_text.specs.declared.sign.Fixed.{Fixed}
use Rattle.pg_text.specs.declared.sign.Fixed.TheVariants as words
use Rattle.pg_text.specs.Tokens.{name, word, sign, bit_word, BeginsWith, BeginsWithAll, HasNoToken}
use Rattle.pg_text.specs.Grammar.{Side, Level, graph, row, sum, Phrase, tokens}
use Rattle.pg_text.specs.Sentences.{Sentence, params_line, graph_line, scenario_line, commas, name_tokens, left_tokens, bind_tokens, with_tokens, IsSentence, IsLine}
use Rattle.pg_text.specs.Reading.{Lacks, Stops}
use Rattle.pg_text.specs.ReadingLines.{WithStops, IsDefinition}
use Rattle.pg_text.proofs.TokenLaws.{same_token, no_token}
use Rattle.pg_text.proofs.PhraseLaws.{both_begin, parts_begin, after_token, same_phrase, stops_at_end, stops_at_with, end_lacks, name_of, bit_of}
use Rattle.pg_text.proofs.CommaSteps.{IsOne, same_commas}

pub same_name : IsOne name_tokens
same_name v w bytes a b h k = let e = same_token bytes (name v) (name w) h.0 k.0 h.1 k.1 in (name_of v w e.0, sym h.2 ∙ e.1 ∙ k.2)

pub same_left : IsOne left_tokens
same_left v w bytes a b h k =
    let e = same_token bytes (name v) (name w) h.0 k.0 h.1 k.1 in
    let f = same_token k.0 (sign signs.Equals) (sign signs.Equals) h.2.0 k.2.0 (subst (λ m. BeginsWith m (sign signs.Equals) h.2.0) e.1 h.2.1) k.2.1 in
    (name_of v w e.0, sym h.2.2 ∙ f.1 ∙ k.2.2)

-- a binding is a left side and a bit
pub split_binding : (w : List ℕ) (b : Bool) (bytes rest : List ℕ) → BeginsWithAll bytes (bind_tokens (w, b)) rest → (middle : List ℕ) × BeginsWithAll bytes (left_tokens w) middle × BeginsWith middle (bit_word b) rest
split_binding w b bytes rest h = (h.2.0, (h.0, h.1, (h.2.0, h.2.1, refl)), subst (λ r. BeginsWith h.2.0 (bit_word b) r) h.2.2.2 h.2.2.1)

pub join_binding : (w : List ℕ) (b : Bool) (bytes middle rest : List ℕ) → BeginsWithAll bytes (left_tokens w) middle → BeginsWith middle (bit_word b) rest → BeginsWithAll bytes (bind_tokens (w, b)) rest
join_binding w b bytes middle rest h k = both_begin (left_tokens w) (bit_word b ∷ []) bytes middle rest h (rest, k, refl)

pub same_binding : IsOne bind_tokens
same_binding (v, a) (w, b) bytes q r h k =
    let p = split_binding v a bytes q h in
    let o = split_binding w b bytes r k in
    let e = same_left v w bytes p.0 o.0 p.1 o.1 in
    let f = same_token o.0 (bit_word a) (bit_word b) q r (subst (λ m. BeginsWith m (bit_word a) q) e.1 p.2) o.2 in
    (ap₂ (λ x y. (x, y)) e.0 (bit_of a b f.0), f.1)

pub same_with : (a b : List (List ℕ × Bool)) (bytes q r : List ℕ) → BeginsWithAll bytes (with_tokens a) q → BeginsWithAll bytes (with_tokens b) r → WithStops a q → WithStops b r → (a ≡ b) × (q ≡ r)
same_with [] [] bytes q r h k hq hr = (refl, sym h ∙ k)
same_with [] (y ∷ ys) bytes q r h k hq hr = absurd (subst (Lacks (word words.With)) (sym h) hq k.0 k.1)
same_with (x ∷ xs) [] bytes q r h k hq hr = absurd (subst (Lacks (word words.With)) (sym k) hr h.0 h.1)
same_with (x ∷ xs) (y ∷ ys) bytes q r h k hq hr =
    let e = same_commas bind_tokens same_binding x y xs ys k.0 q r (after_token bytes (word words.With) h.0 k.0 (commas bind_tokens x xs) q h.1 k.1 h.2) k.2 hq hr in
    (ap₂ (λ c cs. c ∷ cs) e.0 e.1, e.2)

pub with_stops_at_end : (a : List (List ℕ × Bool)) (bytes : List ℕ) → HasNoToken bytes → WithStops a bytes
with_stops_at_end [] bytes none = end_lacks (word words.With) bytes none
with_stops_at_end (x ∷ xs) bytes none = end_lacks (sign signs.Comma) bytes none

-- before the bindings and the end of the line a row stops
pub stops_before_with : (s : Side) (l : Level) (a : List (List ℕ × Bool)) (bytes rest : List ℕ) → BeginsWithAll bytes (with_tokens a) rest → HasNoToken rest → Stops s l bytes
stops_before_with s l [] bytes rest h none = stops_at_end s l bytes (subst HasNoToken (sym h) none)
stops_before_with s l (x ∷ xs) bytes rest h none = stops_at_with s l bytes h.0 h.1

pub same_definition : (v w : List ℕ) (p q : Phrase graph (row sum)) (bytes a b : List ℕ) → IsDefinition bytes v p a → IsDefinition bytes w q b → (v ≡ w) × (p ≡ q) × (a ≡ b)
same_definition v w p q bytes a b h k =
    let m = parts_begin (left_tokens v) (tokens p) bytes a h.spelled in
    let n = parts_begin (left_tokens w) (tokens q) bytes b k.spelled in
    let e = same_left v w bytes m.0 n.0 m.1 n.1 in
    let f = same_phrase p q n.0 a b (subst (λ x. BeginsWithAll x (tokens p) a) e.1 m.2) n.2 h.stops k.stops in
    (e.0, f.0, f.1)

-- ---- what each statement is behind its first word

pub record IsParams (w : List ℕ) (ws : List (List ℕ)) (after : List ℕ) : Type 0 where
  pub rest : List ℕ
  pub spelled : BeginsWithAll after (commas name_tokens w ws) rest
  pub ends : HasNoToken rest

pub record IsGraph (w : List ℕ) (p : Phrase graph (row sum)) (after : List ℕ) : Type 0 where
  pub rest : List ℕ
  pub definition : IsDefinition after w p rest
  pub ends : HasNoToken rest

pub record IsScenario (w : List ℕ) (p : Phrase graph (row sum)) (bs : List (List ℕ × Bool)) (after : List ℕ) : Type 0 where
  pub middle : List ℕ
  pub rest : List ℕ
  pub definition : IsDefinition after w p middle
  pub bindings : BeginsWithAll middle (with_tokens bs) rest
  pub ends : HasNoToken rest

pub params_behind : (w : List ℕ) (ws : List (List ℕ)) (line after : List ℕ) → BeginsWith line (word words.Params) after → IsSentence (params_line w ws) line → IsParams w ws after
params_behind w ws line after h k =
    record { rest = k.0.0; spelled = after_token line (word words.Params) k.0.1.0 after (commas name_tokens w ws) k.0.0 k.0.1.1 h k.0.1.2; ends = k.0.2 }

pub graph_behind : (w : List ℕ) (p : Phrase graph (row sum)) (line after : List ℕ) → BeginsWith line (word words.Graph) after → IsSentence (graph_line w p) line → IsGraph w p after
graph_behind w p line after h k = record {
  rest = k.0.0;
  definition = record {
    spelled = after_token line (word words.Graph) k.0.1.0 after (left_tokens w ++ tokens p) k.0.0 k.0.1.1 h k.0.1.2;
    within = k.1;
    stops = stops_at_end graph (row sum) k.0.0 k.0.2;
  };
  ends = k.0.2;
}

pub scenario_behind : (w : List ℕ) (p : Phrase graph (row sum)) (bs : List (List ℕ × Bool)) (line after : List ℕ) → BeginsWith line (word words.Scenario) after → IsSentence (scenario_line w p bs) line → IsScenario w p bs after
scenario_behind w p bs line after h k =
    let m = after_token line (word words.Scenario) k.0.1.0 after (left_tokens w ++ (tokens p ++ with_tokens bs)) k.0.0 k.0.1.1 h k.0.1.2 in
    let l = parts_begin (left_tokens w) (tokens p ++ with_tokens bs) after k.0.0 m in
    let o = parts_begin (tokens p) (with_tokens bs) l.0 k.0.0 l.2 in
    record {
      middle = o.0;
      rest = k.0.0;
      definition = record { spelled = both_begin (left_tokens w) (tokens p) after l.0 o.0 l.1 o.1; within = k.1; stops = stops_before_with graph (row sum) bs o.0 k.0.0 o.2 k.0.2 };
      bindings = o.2;
      ends = k.0.2;
    }

-- ---- one statement

abbrev first_word : Sentence → Fixed
first_word (params_line w ws) = words.Params
first_word (graph_line w x) = words.Graph
first_word (scenario_line w x bs) = words.Scenario

pub begins : (x : Sentence) (line : List ℕ) → IsSentence x line → (after : List ℕ) × BeginsWith line (word (first_word x)) after
begins (params_line w ws) line h = (h.0.1.0, h.0.1.1)
begins (graph_line w x) line h = (h.0.1.0, h.0.1.1)
begins (scenario_line w x bs) line h = (h.0.1.0, h.0.1.1)

word_of : (v w : Fixed) → word v ≡ word w → v ≡ w
word_of v w e = cc

-- the first word of a line tells its statement
pub same_word : (x : Sentence) (w : Fixed) (line after : List ℕ) → IsSentence x line → BeginsWith line (word w) after → first_word x ≡ w
same_word x w line after h k = let b = begins x line h in word_of (first_word x) w (same_token line (word (first_word x)) (word w) b.0 after b.1 k).0

pub params_no_graph : words.Params ≡ words.Graph → ⊥
params_no_graph e = cc

pub params_no_scenario : words.Params ≡ words.Scenario → ⊥
params_no_scenario e = cc

pub graph_no_scenario : words.Graph ≡ words.Scenario → ⊥
graph_no_scenario e = cc

same_scenario : (v w : List ℕ) (x y : Phrase graph (row sum)) (a b : List (List ℕ × Bool)) → v ≡ w → x ≡ y → a ≡ b → scenario_line v x a ≡ scenario_line w y b
same_scenario v w x y a b p q r = λ i. scenario_line (p i) (q i) (r i)

same_sentence : (x y : Sentence) (line : List ℕ) → IsSentence x line → IsSentence y line → x ≡ y
same_sentence (params_line v vs) (params_line w ws) line h k =
    let a = params_behind v vs line k.0.1.0 k.0.1.1 h in
    let b = params_behind w ws line k.0.1.0 k.0.1.1 k in
    let e = same_commas name_tokens same_name v w vs ws k.0.1.0 a.rest b.rest a.spelled b.spelled (end_lacks (sign signs.Comma) a.rest a.ends) (end_lacks (sign signs.Comma) b.rest b.ends) in
    ap₂ params_line e.0 e.1
same_sentence (params_line v vs) (graph_line w x) line h k = absurd (params_no_graph (same_word (params_line v vs) words.Graph line k.0.1.0 h k.0.1.1))
same_sentence (params_line v vs) (scenario_line w x bs) line h k = absurd (params_no_scenario (same_word (params_line v vs) words.Scenario line k.0.1.0 h k.0.1.1))
same_sentence (graph_line w x) (params_line v vs) line h k = absurd (params_no_graph (sym (same_word (graph_line w x) words.Params line k.0.1.0 h k.0.1.1)))
same_sentence (graph_line v x) (graph_line w y) line h k =
    let a = graph_behind v x line k.0.1.0 k.0.1.1 h in
    let b = graph_behind w y line k.0.1.0 k.0.1.1 k in
    let e = same_definition v w x y k.0.1.0 a.rest b.rest a.definition b.definition in
    ap₂ graph_line e.0 e.1
same_sentence (graph_line v x) (scenario_line w y bs) line h k = absurd (graph_no_scenario (same_word (graph_line v x) words.Scenario line k.0.1.0 h k.0.1.1))
same_sentence (scenario_line w x bs) (params_line v vs) line h k = absurd (params_no_scenario (sym (same_word (scenario_line w x bs) words.Params line k.0.1.0 h k.0.1.1)))
same_sentence (scenario_line v x bs) (graph_line w y) line h k = absurd (graph_no_scenario (sym (same_word (scenario_line v x bs) words.Graph line k.0.1.0 h k.0.1.1)))
same_sentence (scenario_line v x as_) (scenario_line w y bs) line h k =
    let a = scenario_behind v x as_ line k.0.1.0 k.0.1.1 h in
    let b = scenario_behind w y bs line k.0.1.0 k.0.1.1 k in
    let e = same_definition v w x y k.0.1.0 a.middle b.middle a.definition b.definition in
    let f = same_with as_ bs b.middle a.rest b.rest (subst (λ m. BeginsWithAll m (with_tokens as_) a.rest) e.2 a.bindings) b.bindings (with_stops_at_end as_ a.rest a.ends) (with_stops_at_end bs b.rest b.ends) in
    same_scenario v w x y as_ bs e.0 e.1 f.0

nothing_spelled : (line rest : List ℕ) → line ≡ rest → HasNoToken rest → HasNoToken line
nothing_spelled line rest e none = subst HasNoToken (sym e) none

-- a line with a statement is not blank
pub no_sentence : (x : Sentence) (line : List ℕ) → HasNoToken line → IsSentence x line → ⊥
no_sentence x line none h = let b = begins x line h in no_token line (word (first_word x)) b.0 none b.1

pub same_line : (x y : Option Sentence) (line : List ℕ) → IsLine x line → IsLine y line → x ≡ y
same_line None None line h k = refl
same_line None (Some y) line h k = absurd (no_sentence y line (nothing_spelled line h.0 h.1 h.2) k)
same_line (Some x) None line h k = absurd (no_sentence x line (nothing_spelled line k.0 k.1 k.2) h)
same_line (Some x) (Some y) line h k = ap Some (same_sentence x y line h k)
