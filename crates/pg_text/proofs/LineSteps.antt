-- A line is read part by part.
use Rattle.std.specs.Prelude.{◌≡◌, ℕ, Bool, List, [], ◌∷◌, ◌++◌, Some, None, refl}
use Rattle.std.proofs.Common.{sym, ap, subst}
use Rattle.pg_algebra.specs.declared.expr.Expr.{Expr}
use Rattle.pg_text.specs.declared.sign.Sign.TheVariants as signs
use Rattle.pg_text.specs.declared.sign.Fixed.TheVariants as words
use Rattle.pg_text.specs.declared.fault.LineFault.{LineFault}
use Rattle.pg_text.specs.declared.fault.LineFault.TheVariants as fault
use Rattle.pg_text.specs.declared.statement.Statement.{Statement}
use Rattle.pg_text.specs.declared.statement.Statement.TheVariants as statement
use Rattle.pg_text.specs.Tokens.{name, word, sign, bit_word, BeginsWith, BeginsWithAll, HasNoToken}
use Rattle.pg_text.specs.Faults.{IsDue}
use Rattle.pg_text.specs.Grammar.{graph, row, sum, tokens}
use Rattle.pg_text.specs.Sentences.{params_line, graph_line, scenario_line, commas, name_tokens, left_tokens, bind_tokens, with_tokens}
use Rattle.pg_text.specs.Reading.{Lacks, Reads, ReadsNone}
use Rattle.pg_text.specs.ReadingLines.{ReadsCommas, NoCommas, ReadsWith, NoWith, ReadsDefinition, NoDefinition, ReadsSentence, ReadsLine, NoSentence, NoLine}
use Rattle.pg_text.proofs.TokenLaws.{same_token}
use Rattle.pg_text.proofs.PhraseLaws.{both_begin, parts_begin, after_token, end_lacks}
use Rattle.pg_text.proofs.CommaSteps.{same_commas}
use Rattle.pg_text.proofs.SentenceLaws.{same_left, same_name, split_binding, same_with, with_stops_at_end, same_definition, params_behind, graph_behind, scenario_behind, same_word, params_no_graph, params_no_scenario, graph_no_scenario}

-- ---- `NAME =`, and a binding

pub no_left_name : (bytes : List ℕ) → ((w rest : List ℕ) → BeginsWith bytes (name w) rest → ⊥) → (w rest : List ℕ) → BeginsWithAll bytes (left_tokens w) rest → ⊥
no_left_name bytes none w rest h = none w h.0 h.1

pub no_left_equals : (bytes after v : List ℕ) → BeginsWith bytes (name v) after → Lacks (sign signs.Equals) after → (w rest : List ℕ) → BeginsWithAll bytes (left_tokens w) rest → ⊥
no_left_equals bytes after v first none w rest h =
    none h.2.0 (subst (λ m. BeginsWith m (sign signs.Equals) h.2.0) (same_token bytes (name w) (name v) h.0 after h.1 first).1 h.2.1)

pub no_binding_left : (bytes : List ℕ) → ((w rest : List ℕ) → BeginsWithAll bytes (left_tokens w) rest → ⊥) → (w : List ℕ) (b : Bool) (rest : List ℕ) → BeginsWithAll bytes (bind_tokens (w, b)) rest → ⊥
no_binding_left bytes none w b rest h = let p = split_binding w b bytes rest h in none w p.0 p.1

pub no_binding_bit : (bytes after v : List ℕ) → BeginsWithAll bytes (left_tokens v) after → ((b : Bool) (rest : List ℕ) → BeginsWith after (bit_word b) rest → ⊥)
    → (w : List ℕ) (b : Bool) (rest : List ℕ) → BeginsWithAll bytes (bind_tokens (w, b)) rest → ⊥
no_binding_bit bytes after v first none w b rest h =
    let p = split_binding w b bytes rest h in
    none b rest (subst (λ m. BeginsWith m (bit_word b) rest) (same_left w v bytes p.0 after p.1 first).1 p.2)

-- a member that no binding is
pub no_binding : (bytes : List ℕ) → ((w : List ℕ) (b : Bool) (rest : List ℕ) → BeginsWithAll bytes (bind_tokens (w, b)) rest → ⊥) → (x : List ℕ × Bool) (rest : List ℕ) → BeginsWithAll bytes (bind_tokens x) rest → ⊥
no_binding bytes none (w, b) rest h = none w b rest h

pub no_name_item : (bytes : List ℕ) → ((w rest : List ℕ) → BeginsWith bytes (name w) rest → ⊥) → (w rest : List ℕ) → BeginsWithAll bytes (name_tokens w) rest → ⊥
no_name_item bytes none w rest h = none w h.0 h.1

pub name_item : (bytes after w v : List ℕ) → BeginsWith bytes (name w) after → v ≡ w → BeginsWithAll bytes (name_tokens v) after
name_item bytes after w v h is = (after, subst (λ x. BeginsWith bytes (name x) after) (sym is) h, refl)

pub binding_item : (bytes after w v : List ℕ) (b : Bool) → BeginsWithAll bytes (bind_tokens (w, b)) after → v ≡ w → BeginsWithAll bytes (bind_tokens (v, b)) after
binding_item bytes after w v b h is = subst (λ x. BeginsWithAll bytes (bind_tokens (x, b)) after) (sym is) h

-- ---- the bindings of a scenario

pub none_read : (bytes : List ℕ) (bs : List (List ℕ × Bool)) → Lacks (word words.With) bytes → bs ≡ [] → ReadsWith bytes bs bytes
none_read bytes bs lacks is = subst (λ x. ReadsWith bytes x bytes) (sym is) (record { spelled = refl; stops = lacks })

pub with_read : (bytes after : List ℕ) (bs : List (List ℕ × Bool)) (rest : List ℕ) → BeginsWith bytes (word words.With) after → ReadsCommas bind_tokens after bs rest → ReadsWith bytes bs rest
with_read bytes after bs rest h k = subst (λ x. ReadsWith bytes x rest) (sym k.means) (record { spelled = (after, h, k.spelled); stops = k.stops })

pub no_with : (bytes after : List ℕ) → BeginsWith bytes (word words.With) after → (e : LineFault) → IsDue (NoCommas bind_tokens after) e → IsDue (NoWith bytes) e
no_with bytes after h fault.Memory k = tt
no_with bytes after h fault.Bad k = by
  where
    by : NoWith bytes
    by [] rest m stops = subst (Lacks (word words.With)) (sym m) stops after h
    by (x ∷ xs) rest m stops = k x xs rest (after_token bytes (word words.With) m.0 after (commas bind_tokens x xs) rest m.1 h m.2) stops

-- ---- `NAME = expr`

pub no_definition_left : (bytes : List ℕ) → ((w rest : List ℕ) → BeginsWithAll bytes (left_tokens w) rest → ⊥) → NoDefinition bytes
no_definition_left bytes none w p rest h = let m = parts_begin (left_tokens w) (tokens p) bytes rest h.spelled in none w m.0 m.1

pub no_definition_expr : (bytes after v : List ℕ) → BeginsWithAll bytes (left_tokens v) after → (e : LineFault) → IsDue (ReadsNone graph (row sum) 100 after) e → IsDue (NoDefinition bytes) e
no_definition_expr bytes after v first fault.Memory h = tt
no_definition_expr bytes after v first fault.Bad h = λ w p rest k.
    let m = parts_begin (left_tokens w) (tokens p) bytes rest k.spelled in
    h p rest (record { spelled = subst (λ x. BeginsWithAll x (tokens p) rest) (same_left w v bytes m.0 after m.1 first).1 m.2; within = k.within; stops = k.stops })

pub definition_read : (names names_new : List (List ℕ)) (bytes after v w : List ℕ) (t : Expr) (rest : List ℕ) → BeginsWithAll bytes (left_tokens v) after → w ≡ v → Reads graph (row sum) 100 names after t names_new rest
    → ReadsDefinition names bytes w t names_new rest
definition_read names names_new bytes after v w t rest first is h = record {
  phrase = h.phrase;
  front = record { spelled = both_begin (left_tokens w) (tokens h.phrase) bytes after rest (subst (λ x. BeginsWithAll bytes (left_tokens x) after) (sym is) first) h.front.spelled; within = h.front.within; stops = h.front.stops };
  means = h.means;
  named = h.named;
}

-- ---- a line of parameters

module _ (line after : List ℕ) (first : BeginsWith line (word words.Params) after) where
  pub no_params : (e : LineFault) → IsDue (NoCommas name_tokens after) e → IsDue (NoSentence line) e
  no_params fault.Memory h = tt
  no_params fault.Bad h = by
    where
      by : NoSentence line
      by (params_line w ws) k = let p = params_behind w ws line after first k in h w ws p.rest p.spelled (end_lacks (sign signs.Comma) p.rest p.ends)
      by (graph_line w x) k = params_no_graph (sym (same_word (graph_line w x) words.Params line after k first))
      by (scenario_line w x bs) k = params_no_scenario (sym (same_word (scenario_line w x bs) words.Params line after k first))

  pub params_no_end : (items : List (List ℕ)) (rest : List ℕ) → ReadsCommas name_tokens after items rest → (HasNoToken rest → ⊥) → NoSentence line
  params_no_end items rest h goes_on = by
    where
      by : NoSentence line
      by (params_line w ws) k =
          let p = params_behind w ws line after first k in
          goes_on (subst HasNoToken (same_commas name_tokens same_name w h.first ws h.others after p.rest rest p.spelled h.spelled (end_lacks (sign signs.Comma) p.rest p.ends) h.stops).2 p.ends)
      by (graph_line w x) k = params_no_graph (sym (same_word (graph_line w x) words.Params line after k first))
      by (scenario_line w x bs) k = params_no_scenario (sym (same_word (scenario_line w x bs) words.Params line after k first))

  pub params_read : (items : List (List ℕ)) (rest : List ℕ) → ReadsCommas name_tokens after items rest → HasNoToken rest → (names : List (List ℕ)) → ReadsSentence names line (statement.Params items) names
  params_read items rest h ends names = record {
    sentence = params_line h.first h.others;
    spelled = ((rest, (after, first, h.spelled), ends), tt);
    means = ap statement.Params h.means;
    named = refl;
  }

-- ---- a line of a graph

module _ (line after : List ℕ) (first : BeginsWith line (word words.Graph) after) where
  pub no_graph_definition : (e : LineFault) → IsDue (NoDefinition after) e → IsDue (NoSentence line) e
  no_graph_definition fault.Memory h = tt
  no_graph_definition fault.Bad h = by
    where
      by : NoSentence line
      by (params_line w ws) k = params_no_graph (same_word (params_line w ws) words.Graph line after k first)
      by (graph_line w x) k = let p = graph_behind w x line after first k in h w x p.rest p.definition
      by (scenario_line w x bs) k = graph_no_scenario (sym (same_word (scenario_line w x bs) words.Graph line after k first))

  module _ (names names_new : List (List ℕ)) (v : List ℕ) (t : Expr) (rest : List ℕ) (h : ReadsDefinition names after v t names_new rest) where
    pub graph_no_end : (HasNoToken rest → ⊥) → NoSentence line
    graph_no_end goes_on = by
      where
        by : NoSentence line
        by (params_line w ws) k = params_no_graph (same_word (params_line w ws) words.Graph line after k first)
        by (graph_line w x) k =
            let p = graph_behind w x line after first k in
            goes_on (subst HasNoToken (same_definition w v x h.phrase after p.rest rest p.definition h.front).2 p.ends)
        by (scenario_line w x bs) k = graph_no_scenario (sym (same_word (scenario_line w x bs) words.Graph line after k first))

    pub graph_read : HasNoToken rest → ReadsSentence names line (statement.Graph v t) names_new
    graph_read ends = record {
      sentence = graph_line v h.phrase;
      spelled = ((rest, (after, first, h.front.spelled), ends), h.front.within);
      means = ap (statement.Graph v) h.means;
      named = h.named;
    }

-- ---- a line of a scenario

module _ (line after : List ℕ) (first : BeginsWith line (word words.Scenario) after) where
  pub no_scenario_definition : (e : LineFault) → IsDue (NoDefinition after) e → IsDue (NoSentence line) e
  no_scenario_definition fault.Memory h = tt
  no_scenario_definition fault.Bad h = by
    where
      by : NoSentence line
      by (params_line w ws) k = params_no_scenario (same_word (params_line w ws) words.Scenario line after k first)
      by (graph_line w x) k = graph_no_scenario (same_word (graph_line w x) words.Scenario line after k first)
      by (scenario_line w x bs) k = let p = scenario_behind w x bs line after first k in h w x p.middle p.definition

  module _ (names names_new : List (List ℕ)) (v : List ℕ) (t : Expr) (left : List ℕ) (h : ReadsDefinition names after v t names_new left) where
    pub no_scenario_with : (e : LineFault) → IsDue (NoWith left) e → IsDue (NoSentence line) e
    no_scenario_with fault.Memory k = tt
    no_scenario_with fault.Bad none = by
      where
        by : NoSentence line
        by (params_line w ws) k = params_no_scenario (same_word (params_line w ws) words.Scenario line after k first)
        by (graph_line w x) k = graph_no_scenario (same_word (graph_line w x) words.Scenario line after k first)
        by (scenario_line w x bs) k =
            let p = scenario_behind w x bs line after first k in
            let e = same_definition w v x h.phrase after p.middle left p.definition h.front in
            none bs p.rest (subst (λ m. BeginsWithAll m (with_tokens bs) p.rest) e.2 p.bindings) (with_stops_at_end bs p.rest p.ends)

    module _ (bindings : List (List ℕ × Bool)) (rest : List ℕ) (r : ReadsWith left bindings rest) where
      pub scenario_no_end : (HasNoToken rest → ⊥) → NoSentence line
      scenario_no_end goes_on = by
        where
          by : NoSentence line
          by (params_line w ws) k = params_no_scenario (same_word (params_line w ws) words.Scenario line after k first)
          by (graph_line w x) k = graph_no_scenario (same_word (graph_line w x) words.Scenario line after k first)
          by (scenario_line w x bs) k =
              let p = scenario_behind w x bs line after first k in
              let e = same_definition w v x h.phrase after p.middle left p.definition h.front in
              let f = same_with bs bindings left p.rest rest (subst (λ m. BeginsWithAll m (with_tokens bs) p.rest) e.2 p.bindings) r.spelled (with_stops_at_end bs p.rest p.ends) r.stops in
              goes_on (subst HasNoToken f.1 p.ends)

      pub scenario_read : HasNoToken rest → ReadsSentence names line (statement.Scenario v t bindings) names_new
      scenario_read ends =
          let l = parts_begin (left_tokens v) (tokens h.phrase) after left h.front.spelled in
          record {
            sentence = scenario_line v h.phrase bindings;
            spelled = (
              (
                rest,
                (after, first, both_begin (left_tokens v) (tokens h.phrase ++ with_tokens bindings) after l.0 rest l.1 (both_begin (tokens h.phrase) (with_tokens bindings) l.0 left rest l.2 r.spelled)),
                ends,
              ),
              h.front.within,
            );
            means = ap (λ x. statement.Scenario v x bindings) h.means;
            named = h.named;
          }

-- ---- the line

pub no_first_word : (line : List ℕ) → Lacks (word words.Scenario) line → Lacks (word words.Graph) line → Lacks (word words.Params) line → NoSentence line
no_first_word line no_scenario no_graph no_params (params_line w ws) h = no_params h.0.1.0 h.0.1.1
no_first_word line no_scenario no_graph no_params (graph_line w x) h = no_graph h.0.1.0 h.0.1.1
no_first_word line no_scenario no_graph no_params (scenario_line w x bs) h = no_scenario h.0.1.0 h.0.1.1

pub blank_read : (names : List (List ℕ)) (line : List ℕ) → HasNoToken line → ReadsLine names line None names
blank_read names line none = record { sentence = None; spelled = (line, refl, none); means = refl; named = refl }

pub line_read : (names0 names1 : List (List ℕ)) (line : List ℕ) (s : Statement) → ReadsSentence names0 line s names1 → ReadsLine names0 line (Some s) names1
line_read names0 names1 line s h = record { sentence = Some h.sentence; spelled = h.spelled; means = ap Some h.means; named = h.named }

pub no_line : (line : List ℕ) → (HasNoToken line → ⊥) → (e : LineFault) → IsDue (NoSentence line) e → IsDue (NoLine line) e
no_line line some fault.Memory h = tt
no_line line some fault.Bad h = by
  where
    by : NoLine line
    by None k = some (subst HasNoToken (sym k.1) k.2)
    by (Some x) k = h x k
