-- The lines of a file's forms, form by form.
use Rattle.std.specs.Prelude.{◌≡◌, refl, ℕ, ◌<◌, ◌≤◌, ◌+◌, List, [], ◌∷◌, ◌++◌, map, length, slice_get, Some}
use Rattle.std.specs.Option.{IsSomeAnd}
use Rattle.std.proofs.Common.{ap, ap₂, ◌∙◌, sym, subst, drop, arith, slice_index_or, append_assoc, append-nil, length-append}
use Rattle.std.proofs.lemmas.Grind.{flat_map-append}
use Rattle.std.proofs.lemmas.List.{drop_all}
use Rattle.std.proofs.lemmas.Option.{slice_get_within}
use Rattle.line_text.specs.Lines.{text_of}
use Rattle.pg_text.specs.declared.statement.Statement.{Statement}
use Rattle.pg_text.specs.declared.statement.Statement.TheVariants as statement
use Rattle.pg_text.specs.declared.statement.Numbered.{Numbered}
use Rattle.pg_text.specs.Contents.{Contents}
use Rattle.pg_normal.specs.declared.normal.Normal.{Normal}
use Rattle.pg_normal.specs.Forms.{Form}
use Rattle.pg_normal.specs.Normals.{params_in, origins_from, AreNormalsOf}
use Rattle.pg_normal.specs.Listing.{params_lines, form_lines, normal_lines, normal_text}
use Rattle.pg_normal.proofs.NamingLemmas.{next}
use Rattle.pg_normal.proofs.ListingLemmas.{origin_of}

abbrev ended : List ℕ → List ℕ
ended l = l ++ 10 ∷ []

pub heads : {X : Type 0} (a b : X) (xs ys : List X) → a ∷ xs ≡ b ∷ ys → (a ≡ b) × (xs ≡ ys)
heads a b xs ys h = (let e : a ≡ b = cc in e, let e : xs ≡ ys = cc in e)

-- ---- the statement of a form

-- the statement of the first form that is left, those before it and behind it, and the lines of all that are left
pub record Next (f : Contents) (x : Normal) (rest : List Normal) (lines : List (List ℕ)) : Type 0 where
  pub before : List Numbered
  pub here : Numbered
  pub behind : List Numbered
  pub statements : f.statements ≡ before ++ here ∷ behind
  pub place : x.origin.statement ≡ length before
  pub lines_are : lines ≡ form_lines f.operations (params_in f) here.statement x.form ++ normal_lines f.operations (params_in f) behind rest
  pub origins : map origin_of rest ≡ origins_from (length before + 1) behind

module _ (f : Contents) (x : Normal) (rest : List Normal) where
  abbrev lines_of_rest : List Numbered → List (List ℕ)
  lines_of_rest ss = normal_lines f.operations (params_in f) ss (x ∷ rest)

  abbrev Follows : List Numbered → Type 0
  Follows left = (before : List Numbered) → f.statements ≡ before ++ left → x.origin ∷ map origin_of rest ≡ origins_from (length before) left → Next f x rest (lines_of_rest left)

  one_later : (before : List Numbered) (s : Numbered) → length before + 1 ≡ length (before ++ s ∷ [])
  one_later before s = sym (length-append before (s ∷ []))

  follows_from : (n : ℕ) (s : Statement) (left : List Numbered) → Follows left → Follows (record { line = n; statement = s } ∷ left)
  follows_from n (statement.Params ws) left later before is origins =
      let s : Numbered = record { line = n; statement = statement.Params ws } in
      later (before ++ s ∷ []) (is ∙ sym (append_assoc before (s ∷ []) left)) (origins ∙ ap (λ k. origins_from k left) (one_later before s))
  follows_from n (statement.Graph w e) left later before is origins =
      let both = heads _ _ _ _ origins in
      record { before = before; here = record { line = n; statement = statement.Graph w e }; behind = left; statements = is; place = ap (λ o. o.statement) both.0; lines_are = refl; origins = both.1 }
  follows_from n (statement.Scenario w e bs) left later before is origins =
      let both = heads _ _ _ _ origins in
      record {
        before = before;
        here = record { line = n; statement = statement.Scenario w e bs };
        behind =
            left;
        statements = is;
        place = ap (λ o. o.statement) both.0;
        lines_are = refl;
        origins = both.1;
      }

  next_statement : (left : List Numbered) → Follows left
  next_statement [] before is origins = let e = ap length origins in absurd (omega (arith, e))
  next_statement (s ∷ left) before is origins = follows_from s.line s.statement left (next_statement left) before is origins

middle_get : (before behind : List Numbered) (s : Numbered) → slice_get (before ++ s ∷ behind) (length before) ≡ Some s
middle_get [] behind s = refl
middle_get (t ∷ before) behind s = middle_get before behind s

-- ---- what is written

-- what is written before these forms, and that their lines complete the text
pub record Written (f : Contents) (all left : List Normal) (out : List ℕ) : Type 0 where
  pub before : List Numbered
  pub behind : List Numbered
  pub statements : f.statements ≡ before ++ behind
  pub origins : map origin_of left ≡ origins_from (length before) behind
  pub whole : normal_text f all ≡ out ++ text_of (normal_lines f.operations (params_in f) behind left)

pub written_first : (f : Contents) (xs : List Normal) (params : List (List ℕ)) (out : List ℕ) → AreNormalsOf f xs → params ≡ params_in f → out ≡ text_of (params_lines params) → Written f xs xs out
written_first f xs params out are same is = record {
  before = [];
  behind = f.statements;
  statements = refl;
  origins = are.origins;
  whole = flat_map-append ended (params_lines (params_in f)) (normal_lines f.operations (params_in f) f.statements xs)
      ∙ ap (λ t. t ++ text_of (normal_lines f.operations (params_in f) f.statements xs)) (ap (λ ps. text_of (params_lines ps)) (sym same) ∙ sym is);
}

no_lines_from : (names params : List (List ℕ)) (line : ℕ) (s : Statement) (ss : List Numbered) →
    normal_lines names params ss [] ≡ [] → normal_lines names params
    (record { line = line; statement = s } ∷ ss) [] ≡ []
no_lines_from names params line (statement.Params ws) ss none = none
no_lines_from names params line (statement.Graph w e) ss none = refl
no_lines_from names params line (statement.Scenario w e bs) ss none = refl

no_lines : (names params : List (List ℕ)) (ss : List Numbered) → normal_lines names params ss [] ≡ []
no_lines names params [] = refl
no_lines names params (s ∷ ss) = no_lines_from names params s.line s.statement ss (no_lines names params ss)

pub written_last : (f : Contents) (all : List Normal) (k : ℕ) (out : List ℕ) → Written f all (drop k all) out → length all ≤ k → out ≡ normal_text f all
written_last f all k out w le = sym (w.whole ∙ ap (λ xs. out ++ text_of (normal_lines f.operations (params_in f) w.behind xs)) (drop_all k all le)
    ∙ ap (λ ls. out ++ text_of ls) (no_lines f.operations (params_in f) w.behind) ∙ append-nil out)

-- the first of the forms that are left
module _ (f : Contents) (all : List Normal) (k : ℕ) (x d : Normal) (out : List ℕ) (within : k < length all) (is : x ≡ slice_index_or all k d) (w : Written f all (drop k all) out) where
  left_is : drop k all ≡ x ∷ drop (k + 1) all
  left_is = next all k x d within is

  here : Next f x (drop (k + 1) all) (normal_lines f.operations (params_in f) w.behind (x ∷ drop (k + 1) all))
  here = next_statement f x (drop (k + 1) all) w.behind w.before w.statements (ap (map origin_of) (sym left_is) ∙ w.origins)

  stands : slice_get f.statements x.origin.statement ≡ Some here.here
  stands = ap₂ slice_get here.statements here.place ∙ middle_get here.before here.behind here.here

  pub statement_within : x.origin.statement < length f.statements
  statement_within = slice_get_within f.statements x.origin.statement here.here stands

  pub written_more : (s : Statement) (names params : List (List ℕ)) (form : Form) (new : List ℕ) →
      IsSomeAnd (slice_get f.statements x.origin.statement) (λ n. s ≡ n.statement) → names ≡ f.operations →
      params ≡ params_in f → form ≡ x.form
      → new ≡ out ++ text_of (form_lines names params s form) → Written f all (drop (k + 1) all) new
  written_more s names params form new at_s names_are params_are form_is put = record {
    before = here.before ++ here.here ∷ [];
    behind = here.behind;
    statements = here.statements ∙ sym (append_assoc here.before (here.here ∷ []) here.behind);
    origins = here.origins ∙ ap (λ n. origins_from n here.behind) (sym (length-append here.before (here.here ∷ [])));
    whole = w.whole ∙ ap (λ xs. out ++ text_of (normal_lines f.operations (params_in f) w.behind xs)) left_is ∙ ap (λ ls. out ++ text_of ls) here.lines_are
        ∙ ap (λ t. out ++ t) (flat_map-append ended (form_lines f.operations (params_in f) here.here.statement x.form) (normal_lines f.operations (params_in f) here.behind (drop (k + 1) all)))
        ∙ sym (append_assoc out (text_of (form_lines f.operations (params_in f) here.here.statement x.form)) (text_of (normal_lines f.operations (params_in f) here.behind (drop (k + 1) all))))
        ∙ ap (λ t. t ++ text_of (normal_lines f.operations (params_in f) here.behind (drop (k + 1) all))) (sym new_is);
  }
    where
      statement_is : s ≡ here.here.statement
      statement_is = subst (λ o. IsSomeAnd o (λ n. s ≡ n.statement)) stands at_s

      new_is : new ≡ out ++ text_of (form_lines f.operations (params_in f) here.here.statement x.form)
      new_is = put ∙ ap₂ (λ ns ps. out ++ text_of (form_lines ns ps s form)) names_are params_are ∙ ap₂ (λ t y. out ++ text_of (form_lines f.operations (params_in f) t y)) statement_is form_is
