-- What is allowed for the same words and bytes is one answer, but for what a search finds.
use Rattle.std.proofs.Common.{◌≡◌, ◌≢◌, ℕ, ◌<◌, ◌≤◌, ◌⊎◌, List, length, Some, None, refl, sym, ap, ap₂, ◌∙◌, subst, arith, inl, inr}
use Rattle.std.specs.Prelude.{Option}
use Rattle.std.proofs.lemmas.Option.{none-some, same_Some}
use Rattle.cpog_base.specs.declared.limits.TheConstants.{INPUT_LIMIT, LONG_INPUT_LIMIT}
use Rattle.cpog_base.specs.declared.limits.Counted.{Counted}
use Rattle.cpog_base.specs.declared.status.Status.{Status}
use Rattle.cpog_base.specs.declared.status.Status.TheVariants as status
use Rattle.cpog_outside.specs.Told.{IsAllOf, IsLonger}
use Rattle.pg_text.specs.declared.fault.FileFault.TheVariants as fault
use Rattle.pg_text.specs.Contents.{Contents}
use Rattle.pg_text.specs.Lines.{graph_lines}
use Rattle.pg_text.specs.Text.{IsGoodLine}
use Rattle.pg_text.proofs.TextLaws.{one_file, one_first_bad, one_fault, file_has_no_fault}
use Rattle.refusal_lines.specs.declared.refusal.Refusal.TheVariants as refusal
use Rattle.command_words.specs.declared.words.Command.{Command}
use Rattle.command_words.specs.declared.words.Command.TheVariants as command
use Rattle.command_words.specs.Words.{command_of}
use Rattle.refusal_lines.specs.Refusal.{refusal_text, At}
use Rattle.graph_answers.specs.Refusals.{IsBadLineAnswer, IsPassedAnswer}
use Rattle.graph_answers.specs.Answers.{IsSynthAnswer, IsNormalAnswer, IsCnfAnswer, IsAnswerOfFile, IsGraphTextAnswer}
use Rattle.formula_answers.specs.Solved.{IsSolveAnswer}
use Rattle.cpog_app.specs.Allowed.{Input, IsAnswerToAll, IsLongAnswer, IsReadingAnswer, IsCommandAnswer, IsWordsAnswer, IsAllowed, Outlet, Ends}
use Rattle.cpog_app.specs.Complete.{AreGoodFor, IsGoodRun, IsAnswered, RunsAreComplete}
use Rattle.graph_answers.specs.Good.{SpellFile}
use Rattle.cpog_app.specs.Laws.{AreAlike, AllowedAgree}
use Rattle.refusal_lines.proofs.Causes.{Cause, Agree, IsOne, AreApart, either, one_at, one_either}
use Rattle.formula_answers.specs.Judged.{IsLratAnswer}
use Rattle.formula_answers.proofs.JudgedAgreement.{lrat_answers_agree, lrat_is_ok}
use Rattle.graph_answers.proofs.FormulaAgreement.{cnf_answers_agree, cnf_is_ok}
use Rattle.line_text.specs.Lines.{text_of}
use Rattle.netlist_verilog.specs.Rows.{module_lines}
use Rattle.report_text.specs.Report.{ReportValue}
use Rattle.report_answers.specs.Checked.{yes_text, IsReportsAnswer, SpellGoodReport}
use Rattle.report_answers.proofs.ReportAgreement.{reports_answers_agree, good_is_ok}
use Rattle.formula_answers.proofs.SolvedAgreement.{solve_answers_alike, solve_is_ok}
use Rattle.graph_answers.proofs.FileAgreement.{synth_answers_alike, normal_answers_agree, synth_is_answered, normal_is_ok}

-- ---- one answer to a text

-- a bad line is no want of memory
line_not_memory : (n : ℕ) → fault.BadLine n ≡ fault.Memory → ⊥
line_not_memory n e = cc

-- a passed limit is no want of memory
limit_not_memory : (what : Counted) (limit : ℕ) → fault.Limit what limit ≡ fault.Memory → ⊥
limit_not_memory what limit e = cc

-- a bad line is no passed limit
line_not_limit : (n : ℕ) (what : Counted) (limit : ℕ) → fault.BadLine n ≡ fault.Limit what limit → ⊥
line_not_limit n what limit e = cc

-- equal faults count the same, to the same limit
same_counted : (what other : Counted) (limit most : ℕ) → fault.Limit what limit ≡ fault.Limit other most → (what ≡ other) × (limit ≡ most)
same_counted what other limit most e = (cc, cc)

-- the answers to a graph text, where those to a file are alike
module _ (OfFile : Contents → Cause) (Alike : Status → List ℕ → Status → List ℕ → Type 0) (same_alike : (s t : Status) (x y : List ℕ) → Agree s x t y → Alike s x t y)
    (file_alike : (f : Contents) (s t : Status) (x y : List ℕ) → OfFile f s x → OfFile f t y → Alike s x t y) (bytes : List ℕ) where
  abbrev bad_line : Cause
  bad_line = At status.Text (IsBadLineAnswer bytes)

  abbrev passed : Cause
  passed = At status.Limit (IsPassedAnswer bytes)

  abbrev of_file : Cause
  of_file = IsAnswerOfFile OfFile bytes

  -- the first bad line is printed in one way
  one_bad_line : (x y : List ℕ) → IsBadLineAnswer bytes x → IsBadLineAnswer bytes y → x ≡ y
  one_bad_line x y h k = h.output_is ∙ ap (λ n. refusal_text (refusal.Text n)) (one_first_bad IsGoodLine (graph_lines bytes) h.line k.line h.first k.first) ∙ sym k.output_is

  -- the first passed count is printed in one way
  one_passed : (x y : List ℕ) → IsPassedAnswer bytes x → IsPassedAnswer bytes y → x ≡ y
  one_passed x y h k =
      let same = same_counted h.what k.what h.limit k.limit (one_fault bytes (fault.Limit h.what h.limit) (fault.Limit k.what k.limit) h.passed k.passed (limit_not_memory h.what h.limit) (limit_not_memory k.what k.limit)) in
      h.output_is ∙ ap₂ (λ what limit. refusal_text (refusal.Limit what limit)) same.0 same.1 ∙ sym k.output_is

  -- a text with a bad line passes no count
  line_or_passed : AreApart bad_line passed
  line_or_passed s t x y h k =
      line_not_limit h.1.line k.1.what k.1.limit (one_fault bytes (fault.BadLine h.1.line) (fault.Limit k.1.what k.1.limit) h.1.first k.1.passed (line_not_memory h.1.line) (limit_not_memory k.1.what k.1.limit))

  -- a text that is refused has no file
  refused_or_file : AreApart (either bad_line passed) of_file
  refused_or_file s t x y (inl h) k = line_not_memory h.1.line (file_has_no_fault bytes k.file (fault.BadLine h.1.line) k.is_file h.1.first)
  refused_or_file s t x y (inr h) k = limit_not_memory h.1.what h.1.limit (file_has_no_fault bytes k.file (fault.Limit h.1.what h.1.limit) k.is_file h.1.passed)

  -- a graph text has one refusal
  one_refused : IsOne (either bad_line passed)
  one_refused = one_either bad_line passed (one_at status.Text (IsBadLineAnswer bytes) one_bad_line) (one_at status.Limit (IsPassedAnswer bytes) one_passed) line_or_passed

  -- its answers are alike
  graph_text_answers_alike : (s t : Status) (x y : List ℕ) → IsGraphTextAnswer OfFile bytes s x → IsGraphTextAnswer OfFile bytes t y → Alike s x t y
  graph_text_answers_alike s t x y (inl h) (inl k) = same_alike s t x y (one_refused s t x y h k)
  graph_text_answers_alike s t x y (inl h) (inr k) = absurd (refused_or_file s t x y h k)
  graph_text_answers_alike s t x y (inr h) (inl k) = absurd (refused_or_file t s y x k h)
  graph_text_answers_alike s t x y (inr h) (inr k) = file_alike h.file s t x y h.answer (subst (λ f. OfFile f t y) (one_file bytes k.file h.file k.is_file h.is_file) k.answer)

-- ---- alike answers to words and told bytes

-- told bytes that were all read are these
all_told : (left after : Option (List ℕ)) (told bytes : List ℕ) → left ≡ Some told → IsAllOf left after bytes → bytes ≡ told
all_told None after told bytes e h = absurd (none-some told e)
all_told (Some xs) after told bytes e h = h.0 ∙ same_Some xs told e

-- told bytes that are longer than the limit are these
longer_told : (limit : ℕ) (left : Option (List ℕ)) (told : List ℕ) → left ≡ Some told → IsLonger limit left → limit < length told
longer_told limit None told e h = absurd (none-some told e)
longer_told limit (Some xs) told e h = subst (λ ys. limit < length ys) (same_Some xs told e) h

-- two inputs that tell the same bytes
module _ (told : List ℕ) (a b : Input) (p : a.left ≡ Some told) (q : b.left ≡ Some told) where
  -- of which alike answers are made
  module _ (limit : ℕ) (OfBytes : List ℕ → Cause) (Alike : Status → List ℕ → Status → List ℕ → Type 0)
      (same_alike : (s t : Status) (x y : List ℕ) → Agree s x t y → Alike s x t y)
      (alike : (bytes : List ℕ) (s t : Status) (x y : List ℕ) → OfBytes bytes s x → OfBytes bytes t y → Alike s x t y) where
    long_or_all : (i j : Input) → i.left ≡ Some told → j.left ≡ Some told → (s : Status) (x y : List ℕ) → IsLongAnswer limit i x → IsAnswerToAll limit OfBytes j s y → ⊥
    long_or_all i j p q s x y h k =
        let many = longer_told limit i.left told p h.longer in
        let all : length k.bytes ≡ length told = ap length (all_told j.left j.left_after told k.bytes q k.all) in
        omega (arith, many, all, k.within)

    -- the bytes are longer than the limit or not
    readings_alike : (s t : Status) (x y : List ℕ) → s ≢ status.ReadFault → t ≢ status.ReadFault → IsReadingAnswer limit OfBytes a s x → IsReadingAnswer limit OfBytes b t y → Alike s x t y
    readings_alike s t x y m n (inl (inl h)) k = absurd (m h.0)
    readings_alike s t x y m n (inl (inr h)) (inl (inl k)) = absurd (n k.0)
    readings_alike s t x y m n (inl (inr h)) (inl (inr k)) = same_alike s t x y (h.0 ∙ sym k.0, h.1.output_is ∙ sym k.1.output_is)
    readings_alike s t x y m n (inl (inr h)) (inr k) = absurd (long_or_all a b p q t x y h.1 k)
    readings_alike s t x y m n (inr h) (inl (inl k)) = absurd (n k.0)
    readings_alike s t x y m n (inr h) (inl (inr k)) = absurd (long_or_all b a q p s y x k.1 h)
    readings_alike s t x y m n (inr h) (inr k) =
        let same : k.bytes ≡ h.bytes = all_told b.left b.left_after told k.bytes q k.all ∙ sym (all_told a.left a.left_after told h.bytes p h.all) in
        alike h.bytes s t x y h.answer (subst (λ bytes. OfBytes bytes t y) same k.answer)

  -- the answers of a command are alike
  module _ (c : Command) where
    agree_alike : (s t : Status) (x y : List ℕ) → Agree s x t y → AreAlike (Some c) s x t y
    agree_alike s t x y h = inl h

    one_alike : (answers : Cause) → IsOne answers → (s t : Status) (x y : List ℕ) → answers s x → answers t y → AreAlike (Some c) s x t y
    one_alike answers one s t x y h k = inl (one s t x y h k)

    readings_of : (limit : ℕ) (OfBytes : List ℕ → Cause) → ((bytes : List ℕ) (s t : Status) (x y : List ℕ) → OfBytes bytes s x → OfBytes bytes t y → AreAlike (Some c) s x t y) →
        (s t : Status) (x y : List ℕ) → s ≢ status.ReadFault → t ≢ status.ReadFault → IsReadingAnswer limit OfBytes a s x → IsReadingAnswer limit OfBytes b t y → AreAlike (Some c) s x t y
    readings_of limit OfBytes = readings_alike limit OfBytes (AreAlike (Some c)) agree_alike

    files_of : (OfFile : Contents → Cause) → ((f : Contents) (s t : Status) (x y : List ℕ) → OfFile f s x → OfFile f t y → AreAlike (Some c) s x t y) →
        (s t : Status) (x y : List ℕ) → s ≢ status.ReadFault → t ≢ status.ReadFault → IsReadingAnswer INPUT_LIMIT (IsGraphTextAnswer OfFile) a s x → IsReadingAnswer INPUT_LIMIT (IsGraphTextAnswer OfFile) b t y → AreAlike (Some c) s x t y
    files_of OfFile alike = readings_of INPUT_LIMIT (IsGraphTextAnswer OfFile) (graph_text_answers_alike OfFile (AreAlike (Some c)) agree_alike alike)

    reports_of : (Prints : ReportValue → List ℕ) → (s t : Status) (x y : List ℕ) → s ≢ status.ReadFault → t ≢ status.ReadFault →
        IsReadingAnswer LONG_INPUT_LIMIT (IsReportsAnswer Prints) a s x → IsReadingAnswer LONG_INPUT_LIMIT (IsReportsAnswer Prints) b t y → AreAlike (Some c) s x t y
    reports_of Prints = readings_of LONG_INPUT_LIMIT (IsReportsAnswer Prints) (λ bytes. one_alike (IsReportsAnswer Prints bytes) (reports_answers_agree bytes Prints))

  command_answers_alike : (c : Command) (s t : Status) (x y : List ℕ) → s ≢ status.ReadFault → t ≢ status.ReadFault → IsCommandAnswer c a s x → IsCommandAnswer c b t y → AreAlike (Some c) s x t y
  command_answers_alike (command.Synth options) = files_of (command.Synth options) (IsSynthAnswer options) (synth_answers_alike options)
  command_answers_alike command.Normal = files_of command.Normal IsNormalAnswer (λ f. one_alike command.Normal (IsNormalAnswer f) (normal_answers_agree f))
  command_answers_alike (command.Cnf options) = files_of (command.Cnf options) (IsCnfAnswer options) (λ f. one_alike (command.Cnf options) (IsCnfAnswer options f) (cnf_answers_agree options f))
  command_answers_alike command.Lrat = readings_of command.Lrat LONG_INPUT_LIMIT IsLratAnswer (λ bytes. one_alike command.Lrat (IsLratAnswer bytes) (lrat_answers_agree bytes))
  command_answers_alike (command.Solve budget) = readings_of (command.Solve budget) LONG_INPUT_LIMIT (IsSolveAnswer budget) (solve_answers_alike budget)
  command_answers_alike command.Check = reports_of command.Check (λ r. yes_text)
  command_answers_alike command.Verilog = reports_of command.Verilog (λ r. text_of (module_lines r.design))

  -- so are those of words
  words_answers_alike : (c : Option Command) (s t : Status) (x y : List ℕ) → s ≢ status.ReadFault → t ≢ status.ReadFault → IsWordsAnswer c a s x → IsWordsAnswer c b t y → AreAlike c s x t y
  words_answers_alike None s t x y m n h k = inl (h.0 ∙ sym k.0, h.1.output_is ∙ sym k.1.output_is)
  words_answers_alike (Some c) s t x y m n h k = command_answers_alike c s t x y m n h k

-- the same words and told bytes have alike answers
pub allowed_agree : AllowedAgree
allowed_agree words told a b s t x y p q h k m n = words_answers_alike told a b p q (command_of words) s t x y m n h k

-- ---- a run that is refused for no cause

-- all of told bytes within the limit is answered whole
reading_is_answered : (Whole : Status → Type 0) (limit : ℕ) (OfBytes : List ℕ → Cause) (told : List ℕ) → length told ≤ limit → ((s : Status) (x : List ℕ) → OfBytes told s x → Whole s)
    → (input : Input) → input.left ≡ Some told → (s : Status) (x : List ℕ) → s ≢ status.ReadFault → IsReadingAnswer limit OfBytes input s x → Whole s
reading_is_answered Whole limit OfBytes told within is_whole input left s x n (inl (inl h)) = absurd (n h.0)
reading_is_answered Whole limit OfBytes told within is_whole input left s x n (inl (inr h)) = absurd (omega (arith, longer_told limit input.left told left h.1.longer, within))
reading_is_answered Whole limit OfBytes told within is_whole input left s x n (inr h) =
    let same : h.bytes ≡ told = all_told input.left input.left_after told h.bytes left h.all in
    is_whole s x (subst (λ bytes. OfBytes bytes s x) same h.answer)

-- all of a graph text that spells such a file is answered whole
module _ (Whole : Status → Type 0) (OfFile : Contents → Cause) (Good : Contents → Type 0) (is_whole : (f : Contents) → Good f → (s : Status) (x : List ℕ) → OfFile f s x → Whole s)
    (told : List ℕ) (good : SpellFile Good told) where
  text_is_answered : (s : Status) (x : List ℕ) → IsGraphTextAnswer OfFile told s x → Whole s
  text_is_answered s x (inl (inl h)) = absurd (line_not_memory h.1.line (file_has_no_fault told good.file (fault.BadLine h.1.line) good.is_file h.1.first))
  text_is_answered s x (inl (inr h)) = absurd (limit_not_memory h.1.what h.1.limit (file_has_no_fault told good.file (fault.Limit h.1.what h.1.limit) good.is_file h.1.passed))
  text_is_answered s x (inr h) = is_whole good.file good.holds s x (subst (λ f. OfFile f s x) (one_file told h.file good.file h.is_file good.is_file) h.answer)

  file_is_answered : (input : Input) → input.left ≡ Some told → (s : Status) (x : List ℕ) → s ≢ status.ReadFault → IsReadingAnswer INPUT_LIMIT (IsGraphTextAnswer OfFile) input s x → Whole s
  file_is_answered = reading_is_answered Whole INPUT_LIMIT (IsGraphTextAnswer OfFile) told good.within text_is_answered

-- all of a text that spells a good report is answered whole
report_is_answered : (Whole : Status → Type 0) → ((s : Status) → s ≡ status.Ok → Whole s) → (Prints : ReportValue → List ℕ) (told : List ℕ) → SpellGoodReport told
    → (input : Input) → input.left ≡ Some told → (s : Status) (x : List ℕ) → s ≢ status.ReadFault → IsReadingAnswer LONG_INPUT_LIMIT (IsReportsAnswer Prints) input s x → Whole s
report_is_answered Whole ok Prints told good = reading_is_answered Whole LONG_INPUT_LIMIT (IsReportsAnswer Prints) told good.within (λ s x h. ok s (good_is_ok told Prints good s x h))

command_is_answered : (c : Command) (told : List ℕ) → AreGoodFor c told → (input : Input) → input.left ≡ Some told → (s : Status) (x : List ℕ) → s ≢ status.ReadFault → IsCommandAnswer c input s x → IsAnswered (Some c) s
command_is_answered (command.Synth options) told good = file_is_answered (IsAnswered (Some (command.Synth options))) (IsSynthAnswer options) _ (synth_is_answered options) told good
command_is_answered command.Normal told good = file_is_answered (IsAnswered (Some command.Normal)) IsNormalAnswer _ normal_is_ok told good
command_is_answered (command.Cnf options) told good = file_is_answered (IsAnswered (Some (command.Cnf options))) (IsCnfAnswer options) _ (cnf_is_ok options) told good
command_is_answered command.Lrat told good = reading_is_answered (IsAnswered (Some command.Lrat)) LONG_INPUT_LIMIT IsLratAnswer told good.within (lrat_is_ok told good)
command_is_answered (command.Solve budget) told good = reading_is_answered (IsAnswered (Some (command.Solve budget))) LONG_INPUT_LIMIT (IsSolveAnswer budget) told good.within (solve_is_ok budget told good)
command_is_answered command.Check told good = report_is_answered (IsAnswered (Some command.Check)) (λ s e. e) (λ r. yes_text) told good
command_is_answered command.Verilog told good = report_is_answered (IsAnswered (Some command.Verilog)) (λ s e. e) (λ r. text_of (module_lines r.design)) told good

module _ (words : List (List ℕ)) (told : List ℕ) (input : Input) (left : input.left ≡ Some told) (good : IsGoodRun words told) where
  allowed_is_answered : (s : Status) (x : List ℕ) → s ≢ status.ReadFault → IsAllowed words input s x → IsAnswered (command_of words) s
  allowed_is_answered s x n h =
      subst (λ c. IsAnswered c s) (sym good.named)
      (command_is_answered good.command told good.good input left s x n (subst (λ c. IsWordsAnswer c input s x) good.named h))

  run_is_answered : (outlet : Outlet) (s : Status) → Ends words input outlet s → s ≢ status.ReadFault → s ≢ status.WriteFault → IsAnswered (command_of words) s ⊎ (s ≡ status.Memory)
  run_is_answered outlet status.Memory h m n = inr refl
  run_is_answered outlet status.WriteFault h m n = absurd (n refl)
  run_is_answered outlet other h m n = inl (allowed_is_answered other h.output m h.allowed)

-- a good run in which no end fails is complete
pub complete : RunsAreComplete
complete words told input outlet s left good h m n = run_is_answered words told input left good outlet s h m n
