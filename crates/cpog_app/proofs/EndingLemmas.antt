-- A run ends by an allowed output, which never has the status of want of memory or of a fault of the sink.
use Rattle.std.proofs.Common.{◌≡◌, ◌≢◌, ◌⊎◌, ℕ, Bool, true, false, List, length, refl, sym, ◌∙◌, ap, inl, inr}
use Rattle.std.specs.Prelude.{Option, Some, None}
use Rattle.std.specs.Io.KnownBytes.{Appends}
use Rattle.std.proofs.lemmas.Bool.{false≢true}
use Rattle.cpog_base.specs.declared.limits.TheConstants.{INPUT_LIMIT, LONG_INPUT_LIMIT}
use Rattle.cpog_base.specs.declared.status.Status.{Status}
use Rattle.cpog_base.specs.declared.status.Status.TheVariants as status
use Rattle.cpog_outside.specs.Room.{HasRoom}
use Rattle.pg_text.specs.Contents.{Contents}
use Rattle.graph_answers.specs.declared.encodable.CodeLength.{CodeLength}
use Rattle.command_words.specs.declared.words.CnfOptions.{CnfOptions}
use Rattle.command_words.specs.declared.words.SynthOptions.{SynthOptions}
use Rattle.command_words.specs.declared.words.Command.{Command}
use Rattle.command_words.specs.declared.words.Command.TheVariants as command
use Rattle.command_words.specs.Words.{command_of}
use Rattle.graph_answers.specs.Bits.{synth_length, cnf_length}
use Rattle.refusal_lines.specs.Refusal.{At}
use Rattle.graph_answers.specs.Refusals.{IsEncodingRefusal}
use Rattle.graph_answers.specs.Answers.{IsSynthAnswer, IsNormalAnswer, IsCnfAnswer, IsGraphTextAnswer}
use Rattle.formula_answers.specs.Judged.{IsLratAnswer}
use Rattle.formula_answers.specs.Solved.{IsSolveAnswer}
use Rattle.line_text.specs.Lines.{text_of}
use Rattle.netlist_verilog.specs.Rows.{module_lines}
use Rattle.report_text.specs.Report.{ReportValue}
use Rattle.report_answers.specs.Checked.{yes_text, IsReportsAnswer, IsCheckAnswer, IsVerilogAnswer}
use Rattle.cpog_app.specs.Allowed.{Input, IsFaultAnswer, IsReadingAnswer, IsCommandAnswer, IsWordsAnswer, IsAllowed, Outlet, IsPrinted, Ends}
use Rattle.refusal_lines.proofs.Causes.{Cause}

-- a status that no end and no want of memory gives
abbrev is_made : Status → Bool
is_made status.Memory = false
is_made status.WriteFault = false
is_made status.ReadFault = false
is_made other = true

-- the output of a run with this status is whole
abbrev is_whole : Status → Bool
is_whole status.Memory = false
is_whole status.WriteFault = false
is_whole other = true

-- each answer has such a status
abbrev AreMade : Cause → Type 0
AreMade answers = (s : Status) (x : List ℕ) → answers s x → is_made s ≡ true

-- each answer has such a status, or is that of a source that failed
abbrev AreWhole : Input → Cause → Type 0
AreWhole input answers = (s : Status) (x : List ℕ) → answers s x → (is_made s ≡ true) ⊎ At status.ReadFault (IsFaultAnswer input) s x

encoding_whole : (asked : CodeLength) (f : Contents) → AreMade (IsEncodingRefusal asked f)
encoding_whole asked f s x (inl h) = ap is_made h.0
encoding_whole asked f s x (inr (inl h)) = ap is_made h.0
encoding_whole asked f s x (inr (inr (inl h))) = ap is_made h.0
encoding_whole asked f s x (inr (inr (inr (inl h)))) = ap is_made h.0
encoding_whole asked f s x (inr (inr (inr (inr (inl h))))) = ap is_made h.0
encoding_whole asked f s x (inr (inr (inr (inr (inr h))))) = ap is_made h.0

text_whole : (OfFile : Contents → Cause) → ((f : Contents) → AreMade (OfFile f)) → (bytes : List ℕ) → AreMade (IsGraphTextAnswer OfFile bytes)
text_whole OfFile whole bytes s x (inl (inl h)) = ap is_made h.0
text_whole OfFile whole bytes s x (inl (inr h)) = ap is_made h.0
text_whole OfFile whole bytes s x (inr h) = whole h.file s x h.answer

reading_whole : (limit : ℕ) (OfBytes : List ℕ → Cause) → ((bytes : List ℕ) → AreMade (OfBytes bytes)) → (input : Input) → AreWhole input (IsReadingAnswer limit OfBytes input)
reading_whole limit OfBytes whole input s x (inl (inl h)) = inr h
reading_whole limit OfBytes whole input s x (inl (inr h)) = inl (ap is_made h.0)
reading_whole limit OfBytes whole input s x (inr h) = inl (whole h.bytes s x h.answer)

synth_whole : (options : SynthOptions) (f : Contents) → AreMade (IsSynthAnswer options f)
synth_whole options f s x (inl h) = encoding_whole (synth_length options) f s x h
synth_whole options f s x (inr (inl h)) = ap is_made h.0
synth_whole options f s x (inr (inr h)) = ap is_made h.0

normal_whole : (f : Contents) → AreMade (IsNormalAnswer f)
normal_whole f s x (inl h) = ap is_made h.0
normal_whole f s x (inr h) = ap is_made h.0

cnf_whole : (options : CnfOptions) (f : Contents) → AreMade (IsCnfAnswer options f)
cnf_whole options f s x (inl h) = encoding_whole (cnf_length options) f s x h
cnf_whole options f s x (inr (inl h)) = ap is_made h.0
cnf_whole options f s x (inr (inr h)) = ap is_made h.0

lrat_whole : (bytes : List ℕ) → AreMade (IsLratAnswer bytes)
lrat_whole bytes s x (inl (inl h)) = ap is_made h.0
lrat_whole bytes s x (inl (inr h)) = ap is_made h.0
lrat_whole bytes s x (inr (inl (inl h))) = ap is_made h.0
lrat_whole bytes s x (inr (inl (inr h))) = ap is_made h.0
lrat_whole bytes s x (inr (inr h)) = ap is_made h.0

solve_whole : (budget : ℕ) (bytes : List ℕ) → AreMade (IsSolveAnswer budget bytes)
solve_whole budget bytes s x (inl (inl h)) = ap is_made h.0
solve_whole budget bytes s x (inl (inr h)) = ap is_made h.0
solve_whole budget bytes s x (inr h) = ap is_made h.0

reports_whole : (Prints : ReportValue → List ℕ) (bytes : List ℕ) → AreMade (IsReportsAnswer Prints bytes)
reports_whole Prints bytes s x (inl (inl h)) = ap is_made h.0
reports_whole Prints bytes s x (inl (inr h)) = ap is_made h.0
reports_whole Prints bytes s x (inr h) = ap is_made h.0

command_whole : (c : Command) (input : Input) → AreWhole input (IsCommandAnswer c input)
command_whole (command.Synth options) = reading_whole INPUT_LIMIT (IsGraphTextAnswer (IsSynthAnswer options)) (text_whole (IsSynthAnswer options) (synth_whole options))
command_whole command.Normal = reading_whole INPUT_LIMIT (IsGraphTextAnswer IsNormalAnswer) (text_whole IsNormalAnswer normal_whole)
command_whole (command.Cnf options) = reading_whole INPUT_LIMIT (IsGraphTextAnswer (IsCnfAnswer options)) (text_whole (IsCnfAnswer options) (cnf_whole options))
command_whole command.Lrat = reading_whole LONG_INPUT_LIMIT IsLratAnswer lrat_whole
command_whole (command.Solve budget) = reading_whole LONG_INPUT_LIMIT (IsSolveAnswer budget) (solve_whole budget)
command_whole command.Check = reading_whole LONG_INPUT_LIMIT IsCheckAnswer (reports_whole (λ r. yes_text))
command_whole command.Verilog = reading_whole LONG_INPUT_LIMIT IsVerilogAnswer (reports_whole (λ r. text_of (module_lines r.design)))

words_whole : (c : Option Command) (input : Input) → AreWhole input (IsWordsAnswer c input)
words_whole None input = λ s x h. inl (ap is_made h.0)
words_whole (Some c) input = command_whole c input

made_whole : (s : Status) → is_made s ≡ true → is_whole s ≡ true
made_whole status.Memory e = e
made_whole status.WriteFault e = e
made_whole status.ReadFault e = refl
made_whole other e = e

allowed_whole : (words : List (List ℕ)) (input : Input) (s : Status) (x : List ℕ) → IsAllowed words input s x → is_whole s ≡ true
allowed_whole words input s x h = elim (words_whole (command_of words) input s x h) [
  | inl made ↦ made_whole s made
  | inr fault ↦ ap is_whole fault.0
]

-- an allowed output has the status of no failed sink
pub no_write_fault : (words : List (List ℕ)) (input : Input) (s : Status) (x : List ℕ) → IsAllowed words input s x → s ≢ status.WriteFault
no_write_fault words input s x h e = false≢true (sym (ap is_whole e) ∙ allowed_whole words input s x h)

-- that with the status of a failed source says so
pub read_fault_is : (words : List (List ℕ)) (input : Input) (s : Status) (x : List ℕ) → IsAllowed words input s x → s ≡ status.ReadFault → IsFaultAnswer input x
read_fault_is words input s x h e = elim (words_whole (command_of words) input s x h) [
  | inl made ↦ absurd (false≢true (sym (ap is_made e) ∙ made))
  | inr fault ↦ fault.1
]

-- a run ends by an allowed output that was taken whole
pub ends_printed : (words : List (List ℕ)) (input : Input) (outlet : Outlet) (s : Status) (output : List ℕ) → IsAllowed words input s output →
    Appends outlet.taken outlet.taken_after output → (HasRoom outlet.room (length output) → outlet.faults_after ≡ outlet.faults) → Ends words input outlet s
ends_printed words input outlet s output allowed whole quiet =
    ended s (allowed_whole words input s output allowed) (record { output = output; allowed = allowed; whole = whole; quiet = quiet })
  where
    ended : (t : Status) → is_whole t ≡ true → IsPrinted words input outlet t → Ends words input outlet t
    ended status.Memory e h = absurd (false≢true e)
    ended status.WriteFault e h = absurd (false≢true e)
    ended other e h = h
