-- The line that refuses an input.
use Rattle.std.specs.Prelude.{◌≡◌, List, ℕ, ◌++◌, codes}
use Rattle.std.specs.Fmt.{decimal}
use Rattle.cpog_base.specs.declared.limits.Counted.{Counted}
use Rattle.cpog_base.specs.declared.limits.Counted.TheVariants as counted
use Rattle.cpog_base.specs.declared.status.Status.{Status}
use Rattle.refusal_lines.specs.declared.refusal.Refusal.{Refusal}
use Rattle.refusal_lines.specs.declared.refusal.Refusal.TheVariants as refusal

-- the word for what a limit counts
abbrev pub counted_word : Counted → List ℕ
counted_word counted.Input = codes "input"
counted_word counted.Params = codes "params"
counted_word counted.Graphs = codes "graphs"
counted_word counted.Scenarios = codes "scenarios"
counted_word counted.Operations = codes "operations"
counted_word counted.Bits = codes "bits"
counted_word counted.Template = codes "template"
counted_word counted.Variables = codes "variables"

-- what is wrong with a name, on a line
abbrev pub names_text : ℕ → List ℕ → List ℕ → List ℕ
names_text line what name = codes "cpog: names: line " ++ (decimal line ++ (codes ": " ++ (what ++ (codes " " ++ (name ++ codes "\n")))))

-- what is wrong with a scenario, by the name of another thing
abbrev pub scenario_text : List ℕ → List ℕ → List ℕ → List ℕ → List ℕ
scenario_text what scenario kind other =
    codes "cpog: " ++ (what ++ (codes ": scenario " ++ (scenario ++ (codes ": " ++ (kind ++ (codes " " ++ (other ++ codes "\n")))))))

-- which limit is passed
abbrev pub limit_text : Counted → ℕ → List ℕ
limit_text what number = codes "cpog: limit: " ++ (counted_word what ++ (codes " " ++ (decimal number ++ codes "\n")))

-- in these words something isn't good
abbrev pub no_text : List ℕ → List ℕ
no_text what = codes "cpog: no: " ++ (what ++ codes "\n")

-- the same of a name
abbrev pub no_name_text : List ℕ → List ℕ → List ℕ
no_name_text what name = codes "cpog: no: " ++ (what ++ (codes " " ++ (name ++ codes "\n")))

-- the same of two names
abbrev pub no_names_text : List ℕ → List ℕ → List ℕ → List ℕ
no_names_text what first second = codes "cpog: no: " ++ (what ++ (codes " " ++ (first ++ (codes " " ++ (second ++ codes "\n")))))

-- the same of the order of two operations in a scenario
abbrev pub no_order_text : List ℕ → List ℕ → List ℕ → List ℕ
no_order_text scenario first second = codes "cpog: no: order " ++ (scenario ++ (codes " " ++ (first ++ (codes " " ++ (second ++ codes "\n")))))

-- the same of a line and a hint of it
abbrev pub no_line_text : List ℕ → ℕ → ℕ → List ℕ
no_line_text what line hint = codes "cpog: no: " ++ (what ++ (codes " " ++ (decimal line ++ (codes " hint " ++ (decimal hint ++ codes "\n")))))

-- the same of a member of a count
abbrev pub no_member_text : ℕ → List ℕ
no_member_text member = codes "cpog: no: evidence condition " ++ (decimal member ++ codes "\n")

-- the line of each refusal
abbrev pub refusal_text : Refusal → List ℕ
refusal_text refusal.Usage = codes "cpog: usage: synth [--bits D] [--budget D] [--exact] | normal | cnf G [--bits D] | solve [--budget D] | lrat | check | verilog | sim | bulk N\n"
refusal_text refusal.ReadFault = codes "cpog: read fault\n"
refusal_text (refusal.Text line) = codes "cpog: text: line " ++ (decimal line ++ codes "\n")
refusal_text (refusal.Duplicate line name) = names_text line (codes "duplicate") name
refusal_text (refusal.UnknownGraph line name) = names_text line (codes "unknown graph") name
refusal_text (refusal.UnknownParam line name) = names_text line (codes "unknown parameter") name
refusal_text (refusal.Unbound line name) = names_text line (codes "unbound parameter") name
refusal_text refusal.NoScenario = codes "cpog: names: no scenario\n"
refusal_text (refusal.Cyclic scenario operation) = scenario_text (codes "cyclic") scenario (codes "operation") operation
refusal_text (refusal.Equal later earlier) = scenario_text (codes "equal") later (codes "scenario") earlier
refusal_text (refusal.Limit what number) = limit_text what number
refusal_text (refusal.NoLine line hint) = no_line_text (codes "line") line hint
refusal_text refusal.NoEmptyClause = no_text (codes "no empty clause")
refusal_text (refusal.NoCyclic scenario operation) = no_names_text (codes "cyclic") scenario operation
refusal_text (refusal.NoEqual later earlier) = no_names_text (codes "equal") later earlier
refusal_text (refusal.NoCodes later earlier) = no_names_text (codes "codes") later earlier
refusal_text (refusal.NoGiven scenario) = no_name_text (codes "given") scenario
refusal_text (refusal.NoOperation scenario operation) = no_names_text (codes "operation") scenario operation
refusal_text (refusal.NoOrder scenario first second) = no_order_text scenario first second
refusal_text refusal.NoNetlist = no_text (codes "netlist")
refusal_text refusal.NoCount = no_text (codes "count")
refusal_text refusal.NoEvidence = no_text (codes "evidence")
refusal_text (refusal.NoEvidenceCondition member) = no_member_text member
refusal_text (refusal.NoRefutationLine line hint) = no_line_text (codes "refutation line") line hint
refusal_text refusal.NoRefutationEmpty = no_text (codes "refutation no empty clause")
refusal_text refusal.NoOpen = no_text (codes "open")
refusal_text (refusal.NoOpenLine line hint) = no_line_text (codes "open line") line hint
refusal_text refusal.NoOpenShort = no_text (codes "open short")

-- this output, at this status alone
abbrev pub At : Status → (List ℕ → Type 0) → Status → List ℕ → Type 0
At status Output s output = (s ≡ status) × Output output

-- the line of a refusal, at this status
abbrev pub Tells : Status → Refusal → Status → List ℕ → Type 0
Tells status refusal = At status (λ output. output ≡ refusal_text refusal)
