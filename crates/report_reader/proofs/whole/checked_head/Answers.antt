use Rattle.std.proofs.Common.{ℕ, ◌≤◌, [], length}
use Rattle.netlist_verilog.specs.Module.{AreNames}
use Rattle.report_reader.specs.Reading.{AreNext}
use Rattle.report_reader.specs.Heads.{value_of}
use Rattle.report_reader.proofs.CheckedLaws.{head_holds}
use Rattle.report_reader.proofs.PartLaws.{few_names, are_names}
use Rattle.report_reader.proofs.FinalLaws.{told}
use Rattle.report_reader.proofs.whole.checked_head.Goals as goal

pub returns-clause-some_bit : goal.returns-clause-some_bit
returns-clause-some_bit c = told (λ h. (value_of h, c.head_of.new.cursor)) c.head_of.result _ c.head_of.ensures (λ h. 1 ≤ h.bits) (λ h e. (head_holds _ _ (value_of h) e).some_bit)

pub returns-clause-few_bits : goal.returns-clause-few_bits
returns-clause-few_bits c = told (λ h. (value_of h, c.head_of.new.cursor)) c.head_of.result _ c.head_of.ensures (λ h. h.bits ≤ 8) (λ h e. (head_holds _ _ (value_of h) e).few_bits)

pub returns-clause-next : goal.returns-clause-next
returns-clause-next c = told (λ h. (value_of h, c.head_of.new.cursor)) c.head_of.result _ c.head_of.ensures (λ h. AreNext 64 [] h.names) (λ h e. (head_holds _ _ (value_of h) e).names)

pub returns-clause-names : goal.returns-clause-names
returns-clause-names c = told (λ h. (value_of h, c.head_of.new.cursor)) c.head_of.result _ c.head_of.ensures (λ h. AreNames h.names) (λ h e. are_names h.names (head_holds _ _ (value_of h) e).names)

pub returns-clause-few_names : goal.returns-clause-few_names
returns-clause-few_names c = told (λ h. (value_of h, c.head_of.new.cursor)) c.head_of.result _ c.head_of.ensures (λ h. length h.names ≤ 64) (λ h e. few_names h.names (head_holds _ _ (value_of h) e).names)
