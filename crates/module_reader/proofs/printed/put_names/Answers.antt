use Rattle.std.proofs.Common.{ap, ◌++◌, refl}
use Rattle.netlist_verilog.specs.Wires.{name_of}
use Rattle.netlist_verilog.proofs.WritingLemmas.{joined_more, name_at}
use Rattle.module_reader.proofs.printed.put_names.Goals as goal

pub names-preserved : goal.names-preserved
names-preserved c =
    joined_more c.args.first c.names.first_left (λ v. c.args.prefix.now ++ name_of c.args.names.now v) c.names.v _ _ _ _ _
    c.separator.ensures (ap (λ x. c.args.prefix.now ++ x) (name_at c.args.names.now c.names.v c.names.v _ refl c.get-name.ensures)) c.in_ok-write.ensures.bytes c.names.invariant
