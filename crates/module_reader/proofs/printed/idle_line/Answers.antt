use Rattle.module_reader.proofs.PrintLaws.{idle_line_put}
use Rattle.module_reader.proofs.printed.idle_line.Goals as goal

pub returns : goal.returns
returns c = idle_line_put c.args.ports.now.inputs c.args.ports.now.names _ _ _ _ c.new-out.ensures.bytes c.in_ok-push_str.ensures.bytes c.in_ok-put_each_unacknowledged.ensures c.in_ok-push_str-2.ensures.bytes
