use Rattle.module_reader.proofs.PrintLaws.{inputs_line_put}
use Rattle.module_reader.proofs.printed.inputs_line.Goals as goal

pub returns : goal.returns
returns c = inputs_line_put c.args.ports.now.inputs c.args.ports.now.names _ _ _ _ _ _ c.requires c.new-out.ensures.bytes c.in_ok-push_str.ensures.bytes c.in_ok-put_inputs.ensures c.in_ok-push_str-2.ensures.bytes c.in_ok-put_names.ensures c.in_ok-push_str-3.ensures.bytes
