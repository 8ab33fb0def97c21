use Rattle.text_lines.specs.Text.{lines_of}
use Rattle.debug_core.proofs.Ranges.{short_read}
use Rattle.debug_core.proofs.commands.Commands.read.Goals as goal

pub invariant_of-result : goal.invariant_of-result
invariant_of-result c = record { few = short_read (lines_of c.args.bytes.now) c.in-Ok.commands.items c.in-Ok.ensures.ok }
