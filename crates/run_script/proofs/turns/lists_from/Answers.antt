use Rattle.std.proofs.Common.{arith, sym, length, ◌-◌}
use Rattle.run_script.proofs.Picks.{last_decides}
use Rattle.run_script.proofs.turns.lists_from.Goals as goal

pub returns-then-n-gt0 : goal.returns-then-n-gt0
returns-then-n-gt0 c = sym (last_decides c.args.events.now (length c.args.events.now - 1) c.args.from (omega arith) c.requires)
