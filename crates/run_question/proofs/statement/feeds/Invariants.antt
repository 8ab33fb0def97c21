use Rattle.std.proofs.Common.{◌≡◌, map, take}
use Rattle.run_script.specs.declared.events.Event.TheVariants.{Feed}
use Rattle.run_question.proofs.statement.feeds.Given as goal

abbrev pub invariant-loop-byte : goal.invariant-loop-byte
invariant-loop-byte l = l.events.items ≡ map (λ byte. Feed l.fn.device byte) (take l.byte-index l.bytes)
