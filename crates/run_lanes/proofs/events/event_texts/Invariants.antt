use Rattle.std.proofs.Common.{◌≡◌, map, take}
use Rattle.std.specs.Prelude.{string_bytes}
use Rattle.run_lanes.specs.Told.{event_text}
use Rattle.run_lanes.proofs.events.event_texts.Given as goal

abbrev pub invariant-loop-turn : goal.invariant-loop-turn
invariant-loop-turn l = map string_bytes l.texts.items ≡ map (event_text (map string_bytes l.names)) (take l.turn-index l.events)
