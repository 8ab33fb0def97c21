-- What is kept of the turns so far, as lists, and how it and a sink change as turns are seen.
use Rattle.std.specs.Prelude.{◌≡◌, ◌≤◌, List}
use Rattle.std.specs.Io.KnownBytes.{Appends}
use Rattle.outside_io.specs.Outside.{AppendsFront, Rose}
use Rattle.outside_io.specs.Seen.{SinkSeen}
use Rattle.run_lanes.specs.declared.lanes.Lanes.{Lanes}
use Rattle.run_lanes.specs.Timeline.{Kept, kept_at_end, turns_text}
use Rattle.run_lanes.specs.Activities.{TurnSight}

abbrev pub kept_of : Lanes → Kept
kept_of l = record { stretches = l.stretches.items; offers = l.offers.items }

-- the text of these turns was appended
pub record SeesText (k : Kept) (o : SinkSeen) (turns : List TurnSight) (k' : Kept) (o' : SinkSeen) : Type 0 where
  pub kept : k' ≡ kept_at_end k turns
  pub pushed : Appends o.written o'.written (turns_text k turns)
  pub later : o.faults ≤ o'.faults

-- a front of that text was appended, and the failure was counted
pub record BreaksText (k : Kept) (o : SinkSeen) (turns : List TurnSight) (o' : SinkSeen) : Type 0 where
  pub pushed : AppendsFront o.written o'.written (turns_text k turns)
  pub later : o.faults ≤ o'.faults
  pub rose : Rose o.faults o'.faults
