use Rattle.run_lanes.specs.Kept.{kept_of}
use Rattle.run_lanes.proofs.Told.{breaks_after, sees_more, sees_none}
use Rattle.run_lanes.proofs.timeline.LanesWatcher.sees_in_parts.Goals as goal

pub returns-clause-nothing : goal.returns-clause-nothing
returns-clause-nothing g c = λ w o. sees_none (kept_of w) (g.S.Sink.seen o)

pub returns-clause-parts : goal.returns-clause-parts
returns-clause-parts g c = λ u v w o p q a b h k. sees_more (kept_of u) (kept_of v) (kept_of w) (g.S.Sink.seen o) (g.S.Sink.seen p) (g.S.Sink.seen q) a b h k

pub returns-clause-fails : goal.returns-clause-fails
returns-clause-fails g c = λ u v w o p q a b h k. breaks_after (kept_of u) (kept_of v) (g.S.Sink.seen o) (g.S.Sink.seen p) (g.S.Sink.seen q) a b h k
