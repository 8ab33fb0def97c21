use Rattle.run_lanes.specs.Kept.{kept_of}
use Rattle.run_lanes.proofs.Resting.{idle_told}
use Rattle.run_lanes.proofs.timeline.LanesWatcher.see_idle.Goals as goal

pub returns : goal.returns
returns g c = idle_told c.push_turn.result (kept_of c.args.self.now) _ _ _ c.args.turn c.args._turns c.args.activities.now c.requires.some c.push_turn.ensures
