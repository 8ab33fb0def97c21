use Rattle.std.proofs.Common.{◌≡◌, ◌-◌, ◌<◌, ◌≤◌, List}
use Rattle.run_script.specs.Scripts.{Listed}
use Rattle.board_model.specs.Script.{Scenario}
use Rattle.board_core.specs.Data.{boxed}
use Rattle.sweep_core.specs.Comparing.{compared_of, compared_times}
use Rattle.sweep_core.specs.Swept.{outcome_at}
use Rattle.sweep_core.specs.Sweeping.{IsBased, IsSweeping, asked}
use Rattle.sweep_core.proofs.Lined.{ArePushed}
use Rattle.sweep_core.proofs.sweeper.Sweeper.push_times.Given as goal

abbrev pub invariant-loop-time : goal.invariant-loop-time
invariant-loop-time g l =
    let shown = boxed (λ p. (goal.Device-dyn g p).shown p.1) in
    record {
      before : (x : Scenario) (arrival : List Listed) → IsBased shown x (asked arrival l.from l.to l.limit l.mem) l.fn.self l.base → IsSweeping shown x arrival l.self l.time l.limit l.mem;
      pushed : (x : Scenario) (arrival : List Listed) → IsBased shown x (asked arrival l.from l.to l.limit l.mem) l.fn.self l.base →
          ArePushed (outcome_at x (asked arrival l.from l.to l.limit l.mem)) l.base.words.bytes l.from l.to l.time l.stretch.first l.stretch.words.bytes (g.S.Sink.seen l.fn.out).written (g.S.Sink.seen l.out).written;
      compared : (x : Scenario) (arrival : List Listed) → IsBased shown x (asked arrival l.from l.to l.limit l.mem) l.fn.self l.base →
          compared_of l.compared ≡ compared_times x (asked arrival l.from l.to l.limit l.mem) (l.time - l.from);
      first : l.stretch.first < l.time;
      later : (g.S.Sink.seen l.fn.out).faults ≤ (g.S.Sink.seen l.out).faults;
    }
