use Rattle.std.proofs.Common.{◌≤◌}
use Rattle.std.specs.Io.KnownBytes.{Appends}
use Rattle.std.specs.List.{flat_map, range_with_len}
use Rattle.task_table.specs.model.State.{State}
use Rattle.board_model.specs.Script.{Scenario}
use Rattle.board_core.specs.Data.{boxed}
use Rattle.board_core.specs.Stands.{Stands}
use Rattle.thumb_asm.specs.Listed.{labels_in}
use Rattle.run_cover.specs.Covered.{covered}
use Rattle.run_cover.specs.Text.{base_text}
use Rattle.run_cover.proofs.listing.push_bases.Given as goal

abbrev pub invariant-loop-i : goal.invariant-loop-i
invariant-loop-i g l =
    let shown = boxed (λ p. (goal.Device-dyn g p).shown p.1) in
    record {
      pushed : (x : Scenario) (s : State) → Stands shown x l.board s → Appends (g.S.Sink.seen l.fn.out).written (g.S.Sink.seen l.out).written (flat_map (base_text x.setup (covered s.memory l.cover) (labels_in l.labels)) (range_with_len 0 l.i));
      later : (g.S.Sink.seen l.fn.out).faults ≤ (g.S.Sink.seen l.out).faults;
    }
