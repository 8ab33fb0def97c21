use Rattle.std.proofs.Common.{◌≡◌, ◌+◌, ◌-◌, ◌<◌, ◌≤◌, ◌∙◌, length, arith, sym, subst}
use Rattle.std.specs.Prelude.{fold}
use Rattle.std.specs.List.{range_with_len}
use Rattle.task_table.specs.model.State.{Turn}
use Rattle.task_table.specs.model.Events.{expired}
use Rattle.task_table.specs.kept.Holds.{Holds, task_count}
use Rattle.timer_irq.proofs.Lines.{fold_range_more}
use Rattle.timer_irq.proofs.Idling.{skipped}
use Rattle.timer_irq.proofs.ticks.expire_all.Goals as goal

pub members-preserved : goal.members-preserved
members-preserved c =
    let from = c.members.from in
    let task = c.in-Some.task in
    let first = c.in-Some.ensures in
    let there : task < task_count c.args.k.now = c.due.ensures.there task first.1 in
    let reached : from ≤ task = first.0 in
    record {
      within = omega (arith, there);
      frame = record {
        notes = omega (arith, c.expire.ensures.frame.notes, c.members.invariant.frame.notes, reached);
        tasks = c.expire.ensures.frame.tasks ∙ c.members.invariant.frame.tasks;
        setup = c.expire.ensures.frame.setup ∙ c.members.invariant.frame.setup;
      };
      holds = λ g t h not_past.
          let all : from + (task - from) ≡ task = omega (arith, reached) in
          let inside : from + (task - from) ≤ length t.state.tasks = omega (arith, all, there, h.count) in
          let skip = skipped t c.due.result.now.words from (task - from) not_past (c.due.ensures.holds g t h) inside (λ i low below. first.2 i low (omega (arith, all, below))) in
          let here : Holds g c.members.k (fold expired t (range_with_len 0 (from + (task - from)))) = subst (λ (u : Turn). Holds g c.members.k u) (sym skip) (c.members.invariant.holds g t h not_past) in
          rw fold_range_more (c.expire.ensures.holds g (fold expired t (range_with_len 0 task)) (rw all at here));
    }

pub returns-clause-holds : goal.returns-clause-holds
returns-clause-holds c = λ g t h not_past.
    let from = c.members.from in
    let count = length t.state.tasks in
    let all : from + (count - from) ≡ count = omega (arith, c.members.invariant.within, h.count) in
    let inside : from + (count - from) ≤ count = omega (arith, all) in
    let skip = skipped t c.due.result.now.words from (count - from) not_past (c.due.ensures.holds g t h) inside (λ i low below. c.in_default.ensures i low) in
    let here : Holds g c.members.k (fold expired t (range_with_len 0 (from + (count - from)))) = subst (λ (u : Turn). Holds g c.members.k u) (sym skip) (c.members.invariant.holds g t h not_past) in
    rw all at here
