use Rattle.std.proofs.Common.{◌≡◌, ◌≤◌, length, arith, ◌∙◌}
use Rattle.std.specs.List.{range_with_len}
use Rattle.kernel_abi.specs.declared.Ending.TheVariants.{Restart}
use Rattle.kernel_abi.specs.declared.Note.TheVariants as note
use Rattle.task_table.specs.model.Effects.{changed, closed, without_listen, reborn, restarted}
use Rattle.task_table.proofs.kept.Births.{few_sane}
use Rattle.fault_supervisor.proofs.Answering.{few-noted, few-closed, few-unlistened, few-reborn, few-all_answered, fold_range_more}
use Rattle.fault_supervisor.proofs.rebirth.restart_task.Goals as goal

pub loop-other-preserved : goal.loop-other-preserved
loop-other-preserved c = record {
  frame = record {
    notes = omega (arith, c.answer_dead.ensures.frame.notes, c.loop-other.invariant.frame.notes);
    tasks = c.answer_dead.ensures.frame.tasks ∙ c.loop-other.invariant.frame.tasks;
    setup = c.answer_dead.ensures.frame.setup ∙ c.loop-other.invariant.frame.setup;
  };
  holds = λ g t h few. rw fold_range_more (c.answer_dead.ensures.holds g _ (c.loop-other.invariant.holds g t h few) (few-all_answered c.args.task (range_with_len 0 c.loop-other.other) t few));
}

pub returns-clause-holds : goal.returns-clause-holds
unfolding restarted
returns-clause-holds c = λ g t h.
    let i = c.args.task in
    let small : length t.state.tasks ≤ 1024 = omega (arith, h.holds.count, c.args.k.now.few) in
    let h1 = c.close.ensures.holds g t h.holds in
    let h2 = c.stop_listening.ensures.holds g _ h1 in
    let h3 = c.reset_task.ensures.holds g _ h2 in
    let h4 = c.note.ensures.holds g _ h3 in
    let t1 = closed i Restart t in
    let t2 = changed (without_listen i) t1 in
    let t3 = changed (reborn g i c.args.start) t2 in
    let few = few-noted (note.Restart i c.generation.result.number) t3 (few-reborn g i c.args.start t2 (few-unlistened i t1 (few-closed i Restart t (few_sane g t.state h.sane small)))) in
    let all : c.loop-other.other ≡ length t.state.tasks = omega (arith, c.task_count-other-end.ensures.value, c.loop-other.auto.other-end, c.loop-other-test.false, c.note.ensures.frame.tasks, c.reset_task.ensures.frame.tasks, c.stop_listening.ensures.frame.tasks, c.close.ensures.frame.tasks, h.holds.count) in
    rw (← c.generation.ensures g _ h3) (rw all at (c.loop-other.invariant.holds g _ h4 few))
