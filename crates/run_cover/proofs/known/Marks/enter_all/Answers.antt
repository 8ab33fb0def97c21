use Rattle.std.proofs.Common.{◌≡◌, ◌<◌, ℕ, Some, length, subst, arith}
use Rattle.run_cover.specs.Known.{HasLed, HaveEntered}
use Rattle.run_cover.proofs.Knowing.{entered_none, entered_more}
use Rattle.run_cover.proofs.known.Marks.enter_all.Goals as goal

pub loop-task-init : goal.loop-task-init
loop-task-init g c = record { marks = c.requires.marks; entered = λ x s st. entered_none x.setup s.memory c.args.self.now }

pub loop-task-preserved : goal.loop-task-preserved
loop-task-preserved g c = record {
  marks = c.lead.ensures.marks;
  entered = λ x s st.
      let inside : c.loop-task.task < length x.setup.tasks = omega (arith, c.task_count-task-end.ensures.tasks x s st, st.sane.steady.as_many, c.loop-task.auto.task-end, c.loop-task-test.true) in
      let led = subst (λ (a : ℕ). HasLed x.setup s.memory (Some a) c.loop-task.self c.lead.new.self) (c.birth_pc.ensures x s st) (c.lead.ensures.led x s st) in
      entered_more x.setup s.memory c.loop-task.task _ _ _ inside (c.loop-task.invariant.entered x s st) led;
}

pub returns-clause-entered : goal.returns-clause-entered
returns-clause-entered g c = λ x s st.
    let all : c.loop-task.task ≡ length x.setup.tasks = omega (arith, c.task_count-task-end.ensures.tasks x s st, st.sane.steady.as_many, c.loop-task.auto.task-end, c.loop-task-test.false) in
    subst (λ (n : ℕ). HaveEntered x.setup s.memory n c.args.self.now c.loop-task.self) all (c.loop-task.invariant.entered x s st)
