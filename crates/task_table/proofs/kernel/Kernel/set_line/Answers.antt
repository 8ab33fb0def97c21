use Rattle.std.proofs.Common.{◌≡◌, ◌∙◌, ◌≤◌, ℕ, length, ap, arith, length-set}
use Rattle.task_table.specs.kept.Holds.{kept_of, setup_of}
use Rattle.task_table.proofs.kept.Steps as steps
use Rattle.task_table.proofs.kernel.Kernel.set_line.Goals as goal

pub returns-then-number-lt-LINES-clause-holds : goal.returns-then-number-lt-LINES-clause-holds
returns-then-number-lt-LINES-clause-holds c = λ g t h.
    let k = c.args.self.now in
    steps.holds_line g (kept_of k) t c.args.number c.args.line _ h (ap (λ (n : ℕ). record (setup_of k) { line_count = n }) (length-set k.lines c.args.number c.args.line))

pub returns-else-number-lt-LINES-clause-holds : goal.returns-else-number-lt-LINES-clause-holds
returns-else-number-lt-LINES-clause-holds c = λ g t h.
    let same : length c.args.self.now.lines ≡ length t.state.lines = ap length h.lines in
    let away : length t.state.lines ≤ c.args.number = omega (arith, same, c.args.self.now.all_lines) in
    rw (steps.line_away t c.args.number c.args.line away) h

pub invariant_of-self : goal.invariant_of-self
invariant_of-self c =
    let k = c.args.self.now in
    record { few = k.few; all_lines = length-set k.lines c.args.number c.args.line ∙ k.all_lines; few_owners = k.few_owners; many = k.many; there = k.there; order_is = k.order_is; ready_now = k.ready_now; offered_now = k.offered_now; timed_now = k.timed_now; openable = k.openable; fresh = k.fresh; of_calls = k.of_calls; room = k.room }
