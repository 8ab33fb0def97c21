use Rattle.std.proofs.Common.{◌≡◌, true, false, sym}
use Rattle.task_table.specs.model.Reading.{call_of, listen_of}
use Rattle.task_table.specs.model.Effects.{is_to, awaits}
use Rattle.fault_supervisor.proofs.rebirth.answer_dead.Goals as goal

pub returns-then-calls_to-clause-holds : goal.returns-then-calls_to-clause-holds
returns-then-calls_to-clause-holds c = λ g t h few.
    let to : is_to c.args.task (call_of t.state c.args.other) ≡ true = sym (c.if-calls_to.ensures g t h few) in
    let h1 = c.close.ensures.holds g t h in
    let h2 = c.give.ensures.holds g _ h1 in
    let h3 = c.note_return.ensures.holds g _ h2 in
    rw (to, ← c.generation.ensures g t h, ← c.dead_code-code.ensures) h3

pub returns-then-awaits-clause-holds : goal.returns-then-awaits-clause-holds
returns-then-awaits-clause-holds c = λ g t h few.
    let other : is_to c.args.task (call_of t.state c.args.other) ≡ false = sym (c.if-calls_to.ensures g t h few) in
    let to : awaits c.args.task (listen_of t.state c.args.other) ≡ true = sym (c.if-awaits.ensures g t h few) in
    let h1 = c.stop_listening.ensures.holds g t h in
    let h2 = c.give-then-awaits.ensures.holds g _ h1 in
    let h3 = c.note_return-then-awaits.ensures.holds g _ h2 in
    rw (other, to, ← c.generation.ensures g t h, ← c.dead_code-code.ensures) h3

pub returns-else-awaits-clause-holds : goal.returns-else-awaits-clause-holds
returns-else-awaits-clause-holds c = λ g t h few.
    rw (← c.if-calls_to.ensures g t h few, ← c.if-awaits.ensures g t h few) h
