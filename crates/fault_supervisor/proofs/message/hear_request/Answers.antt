use Rattle.std.proofs.Common.{◌≡◌, ◌||◌, true, not, None, refl, sym}
use Rattle.region_check.specs.declared.Right.TheVariants.{Write}
use Rattle.task_table.specs.model.Reading.{is_valid, bad_byte}
use Rattle.task_table.specs.model.Sends.{message_of, reply_room}
use Rattle.task_table.proofs.model.Ranges.{within_ram-good}
use Rattle.fault_supervisor.proofs.message.hear_request.Goals as goal
use Rattle.fault_supervisor.proofs.message.hear_request.Goals.{then-not-is_valid-via-then-not-is_valid, then-not-is_valid-via-else-not-is_valid+then-not-is_valid-2}

pub returns-then-not-is_valid-clause-holds : goal.returns-then-not-is_valid-clause-holds
returns-then-not-is_valid-clause-holds c = λ g t h.
    let x = c.args.args.now in
    let invalid : (not (is_valid (message_of x)) || not (is_valid (reply_room x))) ≡ true = elim c.then-not-is_valid.branch [
      | then-not-is_valid-via-then-not-is_valid w ↦ rw (← w.if-not-is_valid.ensures) refl
      | then-not-is_valid-via-else-not-is_valid+then-not-is_valid-2 w ↦ rw (← w.if-not-is_valid.ensures, ← w.if-not-is_valid-2.ensures) refl
    ] in
    rw invalid (c.misuse.ensures.holds g t h.holds)

pub returns-in-Some-clause-holds : goal.returns-in-Some-clause-holds
returns-in-Some-clause-holds c = λ g t h.
    rw (← c.if-not-is_valid.ensures, ← c.if-not-is_valid-2.ensures, ← c.in-Some.ensures g t h.holds) (c.deny.ensures.holds g t h.holds)

pub returns-in-Some-bad_byte-clause-holds : goal.returns-in-Some-bad_byte-clause-holds
returns-in-Some-bad_byte-clause-holds c = λ g t h.
    rw (← c.if-not-is_valid.ensures, ← c.if-not-is_valid-2.ensures, ← c.in_default.ensures g t h.holds, ← c.in-Some-bad_byte.ensures g t h.holds) (c.deny-in-Some-bad_byte.ensures.holds g t h.holds)

pub serve-requires-clause-reply : goal.serve-requires-clause-reply
serve-requires-clause-reply c =
    let s = c.requires.stood in
    let room = reply_room c.args.args.now in
    let writable : bad_byte s.0 c.args.caller Write room ≡ None = sym (c.in_default-bad_byte.ensures s.0 s.1 s.2.holds) in
    rw s.2.holds.memory (within_ram-good s.0 s.1.state.memory c.args.caller room s.2.sane.steady.placed writable)

pub returns-in-None-clause-holds : goal.returns-in-None-clause-holds
returns-in-None-clause-holds c = λ g t h.
    rw (← c.if-not-is_valid.ensures, ← c.if-not-is_valid-2.ensures, ← c.in_default.ensures g t h.holds, ← c.in_default-bad_byte.ensures g t h.holds, ← c.in-None.ensures) (c.misuse-in-None.ensures.holds g t h.holds)

pub returns-in-Some-of-clause-holds : goal.returns-in-Some-of-clause-holds
returns-in-Some-of-clause-holds c = λ g t h.
    rw (← c.if-not-is_valid.ensures, ← c.if-not-is_valid-2.ensures, ← c.in_default.ensures g t h.holds, ← c.in_default-bad_byte.ensures g t h.holds, ← c.in-Some-of.ensures) (c.serve.ensures.holds g t h)
