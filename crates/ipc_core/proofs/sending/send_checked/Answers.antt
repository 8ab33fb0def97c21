use Rattle.std.proofs.Common.{◌≡◌, ◌≢◌, false, eqb, sym, ◌∙◌}
use Rattle.std.proofs.lemmas.Bool.{eq-eqb, false≢true, or_parts}
use Rattle.kernel_abi.specs.Ids.{index_of}
use Rattle.task_table.specs.model.Reading.{dead_code_for, is_out}
use Rattle.ipc_core.proofs.sending.send_checked.Goals as goal

pub send-requires-clause-sendable : goal.send-requires-clause-sendable
send-requires-clause-sendable c =
    let r = c.requires.idle in
    record { setup = r.0; turn = r.1; stands = r.2; idle = r.3; readable = sym (c.in_default.ensures r.0 r.1 r.2.holds) }

pub returns-then-reaches_out-clause-holds : goal.returns-then-reaches_out-clause-holds
returns-then-reaches_out-clause-holds c = λ g t h idle who.
    rw (← c.if-reaches_out.ensures) (c.misuse.ensures.holds g t h.holds)

pub returns-in-Some-clause-holds : goal.returns-in-Some-clause-holds
returns-in-Some-clause-holds c = λ g t h idle who.
    rw (← c.if-reaches_out.ensures, ← c.in-Some.ensures g t h.holds) (c.deny.ensures.holds g t h.holds)

pub returns-in-Some-bad_byte-clause-holds : goal.returns-in-Some-bad_byte-clause-holds
returns-in-Some-bad_byte-clause-holds c = λ g t h idle who.
    rw (← c.if-reaches_out.ensures, ← c.in_default.ensures g t h.holds, ← c.in-Some-bad_byte.ensures g t h.holds) (c.deny-in-Some-bad_byte.ensures.holds g t h.holds)

pub returns-in-Dead-clause-holds : goal.returns-in-Dead-clause-holds
unfolding dead_code_for
returns-in-Dead-clause-holds c = λ g t h idle who.
    let w = rw c.in-Dead.is at who in
    rw (← c.if-reaches_out.ensures, ← c.in_default.ensures g t h.holds, ← c.in_default-bad_byte.ensures g t h.holds, w.1, ← w.2, ← c.dead_code.ensures) (c.answer.ensures.holds g t h.holds)

pub returns-in-Live-clause-holds : goal.returns-in-Live-clause-holds
returns-in-Live-clause-holds c = λ g t h idle who.
    let id = c.args.args.now.recipient.number in
    let w = rw c.in-Live.is at who in
    let other : eqb (index_of id) c.args.caller ≡ false = (or_parts (is_out t.state id) (eqb (index_of id) c.args.caller) w.0).1 in
    let apart : c.args.caller ≢ c.in-Live.server = λ e. false≢true (sym other ∙ eq-eqb _ _ (sym w.2 ∙ sym e)) in
    rw (← c.if-reaches_out.ensures, ← c.in_default.ensures g t h.holds, ← c.in_default-bad_byte.ensures g t h.holds, w.1, ← w.2) (c.send.ensures.holds g t h idle apart)
