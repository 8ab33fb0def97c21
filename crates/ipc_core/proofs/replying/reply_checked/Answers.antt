use Rattle.std.proofs.Common.{◌≡◌, true, false, ltb, ap, sym}
use Rattle.std.proofs.lemmas.Bool.{lt-ltb, le-ltb}
use Rattle.task_table.specs.declared.slot.OpenCall.{OpenCall}
use Rattle.ipc_core.proofs.replying.reply_checked.Goals as goal

pub hand_reply-requires-clause-replying : goal.hand_reply-requires-clause-replying
hand_reply-requires-clause-replying c =
    let r = c.requires.taken in
    record {
      setup = r.setup;
      turn = r.turn;
      stands = r.stands;
      taken = r.taken;
      readable = sym (c.in_default.ensures r.setup r.turn r.stands.holds);
      fits = c.if-args-call.false;
    }

pub returns-then-not-is_valid-clause-holds : goal.returns-then-not-is_valid-clause-holds
returns-then-not-is_valid-clause-holds c = λ g t k h taken same.
    rw (← c.if-not-is_valid.ensures) (c.misuse.ensures.holds g t h.holds)

pub returns-in-Some-clause-holds : goal.returns-in-Some-clause-holds
returns-in-Some-clause-holds c = λ g t k h taken same.
    rw (← c.if-not-is_valid.ensures, ← c.in-Some.ensures g t h.holds) (c.deny.ensures.holds g t h.holds)

pub returns-then-args-call-clause-holds : goal.returns-then-args-call-clause-holds
returns-then-args-call-clause-holds c = λ g t k h taken same.
    let room = ap (λ (x : OpenCall). x.reply.len) same in
    let long : ltb k.reply.len c.args.args.now.reply_length ≡ true = lt-ltb _ _ (rw room c.if-args-call.true) in
    rw (← c.if-not-is_valid.ensures, ← c.in_default.ensures g t h.holds, long) (c.misuse-then-args-call.ensures.holds g t h.holds)

pub returns-clause-holds : goal.returns-clause-holds
returns-clause-holds c = λ g t k h taken same.
    let room = ap (λ (x : OpenCall). x.reply.len) same in
    let fits : ltb k.reply.len c.args.args.now.reply_length ≡ false = le-ltb _ _ (rw room c.if-args-call.false) in
    rw (← c.if-not-is_valid.ensures, ← c.in_default.ensures g t h.holds, fits) (c.hand_reply.ensures.holds g t k h taken same)
