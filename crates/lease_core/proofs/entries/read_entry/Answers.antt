use Rattle.std.proofs.Common.{refl, sym}
use Rattle.lease_core.proofs.entries.read_entry.Goals as goal

pub keep_entry-requires-clause-read : goal.keep_entry-requires-clause-read
keep_entry-requires-clause-read c =
    let lent = c.requires.lent in
    let l = lent.1 in
    let h = l.stands.holds in (
      lent.0,
      c.args.call.now,
      record {
        lent = l;
        listed = c.requires.listed;
        base = refl;
        readable = sym (c.in_default.ensures l.setup l.turn h);
        is = rw (← c.number.ensures.holds l.setup l.turn h, ← c.number-2.ensures.holds l.setup l.turn h, ← c.number-3.ensures.holds l.setup l.turn h) refl;
      },
    )
