use Rattle.run_script.proofs.Coming.{next_tick_is, no_tick_is}
use Rattle.run_script.proofs.turns.next_multiple.Goals as goal

pub returns-then-turn-lt-TURNS : goal.returns-then-turn-lt-TURNS
returns-then-turn-lt-TURNS c =
    let first = c.from_1.ensures in
    next_tick_is c.args.period c.args.from c.from_1.result c.requires.some first.same first.some first.least c.if-turn-lt-TURNS.true

pub returns-else-turn-lt-TURNS : goal.returns-else-turn-lt-TURNS
returns-else-turn-lt-TURNS c = no_tick_is c.args.period c.args.from c.from_1.result c.requires.some c.from_1.ensures.least c.if-turn-lt-TURNS.false
