use Rattle.app_toml.proofs.Spreading.{is_below}
use Rattle.std.proofs.lemmas.Map.Keys.{ge_from_not_lt}
use Rattle.app_toml.proofs.overlaps.last_below.Goals as goal

pub returns-in-Some-clause-last : goal.returns-in-Some-clause-last
returns-in-Some-clause-last c = λ base below some.
    ge_from_not_lt c.in-Some.base.now base
    ((c.range.ensures.in_range tt).4 (c.in-Some.base.now, c.in-Some.size.now) c.next_back.new.self c.in-Some.ensures.steps base (tt, is_below base c.args.end below) some)
