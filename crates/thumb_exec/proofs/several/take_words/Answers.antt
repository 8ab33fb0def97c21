use Rattle.thumb_exec.proofs.Lowest.{transfers_none}
use Rattle.thumb_exec.proofs.Transfers.{loads_rest, loads_none, loads_nothing}
use Rattle.thumb_exec.proofs.several.take_words.Goals as goal

pub loop-rest-preserved : goal.loop-rest-preserved
loop-rest-preserved g c = λ s more. c.loop-rest.invariant s (loads_rest g.B.Bus.stored g.B.Bus.took _ c.loop-rest.at _ _ c.loop-rest.bus c.taken.new.self s (c.split_lowest-others.ensures.first c.loop-rest.at) c.taken.ensures.done more)

pub returns : goal.returns
returns g c = c.loop-rest.invariant _ (loads_none g.B.Bus.stored g.B.Bus.took _ c.loop-rest.bus (transfers_none c.loop-rest.rest c.loop-rest.at c.loop-rest-test.false))

pub returns-then-not-takes : goal.returns-then-not-takes
returns-then-not-takes g c = loads_nothing g.B.Bus.stored g.B.Bus.took _ (c.takes.ensures c.if-not-takes.true) _
