use Rattle.thumb_exec.specs.Effect.{transfers, loads_of, Moves}
use Rattle.thumb_exec.proofs.several.take_words.Given as goal

abbrev pub invariant-loop-rest : goal.invariant-loop-rest
invariant-loop-rest g l = (s : g.row.B.Denot) → Moves g.B.Bus.stored g.B.Bus.took l.bus (loads_of (transfers l.rest l.at)) s → Moves g.B.Bus.stored g.B.Bus.took l.fn.bus (loads_of (transfers l.mask l.addr)) s

abbrev pub decreases-loop-rest : goal.decreases-loop-rest
decreases-loop-rest g l = l.rest
