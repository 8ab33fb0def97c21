-- States that are equal with births modulo 64, and where a run starts.
use Rattle.std.proofs.Common.{◌≡◌, ap, refl}
use Rattle.task_table.specs.model.State.{State}
use Rattle.task_table.specs.model.Start.{start}
use Rattle.board_model.specs.Alike.{reduced, seen}
use Rattle.board_model.specs.Script.{Scenario, start_of}

pub first_turn : (x : Scenario) → (start_of x).turn ≡ 0
unfolding start
first_turn x = refl

pub same_turn : (s u : State) → reduced s ≡ reduced u → s.turn ≡ u.turn
unfolding seen
same_turn s u e = ap (λ (v : State). v.turn) e
