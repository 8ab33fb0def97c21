use Rattle.std.proofs.Common.{◌≡◌, ◌-◌, ◌≤◌}
use Rattle.board_core.specs.Data.{boxed}
use Rattle.board_core.specs.Stands.{turns_of}
use Rattle.explore_core.specs.Searching.{GoesOn, to_do}
use Rattle.explore_core.proofs.search.Search.come_to_way.Given as goal

abbrev pub invariant-turns : goal.invariant-turns
invariant-turns g l =
    let shown = boxed (λ p. (goal.Device-dyn g p).shown p.1) in
    record {
      goes : GoesOn shown l.given l.fn.at l.at l.fn.self l.self;
      pending : l.at.pending ≡ l.fn.at.pending;
      later : turns_of l.fn.self.board ≤ turns_of l.self.board;
      falls : to_do (l.given.limit - turns_of l.self.board) l.at ≤ to_do (l.given.limit - turns_of l.fn.self.board) l.fn.at;
    }

abbrev pub decreases-turns : goal.decreases-turns
decreases-turns g l = l.given.limit - turns_of l.self.board
