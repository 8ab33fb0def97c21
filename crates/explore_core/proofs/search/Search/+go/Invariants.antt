use Rattle.std.proofs.Common.{◌≡◌, ◌-◌, ◌≤◌, length, map}
use Rattle.board_core.specs.Data.{boxed}
use Rattle.board_core.specs.Stands.{turns_of}
use Rattle.explore_core.specs.contracts.search.Search.go as contract
use Rattle.explore_core.specs.Searching.{GoesOn, to_do}
use Rattle.explore_core.proofs.search.Search.+go.Given as goal

abbrev pub decreases-go : goal.decreases-go
decreases-go g l = length l.rooms.now

abbrev pub invariant-ways : goal.invariant-ways
invariant-ways g l =
    let shown = boxed {X = g.dyn-1.0.I} {H = λ x. (g.dyn-1.0.entry x).0.Denot} (λ z. (contract.dyn-1.members (contract.dyn-1-ghosts (g.dyn-1.0, g.dyn-1.1)) z).shown z.1) in
    record {
      goes : GoesOn shown l.given l.fn.at l.at l.fn.self l.self;
      pending : l.at.pending ≡ l.fn.at.pending;
      later : turns_of l.fn.self.board ≤ turns_of l.self.board;
      rooms : map (λ r. length r.items) l.rooms ≡ map (λ r. length r.items) l.fn.rooms;
    }

abbrev pub decreases-ways : goal.decreases-ways
decreases-ways g l = to_do (l.given.limit - turns_of l.self.board) l.at
