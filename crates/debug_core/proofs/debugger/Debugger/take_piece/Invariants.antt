use Rattle.std.proofs.Common.{◌≤◌, List, ℕ, ◌++◌, Option, take}
use Rattle.board_model.specs.Script.{Scenario}
use Rattle.board_core.specs.Data.{boxed}
use Rattle.debug_core.specs.Session.{Session}
use Rattle.debug_core.specs.UnderWay.{IsAmid}
use Rattle.debug_core.proofs.debugger.Debugger.take_piece.Given as goal

abbrev pub invariant-loop-byte : goal.invariant-loop-byte
invariant-loop-byte g l =
    let shown = boxed (λ p. (goal.Device-dyn g p).shown p.1) in
    record {
      amid : (x : Scenario) (s : Session) (text : List ℕ) (old : Option (List ℕ)) → IsAmid shown x s text old (g.S.Sink.seen l.fn.out).written l.fn.self l.fn.under_way
          → IsAmid shown x s (text ++ take l.byte-index l.piece) old (g.S.Sink.seen l.out).written l.self l.under_way;
      later : (g.S.Sink.seen l.fn.out).faults ≤ (g.S.Sink.seen l.out).faults;
    }
