use Rattle.std.proofs.Common.{◌≡◌, ◌≤◌, ◌-◌, length, List, ℕ}
use Rattle.board_model.specs.Script.{Scenario}
use Rattle.board_core.specs.Data.{boxed}
use Rattle.outside_io.specs.Seen.{OnlyReads}
use Rattle.debug_core.specs.Live.{HasGiven}
use Rattle.debug_core.specs.Session.{Session}
use Rattle.debug_core.specs.Sessions.{IsSession}
use Rattle.debug_core.specs.UnderWay.{IsAmid}
use Rattle.debug_core.proofs.Taking.{IsRead}
use Rattle.debug_core.proofs.debugger.Debugger.take_pieces.Given as goal

abbrev pub invariant-pieces : goal.invariant-pieces
invariant-pieces g l =
    let shown = boxed (λ p. (goal.Device-dyn g p).shown p.1) in
    record {
      most : l.place ≤ 4294967295;
      room : length l.buf ≡ 4096;
      amid : (x : Scenario) (s : Session) → IsSession shown x l.fn.self s
          → (text : List ℕ) × IsRead ((g.F.Files.seen l.fn.files).contents l.name) l.place text × IsAmid shown x s text (g.S.Sink.seen l.fn.out).written (g.S.Sink.seen l.out).written l.self l.under_way;
      given : HasGiven (g.F.Files.seen l.fn.files).given (g.F.Files.seen l.files).given l.place;
      later : (g.S.Sink.seen l.fn.out).faults ≤ (g.S.Sink.seen l.out).faults;
      only_reads : OnlyReads (g.F.Files.seen l.fn.files) (g.F.Files.seen l.files);
    }

abbrev pub decreases-pieces : goal.decreases-pieces
decreases-pieces g l = 4294967295 - l.place
