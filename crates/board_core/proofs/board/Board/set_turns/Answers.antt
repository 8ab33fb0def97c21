use Rattle.std.proofs.Common.{refl, subst}
use Rattle.run_script.specs.Scripts.{ScriptData, IsNext}
use Rattle.board_core.proofs.Loading.{between_by}
use Rattle.board_core.proofs.Turning.{rested}
use Rattle.board_core.proofs.Told.{choice_stays}
use Rattle.board_core.proofs.board.Board.set_turns.Goals as goal

pub returns-clause-holds : goal.returns-clause-holds
returns-clause-holds boxes c = λ x s h.
    let b = c.args.self.now in
    let n = c.args.v in
    let N : ScriptData → Type 0 = λ d. IsNext d n c.next-self.result in
    record {
      machine = between_by _ b.machine.loaded x.setup b.machine.space b.machine.glider.runner.processor (rested b.machine s) n h.machine;
      turns = refl;
      choice = choice_stays x.setup s b.choice x.setup.flash s.memory n s.now s.next_call s.lines h.choice;
      script = h.script;
      io_regions = h.io_regions;
      due = subst N h.script c.next-self.ensures;
    }
