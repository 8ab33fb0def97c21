use Rattle.std.proofs.Common.{refl}
use Rattle.board_core.proofs.Loading.{begun_by}
use Rattle.board_core.proofs.machine.Machine.begin.Goals as goal

pub returns-clause-holds : goal.returns-clause-holds
returns-clause-holds boxes c = λ g t h. begun_by _ _ g c.args.self.now.space record c.args.self.now.space { kernel = c.clear_notes.new.self } _ t refl (λ u hu. c.clear_notes.ensures.holds g u hu) h
