use Rattle.std.proofs.Common.{Some, None, sym, ◌∙◌, ap, refl, arith}
use Rattle.board_core.specs.Data.{boxed, data_of}
use Rattle.board_core.proofs.Reaching.{given}
use Rattle.board_core.proofs.space.AddressSpace.give.Goals as goal

pub returns-in-Some : goal.returns-in-Some
returns-in-Some boxes c =
    let shown = boxed (λ p. (goal.Device-dyn boxes p).shown p.1) in
    let noted = c.note_given.ensures in
    record {
      holds = λ g t room h. given _ c.args.self.now _ g t c.args.addr c.args.value (Some c.in-Some.given) h (ap (data_of shown) noted.devices ∙ c.store.ensures.stored) (sym c.in-Some.is ∙ c.store.ensures.out) (λ u hu. noted.noted room g u hu);
      setup = noted.frame.setup;
      current = noted.current;
      tasks = noted.frame.tasks;
      notes = noted.frame.notes;
    }

pub returns-in-None : goal.returns-in-None
returns-in-None boxes c = record {
  holds = λ g t room h. given _ c.args.self.now _ g t c.args.addr c.args.value None h c.store.ensures.stored (sym c.in-None.is ∙ c.store.ensures.out) (λ u hu. hu);
  setup = refl;
  current = refl;
  tasks = refl;
  notes = omega arith;
}
