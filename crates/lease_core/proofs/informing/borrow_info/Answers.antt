use Rattle.std.proofs.Common.{◌<◌, length, arith}
use Rattle.task_table.proofs.model.StepKeeps.{sane-informed}
use Rattle.lease_core.proofs.informing.borrow_info.Goals as goal

pub returns-clause-performs : goal.returns-clause-performs
returns-clause-performs c =
    record {
      stands = λ g t h ready.
          let inside : c.args.caller < length t.state.tasks = omega (arith, c.requires.there, h.holds.count) in
          record { holds = c.borrow_info_rows.ensures.holds g t h; sane = sane-informed c.args.caller t h.sane inside };
      frame = c.borrow_info_rows.ensures.frame;
    }

pub returns-clause-held : goal.returns-clause-held
returns-clause-held c = λ g t h ready. c.borrow_info_rows.ensures.held g t h
