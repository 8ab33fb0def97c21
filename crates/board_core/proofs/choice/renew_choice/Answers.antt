use Rattle.std.proofs.Common.{◌∙◌, sym}
use Rattle.task_table.specs.model.Reading.{is_ready}
use Rattle.task_table.specs.kept.Holds.{order_of}
use Rattle.board_model.proofs.Quiet.{chosen_again}
use Rattle.board_core.proofs.Choosing.{same_ready, same_tests}
use Rattle.board_core.proofs.choice.renew_choice.Goals as goal

pub returns-then-stays : goal.returns-then-stays
returns-then-stays c = λ g t h was.
    let s = was.0 in
    let is = was.2 in
    let next = c.stays.ensures.next c.if-stays.true in
    let kept = c.stays.ensures.ready c.if-stays.true in
    let now = c.ready.ensures.holds g t h in
    let ready = same_ready g s t.state (sym was.1.steady.as_many) h.many (λ i there. sym (same_tests g.tasks is.order _ _ _ (is_ready s) (is_ready t.state) is.ready now kept i there)) in
    let again = chosen_again g s t.state c.current.result was.1 h.many ready (sym is.next ∙ next) (sym (c.current.ensures.holds g t h)) in
    record { next = next ∙ sym again; order = is.order; ready = record { ordered = is.ready.ordered; each = λ i there. is.ready.each i there ∙ sym (ready i) }; down = c.is_down-choice.ensures g t h }

pub returns : goal.returns
returns c = λ g t h was.
    let now = c.ready-2.ensures.holds g t h in
    let order = order_of c.args.kernel.now in
    record {
      next = c.choose-choice.ensures g t h;
      order = order;
      ready = now;
      down = c.is_down-choice.ensures g t h;
    }
