use Rattle.std.proofs.Common.{Bool, ◌∙◌, ap}
use Rattle.run_script.specs.Events.{script_data}
use Rattle.board_model.specs.Run.{is_down, end_in}
use Rattle.board_model.proofs.Endings.{still_is, before_bound}
use Rattle.board_core.proofs.board.Board.ended.Goals as goal

pub returns-clause-end : goal.returns-clause-end
returns-clause-end boxes c = λ x s st.
    let b = c.args.self.now in
    let still = still_is x s b.choice.next (script_data b.script) b.turns c.is_still.result c.is_still.ensures st.holds.choice.next st.holds.script st.holds.turns in
    c.end_by.ensures ∙ ap (λ (d : Bool). end_in d c.is_still.result) st.holds.choice.down ∙ ap (end_in (is_down s)) still

pub returns-clause-before : goal.returns-clause-before
returns-clause-before boxes c = λ x s left st h.
    let b = c.args.self.now in
    let still = still_is x s b.choice.next (script_data b.script) b.turns c.is_still.result c.is_still.ensures st.holds.choice.next st.holds.script st.holds.turns in
    c.end_by.ensures ∙ ap (λ (d : Bool). end_in d c.is_still.result) st.holds.choice.down ∙ ap (end_in (is_down s)) still ∙ before_bound x s left h
