use Rattle.std.proofs.Common.{◌∙◌, ap}
use Rattle.std.proofs.lemmas.Result.{IfOk-weaker}
use Rattle.board_model.specs.Alike.{reduced}
use Rattle.board_model.specs.Run.{Run}
use Rattle.board_model.specs.Script.{start_of}
use Rattle.board_model.specs.declared.outcomes.Level.TheVariants.{Calls}
use Rattle.snapshot.specs.Saved.{spelling}
use Rattle.board_commands.proofs.Starting.{from_start}
use Rattle.board_commands.proofs.save.last_bytes.Goals as goal

pub returns : goal.returns
returns boxes c = λ x st.
    let same = from_start Calls x c.args.board.now c.args.steps st c.requires.fresh in
    IfOk-weaker c.save.result _ _ (λ v h. h.is ∙ ap (λ (r : Run). spelling (reduced r.last)) same) (c.save.ensures x _ (c.in-Ok.ensures.last x (start_of x) st))

pub save-requires : goal.save-requires
save-requires boxes c = let stood = c.requires.stood in record { stood = (stood.0, _, c.in-Ok.ensures.last stood.0 stood.1 stood.2) }
