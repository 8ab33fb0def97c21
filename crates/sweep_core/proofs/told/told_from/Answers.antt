use Rattle.std.proofs.Common.{◌≡◌, ◌-◌, Bool, subst}
use Rattle.task_table.specs.model.State.{State}
use Rattle.board_model.specs.declared.outcomes.End.{End}
use Rattle.board_model.specs.declared.outcomes.Level.TheVariants.{Calls}
use Rattle.board_model.specs.Run.{run}
use Rattle.sweep_core.specs.declared.tally.Tally.{Tally}
use Rattle.sweep_core.specs.declared.told.Told.{Told}
use Rattle.sweep_core.specs.Told.{IsToldAt}
use Rattle.sweep_core.proofs.told.told_from.Goals as goal

told_so : (mem : Bool) (end other : End) (tally heard : Tally) (last : State) (t : Told) → end ≡ other → tally ≡ heard → IsToldAt mem end tally last t → IsToldAt mem other heard last t
told_so mem end other tally heard last t is told h = subst (λ e. IsToldAt mem e heard last t) is (subst (λ k. IsToldAt mem end k last t) told h)

pub returns-clause-told : goal.returns-clause-told
returns-clause-told g c = λ x s st.
    let last = (run Calls x (c.args.limit - s.turn) s).last in
    told_so c.args.mem c.in-Ok.end _ c.play.new.observer _ last c.told_at.result (c.in-Ok.ensures.end x s st) (c.in-Ok.ensures.told x s st) (c.told_at.ensures x last (c.in-Ok.ensures.last x s st))
