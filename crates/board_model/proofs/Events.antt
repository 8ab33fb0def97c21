-- What comes from outside touches no call, writes nothing and reads nothing for a task.
use Rattle.std.proofs.Common.{◌%◌, List, [], ◌∷◌, arith, inl, inr, refl, ◌∙◌}
use Rattle.std.specs.Prelude.{fold}
use Rattle.std.proofs.lemmas.List.Elements.{Contains-append_cases}
use Rattle.run_script.specs.declared.events.Event.{Event}
use Rattle.run_script.specs.declared.events.Event.TheVariants.{Tick, Irq, Feed}
use Rattle.run_script.specs.Scripts.{events_of}
use Rattle.task_table.specs.model.State.{Setup, State, Turn}
use Rattle.task_table.specs.model.Events.{ticked, interrupted, fed, driven}
use Rattle.task_table.specs.model.Start.{begun}
use Rattle.task_table.specs.model.Lives.{IsFresh}
use Rattle.task_table.proofs.model.Moves.{plain_one, IsOutside, outside_here, outside_then}
use Rattle.task_table.proofs.model.Outside.{outside-ticked, aside-interrupted, outside-fed, aside-driven}
use Rattle.board_model.specs.Script.{Scenario}
use Rattle.board_model.specs.Turn.{happened, after_events}

outside-events : (g : Setup) (events : List Event) (t : Turn) → IsOutside t (fold (happened g) t events)
outside-events g [] t = outside_here t
outside-events g (Tick ∷ events) t = outside_then t (ticked t) _ (outside-ticked t) (outside-events g events (ticked t))
outside-events g (Feed device byte ∷ events) t =
    let u = fed device (byte % 256) t in
    outside_then t u _ (outside-fed device (byte % 256) t)
    (outside_then u (driven g u) _ (aside-driven g u).outside (outside-events g events (driven g u)))
outside-events g (Irq line ∷ events) t = outside_then t (interrupted g line t) _ (aside-interrupted g line t).outside (outside-events g events (interrupted g line t))

pub outside-after_events : (x : Scenario) (s : State) → IsOutside (begun s) (after_events x s)
unfolding after_events
outside-after_events x s = outside-events x.setup (events_of x.script s.turn) (begun s)

-- nothing has happened yet where only things from outside have
pub fresh_outside : (s : State) (u v : Turn) → IsOutside u v → IsFresh s u → IsFresh s v
fresh_outside s u v a f = record {
  calls = a.calls ∙ f.calls;
  next_call = a.next_call ∙ f.next_call;
  memory = a.memory ∙ f.memory;
  writes = a.writes ∙ f.writes;
  reads = a.reads ∙ f.reads;
  plain = λ n here. elim (Contains-append_cases u.notes a.new n (rw a.notes at here)) [ inl old ↦ f.plain n old | inr new ↦ plain_one a.new n a.plain new ];
}

fresh-begun : (s : State) → IsFresh s (begun s)
unfolding begun
fresh-begun s = record { calls = refl; next_call = refl; memory = refl; writes = refl; reads = refl; plain = λ n here. absurd (omega (arith, here.1)) }

pub fresh-after_events : (x : Scenario) (s : State) → IsFresh s (after_events x s)
fresh-after_events x s = fresh_outside s (begun s) (after_events x s) (outside-after_events x s) (fresh-begun s)
