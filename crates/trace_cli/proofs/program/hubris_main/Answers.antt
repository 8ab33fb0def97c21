use Rattle.devices.proofs.Fresh.{none_fresh}
use Rattle.board_commands.proofs.Seeding.{no_devices}
use Rattle.trace_cli.proofs.Handed.{verdict_of_none, answered_without, each_without, on_without, front_without, refused_without, unread_without, done_without}
use Rattle.trace_cli.proofs.program.hubris_main.Goals as goal

pub hubris_main_with-requires : goal.hubris_main_with-requires
hubris_main_with-requires g c = record { fresh = none_fresh _ (no_devices _ _ c.new.ensures.items) }

pub returns-clause-seen : goal.returns-clause-seen
returns-clause-seen g c = λ v h.
    let none = no_devices _ _ c.new.ensures.items in
    answered_without _ none _ _ _ _ _ v _ (c.hubris_main_with.ensures.seen v (verdict_of_none _ none _ _ v h))

pub returns-clause-complete : goal.returns-clause-complete
returns-clause-complete g c = λ reads puts pushes v h. c.hubris_main_with.ensures.complete reads puts pushes v (verdict_of_none _ (no_devices _ _ c.new.ensures.items) _ _ v h)

pub returns-clause-done : goal.returns-clause-done
returns-clause-done g c = λ status. done_without _ (no_devices _ _ c.new.ensures.items) _ (g.F.Files.seen c.args.files.now) (g.F.Files.seen c.hubris_main_with.new.files) _ _ _ (c.hubris_main_with.ensures.done status)

pub returns-clause-refused : goal.returns-clause-refused
returns-clause-refused g c = λ status. refused_without _ (no_devices _ _ c.new.ensures.items) _ _ _ _ (c.hubris_main_with.ensures.refused status)

pub returns-clause-unread : goal.returns-clause-unread
returns-clause-unread g c = λ status. unread_without _ (no_devices _ _ c.new.ensures.items) _ _ _ _ _ (c.hubris_main_with.ensures.unread status)

pub returns-clause-cut : goal.returns-clause-cut
returns-clause-cut g c = λ status. front_without _ (no_devices _ _ c.new.ensures.items) _ _ _ _ _ (c.hubris_main_with.ensures.cut status)

pub returns-clause-each : goal.returns-clause-each
returns-clause-each g c = λ job at. each_without _ (no_devices _ _ c.new.ensures.items) job _ _ _ _ _ (c.hubris_main_with.ensures.each job at)

pub returns-clause-goes_on : goal.returns-clause-goes_on
returns-clause-goes_on g c = on_without _ (no_devices _ _ c.new.ensures.items) _ _ _ _ _ _ c.hubris_main_with.ensures.goes_on
