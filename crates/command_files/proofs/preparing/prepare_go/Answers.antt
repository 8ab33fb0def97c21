use Rattle.command_files.proofs.preparing.prepare_go.Goals as goal

pub returns-in-Ok-clause-set : goal.returns-in-Ok-clause-set
returns-in-Ok-clause-set g c = record { described = _; lines = _; of_app = c.in-Ok.ensures.set }
