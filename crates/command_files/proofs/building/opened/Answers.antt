use Rattle.app_toml.specs.Held.{app_of}
use Rattle.command_files.proofs.Refusals.{has_room}
use Rattle.command_files.proofs.building.opened.Goals as goal

pub returns-in-Err-clause-file_fault : goal.returns-in-Err-clause-file_fault
returns-in-Err-clause-file_fault c = c.fault_by_plan.ensures (app_of c.args.app.now) c.in-Err.ensures.refused

pub returns-in-Ok-clause-room : goal.returns-in-Ok-clause-room
returns-in-Ok-clause-room c = has_room _ c.in-Ok.ensures.room
