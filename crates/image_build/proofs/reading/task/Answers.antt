use Rattle.app_toml.specs.Held.{app_of}
use Rattle.image_build.proofs.Finding.{Known, known_task}
use Rattle.image_build.proofs.reading.task.Goals as goal

known : (c : goal.After-index-tasks-i) → Known (app_of c.args.app.now) c.args.i c.index-tasks-i.result
known c = known_task (app_of c.args.app.now) c.tasks.result.now c.facts.ensures c.tasks.ensures c.args.i c.index-tasks-i.result c.requires c.index-tasks-i.is

pub returns-clause-task : goal.returns-clause-task
returns-clause-task c = (known c).task

pub returns-clause-notes : goal.returns-clause-notes
returns-clause-notes c = (known c).notes

pub returns-clause-regions : goal.returns-clause-regions
returns-clause-regions c = (known c).regions

pub returns-clause-flash : goal.returns-clause-flash
returns-clause-flash c = (known c).form.flash.1

pub returns-clause-ram : goal.returns-clause-ram
returns-clause-ram c = (known c).form.ram.1

pub returns-clause-stack : goal.returns-clause-stack
returns-clause-stack c = (known c).form.stack
