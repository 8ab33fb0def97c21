use Rattle.std.proofs.Common.{ap, sym}
use Rattle.help_text.specs.Help.{parts_on}
use Rattle.help_text.proofs.telling.parts_on.Goals as goal

pub returns-in-Build : goal.returns-in-Build
unfolding parts_on
returns-in-Build c = sym (ap parts_on c.in-Build.is)

pub returns-in-Run : goal.returns-in-Run
unfolding parts_on
returns-in-Run c = sym (ap parts_on c.in-Run.is)

pub returns-in-Go : goal.returns-in-Go
unfolding parts_on
returns-in-Go c = sym (ap parts_on c.in-Go.is)

pub returns-in-List : goal.returns-in-List
unfolding parts_on
returns-in-List c = sym (ap parts_on c.in-List.is)

pub returns-in-Sample : goal.returns-in-Sample
unfolding parts_on
returns-in-Sample c = sym (ap parts_on c.in-Sample.is)

pub returns-in-Migrate : goal.returns-in-Migrate
unfolding parts_on
returns-in-Migrate c = sym (ap parts_on c.in-Migrate.is)

pub returns-in-Audit : goal.returns-in-Audit
unfolding parts_on
returns-in-Audit c = sym (ap parts_on c.in-Audit.is)

pub returns-in-Save : goal.returns-in-Save
unfolding parts_on
returns-in-Save c = sym (ap parts_on c.in-Save.is)

pub returns-in-Resume : goal.returns-in-Resume
unfolding parts_on
returns-in-Resume c = sym (ap parts_on c.in-Resume.is)

pub returns-in-Debug : goal.returns-in-Debug
unfolding parts_on
returns-in-Debug c = sym (ap parts_on c.in-Debug.is)

pub returns-in-Cover : goal.returns-in-Cover
unfolding parts_on
returns-in-Cover c = sym (ap parts_on c.in-Cover.is)

pub returns-in-Sweep : goal.returns-in-Sweep
unfolding parts_on
returns-in-Sweep c = sym (ap parts_on c.in-Sweep.is)

pub returns-in-Help : goal.returns-in-Help
unfolding parts_on
returns-in-Help c = sym (ap parts_on c.in-Help.is)

pub returns-in-Timeline : goal.returns-in-Timeline
unfolding parts_on
returns-in-Timeline c = sym (ap parts_on c.in-Timeline.is)

pub returns-in-Live : goal.returns-in-Live
unfolding parts_on
returns-in-Live c = sym (ap parts_on c.in-Live.is)

pub returns-in-Picture : goal.returns-in-Picture
unfolding parts_on
returns-in-Picture c = sym (ap parts_on c.in-Picture.is)

pub returns-in-Lcov : goal.returns-in-Lcov
unfolding parts_on
returns-in-Lcov c = sym (ap parts_on c.in-Lcov.is)
