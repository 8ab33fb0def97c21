use Rattle.region_check.proofs.Sharing as alone
use Rattle.region_check.proofs.who_is_alone_shares_no_byte.Goals as goal

pub returns-clause-no_device : goal.returns-clause-no_device
returns-clause-no_device c = λ own others e r here. alone.no_device own others e r here

pub returns-clause-apart : goal.returns-clause-apart
returns-clause-apart c = λ own others e r q here there place a inside. alone.apart own others e r q here there place a inside
