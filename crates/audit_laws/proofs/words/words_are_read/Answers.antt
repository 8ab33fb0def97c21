use Rattle.audit_laws.proofs.Decimals.{number_back}
use Rattle.audit_laws.proofs.Hexes.{hex_fits}
use Rattle.audit_laws.proofs.words.words_are_read.Goals as goal

pub returns-clause-numbers : goal.returns-clause-numbers
returns-clause-numbers c = number_back

pub returns-clause-digits : goal.returns-clause-digits
returns-clause-digits c = hex_fits
