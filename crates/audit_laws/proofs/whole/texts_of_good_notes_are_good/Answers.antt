use Rattle.audit_laws.proofs.Assembled.{text_good}
use Rattle.audit_laws.proofs.Fine.{text_fine}
use Rattle.audit_laws.proofs.Fitting.{fit_notes}
use Rattle.audit_laws.proofs.whole.texts_of_good_notes_are_good.Goals as goal

pub returns-clause-good : goal.returns-clause-good
returns-clause-good c = λ notes texts rest order fit right. text_good notes texts rest (fit_notes 0 notes order fit right)

pub returns-clause-fine : goal.returns-clause-fine
returns-clause-fine c = λ notes texts lines order fit right. text_fine notes texts lines (fit_notes 0 notes order fit right)
