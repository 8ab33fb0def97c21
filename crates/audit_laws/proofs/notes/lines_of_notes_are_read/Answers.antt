use Rattle.audit_laws.proofs.Spelled.{note_read}
use Rattle.audit_laws.proofs.notes.lines_of_notes_are_read.Goals as goal

pub returns : goal.returns
returns c = note_read
