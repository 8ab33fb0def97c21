-- What a sweep tells of a run, and by what it compares runs.
use Rattle.std.specs.Prelude.{◌≡◌, Bool, ◌&&◌, ◌||◌, not, nat_lt, ◌++◌}
use Rattle.task_table.specs.model.State.{State}
use Rattle.board_model.specs.declared.outcomes.End.{End}
use Rattle.board_model.specs.Run.{Run}
use Rattle.sweep_core.specs.declared.tally.Tally.{Tally}
use Rattle.sweep_core.specs.declared.told.Told.{Told}
use Rattle.sweep_core.specs.Outcomes.{front_words, heard, letters, memory_word, nothing_heard}
use Rattle.sweep_core.specs.Swept.{is_supervisors}

-- what is told of a run that ended in this state, with this end and this tally
pub record IsToldAt (mem : Bool) (end : End) (tally : Tally) (last : State) (t : Told) : Type 0 where
  pub words : t.words.bytes ≡ front_words end tally ++ letters last ++ memory_word mem last.memory.ram
  pub faults : t.faults ≡ tally.faults
  pub by_supervisor : t.by_supervisor ≡ is_supervisors end

-- what is told of a run that goes on, with the tally of what came before
abbrev pub IsToldFrom : Bool → Tally → Run → Told → Type 0
IsToldFrom mem front r t = IsToldAt mem r.end (heard front r.notes) r.last t

-- what is told of a whole run
abbrev pub IsTold : Bool → Run → Told → Type 0
IsTold mem r t = IsToldFrom mem nothing_heard r t

abbrev pub is_worse_told : Told → Told → Bool
is_worse_told base t = nat_lt base.faults t.faults || (t.by_supervisor && not base.by_supervisor)
