-- Lines of the trace.
use Rattle.kernel_abi.specs.declared.Note.{Note}
use Rattle.kernel_abi.specs.declared.Note.TheVariants.{Fault}

-- the note that stands at the places of a list where nothing was noted
abbrev pub blank_note : Note
blank_note = Fault 0 (record { number = 0; x = 0; y = 0 })
