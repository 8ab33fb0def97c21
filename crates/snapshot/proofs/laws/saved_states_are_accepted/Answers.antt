use Rattle.snapshot.specs.Saved.{expected_of}
use Rattle.snapshot.proofs.Accepts.{none_of}
use Rattle.snapshot.proofs.Saves.{saved_is_accepted}
use Rattle.snapshot.proofs.laws.saved_states_are_accepted.Goals as goal

pub returns : goal.returns
returns c = λ g s bytes sane counted turns few spells. none_of (expected_of g s.devices) bytes (saved_is_accepted g s bytes sane counted turns few spells)
