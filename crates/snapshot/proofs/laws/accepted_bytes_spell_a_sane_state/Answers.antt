use Rattle.snapshot.specs.Saved.{expected_of}
use Rattle.snapshot.proofs.Accepts.{accepted}
use Rattle.snapshot.proofs.Restores.{spells, sane, counted}
use Rattle.snapshot.proofs.laws.accepted_bytes_spell_a_sane_state.Goals as goal

pub returns : goal.returns
returns c = record {
  spelled = λ g devices bytes lines are none. spells g devices bytes (accepted (expected_of g devices) bytes none) lines are;
  sane = λ g devices bytes sound beside are none. sane g devices bytes (accepted (expected_of g devices) bytes none) sound beside are;
  counted = λ g devices bytes none. counted g devices bytes (accepted (expected_of g devices) bytes none);
}
