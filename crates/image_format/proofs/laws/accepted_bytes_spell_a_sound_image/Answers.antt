use Rattle.image_format.proofs.Spellings.{read_only, read_sound, read_spelled}
use Rattle.image_format.proofs.laws.accepted_bytes_spell_a_sound_image.Goals as goal

pub returns-clause-spelled : goal.returns-clause-spelled
returns-clause-spelled c = read_spelled

pub returns-clause-sound : goal.returns-clause-sound
returns-clause-sound c = read_sound

pub returns-clause-accepted : goal.returns-clause-accepted
returns-clause-accepted c = read_only
