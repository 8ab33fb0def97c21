use Rattle.run_script.proofs.ReadBack.{text_read}
use Rattle.run_script.proofs.laws.script_text_is_read.Goals as goal

pub returns : goal.returns
returns c = text_read
