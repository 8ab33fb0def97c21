use Rattle.asm_laws.proofs.Every.{every}
use Rattle.asm_laws.proofs.Spelling.{spelled, accepted}
use Rattle.asm_laws.proofs.Whole.{assembled}
use Rattle.asm_laws.proofs.text_is_read.Goals as goal

pub returns : goal.returns
returns c = record {
  read = λ i at k h. (every i at k h).read;
  spelled = λ i at k h. spelled i at (every i at k h).read;
  accepted = λ i at k h. accepted i at (every i at k h).read;
  assembled = λ i at k h. assembled i at (every i at k h);
}
