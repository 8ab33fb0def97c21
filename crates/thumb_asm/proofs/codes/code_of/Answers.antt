use Rattle.std.proofs.Common.{◌≡◌, ◌∙◌, refl, Result, Ok, Err, IfOk, Some, length}
use Rattle.thumb_insn.specs.declared.Code.{Code}
use Rattle.thumb_insn.specs.declared.Code.TheVariants as code
use Rattle.thumb_insn.specs.declared.Insn.{Insn}
use Rattle.thumb_insn.specs.Range.{insn_of, IsCode}
use Rattle.thumb_encode.specs.Codes.{code_size, insn_size}
use Rattle.thumb_encode.specs.declared.Fit.{Fit}
use Rattle.thumb_asm.specs.Meaning.{code_bytes}
use Rattle.thumb_asm.proofs.codes.code_of.Goals as goal

bytes_size : (c : Code) → length (code_bytes c) ≡ code_size c
bytes_size (code.One h) = refl
bytes_size (code.Two a b) = refl

sized : (i : Insn) (r : Result Code Fit) → IfOk r (λ c. insn_of c ≡ Some i) → IfOk r IsCode → IfOk r (λ c. code_size c ≡ insn_size i) → IfOk r (λ c. (insn_of c ≡ Some i) × IsCode c × (length (code_bytes c) ≡ insn_size i))
sized i (Ok c) h k n = (h, k, bytes_size c ∙ n)
sized i (Err f) h k n = tt

pub returns-clause-coded : goal.returns-clause-coded
returns-clause-coded c = sized c.args.insn.now c.encode.result c.encode.ensures.coded c.encode.ensures.halfwords c.encode.ensures.size
