use Rattle.board_model.proofs.Stepping.{trap_known}
use Rattle.board_model.proofs.laws.faults_of_instructions_are_known.Goals as goal

pub returns-clause-from_one : goal.returns-clause-from_one
returns-clause-from_one c = λ g t insn fault h coded e. (trap_known g t insn fault h coded e).0

pub returns-clause-to_ten : goal.returns-clause-to_ten
returns-clause-to_ten c = λ g t insn fault h coded e. (trap_known g t insn fault h coded e).1
