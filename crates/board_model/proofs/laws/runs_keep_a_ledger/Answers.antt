use Rattle.board_model.proofs.Lifetimes.{ledger-run}
use Rattle.board_model.proofs.laws.runs_keep_a_ledger.Goals as goal

pub returns : goal.returns
returns c = λ level x n h. ledger-run level x n h
