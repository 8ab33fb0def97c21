use Rattle.board_model.proofs.LonerLives.{same_after, same_in_runs}
use Rattle.board_model.proofs.loners.loners_go_their_own_way.Goals as goal

pub returns-clause-runs : goal.returns-clause-runs
returns-clause-runs c = λ level other x y i j n m s u born h. same_in_runs level other x y i j s u born n m h.first h.second h.some h.as_many

pub returns-clause-lives : goal.returns-clause-lives
returns-clause-lives c = λ level other x y i j k s u z v born one two. same_after level other x y i j s u born k z v one two
