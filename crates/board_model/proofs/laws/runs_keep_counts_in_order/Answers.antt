use Rattle.std.proofs.Common.{◌≡◌, ◌∙◌, length, refl}
use Rattle.run_script.proofs.Each.{each_turn}
use Rattle.board_model.proofs.Changes.{ram_turn}
use Rattle.board_model.proofs.Counts.{counted_run, counted_first}
use Rattle.board_model.proofs.RunKeeps.{state_run}
use Rattle.board_model.proofs.laws.runs_keep_counts_in_order.Goals as goal

pub returns-clause-counted : goal.returns-clause-counted
returns-clause-counted c = λ level x n s h few counted. counted_run level x n s h few counted

pub returns-clause-of_scripts : goal.returns-clause-of_scripts
returns-clause-of_scripts c = λ level x n s h facts counted. counted_run level x n s h (λ turn. (each_turn x.script facts turn).few) counted

pub returns-clause-start : goal.returns-clause-start
returns-clause-start c = λ x. counted_first x

pub returns-clause-ram : goal.returns-clause-ram
returns-clause-ram c = λ level x n s h. state_run level x (λ z. length z.memory.ram ≡ length s.memory.ram) (λ z sane same. ram_turn level x z sane ∙ same) n s h refl
