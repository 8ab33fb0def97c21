use Rattle.std.proofs.Common.{◌≡◌, ◌<◌, ℕ, get_or}
use Rattle.task_table.proofs.task_set.TaskSet.is_same.Given as goal

-- the words before are the same
abbrev pub invariant-loop-word : goal.invariant-loop-word
invariant-loop-word l = (w : ℕ) → w < l.word → get_or l.self.words w 0 ≡ get_or l.other.words w 0
