use Rattle.std.proofs.Common.{◌≡◌, ℕ, None, length}
use Rattle.task_table.specs.kept.Entries.{kept_at}
use Rattle.task_table.proofs.entry.no_entries.Given as goal

-- so far the list has this many items, and each is None
abbrev pub invariant-loop : goal.invariant-loop
invariant-loop l = record {
  count : length l.entries.items ≡ l.counter;
  none : (i : ℕ) → kept_at l.entries.items i ≡ None;
}
