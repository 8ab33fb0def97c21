use Rattle.std.proofs.Common.{◌≡◌, ◌<◌, ℕ, false, Some}
use Rattle.task_table.specs.kept.Entries.{kept_at, meets, IsWatched}
use Rattle.task_table.specs.declared.entry.KeptEntry.{KeptEntry}
use Rattle.task_table.proofs.entry.drop_met.Given as goal

-- so far the entries that are left for the first tasks have none of the bytes, and are watched
abbrev pub invariant-loop-task : goal.invariant-loop-task
invariant-loop-task l = record {
  there : (i : ℕ) (x : KeptEntry) → kept_at l.entries i ≡ Some x → kept_at l.initial.entries i ≡ Some x;
  apart : (i : ℕ) (x : KeptEntry) → i < l.task → kept_at l.entries i ≡ Some x → meets x l.addr l.count ≡ false;
  stay : (i : ℕ) (x : KeptEntry) → kept_at l.initial.entries i ≡ Some x → meets x l.addr l.count ≡ false → kept_at l.entries i ≡ Some x;
  watched : (i : ℕ) (x : KeptEntry) → i < l.task → kept_at l.entries i ≡ Some x → IsWatched l.watch.low l.watch.span x.base;
}
