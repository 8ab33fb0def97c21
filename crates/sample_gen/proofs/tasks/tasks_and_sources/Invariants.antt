use Rattle.std.proofs.Common.{◌≡◌, map, string_bytes}
use Rattle.std.specs.List.{range_with_len}
use Rattle.app_toml.specs.Sites.{task_of}
use Rattle.sample_gen.specs.Draws.{number}
use Rattle.sample_gen.specs.Sample.{client_priority, draws_before, source_of, task_by}
use Rattle.sample_gen.proofs.tasks.tasks_and_sources.Given as goal

abbrev pub invariant-loop-i : goal.invariant-loop-i
invariant-loop-i l =
    (l.numbers.last ≡ number l.fn.numbers.last (draws_before l.i))
    × (map task_of l.tasks.items ≡ map (task_by (client_priority l.fn.numbers.last)) (range_with_len 0 l.i))
    × (map string_bytes l.sources.items ≡ map (source_of l.fn.numbers.last) (range_with_len 0 l.i))
