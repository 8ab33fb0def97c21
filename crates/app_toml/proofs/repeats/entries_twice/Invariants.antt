use Rattle.std.proofs.Common.{◌≡◌, ◌||◌, [], drop, map, take, string_bytes}
use Rattle.std.specs.BTreeSet.{contains_text}
use Rattle.app_toml.specs.Crossed.{entry_twice, is_among, task_site}
use Rattle.app_toml.specs.Places.{Text, first_clash}
use Rattle.app_toml.proofs.repeats.entries_twice.Given as goal

abbrev pub invariant-loop-i : goal.invariant-loop-i
invariant-loop-i l =
    (first_clash (entry_twice (map string_bytes l.earlier) (task_site l.k l.key)) (map string_bytes (take l.i l.names)) l.i (map string_bytes (drop l.i l.names))
    ≡ first_clash (entry_twice (map string_bytes l.earlier) (task_site l.k l.key)) [] 0 (map string_bytes l.names))
    × ((q : Text) → contains_text l.known q ≡ (is_among q (map string_bytes l.earlier) || is_among q (map string_bytes (take l.i l.names))))
