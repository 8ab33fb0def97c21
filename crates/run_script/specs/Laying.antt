-- Room for events, and when no event can be added. docs/FORMATS.md, Script, has the bounds.
use Rattle.std.specs.Prelude.{ℕ, ◌≤◌, Bool, ◌||◌, nat_le}
use Rattle.std.specs.Vec.{vec_capacity}
use Rattle.run_script.specs.declared.script.Script.{Script}
use Rattle.run_script.specs.Scripts.{ScriptData, is_full}

-- it can list this many events without allocating memory
abbrev pub HasRoom : Script → ℕ → Type 0
HasRoom s n = n ≤ vec_capacity s.events

-- with one more event in this turn it would be no script: the turn is past the last one, or 65,536 events are
-- listed, or eight of the turn
abbrev pub has_no_place : ScriptData → ℕ → Bool
has_no_place script turn = nat_le 1000000000 turn || is_full script.events turn
