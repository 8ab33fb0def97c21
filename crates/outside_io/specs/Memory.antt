-- What files and a sink in memory hold, and which of their calls fail.
use Rattle.std.specs.Prelude.{ℕ, ◌+◌, List, length, take, Option, Some, None, Bool, Result, Ok, Err, nat_le, not, ◌||◌, is_none}
use Rattle.std.specs.Option.{option_map}
use Rattle.outside_io.specs.declared.memory.MemSink.{MemSink}
use Rattle.outside_io.specs.declared.memory.MemFiles.{MemFiles}
use Rattle.outside_io.specs.Held.{contents_under, room_under, has_room}
use Rattle.outside_io.specs.Outside.{raised, short_name}
use Rattle.outside_io.specs.Calls.{is_next_listed}

-- the contents under each name that is held
abbrev pub contents_by : MemFiles → List ℕ → Option (List ℕ)
contents_by m = contents_under m.held

-- the room under each name that is held
abbrev pub rooms_of : MemFiles → List ℕ → Option ℕ
rooms_of m = room_under m.held

-- the files in memory without their contents: which calls have to fail, how many were made, the three counts,
-- and the last failing name
pub record Tally : Type 0 where
  pub fails : List ℕ
  pub calls : ℕ
  pub read_faults : ℕ
  pub put_faults : ℕ
  pub given : ℕ
  pub last_failing : Option (ℕ × List ℕ)

abbrev pub tally_of : MemFiles → Tally
tally_of m = record {
  fails = m.fails.items;
  calls = m.calls;
  read_faults = m.read_faults;
  put_faults = m.put_faults;
  given = m.given;
  last_failing = option_map (λ n. (n.len, take n.shown n.front)) m.last;
}

-- no call was made yet
abbrev pub fresh_tally : List ℕ → Tally
fresh_tally fails = record { fails = fails; calls = 0; read_faults = 0; put_faults = 0; given = 0; last_failing = None }

-- a read raises the count of bytes given by what it gave; a failed one raises the count of failed reads by one
abbrev pub tally_after_read : {E : Type 0} → Tally → List ℕ → Result ℕ E → Tally
tally_after_read t name (Ok n) = record t { calls = raised t.calls 1; given = raised t.given n }
tally_after_read t name (Err _) = record t { calls = raised t.calls 1; read_faults = raised t.read_faults 1; last_failing = Some (short_name name) }

-- a failed put raises the count of failed puts by one
abbrev pub tally_after_put : {T E : Type 0} → Tally → List ℕ → Result T E → Tally
tally_after_put t name (Ok _) = record t { calls = raised t.calls 1 }
tally_after_put t name (Err _) = record t { calls = raised t.calls 1; put_faults = raised t.put_faults 1; last_failing = Some (short_name name) }

-- a read fails where its number is listed, or nothing is held under its name
abbrev pub fails_read : MemFiles → List ℕ → Bool
fails_read m name = is_next_listed m.fails.items m.calls || is_none (contents_by m name)

-- a put fails where its number is listed, nothing is held under its name, or the room there is less than its length
abbrev pub fails_put : MemFiles → List ℕ → ℕ → Bool
fails_put m name len = is_next_listed m.fails.items m.calls || not (has_room m.held name len)

-- what was pushed
abbrev pub text_of : MemSink → List ℕ
text_of s = s.bytes.items

-- all of a sink in memory but its text: the room, which pushes are to fail, how many were made, how many failed
pub record Ledger : Type 0 where
  pub room : ℕ
  pub fails : List ℕ
  pub calls : ℕ
  pub faults : ℕ

abbrev pub ledger_of : MemSink → Ledger
ledger_of s = record { room = s.room; fails = s.fails.items; calls = s.calls; faults = s.faults }

-- a push counts, and a failed one raises the count of faults by one
abbrev pub ledger_after : {T E : Type 0} → Ledger → Result T E → Ledger
ledger_after l (Ok _) = record l { calls = raised l.calls 1 }
ledger_after l (Err _) = record l { calls = raised l.calls 1; faults = raised l.faults 1 }

-- a push fails where its number is listed, or the text would be longer than the room
abbrev pub fails_push : MemSink → ℕ → Bool
fails_push s len = is_next_listed s.fails.items s.calls || not (nat_le (length s.bytes.items + len) s.room)
