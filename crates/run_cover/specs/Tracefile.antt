-- lcov's tracefile of a run. For each source it says how often each instruction was executed and which ways
-- its branches took (docs/FORMATS.md, Tracefile). A function gives the counts by address.
use Rattle.std.specs.Prelude.{ℕ, ◌-◌, ◌==◌, ◌&&◌, Bool, if◌then◌else◌, List, [], ◌++◌, codes, decimal, fold}
use Rattle.std.specs.List.{flat_map}
use Rattle.mem_banks.specs.Memory.{Memory}
use Rattle.board_model.specs.Run.{Run}
use Rattle.run_cover.specs.declared.counts.Count.{Count}
use Rattle.run_cover.specs.declared.totals.Totals.{Totals}
use Rattle.thumb_asm.specs.declared.listing.InsnLine.{InsnLine}
use Rattle.run_cover.specs.declared.tracefile.Source.{Source}
use Rattle.run_cover.specs.Counted.{counts}
use Rattle.run_cover.specs.Places.{is_place}
use Rattle.run_cover.specs.Totals.{added, no_totals, totals_of}
use Rattle.run_cover.specs.Ways.{is_conditional, stands_at}

-- a source: the name of its file, and the lines that are instructions
pub record Section : Type 0 where
  pub name : List ℕ
  pub lines : List InsnLine

abbrev pub section_of : Source → Section
section_of s = record { name = s.name.now; lines = s.lines.now }

-- a conditional branch stands at an address
abbrev pub is_branch : Memory → ℕ → Bool
is_branch m a = is_place a && is_conditional (stands_at m a)

-- how often a way of a branch was used, or `-` if the branch was never executed
abbrev pub times_text : ℕ → ℕ → List ℕ
times_text executed n = if executed == 0 then codes "-" else decimal n

-- `BRDA:<line>,0,<way>,<times>`
abbrev pub way_line : ℕ → ℕ → ℕ → ℕ → List ℕ
way_line number way executed n = codes "BRDA:" ++ decimal number ++ codes ",0," ++ decimal way ++ codes "," ++ times_text executed n ++ codes "\n"

-- way 0 is the taken branch, way 1 the branch that is not taken
abbrev pub ways_lines : ℕ → Count → List ℕ
ways_lines number c = way_line number 0 c.executed c.taken ++ way_line number 1 c.executed (c.executed - c.taken)

abbrev pub branch_text : Memory → (ℕ → Count) → InsnLine → List ℕ
branch_text m c l = if is_branch m l.at then ways_lines l.number (c l.at) else []

-- `DA:<line>,<count>`
abbrev pub data_line : (ℕ → Count) → InsnLine → List ℕ
data_line c l = codes "DA:" ++ decimal l.number ++ codes "," ++ decimal (c l.at).executed ++ codes "\n"

-- the number of lines, how many of them were executed, the number of their ways, and how many of these were
-- used
unfoldable pub source_totals : Memory → (ℕ → Count) → List InsnLine → Totals
source_totals m c ls = fold (λ t l. added t (totals_of (is_branch m l.at) (c l.at))) no_totals ls

abbrev pub head_lines : Section → List ℕ
head_lines s = codes "TN:\nSF:" ++ s.name ++ codes "\n"

abbrev pub ways_found : Totals → List ℕ
ways_found t = codes "BRF:" ++ decimal t.ways ++ codes "\nBRH:" ++ decimal t.gone ++ codes "\n"

abbrev pub lines_found : Totals → List ℕ
lines_found t = codes "LF:" ++ decimal t.known ++ codes "\nLH:" ++ decimal t.executed ++ codes "\nend_of_record\n"

-- the section of a source
unfoldable pub source_text : Memory → (ℕ → Count) → Section → List ℕ
source_text m c s =
    let ls = s.lines in
    let t = source_totals m c ls in
    head_lines s ++ flat_map (branch_text m c) ls ++ ways_found t ++ flat_map (data_line c) ls ++ lines_found t

abbrev pub tracefile_text : Memory → (ℕ → Count) → List Section → List ℕ
tracefile_text m c sections = flat_map (source_text m c) sections

-- the tracefile of a run, with its counts and the memory at its end
abbrev pub run_tracefile : Run → List Section → List ℕ
run_tracefile r sections = tracefile_text r.last.memory (counts r.notes) sections
