-- The words of the command line, the program's name first (docs/FORMATS.md, Command line).
use Rattle.std.specs.Prelude.{ℕ, if◌then◌else◌, List, map, Option, Some, None, string_bytes}
use Rattle.std.specs.declared.string.String.{String}
use Rattle.std.specs.declared.alloc.Global.{Global}
use Rattle.command_line.specs.CommandLine.{Asked, build, run, go, list, sample, migrate, audit, save, resume, debug, cover, sweep, timeline, live, picture, lcov, help, is_accepted, job_of}

abbrev pub texts_of : List (String Global) → List (List ℕ)
texts_of words = map string_bytes words

-- the job that the words ask for, if they are accepted
abbrev pub job_in : List (List ℕ) → Option Asked
job_in words = if is_accepted words then job_of words else None

-- the name under which a job puts a file, if it puts one
abbrev pub out_of : Option Asked → Option (List ℕ)
out_of None = None
out_of (Some (build app out)) = Some out
out_of (Some (run image script steps detail)) = None
out_of (Some (go app script steps detail)) = None
out_of (Some (list image)) = None
out_of (Some (sample seed steps)) = None
out_of (Some (migrate image out)) = Some out
out_of (Some (audit trace)) = None
out_of (Some (save image script out steps)) = Some out
out_of (Some (resume image script state steps detail)) = None
out_of (Some (debug image script commands)) = None
out_of (Some (cover image script steps labels)) = None
out_of (Some (sweep image script arrival from to steps memory)) = None
out_of (Some (timeline image script steps names)) = None
out_of (Some (live image script commands)) = None
out_of (Some (picture image script out steps names)) = Some out
out_of (Some (lcov app script out steps)) = Some out
out_of (Some (help about)) = None
