-- The first file of a job.
use Rattle.std.proofs.Common.{false, true, List, refl}
use Rattle.kernel_abi.specs.Devices.{DeviceData}
use Rattle.command_line.specs.CommandLine.{Asked, build, run, go, list, sample, migrate, audit, save, resume, debug, cover, sweep, timeline, live, picture, lcov, help}
use Rattle.trace_cli.specs.Sources.{files_of}
use Rattle.command_files.proofs.Agreeing.{FirstIsOne}

-- the first file of a job does not depend on contents
pub first_file : (devices : List DeviceData) (job : Asked) → FirstIsOne (files_of devices job)
first_file devices (build app out) a b = refl
first_file devices (run image script steps detail) a b = refl
first_file devices (go app script steps detail) a b = refl
first_file devices (list image) a b = refl
first_file devices (sample seed steps) a b = refl
first_file devices (migrate image out) a b = refl
first_file devices (audit trace) a b = refl
first_file devices (save image script out steps) a b = refl
first_file devices (resume image script state steps detail) a b = refl
first_file devices (debug image script commands) a b = refl
first_file devices (cover image script steps false) a b = refl
first_file devices (cover app script steps true) a b = refl
first_file devices (sweep image script arrival from to steps memory) a b = refl
first_file devices (timeline image script steps names) a b = refl
first_file devices (live image script commands) a b = refl
first_file devices (picture image script out steps names) a b = refl
first_file devices (lcov app script out steps) a b = refl
first_file devices (help about) a b = refl
