-- The counts of real files and of a real output, and the output itself.
use Rattle.std.specs.Prelude.{ℕ}
use Rattle.outside_io.specs.declared.host.HostFiles.{HostFiles}
use Rattle.outside_io.specs.declared.host.HostSink.{HostSink}

-- how many reads and how many puts failed, and how many bytes were given
pub record FileCounts : Type 0 where
  pub read_faults : ℕ
  pub put_faults : ℕ
  pub given : ℕ

abbrev pub counts_of : {R F D : Type 0} → HostFiles R F D → FileCounts
counts_of {R} {F} {D} f = record { read_faults = f.read_faults; put_faults = f.put_faults; given = f.given }

-- the output that a sink writes to
abbrev pub out_of : {W : Type 0} → HostSink W → W
out_of {W} s = s.out

-- how many pushes failed
abbrev pub faults_of : {W : Type 0} → HostSink W → ℕ
faults_of {W} s = s.faults
