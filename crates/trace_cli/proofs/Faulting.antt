-- Commands and an arrival that are too long.
use Rattle.std.proofs.Common.{◌≡◌, ℕ, ◌<◌, List, length, Option, ap}
use Rattle.command_files.specs.Contents.{Why, file_limit, or_later, script_of}
use Rattle.trace_cli.specs.Contents.{arrival_fault, arrival_refusal, commands_refusal}
use Rattle.command_files.proofs.Faulting.{too_long, long_refused, long_script}

pub long_commands : (bytes : List ℕ) → file_limit < length bytes → commands_refusal bytes ≡ too_long file_limit
unfolding commands_refusal
long_commands bytes lt = long_refused file_limit bytes _ lt

pub long_arrival : (bytes : List ℕ) → file_limit < length bytes → arrival_refusal bytes ≡ too_long file_limit
unfolding arrival_refusal
long_arrival bytes lt = ap (λ (o : Option Why). or_later o (arrival_fault (script_of bytes))) (long_script bytes lt)
