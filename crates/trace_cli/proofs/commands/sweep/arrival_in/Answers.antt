use Rattle.std.proofs.Common.{◌∙◌, ℕ, List, string_bytes, sym, subst, arith}
use Rattle.run_script.specs.Events.{script_data}
use Rattle.command_files.specs.declared.file_faults.FileFault.{FileFault}
use Rattle.command_files.specs.declared.file_faults.FileFault.TheVariants as file_faults
use Rattle.trace_cli.specs.Contents.{arrival_refusal}
use Rattle.command_files.specs.Contents.{script_refusal}
use Rattle.command_files.specs.FileFaults.{IsFaultFor}
use Rattle.trace_cli.proofs.Refusals.{arrival_unread, arrival_long, arrival_ticks, arrival_taken}
use Rattle.trace_cli.proofs.commands.sweep.arrival_in.Goals as goal

pub returns-clause-accepted : goal.returns-clause-accepted
returns-clause-accepted c =
    let count = c.count.ensures in
    let few = c.if-count-gt-MOST_ARRIVING.false in
    arrival_taken c.args.bytes.now (script_data c.in-Ok.script) c.requires c.in-Ok.ensures.accepted c.in-Ok.ensures.script (omega (arith, count, few)) (sym c.has_every.ensures ∙ c.if-has_every.false)

-- a script that is refused is no arrival
no_script : (bytes : List ℕ) (f : FileFault) → IsFaultFor (script_refusal bytes) f → IsFaultFor (arrival_refusal bytes) f
no_script bytes file_faults.Memory h = tt
no_script bytes file_faults.CannotRead h = h
no_script bytes (file_faults.Refused cause place) h = arrival_unread bytes (cause, string_bytes place) h

pub returns-in-Err-clause-file_fault : goal.returns-in-Err-clause-file_fault
returns-in-Err-clause-file_fault c = no_script c.args.bytes.now c.in-Err.file_fault c.in-Err.ensures.file_fault

pub returns-then-count-gt-MOST_ARRIVING-clause-file_fault :
    goal.returns-then-count-gt-MOST_ARRIVING-clause-file_fault
returns-then-count-gt-MOST_ARRIVING-clause-file_fault c =
    let count = c.count.ensures in
    let more = c.if-count-gt-MOST_ARRIVING.true in
    let refused = arrival_long c.args.bytes.now (script_data c.in-Ok.script) c.requires c.in-Ok.ensures.accepted c.in-Ok.ensures.script (omega (arith, count, more)) in
    subst (λ r. IsFaultFor r c.refused_at_number.result) (sym refused) c.refused_at_number.ensures

pub returns-then-has_every-clause-file_fault : goal.returns-then-has_every-clause-file_fault
returns-then-has_every-clause-file_fault c =
    let count = c.count.ensures in
    let few = c.if-count-gt-MOST_ARRIVING.false in
    let refused = arrival_ticks c.args.bytes.now (script_data c.in-Ok.script) c.requires c.in-Ok.ensures.accepted c.in-Ok.ensures.script (omega (arith, count, few)) (sym c.has_every.ensures ∙ c.if-has_every.true) in
    subst (λ r. IsFaultFor r c.refused_at_number-then-has_every.result) (sym refused) c.refused_at_number-then-has_every.ensures
