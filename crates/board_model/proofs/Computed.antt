-- What a trace unfolds where it is computed: a theorem that names `computed` on its line names all of it.
use Rattle.mem_banks.specs.Memory.{bytes_at, with_bytes, copied as copied_memory}
use Rattle.region_check.specs.Rights.{first_bad}
use Rattle.thumb_exec.specs.Effect.{words, transfers, first_refused, stores_of, loads_of, loaded_all, ones, count, effect}
use Rattle.thumb_insn.specs.Table.{rows, narrow_of, wide_rows, wide_of}
use Rattle.task_table.specs.model.Reading.{task_at, line_at, register, arguments, call_of, listen_of, dead_code_for, is_out, is_dead, is_ready, bad_byte, chosen, offer_by, best_sender, present_id, taken_by}
use Rattle.task_table.specs.model.Effects.{with_task, without_call, without_listen, with_listen, with_taken, noted, with_processor, with_health, stored, copied, looked, given, returned, past_syscall, bits_added, bits_cleared, woken, posted, with_timer, clocked, with_line, closed, faulted_as, handed, with_call, offered, reborn, restarted, with_devices, device_stored, device_taken}
use Rattle.task_table.specs.model.Events.{ticked, interrupted, owner_of, fed, driven}
use Rattle.task_table.specs.model.Rows.{panicked, timer_set, timer_answered, irq_controlled, received, syscall_noted}
use Rattle.task_table.specs.model.Syscalls.{syscall_made}
use Rattle.task_table.specs.model.Sends.{sent, replied, reply_faulted, post_made, refreshed}
use Rattle.task_table.specs.model.Borrows.{grant, borrowed, informed}
use Rattle.task_table.specs.model.Requests.{injected, requested}
use Rattle.board_model.specs.Run.{run, ending}
use Rattle.board_model.specs.Turn.{after_events, turn, ended, stepped, with_registers_noted}
use Rattle.task_table.specs.model.Start.{begun, start}

-- memory, and the instructions over it
unfoldable pub of_instructions : Unit {0}
unfolding bytes_at with_bytes copied_memory first_bad words transfers first_refused stores_of loads_of loaded_all ones count effect rows narrow_of wide_rows wide_of
of_instructions = tt

-- what is read of a state
unfoldable pub of_readings : Unit {0}
unfolding task_at line_at register arguments call_of listen_of dead_code_for is_out is_dead is_ready bad_byte chosen offer_by best_sender present_id taken_by
of_readings = tt

-- what changes it
unfoldable pub of_effects : Unit {0}
unfolding with_task without_call without_listen with_listen with_taken noted with_processor with_health stored copied looked given returned past_syscall bits_added bits_cleared woken posted with_timer clocked with_line closed faulted_as handed with_call offered reborn restarted with_devices device_stored device_taken
of_effects = tt

-- system calls and events, row by row
unfoldable pub of_rows : Unit {0}
unfolding ticked interrupted owner_of fed driven panicked timer_set timer_answered irq_controlled received syscall_noted syscall_made sent replied reply_faulted post_made refreshed grant borrowed informed injected requested
of_rows = tt

-- turns and runs of them
unfoldable pub of_turns : Unit {0}
unfolding run ending after_events turn ended stepped begun start with_registers_noted
of_turns = tt

-- a run, down to its instructions
unfoldable pub computed : Unit {0}
unfolding of_instructions of_readings of_effects of_rows of_turns
computed = tt
