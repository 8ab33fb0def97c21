-- The rows of the system calls. For each system call the first row applies whose condition is true.
use Rattle.kernel_abi.specs.declared.Access.TheVariants.{KernelWrite}
use Rattle.kernel_abi.specs.declared.Usage.TheVariants.{NoIrq, InvalidSlice, BadTaskIndex}
use Rattle.kernel_abi.specs.Faults.{usage_number, access_number, usage_fault_by, access_fault_by, panic_fault}
use Rattle.std.specs.Prelude.{ℕ, ◌+◌, ◌/◌, ◌%◌, ◌^◌, Bool, ◌&&◌, ◌||◌, not, false, List, [], ◌∷◌, Option, None, Some, is_some, unwrap_or, ◌==◌, nat_le, bit_and, cond, if◌then◌else◌, filter, fold, slice_range}
use Rattle.std.specs.List.{list_any}
use Rattle.kernel_abi.specs.Arguments.{r4, r5, recv_args, timer_args, irq_args}
use Rattle.kernel_abi.specs.Ids.{index_of}
use Rattle.kernel_abi.specs.declared.FromIndex.{FromIndex}
use Rattle.kernel_abi.specs.declared.FromIndex.TheVariants as from_index
use Rattle.kernel_abi.specs.declared.arguments.RecvArgs.{RecvArgs}
use Rattle.kernel_abi.specs.declared.Note.TheVariants as note
use Rattle.kernel_abi.specs.declared.Timer.{Timer}
use Rattle.region_check.specs.declared.Right.TheVariants.{Write}
use Rattle.task_table.specs.model.State.{Setup, LineSetup, State, Call, From, Any, One, KernelOnly, Slice, Own, Turn}
use Rattle.task_table.specs.model.Asking.{is_asked}
use Rattle.task_table.specs.model.Reading.{task_at, line_at, line_off, line_on, register, arguments, present, is_out, is_dead, dead_code_for, is_valid, bad_byte, offer_by, syscall_selector}
use Rattle.task_table.specs.model.Effects.{◌⨾◌, changed, noted, given, returned, past_syscall, bits_cleared, posted, with_listen, with_timer, with_line, handed, faulted}

-- ## how rows are written

abbrev pub first_row : List (Bool × Turn) → Turn → Turn
first_row [] otherwise = otherwise
first_row (row ∷ rows) otherwise = cond row.0 row.1 (first_row rows otherwise)

-- the caller faults because of a usage error
abbrev pub misused : Setup → ℕ → ℕ → Turn → Turn
misused g c usage t = t ⨾ faulted g c (usage_fault_by usage)

-- the caller faults at a byte that the kernel may not read or write for it (y: the number of that access)
abbrev pub denied : Setup → ℕ → ℕ → Option ℕ → Turn → Turn
denied g c y bad t = t ⨾ faulted g c (access_fault_by (unwrap_or bad 0) y)

-- the caller goes on after its system call; the same with results from r4 on
abbrev pub goes_on : ℕ → Turn → Turn
goes_on c t = t ⨾ past_syscall c ⨾ returned c

abbrev pub goes_on_with : ℕ → List ℕ → Turn → Turn
goes_on_with c values t = t ⨾ given c values ⨾ goes_on c

-- ## PANIC: r4 and r5 are its x and y; no memory is read

unfoldable pub panicked : Setup → ℕ → Turn → Turn
panicked g c t = t ⨾ faulted g c (panic_fault (register t.state c r4) (register t.state c r5))

-- ## SET_TIMER: r4 whether to set, r5 and r6 the deadline's low and high word, r7 bits

-- a deadline that is not above now is due at once
unfoldable pub timer_set : ℕ → Turn → Turn
timer_set c t =
    let x = timer_args (arguments t.state c) in
    first_row (
    (not x.set, t ⨾ with_timer c None ⨾ goes_on c)
    ∷ (nat_le x.deadline t.state.now, t ⨾ with_timer c None ⨾ posted c x.bits ⨾ goes_on c)
    ∷ []) (t ⨾ with_timer c (Some record { deadline = x.deadline; bits = x.bits }) ⨾ goes_on c)

-- ## GET_TIMER: r4 and r5 are now, r6 is 1 if a timer is set, r7 and r8 its deadline, r9 its bits

abbrev pub timer_words : Option Timer → List ℕ
timer_words None = 0 ∷ 0 ∷ 0 ∷ 0 ∷ []
timer_words (Some x) = 1 ∷ x.deadline % 2 ^ 32 ∷ x.deadline / 2 ^ 32 ∷ x.bits ∷ []

unfoldable pub timer_answered : ℕ → Turn → Turn
timer_answered c t =
    t ⨾ goes_on_with c (t.state.now % 2 ^ 32 ∷ t.state.now / 2 ^ 32 ∷ timer_words (task_at t.state c).timer)

-- ## IRQ_CONTROL: r4 bits, r5 bit 0 whether to enable

-- a task owns this line with exactly these bits
abbrev pub owns_with : ℕ → ℕ → LineSetup → Bool
owns_with c bits o = (o.owner == c) && (o.bits == bits)

-- Line k is disabled or enabled. If it is to be enabled, and an interrupt is pending or the device that drives the
-- line asks for one, what is pending is cleared and the bits are posted instead, which leaves the line disabled.
abbrev pub line_controlled : ℕ → ℕ → Bool → Bool → ℕ → Turn → Turn
line_controlled c bits enable asks k t =
    let pending = (line_at t.state k).pending in
    if not enable then (t ⨾ with_line k (line_off pending))
    else (if pending || asks then (t ⨾ with_line k (line_off false) ⨾ posted c bits) else (t ⨾ with_line k line_on))

-- each line that the caller owns with these bits, in the image's order, which ascends; the devices are looked at
-- once, before the first line
unfoldable pub irq_controlled : Setup → ℕ → Turn → Turn
irq_controlled g c t =
    let x = irq_args (arguments t.state c) in
    first_row (
    (not (list_any (owns_with c x.bits) g.lines), t ⨾ misused g c (usage_number NoIrq))
    ∷ []) (fold (λ u o. line_controlled c x.bits x.enable (is_asked t.state o) o.line u) t (filter (owns_with c x.bits) g.lines) ⨾ goes_on c)

-- ## IRQ_STATUS: r4 bits

-- A sum over the lines that the caller owns with these bits: 1 if one of them is enabled, 2 if on one of them an
-- interrupt is pending or its device asks for one, 4 if some of these bits are posted to the caller.
abbrev pub status_of_lines : Setup → State → ℕ → ℕ → ℕ
status_of_lines g s c bits =
    let own = filter (owns_with c bits) g.lines in
    (if list_any (λ o. (line_at s o.line).enabled) own then 1 else 0)
    + (if list_any (λ o. (line_at s o.line).pending || is_asked s o) own then 2 else 0)
    + (if not (bit_and (task_at s c).posted bits == 0) then 4 else 0)

unfoldable pub irq_answered : Setup → ℕ → Turn → Turn
irq_answered g c t =
    let bits = (irq_args (arguments t.state c)).bits in
    let status = status_of_lines g t.state c bits in
    first_row (
    (not (list_any (owns_with c bits) g.lines), t ⨾ misused g c (usage_number NoIrq))
    ∷ []) (t ⨾ noted (note.IrqStatus c bits status) ⨾ goes_on_with c (status ∷ []))

-- ## RECV: r4 and r5 buffer, r6 mask, r7 bit 31 whether it is closed, bits 15 to 0 to whom

abbrev pub listened_from : From → FromIndex
listened_from Any = from_index.Any
listened_from (One b) = from_index.One b.index
listened_from KernelOnly = from_index.Kernel

-- what the receive of a task asks for
abbrev pub asked : State → ℕ → RecvArgs
asked s c = recv_args (arguments s c)

abbrev pub buffer_of : RecvArgs → Slice
buffer_of x = record { base = x.buffer_base; len = x.buffer_length }

-- the caller listens, and goes past its system call
abbrev pub listens : ℕ → RecvArgs → From → Turn → Turn
listens c x from t =
    t
    ⨾ past_syscall c
    ⨾ changed (with_listen record { task = c; from = from; mask = x.mask; buffer = buffer_of x })
    ⨾ noted (note.Listen c (listened_from from) x.mask)

-- the caller takes an offered call
abbrev pub receives : ℕ → RecvArgs → Call → Turn → Turn
receives c x k t = t ⨾ past_syscall c ⨾ handed Own k (buffer_of x) ⨾ returned c

-- the caller takes the offered call if there is one; else it listens
abbrev pub receives_or_listens : ℕ → RecvArgs → From → Option Call → Turn → Turn
receives_or_listens c x from None t = listens c x from t
receives_or_listens c x from (Some k) t = receives c x k t

-- the caller takes its posted bits under its mask
abbrev pub takes_bits : ℕ → ℕ → Turn → Turn
takes_bits c mask t =
    let under = bit_and (task_at t.state c).posted mask in
    t ⨾ bits_cleared c mask ⨾ goes_on_with c (0 ∷ 0xFFFF ∷ under ∷ 0 ∷ 0 ∷ 0 ∷ [])

-- the offered call of a sender, if there is one
abbrev pub offer_of : State → ℕ → Option ℕ → Option Call
offer_of s c None = None
offer_of s c (Some i) = offer_by s i c

-- RECV of a message, if no posted bit is under the mask: from the kernel only, from a dead id, from one task, or
-- from any task
abbrev pub message_received : ℕ → Option ℕ → Turn → Turn
message_received c best t =
    let s = t.state in
    let x = asked s c in
    let id = x.sender.number in
    first_row (
    (x.closed && (id == 0xFFFF), t ⨾ listens c x KernelOnly)
    ∷ (x.closed && is_dead s id, t ⨾ goes_on_with c (dead_code_for s id ∷ 0 ∷ 0 ∷ 0 ∷ 0 ∷ 0 ∷ []))
    ∷ (x.closed, t ⨾ receives_or_listens c x (One (present s (index_of id))) (offer_by s (index_of id) c))
    ∷ []) (t ⨾ receives_or_listens c x Any (offer_of s c best))

-- RECV of posted bits or of a message, after the checks of the buffer and the sender
abbrev pub input_received : ℕ → Option ℕ → Turn → Turn
input_received c best t =
    let mask = (asked t.state c).mask in
    first_row (
    (not (bit_and (task_at t.state c).posted mask == 0), t ⨾ takes_bits c mask)
    ∷ []) (t ⨾ message_received c best)

-- best: the best sender to the caller
unfoldable pub received : Setup → ℕ → Option ℕ → Turn → Turn
received g c best t =
    let s = t.state in
    let x = asked s c in
    let buffer = buffer_of x in
    let id = x.sender.number in
    first_row (
    (not (is_valid buffer), t ⨾ misused g c (usage_number InvalidSlice))
    ∷ (is_some (bad_byte g c Write buffer), t ⨾ denied g c (access_number KernelWrite) (bad_byte g c Write buffer))
    ∷ (x.closed && not (id == 0xFFFF) && (is_out s id || (index_of id == c)), t ⨾ misused g c (usage_number BadTaskIndex))
    ∷ []) (t ⨾ input_received c best)

-- ## a system call

-- the note of a system call: its number, which is in r11, and its arguments, in r4 to r10
unfoldable pub syscall_noted : ℕ → Turn → Turn
syscall_noted c t = t ⨾ noted (note.Syscall c (register t.state c syscall_selector) (slice_range (task_at t.state c).registers 4 11))
