-- A board's view of a task is saved as the same bytes as the task, with its births reduced to generations.
use Rattle.std.proofs.Common.{◌≡◌, ◌∙◌, ◌+◌, ◌*◌, ◌%◌, ℕ, List, ◌∷◌, [], Option, Some, None, refl, sym, ap, get_or}
use Rattle.std.specs.Prelude.{option_map, slice_get, unwrap_or}
use Rattle.std.proofs.lemmas.Option.{unwrap_or-slice_get}
use Rattle.kernel_abi.specs.declared.Timer.{Timer}
use Rattle.task_table.specs.declared.Line.{Line}
use Rattle.task_table.specs.model.State.{State, Task, Call, Listen, From, Any, One, KernelOnly}
use Rattle.task_table.specs.kept.Holds.{wait_of, from_id_of}
use Rattle.task_table.specs.model.Reading.{task_at, line_at, call_of, listen_of, no_line}
use Rattle.board_model.specs.Alike.{reduced, seen_call, seen_from, seen_listen}
use Rattle.board_model.proofs.Alike.{call_alike, listen_alike, line_alike}
use Rattle.board_model.proofs.GenerationsSeen.{shown_reduced}
use Rattle.board_core.specs.declared.views.TaskView.{TaskView}
use Rattle.board_core.specs.Views.{IsTask}
use Rattle.snapshot.specs.Saved.{health_number, fault_of, flags_number, timer_flag, timer_of, from_number, from_id, wait_number, wait_words, record_of, line_number}
use Rattle.snapshot.specs.Shown.{sender_number, sender_id, shown_number, shown_words, timer_shown, record_shown, line_shown}
use Rattle.snapshot.proofs.Saves.{reduced_task}
use Rattle.snapshot.proofs.SpelledAlike.{same_id}

abbrev births : ℕ → ℕ
births b = b % 64

-- ## what it waits for

from_number_seen : (f : From) → from_number (seen_from births f) ≡ from_number f
from_number_seen Any = refl
from_number_seen (One b) = refl
from_number_seen KernelOnly = refl

from_id_seen : (f : From) → from_id (seen_from births f) ≡ from_id f
from_id_seen Any = refl
from_id_seen (One b) = same_id b.index b.birth
from_id_seen KernelOnly = refl

number_seen : (c : Option Call) (l : Option Listen) → wait_number (option_map (seen_call births) c) (option_map (seen_listen births) l) ≡ wait_number c l
number_seen (Some c) l = refl
number_seen None (Some l) = from_number_seen l.from
number_seen None None = refl

words_seen : (c : Option Call) (l : Option Listen) → wait_words (option_map (seen_call births) c) (option_map (seen_listen births) l) ≡ wait_words c l
words_seen (Some c) l =
    λ i. c.number ∷ (same_id c.server.index c.server.birth i + 65536 * c.operation) ∷ c.message.base ∷ c.message.len ∷ c.reply.base ∷ c.reply.len ∷ c.table ∷ c.leases ∷ []
words_seen None (Some l) = λ i. l.mask ∷ from_id_seen l.from i ∷ l.buffer.base ∷ l.buffer.len ∷ 0 ∷ 0 ∷ 0 ∷ 0 ∷ []
words_seen None None = refl

from_number_shown : (f : From) → sender_number (from_id_of f) ≡ from_number f
from_number_shown Any = refl
from_number_shown (One b) = refl
from_number_shown KernelOnly = refl

from_id_shown : (f : From) → sender_id (from_id_of f) ≡ from_id f
from_id_shown Any = refl
from_id_shown (One b) = refl
from_id_shown KernelOnly = refl

number_shown : (c : Option Call) (l : Option Listen) → shown_number (wait_of c l) ≡ wait_number c l
number_shown (Some c) l = refl
number_shown None (Some l) = from_number_shown l.from
number_shown None None = refl

words_shown : (c : Option Call) (l : Option Listen) → shown_words (wait_of c l) ≡ wait_words c l
words_shown (Some c) l = refl
words_shown None (Some l) = λ i. l.mask ∷ from_id_shown l.from i ∷ l.buffer.base ∷ l.buffer.len ∷ 0 ∷ 0 ∷ 0 ∷ 0 ∷ []
words_shown None None = refl

number_reduced : (s : State) (i : ℕ) → shown_number (wait_of (call_of s i) (listen_of s i)) ≡ wait_number (call_of (reduced s) i) (listen_of (reduced s) i)
number_reduced s i =
    let p = call_alike births (reduced s) s i (shown_reduced s) in
    let q = listen_alike births (reduced s) s i (shown_reduced s) in
    number_shown (call_of s i) (listen_of s i)
    ∙ sym (number_seen (call_of s i) (listen_of s i))
    ∙ sym (λ j. wait_number (p j) (q j))
    ∙ number_seen (call_of (reduced s) i) (listen_of (reduced s) i)

words_reduced : (s : State) (i : ℕ) → shown_words (wait_of (call_of s i) (listen_of s i)) ≡ wait_words (call_of (reduced s) i) (listen_of (reduced s) i)
words_reduced s i =
    let p = call_alike births (reduced s) s i (shown_reduced s) in
    let q = listen_alike births (reduced s) s i (shown_reduced s) in
    words_shown (call_of s i) (listen_of s i)
    ∙ sym (words_seen (call_of s i) (listen_of s i))
    ∙ sym (λ j. wait_words (p j) (q j))
    ∙ words_seen (call_of (reduced s) i) (listen_of (reduced s) i)

-- ## a task

timer_is : (timer : Option Timer) → timer_shown (option_map (λ x. (x.deadline, x.bits)) timer) ≡ timer
timer_is None = refl
timer_is (Some x) = refl

pub record_viewed : (s : State) (i : ℕ) (v : TaskView) → IsTask s i v → record_shown v ≡ record_of (reduced s) i
record_viewed s i v h =
    let task = sym (reduced_task s i) in
    let health = h.health ∙ ap (λ (t : Task). t.health) task in
    let flags = h.flags ∙ ap (λ (t : Task). t.flags) task in
    let timer = ap timer_shown h.timer ∙ timer_is (task_at s i).timer ∙ ap (λ (t : Task). t.timer) task in
    let number = ap shown_number h.wait ∙ number_reduced s i in
    let words = ap shown_words h.wait ∙ words_reduced s i in
    λ j. record {
      generation = (h.generation ∙ ap (λ (t : Task). t.births) task) j;
      health = health_number (health j);
      fault = (fault_of (health j)).number;
      wait = number j;
      x = (fault_of (health j)).x;
      y = (fault_of (health j)).y;
      registers = (h.regs ∙ ap (λ (t : Task). t.registers) task) j;
      flags = flags_number (flags j);
      posted = (h.posted ∙ ap (λ (t : Task). t.posted) task) j;
      timer = timer_flag (timer j);
      deadline = (timer_of (timer j)).deadline;
      bits = (timer_of (timer j)).bits;
      words = words j;
    }

-- ## a line

line_is : (ls : List Line) (k : ℕ) → line_shown (option_map (λ l. (l.enabled, l.pending)) (slice_get ls k)) ≡ line_number (get_or ls k no_line)
line_is ls k = by (slice_get ls k) ∙ ap line_number (unwrap_or-slice_get ls k no_line)
  where
    by : (o : Option Line) → line_shown (option_map (λ l. (l.enabled, l.pending)) o) ≡ line_number (unwrap_or o no_line)
    by None = refl
    by (Some l) = refl

here : (s : State) (k : ℕ) → get_or s.lines k no_line ≡ line_at s k
unfolding line_at
here s k = refl

pub line_viewed : (s : State) (k : ℕ) → line_shown (option_map (λ l. (l.enabled, l.pending)) (slice_get s.lines k)) ≡ line_number (line_at (reduced s) k)
line_viewed s k = line_is s.lines k ∙ ap line_number (here s k ∙ sym (line_alike births (reduced s) s k (shown_reduced s)))
