-- States of which a kernel keeps the same. If it holds one of them, it holds each.
use Rattle.std.proofs.Common.{◌≡◌, ◌≢◌, ◌<◌, inl, inr, ℕ, length, Option, Some, None, IfSome, refl, sym, ◌∙◌, ap, arith}
use Rattle.std.proofs.lemmas.Bool.{cases_lt}
use Rattle.task_table.specs.model.State.{Setup, State, Task, Call, Listen, Turn}
use Rattle.task_table.specs.model.Reading.{call_of, listen_of, is_ready}
use Rattle.task_table.specs.kept.Readiness.{is_free}
use Rattle.task_table.specs.model.Effects.{with_task}
use Rattle.task_table.specs.kept.Holds.{Shows, Kept, packed, packed_task, wait_of}
use Rattle.task_table.specs.model.Sane.{Sane}
use Rattle.task_table.specs.kept.Setting.{AreKeptAlike}
use Rattle.task_table.proofs.model.Changes.{task_at-with_task, task_at-with_task_other, call_of-with_task, listen_of-with_task}
use Rattle.task_table.proofs.model.Clients.{found_call, client_is}
use Rattle.task_table.proofs.kept.Members.{unready_past}
use Rattle.task_table.proofs.model.Posting.{found_listen}
use Rattle.task_table.proofs.kept.Steps.{free_packed}

-- ## a task waits for one thing only

alone_by : (c : Option Call) (l : Option Listen) → ((x : Call) (y : Listen) → c ≡ Some x → l ≡ Some y → ⊥) → IfSome c (λ x. l ≡ None)
alone_by None l h = tt
alone_by (Some x) None h = refl
alone_by (Some x) (Some y) h = absurd (h x y refl refl)

pub alone_of : (g : Setup) (s : State) (i : ℕ) → Sane g s → IfSome (call_of s i) (λ c. listen_of s i ≡ None)
alone_of g s i sane = alone_by (call_of s i) (listen_of s i) (λ c l x y.
    let found = found_listen s i l y in
    sane.well.alone c l (found_call s i c x) found.0 (client_is s i c x ∙ sym found.1))

-- ## what is kept of a task

pub packed_other : (s : State) (c i : ℕ) (x : Task) → i ≢ c → packed (with_task c x s) i ≡ packed s i
packed_other s c i x ne = rw (task_at-with_task_other s c i x ne, call_of-with_task s c i x, listen_of-with_task s c i x) refl

pub packed_own : (s : State) (c : ℕ) (x : Task) → c < length s.tasks → packed (with_task c x s) c ≡ packed_task x (wait_of (call_of s c) (listen_of s c))
packed_own s c x there = rw (task_at-with_task s c x there, call_of-with_task s c c x, listen_of-with_task s c c x) refl

-- ## what is held

pub shows_alike : (g : Setup) (k : Kept) (t u : Turn) → Shows g k t → AreKeptAlike u.state t.state → u.notes ≡ t.notes → ((i : ℕ) → IfSome (call_of u.state i) (λ c. listen_of u.state i ≡ None)) → Shows g k u
shows_alike g k t u h alike notes alone = record {
  setup = h.setup;
  count = h.count ∙ alike.count;
  many = h.many ∙ alike.count;
  tasks = λ i below d. record {
    is = (h.tasks i below d).is ∙ alike.tasks i (let same = h.count ∙ alike.count in omega (arith, same, below));
    alone = alone i;
  };
  notes = h.notes ∙ sym notes;
  memory = h.memory ∙ alike.memory;
  now = h.now ∙ alike.now;
  lines = h.lines ∙ alike.lines;
  current = h.current ∙ alike.current;
  next_call = h.next_call ∙ alike.next_call;
}

-- the same tasks are ready
pub ready_alike : (s u : State) → AreKeptAlike s u → (i : ℕ) → is_ready u i ≡ is_ready s i
ready_alike s u alike i = elim (cases_lt i (length s.tasks)) [
  | inl there ↦ sym (free_packed u i) ∙ ap is_free (alike.tasks i there) ∙ free_packed s i
  | inr past ↦ unready_past u i (let same = alike.count in omega (arith, same, past)) ∙ sym (unready_past s i past)
]
