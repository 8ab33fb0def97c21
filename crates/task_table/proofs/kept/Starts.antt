-- The start of a run is sane.
use Rattle.std.proofs.Common.{◌≡◌, ◌%◌, ◌<◌, ℕ, zero, suc, Bool, true, false, cond, List, [], ◌∷◌, length, map, replicate, refl, sym, ◌∙◌, ap, arith, get_or, IfSome}
use Rattle.std.specs.Prelude.{Contains}
use Rattle.std.proofs.lemmas.List.{length-map}
use Rattle.std.proofs.lemmas.Bool.{false≢true}
use Rattle.kernel_abi.proofs.Devices.{none_sane}
use Rattle.kernel_abi.specs.declared.Health.TheVariants.{Well, Stopped}
use Rattle.task_table.specs.declared.Line.{Line}
use Rattle.task_table.specs.declared.start.TaskStart.{TaskStart}
use Rattle.task_table.specs.declared.start.LineStart.{LineStart}
use Rattle.task_table.specs.declared.slot.Slot.{Slot}
use Rattle.task_table.specs.declared.slot.Wait.TheVariants.{Nothing}
use Rattle.task_table.specs.kept.Limits.{board_lines}
use Rattle.mem_banks.specs.Memory.{Memory, AreAllBytes}
use Rattle.task_table.specs.kept.Holds.{Kept, Shows, packed_task}
use Rattle.task_table.specs.model.State.{Setup, TaskSetup, Task}
use Rattle.task_table.specs.model.Reading.{task_at, line_at, call_of, listen_of, no_line, no_task}
use Rattle.task_table.specs.model.Sane.{Sane, IsSaneTask, IsFaultKnown, IsCounted}
use Rattle.task_table.specs.model.Start.{start, born, begun}
use Rattle.task_table.specs.kept.Parts.{IsSound, setup_of_parts, task_setup}

-- what is true of each task at birth is true of the task at each index
at_place : (P : Task → Type 0) (xs : List TaskSetup) (i : ℕ) (d : TaskSetup) → i < length (map born xs) → ((x : TaskSetup) → x ≡ get_or xs i d → P (born x)) → P (get_or (map born xs) i no_task)
at_place P [] i d lt all = absurd (omega arith)
at_place P (x ∷ xs) zero d lt all = all x refl
at_place P (x ∷ xs) (suc i) d lt all = at_place P xs i d (omega arith) all

line_off : (n k : ℕ) → get_or (replicate n no_line) k no_line ≡ no_line
line_off zero k = refl
line_off (suc n) zero = refl
line_off (suc n) (suc k) = line_off n k

no_item : {X P : Type 0} {x : X} → Contains [] x → P
no_item h = absurd (omega (arith, h.1))

zero_bytes : (n : ℕ) → AreAllBytes (replicate n 0)
zero_bytes zero b h = absurd (omega (arith, h.1))
zero_bytes (suc n) b (zero, lt, same) = let e : 0 ≡ b = same in omega arith
zero_bytes (suc n) b (suc i, lt, same) = zero_bytes n b (i, omega arith, same)

born_sane : (x : TaskSetup) → x.stack % 4 ≡ 0 → IsSaneTask (born x)
born_sane x e = record { sixteen = refl; even = omega arith; aligned = e; fault = go x.start }
  where
    go : (b : Bool) → IsFaultKnown (cond b Well Stopped)
    go true = tt
    go false = tt

pub sane-start : (g : Setup) → IsSound g → Sane g (start g)
unfolding start task_at line_at
sane-start g sound = record {
  steady = record {
    calls = record { once = λ i. omega arith; fit = λ c h. no_item h; below = λ c h. no_item h; client = λ c d h. no_item h; number = λ c d h. no_item h };
    listens = record { once = λ i. omega arith; fit = λ l h. no_item h; task = λ l m h. no_item h };
    tasks = λ i below. at_place IsSaneTask g.tasks i _ below (λ x here. born_sane x (ap (λ y. y.stack % 4) here ∙ sound.placed.stack i));
    lines = λ k p. absurd (false≢true (sym (ap (λ (l : Line). l.pending) (line_off g.line_count k)) ∙ p));
    as_many = length-map g.tasks born;
    current = rw length-map sound.some;
    flash = refl;
    flash_bytes = sound.flash_bytes;
    devices = none_sane;
    bytes = zero_bytes g.ram;
    placed = sound.placed;
  };
  well = record { client = λ c h. no_item h; listener = λ l h. no_item h; alone = λ c l h. no_item h };
  present = record { client = λ c h. no_item h; server = λ c h. no_item h; named = λ l b h. no_item h };
  unmet = λ l h. no_item h;
  unfit = λ c l h. no_item h;
  ahead = λ i below x. at_place (λ y. IfSome y.timer (λ z. 0 < z.deadline)) g.tasks i record { priority = 0; entry = 0; stack = 0; regions = []; start = false } below (λ x here. tt);
}

pub counted-start : (g : Setup) → IsCounted (start g)
unfolding start
counted-start g = record { some = omega arith; calls = omega arith; now = omega arith }

pub sane-begun : (g : Setup) → IsSound g → Sane g (begun (start g)).state
unfolding begun
sane-begun g sound = sane-start g sound

-- ## the code's kernel at the start

-- what is kept of each task
first_kept : (xs : List TaskStart) (i : ℕ) (d : Slot) → i < length xs → get_or (map (λ x. packed_task (born (task_setup x)) Nothing) xs) i d ≡ packed_task (get_or (map born (map task_setup xs)) i no_task) Nothing
first_kept [] i d lt = absurd (omega arith)
first_kept (x ∷ xs) zero d lt = refl
first_kept (x ∷ xs) (suc i) d lt = first_kept xs i d (omega arith)

pub shows_start : (m : Memory) (bits : ℕ) (tasks : List TaskStart) (lines : List LineStart) (k : Kept) → m.ram ≡ replicate (length m.ram) 0 → k.setup ≡ setup_of_parts m bits tasks lines → k.slots ≡ map (λ x. packed_task (born (task_setup x)) Nothing) tasks → k.notes ≡ [] → k.memory ≡ m → k.clock ≡ 0 → k.lines ≡ replicate board_lines no_line → k.current ≡ 0 → k.next_call ≡ 1 → Shows (setup_of_parts m bits tasks lines) k (begun (start (setup_of_parts m bits tasks lines)))
unfolding begun start task_at call_of listen_of
shows_start m bits tasks lines k zeros setup slots notes memory clock off current next_call =
    let many : length (map born (map task_setup tasks)) ≡ length tasks = length-map (map task_setup tasks) born ∙ length-map tasks task_setup in
    let count : length k.slots ≡ length tasks = ap length slots ∙ length-map tasks (λ x. packed_task (born (task_setup x)) Nothing) in
    record {
      setup = setup;
      count = count ∙ sym many;
      many = sym (length-map (map task_setup tasks) born);
      tasks = λ i below d. record { is = ap (λ xs. get_or xs i d) slots ∙ first_kept tasks i d (omega (arith, below, count)); alone = tt };
      notes = notes;
      memory = memory ∙ ap (λ ram. record m { ram = ram }) zeros;
      now = clock;
      lines = off;
      current = current;
      next_call = next_call;
    }
