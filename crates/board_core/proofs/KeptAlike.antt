-- States of which a board keeps the same: it holds each of them.
use Rattle.std.proofs.Common.{◌≡◌, ◌≢◌, ◌<◌, inl, inr, ℕ, Bool, true, false, List, length, None, IfSome, refl, sym, ◌∙◌, ap, subst, arith}
use Rattle.std.proofs.lemmas.Bool.Decides.{eqb_tells}
use Rattle.run_script.specs.Scripts.{IsNext}
use Rattle.thumb_exec.specs.declared.cpu.Cpu.{Cpu}
use Rattle.words_core.specs.declared.Flags.{Flags}
use Rattle.task_table.specs.model.State.{Setup, State, Task, Turn}
use Rattle.task_table.specs.model.Reading.{task_at, call_of, listen_of, is_ready, is_faulted}
use Rattle.task_table.specs.model.Effects.{with_task, with_processor}
use Rattle.task_table.specs.kept.Holds.{Holds as KernelHolds, kept_of, packed, packed_task, wait_of}
use Rattle.task_table.specs.model.Sane.{Sane, IsCounted}
use Rattle.task_table.specs.kept.Setting.{AreKeptAlike}
use Rattle.task_table.specs.declared.kernel.Kernel.{Kernel}
use Rattle.task_table.specs.declared.slot.Slot.{Slot}
use Rattle.task_table.proofs.model.Changes.{call_of-with_task, listen_of-with_task, length-with_task}
use Rattle.task_table.proofs.kept.KeptAlike.{alone_of, packed_other, packed_own, shows_alike, ready_alike}
use Rattle.board_model.specs.Script.{Scenario}
use Rattle.board_model.proofs.Quiet.{chosen_by}
use Rattle.board_core.specs.declared.board.Board.{Board}
use Rattle.board_core.specs.declared.choice.Choice.{Choice}
use Rattle.board_core.specs.Kept.{IsChoice}
use Rattle.board_core.specs.declared.space.AddressSpace.{AddressSpace}
use Rattle.board_core.specs.Machine.{with_cpu, IsLoaded, HoldsBy}
use Rattle.board_core.specs.Stands.{Holds, Stands}
use Rattle.board_core.proofs.Loading.{twice, with_own}
use Rattle.board_core.proofs.Turning.{rested}
use Rattle.board_core.specs.Data.{Shows}

abbrev IsAlone : State → Type 0
IsAlone s = (i : ℕ) → IfSome (call_of s i) (λ c. listen_of s i ≡ None)

-- ## while a context is loaded

-- the registers and flags of a task are those that another state has of it
abbrev lent_task : Task → Task → Task
lent_task y x = record x { registers = y.registers; flags = y.flags }

abbrev lent : ℕ → State → State → State
lent c w s = with_task c (lent_task (task_at w c) (task_at s c)) s

module _ (c : ℕ) (registers : List ℕ) (flags : Flags) (w t s : State) (is : t ≡ with_task c record (task_at w c) { registers = registers; flags = flags } w) (there : c < length w.tasks) (alike : AreKeptAlike s t) where
  count : length w.tasks ≡ length s.tasks
  count = sym (length-with_task w c _) ∙ sym (ap (λ (u : State). length u.tasks) is) ∙ alike.count

  inside : c < length s.tasks
  inside = let same = count in omega (arith, same, there)

  -- what is kept of the task in each of them
  own : packed s c ≡ packed_task record (task_at w c) { registers = registers; flags = flags } (wait_of (call_of w c) (listen_of w c))
  own = sym (alike.tasks c inside) ∙ ap (λ (u : State). packed u c) is ∙ packed_own w c _ there

  other : (i : ℕ) → i < length s.tasks → i ≢ c → packed w i ≡ packed s i
  other i below ne = sym (packed_other w c i _ ne) ∙ sym (ap (λ (u : State). packed u i) is) ∙ alike.tasks i below

  lent_own : packed w c ≡ packed (lent c w s) c
  lent_own =
      let y = task_at w c in
      sym (ap (λ (o : Slot). record o { registers = y.registers; flags = y.flags }) own) ∙ sym (packed_own s c _ inside)

  lent_alike : AreKeptAlike (lent c w s) w
  unfolding with_task
  lent_alike = record {
    count = count ∙ sym (length-with_task s c (lent_task (task_at w c) (task_at s c)));
    tasks = λ i below. elim (eqb_tells i c) [
      | inl e ↦ rw e.1 lent_own
      | inr ne ↦ other i (let same = length-with_task s c (lent_task (task_at w c) (task_at s c)) in omega (arith, same, below)) ne.1 ∙ sym (packed_other s c i (lent_task (task_at w c) (task_at s c)) ne.1)
    ];
    memory = sym (ap (λ (u : State). u.memory) is) ∙ alike.memory;
    now = sym (ap (λ (u : State). u.now) is) ∙ alike.now;
    lines = sym (ap (λ (u : State). u.lines) is) ∙ alike.lines;
    current = sym (ap (λ (u : State). u.current) is) ∙ alike.current;
    next_call = sym (ap (λ (u : State). u.next_call) is) ∙ alike.next_call;
    turn = sym (ap (λ (u : State). u.turn) is) ∙ alike.turn;
    devices = sym (ap (λ (u : State). u.devices) is) ∙ alike.devices;
  }

  own_registers : (task_at s c).registers ≡ registers
  own_registers = ap (λ (o : Slot). o.registers) own

  own_flags : (task_at s c).flags ≡ flags
  own_flags = ap (λ (o : Slot). o.flags) own

-- the state of the task that is lent to the processor
given_back : (c : ℕ) (cpu : Cpu) (w t : Turn) → c ≡ w.state.current → t ≡ with_cpu cpu w → t.state ≡ with_task c record (task_at w.state c) { registers = cpu.regs.words; flags = cpu.flags } w.state
unfolding with_processor
given_back c cpu w t e h = rw e (ap (λ (x : Turn). x.state) h)

same_notes : (cpu : Cpu) (w t : Turn) → t ≡ with_cpu cpu w → t.notes ≡ w.notes
unfolding with_processor
same_notes cpu w t h = ap (λ (x : Turn). x.notes) h

-- the turn in which a task has other registers and flags
abbrev lent_in : ℕ → State → Turn → Turn
lent_in c w v = with_processor c (task_at w c).registers (task_at w c).flags v

lent_state : (c : ℕ) (w : State) (v : Turn) → (lent_in c w v).state ≡ lent c w v.state
unfolding with_processor
lent_state c w v = refl

lent_notes : (c : ℕ) (w : State) (v : Turn) → (lent_in c w v).notes ≡ v.notes
unfolding with_processor
lent_notes c w v = refl

-- who waits stays so
alone_lent : (c : ℕ) (w s : State) → IsAlone s → IsAlone (lent c w s)
alone_lent c w s alone i = rw (call_of-with_task s c i _, listen_of-with_task s c i _) (alone i)

loaded_alike : {X : Type 0} {H : X → Type 0} (shown : Shows X H) (g : Setup) (r : AddressSpace X H) (cpu : Cpu) (t v : Turn) → IsLoaded shown g r cpu t → AreKeptAlike v.state t.state → v.notes ≡ t.notes → IsAlone v.state → IsLoaded shown g r cpu v
loaded_alike shown g r cpu t v h alike notes alone =
    let w = h.saved in
    let c = w.state.current in
    let is = given_back c cpu w t refl h.is in
    let there : c < length w.state.tasks = current_there g r.kernel w h.holds.kernel in
    let here = inside c cpu.regs.words cpu.flags w.state t.state v.state is there alike in
    let same = lent_alike c cpu.regs.words cpu.flags w.state t.state v.state is there alike in
    let P : State → Type 0 = λ s. AreKeptAlike s w.state in
    let Q : State → Type 0 = λ s. IsAlone s in
    let u = lent_in c w.state v in
    let at = sym (lent_state c w.state v) in
    let now : AreKeptAlike u.state w.state = subst P at same in
    let current : c ≡ u.state.current = now.current in
    record {
      saved = u;
      holds = record {
        kernel = shows_alike g (kept_of r.kernel) w u h.holds.kernel now (lent_notes c w.state v ∙ notes ∙ same_notes cpu w t h.is) (subst Q at (alone_lent c w.state v.state alone));
        devices = h.holds.devices ∙ now.devices;
      };
      ready = ap (is_ready u.state) (sym current) ∙ sym (ready_alike u.state w.state now c) ∙ h.ready;
      is =
          sym (with_own c v.state v refl)
          ∙ ap (λ (r : List ℕ). with_processor c r (task_at v.state c).flags v) (own_registers c cpu.regs.words cpu.flags w.state t.state v.state is there alike)
          ∙ ap (λ (f : Flags). with_processor c cpu.regs.words f v) (own_flags c cpu.regs.words cpu.flags w.state t.state v.state is there alike)
          ∙ sym (twice c (task_at w.state c).registers cpu.regs.words (task_at w.state c).flags cpu.flags v here)
          ∙ ap (λ (j : ℕ). with_processor j cpu.regs.words cpu.flags u) current;
    }
  where
    current_there : (g : Setup) (k : Kernel) (w : Turn) → KernelHolds g k w → w.state.current < length w.state.tasks
    current_there g k w h = let a = h.count in let b = h.current in omega (arith, k.there, a, b)

-- ## a board

pub machine_alike : {X : Type 0} {H : X → Type 0} (shown : Shows X H) (loaded : Bool) (g : Setup) (r : AddressSpace X H) (cpu : Cpu) (t v : Turn) → HoldsBy shown loaded g r cpu t → AreKeptAlike v.state t.state → v.notes ≡ t.notes → IsAlone v.state → HoldsBy shown loaded g r cpu v
machine_alike shown true g r cpu t v h alike notes alone = loaded_alike shown g r cpu t v h alike notes alone
machine_alike shown false g r cpu t v h alike notes alone = record { kernel = shows_alike g (kept_of r.kernel) t v h.kernel alike notes alone; devices = h.devices ∙ alike.devices }

choice_alike : (g : Setup) (s u : State) (c : Choice) → 0 < length s.tasks → IsChoice g u c → AreKeptAlike s u → IsChoice g s c
choice_alike g s u c some h alike = record {
  next = h.next ∙ chosen_by g s u alike.count (ready_alike s u alike) alike.current;
  order = h.order;
  ready = record { ordered = h.ready.ordered; each = λ i there. h.ready.each i there ∙ ready_alike s u alike i };
  down = h.down ∙ ap (λ (o : Slot). is_faulted o.health) (alike.tasks 0 some);
}

-- which state it stands for is not told by more than it keeps
pub stands_alike : {X : Type 0} {H : X → Type 0} (shown : Shows X H) (x : Scenario) (b : Board X H) (s u : State) → Holds shown x b u → AreKeptAlike s u → Sane x.setup s → IsCounted s → Stands shown x b s
stands_alike shown x b s u h alike sane counted = record {
  holds = record {
    machine = machine_alike shown b.machine.loaded x.setup b.machine.space b.machine.glider.runner.processor (rested b.machine u) (rested b.machine s) h.machine alike refl (λ i. alone_of x.setup s i sane);
    turns = h.turns ∙ alike.turn;
    choice = choice_alike x.setup s u b.choice (let inside = sane.steady.current in omega (arith, inside)) h.choice alike;
    script = h.script;
    io_regions = h.io_regions;
    due = let N : ℕ → Type 0 = λ n. IsNext x.script n b.due in subst N alike.turn h.due;
  };
  sane = sane;
  counted = counted;
}
