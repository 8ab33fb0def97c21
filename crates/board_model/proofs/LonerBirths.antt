-- Where births begin.
use Rattle.std.proofs.Common.{◌≡◌, ◌≢◌, ◌+◌, ◌%◌, ◌<◌, ℕ, zero, suc, Bool, false, cond, List, [], ◌∷◌, length, map, Some, refl, ◌∙◌, ap, arith, get_or}
use Rattle.std.specs.List.{range_with_len}
use Rattle.kernel_abi.specs.declared.Ending.TheVariants.{Restart}
use Rattle.kernel_abi.specs.declared.Health.TheVariants.{Well, Stopped}
use Rattle.kernel_abi.specs.declared.Note.TheVariants as note
use Rattle.task_table.specs.model.State.{Setup, TaskSetup, State, Task, Turn}
use Rattle.task_table.specs.model.Reading.{task_at, setup_at, call_of, listen_of, no_task, chosen}
use Rattle.task_table.specs.model.Effects.{without_call, without_listen, changed, given, past_syscall, closed, at_birth, reborn, restarted}
use Rattle.task_table.specs.model.Rows.{goes_on_with}
use Rattle.task_table.specs.model.Start.{born, start}
use Rattle.task_table.proofs.model.Changes.{task_at-with_task, call_of-with_task, listen_of-with_task, call_of-without_call, listen_of-without_listen, call_of-without_listen}
use Rattle.board_model.specs.declared.outcomes.Level.{Level}
use Rattle.board_model.specs.Script.{Scenario}
use Rattle.board_model.specs.Turn.{stepped, after_events, with_current, with_registers_noted, turn}
use Rattle.board_model.specs.Loners.{IsUntouched, IsAtBirth}
use Rattle.board_model.proofs.LonerSteps.{same-noted, same-fold, same-task, same-given, same-returned}
use Rattle.board_model.proofs.LonerFrame.{untouched_here}
use Rattle.board_model.proofs.LonerOwnTurns.{turn_is, state-registers, state-ended}

-- ## the start

born_at : (xs : List TaskSetup) (i : ℕ) (d : Task) (e : TaskSetup) → i < length xs → get_or (map born xs) i d ≡ born (get_or xs i e)
born_at [] i d e lt = absurd (omega arith)
born_at (x ∷ xs) zero d e lt = refl
born_at (x ∷ xs) (suc i) d e lt = born_at xs i d e (omega arith)

pub birth-start : (g : Setup) (i : ℕ) → i < length g.tasks → IsAtBirth g i (start g)
unfolding start task_at call_of listen_of
birth-start g i inside =
    let is = born_at g.tasks i no_task record { priority = 0; entry = 0; stack = 0; regions = []; start = false } inside in
    record { registers = ap (λ (x : Task). x.registers) is; flags = ap (λ (x : Task). x.flags) is; idle = record { call = refl; listen = refl } }

-- ## a restart

-- what is at birth and stays untouched is at birth
birth_stays : (g : Setup) (i : ℕ) (s z : State) → IsUntouched s i z → IsAtBirth g i s → IsAtBirth g i z
birth_stays g i s z h b = record { registers = h.registers ∙ b.registers; flags = h.flags ∙ b.flags; idle = h.idle }

counted_still : (i : ℕ) (s : State) → i < length s.tasks → i < length (without_listen i (without_call i s)).tasks
unfolding without_listen without_call
counted_still i s inside = inside

module _ (g : Setup) (i : ℕ) (run : Bool) (t : Turn) (inside : i < length t.state.tasks) where
  shut : Turn
  shut = closed i Restart t

  new : Turn
  new = changed (reborn g i run) (changed (without_listen i) shut)

  birth-new : IsAtBirth g i new.state
  unfolding new shut closed reborn
  birth-new =
      let v = without_listen i (without_call i t.state) in
      let x = at_birth (setup_at g i) ((task_at v i).births + 1) (cond run Well Stopped) in
      let there : i < length v.tasks = counted_still i t.state inside in
      let is = task_at-with_task v i x there in
      record {
        registers = ap (λ (y : Task). y.registers) is;
        flags = ap (λ (y : Task). y.flags) is;
        idle = record {
          call = call_of-with_task v i i x ∙ call_of-without_listen (without_call i t.state) i i ∙ call_of-without_call t.state i;
          listen = listen_of-with_task v i i x ∙ listen_of-without_listen (without_call i t.state) i;
        };
      }

  birth-reborn : IsAtBirth g i (restarted g i run t).state
  unfolding restarted new shut
  birth-reborn =
      let here = untouched_here new.state i birth-new.idle in
      birth_stays g i new.state _ (same-fold new.state i i (range_with_len 0 (length t.state.tasks)) _ (same-noted new.state i (note.Restart i ((task_at new.state i).births % 64)) new here)) birth-new

-- and the one that restarted it goes on
pub birth-restarted : (g : Setup) (i c : ℕ) (values : List ℕ) (run : Bool) (t : Turn) → i < length t.state.tasks → i ≢ c → IsAtBirth g i (goes_on_with c values (restarted g i run t)).state
unfolding past_syscall
birth-restarted g i c values run t inside other =
    let u = restarted g i run t in
    let born = birth-reborn g i run t inside in
    let answered = same-given u.state i c values u other (untouched_here u.state i born.idle) in
    birth_stays g i u.state _ (same-returned u.state i c _ (same-task u.state i c _ (given c values u).state other answered)) born

-- the turn in which this happened ends so
birth_counted : (g : Setup) (i n : ℕ) (s : State) → IsAtBirth g i s → IsAtBirth g i record s { turn = n }
unfolding task_at call_of listen_of
birth_counted g i n s b = record { registers = b.registers; flags = b.flags; idle = record { call = b.idle.call; listen = b.idle.listen } }

pub birth-turn : (level : Level) (x : Scenario) (s : State) (i c : ℕ) (values : List ℕ) (run : Bool) (t : Turn) → chosen x.setup (after_events x s).state ≡ Some c → stepped level x.setup c (with_current c (after_events x s)) ≡ goes_on_with c values (restarted x.setup i run t) → i < length t.state.tasks → i ≢ c → IsAtBirth x.setup i (turn level x s).state
birth-turn level x s i c values run t own does inside other =
    let v = stepped level x.setup c (with_current c (after_events x s)) in
    let is : (turn level x s).state ≡ record v.state { turn = v.state.turn + 1 } = ap (λ (z : Turn). z.state) (turn_is level x s c own) ∙ state-ended (with_registers_noted level c v) ∙ ap (λ (z : State). record z { turn = z.turn + 1 }) (state-registers level c v) in
    let born : IsAtBirth x.setup i v.state = rw does (birth-restarted x.setup i c values run t inside other) in
    rw is (birth_counted x.setup i (v.state.turn + 1) v.state born)
