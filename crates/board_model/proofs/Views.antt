-- Two viewers, and the laws that they give.
use Rattle.std.proofs.Common.{◌≡◌, ◌+◌, ◌%◌, ℕ, suc, Bool, true, false, ◌||◌, List, [], ◌∷◌, eqb, map, refl, sym, ◌∙◌, ap, arith, map-id}
use Rattle.std.specs.Prelude.{filter, Contains}
use Rattle.std.specs.List.{list_any}
use Rattle.std.proofs.lemmas.Bool.{false≢true}
use Rattle.std.proofs.lemmas.List.Folds.{list_any_at}
use Rattle.std.proofs.Math.Nat.{mod-mod}
use Rattle.mem_banks.specs.Memory.{Memory}
use Rattle.task_table.specs.model.State.{Setup, Task, Call, From, Any, One, KernelOnly, Listen, State, Read, Turn}
use Rattle.board_model.specs.Levels.{is_noted_always, IsLessNoted}
use Rattle.task_table.specs.model.Reading.{listen_of}
use Rattle.task_table.specs.model.Sane.{Sane}
use Rattle.task_table.proofs.model.Keeps.{found_in}
use Rattle.task_table.specs.model.Syscalls.{syscall_made}
use Rattle.task_table.specs.model.Start.{begun}
use Rattle.board_model.specs.declared.outcomes.Level.{Level}
use Rattle.board_model.specs.declared.outcomes.Level.TheVariants.{Calls, All}
use Rattle.board_model.specs.Script.{Scenario}
use Rattle.board_model.specs.Turn.{after_events, turn}
use Rattle.board_model.proofs.TurnChains.{sane-after_events}
use Rattle.board_model.specs.Alike.{Viewer, IsAttentive, seen_task, seen_call, seen_from, seen_listen, seen, but_memory, reduced, AreAlikeMemories, IsAlike, AreSeen, IsAlikeWhereSeen}
use Rattle.board_model.proofs.Alike.{shown, memories_same}
use Rattle.board_model.proofs.AlikeSyscalls.{alike-syscall_made}
use Rattle.board_model.proofs.Births.{AreTellable}
use Rattle.board_model.proofs.SaneReduced.{sane-reduced}
use Rattle.board_model.proofs.AlikeTurns.{IsHeardAs, alike-turn}
use Rattle.board_model.proofs.Sight.{IsOpen}

-- ## small things

map_same : {X : Type 0} (f : X → X) → ((x : X) → f x ≡ x) → (xs : List X) → map f xs ≡ xs
map_same f e [] = refl
map_same f e (x ∷ xs) = λ i. e x i ∷ map_same f e xs i

pub map_again : {X : Type 0} (f : X → X) → ((x : X) → f (f x) ≡ f x) → (xs : List X) → map f (map f xs) ≡ map f xs
map_again f e [] = refl
map_again f e (x ∷ xs) = λ i. e x i ∷ map_again f e xs i

pub all_heard : {X : Type 0} (xs : List X) → xs ≡ filter (λ x. true) xs
all_heard [] = refl
all_heard (x ∷ xs) = ap (λ l. x ∷ l) (all_heard xs)

pub any_in : {X : Type 0} (p : X → Bool) (xs : List X) → list_any p xs ≡ true → (x : X) × Contains xs x × (p x ≡ true)
any_in p [] e = absurd (false≢true e)
any_in p (x ∷ xs) e = go (p x) refl e (λ rest. any_in p xs rest)
  where
    go : (b : Bool) → p x ≡ b → (b || list_any p xs) ≡ true → (list_any p xs ≡ true → (y : _) × Contains xs y × (p y ≡ true)) → (y : _) × Contains (x ∷ xs) y × (p y ≡ true)
    go true q f later = (x, (0, omega arith, refl), q)
    go false q f later = let r = later f in (r.0, (suc r.1.0, omega (arith, r.1.1), r.1.2), r.2)

pub any_of : {X : Type 0} (p : X → Bool) (xs : List X) (x : X) → Contains xs x → p x ≡ true → list_any p xs ≡ true
any_of p xs x h e = list_any_at p xs h.0 x h.1 (ap p h.2 ∙ e)

-- ## births as they are

from_plain : (f : From) → seen_from (λ b. b) f ≡ f
from_plain Any = refl
from_plain (One b) = refl
from_plain KernelOnly = refl

seen_plain : (s : State) → seen (λ b. b) s ≡ s
unfolding seen
seen_plain s =
    let t = map-id s.tasks in
    let c = map-id s.calls in
    let l = map_same (seen_listen (λ b. b)) (λ (x : Listen). ap (λ f. record x { from = f }) (from_plain x.from)) s.listens in
    λ i. record s { tasks = t i; calls = c i; listens = l i }

pub same_but_memory : (s u : State) → shown (λ b. b) s ≡ shown (λ b. b) u → but_memory s ≡ but_memory u
same_but_memory s u e = sym (ap but_memory (seen_plain s)) ∙ e ∙ ap but_memory (seen_plain u)

-- a state is what it is but for memory, and its memory
joined : (s u : State) → but_memory s ≡ but_memory u → s.memory ≡ u.memory → s ≡ u
joined s u e m = λ i. record (e i) { memory = m i }

-- ## the listener: hears only what is noted always

unfoldable pub listener : Viewer
listener = record { birth = λ b. b; sees = λ a. true; hears = is_noted_always }

pub attentive_listener : IsAttentive listener
unfolding listener
attentive_listener = record { hears = λ n h. h; generation = λ b. refl; next = λ b. refl }

memory_itself : (sees : ℕ → Bool) (m : Memory) → AreAlikeMemories sees m m
memory_itself sees m = record { flash_length = refl; ram_length = refl; flash = λ k e. refl; ram = λ k e. refl }

pub alike_of_told : (t u : Turn) → IsLessNoted t u → IsAlike listener t u
unfolding listener
alike_of_told t u h = record {
  state = ap (shown (λ b. b)) h.state;
  memory = rw (ap (λ (s : State). s.memory) h.state) (memory_itself (λ a. true) u.state.memory);
  notes = h.notes;
  writes = h.writes;
  reads = h.reads;
}

pub told_of_alike : (t u : Turn) → IsAlike listener t u → IsLessNoted t u
unfolding listener
told_of_alike t u h = record {
  state = joined t.state u.state (same_but_memory t.state u.state h.state) (memories_same t.state.memory u.state.memory h.memory);
  writes = h.writes;
  reads = h.reads;
  notes = h.notes;
}

-- all that is read is seen
pub all_seen : (reads : List Read) → AreSeen (λ a. true) reads
all_seen reads r here a lo hi = refl

listening : (t u : Turn) → IsAlikeWhereSeen listener t u → IsLessNoted t u
unfolding listener
listening t u h = told_of_alike t u (h.alike (all_seen t.reads))

pub open_listener : (g : Setup) (c : ℕ) → IsOpen listener g c
unfolding listener
open_listener g c = record { rights = λ right a e. refl }

-- births that are seen as they are
pub told_plainly : (s : State) → AreTellable (λ b. b) s
told_plainly s i l b here e same = same

pub less_noted-syscall_made : (g : Setup) (c : ℕ) (t u : Turn) → IsLessNoted t u → IsLessNoted (syscall_made g c t) (syscall_made g c u)
unfolding listener
less_noted-syscall_made g c t u h = listening _ _ (alike-syscall_made listener attentive_listener g c t u (open_listener g c) (told_plainly t.state) (told_plainly u.state) (alike_of_told t u h))

pub less_noted-turn : (x : Scenario) (s : State) → IsLessNoted (turn Calls x s) (turn All x s)
unfolding listener begun
less_noted-turn x s =
    listening _ _ (alike-turn listener attentive_listener Calls All (λ n request. request) x s s (open_listener x.setup) (told_plainly (after_events x s).state) (told_plainly (after_events x s).state) (alike_of_told (begun s) (begun s) record { state = refl; writes = refl; reads = refl; notes = refl }))

-- ## the one who takes births modulo 64

unfoldable pub archivist : Viewer
archivist = record { birth = λ b. b % 64; sees = λ a. true; hears = λ n. true }

pub attentive_archivist : IsAttentive archivist
unfolding archivist
attentive_archivist = record { hears = λ n h. refl; generation = λ b. mod-mod b 64; next = λ b. again b }
  where
    again : (b : ℕ) → (b + 1) % 64 ≡ (b % 64 + 1) % 64
    again b = omega arith

from_again : (f : From) → seen_from (λ b. b % 64) (seen_from (λ b. b % 64) f) ≡ seen_from (λ b. b % 64) f
from_again Any = refl
from_again (One b) = ap (λ n. One record { index = b.index; birth = n }) (mod-mod b.birth 64)
from_again KernelOnly = refl

seen_again : (s : State) → seen (λ b. b % 64) (reduced s) ≡ reduced s
unfolding seen
seen_again s =
    let t = map_again (seen_task (λ b. b % 64)) (λ (x : Task). ap (λ n. record x { births = n }) (mod-mod x.births 64)) s.tasks in
    let c = map_again (seen_call (λ b. b % 64)) (λ (x : Call). λ i. record x { client = record { index = x.client.index; birth = mod-mod x.client.birth 64 i }; server = record { index = x.server.index; birth = mod-mod x.server.birth 64 i } }) s.calls in
    let l = map_again (seen_listen (λ b. b % 64)) (λ (x : Listen). ap (λ f. record x { from = f }) (from_again x.from)) s.listens in
    λ i. record s { tasks = t i; calls = c i; listens = l i }

pub level_heard : (level : Level) → IsHeardAs archivist level level
unfolding archivist
level_heard Calls = tt
level_heard All = λ n. refl

memory_reduced : (s : State) → (reduced s).memory ≡ s.memory
unfolding seen
memory_reduced s = refl

pub reduced_from : (s u : State) → shown (λ b. b % 64) s ≡ shown (λ b. b % 64) u → s.memory ≡ u.memory → reduced s ≡ reduced u
unfolding seen
reduced_from s u e m = λ i. record (e i) { memory = m i }

pub alike-reduced : (s : State) → IsAlike archivist (begun (reduced s)) (begun s)
unfolding archivist begun
alike-reduced s = record {
  state = ap but_memory (seen_again s);
  memory = rw (memory_reduced s) (memory_itself (λ a. true) s.memory);
  notes = refl;
  writes = refl;
  reads = refl;
}

-- a turn from a state and one from it reduced
pub record IsReducedAlike (t u : Turn) : Type 0 where
  pub notes : t.notes ≡ u.notes
  pub state : reduced t.state ≡ reduced u.state

-- in a sane state what listens name is the present birth
pub told_sanely : (v : ℕ → ℕ) (g : Setup) (s : State) → Sane g s → AreTellable v s
unfolding listen_of
told_sanely v g s h i l b here e same = sym (h.present.named l b (found_in (λ (x : Listen). eqb x.task i) s.listens l here).0 e tt)

pub reduced-turn : (level : Level) (x : Scenario) (s : State) → Sane x.setup s → IsReducedAlike (turn level x (reduced s)) (turn level x s)
unfolding archivist
reduced-turn level x s sane =
    let births : ℕ → ℕ = λ b. b % 64 in
    let t = turn level x (reduced s) in
    let u = turn level x s in
    let open_all : (c : ℕ) → IsOpen archivist x.setup c = λ c. record { rights = λ right a e. refl } in
    let h = (alike-turn archivist attentive_archivist level level (level_heard level) x (reduced s) s open_all (told_sanely births x.setup (after_events x (reduced s)).state (sane-after_events x (reduced s) (sane-reduced x.setup s sane))) (told_sanely births x.setup (after_events x s).state (sane-after_events x s sane)) (alike-reduced s)).alike (all_seen t.reads) in
    record {
      notes = h.notes ∙ sym (all_heard u.notes);
      state = reduced_from t.state u.state h.state (memories_same t.state.memory u.state.memory h.memory);
    }
