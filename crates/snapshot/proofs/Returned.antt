-- A board that comes back to a state that was saved, from a run that went on from there.
use Rattle.std.proofs.Common.{◌≡◌, ◌∙◌, ℕ, ◌≤◌, List, [], ◌∷◌, length, map, None, refl, sym, ap, subst, arith}
use Rattle.std.proofs.lemmas.List.{length-map}
use Rattle.kernel_abi.specs.declared.Kind.{Kind}
use Rattle.kernel_abi.specs.Devices.{DeviceData}
use Rattle.run_script.specs.Events.{script_data}
use Rattle.run_script.specs.Scripts.{ScriptData}
use Rattle.task_table.specs.model.State.{Setup, State}
use Rattle.task_table.specs.model.Sane.{Sane, IsCounted}
use Rattle.board_model.specs.declared.outcomes.Level.TheVariants.{Calls}
use Rattle.board_model.specs.Alike.{reduced, seen}
use Rattle.board_model.specs.Cut.{cut_at}
use Rattle.board_model.specs.Laid.{with_script}
use Rattle.board_model.specs.Run.{run}
use Rattle.board_model.specs.Script.{Scenario, start_of}
use Rattle.board_model.proofs.SaneReduced.{sane-reduced}
use Rattle.board_core.specs.declared.board.Board.{Board}
use Rattle.board_core.specs.Data.{Shows}
use Rattle.board_core.specs.Stands.{Stands, script_of}
use Rattle.snapshot.specs.Loaded.{sites}
use Rattle.snapshot.specs.Records.{total}
use Rattle.snapshot.specs.Saved.{SpellsState, expected_of, spelling}
use Rattle.snapshot.specs.Waits.{state_fault}
use Rattle.snapshot.proofs.Few.{few_tasks}
use Rattle.snapshot.proofs.Fixed.{fixed_run}
use Rattle.snapshot.proofs.Runs.{counted_reduced, turn_reduced}
use Rattle.snapshot.proofs.StandsForSome.{as_long, spelling_long}

pub same_ram : (s u : State) → reduced s ≡ reduced u → s.memory.ram ≡ u.memory.ram
unfolding seen
same_ram s u e = ap (λ (v : State). v.memory.ram) e

-- ---- what is kept of a state

pub kinds_in : (ds : List DeviceData) → map (λ (d : DeviceData). d.kind) ds ≡ map (λ (p : Kind × ℕ). p.0) (sites ds)
kinds_in [] = refl
kinds_in (d ∷ ds) = ap (λ (ks : List Kind). d.kind ∷ ks) (kinds_in ds)

many_sites : (ds : List DeviceData) → length (sites ds) ≡ length ds
many_sites ds = length-map ds (λ (d : DeviceData). (d.kind, d.base))

-- a state that is as one of the run is spelled as long as the first one
pub as_long_as_first : (x : Scenario) (script : ScriptData) (m : ℕ) (u : State) → Sane x.setup (start_of x) → Sane x.setup u → reduced u ≡ reduced (cut_at Calls (with_script x script) m (start_of x)) →
    length (spelling (reduced u)) ≡ length (spelling (reduced (start_of x)))
as_long_as_first x script m u sane hu same =
    let s = start_of x in
    let c = cut_at Calls (with_script x script) m s in
    let fixed = fixed_run Calls (with_script x script) m s sane in
    let tasks : length u.tasks ≡ length s.tasks = hu.steady.as_many ∙ sym sane.steady.as_many in
    let places : sites u.devices ≡ sites s.devices = ap sites (sym (as_long u).devices) ∙ ap (λ (v : State). sites v.devices) same ∙ ap sites (as_long c).devices ∙ fixed.sites in
    let devices : length u.devices ≡ length s.devices = sym (many_sites u.devices) ∙ ap (λ (l : List (Kind × ℕ)). length l) places ∙ many_sites s.devices in
    let ram : length u.memory.ram ≡ length s.memory.ram = ap (λ (l : List ℕ). length l) (same_ram u c same) ∙ fixed.ram in
    spelling_long x.setup u hu ∙ (λ i. total (tasks i) (devices i) (ram i)) ∙ sym (spelling_long x.setup s sane)

module _ {X : Type 0} {H : X → Type 0} (shown : Shows X H) (x : Scenario) where
  -- ---- saved and loaded

  -- it stands in the run with its own script
  pub with_own : (script : ScriptData) (b : Board X H) (u : State) → Stands shown (with_script x script) b u → Stands shown (with_script x (script_data (script_of b))) b u
  with_own script b u st = subst (λ (s : ScriptData). Stands shown (with_script x s) b u) (sym st.holds.script) st

  -- no cause is found in what was saved, at the end of the run from there
  pub loadable : ((g : Setup) (s : State) (bytes : List ℕ) → Sane g s → IsCounted s → s.turn ≤ 1000000000 → length g.tasks ≤ 1024 → SpellsState g s bytes → state_fault (expected_of g s.devices) bytes ≡ None) →
      (b : Board X H) (u : State) (n : ℕ) (bytes : List ℕ) → Stands shown x b u → u.turn ≤ 1000000000 → SpellsState x.setup (reduced u) bytes → state_fault (expected_of x.setup (run Calls x n u).last.devices) bytes ≡ None
  loadable accepted b u n bytes st few spelled =
      let s = reduced u in
      let v = (run Calls x n u).last in
      let tasks = few_tasks shown x b u st in
      let none = accepted x.setup s bytes (sane-reduced x.setup u st.sane) (counted_reduced u st.counted) (omega (arith, turn_reduced u, few)) (omega (arith, tasks)) spelled in
      let kinds = ap (λ (ps : List (Kind × ℕ)). map (λ (p : Kind × ℕ). p.0) ps) (ap sites (as_long u).devices ∙ sym (fixed_run Calls x n u st.sane).sites) in
      subst (λ (ks : List Kind). state_fault record (expected_of x.setup s.devices) { kinds = ks } bytes ≡ None) (kinds_in s.devices ∙ kinds ∙ sym (kinds_in v.devices)) none

  -- and once that was loaded the board stands there again, with births modulo 64
  pub back : (b b' : Board X H) (u : State) (n : ℕ) (bytes : List ℕ) → Sane x.setup u → IsCounted u → Stands shown x b (run Calls x n u).last → SpellsState x.setup (reduced u) bytes →
      ((v s : State) → Stands shown x b v → SpellsState x.setup s bytes → Sane x.setup s → IsCounted s → sites s.devices ≡ sites v.devices → Stands shown x b' s) → Stands shown x b' (reduced u)
  back b b' u n bytes sane counted st spelled each =
      each (run Calls x n u).last (reduced u) st spelled (sane-reduced x.setup u sane) (counted_reduced u counted) (ap sites (as_long u).devices ∙ sym (fixed_run Calls x n u sane).sites)
