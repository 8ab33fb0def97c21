-- No cause is found in a saved state of a run.
use Rattle.std.proofs.Common.{◌≡◌, ◌∙◌, ℕ, ◌≤◌, List, [], ◌∷◌, length, map, None, refl, sym, ap, subst, arith}
use Rattle.std.proofs.lemmas.List.{length-replicate}
use Rattle.kernel_abi.specs.Devices.{DeviceData}
use Rattle.kernel_abi.specs.declared.Kind.{Kind}
use Rattle.run_script.specs.Scripts.{events_of}
use Rattle.task_table.specs.model.Reading.{no_line}
use Rattle.task_table.specs.model.Start.{start}
use Rattle.task_table.specs.model.State.{Setup, LineSetup, TaskSetup, State}
use Rattle.task_table.specs.model.Sane.{Sane, IsCounted}
use Rattle.board_model.specs.declared.outcomes.Level.{Level}
use Rattle.board_model.specs.Alike.{reduced, seen}
use Rattle.board_model.specs.Run.{run}
use Rattle.board_model.specs.Script.{Scenario, start_of}
use Rattle.board_model.proofs.Counts.{counted_run, counted_first}
use Rattle.board_model.proofs.RunKeeps.{sane_run}
use Rattle.board_model.proofs.SaneReduced.{sane-reduced}
use Rattle.snapshot.specs.Causes.{Expected}
use Rattle.snapshot.specs.Waits.{state_fault}
use Rattle.snapshot.specs.Loaded.{sites}
use Rattle.snapshot.specs.Saved.{spelling, expected_of}
use Rattle.snapshot.proofs.Accepts.{none_of}
use Rattle.snapshot.proofs.Fixed.{fixed_run}
use Rattle.snapshot.proofs.Saves.{saved_is_accepted}
use Rattle.snapshot.proofs.StandsForSome.{IsAsLarge, as_long, spells}

-- ## what does not depend on births

pub turn_reduced : (s : State) → (reduced s).turn ≡ s.turn
unfolding seen
turn_reduced s = refl

pub counted_reduced : (s : State) → IsCounted s → IsCounted (reduced s)
unfolding seen
counted_reduced s h = record { some = h.some; calls = h.calls; now = h.now }

-- ## as large as the image

lines_first : (x : Scenario) → length (start_of x).lines ≡ x.setup.line_count
unfolding start
lines_first x = length-replicate x.setup.line_count no_line

ram_first : (x : Scenario) → length (start_of x).memory.ram ≡ x.setup.ram
unfolding start
ram_first x = length-replicate {A = ℕ} x.setup.ram 0

pub large_run : (level : Level) (x : Scenario) (n : ℕ) → Sane x.setup (start_of x) → IsAsLarge x.setup (run level x n (start_of x)).last
large_run level x n h = let fixed = fixed_run level x n (start_of x) h in record { lines = fixed.lines ∙ lines_first x; ram = fixed.ram ∙ ram_first x }

-- ## beside the same devices

kinds_of : (ds : List DeviceData) → map (λ (p : Kind × ℕ). p.0) (sites ds) ≡ map (λ (d : DeviceData). d.kind) ds
kinds_of [] = refl
kinds_of (d ∷ ds) = ap (λ (ks : List Kind). d.kind ∷ ks) (kinds_of ds)

-- devices of the same kinds at the same places
same_kinds : (ds es : List DeviceData) → sites ds ≡ sites es → map (λ (d : DeviceData). d.kind) ds ≡ map (λ (d : DeviceData). d.kind) es
same_kinds ds es same = sym (kinds_of ds) ∙ ap (map (λ (p : Kind × ℕ). p.0)) same ∙ kinds_of es

same_expected : (g : Setup) (ds es : List DeviceData) → sites ds ≡ sites es → expected_of g ds ≡ expected_of g es
same_expected g ds es same = ap of (same_kinds ds es same)
  where
    of : List Kind → Expected
    of kinds = record { regions = map (λ (t : TaskSetup). t.regions) g.tasks; ram = g.ram; owned = map (λ (l : LineSetup). l.line) g.lines; kinds = kinds }

-- ## the run

pub sites_run : (level : Level) (x : Scenario) (n : ℕ) → Sane x.setup (start_of x) → sites (reduced (run level x n (start_of x)).last).devices ≡ sites x.devices
sites_run level x n h = ap sites (as_long (run level x n (start_of x)).last).devices ∙ (fixed_run level x n (start_of x) h).sites

pub saved_run : (level : Level) (x : Scenario) (n : ℕ) → Sane x.setup (start_of x) → ((turn : ℕ) → length (events_of x.script turn) ≤ 9) → length x.setup.tasks ≤ 1024 → (run level x n (start_of x)).last.turn ≤ 1000000000 →
    state_fault (expected_of x.setup x.devices) (spelling (reduced (run level x n (start_of x)).last)) ≡ None
saved_run level x n h few tasks turns =
    let g = x.setup in
    let u = (run level x n (start_of x)).last in
    let bytes : List ℕ = spelling (reduced u) in
    let sane : Sane g u = sane_run level x n (start_of x) h in
    let counted : IsCounted u = counted_run level x n (start_of x) h few (counted_first x) in
    let same : (reduced u).turn ≡ u.turn = turn_reduced u in
    let early : (reduced u).turn ≤ 1000000000 = omega (arith, same, turns) in
    let whole = spells g u bytes sane (large_run level x n h) refl in
    let none : state_fault (expected_of g (reduced u).devices) bytes ≡ None = none_of (expected_of g (reduced u).devices) bytes (saved_is_accepted g (reduced u) bytes (sane-reduced g u sane) (counted_reduced u counted) early tasks whole) in
    subst (λ (e : Expected). state_fault e bytes ≡ None) (same_expected g (reduced u).devices x.devices (sites_run level x n h)) none
