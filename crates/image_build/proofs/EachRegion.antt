-- The regions and the entry of a task that is built.
use Rattle.std.proofs.Common.{◌≡◌, ℕ, true, false, ◌+◌, ◌%◌, ◌≤◌, ◌<◌, ◌&&◌, ◌==◌, List, [], ◌∷◌, length, map, nat_le, nat_lt, sym, arith}
use Rattle.std.proofs.lemmas.Bool.{and_from, le-leb, lt-ltb, ne_eqb, or_left}
use Rattle.app_toml.specs.Accepted.{IsAccepted}
use Rattle.app_toml.specs.Apps.{AppData}
use Rattle.app_toml.specs.Relations.{HasDevices, Relations}
use Rattle.image_format.specs.ImageData.{region_record}
use Rattle.image_format.specs.Regions.{meets, runs_at}
use Rattle.image_format.specs.declared.records.RegionRecord.{RegionRecord}
use Rattle.mem_plan.specs.Sizes.{rounded}
use Rattle.image_build.specs.Building.{IsLaid}
use Rattle.image_build.specs.Built.{task_built}
use Rattle.image_build.specs.Layout.{flash_base, no_task, task_at, task_regions}
use Rattle.image_build.specs.declared.layout.Layout.{Layout}
use Rattle.image_build.proofs.Naming.{AllLie, Differ, lie_own, own_differ, own_spots, ram_size, reads_all, uses_all}
use Rattle.image_build.proofs.Planning.{flash_size}
use Rattle.image_build.proofs.Rounding.{some_size}
use Rattle.image_build.proofs.Spots.{Lies, Spot, apart_meet}
use Rattle.image_build.proofs.Walking.{Each, HasOwn, Pairs, Runs}
use Rattle.image_build.proofs.EachTask.{flash_fours}

-- ---- its regions

abbrev pub LiesSomewhere : AppData → RegionRecord → Type 0
LiesSomewhere app r = (s : Spot) × Lies app s r

each_lies : (app : AppData) (ss : List Spot) (rs : List RegionRecord) → AllLie app ss rs → Each (LiesSomewhere app) rs
each_lies app [] [] h = tt
each_lies app [] (r ∷ rs) h = absurd h
each_lies app (s ∷ ss) [] h = absurd h
each_lies app (s ∷ ss) (r ∷ rs) h = ((s, h.0), each_lies app ss rs h.1)

apart_each : (app : AppData) (layout : Layout) → IsLaid app layout → IsAccepted app → HasDevices app → (s : Spot) (r : RegionRecord) → Lies app s r
    → (ss : List Spot) (rs : List RegionRecord) → AllLie app ss rs → Each (Differ s) ss → Each (λ e. meets e r ≡ false) rs
apart_each app layout l a d s r x [] [] h other = tt
apart_each app layout l a d s r x [] (e ∷ rs) h other = absurd h
apart_each app layout l a d s r x (q ∷ ss) [] h other = absurd h
apart_each app layout l a d s r x (q ∷ ss) (e ∷ rs) h other =
    (apart_meet app layout l a d q s e r h.0 x (λ same. other.0 (sym same)), apart_each app layout l a d s r x ss rs h.1 other.1)

apart_all : (app : AppData) (layout : Layout) → IsLaid app layout → IsAccepted app → HasDevices app
    → (ss : List Spot) (rs : List RegionRecord) → AllLie app ss rs → Pairs Differ ss → Pairs (λ r e. meets e r ≡ false) rs
apart_all app layout l a d [] [] h other = tt
apart_all app layout l a d [] (r ∷ rs) h other = absurd h
apart_all app layout l a d (s ∷ ss) [] h other = absurd h
apart_all app layout l a d (s ∷ ss) (r ∷ rs) h other = (apart_each app layout l a d s r h.0 ss rs h.1 other.0, apart_all app layout l a d ss rs h.1 other.1)

pub has_own : (app : AppData) (layout : Layout) → IsLaid app layout → IsAccepted app → Relations app → (i : ℕ) → i < length app.tasks
    → HasOwn (LiesSomewhere app) (task_built app i (task_at app i))
has_own app layout l a r i lt =
    let t = task_at app i in
    let uses = uses_all app a i lt in
    let reads = reads_all app a i lt in
    let rs = map region_record (task_regions app i t) in
    let lie = lie_own app i t lt (flash_size app i lt) (ram_size app i lt) uses reads in
    record {
      each = each_lies app (own_spots app i t) rs lie;
      apart = apart_all app layout l a r.devices (own_spots app i t) rs lie (own_differ app i t lt (r.names.own i no_task lt) uses reads);
    }

-- ---- its entry

odd_entry : (base : ℕ) → base % 4 ≡ 0 → ((base + 1) % 2 == 0) ≡ false
odd_entry base e = ne_eqb ((base + 1) % 2) 0 (λ same. omega (arith, e, same))

runs_here : (base size : ℕ) → 256 ≤ size → (nat_lt base (base + 1) && nat_le (base + 1) (base + size)) ≡ true
runs_here base size some = and_from (nat_lt base (base + 1)) (nat_le (base + 1) (base + size)) (lt-ltb base (base + 1) (omega arith)) (le-leb (base + 1) (base + size) (omega (arith, some)))

pub runs : (app : AppData) (layout : Layout) → IsLaid app layout → (i : ℕ) → i < length app.tasks → Runs (task_built app i (task_at app i))
runs app layout l i lt =
    let t = task_at app i in
    let entry = flash_base app i + 1 in
    let code : RegionRecord = record { base = flash_base app i; size = rounded t.flash; rights = 5 } in
    record {
      odd = odd_entry (flash_base app i) (flash_fours app layout l i lt);
      inside = or_left (runs_at entry code) _ (runs_here (flash_base app i) (rounded t.flash) (some_size t.flash));
    }
