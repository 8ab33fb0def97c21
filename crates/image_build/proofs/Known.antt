-- What an accepted description says of its parts.
use Rattle.std.proofs.Common.{◌≡◌, ℕ, zero, suc, true, not, ◌+◌, ◌≤◌, ◌<◌, ◌||◌, ◌==◌, List, [], ◌∷◌, codes, Option, None, Some, length, get_or, nat_lt, arith}
use Rattle.std.specs.Prelude.{IfSome}
use Rattle.std.proofs.lemmas.Bool.{ltb-false, not-false}
use Rattle.app_toml.specs.Accepted.{IsAccepted}
use Rattle.app_toml.specs.Apps.{AppData, InterruptData, TaskData}
use Rattle.app_toml.specs.Crossed.{count_fault, has_device, has_region, has_task, is_among, is_device_of, line_fault, name_twice, notification_count, notifications_of, region_count, start_fault, task_count, task_site, unknown_bit, unknown_device, unknown_entry, unknown_fault_bit, unknown_line_device, unknown_name, unknown_owner, unknown_region}
use Rattle.app_toml.specs.Places.{Refusal, Text, first_fault, refuse_if}
use Rattle.image_build.specs.Building.{IsKnown, IsOwned}
use Rattle.image_build.specs.Layout.{no_task, task_at}
use Rattle.app_toml.proofs.Passed.{both_none, not_refused}
use Rattle.app_toml.proofs.Related.{not_zero}

-- ---- a walk that finds nothing

pub each_none : {T : Type 0} → (fault : ℕ → T → Option Refusal) (k : ℕ) (xs : List T) (i : ℕ) (d : T) → i < length xs
    → first_fault fault k xs ≡ None → fault (k + i) (get_or xs i d) ≡ None
each_none fault k [] i d lt e = absurd (omega (arith, lt))
each_none fault k (x ∷ xs) zero d lt e =
    let same : k + 0 ≡ k = omega arith in rw same (both_none (fault k x) (first_fault fault (k + 1) xs) e).0
each_none fault k (x ∷ xs) (suc i) d lt e =
    let more : k + suc i ≡ (k + 1) + i = omega arith in
    rw more (each_none fault (k + 1) xs i d (omega (arith, lt)) (both_none (fault k x) (first_fault fault (k + 1) xs) e).1)

-- ---- the groups of causes

pub record Groups (app : AppData) : Type 0 where
  pub names : name_twice app ≡ None
  pub unknown : unknown_name app ≡ None
  pub counts : count_fault app.tasks ≡ None
  pub starts : start_fault app.tasks ≡ None
  pub lines : line_fault app ≡ None

pub groups : (app : AppData) → IsAccepted app → Groups app
groups app a =
    let e = both_none (name_twice app) _ a.crossed in
    let f = both_none (unknown_name app) _ e.1 in
    let g = both_none (count_fault app.tasks) _ f.1 in
    let h = both_none (start_fault app.tasks) (line_fault app) g.1 in
    record { names = e.0; unknown = f.0; counts = g.0; starts = h.0; lines = h.1 }

-- ---- how many

pub few_tasks : (app : AppData) → IsAccepted app → length app.tasks ≤ 512
few_tasks app a =
    let c = both_none (task_count app.tasks) _ (groups app a).counts in
    let d = both_none (refuse_if (nat_lt 512 (length app.tasks)) _ _) _ c.0 in
    ltb-false 512 (length app.tasks) (not_refused (nat_lt 512 (length app.tasks)) _ _ d.0)

pub some_task : (app : AppData) → IsAccepted app → 1 ≤ length app.tasks
some_task app a =
    let c = both_none (task_count app.tasks) _ (groups app a).counts in
    let d = both_none (refuse_if (nat_lt 512 (length app.tasks)) _ _) _ c.0 in
    not_zero (length app.tasks) (not_refused (length app.tasks == 0) _ _ d.1)

pub few_notes : (app : AppData) → IsAccepted app → (i : ℕ) → i < length app.tasks → length (task_at app i).notifications ≤ 32
few_notes app a i lt =
    let c = both_none (task_count app.tasks) _ (groups app a).counts in
    let d = both_none (first_fault notification_count 0 app.tasks) (first_fault region_count 0 app.tasks) c.1 in
    let e = each_none notification_count 0 app.tasks i no_task lt d.0 in
    ltb-false 32 _ (not_refused (nat_lt 32 (length (task_at app i).notifications)) _ _ e)

pub few_regions : (app : AppData) → IsAccepted app → (i : ℕ) → i < length app.tasks
    → length (task_at app i).uses + length (task_at app i).reads ≤ 6
few_regions app a i lt =
    let c = both_none (task_count app.tasks) _ (groups app a).counts in
    let d = both_none (first_fault notification_count 0 app.tasks) (first_fault region_count 0 app.tasks) c.1 in
    let e = each_none region_count 0 app.tasks i no_task lt d.1 in
    ltb-false 6 _ (not_refused (nat_lt 6 (length (task_at app i).uses + length (task_at app i).reads)) _ _ e)

-- ---- what is known

pub used_known : (app : AppData) → IsAccepted app → (i : ℕ) → i < length app.tasks
    → (j : ℕ) → j < length (task_at app i).uses → IsKnown app (get_or (task_at app i).uses j [])
used_known app a i lt j below =
    let u = both_none (first_fault (unknown_owner app.tasks) 0 app.interrupts) _ (groups app a).unknown in
    let v = both_none (unknown_fault_bit app.fault app.tasks) _ u.1 in
    let w = both_none (first_fault (unknown_bit app.tasks) 0 app.interrupts) _ v.1 in
    let x = both_none (first_fault (unknown_region app.regions app.devices) 0 app.tasks) _ w.1 in
    let e = each_none (unknown_region app.regions app.devices) 0 app.tasks i no_task lt x.0 in
    let f = both_none (first_fault (unknown_entry app.regions app.devices (task_site (0 + i) (codes "uses"))) 0 (task_at app i).uses) _ e in
    let g = each_none (unknown_entry app.regions app.devices (task_site (0 + i) (codes "uses"))) 0 (task_at app i).uses j [] below f.0 in
    not-false _ (not_refused (not (has_region (get_or (task_at app i).uses j []) app.regions || has_device (get_or (task_at app i).uses j []) app.devices)) _ _ g)

pub read_known : (app : AppData) → IsAccepted app → (i : ℕ) → i < length app.tasks
    → (j : ℕ) → j < length (task_at app i).reads → IsKnown app (get_or (task_at app i).reads j [])
read_known app a i lt j below =
    let u = both_none (first_fault (unknown_owner app.tasks) 0 app.interrupts) _ (groups app a).unknown in
    let v = both_none (unknown_fault_bit app.fault app.tasks) _ u.1 in
    let w = both_none (first_fault (unknown_bit app.tasks) 0 app.interrupts) _ v.1 in
    let x = both_none (first_fault (unknown_region app.regions app.devices) 0 app.tasks) _ w.1 in
    let e = each_none (unknown_region app.regions app.devices) 0 app.tasks i no_task lt x.0 in
    let f = both_none (first_fault (unknown_entry app.regions app.devices (task_site (0 + i) (codes "uses"))) 0 (task_at app i).uses) _ e in
    let g = each_none (unknown_entry app.regions app.devices (task_site (0 + i) (codes "reads"))) 0 (task_at app i).reads j [] below f.1 in
    not-false _ (not_refused (not (has_region (get_or (task_at app i).reads j []) app.regions || has_device (get_or (task_at app i).reads j []) app.devices)) _ _ g)

its_device : (app : AppData) (k : ℕ) (task : Text) (device : Option Text) → unknown_device app.tasks app.devices k task device ≡ None
    → IfSome device (λ name. is_device_of app.tasks app.devices task name ≡ true)
its_device app k task None e = tt
its_device app k task (Some name) e = not-false _ (not_refused (not (is_device_of app.tasks app.devices task name)) _ _ e)

pub owned : (app : AppData) → IsAccepted app → (k : ℕ) (d : InterruptData) → k < length app.interrupts → IsOwned app (get_or app.interrupts k d)
owned app a k d lt =
    let i = get_or app.interrupts k d in
    let u = both_none (first_fault (unknown_owner app.tasks) 0 app.interrupts) _ (groups app a).unknown in
    let v = both_none (unknown_fault_bit app.fault app.tasks) _ u.1 in
    let w = both_none (first_fault (unknown_bit app.tasks) 0 app.interrupts) _ v.1 in
    let x = both_none (first_fault (unknown_region app.regions app.devices) 0 app.tasks) _ w.1 in
    let e = each_none (unknown_owner app.tasks) 0 app.interrupts k d lt u.0 in
    let f = each_none (unknown_bit app.tasks) 0 app.interrupts k d lt w.0 in
    let g = each_none (unknown_line_device app.tasks app.devices) 0 app.interrupts k d lt x.1 in
    record {
      owner = not-false _ (not_refused (not (has_task i.task app.tasks)) _ _ e);
      bit = not-false _ (not_refused (not (is_among i.notification (notifications_of i.task app.tasks))) _ _ f);
      device = its_device app (0 + k) i.task i.device g;
    }

pub fault_known : (app : AppData) → IsAccepted app → is_among app.fault (task_at app 0).notifications ≡ true
fault_known app a = first app.tasks (some_task app a) (both_none (unknown_fault_bit app.fault app.tasks) _ (both_none (first_fault (unknown_owner app.tasks) 0 app.interrupts) _ (groups app a).unknown).1).0
  where
    first : (ts : List TaskData) → 1 ≤ length ts → unknown_fault_bit app.fault ts ≡ None → is_among app.fault (get_or ts 0 no_task).notifications ≡ true
    first [] some e = absurd (omega (arith, some))
    first (t ∷ ts) some e = not-false _ (not_refused (not (is_among app.fault t.notifications)) _ _ e)
