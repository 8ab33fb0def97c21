-- What each step says where none refuses.
use Rattle.std.proofs.Common.{◌≡◌, None, Some, Option, ap, refl, ◌∙◌}
use Rattle.image_format.specs.Names.{names_fault}
use Rattle.image_format.specs.Records.{Records, records_fault}
use Rattle.image_format.specs.Steps.{Refusal, count_fault, lines_fault, or_else, tasks_fault}
use Rattle.image_format.specs.Regions.{entries_fault, line_devices_fault, regions_fault}

pub both_none : (a b : Option Refusal) → or_else a b ≡ None → (a ≡ None) × (b ≡ None)
both_none None b e = (refl, e)
both_none (Some r) b e = cc

pub none_both : (a b : Option Refusal) → a ≡ None → b ≡ None → or_else a b ≡ None
none_both a b e f = ap (λ (x : Option Refusal). or_else x b) e ∙ f

pub record Passed (r : Records) : Type 0 where
  pub tasks : tasks_fault r.header r.tasks ≡ None
  pub count : count_fault r.header r.tasks ≡ None
  pub regions : regions_fault r.header r.tasks r.regions ≡ None
  pub entries : entries_fault r.header r.tasks r.regions ≡ None
  pub lines : lines_fault r.header r.lines ≡ None
  pub devices : line_devices_fault r.header r.tasks r.regions r.lines ≡ None
  pub names : names_fault r.header r.tasks r.names ≡ None

pub passed_steps : (r : Records) → records_fault r ≡ None → Passed r
passed_steps r e =
    let t = both_none (tasks_fault r.header r.tasks) _ e in
    let c = both_none (count_fault r.header r.tasks) _ t.1 in
    let g = both_none (regions_fault r.header r.tasks r.regions) _ c.1 in
    let n = both_none (entries_fault r.header r.tasks r.regions) _ g.1 in
    let l = both_none (lines_fault r.header r.lines) _ n.1 in
    let d = both_none (line_devices_fault r.header r.tasks r.regions r.lines) _ l.1 in
    record { tasks = t.0; count = c.0; regions = g.0; entries = n.0; lines = l.0; devices = d.0; names = d.1 }

pub steps_passed : (r : Records) → Passed r → records_fault r ≡ None
steps_passed r p =
    none_both (tasks_fault r.header r.tasks) _ p.tasks
    (none_both (count_fault r.header r.tasks) _ p.count
    (none_both (regions_fault r.header r.tasks r.regions) _ p.regions
    (none_both (entries_fault r.header r.tasks r.regions) _ p.entries
    (none_both (lines_fault r.header r.lines) _ p.lines
    (none_both (line_devices_fault r.header r.tasks r.regions r.lines) (names_fault r.header r.tasks r.names) p.devices p.names)))))
