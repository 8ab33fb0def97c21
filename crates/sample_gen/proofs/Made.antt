-- What is made of the sample's tables and events is accepted.
use Rattle.std.proofs.Common.{◌≡◌, ℕ, List, [], map, codes, sym, subst, arith, Some}
use Rattle.std.specs.List.{range_with_len}
use Rattle.app_toml.specs.Accepted.{IsAccepted}
use Rattle.app_toml.specs.Apps.{AppData, InterruptData, TaskData}
use Rattle.run_script.specs.Facts.{Facts}
use Rattle.run_script.specs.Scripts.{Listed}
use Rattle.sample_gen.specs.Sample.{client_priority, events_to, first_draw, line_of, sample_app, task_by}
use Rattle.sample_gen.proofs.App.{accepted_by}
use Rattle.sample_gen.proofs.Script.{draw_below, facts}

pub accepted : (seed : ℕ) → IsAccepted (sample_app seed)
accepted seed = accepted_by (client_priority seed) (λ i. let d = draw_below seed (first_draw i) 4 (omega arith) in (omega arith, omega (arith, d)))

with_tables : List TaskData → List InterruptData → AppData
with_tables tasks lines = record {
  flash = 8192;
  ram = 8192;
  fault = codes "fault";
  tasks = tasks;
  regions = [];
  devices = [];
  interrupts = lines;
}

pub accepted_made : (seed : ℕ) (tasks : List TaskData) (lines : List InterruptData) → tasks ≡ map (task_by (client_priority seed)) (range_with_len 0 32) → lines ≡ map line_of (range_with_len 0 7) → IsAccepted (record { flash = 8192; ram = 8192; fault = codes "fault"; tasks = tasks; regions = []; devices = []; interrupts = lines })
unfolding with_tables
accepted_made seed tasks lines e f =
    subst (λ ts. IsAccepted (with_tables ts lines)) (sym e)
    (subst (λ ls. IsAccepted (with_tables (map (task_by (client_priority seed)) (range_with_len 0 32)) ls)) (sym f) (accepted seed))

pub facts_made : (seed : ℕ) (events : List Listed) → events ≡ events_to seed 4096 → Facts (record { every = Some 64; events = events })
facts_made seed events e = subst (λ es. Facts (record { every = Some 64; events = es })) (sym e) (facts seed)
