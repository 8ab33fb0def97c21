-- There is at most one verdict.
use Rattle.std.proofs.Common.{◌≡◌, ℕ, List, Option, None, sym, ◌∙◌, arith}
use Rattle.std.proofs.lemmas.Option.{same_Some}
use Rattle.kernel_abi.specs.Devices.{DeviceData}
use Rattle.outside_io.specs.Outside.{Rose}
use Rattle.outside_io.specs.Seen.{FilesSeen}
use Rattle.command_files.specs.Sources.{File, MayBe, Are, Takes}
use Rattle.trace_cli.specs.Verdict as verdict
use Rattle.command_files.specs.Verdict.{Verdict}
use Rattle.trace_cli.specs.Verdict.{IsVerdict}
use Rattle.trace_cli.specs.Answer.{refuses, does, CommandReason, no_job, of_job}
use Rattle.trace_cli.proofs.Deciding.{Decided, agreed, not_read, decided}

-- what is seen may be
held_may : (seen : List ℕ → Option (List ℕ)) (name bytes : List ℕ) → Are seen name bytes → MayBe seen name bytes
held_may seen name bytes is = λ all at. same_Some bytes all (sym is ∙ at)

takes_may : (seen : List ℕ → Option (List ℕ)) (files : List File) (cs : List (List ℕ)) → Takes (Are seen) files cs → Takes (MayBe seen) files cs
takes_may seen files cs takes = λ k bytes e. let t = takes k bytes e in (t.0, t.1, held_may seen t.0.name bytes t.2, t.3)

-- files of which no call has failed
abbrev unfailed : (List ℕ → Option (List ℕ)) → FilesSeen
unfailed seen = record { contents = seen; read_faults = 0; put_faults = 0; given = 0; last_failing = None }

grounded : {devices : List DeviceData} (words : List (List ℕ)) (seen : List ℕ → Option (List ℕ)) (v : Verdict) → IsVerdict devices words seen v → CommandReason devices words (unfailed seen) (unfailed seen) v
grounded words seen v (verdict.no_job none e) = no_job none e
grounded words seen v (verdict.refuses job cs f c why at r held refusal e) = of_job job at (refuses f why (record {
  contents = cs;
  reached = record { takes = takes_may seen _ cs r.takes; next = r.next };
  refused = record { bytes = c; held = held_may seen f.name c held; refused = refusal };
}) e)
grounded words seen v (verdict.does job cs at all p) = of_job job at (does cs (record { takes = takes_may seen _ cs all.takes; all = all.all }) p)

none_rose : Rose 0 0 → ⊥
none_rose rose = absurd (omega arith)

when_decided : {devices : List DeviceData} (words : List (List ℕ)) (seen : List ℕ → Option (List ℕ)) (u v : Verdict) → Decided devices words (unfailed seen) (unfailed seen) u v → u ≡ v
when_decided words seen u v (agreed e) = e
when_decided words seen u v (not_read job f at h e) = absurd (none_rose h.rose)

pub one_verdict : {devices : List DeviceData} (words : List (List ℕ)) (seen : List ℕ → Option (List ℕ)) (u v : Verdict) → IsVerdict devices words seen u → IsVerdict devices words seen v → u ≡ v
one_verdict words seen u v p q = when_decided words seen u v (decided words (unfailed seen) (unfailed seen) u v (grounded words seen u p) q)
