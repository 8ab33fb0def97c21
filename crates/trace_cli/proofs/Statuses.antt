-- What each status says.
use Rattle.std.proofs.Common.{◌≡◌, ◌≢◌, ℕ, ◌≤◌, ◌⊎◌, Bool, true, false, List, Option, Some, None, refl, sym, ap, subst, ◌∙◌, inl, inr, arith, cond}
use Rattle.std.specs.Io.KnownBytes.{Appends}
use Rattle.kernel_abi.specs.Devices.{DeviceData}
use Rattle.outside_io.specs.Outside.{Rose}
use Rattle.board_model.specs.declared.outcomes.End.{End}
use Rattle.board_model.specs.declared.outcomes.End.TheVariants.{Bound, Still, Supervisor}
use Rattle.command_line.specs.CommandLine.{Asked, build, run, go, list, sample, migrate, audit, save, resume, debug, cover, sweep, timeline, live, picture, lcov, help, is_accepted, job_of}
use Rattle.trace_audit.specs.declared.judgement.Judgement as trace
use Rattle.trace_audit.specs.declared.judgement.Judgement.TheVariants.{Yes, No}
use Rattle.outside_io.specs.Seen.{FilesSeen, SinkSeen}
use Rattle.trace_cli.specs.Words.{job_in, out_of}
use Rattle.command_files.specs.Verdict.{Verdict, line_alone, refused, unread, audited, status_of}
use Rattle.trace_cli.specs.Verdict.{IsVerdict, Does, usage, usage_line}
use Rattle.trace_cli.specs.Answer.{JobReason, cannot_read, refuses, does, CommandReason, no_job, of_job, TellsGoodIn, AnswersJob, Answers, HasDone, HasRefused, HasUnread, HasFront, Answered, IsComplete, IsDone}
use Rattle.command_files.specs.Answer.{whole, cut}
use Rattle.command_files.specs.Answer.{HasPut, HasSpoiled, Tells, spoiled, short}
use Rattle.command_files.specs.Pushed as seen
use Rattle.command_files.specs.Pushed.{Pushed, Says, pushed, silent}
use Rattle.command_files.proofs.Answering.{audited_alone}
use Rattle.trace_cli.proofs.Deciding.{Decided, agreed, not_read, decided}

-- ## where the contents are seen

same_seen : (a b : FilesSeen) (w w' : SinkSeen) (v u : Verdict) (r : ℕ) → v ≡ u → Tells a b w w' v r → Tells a b w w' u r
same_seen a b w w' v u r e t = let P : Verdict → Type 0 = λ x. Tells a b w w' x r in subst P e t

by_decision : {devices : List DeviceData} (words : List (List ℕ)) (a b : FilesSeen) (w w' : SinkSeen) (v u : Verdict) (r : ℕ) → Decided devices words a b v u → Tells a b w w' v r → Answered devices words a b w w' u r
by_decision words a b w w' v u r (agreed e) t = inl (same_seen a b w w' v u r e t)
by_decision words a b w w' v u r (not_read job f at is e) t = inr (record { job = job; command = at; file = f; is = is; tells = same_seen a b w w' v (unread is.told f.name) r e t })

pub answered : {devices : List DeviceData} (words : List (List ℕ)) (a b : FilesSeen) (w w' : SinkSeen) (u : Verdict) (r : ℕ) → Answers devices words a b w w' r → IsVerdict devices words a.contents u → Answered devices words a b w w' u r
answered words a b w w' u r (inl s) is = inl (short s)
answered words a b w w' u r (inr h) is = by_decision words a b w w' h.0 u r (decided words a b h.0 u h.1 is) h.2

without_fault : (a b : FilesSeen) (w w' : SinkSeen) (u : Verdict) (r : ℕ) → ¬ Rose a.put_faults b.put_faults → ¬ Rose w.faults w'.faults → Tells a b w w' u r → IsComplete a b w w' u r
without_fault a b w w' u r no_put no_push (whole is put text) = inl (is, put, text)
without_fault a b w w' u r no_put no_push (cut is rose put front) = absurd (no_push rose)
without_fault a b w w' u r no_put no_push (spoiled is rose left same) = absurd (no_put rose)
without_fault a b w w' u r no_put no_push (short s) = inr s

pub completed : {devices : List DeviceData} (words : List (List ℕ)) (a b : FilesSeen) (w w' : SinkSeen) (u : Verdict) (r : ℕ) →
    ¬ Rose a.read_faults b.read_faults → ¬ Rose a.put_faults b.put_faults → ¬ Rose w.faults w'.faults → Answered devices words a b w w' u r → IsComplete a b w w' u r
completed words a b w w' u r no_read no_put no_push (inl t) = without_fault a b w w' u r no_put no_push t
completed words a b w w' u r no_read no_put no_push (inr h) = absurd (no_read h.is.rose)

-- ## the answer to words by the answer to their job

pub by_job : {devices : List DeviceData} (words : List (List ℕ)) (job : Asked) (a b : FilesSeen) (w w' : SinkSeen) (r : ℕ) →
    is_accepted words ≡ true → job_of words ≡ Some job → AnswersJob devices job a b w w' r → Answers devices words a b w w' r
by_job words job a b w w' r accepted_sources is (inl s) = inl s
by_job words job a b w w' r accepted_sources is (inr h) =
    let in_words : job_in words ≡ Some job = ap (λ (b : Bool). cond b (job_of words) None) accepted_sources ∙ is in
    inr (h.0, of_job job in_words h.1, h.2, subst (λ (o : Option Asked). TellsGoodIn o h.0 r) (sym in_words) h.3)

-- ## statuses of verdicts

end_zero_or_six : (e : End) → (status_of e ≡ 0) ⊎ (status_of e ≡ 6)
end_zero_or_six Bound = inl refl
end_zero_or_six Still = inl refl
end_zero_or_six Supervisor = inr refl

-- of a run that ended so
end_status : (e : End) (status : ℕ) → status ≡ status_of e → (status ≡ 0) ⊎ (status ≡ 6)
end_status e status is = by_end (end_zero_or_six e) where
  by_end : (status_of e ≡ 0) ⊎ (status_of e ≡ 6) → (status ≡ 0) ⊎ (status ≡ 6)
  by_end (inl z) = inl (is ∙ z)
  by_end (inr s) = inr (is ∙ s)

-- of an audit
audit_zero_or_seven : (found : trace.Judgement) → ((audited found).status ≡ 0) ⊎ ((audited found).status ≡ 7)
audit_zero_or_seven (Yes calls left) = inl refl
audit_zero_or_seven (No line) = inr refl

of_run : (status : ℕ) → (status ≡ 0) ⊎ (status ≡ 6) → IsDone status
of_run status (inl z) = inl z
of_run status (inr s) = inr (inl s)

of_audit : (status status' : ℕ) → status ≡ status' → (status' ≡ 0) ⊎ (status' ≡ 7) → IsDone status
of_audit status status' same (inl z) = inl (same ∙ z)
of_audit status status' same (inr s) = inr (inr (inl (same ∙ s)))

-- of a sweep
of_sweep : (status : ℕ) (differs : Bool) → status ≡ cond differs 8 0 → IsDone status
of_sweep status true is = inr (inr (inr is))
of_sweep status false is = inl is

status_as : (v u : Verdict) → v ≡ u → v.status ≡ u.status
status_as v u e = ap (λ (x : Verdict). x.status) e

ran_as : (v : Verdict) (e : End) (text : List ℕ) → v ≡ line_alone (status_of e) text → IsDone v.status
ran_as v e text is = of_run v.status (end_status e v.status (status_as v (line_alone (status_of e) text) is))

-- of what is done with files
done_status : (devices : List DeviceData) (job : Asked) (cs : List (List ℕ)) (v : Verdict) → Does devices job cs v → IsDone v.status
done_status devices (build app out) cs v p = inl (status_as v _ p.2)
done_status devices (run image script steps detail) cs v p = ran_as v _ _ p
done_status devices (go app script steps detail) cs v p = ran_as v _ _ p.2
done_status devices (list image) cs v p = inl (status_as v _ p)
done_status devices (sample seed steps) cs v p = ran_as v _ _ p.2
done_status devices (migrate image out) cs v p = inl (status_as v _ p)
done_status devices (audit name) cs v p = of_audit v.status (audited p.0).status (status_as v (audited p.0) p.2) (audit_zero_or_seven p.0)
done_status devices (save image script out steps) cs v p = inl (status_as v _ p)
done_status devices (resume image script state steps detail) cs v p = ran_as v _ _ p
done_status devices (debug image script name) cs v p = inl (status_as v _ p.2)
done_status devices (cover image script steps false) cs v p = ran_as v _ _ p.2
done_status devices (cover app script steps true) cs v p = ran_as v _ _ p.2.2
done_status devices (sweep image script arrival from to steps memory) cs v p = of_sweep v.status _ (status_as v _ p)
done_status devices (timeline image script steps names) cs v p = ran_as v _ _ p
done_status devices (live image script commands) cs v p = inl (status_as v _ p)
done_status devices (picture image script out steps names) cs v p = inl (status_as v _ p)
done_status devices (lcov app script out steps) cs v p = inl (status_as v _ p.2)
done_status devices (help about) cs v p = inl (status_as v _ p)

not_done : (v : Verdict) (n : ℕ) → IsDone v.status → v.status ≡ n → (n ≡ 0 → ⊥) → (6 ≤ n → ⊥) → ⊥
not_done v n (inl z) e not0 not6 = not0 (sym e ∙ z)
not_done v n (inr (inl s)) e not0 not6 = not6 (omega arith)
not_done v n (inr (inr (inl s))) e not0 not6 = not6 (omega arith)
not_done v n (inr (inr (inr s))) e not0 not6 = not6 (omega arith)

-- of a verdict on a job: at most 3, or 6 to 8
abbrev IsOfJob : ℕ → Type 0
IsOfJob status = (status ≤ 3) ⊎ ((6 ≤ status) × (status ≤ 8))

job_status : {devices : List DeviceData} (job : Asked) (a b : FilesSeen) (v : Verdict) → JobReason devices job a b v → IsOfJob v.status
job_status job a b v (cannot_read f h is) = let s : v.status ≡ 3 = ap (λ (u : Verdict). u.status) is in inl (omega arith)
job_status job a b v (refuses f why h is) = let s : v.status ≡ 1 = ap (λ (u : Verdict). u.status) is in inl (omega arith)
job_status job a b v (does cs all p) = by (done_status _ job cs v p) where
  by : IsDone v.status → IsOfJob v.status
  by (inl z) = inl (omega arith)
  by (inr (inl s)) = inr (omega arith, omega arith)
  by (inr (inr (inl s))) = inr (omega arith, omega arith)
  by (inr (inr (inr s))) = inr (omega arith, omega arith)

reason_status : {devices : List DeviceData} (words : List (List ℕ)) (a b : FilesSeen) (v : Verdict) → CommandReason devices words a b v → IsOfJob v.status
reason_status words a b v (no_job none is) = let s : v.status ≡ 2 = ap (λ (u : Verdict). u.status) is in inl (omega arith)
reason_status words a b v (of_job job at why) = job_status job a b v why

not_four_or_five : (v : Verdict) → IsOfJob v.status → 4 ≤ v.status → v.status ≤ 5 → ⊥
not_four_or_five v (inl few) low high = omega arith
not_four_or_five v (inr many) low high = let six = many.0 in omega arith

at_most_eight : (v : Verdict) → IsOfJob v.status → v.status ≤ 8
at_most_eight v (inl few) = omega arith
at_most_eight v (inr many) = many.1

-- ## by status

known_by : {devices : List DeviceData} (words : List (List ℕ)) (a b : FilesSeen) (w w' : SinkSeen) (v : Verdict) (r : ℕ) → CommandReason devices words a b v → Tells a b w w' v r → r ≤ 8
known_by words a b w w' v r g (whole is put text) = let most = at_most_eight v (reason_status words a b v g) in omega arith
known_by words a b w w' v r g (cut is rose put front) = omega arith
known_by words a b w w' v r g (spoiled is rose left same) = omega arith
known_by words a b w w' v r g (short s) = let is = s.status in omega arith

pub known : {devices : List DeviceData} (words : List (List ℕ)) (a b : FilesSeen) (w w' : SinkSeen) (r : ℕ) → Answers devices words a b w w' r → r ≤ 8
known words a b w w' r (inl s) = let is = s.status in omega arith
known words a b w w' r (inr h) = known_by words a b w w' h.0 r h.1 h.2

cut_by : {devices : List DeviceData} (words : List (List ℕ)) (a b : FilesSeen) (w w' : SinkSeen) (v : Verdict) (r : ℕ) → r ≡ 4 → CommandReason devices words a b v → Tells a b w w' v r → HasFront devices words a b w w'
cut_by words a b w w' v r e g (whole is put text) = absurd (not_four_or_five v (reason_status words a b v g) (omega arith) (omega arith))
cut_by words a b w w' v r e g (cut is rose put front) = record { verdict = v; reason = g; front = inl (rose, put, front) }
cut_by words a b w w' v r e g (spoiled is rose left same) = record { verdict = v; reason = g; front = inr (rose, left, same) }
cut_by words a b w w' v r e g (short s) = let is = s.status in absurd (omega arith)

pub was_cut : {devices : List DeviceData} (words : List (List ℕ)) (a b : FilesSeen) (w w' : SinkSeen) (r : ℕ) → Answers devices words a b w w' r → r ≡ 4 → HasFront devices words a b w w'
was_cut words a b w w' r (inl s) e = let is = s.status in absurd (omega arith)
was_cut words a b w w' r (inr h) e = cut_by words a b w w' h.0 r e h.1 h.2

abbrev Nothing : FilesSeen → FilesSeen → SinkSeen → SinkSeen → Type 0
Nothing a b w w' = (w'.written ≡ w.written) × (w'.faults ≡ w.faults) × (b.contents ≡ a.contents)

short_by : {devices : List DeviceData} (words : List (List ℕ)) (a b : FilesSeen) (w w' : SinkSeen) (v : Verdict) (r : ℕ) → r ≡ 5 → CommandReason devices words a b v → Tells a b w w' v r → Nothing a b w w'
short_by words a b w w' v r e g (whole is put text) = absurd (not_four_or_five v (reason_status words a b v g) (omega arith) (omega arith))
short_by words a b w w' v r e g (cut is rose put front) = absurd (omega arith)
short_by words a b w w' v r e g (spoiled is rose left same) = absurd (omega arith)
short_by words a b w w' v r e g (short s) = (s.written, s.faults, s.files)

pub was_short : {devices : List DeviceData} (words : List (List ℕ)) (a b : FilesSeen) (w w' : SinkSeen) (r : ℕ) → Answers devices words a b w w' r → r ≡ 5 → Nothing a b w w'
was_short words a b w w' r (inl s) e = (s.written, s.faults, s.files)
was_short words a b w w' r (inr h) e = short_by words a b w w' h.0 r e h.1 h.2

-- told whole, under another status than 4 and 5
record IsWhole (devices : List DeviceData) (words : List (List ℕ)) (a b : FilesSeen) (w w' : SinkSeen) (r : ℕ) : Type 0 where
  verdict : Verdict
  reason : CommandReason devices words a b verdict
  status : verdict.status ≡ r
  put : HasPut a.contents b.contents verdict.put
  text : Appends w.written w'.written verdict.text
  good : TellsGoodIn (job_in words) verdict r

whole_by : {devices : List DeviceData} (words : List (List ℕ)) (a b : FilesSeen) (w w' : SinkSeen) (v : Verdict) (r : ℕ) → (r ≡ 4 → ⊥) → (r ≡ 5 → ⊥) → CommandReason devices words a b v → TellsGoodIn (job_in words) v r → Tells a b w w' v r → IsWhole devices words a b w w' r
whole_by words a b w w' v r not4 not5 g good (whole is put text) = record { verdict = v; reason = g; status = sym is; put = put; text = text; good = good }
whole_by words a b w w' v r not4 not5 g good (cut is rose put front) = absurd (not4 is)
whole_by words a b w w' v r not4 not5 g good (spoiled is rose left same) = absurd (not4 is)
whole_by words a b w w' v r not4 not5 g good (short s) = absurd (not5 s.status)

seen_whole : {devices : List DeviceData} (words : List (List ℕ)) (a b : FilesSeen) (w w' : SinkSeen) (r : ℕ) → Answers devices words a b w w' r → (r ≡ 4 → ⊥) → (r ≡ 5 → ⊥) → IsWhole devices words a b w w' r
seen_whole words a b w w' r (inl s) not4 not5 = absurd (not5 s.status)
seen_whole words a b w w' r (inr h) not4 not5 = whole_by words a b w w' h.0 r not4 not5 h.1 h.3 h.2

same_text : (w w' : SinkSeen) (v u : Verdict) → v ≡ u → Appends w.written w'.written v.text → Appends w.written w'.written u.text
same_text w w' v u e t = let P : Verdict → Type 0 = λ x. Appends w.written w'.written x.text in subst P e t

refused_by : {devices : List DeviceData} (words : List (List ℕ)) (a b : FilesSeen) (w w' : SinkSeen) (v : Verdict) → v.status ≡ 1 → Appends w.written w'.written v.text → CommandReason devices words a b v → HasRefused devices words a.contents w w'
refused_by words a b w w' v e t (no_job none is) = let s : v.status ≡ 2 = ap (λ (u : Verdict). u.status) is in absurd (omega arith)
refused_by words a b w w' v e t (of_job job at (cannot_read f h is)) = let s : v.status ≡ 3 = ap (λ (u : Verdict). u.status) is in absurd (omega arith)
refused_by words a b w w' v e t (of_job job at (refuses f why h is)) =
    record { job = job; command = at; file = f; why = why; is = h; line = same_text w w' v (refused f.name why) is t }
refused_by words a b w w' v e t (of_job job at (does cs all p)) = absurd (not_done v 1 (done_status _ job cs v p) e (λ z. omega arith) (λ s. omega arith))

pub was_refused : {devices : List DeviceData} (words : List (List ℕ)) (a b : FilesSeen) (w w' : SinkSeen) (r : ℕ) → Answers devices words a b w w' r → r ≡ 1 → HasRefused devices words a.contents w w'
was_refused words a b w w' r h e =
    let t = seen_whole words a b w w' r h (λ is. omega arith) (λ is. omega arith) in
    refused_by words a b w w' t.verdict (t.status ∙ e) t.text t.reason

no_command_by : {devices : List DeviceData} (words : List (List ℕ)) (a b : FilesSeen) (w w' : SinkSeen) (v : Verdict) → v.status ≡ 2 → Appends w.written w'.written v.text → CommandReason devices words a b v
    → (is_accepted words ≡ false) × Appends w.written w'.written usage_line
no_command_by words a b w w' v e t (no_job none is) = (none, same_text w w' v usage is t)
no_command_by words a b w w' v e t (of_job job at (cannot_read f h is)) = let s : v.status ≡ 3 = ap (λ (u : Verdict). u.status) is in absurd (omega arith)
no_command_by words a b w w' v e t (of_job job at (refuses f why h is)) = let s : v.status ≡ 1 = ap (λ (u : Verdict). u.status) is in absurd (omega arith)
no_command_by words a b w w' v e t (of_job job at (does cs all p)) = absurd (not_done v 2 (done_status _ job cs v p) e (λ z. omega arith) (λ s. omega arith))

pub was_no_command : {devices : List DeviceData} (words : List (List ℕ)) (a b : FilesSeen) (w w' : SinkSeen) (r : ℕ) → Answers devices words a b w w' r → r ≡ 2 → (is_accepted words ≡ false) × Appends w.written w'.written usage_line
was_no_command words a b w w' r h e =
    let t = seen_whole words a b w w' r h (λ is. omega arith) (λ is. omega arith) in
    no_command_by words a b w w' t.verdict (t.status ∙ e) t.text t.reason

unread_by : {devices : List DeviceData} (words : List (List ℕ)) (a b : FilesSeen) (w w' : SinkSeen) (v : Verdict) → v.status ≡ 3 → Appends w.written w'.written v.text → CommandReason devices words a b v → HasUnread devices words a b w w'
unread_by words a b w w' v e t (no_job none is) = let s : v.status ≡ 2 = ap (λ (u : Verdict). u.status) is in absurd (omega arith)
unread_by words a b w w' v e t (of_job job at (cannot_read f h is)) =
    record { job = job; command = at; file = f; is = h; line = same_text w w' v (unread h.told f.name) is t }
unread_by words a b w w' v e t (of_job job at (refuses f why h is)) = let s : v.status ≡ 1 = ap (λ (u : Verdict). u.status) is in absurd (omega arith)
unread_by words a b w w' v e t (of_job job at (does cs all p)) = absurd (not_done v 3 (done_status _ job cs v p) e (λ z. omega arith) (λ s. omega arith))

pub was_unread : {devices : List DeviceData} (words : List (List ℕ)) (a b : FilesSeen) (w w' : SinkSeen) (r : ℕ) → Answers devices words a b w w' r → r ≡ 3 → HasUnread devices words a b w w'
was_unread words a b w w' r h e =
    let t = seen_whole words a b w w' r h (λ is. omega arith) (λ is. omega arith) in
    unread_by words a b w w' t.verdict (t.status ∙ e) t.text t.reason

-- the job was done
no_line_of_done : (v : Verdict) (r n : ℕ) → IsDone r → v.status ≡ r → v.status ≡ n → 1 ≤ n → n ≤ 3 → ⊥
no_line_of_done v r n (inl z) e is low high = omega arith
no_line_of_done v r n (inr (inl s)) e is low high = omega arith
no_line_of_done v r n (inr (inr (inl s))) e is low high = omega arith
no_line_of_done v r n (inr (inr (inr s))) e is low high = omega arith

done_by : {devices : List DeviceData} (words : List (List ℕ)) (a b : FilesSeen) (w w' : SinkSeen) (v : Verdict) (r : ℕ) → IsDone r → v.status ≡ r → HasPut a.contents b.contents v.put → Appends w.written w'.written v.text → TellsGoodIn (job_in words) v r → CommandReason devices words a b v
    → HasDone devices words a b w w' r
done_by words a b w w' v r done e put text good (no_job none is) = absurd (no_line_of_done v r 2 done e (status_as v usage is) (omega arith) (omega arith))
done_by words a b w w' v r done e put text good (of_job job at (cannot_read f h is)) = absurd (no_line_of_done v r 3 done e (status_as v _ is) (omega arith) (omega arith))
done_by words a b w w' v r done e put text good (of_job job at (refuses f why h is)) = absurd (no_line_of_done v r 1 done e (status_as v _ is) (omega arith) (omega arith))
done_by words a b w w' v r done e put text good (of_job job at (does cs all p)) = record {
  job = job;
  command = at;
  contents = cs;
  accepted = all;
  verdict = v;
  done = p;
  status = e;
  put = put;
  text = text;
  good = subst (λ (o : Option Asked). TellsGoodIn o v r) at good;
}

not_cut_or_short : (r n : ℕ) → IsDone r → 4 ≤ n → n ≤ 5 → r ≡ n → ⊥
not_cut_or_short r n (inl z) low high e = omega arith
not_cut_or_short r n (inr (inl s)) low high e = omega arith
not_cut_or_short r n (inr (inr (inl s))) low high e = omega arith
not_cut_or_short r n (inr (inr (inr s))) low high e = omega arith

pub was_done : {devices : List DeviceData} (words : List (List ℕ)) (a b : FilesSeen) (w w' : SinkSeen) (r : ℕ) → Answers devices words a b w w' r → IsDone r → HasDone devices words a b w w' r
was_done words a b w w' r h done =
    let t = seen_whole words a b w w' r h (not_cut_or_short r 4 done (omega arith) (omega arith)) (not_cut_or_short r 5 done (omega arith) (omega arith)) in
    done_by words a b w w' t.verdict r done t.status t.put t.text t.good t.reason

-- ## which file is changed, and when

-- a verdict that puts a file is of a job with an OUT, puts it there and has status 0
data Puts (words : List (List ℕ)) (v : Verdict) : Type 0 where
  puts_none : v.put ≡ None → Puts words v
  puts_out : (o bytes : List ℕ) → v.put ≡ Some (o, bytes) → out_of (job_in words) ≡ Some o → v.status ≡ 0 → Puts words v

put_as : (v u : Verdict) → v ≡ u → v.put ≡ u.put
put_as v u e = ap (λ (x : Verdict). x.put) e

alone : (words : List (List ℕ)) (v u : Verdict) → v ≡ u → u.put ≡ None → Puts words v
alone words v u e none = puts_none (put_as v u e ∙ none)

under : (words : List (List ℕ)) (v : Verdict) (out bytes line : List ℕ) → v ≡ record { status = 0; text = line; put = Some (out, bytes) } → out_of (job_in words) ≡ Some out → Puts words v
under words v out bytes line e is = puts_out out bytes (put_as v _ e) is (status_as v _ e)

done_puts : (devices : List DeviceData) (words : List (List ℕ)) (job : Asked) (cs : List (List ℕ)) (v : Verdict) → job_in words ≡ Some job → Does devices job cs v → Puts words v
done_puts devices words (build app out) cs v at p = under words v out _ _ p.2 (ap out_of at)
done_puts devices words (run image script steps detail) cs v at p = alone words v _ p refl
done_puts devices words (go app script steps detail) cs v at p = alone words v _ p.2 refl
done_puts devices words (list image) cs v at p = alone words v _ p refl
done_puts devices words (sample seed steps) cs v at p = alone words v _ p.2 refl
done_puts devices words (migrate image out) cs v at p = under words v out _ _ p (ap out_of at)
done_puts devices words (audit name) cs v at p = alone words v (audited p.0) p.2 (audited_alone p.0)
done_puts devices words (save image script out steps) cs v at p = under words v out _ _ p (ap out_of at)
done_puts devices words (resume image script state steps detail) cs v at p = alone words v _ p refl
done_puts devices words (debug image script name) cs v at p = alone words v _ p.2 refl
done_puts devices words (cover image script steps false) cs v at p = alone words v _ p.2 refl
done_puts devices words (cover app script steps true) cs v at p = alone words v _ p.2.2 refl
done_puts devices words (sweep image script arrival from to steps memory) cs v at p = alone words v _ p refl
done_puts devices words (timeline image script steps names) cs v at p = alone words v _ p refl
done_puts devices words (live image script commands) cs v at p = alone words v _ p refl
done_puts devices words (picture image script out steps names) cs v at p = under words v out _ _ p (ap out_of at)
done_puts devices words (lcov app script out steps) cs v at p = under words v out _ _ p.2 (ap out_of at)
done_puts devices words (help about) cs v at p = alone words v _ p refl

reason_puts : {devices : List DeviceData} (words : List (List ℕ)) (a b : FilesSeen) (v : Verdict) → CommandReason devices words a b v → Puts words v
reason_puts words a b v (no_job none is) = alone words v usage is refl
reason_puts words a b v (of_job job at (cannot_read f h is)) = alone words v _ is refl
reason_puts words a b v (of_job job at (refuses f why h is)) = alone words v _ is refl
reason_puts words a b v (of_job job at (does cs all p)) = done_puts _ words job cs v at p

put_elsewhere : (seen seen' : List ℕ → Option (List ℕ)) (words : List (List ℕ)) (v : Verdict) (name : List ℕ) → Puts words v → HasPut seen seen' v.put
    → out_of (job_in words) ≢ Some name → seen' name ≡ seen name
put_elsewhere seen seen' words v name (puts_none e) p not =
    let P : Option (List ℕ × List ℕ) → Type 0 = HasPut seen seen' in
    let same : seen' ≡ seen = subst P e p in
    ap (λ (t : List ℕ → Option (List ℕ)). t name) same
put_elsewhere seen seen' words v name (puts_out o bytes e out is) p not =
    let P : Option (List ℕ × List ℕ) → Type 0 = HasPut seen seen' in
    (subst P e p).1 name (λ same. not (out ∙ ap Some (sym same)))

spoiled_elsewhere : (seen seen' : List ℕ → Option (List ℕ)) (words : List (List ℕ)) (v : Verdict) (name : List ℕ) → Puts words v → HasSpoiled seen seen' v.put
    → out_of (job_in words) ≢ Some name → seen' name ≡ seen name
spoiled_elsewhere seen seen' words v name (puts_none e) p not =
    let P : Option (List ℕ × List ℕ) → Type 0 = HasSpoiled seen seen' in
    absurd (subst P e p)
spoiled_elsewhere seen seen' words v name (puts_out o bytes e out is) p not =
    let P : Option (List ℕ × List ℕ) → Type 0 = HasSpoiled seen seen' in
    (subst P e p).1 name (λ same. not (out ∙ ap Some (sym same)))

others_by : (words : List (List ℕ)) (a b : FilesSeen) (w w' : SinkSeen) (v : Verdict) (r : ℕ) (name : List ℕ) → Puts words v → Tells a b w w' v r
    → out_of (job_in words) ≢ Some name → b.contents name ≡ a.contents name
others_by words a b w w' v r name g (whole is put text) not = put_elsewhere a.contents b.contents words v name g put not
others_by words a b w w' v r name g (cut is rose put front) not = put_elsewhere a.contents b.contents words v name g put not
others_by words a b w w' v r name g (spoiled is rose left same) not = spoiled_elsewhere a.contents b.contents words v name g left not
others_by words a b w w' v r name g (short s) not = ap (λ (t : List ℕ → Option (List ℕ)). t name) s.files

pub others : {devices : List DeviceData} (words : List (List ℕ)) (a b : FilesSeen) (w w' : SinkSeen) (r : ℕ) (name : List ℕ) → Answers devices words a b w w' r → out_of (job_in words) ≢ Some name → b.contents name ≡ a.contents name
others words a b w w' r name (inl s) not = ap (λ (t : List ℕ → Option (List ℕ)). t name) s.files
others words a b w w' r name (inr h) not = others_by words a b w w' h.0 r name (reason_puts words a b h.0 h.1) h.2 not

put_none : (seen seen' : List ℕ → Option (List ℕ)) (words : List (List ℕ)) (v : Verdict) (r : ℕ) → r ≡ v.status → r ≢ 0 → Puts words v → HasPut seen seen' v.put → seen' ≡ seen
put_none seen seen' words v r is not (puts_none e) p =
    let P : Option (List ℕ × List ℕ) → Type 0 = HasPut seen seen' in
    subst P e p
put_none seen seen' words v r is not (puts_out o bytes e out z) p = absurd (not (is ∙ z))

kept_by : (words : List (List ℕ)) (a b : FilesSeen) (w w' : SinkSeen) (v : Verdict) (r : ℕ) → r ≢ 0 → r ≢ 4 → Puts words v → Tells a b w w' v r → b.contents ≡ a.contents
kept_by words a b w w' v r not0 not4 g (whole is put text) = put_none a.contents b.contents words v r is not0 g put
kept_by words a b w w' v r not0 not4 g (cut is rose put front) = absurd (not4 is)
kept_by words a b w w' v r not0 not4 g (spoiled is rose left same) = absurd (not4 is)
kept_by words a b w w' v r not0 not4 g (short s) = s.files

pub kept : {devices : List DeviceData} (words : List (List ℕ)) (a b : FilesSeen) (w w' : SinkSeen) (r : ℕ) → Answers devices words a b w w' r → r ≢ 0 → r ≢ 4 → b.contents ≡ a.contents
kept words a b w w' r (inl s) not0 not4 = s.files
kept words a b w w' r (inr h) not0 not4 = kept_by words a b w w' h.0 r not0 not4 (reason_puts words a b h.0 h.1) h.2

-- ## words that are not accepted

usage_said : (words : List (List ℕ)) (a : FilesSeen) (w w' : SinkSeen) (r : ℕ) → is_accepted words ≡ false → Pushed w w' usage r → Tells a a w w' usage r
usage_said words a w w' r none (seen.whole is text) = whole is refl text
usage_said words a w w' r none (seen.cut is rose front) = cut is rose refl front

pub answers_usage : {devices : List DeviceData} (words : List (List ℕ)) (a : FilesSeen) (w w' : SinkSeen) (r : ℕ) → is_accepted words ≡ false → Says w w' usage r → Answers devices words a a w w' r
answers_usage words a w w' r none (pushed p) =
    let nothing : job_in words ≡ None = ap (λ (b : Bool). cond b (job_of words) None) none in
    inr (usage, no_job none refl, usage_said words a w w' r none p, subst (λ (o : Option Asked). TellsGoodIn o usage r) (sym nothing) tt)
answers_usage words a w w' r none (silent s) = inl (record { status = s.status; written = s.written; faults = s.faults; files = refl })
