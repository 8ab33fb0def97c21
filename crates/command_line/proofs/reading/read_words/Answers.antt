use Rattle.std.proofs.Common.{◌∙◌, ap, map, subst, string_bytes}
use Rattle.std.specs.Prelude.{option_and_then, is_some}
use Rattle.std.proofs.lemmas.Bool.{and_from, and_right}
use Rattle.clap.specs.Words.{found_of, rows_of}
use Rattle.command_line.specs.CommandLine.{asked_by}
use Rattle.command_line.specs.Required.{IsWhole}
use Rattle.command_line.proofs.Accepting.{named, not_accepted, unrefused, unnamed}
use Rattle.command_line.proofs.Whole.{whole}
use Rattle.command_line.proofs.reading.read_words.Goals as goal

pub returns-in-Err-try_get_matches_from-clause-refused :
    goal.returns-in-Err-try_get_matches_from-clause-refused
returns-in-Err-try_get_matches_from-clause-refused c = λ said.
    not_accepted _ _ c.in-Err-try_get_matches_from.error c.in-Ok.ensures.shape c.in-Err-try_get_matches_from.ensures.kinds (λ m. c.refusal_by.ensures said (c.kind.ensures ∙ m))

pub returns-in-Some-job_by-clause-job : goal.returns-in-Some-job_by-clause-job
returns-in-Some-job_by-clause-job c =
    let words = map string_bytes c.args.words.now in
    let is = named _ words c.in-Ok-try_get_matches_from.matches c.in-Some.name.now (rows_of (found_of c.in-Some.inner.now)) c.in-Ok.ensures.shape
    c.in-Ok-try_get_matches_from.ensures.matches c.in-Some.ensures.name c.in-Some.ensures.rows in
    let all = subst IsWhole is (whole words (unrefused _ words c.in-Ok.ensures.shape c.in-Ok-try_get_matches_from.ensures.kinds)) in
    let job = c.job_by.ensures.job all in
    ap (option_and_then (λ p. asked_by p.0 p.1)) is ∙ (rw c.in-Some-job_by.is at job)

pub returns-in-Some-job_by-clause-accepted : goal.returns-in-Some-job_by-clause-accepted
returns-in-Some-job_by-clause-accepted c =
    let words = map string_bytes c.args.words.now in
    and_from _ _ (unrefused _ words c.in-Ok.ensures.shape c.in-Ok-try_get_matches_from.ensures.kinds) (ap is_some (returns-in-Some-job_by-clause-job c))

pub returns-in-Some-job_by-clause-few : goal.returns-in-Some-job_by-clause-few
returns-in-Some-job_by-clause-few c =
    let words = map string_bytes c.args.words.now in
    let is = named _ words c.in-Ok-try_get_matches_from.matches c.in-Some.name.now (rows_of (found_of c.in-Some.inner.now)) c.in-Ok.ensures.shape
    c.in-Ok-try_get_matches_from.ensures.matches c.in-Some.ensures.name c.in-Some.ensures.rows in
    let all = subst IsWhole is (whole words (unrefused _ words c.in-Ok.ensures.shape c.in-Ok-try_get_matches_from.ensures.kinds)) in
    let few = c.job_by.ensures.few all in
    rw c.in-Some-job_by.is at few

pub returns-in-Some-clause-refused : goal.returns-in-Some-clause-refused
returns-in-Some-clause-refused c = λ _.
    let words = map string_bytes c.args.words.now in
    let is = named _ words c.in-Ok-try_get_matches_from.matches c.in-Some.name.now (rows_of (found_of c.in-Some.inner.now)) c.in-Ok.ensures.shape
    c.in-Ok-try_get_matches_from.ensures.matches c.in-Some.ensures.name c.in-Some.ensures.rows in
    let all = subst IsWhole is (whole words (unrefused _ words c.in-Ok.ensures.shape c.in-Ok-try_get_matches_from.ensures.kinds)) in
    let job = c.job_by.ensures.job all in
    and_right _ _ (ap is_some (ap (option_and_then (λ p. asked_by p.0 p.1)) is ∙ (rw c.in-None-job_by.is at job)))

pub returns-clause-refused : goal.returns-clause-refused
returns-clause-refused c = λ _.
    let words = map string_bytes c.args.words.now in
    let none = unnamed _ words c.in-Ok-try_get_matches_from.matches c.in-Ok.ensures.shape c.in-Ok-try_get_matches_from.ensures.matches c.in-None.ensures.rows in
    absurd (subst IsWhole none (whole words (unrefused _ words c.in-Ok.ensures.shape c.in-Ok-try_get_matches_from.ensures.kinds)))
