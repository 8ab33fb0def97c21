-- What is told from each state, where the words ask for `resume`.
use Rattle.std.proofs.Common.{◌≡◌, ℕ, List, Some, sym, ap, subst, ◌∙◌, cond, Bool, true, None}
use Rattle.std.proofs.lemmas.Option.{same_Some}
use Rattle.kernel_abi.specs.Devices.{DeviceData}
use Rattle.command_line.specs.CommandLine.{Asked, is_accepted, job_of}
use Rattle.outside_io.specs.Seen.{FilesSeen, SinkSeen}
use Rattle.trace_cli.specs.Words.{job_in}
use Rattle.trace_cli.specs.Answer.{TellsEach}

-- where the words ask for the job
pub each_of_words : (devices : List DeviceData) (words : List (List ℕ)) (job : Asked) (a b : FilesSeen) (w w' : SinkSeen) (r : ℕ) → is_accepted words ≡ true → job_of words ≡ Some job → TellsEach devices job a b w w' r
    → (j : Asked) → job_in words ≡ Some j → TellsEach devices j a b w w' r
each_of_words devices words job a b w w' r accepted is h = λ j at.
    let in_words : job_in words ≡ Some job = ap (λ (t : Bool). cond t (job_of words) None) accepted ∙ is in
    subst (λ (k : Asked). TellsEach devices k a b w w' r) (same_Some job j (sym in_words ∙ at)) h
