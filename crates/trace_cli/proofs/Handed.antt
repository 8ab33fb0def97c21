-- What is said of a list that holds no device.
use Rattle.std.proofs.Common.{◌≡◌, ℕ, List, [], Option, sym, subst}
use Rattle.kernel_abi.specs.Devices.{DeviceData}
use Rattle.command_line.specs.CommandLine.{Asked}
use Rattle.outside_io.specs.Seen.{FilesSeen, SinkSeen}
use Rattle.command_files.specs.Verdict.{Verdict}
use Rattle.trace_cli.specs.Verdict.{IsVerdict}
use Rattle.trace_cli.specs.Answer.{Answered, TellsEach, GoesOn, HasFront, HasDone, HasRefused, HasUnread}

-- what is said of these devices is said of none
module _ (devices : List DeviceData) (none : devices ≡ []) where
  pub verdict_of_none : (words : List (List ℕ)) (seen : List ℕ → Option (List ℕ)) (v : Verdict) → IsVerdict [] words seen v → IsVerdict devices words seen v
  verdict_of_none words seen v h = subst (λ (ds : List DeviceData). IsVerdict ds words seen v) (sym none) h

  pub answered_without : (words : List (List ℕ)) (a b : FilesSeen) (w w' : SinkSeen) (v : Verdict) (r : ℕ) → Answered devices words a b w w' v r → Answered [] words a b w w' v r
  answered_without words a b w w' v r h = subst (λ (ds : List DeviceData). Answered ds words a b w w' v r) none h

  pub front_without : (words : List (List ℕ)) (a b : FilesSeen) (w w' : SinkSeen) → HasFront devices words a b w w' → HasFront [] words a b w w'
  front_without words a b w w' h = subst (λ (ds : List DeviceData). HasFront ds words a b w w') none h

  pub refused_without : (words : List (List ℕ)) (seen : List ℕ → Option (List ℕ)) (w w' : SinkSeen) → HasRefused devices words seen w w' → HasRefused [] words seen w w'
  refused_without words seen w w' h = subst (λ (ds : List DeviceData). HasRefused ds words seen w w') none h

  pub unread_without : (words : List (List ℕ)) (a b : FilesSeen) (w w' : SinkSeen) → HasUnread devices words a b w w' → HasUnread [] words a b w w'
  unread_without words a b w w' h = subst (λ (ds : List DeviceData). HasUnread ds words a b w w') none h

  pub done_without : (words : List (List ℕ)) (a b : FilesSeen) (w w' : SinkSeen) (r : ℕ) → HasDone devices words a b w w' r → HasDone [] words a b w w' r
  done_without words a b w w' r h = subst (λ (ds : List DeviceData). HasDone ds words a b w w' r) none h

  pub each_without : (job : Asked) (a b : FilesSeen) (w w' : SinkSeen) (r : ℕ) → TellsEach devices job a b w w' r → TellsEach [] job a b w w' r
  each_without job a b w w' r h = subst (λ (ds : List DeviceData). TellsEach ds job a b w w' r) none h

  pub on_without : (words : List (List ℕ)) (a b : FilesSeen) (w w' : SinkSeen) (r : ℕ) → GoesOn devices words a b w w' r → GoesOn [] words a b w w' r
  on_without words a b w w' r h = subst (λ (ds : List DeviceData). GoesOn ds words a b w w' r) none h
