use Rattle.std.proofs.Common.{◌≡◌, drop, false, length}
use Rattle.run_script.specs.Quotes.{bytes_to_quote}
use Rattle.run_script.proofs.Quoting.{behind}
use Rattle.run_script.proofs.quotes.bytes_of.Given as goal

abbrev pub invariant-bytes : goal.invariant-bytes
invariant-bytes l = bytes_to_quote false (drop 1 l.text) ≡ behind l.bytes.items (bytes_to_quote false l.rest)

abbrev pub decreases-bytes : goal.decreases-bytes
decreases-bytes l = length l.rest
