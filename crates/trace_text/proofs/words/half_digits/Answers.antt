use Rattle.std.proofs.Common.{◌++◌, List, ℕ, refl, sym, subst}
use Rattle.std.specs.List.{range_with_len}
use Rattle.std.specs.Str.{IsAscii}
use lib.Lanes.{pick_l}
use Rattle.trace_text.specs.Text.{hex, half_hex}
use Rattle.trace_text.proofs.Lanes.{half_ascii}
use Rattle.trace_text.proofs.words.half_digits.Goals as goal

pub returns-clause-bytes : goal.returns-clause-bytes
unfolding hex half_hex
returns-clause-bytes c = rw c.digits_of_four.ensures refl

pub returns-clause-ascii : goal.returns-clause-ascii
unfolding hex half_hex
returns-clause-ascii c =
    let P : List ℕ → Type 0 = λ d. IsAscii (pick_l 0 (d ++ d) (range_with_len 4 4)) in
    subst P (sym c.digits_of_four.ensures) (half_ascii c.args.n)
