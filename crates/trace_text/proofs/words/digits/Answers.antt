use Rattle.std.proofs.Common.{◌++◌, List, ℕ, refl, sym, subst}
use Rattle.std.specs.List.{range_with_len}
use Rattle.std.specs.Str.{IsAscii}
use lib.Lanes.{pick_l}
use Rattle.trace_text.specs.Text.{hex}
use Rattle.trace_text.proofs.Lanes.{hex_ascii}
use Rattle.trace_text.proofs.words.digits.Goals as goal

pub returns-clause-bytes : goal.returns-clause-bytes
unfolding hex
returns-clause-bytes c = rw c.digits_of_four.ensures refl

pub returns-clause-ascii : goal.returns-clause-ascii
unfolding hex
returns-clause-ascii c =
    let P : List ℕ → Type 0 = λ d. IsAscii (pick_l 0 (d ++ d) (range_with_len 0 8)) in
    subst P (sym c.digits_of_four.ensures) (hex_ascii c.args.n)
