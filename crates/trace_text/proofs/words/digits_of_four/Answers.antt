use Rattle.trace_text.proofs.Lanes.{four_in_table, four_looked_up}
use Rattle.trace_text.proofs.words.digits_of_four.Goals as goal

pub swizzle : goal.swizzle
swizzle c = rw c.digit_values.ensures (four_in_table c.args.numbers c.fits-numbers.0)

pub returns : goal.returns
returns c = rw c.digit_values.ensures (four_looked_up c.args.numbers c.fits-numbers.0)
