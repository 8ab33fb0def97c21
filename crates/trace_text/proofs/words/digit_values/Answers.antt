use Rattle.trace_text.proofs.Lanes.{turned_are_values}
use Rattle.trace_text.proofs.words.digit_values.Goals as goal

pub returns : goal.returns
returns c = turned_are_values c.args.numbers c.fits-numbers.0 c.fits-numbers.1
