use Rattle.trace_text.proofs.Lanes.{two_are_spaced}
use Rattle.trace_text.proofs.words.spaced_eight.Goals as goal

pub returns : goal.returns
returns c =
    rw (c.copy_from_slice.ensures.after, c.copy_from_slice-2.ensures.after, c.spaced_four.ensures.bytes, c.spaced_four-2.ensures.bytes) (two_are_spaced c.args.numbers.now c.told-numbers)
