use Rattle.text_lines.proofs.Ends.{lines_lf, lines_last, lines_nil}
use Rattle.text_lines.proofs.lines_end_at_line_feeds.Goals as goal

pub returns : goal.returns
returns c = record { first = lines_lf; last = lines_last; none = lines_nil }
