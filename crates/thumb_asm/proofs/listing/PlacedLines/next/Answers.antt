use Rattle.std.proofs.Common.{rules, ◌≡◌, []}
use Rattle.text_lines.specs.Text.{lines_of}
use Rattle.thumb_asm.specs.Listed.{lines_left}
use Rattle.thumb_asm.proofs.Placing.{left_stops}
use Rattle.thumb_asm.proofs.listing.PlacedLines.next.Goals as goal

pub returns-in_err-size-clause-line : goal.returns-in_err-size-clause-line
returns-in_err-size-clause-line c =
    let p = c.args.self.now in
    let none : lines_left p ≡ [] = left_stops p.base p.used _ (lines_of p.lines.rest.now) (lines_of c.next.new.self.rest.now) c.in_ok-text.text.now c.in_ok-text.ensures.line c.in_err-size.ensures.value in
    search rules
