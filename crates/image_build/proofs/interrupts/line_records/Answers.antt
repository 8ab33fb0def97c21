use Rattle.std.proofs.Common.{◌∙◌, ◌==◌, ◌++◌, List, ap, arith, filter, map}
use Rattle.app_toml.specs.Apps.{InterruptData}
use Rattle.app_toml.specs.Held.{app_of}
use Rattle.image_format.specs.ImageData.{line_record}
use Rattle.image_build.specs.Built.{line_built, lines_at}
use Rattle.image_build.proofs.Finding.{lines_end, lines_more, owned_in}
use Rattle.image_build.proofs.interrupts.line_records.Goals as goal

pub push_line-requires : goal.push_line-requires
push_line-requires c = λ k d lt. owned_in (app_of c.args.app.now) _ c.facts.ensures c.interrupts-interrupts.ensures k d lt

pub loop-line-preserved : goal.loop-line-preserved
loop-line-preserved c =
    let app = app_of c.args.app.now in
    let line = c.loop-line.line in
    lines_more (lines_at app) _ _ _ line c.loop-line-test.true
    (c.in_ok-push_line.ensures ∙ ap (λ (is : List InterruptData). c.loop-line.out.items ++ map line_record (map (line_built app) (filter (λ i. i.line == line) is))) c.interrupts-interrupts.ensures)
    c.loop-line.invariant

pub returns : goal.returns
returns c = lines_end (lines_at (app_of c.args.app.now)) _ _ c.loop-line.line (omega arith) c.loop-line.invariant
