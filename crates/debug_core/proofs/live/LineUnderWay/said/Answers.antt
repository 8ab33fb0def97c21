use Rattle.std.proofs.Common.{◌∙◌, List, ℕ, sym, ap, arith}
use Rattle.text_lines.specs.Text.{lines_of}
use Rattle.debug_core.specs.UnderWay.{first_said}
use Rattle.debug_core.proofs.Cutting.{said_by_front}
use Rattle.debug_core.proofs.Ranges.{live_few}
use Rattle.debug_core.proofs.live.LineUnderWay.said.Goals as goal

pub returns-in-None-clause-said : goal.returns-in-None-clause-said
returns-in-None-clause-said c = λ bytes h one.
    ap first_said (sym c.in-None.ensures.end)
    ∙ ap (λ (t : List ℕ). first_said (lines_of t)) (c.of-lines.ensures ∙ c.as_slice.ensures.value ∙ h) ∙ said_by_front 1026 bytes (omega arith) one

pub returns-in-Some-clause-said : goal.returns-in-Some-clause-said
returns-in-Some-clause-said c = λ bytes h one.
    c.live_said.ensures ∙ ap first_said (sym c.in-Some.ensures.line)
    ∙ ap (λ (t : List ℕ). first_said (lines_of t)) (c.of-lines.ensures ∙ c.as_slice.ensures.value ∙ h) ∙ said_by_front 1026 bytes (omega arith) one

pub returns-in-Some-clause-few : goal.returns-in-Some-clause-few
returns-in-Some-clause-few c = λ command e. live_few c.in-Some.line.now command (sym c.live_said.ensures ∙ e)
