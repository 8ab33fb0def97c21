use Rattle.std.proofs.Common.{◌≡◌, ◌∙◌, ◌++◌, List, ℕ, codes, ap, sym, subst}
use Rattle.std.specs.Io.KnownBytes.{Appends}
use Rattle.outside_io.specs.Outside.{Pushes}
use Rattle.outside_io.proofs.Pushing.{appends_none}
use Rattle.debug_core.specs.declared.answer.Answer.{Answer}
use Rattle.debug_core.specs.Answers.{bytes_line, device_line, text_of}
use Rattle.debug_core.proofs.text.push_answer.Goals as goal
use Rattle.debug_core.proofs.text.push_answer.Goals.{in-Set, in-Full, in-Cleared, in-Absent, in-At, in-Hit, in-Changed, in-Irq, in-Device, in-Bytes}

pub returns-in-Over-clause-bytes : goal.returns-in-Over-clause-bytes
returns-in-Over-clause-bytes g c =
    let w = (g.S.Sink.seen c.args.out.now).written in
    subst (λ (answer : Answer). Appends w w (text_of answer)) (sym c.in-Over.is) (appends_none w)

pub returns-clause-bytes : goal.returns-clause-bytes
returns-clause-bytes g c =
    let line : c.match-answer.line.bytes ≡ text_of c.args.answer.now =
    elim c.match-answer.branch [
      | in-Set w ↦ ap (λ l. l.bytes) w.line-is ∙ w.address_line.ensures ∙ sym (ap text_of w.in-Set.is)
      | in-Full w ↦ ap (λ l. l.bytes) w.line-is ∙ w.push_str.ensures.bytes ∙ ap (λ (t : List ℕ). t ++ codes "full\n") c.new-line.ensures ∙ sym (ap text_of w.in-Full.is)
      | in-Cleared w ↦ ap (λ l. l.bytes) w.line-is ∙ w.address_line-in-Cleared.ensures ∙ sym (ap text_of w.in-Cleared.is)
      | in-Absent w ↦ ap (λ l. l.bytes) w.line-is ∙ w.push_str-in-Absent.ensures.bytes ∙ ap (λ (t : List ℕ). t ++ codes "none\n") c.new-line.ensures ∙ sym (ap text_of w.in-Absent.is)
      | in-At w ↦ ap (λ l. l.bytes) w.line-is ∙ w.at_line.ensures ∙ sym (ap text_of w.in-At.is)
      | in-Hit w ↦ ap (λ l. l.bytes) w.line-is ∙ w.hit_line.ensures ∙ sym (ap text_of w.in-Hit.is)
      | in-Changed w ↦ ap (λ l. l.bytes) w.line-is ∙ w.change_line.ensures ∙ sym (ap text_of w.in-Changed.is)
      | in-Irq w ↦ ap (λ l. l.bytes) w.line-is ∙ w.irq_line.ensures ∙ sym (ap text_of w.in-Irq.is)
      | in-Device w ↦ ap (λ l. l.bytes) w.line-is ∙ w.device_line.ensures ∙ ap (device_line w.in-Device.device w.in-Device.kind w.in-Device.base w.in-Device.count) w.as_slice.ensures.value ∙ sym (ap text_of w.in-Device.is)
      | in-Bytes w ↦ ap (λ l. l.bytes) w.line-is ∙ w.bytes_line.ensures ∙ ap (bytes_line w.in-Bytes.at) w.as_slice-in-Bytes.ensures.value ∙ sym (ap text_of w.in-Bytes.is)
    ] in
    subst (λ (t : List ℕ). Pushes (g.S.Sink.seen c.args.out.now).written (g.S.Sink.seen c.push.new.self).written t c.push.result)
    (c.as_bytes.ensures.value ∙ c.as_str.ensures.value ∙ line) c.push.ensures.bytes
