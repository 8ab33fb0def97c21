use Rattle.std.proofs.Common.{◌∙◌, ap, sym, arith}
use Rattle.sample_gen.specs.Sources.{server_lines, text_of}
use Rattle.sample_gen.proofs.Drawn.{drawn, one_draw, one_draw_next, source_server}
use Rattle.sample_gen.proofs.tasks.task_and_source.Goals as goal

pub returns-then-i-lt8-clause-next : goal.returns-then-i-lt8-clause-next
returns-then-i-lt8-clause-next c = λ seed h. one_draw_next seed c.args.i c.args.numbers.now.last c.draw-offset.new.self.last (omega arith) (omega arith) h c.draw-offset.ensures.next

pub returns-then-i-lt8-clause-source : goal.returns-then-i-lt8-clause-source
returns-then-i-lt8-clause-source c = λ seed h.
    let n = one_draw seed c.args.i c.args.numbers.now.last c.draw-offset.new.self.last (omega arith) (omega arith) h c.draw-offset.ensures.next in
    c.in_ok-server_source.ensures
    ∙ ap (λ k. text_of (server_lines k)) (drawn seed c.draw-offset.new.self.last c.args.i 40 c.draw-offset.result n c.draw-offset.ensures.drawn)
    ∙ sym (source_server seed c.args.i (omega arith) (omega arith))
