use Rattle.std.proofs.Common.{◌≡◌, ◌+◌, ◌∙◌, ap, sym, arith, length, subst, List, ℕ, Ok}
use Rattle.text_lines.specs.Text.{lines_of}
use Rattle.debug_core.specs.declared.command.Command.{Command}
use Rattle.debug_core.specs.Lines.{Said}
use Rattle.debug_core.specs.Reading.{Refuses, commands_or_fault, with_lines, with_said}
use Rattle.debug_core.proofs.Walk.{no_line, goes_on, stops_at}
use Rattle.debug_core.proofs.commands.commands_of.Goals as goal

pub lines-init : goal.lines-init
lines-init c = record {
  same = sym (ap (λ (commands : List Command). with_lines commands 1 (lines_of c.of-lines.result.rest.now)) c.new-commands.ensures.items
      ∙ ap (λ (t : List ℕ). commands_or_fault t) c.of-lines.ensures);
  few = omega (arith, ap length c.of-lines.ensures);
}

pub lines-preserved : goal.lines-preserved
lines-preserved c =
    let said = subst (λ (s : Said). with_said c.lines.commands.items s ≡ Ok c.take.new.commands.items) c.said.ensures c.in-Ok.ensures.ok in
    record {
      same = c.lines.invariant.same ∙ goes_on c.lines.commands.items c.take.new.commands.items (c.lines.number + 1) c.in-Some.line.now (lines_of c.next.new.self.rest.now) (lines_of c.lines.lines.rest.now) c.in-Some.ensures.line said;
      few = omega (arith, c.lines.invariant.few, c.in-Some.ensures.shorter);
    }

pub returns-clause-ok : goal.returns-clause-ok
returns-clause-ok c = c.lines.invariant.same ∙ ap (with_lines c.lines.commands.items (c.lines.number + 1)) c.in_default.ensures.end ∙ no_line c.lines.commands.items (c.lines.number + 1)

pub returns-in-Err-clause-refused : goal.returns-in-Err-clause-refused
returns-in-Err-clause-refused c =
    let said = subst (λ (s : Said). Refuses c.in-Err.fault (c.lines.number + 1) (with_said c.lines.commands.items s)) c.said.ensures c.in-Err.ensures.err in
    stops_at c.lines.commands.items (c.lines.number + 1) c.in-Some.line.now (lines_of c.next.new.self.rest.now) (lines_of c.lines.lines.rest.now) (commands_or_fault c.args.bytes.now) c.in-Err.fault c.lines.invariant.same c.in-Some.ensures.line said
