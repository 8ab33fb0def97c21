use Rattle.std.proofs.Common.{◌∙◌, ◌++◌, rules, subst}
use Rattle.std.specs.Io.KnownBytes.{Appends}
use Rattle.outside_io.specs.Outside.{AppendsFront}
use Rattle.board_core.specs.Data.{boxed}
use Rattle.debug_core.specs.Sessions.{IsSession}
use Rattle.debug_core.specs.Live.{after_lines}
use Rattle.debug_core.proofs.Telling.{amid_after, amid_all, amid_last, amid_last_fails, rest_after, rest_enough, rest_same}
use Rattle.debug_core.proofs.debugger.Debugger.carry_out_live.Goals as goal

pub returns-in_err-take_pieces-clause-failed : goal.returns-in_err-take_pieces-clause-failed
returns-in_err-take_pieces-clause-failed g c = λ x s h e. c.in_err-take_pieces.ensures.failed x s h (search rules)

pub take_line-requires : goal.take_line-requires
take_line-requires g c =
    let r = c.requires in
    let a = c.in_ok-take_pieces.ensures.amid r.0 r.1 r.2 in
    (r.0, after_lines r.0 r.1 a.amid.lines, a.amid.at)

pub returns-in-Err-clause-failed : goal.returns-in-Err-clause-failed
returns-in-Err-clause-failed g c = λ x s h e.
    let a = c.in_ok-take_pieces.ensures.amid x s h in
    record {
      bytes = a.text ++ a.rest;
      taken = a.taken;
      told = subst (AppendsFront (g.S.Sink.seen c.args.out.now).written (g.S.Sink.seen c.take_line.new.out).written) (rest_same _ x s a.text _ _ _ _ a.amid a.rest a.all) (amid_last_fails _ x s a.text _ _ _ _ a.amid _ (c.in-Err.ensures.told x (after_lines x s a.amid.lines) a.amid.behind (record { at = a.amid.at; begun = a.amid.begun; one = amid_last _ x s a.text _ _ _ _ a.amid })));
    }

pub returns-in-Ok-clause-told : goal.returns-in-Ok-clause-told
returns-in-Ok-clause-told g c = λ x s h.
    let a = c.in_ok-take_pieces.ensures.amid x s h in
    record {
      bytes = a.text ++ a.rest;
      taken = a.taken;
      read = a.text;
      enough = rest_enough _ x s a.text _ _ _ _ a.amid a.rest a.all;
      given = a.given;
      told = subst (Appends (g.S.Sink.seen c.args.out.now).written (g.S.Sink.seen c.take_line.new.out).written) (rest_same _ x s a.text _ _ _ _ a.amid a.rest a.all) (amid_all _ x s a.text _ _ _ _ a.amid _ (c.in-Ok.ensures.told x (after_lines x s a.amid.lines) a.amid.behind (record { at = a.amid.at; begun = a.amid.begun; one = amid_last _ x s a.text _ _ _ _ a.amid })));
    }

pub returns-in-Ok-clause-session : goal.returns-in-Ok-clause-session
returns-in-Ok-clause-session g c = λ x s h.
    let shown = boxed (λ p. (goal.Device-dyn g p).shown p.1) in
    let a = c.in_ok-take_pieces.ensures.amid x s h in
    let last = c.in-Ok.ensures.session x (after_lines x s a.amid.lines) a.amid.behind (record { at = a.amid.at; begun = a.amid.begun; one = amid_last _ x s a.text _ _ _ _ a.amid }) in
    (a.text ++ a.rest, a.taken, subst (IsSession shown x c.take_line.new.self) (amid_after _ x s a.text _ _ _ _ a.amid ∙ rest_after _ x s a.text _ _ _ _ a.amid a.rest a.all) last)
