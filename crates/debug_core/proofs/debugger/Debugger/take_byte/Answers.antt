use Rattle.std.proofs.Common.{List, ℕ, [], ◌∷◌, ◌++◌, sym, subst}
use Rattle.std.specs.Prelude.{OnErr, OnOk}
use Rattle.outside_io.specs.Outside.{AppendsFront}
use Rattle.board_core.specs.Data.{boxed}
use Rattle.debug_core.specs.Live.{after_lines, live_text}
use Rattle.debug_core.specs.UnderWay.{IsAmid, IsAtLine, IsUnderWay}
use Rattle.debug_core.proofs.Telling.{amid_ended, amid_fails, amid_lf, amid_more, when_err, when_ok}
use Rattle.debug_core.proofs.debugger.Debugger.take_byte.Goals as goal

pub returns-then-byte-eq10-clause-amid : goal.returns-then-byte-eq10-clause-amid
returns-then-byte-eq10-clause-amid g c = λ x s text old h.
    let shown = boxed (λ p. (goal.Device-dyn g p).shown p.1) in
    let is = c.if-byte-eq10.true in
    let here = after_lines x s h.lines in
    let line = h.behind ++ 10 ∷ [] in
    let one = amid_ended _ x s text old _ _ _ h in
    let kept : IsUnderWay c.push.new.self line = subst (λ (b : ℕ). IsUnderWay c.push.new.self (h.behind ++ b ∷ [])) is (c.push.ensures h.behind h.begun) in
    let before : IsAtLine shown x here line c.args.self.now c.push.new.self = record { at = h.at; begun = kept; one = one } in
    let at = c.take_line.ensures.session x here line before in
    subst (λ (b : ℕ). OnOk c.take_line.result (IsAmid shown x s (text ++ b ∷ []) old (g.S.Sink.seen c.take_line.new.out).written c.take_line.new.self c.take_line.new.under_way)) (sym is)
    (when_ok _ _ (live_text x here line) _ c.take_line.result (c.take_line.ensures.told x here line before)
    (λ told. amid_lf _ x s text old _ _ _ h _ _ _ told at c.take_line.ensures.next))

pub returns-then-byte-eq10-clause-failed : goal.returns-then-byte-eq10-clause-failed
returns-then-byte-eq10-clause-failed g c = λ x s text old h.
    let is = c.if-byte-eq10.true in
    let here = after_lines x s h.lines in
    let line = h.behind ++ 10 ∷ [] in
    let one = amid_ended _ x s text old _ _ _ h in
    let kept : IsUnderWay c.push.new.self line = subst (λ (b : ℕ). IsUnderWay c.push.new.self (h.behind ++ b ∷ [])) is (c.push.ensures h.behind h.begun) in
    subst (λ (b : ℕ). OnErr c.take_line.result ((rest : List ℕ) → AppendsFront old (g.S.Sink.seen c.take_line.new.out).written (live_text x s ((text ++ b ∷ []) ++ rest)))) (sym is)
    (when_err _ _ (live_text x here line) _ c.take_line.result (c.take_line.ensures.told x here line (record { at = h.at; begun = kept; one = one }))
    (λ failed. amid_fails _ x s text old _ _ _ h _ failed))

pub returns-else-byte-eq10-clause-amid : goal.returns-else-byte-eq10-clause-amid
returns-else-byte-eq10-clause-amid g c = λ x s text old h.
    amid_more _ x s text old _ _ _ h c.args.byte _ c.if-byte-eq10.false (c.push.ensures h.behind h.begun)
