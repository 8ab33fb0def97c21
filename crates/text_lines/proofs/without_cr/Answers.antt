use Rattle.std.proofs.Common.{◌≡◌, ◌-◌, length, get_or, arith, sym, rules, subst}
use Rattle.text_lines.proofs.Ends.{without_cr_at, without_cr_none}
use Rattle.text_lines.proofs.without_cr.Goals as goal
use Rattle.text_lines.proofs.without_cr.Goals.{else-n-gt0-via-then-n-gt0+else-piece-n-eq13, else-n-gt0-via-else-n-gt0}

pub returns-then-piece-n-eq13 : goal.returns-then-piece-n-eq13
returns-then-piece-n-eq13 c = sym (without_cr_at c.args.piece.now (length c.args.piece.now - 1) (omega arith) (search rules))

pub returns-else-n-gt0 : goal.returns-else-n-gt0
returns-else-n-gt0 c = sym (without_cr_none c.args.piece.now (λ j e q.
    elim c.else-n-gt0.branch [
      | else-n-gt0-via-then-n-gt0+else-piece-n-eq13 w ↦ (let same : j ≡ length c.args.piece.now - 1 = omega arith in w.if-piece-n-eq13.false (subst (λ i. get_or c.args.piece.now i 0 ≡ 13) same q))
      | else-n-gt0-via-else-n-gt0 w ↦ omega arith
    ]))
