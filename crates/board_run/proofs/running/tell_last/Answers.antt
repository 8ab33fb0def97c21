use Rattle.std.proofs.Common.{ℕ, ◌-◌, List, [], subst}
use Rattle.std.proofs.lemmas.List.{append-nil}
use Rattle.std.proofs.lemmas.Result.{err_from_is_err_and}
use Rattle.kernel_abi.specs.declared.Note.{Note}
use Rattle.board_model.specs.Run.{at_turn}
use Rattle.board_core.specs.Stands.{notes_of, turns_of}
use Rattle.board_run.proofs.running.tell_last.Goals as goal

-- the notes were told, and passing them on told nothing more
pub returns-then-turns-due-clause-told : goal.returns-then-turns-due-clause-told
returns-then-turns-due-clause-told g c =
    let told = rw (c.turns-turns.ensures, c.notes-notes.ensures) at c.in_ok-tell.ensures in
    let notes : List (ℕ × Note) = at_turn (turns_of c.args.board.now - 1) (notes_of c.args.board.now) in
    subst (λ (ns : List (ℕ × Note)). g.T.Observer.heard c.args.observer.now ns c.pass_on.new.self) (append-nil notes)
    (c.hears_in_parts.ensures.parts _ _ _ notes [] told c.in_ok-pass_on.ensures)

pub returns-in_err-pass_on-clause-told : goal.returns-in_err-pass_on-clause-told
returns-in_err-pass_on-clause-told g c =
    let p = err_from_is_err_and c.from_residual-in_err-pass_on.result c.from_residual-in_err-pass_on.ensures.1 in
    let told = rw (c.turns-turns.ensures, c.notes-notes.ensures) at c.in_ok-tell.ensures in
    let notes : List (ℕ × Note) = at_turn (turns_of c.args.board.now - 1) (notes_of c.args.board.now) in
    rw (p.1) (subst (λ (ns : List (ℕ × Note)). g.T.Observer.broke c.args.observer.now ns c.pass_on.new.self) (append-nil notes)
    (c.hears_in_parts.ensures.fails _ _ _ notes [] told c.in_err-pass_on.ensures))
