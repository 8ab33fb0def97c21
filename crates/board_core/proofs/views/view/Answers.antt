use Rattle.std.proofs.Common.{List, ℕ, sym, subst}
use Rattle.words_core.specs.declared.Flags.{Flags}
use Rattle.board_core.specs.Views.{IsTask}
use Rattle.board_core.proofs.Loading.{is_loaded}
use Rattle.board_core.proofs.Viewing.{own_view, other_view}
use Rattle.board_core.proofs.views.view.Goals as goal

pub returns-then-is_loaded_for : goal.returns-then-is_loaded_for
returns-then-is_loaded_for boxes c = λ g t h0.
    let h = is_loaded _ _ g _ _ t (c.is_loaded_for.ensures.loaded c.if-is_loaded_for.true) h0 in
    let P : List ℕ → Type 0 = λ r. IsTask t.state c.args.i record c.kept-kept.result { regs = r; flags = c.args.machine.now.glider.runner.processor.flags } in
    let Q : Flags → Type 0 = λ f. IsTask t.state c.args.i record c.kept-kept.result { regs = c.words.result; flags = f } in
    subst Q (sym c.told.ensures) (subst P (sym c.words.ensures) (own_view _ g _ _ t c.args.i c.kept-kept.result (c.is_loaded_for.ensures.current c.if-is_loaded_for.true) h (λ u hu. c.kept-kept.ensures g u hu)))

pub returns : goal.returns
returns boxes c = λ g t h. other_view _ _ g _ _ t c.args.i _ (c.is_loaded_for.ensures.other c.if-is_loaded_for.false) h (λ u hu. c.kept-kept.ensures g u hu)
