use Rattle.std.proofs.Common.{◌∙◌, rules, sym, ap, List, ℕ}
use Rattle.arrayvec.proofs.ArrayVecLemmas.{filter-from_retain}
use Rattle.board_core.specs.fast.Breakpoints.{stands}
use Rattle.debug_core.proofs.Others.{all_others}
use Rattle.debug_core.proofs.breakpoints.clear.Goals as goal

pub returns-then-not-stands-clause-after : goal.returns-then-not-stands-clause-after
returns-then-not-stands-clause-after c =
    let none = ap (λ (bs : List ℕ). stands bs c.args.at) (sym c.as_slice.ensures.value) ∙ sym c.stands.ensures ∙ c.if-not-stands.true in
    sym (all_others c.args.breakpoints.now.items c.args.at none)

pub returns-clause-after : goal.returns-clause-after
returns-clause-after c = filter-from_retain _ _ _ (λ x b f' y called. search rules) _ _ c.retain.ensures.filtered
