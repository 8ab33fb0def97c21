use Rattle.std.proofs.Common.{◌∙◌, sym, ap, subst}
use Rattle.debug_core.specs.declared.replay.Checkpoint.{Checkpoint}
use Rattle.debug_core.specs.Times.{IsSaved}
use Rattle.debug_core.proofs.Standing.{loadable, loaded, saved_at}
use Rattle.debug_core.proofs.replay.Replay.load.Goals as goal

pub load_into-requires : goal.load_into-requires
load_into-requires boxes c =
    let r = c.requires.saved in
    let h = r.2 in
    let t = c.args.self.now in
    let same = ap (λ (k : Checkpoint). k.bytes.items) (sym c.index.ensures) ∙ sym c.as_slice.ensures.value in
    let saved = subst (IsSaved r.0 r.3) same (saved_at _ r.0 t r.1 c.args.place r.3 c.index.result.now h c.requires.inside r.4) in
    (r.0, h.state.0, h.state.1, loadable _ r.0 c.saved_states_are_accepted.ensures t r.1 r.3 c.as_slice.result.now h saved)

pub returns : goal.returns
returns boxes c = λ x turn from h is.
    let t = c.args.self.now in
    let same = ap (λ (k : Checkpoint). k.bytes.items) (sym c.index.ensures) ∙ sym c.as_slice.ensures.value in
    let saved = subst (IsSaved x from) same (saved_at _ x t turn c.args.place from c.index.result.now h c.requires.inside is) in
    loaded _ x t turn from c.as_slice.result.now c.load_into.new.board h saved (λ u s st spells sane counted sites. c.load_into.ensures.each x u s st spells sane counted sites)
