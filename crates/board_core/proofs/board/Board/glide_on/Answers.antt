use Rattle.std.proofs.Common.{sym, ◌∙◌, arith}
use Rattle.task_table.specs.model.State.{State}
use Rattle.task_table.specs.model.Start.{begun}
use Rattle.board_model.proofs.TurnChains.{chosen_is}
use Rattle.board_core.proofs.Loading.{below}
use Rattle.board_core.proofs.Turning.{rested}
use Rattle.board_model.specs.Script.{Scenario}
use Rattle.board_core.specs.Stands.{Stands}
use Rattle.board_core.specs.Data.{boxed}
use Rattle.board_core.proofs.fast.Windowing.{IsMade, made_by, ports_inside, own_list, no_list}
use Rattle.board_core.specs.fast.Stops.{stops_at}
use Rattle.board_core.proofs.board.Board.glide_on.Goals as goal

pub index-requires : goal.index-requires
index-requires boxes c =
    let s = c.requires.may.stood.1 in
    let st = c.requires.may.stood.2 in
    ports_inside _ _ s c.args.self.now st c.args.task (chosen_is s c.args.task st.sane (sym st.holds.choice.next ∙ c.requires.next)).inside

pub glide-glided-requires : goal.glide-glided-requires
unfolding begun
glide-glided-requires boxes c =
    let b = c.args.self.now in
    let x = c.requires.may.stood.0 in
    let s = c.requires.may.stood.1 in
    let st = c.requires.may.stood.2 in
    below _ _ x.setup c.begin.new.self.space _ _ c.args.task (c.begin.ensures.holds x.setup (rested b.machine s) st.holds.machine) (chosen_is s c.args.task st.sane (sym st.holds.choice.next ∙ c.requires.next)).inside

pub returns : goal.returns
returns boxes c =
    let shown = boxed (λ p. (goal.Device-dyn boxes p).shown p.1) in
    let b = c.args.self.now in
    let r = c.requires in
    let glided = c.glide-glided.ensures in
    let calls = c.glide-glided.result.at_syscall in
    let made : (x : Scenario) (s : State) → Stands shown x b s → IsMade shown (stops_at c.args.breakpoints.now c.args.watched) x s c.args.task c.args.until b _ calls = λ x s st.
    let inside = (chosen_is s c.args.task st.sane (sym st.holds.choice.next ∙ r.next)).inside in
    let alone = sym (own_list _ x s b st c.args.task _ _ inside c.index.ensures) ∙ no_list c.index.result.now c.if-not-is_empty.ensures in
    made_by shown _ x s b c.begin.new.self c.glide-glided.new.self c.args.task c.glide-glided.result.made c.args.until calls st (c.begin.ensures.holds x.setup (rested b.machine s) st.holds.machine) r.next r.up r.may.few r.left glided.within r.may.later glided.count (λ t stands here ready. glided.glided x.setup t stands here ready alone) in
    record {
      fast = record { glided = λ x s st. (made x s st).glidden; more = omega arith; within = λ less. omega (arith, r.left, glided.within) };
      far = λ x s st. (made x s st).far;
      calls = λ yes x s st. (made x s st).call yes;
      before = let stood = r.may.stood in (made stood.0 stood.1 stood.2).before;
    }
