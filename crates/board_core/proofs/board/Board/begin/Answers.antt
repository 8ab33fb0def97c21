use Rattle.std.proofs.Common.{◌≡◌, ◌≢◌, ◌<◌, [], Some, sym, ◌∙◌, ap, subst}
use Rattle.run_script.specs.Scripts.{events_of}
use Rattle.task_table.specs.model.State.{State, Turn}
use Rattle.task_table.specs.model.Start.{begun}
use Rattle.board_core.specs.declared.board.Board.{Board}
use Rattle.board_core.specs.declared.machine.Machine.{Machine}
use Rattle.board_model.specs.Script.{Scenario}
use Rattle.board_core.specs.Kept.{IsChoice}
use Rattle.board_core.specs.Machine.{MachineHolds, MachineStands}
use Rattle.board_core.specs.Stands.{Stands}
use Rattle.board_model.proofs.TurnChains.{begun_sane}
use Rattle.board_model.proofs.Outside.{nothing_due, due_later, no_event, begun_state}
use Rattle.board_core.proofs.Turning.{rested}
use Rattle.board_core.specs.Data.{Shows, boxed}
use Rattle.board_core.proofs.board.Board.begin.Goals as goal

-- a machine whose turn has begun
begun_stands : {X : Type 0} {H : X → Type 0} (shown : Shows X H) (x : Scenario) (s : State) (b : Board X H) (m : Machine X H) → Stands shown x b s → (MachineHolds shown x.setup b.machine (rested b.machine s) → MachineHolds shown x.setup m (begun s)) → MachineStands shown x.setup m (begun s)
begun_stands shown x s b m st f = record { holds = f st.holds.machine; sane = begun_sane x.setup s st.sane }

pub happen-requires-clause-stands : goal.happen-requires-clause-stands
happen-requires-clause-stands boxes c =
    let x = c.requires.stood.0 in
    let s = c.requires.stood.1 in
    let st = c.requires.stood.2 in
    let b = c.args.self.now in (
      x,
      s,
      record {
        machine = begun_stands _ x s b c.begin.new.self st (c.begin.ensures.holds x.setup (rested b.machine s));
        turns = st.holds.turns;
        choice = (s, st.sane, st.holds.choice);
        script = st.holds.script;
        io_regions = st.holds.io_regions;
        counted = st.counted;
        nothing = c.begin.ensures.count;
      },
    )

pub returns-then-is_due-clause-midway : goal.returns-then-is_due-clause-midway
returns-then-is_due-clause-midway boxes c = λ x s st.
    let b = c.args.self.now in
    c.happen.ensures.midway x s record {
      machine = begun_stands _ x s b c.begin.new.self st (c.begin.ensures.holds x.setup (rested b.machine s));
      turns = st.holds.turns;
      choice = (s, st.sane, st.holds.choice);
      script = st.holds.script;
      io_regions = st.holds.io_regions;
      counted = st.counted;
      nothing = c.begin.ensures.count;
    }

pub returns-else-is_due-clause-midway : goal.returns-else-is_due-clause-midway
returns-else-is_due-clause-midway boxes c =
    let shown = boxed (λ p. (goal.Device-dyn boxes p).shown p.1) in
    λ x s st.
    let b = c.args.self.now in
    let at = st.holds.turns in
    let later : b.due ≢ Some s.turn = λ e. c.is_due.ensures.later c.if-is_due.false (e ∙ ap Some (sym at)) in
    let few : s.turn < 1000000000 = rw at at c.requires.few in
    let none : events_of x.script s.turn ≡ [] = nothing_due x.script s.turn b.due few st.holds.due later in
    let A : Turn → Type 0 = λ t. MachineStands shown x.setup c.begin.new.self t in
    let C : State → Type 0 = λ u. IsChoice x.setup u b.choice in
    let same = sym (begun_state s) ∙ ap (λ (t : Turn). t.state) (no_event x s none) in
    record {
      machine = subst A (no_event x s none) (begun_stands _ x s b c.begin.new.self st (c.begin.ensures.holds x.setup (rested b.machine s)));
      choice = subst C same st.holds.choice;
      script = st.holds.script;
      io_regions = st.holds.io_regions;
      due = due_later x.script s.turn b.due st.holds.due later;
    }

pub returns-then-is_due-clause-due : goal.returns-then-is_due-clause-due
returns-then-is_due-clause-due boxes c = λ later. absurd (later (c.is_due.ensures.due c.if-is_due.true))

pub returns-then-is_due-clause-kept : goal.returns-then-is_due-clause-kept
returns-then-is_due-clause-kept boxes c = λ later. absurd (later (c.is_due.ensures.due c.if-is_due.true))
