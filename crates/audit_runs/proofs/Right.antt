-- The notes of a run are right: for information nothing moves, the index of a device is small, and the code of an instruction is one.
use Rattle.std.proofs.Common.{◌≡◌, ◌<◌, ℕ, zero, suc, true, false, arith, min, List, [], ◌∷◌, ◌++◌, Option, Some, None, refl, sym, subst}
use Rattle.std.specs.List.{list_all}
use Rattle.std.proofs.lemmas.Bool.{false≢true, ltb-true, and_parts}
use Rattle.kernel_abi.specs.declared.Borrow.{Borrow}
use Rattle.kernel_abi.specs.declared.Borrow.TheVariants as borrow
use Rattle.kernel_abi.specs.declared.Ending.{Ending}
use Rattle.kernel_abi.specs.declared.Note.{Note}
use Rattle.kernel_abi.specs.declared.Note.TheVariants as note
use Rattle.thumb_insn.specs.declared.Decoded.{Decoded}
use Rattle.thumb_insn.specs.declared.Decoded.TheVariants as decoded
use Rattle.task_table.specs.model.State.{Setup, State, Call, Turn}
use Rattle.task_table.specs.model.Reading.{call_of, chosen}
use Rattle.task_table.specs.model.Effects.{noted, stored, copied, looked, closed, close_notes, offered, with_devices}
use Rattle.task_table.specs.model.Sane.{Sane}
use Rattle.task_table.specs.model.Start.{begun}
use Rattle.task_table.specs.model.Chain.{Chain}
use Rattle.task_table.specs.model.Placed.{ArePlaced}
use Rattle.task_table.specs.model.Step.{Step, is_plain, IsMoved}
use Rattle.task_table.proofs.model.Chains.{chain_keeps}
use Rattle.task_table.proofs.model.Happens.{chain_moves}
use Rattle.task_table.proofs.model.Moves.{ArePlain, IsOutside, outside-devices, Move, Aside, Writes, Reads, Alters, Lends, Offers, Takes, Closes}
use Rattle.trace_text.specs.Text.{code_decoded}
use Rattle.board_model.specs.declared.outcomes.End.{End}
use Rattle.board_model.specs.declared.outcomes.End.TheVariants.{Bound}
use Rattle.board_model.specs.declared.outcomes.Level.{Level}
use Rattle.board_model.specs.Script.{Scenario}
use Rattle.board_model.specs.Turn.{after_events, with_current, stepped, with_registers_noted, turn_of, ended, turn}
use Rattle.board_model.specs.Run.{run, ending, ended_at, with_front, unless, at_turn}
use Rattle.board_model.proofs.TurnChains.{turn_chain, sane-after, sane-after_events, idle-aside}
use Rattle.board_model.proofs.Events.{outside-after_events}
use Rattle.audit_laws.specs.Told.{IsInsn, IsRightBorrow, IsRight}
use Rattle.audit_laws.specs.Whole.{AreRight}
use Rattle.audit_runs.proofs.Coded.{is_insn, hears, turn_heard, each_heard}

-- ## borrows and devices

abbrev IsLent : Note → Type 0
IsLent (note.Borrow call way lease offset moved) = IsMoved way offset moved
IsLent (note.Tick now) = Unit {0}
IsLent (note.Irq line handled) = Unit {0}
IsLent (note.Post task bits posted) = Unit {0}
IsLent (note.Syscall task number arguments) = Unit {0}
IsLent (note.Ret task results) = Unit {0}
IsLent (note.Close call ending) = Unit {0}
IsLent (note.Fault task fault) = Unit {0}
IsLent (note.Listen task from mask) = Unit {0}
IsLent (note.Take call copied) = Unit {0}
IsLent (note.Offer call client server) = Unit {0}
IsLent (note.Restart task generation) = Unit {0}
IsLent (note.In device byte fed) = Unit {0}
IsLent (note.Out device byte) = device < 8
IsLent (note.IrqStatus task bits status) = Unit {0}
IsLent (note.Find index found) = Unit {0}
IsLent (note.Insn task at code) = Unit {0}
IsLent note.Idle = Unit {0}
IsLent (note.Low registers) = Unit {0}
IsLent (note.High registers n z c v) = Unit {0}

abbrev AreLent : List Note → Type 0
AreLent [] = Unit {0}
AreLent (n ∷ ns) = IsLent n × AreLent ns

lent_joined : (ns ms : List Note) → AreLent ns → AreLent ms → AreLent (ns ++ ms)
lent_joined [] ms h k = k
lent_joined (n ∷ ns) ms h k = (h.0, lent_joined ns ms h.1 k)

plain_lent : (n : Note) → is_plain n ≡ true → IsLent n
plain_lent (note.Tick now) h = tt
plain_lent (note.Irq line handled) h = tt
plain_lent (note.Post task bits posted) h = tt
plain_lent (note.Syscall task number arguments) h = tt
plain_lent (note.Ret task results) h = tt
plain_lent (note.Close call ending) h = absurd (false≢true h)
plain_lent (note.Fault task fault) h = tt
plain_lent (note.Listen task from mask) h = tt
plain_lent (note.Take call copied) h = absurd (false≢true h)
plain_lent (note.Offer call client server) h = absurd (false≢true h)
plain_lent (note.Restart task generation) h = tt
plain_lent (note.In device byte fed) h = tt
plain_lent (note.Out device byte) h = ltb-true device 8 h
plain_lent (note.IrqStatus task bits status) h = tt
plain_lent (note.Find index found) h = tt
plain_lent (note.Insn task at code) h = tt
plain_lent note.Idle h = tt
plain_lent (note.Low registers) h = tt
plain_lent (note.High registers n z c v) h = tt
plain_lent (note.Borrow call way lease offset moved) h = absurd (false≢true h)

plains_lent : (ns : List Note) → ArePlain ns → AreLent ns
plains_lent [] h = tt
plains_lent (n ∷ ns) h = (plain_lent n h.0, plains_lent ns h.1)

outside_lent : (u v : Turn) → IsOutside u v → AreLent u.notes → AreLent v.notes
outside_lent u v a h = subst AreLent (sym a.notes) (lent_joined u.notes a.new h (plains_lent a.new a.plain))

closed_lent : (i : ℕ) (e : Ending) (u : Turn) → AreLent u.notes → AreLent (closed i e u).notes
unfolding closed
closed_lent i e u h = lent_joined u.notes (close_notes e (call_of u.state i)) h (by_call (call_of u.state i))
  where
    by_call : (o : Option Call) → AreLent (close_notes e o)
    by_call None = tt
    by_call (Some c) = (tt, tt)

move_lent : (g : Setup) (s : State) (c : ℕ) (u v : Turn) → Move g s c u v → AreLent u.notes → AreLent v.notes
unfolding stored looked noted copied offered
move_lent g s c _ _ (Aside u v a) h = outside_lent u v a.outside h
move_lent g s c _ _ (Writes on at bytes u within may) h = h
move_lent g s c _ _ (Reads r u alive) h = h
move_lent g s c _ _ (Alters devices u reached) h = outside_lent u (with_devices devices u) (outside-devices devices u) h
move_lent g s c _ _ (Lends k way lease offset moved u alive taken fits) h = lent_joined u.notes (note.Borrow k way lease offset moved ∷ []) h (fits, tt)
move_lent g s c _ _ (Offers k u new) h = lent_joined u.notes (note.Offer k.number k.client.index k.server.index ∷ []) h (tt, tt)
move_lent g s c _ _ (Takes on k buffer u t) h = lent_joined u.notes (note.Take k.number (min k.message.len buffer.len) ∷ []) h (tt, tt)
move_lent g s c _ _ (Closes i e u ends) h = closed_lent i e u h

chain_lent : (g : Setup) (s : State) (c : ℕ) → ArePlaced g s.memory → (u v : Turn) → Chain (Step g s c) u v → AreLent u.notes → AreLent v.notes
chain_lent g s c placed u v x h = chain_keeps (Move g s c) (λ w. AreLent w.notes) (move_lent g s c) u v (chain_moves g s c placed u v x) h

begun_lent : (s : State) → AreLent (begun s).notes
unfolding begun
begun_lent s = tt

-- ## both

way_right : (way : Borrow) (offset moved : ℕ) → IsMoved way offset moved → IsRightBorrow way offset moved
way_right borrow.Read offset moved h = tt
way_right borrow.Write offset moved h = tt
way_right borrow.Info offset moved h = h

insn_right : (d : Decoded) → is_insn d ≡ true → IsInsn d
insn_right (decoded.Narrow i) h = tt
insn_right (decoded.Wide i) h = tt
insn_right decoded.Illegal h = absurd (false≢true h)
insn_right decoded.NeedsSecond h = absurd (false≢true h)

note_right : (n : Note) → IsLent n → hears n ≡ true → IsRight n
note_right (note.Borrow call way lease offset moved) lent heard = way_right way offset moved lent
note_right (note.Insn task at code) lent heard = insn_right (code_decoded code) heard
note_right (note.Tick now) lent heard = tt
note_right (note.Irq line handled) lent heard = tt
note_right (note.Post task bits posted) lent heard = tt
note_right (note.Syscall task number arguments) lent heard = tt
note_right (note.Ret task results) lent heard = tt
note_right (note.Close call ending) lent heard = tt
note_right (note.Fault task fault) lent heard = tt
note_right (note.Listen task from mask) lent heard = tt
note_right (note.Take call copied) lent heard = tt
note_right (note.Offer call client server) lent heard = tt
note_right (note.Restart task generation) lent heard = tt
note_right (note.In device byte fed) lent heard = tt
note_right (note.Out device byte) lent heard = omega (arith, lent)
note_right (note.IrqStatus task bits status) lent heard = tt
note_right (note.Find index found) lent heard = tt
note_right note.Idle lent heard = tt
note_right (note.Low registers) lent heard = tt
note_right (note.High registers n z c v) lent heard = tt

notes_right : (n : ℕ) (ns : List Note) → AreLent ns → list_all hears ns ≡ true → AreRight (at_turn n ns)
notes_right n [] lent heard = tt
notes_right n (x ∷ ns) lent heard = let two = and_parts (hears x) (list_all hears ns) heard in (note_right x lent.0 two.0, notes_right n ns lent.1 two.1)

right_joined : (xs ys : List (ℕ × Note)) → AreRight xs → AreRight ys → AreRight (xs ++ ys)
right_joined [] ys h k = k
right_joined (x ∷ xs) ys h k = (h.0, right_joined xs ys h.1 k)

module _ (level : Level) (x : Scenario) where
  lent_turn : (s : State) → Sane x.setup s → AreLent (turn level x s).notes
  unfolding turn ended
  lent_turn s h = by_choice (chosen x.setup (after_events x s).state) refl
    where
      t : Turn
      t = after_events x s

      lent : AreLent t.notes
      lent = outside_lent (begun s) t (outside-after_events x s) (begun_lent s)

      by_choice : (o : Option ℕ) → chosen x.setup (after_events x s).state ≡ o → AreLent (turn_of level x.setup o t).notes
      by_choice None e = outside_lent t _ (idle-aside level t).outside lent
      by_choice (Some c) e =
          let u = with_current c t in
          let v = with_registers_noted level c (stepped level x.setup c u) in
          chain_lent x.setup u.state c (sane-after_events x s h).steady.placed u v (turn_chain level x s c h e) lent

  right_turn : (s : State) → Sane x.setup s → AreRight (at_turn s.turn (turn level x s).notes)
  right_turn s h = notes_right s.turn (turn level x s).notes (lent_turn s h) (each_heard (turn level x s).notes (turn_heard level x s h))

  pub run_right : (n : ℕ) (s : State) → Sane x.setup s → AreRight (run level x n s).notes
  unfolding run
  run_right zero s h = by_end (ending x 0 s)
    where
      by_end : (e : Option End) → AreRight (unless s e (ended_at s Bound)).notes
      by_end None = tt
      by_end (Some e) = tt
  run_right (suc n) s h = by_end (ending x (suc n) s) (right_turn s h) (run_right n (turn level x s).state (sane-after level x s h))
    where
      by_end : (e : Option End) → AreRight (at_turn s.turn (turn level x s).notes) → AreRight (run level x n (turn level x s).state).notes → AreRight (unless s e (with_front (at_turn s.turn (turn level x s).notes) (run level x n (turn level x s).state))).notes
      by_end (Some e) front k = tt
      by_end None front k = right_joined (at_turn s.turn (turn level x s).notes) (run level x n (turn level x s).state).notes front k
