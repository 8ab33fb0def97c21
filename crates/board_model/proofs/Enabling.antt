-- An instruction enables a line only where its device does not ask.
use Rattle.std.proofs.Common.{◌≡◌, ◌||◌, ◌⊎◌, inl, inr, subst, ℕ, zero, suc, Bool, true, false, cond, not, List, [], ◌∷◌, refl, sym, ◌∙◌, ap, arith, eqb, get_or, set}
use Rattle.std.specs.Prelude.{Contains, fold, filter, Result, Ok, Err}
use Rattle.std.specs.List.{list_any}
use Rattle.kernel_abi.specs.Arguments.{irq_args}
use Rattle.kernel_abi.specs.declared.arguments.IrqArgs.{IrqArgs}
use Rattle.kernel_abi.specs.declared.Ending.TheVariants.{Client}
use Rattle.kernel_abi.specs.declared.Fault.{Fault}
use Rattle.kernel_abi.specs.declared.Note.{Note}
use Rattle.kernel_abi.specs.declared.Note.TheVariants as note
use Rattle.thumb_insn.specs.declared.Insn.{Insn}
use Rattle.thumb_exec.specs.Effect.{Effect, Next, Syscall, Trap}
use Rattle.thumb_exec.specs.declared.fetch.Fetched.{Fetched}
use Rattle.task_table.specs.declared.Line.{Line}
use Rattle.task_table.specs.model.State.{Setup, LineSetup, State, Turn}
use Rattle.task_table.specs.model.Asking.{is_asked}
use Rattle.task_table.specs.model.Reading.{line_at, no_line, line_off, line_on, register, arguments, syscall_selector}
use Rattle.task_table.specs.model.Effects.{noted, posted, with_line}
use Rattle.task_table.specs.model.Rows.{misused, goes_on, owns_with, line_controlled, irq_controlled, syscall_noted}
use Rattle.task_table.specs.model.Syscalls.{Meaning, meaning_among, syscalls, syscall_made}
use Rattle.task_table.proofs.model.Keeps.{filter_in}
use Rattle.task_table.proofs.model.Meanings.{EachMeaning}
use Rattle.board_model.specs.declared.outcomes.Level.{Level}
use Rattle.board_model.specs.declared.outcomes.Level.TheVariants.{Calls, All}
use Rattle.board_model.specs.Turn.{moved, acted, executed, noted_at, stepped_by, stepped}
use Rattle.board_model.proofs.Answered.{EnablesNone, none_here, none_same, none_by, on_enables}
use Rattle.board_model.proofs.LinesKept.{HasLines, has-goes_on, has-posted, has-faulted, has-processor, KeepsLines, each_keeps}
use Rattle.board_model.proofs.Stepping.{moves_state}

-- line k has an owner whose device does not ask
abbrev pub IsUnasked : Setup → State → ℕ → Type 0
IsUnasked g s k = (o : LineSetup) × Contains g.lines o × (o.line ≡ k) × (is_asked s o ≡ false)

-- each line that is enabled was so before, or its device did not ask then
pub record EnablesUnasked (g : Setup) (s u : State) : Type 0 where
  pub enabled : (k : ℕ) → (line_at u k).enabled ≡ true → ((line_at s k).enabled ≡ true) ⊎ IsUnasked g s k

pub from_none : (g : Setup) (s u : State) → EnablesNone s u → EnablesUnasked g s u
from_none g s u none = record { enabled = λ k on. inl (none.enabled k on) }

pub unasked_then : (g : Setup) (s u v : State) → EnablesUnasked g s u → EnablesNone u v → EnablesUnasked g s v
unasked_then g s u v h none = record { enabled = λ k on. h.enabled k (none.enabled k on) }

unasked_same : (g : Setup) (s : State) {u : Turn} → HasLines s.lines u → EnablesUnasked g s u.state
unasked_same g s {u} h = from_none g s u.state (none_same s u.state h.lines)

-- a line that is turned on for an owner whose device does not ask
unasked_on : (g : Setup) (s u v : State) (o : LineSetup) → Contains g.lines o → is_asked s o ≡ false → v.lines ≡ set u.lines o.line line_on → EnablesUnasked g s u → EnablesUnasked g s v
unfolding line_at
unasked_on g s u v o here quiet e h = record {
  enabled = λ k on. elim (on_enables u.lines o.line k (ap (λ (ls : List Line). (get_or ls k no_line).enabled) (sym e) ∙ on)) [ inl same ↦ inr (o, here, sym same, quiet) | inr old ↦ h.enabled k old ];
}

off_lines : (k : ℕ) (p : Bool) (t : Turn) → (with_line k (line_off p) t).state.lines ≡ set t.state.lines k (line_off p)
unfolding with_line
off_lines k p t = refl

on_lines : (k : ℕ) (t : Turn) → (with_line k line_on t).state.lines ≡ set t.state.lines k line_on
unfolding with_line
on_lines k t = refl

module _ (g : Setup) (s : State) (c bits : ℕ) (enable : Bool) where
  controls_one : (o : LineSetup) (u : Turn) → Contains g.lines o → EnablesUnasked g s u.state → EnablesUnasked g s (line_controlled c bits enable (is_asked s o) o.line u).state
  controls_one o u here h = by_tests enable (line_at u.state o.line).pending (is_asked s o) refl
    where
      off : Bool → Turn
      off p = with_line o.line (line_off p) u

      turned : (p : Bool) → EnablesUnasked g s (off p).state
      turned p = unasked_then g s u.state (off p).state h (none_by u.state _ o.line p (off_lines o.line p u))

      posts : EnablesUnasked g s (posted c bits (off false)).state
      posts =
          let same : HasLines (off false).state.lines (off false) = record { lines = refl } in
          unasked_then g s (off false).state _ (turned false) (none_same (off false).state _ (has-posted c bits same).lines)

      by_tests : (b p a : Bool) → is_asked s o ≡ a → EnablesUnasked g s (cond (not b) (off p) (cond (p || a) (posted c bits (off false)) (with_line o.line line_on u))).state
      by_tests false p a is = turned p
      by_tests true true a is = posts
      by_tests true false true is = posts
      by_tests true false false is = unasked_on g s u.state _ o here is (on_lines o.line u) h

  controls_all : (lines : List LineSetup) (u : Turn) → ((o : LineSetup) → Contains lines o → Contains g.lines o) → EnablesUnasked g s u.state →
      EnablesUnasked g s (fold (λ v o. line_controlled c bits enable (is_asked s o) o.line v) u lines).state
  controls_all [] u inside h = h
  controls_all (o ∷ lines) u inside h =
      controls_all lines (line_controlled c bits enable (is_asked s o) o.line u) (λ p here. inside p (suc here.0, omega (arith, here.1), here.2))
      (controls_one o u (inside o (zero, omega arith, refl)) h)

unasked-irq_controlled : (g : Setup) (c : ℕ) (t : Turn) → EnablesUnasked g t.state (irq_controlled g c t).state
unfolding irq_controlled
unasked-irq_controlled g c t = by_owned (not (list_any (owns_with c x.bits) g.lines))
  where
    x : IrqArgs
    x = irq_args (arguments t.state c)

    own : List LineSetup
    own = filter (owns_with c x.bits) g.lines

    v : Turn
    v = fold (λ u o. line_controlled c x.bits x.enable (is_asked t.state o) o.line u) t own

    same : HasLines v.state.lines v
    same = record { lines = refl }

    here : HasLines t.state.lines t
    here = record { lines = refl }

    by_owned : (b : Bool) → EnablesUnasked g t.state (cond b (misused g c 6 t) (goes_on c v)).state
    by_owned true = unasked_same g t.state (has-faulted g c _ Client here)
    by_owned false =
        unasked_then g t.state v.state _
        (controls_all g t.state c x.bits x.enable own t (λ o inside. (filter_in (owns_with c x.bits) g.lines o inside).0) (from_none g t.state t.state (none_here t.state)))
        (none_same v.state _ (has-goes_on c same).lines)

module _ (g : Setup) (c : ℕ) where
  unasked-meaning : (m : Meaning) (t : Turn) → KeepsLines m ⊎ (m ≡ irq_controlled) → EnablesUnasked g t.state (m g c t).state
  unasked-meaning m t (inl keeps) = unasked_same g t.state (keeps t.state.lines g c t record { lines = refl })
  unasked-meaning m t (inr is) = subst (λ (f : Meaning). EnablesUnasked g t.state (f g c t).state) (sym is) (unasked-irq_controlled g c t)

  unasked-among : (list : List (ℕ × Meaning)) (n : ℕ) (t : Turn) → EachMeaning (λ m. KeepsLines m ⊎ (m ≡ irq_controlled)) list → EnablesUnasked g t.state (meaning_among list n g c t).state
  unasked-among [] n t each = unasked_same g t.state (has-faulted g c _ Client record { lines = refl })
  unasked-among (call ∷ list) n t each = by_number (eqb n call.0) _ _ (unasked-meaning call.1 t each.0) (unasked-among list n t each.1)
    where
      by_number : (b : Bool) (u v : Turn) → EnablesUnasked g t.state u.state → EnablesUnasked g t.state v.state → EnablesUnasked g t.state (cond b u v).state
      by_number true u v here later = here
      by_number false u v here later = later

  unasked-syscall_made : (t : Turn) → EnablesUnasked g t.state (syscall_made g c t).state
  unfolding syscall_made
  unasked-syscall_made t = unasked-among syscalls (register t.state c syscall_selector) t each_keeps

  unasked-acted : (e : Effect) (t : Turn) → EnablesUnasked g t.state (acted g c e t).state
  unfolding syscall_noted noted
  unasked-acted (Next cpu moves) t =
      let moves_lines : HasLines t.state.lines (fold moved t moves) = record { lines = ap (λ (s : State). s.lines) (moves_state moves t) } in
      unasked_same g t.state (has-processor c cpu.regs.words cpu.flags moves_lines)
  unasked-acted Syscall t = unasked-syscall_made (syscall_noted c t)
  unasked-acted (Trap fault) t = unasked_same g t.state (has-faulted g c fault Client record { lines = refl })

  unasked-executed : (level : Level) (n : Note) (insn : Insn) (t : Turn) → EnablesUnasked g t.state (executed g c insn (noted_at level n t)).state
  unfolding noted
  unasked-executed Calls n insn t = unasked-acted _ t
  unasked-executed All n insn t = unasked-acted _ (noted n t)

  pub unasked-stepped : (level : Level) (t : Turn) → EnablesUnasked g t.state (stepped level g c t).state
  unfolding stepped
  unasked-stepped level t = by_fetched _ _
    where
      by_fetched : (at : ℕ) (r : Result Fetched Fault) → EnablesUnasked g t.state (stepped_by level g c at r t).state
      by_fetched at (Ok f) = unasked-executed level (note.Insn c at f.code) f.insn t
      by_fetched at (Err fault) = unasked_same g t.state (has-faulted g c fault Client record { lines = refl })
