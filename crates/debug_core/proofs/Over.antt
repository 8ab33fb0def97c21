-- A session that is over: no more is told, and it stays as it is.
use Rattle.std.proofs.Common.{◌≡◌, ◌∙◌, ℕ, Bool, true, false, cond, List, [], ◌∷◌, ◌++◌, Some, None, Ok, Err, refl, sym, ap}
use Rattle.board_model.specs.Script.{Scenario}
use Rattle.debug_core.specs.declared.command.Command.{Command}
use Rattle.debug_core.specs.Answers.{refusal_line, told, told_from}
use Rattle.debug_core.specs.Lines.{Said}
use Rattle.debug_core.specs.Live.{after_line, after_lines, line_told, lines_told, live_said}
use Rattle.debug_core.specs.Session.{Session, after}

-- ---- a line

module _ (x : Scenario) (s : Session) where
  pub over_told : (said : Said) → s.is_over ≡ true → line_told x s said ≡ []
  over_told (Ok None) over = refl
  over_told (Ok (Some command)) over = ap (λ (b : Bool). cond b [] (told x s command)) over
  over_told (Err cause) over = ap (λ (b : Bool). cond b [] (refusal_line cause)) over

  pub over_after : (said : Said) → s.is_over ≡ true → after_line x s said ≡ s
  over_after (Ok None) over = refl
  over_after (Ok (Some command)) over = ap (λ (b : Bool). cond b s (after x s command)) over
  over_after (Err cause) over = refl

  -- of a session that is not over
  pub going_told : (command : Command) → s.is_over ≡ false → told x s command ≡ line_told x s (Ok (Some command))
  going_told command going = sym (ap (λ (b : Bool). cond b [] (told x s command)) going)

  pub going_after : (command : Command) → s.is_over ≡ false → after x s command ≡ after_line x s (Ok (Some command))
  going_after command going = sym (ap (λ (b : Bool). cond b s (after x s command)) going)

  pub going_refused : (cause : ℕ) → s.is_over ≡ false → refusal_line cause ≡ line_told x s (Err cause)
  going_refused cause going = sym (ap (λ (b : Bool). cond b [] (refusal_line cause)) going)

-- ---- lines and commands

pub over_lines_told : (x : Scenario) (s : Session) (lines : List (List ℕ)) → s.is_over ≡ true → lines_told x s lines ≡ []
over_lines_told x s [] over = refl
over_lines_told x s (line ∷ lines) over =
    ap (λ (t : List ℕ). t ++ lines_told x (after_line x s (live_said line)) lines) (over_told x s (live_said line) over)
    ∙ ap (λ (next : Session). lines_told x next lines) (over_after x s (live_said line) over)
    ∙ over_lines_told x s lines over

pub over_after_lines : (x : Scenario) (s : Session) (lines : List (List ℕ)) → s.is_over ≡ true → after_lines x s lines ≡ s
over_after_lines x s [] over = refl
over_after_lines x s (line ∷ lines) over =
    ap (λ (next : Session). after_lines x next lines) (over_after x s (live_said line) over) ∙ over_after_lines x s lines over

pub over_told_from : (x : Scenario) (s : Session) (commands : List Command) → s.is_over ≡ true → told_from x s commands ≡ []
over_told_from x s [] over = refl
over_told_from x s (c ∷ cs) over = ap (λ (b : Bool). cond b [] (told x s c ++ told_from x (after x s c) cs)) over
