-- Commands carried out one after the other, as their answers are pushed.
use Rattle.std.proofs.Common.{◌≡◌, ◌∙◌, ℕ, suc, ◌+◌, ◌<◌, Bool, true, false, cond, List, [], ◌∷◌, ◌++◌, length, drop, get_or, Option, refl, sym, ap, subst, arith, append_assoc, drop-cons}
use Rattle.std.specs.Io.KnownBytes.{Appends}
use Rattle.std.proofs.lemmas.List.{append-nil}
use Rattle.outside_io.specs.Outside.{AppendsFront}
use Rattle.board_model.specs.Script.{Scenario}
use Rattle.board_core.specs.Data.{Shows}
use Rattle.outside_io.proofs.Pushing.{appends_more, appends_none, front_more, front_wider}
use Rattle.debug_core.specs.declared.command.Command.{Command}
use Rattle.debug_core.specs.declared.command.Command.TheVariants as command
use Rattle.debug_core.specs.declared.debugger.Debugger.{Debugger}
use Rattle.debug_core.specs.Answers.{answer, text_of, told, told_from}
use Rattle.debug_core.specs.Session.{Session, after}
use Rattle.debug_core.specs.Sessions.{IsSession}
use Rattle.debug_core.proofs.Over.{over_told_from}

-- what a command other than `notes` is told is its answer
pub told_answer : (x : Scenario) (s : Session) (c : Command) → (c ≡ command.Notes → ⊥) → told x s c ≡ text_of (answer x s c)
told_answer x s (command.Break at) other = refl
told_answer x s (command.Clear at) other = refl
told_answer x s (command.Step n) other = refl
told_answer x s (command.Back n) other = refl
told_answer x s (command.Go n) other = refl
told_answer x s (command.At turn) other = refl
told_answer x s (command.GoFor n what) other = refl
told_answer x s (command.BackFor n what) other = refl
told_answer x s command.Help other = refl
told_answer x s command.Quit other = refl
told_answer x s (command.Regs task) other = refl
told_answer x s (command.Task task) other = refl
told_answer x s (command.Irq line) other = refl
told_answer x s (command.Device device) other = refl
told_answer x s (command.Mem at n) other = refl
told_answer x s command.Notes other = absurd (other refl)

module _ {X : Type 0} {H : X → Type 0} (shown : Shows X H) (x : Scenario) (s : Session) (commands : List Command) where
  -- the answers of the first i were pushed, and the debugger is at the session that they leave
  pub record Carried (i : ℕ) (w w' : Option (List ℕ)) (d : Debugger X H) : Type 0 where
    pub here : Session
    pub at : IsSession shown x d here
    pub front : List ℕ
    pub pushed : Appends w w' front
    pub rest : told_from x s commands ≡ front ++ told_from x here (drop i commands)

  pub carried_none : (w : Option (List ℕ)) (d : Debugger X H) → IsSession shown x d s → Carried 0 w w d
  carried_none w d h = record { here = s; at = h; front = []; pushed = appends_none w; rest = refl }

  -- the next command, and its answer
  module _ (i : ℕ) (w w' w'' : Option (List ℕ)) (d : Debugger X H) (none : Command) (lt : i < length commands) where
    abbrev c : Command
    c = get_or commands i none

    next : (h : Carried i w w' d) → h.here.is_over ≡ false → told_from x s commands ≡ h.front ++ (told x h.here c ++ told_from x (after x h.here c) (drop (suc i) commands))
    next h going =
        h.rest ∙ ap (λ (cs : List Command). h.front ++ told_from x h.here cs) (drop-cons commands i none lt)
        ∙ ap (λ (b : Bool). h.front ++ cond b [] (told x h.here c ++ told_from x (after x h.here c) (drop (suc i) commands))) going

    pub carried_more : (d' : Debugger X H) → (h : Carried i w w' d) → h.here.is_over ≡ false → IsSession shown x d' (after x h.here c) → Appends w' w'' (told x h.here c) → Carried (i + 1) w w'' d'
    carried_more d' h going at pushed =
        let next_place : suc i ≡ i + 1 = omega arith in
        record {
          here = after x h.here c;
          at = at;
          front = h.front ++ told x h.here c;
          pushed = appends_more w w' w'' h.front (told x h.here c) h.pushed pushed;
          rest =
              next h going ∙ sym (append_assoc h.front (told x h.here c) (told_from x (after x h.here c) (drop (suc i) commands)))
              ∙ ap (λ n. (h.front ++ told x h.here c) ++ told_from x (after x h.here c) (drop n commands)) next_place;
        }

    -- a push that fails
    pub carried_fails : (h : Carried i w w' d) → h.here.is_over ≡ false → AppendsFront w' w'' (told x h.here c) → AppendsFront w w'' (told_from x s commands)
    carried_fails h going failed =
        subst (λ t. AppendsFront w w'' t) (sym (next h going))
        (front_more w w' w'' h.front (told x h.here c ++ told_from x (after x h.here c) (drop (suc i) commands)) h.pushed
        (front_wider w' w'' (told x h.here c) (told_from x (after x h.here c) (drop (suc i) commands)) failed))

  -- those before a `quit`
  pub carried_over : (i : ℕ) (w w' : Option (List ℕ)) (d : Debugger X H) (h : Carried i w w' d) → h.here.is_over ≡ true → Appends w w' (told_from x s commands)
  carried_over i w w' d h over =
      subst (λ t. Appends w w' t) (sym (h.rest ∙ ap (λ (t : List ℕ). h.front ++ t) (over_told_from x h.here (drop i commands) over) ∙ append-nil h.front)) h.pushed

  -- all of them
  pub carried_all : (i : ℕ) (w w' : Option (List ℕ)) (d : Debugger X H) → i ≡ length commands → Carried i w w' d → Appends w w' (told_from x s commands)
  carried_all i w w' d all h =
      let none : drop i commands ≡ [] = ap (λ n. drop n commands) all ∙ drop_whole commands in
      subst (λ t. Appends w w' t) (sym (h.rest ∙ ap (λ (cs : List Command). h.front ++ told_from x h.here cs) none ∙ append-nil h.front)) h.pushed
    where
      drop_whole : (cs : List Command) → drop (length cs) cs ≡ []
      drop_whole [] = refl
      drop_whole (k ∷ cs) = drop_whole cs
