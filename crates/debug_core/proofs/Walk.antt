-- Line by line.
use Rattle.std.proofs.Common.{◌≡◌, ℕ, ◌+◌, List, [], ◌∷◌, refl, ap, ◌∙◌, sym, Result, Ok, Err, IfSome}
use Rattle.run_script.specs.Scripts.{Refusal}
use Rattle.debug_core.specs.declared.command.Command.{Command}
use Rattle.debug_core.specs.declared.command.CommandFault.{CommandFault}
use Rattle.debug_core.specs.declared.command.CommandFault.TheVariants as fault
use Rattle.debug_core.specs.Lines.{said}
use Rattle.debug_core.specs.Reading.{Refuses, go_on, stated, with_lines, with_said}

pub no_line : (commands : List Command) (number : ℕ) → with_lines commands number [] ≡ Ok commands
unfolding with_lines
no_line commands number = refl

pub one_line : (commands : List Command) (number : ℕ) (line : List ℕ) (lines : List (List ℕ)) → with_lines commands number (line ∷ lines) ≡ go_on number (with_said commands (said line)) (λ next. with_lines next (number + 1) lines)
unfolding with_lines
one_line commands number line lines = refl

pub goes_on : (commands next : List Command) (number : ℕ) (line : List ℕ) (lines rest : List (List ℕ)) → rest ≡ line ∷ lines → with_said commands (said line) ≡ Ok next → with_lines commands number rest ≡ with_lines next (number + 1) lines
goes_on commands next number line lines rest e h =
    ap (with_lines commands number) e ∙ one_line commands number line lines
    ∙ ap (λ (r : Result (List Command) ℕ). go_on number r (λ next. with_lines next (number + 1) lines)) h

pub stops_at : (commands : List Command) (number : ℕ) (line : List ℕ) (lines rest : List (List ℕ)) (whole : Result (List Command) Refusal) (f : CommandFault) → whole ≡ with_lines commands number rest → rest ≡ line ∷ lines → Refuses f number (with_said commands (said line)) → IfSome (stated f) (λ t. whole ≡ Err t)
stops_at commands number line lines rest whole (fault.Refused cause place) w e h =
    w ∙ ap (with_lines commands number) e ∙ one_line commands number line lines
    ∙ ap (λ (r : Result (List Command) ℕ). go_on number r (λ next. with_lines next (number + 1) lines)) h.1
    ∙ ap (λ n. Err (cause, n)) (sym h.0)
stops_at commands number line lines rest whole fault.Memory w e h = tt
