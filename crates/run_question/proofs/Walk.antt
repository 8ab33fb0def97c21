-- Line by line.
use Rattle.std.proofs.Common.{◌≡◌, ℕ, ◌+◌, List, [], ◌∷◌, refl, ap, ◌∙◌, sym, Result, Ok, Err, IfSome}
use Rattle.run_question.specs.declared.question.QuestionFault.{QuestionFault}
use Rattle.run_question.specs.declared.question.QuestionFault.TheVariants as fault
use Rattle.run_script.specs.Scripts.{Refusal}
use Rattle.run_question.specs.Drafts.{Refuses, stated}
use Rattle.run_question.specs.Questions.{Question}
use Rattle.run_question.specs.Reading.{Reading, ended, go_on, with_lines, with_said}
use Rattle.run_question.specs.Statements.{statement_of}

pub no_line : (r : Reading) (number : ℕ) → with_lines r number [] ≡ ended r number
unfolding with_lines
no_line r number = refl

pub one_line : (r : Reading) (number : ℕ) (line : List ℕ) (lines : List (List ℕ)) → with_lines r number (line ∷ lines) ≡ go_on number (with_said r number line (statement_of line)) (λ next. with_lines next (number + 1) lines)
unfolding with_lines
one_line r number line lines = refl

pub goes_on : (r next : Reading) (number : ℕ) (line : List ℕ) (lines rest : List (List ℕ)) → rest ≡ line ∷ lines → with_said r number line (statement_of line) ≡ Ok next → with_lines r number rest ≡ with_lines next (number + 1) lines
goes_on r next number line lines rest e h =
    ap (with_lines r number) e ∙ one_line r number line lines
    ∙ ap (λ (o : Result Reading ℕ). go_on number o (λ next. with_lines next (number + 1) lines)) h

pub stops_at : (r : Reading) (number : ℕ) (line : List ℕ) (lines rest : List (List ℕ)) (whole : Result Question Refusal) (f : QuestionFault) → whole ≡ with_lines r number rest → rest ≡ line ∷ lines → Refuses f number (with_said r number line (statement_of line)) → IfSome (stated f) (λ t. whole ≡ Err t)
stops_at r number line lines rest whole (fault.Refused cause place) w e h =
    w ∙ ap (with_lines r number) e ∙ one_line r number line lines
    ∙ ap (λ (o : Result Reading ℕ). go_on number o (λ next. with_lines next (number + 1) lines)) h.1
    ∙ ap (λ n. Err (cause, n)) (sym h.0)
stops_at r number line lines rest whole fault.Memory w e h = tt
