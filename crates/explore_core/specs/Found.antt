-- What is found of the properties of a question, as the code keeps it.
use Rattle.std.specs.Prelude.{◌≡◌, true, false, List, Some, None}
use Rattle.std.specs.List.{AllZip}
use Rattle.run_question.specs.Questions.{question_data}
use Rattle.run_question.specs.declared.asked.Property.{Property}
use Rattle.run_script.specs.Events.{script_data}
use Rattle.explore_core.specs.declared.found.Answer.{Answer}
use Rattle.explore_core.specs.declared.found.Answer.TheVariants.{Broken, Holds, Unasked}
use Rattle.explore_core.specs.declared.found.Found.{Found}
use Rattle.explore_core.specs.declared.given.Given.{Given}
use Rattle.explore_core.specs.Answers.{Asking, breaks_in, first_broken, is_asked}
use Rattle.explore_core.specs.Ways.{AreWays, schedule_in}

-- what is asked stands in the code
pub record IsGiven (a : Asking) (g : Given) : Type 0 where
  pub script : script_data g.script ≡ a.scenario.script
  pub question : question_data g.question ≡ a.question
  pub limit : g.limit ≡ a.limit

-- the first schedule that breaks a property, and in which turn it does
pub record IsFirst (a : Asking) (p : Property) (found : Found) : Type 0 where
  pub ways : AreWays 0 a.question.arrivals found.ways
  pub first : first_broken a p ≡ Some (schedule_in a.question.arrivals found.ways)
  pub turn : breaks_in a p (schedule_in a.question.arrivals found.ways) ≡ Some found.turn

abbrev pub IsAnswer : Asking → Property → Answer → Type 0
IsAnswer a p Holds = (first_broken a p ≡ None) × (is_asked a p ≡ true)
IsAnswer a p Unasked = (first_broken a p ≡ None) × (is_asked a p ≡ false)
IsAnswer a p (Broken found) = IsFirst a p found

-- what is asked stands in the code, and each property has its answer
pub record IsAnswered (a : Asking) (g : Given) (answers : List Answer) : Type 0 where
  pub given : IsGiven a g
  pub each : AllZip (λ p answer. IsAnswer a p.property answer) a.question.properties answers
