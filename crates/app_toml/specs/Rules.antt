-- The rules that each task has to keep by itself.
use Rattle.std.specs.Prelude.{ℕ, Option}
use Rattle.app_toml.specs.declared.tasks.Rule.{Rule}
use Rattle.app_toml.specs.declared.tasks.Rule.TheVariants as rules
use Rattle.app_toml.specs.Apps.{TaskData}
use Rattle.app_toml.specs.Crossed.{bad_stack, notification_count, region_count, wrong_priority}
use Rattle.app_toml.specs.Places.{Refusal}

abbrev pub rule_fault : Rule → ℕ → TaskData → Option Refusal
rule_fault rules.Notifications = notification_count
rule_fault rules.Regions = region_count
rule_fault rules.Priority = wrong_priority
rule_fault rules.Stack = bad_stack
