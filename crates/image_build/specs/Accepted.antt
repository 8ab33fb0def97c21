-- What a builder stands for.
use Rattle.std.specs.Prelude.{ℕ, List, ◌≡◌, ◌≤◌, length}
use Rattle.app_toml.specs.Apps.{AppData}
use Rattle.app_toml.specs.Held.{app_of}
use Rattle.image_build.specs.Building.{Holds}
use Rattle.image_build.specs.declared.builder.Builder.{Builder}

-- the application that it builds
abbrev pub described : Builder → AppData
described b = app_of b.app.now

-- the task whose source is the next
abbrev pub next_task : Builder → ℕ
next_task b = b.done

-- it has accepted these sources
pub record HasAccepted (sources : List (List ℕ)) (b : Builder) : Type 0 where
  pub next : next_task b ≡ length sources
  pub most : length sources ≤ length (described b).tasks
  pub holds : Holds (described b) sources b.flash.items
