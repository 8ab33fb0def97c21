-- Changes one after another.
use Rattle.task_table.specs.model.State.{Turn}

-- a chain leads from one turn to another by changes that R allows
pub data Chain (R : Turn → Turn → Type 0) : Turn → Turn → Type 0 where
  Here : (t : Turn) → Chain R t t
  More : (t u v : Turn) → Chain R t u → R u v → Chain R t v
