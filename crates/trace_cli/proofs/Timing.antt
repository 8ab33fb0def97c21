-- The timeline and the picture of a run from the start.
use Rattle.std.proofs.Common.{◌≡◌, ℕ, ◌-◌, arith}
use Rattle.board_core.specs.declared.board.Board.{Board}
use Rattle.board_core.specs.Data.{Shows}
use Rattle.board_core.specs.Stands.{Stands, turns_of}
use Rattle.board_model.specs.Script.{Scenario, start_of}

-- a run from the start has no turn before it, so that all turns are left
pub all_left : {X : Type 0} {H : X → Type 0} {shown : Shows X H} (x : Scenario) (b : Board X H) (n : ℕ) → Stands shown x b (start_of x) → turns_of b ≡ 0 → n - (start_of x).turn ≡ n
all_left x b n st none = let at : turns_of b ≡ (start_of x).turn = st.holds.turns in omega arith
