-- The rows of the kernel messages by their arguments.
use Rattle.std.proofs.Common.{◌≡◌, ℕ, true, false, not, ◌&&◌, [], ◌∷◌, length, Some, refl, leb, eqb, Bool}
use Rattle.kernel_abi.specs.declared.arguments.SendArgs.{SendArgs}
use Rattle.mem_banks.specs.Memory.{number_at}
use Rattle.task_table.specs.model.State.{Setup, Turn}
use Rattle.task_table.specs.model.Rows.{goes_on_with}
use Rattle.task_table.specs.model.Requests.{Request, served}

-- a request is served
pub served_row : (g : Setup) (c : ℕ) (x : SendArgs) (o : Request) (t : Turn) (i : ℕ) → number_at t.state.memory x.message_base 4 ≡ i → eqb x.message_length o.message ≡ true → leb o.reply x.reply_capacity ≡ true → leb (length t.state.tasks) i ≡ false → (eqb i 0 && not o.on_supervisor) ≡ false → served g c x (Some o) t ≡ goes_on_with c (0 ∷ o.reply ∷ []) (o.does g x i t)
served_row g c x o t i index length reply there whom = rw (index, length, reply, there, whom) refl

pub and_false : (b : Bool) → (b && false) ≡ false
and_false true = refl
and_false false = refl
