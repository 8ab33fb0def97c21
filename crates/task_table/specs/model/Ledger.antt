-- The ledger of calls: what the notes of a run say of each call number, and which calls are open.
use Rattle.std.specs.Prelude.{ℕ, ◌<◌, ◌≤◌, ◌≡◌, ◌⊎◌, Bool, true, false, List, ◌∷◌, ◌++◌, Contains, ◌==◌, ◌&&◌}
use Rattle.std.specs.List.{count_by}
use Rattle.kernel_abi.specs.declared.Ending.{Ending}
use Rattle.kernel_abi.specs.declared.Ending.TheVariants.{Reply, ReplyFault, Client, Restart}
use Rattle.kernel_abi.specs.declared.Note.{Note}
use Rattle.kernel_abi.specs.declared.Note.TheVariants as note
use Rattle.task_table.specs.model.State.{State, Call}

-- what a note says of calls
pub data Saying : Type 0 where
  Offers : ℕ → Saying
  Takes : ℕ → Saying
  Closes : ℕ → Ending → Saying
  Nothing : Saying

abbrev pub saying : Note → Saying
saying (note.Offer call client server) = Offers call
saying (note.Take call copied) = Takes call
saying (note.Close call ending) = Closes call ending
saying (note.Borrow call borrow lease offset moved) = Nothing
saying (note.Tick now) = Nothing
saying (note.Irq line handled) = Nothing
saying (note.Post task bits posted) = Nothing
saying (note.Syscall task number arguments) = Nothing
saying (note.Ret task results) = Nothing
saying (note.Fault task fault) = Nothing
saying (note.Restart task generation) = Nothing
saying (note.In device byte fed) = Nothing
saying (note.Out device byte) = Nothing
saying (note.IrqStatus task bits status) = Nothing
saying (note.Find index found) = Nothing
saying (note.Listen task from mask) = Nothing
saying (note.Insn task at code) = Nothing
saying note.Idle = Nothing
saying (note.Low registers) = Nothing
saying (note.High registers n z c v) = Nothing

-- the call ends by an answer of its server
abbrev pub is_answer : Ending → Bool
is_answer Reply = true
is_answer ReplyFault = true
is_answer Client = false
is_answer Restart = false

abbrev pub says_offer : ℕ → Saying → Bool
says_offer k (Offers call) = call == k
says_offer k (Takes call) = false
says_offer k (Closes call ending) = false
says_offer k Nothing = false

abbrev pub says_take : ℕ → Saying → Bool
says_take k (Offers call) = false
says_take k (Takes call) = call == k
says_take k (Closes call ending) = false
says_take k Nothing = false

abbrev pub says_close : ℕ → Saying → Bool
says_close k (Offers call) = false
says_close k (Takes call) = false
says_close k (Closes call ending) = call == k
says_close k Nothing = false

abbrev pub says_answer : ℕ → Saying → Bool
says_answer k (Offers call) = false
says_answer k (Takes call) = false
says_answer k (Closes call ending) = (call == k) && is_answer ending
says_answer k Nothing = false

-- the note offers, takes or closes call k; the note closes it by an answer
abbrev pub is_offer_of : ℕ → Note → Bool
is_offer_of k n = says_offer k (saying n)

abbrev pub is_take_of : ℕ → Note → Bool
is_take_of k n = says_take k (saying n)

abbrev pub is_close_of : ℕ → Note → Bool
is_close_of k n = says_close k (saying n)

abbrev pub is_answer_of : ℕ → Note → Bool
is_answer_of k n = says_answer k (saying n)

abbrev pub IsOpen : State → ℕ → Type 0
IsOpen s k = (call : Call) × Contains s.calls call × (call.number ≡ k)

-- Each number from 1 up to the last one that was used is offered by exactly one note, and no other number is. A
-- call is taken by at most one note and closed by at most one, both after its offer, and is answered only after it
-- was taken. It is open exactly if it was offered and not closed.
pub record IsLedger (notes : List Note) (s : State) : Type 0 where
  pub offered : (k : ℕ) → 1 ≤ k → k < s.next_call → count_by (is_offer_of k) notes ≡ 1
  pub no_other : (k : ℕ) → (k ≡ 0) ⊎ (s.next_call ≤ k) → count_by (is_offer_of k) notes ≡ 0
  pub taken : (k : ℕ) → count_by (is_take_of k) notes ≤ 1
  pub closed : (k : ℕ) → count_by (is_close_of k) notes ≤ 1
  pub take_after : (k : ℕ) (before after : List Note) (n : Note) → notes ≡ before ++ n ∷ after → is_take_of k n ≡ true → count_by (is_offer_of k) before ≡ 1
  pub close_after : (k : ℕ) (before after : List Note) (n : Note) → notes ≡ before ++ n ∷ after → is_close_of k n ≡ true → count_by (is_offer_of k) before ≡ 1
  pub answer_after : (k : ℕ) (before after : List Note) (n : Note) → notes ≡ before ++ n ∷ after → is_answer_of k n ≡ true → count_by (is_take_of k) before ≡ 1
  pub is_open : (k : ℕ) → IsOpen s k → (count_by (is_offer_of k) notes ≡ 1) × (count_by (is_close_of k) notes ≡ 0)
  pub still_open : (k : ℕ) → count_by (is_offer_of k) notes ≡ 1 → count_by (is_close_of k) notes ≡ 0 → IsOpen s k
