-- The lives of calls, by the notes of a run and by a state, and what is true at the beginning of a turn.
use Rattle.std.specs.Prelude.{ℕ, ◌<◌, ◌≤◌, ◌≡◌, ◌≢◌, ◌⊎◌, Bool, List, [], ◌∷◌, Contains, Some, ◌==◌, if◌then◌else◌, true}
use Rattle.kernel_abi.specs.declared.Note.{Note}
use Rattle.task_table.specs.model.State.{State, Call, Offered, Taken, Write as Written, Turn}
use Rattle.task_table.specs.model.Grounds.{call_of_ground}
use Rattle.task_table.specs.model.Ledger.{Saying, Offers, Takes, Closes, Nothing, saying, is_answer, IsOpen}
use Rattle.task_table.specs.model.Step.{is_plain, IsOpenAs}

-- ## what notes say

-- not offered yet; offered; taken; closed; or a history that is wrong
pub data Life : Type 0 where
  New : Life
  Waiting : Life
  Held : Life
  Over : Life
  Wrong : Life

abbrev pub after_offer : Life → Life
after_offer New = Waiting
after_offer Waiting = Wrong
after_offer Held = Wrong
after_offer Over = Wrong
after_offer Wrong = Wrong

abbrev pub after_take : Life → Life
after_take New = Wrong
after_take Waiting = Held
after_take Held = Wrong
after_take Over = Wrong
after_take Wrong = Wrong

-- only a call that is taken is answered
abbrev pub after_close : Bool → Life → Life
after_close answer New = Wrong
after_close answer Waiting = if answer then Wrong else Over
after_close answer Held = Over
after_close answer Over = Wrong
after_close answer Wrong = Wrong

-- the life of call k after one more saying
abbrev pub after : ℕ → Saying → Life → Life
after k (Offers call) l = if call == k then after_offer l else l
after k (Takes call) l = if call == k then after_take l else l
after k (Closes call ending) l = if call == k then after_close (is_answer ending) l else l
after k Nothing l = l

-- the life of call k after more notes, in order
abbrev pub lived : ℕ → Life → List Note → Life
lived k l [] = l
lived k l (n ∷ ns) = lived k (after k (saying n) l) ns

-- ## what a state says

-- the numbers of open calls are at least 1 and below the next one; no two calls have the same client or number
pub record AreApart (s : State) : Type 0 where
  pub some : 1 ≤ s.next_call
  pub from : (c : Call) → Contains s.calls c → 1 ≤ c.number
  pub below : (c : Call) → Contains s.calls c → c.number < s.next_call
  pub client : (c d : Call) → Contains s.calls c → Contains s.calls d → c.client.index ≡ d.client.index → c ≡ d
  pub number : (c d : Call) → Contains s.calls c → Contains s.calls d → c.number ≡ d.number → c ≡ d

-- call k has this life in a state
abbrev pub Lives : State → ℕ → Life → Type 0
Lives s k New = (k ≡ 0) ⊎ (s.next_call ≤ k)
Lives s k Waiting = IsOpenAs s k Offered
Lives s k Held = IsOpenAs s k Taken
Lives s k Over = (1 ≤ k) × (k < s.next_call) × ((c : Call) → Contains s.calls c → c.number ≢ k)
Lives s k Wrong = ⊥

-- the life of each call in the state is the one that the notes of the run say
pub record IsAsNoted (notes : List Note) (s : State) : Type 0 where
  pub apart : AreApart s
  pub lives : (k : ℕ) → Lives s k (lived k New notes)

-- ## within a turn

-- since s calls and memory have not changed, nothing was written or read, and no note is about a call
pub record IsFresh (s : State) (u : Turn) : Type 0 where
  pub calls : u.state.calls ≡ s.calls
  pub next_call : u.state.next_call ≡ s.next_call
  pub memory : u.state.memory ≡ s.memory
  pub writes : u.writes ≡ []
  pub reads : u.reads ≡ []
  pub plain : (n : Note) → Contains u.notes n → is_plain n ≡ true

-- the number was used, and its call is not open
abbrev pub IsClosed : State → ℕ → Type 0
IsClosed s k = (k < s.next_call) × (IsOpen s k → ⊥)

-- nothing is written on the ground of call k
abbrev pub IsSilent : Turn → ℕ → Type 0
IsSilent u k = (w : Written) → Contains u.writes w → call_of_ground w.on ≢ Some k
