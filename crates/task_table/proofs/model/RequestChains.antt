-- Each row of the kernel messages.
use Rattle.std.proofs.Common.{◌≡◌, ◌≢◌, ◌/◌, ◌%◌, ◌^◌, ◌<◌, ◌≤◌, inr, ℕ, zero, suc, Bool, true, false, cond, not, ◌&&◌, ◌||◌, List, [], ◌∷◌, ◌++◌, length, Option, Some, None, refl, sym, arith, eqb, leb, is_some, IfSome}
use Rattle.std.specs.Prelude.{find}
use Rattle.std.proofs.lemmas.Bool.{eqb-true, leb-true, leb-false, not-false, false≢true, and_parts}
use Rattle.kernel_abi.specs.Arguments.{send_args}
use Rattle.kernel_abi.specs.Faults.{injected_fault}
use Rattle.kernel_abi.specs.declared.Ending.TheVariants.{Client}
use Rattle.kernel_abi.specs.declared.Health.{Health}
use Rattle.kernel_abi.specs.declared.Health.TheVariants.{Well, Stopped, Faulted}
use Rattle.kernel_abi.specs.declared.Note.TheVariants as note
use Rattle.kernel_abi.specs.declared.arguments.SendArgs.{SendArgs}
use Rattle.region_check.specs.declared.Right.TheVariants as right
use Rattle.mem_banks.specs.Memory.{IsWithinRam, number_at, AreAllBytes}
use Rattle.task_table.specs.model.State.{Setup, Own, Turn}
use Rattle.task_table.specs.model.Reading.{task_at, arguments, is_valid, bad_byte}
use Rattle.task_table.specs.model.Effects.{stored}
use Rattle.task_table.specs.model.Sends.{message_of, reply_room}
use Rattle.task_table.specs.model.Rows.{goes_on_with}
use Rattle.task_table.specs.model.Requests.{Request, word_bytes, status_bytes, injected_by, injected, first_faulted, fault_found, requests, request_of, served, requested}
use Rattle.task_table.specs.model.Sane.{Sane}
use Rattle.task_table.specs.model.Chain.{Here}
use Rattle.task_table.specs.model.Step.{Notes, Stores, Strikes}
use Rattle.task_table.proofs.model.Chains.{one, ◌▷◌}
use Rattle.task_table.proofs.model.Outcomes.{Leads, Comes, by_outcome, comes-misused, comes-denied, goes_with, goes_after_restart}
use Rattle.task_table.proofs.model.Ranges.{may-write, within_ram-good, within_ram-front}
use Rattle.task_table.proofs.model.Receives.{none_left}

-- ## the bytes of a status

status_few : (health : Health) → length (status_bytes health) ≡ 16
status_few Well = refl
status_few Stopped = refl
status_few (Faulted f) = refl

four_bytes : (w : ℕ) (rest : List ℕ) → AreAllBytes rest → AreAllBytes (word_bytes w ++ rest)
four_bytes w rest all b (zero, lt, same) = let e : w % 256 ≡ b = same in omega arith
four_bytes w rest all b (suc zero, lt, same) = let e : w / 2 ^ 8 % 256 ≡ b = same in omega arith
four_bytes w rest all b (suc (suc zero), lt, same) = let e : w / 2 ^ 16 % 256 ≡ b = same in omega arith
four_bytes w rest all b (suc (suc (suc zero)), lt, same) = let e : w / 2 ^ 24 % 256 ≡ b = same in omega arith
four_bytes w rest all b (suc (suc (suc (suc k))), lt, same) = all b (k, omega arith, same)

no_bytes : AreAllBytes []
no_bytes b h = absurd (omega (arith, h.1))

last_bytes : (w : ℕ) → AreAllBytes (word_bytes w)
last_bytes w = four_bytes w [] no_bytes

sixteen_bytes : (a b c d : ℕ) → AreAllBytes (word_bytes a ++ (word_bytes b ++ (word_bytes c ++ word_bytes d)))
sixteen_bytes a b c d = four_bytes a (word_bytes b ++ (word_bytes c ++ word_bytes d)) (four_bytes b (word_bytes c ++ word_bytes d) (four_bytes c (word_bytes d) (last_bytes d)))

status_all : (health : Health) → AreAllBytes (status_bytes health)
status_all Well = sixteen_bytes 0 0 0 0
status_all Stopped = sixteen_bytes 1 0 0 0
status_all (Faulted f) = sixteen_bytes 2 f.number f.x f.y

-- ## what holds of each of a list of requests

abbrev EachRequest : (Request → Type 0) → List Request → Type 0
EachRequest P [] = Unit {0}
EachRequest P (o ∷ list) = P o × EachRequest P list

pub each_found : (P : Request → Type 0) (list : List Request) (number : ℕ) → EachRequest P list → IfSome (find (λ (o : Request). eqb o.number number) list) P
each_found P [] number each = tt
each_found P (o ∷ list) number each = by_number (eqb o.number number) each.0 (each_found P list number each.1)
  where
    by_number : (b : Bool) → P o → IfSome (find (λ (p : Request). eqb p.number number) list) P → IfSome (cond b (Some o) (find (λ (p : Request). eqb p.number number) list)) P
    by_number true here rest = here
    by_number false here rest = rest

-- the supervisor, if a request may not be about it
not_itself : (index : ℕ) (on_supervisor : Bool) → (eqb index 0 && not on_supervisor) ≡ false → on_supervisor ≡ false → index ≢ 0
not_itself index true h e = absurd (false≢true (sym e))
not_itself index false h e = λ zero. absurd (false≢true (sym (rw zero at h)))

module _ (g : Setup) (c : ℕ) (t : Turn) (h : Sane g t.state) (inside : c < length g.tasks) where
  -- ## what each request does

  -- a request that c may make is done, and c goes on
  abbrev IsDone : SendArgs → Request → Type 0
  IsDone x o = (index : ℕ) → index < length g.tasks → (o.on_supervisor ≡ false → index ≢ c) → o.reply ≤ x.reply_capacity → Comes g c t (goes_on_with c (0 ∷ o.reply ∷ []) (o.does g x index t))

  answers : (reply : ℕ) (u : Turn) → Leads g c t u → Comes g c t (goes_on_with c (0 ∷ reply ∷ []) u)
  answers reply u x = goes_with g c t inside (0 ∷ reply ∷ []) u (omega arith) x

  leads-injected : (i : ℕ) → i < length g.tasks → i ≢ c → Leads g c t (injected g i t)
  unfolding injected
  leads-injected i lt other = by_health (task_at t.state i).health
    where
      by_health : (health : Health) → Leads g c t (injected_by g i health t)
      by_health Well = one (Strikes i injected_fault Client t other lt (omega arith) (omega arith) (inr refl) tt, tt)
      by_health Stopped = one (Strikes i injected_fault Client t other lt (omega arith) (omega arith) (inr refl) tt, tt)
      by_health (Faulted f) = Here t

  module _ (x : SendArgs) (writable : bad_byte g c right.Write (reply_room x) ≡ None) where
    leads-status : (health : Health) → 16 ≤ x.reply_capacity → Leads g c t (stored Own x.reply_base (status_bytes health) t)
    leads-status health room =
        let few = status_few health in
        let fits : IsWithinRam t.state.memory x.reply_base (length (status_bytes health)) = within_ram-front t.state.memory x.reply_base x.reply_capacity (length (status_bytes health)) (within_ram-good g t.state.memory c (reply_room x) h.steady.placed writable) (omega arith) in
        one (Stores Own x.reply_base (status_bytes health) t (status_all health) fits fits (λ a low high. may-write g c (reply_room x) a writable (low, omega arith)), tt)

    leads-found : (index : ℕ) → 4 ≤ x.reply_capacity → Leads g c t (fault_found x index t)
    leads-found index room =
        let found = first_faulted t.state index in
        let fits : IsWithinRam t.state.memory x.reply_base 4 = within_ram-front t.state.memory x.reply_base x.reply_capacity 4 (within_ram-good g t.state.memory c (reply_room x) h.steady.placed writable) room in
        one (Stores Own x.reply_base (word_bytes found) t (last_bytes found) fits fits (λ a low high. may-write g c (reply_room x) a writable (low, omega arith)), tt)
        ▷ (Notes (note.Find index found) (stored Own x.reply_base (word_bytes found) t) refl, tt)

    all_done : EachRequest (IsDone x) requests
    all_done = (
      λ index lt other room. answers 16 _ (leads-status (task_at t.state index).health room),
      (
        λ index lt other room. goes_after_restart g c t inside index _ (0 ∷ 0 ∷ []) (other refl) lt (omega arith),
        (λ index lt other room. answers 0 _ (leads-injected index lt (other refl)), (λ index lt other room. answers 4 _ (leads-found index room), tt)),
      ),
    )

    -- ## the rows

    serves : (o : Option Request) → IfSome o (IsDone x) → c ≡ 0 → Comes g c t (served g c x o t)
    serves None done is_first = comes-misused g c t inside 4
    serves (Some o) done is_first =
        let index = number_at t.state.memory x.message_base 4 in
        by_outcome (not (eqb x.message_length o.message && leb o.reply x.reply_capacity)) (λ bad. comes-misused g c t inside 4) (λ known.
        by_outcome (leb (length t.state.tasks) index) (λ out. comes-misused g c t inside 2) (λ there.
        by_outcome (eqb index 0 && not o.on_supervisor) (λ bad. comes-misused g c t inside 4) (λ may.
        let lt : index < length g.tasks = rw (← h.steady.as_many) (leb-false _ _ there) in
        let room = leb-true _ _ (and_parts (eqb x.message_length o.message) (leb o.reply x.reply_capacity) (not-false _ known)).1 in
        done index lt (λ off. rw is_first (not_itself index o.on_supervisor may off)) room)))

  pub comes-requested : Comes g c t (requested g c t)
  unfolding requested
  comes-requested =
      let s = t.state in
      let x = send_args (arguments s c) in
      by_outcome (not (eqb c 0)) (λ other. comes-misused g c t inside 5) (λ zero.
      by_outcome (not (is_valid (message_of x)) || not (is_valid (reply_room x))) (λ bad. comes-misused g c t inside 3) (λ valid.
      by_outcome (is_some (bad_byte g c right.Read (message_of x))) (λ bad. comes-denied g c t inside 2 (bad_byte g c right.Read (message_of x))) (λ readable.
      by_outcome (is_some (bad_byte g c right.Write (reply_room x))) (λ bad. comes-denied g c t inside 3 (bad_byte g c right.Write (reply_room x))) (λ room.
      let writable = none_left _ room in
      serves x writable (request_of x.operation) (each_found (IsDone x) requests x.operation (all_done x writable)) (eqb-true _ _ (not-false _ zero))))))
