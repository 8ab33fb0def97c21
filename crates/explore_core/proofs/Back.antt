-- Back at a state that was saved: its turn, and what is known of each property again.
use Rattle.std.proofs.Common.{◌≡◌, ◌∙◌, ℕ, suc, ◌+◌, ◌*◌, ◌/◌, ◌%◌, ◌≤◌, List, [], ◌∷◌, length, get_or, None, option_map, refl, sym, ap, arith}
use Rattle.std.specs.Prelude.{slice_get, slice_index}
use Rattle.std.proofs.lemmas.Option.{get_or_from_slice_get, none-some, slice_get-get_or}
use Rattle.kernel_abi.specs.Devices.{DeviceData}
use Rattle.task_table.specs.model.State.{Setup, State}
use Rattle.snapshot.specs.Records.{header_at, header_bytes}
use Rattle.snapshot.specs.Restored.{state_in}
use Rattle.snapshot.specs.Saved.{SpellsState, expected_of, spelling}
use Rattle.snapshot.specs.Waits.{state_fault}
use Rattle.snapshot.proofs.Accepts.{accepted}
use Rattle.explore_core.specs.Searching.{IsBackAt}
use Rattle.explore_core.specs.Watching.{Judged, numbered}

-- ## the turn

turn_spelled : (s : State) → (header_at (spelling s)).turn ≡ s.turn
unfolding header_bytes
turn_spelled s = num_again s.turn
  where
    num_again : (n : ℕ) → n % 256 + 256 * (n / 256 % 256) + 65536 * (n / 65536 % 256) + 16777216 * (n / 16777216) ≡ n
    num_again n = omega arith

turn_restored : (g : Setup) (devices : List DeviceData) (bytes : List ℕ) → (state_in g devices bytes).turn ≡ (header_at bytes).turn
unfolding state_in
turn_restored g devices bytes = refl

pub turn_again : (g h : Setup) (devices : List DeviceData) (s : State) (bytes : List ℕ) → SpellsState h s bytes → (state_in g devices bytes).turn ≡ s.turn
turn_again g h devices s bytes spelled = turn_restored g devices bytes ∙ ap (λ (b : List ℕ). (header_at b).turn) spelled.is ∙ turn_spelled s

pub turn_within : (g : Setup) (devices : List DeviceData) (bytes : List ℕ) → state_fault (expected_of g devices) bytes ≡ None → (state_in g devices bytes).turn ≤ 1000000000
turn_within g devices bytes none =
    let same = turn_restored g devices bytes in
    let good = accepted (expected_of g devices) bytes none in
    omega (arith, same, good.turn)

-- ## what is known

as_long : {A : Type 0} (f : ℕ → A → A) (xs ys : List A) → ((k : ℕ) → slice_get ys k ≡ option_map (f k) (slice_get xs k)) → length ys ≡ length xs
as_long f [] [] each = refl
as_long f [] (y ∷ ys) each = absurd (none-some y (sym (each 0)))
as_long f (x ∷ xs) [] each = absurd (none-some (f 0 x) (each 0))
as_long f (x ∷ xs) (y ∷ ys) each = ap (λ n. suc n) (as_long (λ k z. f (suc k) z) xs ys (λ k. each (suc k)))

pub back_at : (numbers : List ℕ) (now back : List Judged) → ((place : ℕ) → slice_get back place ≡ option_map (numbered (slice_index numbers place)) (slice_get now place)) → IsBackAt numbers now back
back_at numbers now back each = record {
  long = as_long (λ k w. numbered (slice_index numbers k) w) now back each;
  each = λ place w lt.
      get_or_from_slice_get back place (numbered (slice_index numbers place) (get_or now place w)) w
      (each place ∙ ap (option_map (numbered (slice_index numbers place))) (slice_get-get_or now place w lt));
}
