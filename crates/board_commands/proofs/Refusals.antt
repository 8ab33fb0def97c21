-- Why a saved state is refused.
use Rattle.std.proofs.Common.{◌≡◌, ℕ, ◌<◌, ◌≤◌, true, false, List, length, Option, Some, None, refl, sym, ap, ◌∙◌, arith, ltb, cond, nat_lt}
use Rattle.std.specs.Prelude.{option_map}
use Rattle.std.proofs.lemmas.Bool.Decides.{nat_tests}
use Rattle.image_format.specs.ImageData.{ImageData}
use Rattle.kernel_abi.specs.Devices.{DeviceData}
use Rattle.snapshot.specs.Records.{header_at}
use Rattle.snapshot.specs.Saved.{expected_of}
use Rattle.snapshot.specs.Waits.{state_fault}
use Rattle.command_files.specs.Contents.{file_limit, setup_of_image, or_later, at_number}
use Rattle.board_commands.specs.Contents.{state_refusal, turn_refusal}
use Rattle.command_files.proofs.Faulting.{short}

by_state_fault : (devices : List DeviceData) (image : ImageData) (bound : ℕ) (bytes : List ℕ) (o : Option (ℕ × ℕ)) → length bytes ≤ file_limit → state_fault (expected_of (setup_of_image image) devices) bytes ≡ o
    → state_refusal devices image bound bytes ≡ or_later (option_map at_number o) (turn_refusal bound bytes)
unfolding state_refusal
by_state_fault devices image bound bytes o le is = short file_limit bytes _ le ∙ ap (λ p. or_later (option_map at_number p) (turn_refusal bound bytes)) is

pub state_refused : (devices : List DeviceData) (image : ImageData) (bound : ℕ) (bytes : List ℕ) (why : ℕ × ℕ) → length bytes ≤ file_limit → state_fault (expected_of (setup_of_image image) devices) bytes ≡ Some why
    → state_refusal devices image bound bytes ≡ Some (at_number why)
state_refused devices image bound bytes why le is = by_state_fault devices image bound bytes (Some why) le is

within : (bound turn : ℕ) → turn ≤ bound → cond (nat_lt bound turn) (Some (at_number (8, 4))) None ≡ None
within bound turn le = let t : ltb bound turn ≡ false = grind (arith, nat_tests) in rw t refl

behind : (bound turn : ℕ) → bound < turn → cond (nat_lt bound turn) (Some (at_number (8, 4))) None ≡ Some (at_number (8, 4))
behind bound turn lt = let t : ltb bound turn ≡ true = grind (arith, nat_tests) in rw t refl

pub state_taken : (devices : List DeviceData) (image : ImageData) (bound turn : ℕ) (bytes : List ℕ) → length bytes ≤ file_limit → state_fault (expected_of (setup_of_image image) devices) bytes ≡ None
    → turn ≡ (header_at bytes).turn → turn ≤ bound → state_refusal devices image bound bytes ≡ None
state_taken devices image bound turn bytes le is at few =
    by_state_fault devices image bound bytes None le is ∙ ap (λ (t : ℕ). cond (nat_lt bound t) (Some (at_number (8, 4))) None) (sym at) ∙ within bound turn few

pub state_late : (devices : List DeviceData) (image : ImageData) (bound turn : ℕ) (bytes : List ℕ) → length bytes ≤ file_limit → state_fault (expected_of (setup_of_image image) devices) bytes ≡ None
    → turn ≡ (header_at bytes).turn → bound < turn → state_refusal devices image bound bytes ≡ Some (at_number (8, 4))
state_late devices image bound turn bytes le is at more =
    by_state_fault devices image bound bytes None le is ∙ ap (λ (t : ℕ). cond (nat_lt bound t) (Some (at_number (8, 4))) None) (sym at) ∙ behind bound turn more
