-- Why an arrival or commands are refused.
use Rattle.std.proofs.Common.{◌≡◌, ℕ, ◌<◌, ◌≤◌, true, false, List, length, Option, Some, None, refl, sym, ap, ◌∙◌, arith, ltb}
use Rattle.std.specs.Prelude.{is_some, option_map, Ok, Err}
use Rattle.std.proofs.lemmas.Bool.Decides.{nat_tests}
use Rattle.run_script.specs.Scripts.{ScriptData}
use Rattle.debug_core.specs.declared.command.Command.{Command}
use Rattle.debug_core.specs.Reading.{commands_or_fault}
use Rattle.command_files.specs.Contents.{Why, file_limit, or_later, at_number, script_refusal, script_of, fault_in}
use Rattle.trace_cli.specs.Contents.{commands_refusal, arrival_fault, arrival_refusal}
use Rattle.command_files.proofs.Faulting.{short}

-- ## an arrival

arrives : (bytes : List ℕ) (x : ScriptData) (o : Option Why) → length bytes ≤ file_limit → script_refusal bytes ≡ None → x ≡ script_of bytes → arrival_fault x ≡ o → arrival_refusal bytes ≡ o
unfolding arrival_refusal
arrives bytes x o le none is fault = ap (λ (r : Option Why). or_later r (arrival_fault (script_of bytes))) none ∙ ap arrival_fault (sym is) ∙ fault

pub arrival_unread : (bytes : List ℕ) (why : Why) → script_refusal bytes ≡ Some why → arrival_refusal bytes ≡ Some why
unfolding arrival_refusal
arrival_unread bytes why is = ap (λ (r : Option Why). or_later r (arrival_fault (script_of bytes))) is

pub arrival_long : (bytes : List ℕ) (x : ScriptData) → length bytes ≤ file_limit → script_refusal bytes ≡ None → x ≡ script_of bytes → 256 < length x.events → arrival_refusal bytes ≡ Some (at_number (5, 0))
arrival_long bytes x le none is more = arrives bytes x (Some (at_number (5, 0))) le none is (let t : ltb 256 (length x.events) ≡ true = grind (arith, nat_tests) in rw t refl)

pub arrival_ticks : (bytes : List ℕ) (x : ScriptData) → length bytes ≤ file_limit → script_refusal bytes ≡ None → x ≡ script_of bytes → length x.events ≤ 256 → is_some x.every ≡ true → arrival_refusal bytes ≡ Some (at_number (6, 0))
arrival_ticks bytes x le none is few every = arrives bytes x (Some (at_number (6, 0))) le none is (let t : ltb 256 (length x.events) ≡ false = grind (arith, nat_tests) in rw (t, every) refl)

pub arrival_taken : (bytes : List ℕ) (x : ScriptData) → length bytes ≤ file_limit → script_refusal bytes ≡ None → x ≡ script_of bytes → length x.events ≤ 256 → is_some x.every ≡ false → arrival_refusal bytes ≡ None
arrival_taken bytes x le none is few every = arrives bytes x None le none is (let t : ltb 256 (length x.events) ≡ false = grind (arith, nat_tests) in rw (t, every) refl)

-- ## commands

pub commands_taken : (bytes : List ℕ) (cs : List Command) → length bytes ≤ file_limit → commands_or_fault bytes ≡ Ok cs → commands_refusal bytes ≡ None
unfolding commands_refusal
commands_taken bytes cs le is = short file_limit bytes _ le ∙ ap (λ r. option_map at_number (fault_in r)) is

pub commands_refused : (bytes : List ℕ) (why : ℕ × ℕ) → length bytes ≤ file_limit → commands_or_fault bytes ≡ Err why → commands_refusal bytes ≡ Some (at_number why)
unfolding commands_refusal
commands_refused bytes why le is = short file_limit bytes _ le ∙ ap (λ r. option_map at_number (fault_in r)) is
