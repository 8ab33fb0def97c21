use Rattle.std.proofs.Common.{◌≡◌, ℕ, zero, suc, List, [], ◌∷◌, Option, Some, None, refl}
use Rattle.std.proofs.lemmas.Option.{same_Some}
use Rattle.kernel_abi.specs.Devices.{DeviceData}
use Rattle.command_line.specs.CommandLine.{run}
use Rattle.command_line.specs.declared.job.Detail.{Detail}
use Rattle.command_files.specs.Contents.{image_refusal, script_refusal, image_data_of, scenario_of}
use Rattle.trace_cli.specs.Words.{job_in}
use Rattle.command_files.specs.Sources.{image_file, script_file, Are, Takes}
use Rattle.command_files.specs.Verdict.{Verdict}
use Rattle.trace_cli.specs.Verdict.{IsVerdict, does}
use Rattle.board_commands.specs.Verdict.{ran}
use Rattle.trace_cli.proofs.OneVerdict.{one_verdict}
use Rattle.trace_cli.proofs.laws.run_tells_the_abstract_run.Goals as goal

module _ (devices : List DeviceData) (seen : List ℕ → Option (List ℕ)) (image_name script_name image script : List ℕ) (image_seen : seen image_name ≡ Some image) (script_seen : seen script_name ≡ Some script)
    (image_taken : image_refusal image ≡ None) (script_taken : script_refusal script ≡ None) where
  -- the image, and then the script
  takes_both : Takes (Are seen) (image_file image_name ∷ script_file script_name ∷ []) (image ∷ script ∷ [])
  takes_both zero bytes e = let same = same_Some image bytes e in (image_file image_name, refl, rw (← same) image_seen, rw (← same) image_taken)
  takes_both (suc zero) bytes e = let same = same_Some script bytes e in (script_file script_name, refl, rw (← same) script_seen, rw (← same) script_taken)
  takes_both (suc (suc k)) bytes e = absurd (cc)

  verdict : (words : List (List ℕ)) (n : ℕ) (detail : Detail) (v : Verdict) → job_in words ≡ Some (run image_name script_name n detail) → v ≡ ran n detail (scenario_of (image_data_of image) script devices) → IsVerdict devices words seen v
  verdict words n detail v at e = does (run image_name script_name n detail) (image ∷ script ∷ []) at (record { takes = takes_both; all = refl }) e

pub returns : goal.returns
returns c = λ devices words seen image_name script_name image script n detail v at image_seen script_seen image_taken script_taken.
    let done : Verdict = ran n detail (scenario_of (image_data_of image) script devices) in
    let is = verdict devices seen image_name script_name image script image_seen script_seen image_taken script_taken words n detail in
    (λ h. one_verdict words seen v done h (is done at refl), is v at)
