use Rattle.std.proofs.Common.{◌≡◌, ◌+◌, ◌*◌, ◌++◌, take}
use Rattle.std.specs.List.{flat_map}
use Rattle.arrayvec.specs.ArrayString.{array_string_len}
use Rattle.trace_text.specs.Text.{spaced_hex}
use Rattle.trace_text.proofs.words.push_fours.Given as goal

abbrev pub invariant-loop-i : goal.invariant-loop-i
invariant-loop-i l = (l.out.bytes ≡ l.fn.out.bytes ++ flat_map spaced_hex (take (l.i * 4) l.registers)) × (array_string_len l.out ≡ array_string_len l.fn.out + l.i * 36)
