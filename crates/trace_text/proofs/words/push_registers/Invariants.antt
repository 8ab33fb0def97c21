use Rattle.std.proofs.Common.{◌≡◌, ◌+◌, ◌*◌, ◌/◌, ◌++◌, length, take}
use Rattle.std.specs.List.{flat_map}
use Rattle.arrayvec.specs.ArrayString.{array_string_len}
use Rattle.trace_text.specs.Text.{spaced_hex}
use Rattle.trace_text.proofs.words.push_registers.Given as goal

abbrev pub invariant-loop-register : goal.invariant-loop-register
invariant-loop-register l = (l.out.bytes ≡ l.fn.out.bytes ++ flat_map spaced_hex (take (length l.registers / 4 * 4 + l.register-index) l.registers)) × (array_string_len l.out ≡ array_string_len l.fn.out + length l.registers / 4 * 36 + 9 * l.register-index)
