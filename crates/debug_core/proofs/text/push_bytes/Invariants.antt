use Rattle.std.proofs.Common.{◌≡◌, ◌+◌, ◌*◌, ◌++◌, take}
use Rattle.std.specs.List.{flat_map}
use Rattle.arrayvec.specs.ArrayString.{array_string_len}
use Rattle.trace_text.specs.Text.{byte_hex}
use Rattle.debug_core.proofs.text.push_bytes.Given as goal

abbrev pub invariant-loop-byte : goal.invariant-loop-byte
invariant-loop-byte l = record {
  bytes : l.line.bytes ≡ l.fn.line.bytes ++ flat_map byte_hex (take l.byte-index l.bytes);
  len : array_string_len l.line ≡ array_string_len l.fn.line + 2 * l.byte-index;
}
