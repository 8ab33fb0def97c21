use Rattle.std.proofs.Common.{◌≡◌, ◌≤◌, ◌+◌, ◌*◌, ◌++◌, map}
use Rattle.arrayvec.specs.ArrayString.{array_string_len}
use Rattle.thumb_insn.specs.Text.{register_name, joined, registers_below, is_empty}
use Rattle.thumb_insn.proofs.text.push_registers.Given as goal

abbrev pub invariant-loop-k : goal.invariant-loop-k
invariant-loop-k l = record {
  bytes : l.out.bytes ≡ l.fn.out.bytes ++ joined (map register_name (registers_below l.list l.k));
  len : array_string_len l.out ≤ array_string_len l.fn.out + 6 * l.k;
  first : l.first ≡ is_empty (registers_below l.list l.k);
}
