use Rattle.std.proofs.Common.{◌∙◌, ◌++◌, ap, sym, arith, append_assoc}
use Rattle.std.proofs.lemmas.List.{append-nil}
use Rattle.std.specs.List.{flat_map, range_with_len}
use Rattle.board_run.specs.MemoryText.{bytes_hex, byte_hex, hex_at}
use Rattle.board_run.proofs.Appending.{range_more}
use Rattle.board_run.proofs.memory.push_bytes.Goals as goal

pub loop-k-init : goal.loop-k-init
unfolding bytes_hex
loop-k-init boxes c = record { bytes = λ x s st. sym (append-nil c.args.line.now.bytes); len = omega arith }

pub loop-k-preserved : goal.loop-k-preserved
unfolding bytes_hex
loop-k-preserved boxes c = record {
  bytes = λ x s st.
      let k = c.loop-k.k in
      let f = hex_at s.memory c.args.addr in
      let old = c.args.line.now.bytes in
      let so_far = flat_map f (range_with_len 0 k) in
      c.push_byte.ensures.bytes
      ∙ ap (λ w. w ++ byte_hex c.byte_at.result) (c.loop-k.invariant.bytes x s st)
      ∙ ap (λ b. (old ++ so_far) ++ byte_hex b) (c.byte_at.ensures x s st)
      ∙ append_assoc old so_far (f k)
      ∙ ap (λ w. old ++ w) (sym (range_more f k));
  len = omega (arith, c.push_byte.ensures.len, c.loop-k.invariant.len);
}
