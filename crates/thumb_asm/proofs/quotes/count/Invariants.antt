use Rattle.std.proofs.Common.{◌≡◌, ◌+◌, ◌≤◌, length, false}
use Rattle.thumb_asm.specs.Kinds.{good_text}
use Rattle.thumb_asm.proofs.quotes.count.Given as goal

abbrev pub invariant-bytes : goal.invariant-bytes
invariant-bytes l = record {
  so_far : length (good_text false l.text) ≡ l.count + length (good_text false l.left.rest.now);
  few : l.count + length l.left.rest.now ≤ length l.text;
}

abbrev pub decreases-bytes : goal.decreases-bytes
decreases-bytes l = length l.left.rest.now
