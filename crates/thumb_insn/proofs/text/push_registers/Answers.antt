use Rattle.std.proofs.Common.{arith, refl, sym}
use Rattle.std.proofs.lemmas.List.{append-nil}
use Rattle.thumb_insn.proofs.Listed.{start, grows, stays, goes_on}
use Rattle.thumb_insn.proofs.text.push_registers.Goals as goal
use Rattle.thumb_insn.proofs.text.push_registers.Goals.{then-list-k-eq1, else-list-k-eq1}

pub loop-k-init : goal.loop-k-init
loop-k-init c = record {
  bytes = rw (start c.args.list) (sym (append-nil c.args.out.now.bytes));
  len = omega arith;
  first = rw (start c.args.list) refl;
}

pub loop-k-preserved : goal.loop-k-preserved
loop-k-preserved c = elim c.if-list-k-eq1.branch [
  | then-list-k-eq1 w ↦
      let g = grows c.args.out.now.bytes c.loop-k.out.bytes c.args.list c.loop-k.k c.loop-k.first w.if-list-k-eq1.true c.loop-k.invariant.bytes c.loop-k.invariant.first in
      let h = goes_on c.args.list c.loop-k.k w.if-list-k-eq1.true in
      record { bytes = cc; len = grind arith; first = cc }
  | else-list-k-eq1 w ↦
      let h = stays c.args.list c.loop-k.k w.if-list-k-eq1.false in
      record { bytes = cc; len = grind arith; first = cc }
]
