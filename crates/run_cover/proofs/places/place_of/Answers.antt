use Rattle.std.proofs.Common.{◌∙◌, sym, arith}
use Rattle.run_cover.proofs.Numbered.{at_even, at_odd, low_number, high_number, no_number}
use Rattle.run_cover.proofs.places.place_of.Goals as goal
use Rattle.run_cover.proofs.places.place_of.Goals.{else-addr-ge-FLASH-via-then-addr-ge-FLASH+else-addr, else-addr-ge-FLASH-via-else-addr-ge-FLASH, else-addr-ge-RAM-via-then-addr-ge-RAM+else-addr-2, else-addr-ge-RAM-via-else-addr-ge-RAM}

pub returns-then-addr-ne0 : goal.returns-then-addr-ne0
returns-then-addr-ne0 c = sym (at_odd c.args.addr c.if-addr-ne0.true)

pub returns-then-addr : goal.returns-then-addr
returns-then-addr c = sym (at_even c.args.addr c.if-addr-ne0.false ∙ low_number c.args.addr c.if-addr-ge-FLASH.true c.if-addr.true)

pub returns-then-addr-2 : goal.returns-then-addr-2
returns-then-addr-2 c = sym (at_even c.args.addr c.if-addr-ne0.false ∙ high_number c.args.addr c.if-addr-ge-RAM.true c.if-addr-2.true)

pub returns : goal.returns
returns c = sym (at_even c.args.addr c.if-addr-ne0.false ∙ no_number c.args.addr
    (λ le lt. elim c.else-addr-ge-FLASH.branch [ else-addr-ge-FLASH-via-then-addr-ge-FLASH+else-addr w ↦ absurd (omega (arith, w.if-addr.false)) | else-addr-ge-FLASH-via-else-addr-ge-FLASH w ↦ absurd (omega (arith, w.if-addr-ge-FLASH.false)) ])
    (λ le lt. elim c.else-addr-ge-RAM.branch [ else-addr-ge-RAM-via-then-addr-ge-RAM+else-addr-2 w ↦ absurd (omega (arith, w.if-addr-2.false)) | else-addr-ge-RAM-via-else-addr-ge-RAM w ↦ absurd (omega (arith, w.if-addr-ge-RAM.false)) ]))
