use Rattle.std.proofs.Common.{get_or, arith, refl}
use Rattle.mem_banks.proofs.Pieces.{put_found}
use Rattle.mem_banks.proofs.moving.store_at.Goals as goal

pub returns-then-at-bytes : goal.returns-then-at-bytes
returns-then-at-bytes c =
    let there = c.requires.kept.hints c.page.result 0 (omega (arith, c.page.ensures, c.requires.kept.pages)) in
    let k = get_or c.args.table.now c.page.result 0 in
    let len = (get_or c.args.banks.now k c.index-banks-k.result).bytes.ok.0 in
    put_found c.args.table.now c.args.banks.now c.put_in.new.banks k _ c.args.addr c.args.bytes.now c.index-banks-k.result c.requires.kept there (omega (arith, c.ranges.addr.fits)) refl (omega (arith, c.if-at-bytes.true, c.len.ensures, len)) c.put_in.ensures
