use Rattle.std.proofs.Common.{◌+◌, ◌-◌, ◌≤◌, ◌<◌, ◌≡◌, take, drop, length, get_or, refl, sym, ap, ◌∙◌, arith}
use Rattle.mem_banks.specs.declared.bank.Bank.{Bank}
use Rattle.mem_banks.specs.Kept.{seen}
use Rattle.mem_banks.proofs.Copies.{bytes_zero}
use Rattle.mem_banks.proofs.Pieces.{side_of, side_part, not_nowhere}
use Rattle.mem_banks.proofs.ReadPieces.{more_read}
use Rattle.mem_banks.proofs.reading.read_pieces.Goals as goal

pub loop-done-init : goal.loop-done-init
loop-done-init c = record { upto = omega arith; len = refl; so_far = sym (bytes_zero (seen c.args.banks.now) c.args.addr 0 refl) }

pub returns-in_default : goal.returns-in_default
returns-in_default c =
    let some : c.loop-done.done < length c.loop-done.out = omega (arith, c.loop-done-test.true) in
    let len = c.loop-done.invariant.len in
    let side = side_of (seen c.args.banks.now) c.args.addr (length c.args.out.now) c.requires.kept.flash c.requires.within (omega (arith, len)) in
    let part = side_part (seen c.args.banks.now) c.args.addr (length c.args.out.now) (c.args.addr + c.loop-done.done) 1 c.requires.kept.flash side (omega arith) (omega (arith, len)) in
    absurd (not_nowhere c.args.table.now c.args.banks.now (c.args.addr + c.loop-done.done) c.requires.kept c.in_default.ensures.none part)

pub loop-done-preserved : goal.loop-done-preserved
loop-done-preserved c =
    let some : c.loop-done.done < length c.loop-done.out = omega (arith, c.loop-done-test.true) in
    let len = c.loop-done.invariant.len in
    let n : c.loop-done.done + c.min-count.result ≤ length c.args.out.now = omega (arith, len, c.min-count.ensures) in
    let side = side_of (seen c.args.banks.now) c.args.addr (length c.args.out.now) c.requires.kept.flash c.requires.within (omega (arith, len)) in
    let found = c.in-Some.ensures.found in
    let at = found.1 c.index-banks-place.result in
    let is = c.index-banks-place.is in
    let long = ap (λ (b : Bank). length b.bytes.items) is in
    let fits : c.in-Some.place.at + c.min-count.result ≤ length (get_or c.args.banks.now c.in-Some.place.bank c.index-banks-place.result).bytes.items = omega (arith, at.1, long, c.min-count.ensures, c.len.ensures, c.index-banks-place.result.bytes.ok.0) in
    let k : c.in-Some.place.at + c.min-count.result - c.in-Some.place.at ≡ c.min-count.result = omega arith in
    record {
      upto = omega (arith, n, len, c.put.ensures.len);
      len = c.put.ensures.len ∙ len;
      so_far = more_read c.args.table.now c.args.banks.now c.args.addr (length c.args.out.now) c.loop-done.done c.min-count.result c.in-Some.place.bank c.in-Some.place.at c.index-banks-place.result _ _ _ c.requires.kept side n found.0 at.0 fits (rw (k, c.deref.ensures.value) (ap (λ (b : Bank). take c.min-count.result (drop c.in-Some.place.at b.bytes.items)) is)) c.put.ensures.front c.loop-done.invariant.so_far;
    }
