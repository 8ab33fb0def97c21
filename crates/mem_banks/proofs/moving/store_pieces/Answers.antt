use Rattle.std.proofs.Common.{◌+◌, ◌-◌, ◌≤◌, ◌<◌, ◌≡◌, [], take, drop, length, get_or, length-take, refl, arith}
use Rattle.mem_banks.specs.Kept.{seen}
use Rattle.mem_banks.proofs.Copies.{length_part}
use Rattle.mem_banks.proofs.Lists.{take_joined}
use Rattle.mem_banks.proofs.Pieces.{side_of, side_part, at_hand, nothing_done, more_done, put_done, not_nowhere}
use Rattle.mem_banks.proofs.moving.store_pieces.Goals as goal

pub loop-done-init : goal.loop-done-init
loop-done-init c = record { upto = omega arith; so_far = nothing_done c.args.table.now c.args.banks.now c.args.addr [] c.requires.kept refl }

pub returns-in_default : goal.returns-in_default
returns-in_default c =
    let len : length (take c.loop-done.done c.args.bytes.now) ≡ c.loop-done.done = rw length-take (omega (arith, c.loop-done.invariant.upto)) in
    let some : c.loop-done.done < length c.args.bytes.now = omega (arith, c.loop-done-test.true) in
    let side = side_of (seen c.args.banks.now) c.args.addr (length c.args.bytes.now) c.requires.kept.flash c.requires.within (omega arith) in
    let part = side_part (seen c.args.banks.now) c.args.addr (length c.args.bytes.now) (c.args.addr + c.loop-done.done) 1 c.requires.kept.flash side (omega arith) (omega arith) in
    let here = at_hand c.args.table.now c.args.banks.now c.loop-done.banks c.args.addr c.args.addr (length c.args.bytes.now) (c.args.addr + c.loop-done.done) 1 _ c.requires.kept c.loop-done.invariant.so_far side (omega arith) (omega (arith, len)) part in
    absurd (not_nowhere c.args.table.now c.loop-done.banks (c.args.addr + c.loop-done.done) c.loop-done.invariant.so_far.kept c.in_default.ensures.none here)

pub loop-done-preserved : goal.loop-done-preserved
loop-done-preserved c =
    let upto = c.loop-done.invariant.upto in
    let so_far = c.loop-done.invariant.so_far in
    let n : c.loop-done.done + c.min-count.result ≤ length c.args.bytes.now = omega (arith, c.min-count.ensures) in
    let some : c.loop-done.done < length c.args.bytes.now = omega (arith, c.loop-done-test.true) in
    let side = side_of (seen c.args.banks.now) c.args.addr (length c.args.bytes.now) c.requires.kept.flash c.requires.within (omega arith) in
    let len : length (take c.loop-done.done c.args.bytes.now) ≡ c.loop-done.done = rw length-take (omega arith) in
    let k : c.loop-done.done + c.min-count.result - c.loop-done.done ≡ c.min-count.result = omega arith in
    let put = rw k at c.put_in.ensures in
    let zs : length (take c.min-count.result (drop c.loop-done.done c.args.bytes.now)) ≡ c.min-count.result = length_part c.args.bytes.now c.loop-done.done c.min-count.result n in
    let part = side_part (seen c.args.banks.now) c.args.addr (length c.args.bytes.now) (c.args.addr + c.loop-done.done) (length (take c.min-count.result (drop c.loop-done.done c.args.bytes.now))) c.requires.kept.flash side (omega arith) (omega (arith, zs)) in
    let here = at_hand c.args.table.now c.args.banks.now c.loop-done.banks c.args.addr c.args.addr (length c.args.bytes.now) (c.args.addr + c.loop-done.done) _ _ c.requires.kept so_far side (omega arith) (omega (arith, len)) part in
    let inb = (c.in-Some.ensures.found.1 c.index-banks-place.result).1 in
    let fits : c.in-Some.place.at + length (take c.min-count.result (drop c.loop-done.done c.args.bytes.now)) ≤ length (get_or c.loop-done.banks c.in-Some.place.bank c.index-banks-place.result).bytes.items = omega (arith, zs, c.min-count.ensures, c.len.ensures, (get_or c.loop-done.banks c.in-Some.place.bank c.index-banks-place.result).bytes.ok.0, inb) in
    let piece = put_done c.args.table.now c.loop-done.banks c.put_in.new.banks c.in-Some.place.bank c.in-Some.place.at (c.args.addr + c.loop-done.done) _ c.index-banks-place.result so_far.kept c.in-Some.ensures.found.0 (c.in-Some.ensures.found.1 c.index-banks-place.result).0 fits put in
    let both = side_part (seen c.args.banks.now) c.args.addr (length c.args.bytes.now) c.args.addr (length (take c.loop-done.done c.args.bytes.now) + length (take c.min-count.result (drop c.loop-done.done c.args.bytes.now))) c.requires.kept.flash side (omega arith) (omega (arith, len, zs)) in
    let all = more_done c.args.table.now c.args.banks.now c.loop-done.banks c.put_in.new.banks c.args.addr (c.args.addr + c.loop-done.done) (take c.loop-done.done c.args.bytes.now) _ c.requires.kept so_far piece (omega (arith, len)) both in
    record { upto = n; so_far = rw (take_joined c.args.bytes.now c.loop-done.done c.min-count.result n) at all }
