use Rattle.std.proofs.Common.{◌+◌, ◌≤◌, ◌<◌, length, get_or, refl, arith}
use Rattle.mem_banks.specs.declared.bank.Bank.{Bank}
use Rattle.mem_banks.specs.Memory.{bytes_at}
use Rattle.mem_banks.specs.Kept.{seen}
use Rattle.std.proofs.lemmas.List.{get_or_default}
use Rattle.mem_banks.proofs.Copies.{bytes_zero}
use Rattle.mem_banks.proofs.Pieces.{side_of, side_part, nothing_done, not_nowhere, side_done, copy_step, length_at}
use Rattle.mem_banks.proofs.moving.copy_from_start.Goals as goal

pub loop-done-init : goal.loop-done-init
loop-done-init c = record { upto = omega arith; so_far = nothing_done c.args.table.now c.args.banks.now c.args.to _ c.requires.kept (bytes_zero (seen c.args.banks.now) c.args.from 0 refl) }

pub returns-in_default : goal.returns-in_default
returns-in_default c =
    let upto = c.loop-done.invariant.upto in
    let some : 0 < c.args.count = omega (arith, c.loop-done-test.true) in
    let small = c.requires.kept.flash in
    let source = side_of (seen c.args.banks.now) c.args.from c.args.count small c.requires.source some in
    let target = side_of (seen c.args.banks.now) c.args.to c.args.count small c.requires.target some in
    let s_ys = side_part (seen c.args.banks.now) c.args.from c.args.count c.args.from c.loop-done.done small source (omega arith) (omega arith) in
    let l_ys = length_at (seen c.args.banks.now) c.args.from c.loop-done.done s_ys in
    let part = side_part (seen c.args.banks.now) c.args.from c.args.count (c.args.from + c.loop-done.done) 1 small source (omega arith) (omega (arith, c.loop-done-test.true)) in
    let own = side_part (seen c.args.banks.now) c.args.to c.args.count c.args.to (length (bytes_at (seen c.args.banks.now) c.args.from c.loop-done.done)) small target (omega arith) (omega (arith, l_ys)) in
    let here = side_done c.args.table.now c.args.banks.now c.loop-done.banks c.args.to (c.args.from + c.loop-done.done) 1 _ c.loop-done.invariant.so_far own part in
    absurd (not_nowhere c.args.table.now c.loop-done.banks (c.args.from + c.loop-done.done) c.loop-done.invariant.so_far.kept c.in_default.ensures.none here)

pub returns-in_default-find : goal.returns-in_default-find
returns-in_default-find c =
    let upto = c.loop-done.invariant.upto in
    let some : 0 < c.args.count = omega (arith, c.loop-done-test.true) in
    let small = c.requires.kept.flash in
    let source = side_of (seen c.args.banks.now) c.args.from c.args.count small c.requires.source some in
    let target = side_of (seen c.args.banks.now) c.args.to c.args.count small c.requires.target some in
    let s_ys = side_part (seen c.args.banks.now) c.args.from c.args.count c.args.from c.loop-done.done small source (omega arith) (omega arith) in
    let l_ys = length_at (seen c.args.banks.now) c.args.from c.loop-done.done s_ys in
    let part = side_part (seen c.args.banks.now) c.args.to c.args.count (c.args.to + c.loop-done.done) 1 small target (omega arith) (omega (arith, c.loop-done-test.true)) in
    let own = side_part (seen c.args.banks.now) c.args.to c.args.count c.args.to (length (bytes_at (seen c.args.banks.now) c.args.from c.loop-done.done)) small target (omega arith) (omega (arith, l_ys)) in
    let here = side_done c.args.table.now c.args.banks.now c.loop-done.banks c.args.to (c.args.to + c.loop-done.done) 1 _ c.loop-done.invariant.so_far own part in
    absurd (not_nowhere c.args.table.now c.loop-done.banks (c.args.to + c.loop-done.done) c.loop-done.invariant.so_far.kept c.in_default-find.ensures.none here)

pub loop-done-preserved : goal.loop-done-preserved
loop-done-preserved c =
    let upto = c.loop-done.invariant.upto in
    let some : 0 < c.args.count = omega (arith, c.loop-done-test.true) in
    let small = c.requires.kept.flash in
    let source = side_of (seen c.args.banks.now) c.args.from c.args.count small c.requires.source some in
    let target = side_of (seen c.args.banks.now) c.args.to c.args.count small c.requires.target some in
    let n : c.loop-done.done + c.min-n.result ≤ c.args.count = omega (arith, c.min-n.ensures) in
    let at_j = c.in-Some.ensures.found in
    let at_k = c.in-Some-find.ensures.found in
    let in_j = (at_j.1 c.index-banks-source.result).1 in
    let in_k = (at_k.1 c.index-banks-target.result).1 in
    let one_j : c.in-Some.source.at + c.min-n.result ≤ length (get_or c.loop-done.banks c.in-Some.source.bank c.index-banks-source.result).bytes.items = omega (arith, in_j, c.min-n.ensures, c.min.ensures, c.len.ensures, (get_or c.loop-done.banks c.in-Some.source.bank c.index-banks-source.result).bytes.ok.0) in
    let one_k : c.in-Some-find.target.at + c.min-n.result ≤ length (get_or c.loop-done.banks c.in-Some-find.target.bank c.index-banks-target.result).bytes.items = omega (arith, in_k, c.min-n.ensures, c.min.ensures, c.len-in-loop-done.ensures, (get_or c.loop-done.banks c.in-Some-find.target.bank c.index-banks-target.result).bytes.ok.0) in
    let fits_j : (d : Bank) → c.in-Some.source.at + c.min-n.result ≤ length (get_or c.loop-done.banks c.in-Some.source.bank d).bytes.items = λ d. rw (get_or_default c.loop-done.banks c.in-Some.source.bank d c.index-banks-source.result at_j.0) one_j in
    let fits_k : (d : Bank) → c.in-Some-find.target.at + c.min-n.result ≤ length (get_or c.loop-done.banks c.in-Some-find.target.bank d).bytes.items = λ d. rw (get_or_default c.loop-done.banks c.in-Some-find.target.bank d c.index-banks-target.result at_k.0) one_k in
    record {
      upto = n;
      so_far = copy_step c.args.table.now c.args.banks.now c.loop-done.banks c.move_piece.new.banks c.args.from c.args.to c.min-n.result c.loop-done.done c.args.count c.in-Some.source.bank c.in-Some.source.at c.in-Some-find.target.bank c.in-Some-find.target.at c.requires.kept c.loop-done.invariant.so_far source target c.requires.order n at_j at_k fits_j fits_k c.move_piece.ensures;
    }
