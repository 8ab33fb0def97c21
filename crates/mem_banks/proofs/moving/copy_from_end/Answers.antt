use Rattle.std.proofs.Common.{◌+◌, ◌-◌, ◌≤◌, ◌<◌, ◌≡◌, length, get_or, arith}
use Rattle.mem_banks.specs.declared.bank.Bank.{Bank}
use Rattle.mem_banks.specs.Memory.{bytes_at}
use Rattle.mem_banks.specs.Kept.{seen}
use Rattle.mem_banks.proofs.Within.{first_of}
use Rattle.mem_banks.proofs.Copies.{bytes_zero}
use Rattle.mem_banks.proofs.Pieces.{side_of, side_part, nothing_done, not_nowhere, side_done, copy_step_end, at_before, length_at}
use Rattle.mem_banks.proofs.moving.copy_from_end.Goals as goal

pub loop-left-init : goal.loop-left-init
loop-left-init c = record { upto = omega arith; so_far = nothing_done c.args.table.now c.args.banks.now (c.args.to + c.args.count) _ c.requires.kept (bytes_zero (seen c.args.banks.now) (c.args.from + c.args.count) (c.args.count - c.args.count) (omega arith)) }

pub returns-in_default : goal.returns-in_default
returns-in_default c =
    let upto = c.loop-left.invariant.upto in
    let some : 0 < c.args.count = omega (arith, c.loop-left-test.true) in
    let small = c.requires.kept.flash in
    let source = side_of (seen c.args.banks.now) c.args.from c.args.count small c.requires.source some in
    let target = side_of (seen c.args.banks.now) c.args.to c.args.count small c.requires.target some in
    let s_ys = side_part (seen c.args.banks.now) c.args.from c.args.count (c.args.from + c.loop-left.left) (c.args.count - c.loop-left.left) small source (omega arith) (omega arith) in
    let l_ys = length_at (seen c.args.banks.now) (c.args.from + c.loop-left.left) (c.args.count - c.loop-left.left) s_ys in
    let part = side_part (seen c.args.banks.now) c.args.from c.args.count (c.args.from + (c.loop-left.left - 1)) 1 small source (omega arith) (omega (arith, c.loop-left-test.true)) in
    let own = side_part (seen c.args.banks.now) c.args.to c.args.count (c.args.to + c.loop-left.left) (length (bytes_at (seen c.args.banks.now) (c.args.from + c.loop-left.left) (c.args.count - c.loop-left.left))) small target (omega arith) (omega (arith, l_ys)) in
    let here = side_done c.args.table.now c.args.banks.now c.loop-left.banks (c.args.to + c.loop-left.left) (c.args.from + (c.loop-left.left - 1)) 1 _ c.loop-left.invariant.so_far own part in
    absurd (not_nowhere c.args.table.now c.loop-left.banks (c.args.from + (c.loop-left.left - 1)) c.loop-left.invariant.so_far.kept c.in_default.ensures.none here)

pub returns-in_default-find : goal.returns-in_default-find
returns-in_default-find c =
    let upto = c.loop-left.invariant.upto in
    let some : 0 < c.args.count = omega (arith, c.loop-left-test.true) in
    let small = c.requires.kept.flash in
    let source = side_of (seen c.args.banks.now) c.args.from c.args.count small c.requires.source some in
    let target = side_of (seen c.args.banks.now) c.args.to c.args.count small c.requires.target some in
    let s_ys = side_part (seen c.args.banks.now) c.args.from c.args.count (c.args.from + c.loop-left.left) (c.args.count - c.loop-left.left) small source (omega arith) (omega arith) in
    let l_ys = length_at (seen c.args.banks.now) (c.args.from + c.loop-left.left) (c.args.count - c.loop-left.left) s_ys in
    let part = side_part (seen c.args.banks.now) c.args.to c.args.count (c.args.to + (c.loop-left.left - 1)) 1 small target (omega arith) (omega (arith, c.loop-left-test.true)) in
    let own = side_part (seen c.args.banks.now) c.args.to c.args.count (c.args.to + c.loop-left.left) (length (bytes_at (seen c.args.banks.now) (c.args.from + c.loop-left.left) (c.args.count - c.loop-left.left))) small target (omega arith) (omega (arith, l_ys)) in
    let here = side_done c.args.table.now c.args.banks.now c.loop-left.banks (c.args.to + c.loop-left.left) (c.args.to + (c.loop-left.left - 1)) 1 _ c.loop-left.invariant.so_far own part in
    absurd (not_nowhere c.args.table.now c.loop-left.banks (c.args.to + (c.loop-left.left - 1)) c.loop-left.invariant.so_far.kept c.in_default-find.ensures.none here)

pub overflow_add-source : goal.overflow_add-source
overflow_add-source c =
    let at = c.in-Some.ensures.found in
    let small = at.1 (first_of c.loop-left.banks _ at.0) in
    omega (arith, small.0, c.requires.kept.flash)

pub overflow_add-target : goal.overflow_add-target
overflow_add-target c =
    let at = c.in-Some-find.ensures.found in
    let small = at.1 (first_of c.loop-left.banks _ at.0) in
    omega (arith, small.0, c.requires.kept.flash)

pub overflow_add-first : goal.overflow_add-first
overflow_add-first c =
    let at = c.in-Some.ensures.found in
    let small = at.1 (first_of c.loop-left.banks _ at.0) in
    omega (arith, small.0, c.requires.kept.flash)

pub overflow_add-onto : goal.overflow_add-onto
overflow_add-onto c =
    let at = c.in-Some-find.ensures.found in
    let small = at.1 (first_of c.loop-left.banks _ at.0) in
    omega (arith, small.0, c.requires.kept.flash)

pub loop-left-preserved : goal.loop-left-preserved
loop-left-preserved c =
    let upto = c.loop-left.invariant.upto in
    let pos = c.loop-left-test.true in
    let some : 0 < c.args.count = omega (arith, pos) in
    let small = c.requires.kept.flash in
    let source = side_of (seen c.args.banks.now) c.args.from c.args.count small c.requires.source some in
    let target = side_of (seen c.args.banks.now) c.args.to c.args.count small c.requires.target some in
    let n : c.min-n.result ≤ c.loop-left.left = omega (arith, c.min-n.ensures) in
    let n_i : c.min-n.result ≤ c.in-Some.source.at + 1 = omega (arith, c.min-n.ensures, c.min.ensures) in
    let n_o : c.min-n.result ≤ c.in-Some-find.target.at + 1 = omega (arith, c.min-n.ensures, c.min.ensures) in
    let n_0 : 0 < c.min-n.result = omega (arith, c.min-n.ensures, c.min.ensures) in
    let at_j = at_before c.loop-left.banks c.in-Some.source.bank c.in-Some.source.at (c.args.from + (c.loop-left.left - 1)) (c.args.from + (c.loop-left.left - c.min-n.result)) c.min-n.result c.in-Some.ensures.found n_0 n_i (omega arith) in
    let at_k = at_before c.loop-left.banks c.in-Some-find.target.bank c.in-Some-find.target.at (c.args.to + (c.loop-left.left - 1)) (c.args.to + (c.loop-left.left - c.min-n.result)) c.min-n.result c.in-Some-find.ensures.found n_0 n_o (omega arith) in
    let fits_j : (d : Bank) → c.in-Some.source.at + 1 - c.min-n.result + c.min-n.result ≤ length (get_or c.loop-left.banks c.in-Some.source.bank d).bytes.items = λ d. omega (arith, (c.in-Some.ensures.found.1 d).1) in
    let fits_k : (d : Bank) → c.in-Some-find.target.at + 1 - c.min-n.result + c.min-n.result ≤ length (get_or c.loop-left.banks c.in-Some-find.target.bank d).bytes.items = λ d. omega (arith, (c.in-Some-find.ensures.found.1 d).1) in
    let k : c.args.count - (c.loop-left.left - c.min-n.result) ≡ c.min-n.result + (c.args.count - c.loop-left.left) = omega arith in
    record {
      upto = omega arith;
      so_far = rw k (copy_step_end c.args.table.now c.args.banks.now c.loop-left.banks c.move_piece.new.banks c.args.from c.args.to c.min-n.result c.loop-left.left (c.args.count - c.loop-left.left) c.args.count (c.loop-left.left - c.min-n.result) c.in-Some.source.bank _ c.in-Some-find.target.bank _ c.requires.kept c.loop-left.invariant.so_far source target c.requires.order (omega arith) (omega arith) at_j at_k fits_j fits_k c.move_piece.ensures);
    }
