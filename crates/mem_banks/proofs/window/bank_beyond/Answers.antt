use Rattle.std.proofs.Common.{get_or, arith}
use Rattle.mem_banks.specs.declared.bank.Bank.{Bank}
use Rattle.mem_banks.proofs.Within.{first_of}
use Rattle.mem_banks.proofs.Openings.{no_bank_nowhere, no_bank_other}
use Rattle.mem_banks.proofs.window.bank_beyond.Goals as goal
use Rattle.mem_banks.proofs.window.bank_beyond.Goals.{else-place-eq0-via-then-place-eq0+else-len-region, else-place-eq0-via-else-place-eq0}

pub returns-in_err-place-clause-none : goal.returns-in_err-place-clause-none
returns-in_err-place-clause-none c = rw c.from_residual.ensures (no_bank_nowhere c.args.banks.now c.args.region c.in_err-place.ensures.none)

pub returns-clause-none : goal.returns-clause-none
returns-clause-none c =
    let found = c.in_ok-place.ensures.found in
    no_bank_other c.args.table.now c.args.banks.now c.in_ok-place.place.bank c.in_ok-place.place.at c.args.region c.requires found (λ of_j. elim c.else-place-eq0.branch [
      | else-place-eq0-via-then-place-eq0+else-len-region w ↦
          let size = (get_or c.args.banks.now c.in_ok-place.place.bank w.index-banks-place.result).bytes.ok in
          omega (arith, size, w.len.ensures, w.if-len-region.false, (of_j.1 w.index-banks-place.result).1)
      | else-place-eq0-via-else-place-eq0 w ↦
          let d : Bank = first_of c.args.banks.now c.in_ok-place.place.bank of_j.0 in
          omega (arith, w.if-place-eq0.false, (found.1 d).0, (of_j.1 d).0)
    ])
