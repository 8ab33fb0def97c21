use Rattle.std.proofs.Common.{◌+◌, ℕ, Bool, not, ap, sym, ◌∙◌, arith}
use Rattle.region_check.specs.Rights.{may_use}
use Rattle.region_check.proofs.FirstBad.{find_range_some, find_range_none}
use Rattle.region_check.proofs.Spanning.{each_given}
use Rattle.region_check.proofs.first_lacking.Goals as goal

pub returns-then-not-may : goal.returns-then-not-may
returns-then-not-may c =
    let test : ℕ → Bool = λ a. not (may_use c.args.regions.now c.args.right a) in
    sym (find_range_some test c.args.addr c.args.len (c.args.addr + c.loop-k.k) (omega arith) (omega arith)
    (λ a from below. ap not (c.loop-k.invariant a from below))
    (ap not (sym c.may.ensures ∙ c.if-not-may.true)))

pub returns : goal.returns
returns c =
    let test : ℕ → Bool = λ a. not (may_use c.args.regions.now c.args.right a) in
    sym (find_range_none test c.args.addr c.args.len (λ a from below. ap not (c.loop-k.invariant a from (omega arith))))

pub returns-then-one_gives : goal.returns-then-one_gives
returns-then-one_gives c =
    let test : ℕ → Bool = λ a. not (may_use c.args.regions.now c.args.right a) in
    sym (find_range_none test c.args.addr c.args.len (λ a from below. ap not (each_given c.args.regions.now c.args.right c.args.addr c.args.len a (sym c.one_gives.ensures ∙ c.if-one_gives.true) from below)))
