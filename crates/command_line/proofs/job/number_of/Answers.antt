use Rattle.std.proofs.Common.{◌∙◌, sym, ap, arith}
use Rattle.std.specs.Prelude.{unwrap_or}
use Rattle.std.specs.Str.Parse.{ParsesUnsigned, ExplainsUnsignedError, HasUnsignedDigitsIfOk}
use Rattle.clap.specs.Words.{found_of}
use Rattle.command_line.proofs.Lookups.{looked_up}
use Rattle.command_line.proofs.job.number_of.Goals as goal

pub returns-in-Some-clause-number : goal.returns-in-Some-clause-number
returns-in-Some-clause-number c = λ most few is.
    let e = looked_up _ most (λ bs r. ParsesUnsigned 32 10 bs r × ExplainsUnsignedError 10 bs r × HasUnsignedDigitsIfOk bs r) (λ t r g. g.0)
    (found_of c.args.matches.now) c.args.id.now c.get_one.result c.get_one.ensures.value few is in
    ap (λ o. unwrap_or o 0) (sym c.in-Some.is ∙ e.0)

pub returns-in-Some-clause-few : goal.returns-in-Some-clause-few
returns-in-Some-clause-few c = λ most few is.
    let e = looked_up _ most (λ bs r. ParsesUnsigned 32 10 bs r × ExplainsUnsignedError 10 bs r × HasUnsignedDigitsIfOk bs r) (λ t r g. g.0)
    (found_of c.args.matches.now) c.args.id.now c.get_one.result c.get_one.ensures.value few is in
    rw (ap (λ o. unwrap_or o 0) (sym c.in-Some.is ∙ e.0)) e.1

pub returns-in-None-clause-number : goal.returns-in-None-clause-number
returns-in-None-clause-number c = λ most few is.
    let e = looked_up _ most (λ bs r. ParsesUnsigned 32 10 bs r × ExplainsUnsignedError 10 bs r × HasUnsignedDigitsIfOk bs r) (λ t r g. g.0)
    (found_of c.args.matches.now) c.args.id.now c.get_one.result c.get_one.ensures.value few is in
    ap (λ o. unwrap_or o 0) (sym c.in-None.is ∙ e.0)

pub returns-in-None-clause-few : goal.returns-in-None-clause-few
returns-in-None-clause-few c = λ most few is. omega arith
