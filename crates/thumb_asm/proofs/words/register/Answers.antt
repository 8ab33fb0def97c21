use Rattle.std.proofs.Common.{◌∙◌, ◌<◌, IfSome, option_map, map, ap, sym, subst}
use Rattle.thumb_asm.specs.Chars.{lower, register_names, register}
use Rattle.thumb_asm.proofs.Tables.{small_register}
use Rattle.thumb_asm.proofs.words.register.Goals as goal

pub returns-in_err-number-clause-value : goal.returns-in_err-number-clause-value
unfolding register register_names
returns-in_err-number-clause-value c = ap (option_map (λ r. r.number)) c.from_residual.ensures ∙ sym c.in_err-number.was ∙ c.lookup.ensures

pub returns-clause-value : goal.returns-clause-value
unfolding register register_names
returns-clause-value c = sym c.in_ok-number.was ∙ c.lookup.ensures

pub returns-clause-bound : goal.returns-clause-bound
unfolding register_names
returns-clause-bound c = subst (λ o. IfSome o (λ n. n < 16)) (sym (sym c.in_ok-number.was ∙ c.lookup.ensures)) (small_register (map lower c.args.word.now))
