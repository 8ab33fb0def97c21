use Rattle.std.proofs.Common.{◌≡◌, ◌∙◌, map, refl, sym, subst}
use Rattle.thumb_asm.specs.Chars.{entry_at, lower}
use Rattle.thumb_asm.specs.Syntax.{mnemonic, mnemonics1, mnemonics2, mnemonics3, mnemonics4, mnemonics5, mnemonics6, mnemonics7}
use Rattle.thumb_asm.specs.declared.syntax.mnemonics.TheConstants.{MNEMONICS}
use Rattle.thumb_asm.proofs.Tables.{all_mnemonics, one_table}
use Rattle.thumb_asm.proofs.syntax.mnemonics.mnemonic.Goals as goal

same_table : map (λ e. (e.0.now, e.1)) MNEMONICS.now ≡ all_mnemonics
unfolding mnemonics1 mnemonics2 mnemonics3 mnemonics4 mnemonics5 mnemonics6 mnemonics7
same_table = refl

pub returns : goal.returns
returns c = c.lookup.ensures ∙ subst (λ t. entry_at t (map lower c.args.word.now) ≡ mnemonic c.args.word.now) (sym same_table) (one_table c.args.word.now)
