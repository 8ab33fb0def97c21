-- The assembler refuses no source of the supervisor.
use Rattle.std.proofs.Common.{map, refl}
use Rattle.std.specs.Fmt.{digits}
use Rattle.text_lines.specs.Text.{value_in}
use Rattle.thumb_asm.specs.Chars.{strip_front, strip_end, strip, entry_at, register_names, register, until, from_first}
use Rattle.thumb_asm.specs.Parts.{before, after, parts, pieces, operand_pieces}
use Rattle.thumb_asm.specs.Operands.{closed_by, split_by, operand, operands, natural, signed, expression}
use Rattle.thumb_asm.specs.Syntax.{mnemonics1, mnemonics2, mnemonics3, mnemonics4, mnemonics5, mnemonics6, mnemonics7, mnemonic, expressions, shaped}
use Rattle.thumb_asm.specs.Sizes.{shape_size, has_bad_register, has_bad_number, has_bad_list, has_bad_count, checked, statement_of}
use Rattle.thumb_asm.specs.Meaning.{value, insn_at}
use Rattle.thumb_asm.specs.Causes.{shape_cause}
use Rattle.sample_gen.specs.Sources.{supervisor_lines}
use Rattle.build_laws.proofs.Cards.{card_of, AreFine}

pub fine : AreFine (map card_of supervisor_lines)
unfolding card_of digits value_in strip_front strip_end strip entry_at register_names register until from_first before after parts pieces operand_pieces closed_by split_by operand operands natural signed expression mnemonics1 mnemonics2 mnemonics3 mnemonics4 mnemonics5 mnemonics6 mnemonics7 mnemonic expressions shaped shape_size has_bad_register has_bad_number has_bad_list has_bad_count checked statement_of value insn_at shape_cause supervisor_lines
fine = record { first = refl; second = λ given. refl; sizes = refl; clean = refl }
