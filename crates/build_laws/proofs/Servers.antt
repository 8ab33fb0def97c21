-- The assembler refuses no source of a server.
use Rattle.std.proofs.Common.{◌≡◌, ℕ, ◌<◌, List, ◌++◌, map, refl, codes, decimal}
use Rattle.std.specs.List.{range_with_len}
use Rattle.std.specs.Fmt.{digits}
use Rattle.text_lines.specs.Text.{value_in}
use Rattle.thumb_asm.specs.Chars.{strip_front, strip_end, strip, entry_at, register_names, register, until, from_first}
use Rattle.thumb_asm.specs.Parts.{before, after, parts, pieces, operand_pieces}
use Rattle.thumb_asm.specs.Operands.{closed_by, split_by, operand, operands, natural, signed, expression}
use Rattle.thumb_asm.specs.Syntax.{mnemonics1, mnemonics2, mnemonics3, mnemonics4, mnemonics5, mnemonics6, mnemonics7, mnemonic, expressions, shaped}
use Rattle.thumb_asm.specs.Sizes.{shape_size, has_bad_register, has_bad_number, has_bad_list, has_bad_count, checked, statement_of}
use Rattle.thumb_asm.specs.Meaning.{value, insn_at}
use Rattle.thumb_asm.specs.Causes.{shape_cause}
use Rattle.sample_gen.specs.Sources.{server_lines}
use Rattle.build_laws.proofs.Cards.{Card, card_of, AreFine, one_value}

abbrev offset_line : ℕ → List ℕ
offset_line offset = codes "movs r6, #" ++ decimal offset

abbrev offset_cards : ℕ → Card
offset_cards offset = card_of (offset_line offset)

any_offset : map offset_cards (range_with_len 0 40) ≡ map (λ k. card_of (offset_line 0)) (range_with_len 0 40)
unfolding card_of digits value_in strip_front strip_end strip entry_at register_names register until from_first before after parts pieces operand_pieces closed_by split_by operand operands natural signed expression mnemonics1 mnemonics2 mnemonics3 mnemonics4 mnemonics5 mnemonics6 mnemonics7 mnemonic expressions shaped shape_size has_bad_register has_bad_number has_bad_list has_bad_count checked statement_of value insn_at shape_cause
any_offset = refl

pub same_cards : (offset : ℕ) → offset < 40 → map card_of (server_lines offset) ≡ map card_of (server_lines 0)
unfolding server_lines
same_cards offset h = rw (one_value offset_cards (card_of (offset_line 0)) 40 offset any_offset h) refl

pub fine : AreFine (map card_of (server_lines 0))
unfolding card_of digits value_in strip_front strip_end strip entry_at register_names register until from_first before after parts pieces operand_pieces closed_by split_by operand operands natural signed expression mnemonics1 mnemonics2 mnemonics3 mnemonics4 mnemonics5 mnemonics6 mnemonics7 mnemonic expressions shaped shape_size has_bad_register has_bad_number has_bad_list has_bad_count checked statement_of value insn_at shape_cause server_lines
fine = record { first = refl; second = λ given. refl; sizes = refl; clean = refl }
