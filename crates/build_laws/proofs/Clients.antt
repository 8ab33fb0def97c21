-- The assembler refuses no source of a client.
use Rattle.std.proofs.Common.{◌≡◌, ℕ, ◌<◌, List, ◌++◌, map, refl, codes, decimal, arith}
use Rattle.std.specs.List.{range_with_len}
use Rattle.std.specs.Fmt.{digits}
use Rattle.text_lines.specs.Text.{value_in}
use Rattle.thumb_asm.specs.Chars.{strip_front, strip_end, strip, entry_at, register_names, register, until, from_first}
use Rattle.thumb_asm.specs.Parts.{before, after, parts, pieces, operand_pieces}
use Rattle.thumb_asm.specs.Operands.{closed_by, split_by, operand, operands, natural, signed, expression}
use Rattle.thumb_asm.specs.Syntax.{mnemonics1, mnemonics2, mnemonics3, mnemonics4, mnemonics5, mnemonics6, mnemonics7, mnemonic, expressions, shaped}
use Rattle.thumb_asm.specs.Sizes.{shape_size, has_bad_register, has_bad_number, has_bad_list, has_bad_count, checked, statement_of}
use Rattle.thumb_asm.specs.Meaning.{value, insn_at}
use Rattle.thumb_asm.specs.Causes.{shape_cause}
use Rattle.sample_gen.specs.Sources.{client_lines}
use Rattle.build_laws.proofs.Cards.{Card, card_of, AreFine, one_value}

abbrev server_line : ℕ → List ℕ
server_line server = codes "loop: movs r4, #" ++ decimal server

abbrev server_cards : ℕ → Card
server_cards server = card_of (server_line server)

any_server : map server_cards (range_with_len 0 8) ≡ map (λ k. card_of (server_line 0)) (range_with_len 0 8)
unfolding card_of digits value_in strip_front strip_end strip entry_at register_names register until from_first before after parts pieces operand_pieces closed_by split_by operand operands natural signed expression mnemonics1 mnemonics2 mnemonics3 mnemonics4 mnemonics5 mnemonics6 mnemonics7 mnemonic expressions shaped shape_size has_bad_register has_bad_number has_bad_list has_bad_count checked statement_of value insn_at shape_cause
any_server = refl

-- of the operation and of the period
abbrev added_line : ℕ → List ℕ
added_line number = codes "adds r4, #" ++ decimal number

abbrev added_cards : ℕ → Card
added_cards number = card_of (added_line number)

any_added : map added_cards (range_with_len 0 9) ≡ map (λ k. card_of (added_line 0)) (range_with_len 0 9)
unfolding card_of digits value_in strip_front strip_end strip entry_at register_names register until from_first before after parts pieces operand_pieces closed_by split_by operand operands natural signed expression mnemonics1 mnemonics2 mnemonics3 mnemonics4 mnemonics5 mnemonics6 mnemonics7 mnemonic expressions shaped shape_size has_bad_register has_bad_number has_bad_list has_bad_count checked statement_of value insn_at shape_cause
any_added = refl

abbrev size_line : ℕ → List ℕ
size_line size = codes "movs r6, #" ++ decimal size

abbrev size_cards : ℕ → Card
size_cards size = card_of (size_line size)

any_size : map size_cards (range_with_len 0 33) ≡ map (λ k. card_of (size_line 0)) (range_with_len 0 33)
unfolding card_of digits value_in strip_front strip_end strip entry_at register_names register until from_first before after parts pieces operand_pieces closed_by split_by operand operands natural signed expression mnemonics1 mnemonics2 mnemonics3 mnemonics4 mnemonics5 mnemonics6 mnemonics7 mnemonic expressions shaped shape_size has_bad_register has_bad_number has_bad_list has_bad_count checked statement_of value insn_at shape_cause
any_size = refl

pub same_cards : (server operation size period : ℕ) → server < 8 → operation < 6 → size < 33 → period < 9 → map card_of (client_lines server operation size period) ≡ map card_of (client_lines 0 0 0 0)
unfolding client_lines
same_cards server operation size period h i j k =
    rw (one_value server_cards (card_of (server_line 0)) 8 server any_server h) (rw (one_value added_cards (card_of (added_line 0)) 9 operation any_added (omega (arith, i))) (rw (one_value size_cards (card_of (size_line 0)) 33 size any_size j) (rw (one_value added_cards (card_of (added_line 0)) 9 period any_added k) refl)))

pub fine : AreFine (map card_of (client_lines 0 0 0 0))
unfolding card_of digits value_in strip_front strip_end strip entry_at register_names register until from_first before after parts pieces operand_pieces closed_by split_by operand operands natural signed expression mnemonics1 mnemonics2 mnemonics3 mnemonics4 mnemonics5 mnemonics6 mnemonics7 mnemonic expressions shaped shape_size has_bad_register has_bad_number has_bad_list has_bad_count checked statement_of value insn_at shape_cause client_lines
fine = record { first = refl; second = λ given. refl; sizes = refl; clean = refl }
