-- No symbol has the name of a label of the programs, whichever task's symbols they are.
use Rattle.std.proofs.Common.{◌≡◌, ℕ, ◌+◌, ◌*◌, ◌<◌, List, [], ◌∷◌, map, refl, Bool, true, Option, Some, None, nat_eq}
use Rattle.std.proofs.lemmas.Bool.{agree_below, agree_below_at, and_parts}
use Rattle.std.specs.List.{list_all}
use Rattle.std.specs.Fmt.{digits}
use Rattle.text_lines.specs.Text.{value_in}
use Rattle.thumb_asm.specs.Chars.{strip_front, strip_end, strip, entry_at, register_names, register, until, from_first}
use Rattle.thumb_asm.specs.Parts.{before, after, parts, pieces, operand_pieces}
use Rattle.thumb_asm.specs.Operands.{closed_by, split_by, operand, operands, natural, signed, expression}
use Rattle.thumb_asm.specs.Syntax.{mnemonics1, mnemonics2, mnemonics3, mnemonics4, mnemonics5, mnemonics6, mnemonics7, mnemonic, expressions, shaped}
use Rattle.thumb_asm.specs.Sizes.{shape_size, has_bad_register, has_bad_number, has_bad_list, has_bad_count, checked, statement_of}
use Rattle.thumb_asm.specs.Meaning.{value, insn_at}
use Rattle.thumb_asm.specs.Causes.{shape_cause}
use Rattle.thumb_asm.specs.Meaning.{Env}
use Rattle.image_build.specs.Built.{given}
use Rattle.image_build.specs.Layout.{flash_base}
use Rattle.build_laws.proofs.Free.{IsFree, HasFreeLabels}
use Rattle.sample_gen.specs.Sources.{supervisor_lines, server_lines, client_lines}
use Rattle.build_laws.proofs.Cards.{Card, card_of, is_none, none_of, FreeCards, free_lines}
use Rattle.sample_gen.specs.Sample.{app_by}

abbrev pub leaves : Env → Option (List ℕ) → Bool
leaves symbols None = true
leaves symbols (Some name) = is_none (symbols name)

abbrev pub leaves_all : Env → List Card → Bool
leaves_all symbols cards = list_all (λ c. leaves symbols c.label) cards

free_one : (symbols : Env) (label : Option (List ℕ)) → leaves symbols label ≡ true → IsFree symbols label
free_one symbols None h = tt
free_one symbols (Some name) h = none_of (symbols name) h

free_all : (symbols : Env) (cards : List Card) → leaves_all symbols cards ≡ true → FreeCards symbols cards
free_all symbols [] h = tt
free_all symbols (c ∷ cs) h = let e = and_parts (leaves symbols c.label) (leaves_all symbols cs) h in (free_one symbols c.label e.0, free_all symbols cs e.1)

-- for each task, whatever the priorities
abbrev pub leaves_each : (ℕ → ℕ) → List Card → Bool
leaves_each p cards = agree_below (λ i. leaves_all (given (app_by p) i) cards) (λ i. true) 32

pub supervisor_free : (p : ℕ → ℕ) → leaves_each p (map card_of supervisor_lines) ≡ true
unfolding card_of digits value_in strip_front strip_end strip entry_at register_names register until from_first before after parts pieces operand_pieces closed_by split_by operand operands natural signed expression mnemonics1 mnemonics2 mnemonics3 mnemonics4 mnemonics5 mnemonics6 mnemonics7 mnemonic expressions shaped shape_size has_bad_register has_bad_number has_bad_list has_bad_count checked statement_of value insn_at shape_cause supervisor_lines
supervisor_free p = refl

pub server_free : (p : ℕ → ℕ) → leaves_each p (map card_of (server_lines 0)) ≡ true
unfolding card_of digits value_in strip_front strip_end strip entry_at register_names register until from_first before after parts pieces operand_pieces closed_by split_by operand operands natural signed expression mnemonics1 mnemonics2 mnemonics3 mnemonics4 mnemonics5 mnemonics6 mnemonics7 mnemonic expressions shaped shape_size has_bad_register has_bad_number has_bad_list has_bad_count checked statement_of value insn_at shape_cause server_lines
server_free p = refl

pub client_free : (p : ℕ → ℕ) → leaves_each p (map card_of (client_lines 0 0 0 0)) ≡ true
unfolding card_of digits value_in strip_front strip_end strip entry_at register_names register until from_first before after parts pieces operand_pieces closed_by split_by operand operands natural signed expression mnemonics1 mnemonics2 mnemonics3 mnemonics4 mnemonics5 mnemonics6 mnemonics7 mnemonic expressions shaped shape_size has_bad_register has_bad_number has_bad_list has_bad_count checked statement_of value insn_at shape_cause client_lines
client_free p = refl

pub free_in : (p : ℕ → ℕ) (cards : List Card) (lines : List (List ℕ)) (i : ℕ) → leaves_each p cards ≡ true → map card_of lines ≡ cards → i < 32 → HasFreeLabels (given (app_by p) i) lines
free_in p cards lines i h same k = free_lines (given (app_by p) i) lines cards same (free_all (given (app_by p) i) cards (agree_below_at (λ j. leaves_all (given (app_by p) j) cards) (λ j. true) 32 i h k))

pub bases : (p : ℕ → ℕ) → agree_below (λ i. nat_eq (flash_base (app_by p) i) (0x08000000 + 256 * i)) (λ i. true) 32 ≡ true
bases p = refl
