use Rattle.std.proofs.Common.{◌≡◌, ℕ, List, sym, subst}
use Rattle.std.specs.List.{flat_map}
use Rattle.std.specs.Str.{IsAscii}
use Rattle.trace_text.specs.Text.{spaced_hex}
use Rattle.trace_text.proofs.Lanes.{placed, placed_are_spaced, three_long, spaced_ascii}
use Rattle.trace_text.proofs.words.spaced_four.Goals as goal

pub slice_bounds-text-end-4 : goal.slice_bounds-text-end-4
slice_bounds-text-end-4 c =
    rw (c.copy_from_slice.ensures.after, c.copy_from_slice-2.ensures.after, c.copy_from_slice-3.ensures.after, c.digits_of_four.ensures) (three_long c.args.numbers.now c.requires.four)

pub returns-clause-bytes : goal.returns-clause-bytes
returns-clause-bytes c =
    rw (c.copy_from_slice.ensures.after, c.copy_from_slice-2.ensures.after, c.copy_from_slice-3.ensures.after, c.copy_from_slice-4.ensures.after, c.digits_of_four.ensures) (placed_are_spaced c.args.numbers.now c.requires.four)

pub returns-clause-ascii : goal.returns-clause-ascii
returns-clause-ascii c =
    let text : List ℕ = placed c.copy_from_slice.new.self c.copy_from_slice-2.new.self c.copy_from_slice-3.new.self c.copy_from_slice-4.new.self in
    let is : text ≡ flat_map spaced_hex c.args.numbers.now = rw (c.copy_from_slice.ensures.after, c.copy_from_slice-2.ensures.after, c.copy_from_slice-3.ensures.after, c.copy_from_slice-4.ensures.after, c.digits_of_four.ensures) (placed_are_spaced c.args.numbers.now c.requires.four) in
    subst IsAscii (sym is) (spaced_ascii c.args.numbers.now)
