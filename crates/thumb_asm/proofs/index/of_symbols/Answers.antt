use Rattle.std.proofs.Common.{◌≡◌, ◌∙◌, sym, ap, subst, arith, take, string_bytes}
use Rattle.std.specs.BTreeMap.{get_by_text}
use Rattle.thumb_asm.specs.Chars.{entry_at}
use Rattle.thumb_asm.specs.Passes.{names_of, with_symbol}
use Rattle.thumb_asm.proofs.Labels.{empty_index, names_taken, symbol_next}
use Rattle.thumb_asm.proofs.index.of_symbols.Goals as goal

pub loop-symbol-init : goal.loop-symbol-init
loop-symbol-init c = empty_index c.new-index.result c.new-index.ensures.empty

pub loop-symbol-preserved : goal.loop-symbol-preserved
loop-symbol-preserved c = λ q.
    symbol_next (get_by_text c.loop-symbol.index) (get_by_text c.add_symbol.new.index) (names_of (take c.loop-symbol.symbol-index c.args.symbols.now)) (string_bytes c.symbol-item.result.0) c.symbol-item.result.1 c.loop-symbol.invariant
    (λ p. subst (λ t. get_by_text c.add_symbol.new.index p ≡ with_symbol t c.symbol-item.result.1 (get_by_text c.loop-symbol.index) p) c.as_str.ensures.value (c.in_ok-add_symbol.ensures p)) q
    ∙ ap (λ t. entry_at t q) (sym (names_taken c.args.symbols.now c.loop-symbol.symbol-index c.symbol-item.result (omega arith) c.symbol-item.is))
