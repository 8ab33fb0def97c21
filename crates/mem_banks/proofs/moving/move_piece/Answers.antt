use Rattle.std.proofs.Common.{◌≤◌, ◌<◌, ◌≡◌, ◌+◌, ◌-◌, length, get_or, refl, ap, sym, ◌∙◌, arith}
use Rattle.std.proofs.lemmas.List.{get_or_default}
use Rattle.mem_banks.specs.declared.bank.Bank.{Bank}
use Rattle.mem_banks.proofs.Copies.{paste_pasted}
use Rattle.mem_banks.proofs.Halves.{put_at, set_back, set_front, get_back, get_front}
use Rattle.mem_banks.proofs.moving.move_piece.Goals as goal

pub returns-then-source-target : goal.returns-then-source-target
returns-then-source-target c = λ d.
    let same : get_or c.args.banks.now c.args.source.bank d ≡ c.index-banks-target.result = rw c.if-source-target.true (get_or_default c.args.banks.now c.args.target.bank d c.index-banks-target.result c.requires.target ∙ sym c.index-banks-target.is) in
    let fits : c.args.source.at + c.args.count ≤ length c.index-banks-target.result.bytes.items = rw (c.if-source-target.true, ← c.index-banks-target.is) at (c.requires.fits_source c.index-banks-target.result) in
    rw same (put_at c.args.banks.now _ c.args.target.bank c.args.target.at _ _ c.index-banks-target.result c.requires.target c.index-banks-target.is refl (ap (λ (b : Bank). b.base) (sym c.index-banks-target.is))
    (rw (c.copy_within.ensures.items, ← c.index-banks-target.is) (paste_pasted c.index-banks-target.result.bytes.items c.args.source.at c.args.target.at c.args.count _ (omega arith) fits)))

pub returns-then-source-target-2 : goal.returns-then-source-target-2
returns-then-source-target-2 c = λ d.
    let split = c.split_at_mut-front.ensures.value in
    let len = c.split_at_mut-front.ensures.front_len in
    let n : c.args.source.at + c.args.count - c.args.source.at ≡ c.args.count = omega arith in
    let jf : c.args.source.bank < length c.split_at_mut-front.result.0.now = omega (arith, len, c.if-source-target-2.true) in
    let here : c.index-back-0.result ≡ get_or c.args.banks.now c.args.target.bank c.index-back-0.result = c.index-back-0.is ∙ sym (get_back c.args.banks.now _ _ c.args.target.bank c.index-back-0.result split len) in
    let there : get_or c.args.banks.now c.args.source.bank d ≡ c.index-front-source.result = get_front c.args.banks.now c.split_at_mut-front.result.0.now c.split_at_mut-front.result.1.now c.args.source.bank d split jf ∙ (get_or_default c.split_at_mut-front.result.0.now c.args.source.bank d c.index-front-source.result jf ∙ sym c.index-front-source.is) in
    rw there (put_at c.args.banks.now _ c.args.target.bank c.args.target.at _ _ c.index-back-0.result c.requires.target here (set_back c.args.banks.now c.split_at_mut-front.result.0.now c.split_at_mut-front.result.1.now c.args.target.bank _ split len) (ap (λ (b : Bank). b.base) (sym c.index-back-0.is))
    (rw (c.put.ensures, ← c.index-back-0.is, c.deref.ensures.value, ← c.index-front-source.is, n) refl))

pub returns-else-source-target-2 : goal.returns-else-source-target-2
returns-else-source-target-2 c = λ d.
    let split = c.split_at_mut-front-else-source-target-2.ensures.value in
    let len = c.split_at_mut-front-else-source-target-2.ensures.front_len in
    let n : c.args.source.at + c.args.count - c.args.source.at ≡ c.args.count = omega arith in
    let kf : c.args.target.bank < length c.split_at_mut-front-else-source-target-2.result.0.now = omega (arith, len, c.if-source-target-2.false, c.if-source-target.false) in
    let here : c.index-front-target.result ≡ get_or c.args.banks.now c.args.target.bank c.index-front-target.result = c.index-front-target.is ∙ sym (get_front c.args.banks.now _ c.split_at_mut-front-else-source-target-2.result.1.now c.args.target.bank c.index-front-target.result split kf) in
    let there : get_or c.args.banks.now c.args.source.bank d ≡ c.index-back-0-else-source-target-2.result = get_or_default c.args.banks.now c.args.source.bank d c.index-back-0-else-source-target-2.result c.requires.source ∙ (get_back c.args.banks.now _ _ c.args.source.bank c.index-back-0-else-source-target-2.result split len ∙ sym c.index-back-0-else-source-target-2.is) in
    rw there (put_at c.args.banks.now _ c.args.target.bank c.args.target.at _ _ c.index-front-target.result c.requires.target here (set_front c.args.banks.now c.split_at_mut-front-else-source-target-2.result.0.now c.split_at_mut-front-else-source-target-2.result.1.now c.args.target.bank _ split kf) (ap (λ (b : Bank). b.base) (sym c.index-front-target.is))
    (rw (c.put-else-source-target-2.ensures, ← c.index-front-target.is, c.deref-else-source-target-2.ensures.value, ← c.index-back-0-else-source-target-2.is, n) refl))
