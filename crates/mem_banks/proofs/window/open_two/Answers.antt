use Rattle.std.proofs.Common.{◌≡◌, ◌<◌, length, get_or, set, ◌++◌, refl, sym, ◌∙◌, arith}
use Rattle.std.proofs.lemmas.List.{get_or_default}
use Rattle.mem_banks.specs.declared.bank.Bank.{Bank}
use Rattle.mem_banks.proofs.Halves.{two_by, set_back, set_front, get_back, get_front}
use Rattle.mem_banks.proofs.window.open_two.Goals as goal

pub returns-else-flash-ram : goal.returns-else-flash-ram
returns-else-flash-ram g c =
    let a = c.args in
    let old = a.banks.now in
    let front = c.split_at_mut-front.result.0.now in
    let back = c.split_at_mut-front.result.1.now in
    let split = c.split_at_mut-front.ensures.value in
    let len = c.split_at_mut-front.ensures.front_len in
    let there : a.ram < length front = omega (arith, len, c.if-flash-ram.false, c.requires.apart) in
    let some : 0 < length back = omega (arith, len, c.split_at_mut-front.ensures.back_len, c.requires.flash) in
    let p = get_or back 0 c.index-back-0.result in
    let q = get_or front a.ram c.index-front-ram.result in
    let x : Bank = record { base = p.base; bytes = c.work.new.flash } in
    let y : Bank = record { base = q.base; bytes = c.work.new.ram } in
    let is_p : p ≡ get_or old a.flash p = get_or_default back 0 c.index-back-0.result p some ∙ sym (get_back old front back a.flash p split len) in
    let is_q : q ≡ get_or old a.ram q = get_or_default front a.ram c.index-front-ram.result q there ∙ sym (get_front old front back a.ram q split there) in
    let between = front ++ set back 0 x in
    let stays : q ≡ get_or between a.ram q = get_or_default front a.ram c.index-front-ram.result q there ∙ sym (get_front between front (set back 0 x) a.ram q refl there) in
    two_by g.B.WindowUser.did old between _ a.flash a.ram a.user.now c.work.new.self x y p q a.area.now.items c.work.new.area.items a.second.now.items c.work.new.second.items c.requires.flash c.requires.ram is_p is_q stays (set_back old front back a.flash x split len) (set_front between front (set back 0 x) a.ram y refl there) refl refl c.work.ensures.flash c.work.ensures.length c.work.ensures.area c.work.ensures.second c.work.ensures.did
