use Rattle.std.proofs.Common.{◌≡◌, ◌<◌, length, get_or, set, ◌++◌, refl, sym, ◌∙◌, arith}
use Rattle.std.proofs.lemmas.List.{get_or_default, length-set}
use Rattle.mem_banks.specs.declared.bank.Bank.{Bank}
use Rattle.mem_banks.proofs.Halves.{two_by, set_back, set_front, get_back, get_front}
use Rattle.mem_banks.proofs.window.open_in_order.Goals as goal

pub returns : goal.returns
returns g c =
    let a = c.args in
    let old = a.banks.now in
    let flash : a.flash < length old = omega (arith, c.requires.order, c.requires.ram) in
    let front = c.split_at_mut-front.result.0.now in
    let back = c.split_at_mut-front.result.1.now in
    let split = c.split_at_mut-front.ensures.value in
    let len = c.split_at_mut-front.ensures.front_len in
    let there : a.flash < length front = omega (arith, len, c.requires.order) in
    let some : 0 < length back = omega (arith, len, c.split_at_mut-front.ensures.back_len, c.requires.ram) in
    let p = get_or front a.flash c.index-front-flash.result in
    let q = get_or back 0 c.index-back-0.result in
    let x : Bank = record { base = p.base; bytes = c.work.new.flash } in
    let y : Bank = record { base = q.base; bytes = c.work.new.ram } in
    let is_p : p ≡ get_or old a.flash p = get_or_default front a.flash c.index-front-flash.result p there ∙ sym (get_front old front back a.flash p split there) in
    let is_q : q ≡ get_or old a.ram q = get_or_default back 0 c.index-back-0.result q some ∙ sym (get_back old front back a.ram q split len) in
    let between = set front a.flash x ++ back in
    let count : length (set front a.flash x) ≡ a.ram = length-set front a.flash x ∙ len in
    let stays : q ≡ get_or between a.ram q = get_or_default back 0 c.index-back-0.result q some ∙ sym (get_back between (set front a.flash x) back a.ram q refl count) in
    two_by g.B.WindowUser.did old between _ a.flash a.ram a.user.now c.work.new.self x y p q a.area.now.items c.work.new.area.items a.second.now.items c.work.new.second.items flash c.requires.ram is_p is_q stays (set_front old front back a.flash x split there) (set_back between (set front a.flash x) back a.ram y refl count) refl refl c.work.ensures.flash c.work.ensures.length c.work.ensures.area c.work.ensures.second c.work.ensures.did
