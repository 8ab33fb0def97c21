use Rattle.std.proofs.Common.{◌≡◌, ◌<◌, length, get_or, refl, arith}
use Rattle.std.proofs.lemmas.List.{get_or_default}
use Rattle.mem_banks.specs.declared.bank.Bank.{Bank}
use Rattle.mem_banks.proofs.Halves.{four_by}
use Rattle.mem_banks.proofs.window.open_four.Goals as goal

pub returns : goal.returns
returns g c =
    let a = c.args in
    let front = c.split_at_mut-front.result.0.now in
    let back = c.split_at_mut-front.result.1.now in
    let len = c.split_at_mut-front.ensures.front_len in
    let some : 0 < length back = omega (arith, len, c.split_at_mut-front.ensures.back_len, c.requires.there) in
    let opened = c.open_three.new in
    let p = get_or back 0 c.index-back-0.result in
    let z : Bank = record { base = p.base; bytes = opened.second } in
    let count : length opened.banks ≡ a.second = omega (arith, c.open_three.auto.banks, len) in
    four_by g.B.WindowUser.did a.banks.now front back opened.banks _ a.flash a.ram a.area a.second a.user.now opened.user p z opened.second.items c.split_at_mut-front.ensures.value len c.requires.there c.requires.ram c.requires.area c.requires.second (get_or_default back 0 c.index-back-0.result p some) refl refl count refl c.open_three.ensures
