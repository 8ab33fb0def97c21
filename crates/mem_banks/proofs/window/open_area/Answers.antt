use Rattle.std.proofs.Common.{◌≡◌, ◌<◌, ℕ, List, length, get_or, set, refl, subst, arith}
use Rattle.std.proofs.lemmas.List.{get_or_default, length-set}
use Rattle.mem_banks.specs.declared.bank.Bank.{Bank}
use Rattle.mem_banks.specs.Windows.{AreOpened}
use Rattle.mem_banks.proofs.Halves.{area_by}
use Rattle.mem_banks.proofs.window.open_area.Goals as goal

pub returns : goal.returns
returns g c =
    let a = c.args in
    let old = a.banks.now in
    let p = get_or old a.area c.index-banks-area.result in
    let is_p : p ≡ get_or old a.area p = get_or_default old a.area c.index-banks-area.result p c.requires.area in
    let e : Bank = record { base = p.base; bytes = c.swap.new.x } in
    let after = c.open_beside.new.banks in
    let there : a.area < length after = omega (arith, c.open_beside.auto.banks, length-set old a.area e, c.requires.area) in
    let q = get_or after a.area c.index-banks-area-2.result in
    let is_q : q ≡ get_or after a.area q = get_or_default after a.area c.index-banks-area-2.result q there in
    let z : Bank = record { base = q.base; bytes = c.swap-2.new.x } in
    let bytes : c.swap.new.y.items ≡ p.bytes.items = rw c.swap.ensures.y_after refl in
    let opened = subst (λ (xs : List ℕ). AreOpened g.B.WindowUser.did (set old a.area e) a.flash a.ram xs a.second.now.items a.user.now c.open_beside.new.user after c.open_beside.new.area.items c.open_beside.new.second.items) bytes c.open_beside.ensures in
    area_by g.B.WindowUser.did old after _ a.flash a.ram a.area a.user.now c.open_beside.new.user e p q z c.open_beside.new.area.items a.second.now.items c.open_beside.new.second.items c.requires.area is_p refl c.requires.beside c.requires.two opened is_q refl (rw c.swap-2.ensures.x_after refl) refl
