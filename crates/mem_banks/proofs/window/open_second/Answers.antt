use Rattle.std.proofs.Common.{◌≡◌, ◌<◌, ℕ, List, length, get_or, set, refl, subst, arith}
use Rattle.std.proofs.lemmas.List.{get_or_default, length-set}
use Rattle.mem_banks.specs.declared.bank.Bank.{Bank}
use Rattle.mem_banks.specs.Windows.{AreOpenedBeside}
use Rattle.mem_banks.proofs.Halves.{second_by}
use Rattle.mem_banks.proofs.window.open_second.Goals as goal

pub returns : goal.returns
returns g c =
    let a = c.args in
    let old = a.banks.now in
    let p = get_or old a.second c.index-banks-second.result in
    let is_p : p ≡ get_or old a.second p = get_or_default old a.second c.index-banks-second.result p c.requires.second in
    let e : Bank = record { base = p.base; bytes = c.swap.new.x } in
    let after = c.open_areas.new.banks in
    let there : a.second < length after = omega (arith, c.open_areas.auto.banks, length-set old a.second e, c.requires.second) in
    let q = get_or after a.second c.index-banks-second-2.result in
    let is_q : q ≡ get_or after a.second q = get_or_default after a.second c.index-banks-second-2.result q there in
    let z : Bank = record { base = q.base; bytes = c.swap-2.new.x } in
    let bytes : c.swap.new.y.items ≡ p.bytes.items = rw c.swap.ensures.y_after refl in
    let opened = subst (λ (xs : List ℕ). AreOpenedBeside g.B.WindowUser.did (set old a.second e) a.flash a.ram a.area xs a.user.now c.open_areas.new.user after c.open_areas.new.second.items) bytes c.open_areas.ensures in
    second_by g.B.WindowUser.did old after _ a.flash a.ram a.area a.second a.user.now c.open_areas.new.user e p q z c.open_areas.new.second.items c.requires.second is_p refl c.requires.second_beside c.requires.second_two c.requires.areas opened is_q refl (rw c.swap-2.ensures.x_after refl) refl
