use Rattle.std.proofs.Common.{◌≡◌, get_or, refl}
use Rattle.std.proofs.lemmas.List.{get_or_default}
use Rattle.mem_banks.specs.declared.bank.Bank.{Bank}
use Rattle.mem_banks.proofs.Halves.{one_by}
use Rattle.mem_banks.proofs.window.open_one.Goals as goal

pub returns : goal.returns
returns g c =
    let p = get_or c.args.banks.now c.args.flash c.index-banks-flash.result in
    let x : Bank = record { base = p.base; bytes = c.work.new.flash } in
    let is_p : p ≡ get_or c.args.banks.now c.args.flash p = get_or_default c.args.banks.now c.args.flash c.index-banks-flash.result p c.requires in
    one_by g.B.WindowUser.did c.args.banks.now _ c.args.flash c.args.user.now c.work.new.self x p c.new-none.result.items c.work.new.ram.items c.args.area.now.items c.work.new.area.items c.args.second.now.items c.work.new.second.items c.requires is_p refl refl c.work.ensures.flash c.new-none.ensures.items c.work.ensures.length c.work.ensures.area c.work.ensures.second c.work.ensures.did
