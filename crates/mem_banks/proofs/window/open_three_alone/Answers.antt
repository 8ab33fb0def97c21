use Rattle.std.proofs.Common.{Some}
use Rattle.mem_banks.proofs.Halves.{without_second}
use Rattle.mem_banks.proofs.window.open_three_alone.Goals as goal

pub returns : goal.returns
returns g c =
    let a = c.args in
    let left = c.open_three.new in
    without_second g.B.WindowUser.did a.banks.now left.banks a.flash (Some a.ram) (Some a.area) a.user.now left.user c.new-none.result.items left.second.items c.new-none.ensures.items c.open_three.ensures
