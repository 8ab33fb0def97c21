use Rattle.std.proofs.Common.{◌≡◌, List, false, subst}
use Rattle.std.specs.List.{list_any}
use Rattle.region_check.specs.declared.Region.{Region}
use Rattle.board_core.specs.fast.Reached.{is_flash_at, MakeWindow}
use Rattle.board_core.proofs.space.AddressSpace.window.Goals as goal

pub returns-in-Some : goal.returns-in-Some
returns-in-Some boxes c =
    let P : List Region → Type 0 = λ regions. MakeWindow c.args.watched regions c.args.pc c.args.sp c.without.result in
    subst P c.regions-regions.ensures.value record { all = c.in-Some.window; reached = c.in-Some.ensures; is = c.without.ensures }

pub returns : goal.returns
returns boxes c =
    let P : List Region → Type 0 = λ regions. MakeWindow c.args.watched regions c.args.pc c.args.sp c.without-2.result in
    subst P c.regions-regions.ensures.value record { all = c.in_ok-window.window; reached = c.in_ok-window.ensures; is = c.without-2.ensures }

pub returns-in_err-window : goal.returns-in_err-window
returns-in_err-window boxes c =
    let P : List Region → Type 0 = λ regions. list_any (is_flash_at c.args.pc) regions ≡ false in
    rw c.from_residual.ensures (subst P c.regions-regions.ensures.value c.in_err-window.ensures)
