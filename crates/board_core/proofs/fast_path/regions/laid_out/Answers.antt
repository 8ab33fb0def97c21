use Rattle.std.proofs.Common.{◌∙◌, sym, arith}
use Rattle.board_core.proofs.fast.LaidOut.{laid_out}
use Rattle.board_core.proofs.fast_path.regions.laid_out.Goals as goal

pub returns : goal.returns
returns c = laid_out c.args.regions.now c.args.pc c.args.sp _ c.area_of-area.result c.second_of-second.result (omega (arith, c.if-regions-lt2.false)) (sym c.is_flash_at.ensures ∙ c.if-not-is_flash_at.false) (sym c.is_ram_at.ensures ∙ c.if-not-is_ram_at.false) c.area_of-area.ensures c.second_of-second.ensures
