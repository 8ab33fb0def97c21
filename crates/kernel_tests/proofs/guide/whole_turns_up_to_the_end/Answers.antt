use Rattle.std.proofs.Common.{◌∙◌, ap, refl, arith}
use Rattle.kernel_abi.specs.declared.Kind.TheVariants as kind
use denote.Param.Object.{read_made}
use Rattle.devices.specs.Seen.{console_at}
use Rattle.kernel_tests.proofs.guide.whole_turns_up_to_the_end.OwnLists.{own-1, at-1-1}
use Rattle.kernel_tests.proofs.Fresh.{none_below, one_above, below_fresh}
use Rattle.kernel_tests.proofs.guide.whole_turns_up_to_the_end.Goals as goal

pub open-requires : goal.open-requires
open-requires g c =
    below_fresh _ _ _ _ (one_above _ _ _ _ kind.Console 0x40000000 0 0x0
    (none_below _ _ c.new-devices.ensures.items)
    c.in_ok-push.ensures.items (read_made own-1 (own-1.entry at-1-1) at-1-1 refl _ (λ j v. j.1.shown v) _ _ _ c.into_dyn_box.ensures.1 ∙ ap console_at c.in_ok-new.ensures.ok ∙ c.new.ensures) record { whole = refl; low = omega arith; high = omega arith } (omega arith) (omega arith))
