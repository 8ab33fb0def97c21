use Rattle.std.proofs.Common.{◌∙◌, ap, refl, arith}
use Rattle.kernel_abi.specs.declared.Kind.TheVariants as kind
use denote.Param.Object.{read_made}
use Rattle.devices.specs.Seen.{console_at, port_at}
use Rattle.kernel_tests.proofs.eight_devices.eight_devices_are_handed_in.OwnLists.{own-1, at-1-1, at-1-2}
use Rattle.kernel_tests.proofs.Fresh.{none_below, one_above, below_fresh}
use Rattle.kernel_tests.proofs.eight_devices.eight_devices_are_handed_in.Goals as goal

pub open-requires : goal.open-requires
open-requires g c =
    below_fresh _ _ _ _ (one_above _ _ _ _ kind.Port 0x40000700 7 0x40000601
    (one_above _ _ _ _ kind.Console 0x40000600 6 0x40000501
    (one_above _ _ _ _ kind.Port 0x40000500 5 0x40000401
    (one_above _ _ _ _ kind.Console 0x40000400 4 0x40000301
    (one_above _ _ _ _ kind.Port 0x40000300 3 0x40000201
    (one_above _ _ _ _ kind.Console 0x40000200 2 0x40000101
    (one_above _ _ _ _ kind.Port 0x40000100 1 0x40000001
    (one_above _ _ _ _ kind.Console 0x40000000 0 0x0
    (none_below _ _ c.new-devices.ensures.items)
    c.in_ok-push.ensures.items (read_made own-1 (own-1.entry at-1-1) at-1-1 refl _ (λ j v. j.1.shown v) _ _ _ c.into_dyn_box.ensures.1 ∙ ap console_at c.in_ok-new.ensures.ok ∙ c.new.ensures) record { whole = refl; low = omega arith; high = omega arith } (omega arith) (omega arith))
    c.in_ok-push-2.ensures.items (read_made own-1 (own-1.entry at-1-2) at-1-2 refl _ (λ j v. j.1.shown v) _ _ _ c.into_dyn_box-in_ok-new-2.ensures.1 ∙ ap port_at c.in_ok-new-2.ensures.ok ∙ c.new-3.ensures) record { whole = refl; low = omega arith; high = omega arith } (omega arith) (omega arith))
    c.in_ok-push-3.ensures.items (read_made own-1 (own-1.entry at-1-1) at-1-1 refl _ (λ j v. j.1.shown v) _ _ _ c.into_dyn_box-in_ok-new-3.ensures.1 ∙ ap console_at c.in_ok-new-3.ensures.ok ∙ c.new-5.ensures) record { whole = refl; low = omega arith; high = omega arith } (omega arith) (omega arith))
    c.in_ok-push-4.ensures.items (read_made own-1 (own-1.entry at-1-2) at-1-2 refl _ (λ j v. j.1.shown v) _ _ _ c.into_dyn_box-in_ok-new-4.ensures.1 ∙ ap port_at c.in_ok-new-4.ensures.ok ∙ c.new-7.ensures) record { whole = refl; low = omega arith; high = omega arith } (omega arith) (omega arith))
    c.in_ok-push-5.ensures.items (read_made own-1 (own-1.entry at-1-1) at-1-1 refl _ (λ j v. j.1.shown v) _ _ _ c.into_dyn_box-in_ok-new-5.ensures.1 ∙ ap console_at c.in_ok-new-5.ensures.ok ∙ c.new-9.ensures) record { whole = refl; low = omega arith; high = omega arith } (omega arith) (omega arith))
    c.in_ok-push-6.ensures.items (read_made own-1 (own-1.entry at-1-2) at-1-2 refl _ (λ j v. j.1.shown v) _ _ _ c.into_dyn_box-in_ok-new-6.ensures.1 ∙ ap port_at c.in_ok-new-6.ensures.ok ∙ c.new-11.ensures) record { whole = refl; low = omega arith; high = omega arith } (omega arith) (omega arith))
    c.in_ok-push-7.ensures.items (read_made own-1 (own-1.entry at-1-1) at-1-1 refl _ (λ j v. j.1.shown v) _ _ _ c.into_dyn_box-in_ok-new-7.ensures.1 ∙ ap console_at c.in_ok-new-7.ensures.ok ∙ c.new-13.ensures) record { whole = refl; low = omega arith; high = omega arith } (omega arith) (omega arith))
    c.in_ok-push-8.ensures.items (read_made own-1 (own-1.entry at-1-2) at-1-2 refl _ (λ j v. j.1.shown v) _ _ _ c.into_dyn_box-in_ok-new-8.ensures.1 ∙ ap port_at c.in_ok-new-8.ensures.ok ∙ c.new-15.ensures) record { whole = refl; low = omega arith; high = omega arith } (omega arith) (omega arith))
