use Rattle.words_core.specs.Regs.{stack_pointer, program_counter}
use Rattle.std.proofs.Common.{◌≡◌, true, ℕ, inl, inr, refl, sym, ◌∙◌, ap, arith}
use Rattle.std.proofs.lemmas.Bool.{false≢true}
use Rattle.std.specs.List.{list_any}
use Rattle.task_table.specs.model.State.{Setup}
use Rattle.task_table.specs.model.Reading.{setup_at, register}
use Rattle.board_core.specs.Data.{boxed, data_of}
use Rattle.board_core.specs.fast.Stops.{stops_at}
use Rattle.board_core.specs.fast.Reached.{is_flash_at}
use Rattle.board_core.proofs.Loading.{context_register, context_cpu}
use Rattle.board_core.proofs.fast.Windowing.{are_usable, IsAimed, apart_here, poller_work, context_devices, has_run, has_stayed}
use Rattle.board_core.proofs.machine.Machine.poll.Goals as goal

pub returns-in_default-clause-glided : goal.returns-in_default-clause-glided
returns-in_default-clause-glided boxes c = λ g t r inside ready io_regions.
    let m = c.take_context.new.self in
    let task = c.args.task in
    let h = c.take_context.ensures.taken g t r.holds inside ready in
    let pc : c.get-pc.result ≡ register t.state task program_counter = c.get-pc.ensures ∙ context_register _ program_counter g m task t h inside in
    inr record {
      none = c.none_made.ensures.made;
      no_call = c.none_made.ensures.call;
      beyond =
          ap (λ (at : ℕ). list_any (is_flash_at at) (setup_at g task).regions) (sym pc)
          ∙ ap (λ (x : Setup). list_any (is_flash_at c.get-pc.result) (setup_at x task).regions) (sym h.holds.kernel.setup)
          ∙ c.in_default.ensures;
      holds = c.take_context.ensures.holds g t r.holds;
    }

pub returns-then-not-opened-clause-glided : goal.returns-then-not-opened-clause-glided
returns-then-not-opened-clause-glided boxes c = λ g t r inside ready io_regions.
    let opened : c.open_window-opened.result ≡ true = c.open_window-opened.ensures.given c.args.task (are_usable _ _ _ _ _ c.in-Some.ensures) in
    absurd (false≢true (sym c.if-not-opened.true ∙ opened))

pub returns-then-glided-eq0-clause-glided : goal.returns-then-glided-eq0-clause-glided
returns-then-glided-eq0-clause-glided boxes c = λ g t r inside ready io_regions.
    let shown = boxed (λ p. (goal.Device-dyn boxes p).shown p.1) in
    let m = c.take_context.new.self in
    let task = c.args.task in
    let h = c.take_context.ensures.taken g t r.holds inside ready in
    let pc = c.get-pc.ensures ∙ context_register _ program_counter g m task t h inside in
    let sp = c.get-sp.ensures ∙ context_register _ stack_pointer g m task t h inside in
    let aim = c.aim_window.ensures in
    let fields : IsAimed c.args.breakpoints.now c.get-pc.result c.in-Some.regions c.aim_window.new.window = record { flash = aim.flash; stretch = rw (aim.code, aim.size) c.stretch_of-code.ensures; readable = aim.readable; ram = aim.ram; area = aim.area; writable = aim.writable; second = aim.second; second_writable = aim.second_writable } in
    let opened = c.open_window-opened.ensures.opened c.if-not-opened.false in
    let a = c.aim_window.new.window in
    let b = c.open_window-opened.new.user in
    let apart = apart_here _ (stops_at c.args.breakpoints.now c.args.watched) g m task c.args.most t c.in-Some.regions _ _ _ _ _ a c.open_window-opened.new.self h inside c.in-Some.ensures pc sp fields opened in
    let work = poller_work shown g task _ b _ _ _ _ _ _ _ t.state.devices _ c.args.most (ap (λ v. v.items) c.swap-2.ensures.x_after ∙ sym io_regions) (c.copied-self.ensures ∙ context_cpu _ g m task t h inside) refl (ap (data_of shown) c.swap.ensures.x_after ∙ context_devices _ g m task t h) apart opened.window.work in
    inl (has_stayed _ (stops_at c.args.breakpoints.now c.args.watched) g m task c.args.most t c.in-Some.regions _ _ _ _ _ a c.open_window-opened.new.self h inside c.in-Some.ensures pc sp fields opened
    _ _ _ _ work _ (omega (arith, c.if-glided-eq0.true)) refl c.copied-self-2.ensures refl (ap (data_of shown) c.swap-4.ensures.y_after) (c.take_context.ensures.holds g t r.holds))

pub returns-clause-glided : goal.returns-clause-glided
returns-clause-glided boxes c = λ g t r inside ready io_regions.
    let shown = boxed (λ p. (goal.Device-dyn boxes p).shown p.1) in
    let m = c.take_context.new.self in
    let task = c.args.task in
    let h = c.take_context.ensures.taken g t r.holds inside ready in
    let pc = c.get-pc.ensures ∙ context_register _ program_counter g m task t h inside in
    let sp = c.get-sp.ensures ∙ context_register _ stack_pointer g m task t h inside in
    let aim = c.aim_window.ensures in
    let fields : IsAimed c.args.breakpoints.now c.get-pc.result c.in-Some.regions c.aim_window.new.window = record { flash = aim.flash; stretch = rw (aim.code, aim.size) c.stretch_of-code.ensures; readable = aim.readable; ram = aim.ram; area = aim.area; writable = aim.writable; second = aim.second; second_writable = aim.second_writable } in
    let opened = c.open_window-opened.ensures.opened c.if-not-opened.false in
    let a = c.aim_window.new.window in
    let b = c.open_window-opened.new.user in
    let apart = apart_here _ (stops_at c.args.breakpoints.now c.args.watched) g m task c.args.most t c.in-Some.regions _ _ _ _ _ a c.open_window-opened.new.self h inside c.in-Some.ensures pc sp fields opened in
    let work = poller_work shown g task _ b _ _ _ _ _ _ _ t.state.devices _ c.args.most (ap (λ v. v.items) c.swap-2.ensures.x_after ∙ sym io_regions) (c.copied-self.ensures ∙ context_cpu _ g m task t h inside) refl (ap (data_of shown) c.swap.ensures.x_after ∙ context_devices _ g m task t h) apart opened.window.work in
    inl (has_run _ (stops_at c.args.breakpoints.now c.args.watched) g m task c.args.most t c.in-Some.regions _ _ _ _ _ a c.open_window-opened.new.self h inside c.in-Some.ensures pc sp fields opened
    _ _ _ _ work _ (omega (arith, c.if-glided-eq0.false)) refl c.copied-self-2.ensures (ap (data_of shown) c.swap-4.ensures.y_after) (λ u held. c.set_current.ensures.holds g u held))
