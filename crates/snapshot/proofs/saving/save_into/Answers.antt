use Rattle.std.proofs.Common.{◌∙◌, ◌++◌, ℕ, List, take, ap, sym, arith}
use Rattle.std.specs.List.{flat_map}
use Rattle.mem_banks.specs.Memory.{Memory}
use Rattle.board_model.specs.Alike.{reduced}
use Rattle.snapshot.specs.declared.records.Header.{Header}
use Rattle.snapshot.specs.Records.{task_bytes, device_bytes, header_bytes}
use Rattle.snapshot.specs.Saved.{parts_of}
use Rattle.snapshot.proofs.StandsForSome.{as_long, large_stood, spelling_long, spells}
use Rattle.snapshot.proofs.Written.{five_written}
use Rattle.snapshot.proofs.saving.save_into.Goals as goal

pub save_tasks-at-requires : goal.save_tasks-at-requires
save_tasks-at-requires g c =
    let r = c.requires.room in
    let long = spelling_long r.0.setup r.1 r.2.sane in
    record { room = (r.0, r.1, r.2, omega (arith, long, r.3, c.put_header-at.ensures.after, c.put_header-at.ensures.len, c.put_lines-at.ensures.after, c.put_lines-at.ensures.len)) }

pub save_devices-at-requires : goal.save_devices-at-requires
save_devices-at-requires g c =
    let r = c.requires.room in
    let long = spelling_long r.0.setup r.1 r.2.sane in
    let after = c.save_tasks-at.ensures.after r.0 r.1 r.2 in
    record { room = (r.0, r.1, r.2, omega (arith, long, r.3, after, c.put_header-at.ensures.after, c.put_header-at.ensures.len, c.put_lines-at.ensures.after, c.put_lines-at.ensures.len, c.save_tasks-at.ensures.len)) }

pub save_ram-requires : goal.save_ram-requires
save_ram-requires g c =
    let r = c.requires.room in
    let long = spelling_long r.0.setup r.1 r.2.sane in
    let tasks = c.save_tasks-at.ensures.after r.0 r.1 r.2 in
    let devices = c.save_devices-at.ensures.after r.0 r.1 r.2 in
    record { room = (r.0, r.1, r.2, omega (arith, long, r.3, tasks, devices, c.put_header-at.ensures.after, c.put_header-at.ensures.len, c.put_lines-at.ensures.after, c.put_lines-at.ensures.len, c.save_tasks-at.ensures.len, c.save_devices-at.ensures.len)) }

pub returns : goal.returns
returns g c = λ x s st.
    let p = parts_of (reduced s) in
    let header = c.put_header-at.ensures.front ∙ ap (λ (h : Header). take 0 c.args.out.now ++ header_bytes h) (c.header_of.ensures x s st) in
    let lines = c.put_lines-at.ensures.front ∙ ap (λ (ls : List ℕ). take c.put_header-at.result c.put_header-at.new.out ++ ls) (c.lines_of.ensures x s st) in
    let ram = c.save_ram.ensures x s st ∙ ap (λ (m : Memory). take c.save_devices-at.result c.save_devices-at.new.out ++ m.ram) (sym (as_long s).ram) in
    let all = five_written _ _ _ _ _ (header_bytes p.header) p.lines (flat_map task_bytes p.tasks) (flat_map device_bytes p.devices) p.ram header lines (c.save_tasks-at.ensures.front x s st) (c.save_devices-at.ensures.front x s st) ram in
    spells x.setup s _ st.sane (large_stood _ x c.args.board.now s st) all
