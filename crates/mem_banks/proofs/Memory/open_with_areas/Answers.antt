use Rattle.std.proofs.Common.{◌≡◌, length, Some, None, arith}
use Rattle.std.proofs.lemmas.List.{take_at}
use Rattle.mem_banks.specs.Windows.{AreRising}
use Rattle.mem_banks.proofs.Openings.{all_kept, all_spans, rising_window}
use Rattle.mem_banks.proofs.Memory.open_with_areas.Goals as goal

pub invariant_of-self : goal.invariant_of-self
invariant_of-self g c =
    let a = c.args in
    let b = c.in-Some in
    let banks = c.self.inside.banks.items in
    let table = c.self.inside.table.items in
    let after = c.open_rising.new.banks in
    let e : length after ≡ c.self.inside.banks.len = omega (arith, c.open_rising.auto.banks, c.deref_mut.ensures.len) in
    let there : AreRising banks b.code b.data b.more b.last a.flash a.ram a.area a.second = rw c.deref.ensures.value at b.ensures in
    let opened = rw c.deref_mut.ensures.value at c.open_rising.ensures in
    let kept = all_kept g.B.WindowUser.did table banks after b.code (Some b.data) (Some b.more) b.last a.flash a.ram a.area a.second a.user.now c.open_rising.new.user c.self.invariant.0 there.3 there.4 there.5 there.6 opened in
    let spans = all_spans g.B.WindowUser.did table banks after b.code (Some b.data) (Some b.more) b.last a.flash a.ram a.area a.second a.user.now c.open_rising.new.user c.self.invariant.0 there.3 there.4 there.5 there.6 opened in
    rw (take_at after _ c.self.inside.banks.len e, spans) (kept, c.self.invariant.1, c.self.invariant.2)

pub returns-in-Some-clause-opened : goal.returns-in-Some-clause-opened
returns-in-Some-clause-opened g c = λ _.
    let a = c.args in
    let b = c.in-Some in
    let banks = c.self.inside.banks.items in
    let after = c.open_rising.new.banks in
    let e : length after ≡ c.self.inside.banks.len = omega (arith, c.open_rising.auto.banks, c.deref_mut.ensures.len) in
    let there : AreRising banks b.code b.data b.more b.last a.flash a.ram a.area a.second = rw c.deref.ensures.value at b.ensures in
    let opened = rw c.deref_mut.ensures.value at c.open_rising.ensures in
    rw (← c.self.view_is, take_at after _ c.self.inside.banks.len e)
    (rising_window g.B.WindowUser.did c.self.inside.table.items banks after b.code b.data b.more b.last a.flash a.ram a.area a.second a.user.now c.open_rising.new.user c.self.invariant.0 there opened)
