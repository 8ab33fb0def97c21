use Rattle.std.proofs.Common.{◌≡◌, length, Some, None, arith}
use Rattle.std.proofs.lemmas.List.{take_at}
use Rattle.mem_banks.specs.Windows.{AreUsual}
use Rattle.mem_banks.proofs.Openings.{all_kept, all_spans, all_window}
use Rattle.mem_banks.proofs.Memory.open_window.Goals as goal

pub invariant_of-self : goal.invariant_of-self
invariant_of-self g c =
    let a = c.args in
    let banks = c.self.inside.banks.items in
    let table = c.self.inside.table.items in
    let after = c.open_usual.new.banks in
    let e : length after ≡ c.self.inside.banks.len = omega (arith, c.open_usual.auto.banks, c.deref_mut.ensures.len) in
    let usual : AreUsual banks c.in-Some.code c.in-Some.data a.flash a.ram a.area a.second = rw c.deref.ensures.value at c.in-Some.ensures in
    let opened = rw c.deref_mut.ensures.value at c.open_usual.ensures in
    let kept = all_kept g.B.WindowUser.did table banks after c.in-Some.code (Some c.in-Some.data) None None a.flash a.ram a.area a.second a.user.now c.open_usual.new.user c.self.invariant.0 usual.1 usual.2 usual.3 usual.4 opened in
    let spans = all_spans g.B.WindowUser.did table banks after c.in-Some.code (Some c.in-Some.data) None None a.flash a.ram a.area a.second a.user.now c.open_usual.new.user c.self.invariant.0 usual.1 usual.2 usual.3 usual.4 opened in
    rw (take_at after _ c.self.inside.banks.len e, spans) (kept, c.self.invariant.1, c.self.invariant.2)

pub returns-in-Some-clause-opened : goal.returns-in-Some-clause-opened
returns-in-Some-clause-opened g c = λ _.
    let a = c.args in
    let banks = c.self.inside.banks.items in
    let after = c.open_usual.new.banks in
    let e : length after ≡ c.self.inside.banks.len = omega (arith, c.open_usual.auto.banks, c.deref_mut.ensures.len) in
    let usual : AreUsual banks c.in-Some.code c.in-Some.data a.flash a.ram a.area a.second = rw c.deref.ensures.value at c.in-Some.ensures in
    let opened = rw c.deref_mut.ensures.value at c.open_usual.ensures in
    let apart : c.in-Some.code ≡ c.in-Some.data → ⊥ = λ same. omega (arith, same, usual.0) in
    rw (← c.self.view_is, take_at after _ c.self.inside.banks.len e)
    (all_window g.B.WindowUser.did c.self.inside.table.items banks after c.in-Some.code (Some c.in-Some.data) None None a.flash a.ram a.area a.second a.user.now c.open_usual.new.user c.self.invariant.0 usual.1 usual.2 usual.3 usual.4 opened apart tt tt tt tt tt)
