use Rattle.std.proofs.Common.{◌≡◌, length, arith}
use Rattle.std.proofs.lemmas.List.{take_at}
use Rattle.mem_banks.specs.Windows.{IsBankOf, HasNoBank, IsPlaceOf, HasNoPlace}
use Rattle.mem_banks.proofs.Openings.{all_kept, all_spans, all_window, text_found, place_found, code_apart, data_apart, first_other, last_other}
use Rattle.mem_banks.proofs.Memory.open_any.Goals as goal
use Rattle.mem_banks.proofs.Memory.open_any.Goals.{then-not-are_two-via-then-not-are_two, then-not-are_two-via-else-not-are_two+then-not-are_two-2, then-not-are_two-via-else-not-are_two+else-not-are_two-2+then-not-are_two-3, then-not-are_two-4-via-then-not-are_two-4, then-not-are_two-4-via-else-not-are_two-4+then-not-are_two-5, then-not-are_two-4-via-else-not-are_two-4+else-not-are_two-5+then-not-are_two-6}

pub returns-in_default-clause-given : goal.returns-in_default-clause-given
returns-in_default-clause-given g c = λ given.
    let a = c.args in
    let here = rw (← c.self.view_is) at given in
    let none : HasNoBank c.self.inside.banks.items a.flash = rw c.deref.ensures.value at c.in_default.ensures.none in
    absurd (text_found c.self.inside.regions.items c.self.inside.banks.items a.flash a.ram a.area a.second c.self.invariant.1 here none)

pub returns-in_default-ram_bank-clause-given : goal.returns-in_default-ram_bank-clause-given
returns-in_default-ram_bank-clause-given g c = λ given.
    let here = rw (← c.self.view_is) at given in
    let none : HasNoPlace c.self.inside.banks.items c.args.ram = rw c.deref-3.ensures.value at c.in_default-ram_bank.ensures.none in
    absurd (place_found c.self.inside.regions.items c.self.inside.banks.items c.args.ram c.self.invariant.1 here.ram_given none)

pub returns-in_default-ram_bank-2-clause-given : goal.returns-in_default-ram_bank-2-clause-given
returns-in_default-ram_bank-2-clause-given g c = λ given.
    let here = rw (← c.self.view_is) at given in
    let none : HasNoPlace c.self.inside.banks.items c.args.area = rw c.deref-5.ensures.value at c.in_default-ram_bank-2.ensures.none in
    absurd (place_found c.self.inside.regions.items c.self.inside.banks.items c.args.area c.self.invariant.1 here.area_given none)

pub returns-in_default-ram_bank-3-clause-given : goal.returns-in_default-ram_bank-3-clause-given
returns-in_default-ram_bank-3-clause-given g c = λ given.
    let here = rw (← c.self.view_is) at given in
    let none : HasNoPlace c.self.inside.banks.items c.args.second = rw c.deref-7.ensures.value at c.in_default-ram_bank-3.ensures.none in
    absurd (place_found c.self.inside.regions.items c.self.inside.banks.items c.args.second c.self.invariant.1 here.second_given none)

pub returns-then-not-are_two-clause-given : goal.returns-then-not-are_two-clause-given
returns-then-not-are_two-clause-given g c = λ given.
    let a = c.args in
    let banks = c.self.inside.banks.items in
    let here = rw (← c.self.view_is) at given in
    let of_i : IsBankOf banks c.in-Some.code a.flash = rw c.deref.ensures.value at c.in-Some.ensures.found in
    let of_j : IsPlaceOf banks c.in-Some-ram_bank.data a.ram = rw c.deref-3.ensures.value at c.in-Some-ram_bank.ensures.found in
    let of_k : IsPlaceOf banks c.in-Some-ram_bank-2.more a.area = rw c.deref-5.ensures.value at c.in-Some-ram_bank-2.ensures.found in
    elim c.then-not-are_two.branch [
      | then-not-are_two-via-then-not-are_two w ↦ absurd (c.are_two.ensures.one w.if-not-are_two.true (code_apart banks c.in-Some.code c.in-Some-ram_bank.data a.flash a.ram here.below of_i of_j))
      | then-not-are_two-via-else-not-are_two+then-not-are_two-2 w ↦ absurd (w.are_two-else-not-are_two.ensures.one w.if-not-are_two-2.true (code_apart banks c.in-Some.code c.in-Some-ram_bank-2.more a.flash a.area here.below of_i of_k))
      | then-not-are_two-via-else-not-are_two+else-not-are_two-2+then-not-are_two-3 w ↦ absurd (w.are_two-else-not-are_two-2.ensures.one w.if-not-are_two-3.true (data_apart banks c.in-Some-ram_bank.data c.in-Some-ram_bank-2.more a.ram a.area here.other of_j of_k))
    ]

pub returns-then-not-are_two-4-clause-given : goal.returns-then-not-are_two-4-clause-given
returns-then-not-are_two-4-clause-given g c = λ given.
    let a = c.args in
    let banks = c.self.inside.banks.items in
    let here = rw (← c.self.view_is) at given in
    let of_i : IsBankOf banks c.in-Some.code a.flash = rw c.deref.ensures.value at c.in-Some.ensures.found in
    let of_j : IsPlaceOf banks c.in-Some-ram_bank.data a.ram = rw c.deref-3.ensures.value at c.in-Some-ram_bank.ensures.found in
    let of_k : IsPlaceOf banks c.in-Some-ram_bank-2.more a.area = rw c.deref-5.ensures.value at c.in-Some-ram_bank-2.ensures.found in
    let of_l : IsPlaceOf banks c.in-Some-ram_bank-3.last a.second = rw c.deref-7.ensures.value at c.in-Some-ram_bank-3.ensures.found in
    elim c.then-not-are_two-4.branch [
      | then-not-are_two-4-via-then-not-are_two-4 w ↦ absurd (c.are_two-2.ensures.one w.if-not-are_two-4.true (code_apart banks c.in-Some.code c.in-Some-ram_bank-3.last a.flash a.second here.below of_i of_l))
      | then-not-are_two-4-via-else-not-are_two-4+then-not-are_two-5 w ↦ absurd (w.are_two-else-not-are_two-4.ensures.one w.if-not-are_two-5.true (data_apart banks c.in-Some-ram_bank.data c.in-Some-ram_bank-3.last a.ram a.second (first_other a.ram a.area a.second here.second_other) of_j of_l))
      | then-not-are_two-4-via-else-not-are_two-4+else-not-are_two-5+then-not-are_two-6 w ↦ absurd (w.are_two-else-not-are_two-5.ensures.one w.if-not-are_two-6.true (data_apart banks c.in-Some-ram_bank-2.more c.in-Some-ram_bank-3.last a.area a.second (last_other a.ram a.area a.second here.second_other) of_k of_l))
    ]

pub invariant_of-self : goal.invariant_of-self
invariant_of-self g c =
    let a = c.args in
    let banks = c.self.inside.banks.items in
    let table = c.self.inside.table.items in
    let after = c.open_all.new.banks in
    let e : length after ≡ c.self.inside.banks.len = omega (arith, c.open_all.auto.banks, c.deref_mut.ensures.len) in
    let of_i : IsBankOf banks c.in-Some.code a.flash = rw c.deref.ensures.value at c.in-Some.ensures.found in
    let of_j : IsPlaceOf banks c.in-Some-ram_bank.data a.ram = rw c.deref-3.ensures.value at c.in-Some-ram_bank.ensures.found in
    let of_k : IsPlaceOf banks c.in-Some-ram_bank-2.more a.area = rw c.deref-5.ensures.value at c.in-Some-ram_bank-2.ensures.found in
    let of_l : IsPlaceOf banks c.in-Some-ram_bank-3.last a.second = rw c.deref-7.ensures.value at c.in-Some-ram_bank-3.ensures.found in
    let opened = rw c.deref_mut.ensures.value at c.open_all.ensures in
    let kept = all_kept g.B.WindowUser.did table banks after c.in-Some.code c.in-Some-ram_bank.data c.in-Some-ram_bank-2.more c.in-Some-ram_bank-3.last a.flash a.ram a.area a.second a.user.now c.open_all.new.user c.self.invariant.0 of_i of_j of_k of_l opened in
    let spans = all_spans g.B.WindowUser.did table banks after c.in-Some.code c.in-Some-ram_bank.data c.in-Some-ram_bank-2.more c.in-Some-ram_bank-3.last a.flash a.ram a.area a.second a.user.now c.open_all.new.user c.self.invariant.0 of_i of_j of_k of_l opened in
    rw (take_at after _ c.self.inside.banks.len e, spans) (kept, c.self.invariant.1, c.self.invariant.2)

pub returns-clause-opened : goal.returns-clause-opened
returns-clause-opened g c = λ _.
    let a = c.args in
    let banks = c.self.inside.banks.items in
    let after = c.open_all.new.banks in
    let e : length after ≡ c.self.inside.banks.len = omega (arith, c.open_all.auto.banks, c.deref_mut.ensures.len) in
    let of_i : IsBankOf banks c.in-Some.code a.flash = rw c.deref.ensures.value at c.in-Some.ensures.found in
    let of_j : IsPlaceOf banks c.in-Some-ram_bank.data a.ram = rw c.deref-3.ensures.value at c.in-Some-ram_bank.ensures.found in
    let of_k : IsPlaceOf banks c.in-Some-ram_bank-2.more a.area = rw c.deref-5.ensures.value at c.in-Some-ram_bank-2.ensures.found in
    let of_l : IsPlaceOf banks c.in-Some-ram_bank-3.last a.second = rw c.deref-7.ensures.value at c.in-Some-ram_bank-3.ensures.found in
    let opened = rw c.deref_mut.ensures.value at c.open_all.ensures in
    let apart = c.are_two.ensures.two c.if-not-are_two.false in
    let beside = c.are_two-else-not-are_two.ensures.two c.if-not-are_two-2.false in
    let two = c.are_two-else-not-are_two-2.ensures.two c.if-not-are_two-3.false in
    let second_beside = c.are_two-2.ensures.two c.if-not-are_two-4.false in
    let second_two = c.are_two-else-not-are_two-4.ensures.two c.if-not-are_two-5.false in
    let areas = c.are_two-else-not-are_two-5.ensures.two c.if-not-are_two-6.false in
    rw (← c.self.view_is, take_at after _ c.self.inside.banks.len e)
    (all_window g.B.WindowUser.did c.self.inside.table.items banks after c.in-Some.code c.in-Some-ram_bank.data c.in-Some-ram_bank-2.more c.in-Some-ram_bank-3.last a.flash a.ram a.area a.second a.user.now c.open_all.new.user c.self.invariant.0 of_i of_j of_k of_l opened apart beside two second_beside second_two areas)
