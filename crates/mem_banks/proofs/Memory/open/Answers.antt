use Rattle.std.proofs.Common.{rules, ◌≡◌, ◌<◌, get_or, ℕ, Fits, w8, refl}
use Rattle.mem_banks.proofs.Copies.{all_bytes}
use Rattle.mem_banks.proofs.Opens.{kept_zeros, opened_beside}
use Rattle.mem_banks.proofs.Parting.{zeros_size}
use Rattle.mem_banks.proofs.Memory.open.Goals as goal

pub returns-clause-bytes : goal.returns-clause-bytes
returns-clause-bytes c =
    let small : (k : ℕ) → get_or c.args.flash.now k 0 < 256 = λ k. let fits : Fits w8 (get_or c.args.flash.now k 0) = c.type_inv.flash k in search rules in
    all_bytes c.args.flash.now small

pub returns-clause-value : goal.returns-clause-value
returns-clause-value c =
    let same : c.in_ok-to_vec.field-0.items ≡ c.args.regions.now = search rules in
    opened_beside _ c.args.regions.now c.in_ok-banks.banks.items c.args.flash.now c.args.ram _ c.store.new.self c.in_ok-banks.ensures.zeros refl same c.store.ensures

pub invariant_of-memory : goal.invariant_of-memory
invariant_of-memory c =
    let zeros = c.in_ok-banks.ensures.zeros in
    let hints = rw c.deref.ensures.value at c.in_ok-table.ensures.hints in (
      kept_zeros c.in_ok-table.table.items c.in_ok-banks.banks.items _ c.args.ram zeros c.requires.flash c.requires.ram c.in_ok-table.ensures.pages hints,
      search rules,
      zeros_size c.in_ok-banks.banks.items _ c.args.ram zeros,
    )
