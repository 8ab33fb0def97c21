use Rattle.std.proofs.Common.{◌≡◌, ◌<◌, ℕ, length, rules, ap, sym, ◌∙◌}
use Rattle.std.proofs.lemmas.List.{length-replicate}
use Rattle.mem_banks.specs.Kept.{spans_of}
use Rattle.mem_banks.specs.Parts.{flash_size, ram_size}
use Rattle.mem_banks.proofs.Opens.{two_laid, zeros_one}
use Rattle.mem_banks.proofs.Parting.{all_parts, empty_parts, flash_length, ram_length}
use Rattle.mem_banks.proofs.opening.banks_over.Goals as goal
use Rattle.mem_banks.proofs.opening.banks_over.Goals.{then-is_empty+in_ok-add, else-is_empty}

pub returns-clause-zeros : goal.returns-clause-zeros
returns-clause-zeros c =
    let e = c.new-banks.ensures.items in
    let t = two_laid _ _ c.args.flash c.args.ram c.requires.flash (rw e at c.in_ok-lay.ensures.laid) c.in_ok-lay-2.ensures.laid in
    elim c.if-is_empty.branch [
      | then-is_empty+in_ok-add w ↦
          let n : length c.lay-2.new.banks.items ≡ 0 = search rules in
          let b = w.in_ok-add.ensures in
          rw (w.banks-is, b.1) (zeros_one c.lay-2.new.banks.items b.0 c.args.flash c.args.ram t.0 t.1 t.2 n b.2 b.3)
      | else-is_empty w ↦
          let n : 0 < length c.lay-2.new.banks.items = search rules in
          rw w.banks-is record { some = n; laid = t.0; flash = t.1; ram = t.2 }
    ]

pub returns-clause-parts : goal.returns-clause-parts
returns-clause-parts c =
    let e = c.new-banks.ensures.items in
    let t = two_laid _ _ c.args.flash c.args.ram c.requires.flash (rw e at c.in_ok-lay.ensures.laid) c.in_ok-lay-2.ensures.laid in
    let f : c.args.flash ≡ flash_size (spans_of c.lay-2.new.banks.items) = sym (flash_length c.lay-2.new.banks.items ∙ (ap length t.1 ∙ length-replicate {A = ℕ} c.args.flash 0)) in
    let r : c.args.ram ≡ ram_size (spans_of c.lay-2.new.banks.items) = sym (ram_length c.lay-2.new.banks.items ∙ (ap length t.2 ∙ length-replicate {A = ℕ} c.args.ram 0)) in
    let p = all_parts c.args.regions.now _ _ c.args.flash c.args.ram c.requires.regions (rw e at c.in_ok-lay.ensures.parts) c.in_ok-lay-2.ensures.parts f r c.requires.flash in
    elim c.if-is_empty.branch [
      | then-is_empty+in_ok-add w ↦
          let n : length c.lay-2.new.banks.items ≡ 0 = search rules in
          let b = w.in_ok-add.ensures in
          let z : length b.0.bytes.items ≡ 0 = ap length b.3 in
          rw (w.banks-is, b.1) (empty_parts c.args.regions.now c.lay-2.new.banks.items b.0 p n z)
      | else-is_empty w ↦ rw w.banks-is p
    ]
