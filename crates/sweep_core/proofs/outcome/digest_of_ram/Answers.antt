use Rattle.std.proofs.Common.{◌≡◌, ◌∙◌, ◌+◌, ◌-◌, ◌<◌, ℕ, Bool, cond, length, get_or, leb, Option, None, refl, sym, ap, arith}
use Rattle.std.specs.Prelude.{slice_get, unwrap_or}
use Rattle.std.proofs.lemmas.Bool.{le-leb}
use Rattle.std.proofs.lemmas.List.Sums.{fold_more}
use Rattle.std.proofs.lemmas.Option.{unwrap_or-slice_get}
use Rattle.mem_banks.specs.Memory.{Memory, byte_at}
use Rattle.sweep_core.specs.Outcomes.{digest, digest_start}
use Rattle.sweep_core.proofs.outcome.digest_of_ram.Goals as goal

-- the byte at a place of the RAM
byte_in : (m : Memory) (a k : ℕ) → a ≡ 0x20000000 + k → unwrap_or (byte_at m a) 0 ≡ get_or m.ram k 0
byte_in m a k is =
    let there : a - 0x20000000 ≡ k = omega arith in
    ap (λ (b : Bool). unwrap_or (cond b (slice_get m.ram (a - 0x20000000)) (cond (leb 0x08000000 a) (slice_get m.flash (a - 0x08000000)) None)) 0) (le-leb 0x20000000 a (omega arith))
    ∙ ap (λ n. unwrap_or (slice_get m.ram n) 0) there
    ∙ unwrap_or-slice_get m.ram k 0

pub loop-k-preserved : goal.loop-k-preserved
loop-k-preserved g c = λ x s st.
    let k = c.loop-k.k in
    let lt : k < length s.memory.ram = omega (arith, c.ram_len-k-end.ensures.len x s st, c.loop-k-test.true) in
    let byte : c.unwrap_or.result ≡ get_or s.memory.ram k 0 = c.unwrap_or.ensures ∙ ap (λ (o : Option ℕ). unwrap_or o 0) (c.byte.ensures x s st) ∙ byte_in s.memory _ k refl in
    c.digest-d.ensures ∙ (λ j. digest (c.loop-k.invariant x s st j) (byte j)) ∙ sym (fold_more digest digest_start s.memory.ram k 0 lt)
