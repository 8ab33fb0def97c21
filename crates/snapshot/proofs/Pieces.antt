-- A line, a device and the memory of the state that bytes spell.
use Rattle.std.proofs.Common.{◌≡◌, ◌∙◌, ◌+◌, ◌-◌, ◌<◌, ◌≤◌, ◌⊎◌, ℕ, zero, suc, Bool, true, false, not, ◌&&◌, ◌||◌, eqb, ltb, List, [], ◌∷◌, ◌++◌, length, length-drop, length-take, map, take, drop, get_or, arith, ap, sym, subst, refl}
use Rattle.std.specs.Prelude.{Contains, replicate}
use Rattle.std.specs.List.{list_any}
use Rattle.std.proofs.lemmas.List.{take-append-drop}
use Rattle.std.proofs.lemmas.Bool.{or_parts, eqb-true, ltb-false}
use Rattle.mem_banks.specs.Memory.{AreAllBytes}
use Rattle.kernel_abi.specs.Devices.{DeviceData, IsSaneDevice}
use Rattle.task_table.specs.model.Placed.{ArePlaced}
use Rattle.task_table.specs.model.State.{Setup, LineSetup}
use Rattle.task_table.specs.model.Sane.{IsOwned}
use Rattle.snapshot.specs.declared.records.DeviceRecord.{DeviceRecord}
use Rattle.snapshot.specs.Causes.{is_bad_line}
use Rattle.snapshot.specs.Accepted.{IsGoodDevice}
use Rattle.snapshot.specs.Saved.{line_number, device_told}
use Rattle.snapshot.specs.Restored.{line_from, device_from}
use Rattle.snapshot.proofs.Told.{zeros_are}

-- ## bytes

pub small_take : (m : ℕ) (xs : List ℕ) → ((i : ℕ) → get_or xs i 0 < 256) → (i : ℕ) → get_or (take m xs) i 0 < 256
small_take zero xs small i = omega arith
small_take (suc m) [] small i = omega arith
small_take (suc m) (x ∷ xs) small zero = small 0
small_take (suc m) (x ∷ xs) small (suc i) = small_take m xs (λ j. small (suc j)) i

pub all_small : (xs : List ℕ) → ((i : ℕ) → get_or xs i 0 < 256) → AreAllBytes xs
all_small [] small b h = absurd (omega (arith, h.1))
all_small (x ∷ xs) small b (zero, lt, same) = let e : x ≡ b = same in let first : x < 256 = small 0 in omega (arith, e, first)
all_small (x ∷ xs) small b (suc k, lt, same) = all_small xs (λ j. small (suc j)) b (k, omega (arith, lt), same)

-- regions lie in any RAM that is as large
pub placed_alike : (g : Setup) (flash ram other : List ℕ) → length ram ≡ length other → ArePlaced g record { flash = flash; ram = ram } → ArePlaced g record { flash = flash; ram = other }
placed_alike g flash ram other e p = record {
  within = λ i r here plain. subst (λ m. ((r.size ≡ 0) ⊎ ((0x20000000 ≤ r.base) × (r.base + r.size ≤ 0x20000000 + m))) ⊎ ((0x08000000 ≤ r.base) × (r.base + r.size ≤ 0x08000000 + length flash))) e (p.within i r here plain);
  writable = λ i r here plain may. subst (λ m. (r.size ≡ 0) ⊎ ((0x20000000 ≤ r.base) × (r.base + r.size ≤ 0x20000000 + m))) e (p.writable i r here plain may);
  flash = p.flash;
  devices = p.devices;
  below = subst (λ m. m ≤ 0x20000000) e p.below;
  owners = p.owners;
  stack = p.stack;
}

-- ## a line

pub line_again : (owned : List ℕ) (k byte : ℕ) → is_bad_line owned k byte ≡ false → line_number (line_from byte) ≡ byte
line_again owned k zero fine = refl
line_again owned k (suc zero) fine = refl
line_again owned k (suc (suc zero)) fine = refl
line_again owned k (suc (suc (suc b))) fine = let few = ltb-false 2 (suc (suc (suc b))) (or_parts _ _ fine).0 in absurd (omega (arith, few))

owner_of : (k : ℕ) (ls : List LineSetup) → list_any (λ n. eqb n k) (map (λ (l : LineSetup). l.line) ls) ≡ true → (o : LineSetup) × Contains ls o × (o.line ≡ k)
owner_of k [] e = cc
owner_of k (l ∷ ls) e = by (eqb l.line k) refl e (owner_of k ls)
  where
    by : (b : Bool) → eqb l.line k ≡ b → (b || list_any (λ n. eqb n k) (map (λ (l : LineSetup). l.line) ls)) ≡ true → (list_any (λ n. eqb n k) (map (λ (l : LineSetup). l.line) ls) ≡ true → (o : LineSetup) × Contains ls o × (o.line ≡ k)) → (o : LineSetup) × Contains (l ∷ ls) o × (o.line ≡ k)
    by true is e more = (l, (zero, omega arith, refl), eqb-true _ _ is)
    by false is e more = let r = more e in (r.0, (suc r.1.0, omega (arith, r.1.1), r.1.2), r.2)

pub pending_owned : (g : Setup) (k byte : ℕ) → is_bad_line (map (λ (l : LineSetup). l.line) g.lines) k byte ≡ false → (line_from byte).pending ≡ true → ((line_from byte).enabled ≡ false) × IsOwned g k
pending_owned g k byte fine pending =
    let two = eqb-true byte 2 pending in
    let not_bad = (or_parts (ltb 2 byte) _ fine).1 in
    (ap (λ b. eqb b 1) two, owner_of k g.lines (has_owner _ _ not_bad pending))
  where
    has_owner : (a b : Bool) → (a && not b) ≡ false → a ≡ true → b ≡ true
    has_owner true true e h = refl
    has_owner true false e h = cc
    has_owner false b e h = cc

-- ## a device

pub device_again : (d : DeviceData) (r : DeviceRecord) → length r.queue ≡ 64 → IsGoodDevice d.kind r → device_told (device_from d r) ≡ r
device_again d r long good =
    let few = good.few in
    let taken = length-take r.queued r.queue in
    let rest = length-drop r.queued r.queue in
    let many : length (take r.queued r.queue) ≡ r.queued = omega (arith, taken, long, few) in
    let left : 64 - length (take r.queued r.queue) ≡ length (drop r.queued r.queue) = omega (arith, many, rest, long, few) in
    let queue : take r.queued r.queue ++ replicate (64 - length (take r.queued r.queue)) 0 ≡ r.queue =
    ap (λ m. take r.queued r.queue ++ replicate m 0) left
    ∙ ap (λ xs. take r.queued r.queue ++ xs) (sym (zeros_are (drop r.queued r.queue) good.unused))
    ∙ take-append-drop r.queued r.queue in
    λ i. record { count = r.count; queued = many i; queue = queue i }

pub device_sane : (d : DeviceData) (r : DeviceRecord) → IsSaneDevice d → r.count < 4294967296 → ((i : ℕ) → get_or r.queue i 0 < 256) → IsGoodDevice d.kind r → IsSaneDevice (device_from d r)
device_sane d r sane count small good = record {
  place = sane.place;
  settable = good.settable;
  counted = count;
  bytes = λ byte here. all_small (take r.queued r.queue) (small_take r.queued r.queue small) byte here;
}
