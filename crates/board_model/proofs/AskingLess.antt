-- Neither a load nor a store makes a device ask.
use Rattle.std.proofs.Common.{◌≡◌, inl, inr, ℕ, zero, suc, Bool, true, false, cond, List, [], ◌∷◌, length, drop, Option, Some, None, refl, sym, ◌∙◌, ap, arith, ltb, eqb, set, subst, length-set}
use Rattle.std.proofs.lemmas.Bool.{ltb-false}
use Rattle.std.proofs.lemmas.List.Folds.{position_or_len-set}
use Rattle.kernel_abi.specs.declared.Kind.{Kind}
use Rattle.kernel_abi.specs.declared.Kind.TheVariants as kind
use Rattle.kernel_abi.specs.Devices.{DeviceData, queue_after_load, after_load, after_store, is_behind, behind, device_at, offset_in, loaded_at, devices_loaded, stored_at, devices_stored}
use Rattle.task_table.specs.model.State.{Setup}
use Rattle.task_table.specs.model.Asking.{asks, asks_of, asks_at}
use Rattle.task_table.specs.model.Grounds.{IsReached, AreReached, Untouched, Once}

-- where no device asks, none does in the second
abbrev pub AsksLess : List DeviceData → List DeviceData → Type 0
AsksLess ds es = (addr : ℕ) → asks_at ds addr ≡ false → asks_at es addr ≡ false

-- ## one device

abbrev asks_itself : DeviceData → Bool
asks_itself d = asks d.kind d.queue

empty : (queue : List ℕ) → ltb 0 (length queue) ≡ false → queue ≡ []
empty [] e = refl
empty (byte ∷ queue) e = let none = ltb-false 0 (length (byte ∷ queue)) e in absurd (omega (arith, none))

loaded_less : (k : Kind) (queue : List ℕ) (off : ℕ) → asks k queue ≡ false → asks k (queue_after_load k queue off) ≡ false
loaded_less kind.Console queue off e = e
loaded_less kind.Port queue off e = by_offset (eqb off 0)
  where
    by_offset : (b : Bool) → ltb 0 (length (cond b (drop 1 queue) queue)) ≡ false
    by_offset true = ap (λ (q : List ℕ). ltb 0 (length (drop 1 q))) (empty queue e)
    by_offset false = e

-- ## one of them becomes another at the same place

at_less : (ds : List DeviceData) (k m : ℕ) (d : DeviceData) → (asks_itself (device_at ds k) ≡ false → asks_itself d ≡ false) → asks_itself (device_at ds m) ≡ false → asks_itself (device_at (set ds k d) m) ≡ false
at_less [] k m d less e = e
at_less (y ∷ ys) zero zero d less e = less e
at_less (y ∷ ys) zero (suc m) d less e = e
at_less (y ∷ ys) (suc k) zero d less e = e
at_less (y ∷ ys) (suc k) (suc m) d less e = at_less ys k m d less e

behind_same : (ds : List DeviceData) (k : ℕ) (d : DeviceData) (addr : ℕ) → d.base ≡ (device_at ds k).base → behind addr (set ds k d) ≡ behind addr ds
behind_same ds k d addr same =
    let tests : is_behind addr d ≡ is_behind addr (device_at ds k) = ap (λ (base : ℕ). is_behind addr record d { base = base }) same in
    let places = position_or_len-set (is_behind addr) ds k d _ tests in
    let long = length-set ds k d in
    λ j. cond (ltb (places j) (long j)) (Some (places j)) None

set_less : (ds : List DeviceData) (k : ℕ) (d : DeviceData) → d.base ≡ (device_at ds k).base → (asks_itself (device_at ds k) ≡ false → asks_itself d ≡ false) → AsksLess ds (set ds k d)
set_less ds k d same less addr e = ap (asks_of (set ds k d)) (behind_same ds k d addr same) ∙ by_place (behind addr ds) e
  where
    by_place : (o : Option ℕ) → asks_of ds o ≡ false → asks_of (set ds k d) o ≡ false
    by_place None f = f
    by_place (Some m) f = at_less ds k m d less f

-- ## loads and stores

loads_less : (ds : List DeviceData) (at : ℕ) → AsksLess ds (devices_loaded ds at)
loads_less ds at = by_place (behind at ds)
  where
    by_place : (o : Option ℕ) → AsksLess ds (loaded_at ds o at)
    by_place None = λ addr e. e
    by_place (Some k) =
        let d = device_at ds k in
        let off = offset_in ds k at in
        set_less ds k (after_load d off) refl (λ e. loaded_less d.kind d.queue off e)

stores_less : (ds : List DeviceData) (at : ℕ) → AsksLess ds (devices_stored ds at)
stores_less ds at = by_place (behind at ds)
  where
    by_place : (o : Option ℕ) → AsksLess ds (stored_at ds o at)
    by_place None = λ addr e. e
    by_place (Some k) = set_less ds k (after_store (device_at ds k) (offset_in ds k at)) refl (λ e. e)

one_less : (g : Setup) (c : ℕ) (ds es : List DeviceData) → IsReached g c ds es → AsksLess ds es
one_less g c ds es (inl (at, may, is)) = subst (AsksLess ds) (sym is) (loads_less ds at)
one_less g c ds es (inr (at, may, is)) = subst (AsksLess ds) (sym is) (stores_less ds at)

pub reached_less : (g : Setup) (c : ℕ) (ds es : List DeviceData) → AreReached g c ds es → AsksLess ds es
reached_less g c _ _ (Untouched ds) = λ addr e. e
reached_less g c _ _ (Once old between new before one) = λ addr e. one_less g c between new one addr (reached_less g c old between before addr e)
