-- New devices, each at a higher base than those before it.
use Rattle.std.proofs.Common.{◌≡◌, ◌≢◌, ℕ, zero, suc, ◌+◌, ◌<◌, ◌≤◌, List, [], ◌∷◌, ◌++◌, length, map, refl, sym, ◌∙◌, ap, subst, arith}
use Rattle.std.specs.Prelude.{Contains}
use Rattle.std.proofs.lemmas.List.{length-append, map_push}
use Rattle.kernel_abi.specs.declared.Kind.{Kind}
use Rattle.kernel_abi.specs.Devices.{DeviceData, IsDevicePlace, IsFresh, AreFresh, device_at}

-- one more, at a place that is none of theirs
module _ (d : DeviceData) (new : IsFresh d) where
  each_fresh : (ds : List DeviceData) → ((e : DeviceData) → Contains ds e → IsFresh e) → (e : DeviceData) → Contains (ds ++ d ∷ []) e → IsFresh e
  each_fresh [] old e (zero, lt, is) = subst IsFresh is new
  each_fresh [] old e (suc i, lt, is) = absurd (omega (arith, lt))
  each_fresh (x ∷ xs) old e (zero, lt, is) = old e (zero, omega arith, is)
  each_fresh (x ∷ xs) old e (suc i, lt, is) = each_fresh xs (λ f here. old f (suc here.0, omega (arith, here.1), here.2)) e (i, omega (arith, lt), is)

  elsewhere : (b : ℕ) (ds : List DeviceData) → ((k : ℕ) → k < length ds → b ≢ (device_at ds k).base) → b ≢ d.base → (k : ℕ) → k < length (ds ++ d ∷ []) → b ≢ (device_at (ds ++ d ∷ []) k).base
  elsewhere b [] old other zero lt = other
  elsewhere b [] old other (suc k) lt = absurd (omega (arith, lt))
  elsewhere b (x ∷ xs) old other zero lt = old zero (omega arith)
  elsewhere b (x ∷ xs) old other (suc k) lt = elsewhere b xs (λ i within. old (suc i) (omega (arith, within))) other k (omega (arith, lt))

  apart : (ds : List DeviceData) → ((j k : ℕ) → j < k → k < length ds → (device_at ds j).base ≢ (device_at ds k).base) → ((k : ℕ) → k < length ds → (device_at ds k).base ≢ d.base) → (j k : ℕ) → j < k → k < length (ds ++ d ∷ []) → (device_at (ds ++ d ∷ []) j).base ≢ (device_at (ds ++ d ∷ []) k).base
  apart ds old other j zero lt within = absurd (omega (arith, lt))
  apart [] old other j (suc k) lt within = absurd (omega (arith, within))
  apart (x ∷ xs) old other zero (suc k) lt within = elsewhere x.base xs (λ i inside. old zero (suc i) (omega arith) (omega (arith, inside))) (other zero (omega arith)) k (omega (arith, within))
  apart (x ∷ xs) old other (suc j) (suc k) lt within = apart xs (λ a b ab inside. old (suc a) (suc b) (omega (arith, ab)) (omega (arith, inside))) (λ i inside. other (suc i) (omega (arith, inside))) j k (omega (arith, lt)) (omega (arith, within))

  one_more : (ds : List DeviceData) → AreFresh ds → length ds < 8 → ((k : ℕ) → k < length ds → (device_at ds k).base ≢ d.base) → AreFresh (ds ++ d ∷ [])
  one_more ds h few other = record { few = omega (arith, few, length-append ds (d ∷ [])); fresh = each_fresh ds h.fresh; apart = apart ds h.apart other }

-- so many devices, which may be handed in, each below an address
pub record AreBelow (ds : List DeviceData) (count end : ℕ) : Type 0 where
  pub fresh : AreFresh ds
  pub many : length ds ≡ count
  pub low : (k : ℕ) → k < length ds → (device_at ds k).base < end

below_more : (ds : List DeviceData) (d : DeviceData) → ((k : ℕ) → k < length ds → (device_at ds k).base < d.base + 1) → (k : ℕ) → k < length (ds ++ d ∷ []) → (device_at (ds ++ d ∷ []) k).base < d.base + 1
below_more [] d old zero lt = omega arith
below_more [] d old (suc k) lt = absurd (omega (arith, lt))
below_more (x ∷ xs) d old zero lt = old zero (omega arith)
below_more (x ∷ xs) d old (suc k) lt = below_more xs d (λ i within. old (suc i) (omega (arith, within))) k (omega (arith, lt))

device_above : (ds : List DeviceData) (d : DeviceData) (count end : ℕ) → AreBelow ds count end → IsFresh d → count < 8 → end ≤ d.base → AreBelow (ds ++ d ∷ []) (count + 1) (d.base + 1)
device_above ds d count end h new few above = record {
  fresh = one_more d new ds h.fresh (omega (arith, few, h.many)) (λ k within. λ same. let low = h.low k within in absurd (omega (arith, low, above, same)));
  many = omega (arith, h.many, length-append ds (d ∷ []));
  low = below_more ds d (λ k within. let low = h.low k within in omega (arith, low, above));
}

module _ {A : Type 0} (shown : A → DeviceData) where
  pub none_below : (xs : List A) → xs ≡ [] → AreBelow (map shown xs) 0 0
  none_below xs none = subst (λ ys. AreBelow (map shown ys) 0 0) (sym none) record {
    fresh = record { few = omega arith; fresh = λ d h. absurd (omega (arith, h.1)); apart = λ j k lt within. absurd (omega (arith, within)) };
    many = refl;
    low = λ k within. absurd (omega (arith, within));
  }

  pub one_above : (xs ys : List A) (x : A) (kind : Kind) (base count end : ℕ) → AreBelow (map shown xs) count end → ys ≡ xs ++ x ∷ [] → shown x ≡ record { kind = kind; base = base; count = 0; queue = [] } → IsDevicePlace base → count < 8 → end ≤ base → AreBelow (map shown ys) (count + 1) (base + 1)
  one_above xs ys x kind base count end h are is place few above =
      let d : DeviceData = record { kind = kind; base = base; count = 0; queue = [] } in
      let e : map shown ys ≡ map shown xs ++ d ∷ [] = ap (map shown) are ∙ map_push shown xs x ∙ ap (λ a. map shown xs ++ a ∷ []) is in
      subst (λ ds. AreBelow ds (count + 1) (base + 1)) (sym e) (device_above (map shown xs) d count end h record { place = place; none = refl; empty = refl } few above)

  pub below_fresh : (xs : List A) (count end : ℕ) → AreBelow (map shown xs) count end → AreFresh (map shown xs)
  below_fresh xs count end h = h.fresh
