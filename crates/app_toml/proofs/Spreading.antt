-- Of devices that are kept by their bases, a further one meets one where it meets the last that begins before its end.
use Rattle.std.proofs.Common.{◌≡◌, ◌∙◌, ◌≢◌, ◌<◌, ◌≤◌, ◌+◌, ◌==◌, ◌&&◌, ◌||◌, ℕ, zero, suc, List, [], ◌∷◌, ◌++◌, get_or, length, map, take, Bool, true, false, inl, inr, nat_lt, Option, Some, None, is_some, refl, sym, ap, subst, arith}
use Rattle.std.specs.Prelude.{All, unwrap_or}
use Rattle.std.specs.BTreeMap.{is_at}
use Rattle.std.specs.List.{list_any}
use Rattle.std.specs.Ordering.{nat_cmp}
use Rattle.std.proofs.lemmas.Bool.Decides.{nat_tests}
use Rattle.std.proofs.lemmas.Bool.{cases_Bool, cases_lt, eq-eqb, eqb-true, false≢true, lt-ltb, ltb-false, ltb-true, and_from, and_parts}
use Rattle.std.specs.declared.cmp.Ordering.TheVariants.{Less}
use Rattle.std.proofs.lemmas.List.{get_or-map, length-map, take-map}
use Rattle.std.proofs.lemmas.List.Elements.{All-append, All-cons, All-take, All-nil}
use Rattle.std.proofs.lemmas.List.Folds.{Any-from_list_any, list_any-from_Any}
use Rattle.region_check.specs.Sizes.{is_size}
use Rattle.app_toml.specs.Apps.{DeviceData}
use Rattle.app_toml.specs.Crossed.{meets}
use Rattle.app_toml.specs.declared.parts.DeviceSpec.{DeviceSpec}
use Rattle.app_toml.specs.Relations.{IsPlaced}
use Rattle.app_toml.specs.Sites.{device_of}
use Rattle.app_toml.proofs.Gathered.{any_more}
use Rattle.app_toml.proofs.Walks.{any_weaker, none_passes}

no_size : is_size 0 ≡ true → ⊥
unfolding is_size
no_size e = false≢true e

pub positive : (n : ℕ) → is_size n ≡ true → 0 < n
positive zero e = absurd (no_size e)
positive (suc n) e = omega arith

same_some : (x y : ℕ) → Some x ≡ Some y → x ≡ y
same_some x y e = ap (λ o. unwrap_or o 0) e

-- what a map has: just these devices, and ranges that are apart
abbrev pub Has : (ℕ → Option ℕ) → List DeviceData → Type 0
Has f devices = All (λ d. f d.base ≡ Some d.size) devices
    × ((base size : ℕ) → f base ≡ Some size → list_any (λ d. d.base == base && d.size == size) devices ≡ true)

abbrev pub Spread : (ℕ → Option ℕ) → Type 0
Spread f = (b s c t : ℕ) → f b ≡ Some s → f c ≡ Some t → b < c → b + s ≤ c

-- it meets the one that the map has at a base
pub met : (f : ℕ → Option ℕ) (d : DeviceData) (kept : List DeviceData) (b s : ℕ) → Has f kept → f b ≡ Some s → b < d.base + d.size → d.base < b + s
    → list_any (meets d) kept ≡ true
met f d kept b s has there below above =
    let one = Any-from_list_any (λ e. e.base == b && e.size == s) kept (has.1 b s there) in
    list_any-from_Any (meets d) kept
    (any_weaker (λ e. (e.base == b && e.size == s) ≡ true) (λ e. meets d e ≡ true)
    (λ e h.
    let parts = and_parts (e.base == b) (e.size == s) h in
    let base = eqb-true e.base b parts.0 in
    let size = eqb-true e.size s parts.1 in
    and_from (nat_lt d.base (e.base + e.size)) (nat_lt e.base (d.base + d.size))
    (lt-ltb d.base (e.base + e.size) (omega (arith, base, size, above)))
    (lt-ltb e.base (d.base + d.size) (omega (arith, base, below))))
    kept one)

-- it meets none where none that begins before its end reaches it
clear : (f : ℕ → Option ℕ) (d : DeviceData) (kept : List DeviceData) → Has f kept
    → ((b s : ℕ) → f b ≡ Some s → b < d.base + d.size → d.base < b + s → ⊥) → list_any (meets d) kept ≡ false
clear f d kept has apart =
    elim (cases_Bool (list_any (meets d) kept)) [
      | inl some ↦
          let a = Any-from_list_any (meets d) kept some in
          let e = a.1 in
          let tests = and_parts (nat_lt d.base (e.base + e.size)) (nat_lt e.base (d.base + d.size)) a.4 in
          let there = subst (λ y. f y.base ≡ Some y.size) a.3 (has.0 a.0 a.1 a.2) in
          absurd (apart e.base e.size there (ltb-true e.base (d.base + d.size) tests.1) (ltb-true d.base (e.base + e.size) tests.0))
      | inr none ↦ none
    ]

pub none_below : (f : ℕ → Option ℕ) (d : DeviceData) (kept : List DeviceData) → Has f kept → ((base : ℕ) → base < d.base + d.size → f base ≡ None)
    → list_any (meets d) kept ≡ false
none_below f d kept has none =
    clear f d kept has (λ b s there below above. missing s (sym there ∙ none b below))
  where
    missing : (s : ℕ) → Some s ≡ None → ⊥
    missing s e = cc

pub last_decides : (f : ℕ → Option ℕ) (d : DeviceData) (kept : List DeviceData) (b s : ℕ) → Has f kept → Spread f → f b ≡ Some s → b < d.base + d.size
    → ((base : ℕ) → base < d.base + d.size → is_some (f base) ≡ true → base ≤ b) → nat_lt d.base (b + s) ≡ list_any (meets d) kept
last_decides f d kept b s has spread there below last =
    elim (cases_Bool (nat_lt d.base (b + s))) [
      | inl far ↦ far ∙ sym (met f d kept b s has there below (ltb-true d.base (b + s) far))
      | inr short ↦ short ∙ sym (clear f d kept has (λ c t held inside reached. reaches c t held inside reached (ltb-false d.base (b + s) short)))
    ]
  where
    reaches : (c t : ℕ) → f c ≡ Some t → c < d.base + d.size → d.base < c + t → b + s ≤ d.base → ⊥
    reaches c t held inside reached short =
        let most = last c inside (ap is_some held) in
        elim (cases_lt c b) [
          | inl lt ↦ let left = spread c t b s held there lt in omega (arith, left, reached, short)
          | inr ge ↦
              let same : c ≡ b = omega (arith, most, ge) in
              let size = same_some t s (sym held ∙ ap f same ∙ there) in
              omega (arith, same, size, reached, short)
        ]

-- ---- a further one is kept

-- none that it does not meet begins where it does
elsewhere : (d : DeviceData) (kept : List DeviceData) → list_any (meets d) kept ≡ false → All IsPlaced kept → 0 < d.size → All (λ e. e.base ≢ d.base) kept
elsewhere d kept none placed some = λ i o lt.
    let e = get_or kept i o in
    let more = positive e.size (placed i o lt).size in
    λ same. false≢true (sym (none_passes (meets d) kept none i o lt) ∙ and_from (nat_lt d.base (e.base + e.size)) (nat_lt e.base (d.base + d.size))
    (lt-ltb d.base (e.base + e.size) (omega (arith, same, more))) (lt-ltb e.base (d.base + d.size) (omega (arith, same, some))))

pub kept_more : (f g : ℕ → Option ℕ) (d : DeviceData) (kept : List DeviceData) → ((q : ℕ) → q ≢ d.base → g q ≡ f q) → g d.base ≡ Some d.size
    → Has f kept → list_any (meets d) kept ≡ false → All IsPlaced kept → 0 < d.size → Has g (kept ++ d ∷ [])
kept_more f g d kept stays here has none placed some =
    let apart = elsewhere d kept none placed some in (
      All-append (λ e. g e.base ≡ Some e.size) kept (d ∷ []) (λ i o lt. stays (get_or kept i o).base (apart i o lt) ∙ has.0 i o lt)
          (All-cons (λ e. g e.base ≡ Some e.size) d [] here (All-nil (λ e. g e.base ≡ Some e.size))),
      λ base size there.
          any_more (λ e. e.base == base && e.size == size) kept d
          ∙ elim (cases_Bool (base == d.base)) [
            | inl same ↦
                let at = eqb-true base d.base same in
                let value = same_some size d.size (sym there ∙ ap g at ∙ here) in
                ap (λ b. b || list_any (λ e. e.base == base && e.size == size) kept)
                (and_from (d.base == base) (d.size == size) (eq-eqb d.base base (sym at)) (eq-eqb d.size size (sym value)))
            | inr other ↦
                or_last (d.base == base && d.size == size) (list_any (λ e. e.base == base && e.size == size) kept)
                (has.1 base size (sym (stays base (differs_from base d.base other)) ∙ there))
          ],
    )
  where
    or_last : (a b : Bool) → b ≡ true → (a || b) ≡ true
    or_last true b e = refl
    or_last false b e = e

    differs_from : (m n : ℕ) → (m == n) ≡ false → m ≢ n
    differs_from m n e same = false≢true (sym e ∙ eq-eqb m n same)

pub spread_more : (f g : ℕ → Option ℕ) (d : DeviceData) (kept : List DeviceData) → ((q : ℕ) → q ≢ d.base → g q ≡ f q) → g d.base ≡ Some d.size
    → Has f kept → list_any (meets d) kept ≡ false → Spread f → Spread g
spread_more f g d kept stays here has none spread = λ b s c t first second lt.
    elim (cases_Bool (b == d.base)) [
      | inl same ↦
          let at = eqb-true b d.base same in
          let size = same_some s d.size (sym first ∙ ap g at ∙ here) in
          let old = sym (stays c (λ e. absurd (omega (arith, e, at, lt)))) ∙ second in
          elim (cases_lt c (d.base + d.size)) [
            | inl inside ↦ absurd (false≢true (sym none ∙ met f d kept c t has old inside (omega (arith, at, lt))))
            | inr beyond ↦ omega (arith, at, size, beyond)
          ]
      | inr other ↦
          let first_old = sym (stays b (differs_from b d.base other)) ∙ first in
          elim (cases_Bool (c == d.base)) [
            | inl same ↦
                let at = eqb-true c d.base same in
                elim (cases_lt d.base (b + s)) [
                  | inl reached ↦ absurd (false≢true (sym none ∙ met f d kept b s has first_old (omega (arith, at, lt)) reached))
                  | inr short ↦ omega (arith, at, short)
                ]
            | inr apart ↦ spread b s c t first_old (sym (stays c (differs_from c d.base apart)) ∙ second) lt
          ]
    ]
  where
    differs_from : (m n : ℕ) → (m == n) ≡ false → m ≢ n
    differs_from m n e same = false≢true (sym e ∙ eq-eqb m n same)

pub away : (m q : ℕ) → q ≢ m → is_at (nat_cmp m) q ≡ false
away m q other = grind (arith, nat_tests)

pub is_below : (m n : ℕ) → m < n → nat_cmp m n ≡ Less
is_below m n lt = grind (arith, nat_tests)

pub placed_at : (devices : List DeviceSpec) (i : ℕ) (d : DeviceSpec) → All IsPlaced (map device_of devices) → i < length devices → d ≡ get_or devices i d → IsPlaced (device_of d)
placed_at devices i d all lt here =
    subst IsPlaced (get_or-map device_of devices i d (device_of d) lt ∙ ap device_of (sym here))
    (all i (device_of d) (subst (λ n. i < n) (sym (length-map devices device_of)) lt))

pub placed_before : (devices : List DeviceSpec) (i : ℕ) → All IsPlaced (map device_of devices) → All IsPlaced (map device_of (take i devices))
placed_before devices i all = subst (All IsPlaced) (take-map device_of i devices) (All-take IsPlaced i (map device_of devices) all)
