-- Kept entries when one of them is dropped, when a slot is written, and when bytes elsewhere are written.
use Rattle.std.proofs.Common.{◌≡◌, ◌≢◌, ◌+◌, ◌-◌, ◌*◌, ◌<◌, ◌≤◌, ◌⊎◌, inl, inr, ℕ, Bool, true, false, ◌&&◌, cond, eqb, leb, ltb, List, length, take, drop, set, Option, Some, None, is_some, refl, sym, subst, ◌∙◌, ap, arith, get_or, get_or-set_other, length-set, length-append, length-take, length-drop}
use Rattle.std.proofs.lemmas.Bool.{cases_lt, lt-leb, lt-ltb, le-ltb, ltb-false}
use Rattle.std.proofs.lemmas.Bool.Decides.{eqb_tells}
use Rattle.std.proofs.lemmas.Grind.{get_or-set_at}
use Rattle.std.proofs.lemmas.List.{same_lists, places, nil_from_length, get_or_past, get_or_default}
use Rattle.mem_banks.specs.Memory.{Memory, bytes_at, number_at, number_of, with_bytes, pasted, IsWithinRam}
use Rattle.mem_banks.proofs.Copies.{with_bytes_none, with_bytes_ram, bytes_ram}
use Rattle.mem_banks.proofs.Lists.{part_below}
use Rattle.region_check.specs.Rights.{first_bad}
use Rattle.region_check.specs.declared.Right.TheVariants.{Read}
use Rattle.kernel_abi.specs.Ids.{index_of}
use Rattle.std.specs.Option.{option_map}
use Rattle.task_table.specs.model.State.{Setup, State, TaskSetup, Turn}
use Rattle.task_table.specs.model.Reading.{setup_in, setup_at, bad_byte, is_taken, taken_by}
use Rattle.task_table.specs.kept.Holds.{Kept, Shows, IsKept, kept_call, taken_in}
use Rattle.task_table.specs.model.Sane.{Sane}
use Rattle.task_table.proofs.kept.Delivery.{taken_kept}
use Rattle.task_table.specs.kept.Entries.{kept_at, entry_at, meets, IsWatched, AreFresh, AreLeft, IsEntryOf, AreEntriesOf, taken_of}
use Rattle.task_table.specs.declared.entry.KeptEntry.{KeptEntry}
use Rattle.task_table.specs.declared.slot.OpenCall.{OpenCall}
use Rattle.task_table.specs.declared.slot.Slot.{Slot}
use Rattle.task_table.specs.declared.slot.Wait.{Wait}
use Rattle.task_table.specs.declared.slot.Wait.TheVariants as wait

abbrev Entries : Type 0
Entries = List (Option KeptEntry)

no_some : {P : Type 0} {x : KeptEntry} → None ≡ Some x → P
no_some e = cc

same_some : {x y : KeptEntry} → Some x ≡ Some y → x ≡ y
same_some e = cc

-- a kept entry is that of a task that exists
pub kept_there : (entries : Entries) (i : ℕ) (x : KeptEntry) → kept_at entries i ≡ Some x → i < length entries
kept_there entries i x h = elim (cases_lt i (length entries)) [
  | inl lt ↦ lt
  | inr past ↦ no_some (sym (get_or_past entries i None past) ∙ h)
]

-- ## one is dropped

pub cleared : (entries : Entries) (t i : ℕ) (x : KeptEntry) → t < length entries → kept_at (set entries t None) i ≡ Some x → (i ≢ t) × (kept_at entries i ≡ Some x)
cleared entries t i x there h = elim (eqb_tells i t) [
  | inl same ↦ no_some (sym (get_or-set_at entries t i None None same.1 there) ∙ h)
  | inr other ↦ (other.1, sym (get_or-set_other entries t i None None other.1) ∙ h)
]

pub kept_other : (entries : Entries) (t i : ℕ) (x : KeptEntry) → i ≢ t → kept_at entries i ≡ Some x → kept_at (set entries t None) i ≡ Some x
kept_other entries t i x ne h = get_or-set_other entries t i None None ne ∙ h

pub fresh_cleared : (m : Memory) (low span : ℕ) (entries : Entries) (t : ℕ) → t < length entries → AreFresh m low span entries → AreFresh m low span (set entries t None)
fresh_cleared m low span entries t there h = record {
  is = λ i x k. h.is i x (cleared entries t i x there k).1;
  watched = λ i x k. h.watched i x (cleared entries t i x there k).1;
}

-- an entry is dropped and the slot of its task is written
pub of_cleared : (tasks : List TaskSetup) (slots : List Slot) (entries : Entries) (t : ℕ) (slot : Slot) → t < length slots → AreEntriesOf tasks slots entries → AreEntriesOf tasks (set slots t slot) (set entries t None)
of_cleared tasks slots entries t slot there h =
    let inside : t < length entries = omega (arith, there, h.count) in
    record {
      count = length-set entries t None ∙ h.count ∙ sym (length-set slots t slot);
      each = λ i x k d. let c = cleared entries t i x inside k in subst (λ (o : Slot). IsEntryOf x o.wait) (sym (get_or-set_other slots t i slot d c.0)) (h.each i x c.1 d);
      readable = λ i x k. h.readable i x (cleared entries t i x inside k).1;
    }

-- ## a slot is written and its wait does not change

pub of_same : (tasks : List TaskSetup) (slots : List Slot) (entries : Entries) (t : ℕ) (old slot : Slot) → t < length slots → old ≡ get_or slots t old → slot.wait ≡ old.wait → AreEntriesOf tasks slots entries → AreEntriesOf tasks (set slots t slot) entries
of_same tasks slots entries t old slot there is same h = record {
  count = h.count ∙ sym (length-set slots t slot);
  each = λ i x k d. elim (eqb_tells i t) [
    | inl here ↦
        let k' : kept_at entries t ≡ Some x = subst (λ j. kept_at entries j ≡ Some x) here.1 k in
        let was : IsEntryOf x old.wait = subst (λ (o : Slot). IsEntryOf x o.wait) (sym is) (h.each t x k' old) in
        subst (λ (o : Slot). IsEntryOf x o.wait) (sym (get_or-set_at slots t i slot d here.1 there)) (subst (λ (w : Wait). IsEntryOf x w) (sym same) was)
    | inr other ↦ subst (λ (o : Slot). IsEntryOf x o.wait) (sym (get_or-set_other slots t i slot d other.1)) (h.each i x k d)
  ];
  readable = h.readable;
}

-- ## one is kept

pub kept_set : (entries : Entries) (t i : ℕ) (x y : KeptEntry) → t < length entries → kept_at (set entries t (Some y)) i ≡ Some x → ((i ≡ t) × (y ≡ x)) ⊎ (kept_at entries i ≡ Some x)
kept_set entries t i x y there h = elim (eqb_tells i t) [
  | inl same ↦ inl (same.1, same_some (sym (get_or-set_at entries t i (Some y) None same.1 there) ∙ h))
  | inr other ↦ inr (sym (get_or-set_other entries t i (Some y) None other.1) ∙ h)
]

pub fresh_set : (m : Memory) (low span low' span' : ℕ) (entries : Entries) (t : ℕ) (y : KeptEntry) → t < length entries → AreFresh m low span entries → entry_at m y.base ≡ y.entry → IsWatched low' span' y.base → ((b : ℕ) → IsWatched low span b → IsWatched low' span' b) → AreFresh m low' span' (set entries t (Some y))
fresh_set m low span low' span' entries t y there h is new old = record {
  is = λ i x k. elim (kept_set entries t i x y there k) [
    | inl here ↦ subst (λ (z : KeptEntry). entry_at m z.base ≡ z.entry) here.1 is
    | inr was ↦ h.is i x was
  ];
  watched = λ i x k. elim (kept_set entries t i x y there k) [
    | inl here ↦ subst (λ (z : KeptEntry). IsWatched low' span' z.base) here.1 new
    | inr was ↦ old x.base (h.watched i x was)
  ];
}

-- ## bytes are written elsewhere

pub drop_pasted : (xs : List ℕ) (p : ℕ) (ys : List ℕ) (b : ℕ) → p + length ys ≤ length xs → p + length ys ≤ b → drop b (pasted xs p ys) ≡ drop b xs
drop_pasted xs p ys b fits above = same_lists _ _ (simp (length-append, length-take, length-drop) (omega arith)) (λ i d u. grind (arith, places))

flash_only : (m : Memory) (ram : List ℕ) (b n : ℕ) → b < 0x20000000 → bytes_at record m { ram = ram } b n ≡ bytes_at m b n
unfolding bytes_at
flash_only m ram b n below = let t : leb 0x20000000 b ≡ false = lt-leb _ _ below in rw t refl

bytes_apart : (m : Memory) (a : ℕ) (ys : List ℕ) (b n : ℕ) → IsWithinRam m a (length ys) → (b + n ≤ a) ⊎ (a + length ys ≤ b) → bytes_at (with_bytes m a ys) b n ≡ bytes_at m b n
bytes_apart m a ys b n within apart = elim within [
  | inl none ↦ ap (λ (x : Memory). bytes_at x b n) (sym (with_bytes_none m a ys (nil_from_length ys none)))
  | inr x ↦ rw (with_bytes_ram m a ys x.0) (elim (cases_lt b 0x20000000) [
    | inl low ↦ flash_only m (pasted m.ram (a - 0x20000000) ys) b n low
    | inr high ↦
        bytes_ram record m { ram = pasted m.ram (a - 0x20000000) ys } b n high
        ∙ elim apart [
          | inl below ↦ part_below m.ram ys (a - 0x20000000) (b - 0x20000000) n (omega (arith, x.0, x.1)) (omega (arith, x.0, below))
          | inr above ↦ ap (take n) (drop_pasted m.ram (a - 0x20000000) ys (b - 0x20000000) (omega (arith, x.0, x.1)) (omega (arith, x.0, above)))
        ]
        ∙ sym (bytes_ram m b n high)
  ])
]

entry_apart : (m : Memory) (a : ℕ) (ys : List ℕ) (b : ℕ) → IsWithinRam m a (length ys) → (b + 12 ≤ a) ⊎ (a + length ys ≤ b) → entry_at (with_bytes m a ys) b ≡ entry_at m b
entry_apart m a ys b within apart =
    let part : (k : ℕ) → k + 4 ≤ 12 → number_at (with_bytes m a ys) (b + k) 4 ≡ number_at m (b + k) 4 = λ k small.
    ap number_of (bytes_apart m a ys (b + k) 4 within (elim apart [ inl below ↦ inl (omega (arith, below, small)) | inr above ↦ inr (omega (arith, above)) ])) in
    let none : b + 0 ≡ b = omega arith in
    let first : number_at (with_bytes m a ys) b 4 ≡ number_at m b 4 = rw none at (part 0 (omega arith)) in
    let second = part 4 (omega arith) in
    let third = part 8 (omega arith) in
    rw (first, second, third) refl

-- n bytes from an address on, some of which are written
pub meets_not : (x : KeptEntry) (a n : ℕ) → meets x a n ≡ false → (x.base + 12 ≤ a) ⊎ (a + n ≤ x.base)
meets_not x a n h = elim (cases_lt a (x.base + 12)) [
  | inl lt ↦ let t : ltb a (x.base + 12) ≡ true = lt-ltb _ _ lt in inr (ltb-false _ _ (rw t at h))
  | inr past ↦ inl past
]

pub fresh_stored : (m : Memory) (low span : ℕ) (entries : Entries) (a n : ℕ) (ys : List ℕ) → AreFresh m low span entries → ((i : ℕ) (x : KeptEntry) → kept_at entries i ≡ Some x → meets x a n ≡ false) → IsWithinRam m a (length ys) → length ys ≤ n → AreFresh (with_bytes m a ys) low span entries
fresh_stored m low span entries a n ys h apart within few = record {
  is = λ i x k.
      let side : (x.base + 12 ≤ a) ⊎ (a + length ys ≤ x.base) = elim (meets_not x a n (apart i x k)) [ inl below ↦ inl below | inr above ↦ inr (omega (arith, above, few)) ] in
      entry_apart m a ys x.base within side ∙ h.is i x k;
  watched = h.watched;
}

-- ## some are dropped

pub fresh_left : (m : Memory) (low span low' span' : ℕ) (old new : Entries) (a n : ℕ) → AreFresh m low span old → AreLeft old a n new low' span' → AreFresh m low' span' new
fresh_left m low span low' span' old new a n h left = record {
  is = λ i x k. h.is i x (left.there i x k);
  watched = left.watched;
}

pub of_left : (tasks : List TaskSetup) (slots : List Slot) (low span : ℕ) (old new : Entries) (a n : ℕ) → AreEntriesOf tasks slots old → AreLeft old a n new low span → AreEntriesOf tasks slots new
of_left tasks slots low span old new a n h left = record {
  count = left.count ∙ h.count;
  each = λ i x k d. h.each i x (left.there i x k) d;
  readable = λ i x k. h.readable i x (left.there i x k);
}

-- a write that the watch does not catch overlaps no kept entry
pub none_met : (m : Memory) (low span : ℕ) (entries : Entries) (a n : ℕ) → AreFresh m low span entries → ((b : ℕ) → IsWatched low span b → (b + 12 ≤ a) ⊎ (a + n ≤ b)) → (i : ℕ) (x : KeptEntry) → kept_at entries i ≡ Some x → meets x a n ≡ false
none_met m low span entries a n h missed i x k = elim (missed x.base (h.watched i x k)) [
  | inl below ↦ let t : ltb a (x.base + 12) ≡ false = le-ltb _ _ below in rw t refl
  | inr above ↦ let t : ltb x.base (a + n) ≡ false = le-ltb _ _ above in rw (t, and_false (ltb a (x.base + 12))) refl
]
  where
    and_false : (b : Bool) → (b && false) ≡ false
    and_false true = refl
    and_false false = refl

-- ## what a kept entry says

pub kept_tells : (g : Setup) (k : Kept) (t : Turn) (low span : ℕ) (entries : Entries) (i : ℕ) (x : KeptEntry) (base : ℕ) → Shows g k t → AreFresh k.memory low span entries → AreEntriesOf k.setup.tasks k.slots entries → kept_at entries i ≡ Some x → x.base ≡ base → (bad_byte g i Read record { base = base; len = 12 } ≡ None) × (entry_at t.state.memory base ≡ x.entry)
unfolding bad_byte
kept_tells g k t low span entries i x base h fresh of kept same =
    let good : first_bad (setup_at g i).regions Read base 12 ≡ None = rw (← h.setup, ← same) (of.readable i x kept) in
    let is : entry_at t.state.memory base ≡ x.entry = rw (← h.memory, ← same) (fresh.is i x kept) in
    (good, is)

pub of_set : (tasks : List TaskSetup) (slots : List Slot) (entries : Entries) (t : ℕ) (y : KeptEntry) (slot : Slot) → t < length slots → slot ≡ get_or slots t slot → AreEntriesOf tasks slots entries → IsEntryOf y slot.wait → first_bad (setup_in tasks t).regions Read y.base 12 ≡ None → AreEntriesOf tasks slots (set entries t (Some y))
of_set tasks slots entries t y slot there at h is good =
    let inside : t < length entries = omega (arith, there, h.count) in
    record {
      count = length-set entries t (Some y) ∙ h.count;
      each = λ i x k d. elim (kept_set entries t i x y inside k) [
        | inl here ↦
            let slot_is : slot ≡ get_or slots i d = at ∙ get_or_default slots t slot d there ∙ ap (λ j. get_or slots j d) (sym here.0) in
            subst (λ (o : Slot). IsEntryOf x o.wait) slot_is (subst (λ (z : KeptEntry). IsEntryOf z slot.wait) here.1 is)
        | inr was ↦ h.each i x was d
      ];
      readable = λ i x k. elim (kept_set entries t i x y inside k) [
        | inl here ↦ subst (λ j. first_bad (setup_in tasks j).regions Read x.base 12 ≡ None) (sym here.0) (subst (λ (z : KeptEntry). first_bad (setup_in tasks t).regions Read z.base 12 ≡ None) here.1 good)
        | inr was ↦ h.readable i x was
      ];
    }

-- ## an entry of a taken call

taken_in_any : (w : Wait) (j : ℕ) (o : OpenCall) → taken_in w j ≡ Some o → taken_of w ≡ Some o
taken_in_any (wait.Call c) j o h = go (eqb (index_of c.server.number) j) (is_taken c.phase) h
  where
    go : (a b : Bool) → cond (a && b) (Some c) None ≡ Some o → cond b (Some c) None ≡ Some o
    go true b e = e
    go false b e = absurd (none_some e)
      where
        none_some : None ≡ Some o → ⊥
        none_some f = cc
taken_in_any (wait.Listen l) j o h = h
taken_in_any wait.Nothing j o h = h

same_call : {a b : OpenCall} → Some a ≡ Some b → a ≡ b
same_call e = cc

pub of_taken : (g : Setup) (s : State) (i j : ℕ) (slot : Slot) (call : OpenCall) (x : KeptEntry) → Sane g s → length s.tasks ≤ 1024 → IsKept s i slot → option_map kept_call (taken_by s i j) ≡ Some call → x.lease < call.leases → x.base ≡ call.table + 12 * x.lease → IsEntryOf x slot.wait
of_taken g s i j slot call x sane small kept taken listed base =
    let is : taken_of slot.wait ≡ Some call = taken_in_any slot.wait j call (taken_kept g s i j slot sane small kept ∙ taken) in
    record {
      taken = ap is_some is;
      listed = λ c e. subst (λ (o : OpenCall). x.lease < o.leases) (same_call (sym is ∙ e)) listed;
      base = λ c e. subst (λ (o : OpenCall). x.base ≡ o.table + 12 * x.lease) (same_call (sym is ∙ e)) base;
    }
