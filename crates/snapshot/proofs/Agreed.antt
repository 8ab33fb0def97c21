-- What is known about a call or a listen that agrees with the other records.
use Rattle.std.proofs.Common.{◌≡◌, ◌≢◌, ◌∙◌, ◌+◌, ◌*◌, ◌/◌, ◌%◌, ◌<◌, ◌≤◌, inl, inr, ℕ, zero, suc, Bool, true, false, not, ◌&&◌, ◌||◌, cond, eqb, ltb, leb, List, [], map, Some, None, arith, ap, sym, refl}
use Rattle.std.proofs.lemmas.Option.{cond_some}
use Rattle.std.specs.Prelude.{bit_and}
use Rattle.std.proofs.Math.ListN.{get_or-map}
use Rattle.std.proofs.lemmas.Bool.{and_parts, or_parts, eqb-true, eq-eqb, ltb-true, leb-true, ne_eqb, false≢true, not-true}
use Rattle.std.proofs.lemmas.Bool.Decides.{eqb_tells}
use Rattle.region_check.specs.declared.Region.{Region}
use Rattle.region_check.specs.declared.Right.{Right}
use Rattle.region_check.specs.declared.Right.TheVariants.{Read, Write}
use Rattle.region_check.specs.Rights.{first_bad}
use Rattle.task_table.specs.model.State.{Setup, TaskSetup, Birth, Call, Listen, Any, One, KernelOnly}
use Rattle.task_table.specs.declared.slot.Phase.TheVariants.{Offered, Taken}
use Rattle.task_table.specs.declared.slot.Slice.{Slice}
use Rattle.task_table.specs.model.Reading.{is_valid, bad_byte, admits}
use Rattle.snapshot.specs.declared.records.TaskRecord.{TaskRecord}
use Rattle.snapshot.specs.Causes.{word, any_below}
use Rattle.snapshot.specs.Waits.{regions_at, is_call, is_listen, server_id, names_other, has_number, is_granted, is_live_call, may_call, is_good_call, fits, is_live_listen, is_good_listen, is_good_wait}
use Rattle.snapshot.specs.Restored.{birth_from, phase_from, senders_from, call_from, listen_from, call_in, listen_in}
use Rattle.task_table.proofs.model.Frames.{none_is}

-- ## tests

apart : (a b : ℕ) → not (eqb a b) ≡ true → a ≢ b
apart a b e same = false≢true (sym (not-true _ e) ∙ eq-eqb a b same)

either : (a b : Bool) → (not a || b) ≡ true → a ≡ true → b ≡ true
either true b e h = e
either false b e h = cc

pub none_at : (test : ℕ → Bool) (n j : ℕ) → any_below test n ≡ false → j < n → test j ≡ false
unfolding any_below
none_at test zero j none lt = absurd (omega arith)
none_at test (suc n) j none lt = elim (eqb_tells j n) [
  | inl same ↦ ap test same.1 ∙ (or_parts (any_below test n) (test n) none).1
  | inr other ↦ let ne : j ≢ n = other.1 in none_at test n j (or_parts (any_below test n) (test n) none).0 (omega arith)
]

-- ## a name and a range

-- the id names another task's present birth
pub record IsName (tasks : ℕ → TaskRecord) (n i id : ℕ) : Type 0 where
  pub inside : id % 1024 < n
  pub other : id % 1024 ≢ i
  pub birth : (tasks (id % 1024)).generation ≡ id / 1024

named : (tasks : ℕ → TaskRecord) (n i id : ℕ) → names_other tasks n i id ≡ true → IsName tasks n i id
named tasks n i id e =
    let p = and_parts (ltb (id % 1024) n && not (eqb (id % 1024) i)) _ e in
    let q = and_parts (ltb (id % 1024) n) _ p.0 in
    record { inside = ltb-true _ _ q.0; other = apart _ _ q.1; birth = sym (eqb-true _ _ p.1) }

abbrev no_setup : TaskSetup
no_setup = record { priority = 0; entry = 0; stack = 0; regions = []; start = false }

-- the regions of a task
abbrev pub own : Setup → ℕ → List Region
own g i = regions_at (map (λ (t : TaskSetup). t.regions) g.tasks) i

-- the range is valid, and none of its bytes is bad
pub granted : (g : Setup) (i : ℕ) (right : Right) (r : Slice) → is_granted (own g i) right r.base r.len ≡ true → (is_valid r ≡ true) × (bad_byte g i right r ≡ None)
unfolding bad_byte
granted g i right r e =
    let p = and_parts (leb (r.base + r.len) 4294967296) _ e in
    (p.0, ap (λ (rs : List Region). first_bad rs right r.base r.len) (sym (get_or-map (λ (t : TaskSetup). t.regions) g.tasks i no_setup)) ∙ none_is _ p.1)

-- ## a call

pub record IsCallAt (rs : List Region) (tasks : ℕ → TaskRecord) (n next i : ℕ) : Type 0 where
  pub well : (tasks i).health ≡ 0
  pub server : IsName tasks n i (server_id (tasks i))
  pub below : word (tasks i) 0 < next
  pub alone : (j : ℕ) → j < i → has_number (word (tasks i) 0) (tasks j) ≡ false
  pub message : is_granted rs Read (word (tasks i) 2) (word (tasks i) 3) ≡ true
  pub reply : is_granted rs Write (word (tasks i) 4) (word (tasks i) 5) ≡ true
  pub table : leb (word (tasks i) 6 + 12 * word (tasks i) 7) 4294967296 ≡ true

called : (rs : List Region) (tasks : ℕ → TaskRecord) (n next i : ℕ) → is_good_call rs tasks n next i ≡ true → IsCallAt rs tasks n next i
called rs tasks n next i e =
    let t = tasks i in
    let p = and_parts (is_live_call tasks n next i) (may_call rs t) e in
    let alone = and_parts (eqb t.health 0 && names_other tasks n i (server_id t) && ltb (word t 0) next) _ p.0 in
    let below = and_parts (eqb t.health 0 && names_other tasks n i (server_id t)) _ alone.0 in
    let well = and_parts (eqb t.health 0) _ below.0 in
    let may = and_parts (is_granted rs Read (word t 2) (word t 3) && is_granted rs Write (word t 4) (word t 5)) _ p.1 in
    let ranges = and_parts (is_granted rs Read (word t 2) (word t 3)) _ may.0 in
    record {
      well = eqb-true _ _ well.0;
      server = named tasks n i (server_id t) well.1;
      below = ltb-true _ _ below.1;
      alone = λ j lt. none_at (λ k. has_number (word t 0) (tasks k)) i j (not-true _ alone.1) lt;
      message = ranges.0;
      reply = ranges.1;
      table = may.1;
    }

-- ## a listen

pub record IsListenAt (rs : List Region) (tasks : ℕ → TaskRecord) (n i : ℕ) : Type 0 where
  pub well : (tasks i).health ≡ 0
  pub sender : (tasks i).wait ≡ 5 → IsName tasks n i (word (tasks i) 1)
  pub unmet : bit_and (tasks i).posted (word (tasks i) 0) ≡ 0
  pub unfit : (j : ℕ) → j < n → fits tasks i j ≡ false
  pub buffer : is_granted rs Write (word (tasks i) 2) (word (tasks i) 3) ≡ true

listened : (rs : List Region) (tasks : ℕ → TaskRecord) (n i : ℕ) → is_good_listen rs tasks n i ≡ true → IsListenAt rs tasks n i
listened rs tasks n i e =
    let t = tasks i in
    let p = and_parts (is_live_listen tasks n i) _ e in
    let unfit = and_parts (eqb t.health 0 && (not (eqb t.wait 5) || names_other tasks n i (word t 1)) && eqb (bit_and t.posted (word t 0)) 0) _ p.0 in
    let unmet = and_parts (eqb t.health 0 && (not (eqb t.wait 5) || names_other tasks n i (word t 1))) _ unfit.0 in
    let well = and_parts (eqb t.health 0) _ unmet.0 in
    record {
      well = eqb-true _ _ well.0;
      sender = λ five. named tasks n i (word t 1) (either _ _ well.1 (eq-eqb _ _ five));
      unmet = eqb-true _ _ unmet.1;
      unfit = λ j lt. none_at (fits tasks i) n j (not-true _ unfit.1) lt;
      buffer = p.1;
    }

-- ## which it is

-- who listens does not call
pub no_call : (w : ℕ) → leb 3 w ≡ true → (eqb w 1 || eqb w 2) ≡ false
no_call w e =
    let three = leb-true 3 w e in
    let one = ne_eqb w 1 (omega (arith, three)) in
    let two = ne_eqb w 2 (omega (arith, three)) in
    λ i. one i || two i

chosen : (a b c : Bool) → cond a b c ≡ true → a ≡ true → b ≡ true
chosen true b c e h = e
chosen false b c e h = cc

left : (a b c : Bool) → cond a b c ≡ true → a ≡ false → c ≡ true
left true b c e h = cc
left false b c e h = e

pub call_at : (rs : List Region) (tasks : ℕ → TaskRecord) (n next i : ℕ) → is_good_wait rs tasks n next i ≡ true → is_call (tasks i) ≡ true → IsCallAt rs tasks n next i
call_at rs tasks n next i e calls = called rs tasks n next i (chosen (is_call (tasks i)) _ _ e calls)

pub listen_at : (rs : List Region) (tasks : ℕ → TaskRecord) (n next i : ℕ) → is_good_wait rs tasks n next i ≡ true → is_listen (tasks i) ≡ true → IsListenAt rs tasks n i
listen_at rs tasks n next i e listens =
    let rest = left (is_call (tasks i)) (is_good_call rs tasks n next i) (not (is_listen (tasks i)) || is_good_listen rs tasks n i) e (no_call (tasks i).wait listens) in
    listened rs tasks n i (either (is_listen (tasks i)) _ rest listens)

pub the_call : (i : ℕ) (t : TaskRecord) (c : Call) → call_in i t ≡ Some c → (is_call t ≡ true) × (call_from i t ≡ c)
the_call i t c e = cond_some (is_call t) (call_from i t) c e

pub the_listen : (i : ℕ) (t : TaskRecord) (l : Listen) → listen_in i t ≡ Some l → (is_listen t ≡ true) × (listen_from i t ≡ l)
the_listen i t l e = cond_some (is_listen t) (listen_from i t) l e

-- ## who is listened to

named_by : (x b : Birth) → One x ≡ One b → x ≡ b
named_by x b e = cc

any_one : {P : Type 0} (b : Birth) → Any ≡ One b → P
any_one b e = cc

kernel_one : {P : Type 0} (b : Birth) → KernelOnly ≡ One b → P
kernel_one b e = cc

pub sender_is : (w id : ℕ) (b : Birth) → leb 3 w ≡ true → w ≤ 5 → senders_from w id ≡ One b → (w ≡ 5) × (birth_from id ≡ b)
sender_is zero id b from few e = cc
sender_is (suc zero) id b from few e = cc
sender_is (suc (suc zero)) id b from few e = cc
sender_is (suc (suc (suc zero))) id b from few e = any_one b e
sender_is (suc (suc (suc (suc zero)))) id b from few e = kernel_one b e
sender_is (suc (suc (suc (suc (suc zero))))) id b from few e = (refl, named_by _ b e)
sender_is (suc (suc (suc (suc (suc (suc w)))))) id b from few e = absurd (omega (arith, few))

-- whom a listen admits, it hears
pub heard : (w id other : ℕ) (d : Birth) → leb 3 w ≡ true → w ≤ 5 → other ≡ d.index + 1024 * d.birth → admits (senders_from w id) d ≡ true → (eqb w 3 || (eqb w 5 && eqb id other)) ≡ true
heard zero id other d from few is e = cc
heard (suc zero) id other d from few is e = cc
heard (suc (suc zero)) id other d from few is e = cc
heard (suc (suc (suc zero))) id other d from few is e = refl
heard (suc (suc (suc (suc zero)))) id other d from few is e = cc
heard (suc (suc (suc (suc (suc zero))))) id other d from few is e =
    let p = and_parts (eqb (id % 1024) d.index) _ e in
    let index = eqb-true _ _ p.0 in
    let birth = eqb-true _ _ p.1 in
    eq-eqb id other (omega (arith, index, birth, is))
heard (suc (suc (suc (suc (suc (suc w)))))) id other d from few is e = absurd (omega (arith, few))

pub offered_is : (w : ℕ) → (eqb w 1 || eqb w 2) ≡ true → phase_from w ≡ Offered → eqb w 1 ≡ true
offered_is w e h = by (eqb w 1) h
  where
    by : (b : Bool) → cond b Offered Taken ≡ Offered → b ≡ true
    by true h = refl
    by false h = cc
