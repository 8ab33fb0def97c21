-- The spelling of a sane state is accepted.
use Rattle.std.proofs.Common.{◌≡◌, ◌≢◌, ◌∙◌, ◌+◌, ◌-◌, ◌*◌, ◌/◌, ◌%◌, ◌<◌, ◌≤◌, ℕ, zero, suc, Bool, true, false, not, ◌&&◌, ◌||◌, cond, eqb, ltb, leb, List, [], ◌∷◌, ◌++◌, length, drop, map, get_or, Option, Some, None, IfSome, is_none, arith, ap, subst, sym, refl, length-append}
use Rattle.std.proofs.lemmas.List.Elements.{Contains-get_or}
use Rattle.std.specs.Prelude.{Contains, replicate, bit_and}
use Rattle.std.specs.List.{range_with_len, list_any}
use Rattle.std.proofs.Math.ListN.{get_or-map}
use Rattle.std.proofs.lemmas.List.{length-map, length-replicate}
use Rattle.std.proofs.lemmas.List.FromFn.{length-map-range_with_len, get_or-map-range_with_len}
use Rattle.std.proofs.lemmas.Bool.{eqb-true, eq-eqb, lt-ltb, le-leb, false≢true, ne_eqb, and_from, false_from_ne_true, and_parts}
use Rattle.kernel_abi.specs.Ids.{id_of}
use Rattle.kernel_abi.specs.declared.Health.{Health}
use Rattle.kernel_abi.specs.declared.Health.TheVariants.{Well, Stopped, Faulted}
use Rattle.kernel_abi.specs.declared.Timer.{Timer}
use Rattle.task_table.specs.model.State.{Setup, LineSetup, Task, Call, Listen, From, Any, One, KernelOnly, State, Birth, TaskSetup}
use Rattle.task_table.specs.declared.slot.Phase.{Phase}
use Rattle.task_table.specs.declared.slot.Phase.TheVariants.{Offered, Taken}
use Rattle.task_table.specs.declared.slot.Slice.{Slice}
use Rattle.task_table.specs.model.Reading.{task_at, line_at, call_of, listen_of, no_task, is_offered, is_valid, bad_byte, admits, same_birth}
use Rattle.task_table.specs.model.Sane.{Sane, IsSaneTask, IsFaultKnown, IsOwned, IsCounted}
use Rattle.board_model.specs.Alike.{reduced, seen, seen_task}
use Rattle.snapshot.specs.declared.records.TaskRecord.{TaskRecord}
use Rattle.snapshot.specs.declared.records.DeviceRecord.{DeviceRecord}
use Rattle.snapshot.specs.Spelling.{IsTaskRecord, IsWhole, AreParts}
use Rattle.snapshot.specs.Records.{Parts, header_at, task_in, device_in, bytes_of, total}
use Rattle.snapshot.specs.declared.records.Header.{Header}
use Rattle.kernel_abi.specs.declared.Kind.{Kind}
use Rattle.kernel_abi.specs.declared.Kind.TheVariants.{Console, Port}
use Rattle.kernel_abi.specs.Devices.{DeviceData, IsSettable}
use Rattle.region_check.specs.declared.Region.{Region}
use Rattle.snapshot.proofs.Again.{whole_again}
use Rattle.snapshot.proofs.Places.{header_place, line_place, task_place, device_place}
use Rattle.std.proofs.Math.Seq.{drop-append_seam, take-append_seam}
use Rattle.snapshot.specs.Causes.{is_bad_line, has_words, word, any_below, are_zeros, kind_at}
use Rattle.snapshot.specs.Accepted.{IsGoodRecord, IsGoodDevice, IsAccepted}
use Rattle.snapshot.specs.Waits.{regions_at, is_call, is_listen, server_id, names_other, has_number, is_granted, is_live_call, may_call, is_good_call, id_in, offers_to, hears, fits, is_live_listen, is_good_listen, is_good_wait}
use Rattle.region_check.specs.declared.Right.{Right}
use Rattle.region_check.specs.declared.Right.TheVariants.{Read, Write}
use Rattle.region_check.specs.Rights.{first_bad}
use Rattle.snapshot.specs.Saved.{bit, health_number, fault_of, timer_flag, timer_of, from_number, from_id, wait_number, wait_words, record_told, record_of, device_told, line_number, parts_of, expected_of, SpellsState}
use Rattle.task_table.proofs.model.Keeps.{found_in}

-- ## the parts

element_of : {X : Type 0} (xs : List X) (x d : X) → Contains xs x → (i : ℕ) × (i < length xs) × (get_or xs i d ≡ x)
element_of [] x d h = absurd (omega (arith, h.1))
element_of (y ∷ ys) x d (zero, lt, same) = let e : y ≡ x = same in (0, omega arith, e)
element_of (y ∷ ys) x d (suc k, lt, same) = let r = element_of ys x d (k, omega arith, same) in (suc r.0, omega (arith, r.1), r.2)

words_eight : (co : Option Call) (lo : Option Listen) → length (wait_words co lo) ≡ 8
words_eight (Some c) lo = refl
words_eight None (Some l) = refl
words_eight None None = refl

queue_long : (d : DeviceData) → length d.queue ≤ 64 → length (device_told d).queue ≡ 64
queue_long d few =
    let all = length-append d.queue (replicate (64 - length d.queue) 0) in
    let rest = length-replicate {A = ℕ} (64 - length d.queue) 0 in
    omega (arith, all, rest, few)

mapped_in : (ds : List DeviceData) (r : DeviceRecord) → Contains (map device_told ds) r → (d : DeviceData) × Contains ds d × (r ≡ device_told d)
mapped_in [] r h = absurd (omega (arith, h.1))
mapped_in (d ∷ ds) r (zero, lt, same) = let e : device_told d ≡ r = same in (d, (zero, omega arith, refl), sym e)
mapped_in (d ∷ ds) r (suc k, lt, same) = let q = mapped_in ds r (k, omega arith, same) in (q.0, (suc q.1.0, omega (arith, q.1.1), q.1.2), q.2)

pub are_parts : (s : State) → ((i : ℕ) → i < length s.tasks → length (task_at s i).registers ≡ 16) → ((d : DeviceData) → Contains s.devices d → length d.queue ≤ 64) → AreParts (parts_of s)
are_parts s sixteen few =
    let n = length s.tasks in
    let count : length (map (record_of s) (range_with_len 0 n)) ≡ n = length-map-range_with_len (record_of s) 0 n in
    record {
      lines = length-map-range_with_len (λ k. line_number (line_at s k)) 0 64;
      count = count;
      tasks = λ t here.
          let e = element_of (map (record_of s) (range_with_len 0 n)) t t here in
          let lt : e.0 < n = omega (arith, e.1, count) in
          let same : 0 + e.0 ≡ e.0 = omega arith in
          let is : record_of s e.0 ≡ t = sym (get_or-map-range_with_len (record_of s) 0 n e.0 e.0 t lt same) ∙ e.2 in
          subst IsTaskRecord is (record { registers = sixteen e.0 lt; words = words_eight (call_of s e.0) (listen_of s e.0) });
      device_count = length-map s.devices device_told;
      devices = λ r here. let q = mapped_in s.devices r here in subst (λ (x : DeviceRecord). length x.queue ≡ 64) (sym q.2) (queue_long q.0 (few q.0 q.1));
      ram = refl;
    }

-- ## a record for itself

bit_most : (b : Bool) (v : ℕ) → bit b v ≤ v
bit_most true v = omega arith
bit_most false v = omega arith

health_most : (h : Health) → health_number h ≤ 2
health_most Well = omega arith
health_most Stopped = omega arith
health_most (Faulted f) = omega arith

fault_fits : (h : Health) → IsFaultKnown h → cond (eqb (health_number h) 2) (leb 1 (fault_of h).number && leb (fault_of h).number 10) (eqb (fault_of h).number 0) ≡ true
fault_fits Well k = refl
fault_fits Stopped k = refl
fault_fits (Faulted f) k = and_from _ _ (le-leb _ _ k.0) (le-leb _ _ k.1)

fault_zeros : (h : Health) → health_number h ≢ 2 → ((fault_of h).x ≡ 0) × ((fault_of h).y ≡ 0)
fault_zeros Well ne = (refl, refl)
fault_zeros Stopped ne = (refl, refl)
fault_zeros (Faulted f) ne = absurd (ne refl)

offered_number : (p : Phase) → cond (is_offered p) 1 2 ≤ 5
offered_number Offered = omega arith
offered_number Taken = omega arith

from_most : (f : From) → from_number f ≤ 5
from_most Any = omega arith
from_most (One b) = omega arith
from_most KernelOnly = omega arith

wait_most : (co : Option Call) (lo : Option Listen) → wait_number co lo ≤ 5
wait_most (Some c) lo = offered_number c.phase
wait_most None (Some l) = from_most l.from
wait_most None None = omega arith

timer_fits : (clock : ℕ) (o : Option Timer) → IfSome o (λ x. clock < x.deadline) → (leb (timer_flag o) 1 && cond (eqb (timer_flag o) 0) (eqb (timer_of o).deadline 0 && eqb (timer_of o).bits 0) (ltb clock (timer_of o).deadline)) ≡ true
timer_fits clock None h = refl
timer_fits clock (Some x) h = lt-ltb _ _ h

-- if the listen is for one task, the index of that task has ten bits
abbrev pub IsFew : From → Type 0
IsFew Any = Unit {0}
IsFew (One b) = b.index < 1024
IsFew KernelOnly = Unit {0}

id_small : (b : Birth) → b.index < 1024 → id_of b.index b.birth ≤ 65535
id_small b h = omega (arith, h)

listen_words : (r : TaskRecord) (f : From) (m b n : ℕ) → IsFew f → has_words record r { wait = from_number f; words = m ∷ from_id f ∷ b ∷ n ∷ 0 ∷ 0 ∷ 0 ∷ 0 ∷ [] } ≡ true
listen_words r Any m b n h = refl
listen_words r KernelOnly m b n h = refl
listen_words r (One x) m b n h = le-leb _ _ (id_small x h)

call_words : (r : TaskRecord) (p : Phase) (ws : List ℕ) → has_words record r { wait = cond (is_offered p) 1 2; words = ws } ≡ true
call_words r Offered ws = refl
call_words r Taken ws = refl

abbrev pub IsFewOf : Option Listen → Type 0
IsFewOf None = Unit {0}
IsFewOf (Some l) = IsFew l.from

words_fit : (t : Task) (co : Option Call) (lo : Option Listen) → IsFewOf lo → has_words (record_told t co lo) ≡ true
words_fit t (Some c) lo h = call_words (record_told t (Some c) lo) c.phase (wait_words (Some c) lo)
words_fit t None (Some l) h = listen_words (record_told t None (Some l)) l.from l.mask l.buffer.base l.buffer.len h
words_fit t None None h = refl

pub good_record : (clock : ℕ) (t : Task) (co : Option Call) (lo : Option Listen) → t.births < 64 → IsSaneTask t → IfSome t.timer (λ x. clock < x.deadline) → IsFewOf lo → IsGoodRecord clock (record_told t co lo)
good_record clock t co lo small sane ahead few = record {
  generation = omega (arith, small);
  health = health_most t.health;
  fault = fault_fits t.health sane.fault;
  wait = wait_most co lo;
  quiet = fault_zeros t.health;
  aligned = sane.aligned;
  even = sane.even;
  flags = let n = bit_most t.flags.n 8 in let z = bit_most t.flags.z 4 in let c = bit_most t.flags.c 2 in let v = bit_most t.flags.v 1 in omega (arith, n, z, c, v);
  timer = timer_fits clock t.timer ahead;
  words = words_fit t co lo few;
}

-- ## a line

line_in : (k : ℕ) (ls : List LineSetup) (o : LineSetup) → Contains ls o → o.line ≡ k → list_any (λ n. eqb n k) (map (λ (l : LineSetup). l.line) ls) ≡ true
line_in k [] o h e = absurd (omega (arith, h.1))
line_in k (l ∷ ls) o (zero, lt, same) e =
    let is : l ≡ o = same in
    let here : eqb l.line k ≡ true = eq-eqb _ _ (ap (λ (x : LineSetup). x.line) is ∙ e) in
    rw here refl
line_in k (l ∷ ls) o (suc j, lt, same) e =
    let more = line_in k ls o (j, omega arith, same) e in
    or_more (eqb l.line k) _ more
  where
    or_more : (a b : Bool) → b ≡ true → (a || b) ≡ true
    or_more true b e = refl
    or_more false b e = e

pub line_fits : (g : Setup) (k : ℕ) (e p : Bool) → (p ≡ true → (e ≡ false) × IsOwned g k) → is_bad_line (map (λ (l : LineSetup). l.line) g.lines) k (line_number record { enabled = e; pending = p }) ≡ false
line_fits g k false false h = refl
line_fits g k true false h = refl
line_fits g k true true h = absurd (false≢true (sym (h refl).0))
line_fits g k false true h =
    let o = (h refl).1 in
    let owned = line_in k g.lines o.0 o.1 o.2 in
    rw owned refl

-- ## births

pub reduced_task : (s : State) (i : ℕ) → task_at (reduced s) i ≡ seen_task (λ b. b % 64) (task_at s i)
unfolding seen task_at
reduced_task s i = get_or-map (seen_task (λ b. b % 64)) s.tasks i no_task

pub births_small : (s : State) (i : ℕ) → reduced s ≡ s → (task_at s i).births < 64
births_small s i e =
    let a : (task_at (reduced s) i).births ≡ (task_at s i).births % 64 = ap (λ (t : Task). t.births) (reduced_task s i) in
    let b : (task_at (reduced s) i).births ≡ (task_at s i).births = ap (λ (u : State). (task_at u i).births) e in
    omega (arith, a, b)

-- ## what is found

pub the_call : (s : State) (i : ℕ) (c : Call) → call_of s i ≡ Some c → Contains s.calls c × (c.client.index ≡ i)
unfolding call_of
the_call s i c e = let r = found_in (λ (k : Call). eqb k.client.index i) s.calls c e in (r.0, eqb-true _ _ r.1)

the_listen : (s : State) (i : ℕ) (l : Listen) → listen_of s i ≡ Some l → Contains s.listens l × (l.task ≡ i)
unfolding listen_of
the_listen s i l e = let r = found_in (λ (k : Listen). eqb k.task i) s.listens l e in (r.0, eqb-true _ _ r.1)

none_below : (test : ℕ → Bool) (n : ℕ) → ((j : ℕ) → j < n → test j ≡ false) → any_below test n ≡ false
unfolding any_below
none_below test zero h = refl
none_below test (suc n) h = let a = none_below test n (λ j lt. h j (omega arith)) in let b = h n (omega arith) in λ i. a i || b i

not_none : {P : Type 0} → false ≡ true → P
not_none e = cc

-- a record that is a call's
some_call : (t : Task) (co : Option Call) (lo : Option Listen) → is_call (record_told t co lo) ≡ true → (d : Call) × (co ≡ Some d)
some_call t (Some c) lo h = (c, refl)
some_call t None (Some l) h = absurd (never l.from h)
  where
    never : (f : From) → (eqb (from_number f) 1 || eqb (from_number f) 2) ≡ true → ⊥
    never Any e = cc
    never (One b) e = cc
    never KernelOnly e = cc
some_call t None None h = cc

phase_offered : (p : Phase) → eqb (cond (is_offered p) 1 2) 1 ≡ true → p ≡ Offered
phase_offered Offered e = refl
phase_offered Taken e = cc

-- a record that is an offered call's
offered_call : (t : Task) (co : Option Call) (lo : Option Listen) → eqb (record_told t co lo).wait 1 ≡ true → (d : Call) × (co ≡ Some d) × (d.phase ≡ Offered)
offered_call t (Some c) lo h = (c, refl, phase_offered c.phase h)
offered_call t None (Some l) h = absurd (never l.from h)
  where
    never : (f : From) → eqb (from_number f) 1 ≡ true → ⊥
    never Any e = cc
    never (One b) e = cc
    never KernelOnly e = cc
offered_call t None None h = cc

-- the id of the server in a call's word
id_in_word : (id op : ℕ) → id ≤ 65535 → (id + 65536 * op) % 65536 ≡ id
id_in_word id op h = omega (arith, h)

abbrev no_setup : TaskSetup
no_setup = record { priority = 0; entry = 0; stack = 0; regions = []; start = false }

module _ (g : Setup) (s : State) (sane : Sane g s) (few : length g.tasks ≤ 1024) (small : reduced s ≡ s) (tasks : ℕ → TaskRecord) (told : (j : ℕ) → j < length s.tasks → tasks j ≡ record_of s j) where
  many : length s.tasks ≡ length g.tasks
  many = sane.steady.as_many

  -- the record of a task by what it waits for
  told_as : (i : ℕ) (co : Option Call) (lo : Option Listen) → i < length s.tasks → call_of s i ≡ co → listen_of s i ≡ lo → tasks i ≡ record_told (task_at s i) co lo
  told_as i co lo lt e f = told i lt ∙ (λ k. record_told (task_at s i) (e k) (f k))

  names : (i : ℕ) (b : Birth) (id : ℕ) → id ≡ id_of b.index b.birth → b.index < length g.tasks → b.index ≢ i → (task_at s b.index).births ≡ b.birth → names_other tasks (length g.tasks) i id ≡ true
  names i b id is inside apart present =
      let index : id % 1024 ≡ b.index = omega (arith, is, inside, few) in
      let young = births_small s b.index small in
      let generation : id / 1024 ≡ b.birth = omega (arith, is, inside, few, present, young) in
      let same : (tasks (id % 1024)).generation ≡ b.birth = ap (λ k. (tasks k).generation) index ∙ ap (λ (r : TaskRecord). r.generation) (told b.index (omega (arith, inside, many))) ∙ present in
      and_from _ _ (and_from _ _ (lt-ltb _ _ (omega (arith, index, inside))) (differs (id % 1024) i (λ q. apart (sym index ∙ q)))) (eq-eqb _ _ (generation ∙ sym same))
    where
      differs : (a c : ℕ) → a ≢ c → not (eqb a c) ≡ true
      differs a c ne = ap not (ne_eqb a c ne)

  -- the regions of a task
  abbrev pub own : ℕ → List Region
  own i = regions_at (map (λ (t : TaskSetup). t.regions) g.tasks) i

  granted : (i : ℕ) (right : Right) (r : Slice) → is_valid r ≡ true → bad_byte g i right r ≡ None → is_granted (own i) right r.base r.len ≡ true
  unfolding bad_byte
  granted i right r valid none = and_from _ _ valid (ap (λ (rs : List Region). is_none (first_bad rs right r.base r.len)) (get_or-map (λ (t : TaskSetup). t.regions) g.tasks i no_setup) ∙ ap is_none none)

  good_call : (i : ℕ) (c : Call) → i < length s.tasks → call_of s i ≡ Some c → is_good_call (own i) tasks (length g.tasks) s.next_call i ≡ true
  good_call i c lt e =
      let here = the_call s i c e in
      let fit = sane.steady.calls.fit c here.0 in
      let t = told_as i (Some c) (listen_of s i) lt e refl in
      let well : (task_at s i).health ≡ Well = ap (λ k. (task_at s k).health) (sym here.1) ∙ sane.well.client c here.0 in
      let server_index = fit.server in
      let server : server_id (tasks i) ≡ id_of c.server.index c.server.birth = ap server_id t ∙ id_in_word _ c.operation (omega (arith, server_index, few)) in
      let number : word (tasks i) 0 ≡ c.number = ap (λ (r : TaskRecord). word r 0) t in
      let below = sane.steady.calls.below c here.0 in
      let once : any_below (λ j. has_number (word (tasks i) 0) (tasks j)) i ≡ false = none_below _ i (λ j less. false_from_ne_true _ (λ hit. another j less hit)) in
      let live : is_live_call tasks (length g.tasks) s.next_call i ≡ true =
      and_from _ _ (and_from _ _ (and_from _ _ (eq-eqb _ _ (ap (λ (r : TaskRecord). r.health) t ∙ ap health_number well))
      (names i c.server _ server fit.server (λ q. fit.apart (here.1 ∙ sym q)) (sane.present.server c here.0 tt)))
      (lt-ltb _ _ (omega (arith, number, below)))) (ap not once) in
      let readable : bad_byte g i Read c.message ≡ None = ap (λ k. bad_byte g k Read c.message) (sym here.1) ∙ fit.readable in
      let writable : bad_byte g i Write c.reply ≡ None = ap (λ k. bad_byte g k Write c.reply) (sym here.1) ∙ fit.writable in
      let may : may_call (own i) (tasks i) ≡ true = ap (may_call (own i)) t ∙ and_from _ _ (and_from _ _ (granted i Read c.message fit.valid.0 readable) (granted i Write c.reply fit.valid.1 writable)) fit.valid.2 in
      and_from _ _ live may
    where
      another : (j : ℕ) → j < i → has_number (word (tasks i) 0) (tasks j) ≡ true → ⊥
      another j less hit =
          let inside : j < length s.tasks = omega (arith, less, lt) in
          let p = and_parts (is_call (tasks j)) _ hit in
          let d = some_call (task_at s j) (call_of s j) (listen_of s j) (ap is_call (sym (told j inside)) ∙ p.0) in
          let there = the_call s j d.0 d.1 in
          let here = the_call s i c e in
          let mine : word (tasks i) 0 ≡ c.number = ap (λ (r : TaskRecord). word r 0) (told_as i (Some c) (listen_of s i) lt e refl) in
          let its : word (tasks j) 0 ≡ d.0.number = ap (λ (r : TaskRecord). word r 0) (told_as j (Some d.0) (listen_of s j) inside d.1 refl) in
          let same : d.0.number ≡ c.number = sym its ∙ eqb-true _ _ p.1 ∙ mine in
          let is = sane.steady.calls.number d.0 c there.0 here.0 same in
          let index : j ≡ i = sym there.1 ∙ ap (λ (k : Call). k.client.index) is ∙ here.1 in
          omega (arith, index, less)

  -- ## a listen

  hears_as : (f : From) (m b n id : ℕ) (r : TaskRecord) → hears record r { wait = from_number f; words = m ∷ from_id f ∷ b ∷ n ∷ 0 ∷ 0 ∷ 0 ∷ 0 ∷ [] } id ≡ true → (d : Birth) →
      ((x : Birth) → f ≡ One x → from_id f ≡ id → same_birth x d ≡ true) → admits f d ≡ true
  hears_as Any m b n id r h d same = refl
  hears_as (One x) m b n id r h d same = same x refl (eqb-true _ _ h)
  hears_as KernelOnly m b n id r h d same = cc

  named_or : (f : From) (m b n : ℕ) (r : TaskRecord) (ok : Bool) → ((x : Birth) → f ≡ One x → ok ≡ true) → (not (eqb (record r { wait = from_number f; words = m ∷ from_id f ∷ b ∷ n ∷ 0 ∷ 0 ∷ 0 ∷ 0 ∷ [] }).wait 5) || ok) ≡ true
  named_or Any m b n r ok h = refl
  named_or (One x) m b n r ok h = h x refl
  named_or KernelOnly m b n r ok h = refl

  both_births : (x d : Birth) → x.index ≡ d.index → x.birth ≡ d.birth → same_birth x d ≡ true
  both_births x d e f = and_from _ _ (eq-eqb _ _ e) (eq-eqb _ _ f)

  -- no offered call fits
  misfits : (i j : ℕ) (l : Listen) → i < length s.tasks → j < length s.tasks → call_of s i ≡ None → listen_of s i ≡ Some l → fits tasks i j ≡ true → ⊥
  misfits i j l lt there none e hit =
      let p = and_parts (offers_to (id_in tasks i) (tasks j)) (hears (tasks i) (id_in tasks j)) hit in
      let q = and_parts (eqb (tasks j).wait 1) (eqb (server_id (tasks j)) (id_in tasks i)) p.0 in
      let d = offered_call (task_at s j) (call_of s j) (listen_of s j) (ap (λ (r : TaskRecord). eqb r.wait 1) (sym (told j there)) ∙ q.0) in
      let c = d.0 in
      let mine = the_call s j c d.1 in
      let its = the_listen s i l e in
      let fit = sane.steady.calls.fit c mine.0 in
      let server_index = fit.server in
      let server : server_id (tasks j) ≡ id_of c.server.index c.server.birth = ap server_id (told_as j (Some c) (listen_of s j) there d.1 refl) ∙ id_in_word _ c.operation (omega (arith, server_index, few)) in
      let own : id_in tasks i ≡ i + 1024 * (task_at s i).births = ap (λ (r : TaskRecord). i + 1024 * r.generation) (told i lt) in
      let other : id_in tasks j ≡ j + 1024 * (task_at s j).births = ap (λ (r : TaskRecord). j + 1024 * r.generation) (told j there) in
      let equal : id_of c.server.index c.server.birth ≡ i + 1024 * (task_at s i).births = sym server ∙ eqb-true _ _ q.1 ∙ own in
      let index : c.server.index ≡ i = omega (arith, equal, server_index, few, lt, many) in
      let heard : hears (record_told (task_at s i) None (Some l)) (id_in tasks j) ≡ true = ap (λ (r : TaskRecord). hears r (id_in tasks j)) (sym (told_as i None (Some l) lt none e)) ∙ p.1 in
      let young = births_small s j small in
      let client : c.client.index ≡ j = mine.1 in
      let present : (task_at s j).births ≡ c.client.birth = ap (λ k. (task_at s k).births) (sym client) ∙ sane.present.client c mine.0 in
      let admitted : admits l.from c.client ≡ true =
      hears_as l.from l.mask l.buffer.base l.buffer.len (id_in tasks j) (record_told (task_at s i) None (Some l)) heard c.client (λ x is same.
      let n = (sane.steady.listens.fit l its.0).names x is in
      let at : id_of x.index x.birth ≡ j + 1024 * (task_at s j).births = ap from_id (sym is) ∙ same ∙ other in
      let inside = n.0 in
      let place : x.index ≡ j = omega (arith, at, inside, few, there, many) in
      both_births x c.client (place ∙ sym client) (sym (sane.present.named l x its.0 is tt) ∙ ap (λ k. (task_at s k).births) place ∙ present)) in
      false≢true (sym (sane.unfit c l mine.0 its.0 d.2 (index ∙ sym its.1) tt) ∙ admitted)

  good_listen : (i : ℕ) (l : Listen) → i < length s.tasks → call_of s i ≡ None → listen_of s i ≡ Some l → is_good_listen (own i) tasks (length g.tasks) i ≡ true
  good_listen i l lt none e =
      let its = the_listen s i l e in
      let fit = sane.steady.listens.fit l its.0 in
      let t = told_as i None (Some l) lt none e in
      let well : (task_at s i).health ≡ Well = ap (λ k. (task_at s k).health) (sym its.1) ∙ sane.well.listener l its.0 in
      let unmet : bit_and (task_at s i).posted l.mask ≡ 0 = ap (λ k. bit_and (task_at s k).posted l.mask) (sym its.1) ∙ sane.unmet l its.0 tt in
      let named : (not (eqb (tasks i).wait 5) || names_other tasks (length g.tasks) i (word (tasks i) 1)) ≡ true =
      ap (λ (r : TaskRecord). not (eqb r.wait 5) || names_other tasks (length g.tasks) i (word r 1)) t
      ∙ named_or l.from l.mask l.buffer.base l.buffer.len (record_told (task_at s i) None (Some l)) _ (λ x is.
      let n = fit.names x is in
      names i x (from_id l.from) (ap from_id is) n.0 (λ q. n.1 (q ∙ sym its.1)) (sane.present.named l x its.0 is tt)) in
      let alone : any_below (fits tasks i) (length g.tasks) ≡ false = none_below (fits tasks i) (length g.tasks) (λ j less. false_from_ne_true _ (misfits i j l lt (omega (arith, less, many)) none e)) in
      let live : is_live_listen tasks (length g.tasks) i ≡ true =
      and_from _ _ (and_from _ _ (and_from _ _ (eq-eqb _ _ (ap (λ (r : TaskRecord). r.health) t ∙ ap health_number well)) named)
      (eq-eqb _ _ (ap (λ (r : TaskRecord). bit_and r.posted (word r 0)) t ∙ unmet))) (ap not alone) in
      let writable : bad_byte g i Write l.buffer ≡ None = ap (λ k. bad_byte g k Write l.buffer) (sym its.1) ∙ fit.writable in
      let may : is_granted (own i) Write (word (tasks i) 2) (word (tasks i) 3) ≡ true =
      ap (λ (r : TaskRecord). is_granted (own i) Write (word r 2) (word r 3)) t ∙ granted i Write l.buffer fit.valid writable in
      and_from _ _ live may

  -- ## any wait

  listens : (f : From) (m b n : ℕ) (r : TaskRecord) → (is_call record r { wait = from_number f; words = m ∷ from_id f ∷ b ∷ n ∷ 0 ∷ 0 ∷ 0 ∷ 0 ∷ [] } ≡ false)
  listens Any m b n r = refl
  listens (One x) m b n r = refl
  listens KernelOnly m b n r = refl

  calls : (p : Phase) (ws : List ℕ) (r : TaskRecord) → is_call record r { wait = cond (is_offered p) 1 2; words = ws } ≡ true
  calls Offered ws r = refl
  calls Taken ws r = refl

  nothing : (b : Bool) → b ≡ true → (x : Bool) → (x || b) ≡ true
  nothing b e true = refl
  nothing b e false = e

  pub good_wait : (i : ℕ) → i < length s.tasks → is_good_wait (own i) tasks (length g.tasks) s.next_call i ≡ true
  good_wait i lt = by (call_of s i) (listen_of s i) refl refl
    where
      by : (co : Option Call) (lo : Option Listen) → call_of s i ≡ co → listen_of s i ≡ lo → is_good_wait (own i) tasks (length g.tasks) s.next_call i ≡ true
      by (Some c) lo e f =
          let is : is_call (tasks i) ≡ true = ap is_call (told_as i (Some c) lo lt e f) ∙ calls c.phase (wait_words (Some c) lo) (record_told (task_at s i) (Some c) lo) in
          rw is (good_call i c lt e)
      by None (Some l) e f =
          let not_call : is_call (tasks i) ≡ false = ap is_call (told_as i None (Some l) lt e f) ∙ listens l.from l.mask l.buffer.base l.buffer.len (record_told (task_at s i) None (Some l)) in
          rw not_call (nothing (is_good_listen (own i) tasks (length g.tasks) i) (good_listen i l lt e f) (not (is_listen (tasks i))))
      by None None e f =
          let not_call : is_call (tasks i) ≡ false = ap is_call (told_as i None None lt e f) in
          let no_listen : is_listen (tasks i) ≡ false = ap is_listen (told_as i None None lt e f) in
          rw (not_call, no_listen) refl

-- ## a device

zeros_all : (n : ℕ) → are_zeros (replicate n 0) ≡ true
zeros_all zero = refl
zeros_all (suc n) = zeros_all n

pub few_queued : (kind : Kind) (count : ℕ) (queue : List ℕ) → IsSettable kind count queue → length queue ≤ 64
few_queued Console count queue h = let none : length queue ≡ 0 = ap length h in omega (arith, none)
few_queued Port count queue h = h.1

device_fits : (d : DeviceData) → IsSettable d.kind d.count d.queue → IsGoodDevice d.kind (device_told d)
device_fits d settable =
    let zeros = replicate (64 - length d.queue) 0 in
    let rest : drop (length d.queue) (d.queue ++ zeros) ≡ zeros = drop-append_seam d.queue zeros in
    record {
      few = few_queued d.kind d.count d.queue settable;
      unused = ap are_zeros rest ∙ zeros_all (64 - length d.queue);
      settable = subst (IsSettable d.kind d.count) (sym (take-append_seam d.queue zeros)) settable;
    }

-- ## all of it

few_of : (g : Setup) (s : State) (i : ℕ) → Sane g s → length g.tasks ≤ 1024 → IsFewOf (listen_of s i)
few_of g s i sane few = by (listen_of s i) refl
  where
    by_from : (l : Listen) (f : From) → l.from ≡ f → Contains s.listens l → IsFew f
    by_from l Any e here = tt
    by_from l KernelOnly e here = tt
    by_from l (One b) e here = let n = (sane.steady.listens.fit l here).names b e in let inside = n.0 in omega (arith, inside, few)

    by : (lo : Option Listen) → listen_of s i ≡ lo → IsFewOf lo
    by None e = tt
    by (Some l) e = by_from l l.from refl (the_listen s i l e).0

-- the spelling of a sane state, whose counts are in order, has no cause
pub saved_is_accepted : (g : Setup) (s : State) (bytes : List ℕ) → Sane g s → IsCounted s → s.turn ≤ 1000000000 → length g.tasks ≤ 1024 → SpellsState g s bytes → IsAccepted (expected_of g s.devices) bytes
saved_is_accepted g s bytes sane counted turns few spells = subst (IsAccepted (expected_of g s.devices)) (sym spells.is) accepted
  where
    -- each device is one that may be set so
    set : (d : DeviceData) → Contains s.devices d → IsSettable d.kind d.count d.queue
    set d has = (sane.steady.devices.sane d has).settable

    p : Parts
    p = parts_of s

    b : List ℕ
    b = bytes_of p

    parts : AreParts p
    parts = are_parts s (λ i lt. (sane.steady.tasks i lt).sixteen) (λ d has. few_queued d.kind d.count d.queue (set d has))

    whole : IsWhole b
    whole = whole_again p parts

    head : header_at b ≡ p.header
    head = header_place p parts

    count : length (map (record_of s) (range_with_len 0 (length s.tasks))) ≡ length s.tasks
    count = length-map-range_with_len (record_of s) 0 (length s.tasks)

    tasks : (header_at b).tasks ≡ length g.tasks
    tasks = ap (λ (h : Header). h.tasks) head ∙ spells.tasks

    ram : (header_at b).ram ≡ g.ram
    ram = ap (λ (h : Header). h.ram) head ∙ spells.ram

    kinds : (header_at b).devices ≡ length (map (λ (d : DeviceData). d.kind) s.devices)
    kinds = ap (λ (h : Header). h.devices) head ∙ sym (length-map s.devices (λ (d : DeviceData). d.kind))

    told : (j : ℕ) → j < length s.tasks → task_in b j ≡ record_of s j
    told j lt =
        let same : 0 + j ≡ j = omega arith in
        task_place p j (record_of s j) parts (omega (arith, lt, count)) ∙ get_or-map-range_with_len (record_of s) 0 (length s.tasks) j j (record_of s j) lt same

    line_is : (k : ℕ) → k < 64 → get_or b (36 + k) 0 ≡ line_number (line_at s k)
    line_is k lt =
        let same : 0 + k ≡ k = omega arith in
        line_place p k parts lt ∙ get_or-map-range_with_len (λ j. line_number (line_at s j)) 0 64 k k 0 lt same

    device_is : (k : ℕ) (d : DeviceData) → k < length s.devices → device_in b (length g.tasks) k ≡ device_told (get_or s.devices k d)
    device_is k d lt =
        let long = length-map s.devices device_told in
        ap (λ n. device_in b n k) (sym spells.tasks) ∙ device_place p k (device_told d) parts (omega (arith, lt, long)) ∙ get_or-map device_told s.devices k d

    no_device : DeviceData
    no_device = record { kind = Console; base = 0; count = 0; queue = [] }

    tasks_count : length (map (λ (t : TaskSetup). t.regions) g.tasks) ≡ length g.tasks
    tasks_count = length-map g.tasks (λ (t : TaskSetup). t.regions)

    accepted : IsAccepted (expected_of g s.devices) b
    accepted = record {
      letters = whole.letters;
      turn = subst (λ (h : Header). h.turn ≤ 1000000000) (sym head) turns;
      tasks = tasks ∙ sym tasks_count;
      ram = ram;
      clock = subst (λ (h : Header). h.clock ≤ 9 * h.turn) (sym head) counted.now;
      current = subst (λ (h : Header). h.current < length (expected_of g s.devices).regions) (sym head) (subst (λ n. s.current < n) (sane.steady.as_many ∙ sym tasks_count) sane.steady.current);
      some_call = subst (λ (h : Header). 1 ≤ h.next_call) (sym head) counted.some;
      few_calls = subst (λ (h : Header). h.next_call ≤ h.turn + 1) (sym head) counted.calls;
      devices = kinds;
      long = whole.long ∙ (λ i. total ((tasks ∙ sym tasks_count) i) (kinds i) (ram i));
      lines = λ k lt. ap (is_bad_line (map (λ (l : LineSetup). l.line) g.lines) k) (line_is k lt) ∙ line_fits g k (line_at s k).enabled (line_at s k).pending (sane.steady.lines k);
      records = λ i lt.
          let here : i < length s.tasks = subst (λ n. i < n) (tasks_count ∙ sym sane.steady.as_many) lt in
          let good = good_record s.now (task_at s i) (call_of s i) (listen_of s i) (births_small s i spells.small) (sane.steady.tasks i here) (sane.ahead i here tt) (few_of g s i sane few) in
          subst (λ (h : Header). IsGoodRecord h.clock (task_in b i)) (sym head) (subst (IsGoodRecord s.now) (sym (told i here)) good);
      waits = λ i lt.
          let here : i < length s.tasks = subst (λ n. i < n) (tasks_count ∙ sym sane.steady.as_many) lt in
          let own = regions_at (map (λ (t : TaskSetup). t.regions) g.tasks) i in
          subst (λ (h : Header). is_good_wait own (task_in b) (length (expected_of g s.devices).regions) h.next_call i ≡ true) (sym head)
          (subst (λ n. is_good_wait own (task_in b) n s.next_call i ≡ true) (sym tasks_count) (good_wait g s sane few spells.small (task_in b) told i here));
      fit = λ k lt.
          let here : k < length s.devices = omega (arith, lt, length-map s.devices (λ (d : DeviceData). d.kind)) in
          let kind : kind_at (map (λ (d : DeviceData). d.kind) s.devices) k ≡ (get_or s.devices k no_device).kind = get_or-map (λ (d : DeviceData). d.kind) s.devices k no_device in
          let is : device_in b (length (expected_of g s.devices).regions) k ≡ device_told (get_or s.devices k no_device) = ap (λ n. device_in b n k) tasks_count ∙ device_is k no_device here in
          let good = device_fits (get_or s.devices k no_device) (set _ (Contains-get_or s.devices k no_device here)) in
          subst (λ (x : Kind). IsGoodDevice x (device_in b (length (expected_of g s.devices).regions) k)) (sym kind) (subst (IsGoodDevice (get_or s.devices k no_device).kind) (sym is) good);
    }
