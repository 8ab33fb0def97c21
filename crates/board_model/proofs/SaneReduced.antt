-- A sane state is sane with its births modulo 64.
use Rattle.std.proofs.Common.{◌≡◌, ◌%◌, ◌&&◌, ℕ, Bool, true, false, eqb, length, refl, sym, ◌∙◌, ap, arith, eqb-true}
use Rattle.std.specs.Prelude.{Contains}
use Rattle.std.specs.List.{count_by}
use Rattle.task_table.proofs.model.Once.{as_many_of}
use Rattle.std.proofs.Math.ListN.{get_or-map}
use Rattle.std.proofs.lemmas.List.{length-map}
use Rattle.mem_banks.specs.Memory.{Memory}
use Rattle.task_table.specs.model.State.{Setup, State, Birth, Call, From, Any, One, KernelOnly, Listen}
use Rattle.task_table.specs.model.Reading.{task_at, line_at, admits, no_task}
use Rattle.task_table.specs.model.Sane.{Sane}
use Rattle.task_table.proofs.model.Keeps.{map_in}
use Rattle.board_model.proofs.Births.{eqb_same}
use Rattle.board_model.specs.Alike.{seen_birth, seen_task, seen_call, seen_from, seen_listen, seen, reduced}

reduced_task : (s : State) (i : ℕ) → task_at (reduced s) i ≡ seen_task (λ b. b % 64) (task_at s i)
unfolding seen task_at
reduced_task s i = get_or-map (seen_task (λ b. b % 64)) s.tasks i no_task

reduced_count : (s : State) → length (reduced s).tasks ≡ length s.tasks
unfolding seen
reduced_count s = length-map s.tasks (seen_task (λ b. b % 64))

kept_next : (s : State) → (reduced s).next_call ≡ s.next_call
unfolding seen
kept_next s = refl

kept_current : (s : State) → (reduced s).current ≡ s.current
unfolding seen
kept_current s = refl

kept_now : (s : State) → (reduced s).now ≡ s.now
unfolding seen
kept_now s = refl

kept_devices : (s : State) → (reduced s).devices ≡ s.devices
unfolding seen
kept_devices s = refl

kept_memory : (s : State) → (reduced s).memory ≡ s.memory
unfolding seen
kept_memory s = refl

reduced_call : (s : State) (c : Call) → Contains (reduced s).calls c → (d : Call) × Contains s.calls d × (c ≡ seen_call (λ b. b % 64) d)
unfolding seen
reduced_call s c here = map_in (seen_call (λ b. b % 64)) s.calls c here

reduced_listen : (s : State) (l : Listen) → Contains (reduced s).listens l → (m : Listen) × Contains s.listens m × (l ≡ seen_listen (λ b. b % 64) m)
unfolding seen
reduced_listen s l here = map_in (seen_listen (λ b. b % 64)) s.listens l here

as_many_calls : (s : State) (i : ℕ) → count_by (λ c. eqb c.client.index i) (reduced s).calls ≡ count_by (λ c. eqb c.client.index i) s.calls
unfolding seen
as_many_calls s i = as_many_of (λ c. eqb c.client.index i) (seen_call (λ b. b % 64)) s.calls (λ c. refl)

as_many_listens : (s : State) (i : ℕ) → count_by (λ l. eqb l.task i) (reduced s).listens ≡ count_by (λ l. eqb l.task i) s.listens
unfolding seen
as_many_listens s i = as_many_of (λ l. eqb l.task i) (seen_listen (λ b. b % 64)) s.listens (λ l. refl)

reduced_line : (s : State) (k : ℕ) → line_at (reduced s) k ≡ line_at s k
unfolding seen line_at
reduced_line s k = refl

one_of : (f : From) (b : Birth) → seen_from (λ n. n % 64) f ≡ One b → (x : Birth) × (f ≡ One x) × (b ≡ seen_birth (λ n. n % 64) x)
one_of Any b e = absurd cc
one_of (One x) b e = (x, refl, sym (inner e))
  where
    inner : One (seen_birth (λ n. n % 64) x) ≡ One b → seen_birth (λ n. n % 64) x ≡ b
    inner q = cc
one_of KernelOnly b e = absurd cc

admits_reduced : (f : From) (b : Birth) → ((e : Birth) → f ≡ One e → e.index ≡ b.index → e.birth ≡ b.birth) → admits (seen_from (λ n. n % 64) f) (seen_birth (λ n. n % 64) b) ≡ admits f b
admits_reduced Any b h = refl
admits_reduced KernelOnly b h = refl
admits_reduced (One x) b h = go (eqb x.index b.index) refl
  where
    go : (t : Bool) → eqb x.index b.index ≡ t → (t && eqb (x.birth % 64) (b.birth % 64)) ≡ (t && eqb x.birth b.birth)
    go false e = refl
    go true e = let same = h x refl (eqb-true _ _ e) in eqb_same (x.birth % 64) (b.birth % 64) x.birth b.birth (λ q. same) (λ q. ap (λ n. n % 64) q)

pub sane-reduced : (g : Setup) (s : State) → Sane g s → Sane g (reduced s)
sane-reduced g s h = record {
  steady = record {
    calls = record {
      once = λ i. let same = as_many_calls s i in let few = h.steady.calls.once i in omega (arith, same, few);
      fit = λ c here. let r = reduced_call s c here in let f = h.steady.calls.fit r.0 r.1 in rw r.2 record { client = f.client; server = f.server; apart = f.apart; valid = f.valid; readable = f.readable; writable = f.writable };
      below = λ c here. let r = reduced_call s c here in rw (r.2, same_next) (h.steady.calls.below r.0 r.1);
      client = λ c d x y same. let r = reduced_call s c x in let q = reduced_call s d y in r.2 ∙ ap (seen_call (λ b. b % 64)) (h.steady.calls.client r.0 q.0 r.1 q.1 (sym (ap (λ (k : Call). k.client.index) r.2) ∙ same ∙ ap (λ (k : Call). k.client.index) q.2)) ∙ sym q.2;
      number = λ c d x y same. let r = reduced_call s c x in let q = reduced_call s d y in r.2 ∙ ap (seen_call (λ b. b % 64)) (h.steady.calls.number r.0 q.0 r.1 q.1 (sym (ap (λ (k : Call). k.number) r.2) ∙ same ∙ ap (λ (k : Call). k.number) q.2)) ∙ sym q.2;
    };
    listens = record {
      once = λ i. let same = as_many_listens s i in let few = h.steady.listens.once i in omega (arith, same, few);
      fit = λ l here. let r = reduced_listen s l here in let f = h.steady.listens.fit r.0 r.1 in rw r.2 record {
        there = f.there;
        names = λ b e. let q = one_of r.0.from b e in let k = f.names q.0 q.1 in rw q.2 k;
        valid = f.valid;
        writable = f.writable;
      };
      task = λ l m x y same. let r = reduced_listen s l x in let q = reduced_listen s m y in r.2 ∙ ap (seen_listen (λ b. b % 64)) (h.steady.listens.task r.0 q.0 r.1 q.1 (sym (ap (λ (k : Listen). k.task) r.2) ∙ same ∙ ap (λ (k : Listen). k.task) q.2)) ∙ sym q.2;
    };
    tasks = λ i below. let f = h.steady.tasks i (rw reduced_count at below) in rw reduced_task record { sixteen = f.sixteen; even = f.even; aligned = f.aligned; fault = f.fault };
    lines = λ k pending. rw reduced_line (h.steady.lines k (rw reduced_line at pending));
    as_many = reduced_count s ∙ h.steady.as_many;
    current = rw (reduced_count, same_current) h.steady.current;
    flash = ap (λ (m : Memory). m.flash) same_memory ∙ h.steady.flash;
    flash_bytes = rw same_memory h.steady.flash_bytes;
    devices = rw same_devices h.steady.devices;
    bytes = rw same_memory h.steady.bytes;
    placed = rw same_memory h.steady.placed;
  };
  well = record {
    client = λ c here. let r = reduced_call s c here in rw (r.2, reduced_task) (h.well.client r.0 r.1);
    listener = λ l here. let r = reduced_listen s l here in rw (r.2, reduced_task) (h.well.listener r.0 r.1);
    alone = λ c l x y. let r = reduced_call s c x in let q = reduced_listen s l y in rw (r.2, q.2) (h.well.alone r.0 q.0 r.1 q.1);
  };
  present = record {
    client = λ c here. let r = reduced_call s c here in rw (r.2, reduced_task) (ap (λ n. n % 64) (h.present.client r.0 r.1));
    server = λ c here w. let r = reduced_call s c here in rw (r.2, reduced_task) (ap (λ n. n % 64) (h.present.server r.0 r.1 tt));
    named = λ l b here e w. let r = reduced_listen s l here in let q = one_of r.0.from b (sym (ap (λ (k : Listen). k.from) r.2) ∙ e) in rw (q.2, reduced_task) (ap (λ n. n % 64) (h.present.named r.0 q.0 r.1 q.1 tt));
  };
  unmet = λ l here m. let r = reduced_listen s l here in rw (r.2, reduced_task) (h.unmet r.0 r.1 tt);
  unfit = λ c l x y offered e f. let r = reduced_call s c x in let q = reduced_listen s l y in
      rw (r.2, q.2) (admits_reduced q.0.from r.0.client (λ b z same. sym (h.present.named q.0 b q.1 z tt) ∙ ap (λ n. (task_at s n).births) same ∙ h.present.client r.0 r.1)
      ∙ h.unfit r.0 q.0 r.1 q.1 (sym (ap (λ (k : Call). k.phase) r.2) ∙ offered) (sym (ap (λ (k : Call). k.server.index) r.2) ∙ e ∙ ap (λ (k : Listen). k.task) q.2) tt);
  ahead = λ i below t. rw (reduced_task, same_now) (h.ahead i (rw reduced_count at below) tt);
}
  where
    same_next : (reduced s).next_call ≡ s.next_call
    same_next = kept_next s

    same_current : (reduced s).current ≡ s.current
    same_current = kept_current s

    same_now : (reduced s).now ≡ s.now
    same_now = kept_now s

    same_devices : (reduced s).devices ≡ s.devices
    same_devices = kept_devices s

    same_memory : (reduced s).memory ≡ s.memory
    same_memory = kept_memory s
