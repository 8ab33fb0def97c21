-- Each change of a state keeps it sane.
use Rattle.std.proofs.Common.{◌≡◌, ◌≢◌, ◌<◌, ◌≤◌, ◌⊎◌, inl, inr, ℕ, zero, suc, Bool, true, false, cond, not, List, [], ◌∷◌, ◌++◌, length, Some, None, refl, sym, subst, ◌∙◌, ap, arith, eqb, bit_and, IfSome}
use Rattle.std.specs.Prelude.{Contains, filter, find, map}
use Rattle.std.specs.List.{count_by}
use Rattle.std.proofs.lemmas.Bool.{eq-eqb, false≢true, cases_Bool}
use Rattle.std.proofs.lemmas.Bool.Decides.{eqb_tells}
use Rattle.std.proofs.lemmas.List.Elements.{Contains-append_cases}
use Rattle.kernel_abi.specs.declared.Health.TheVariants.{Well}
use Rattle.task_table.specs.declared.Line.{Line}
use Rattle.mem_banks.specs.Memory.{Memory, AreAllBytes}
use Rattle.task_table.specs.model.State.{Setup, Task, Call, Listen, State, Birth, Offered, Taken, One}
use Rattle.task_table.specs.model.Reading.{task_at, line_at, call_of, listen_of, admits, IsIdle}
use Rattle.task_table.specs.model.Effects.{with_task, without_call, without_listen, with_listen, taken_from, with_taken}
use Rattle.task_table.specs.model.Placed.{ArePlaced}
use Rattle.task_table.specs.model.Sane.{IsSaneBut, Every, IsFitListen, IsSaneTask, IsOwned}
use Rattle.task_table.proofs.model.Once.{fewer_of, as_many_of, once_more}
use Rattle.task_table.proofs.model.Changes.{task_at-with_task, task_at-with_task_other, length-with_task}

no_some : {A P : Type 0} {a : A} → None ≡ Some a → P
no_some e = cc

pub not_found : {X : Type 0} (p : X → Bool) (xs : List X) (x : X) → find p xs ≡ None → Contains xs x → p x ≡ true → ⊥
not_found p [] x h c t = absurd (omega (arith, c.1))
not_found p (y ∷ ys) x h (zero, lt, e) t = let same : y ≡ x = e in let b : p y ≡ true = rw same t in no_some (sym (rw b at h))
not_found p (y ∷ ys) x h (suc k, lt, e) t =
    elim (cases_Bool (p y)) [
      | inl b ↦ no_some (sym (rw b at h))
      | inr b ↦ not_found p ys x (rw b at h) (k, omega arith, e) t
    ]

-- ## what lists contain

contains_more : {X : Type 0} (x y : X) (xs : List X) → Contains xs y → Contains (x ∷ xs) y
contains_more x y xs h = (suc h.0, omega arith, h.2)

same_some : {A : Type 0} {a b : A} → Some a ≡ Some b → a ≡ b
same_some e = cc

-- what is found is in the list, and passes
pub found_in : {X : Type 0} (p : X → Bool) (xs : List X) (x : X) → find p xs ≡ Some x → Contains xs x × (p x ≡ true)
found_in p [] x h = no_some h
found_in p (y ∷ ys) x h = elim (cases_Bool (p y)) [
  | inl e ↦ let s : y ≡ x = same_some (rw e at h) in ((zero, omega arith, s), rw (← s) e)
  | inr e ↦ let r = found_in p ys x (rw e at h) in (contains_more y x ys r.0, r.1)
]

-- what a filter leaves was there, and passes
pub filter_in : {X : Type 0} (p : X → Bool) (xs : List X) (x : X) → Contains (filter p xs) x → Contains xs x × (p x ≡ true)
filter_in p [] x h = absurd (omega (arith, h.1))
filter_in p (y ∷ ys) x h = go (p y) refl h (λ c. filter_in p ys x c)
  where
    go : (b : Bool) → p y ≡ b → Contains (cond b (y ∷ filter p ys) (filter p ys)) x → (Contains (filter p ys) x → Contains ys x × (p x ≡ true)) → Contains (y ∷ ys) x × (p x ≡ true)
    go true e (zero, lt, same) rest = let e' : y ≡ x = same in ((zero, omega arith, same), rw e' at e)
    go true e (suc k, lt, same) rest = let r = rest (k, omega arith, same) in (contains_more y x ys r.0, r.1)
    go false e h rest = let r = rest h in (contains_more y x ys r.0, r.1)

-- what a map gives comes from there
pub map_in : {X : Type 0} (f : X → X) (xs : List X) (y : X) → Contains (map f xs) y → (x : X) × Contains xs x × (y ≡ f x)
map_in f [] y h = absurd (omega (arith, h.1))
map_in f (x ∷ xs) y (zero, lt, same) = let e : f x ≡ y = same in (x, (zero, omega arith, refl), sym e)
map_in f (x ∷ xs) y (suc k, lt, same) = let r = map_in f xs y (k, omega arith, same) in (r.0, contains_more x r.0 xs r.1, r.2)

one_in : {X : Type 0} (y x : X) → Contains (y ∷ []) x → x ≡ y
one_in y x (zero, lt, same) = let e : y ≡ x = same in sym e
one_in y x (suc k, lt, same) = absurd (omega arith)

-- an item of a list with one more item is in the old list, or is the new one
pub added_in : {X : Type 0} (xs : List X) (y x : X) → Contains (xs ++ y ∷ []) x → Contains xs x ⊎ (x ≡ y)
added_in xs y x h = elim (Contains-append_cases xs (y ∷ []) x h) [ inl a ↦ inl a | inr b ↦ inr (one_in y x b) ]

-- ## one task changes

-- what is true of each task before the change and of the new task is true after the change
pub task_rule : (P : ℕ → Task → Type 0) (s : State) (i : ℕ) (x : Task) (j : ℕ) → i < length s.tasks → (j ≡ i → P j x) → (j ≢ i → P j (task_at s j)) → P j (task_at (with_task i x s) j)
task_rule P s i x j inside here other =
    elim (eqb_tells j i) [
      | inl same ↦ subst (λ y. P j y) (sym (ap (task_at (with_task i x s)) same.1 ∙ task_at-with_task s i x inside)) (here same.1)
      | inr ne ↦ subst (λ y. P j y) (sym (task_at-with_task_other s i j x ne.1)) (other ne.1)
    ]

pub births_kept : (s : State) (i : ℕ) (x : Task) (j : ℕ) → i < length s.tasks → x.births ≡ (task_at s i).births → (task_at (with_task i x s) j).births ≡ (task_at s j).births
births_kept s i x j inside e = task_rule (λ k t. t.births ≡ (task_at s k).births) s i x j inside (λ same. rw same e) (λ ne. refl)

pub idle_call : (s : State) (i : ℕ) (c : Call) → call_of s i ≡ None → Contains s.calls c → c.client.index ≡ i → ⊥
unfolding call_of
idle_call s i c none here e = not_found (λ (d : Call). eqb d.client.index i) s.calls c none here (eq-eqb _ _ e)

-- and none is found in its list
pub unmade : (s : State) (i : ℕ) → call_of s i ≡ None → find (λ c. eqb c.client.index i) s.calls ≡ None
unfolding call_of
unmade s i none = none

pub unheard : (s : State) (i : ℕ) → listen_of s i ≡ None → find (λ l. eqb l.task i) s.listens ≡ None
unfolding listen_of
unheard s i none = none

pub idle_listen : (s : State) (i : ℕ) (l : Listen) → listen_of s i ≡ None → Contains s.listens l → l.task ≡ i → ⊥
unfolding listen_of
idle_listen s i l none here e = not_found (λ (m : Listen). eqb m.task i) s.listens l none here (eq-eqb _ _ e)

-- the task stays as sane as before; its health may change if it waits for nothing
pub record IsAsGood (M T : ℕ → Type 0) (s : State) (i : ℕ) (x : Task) : Type 0 where
  pub births : x.births ≡ (task_at s i).births
  pub health : (x.health ≡ (task_at s i).health) ⊎ IsIdle s i
  pub sane : IsSaneTask x
  pub ahead : T i → IfSome x.timer (λ y. s.now < y.deadline)
  pub unmet : (l : Listen) → Contains s.listens l → M l.task → l.task ≡ i → bit_and x.posted l.mask ≡ 0

pub keeps-with_task : {M F T : ℕ → Type 0} {W : ℕ → ℕ → Type 0} {g : Setup} {s : State} (i : ℕ) {x : Task} → IsSaneBut M F T W g s → i < length s.tasks → IsAsGood M T s i x → IsSaneBut M F T W g (with_task i x s)
unfolding with_task line_at
keeps-with_task {g = g} {s = s} i {x} h inside good = record {
  steady = record {
    calls = h.steady.calls;
    listens = h.steady.listens;
    tasks = λ j below. task_rule (λ k t. IsSaneTask t) s i x j inside (λ same. good.sane) (λ ne. h.steady.tasks j (rw length-with_task at below));
    lines = h.steady.lines;
    as_many = length-with_task s i x ∙ h.steady.as_many;
    current = rw length-with_task h.steady.current;
    flash = h.steady.flash;
    flash_bytes = h.steady.flash_bytes;
    devices = h.steady.devices;
    bytes = h.steady.bytes;
    placed = h.steady.placed;
  };
  well = record {
    client = λ c here. task_rule (λ k t. t.health ≡ Well) s i x c.client.index inside
        (λ same. elim good.health [ inl e ↦ e ∙ ap (λ k. (task_at s k).health) (sym same) ∙ h.well.client c here | inr idle ↦ absurd (idle_call s i c idle.call here same) ])
        (λ ne. h.well.client c here);
    listener = λ l here. task_rule (λ k t. t.health ≡ Well) s i x l.task inside
        (λ same. elim good.health [ inl e ↦ e ∙ ap (λ k. (task_at s k).health) (sym same) ∙ h.well.listener l here | inr idle ↦ absurd (idle_listen s i l idle.listen here same) ])
        (λ ne. h.well.listener l here);
    alone = h.well.alone;
  };
  present = record {
    client = λ c here. births_kept s i x c.client.index inside good.births ∙ h.present.client c here;
    server = λ c here w. births_kept s i x c.server.index inside good.births ∙ h.present.server c here w;
    named = λ l b here e w. births_kept s i x b.index inside good.births ∙ h.present.named l b here e w;
  };
  unmet = λ l here m. task_rule (λ k t. bit_and t.posted l.mask ≡ 0) s i x l.task inside (λ same. good.unmet l here m same) (λ ne. h.unmet l here m);
  unfit = h.unfit;
  ahead = λ j below t. task_rule (λ k y. IfSome y.timer (λ z. s.now < z.deadline)) s i x j inside (λ same. good.ahead (rw same at t)) (λ ne. h.ahead j (rw length-with_task at below) t);
}

-- ## calls and listens are dropped

pub keeps-fewer : {M F T : ℕ → Type 0} {W : ℕ → ℕ → Type 0} {g : Setup} {s : State} (calls : List Call) (listens : List Listen) → IsSaneBut M F T W g s → ((c : Call) → Contains calls c → Contains s.calls c) → ((l : Listen) → Contains listens l → Contains s.listens l) → ((i : ℕ) → count_by (λ c. eqb c.client.index i) calls ≤ count_by (λ c. eqb c.client.index i) s.calls) → ((i : ℕ) → count_by (λ l. eqb l.task i) listens ≤ count_by (λ l. eqb l.task i) s.listens) → IsSaneBut M F T W g record s { calls = calls; listens = listens }
unfolding task_at line_at
keeps-fewer calls listens h a b fewer_calls fewer_listens = record {
  steady = record {
    calls = record {
      once = λ i. let few = fewer_calls i in let one = h.steady.calls.once i in omega (arith, few, one);
      fit = λ c here. h.steady.calls.fit c (a c here);
      below = λ c here. h.steady.calls.below c (a c here);
      client = λ c d x y. h.steady.calls.client c d (a c x) (a d y);
      number = λ c d x y. h.steady.calls.number c d (a c x) (a d y);
    };
    listens = record {
      once = λ i. let few = fewer_listens i in let one = h.steady.listens.once i in omega (arith, few, one);
      fit = λ l here. h.steady.listens.fit l (b l here);
      task = λ l m x y. h.steady.listens.task l m (b l x) (b m y);
    };
    tasks = h.steady.tasks;
    lines = h.steady.lines;
    as_many = h.steady.as_many;
    current = h.steady.current;
    flash = h.steady.flash;
    flash_bytes = h.steady.flash_bytes;
    devices = h.steady.devices;
    bytes = h.steady.bytes;
    placed = h.steady.placed;
  };
  well = record {
    client = λ c here. h.well.client c (a c here);
    listener = λ l here. h.well.listener l (b l here);
    alone = λ c l x y. h.well.alone c l (a c x) (b l y);
  };
  present = record {
    client = λ c here. h.present.client c (a c here);
    server = λ c here w. h.present.server c (a c here) w;
    named = λ l n here e w. h.present.named l n (b l here) e w;
  };
  unmet = λ l here m. h.unmet l (b l here) m;
  unfit = λ c l x y o e f. h.unfit c l (a c x) (b l y) o e f;
  ahead = h.ahead;
}

pub dropped_call : (s : State) (i : ℕ) (c : Call) → Contains (without_call i s).calls c → Contains s.calls c × (c.client.index ≢ i)
unfolding without_call
dropped_call s i c h =
    let r = filter_in (λ (d : Call). not (eqb d.client.index i)) s.calls c h in
    (r.0, λ e. absurd (false≢true (sym (ap not (eq-eqb _ _ e)) ∙ r.1)))

pub dropped_listen : (s : State) (i : ℕ) (l : Listen) → Contains (without_listen i s).listens l → Contains s.listens l × (l.task ≢ i)
unfolding without_listen
dropped_listen s i l h =
    let r = filter_in (λ (m : Listen). not (eqb m.task i)) s.listens l h in
    (r.0, λ e. absurd (false≢true (sym (ap not (eq-eqb _ _ e)) ∙ r.1)))

pub keeps-without_call : {M F T : ℕ → Type 0} {W : ℕ → ℕ → Type 0} {g : Setup} {s : State} (i : ℕ) → IsSaneBut M F T W g s → IsSaneBut M F T W g (without_call i s)
unfolding without_call
keeps-without_call {s = s} i h = keeps-fewer (without_call i s).calls s.listens h (λ c here. (dropped_call s i c here).0) (λ l here. here) (λ j. fewer_of (λ c. eqb c.client.index j) (λ c. not (eqb c.client.index i)) s.calls) (λ j. omega arith)

pub keeps-without_listen : {M F T : ℕ → Type 0} {W : ℕ → ℕ → Type 0} {g : Setup} {s : State} (i : ℕ) → IsSaneBut M F T W g s → IsSaneBut M F T W g (without_listen i s)
unfolding without_listen
keeps-without_listen {s = s} i h = keeps-fewer s.calls (without_listen i s).listens h (λ c here. here) (λ l here. (dropped_listen s i l here).0) (λ j. omega arith) (λ j. fewer_of (λ l. eqb l.task j) (λ l. not (eqb l.task i)) s.listens)

-- ## a task listens

pub keeps-with_listen : {T : ℕ → Type 0} {W : ℕ → ℕ → Type 0} {g : Setup} {s : State} (l : Listen) → IsSaneBut Every Every T W g s → IsFitListen g l → (task_at s l.task).health ≡ Well → IsIdle s l.task → ((b : Birth) → l.from ≡ One b → (task_at s b.index).births ≡ b.birth) → bit_and (task_at s l.task).posted l.mask ≡ 0 → ((c : Call) → Contains s.calls c → c.phase ≡ Offered → c.server.index ≡ l.task → admits l.from c.client ≡ false) → IsSaneBut Every Every T W g (with_listen l s)
unfolding with_listen task_at line_at
keeps-with_listen {s = s} l h fit well idle named unmet unfit = record {
  steady = record {
    calls = h.steady.calls;
    listens = record {
      once = once_more (λ m. m.task) s.listens l h.steady.listens.once (unheard s l.task idle.listen);
      fit = λ m here. elim (added_in s.listens l m here) [ inl old ↦ h.steady.listens.fit m old | inr new ↦ rw new fit ];
      task = λ m n x y same. elim (added_in s.listens l m x) [
        | inl old ↦ elim (added_in s.listens l n y) [ inl old2 ↦ h.steady.listens.task m n old old2 same | inr new2 ↦ absurd (idle_listen s l.task m idle.listen old (same ∙ ap (λ (k : Listen). k.task) new2)) ]
        | inr new ↦ elim (added_in s.listens l n y) [ inl old2 ↦ absurd (idle_listen s l.task n idle.listen old2 (sym same ∙ ap (λ (k : Listen). k.task) new)) | inr new2 ↦ new ∙ sym new2 ]
      ];
    };
    tasks = h.steady.tasks;
    lines = h.steady.lines;
    as_many = h.steady.as_many;
    current = h.steady.current;
    flash = h.steady.flash;
    flash_bytes = h.steady.flash_bytes;
    devices = h.steady.devices;
    bytes = h.steady.bytes;
    placed = h.steady.placed;
  };
  well = record {
    client = h.well.client;
    listener = λ m here. elim (added_in s.listens l m here) [ inl old ↦ h.well.listener m old | inr new ↦ rw new well ];
    alone = λ d m x y. elim (added_in s.listens l m y) [ inl old ↦ h.well.alone d m x old | inr new ↦ rw new (λ e. absurd (idle_call s l.task d idle.call x e)) ];
  };
  present = record {
    client = h.present.client;
    server = h.present.server;
    named = λ m b here e w. elim (added_in s.listens l m here) [ inl old ↦ h.present.named m b old e w | inr new ↦ named b (rw new at e) ];
  };
  unmet = λ m here w. elim (added_in s.listens l m here) [ inl old ↦ h.unmet m old w | inr new ↦ rw new unmet ];
  unfit = λ d m x y o e f. elim (added_in s.listens l m y) [ inl old ↦ h.unfit d m x old o e f | inr new ↦ rw new (unfit d x o (rw new at e)) ];
  ahead = h.ahead;
}

-- ## a call is taken

-- F: required for all clients, or for all except this one; after the change it is true for all
pub keeps-with_taken : {M F T : ℕ → Type 0} {W : ℕ → ℕ → Type 0} {g : Setup} {s : State} (i : ℕ) → IsSaneBut M F T W g s → ((j : ℕ) → j ≢ i → F j) → IsSaneBut M Every T W g (with_taken i s)
unfolding with_taken task_at line_at
keeps-with_taken {s = s} i h but = record {
  steady = record {
    calls = record {
      once = λ j. let same = as_many_of (λ c. eqb c.client.index j) (taken_from i) s.calls (λ c. refl) in let few = h.steady.calls.once j in omega (arith, same, few);
      fit = λ d here. let r = map_in (taken_from i) s.calls d here in let f = h.steady.calls.fit r.0 r.1 in rw r.2 record { client = f.client; server = f.server; apart = f.apart; valid = f.valid; readable = f.readable; writable = f.writable };
      below = λ d here. let r = map_in (taken_from i) s.calls d here in rw r.2 (h.steady.calls.below r.0 r.1);
      client = λ d e x y same. let r = map_in (taken_from i) s.calls d x in let q = map_in (taken_from i) s.calls e y in r.2 ∙ ap (taken_from i) (h.steady.calls.client r.0 q.0 r.1 q.1 (sym (ap (λ (k : Call). k.client.index) r.2) ∙ same ∙ ap (λ (k : Call). k.client.index) q.2)) ∙ sym q.2;
      number = λ d e x y same. let r = map_in (taken_from i) s.calls d x in let q = map_in (taken_from i) s.calls e y in r.2 ∙ ap (taken_from i) (h.steady.calls.number r.0 q.0 r.1 q.1 (sym (ap (λ (k : Call). k.number) r.2) ∙ same ∙ ap (λ (k : Call). k.number) q.2)) ∙ sym q.2;
    };
    listens = h.steady.listens;
    tasks = h.steady.tasks;
    lines = h.steady.lines;
    as_many = h.steady.as_many;
    current = h.steady.current;
    flash = h.steady.flash;
    flash_bytes = h.steady.flash_bytes;
    devices = h.steady.devices;
    bytes = h.steady.bytes;
    placed = h.steady.placed;
  };
  well = record {
    client = λ d here. let r = map_in (taken_from i) s.calls d here in rw r.2 (h.well.client r.0 r.1);
    listener = h.well.listener;
    alone = λ d l x y. let r = map_in (taken_from i) s.calls d x in rw r.2 (h.well.alone r.0 l r.1 y);
  };
  present = record {
    client = λ d here. let r = map_in (taken_from i) s.calls d here in rw r.2 (h.present.client r.0 r.1);
    server = λ d here w. let r = map_in (taken_from i) s.calls d here in rw r.2 (h.present.server r.0 r.1 (rw r.2 at w));
    named = h.present.named;
  };
  unmet = h.unmet;
  unfit = λ d l x y o e f. let r = map_in (taken_from i) s.calls d x in rw r.2 (elim (eqb_tells r.0.client.index i) [
    | inl mine ↦ absurd (taken_not_offered (sym (ap (λ (k : Call). k.phase) r.2 ∙ rw mine.0) ∙ o))
    | inr other ↦ h.unfit r.0 l r.1 y (sym (ap (λ (k : Call). k.phase) r.2 ∙ rw other.0) ∙ o) (sym (ap (λ (k : Call). k.server.index) r.2) ∙ e) (but r.0.client.index other.1)
  ]);
  ahead = h.ahead;
}
  where
    taken_not_offered : Taken ≡ Offered → ⊥
    taken_not_offered e = cc

-- ## memory, the current task, the turn

pub keeps-memory : {M F T : ℕ → Type 0} {W : ℕ → ℕ → Type 0} {g : Setup} {s : State} (m : Memory) → IsSaneBut M F T W g s → m.flash ≡ s.memory.flash → AreAllBytes m.ram → ArePlaced g m → IsSaneBut M F T W g record s { memory = m }
unfolding task_at line_at
keeps-memory m h flash bytes placed = record {
  steady = record { devices = h.steady.devices; calls = h.steady.calls; listens = h.steady.listens; tasks = h.steady.tasks; lines = h.steady.lines; as_many = h.steady.as_many; current = h.steady.current; flash = flash ∙ h.steady.flash; flash_bytes = λ b here. h.steady.flash_bytes b (rw flash at here); bytes = bytes; placed = placed };
  well = record { client = h.well.client; listener = h.well.listener; alone = h.well.alone };
  present = record { client = h.present.client; server = h.present.server; named = h.present.named };
  unmet = h.unmet;
  unfit = h.unfit;
  ahead = h.ahead;
}

pub keeps-current : {M F T : ℕ → Type 0} {W : ℕ → ℕ → Type 0} {g : Setup} {s : State} (i : ℕ) → IsSaneBut M F T W g s → i < length s.tasks → IsSaneBut M F T W g record s { current = i }
unfolding task_at line_at
keeps-current i h inside = record {
  steady = record { devices = h.steady.devices; calls = h.steady.calls; listens = h.steady.listens; tasks = h.steady.tasks; lines = h.steady.lines; as_many = h.steady.as_many; current = inside; flash = h.steady.flash; flash_bytes = h.steady.flash_bytes; bytes = h.steady.bytes; placed = h.steady.placed };
  well = record { client = h.well.client; listener = h.well.listener; alone = h.well.alone };
  present = record { client = h.present.client; server = h.present.server; named = h.present.named };
  unmet = h.unmet;
  unfit = h.unfit;
  ahead = h.ahead;
}

-- a pending line is disabled and owned
pub keeps-lines : {M F T : ℕ → Type 0} {W : ℕ → ℕ → Type 0} {g : Setup} {s : State} (lines : List Line) → IsSaneBut M F T W g s → ((k : ℕ) → (line_at record s { lines = lines } k).pending ≡ true → ((line_at record s { lines = lines } k).enabled ≡ false) × IsOwned g k) → IsSaneBut M F T W g record s { lines = lines }
unfolding task_at
keeps-lines lines h owned = record {
  steady = record { devices = h.steady.devices; calls = h.steady.calls; listens = h.steady.listens; tasks = h.steady.tasks; lines = owned; as_many = h.steady.as_many; current = h.steady.current; flash = h.steady.flash; flash_bytes = h.steady.flash_bytes; bytes = h.steady.bytes; placed = h.steady.placed };
  well = record { client = h.well.client; listener = h.well.listener; alone = h.well.alone };
  present = record { client = h.present.client; server = h.present.server; named = h.present.named };
  unmet = h.unmet;
  unfit = h.unfit;
  ahead = h.ahead;
}

-- the time advances; the property of timers is no longer required
pub keeps-now : {M F T : ℕ → Type 0} {W : ℕ → ℕ → Type 0} {g : Setup} {s : State} (now : ℕ) → IsSaneBut M F T W g s → IsSaneBut M F (λ i. ⊥) W g record s { now = now }
unfolding task_at line_at
keeps-now now h = record {
  steady = record { devices = h.steady.devices; calls = h.steady.calls; listens = h.steady.listens; tasks = h.steady.tasks; lines = h.steady.lines; as_many = h.steady.as_many; current = h.steady.current; flash = h.steady.flash; flash_bytes = h.steady.flash_bytes; bytes = h.steady.bytes; placed = h.steady.placed };
  well = record { client = h.well.client; listener = h.well.listener; alone = h.well.alone };
  present = record { client = h.present.client; server = h.present.server; named = h.present.named };
  unmet = h.unmet;
  unfit = h.unfit;
  ahead = λ i below none. absurd none;
}

pub keeps-turn : {M F T : ℕ → Type 0} {W : ℕ → ℕ → Type 0} {g : Setup} {s : State} (turn : ℕ) → IsSaneBut M F T W g s → IsSaneBut M F T W g record s { turn = turn }
unfolding task_at line_at
keeps-turn turn h = record {
  steady = record { devices = h.steady.devices; calls = h.steady.calls; listens = h.steady.listens; tasks = h.steady.tasks; lines = h.steady.lines; as_many = h.steady.as_many; current = h.steady.current; flash = h.steady.flash; flash_bytes = h.steady.flash_bytes; bytes = h.steady.bytes; placed = h.steady.placed };
  well = record { client = h.well.client; listener = h.well.listener; alone = h.well.alone };
  present = record { client = h.present.client; server = h.present.server; named = h.present.named };
  unmet = h.unmet;
  unfit = h.unfit;
  ahead = h.ahead;
}
