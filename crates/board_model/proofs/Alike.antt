-- What alike turns have in common, and effects keep two turns alike.
use Rattle.std.proofs.Common.{◌≡◌, ◌+◌, ◌-◌, ◌<◌, ◌≤◌, ◌&&◌, ◌||◌, ℕ, zero, suc, Bool, true, false, not, leb, eqb, is_some, is_none, List, [], ◌∷◌, ◌++◌, map, length, take, drop, get_or, Option, Some, None, refl, sym, ◌∙◌, ap, cond, arith, length-append, length-take, length-drop}
use Rattle.std.specs.Prelude.{filter, find, option_map, slice_get, slice_range, slice_index}
use Rattle.std.specs.List.{range_with_len, list_all}
use Rattle.std.proofs.Math.ListN.{get_or-map}
use Rattle.std.proofs.lemmas.List.{map-set, map-append, length-map}
use Rattle.mem_banks.specs.Memory.{Memory, bytes_at, with_bytes, pasted}
use Rattle.task_table.specs.model.State.{Setup, Task, State, Call, Listen}
use Rattle.task_table.specs.model.Reading.{task_at, line_at, register, arguments, call_of, listen_of, is_ready, is_well, priority, around, chosen, offer_by, offers, is_offered, taken_by, is_taken, best_sender, no_task}
use Rattle.task_table.specs.model.Effects.{with_task, without_call, without_listen, with_listen, with_taken, with_call, taken_from}
use Rattle.board_model.proofs.SameBytes.{read_same}
use Rattle.board_model.specs.Alike.{seen_task, seen_call, seen_listen, seen, but_memory, AreAlikeMemories}

-- ## lists whose elements are seen

find_seen : {X : Type 0} (f : X → X) (p : X → Bool) → ((x : X) → p (f x) ≡ p x) → (xs : List X) → find p (map f xs) ≡ option_map f (find p xs)
find_seen f p h [] = refl
find_seen {X} f p h (x ∷ xs) = ap (λ b. cond b (Some (f x)) (find p (map f xs))) (h x) ∙ go (p x) (find_seen f p h xs)
  where
    go : (b : Bool) → find p (map f xs) ≡ option_map f (find p xs) → cond b (Some (f x)) (find p (map f xs)) ≡ option_map f (cond b (Some x) (find p xs))
    go true e = refl
    go false e = e

filter_seen : {X : Type 0} (f : X → X) (p : X → Bool) → ((x : X) → p (f x) ≡ p x) → (xs : List X) → filter p (map f xs) ≡ map f (filter p xs)
filter_seen f p h [] = refl
filter_seen {X} f p h (x ∷ xs) = ap (λ b. cond b (f x ∷ filter p (map f xs)) (filter p (map f xs))) (h x) ∙ go (p x) (filter_seen f p h xs)
  where
    go : (b : Bool) → filter p (map f xs) ≡ map f (filter p xs) → cond b (f x ∷ filter p (map f xs)) (filter p (map f xs)) ≡ map f (cond b (x ∷ filter p xs) (filter p xs))
    go true e = ap (λ l. f x ∷ l) e
    go false e = e

map_swapped : {X : Type 0} (f h : X → X) → ((x : X) → f (h x) ≡ h (f x)) → (xs : List X) → map f (map h xs) ≡ map h (map f xs)
map_swapped f h e [] = refl
map_swapped f h e (x ∷ xs) = λ i. e x i ∷ map_swapped f h e xs i

is_none_seen : {X : Type 0} (f : X → X) (o p : Option X) → option_map f o ≡ option_map f p → is_none o ≡ is_none p
is_none_seen f None None e = refl
is_none_seen f (Some x) (Some y) e = refl
is_none_seen f None (Some y) e = absurd (no e)
  where
    no : {A : Type 0} {a : A} → None ≡ Some a → ⊥
    no e = cc
is_none_seen f (Some x) None e = absurd (no e)
  where
    no : {A : Type 0} {a : A} → Some a ≡ None → ⊥
    no e = cc

-- ## what is read off two states that are alike but for memory

abbrev pub shown : (ℕ → ℕ) → State → State
shown v s = but_memory (seen v s)

pub task_alike : (v : ℕ → ℕ) (s u : State) (i : ℕ) → shown v s ≡ shown v u → seen_task v (task_at s i) ≡ seen_task v (task_at u i)
unfolding seen task_at
task_alike v s u i e =
    sym (get_or-map (seen_task v) s.tasks i no_task)
    ∙ ap (λ (x : State). get_or x.tasks i (seen_task v no_task)) e
    ∙ get_or-map (seen_task v) u.tasks i no_task

pub registers_alike : (v : ℕ → ℕ) (s u : State) (i : ℕ) → shown v s ≡ shown v u → (task_at s i).registers ≡ (task_at u i).registers
registers_alike v s u i e = ap (λ (x : Task). x.registers) (task_alike v s u i e)

pub arguments_alike : (v : ℕ → ℕ) (s u : State) (i : ℕ) → shown v s ≡ shown v u → arguments s i ≡ arguments u i
unfolding arguments
arguments_alike v s u i e = ap (λ rs. slice_range rs 4 12) (registers_alike v s u i e)

pub register_alike : (v : ℕ → ℕ) (s u : State) (i r : ℕ) → shown v s ≡ shown v u → register s i r ≡ register u i r
unfolding register
register_alike v s u i r e = ap (λ rs. slice_index rs r) (registers_alike v s u i e)

pub count_alike : (v : ℕ → ℕ) (s u : State) → shown v s ≡ shown v u → length s.tasks ≡ length u.tasks
unfolding seen
count_alike v s u e = sym (length-map s.tasks (seen_task v)) ∙ ap (λ (x : State). length x.tasks) e ∙ length-map u.tasks (seen_task v)

pub call_alike : (v : ℕ → ℕ) (s u : State) (i : ℕ) → shown v s ≡ shown v u → option_map (seen_call v) (call_of s i) ≡ option_map (seen_call v) (call_of u i)
unfolding seen call_of
call_alike v s u i e =
    let p : Call → Bool = λ c. eqb c.client.index i in
    sym (find_seen (seen_call v) p (λ x. refl) s.calls)
    ∙ ap (λ (x : State). find p x.calls) e
    ∙ find_seen (seen_call v) p (λ x. refl) u.calls

pub offer_alike : (v : ℕ → ℕ) (s u : State) (client server : ℕ) → shown v s ≡ shown v u → option_map (seen_call v) (offer_by s client server) ≡ option_map (seen_call v) (offer_by u client server)
unfolding seen offer_by
offer_alike v s u client server e =
    let p : Call → Bool = λ k. eqb k.client.index client && eqb k.server.index server && is_offered k.phase in
    sym (find_seen (seen_call v) p (λ x. refl) s.calls)
    ∙ ap (λ (x : State). find p x.calls) e
    ∙ find_seen (seen_call v) p (λ x. refl) u.calls

pub taken_alike : (v : ℕ → ℕ) (s u : State) (client server : ℕ) → shown v s ≡ shown v u → option_map (seen_call v) (taken_by s client server) ≡ option_map (seen_call v) (taken_by u client server)
unfolding seen taken_by
taken_alike v s u client server e =
    let p : Call → Bool = λ k. eqb k.client.index client && eqb k.server.index server && is_taken k.phase in
    sym (find_seen (seen_call v) p (λ x. refl) s.calls)
    ∙ ap (λ (x : State). find p x.calls) e
    ∙ find_seen (seen_call v) p (λ x. refl) u.calls

pub listen_alike : (v : ℕ → ℕ) (s u : State) (i : ℕ) → shown v s ≡ shown v u → option_map (seen_listen v) (listen_of s i) ≡ option_map (seen_listen v) (listen_of u i)
unfolding seen listen_of
listen_alike v s u i e =
    let p : Listen → Bool = λ l. eqb l.task i in
    sym (find_seen (seen_listen v) p (λ x. refl) s.listens)
    ∙ ap (λ (x : State). find p x.listens) e
    ∙ find_seen (seen_listen v) p (λ x. refl) u.listens

pub line_alike : (v : ℕ → ℕ) (s u : State) (k : ℕ) → shown v s ≡ shown v u → line_at s k ≡ line_at u k
unfolding seen line_at
line_alike v s u k e = ap (λ (x : State). line_at x k) e

pub devices_alike : (v : ℕ → ℕ) (s u : State) → shown v s ≡ shown v u → s.devices ≡ u.devices
unfolding seen
devices_alike v s u e = ap (λ (x : State). x.devices) e

pub now_alike : (v : ℕ → ℕ) (s u : State) → shown v s ≡ shown v u → s.now ≡ u.now
unfolding seen
now_alike v s u e = ap (λ (x : State). x.now) e

pub current_alike : (v : ℕ → ℕ) (s u : State) → shown v s ≡ shown v u → s.current ≡ u.current
unfolding seen
current_alike v s u e = ap (λ (x : State). x.current) e

pub turn_alike : (v : ℕ → ℕ) (s u : State) → shown v s ≡ shown v u → s.turn ≡ u.turn
unfolding seen
turn_alike v s u e = ap (λ (x : State). x.turn) e

pub next_call_alike : (v : ℕ → ℕ) (s u : State) → shown v s ≡ shown v u → s.next_call ≡ u.next_call
unfolding seen
next_call_alike v s u e = ap (λ (x : State). x.next_call) e

some_alike : {X : Type 0} (f : X → X) (o p : Option X) → option_map f o ≡ option_map f p → is_some o ≡ is_some p
some_alike f o p e = flipped o ∙ ap not (is_none_seen f o p e) ∙ sym (flipped p)
  where
    flipped : {Y : Type 0} (q : Option Y) → is_some q ≡ not (is_none q)
    flipped None = refl
    flipped (Some y) = refl

ready_alike : (v : ℕ → ℕ) (s u : State) → shown v s ≡ shown v u → (i : ℕ) → is_ready s i ≡ is_ready u i
unfolding is_ready
ready_alike v s u e i =
    let a : (task_at s i).health ≡ (task_at u i).health = ap (λ (x : Task). x.health) (task_alike v s u i e) in
    let b = is_none_seen (seen_call v) (call_of s i) (call_of u i) (call_alike v s u i e) in
    let c = is_none_seen (seen_listen v) (listen_of s i) (listen_of u i) (listen_alike v s u i e) in
    λ j. is_well (a j) && b j && c j

pub chosen_alike : (v : ℕ → ℕ) (g : Setup) (s u : State) → shown v s ≡ shown v u → chosen g s ≡ chosen g u
unfolding chosen
chosen_alike v g s u e =
    let r = ready_alike v s u e in
    let n = count_alike v s u e in
    let c = current_alike v s u e in
    λ j. find (λ i. r i j && list_all (λ k. not (r k j) || leb (priority g i) (priority g k)) (range_with_len 0 (n j))) (around (n j) (c j))

pub best_alike : (v : ℕ → ℕ) (g : Setup) (s u : State) (server : ℕ) → shown v s ≡ shown v u → best_sender g s server ≡ best_sender g u server
unfolding best_sender
best_alike v g s u server e =
    let o : (i : ℕ) → offers s server i ≡ offers u server i = λ i. some_alike (seen_call v) (offer_by s i server) (offer_by u i server) (offer_alike v s u i server e) in
    let n = count_alike v s u e in
    λ j. find (λ i. o i j && list_all (λ k. not (o k j) || leb (priority g i) (priority g k)) (range_with_len 0 (n j))) (around (n j) (server + 1))

-- ## what changes a state

-- a change that the births have no part in
alike_by : (v : ℕ → ℕ) (f h : State → State) → ((s : State) → shown v (f s) ≡ h (shown v s)) → (s u : State) → shown v s ≡ shown v u → shown v (f s) ≡ shown v (f u)
alike_by v f h commutes s u e = commutes s ∙ ap h e ∙ sym (commutes u)

shown-with_task : (v : ℕ → ℕ) (i : ℕ) (x : Task) (s : State) → shown v (with_task i x s) ≡ with_task i (seen_task v x) (shown v s)
unfolding seen with_task
shown-with_task v i x s = ap (λ ts. record (shown v s) { tasks = ts }) (map-set (seen_task v) s.tasks i x)

pub alike-with_task : (v : ℕ → ℕ) (i : ℕ) (x y : Task) (s u : State) → seen_task v x ≡ seen_task v y → shown v s ≡ shown v u → shown v (with_task i x s) ≡ shown v (with_task i y u)
alike-with_task v i x y s u same e = shown-with_task v i x s ∙ (λ j. with_task i (same j) (e j)) ∙ sym (shown-with_task v i y u)

pub alike-without_call : (v : ℕ → ℕ) (i : ℕ) (s u : State) → shown v s ≡ shown v u → shown v (without_call i s) ≡ shown v (without_call i u)
unfolding seen without_call
alike-without_call v i s u e =
    alike_by v (without_call i) (without_call i) (λ x. ap (λ cs. record (shown v x) { calls = cs }) (sym (filter_seen (seen_call v) (λ c. not (eqb c.client.index i)) (λ c. refl) x.calls))) s u e

pub alike-without_listen : (v : ℕ → ℕ) (i : ℕ) (s u : State) → shown v s ≡ shown v u → shown v (without_listen i s) ≡ shown v (without_listen i u)
unfolding seen without_listen
alike-without_listen v i s u e =
    alike_by v (without_listen i) (without_listen i) (λ x. ap (λ ls. record (shown v x) { listens = ls }) (sym (filter_seen (seen_listen v) (λ l. not (eqb l.task i)) (λ l. refl) x.listens))) s u e

pub alike-with_listen : (v : ℕ → ℕ) (l m : Listen) (s u : State) → seen_listen v l ≡ seen_listen v m → shown v s ≡ shown v u → shown v (with_listen l s) ≡ shown v (with_listen m u)
unfolding seen with_listen
alike-with_listen v l m s u same e = added l s ∙ (λ j. with_listen (same j) (e j)) ∙ sym (added m u)
  where
    added : (k : Listen) (x : State) → shown v (with_listen k x) ≡ with_listen (seen_listen v k) (shown v x)
    added k x = ap (λ ls. record (shown v x) { listens = ls }) (map-append (seen_listen v) x.listens (k ∷ []))

pub alike-with_taken : (v : ℕ → ℕ) (i : ℕ) (s u : State) → shown v s ≡ shown v u → shown v (with_taken i s) ≡ shown v (with_taken i u)
unfolding seen with_taken
alike-with_taken v i s u e =
    alike_by v (with_taken i) (with_taken i) (λ x. ap (λ cs. record (shown v x) { calls = cs }) (map_swapped (seen_call v) (taken_from i) (λ c. refl) x.calls)) s u e

pub alike-with_call : (v : ℕ → ℕ) (k m : Call) (s u : State) → seen_call v k ≡ seen_call v m → shown v s ≡ shown v u → shown v (with_call k s) ≡ shown v (with_call m u)
unfolding seen with_call
alike-with_call v k m s u same e = added k s ∙ (λ j. with_call (same j) (e j)) ∙ sym (added m u)
  where
    added : (c : Call) (x : State) → shown v (with_call c x) ≡ with_call (seen_call v c) (shown v x)
    added c x = ap (λ cs. record (shown v x) { calls = cs; next_call = x.next_call + 1 }) (map-append (seen_call v) x.calls (c ∷ []))

-- ## memory

slice_same : {X : Type 0} (xs ys : List X) → length xs ≡ length ys → ((k : ℕ) → slice_get xs k ≡ slice_get ys k) → xs ≡ ys
slice_same [] [] n h = refl
slice_same [] (y ∷ ys) n h = absurd (omega (arith, n))
slice_same (x ∷ xs) [] n h = absurd (omega (arith, n))
slice_same (x ∷ xs) (y ∷ ys) n h = λ i. first (h 0) i ∷ slice_same xs ys (omega (arith, n)) (λ k. h (suc k)) i
  where
    first : Some x ≡ Some y → x ≡ y
    first e = cc

-- bytes written over bytes
patched_same : (i k : ℕ) (bytes xs ys : List ℕ) (j : ℕ) → k ≡ i + length bytes → length xs ≡ length ys → slice_get xs j ≡ slice_get ys j → slice_get (take i xs ++ bytes ++ drop k xs) j ≡ slice_get (take i ys ++ bytes ++ drop k ys) j
patched_same zero zero [] xs ys j e n h = h
patched_same zero zero (b ∷ bytes) xs ys j e n h = absurd (omega arith)
patched_same zero (suc k) [] xs ys j e n h = absurd (omega arith)
patched_same zero (suc k) (b ∷ bytes) [] [] j e n h = refl
patched_same zero (suc k) (b ∷ bytes) (x ∷ xs) [] j e n h = absurd (omega arith)
patched_same zero (suc k) (b ∷ bytes) [] (y ∷ ys) j e n h = absurd (omega arith)
patched_same zero (suc k) (b ∷ bytes) (x ∷ xs) (y ∷ ys) zero e n h = refl
patched_same zero (suc k) (b ∷ bytes) (x ∷ xs) (y ∷ ys) (suc j) e n h = patched_same zero k bytes xs ys j (omega arith) (omega arith) h
patched_same (suc i) zero bytes xs ys j e n h = absurd (omega arith)
patched_same (suc i) (suc k) bytes [] [] j e n h = refl
patched_same (suc i) (suc k) bytes (x ∷ xs) [] j e n h = absurd (omega arith)
patched_same (suc i) (suc k) bytes [] (y ∷ ys) j e n h = absurd (omega arith)
patched_same (suc i) (suc k) bytes (x ∷ xs) (y ∷ ys) zero e n h = h
patched_same (suc i) (suc k) bytes (x ∷ xs) (y ∷ ys) (suc j) e n h = patched_same i k bytes xs ys j (omega arith) (omega arith) h

patched_length : (i k : ℕ) (bytes xs ys : List ℕ) → length xs ≡ length ys → length (take i xs ++ bytes ++ drop k xs) ≡ length (take i ys ++ bytes ++ drop k ys)
patched_length i k bytes xs ys n = rw (length-append, length-append, length-append, length-append, length-take, length-take, length-drop, length-drop, n) refl

pub alike-with_bytes : (sees : ℕ → Bool) (m n : Memory) (a : ℕ) (bytes : List ℕ) → AreAlikeMemories sees m n → AreAlikeMemories sees (with_bytes m a bytes) (with_bytes n a bytes)
unfolding with_bytes
alike-with_bytes sees m n a bytes h = go (leb 0x20000000 a)
  where
    go : (b : Bool) → AreAlikeMemories sees (cond b (record m { ram = pasted m.ram (a - 0x20000000) bytes }) (record m { flash = pasted m.flash (a - 0x08000000) bytes })) (cond b (record n { ram = pasted n.ram (a - 0x20000000) bytes }) (record n { flash = pasted n.flash (a - 0x08000000) bytes }))
    go true = record {
      flash_length = h.flash_length;
      ram_length = patched_length (a - 0x20000000) (a - 0x20000000 + length bytes) bytes m.ram n.ram h.ram_length;
      flash = h.flash;
      ram = λ k see. patched_same (a - 0x20000000) (a - 0x20000000 + length bytes) bytes m.ram n.ram k refl h.ram_length (h.ram k see);
    }
    go false = record {
      flash_length = patched_length (a - 0x08000000) (a - 0x08000000 + length bytes) bytes m.flash n.flash h.flash_length;
      ram_length = h.ram_length;
      flash = λ k see. patched_same (a - 0x08000000) (a - 0x08000000 + length bytes) bytes m.flash n.flash k refl h.flash_length (h.flash k see);
      ram = h.ram;
    }

-- bytes that are read where all are seen
pub bytes_alike : (sees : ℕ → Bool) (m n : Memory) (a count : ℕ) → AreAlikeMemories sees m n → ((x : ℕ) → a ≤ x → x < a + count → sees x ≡ true) → bytes_at m a count ≡ bytes_at n a count
bytes_alike sees m n a count h see = read_same sees m n a count record { flash = h.flash; ram = h.ram } see

-- where all is seen, the memories are the same
pub memories_same : (m n : Memory) → AreAlikeMemories (λ a. true) m n → m ≡ n
memories_same m n h =
    let f = slice_same m.flash n.flash h.flash_length (λ k. h.flash k refl) in
    let r = slice_same m.ram n.ram h.ram_length (λ k. h.ram k refl) in
    λ i. record { flash = f i; ram = r i }
