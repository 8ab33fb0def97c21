-- A turn depends on memory only where it reads.
use Rattle.std.proofs.Common.{◌≡◌, ◌+◌, ◌<◌, ◌≤◌, ℕ, Bool, true, false, not, leb, ltb, ◌&&◌, ◌||◌, List, length, Option, Some, None, refl, sym, ◌∙◌, subst, arith, le-leb, leb-true, lt-ltb, ltb-true, ltb-false}
use Rattle.std.proofs.lemmas.Bool.{and_parts, or_right, or_left}
use Rattle.std.specs.Prelude.{Contains, slice_get}
use Rattle.std.specs.List.{list_any}
use Rattle.std.proofs.lemmas.Option.{slice_get_past}
use Rattle.region_check.specs.declared.Region.{Region}
use Rattle.region_check.specs.declared.Right.{Right}
use Rattle.region_check.specs.Rights.{gives, has_right, is_inside}
use Rattle.mem_banks.specs.Memory.{Memory}
use Rattle.task_table.specs.model.State.{Setup, State, Read, Turn}
use Rattle.task_table.specs.model.Reading.{setup_at, chosen}
use Rattle.task_table.specs.model.Effects.{noted}
use Rattle.task_table.specs.model.Placed.{ArePlaced}
use Rattle.task_table.specs.model.Sane.{Sane}
use Rattle.board_model.specs.declared.outcomes.Level.{Level}
use Rattle.board_model.specs.declared.outcomes.Level.TheVariants.{Calls, All}
use Rattle.board_model.specs.Script.{Scenario}
use Rattle.board_model.specs.Turn.{may, after_events, turn_of, ended, turn}
use Rattle.board_model.proofs.TurnChains.{sane-after_events}
use Rattle.board_model.specs.Alike.{Viewer, IsAttentive, seen, AreAlikeMemories, IsAlike, AreSeen}
use Rattle.board_model.specs.Agreement.{is_own, covers, is_read, AgreesOnReads, rest_of, with_memory, IsSameButMemory}
use Rattle.board_model.proofs.SameBytes.{flash_byte, ram_byte}
use Rattle.board_model.proofs.Alike.{shown, chosen_alike}
use Rattle.board_model.proofs.AlikeTurns.{IsHeardAs, alike-rest}
use Rattle.board_model.proofs.Sight.{IsOpen}
use Rattle.board_model.proofs.Views.{all_heard, any_in, any_of, same_but_memory, told_plainly}

-- the one who sees what is read, and what lies above all memory
unfoldable pub reader : Setup → ℕ → List Read → Viewer
reader g c reads = record { birth = λ b. b; sees = λ a. is_read g c reads a || leb 0x40000000 a; hears = λ n. true }

module _ (g : Setup) (c : ℕ) (reads : List Read) where
  attentive_reader : IsAttentive (reader g c reads)
  unfolding reader
  attentive_reader = record { hears = λ n h. refl; generation = λ b. refl; next = λ b. refl }

  reader_hears : (level : Level) → IsHeardAs (reader g c reads) level level
  unfolding reader
  reader_hears Calls = tt
  reader_hears All = λ n. refl

  above_seen : (a : ℕ) → 0x40000000 ≤ a → (is_read g c reads a || leb 0x40000000 a) ≡ true
  above_seen a h = or_right (is_read g c reads a) (leb 0x40000000 a) (le-leb _ _ h)

  -- what the task may use lies in a region of its own that is no device, or above all memory
  own_seen : (m : Memory) → ArePlaced g m → (right : Right) (a : ℕ) → may g c right a ≡ true → (is_read g c reads a || leb 0x40000000 a) ≡ true
  own_seen m placed right a e =
      let r = any_in (gives right a) (setup_at g c).regions e in
      let inside = and_parts (is_inside r.0 a) (has_right r.0.rights right) r.2 in
      go r.0 r.1 inside.0 r.0.rights.device refl
    where
      go : (r : Region) → Contains (setup_at g c).regions r → is_inside r a ≡ true → (b : Bool) → r.rights.device ≡ b → (is_read g c reads a || leb 0x40000000 a) ≡ true
      go r here inside true q =
          let base = placed.devices c r here q in
          let lo : r.base ≤ a = leb-true _ _ (and_parts (leb r.base a) _ inside).0 in
          above_seen a (omega arith)
      go r here inside false q =
          let mine : list_any (λ (x : Region). is_inside x a && not x.rights.device) (setup_at g c).regions ≡ true = any_of (λ (x : Region). is_inside x a && not x.rights.device) (setup_at g c).regions r here ((λ i. inside i && not (q i)) ∙ refl) in
          or_left (is_read g c reads a) (leb 0x40000000 a) (or_left (is_own g c a) (list_any (covers a) reads) mine)

  reader_open : (m : Memory) → ArePlaced g m → IsOpen (reader g c reads) g c
  unfolding reader
  reader_open m placed = record { rights = own_seen m placed }

  reads_seen : AreSeen (reader g c reads).sees reads
  unfolding reader
  reads_seen r here a lo hi =
      let in_it : covers a r ≡ true = (λ i. le-leb _ _ lo i && lt-ltb _ _ hi i) ∙ refl in
      or_left (is_read g c reads a) (leb 0x40000000 a) (or_right (is_own g c a) (list_any (covers a) reads) (any_of (covers a) reads r here in_it))

  seen_or_above : (a : ℕ) → (is_read g c reads a || leb 0x40000000 a) ≡ true → a < 0x40000000 → is_read g c reads a ≡ true
  seen_or_above a e below = go (is_read g c reads a) refl e
    where
      go : (b : Bool) → is_read g c reads a ≡ b → (b || leb 0x40000000 a) ≡ true → b ≡ true
      go true q f = refl
      go false q f = let above : 0x40000000 ≤ a = leb-true _ _ f in absurd (omega arith)

  alike_memories : (m n : Memory) → ArePlaced g m → AgreesOnReads g c reads m n → AreAlikeMemories (reader g c reads).sees m n
  unfolding reader
  alike_memories m n placed h = record {
    flash_length = h.flash_length;
    ram_length = h.ram_length;
    flash = λ k see. by_flash k see (ltb k (length m.flash)) refl;
    ram = λ k see. by_ram k see (ltb k (length m.ram)) refl;
  }
    where
      by_flash : (k : ℕ) → (is_read g c reads (0x08000000 + k) || leb 0x40000000 (0x08000000 + k)) ≡ true → (b : Bool) → ltb k (length m.flash) ≡ b → slice_get m.flash k ≡ slice_get n.flash k
      by_flash k see true q =
          let below : k < length m.flash = ltb-true _ _ q in
          let few = placed.flash in
          sym (flash_byte m k (omega arith)) ∙ h.bytes (0x08000000 + k) (seen_or_above (0x08000000 + k) see (omega arith)) ∙ flash_byte n k (omega arith)
      by_flash k see false q =
          let past : length m.flash ≤ k = ltb-false _ _ q in
          let same = h.flash_length in
          slice_get_past m.flash k past ∙ sym (slice_get_past n.flash k (omega arith))

      by_ram : (k : ℕ) → (is_read g c reads (0x20000000 + k) || leb 0x40000000 (0x20000000 + k)) ≡ true → (b : Bool) → ltb k (length m.ram) ≡ b → slice_get m.ram k ≡ slice_get n.ram k
      by_ram k see true q =
          let below : k < length m.ram = ltb-true _ _ q in
          let few = placed.below in
          sym (ram_byte m k) ∙ h.bytes (0x20000000 + k) (seen_or_above (0x20000000 + k) see (omega arith)) ∙ ram_byte n k
      by_ram k see false q =
          let past : length m.ram ≤ k = ltb-false _ _ q in
          let same = h.ram_length in
          slice_get_past m.ram k past ∙ sym (slice_get_past n.ram k (omega arith))

  alike_itself : (t : Turn) (n : Memory) → ArePlaced g t.state.memory → AgreesOnReads g c reads t.state.memory n → IsAlike (reader g c reads) t (with_memory n t)
  unfolding reader seen
  alike_itself t n placed h = record {
    state = refl;
    memory = alike_memories t.state.memory n placed h;
    notes = all_heard t.notes;
    writes = refl;
    reads = refl;
  }

shown_again : (u : State) (m : Memory) → shown (λ b. b) u ≡ shown (λ b. b) record u { memory = m }
unfolding seen
shown_again u m = refl

chosen_without_memory : (g : Setup) (s : State) (n : Memory) → chosen g s ≡ chosen g record s { memory = n }
chosen_without_memory g s n = chosen_alike (λ b. b) g s record s { memory = n } (shown_again s n)

-- the turn of a task that is chosen
same_ran : (level : Level) (g : Setup) (c : ℕ) (t : Turn) (n : Memory) → ArePlaced g t.state.memory → chosen g t.state ≡ Some c → AgreesOnReads g c (rest_of level g t).reads t.state.memory n → IsSameButMemory (rest_of level g t) (rest_of level g (with_memory n t))
unfolding reader
same_ran level g c t n placed e agree =
    let reads = (rest_of level g t).reads in
    let w = reader g c reads in
    let sight : (d : ℕ) → chosen g t.state ≡ Some d → IsOpen w g d = λ d q. subst (λ k. IsOpen w g k) (one_some (sym e ∙ q)) (reader_open g c reads t.state.memory placed) in
    let h = (alike-rest w (attentive_reader g c reads) level level (reader_hears g c reads level) g t (with_memory n t) sight (told_plainly t.state) (told_plainly (with_memory n t).state) (alike_itself g c reads t n placed agree)).alike (reads_seen g c reads) in
    record {
      writes = h.writes;
      reads = h.reads;
      notes = h.notes ∙ sym (all_heard (rest_of level g (with_memory n t)).notes);
      state = same_but_memory (rest_of level g t).state (rest_of level g (with_memory n t)).state h.state;
    }
  where
    one_some : {d : ℕ} → Some c ≡ Some d → c ≡ d
    one_some q = cc

-- an idle turn
same_idle : (level : Level) (g : Setup) (t : Turn) (n : Memory) → chosen g t.state ≡ None → IsSameButMemory (rest_of level g t) (rest_of level g (with_memory n t))
unfolding ended noted
same_idle level g t n e = go (chosen g t.state) (chosen g (with_memory n t).state) e (sym same ∙ e)
  where
    same : chosen g t.state ≡ chosen g (with_memory n t).state
    same = chosen_without_memory g t.state n

    go : (o p : Option ℕ) → o ≡ None → p ≡ None → IsSameButMemory (ended (turn_of level g o t)) (ended (turn_of level g p (with_memory n t)))
    go o p x y = rw (x, y) (by_level level)
      where
        by_level : (l : Level) → IsSameButMemory (ended (turn_of l g None t)) (ended (turn_of l g None (with_memory n t)))
        by_level Calls = record { writes = refl; reads = refl; notes = refl; state = refl }
        by_level All = record { writes = refl; reads = refl; notes = refl; state = refl }

pub same_turn : (level : Level) (x : Scenario) (s : State) (n : Memory) → Sane x.setup s → ((c : ℕ) → chosen x.setup (after_events x s).state ≡ Some c → AgreesOnReads x.setup c (turn level x s).reads (after_events x s).state.memory n) → IsSameButMemory (turn level x s) (rest_of level x.setup (with_memory n (after_events x s)))
unfolding turn
same_turn level x s n sane agree = go (chosen x.setup (after_events x s).state) refl
  where
    go : (o : Option ℕ) → chosen x.setup (after_events x s).state ≡ o → IsSameButMemory (rest_of level x.setup (after_events x s)) (rest_of level x.setup (with_memory n (after_events x s)))
    go None e = same_idle level x.setup (after_events x s) n e
    go (Some c) e = same_ran level x.setup c (after_events x s) n (sane-after_events x s sane).steady.placed e (agree c e)
