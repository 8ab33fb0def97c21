-- Instructions on end within a window are turns.
use Rattle.std.proofs.Common.{◌≡◌, ◌+◌, ◌-◌, ◌≤◌, ◌<◌, ℕ, zero, suc, Bool, true, false, cond, List, [], ◌∷◌, length, Option, Some, None, refl, sym, ◌∙◌, ap, subst, arith, leb, ltb, get_or, inl, inr, length-take, length-drop}
use Rattle.std.specs.Prelude.{slice_get, fold, Result, Ok, Err, Contains}
use Rattle.std.proofs.lemmas.Bool.{le-leb, leb-true, ltb-true, ltb-false}
use Rattle.std.proofs.lemmas.Option.{slice_get_past, slice_get-get_or}
use Rattle.std.proofs.lemmas.List.{length-append, same_lists, places}
use Rattle.kernel_abi.specs.declared.Fault.{Fault}
use Rattle.kernel_abi.specs.Devices.{DeviceData}
use Rattle.run_script.specs.Scripts.{events_of}
use Rattle.mem_banks.specs.Memory.{Memory, byte_at, bytes_at, with_bytes, pasted, is_ram}
use Rattle.mem_banks.proofs.Copies.{length-pasted, with_bytes_ram}
use Rattle.words_core.specs.Regs.{reg_at}
use Rattle.thumb_exec.specs.declared.cpu.Cpu.{Cpu}
use Rattle.thumb_exec.specs.Effect.{Effect, Next, Store, Move, Puts, Takes}
use Rattle.thumb_exec.specs.Keeps.{IsPermitted, AllPermitted}
use Rattle.thumb_exec.specs.Sizes.{IsSize}
use Rattle.thumb_exec.proofs.Permitting.{permitted}
use Rattle.thumb_exec.specs.declared.fetch.Fetched.{Fetched}
use Rattle.thumb_exec.specs.Fetch.{fetched, executed as executed_by, step_effect}
use Rattle.thumb_step.proofs.Widening.{step_wider}
use Rattle.thumb_exec.specs.Bytes.{bytes_of}
use Rattle.thumb_step.specs.Windows.{View, has_code, refused_by, held_by, write, put as lands, GoesOn, Keeps, IsInside, AreInside}
use Rattle.thumb_step.proofs.Gliding.{kept, kept_on}
use Rattle.task_table.specs.model.Placed.{ArePlaced}
use Rattle.task_table.specs.model.State.{Setup, State, Turn}
use Rattle.task_table.specs.model.Reading.{task_at, register, chosen}
use Rattle.task_table.specs.model.Effects.{with_task, with_processor, stored}
use Rattle.task_table.specs.model.Start.{begun}
use Rattle.board_model.specs.declared.outcomes.Level.TheVariants.{Calls}
use Rattle.board_model.specs.declared.outcomes.Turned.{Turned}
use Rattle.board_model.specs.Script.{Scenario}
use Rattle.board_model.specs.Turn.{refusals, is_device, held, cpu_of, put, moved, acted, stepped_by, stepped, after_events, with_registers_noted, turn_of, ended, turn, turned_of, turned}
use Rattle.board_model.proofs.Stepping.{moves_state}
use Rattle.board_model.proofs.Outside.{no_event}
use Rattle.board_core.specs.fast.Windowed.{IsWindow, IsBeside, later, with_window, IsFetchedIn}
use Rattle.mem_banks.specs.Windows.{IsInRam, AreApart}
use Rattle.mem_banks.proofs.Windows.{written_inside, written_same, region_written, same_ram_length, same_flash_length, bytes_below}
use Rattle.board_core.proofs.fast.WindowCovers.{Part, OfRam, OfArea, OfSecond, base_in, bytes_in, with_part, WrittenTo, written_to, inside, part_inside, part_held, widens, loads_below}
use Rattle.mem_banks.proofs.ReadPieces.{pasted_whole}
use Rattle.board_core.proofs.Reaching.{took_none}

-- ## the instruction of the turn

-- carried out, what was fetched is its effect
pub carried_next : (g : Setup) (c : ℕ) (t : Turn) (at : ℕ) (d : Cpu) (ms : List Move) (r : Result Fetched Fault) → executed_by (refusals g c) (held t.state) (cpu_of (task_at t.state c)) r ≡ Next d ms → stepped_by Calls g c at r t ≡ acted g c (Next d ms) t
carried_next g c t at d ms (Ok f) e = ap (λ (x : Effect). acted g c x t) e
carried_next g c t at d ms (Err fault) e = absurd cc

-- a load is of no device
abbrev IsBelow : Move → Type 0
IsBelow (Puts x) = Unit {0}
IsBelow (Takes a n) = is_device a ≡ false

-- what is carried out moves what it may
carried_permitted : (v : View) (c d : Cpu) (ms : List Move) (r : Result Fetched Fault) → executed_by (refused_by v) (held_by v) c r ≡ Next d ms → (x : Move) → Contains ms x → IsPermitted (refused_by v) x
carried_permitted v c d ms (Ok f) e = let P : Effect → Type 0 = λ k. AllPermitted (refused_by v) k in subst P e (permitted (refused_by v) (held_by v) c f.insn)
carried_permitted v c d ms (Err fault) e = absurd cc

some_bytes : (n : ℕ) → IsSize n → 0 < n
some_bytes n (inl e) = omega arith
some_bytes n (inr (inl e)) = omega arith
some_bytes n (inr (inr e)) = omega arith

-- what is loaded within a window is of no device
permitted_below : (g : Setup) (c : ℕ) (s : State) (v : View) → IsWindow g c s.memory v → ArePlaced g s.memory → (x : Move) → IsPermitted (refused_by v) x → IsBelow x
permitted_below g c s v w placed (Puts x) p = tt
permitted_below g c s v w placed (Takes a n) p = loads_below g c s v w placed a n (some_bytes n p.size) p.allowed

module _ (g : Setup) (c : ℕ) (t : Turn) (v w : View) (d : Cpu) (window : IsWindow g c t.state.memory v) (placed : ArePlaced g t.state.memory) (on : GoesOn v (cpu_of (task_at t.state c)) w d) where
  wide : step_effect (refusals g c) (held t.state) (cpu_of (task_at t.state c)) ≡ Next d on.moves
  wide = step_wider (refused_by v) (refusals g c) (held_by v) (held t.state) (widens g c t.state v window placed) (cpu_of (task_at t.state c)) d on.moves on.effect

  no_device : (x : Move) → Contains on.moves x → IsBelow x
  no_device x here =
      let at : ℕ = reg_at (cpu_of (task_at t.state c)).regs 15 in
      permitted_below g c t.state v window placed x (carried_permitted v (cpu_of (task_at t.state c)) d on.moves (fetched (refused_by v) (held_by v) at) on.effect x here)

  pub stepped_next : stepped Calls g c t ≡ acted g c (Next d on.moves) t
  unfolding stepped register
  stepped_next =
      let at : ℕ = reg_at (cpu_of (task_at t.state c)).regs 15 in
      carried_next g c t at d on.moves (fetched (refusals g c) (held t.state) at) wide

-- ## its moves

same_size : (v n : ℕ) → IsSize n → length (bytes_of v n) ≡ n
same_size v n (inl e) = rw e refl
same_size v n (inr (inl e)) = rw e refl
same_size v n (inr (inr e)) = rw e refl

-- bytes are replaced by as many
keeps_bytes : (v : View) (ram area second : List ℕ) → length ram ≡ length v.ram → length area ≡ length v.area → length second ≡ length v.second → Keeps v record v { ram = ram; area = area; second = second }
keeps_bytes v ram area second d e f = record {
  flash_base = refl;
  flash = refl;
  readable = refl;
  code_base = refl;
  code_size = refl;
  ram_base = refl;
  size = d;
  area_base = refl;
  area_writable = refl;
  area_size = e;
  second_base = refl;
  second_writable = refl;
  second_size = f;
}

keeps_part : (v : View) (p : Part) (xs : List ℕ) → length xs ≡ length (bytes_in v p) → Keeps v (with_part v p xs)
keeps_part v OfRam xs e = keeps_bytes v xs v.area v.second e refl refl
keeps_part v OfArea xs e = keeps_bytes v v.ram xs v.second refl e refl
keeps_part v OfSecond xs e = keeps_bytes v v.ram v.area xs refl refl e

-- those that stay of a part, and others written over the rest, are as many
fits_in : (v : View) (a n value : ℕ) → IsSize n → (t : WrittenTo v a n) → a - base_in v t.part + length (bytes_of value n) ≤ length (bytes_in v t.part)
fits_in v a n value small t = let i = inside (base_in v t.part) (bytes_in v t.part) a n t.there in let size = same_size value n small in omega (arith, size, i.0, i.1)

put_keeps : (v : View) (x : Store) → IsSize x.bytes → WrittenTo v x.addr x.bytes → Keeps v (write v x)
put_keeps v x small t =
    let new : List ℕ = pasted (bytes_in v t.part) (x.addr - base_in v t.part) (bytes_of x.value x.bytes) in
    subst (λ (w : View). Keeps v w) (sym (t.is x.value)) (keeps_part v t.part new (length-pasted (bytes_in v t.part) (x.addr - base_in v t.part) (bytes_of x.value x.bytes) (fits_in v x.addr x.bytes x.value small t)))

pub first_inside : (v : View) (x : Move) (xs : List Move) → AreInside v (x ∷ xs) → IsInside v x
first_inside v x xs h = h x (zero, omega arith, refl)

inside_still : (v w : View) (x : Move) → Keeps v w → IsInside v x → IsInside w x
inside_still v w (Puts x) k h = (h.0, rw (k.ram_base, k.size, k.area_base, k.area_size, k.area_writable, k.second_base, k.second_size, k.second_writable) h.1)
inside_still v w (Takes a n) k h = tt

pub rest_inside : (v w : View) (x : Move) (xs : List Move) → Keeps v w → AreInside v (x ∷ xs) → AreInside w xs
rest_inside v w x xs k h y (i, lt, same) = inside_still v w y k (h y (suc i, omega arith, same))

pub move_keeps : (v : View) (x : Move) → IsInside v x → Keeps v (lands v x)
move_keeps v (Puts x) h = put_keeps v x h.0 (written_to v x.addr x.bytes h.1)
move_keeps v (Takes a n) h = kept v v refl

pub moves_keep : (ms : List Move) (v : View) → AreInside v ms → Keeps v (fold lands v ms)
moves_keep [] v h = kept v v refl
moves_keep (x ∷ xs) v h =
    let k = move_keeps v x (first_inside v x xs h) in
    kept_on v (lands v x) _ k (moves_keep xs (lands v x) (rest_inside v (lands v x) x xs k h))

-- what moves within the window come to: such a memory, the notes and the devices that there were
pub record HasMoved (m : Memory) (t u : Turn) : Type 0 where
  pub memory : u.state.memory ≡ m
  pub notes : u.notes ≡ t.notes
  pub devices : u.state.devices ≡ t.state.devices

-- a store in the RAM is noted nowhere, and changes the memory
put_there : (t : Turn) (x : Store) → is_ram t.state.memory x.addr x.bytes ≡ true → HasMoved (with_bytes t.state.memory x.addr (bytes_of x.value x.bytes)) t (put t x)
unfolding stored
put_there t x e = rw e record { memory = refl; notes = refl; devices = refl }

-- ## memory with a window's bytes

paste_before : (xs ys zs : List ℕ) (p q : ℕ) → p + length ys ≤ q → q + length zs ≤ length xs → pasted (pasted xs p ys) q zs ≡ pasted (pasted xs q zs) p ys
paste_before xs ys zs p q le fits = same_lists _ _ (simp (length-append, length-take, length-drop) (omega arith)) (λ i d u. grind (arith, places))

write_before : (m : Memory) (a b : ℕ) (ys zs : List ℕ) → IsInRam m (a, length ys) → IsInRam m (b, length zs) → a + length ys ≤ b → with_bytes (with_bytes m a ys) b zs ≡ with_bytes (with_bytes m b zs) a ys
write_before m a b ys zs x y le =
    rw (with_bytes_ram m a ys x.0, with_bytes_ram m b zs y.0, with_bytes_ram record { flash = m.flash; ram = pasted m.ram (a - 0x20000000) ys } b zs y.0, with_bytes_ram record { flash = m.flash; ram = pasted m.ram (b - 0x20000000) zs } a ys x.0)
    (ap (λ q. record { flash = m.flash; ram = q }) (paste_before m.ram ys zs (a - 0x20000000) (b - 0x20000000) (omega (arith, le, x.0)) (omega (arith, y.0, y.1))))

-- bytes that are apart can be written in any order
pub write_order : (m : Memory) (a b : ℕ) (ys zs : List ℕ) → IsInRam m (a, length ys) → IsInRam m (b, length zs) → AreApart (a, length ys) (b, length zs) → with_bytes (with_bytes m a ys) b zs ≡ with_bytes (with_bytes m b zs) a ys
write_order m a b ys zs x y (inl le) = write_before m a b ys zs x y le
write_order m a b ys zs x y (inr le) = sym (write_before m b a zs ys y x le)

-- the parts of a view have their places in memory
pub record HasPlaces (m : Memory) (v : View) : Type 0 where
  pub inside : (p : Part) → IsInRam m (base_in v p, length (bytes_in v p))
  pub apart : AreApart (v.ram_base, length v.ram) (v.area_base, length v.area)
  pub second_apart : AreApart (v.ram_base, length v.ram) (v.second_base, length v.second) × AreApart (v.area_base, length v.area) (v.second_base, length v.second)

pub places_of : (g : Setup) (c : ℕ) (m : Memory) (v : View) → IsWindow g c m v → HasPlaces m v
places_of g c m v w = record { inside = part_inside g c m v w; apart = w.apart; second_apart = w.second_apart }

pub places_on : (m : Memory) (v w : View) → Keeps v w → HasPlaces m v → HasPlaces m w
places_on m v w k h = record {
  inside = inside_on;
  apart = rw (k.ram_base, k.size, k.area_base, k.area_size) h.apart;
  second_apart = rw (k.ram_base, k.size, k.area_base, k.area_size, k.second_base, k.second_size) h.second_apart;
}
  where
    inside_on : (p : Part) → IsInRam m (base_in w p, length (bytes_in w p))
    inside_on OfRam = rw (k.ram_base, k.size) (h.inside OfRam)
    inside_on OfArea = rw (k.area_base, k.area_size) (h.inside OfArea)
    inside_on OfSecond = rw (k.second_base, k.second_size) (h.inside OfSecond)

-- a region of the RAM once another one is written
in_ram_still : (m : Memory) (a : ℕ) (xs : List ℕ) (r : ℕ × ℕ) → IsInRam m (a, length xs) → IsInRam m r → IsInRam (with_bytes m a xs) r
in_ram_still m a xs r x h = (h.0, rw (same_ram_length m a xs x) h.1)

-- the bytes of a view, where they stand in memory
abbrev pub own_memory : Memory → View → Memory
own_memory m v = with_window m v v

-- the same without the bytes of one part
abbrev without : Memory → View → Part → Memory
without m v OfRam = with_bytes (with_bytes m v.area_base v.area) v.second_base v.second
without m v OfArea = with_bytes (with_bytes m v.ram_base v.ram) v.second_base v.second
without m v OfSecond = with_bytes (with_bytes m v.ram_base v.ram) v.area_base v.area

-- two parts leave the RAM as long as it was
two_size : (m : Memory) (a b : ℕ) (xs ys : List ℕ) → IsInRam m (a, length xs) → IsInRam m (b, length ys) → length (with_bytes (with_bytes m a xs) b ys).ram ≡ length m.ram
two_size m a b xs ys x y = same_ram_length (with_bytes m a xs) b ys (in_ram_still m a xs _ x y) ∙ same_ram_length m a xs x

without_size : (m : Memory) (v : View) (p : Part) → HasPlaces m v → length (without m v p).ram ≡ length m.ram
without_size m v OfRam h = two_size m v.area_base v.second_base v.area v.second (h.inside OfArea) (h.inside OfSecond)
without_size m v OfArea h = two_size m v.ram_base v.second_base v.ram v.second (h.inside OfRam) (h.inside OfSecond)
without_size m v OfSecond h = two_size m v.ram_base v.area_base v.ram v.area (h.inside OfRam) (h.inside OfArea)

in_without : (m : Memory) (v : View) (p : Part) (r : ℕ × ℕ) → HasPlaces m v → IsInRam m r → IsInRam (without m v p) r
in_without m v p r h x = (x.0, rw (without_size m v p h) x.1)

pub own_size : (m : Memory) (v : View) → HasPlaces m v → length (own_memory m v).ram ≡ length m.ram
own_size m v h = same_ram_length (without m v OfSecond) v.second_base v.second (in_without m v OfSecond _ h (h.inside OfSecond)) ∙ without_size m v OfSecond h

-- the bytes of any part can be written last
last_part : (m : Memory) (v : View) (p : Part) (xs : List ℕ) → HasPlaces m v → length xs ≡ length (bytes_in v p) → own_memory m (with_part v p xs) ≡ with_bytes (without m v p) (base_in v p) xs
last_part m v OfRam xs h e =
    let here = rw (sym e) at (h.inside OfRam) in
    ap (λ (y : Memory). with_bytes y v.second_base v.second) (write_order m v.ram_base v.area_base xs v.area here (h.inside OfArea) (rw e h.apart))
    ∙ write_order (with_bytes m v.area_base v.area) v.ram_base v.second_base xs v.second (in_ram_still m v.area_base v.area _ (h.inside OfArea) here) (in_ram_still m v.area_base v.area _ (h.inside OfArea) (h.inside OfSecond)) (rw e h.second_apart.0)
last_part m v OfArea xs h e =
    write_order (with_bytes m v.ram_base v.ram) v.area_base v.second_base xs v.second (in_ram_still m v.ram_base v.ram _ (h.inside OfRam) (rw e (h.inside OfArea))) (in_ram_still m v.ram_base v.ram _ (h.inside OfRam) (h.inside OfSecond)) (rw e h.second_apart.1)
last_part m v OfSecond xs h e = refl

part_again : (v : View) (p : Part) → with_part v p (bytes_in v p) ≡ v
part_again v OfRam = refl
part_again v OfArea = refl
part_again v OfSecond = refl

own_last : (m : Memory) (v : View) (p : Part) → HasPlaces m v → own_memory m v ≡ with_bytes (without m v p) (base_in v p) (bytes_in v p)
own_last m v p h = ap (own_memory m) (sym (part_again v p)) ∙ last_part m v p (bytes_in v p) h refl

-- bytes written over some of a part
over_part : (m : Memory) (v : View) (p : Part) (a : ℕ) (ys : List ℕ) → HasPlaces m v → base_in v p ≤ a → a + length ys ≤ base_in v p + length (bytes_in v p) →
    with_bytes (own_memory m v) a ys ≡ own_memory m (with_part v p (pasted (bytes_in v p) (a - base_in v p) ys))
over_part m v p a ys h low high =
    ap (λ (y : Memory). with_bytes y a ys) (own_last m v p h)
    ∙ written_inside (without m v p) (base_in v p) a (bytes_in v p) ys (in_without m v p _ h (h.inside p)) low high
    ∙ sym (last_part m v p (pasted (bytes_in v p) (a - base_in v p) ys) h (length-pasted (bytes_in v p) (a - base_in v p) ys (omega (arith, low, high))))

whole_part : (m : Memory) (v : View) (p : Part) (ys : List ℕ) → HasPlaces m v → length ys ≡ length (bytes_in v p) → with_bytes (own_memory m v) (base_in v p) ys ≡ own_memory m (with_part v p ys)
whole_part m v p ys h e =
    let at : base_in v p - base_in v p ≡ 0 = omega arith in
    over_part m v p (base_in v p) ys h (omega arith) (omega (arith, e))
    ∙ ap (λ (xs : List ℕ). own_memory m (with_part v p xs)) (ap (λ (k : ℕ). pasted (bytes_in v p) k ys) at ∙ pasted_whole (bytes_in v p) ys e)

-- one view writes over the other
pub own_again : (m : Memory) (v w : View) → HasPlaces m v → Keeps v w → own_memory (own_memory m v) w ≡ own_memory m w
own_again m v w h k =
    let one : View = record v { ram = w.ram } in
    let two : View = record one { area = w.area } in
    let first = places_on m v one (keeps_part v OfRam w.ram k.size) h in
    let then = places_on m one two (keeps_part one OfArea w.area k.area_size) first in
    rw (k.ram_base, k.area_base, k.second_base) (
    ap (λ (y : Memory). with_bytes (with_bytes y v.area_base w.area) v.second_base w.second) (whole_part m v OfRam w.ram h k.size)
    ∙ ap (λ (y : Memory). with_bytes y v.second_base w.second) (whole_part m one OfArea w.area first k.area_size)
    ∙ whole_part m two OfSecond w.second then k.second_size
    )

-- a memory has the bytes of its own window
pub own_same : (g : Setup) (c : ℕ) (m : Memory) (v : View) → IsWindow g c m v → m ≡ own_memory m v
own_same g c m v w =
    sym (ap (λ (y : Memory). with_bytes (with_bytes y v.area_base v.area) v.second_base v.second) (written OfRam) ∙ ap (λ (y : Memory). with_bytes y v.second_base v.second) (written OfArea) ∙ written OfSecond)
  where
    written : (p : Part) → with_bytes m (base_in v p) (bytes_in v p) ≡ m
    written p = ap (with_bytes m (base_in v p)) (sym (part_held g c m v w p)) ∙ written_same m (base_in v p) (length (bytes_in v p)) (part_inside g c m v w p)

-- the bytes of a part stand in memory
own_held : (m : Memory) (v : View) (p : Part) → HasPlaces m v → bytes_at (own_memory m v) (base_in v p) (length (bytes_in v p)) ≡ bytes_in v p
own_held m v p h = ap (λ (y : Memory). bytes_at y (base_in v p) (length (bytes_in v p))) (own_last m v p h) ∙ region_written (without m v p) (base_in v p) (bytes_in v p) (in_without m v p _ h (h.inside p))

-- a byte that is none of a region's is the same once that is written
over_beside : (xs ys : List ℕ) (p k : ℕ) → p + length ys ≤ length xs → (p ≤ k → k < p + length ys → ⊥) → slice_get (pasted xs p ys) k ≡ slice_get xs k
over_beside xs ys p k fits ne = by (ltb k (length xs)) refl
  where
    long : length (pasted xs p ys) ≡ length xs
    long = length-pasted xs p ys fits

    same : k < length xs → get_or (pasted xs p ys) k 0 ≡ get_or xs k 0
    same lt = grind (arith, places)

    by : (b : Bool) → ltb k (length xs) ≡ b → slice_get (pasted xs p ys) k ≡ slice_get xs k
    by true e =
        let lt : k < length xs = ltb-true k (length xs) e in
        slice_get-get_or (pasted xs p ys) k 0 (omega (arith, lt, long)) ∙ ap Some (same lt) ∙ sym (slice_get-get_or xs k 0 lt)
    by false e =
        let past = ltb-false k (length xs) e in
        slice_get_past (pasted xs p ys) k (omega (arith, past, long)) ∙ sym (slice_get_past xs k (omega (arith, past)))

byte_beside : (m : Memory) (base at : ℕ) (xs : List ℕ) → IsInRam m (base, length xs) → (base ≤ at → at < base + length xs → ⊥) → byte_at (with_bytes m base xs) at ≡ byte_at m at
byte_beside m base at xs h ne = ap (λ (y : Memory). byte_at y at) (with_bytes_ram m base xs h.0) ∙ by (leb 0x20000000 at) refl
  where
    by : (b : Bool) → leb 0x20000000 at ≡ b → cond b (slice_get (pasted m.ram (base - 0x20000000) xs) (at - 0x20000000)) (cond (leb 0x08000000 at) (slice_get m.flash (at - 0x08000000)) None) ≡ cond b (slice_get m.ram (at - 0x20000000)) (cond (leb 0x08000000 at) (slice_get m.flash (at - 0x08000000)) None)
    by true e =
        let above = leb-true 0x20000000 at e in
        over_beside m.ram xs (base - 0x20000000) (at - 0x20000000) (omega (arith, h.0, h.1)) (λ low high. ne (omega (arith, above, h.0, low)) (omega (arith, above, h.0, high)))
    by false e = refl

-- a view that is left is of the same bytes
pub beside_still : (v w : View) (at : ℕ) → Keeps v w → IsBeside v at → IsBeside w at
beside_still v w at k h = (rw (k.ram_base, k.size) h.0, rw (k.area_base, k.area_size) h.1, rw (k.second_base, k.second_size) h.2)

pub own_beside : (m : Memory) (v : View) (at : ℕ) → HasPlaces m v → IsBeside v at → byte_at (own_memory m v) at ≡ byte_at m at
own_beside m v at h beside =
    byte_beside (without m v OfSecond) v.second_base at v.second (in_without m v OfSecond _ h (h.inside OfSecond)) beside.2
    ∙ byte_beside (with_bytes m v.ram_base v.ram) v.area_base at v.area (in_ram_still m v.ram_base v.ram _ (h.inside OfRam) (h.inside OfArea)) beside.1
    ∙ byte_beside m v.ram_base at v.ram (h.inside OfRam) beside.0

module _ (m : Memory) where
  is_there : (u : Memory) (a n : ℕ) → 0x20000000 ≤ a → a + n ≤ 0x20000000 + length u.ram → is_ram u a n ≡ true
  is_there u a n low high = let p : leb 0x20000000 a ≡ true = le-leb _ _ low in let q : leb (a + n) (0x20000000 + length u.ram) ≡ true = le-leb _ _ high in rw (p, q) refl

  -- a store in a part is one in memory
  pub one_put : (x : Store) (v : View) (t : Turn) → HasPlaces m v → t.state.memory ≡ own_memory m v → IsInside v (Puts x) → HasMoved (own_memory m (write v x)) t (put t x)
  one_put x v t h is one =
      let bytes : List ℕ = bytes_of x.value x.bytes in
      let to = written_to v x.addr x.bytes one.1 in
      let i = inside (base_in v to.part) (bytes_in v to.part) x.addr x.bytes to.there in
      let part = h.inside to.part in
      let size = same_size x.value x.bytes one.0 in
      let long : length t.state.memory.ram ≡ length m.ram = ap (λ (y : Memory). length y.ram) is ∙ own_size m v h in
      let here = put_there t x (is_there t.state.memory x.addr x.bytes (omega (arith, part.0, i.0)) (omega (arith, long, part.1, i.1))) in
      record {
        memory = here.memory ∙ ap (λ (y : Memory). with_bytes y x.addr bytes) is ∙ over_part m v to.part x.addr bytes h i.0 (omega (arith, size, i.1)) ∙ ap (own_memory m) (sym (to.is x.value));
        notes = here.notes;
        devices = here.devices;
      }

  one_move : (x : Move) (v : View) (t : Turn) → HasPlaces m v → t.state.memory ≡ own_memory m v → IsInside v x → IsBelow x → HasMoved (own_memory m (lands v x)) t (moved t x)
  one_move (Puts x) v t h is one none = one_put x v t h is one
  one_move (Takes a n) v t h is one none = subst (λ (u : Turn). HasMoved (own_memory m v) t u) (sym (took_none t a none)) record { memory = is; notes = refl; devices = refl }

  -- moves within the window change what it says they change
  moves_land : (ms : List Move) (v : View) (t : Turn) → HasPlaces m v → t.state.memory ≡ own_memory m v → AreInside v ms → ((x : Move) → Contains ms x → IsBelow x) → HasMoved (own_memory m (fold lands v ms)) t (fold moved t ms)
  moves_land [] v t h is all none = record { memory = is; notes = refl; devices = refl }
  moves_land (x ∷ xs) v t h is all none =
      let one = first_inside v x xs all in
      let k = move_keeps v x one in
      let here = one_move x v t h is one (none x (zero, omega arith, refl)) in
      let rest = moves_land xs (lands v x) (moved t x) (places_on m v (lands v x) k h) here.memory (rest_inside v (lands v x) x xs k all) (λ y there. none y (suc there.0, omega (arith, there.1), there.2)) in
      record { memory = rest.memory; notes = rest.notes ∙ here.notes; devices = rest.devices ∙ here.devices }

-- ## the turn

-- it leaves a window over the memory that it leaves
pub window_again : (g : Setup) (c : ℕ) (m : Memory) (v w : View) → IsWindow g c m v → Keeps v w → IsWindow g c (own_memory m w) w
window_again g c m v w h same =
    let p = places_on m v w same (places_of g c m v h) in
    let n : Memory = with_bytes m w.ram_base w.ram in
    let u : Memory = without m w OfSecond in
    let low : (q : Part) → 0x20000000 ≤ base_in w q = λ q. (p.inside q).0 in
    let flash : length (own_memory m w).flash ≡ length m.flash = same_flash_length u w.second_base w.second (low OfSecond) ∙ same_flash_length n w.area_base w.area (low OfArea) ∙ same_flash_length m w.ram_base w.ram (low OfRam) in
    let ram = own_size m w p in
    let below : v.flash_base < 0x20000000 = omega (arith, h.in_flash.2) in
    record {
      executed = rw (same.flash_base, same.flash) h.executed;
      legible = rw (same.flash_base, same.flash, same.readable) h.legible;
      read = rw (same.ram_base, same.size) h.read;
      written = rw (same.ram_base, same.size) h.written;
      area_read = rw (same.area_base, same.area_size) h.area_read;
      area_written = rw (same.area_base, same.area_size, same.area_writable) h.area_written;
      second_read = rw (same.second_base, same.second_size) h.second_read;
      second_written = rw (same.second_base, same.second_size, same.second_writable) h.second_written;
      in_flash = rw (same.flash_base, same.flash, flash) h.in_flash;
      in_ram = rw ram (p.inside OfRam);
      in_area = rw ram (p.inside OfArea);
      in_second = rw ram (p.inside OfSecond);
      apart = p.apart;
      second_apart = p.second_apart;
      flash = rw (same.flash_base, same.flash) (bytes_below u w.second_base v.flash_base (length v.flash) w.second (low OfSecond) below ∙ bytes_below n w.area_base v.flash_base (length v.flash) w.area (low OfArea) below ∙ bytes_below m w.ram_base v.flash_base (length v.flash) w.ram (low OfRam) below ∙ h.flash);
      ram = own_held m w OfRam p;
      area = own_held m w OfArea p;
      second = own_held m w OfSecond p;
    }

-- the turn of a task that goes on within its window
pub record IsGone (x : Scenario) (s : State) (c : ℕ) (v w : View) (d : Cpu) : Type 0 where
  pub state : (turn Calls x s).state ≡ later record s { current = c } c d (own_memory s.memory w) 1
  pub notes : (turn Calls x s).notes ≡ []
  pub same : Keeps v w

pub plain_turn : (x : Scenario) (s : State) (c : ℕ) → chosen x.setup s ≡ Some c → events_of x.script s.turn ≡ [] → turn Calls x s ≡ ended (stepped Calls x.setup c (begun record s { current = c }))
unfolding turn begun with_registers_noted
plain_turn x s c is nothing =
    let e : after_events x s ≡ begun s = sym (no_event x s nothing) in
    let P : Turn → Turn = λ t. ended (turn_of Calls x.setup (chosen x.setup t.state) t) in
    let Q : Option ℕ → Turn = λ o. ended (turn_of Calls x.setup o (begun s)) in
    ap P e ∙ ap Q is

acted_state : (g : Setup) (c : ℕ) (s : State) (d : Cpu) (ms : List Move) (m : Memory) → (fold moved (begun s) ms).state.memory ≡ m → (fold moved (begun s) ms).state.devices ≡ s.devices → (ended (acted g c (Next d ms) (begun s))).state ≡ later s c d m 1
unfolding ended begun with_processor with_task task_at
acted_state g c s d ms m e f =
    let u : State = (fold moved (begun s) ms).state in
    let same : u ≡ record s { memory = m } = moves_state ms (begun s) ∙ ap (λ (y : Memory). record s { memory = y; devices = u.devices }) e ∙ ap (λ (ds : List DeviceData). record s { memory = m; devices = ds }) f in
    ap (λ (y : State). record (with_task c record (task_at y c) { registers = d.regs.words; flags = d.flags } y) { turn = y.turn + 1 }) same

pub acted_notes : (g : Setup) (c : ℕ) (s : State) (d : Cpu) (ms : List Move) → (fold moved (begun s) ms).notes ≡ [] → (ended (acted g c (Next d ms) (begun s))).notes ≡ []
unfolding ended with_processor
acted_notes g c s d ms e = e

pub one_turn : (x : Scenario) (s : State) (c : ℕ) (v w : View) (d : Cpu) → chosen x.setup s ≡ Some c → events_of x.script s.turn ≡ [] → IsWindow x.setup c s.memory v → ArePlaced x.setup s.memory → GoesOn v (cpu_of (task_at s c)) w d → IsGone x s c v w d
unfolding begun task_at
one_turn x s c v w d is nothing window placed on =
    let g : Setup = x.setup in
    let y : State = record s { current = c } in
    let whole : turn Calls x s ≡ ended (acted g c (Next d on.moves) (begun y)) = plain_turn x s c is nothing ∙ ap ended (stepped_next g c (begun y) v w d window placed on) in
    let put = moves_land s.memory on.moves v (begun y) (places_of g c s.memory v window) (own_same g c s.memory v window) on.inside (no_device g c (begun y) v w d window placed on) in
    record {
      state = ap (λ (t : Turn). t.state) whole ∙ acted_state g c y d on.moves _ (put.memory ∙ ap (own_memory s.memory) (sym on.after)) put.devices;
      notes = ap (λ (t : Turn). t.notes) whole ∙ acted_notes g c y d on.moves put.notes;
      same = rw on.after (moves_keep on.moves v on.inside);
    }

-- ## where its instruction was

-- nothing happens in the turn, so that it runs the task that is chosen before it
pub turned_there : (x : Scenario) (s : State) (o : Option ℕ) → chosen x.setup s ≡ o → events_of x.script s.turn ≡ [] → turned x s ≡ turned_of s o
unfolding turned begun
turned_there x s o is nothing =
    let e : after_events x s ≡ begun s = sym (no_event x s nothing) in
    let P : Turn → Turned = λ t. turned_of t.state (chosen x.setup t.state) in
    ap P e ∙ ap (turned_of s) is

pub fetched_there : (x : Scenario) (s : State) (c : ℕ) (v : View) (d : Cpu) → chosen x.setup s ≡ Some c → events_of x.script s.turn ≡ [] → cpu_of (task_at s c) ≡ d → has_code v (reg_at d.regs 15) 2 ≡ true → IsFetchedIn v c (turned x s)
unfolding register
fetched_there x s c v d is nothing own there =
    let at : has_code v (register s c 15) 2 ≡ true = ap (λ (p : Cpu). has_code v (reg_at p.regs 15) 2) own ∙ there in
    subst (λ (t : Turned). IsFetchedIn v c t) (sym (turned_there x s (Some c) is nothing)) (refl, at)

-- a view that is left fetches from the same stretch
pub code_still : (v w : View) (at : ℕ) → Keeps v w → has_code w at 2 ≡ true → has_code v at 2 ≡ true
code_still v w at k h = rw (← k.flash_base, ← k.flash, ← k.code_base, ← k.code_size) h
