-- An instruction in the flash, and what it does.
use Rattle.std.proofs.Common.{◌≡◌, ◌≤◌, ◌<◌, ◌+◌, ◌*◌, ◌/◌, ◌^◌, ℕ, zero, suc, Bool, true, false, List, [], ◌∷◌, length, Some, None, Result, Ok, Err, fold, refl, sym, ◌∙◌, ap, arith, inl, inr, ◌⊎◌}
use Rattle.std.specs.Prelude.{nat_le}
use Rattle.std.proofs.lemmas.Bool.{cases_lt, leb-true, lt-leb, and_parts, false_from_ne_true}
use Rattle.kernel_abi.specs.declared.Fault.{Fault}
use Rattle.region_check.specs.declared.Right.TheVariants.{Execute}
use Rattle.thumb_insn.specs.declared.Decoded.{Decoded}
use Rattle.thumb_insn.specs.declared.Decoded.TheVariants.{Narrow, Wide, Illegal, NeedsSecond}
use Rattle.thumb_insn.specs.Fields.{field}
use Rattle.thumb_insn.proofs.Rows.{row_df00}
use Rattle.thumb_insn.specs.Table.{narrow_of, narrow_result, decoded_of, is_wide}
use Rattle.thumb_exec.specs.declared.cpu.Cpu.{Cpu}
use Rattle.thumb_exec.specs.declared.cpu.Outcome.TheVariants as outcome
use Rattle.thumb_exec.specs.Effect.{Effect, Next, Syscall, Trap, Move, Puts, Takes, Moves, Acts, Refusals, Contents}
use Rattle.thumb_exec.specs.declared.fetch.Fetched.{Fetched}
use Rattle.thumb_exec.specs.Fetch.{instruction, after, unless_barred, fetched_by, fetched, executed, step_effect}
use Rattle.words_core.specs.Regs.{reg_at}
use Rattle.thumb_step.specs.declared.window.Window.{Window}
use Rattle.thumb_step.specs.declared.window.Runner.{Runner}
use Rattle.thumb_step.specs.Windows.{View, IsApart, AreInside, has, has_code, number_in, given, refused_by, held_by, put, IsInside, IsFetched, view_of, GoesOn, Keeps, IsAtSyscall}
use Rattle.thumb_step.specs.Did.{IsStored, IsTaken, Did}

-- ## Moves

pub kept : (v v' : View) → v' ≡ v → Keeps v v'
kept v v' e = rw e record { flash_base = refl; flash = refl; readable = refl; code_base = refl; code_size = refl; ram_base = refl; size = refl; area_base = refl; area_writable = refl; area_size = refl; second_base = refl; second_writable = refl; second_size = refl }

pub kept_on : (u v w : View) → Keeps u v → Keeps v w → Keeps u w
kept_on u v w a b = record {
  flash_base = b.flash_base ∙ a.flash_base;
  flash = b.flash ∙ a.flash;
  readable = b.readable ∙ a.readable;
  code_base = b.code_base ∙ a.code_base;
  code_size = b.code_size ∙ a.code_size;
  ram_base = b.ram_base ∙ a.ram_base;
  size = b.size ∙ a.size;
  area_base = b.area_base ∙ a.area_base;
  area_writable = b.area_writable ∙ a.area_writable;
  area_size = b.area_size ∙ a.area_size;
  second_base = b.second_base ∙ a.second_base;
  second_writable = b.second_writable ∙ a.second_writable;
  second_size = b.second_size ∙ a.second_size;
}

moves_put : (ms : List Move) (w w' : Window) → Moves IsStored IsTaken w ms w' → view_of w' ≡ fold put (view_of w) ms
moves_put [] w w' e = ap view_of e
moves_put (Puts x ∷ ms) w w' e = moves_put ms e.0 w' e.2 ∙ ap (λ (v : View). fold put v ms) e.1.after
moves_put (Takes a n ∷ ms) w w' e = moves_put ms e.0 w' e.2 ∙ ap (λ (u : Window). fold put (view_of u) ms) e.1

moves_keep : (ms : List Move) (w w' : Window) → Moves IsStored IsTaken w ms w' → Keeps (view_of w) (view_of w')
moves_keep [] w w' e = kept (view_of w) (view_of w') (ap view_of e)
moves_keep (Puts x ∷ ms) w w' e = kept_on (view_of w) (view_of e.0) (view_of w') e.1.keeps (moves_keep ms e.0 w' e.2)
moves_keep (Takes a n ∷ ms) w w' e = kept_on (view_of w) (view_of e.0) (view_of w') (kept (view_of w) (view_of e.0) (ap view_of e.1)) (moves_keep ms e.0 w' e.2)

pub inside_again : (v w : View) (x : Move) → Keeps v w → IsInside w x → IsInside v x
inside_again v w (Puts x) k h = (h.0, rw (← k.ram_base, ← k.size, ← k.area_base, ← k.area_size, ← k.area_writable, ← k.second_base, ← k.second_size, ← k.second_writable) h.1)
inside_again v w (Takes a n) k h = tt

moves_inside : (ms : List Move) (w w' : Window) → Moves IsStored IsTaken w ms w' → AreInside (view_of w) ms
moves_inside [] w w' e x (i, lt, same) = absurd (omega (arith, lt))
moves_inside (Puts s ∷ ms) w w' e x (zero, lt, same) = let is : ◌≡◌ {A = Move} (Puts s) x = same in rw (← is) (e.1.size, e.1.inside)
moves_inside (Takes a n ∷ ms) w w' e x (zero, lt, same) = let is : ◌≡◌ {A = Move} (Takes a n) x = same in rw (← is) tt
moves_inside (Puts s ∷ ms) w w' e x (suc i, lt, same) = inside_again (view_of w) (view_of e.0) x e.1.keeps (moves_inside ms e.0 w' e.2 x (i, omega arith, same))
moves_inside (Takes a n ∷ ms) w w' e x (suc i, lt, same) = inside_again (view_of w) (view_of e.0) x (kept (view_of w) (view_of e.0) (ap view_of e.1)) (moves_inside ms e.0 w' e.2 x (i, omega arith, same))

-- what an effect that goes on does to the window
pub record Went (c' : Cpu) (w w' : Window) (e : Effect) : Type 0 where
  pub moves : List Move
  pub is : e ≡ Next c' moves
  pub inside : AreInside (view_of w) moves
  pub put : view_of w' ≡ fold put (view_of w) moves
  pub keeps : Keeps (view_of w) (view_of w')

pub went_on : (c c' : Cpu) (w w' : Window) (e : Effect) → Acts IsStored IsTaken c c' w w' outcome.Next e → Went c' w w' e
went_on c c' w w' (Next d ms) h = record { moves = ms; is = ap (λ (x : Cpu). Next x ms) (sym h.1); inside = moves_inside ms w w' h.2; put = moves_put ms w w' h.2; keeps = moves_keep ms w w' h.2 }
went_on c c' w w' Syscall h = absurd (cc h.0)
went_on c c' w w' (Trap f) h = absurd (cc h.0)

pub goes_so : (c c' : Cpu) (w w' : Window) (e : Effect) → step_effect (refused_by (view_of w)) (held_by (view_of w)) c ≡ e → Acts IsStored IsTaken c c' w w' outcome.Next e → GoesOn (view_of w) c (view_of w') c'
goes_so c c' w w' e is h = let g = went_on c c' w w' e h in record { moves = g.moves; effect = is ∙ g.is; inside = g.inside; after = g.put }

-- what the runner did, by its answer
pub keeps_by : (c c' : Cpu) (w w' : Window) (e : Effect) (r : Bool) → (r ≡ true → Acts IsStored IsTaken c c' w w' outcome.Next e) → (r ≡ false → w' ≡ w) → Keeps (view_of w) (view_of w')
keeps_by c c' w w' e true goes stays = (went_on c c' w w' e (goes refl)).keeps
keeps_by c c' w w' e false goes stays = kept (view_of w) (view_of w') (ap view_of (stays refl))

-- ## The flash

pub within : (base : ℕ) (xs : List ℕ) (a n : ℕ) → has base xs a n ≡ true → (base ≤ a) × (a + n ≤ base + length xs)
within base xs a n h = let two = and_parts (nat_le base a) (nat_le (a + n) (base + length xs)) h in (leb-true base a two.0, leb-true (a + n) (base + length xs) two.1)

pub has_not : (base : ℕ) (xs : List ℕ) (a n : ℕ) → (base ≤ a → a + n ≤ base + length xs → ⊥) → has base xs a n ≡ false
has_not base xs a n h = false_from_ne_true (has base xs a n) (λ k. let two = within base xs a n k in h two.0 two.1)

-- what the stretch has, the flash has
pub in_flash : (v : View) (a n : ℕ) → has_code v a n ≡ true → has v.flash_base v.flash a n ≡ true
in_flash v a n h = (and_parts (has v.flash_base v.flash a n) _ h).0

pub in_stretch : (v : View) (a n : ℕ) → has_code v a n ≡ true → (v.code_base ≤ a) × (a + n ≤ v.code_base + v.code_size)
in_stretch v a n h =
    let range = (and_parts (has v.flash_base v.flash a n) _ h).1 in
    let two = and_parts (nat_le v.code_base a) (nat_le (a + n) (v.code_base + v.code_size)) range in
    (leb-true v.code_base a two.0, leb-true (a + n) (v.code_base + v.code_size) two.1)

-- the flash and the RAM do not overlap
pub held_flash : (v : View) (a : ℕ) → v.flash_base + length v.flash ≤ v.ram_base → has v.flash_base v.flash a 2 ≡ true → held_by v a 2 ≡ number_in v.flash_base v.flash a 2
held_flash v a apart h =
    let two = within v.flash_base v.flash a 2 h in
    let low : a + 2 ≤ v.flash_base + length v.flash = two.1 in
    rw (has_not v.ram_base v.ram a 2 (λ from to. omega (arith, from, low, apart)), h) refl

-- ## The instruction at PC

module _ (refuses : Refusals) (holds : Contents) (c : Cpu) (at first : ℕ) (here : at ≡ reg_at c.regs 15) (may : refuses at 2 Execute ≡ None) (is : first ≡ holds at 2) where
  pub narrow_effect : is_wide first ≡ false → step_effect refuses holds c ≡ executed refuses holds c (instruction at first (narrow_result (narrow_of first)))
  narrow_effect narrow = rw (← here, may, ← is, narrow) refl

  pub wide_effect : (second : ℕ) → is_wide first ≡ true → refuses (after at) 2 Execute ≡ None → second ≡ holds (after at) 2 →
      step_effect refuses holds c ≡ executed refuses holds c (instruction at (first * 2 ^ 16 + second) (decoded_of first (Some second)))
  wide_effect second wide may_too is_too = rw (← here, may, ← is, wide, may_too, ← is_too) refl

pub fetched_may : (v : View) (at half : ℕ) → IsFetched v at half → refused_by v at 2 Execute ≡ None
fetched_may v at half f = ap (λ (b : Bool). given b at) f.there

pub fetched_is : (v : View) (at half : ℕ) → IsApart v → IsFetched v at half → half ≡ held_by v at 2
fetched_is v at half apart f = f.is ∙ sym (held_flash v at apart.below (in_flash v at 2 f.there))

module _ (v : View) (c : Cpu) (at first : ℕ) (apart : IsApart v) (here : at ≡ reg_at c.regs 15) (f : IsFetched v at first) where
  pub narrow_here : is_wide first ≡ false → step_effect (refused_by v) (held_by v) c ≡ executed (refused_by v) (held_by v) c (instruction at first (narrow_result (narrow_of first)))
  narrow_here narrow = narrow_effect (refused_by v) (held_by v) c at first here (fetched_may v at first f) (fetched_is v at first apart f) narrow

  pub wide_here : (second : ℕ) → is_wide first ≡ true → IsFetched v (after at) second → step_effect (refused_by v) (held_by v) c ≡ executed (refused_by v) (held_by v) c (instruction at (first * 2 ^ 16 + second) (decoded_of first (Some second)))
  wide_here second wide g = wide_effect (refused_by v) (held_by v) c at first here (fetched_may v at first f) (fetched_is v at first apart f) second wide (fetched_may v (after at) second g) (fetched_is v (after at) second apart g)

  -- a halfword whose high byte is that of a system call
  pub syscall_here : first < 65536 → first / 256 ≡ 0xDF → IsAtSyscall v c
  syscall_here small high =
      let narrow : is_wide first ≡ false = lt-leb _ _ (omega (arith, high)) in
      record { value = field first 0 8; code = first; is = rw (← here, fetched_may v at first f, ← fetched_is v at first apart f, narrow, row_df00 first small high) refl }

-- ## Where an instruction was fetched from

pub fetched_from : (v : View) (at : ℕ) (f : Fetched) → fetched (refused_by v) (held_by v) at ≡ Ok f → has_code v at 2 ≡ true
fetched_from v at f is = by (has_code v at 2) is
  where
    by : (b : Bool) → unless_barred (given b at) at (fetched_by (refused_by v) (held_by v) at (held_by v at 2)) ≡ Ok f → b ≡ true
    by true e = refl
    by false e = absurd cc

pub went_from : (v v' : View) (c c' : Cpu) → GoesOn v c v' c' → has_code v (reg_at c.regs 15) 2 ≡ true
went_from v v' c c' on = by (fetched (refused_by v) (held_by v) (reg_at c.regs 15)) refl on.effect
  where
    by : (r : Result Fetched Fault) → fetched (refused_by v) (held_by v) (reg_at c.regs 15) ≡ r → executed (refused_by v) (held_by v) c r ≡ Next c' on.moves → has_code v (reg_at c.regs 15) 2 ≡ true
    by (Ok f) is e = fetched_from v (reg_at c.regs 15) f is
    by (Err fault) is e = absurd cc

-- ## What a runner did with a narrow instruction

module _ (a b : Runner) (at code : ℕ) where
  pub did_goes : (d : Decoded) → step_effect (refused_by (view_of a.window)) (held_by (view_of a.window)) a.processor ≡ executed (refused_by (view_of a.window)) (held_by (view_of a.window)) a.processor (instruction at code d) → Did a d true b →
      GoesOn (view_of a.window) a.processor (view_of b.window) b.processor
  did_goes (Narrow i) e h = goes_so a.processor b.processor a.window b.window _ e h
  did_goes (Wide i) e h = absurd h
  did_goes Illegal e h = absurd h
  did_goes NeedsSecond e h = absurd h

-- if the answer is true, the instruction was narrow
pub went_narrow : (first : ℕ) → (29 ≤ first / 2048 → ⊥) → first / 2048 < 29
went_narrow first second = by (cases_lt (first / 2048) 29)
  where
    by : (first / 2048 < 29) ⊎ (29 ≤ first / 2048) → first / 2048 < 29
    by (inl narrow) = narrow
    by (inr wide) = absurd (second wide)

pub did_keeps : (a b : Runner) (d : Decoded) (r : Bool) → Did a d r b → Keeps (view_of a.window) (view_of b.window)
did_keeps a b (Narrow i) true h = (went_on a.processor b.processor a.window b.window _ h).keeps
did_keeps a b (Narrow i) false h = kept _ _ (ap (λ (x : Runner). view_of x.window) h.1)
did_keeps a b Illegal false h = kept _ _ (ap (λ (x : Runner). view_of x.window) h)
did_keeps a b NeedsSecond false h = kept _ _ (ap (λ (x : Runner). view_of x.window) h)
did_keeps a b (Wide i) true h = absurd h
did_keeps a b (Wide i) false h = absurd h
did_keeps a b Illegal true h = absurd h
did_keeps a b NeedsSecond true h = absurd h
