-- An instruction that a turn notes has the code of an instruction: to one who hears all notes but those of other codes, a turn
-- is as it is.
use Rattle.std.proofs.Common.{◌≡◌, ◌+◌, ◌*◌, ◌/◌, ◌%◌, ◌^◌, ◌<◌, ◌≤◌, ℕ, suc, Bool, true, false, cond, ◌&&◌, List, [], ◌∷◌, length, Option, Some, None, refl, sym, ◌∙◌, ap, arith}
use Rattle.std.specs.Prelude.{filter, Result, Ok, Err}
use Rattle.std.specs.List.{list_all}
use Rattle.std.proofs.lemmas.Bool.{false≢true, leb-true, leb-false, lt-ltb, le-ltb}
use Rattle.kernel_abi.specs.declared.Fault.{Fault}
use Rattle.kernel_abi.specs.declared.Note.{Note}
use Rattle.kernel_abi.specs.declared.Note.TheVariants as note
use Rattle.mem_banks.specs.Memory.{AreAllBytes}
use Rattle.region_check.specs.declared.Right.TheVariants.{Execute}
use Rattle.thumb_insn.specs.declared.Insn.{Insn}
use Rattle.thumb_insn.specs.declared.Decoded.{Decoded}
use Rattle.thumb_insn.specs.declared.Decoded.TheVariants as decoded
use Rattle.thumb_insn.specs.Table.{decoded_of, is_wide}
use Rattle.thumb_exec.specs.Effect.{Refusals, Contents}
use Rattle.thumb_exec.specs.Fetch.{instruction, unless_barred, after, fetched_wide, fetched}
use Rattle.thumb_exec.specs.declared.fetch.Fetched.{Fetched}
use Rattle.task_table.specs.model.State.{Setup, State, Turn}
use Rattle.task_table.specs.model.Reading.{register, chosen}
use Rattle.task_table.specs.model.Effects.{faulted}
use Rattle.task_table.specs.model.Sane.{Sane}
use Rattle.task_table.specs.model.Start.{begun}
use Rattle.trace_text.specs.Text.{code_decoded}
use Rattle.board_model.specs.declared.outcomes.Level.{Level}
use Rattle.board_model.specs.declared.outcomes.Level.TheVariants.{Calls, All}
use Rattle.board_model.specs.Alike.{Viewer, IsAttentive, IsAlike, IsAlikeWhereSeen}
use Rattle.board_model.specs.Levels.{is_noted_always}
use Rattle.board_model.specs.Script.{Scenario}
use Rattle.board_model.specs.Turn.{refusals, held, executed, noted_at, stepped_by, stepped, after_events, with_current, with_registers_noted, turn_of, ended, turn}
use Rattle.board_model.proofs.AlikeRows.{alike-heard, alike-current, alike-next_turn, alike-faulted}
use Rattle.board_model.proofs.AlikeTurns.{AreAlikeAndNoted, followed, alike-events}
use Rattle.board_model.proofs.Following.{follow-executed}
use Rattle.board_model.proofs.Sight.{IsOpen}
use Rattle.board_model.proofs.TurnChains.{held_small, sane-after_events}
use Rattle.board_model.proofs.Views.{told_plainly}
use Rattle.trace_audit.proofs.Pushing.{tail_same}

-- ## what is fetched has a code

abbrev pub is_insn : Decoded → Bool
is_insn (decoded.Narrow i) = true
is_insn (decoded.Wide i) = true
is_insn decoded.Illegal = false
is_insn decoded.NeedsSecond = false

abbrev come : Fetched → Result Fetched Fault
come f = Ok f

abbrev gone : Fault → Result Fetched Fault
gone x = Err x

ok_same : {a b : Fetched} → come a ≡ come b → a ≡ b
ok_same e = cc

err_ok : {P : Type 0} {x : Fault} {a : Fetched} → gone x ≡ come a → P
err_ok e = cc

coded : (at code : ℕ) (d : Decoded) (f : Fetched) → instruction at code d ≡ Ok f → (f.code ≡ code) × (is_insn d ≡ true)
coded at code (decoded.Narrow i) f e = (sym (ap (λ (x : Fetched). x.code) (ok_same e)), refl)
coded at code (decoded.Wide i) f e = (sym (ap (λ (x : Fetched). x.code) (ok_same e)), refl)
coded at code decoded.Illegal f e = err_ok e
coded at code decoded.NeedsSecond f e = err_ok e

narrow_code : (first : ℕ) → is_wide first ≡ false → code_decoded first ≡ decoded_of first None
narrow_code first narrow =
    let lt = leb-false 29 (first / 2048) narrow in
    ap (λ b. cond b (decoded_of first None) (decoded_of (first / 2 ^ 16) (Some (first % 2 ^ 16)))) (lt-ltb first (2 ^ 16) (omega arith))

high_half : (first second : ℕ) → second < 65536 → (first * 2 ^ 16 + second) / 2 ^ 16 ≡ first
high_half first second lt = omega arith

low_half : (first second : ℕ) → second < 65536 → (first * 2 ^ 16 + second) % 2 ^ 16 ≡ second
low_half first second lt = omega arith

wide_code : (first second : ℕ) → is_wide first ≡ true → second < 65536 → code_decoded (first * 2 ^ 16 + second) ≡ decoded_of first (Some second)
wide_code first second wide lt =
    let code = first * 2 ^ 16 + second in
    let ge = leb-true 29 (first / 2048) wide in
    ap (λ b. cond b (decoded_of code None) (decoded_of (code / 2 ^ 16) (Some (code % 2 ^ 16)))) (le-ltb code (2 ^ 16) (omega arith))
    ∙ ap (λ a. decoded_of a (Some (code % 2 ^ 16))) (high_half first second lt)
    ∙ ap (λ a. decoded_of first (Some a)) (low_half first second lt)

module _ (refuses : Refusals) (holds : Contents) (small : (a : ℕ) → holds a 2 < 65536) where
  unbarred : (o : Option ℕ) (at : ℕ) (r : Result Fetched Fault) (f : Fetched) → unless_barred o at r ≡ Ok f → r ≡ Ok f
  unbarred None at r f e = e
  unbarred (Some byte) at r f e = err_ok e

  wide_coded : (at first : ℕ) (f : Fetched) → is_wide first ≡ true → fetched_wide refuses holds at first ≡ Ok f → is_insn (code_decoded f.code) ≡ true
  wide_coded at first f wide e =
      let second = holds (after at) 2 in
      let c = coded at (first * 2 ^ 16 + second) (decoded_of first (Some second)) f (unbarred (refuses (after at) 2 Execute) (after at) _ f e) in
      ap (λ k. is_insn (code_decoded k)) c.0 ∙ ap is_insn (wide_code first second wide (small (after at))) ∙ c.1

  narrow_coded : (at first : ℕ) (f : Fetched) → is_wide first ≡ false → instruction at first (decoded_of first None) ≡ Ok f → is_insn (code_decoded f.code) ≡ true
  narrow_coded at first f narrow e =
      let c = coded at first (decoded_of first None) f e in
      ap (λ k. is_insn (code_decoded k)) c.0 ∙ ap is_insn (narrow_code first narrow) ∙ c.1

  by_width : (at first : ℕ) (f : Fetched) (b : Bool) → is_wide first ≡ b → cond b (fetched_wide refuses holds at first) (instruction at first (decoded_of first None)) ≡ Ok f → is_insn (code_decoded f.code) ≡ true
  by_width at first f true w e = wide_coded at first f w e
  by_width at first f false w e = narrow_coded at first f w e

  fetched_coded : (at : ℕ) (f : Fetched) → fetched refuses holds at ≡ Ok f → is_insn (code_decoded f.code) ≡ true
  fetched_coded at f e = by_width at (holds at 2) f (is_wide (holds at 2)) refl (unbarred (refuses at 2 Execute) at _ f e)

-- ## one who hears all notes but those of codes that are no instruction

abbrev pub hears : Note → Bool
hears (note.Insn task at code) = is_insn (code_decoded code)
hears (note.Tick now) = true
hears (note.Irq line handled) = true
hears (note.Post task bits posted) = true
hears (note.Syscall task number arguments) = true
hears (note.Ret task results) = true
hears (note.Close call ending) = true
hears (note.Fault task fault) = true
hears (note.Listen task from mask) = true
hears (note.Take call copied) = true
hears (note.Offer call client server) = true
hears (note.Restart task generation) = true
hears (note.In device byte fed) = true
hears (note.Out device byte) = true
hears (note.IrqStatus task bits status) = true
hears (note.Find index found) = true
hears (note.Borrow call way lease offset moved) = true
hears note.Idle = true
hears (note.Low registers) = true
hears (note.High registers n z c v) = true

unfoldable pub reader : Viewer
reader = record { birth = λ b. b; sees = λ a. true; hears = hears }

always : (n : Note) → is_noted_always n ≡ true → hears n ≡ true
always (note.Tick now) h = refl
always (note.Irq line handled) h = refl
always (note.Post task bits posted) h = refl
always (note.Syscall task number arguments) h = refl
always (note.Ret task results) h = refl
always (note.Close call ending) h = refl
always (note.Fault task fault) h = refl
always (note.Listen task from mask) h = refl
always (note.Take call copied) h = refl
always (note.Offer call client server) h = refl
always (note.Restart task generation) h = refl
always (note.In device byte fed) h = refl
always (note.Out device byte) h = refl
always (note.IrqStatus task bits status) h = refl
always (note.Find index found) h = refl
always (note.Borrow call way lease offset moved) h = refl
always (note.Insn task at code) h = absurd (false≢true h)
always note.Idle h = absurd (false≢true h)
always (note.Low registers) h = absurd (false≢true h)
always (note.High registers n z c v) h = absurd (false≢true h)

attentive : IsAttentive reader
unfolding reader
attentive = record { hears = always; generation = λ b. refl; next = λ b. refl }

opened : (g : Setup) (c : ℕ) → IsOpen reader g c
unfolding reader
opened g c = record { rights = λ right a e. refl }

-- a turn that is alike to itself has only notes that are heard
Alike : Turn → Type 0
Alike t = IsAlike reader t t

alike_begun : (s : State) → Alike (begun s)
unfolding Alike reader begun
alike_begun s = record { state = refl; memory = record { flash_length = refl; ram_length = refl; flash = λ k e. refl; ram = λ k e. refl }; notes = refl; writes = refl; reads = refl }

alike_noted : (level : Level) (n : Note) (t : Turn) → hears n ≡ true → Alike t → Alike (noted_at level n t)
unfolding Alike reader
alike_noted Calls n t heard h = h
alike_noted All n t heard h = alike-heard reader attentive n t t heard h

both_told : (t : Turn) → Alike t → AreAlikeAndNoted reader t t
unfolding Alike reader
both_told t h = record { alike = h; first = told_plainly t.state; second = told_plainly t.state }

all_seen : (t u : Turn) → IsAlikeWhereSeen reader t u → IsAlike reader t u
unfolding reader
all_seen t u k = k.alike (λ r here a lo hi. refl)

alike_executed : (g : Setup) (c : ℕ) (insn : Insn) (t : Turn) → Alike t → Alike (executed g c insn t)
unfolding Alike
alike_executed g c insn t h = all_seen _ _ (follow-executed Calls Calls g g c c (AreAlikeAndNoted reader) (IsAlikeWhereSeen reader) (followed reader attentive Calls Calls tt g c (opened g c)) insn t t (both_told t h))

alike_failed : (g : Setup) (c : ℕ) (fault : Fault) (t : Turn) → Alike t → Alike (faulted g c fault t)
unfolding Alike
alike_failed g c fault t h = alike-faulted reader attentive g c fault t t h

alike_stepped : (level : Level) (g : Setup) (c : ℕ) (t : Turn) → AreAllBytes t.state.memory.flash → AreAllBytes t.state.memory.ram → Alike t → Alike (stepped level g c t)
unfolding stepped
alike_stepped level g c t flash ram h = go (fetched (refusals g c) (held t.state) at) (λ f e. fetched_coded (refusals g c) (held t.state) (λ a. held_small t.state a flash ram) at f e)
  where
    at : ℕ
    at = register t.state c 15

    go : (r : Result Fetched Fault) → ((f : Fetched) → r ≡ Ok f → is_insn (code_decoded f.code) ≡ true) → Alike (stepped_by level g c at r t)
    go (Ok f) legal = alike_executed g c f.insn _ (alike_noted level (note.Insn c at f.code) t (legal f refl) h)
    go (Err fault) legal = alike_failed g c fault t h

alike_registers : (level : Level) (c : ℕ) (t : Turn) → Alike t → Alike (with_registers_noted level c t)
unfolding with_registers_noted
alike_registers level c t h = alike_noted level _ _ refl (alike_noted level _ t refl h)

module _ (level : Level) (x : Scenario) (s : State) (sane : Sane x.setup s) where
  t : Turn
  t = after_events x s

  alike_t : Alike t
  unfolding Alike t
  alike_t = alike-events reader attentive x s s (alike_begun s)

  current : (c : ℕ) → Alike (with_current c t)
  unfolding Alike
  current c = alike-current reader attentive c t t alike_t

  over : (u : Turn) → Alike u → Alike (ended u)
  unfolding Alike ended
  over u h = alike-next_turn reader attentive u u h

  by_choice : (o : Option ℕ) → Alike (turn_of level x.setup o t)
  unfolding t
  by_choice None = alike_noted level note.Idle t refl alike_t
  by_choice (Some c) =
      let m = (sane-after_events x s sane).steady in
      alike_registers level c _ (alike_stepped level x.setup c (with_current c t) m.flash_bytes m.bytes (current c))

  alike_turn : Alike (turn level x s)
  unfolding turn t
  alike_turn = over _ (by_choice (chosen x.setup (after_events x s).state))

  heard_of : Alike (turn level x s) → (turn level x s).notes ≡ filter hears (turn level x s).notes
  unfolding Alike reader
  heard_of h = h.notes

  pub turn_heard : (turn level x s).notes ≡ filter hears (turn level x s).notes
  turn_heard = heard_of alike_turn

-- ## so each note is heard

filter_short : (p : Note → Bool) (ns : List Note) → length (filter p ns) ≤ length ns
filter_short p [] = omega arith
filter_short p (n ∷ ns) = go (p n) (filter_short p ns)
  where
    go : (b : Bool) → length (filter p ns) ≤ length ns → length (cond b (n ∷ filter p ns) (filter p ns)) ≤ suc (length ns)
    go true le = omega arith
    go false le = omega arith

pub each_heard : (ns : List Note) → ns ≡ filter hears ns → list_all hears ns ≡ true
each_heard [] e = refl
each_heard (n ∷ ns) e = go (hears n) e (each_heard ns) (filter_short hears ns)
  where
    go : (b : Bool) → n ∷ ns ≡ cond b (n ∷ filter hears ns) (filter hears ns) → (ns ≡ filter hears ns → list_all hears ns ≡ true) → length (filter hears ns) ≤ length ns → (b && list_all hears ns) ≡ true
    go true e rest short = rest (tail_same e)
    go false e rest short = let k = ap length e in absurd (omega arith)
