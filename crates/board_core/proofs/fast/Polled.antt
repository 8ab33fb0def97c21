-- What a poller does is what its sight tells.
use Rattle.words_core.specs.Regs.{reg_at}
use Rattle.std.proofs.Common.{◌≡◌, ◌+◌, ◌*◌, ◌^◌, ◌/◌, ◌-◌, ◌≤◌, ◌<◌, ℕ, zero, suc, Bool, true, false, cond, List, [], ◌∷◌, refl, sym, ◌∙◌, ap, subst, arith, ltb, inl, inr}
use Rattle.std.specs.Prelude.{fold, Option, None, Some, MatchOption}
use Rattle.std.proofs.lemmas.Bool.{lt-leb, le-leb, ltb-true}
use Rattle.kernel_abi.specs.Devices.{DeviceData, devices_loaded}
use Rattle.region_check.specs.declared.Region.{Region}
use Rattle.region_check.specs.declared.Right.TheVariants.{Execute}
use Rattle.thumb_insn.specs.declared.Insn.{Insn}
use Rattle.thumb_insn.specs.Table.{narrow_of, narrow_result, decoded_of}
use Rattle.thumb_insn.specs.declared.Decoded.{Decoded}
use Rattle.thumb_insn.specs.declared.Decoded.TheVariants.{Narrow, Wide, Illegal, NeedsSecond}
use Rattle.thumb_exec.specs.declared.cpu.Cpu.{Cpu}
use Rattle.thumb_exec.specs.declared.cpu.Outcome.TheVariants as outcome
use Rattle.thumb_exec.specs.Effect.{Effect, Next, Syscall, Trap, Store, Move, Puts, Takes, Moves, Acts}
use Rattle.thumb_exec.specs.Fetch.{instruction, after, executed, step_effect}
use Rattle.thumb_step.specs.Windows.{View, AreInside, IsInside, IsApart, IsFetched, Keeps, Glides, has_code, code_places, view_of}
use Rattle.thumb_step.proofs.Gliding.{kept, kept_on, inside_again, fetched_may, fetched_is, narrow_effect, wide_effect, went_narrow}
use Rattle.board_model.specs.Turn.{is_device}
use Rattle.board_core.specs.Data.{Shows, data_of}
use Rattle.board_core.specs.fast.Sights.{Sight, IsFetchedAt, refused_at, held_at, moved_at, GoesOnBeside, Polls, IsAtLimit}
use Rattle.board_core.specs.fast.Gliding.{TellsCall}
use Rattle.board_core.specs.fast.Polling.{sight_of, effect_on, Did, IsPut, IsTaken}
use Rattle.board_core.specs.declared.fast_path.poller.Poller.{Poller}
use Rattle.board_core.specs.declared.fast_path.poller.Seen.{Seen}

-- ## one instruction

-- what moves leave
record HasMoved {X : Type 0} {H : X → Type 0} (shown : Shows X H) (p : Seen X H) (ms : List Move) (q : Seen X H) : Type 0 where
  seen : sight_of shown q ≡ fold moved_at (sight_of shown p) ms
  inside : AreInside (view_of p.window) ms
  keeps : Keeps (view_of p.window) (view_of q.window)
  io_regions : q.io_regions ≡ p.io_regions

module _ {X : Type 0} {H : X → Type 0} (shown : Shows X H) where
  put_seen : (p q : Seen X H) (s : Store) → IsPut p s.addr s.bytes s.value q → sight_of shown q ≡ moved_at (sight_of shown p) (Puts s)
  put_seen p q s put =
      ap (λ (r : Seen X H). record { view = view_of q.window; devices = data_of shown r.devices; io_regions = r.io_regions.items }) put.rest
      ∙ ap (λ (v : View). record (sight_of shown p) { view = v }) put.window.after

  taken_seen : (p q : Seen X H) (a n : ℕ) → IsTaken shown p a q → sight_of shown q ≡ moved_at (sight_of shown p) (Takes a n)
  taken_seen p q a n took =
      ap (λ (r : Seen X H). record { view = view_of r.window; devices = data_of shown q.devices; io_regions = r.io_regions.items }) took.rest
      ∙ ap (λ (ds : List DeviceData). record (sight_of shown p) { devices = ds }) took.devices
      ∙ by (is_device a)
    where
      by : (b : Bool) → record (sight_of shown p) { devices = cond b (devices_loaded (data_of shown p.devices) a) (data_of shown p.devices) } ≡ cond b record (sight_of shown p) { devices = devices_loaded (data_of shown p.devices) a } (sight_of shown p)
      by true = refl
      by false = refl

  moves_on : (ms : List Move) (p q : Seen X H) → Moves IsPut (IsTaken shown) p ms q → HasMoved shown p ms q
  moves_on [] p q e = record {
    seen = ap (sight_of shown) e;
    inside = λ x (i, lt, same). absurd (omega (arith, lt));
    keeps = kept _ _ (ap (λ (r : Seen X H). view_of r.window) e);
    io_regions = ap (λ (r : Seen X H). r.io_regions) e;
  }
  moves_on (Puts s ∷ ms) p q e =
      let rest = moves_on ms e.0 q e.2 in
      let one = put_seen p e.0 s e.1 in
      record {
        seen = rest.seen ∙ ap (λ (o : Sight). fold moved_at o ms) one;
        inside = puts_inside s ms (view_of p.window) (view_of e.0.window) (e.1.window.size, e.1.window.inside) e.1.window.keeps rest.inside;
        keeps = kept_on (view_of p.window) (view_of e.0.window) (view_of q.window) e.1.window.keeps rest.keeps;
        io_regions = rest.io_regions ∙ ap (λ (r : Seen X H). r.io_regions) e.1.rest;
      }
    where
      puts_inside : (s : Store) (ms : List Move) (v w : View) → IsInside v (Puts s) → Keeps v w → AreInside w ms → AreInside v (Puts s ∷ ms)
      puts_inside s ms v w one k all x (zero, lt, same) = let is : ◌≡◌ {A = Move} (Puts s) x = same in subst (λ (y : Move). IsInside v y) is one
      puts_inside s ms v w one k all x (suc i, lt, same) = inside_again v w x k (all x (i, omega arith, same))
  moves_on (Takes a n ∷ ms) p q e =
      let rest = moves_on ms e.0 q e.2 in
      let one = taken_seen p e.0 a n e.1 in
      let k = kept (view_of p.window) (view_of e.0.window) (ap (λ (r : Seen X H). view_of r.window) e.1.rest) in
      record {
        seen = rest.seen ∙ ap (λ (o : Sight). fold moved_at o ms) one;
        inside = takes_inside a n ms (view_of p.window) (view_of e.0.window) k rest.inside;
        keeps = kept_on (view_of p.window) (view_of e.0.window) (view_of q.window) k rest.keeps;
        io_regions = rest.io_regions ∙ ap (λ (r : Seen X H). r.io_regions) e.1.rest;
      }
    where
      takes_inside : (a n : ℕ) (ms : List Move) (v w : View) → Keeps v w → AreInside w ms → AreInside v (Takes a n ∷ ms)
      takes_inside a n ms v w k all x (zero, lt, same) = let is : ◌≡◌ {A = Move} (Takes a n) x = same in subst (λ (y : Move). IsInside v y) is tt
      takes_inside a n ms v w k all x (suc i, lt, same) = inside_again v w x k (all x (i, omega arith, same))

  -- what an effect that goes on leaves
  pub record WentOn (p : Seen X H) (c d : Cpu) (q : Seen X H) : Type 0 where
    pub beside : GoesOnBeside (sight_of shown p) c (sight_of shown q) d
    pub keeps : Keeps (view_of p.window) (view_of q.window)
    pub io_regions : q.io_regions ≡ p.io_regions

  pub went_on : (c d : Cpu) (p q : Seen X H) (e : Effect) → step_effect (refused_at (sight_of shown p)) (held_at (sight_of shown p)) c ≡ e → Acts IsPut (IsTaken shown) c d p q outcome.Next e → WentOn p c d q
  went_on c d p q (Next x ms) is h =
      let m = moves_on ms p q h.2 in
      record { beside = record { moves = ms; effect = is ∙ ap (λ (y : Cpu). Next y ms) (sym h.1); inside = m.inside; after = m.seen }; keeps = m.keeps; io_regions = m.io_regions }
  went_on c d p q Syscall is h = absurd (cc h.0)
  went_on c d p q (Trap f) is h = absurd (cc h.0)

  -- where it did not go on all is as it was
  pub stayed_keeps : (a b : Poller X H) (d : Decoded) → Did shown a d false b → Keeps (view_of a.seen.window) (view_of b.seen.window)
  stayed_keeps a b d h = kept (view_of a.seen.window) (view_of b.seen.window) (ap (λ (p : Poller X H). view_of p.seen.window) (same d h))
    where
      same : (d : Decoded) → Did shown a d false b → b ≡ a
      same (Narrow i) h = h.1
      same (Wide i) h = absurd h
      same Illegal h = h
      same NeedsSecond h = h

  -- the instruction at PC goes on where the poller went on with what was decoded there
  module _ (a b : Poller X H) (at code : ℕ) where
    did_goes : (d : Decoded) → step_effect (refused_at (sight_of shown a.seen)) (held_at (sight_of shown a.seen)) a.processor ≡ executed (refused_at (sight_of shown a.seen)) (held_at (sight_of shown a.seen)) a.processor (instruction at code d) → Did shown a d true b →
        WentOn a.seen a.processor b.processor b.seen
    did_goes (Narrow i) is h = went_on a.processor b.processor a.seen b.seen (effect_on shown a i) is h
    did_goes (Wide i) is h = absurd h
    did_goes Illegal is h = absurd h
    did_goes NeedsSecond is h = absurd h

  module _ (a b : Poller X H) (at first : ℕ) (here : at ≡ reg_at a.processor.regs 15) (f : IsFetchedAt (sight_of shown a.seen) at first) where
    pub narrow_goes : (29 ≤ first / 2048 → ⊥) → (first / 2048 < 29 → Did shown a (narrow_result (narrow_of first)) true b) → WentOn a.seen a.processor b.processor b.seen
    narrow_goes wide h =
        let small = went_narrow first wide in
        did_goes a b at first (narrow_result (narrow_of first)) (narrow_effect (refused_at (sight_of shown a.seen)) (held_at (sight_of shown a.seen)) a.processor at first here f.may f.is (lt-leb _ _ small)) (h small)

  module _ (a : Poller X H) (at first second : ℕ) (here : at ≡ reg_at a.processor.regs 15) (f : IsFetchedAt (sight_of shown a.seen) at first) (wide : 29 ≤ first / 2048) (g : IsFetchedAt (sight_of shown a.seen) (after at) second) where
    wide_as : (d : Decoded) → decoded_of first (Some second) ≡ d → step_effect (refused_at (sight_of shown a.seen)) (held_at (sight_of shown a.seen)) a.processor ≡ executed (refused_at (sight_of shown a.seen)) (held_at (sight_of shown a.seen)) a.processor (instruction at (first * 2 ^ 16 + second) d)
    wide_as d is =
        wide_effect (refused_at (sight_of shown a.seen)) (held_at (sight_of shown a.seen)) a.processor at first here f.may f.is second (le-leb _ _ wide) g.may g.is
        ∙ ap (λ (x : Decoded). executed (refused_at (sight_of shown a.seen)) (held_at (sight_of shown a.seen)) a.processor (instruction at (first * 2 ^ 16 + second) x)) is

    pub wide_goes : (d : Cpu) (q : Seen X H) (i : Insn) → decoded_of first (Some second) ≡ Wide i → Acts IsPut (IsTaken shown) a.processor d a.seen q outcome.Next (effect_on shown a i) → WentOn a.seen a.processor d q
    wide_goes d q i is h = went_on a.processor d a.seen q (effect_on shown a i) (wide_as (Wide i) is) h

    -- by the answer
    pub wide_keeps : (d : Cpu) (q : Seen X H) (i : Insn) → decoded_of first (Some second) ≡ Wide i → (r : Bool) → (r ≡ true → Acts IsPut (IsTaken shown) a.processor d a.seen q outcome.Next (effect_on shown a i)) → (r ≡ false → q ≡ a.seen) →
        Keeps (view_of a.seen.window) (view_of q.window) × (q.io_regions ≡ a.seen.io_regions)
    wide_keeps d q i is true goes stays = let w = wide_goes d q i is (goes refl) in (w.keeps, w.io_regions)
    wide_keeps d q i is false goes stays = let e = stays refl in (kept (view_of a.seen.window) (view_of q.window) (ap (λ (r : Seen X H). view_of r.window) e), ap (λ (r : Seen X H). r.io_regions) e)

-- ## what is fetched

-- what the stretch of a window has is fetched, where no device lies
pub in_sight : (o : Sight) (a : ℕ) (r : Option ℕ) → is_device a ≡ false → IsApart o.view → MatchOption r (has_code o.view a 2 ≡ false) (λ half. IsFetched o.view a half) →
    MatchOption r (refused_at o a 2 Execute ≡ Some a) (λ half. IsFetchedAt o a half)
in_sight o a None beside apart beyond = rw (beside, beyond) refl
in_sight o a (Some half) beside apart f = record { may = rw beside (fetched_may o.view a half f); is = rw beside (fetched_is o.view a half apart f) }

-- ## instructions on end

-- those within the window, whatever devices there are beside it
pub glides_polls : (n : ℕ) (v w : View) (c d : Cpu) (ds : List DeviceData) (io_regions : List Region) → Glides v c n w d → Polls record { view = v; devices = ds; io_regions = io_regions } c n record { view = w; devices = ds; io_regions = io_regions } d
glides_polls zero v w c d ds io_regions on = (ap (λ (u : View). record { view = u; devices = ds; io_regions = io_regions }) on.0, on.1)
glides_polls (suc n) v w c d ds io_regions on = (record { view = on.0; devices = ds; io_regions = io_regions }, on.1, glides_polls n v on.0 c on.1 ds io_regions on.2, inl record { window = on.3; rest = refl })

pub apart_on : (w u : View) → Keeps w u → IsApart w → IsApart u
apart_on w u k h = record {
  from = rw (k.flash_base, k.code_base) h.from;
  to = rw (k.flash_base, k.flash, k.code_base, k.code_size) h.to;
  below = rw (k.flash_base, k.flash, k.ram_base) h.below;
}

-- where none is left of its instructions it need not be where the next one goes on nowhere
pub none_left : (o : Sight) (c : Cpu) (most left : ℕ) → most - left < most → (0 < left → ⊥) → IsAtLimit o c
none_left o c most left lt none = absurd (none (omega (arith, lt)))

-- nor is it told whether that is a system call
pub none_told : (most n : ℕ) (before after : View) (c : Cpu) (calls : Bool) → calls ≡ ltb n most → (n < most → ⊥) → TellsCall most n before after c calls
none_told most n before after c calls is none = record { short = λ e. ltb-true n most (sym is ∙ e); calling = λ e. absurd (none (ltb-true n most (sym is ∙ e))); told = λ apart lt. absurd (none lt) }

-- how far a poller has come, with so many left of its instructions
pub record HaveBeen {X : Type 0} {H : X → Type 0} (shown : Shows X H) (p : Poller X H) (most left places : ℕ) (q : Poller X H) : Type 0 where
  pub polls : Polls (sight_of shown p.seen) p.processor (most - left) (sight_of shown q.seen) q.processor
  pub within : left ≤ most
  pub fixed : Keeps (view_of p.seen.window) (view_of q.seen.window)
  pub io_regions : q.seen.io_regions ≡ p.seen.io_regions
  pub apart : IsApart (view_of q.seen.window)
  pub size : places ≡ code_places (view_of q.seen.window)

module _ {X : Type 0} {H : X → Type 0} (shown : Shows X H) where
  pub been_on : (p q r : Poller X H) (most left places : ℕ) → HaveBeen shown p most left places q → 0 < left →
      GoesOnBeside (sight_of shown q.seen) q.processor (sight_of shown r.seen) r.processor → Keeps (view_of q.seen.window) (view_of r.seen.window) → r.seen.io_regions ≡ q.seen.io_regions → HaveBeen shown p most (left - 1) places r
  been_on p q r most left places h some goes keeps io_regions =
      let made : ℕ = most - left in
      let one_more : suc made ≡ most - (left - 1) = omega (arith, some, h.within) in
      let whole : Polls (sight_of shown p.seen) p.processor (suc made) (sight_of shown r.seen) r.processor = (sight_of shown q.seen, q.processor, h.polls, inr goes) in
      record {
        polls = subst (λ (k : ℕ). Polls (sight_of shown p.seen) p.processor k (sight_of shown r.seen) r.processor) one_more whole;
        within = omega (arith, h.within);
        fixed = kept_on (view_of p.seen.window) (view_of q.seen.window) (view_of r.seen.window) h.fixed keeps;
        io_regions = io_regions ∙ h.io_regions;
        apart = apart_on (view_of q.seen.window) (view_of r.seen.window) keeps h.apart;
        size = h.size ∙ ap (λ (n : ℕ). n - 1) (sym keeps.code_size);
      }
