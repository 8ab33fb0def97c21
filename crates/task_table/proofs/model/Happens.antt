-- Each step is a chain of moves.
use Rattle.std.proofs.Common.{◌≡◌, ℕ, Bool, true, false, cond, List, [], ◌∷◌, ◌++◌, length, Option, Some, None, eqb, min, inl, inr, refl, sym, subst, arith}
use Rattle.std.specs.Prelude.{Contains}
use Rattle.std.specs.List.{range_with_len}
use Rattle.std.proofs.lemmas.List.Elements.{Contains-append_left, Contains-push}
use Rattle.kernel_abi.specs.Ids.{id_of, dead_code_of}
use Rattle.kernel_abi.specs.declared.Ending.{Ending}
use Rattle.kernel_abi.specs.declared.Ending.TheVariants.{Client, Restart}
use Rattle.kernel_abi.specs.declared.Fault.{Fault}
use Rattle.kernel_abi.specs.declared.Health.TheVariants.{Faulted}
use Rattle.kernel_abi.specs.declared.Note.{Note}
use Rattle.kernel_abi.specs.declared.Note.TheVariants as note
use Rattle.region_check.specs.declared.Right.TheVariants.{Write}
use Rattle.region_check.proofs.FirstBad.{first_bad_none}
use Rattle.mem_banks.specs.Memory.{bytes_at, copied as copied_memory}
use Rattle.task_table.specs.model.State.{Setup, State, Call, Listen, Slice, Ground, Own, Message, Turn}
use Rattle.task_table.specs.model.Reading.{setup_at, call_of, listen_of, bad_byte, admits}
use Rattle.task_table.specs.model.Effects.{with_task, with_call, without_listen, changed, noted, with_health, stored, copied, looked, given, returned, closed, posted, faulted_as, offered, handed, reborn, is_to, awaits, dead_answered, restarted}
use Rattle.task_table.specs.model.Sends.{taken_at_once, offers_call}
use Rattle.task_table.specs.model.Placed.{ArePlaced}
use Rattle.task_table.specs.model.Grounds.{Lies, MayWrite}
use Rattle.task_table.specs.model.Chain.{Chain, Here}
use Rattle.task_table.specs.model.Step.{MayOffer, MayReceive, IsTarget, MayChangeAll, Ends, Step, Notes, Gives, Returns, PassesSyscall, Runs, Clears, Posts, Times, Lines, Listens, Sends, Receives, Stores, Copies, Looks, Borrows, Ceases, Halts, Strikes, Restarts, Reaches}
use Rattle.task_table.proofs.model.Chains.{one, ◌▷◌, joined, refined, chain-fold}
use Rattle.task_table.proofs.model.Handing.{few_bytes}
use Rattle.task_table.proofs.model.Ranges.{within_ram-good, within_ram-front}
use Rattle.task_table.proofs.model.Posting.{found_listen}
use Rattle.task_table.proofs.model.Moves.{IsAside, aside-noted, aside-given, aside-returned, aside-past_syscall, aside-cleared, aside-unlistened, aside-listening, aside-timer, aside-line, aside-health, aside-processor, aside-reborn, aside-posted, taken_over, IsTaking, Move, Aside, Writes, Reads, Lends, Offers, Takes, Closes, Alters}

-- the bytes of a range that is good may each be written
may-write : (g : Setup) (i : ℕ) (r : Slice) (a : ℕ) → bad_byte g i Write r ≡ None → Lies r a → MayWrite g i a
unfolding bad_byte
may-write g i r a good lies = first_bad_none (setup_at g i).regions Write r.base r.len a good lies.0 lies.1

-- a copy is a store of the bytes that were there
copied_stored : (on : Ground) (from at n : ℕ) (u : Turn) → copied on from at n u ≡ stored on at (bytes_at u.state.memory from n) u
unfolding copied stored copied_memory
copied_stored on from at n u = refl

module _ (g : Setup) (s : State) (c : ℕ) where
  abbrev Moves : Turn → Turn → Type 0
  Moves u v = Chain (Move g s c) u v

  aside : {u v : Turn} → IsAside u v → Move g s c u v
  aside {u = u} {v = v} a = Aside u v a

  -- a call goes over to its server
  hands : (on : Ground) (k : Call) (buffer : Slice) (u : Turn) → IsTaking g s c u on k buffer → Moves u (handed on k buffer u)
  unfolding handed
  hands on k buffer u t =
      let v = taken_over on k buffer u in
      let w = changed (without_listen k.server.index) v in
      one (Takes on k buffer u t)
      ▷ aside (aside-unlistened k.server.index v)
      ▷ aside (aside-given k.server.index (0 ∷ id_of k.client.index k.client.birth ∷ k.operation ∷ k.message.len ∷ k.reply.len ∷ k.leases ∷ []) w)

  receives : ArePlaced g s.memory → (k : Call) (buffer : Slice) (u : Turn) → MayReceive g s c u k buffer → Moves u (handed Own k buffer u)
  receives placed k buffer u m = hands Own k buffer u record { here = m.here; offered = m.offered; alive = inl (k, m.before, refl); may = λ a lies. may-write g c buffer a m.good lies; room = within_ram-good g s.memory c buffer placed m.good }

  -- a call that c has just offered to a task that listens
  takes_offered : ArePlaced g s.memory → (k : Call) (u : Turn) → MayOffer g s c u k → (l : Listen) → listen_of u.state k.server.index ≡ Some l → IsTaking g s c (offered k u) (Message k.number) k l.buffer
  unfolding offered with_call noted copied looked
  takes_offered placed k u m l e =
      let found = found_listen u.state k.server.index l e in
      let before : Contains s.listens l = rw m.listens at found.0 in
      let front : List Note = u.notes ++ note.Offer k.number k.client.index k.server.index ∷ [] in
      let offer : Contains front (note.Offer k.number k.client.index k.server.index) = Contains-push u.notes (note.Offer k.number k.client.index k.server.index) in
      let by_c : Contains front (note.Offer k.number c k.server.index) = subst (λ x. Contains front (note.Offer k.number x k.server.index)) m.new.client offer in
      let to_l : Contains front (note.Offer k.number c l.task) = subst (λ x. Contains front (note.Offer k.number c x)) (sym found.1) by_c in
      let n = min k.message.len l.buffer.len in
      record {
        here = Contains-push u.state.calls k;
        offered = m.new.phase;
        alive = inr (k.server.index, by_c);
        may = λ a lies. record {
          listen = l;
          here = before;
          offered = Contains-append_left front (note.Take k.number n ∷ []) (note.Offer k.number c l.task) to_l;
          copied = n;
          taken = Contains-push front (note.Take k.number n);
          lies = lies;
          may = may-write g l.task l.buffer a (m.fit_listens l before).writable lies;
        };
        room = within_ram-good g s.memory l.task l.buffer placed (m.fit_listens l before).writable;
      }

  sends : ArePlaced g s.memory → (k : Call) (u : Turn) → MayOffer g s c u k → Moves u (offers_call k u)
  sends placed k u m = by_listen (listen_of u.state k.server.index) refl
    where
      by_listen : (o : Option Listen) → listen_of u.state k.server.index ≡ o → Chain (Move g s c) u (taken_at_once k o (offered k u))
      by_listen None e = one (Offers k u m.new)
      by_listen (Some l) e = by_test (admits l.from k.client)
        where
          by_test : (b : Bool) → Chain (Move g s c) u (cond b (returned k.server.index (handed (Message k.number) k l.buffer (offered k u))) (offered k u))
          by_test true =
              joined (Move g s c) u (offered k u) _ (one (Offers k u m.new)) (hands (Message k.number) k l.buffer (offered k u) (takes_offered placed k u m l e))
              ▷ aside (aside-returned k.server.index (handed (Message k.number) k l.buffer (offered k u)))
          by_test false = one (Offers k u m.new)

  ends_still : (i : ℕ) (fault : Fault) (ending : Ending) (u : Turn) → Ends ending (call_of u.state i) → Ends ending (call_of (noted (note.Fault i fault) (changed (without_listen i) (with_health i (Faulted fault) u))).state i)
  unfolding noted with_health call_of without_listen with_task
  ends_still i fault ending u h = h

  faults : (i : ℕ) (fault : Fault) (ending : Ending) (u : Turn) → Ends ending (call_of u.state i) → Moves u (faulted_as g i fault ending u)
  unfolding faulted_as
  faults i fault ending u ends = by_zero (eqb i 0)
    where
      a : Turn
      a = with_health i (Faulted fault) u

      b : Turn
      b = changed (without_listen i) a

      d : Turn
      d = noted (note.Fault i fault) b

      shut : Chain (Move g s c) u (closed i ending d)
      shut = one (aside (aside-health i (Faulted fault) u)) ▷ aside (aside-unlistened i a) ▷ aside (aside-noted (note.Fault i fault) b refl) ▷ Closes i ending d (ends_still i fault ending u ends)

      by_zero : (x : Bool) → Chain (Move g s c) u (cond x (closed i ending d) (posted 0 g.fault_bits (closed i ending d)))
      by_zero true = shut
      by_zero false = shut ▷ aside (aside-posted 0 g.fault_bits (closed i ending d))

  answers_dead : (i j : ℕ) (u : Turn) → Moves u (dead_answered i u j)
  answers_dead i j u = by_call (is_to i (call_of u.state j)) (awaits i (listen_of u.state j)) (dead_code_of _)
    where
      shut : Turn
      shut = closed j Restart u

      dropped : Turn
      dropped = changed (without_listen j) u

      by_call : (a b : Bool) (code : ℕ) → Chain (Move g s c) u (cond a (returned j (given j (code ∷ 0 ∷ []) shut)) (cond b (returned j (given j (code ∷ 0 ∷ 0 ∷ 0 ∷ 0 ∷ 0 ∷ []) dropped)) u))
      by_call true b code = one (Closes j Restart u tt) ▷ aside (aside-given j (code ∷ 0 ∷ []) shut) ▷ aside (aside-returned j _)
      by_call false true code = one (aside (aside-unlistened j u)) ▷ aside (aside-given j (code ∷ 0 ∷ 0 ∷ 0 ∷ 0 ∷ 0 ∷ []) dropped) ▷ aside (aside-returned j _)
      by_call false false code = Here u

  restarts : (i : ℕ) (start : Bool) (u : Turn) → Moves u (restarted g i start u)
  unfolding restarted
  restarts i start u =
      let a = closed i Restart u in
      let b = changed (without_listen i) a in
      let d = changed (reborn g i start) b in
      joined (Move g s c) u _ _
      (one (Closes i Restart u tt) ▷ aside (aside-unlistened i a) ▷ aside (aside-reborn g i start b) ▷ aside (aside-noted (note.Restart i _) d refl))
      (chain-fold (dead_answered i) (range_with_len 0 (length u.state.tasks)) _ (λ j v here. answers_dead i j v))

  -- the bytes that were there go to the front of a range that is good
  copies : ArePlaced g s.memory → (on : Ground) (from at n i : ℕ) (r : Slice) (u : Turn) → IsTarget g i r at n → MayChangeAll g s c u on at n → Moves u (copied on from at n u)
  copies placed on from at n i r u target may =
      let bytes = bytes_at u.state.memory from n in
      let few = few_bytes u.state.memory from n in
      let fits = target.fits in
      let room = within_ram-front s.memory r.base r.len (length bytes) (within_ram-good g s.memory i r placed target.good) (omega arith) in
      subst (λ v. Chain (Move g s c) u v) (sym (copied_stored on from at n u)) (one (Writes on at bytes u (rw target.base room) (λ a low high. may a low (omega arith))))

  step_moves : ArePlaced g s.memory → (u v : Turn) → Step g s c u v → Moves u v
  step_moves placed _ _ (Notes n u plain) = one (aside (aside-noted n u plain))
  step_moves placed _ _ (Gives i values u lt few party) = one (aside (aside-given i values u))
  step_moves placed _ _ (Returns i u) = one (aside (aside-returned i u))
  step_moves placed _ _ (PassesSyscall u lt) = one (aside (aside-past_syscall c u))
  step_moves placed _ _ (Runs registers flags u lt whole) = one (aside (aside-processor c registers flags u))
  step_moves placed _ _ (Clears mask u lt none) = one (aside (aside-cleared c mask u))
  step_moves placed _ _ (Posts i bits u lt) = one (aside (aside-posted i bits u))
  step_moves placed _ _ (Times timer u lt ahead) = one (aside (aside-timer c timer u))
  step_moves placed _ _ (Lines k line u owned) = one (aside (aside-line k line u))
  step_moves placed _ _ (Listens l u own may) = one (aside (aside-listening l u)) ▷ aside (aside-noted _ _ refl)
  step_moves placed _ _ (Sends k u may) = sends placed k u may
  step_moves placed _ _ (Receives k buffer u may) = receives placed k buffer u may
  step_moves placed _ _ (Stores on at bytes u all within room may) = one (Writes on at bytes u room may)
  step_moves placed _ _ (Copies on from at n i r u target may) = copies placed on from at n i r u target may
  step_moves placed _ _ (Reaches devices u reached) = one (Alters devices u reached)
  step_moves placed _ _ (Looks r u alive) = one (Reads r u alive)
  step_moves placed _ _ (Borrows k borrow lease offset moved u alive taken fits) = one (Lends k borrow lease offset moved u alive taken fits)
  step_moves placed _ _ (Ceases i ending u ends) = one (Closes i ending u ends)
  step_moves placed _ _ (Halts fault u lt low high) = faults c fault Client u tt
  step_moves placed _ _ (Strikes i fault ending u apart lt low high party ends) = faults i fault ending u ends
  step_moves placed _ _ (Restarts i start u apart lt) = restarts i start u

  -- a chain of steps is one of moves
  pub chain_moves : ArePlaced g s.memory → (u v : Turn) → Chain (Step g s c) u v → Chain (Move g s c) u v
  chain_moves placed u v x = refined (Step g s c) (Move g s c) (step_moves placed) u v x
