-- A borrow went well only if its last row applied.
use Rattle.std.proofs.Common.{◌≡◌, ◌<◌, ◌≤◌, ℕ, Bool, true, false, not, cond, List, [], ◌∷◌, length, Option, Some, None, refl, sym, subst, ◌∙◌, ap, arith, eqb, leb, ltb, get_or, bit_and, is_some, get_or-set_other}
use Rattle.std.proofs.lemmas.Bool.{not-false}
use Rattle.std.specs.Option.{option_map}
use Rattle.kernel_abi.specs.Arguments.{borrow_args, info_args}
use Rattle.kernel_abi.specs.Ids.{index_of}
use Rattle.kernel_abi.specs.declared.arguments.BorrowArgs.{BorrowArgs}
use Rattle.kernel_abi.specs.declared.arguments.InfoArgs.{InfoArgs}
use Rattle.kernel_abi.specs.declared.Ending.TheVariants.{Client}
use Rattle.kernel_abi.specs.declared.Fault.{Fault}
use Rattle.kernel_abi.specs.declared.Health.TheVariants.{Well, Faulted}
use Rattle.kernel_abi.specs.declared.LeaseEntry.{LeaseEntry}
use Rattle.kernel_abi.specs.declared.Note.{Note}
use Rattle.kernel_abi.specs.declared.Note.TheVariants as note
use Rattle.region_check.specs.declared.Right.TheVariants.{Read}
use Rattle.task_table.specs.model.State.{Setup, State, Task, Call, Listen, Turn}
use Rattle.task_table.specs.model.Reading.{task_at, register, arguments, listen_of, is_out, is_dead, dead_code_for, is_valid, bad_byte, taken_by}
use Rattle.task_table.specs.model.Effects.{with_task, without_listen, changed, noted, with_health, with_results, given, returned, past_syscall, bits_added, bits_cleared, woken_by, woken, posted, closed, faulted_as, faulted}
use Rattle.task_table.specs.model.Rows.{goes_on_with}
use Rattle.task_table.specs.model.Borrows.{Way as Needs, entry_range, grant, lease_range, entry_read, buffer_of, part_of, borrowed_by, borrowed, informed_by, informed}
use Rattle.task_table.specs.kept.Holds.{kept_call}
use Rattle.task_table.specs.declared.slot.OpenCall.{OpenCall}
use Rattle.task_table.specs.model.Sane.{Sane}
use Rattle.task_table.proofs.model.Changes.{task_at-with_task, task_at-without_call, task_at-without_listen}
use Rattle.task_table.proofs.model.Clients.{found_call, taken_call}
use Rattle.task_table.proofs.model.DeadRows.{answered-goes_on_with}
use Rattle.task_table.proofs.model.Handing.{keeps-looked}
use Rattle.task_table.proofs.model.Posting.{still}
use Rattle.task_table.proofs.model.Quieting.{ready-with_task}
use Rattle.task_table.proofs.model.Receives.{well-ready, none_left}
use Rattle.task_table.proofs.model.Sanity.{sane-faulted}
use Rattle.lease_core.specs.Loans.{way_of, WentWell, WritesNone, IsEntryRead, IsGranted, target, IsClear}
use Rattle.lease_core.specs.declared.borrowing.Loan.{Loan}
use Rattle.lease_core.proofs.Leases.{leased_good, buffer_good, of_lender}
use Rattle.lease_core.proofs.Stays.{clear_moved}

-- ## a task that faults is not ready

health-woken_by : (i j : ℕ) (lo : Option Listen) (t : Turn) → (task_at (woken_by i lo t).state j).health ≡ (task_at t.state j).health
unfolding returned noted given bits_cleared
health-woken_by i j None t = refl
health-woken_by i j (Some l) t = by_bits (eqb (bit_and (task_at t.state i).posted l.mask) 0)
  where
    u : State
    u = without_listen i t.state

    v : Turn
    v = bits_cleared i l.mask (changed (without_listen i) t)

    w : Turn
    w = given i (0 ∷ 0xFFFF ∷ bit_and (task_at t.state i).posted l.mask ∷ 0 ∷ 0 ∷ 0 ∷ []) v

    by_bits : (b : Bool) → (task_at (cond b t (returned i w)).state j).health ≡ (task_at t.state j).health
    by_bits true = refl
    by_bits false = (ready-with_task v.state i _ refl).health j ∙ (ready-with_task u i _ refl).health j ∙ ap (λ (x : Task). x.health) (task_at-without_listen t.state i j)

health-posted : (i j bits : ℕ) (t : Turn) → (task_at (posted i bits t).state j).health ≡ (task_at t.state j).health
unfolding posted woken bits_added noted
health-posted i j bits t =
    let u = bits_added i bits t in
    health-woken_by i j (listen_of u.state i) u ∙ (ready-with_task t.state i _ refl).health j

health-faulted : (g : Setup) (c : ℕ) (fault : Fault) (t : Turn) → c < length t.state.tasks → (task_at (faulted g c fault t).state c).health ≡ Faulted fault
unfolding faulted_as closed noted with_health
health-faulted g c fault t inside = by_zero (eqb c 0)
  where
    stopped : State
    stopped = with_task c record (task_at t.state c) { health = Faulted fault } t.state

    shut : Turn
    shut = closed c Client (noted (note.Fault c fault) (changed (without_listen c) (with_health c (Faulted fault) t)))

    here : (task_at shut.state c).health ≡ Faulted fault
    here = ap (λ (x : Task). x.health) (task_at-without_call (without_listen c stopped) c c ∙ task_at-without_listen stopped c c ∙ task_at-with_task t.state c _ inside)

    by_zero : (b : Bool) → (task_at (cond b shut (posted 0 g.fault_bits shut)).state c).health ≡ Faulted fault
    by_zero true = here
    by_zero false = health-posted 0 c g.fault_bits shut ∙ here

well_faulted : (fault : Fault) → Well ≡ Faulted fault → ⊥
well_faulted fault e = cc

faulted_ill : (g : Setup) (c : ℕ) (fault : Fault) (t : Turn) → c < length t.state.tasks → WentWell c (faulted g c fault t) → ⊥
faulted_ill g c fault t inside well = well_faulted fault (sym (well-ready (faulted g c fault t).state c well.ready) ∙ health-faulted g c fault t inside)

-- ## a borrower that gets another code

fourth : (code : ℕ) (values registers : List ℕ) → 4 ≤ length registers → get_or (with_results (code ∷ values) registers) 4 0 ≡ code
fourth code values [] many = absurd (omega arith)
fourth code values (a ∷ []) many = absurd (omega arith)
fourth code values (a ∷ b ∷ []) many = absurd (omega arith)
fourth code values (a ∷ b ∷ d ∷ []) many = absurd (omega arith)
fourth code values (a ∷ b ∷ d ∷ e ∷ registers) many = refl

code_answered : (c code : ℕ) (values : List ℕ) (t : Turn) → c < length t.state.tasks → length (task_at t.state c).registers ≡ 16 → length (code ∷ values) ≤ 6 → register (goes_on_with c (code ∷ values) t).state c 4 ≡ code
unfolding register
code_answered c code values t inside sixteen few =
    let answered = answered-goes_on_with c (code ∷ values) t inside sixteen few in
    let registers = (task_at t.state c).registers in
    rw answered.registers (get_or-set_other (with_results (code ∷ values) registers) 15 4 _ 0 (omega arith) ∙ fourth code values registers (omega (arith, sixteen)))

writes-goes_on : (c : ℕ) (values : List ℕ) (n : Note) (t : Turn) → (goes_on_with c values (noted n t)).writes ≡ t.writes
unfolding given past_syscall returned noted
writes-goes_on c values n t = refl

module _ (g : Setup) where
  answered_ill : (c code : ℕ) (values : List ℕ) (t : Turn) → Sane g t.state → c < length t.state.tasks → 0 < code → length (code ∷ values) ≤ 6 → WentWell c (goes_on_with c (code ∷ values) t) → ⊥
  answered_ill c code values t h inside some few well =
      let same = code_answered c code values t inside (h.steady.tasks c inside).sixteen few in
      absurd (omega (arith, some, same, well.code))

  -- the same after another task has faulted
  fault_answered_ill : (c i code : ℕ) (fault : Fault) (values : List ℕ) (t : Turn) → Sane g t.state → c < length t.state.tasks → i < length t.state.tasks → 1 ≤ fault.number → fault.number ≤ 10 → 0 < code → length (code ∷ values) ≤ 6 → WentWell c (goes_on_with c (code ∷ values) (faulted g i fault t)) → ⊥
  fault_answered_ill c i code fault values t h inside there low high some few well =
      let after = sane-faulted i fault t h there low high in
      answered_ill c code values (faulted g i fault t) after (still h after inside) some few well

-- ## the last row

-- P: a property of the result of a row
passed : (P : Turn → Type 0) (b : Bool) {u v : Turn} → P (cond b u v) → (P u → ⊥) → (b ≡ false) × P v
passed P true p ill = absurd (ill p)
passed P false p ill = (refl, p)

-- the borrow went well, and wrote no byte of an entry that begins at an address
abbrev pub Went : ℕ → ℕ → Turn → Type 0
Went c base u = WentWell c u × WritesNone u.writes base 12

module _ (g : Setup) (t : Turn) (h : Sane g t.state) where
  -- the lender of a taken call exists
  client_there : (i j : ℕ) (k : Call) → taken_by t.state i j ≡ Some k → k.client.index < length t.state.tasks
  client_there i j k taken =
      let fit = h.steady.calls.fit k (found_call t.state i k (taken_call g t.state i j k h taken).call) in
      rw h.steady.as_many fit.client

  read_sane : (k : Call) (lease : ℕ) (e : LeaseEntry) → Sane g (entry_read k lease e t).state
  read_sane k lease e = keeps-looked _ t h

  pub went_by : (x : Loan) (k : Call) (base : ℕ) → x.borrower < length t.state.tasks → taken_by t.state x.lender x.borrower ≡ Some k → Went x.borrower base (borrowed_by g (way_of x.way) x.borrower x.args (Some k) t) → IsEntryRead g x.lender k x.args.lease × IsGranted g x (grant t.state k x.args.lease) × IsClear base (target x.way (part_of x.args (grant t.state k x.args.lease)).base x.args.buffer_base) (part_of x.args (grant t.state k x.args.lease)).len
  went_by x k base inside taken w =
      let c = x.borrower in
      let i = k.client.index in
      let lease = x.args.lease in
      let client : i ≡ x.lender = of_lender g t.state x.lender c k h taken in
      let there = client_there x.lender c k taken in
      let e = grant t.state k lease in
      let u = entry_read k lease e t in
      let after = read_sane k lease e in
      let inside_after = still h after inside in
      let there_after = still h after there in
      let part = part_of x.args e in
      let P : Turn → Type 0 = λ v. Went c base v in
      let r1 = passed P (leb k.leases lease) w (λ p. faulted_ill g c _ t inside p.0) in
      let r2 = passed P (is_some (bad_byte g i Read (entry_range k lease))) r1.1 (λ p. fault_answered_ill g c i 1 _ (0 ∷ []) t h inside there (omega arith) (omega arith) (omega arith) (omega arith) p.0) in
      let r3 = passed P (not (is_valid (lease_range e))) r2.1 (λ p. fault_answered_ill g c i 1 record { number = 7; x = 3; y = 0 } (0 ∷ []) u after inside_after there_after (omega arith) (omega arith) (omega arith) (omega arith) p.0) in
      let r4 = passed P (eqb (bit_and e.attributes (way_of x.way).bit) 0) r3.1 (λ p. answered_ill g c 1 (0 ∷ []) u after inside_after (omega arith) (omega arith) p.0) in
      let r5 = passed P (ltb e.len x.args.offset) r4.1 (λ p. faulted_ill g c _ u inside_after p.0) in
      let r6 = passed P (not (is_valid (buffer_of x.args))) r5.1 (λ p. faulted_ill g c _ u inside_after p.0) in
      let r7 = passed P (is_some (bad_byte g c (way_of x.way).own (buffer_of x.args))) r6.1 (λ p. faulted_ill g c _ u inside_after p.0) in
      let r8 = passed P (is_some (bad_byte g i (way_of x.way).lender part)) r7.1 (λ p. fault_answered_ill g c i 1 _ (0 ∷ []) u after inside_after there_after (omega arith) (omega arith) (omega arith) (omega arith) p.0) in
      let readable : bad_byte g i Read (entry_range k lease) ≡ None = none_left _ r2.0 in
      let own : bad_byte g c (way_of x.way).own (buffer_of x.args) ≡ None = none_left _ r7.0 in
      let lender : bad_byte g i (way_of x.way).lender part ≡ None = none_left _ r8.0 in
      let leased = leased_good x.way g u.state.memory i part after.steady.placed lender in
      let buffer = buffer_good x.way g u.state.memory c (buffer_of x.args) after.steady.placed own in
      let none = subst (λ ws. WritesNone ws base 12) (writes-goes_on c _ _ _) r8.1.1 in
      let clear = clear_moved x.way k part.base x.args.buffer_base part.len x.args.buffer_length base u after.steady.placed.flash leased buffer (omega arith) none in (
        record { listed = r1.0; readable = subst (λ j. bad_byte g j Read (entry_range k lease) ≡ None) client readable },
        record { valid = not-false _ r3.0; allowed = r4.0; inside = r5.0; buffer = not-false _ r6.0; own = own; lender = subst (λ j. bad_byte g j (way_of x.way).lender part ≡ None) client lender },
        clear,
      )

  pub answered_by : (c i lease : ℕ) (k : Call) → c < length t.state.tasks → taken_by t.state i c ≡ Some k → WentWell c (informed_by g c lease (Some k) t) → IsEntryRead g i k lease × (is_valid (lease_range (grant t.state k lease)) ≡ true)
  answered_by c i lease k inside taken w =
      let j = k.client.index in
      let client : j ≡ i = of_lender g t.state i c k h taken in
      let there = client_there i c k taken in
      let e = grant t.state k lease in
      let u = entry_read k lease e t in
      let after = read_sane k lease e in
      let P : Turn → Type 0 = λ v. WentWell c v in
      let r1 = passed P (leb k.leases lease) w (λ p. faulted_ill g c _ t inside p) in
      let r2 = passed P (is_some (bad_byte g j Read (entry_range k lease))) r1.1 (λ p. fault_answered_ill g c j 1 _ (0 ∷ 0 ∷ []) t h inside there (omega arith) (omega arith) (omega arith) (omega arith) p) in
      let r3 = passed P (not (is_valid (lease_range e))) r2.1 (λ p. fault_answered_ill g c j 1 record { number = 7; x = 3; y = 0 } (0 ∷ 0 ∷ []) u after (still h after inside) (still h after there) (omega arith) (omega arith) (omega arith) (omega arith) p) in
      (record { listed = r1.0; readable = subst (λ m. bad_byte g m Read (entry_range k lease) ≡ None) client (none_left _ r2.0) }, not-false _ r3.0)

  -- the caller names a live task
  pub went_on : (way : Needs) (c base : ℕ) (x : BorrowArgs) → x ≡ borrow_args (arguments t.state c) → c < length t.state.tasks → Went c base (borrowed g way c t) → (is_out t.state x.lender.number ≡ false) × (is_dead t.state x.lender.number ≡ false) × Went c base (borrowed_by g way c x (taken_by t.state (index_of x.lender.number) c) t)
  unfolding borrowed dead_code_for
  went_on way c base x same inside w =
      let y = borrow_args (arguments t.state c) in
      let P : Turn → Type 0 = λ v. Went c base v in
      let r1 = passed P (is_out t.state y.lender.number) w (λ p. faulted_ill g c _ t inside p.0) in
      let r2 = passed P (is_dead t.state y.lender.number) r1.1 (λ p. answered_ill g c _ (0 ∷ []) t h inside (omega arith) (omega arith) p.0) in
      subst (λ (z : BorrowArgs). (is_out t.state z.lender.number ≡ false) × (is_dead t.state z.lender.number ≡ false) × Went c base (borrowed_by g way c z (taken_by t.state (index_of z.lender.number) c) t)) (sym same) (r1.0, r2.0, r2.1)

  pub answered_on : (c : ℕ) (x : InfoArgs) → x ≡ info_args (arguments t.state c) → c < length t.state.tasks → WentWell c (informed g c t) → (is_out t.state x.lender.number ≡ false) × (is_dead t.state x.lender.number ≡ false) × WentWell c (informed_by g c x.lease (taken_by t.state (index_of x.lender.number) c) t)
  unfolding informed dead_code_for
  answered_on c x same inside w =
      let y = info_args (arguments t.state c) in
      let P : Turn → Type 0 = λ v. WentWell c v in
      let r1 = passed P (is_out t.state y.lender.number) w (λ p. faulted_ill g c _ t inside p) in
      let r2 = passed P (is_dead t.state y.lender.number) r1.1 (λ p. answered_ill g c _ (0 ∷ 0 ∷ []) t h inside (omega arith) (omega arith) p) in
      subst (λ (z : InfoArgs). (is_out t.state z.lender.number ≡ false) × (is_dead t.state z.lender.number ≡ false) × WentWell c (informed_by g c z.lease (taken_by t.state (index_of z.lender.number) c) t)) (sym same) (r1.0, r2.0, r2.1)

-- the call that was found is the one that the kernel keeps
pub kept_is : (o : Option Call) (k : Call) (kept : OpenCall) → o ≡ Some k → Some kept ≡ option_map kept_call o → kept_call k ≡ kept
kept_is o k kept is found = let e : Some kept ≡ Some (kept_call k) = rw is at found in some_is e
  where
    some_is : {a b : OpenCall} → Some a ≡ Some b → b ≡ a
    some_is e = cc
