-- Restarts and kernel messages leave alike turns alike.
use Rattle.std.proofs.Common.{◌≡◌, ◌+◌, ◌-◌, ◌<◌, ◌≤◌, ◌%◌, ◌&&◌, ◌||◌, ℕ, Bool, true, false, not, leb, eqb, is_some, List, [], ◌∷◌, length, Option, Some, None, refl, sym, ◌∙◌, ap, subst, arith, eqb-true}
use Rattle.std.specs.Prelude.{if◌then◌else◌, option_map, find, unwrap_or, IfSome}
use Rattle.std.specs.List.{range_with_len}
use Rattle.std.proofs.lemmas.Bool.{false≢true}
use Rattle.kernel_abi.specs.Arguments.{send_args}
use Rattle.kernel_abi.specs.Faults.{usage_number, access_number, injected_fault}
use Rattle.kernel_abi.specs.Ids.{dead_code_of}
use Rattle.kernel_abi.specs.declared.Access.TheVariants.{KernelRead, KernelWrite}
use Rattle.kernel_abi.specs.declared.Ending.TheVariants.{Restart}
use Rattle.kernel_abi.specs.declared.Health.{Health}
use Rattle.kernel_abi.specs.declared.Health.TheVariants.{Well, Stopped, Faulted}
use Rattle.kernel_abi.specs.declared.Note.TheVariants as note
use Rattle.kernel_abi.specs.declared.Usage.TheVariants.{BadTaskIndex, InvalidSlice, BadKernelMessage, NotSupervisor}
use Rattle.kernel_abi.specs.declared.arguments.SendArgs.{SendArgs}
use Rattle.region_check.specs.declared.Right.TheVariants.{Read as ToRead, Write as ToWrite}
use Rattle.mem_banks.specs.Memory.{number_at, number_of}
use Rattle.task_table.specs.model.State.{Setup, Task, Call, From, Any, One, KernelOnly, Listen, Own, Turn}
use Rattle.task_table.specs.model.Reading.{task_at, setup_at, is_faulted, arguments, call_of, listen_of, is_valid, bad_byte}
use Rattle.task_table.specs.model.Effects.{without_listen, changed, noted, given, returned, closed, stored, at_birth, reborn, is_to, awaits, dead_answered, restarted}
use Rattle.task_table.specs.model.Rows.{misused, goes_on_with}
use Rattle.task_table.specs.model.Sends.{message_of, reply_room}
use Rattle.task_table.specs.model.Requests.{Request, word_bytes, status_bytes, status_given, restart_made, injected_by, injected, first_faulted, fault_found, requests, served, request_of, requested}
use Rattle.board_model.specs.Alike.{Viewer, IsAttentive, seen_call, seen_from, seen_listen, IsAlike}
use Rattle.board_model.proofs.Alike.{call_alike, listen_alike, count_alike, bytes_alike}
use Rattle.board_model.proofs.AlikeRows.{by_test, by_same, by_case, the_task, alike-noted, alike-noted_always, alike-task, alike-stored, alike-fold, alike-given, alike-closed, alike-no_listen, alike-returned, alike-faulted, alike-misused, alike-denied, alike-goes_on_with, args, generation_same}
use Rattle.board_model.proofs.Sight.{IsOpen, checked_seen}
use Rattle.task_table.proofs.model.RequestChains.{each_found}

-- what holds of each request of a list holds of the one that is found in it
abbrev pub EachRequest : (Request → Type 0) → List Request → Type 0
EachRequest P [] = Unit {0}
EachRequest P (request ∷ requests) = P request × EachRequest P requests

-- a message of the length that a request asks for
fits : (a b : Bool) → not (a && b) ≡ false → a ≡ true
fits true b e = refl
fits false b e = absurd (false≢true (sym e))

module _ (w : Viewer) (a : IsAttentive w) where
  -- ## a task is born again

  alike-reborn : (g : Setup) (i : ℕ) (start : Bool) (t u : Turn) → IsAlike w t u → IsAlike w (changed (reborn g i start) t) (changed (reborn g i start) u)
  unfolding reborn
  alike-reborn g i start t u h =
      let old : w.birth (task_at t.state i).births ≡ w.birth (task_at u.state i).births = ap (λ (x : Task). x.births) (the_task w a i t u h) in
      let new : w.birth ((task_at t.state i).births + 1) ≡ w.birth ((task_at u.state i).births + 1) = a.next (task_at t.state i).births ∙ ap (λ n. w.birth (n + 1)) old ∙ sym (a.next (task_at u.state i).births) in
      let health : Health = if start then Well else Stopped in
      alike-task w a i _ _ t u (ap (λ n. at_birth (setup_at g i) n health) new) h

  is_to_same : (i : ℕ) (o p : Option Call) → option_map (seen_call w.birth) o ≡ option_map (seen_call w.birth) p → is_to i o ≡ is_to i p
  is_to_same i o p e = sym (blind o) ∙ ap (is_to i) e ∙ blind p
    where
      blind : (q : Option Call) → is_to i (option_map (seen_call w.birth) q) ≡ is_to i q
      blind None = refl
      blind (Some c) = refl

  awaits_same : (i : ℕ) (o p : Option Listen) → option_map (seen_listen w.birth) o ≡ option_map (seen_listen w.birth) p → awaits i o ≡ awaits i p
  awaits_same i o p e = sym (blind o) ∙ ap (awaits i) e ∙ blind p
    where
      by_from : (f : From) → (elim (seen_from w.birth f) as (λ x. Bool) [ Any ↦ false | One b ↦ eqb b.index i | KernelOnly ↦ false ]) ≡ (elim f as (λ x. Bool) [ Any ↦ false | One b ↦ eqb b.index i | KernelOnly ↦ false ])
      by_from Any = refl
      by_from (One b) = refl
      by_from KernelOnly = refl

      blind : (q : Option Listen) → awaits i (option_map (seen_listen w.birth) q) ≡ awaits i q
      blind None = refl
      blind (Some l) = by_from l.from

  alike-noted_dead : (i j : ℕ) (t u : Turn) → IsAlike w t u → IsAlike w (dead_answered i t j) (dead_answered i u j)
  alike-noted_dead i j t u h =
      subst (λ n. IsAlike w (dead_answered i t j) (dead_by (dead_code_of n) u)) (generation_same w a i t u h)
      (by_test (IsAlike w) (is_to i (call_of t.state j)) (is_to i (call_of u.state j)) (is_to_same i _ _ (call_alike w.birth t.state u.state j h.state))
      (alike-returned w a j _ _ (alike-given w a j (code ∷ 0 ∷ []) _ _ (alike-closed w a j Restart t u h)))
      (by_test (IsAlike w) (awaits i (listen_of t.state j)) (awaits i (listen_of u.state j)) (awaits_same i _ _ (listen_alike w.birth t.state u.state j h.state))
      (alike-returned w a j _ _ (alike-given w a j (code ∷ 0 ∷ 0 ∷ 0 ∷ 0 ∷ 0 ∷ []) _ _ (alike-no_listen w a j t u h))) h))
    where
      code : ℕ
      code = dead_code_of ((task_at t.state i).births % 64)

      dead_by : ℕ → Turn → Turn
      dead_by n x =
          if is_to i (call_of x.state j) then returned j (given j (n ∷ 0 ∷ []) (closed j Restart x))
          else (if awaits i (listen_of x.state j)
          then returned j (given j (n ∷ 0 ∷ 0 ∷ 0 ∷ 0 ∷ 0 ∷ []) (changed (without_listen j) x))
          else x)

  pub alike-restarted : (g : Setup) (i : ℕ) (start : Bool) (t u : Turn) → IsAlike w t u → IsAlike w (restarted g i start t) (restarted g i start u)
  unfolding restarted
  alike-restarted g i start t u h =
      let born = alike-reborn g i start _ _ (alike-no_listen w a i _ _ (alike-closed w a i Restart t u h)) in
      let n = sym (count_alike w.birth t.state u.state h.state) in
      rw n (alike-fold w a (dead_answered i) (range_with_len 0 (length t.state.tasks)) _ _ (λ j p q k. alike-noted_dead i j p q k)
      (alike-noted_always w a _ _ _ _ (ap (λ k. note.Restart i k) (generation_same w a i _ _ born)) refl born))

  -- ## what a kernel message asks for

  -- its message names a task; what it does goes by no bytes but those of its message
  record IsAlikeRequest (o : Request) : Type 0 where
    names : 4 ≤ o.message
    does : (g : Setup) (x : SendArgs) (index : ℕ) (t u : Turn) → ((y : ℕ) → x.message_base ≤ y → y < x.message_base + o.message → w.sees y ≡ true) → IsAlike w t u → IsAlike w (o.does g x index t) (o.does g x index u)

  alike-status_given : (x : SendArgs) (index : ℕ) (t u : Turn) → IsAlike w t u → IsAlike w (status_given x index t) (status_given x index u)
  alike-status_given x index t u h = go (task_at t.state index).health (task_at u.state index).health (ap (λ (y : Task). y.health) (the_task w a index t u h))
    where
      go : (y z : Health) → y ≡ z → IsAlike w (stored Own x.reply_base (status_bytes y) t) (stored Own x.reply_base (status_bytes z) u)
      go y z e = rw (sym e) (alike-stored w a Own x.reply_base (status_bytes y) t u h)

  -- it has a second word, which says whether the task is started
  alike-restart_made : (g : Setup) (x : SendArgs) (index : ℕ) (t u : Turn) → ((y : ℕ) → x.message_base ≤ y → y < x.message_base + 8 → w.sees y ≡ true) → IsAlike w t u → IsAlike w (restart_made g x index t) (restart_made g x index u)
  alike-restart_made g x index t u see h = go (number_at t.state.memory (x.message_base + 4) 4) (number_at u.state.memory (x.message_base + 4) 4) same
    where
      same : number_at t.state.memory (x.message_base + 4) 4 ≡ number_at u.state.memory (x.message_base + 4) 4
      same = ap number_of (bytes_alike w.sees t.state.memory u.state.memory (x.message_base + 4) 4 h.memory (λ y lo hi. see y (omega arith) (omega arith)))

      go : (y z : ℕ) → y ≡ z → IsAlike w (restarted g index (not (eqb y 0)) t) (restarted g index (not (eqb z 0)) u)
      go y z e = rw (sym e) (alike-restarted g index (not (eqb y 0)) t u h)

  alike-injected : (g : Setup) (i : ℕ) (t u : Turn) → IsAlike w t u → IsAlike w (injected g i t) (injected g i u)
  unfolding injected
  alike-injected g i t u h = go (task_at t.state i).health (task_at u.state i).health (ap (λ (x : Task). x.health) (the_task w a i t u h))
    where
      same : (x : Health) → IsAlike w (injected_by g i x t) (injected_by g i x u)
      same Well = alike-faulted w a g i injected_fault t u h
      same Stopped = alike-faulted w a g i injected_fault t u h
      same (Faulted f) = h

      go : (x y : Health) → x ≡ y → IsAlike w (injected_by g i x t) (injected_by g i y u)
      go x y e = rw (sym e) (same x)

  found_same : (index : ℕ) (t u : Turn) → IsAlike w t u → first_faulted t.state index ≡ first_faulted u.state index
  found_same index t u h =
      let health : (i : ℕ) → (task_at t.state i).health ≡ (task_at u.state i).health = λ i. ap (λ (x : Task). x.health) (the_task w a i t u h) in
      let n = count_alike w.birth t.state u.state h.state in
      λ j. unwrap_or (find (λ i. is_faulted (health i j)) (range_with_len index (n j - index))) 0

  alike-fault_found : (x : SendArgs) (index : ℕ) (t u : Turn) → IsAlike w t u → IsAlike w (fault_found x index t) (fault_found x index u)
  alike-fault_found x index t u h = go (first_faulted t.state index) (first_faulted u.state index) (found_same index t u h)
    where
      go : (m n : ℕ) → m ≡ n → IsAlike w (noted (note.Find index m) (stored Own x.reply_base (word_bytes m) t)) (noted (note.Find index n) (stored Own x.reply_base (word_bytes n) u))
      go m n e = rw (sym e) (alike-noted w a (note.Find index m) _ _ refl (alike-stored w a Own x.reply_base (word_bytes m) t u h))

  -- one fact for each request
  alike-requests : EachRequest IsAlikeRequest requests
  alike-requests = (
    record { names = omega arith; does = λ g x index t u see h. alike-status_given x index t u h },
    (
      record { names = omega arith; does = λ g x index t u see h. alike-restart_made g x index t u see h },
      (
        record { names = omega arith; does = λ g x index t u see h. alike-injected g index t u h },
        (record { names = omega arith; does = λ g x index t u see h. alike-fault_found x index t u h }, tt),
      ),
    ),
  )

  -- ## the rows of a kernel message

  alike-served : (g : Setup) (c : ℕ) (x : SendArgs) (o : Option Request) (t u : Turn) → ((y : ℕ) → x.message_base ≤ y → y < x.message_base + x.message_length → w.sees y ≡ true) → IfSome o IsAlikeRequest → IsAlike w t u → IsAlike w (served g c x o t) (served g c x o u)
  alike-served g c x None t u see request h = alike-misused w a g c (usage_number BadKernelMessage) t u h
  alike-served g c x (Some o) t u see request h =
      by_case (IsAlike w) (not (eqb x.message_length o.message && leb o.reply x.reply_capacity)) (alike-misused w a g c (usage_number BadKernelMessage) t u h) (λ fit.
      rest (eqb-true _ _ (fits (eqb x.message_length o.message) (leb o.reply x.reply_capacity) fit)))
    where
      named : ℕ → ℕ → Turn → Turn
      named index count v =
          if leb count index then misused g c (usage_number BadTaskIndex) v
          else (if eqb index 0 && not o.on_supervisor then misused g c (usage_number BadKernelMessage) v
          else goes_on_with c (0 ∷ o.reply ∷ []) (o.does g x index v))

      rest : x.message_length ≡ o.message → IsAlike w (named (number_at t.state.memory x.message_base 4) (length t.state.tasks) t) (named (number_at u.state.memory x.message_base 4) (length u.state.tasks) u)
      rest same = go _ _ word
        where
          word : number_at t.state.memory x.message_base 4 ≡ number_at u.state.memory x.message_base 4
          word = let four = request.names in ap number_of (bytes_alike w.sees t.state.memory u.state.memory x.message_base 4 h.memory (λ y lo hi. see y lo (omega arith)))

          go : (i j : ℕ) → i ≡ j → IsAlike w (named i (length t.state.tasks) t) (named j (length u.state.tasks) u)
          go i j e =
              rw (sym e) (
              by_test (IsAlike w) (leb (length t.state.tasks) i) (leb (length u.state.tasks) i) (ap (λ n. leb n i) (count_alike w.birth t.state u.state h.state)) (alike-misused w a g c (usage_number BadTaskIndex) t u h) (
              by_same (IsAlike w) (eqb i 0 && not o.on_supervisor) (alike-misused w a g c (usage_number BadKernelMessage) t u h)
              (alike-goes_on_with w a c (0 ∷ o.reply ∷ []) _ _ (request.does g x i t u (λ y lo hi. see y lo (omega arith)) h))))

  pub alike-requested : (g : Setup) (c : ℕ) (t u : Turn) → IsOpen w g c → IsAlike w t u → IsAlike w (requested g c t) (requested g c u)
  unfolding requested
  alike-requested g c t u open_to h =
      let e = args w a c t u h in
      let x = send_args (arguments t.state c) in
      let bad = bad_byte g c ToRead (message_of x) in
      let worse = bad_byte g c ToWrite (reply_room x) in
      rw e (
      by_same (IsAlike w) (not (eqb c 0)) (alike-misused w a g c (usage_number NotSupervisor) t u h) (
      by_same (IsAlike w) (not (is_valid (message_of x)) || not (is_valid (reply_room x))) (alike-misused w a g c (usage_number InvalidSlice) t u h) (
      by_case (IsAlike w) (is_some bad) (alike-denied w a g c (access_number KernelRead) bad t u h) (λ clear.
      by_same (IsAlike w) (is_some worse) (alike-denied w a g c (access_number KernelWrite) worse t u h)
      (alike-served g c x (request_of x.operation) t u (checked_seen w g c open_to ToRead (message_of x) clear) (each_found IsAlikeRequest requests x.operation alike-requests) h)))))
