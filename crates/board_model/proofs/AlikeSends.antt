-- SEND, REPLY, REPLY_FAULT, POST and REFRESH_TASK_ID leave alike turns alike.
use Rattle.std.proofs.Common.{◌≡◌, ◌+◌, ◌*◌, ◌||◌, ℕ, not, ltb, eqb, is_some, [], ◌∷◌, Option, Some, None, refl, sym, ◌∙◌, ap, subst}
use Rattle.std.specs.Prelude.{option_map}
use Rattle.kernel_abi.specs.Arguments.{send_args, reply_args, id_args}
use Rattle.kernel_abi.specs.Faults.{usage_number, access_number}
use Rattle.kernel_abi.specs.Ids.{index_of}
use Rattle.kernel_abi.specs.declared.Access.TheVariants.{KernelRead, KernelWrite}
use Rattle.kernel_abi.specs.declared.Ending.TheVariants as ending
use Rattle.kernel_abi.specs.declared.Note.TheVariants as note
use Rattle.kernel_abi.specs.declared.Usage.TheVariants.{BadTaskIndex, InvalidSlice, ReplyTooBig, BadReason}
use Rattle.kernel_abi.specs.declared.arguments.ReplyArgs.{ReplyArgs}
use Rattle.kernel_abi.specs.declared.arguments.SendArgs.{SendArgs}
use Rattle.region_check.specs.declared.Right.TheVariants.{Read as ToRead, Write as ToWrite}
use Rattle.task_table.specs.model.State.{Setup, Task, State, Birth, Call, One, Listen, Turn, Message, Reply}
use Rattle.task_table.specs.model.Reading.{task_at, arguments, present, present_id, listen_of, is_out, is_dead, admits, is_valid, bad_byte}
use Rattle.task_table.specs.model.Effects.{with_call, returned, past_syscall, offered, handed, faulted_as}
use Rattle.task_table.specs.model.Rows.{goes_on}
use Rattle.task_table.specs.model.Sends.{message_of, reply_room, table_of, call_made, taken_at_once, sends, sent, reply_of, replied_to, replied, reply_fault_of, last_reason, reply_faulted_to, reply_faulted, post_made, refreshed}
use Rattle.board_model.specs.Alike.{Viewer, IsAttentive, seen_birth, seen_call, seen_from, seen_listen, IsAlike, IsAlikeWhereSeen}
use Rattle.board_model.proofs.Alike.{listen_alike, taken_alike, next_call_alike, alike-with_call}
use Rattle.board_model.proofs.AlikeRows.{by_test, by_same, by_case, the_task, surely, alike-noted_always, alike-changed, alike-given, alike-past_syscall, alike-closed, alike-returned, alike-copied, alike-posted, alike-faulted_as, alike-handed, where_seen-returned, alike-misused, alike-denied, alike-goes_on, alike-goes_on_with, alike-answers, args, is_out_same, is_dead_same, dead_code_same, generation_same}
use Rattle.board_model.proofs.Sight.{IsOpen, checked_seen}
use Rattle.board_model.proofs.Births.{AreTellable, notable_past_syscall, admits_same}

module _ (w : Viewer) (a : IsAttentive w) where
  -- what takes a call, and does not look at its births
  pub by_seen : (P : Turn → Turn → Type 0) (f : Call → Turn) → ((k : Call) → f (seen_call w.birth k) ≡ f k) → (k m : Call) → seen_call w.birth k ≡ seen_call w.birth m → (t : Turn) → P t (f k) → P t (f m)
  by_seen P f blind k m same t h = subst (P t) (sym (blind k) ∙ ap f same ∙ blind m) h

  pub id_same : (i : ℕ) (t u : Turn) → IsAlike w t u → present_id t.state i ≡ present_id u.state i
  unfolding present_id
  id_same i t u h = ap (λ n. i + 1024 * n) (generation_same w a i t u h)

  alike-offered : (k m : Call) (t u : Turn) → seen_call w.birth k ≡ seen_call w.birth m → IsAlike w t u → IsAlike w (offered k t) (offered m u)
  unfolding offered with_call
  alike-offered k m t u same h =
      alike-noted_always w a _ _ _ _ (ap (λ (x : Call). note.Offer x.number x.client.index x.server.index) same) refl
      (alike-changed w a _ _ t u (alike-with_call w.birth k m t.state u.state same h.state) refl refl h)

  alike-taken_at_once : (k m : Call) (l n : Option Listen) (t u : Turn) → seen_call w.birth k ≡ seen_call w.birth m → option_map (seen_listen w.birth) l ≡ option_map (seen_listen w.birth) n →
      ((x y : Listen) → l ≡ Some x → n ≡ Some y → admits x.from k.client ≡ admits y.from m.client) → IsAlike w t u → IsAlikeWhereSeen w (taken_at_once k l t) (taken_at_once m n u)
  alike-taken_at_once k m None None t u same e same_admits h = surely w a h
  alike-taken_at_once k m None (Some y) t u same e same_admits h = absurd cc
  alike-taken_at_once k m (Some x) None t u same e same_admits h = absurd cc
  alike-taken_at_once k m (Some x) (Some y) t u same e same_admits h =
      by_test (IsAlikeWhereSeen w) (admits x.from k.client) (admits y.from m.client) (same_admits x y refl refl) taken (surely w a h)
    where
      inner : seen_listen w.birth x ≡ seen_listen w.birth y
      inner = cc

      buffers : x.buffer ≡ y.buffer
      buffers = ap (λ (z : Listen). z.buffer) inner

      servers : k.server.index ≡ m.server.index
      servers = ap (λ (z : Call). z.server.index) same

      numbers : k.number ≡ m.number
      numbers = ap (λ (z : Call). z.number) same

      taken : IsAlikeWhereSeen w (returned k.server.index (handed (Message k.number) k x.buffer t)) (returned m.server.index (handed (Message m.number) m y.buffer u))
      taken = subst (λ (z : Turn). IsAlikeWhereSeen w (returned k.server.index (handed (Message k.number) k x.buffer t)) z)
          (λ j. returned (servers j) (handed (Message (numbers j)) m (buffers j) u))
          (where_seen-returned w a k.server.index _ _ (alike-handed w a (Message k.number) k m x.buffer t u same h))

  -- SEND
  alike-sends : (c server : ℕ) (x : SendArgs) (t u : Turn) → AreTellable w.birth t.state → AreTellable w.birth u.state → IsAlike w t u → IsAlikeWhereSeen w (sends c x server t) (sends c x server u)
  alike-sends c server x t u tell tell' h =
      let p = past_syscall c t in
      let q = past_syscall c u in
      let k = alike-past_syscall w a c t u h in
      let births : (i : ℕ) → seen_birth w.birth (present p.state i) ≡ seen_birth w.birth (present q.state i) = λ i. ap (λ (y : Task). record { index = i; birth = y.births }) (the_task w a i p q k) in
      let number = next_call_alike w.birth p.state q.state k.state in
      let same : seen_call w.birth (call_made p.state c x server) ≡ seen_call w.birth (call_made q.state c x server) = λ j. record (seen_call w.birth (call_made p.state c x server)) { number = number j; client = births c j; server = births server j } in
      alike-taken_at_once (call_made p.state c x server) (call_made q.state c x server) _ _ _ _ same (listen_alike w.birth p.state q.state server k.state)
      (λ l n e r. admits_same w.birth l.from n.from (present p.state c) (present q.state c) (listens_same (listen_of p.state server) (listen_of q.state server) l n (listen_alike w.birth p.state q.state server k.state) e r) (births c)
      (λ b f i v. noted_so_at p.state (notable_past_syscall w.birth c t tell) server l b e f c i v) (λ b f i v. noted_so_at q.state (notable_past_syscall w.birth c u tell') server n b r f c i v))
      (alike-offered _ _ p q same k)
    where
      listens_same : (o p : Option Listen) (l n : Listen) → option_map (seen_listen w.birth) o ≡ option_map (seen_listen w.birth) p → o ≡ Some l → p ≡ Some n → seen_from w.birth l.from ≡ seen_from w.birth n.from
      listens_same o p l n e x y = ap (λ (z : Listen). z.from) (some_same (ap (option_map (seen_listen w.birth)) (sym x) ∙ e ∙ ap (option_map (seen_listen w.birth)) y))
        where
          some_same : {A : Type 0} {f k : A} → Some f ≡ Some k → f ≡ k
          some_same z = cc

      noted_so_at : (s : State) → AreTellable w.birth s → (i : ℕ) (l : Listen) (b : Birth) → listen_of s i ≡ Some l → l.from ≡ One b → (j : ℕ) → b.index ≡ j → w.birth b.birth ≡ w.birth (task_at s j).births → b.birth ≡ (task_at s j).births
      noted_so_at s tells i l b e f j same v = tells i l b e f (v ∙ ap (λ n. w.birth (task_at s n).births) (sym same)) ∙ ap (λ n. (task_at s n).births) same

  pub alike-sent : (g : Setup) (c : ℕ) (t u : Turn) → AreTellable w.birth t.state → AreTellable w.birth u.state → IsAlike w t u → IsAlikeWhereSeen w (sent g c t) (sent g c u)
  unfolding sent
  alike-sent g c t u tell tell' h =
      let e = args w a c t u h in
      let x = send_args (arguments t.state c) in
      let id = x.recipient.number in
      let bad = bad_byte g c ToRead (message_of x) in
      let worse = bad_byte g c ToWrite (reply_room x) in
      rw e (
      by_test (IsAlikeWhereSeen w) (is_out t.state id || eqb (index_of id) c) (is_out u.state id || eqb (index_of id) c) (ap (λ b. b || eqb (index_of id) c) (is_out_same w a id t u h)) (surely w a (alike-misused w a g c (usage_number BadTaskIndex) t u h)) (
      by_same (IsAlikeWhereSeen w) (not (is_valid (message_of x)) || (not (is_valid (reply_room x)) || not (is_valid (table_of x)))) (surely w a (alike-misused w a g c (usage_number InvalidSlice) t u h)) (
      by_same (IsAlikeWhereSeen w) (is_some bad) (surely w a (alike-denied w a g c (access_number KernelRead) bad t u h)) (
      by_same (IsAlikeWhereSeen w) (is_some worse) (surely w a (alike-denied w a g c (access_number KernelWrite) worse t u h)) (
      by_test (IsAlikeWhereSeen w) (is_dead t.state id) (is_dead u.state id) (is_dead_same w a id t u h) (surely w a (alike-answers w a c _ _ t u (ap (λ n. n ∷ 0 ∷ []) (sym (dead_code_same w a id t u h))) h))
      (alike-sends c (index_of id) x t u tell tell' h))))))

  -- REPLY
  alike-replied_to : (g : Setup) (c : ℕ) (x : ReplyArgs) (o p : Option Call) (t u : Turn) → IsOpen w g c → option_map (seen_call w.birth) o ≡ option_map (seen_call w.birth) p → IsAlike w t u → IsAlike w (replied_to g c x o t) (replied_to g c x p u)
  alike-replied_to g c x None None t u open_to e h = alike-goes_on w a c t u h
  alike-replied_to g c x None (Some m) t u open_to e h = absurd cc
  alike-replied_to g c x (Some k) None t u open_to e h = absurd cc
  alike-replied_to g c x (Some k) (Some m) t u open_to e h =
      by_seen (IsAlike w) (λ y. replied_to g c x (Some y) u) (λ y. refl) k m inner _
      (by_same (IsAlike w) (not (is_valid (reply_of x))) (alike-misused w a g c (usage_number InvalidSlice) t u h) (
      by_case (IsAlike w) (is_some (bad_byte g c ToRead (reply_of x))) (alike-denied w a g c (access_number KernelRead) (bad_byte g c ToRead (reply_of x)) t u h) (λ clear.
      by_same (IsAlike w) (ltb k.reply.len x.reply_length) (alike-misused w a g c (usage_number ReplyTooBig) t u h)
      (alike-goes_on w a c _ _ (alike-returned w a k.client.index _ _ (alike-given w a k.client.index (x.code ∷ x.reply_length ∷ []) _ _ (alike-closed w a k.client.index ending.Reply _ _ (alike-copied w a (Reply k.number) x.reply_base k.reply.base x.reply_length t u (checked_seen w g c open_to ToRead (reply_of x) clear) h))))))))
    where
      inner : seen_call w.birth k ≡ seen_call w.birth m
      inner = cc

  pub alike-replied : (g : Setup) (c : ℕ) (t u : Turn) → IsOpen w g c → IsAlike w t u → IsAlike w (replied g c t) (replied g c u)
  unfolding replied
  alike-replied g c t u open_to h =
      let e = args w a c t u h in
      let x = reply_args (arguments t.state c) in
      let id = x.client.number in
      rw e (
      by_test (IsAlike w) (is_out t.state id) (is_out u.state id) (is_out_same w a id t u h) (alike-misused w a g c (usage_number BadTaskIndex) t u h) (
      by_test (IsAlike w) (is_dead t.state id) (is_dead u.state id) (is_dead_same w a id t u h) (alike-goes_on w a c t u h)
      (alike-replied_to g c x _ _ t u open_to (taken_alike w.birth t.state u.state (index_of id) c h.state) h)))

  -- REPLY_FAULT
  alike-reply_faulted_to : (g : Setup) (c reason : ℕ) (o p : Option Call) (t u : Turn) → option_map (seen_call w.birth) o ≡ option_map (seen_call w.birth) p → IsAlike w t u → IsAlike w (reply_faulted_to g c reason o t) (reply_faulted_to g c reason p u)
  alike-reply_faulted_to g c reason None None t u e h = alike-goes_on w a c t u h
  alike-reply_faulted_to g c reason None (Some m) t u e h = absurd cc
  alike-reply_faulted_to g c reason (Some k) None t u e h = absurd cc
  alike-reply_faulted_to g c reason (Some k) (Some m) t u e h =
      by_seen (IsAlike w) (λ y. reply_faulted_to g c reason (Some y) u) (λ y. refl) k m inner _
      (subst (λ (n : ℕ). IsAlike w (goes_on c (faulted_as g k.client.index (reply_fault_of t.state c reason) ending.ReplyFault t)) (goes_on c (faulted_as g k.client.index record { number = 10; x = n; y = reason } ending.ReplyFault u)))
      (id_same c t u h)
      (alike-goes_on w a c _ _ (alike-faulted_as w a g k.client.index (reply_fault_of t.state c reason) ending.ReplyFault t u h)))
    where
      inner : seen_call w.birth k ≡ seen_call w.birth m
      inner = cc

  pub alike-reply_faulted : (g : Setup) (c : ℕ) (t u : Turn) → IsAlike w t u → IsAlike w (reply_faulted g c t) (reply_faulted g c u)
  unfolding reply_faulted
  alike-reply_faulted g c t u h =
      let e = args w a c t u h in
      let x = reply_args (arguments t.state c) in
      let id = x.client.number in
      rw e (
      by_test (IsAlike w) (is_out t.state id) (is_out u.state id) (is_out_same w a id t u h) (alike-misused w a g c (usage_number BadTaskIndex) t u h) (
      by_same (IsAlike w) (ltb last_reason x.code) (alike-misused w a g c (usage_number BadReason) t u h) (
      by_test (IsAlike w) (is_dead t.state id) (is_dead u.state id) (is_dead_same w a id t u h) (alike-goes_on w a c t u h)
      (alike-reply_faulted_to g c x.code _ _ t u (taken_alike w.birth t.state u.state (index_of id) c h.state) h))))

  -- POST and REFRESH_TASK_ID
  pub alike-post_made : (g : Setup) (c : ℕ) (t u : Turn) → IsAlike w t u → IsAlike w (post_made g c t) (post_made g c u)
  unfolding post_made
  alike-post_made g c t u h =
      let e = args w a c t u h in
      let x = id_args (arguments t.state c) in
      let id = x.id.number in
      rw e (
      by_test (IsAlike w) (is_out t.state id) (is_out u.state id) (is_out_same w a id t u h) (alike-misused w a g c (usage_number BadTaskIndex) t u h) (
      by_test (IsAlike w) (is_dead t.state id) (is_dead u.state id) (is_dead_same w a id t u h) (alike-answers w a c _ _ t u (ap (λ n. n ∷ []) (sym (dead_code_same w a id t u h))) h)
      (alike-goes_on_with w a c (0 ∷ []) _ _ (alike-posted w a (index_of id) x.bits t u h))))

  pub alike-refreshed : (g : Setup) (c : ℕ) (t u : Turn) → IsAlike w t u → IsAlike w (refreshed g c t) (refreshed g c u)
  unfolding refreshed
  alike-refreshed g c t u h =
      let e = args w a c t u h in
      let id = (id_args (arguments t.state c)).id.number in
      rw e (
      by_test (IsAlike w) (is_out t.state id) (is_out u.state id) (is_out_same w a id t u h) (alike-misused w a g c (usage_number BadTaskIndex) t u h)
      (alike-answers w a c _ _ t u (ap (λ n. n ∷ []) (id_same (index_of id) t u h)) h))
