-- The system call of a task leaves alike turns alike, where what it reads is seen.
use Rattle.std.proofs.Common.{ℕ, eqb, List, [], ◌∷◌}
use Rattle.std.specs.Prelude.{if◌then◌else◌}
use Rattle.kernel_abi.specs.Faults.{usage_number}
use Rattle.kernel_abi.specs.declared.Usage.TheVariants.{BadCall}
use Rattle.task_table.specs.model.State.{Setup, Turn}
use Rattle.task_table.specs.model.Reading.{register, syscall_selector}
use Rattle.task_table.specs.model.Requests.{requested}
use Rattle.task_table.specs.model.Sends.{sent}
use Rattle.task_table.specs.model.Syscalls.{Meaning, is_to_kernel, syscalls, meaning_among, syscall_made}
use Rattle.task_table.proofs.model.Meanings.{EachMeaning}
use Rattle.board_model.specs.Alike.{Viewer, IsAttentive, IsAlike, IsAlikeWhereSeen}
use Rattle.board_model.proofs.Alike.{best_alike}
use Rattle.board_model.proofs.AlikeRows.{by_same, surely, alike-misused, args, word, alike-received, alike-timer_set, alike-timer_answered, alike-irq_controlled, alike-irq_answered, alike-panicked}
use Rattle.board_model.proofs.AlikeSends.{alike-sent, alike-replied, alike-reply_faulted, alike-post_made, alike-refreshed}
use Rattle.board_model.proofs.AlikeBorrows.{alike-reading, alike-writing, alike-informed}
use Rattle.board_model.proofs.AlikeRequests.{alike-requested}
use Rattle.board_model.proofs.Sight.{IsOpen}
use Rattle.board_model.proofs.Births.{AreTellable}

module _ (w : Viewer) (a : IsAttentive w) where
  -- to the kernel, or to a task
  alike-sent_anywhere : (g : Setup) (c : ℕ) (t u : Turn) → IsOpen w g c → AreTellable w.birth t.state → AreTellable w.birth u.state → IsAlike w t u → IsAlikeWhereSeen w (if is_to_kernel t.state c then requested g c t else sent g c t) (if is_to_kernel u.state c then requested g c u else sent g c u)
  alike-sent_anywhere g c t u open_to tell tell' h =
      let e = args w a c t u h in
      rw e (by_same (IsAlikeWhereSeen w) (is_to_kernel t.state c) (surely w a (alike-requested w a g c t u open_to h)) (alike-sent w a g c t u tell tell' h))

  alike-among : (list : List (ℕ × Meaning)) (n : ℕ) (g : Setup) (c : ℕ) (t u : Turn) → IsAlike w t u → EachMeaning (λ m. IsAlikeWhereSeen w (m g c t) (m g c u)) list → IsAlikeWhereSeen w (meaning_among list n g c t) (meaning_among list n g c u)
  alike-among [] n g c t u h each = surely w a (alike-misused w a g c (usage_number BadCall) t u h)
  alike-among (call ∷ list) n g c t u h each = by_same (IsAlikeWhereSeen w) (eqb n call.0) each.0 (alike-among list n g c t u h each.1)

  -- one fact for each system call
  alike-each : (g : Setup) (c : ℕ) (t u : Turn) → IsOpen w g c → AreTellable w.birth t.state → AreTellable w.birth u.state → IsAlike w t u → EachMeaning (λ m. IsAlikeWhereSeen w (m g c t) (m g c u)) syscalls
  alike-each g c t u open_to tell tell' h = (
    alike-sent_anywhere g c t u open_to tell tell' h,
    (
      alike-received w a g c _ _ t u (best_alike w.birth g t.state u.state c h.state) h,
      (
        surely w a (alike-replied w a g c t u open_to h),
        (
          surely w a (alike-timer_set w a c t u h),
          (
            alike-reading w a g c t u open_to h,
            (
              alike-writing w a g c t u open_to h,
              (
                alike-informed w a g c t u h,
                (
                  surely w a (alike-irq_controlled w a g c t u h),
                  (
                    surely w a (alike-panicked w a g c t u h),
                    (
                      surely w a (alike-timer_answered w a c t u h),
                      (
                        surely w a (alike-refreshed w a g c t u h),
                        (
                          surely w a (alike-post_made w a g c t u h),
                          (surely w a (alike-reply_faulted w a g c t u h), (surely w a (alike-irq_answered w a g c t u h), tt)),
                        ),
                      ),
                    ),
                  ),
                ),
              ),
            ),
          ),
        ),
      ),
    ),
  )

  pub alike-syscall_made : (g : Setup) (c : ℕ) (t u : Turn) → IsOpen w g c → AreTellable w.birth t.state → AreTellable w.birth u.state → IsAlike w t u → IsAlikeWhereSeen w (syscall_made g c t) (syscall_made g c u)
  unfolding syscall_made
  alike-syscall_made g c t u open_to tell tell' h =
      let e = word w a c syscall_selector t u h in
      rw e (alike-among syscalls (register t.state c syscall_selector) g c t u h (alike-each g c t u open_to tell tell' h))
