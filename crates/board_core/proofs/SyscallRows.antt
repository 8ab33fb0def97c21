-- The row of a system call, by the number in r11.
use Rattle.std.proofs.Common.{◌≡◌, ◌<◌, ◌≤◌, ℕ, List, false, refl, sym, ◌∙◌, ap, subst, arith, ◌==◌, lit≤}
use Rattle.kernel_abi.specs.Devices.{DeviceData}
use Rattle.kernel_abi.specs.Syscalls.{syscall_number}
use Rattle.kernel_abi.specs.declared.syscalls.Syscall.{Syscall}
use Rattle.task_table.specs.model.State.{Setup, Turn}
use Rattle.task_table.specs.model.Reading.{register}
use Rattle.task_table.specs.model.Rows.{misused}
use Rattle.task_table.specs.model.Syscalls.{Meaning, syscalls, meaning_among, syscall_made}
use Rattle.task_table.specs.kept.Holds.{Holds, Stands}
use Rattle.task_table.specs.kept.Frames.{AddsAtMost}
use Rattle.task_table.specs.kept.Calls.{Performs, PerformsOver}
use Rattle.task_table.specs.declared.kernel.Kernel.{Kernel}
use Rattle.run_script.proofs.Coming.{is_other}

made_by : (g : Setup) (c n : ℕ) (t : Turn) → n ≡ register t.state c 11 → meaning_among syscalls n g c t ≡ syscall_made g c t
unfolding syscall_made
made_by g c n t e = ap (λ i. meaning_among syscalls i g c t) e

-- a number above those that there are is none of them
none_of : (n m : ℕ) → 13 < n → m ≤ 13 → (n == m) ≡ false
none_of n m above few = is_other n m (λ e. omega arith)

module _ (ds : List DeviceData) (k k' : Kernel) (c n : ℕ) (at : (g : Setup) (t : Turn) → Holds g k t → n ≡ register t.state c 11) where
  -- the system call whose number it is, with these devices
  pub row_over : (call made : Syscall) → made ≡ call → syscall_number made ≡ n → PerformsOver ds (meaning_among syscalls (syscall_number call)) k c k' → PerformsOver ds syscall_made k c k'
  row_over call made is number p =
      let same : syscall_number call ≡ n = ap syscall_number (sym is) ∙ number in
      record {
        stands = λ g t st devices ready. subst (Stands g k') (made_by g c (syscall_number call) t (same ∙ at g t st.holds)) (p.stands g t st devices ready);
        frame = p.frame;
      }

  -- one that looks at no device
  pub row : (call made : Syscall) → made ≡ call → syscall_number made ≡ n → Performs (meaning_among syscalls (syscall_number call)) k c k' → PerformsOver ds syscall_made k c k'
  row call made is number p = row_over call made is number record { stands = λ g t st devices ready. p.stands g t st ready; frame = p.frame }

  pub no_row : 13 < n → Performs (λ g i. misused g i 1) k c k' → PerformsOver ds syscall_made k c k'
  no_row above p =
      record {
        stands = λ g t st devices ready.
            let is : meaning_among syscalls n g c t ≡ misused g c 1 t = rw (none_of n 0 above (lit≤ tt), none_of n 1 above (lit≤ tt), none_of n 2 above (lit≤ tt), none_of n 3 above (lit≤ tt), none_of n 4 above (lit≤ tt), none_of n 5 above (lit≤ tt), none_of n 6 above (lit≤ tt), none_of n 7 above (lit≤ tt), none_of n 8 above (lit≤ tt), none_of n 9 above (lit≤ tt), none_of n 10 above (lit≤ tt), none_of n 11 above (lit≤ tt), none_of n 12 above (lit≤ tt), none_of n 13 above (lit≤ tt)) refl in
            subst (Stands g k') (sym is ∙ made_by g c n t (at g t st.holds)) (p.stands g t st ready);
        frame = p.frame;
      }

-- what is done for a caller that need not be ready
pub of_any : (row : Meaning) (k k' : Kernel) (c : ℕ) → ((g : Setup) (t : Turn) → Stands g k t → Stands g k' (row g c t)) → AddsAtMost k 4 k' → Performs row k c k'
of_any row k k' c stands frame = record { stands = λ g t st ready. stands g t st; frame = record { notes = let few = frame.notes in omega (arith, few); tasks = frame.tasks; setup = frame.setup } }
