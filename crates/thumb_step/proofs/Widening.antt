-- A step that goes on does the same with more rights, and fetches the same.
use Rattle.std.proofs.Common.{◌≡◌, ℕ, ◌+◌, ◌*◌, ◌^◌, Bool, true, false, cond, List, Option, Some, None, Result, Ok, Err, refl, sym, ap, ◌∙◌}
use Rattle.kernel_abi.specs.declared.Fault.{Fault}
use Rattle.region_check.specs.declared.Right.TheVariants.{Execute}
use Rattle.words_core.specs.Regs.{reg_at}
use Rattle.thumb_insn.specs.Table.{decoded_of, is_wide}
use Rattle.thumb_exec.specs.declared.cpu.Cpu.{Cpu}
use Rattle.thumb_exec.specs.Effect.{Next, Move, Refusals, Contents}
use Rattle.thumb_exec.proofs.Widening.{effect_wider}
use Rattle.thumb_exec.specs.declared.fetch.Fetched.{Fetched}
use Rattle.thumb_exec.specs.Fetch.{WidensFetch, instruction, unless_barred, after, fetched_wide, fetched_by, fetched, executed, step_effect}

-- if a gives an instruction, b gives the same
abbrev Gives : Result Fetched Fault → Result Fetched Fault → Type 0
Gives a b = (f : Fetched) → a ≡ Ok f → b ≡ Ok f

granted : (o o' : Option ℕ) (at : ℕ) (a b : Result Fetched Fault) → (o ≡ None → o' ≡ None) → (o ≡ None → Gives a b) → Gives (unless_barred o at a) (unless_barred o' at b)
granted None o' at a b more g f e = rw (more refl) (g refl f e)
granted (Some byte) o' at a b more g f e = absurd cc

either : (w : Bool) (a b n : Result Fetched Fault) → Gives a b → Gives (cond w a n) (cond w b n)
either true a b n g f e = g f e
either false a b n g f e = e

same : (a b : Result Fetched Fault) → a ≡ b → Gives a b
same a b s f e = sym s ∙ e

wide_wider : (R R' : Refusals) (H H' : Contents) → WidensFetch R R' H H' → (at first : ℕ) → Gives (fetched_wide R H at first) (fetched_wide R' H' at first)
wide_wider R R' H H' w at first = granted (R (after at) 2 Execute) (R' (after at) 2 Execute) (after at) _ _ (w.widens.granted (after at) 2 Execute) (λ e. same _ _ (ap (λ (second : ℕ). instruction at (first * 2 ^ 16 + second) (decoded_of first (Some second))) (w.fetches (after at) e)))

by_wider : (R R' : Refusals) (H H' : Contents) → WidensFetch R R' H H' → (at first : ℕ) → Gives (fetched_by R H at first) (fetched_by R' H' at first)
by_wider R R' H H' w at first = either (is_wide first) _ _ _ (wide_wider R R' H H' w at first)

-- an instruction that is fetched is also fetched with more rights
pub fetched_wider : (R R' : Refusals) (H H' : Contents) → WidensFetch R R' H H' → (at : ℕ) → Gives (fetched R H at) (fetched R' H' at)
fetched_wider R R' H H' w at = granted (R at 2 Execute) (R' at 2 Execute) at _ _ (w.widens.granted at 2 Execute) (λ e. rw (sym (w.fetches at e)) (by_wider R R' H H' w at (H at 2)))

executed_wider : (R R' : Refusals) (H H' : Contents) → WidensFetch R R' H H' → (c : Cpu) (a b : Result Fetched Fault) → Gives a b → (d : Cpu) (ss : List Move) → executed R H c a ≡ Next d ss → executed R' H' c b ≡ Next d ss
executed_wider R R' H H' w c (Ok f) b g d ss s = rw (g f refl) (effect_wider R R' H H' w.widens c f.insn d ss s)
executed_wider R R' H H' w c (Err fault) b g d ss s = absurd cc

pub step_wider : (R R' : Refusals) (H H' : Contents) → WidensFetch R R' H H' → (c d : Cpu) (ss : List Move) → step_effect R H c ≡ Next d ss → step_effect R' H' c ≡ Next d ss
step_wider R R' H H' w c d ss = executed_wider R R' H H' w c (fetched R H (reg_at c.regs 15)) (fetched R' H' (reg_at c.regs 15)) (fetched_wider R R' H H' w (reg_at c.regs 15)) d ss
