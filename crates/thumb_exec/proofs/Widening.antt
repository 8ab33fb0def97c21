-- An instruction that goes on does the same with more rights.
use Rattle.std.proofs.Common.{◌≡◌, ℕ, ◌%◌, Bool, true, false, nat_eq, cond, List, [], ◌∷◌, Option, Some, None, refl, sym, ◌∙◌}
use Rattle.region_check.specs.declared.Right.{Right}
use Rattle.region_check.specs.declared.Right.TheVariants as right
use Rattle.kernel_abi.specs.declared.Access.{Access}
use Rattle.kernel_abi.specs.declared.Access.TheVariants as access
use Rattle.kernel_abi.specs.Faults.{unaligned_fault}
use Rattle.thumb_exec.specs.declared.cpu.Cpu.{Cpu}
use Rattle.words_core.specs.declared.Regs.{Regs}
use Rattle.thumb_insn.specs.declared.Reg.{Reg}
use Rattle.thumb_insn.specs.declared.Load.{Load}
use Rattle.thumb_insn.specs.declared.Load.TheVariants as load
use Rattle.thumb_insn.specs.declared.Size.{Size}
use Rattle.thumb_insn.specs.declared.Size.TheVariants as size
use Rattle.thumb_insn.specs.declared.Insn.{Insn}
use Rattle.thumb_insn.specs.declared.Insn.TheVariants.{LdrLiteral, LoadReg, LoadImm, LoadSp, StoreReg, StoreImm, StoreSp, Push, Pop, Stm, Ldm}
use Rattle.thumb_exec.specs.Effect.{Effect, Next, Trap, Move, effect, Refusals, Contents, load_effect, load_size, store_effect, size_of, unless_refused, unless_unaligned, first_refused, load_all, store_all, transfers, pop_next, ldm_next, with_bit}
use Rattle.thumb_exec.specs.Keeps.{Widens}
use Rattle.thumb_exec.proofs.Agreeing.{effect_same}
use Rattle.thumb_exec.proofs.Transfers.{allowed_here, allowed_later, refused_later, refused_none}

-- the second list of refusals grants what the first one grants
abbrev Grants : Refusals → Refusals → Type 0
Grants R R' = (a n : ℕ) (r : Right) → R a n r ≡ None → R' a n r ≡ None

-- if a goes on with d and ss, so does b
abbrev Follows : Effect → Effect → Type 0
Follows a b = (d : Cpu) (ss : List Move) → a ≡ Next d ss → b ≡ Next d ss

granted_later : (o o' : Option ℕ) (y : Access) (e : Effect) → (o ≡ None → o' ≡ None) → Follows (unless_refused o y e) (unless_refused o' y e)
granted_later None o' y e h d ss s = rw (h refl) s
granted_later (Some a) o' y e h d ss s = absurd cc

either : (b : Bool) (e f t : Effect) → Follows e f → Follows (cond b e t) (cond b f t)
either true e f t h d ss s = h d ss s
either false e f t h d ss s = s

aligned_later : (addr n : ℕ) (y : Bool) (e f : Effect) → Follows e f → Follows (unless_unaligned addr n y e) (unless_unaligned addr n y f)
aligned_later addr n y e f h = either (nat_eq (addr % n) 0) e f (Trap (unaligned_fault addr y)) h

all_granted : (R R' : Refusals) → Grants R R' → (r : Right) (ws : List (ℕ × ℕ)) → first_refused R r ws ≡ None → first_refused R' r ws ≡ None
all_granted R R' g r [] e = refused_none R' r
all_granted R R' g r (w ∷ ws) e =
    refused_later R' r w.0 w.1 ws (g w.1 4 r (allowed_here R r w.0 w.1 ws e)) ∙ all_granted R R' g r ws (allowed_later R r w.0 w.1 ws e)

load_later : (R R' : Refusals) (H : Contents) → Grants R R' → (c : Cpu) (k : Load) (t : Reg) (addr : ℕ) → Follows (load_effect R H c k t addr) (load_effect R' H c k t addr)
load_later R R' H g c k t addr = aligned_later addr (load_size k) false _ _ (granted_later (R addr (load_size k) right.Read) (R' addr (load_size k) right.Read) access.Load _ (g addr (load_size k) right.Read))

store_later : (R R' : Refusals) → Grants R R' → (c : Cpu) (s : Size) (t : Reg) (addr : ℕ) → Follows (store_effect R c s t addr) (store_effect R' c s t addr)
store_later R R' g c s t addr = aligned_later addr (size_of s) true _ _ (granted_later (R addr (size_of s) right.Write) (R' addr (size_of s) right.Write) access.Store _ (g addr (size_of s) right.Write))

load_all_later : (R R' : Refusals) (H : Contents) → Grants R R' → (c : Cpu) (mask addr : ℕ) (next : Regs → Effect) → Follows (load_all R H c mask addr next) (load_all R' H c mask addr next)
load_all_later R R' H g c mask addr next = aligned_later addr 4 false _ _ (granted_later (first_refused R right.Read (transfers mask addr)) (first_refused R' right.Read (transfers mask addr)) access.Load _ (all_granted R R' g right.Read (transfers mask addr)))

store_all_later : (R R' : Refusals) → Grants R R' → (c : Cpu) (mask addr : ℕ) (c' : Cpu) → Follows (store_all R c mask addr c') (store_all R' c mask addr c')
store_all_later R R' g c mask addr c' = aligned_later addr 4 true _ _ (granted_later (first_refused R right.Write (transfers mask addr)) (first_refused R' right.Write (transfers mask addr)) access.Store _ (all_granted R R' g right.Write (transfers mask addr)))

effect_later : (R R' : Refusals) (H : Contents) → Grants R R' → (c : Cpu) (i : Insn) → Follows (effect R H c i) (effect R' H c i)
unfolding effect
effect_later R R' H g c (LdrLiteral t i) = load_later R R' H g c (load.Whole size.Word) t _
effect_later R R' H g c (LoadReg k t n m) = load_later R R' H g c k t _
effect_later R R' H g c (LoadImm s t n i) = load_later R R' H g c (load.Whole s) t _
effect_later R R' H g c (LoadSp t i) = load_later R R' H g c (load.Whole size.Word) t _
effect_later R R' H g c (StoreReg s t n m) = store_later R R' g c s t _
effect_later R R' H g c (StoreImm s t n i) = store_later R R' g c s t _
effect_later R R' H g c (StoreSp t i) = store_later R R' g c size.Word t _
effect_later R R' H g c (Push list lr) = store_all_later R R' g c _ _ _
effect_later R R' H g c (Stm n list) = store_all_later R R' g c _ _ _
effect_later R R' H g c (Pop list p) = load_all_later R R' H g c _ _ (pop_next c (with_bit list p 15) p)
effect_later R R' H g c (Ldm n list) = load_all_later R R' H g c _ _ (ldm_next c n list)
effect_later R R' H g c i = λ d ss s. s

pub effect_wider : (R R' : Refusals) (H H' : Contents) → Widens R R' H H' → (c : Cpu) (i : Insn) (d : Cpu) (ss : List Move) → effect R H c i ≡ Next d ss → effect R' H' c i ≡ Next d ss
effect_wider R R' H H' w c i d ss s = effect_later R R' H' w.granted c i d ss (sym (effect_same R H H' w.same c i) ∙ s)
