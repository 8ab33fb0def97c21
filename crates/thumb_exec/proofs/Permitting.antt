-- The bytes of every move of an instruction have the right that it needs.
use Rattle.std.proofs.Common.{◌≡◌, ◌+◌, ◌-◌, ◌*◌, ◌%◌, ◌^◌, ℕ, zero, suc, Bool, true, false, cond, List, [], ◌∷◌, Option, Some, None, refl, arith, inl, inr}
use Rattle.std.specs.Prelude.{Contains, nat_eq}
use Rattle.std.proofs.lemmas.Bool.{eqb-true}
use Rattle.words_core.specs.declared.Regs.{Regs}
use Rattle.region_check.specs.declared.Right.TheVariants as right
use Rattle.kernel_abi.specs.declared.Access.{Access}
use Rattle.kernel_abi.specs.declared.Access.TheVariants as access
use Rattle.kernel_abi.specs.Faults.{unaligned_fault, state_fault}
use Rattle.thumb_insn.specs.declared.Reg.{Reg}
use Rattle.thumb_insn.specs.declared.Op.{Op}
use Rattle.thumb_insn.specs.declared.Op.TheVariants as op
use Rattle.thumb_insn.specs.declared.Size.{Size}
use Rattle.thumb_insn.specs.declared.Size.TheVariants as size
use Rattle.thumb_insn.specs.declared.Load.{Load}
use Rattle.thumb_insn.specs.declared.Load.TheVariants as load
use Rattle.thumb_insn.specs.declared.Insn.{Insn}
use Rattle.thumb_insn.specs.declared.Insn.TheVariants.{ShiftImm, AddsReg, SubsReg, AddsImm3, SubsImm3, MovsImm, CmpImm, AddsImm8, SubsImm8, Data, AddHigh, CmpHigh, MovHigh, Bx, Blx, LdrLiteral, StoreReg, LoadReg, StoreImm, LoadImm, StoreSp, LoadSp, Adr, AddSp, RaiseSp, LowerSp, Change, Push, Pop, Cpsie, Cpsid, Bkpt, Hint, Stm, Ldm, BranchIf, Svc, Branch, Bl, Fence, Mrs, Msr}
use Rattle.thumb_exec.specs.Sizes.{IsSize}
use Rattle.thumb_exec.specs.declared.cpu.Cpu.{Cpu}
use Rattle.thumb_exec.specs.Keeps.{IsPermitted, AllPermitted}
use Rattle.thumb_exec.specs.Effect.{Effect, Next, Trap, Move, Puts, Takes, Refusals, Contents, put, data_effect, load_effect, store_effect, size_of, load_size, unless_unaligned, unless_refused, get, branch_after, place, transfers, first_refused, loads_of, loaded_all, store_all, load_all, with_bit, lowered, ldm_next, pop_next, holds_if, effect}
use Rattle.thumb_exec.proofs.Keeping.{words_aligned, stores_permitted, loads_permitted}

module _ (refuses : Refusals) where
  none : (x : Move) → Contains [] x → IsPermitted refuses x
  none x here = absurd (omega (arith, here.1))

  one_move : (y : Move) → IsPermitted refuses y → (x : Move) → Contains (y ∷ []) x → IsPermitted refuses x
  one_move y p x (zero, lt, same) = let e : ◌≡◌ {A = Move} y x = same in rw (← e) p
  one_move y p x (suc k, lt, same) = absurd (omega arith)

  either : (b : Bool) (e f : Effect) → AllPermitted refuses e → AllPermitted refuses f → AllPermitted refuses (cond b e f)
  either true e f p q = p
  either false e f p q = q

  aligned : (addr n : ℕ) (is_store : Bool) (e : Effect) → (addr % n ≡ 0 → AllPermitted refuses e) → AllPermitted refuses (unless_unaligned addr n is_store e)
  aligned addr n is_store e k = go (nat_eq (addr % n) 0) refl
    where
      go : (b : Bool) → nat_eq (addr % n) 0 ≡ b → AllPermitted refuses (cond b e (Trap (unaligned_fault addr is_store)))
      go true q = k (eqb-true _ _ q)
      go false q = tt

  checked : (o : Option ℕ) (kind : Access) (e : Effect) → (o ≡ None → AllPermitted refuses e) → AllPermitted refuses (unless_refused o kind e)
  checked None kind e k = k refl
  checked (Some a) kind e k = tt

  load_sizes : (k : Load) → IsSize (load_size k)
  load_sizes (load.Whole size.Word) = inr (inr refl)
  load_sizes (load.Whole size.Half) = inr (inl refl)
  load_sizes (load.Whole size.Byte) = inl refl
  load_sizes load.SignedHalf = inr (inl refl)
  load_sizes load.SignedByte = inl refl

  sizes : (s : Size) → IsSize (size_of s)
  sizes size.Word = inr (inr refl)
  sizes size.Half = inr (inl refl)
  sizes size.Byte = inl refl

  loads_one : (holds : Contents) (c : Cpu) (k : Load) (t : Reg) (addr : ℕ) → AllPermitted refuses (load_effect refuses holds c k t addr)
  loads_one holds c k t addr = aligned addr (load_size k) false _ (λ al. checked (refuses addr (load_size k) right.Read) access.Load _ (λ free. one_move (Takes addr (load_size k)) record { size = load_sizes k; aligned = al; allowed = free }))

  stores_one : (c : Cpu) (s : Size) (t : Reg) (addr : ℕ) → AllPermitted refuses (store_effect refuses c s t addr)
  stores_one c s t addr = aligned addr (size_of s) true _ (λ al. checked (refuses addr (size_of s) right.Write) access.Store _ (λ free. one_move (Puts record { addr = addr; bytes = size_of s; value = get c t % 2 ^ (8 * size_of s) }) record { size = sizes s; aligned = al; allowed = free }))

  stores_all : (c : Cpu) (mask addr : ℕ) (d : Cpu) → AllPermitted refuses (store_all refuses c mask addr d)
  unfolding transfers
  stores_all c mask addr d = aligned addr 4 true _ (λ al. checked (first_refused refuses right.Write (transfers mask addr)) access.Store _ (λ free. stores_permitted refuses c.regs (transfers mask addr) free (λ w here. words_aligned mask 0 16 addr w al here)))

  loads_all : (holds : Contents) (c : Cpu) (mask addr : ℕ) (next : Regs → Effect) → (((x : Move) → Contains (loads_of (transfers mask addr)) x → IsPermitted refuses x) → AllPermitted refuses (next (loaded_all holds c.regs (transfers mask addr)))) → AllPermitted refuses (load_all refuses holds c mask addr next)
  unfolding transfers
  loads_all holds c mask addr next k = aligned addr 4 false _ (λ al. checked (first_refused refuses right.Read (transfers mask addr)) access.Load _ (λ free. k (loads_permitted refuses (transfers mask addr) free (λ w here. words_aligned mask 0 16 addr w al here))))

  branches : (c : Cpu) (v : ℕ) (ms : List Move) → ((x : Move) → Contains ms x → IsPermitted refuses x) → AllPermitted refuses (branch_after c v ms)
  branches c v ms p = either (nat_eq (v % 2) 1) (Next (put c 15 (v - 1)) ms) (Trap (state_fault v)) p tt

  places : (c : Cpu) (d : Reg) (v : ℕ) → AllPermitted refuses (place c d v)
  places c d v = either (nat_eq d.number 15) _ _ (none) (either (nat_eq d.number 13) _ _ (none) (none))

  data_none : (o : Op) (c : Cpu) (d m : Reg) → AllPermitted refuses (data_effect o c d m)
  data_none op.Ands c d m = none
  data_none op.Eors c d m = none
  data_none op.Lsls c d m = none
  data_none op.Lsrs c d m = none
  data_none op.Asrs c d m = none
  data_none op.Adcs c d m = none
  data_none op.Sbcs c d m = none
  data_none op.Rors c d m = none
  data_none op.Tst c d m = none
  data_none op.Rsbs c d m = none
  data_none op.Cmp c d m = none
  data_none op.Cmn c d m = none
  data_none op.Orrs c d m = none
  data_none op.Muls c d m = none
  data_none op.Bics c d m = none
  data_none op.Mvns c d m = none

  pub permitted : (holds : Contents) (c : Cpu) (i : Insn) → AllPermitted refuses (effect refuses holds c i)
  unfolding effect
  permitted holds c (ShiftImm shift d m by) = none
  permitted holds c (AddsReg d n m) = none
  permitted holds c (SubsReg d n m) = none
  permitted holds c (AddsImm3 d n i) = none
  permitted holds c (SubsImm3 d n i) = none
  permitted holds c (MovsImm d i) = none
  permitted holds c (CmpImm n i) = none
  permitted holds c (AddsImm8 d i) = none
  permitted holds c (SubsImm8 d i) = none
  permitted holds c (CmpHigh n m) = none
  permitted holds c (Adr d i) = none
  permitted holds c (AddSp d i) = none
  permitted holds c (RaiseSp i) = none
  permitted holds c (LowerSp i) = none
  permitted holds c (Change b d m) = none
  permitted holds c Cpsie = none
  permitted holds c Cpsid = none
  permitted holds c (Hint i) = none
  permitted holds c (Branch offset) = none
  permitted holds c (Bl offset) = none
  permitted holds c (Fence b i) = none
  permitted holds c (Mrs d) = none
  permitted holds c (Msr n) = none
  permitted holds c (Data o d m) = data_none o c d m
  permitted holds c (AddHigh d m) = places c d _
  permitted holds c (MovHigh d m) = places c d _
  permitted holds c (Bx m) = branches c (get c m) [] none
  permitted holds c (Blx m) = either (nat_eq (get c m % 2) 1) _ _ (none) tt
  permitted holds c (BranchIf cond' offset) = either (holds_if cond' c.flags) _ _ (none) (none)
  permitted holds c (Svc i) = tt
  permitted holds c (Bkpt i) = tt
  permitted holds c (LdrLiteral t i) = loads_one holds c (load.Whole size.Word) t _
  permitted holds c (LoadReg k t n m) = loads_one holds c k t _
  permitted holds c (LoadImm s t n i) = loads_one holds c (load.Whole s) t _
  permitted holds c (LoadSp t i) = loads_one holds c (load.Whole size.Word) t _
  permitted holds c (StoreReg s t n m) = stores_one c s t _
  permitted holds c (StoreImm s t n i) = stores_one c s t _
  permitted holds c (StoreSp t i) = stores_one c size.Word t _
  permitted holds c (Push list lr) = stores_all c (with_bit list lr 14) (lowered c (with_bit list lr 14)) _
  permitted holds c (Stm n list) = stores_all c list (get c n) _
  permitted holds c (Ldm n list) = loads_all holds c list (get c n) (ldm_next c n list) (λ p. p)
  permitted holds c (Pop list false) = loads_all holds c list _ (pop_next c list false) (λ p. p)
  permitted holds c (Pop list true) = loads_all holds c (list + 2 ^ 15) _ (pop_next c (list + 2 ^ 15) true) (λ p. branches _ _ _ p)
