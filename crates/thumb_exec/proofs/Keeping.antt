-- An instruction keeps PC even and SP aligned, stores only what it may, and raises only its own faults.
use Rattle.std.proofs.Common.{◌≡◌, ◌≢◌, ◌+◌, ◌-◌, ◌*◌, ◌/◌, ◌%◌, ◌^◌, ◌<◌, ◌≤◌, ap, inl, inr, ℕ, zero, suc, Bool, true, false, cond, List, [], ◌∷◌, length, Option, Some, None, refl, sym, arith, get_or, length-set, get_or-set_same, get_or-set_other, ◌∙◌}
use Rattle.std.specs.Prelude.{Contains, nat_eq}
use Rattle.std.proofs.lemmas.Bool.{eq-eqb, eqb-true, false≢true}
use Rattle.kernel_abi.specs.declared.Access.{Access}
use Rattle.kernel_abi.specs.declared.Access.TheVariants as access
use Rattle.kernel_abi.specs.Faults.{unaligned_fault, state_fault}
use Rattle.region_check.specs.declared.Right.TheVariants as right
use Rattle.words_core.specs.declared.Flags.{Flags}
use Rattle.words_core.specs.declared.Regs.{Regs}
use Rattle.words_core.specs.Regs.{reg_at, with_reg}
use Rattle.thumb_insn.specs.declared.Reg.{Reg}
use Rattle.thumb_insn.specs.declared.Insn.{Insn}
use Rattle.thumb_insn.specs.declared.Insn.TheVariants.{ShiftImm, AddsReg, SubsReg, AddsImm3, SubsImm3, MovsImm, CmpImm, AddsImm8, SubsImm8, Data, AddHigh, CmpHigh, MovHigh, Bx, Blx, LdrLiteral, StoreReg, LoadReg, StoreImm, LoadImm, StoreSp, LoadSp, Adr, AddSp, RaiseSp, LowerSp, Change, Push, Pop, Cpsie, Cpsid, Bkpt, Hint, Stm, Ldm, BranchIf, Svc, Branch, Bl, Fence, Mrs, Msr}
use Rattle.thumb_insn.specs.declared.Op.{Op}
use Rattle.thumb_insn.specs.declared.Op.TheVariants as op
use Rattle.thumb_insn.specs.declared.Size.{Size}
use Rattle.thumb_insn.specs.declared.Size.TheVariants as size
use Rattle.thumb_insn.specs.declared.Load.{Load}
use Rattle.thumb_insn.specs.declared.Load.TheVariants as load
use Rattle.thumb_insn.specs.Range.{InRange, IsCoded}
use Rattle.thumb_insn.proofs.InRange.{coded_in_range}
use Rattle.thumb_exec.specs.declared.cpu.Cpu.{Cpu}
use Rattle.thumb_exec.specs.Sizes.{IsSize}
use Rattle.thumb_exec.specs.Keeps.{IsWholeCpu, IsPermitted, Keeps}
use Rattle.thumb_exec.specs.Effect.{Effect, Next, Trap, Store, Move, Puts, Takes, Refusals, Contents, put, with_flags, go_past, result, tested, data_effect, load_effect, store_effect, size_of, load_size, widened, unless_unaligned, unless_refused, get, jump, branch_after, place, linked, link_to, pc, sum, operand, target, holds_if, word_of, words, transfers, first_refused, stores_of, loads_of, loaded_all, store_all, load_all, with_regs, lowered, count, with_bit, ldm_next, pop_next, effect}
use Rattle.thumb_exec.proofs.Transfers.{allowed_here, allowed_later}
use Rattle.thumb_exec.proofs.Fields.{IsPlain, IsExtra, coded_extra}

-- the words of a transfer lie at multiples of 4
pub words_aligned : (mask k n addr : ℕ) (w : ℕ × ℕ) → addr % 4 ≡ 0 → Contains (words mask k n addr) w → w.1 % 4 ≡ 0
unfolding words
words_aligned mask k zero addr w al h = absurd (omega (arith, h.1))
words_aligned mask k (suc n) addr w al h = go (nat_eq (mask / 2 ^ k % 2) 1) h (words_aligned mask (k + 1) n addr w al) (words_aligned mask (k + 1) n ((addr + 4) % 2 ^ 32) w (omega arith))
  where
    go : (b : Bool) → Contains (cond b ((k, addr) ∷ words mask (k + 1) n ((addr + 4) % 2 ^ 32)) (words mask (k + 1) n addr)) w → (Contains (words mask (k + 1) n addr) w → w.1 % 4 ≡ 0) → (Contains (words mask (k + 1) n ((addr + 4) % 2 ^ 32)) w → w.1 % 4 ≡ 0) → w.1 % 4 ≡ 0
    go false here p q = p here
    go true (zero, lt, same) p q = let z : ◌≡◌ {A = ℕ × ℕ} (k, addr) w = same in rw (← z) al
    go true (suc i, lt, same) p q = q (i, omega arith, same)

-- each store of several words is of whole words that may be written, each load of words that may be read
pub stores_permitted : (refuses : Refusals) (rs : Regs) (ws : List (ℕ × ℕ)) → first_refused refuses right.Write ws ≡ None → ((w : ℕ × ℕ) → Contains ws w → w.1 % 4 ≡ 0) → (x : Move) → Contains (stores_of rs ws) x → IsPermitted refuses x
unfolding stores_of
stores_permitted refuses rs [] e al x h = absurd (omega (arith, h.1))
stores_permitted refuses rs (w ∷ ws) e al x (zero, lt, same) =
    let z : ◌≡◌ {A = Move} (Puts record { addr = w.1; bytes = 4; value = reg_at rs w.0 }) x = same in
    let free : refuses w.1 4 right.Write ≡ None = allowed_here refuses right.Write w.0 w.1 ws e in
    rw (← z) record { size = inr (inr refl); aligned = al w (zero, omega arith, refl); allowed = free }
stores_permitted refuses rs (w ∷ ws) e al x (suc k, lt, same) = stores_permitted refuses rs ws (allowed_later refuses right.Write w.0 w.1 ws e) (λ y here. al y (suc here.0, omega (arith, here.1), here.2)) x (k, omega arith, same)

pub loads_permitted : (refuses : Refusals) (ws : List (ℕ × ℕ)) → first_refused refuses right.Read ws ≡ None → ((w : ℕ × ℕ) → Contains ws w → w.1 % 4 ≡ 0) → (x : Move) → Contains (loads_of ws) x → IsPermitted refuses x
unfolding loads_of
loads_permitted refuses [] e al x h = absurd (omega (arith, h.1))
loads_permitted refuses (w ∷ ws) e al x (zero, lt, same) =
    let z : ◌≡◌ {A = Move} (Takes w.1 4) x = same in
    let free : refuses w.1 4 right.Read ≡ None = allowed_here refuses right.Read w.0 w.1 ws e in
    rw (← z) record { size = inr (inr refl); aligned = al w (zero, omega arith, refl); allowed = free }
loads_permitted refuses (w ∷ ws) e al x (suc k, lt, same) = loads_permitted refuses ws (allowed_later refuses right.Read w.0 w.1 ws e) (λ y here. al y (suc here.0, omega (arith, here.1), here.2)) x (k, omega arith, same)

-- there are as many moves as words, and at most sixteen
stores_length : (rs : Regs) (ws : List (ℕ × ℕ)) → length (stores_of rs ws) ≡ length ws
unfolding stores_of
stores_length rs [] = refl
stores_length rs (w ∷ ws) = ap suc (stores_length rs ws)

loads_length : (ws : List (ℕ × ℕ)) → length (loads_of ws) ≡ length ws
unfolding loads_of
loads_length [] = refl
loads_length (w ∷ ws) = ap suc (loads_length ws)

words_few : (mask k n addr : ℕ) → length (words mask k n addr) ≤ n
unfolding words
words_few mask k zero addr = omega arith
words_few mask k (suc n) addr = go (nat_eq (mask / 2 ^ k % 2) 1) (words_few mask (k + 1) n addr) (words_few mask (k + 1) n ((addr + 4) % 2 ^ 32))
  where
    go : (b : Bool) → length (words mask (k + 1) n addr) ≤ n → length (words mask (k + 1) n ((addr + 4) % 2 ^ 32)) ≤ n → length (cond b ((k, addr) ∷ words mask (k + 1) n ((addr + 4) % 2 ^ 32)) (words mask (k + 1) n addr)) ≤ suc n
    go false p q = omega (arith, p)
    go true p q = omega (arith, q)

low_plain : (i : ℕ) → i < 8 → IsPlain i
low_plain i h = (λ e. absurd (omega arith), λ e. absurd (omega arith))

whole_put : (c : Cpu) (i v : ℕ) → IsPlain i → IsWholeCpu c → IsWholeCpu (put c i v)
whole_put c i v p h =
    let a : 15 ≢ i = λ e. p.1 (sym e) in
    let b : 13 ≢ i = λ e. p.0 (sym e) in
    record {
      sixteen = rw length-set h.sixteen;
      even = rw (get_or-set_other c.regs.words i 15 v 0 a) h.even;
      aligned = rw (get_or-set_other c.regs.words i 13 v 0 b) h.aligned;
    }

whole_flags : (c : Cpu) (f : Flags) → IsWholeCpu c → IsWholeCpu (with_flags c f)
whole_flags c f h = record { sixteen = h.sixteen; even = h.even; aligned = h.aligned }

whole_to : (c : Cpu) (to : ℕ) → to % 2 ≡ 0 → IsWholeCpu c → IsWholeCpu (put c 15 to)
whole_to c to e h =
    let here : 15 < length c.regs.words = omega (arith, h.sixteen) in
    record {
      sixteen = rw length-set h.sixteen;
      even = rw (get_or-set_same c.regs.words 15 to 0 here) e;
      aligned = rw (get_or-set_other c.regs.words 15 13 to 0 (omega arith)) h.aligned;
    }

whole_sp : (c : Cpu) (v : ℕ) → v % 4 ≡ 0 → IsWholeCpu c → IsWholeCpu (put c 13 v)
whole_sp c v e h =
    let here : 13 < length c.regs.words = omega (arith, h.sixteen) in
    record {
      sixteen = rw length-set h.sixteen;
      even = rw (get_or-set_other c.regs.words 13 15 v 0 (omega arith)) h.even;
      aligned = rw (get_or-set_same c.regs.words 13 v 0 here) e;
    }

whole_past : (n : ℕ) (c : Cpu) → n % 2 ≡ 0 → IsWholeCpu c → IsWholeCpu (go_past n c)
whole_past n c e h = whole_to c ((pc c + n) % 2 ^ 32) (even_sum (pc c) n h.even e) h
  where
    even_sum : (a b : ℕ) → a % 2 ≡ 0 → b % 2 ≡ 0 → (a + b) % 2 ^ 32 % 2 ≡ 0
    even_sum a b x y = omega arith

-- moves that are permitted, and at most sixteen
abbrev AreGood : Refusals → List Move → Type 0
AreGood refuses ms = ((x : Move) → Contains ms x → IsPermitted refuses x) × (length ms ≤ 16)

module _ (refuses : Refusals) where
  keeps_next : (c : Cpu) → IsWholeCpu c → Keeps refuses (Next c [])
  keeps_next c h = (h, λ x here. absurd (omega (arith, here.1)), omega arith)

  -- one move
  keeps_one : (c : Cpu) (y : Move) → IsPermitted refuses y → IsWholeCpu c → Keeps refuses (Next c (y ∷ []))
  keeps_one c y p h = (h, one, omega arith)
    where
      one : (x : Move) → Contains (y ∷ []) x → IsPermitted refuses x
      one x (zero, lt, same) = let e : ◌≡◌ {A = Move} y x = same in rw (← e) p
      one x (suc k, lt, same) = absurd (omega arith)

  load_sizes : (k : Load) → IsSize (load_size k)
  load_sizes (load.Whole size.Word) = inr (inr refl)
  load_sizes (load.Whole size.Half) = inr (inl refl)
  load_sizes (load.Whole size.Byte) = inl refl
  load_sizes load.SignedHalf = inr (inl refl)
  load_sizes load.SignedByte = inl refl

  keeps_result : (c : Cpu) (d : Reg) (v : ℕ) (f : Flags) → IsPlain d.number → IsWholeCpu c → Keeps refuses (result c d v f)
  keeps_result c d v f p h = keeps_next _ (whole_past 2 _ refl (whole_flags (put c d.number v) f (whole_put c d.number v p h)))

  keeps_tested : (c : Cpu) (f : Flags) → IsWholeCpu c → Keeps refuses (tested c f)
  keeps_tested c f h = keeps_next _ (whole_past 2 _ refl (whole_flags c f h))

  keeps_aligned : (addr n : ℕ) (is_store : Bool) (e : Effect) → (addr % n ≡ 0 → Keeps refuses e) → Keeps refuses (unless_unaligned addr n is_store e)
  keeps_aligned addr n is_store e k = go (nat_eq (addr % n) 0) refl
    where
      go : (b : Bool) → nat_eq (addr % n) 0 ≡ b → Keeps refuses (cond b e (Trap (unaligned_fault addr is_store)))
      go true q = k (eqb-true _ _ q)
      go false q = (omega arith, omega arith)

  keeps_checked : (o : Option ℕ) (kind : Access) (e : Effect) → (o ≡ None → Keeps refuses e) → Keeps refuses (unless_refused o kind e)
  keeps_checked None kind e k = k refl
  keeps_checked (Some a) kind e k = (omega arith, omega arith)

  keeps_load : (holds : Contents) (c : Cpu) (kind : Load) (t : Reg) (addr : ℕ) → IsPlain t.number → IsWholeCpu c → Keeps refuses (load_effect refuses holds c kind t addr)
  keeps_load holds c kind t addr p h =
      let v = widened kind (holds addr (load_size kind)) in
      let next = Next (go_past 2 (put c t.number v)) (Takes addr (load_size kind) ∷ []) in
      keeps_aligned addr (load_size kind) false (unless_refused (refuses addr (load_size kind) right.Read) access.Load next) (λ al. keeps_checked (refuses addr (load_size kind) right.Read) access.Load next (λ free. keeps_one _ (Takes addr (load_size kind)) record { size = load_sizes kind; aligned = al; allowed = free } (whole_past 2 _ refl (whole_put c t.number v p h))))

  keeps_store : (c : Cpu) (s : Size) (t : Reg) (addr : ℕ) → IsWholeCpu c → Keeps refuses (store_effect refuses c s t addr)
  keeps_store c s t addr h =
      let it : Store = record { addr = addr; bytes = size_of s; value = get c t % 2 ^ (8 * size_of s) } in
      let next = Next (go_past 2 c) (Puts it ∷ []) in
      keeps_aligned addr (size_of s) true (unless_refused (refuses addr (size_of s) right.Write) access.Store next) (λ al. keeps_checked (refuses addr (size_of s) right.Write) access.Store next (λ free. keeps_one _ (Puts it) record { size = sizes s; aligned = al; allowed = free } (whole_past 2 c refl h)))
    where
      sizes : (s : Size) → IsSize (size_of s)
      sizes size.Word = inr (inr refl)
      sizes size.Half = inr (inl refl)
      sizes size.Byte = inl refl

  good_none : AreGood refuses []
  good_none = (λ x here. absurd (omega (arith, here.1)), omega arith)

  keeps_branch : (c : Cpu) (v : ℕ) (ms : List Move) → AreGood refuses ms → IsWholeCpu c → Keeps refuses (branch_after c v ms)
  keeps_branch c v ms good h = go (nat_eq (v % 2) 1) refl
    where
      go : (b : Bool) → nat_eq (v % 2) 1 ≡ b → Keeps refuses (cond b (Next (put c 15 (v - 1)) ms) (Trap (state_fault v)))
      go true e = let odd = eqb-true _ _ e in (whole_to c (v - 1) (omega arith) h, good.0, good.1)
      go false e = (omega arith, omega arith)

  keeps_place : (c : Cpu) (d : Reg) (v : ℕ) → IsWholeCpu c → Keeps refuses (place c d v)
  keeps_place c d v h = go (nat_eq d.number 15) (nat_eq d.number 13) refl refl
    where
      go : (a b : Bool) → nat_eq d.number 15 ≡ a → nat_eq d.number 13 ≡ b → Keeps refuses (cond a (jump c (v / 2 * 2)) (cond b (Next (go_past 2 (put c 13 (v / 4 * 4))) []) (Next (go_past 2 (put c d.number v)) [])))
      go true b e f = keeps_next _ (whole_to c (v / 2 * 2) (omega arith) h)
      go false true e f = keeps_next _ (whole_past 2 _ refl (whole_sp c (v / 4 * 4) (omega arith) h))
      go false false e f = keeps_next _ (whole_past 2 _ refl (whole_put c d.number v (λ s. false≢true (sym f ∙ eq-eqb _ _ s), λ s. false≢true (sym e ∙ eq-eqb _ _ s)) h))

  keeps_data : (o : Op) (c : Cpu) (d m : Reg) → IsPlain d.number → IsWholeCpu c → Keeps refuses (data_effect o c d m)
  keeps_data op.Ands c d m p h = keeps_result c d _ _ p h
  keeps_data op.Eors c d m p h = keeps_result c d _ _ p h
  keeps_data op.Lsls c d m p h = keeps_result c d _ _ p h
  keeps_data op.Lsrs c d m p h = keeps_result c d _ _ p h
  keeps_data op.Asrs c d m p h = keeps_result c d _ _ p h
  keeps_data op.Adcs c d m p h = keeps_result c d _ _ p h
  keeps_data op.Sbcs c d m p h = keeps_result c d _ _ p h
  keeps_data op.Rors c d m p h = keeps_result c d _ _ p h
  keeps_data op.Tst c d m p h = keeps_tested c _ h
  keeps_data op.Rsbs c d m p h = keeps_result c d _ _ p h
  keeps_data op.Cmp c d m p h = keeps_tested c _ h
  keeps_data op.Cmn c d m p h = keeps_tested c _ h
  keeps_data op.Orrs c d m p h = keeps_result c d _ _ p h
  keeps_data op.Muls c d m p h = keeps_result c d _ _ p h
  keeps_data op.Bics c d m p h = keeps_result c d _ _ p h
  keeps_data op.Mvns c d m p h = keeps_result c d _ _ p h

  -- ## several words

  keeps_store_all : (c : Cpu) (mask addr : ℕ) (d : Cpu) → IsWholeCpu d → Keeps refuses (store_all refuses c mask addr d)
  unfolding transfers
  keeps_store_all c mask addr d h =
      let next = Next d (stores_of c.regs (transfers mask addr)) in
      keeps_aligned addr 4 true (unless_refused (first_refused refuses right.Write (transfers mask addr)) access.Store next) (λ al. keeps_checked (first_refused refuses right.Write (transfers mask addr)) access.Store next (λ free. (h, stores_permitted refuses c.regs (transfers mask addr) free (λ w here. words_aligned mask 0 16 addr w al here), rw (stores_length c.regs (transfers mask addr)) (words_few mask 0 16 addr))))

  keeps_load_all : (holds : Contents) (c : Cpu) (mask addr : ℕ) (next : Regs → Effect) → (AreGood refuses (loads_of (transfers mask addr)) → Keeps refuses (next (loaded_all holds c.regs (transfers mask addr)))) → Keeps refuses (load_all refuses holds c mask addr next)
  unfolding transfers
  keeps_load_all holds c mask addr next k = keeps_aligned addr 4 false (unless_refused (first_refused refuses right.Read (transfers mask addr)) access.Load (next (loaded_all holds c.regs (transfers mask addr)))) (λ al. keeps_checked (first_refused refuses right.Read (transfers mask addr)) access.Load (next (loaded_all holds c.regs (transfers mask addr))) (λ free. k (loads_permitted refuses (transfers mask addr) free (λ w here. words_aligned mask 0 16 addr w al here), rw (loads_length (transfers mask addr)) (words_few mask 0 16 addr))))

-- ## the rows

-- what the table also says of fields that change SP or PC
abbrev pub IsEven : Insn → Type 0
IsEven (ShiftImm shift d m by) = IsPlain d.number
IsEven (AddsReg d n m) = IsPlain d.number
IsEven (SubsReg d n m) = IsPlain d.number
IsEven (AddsImm3 d n i) = IsPlain d.number
IsEven (SubsImm3 d n i) = IsPlain d.number
IsEven (MovsImm d i) = IsPlain d.number
IsEven (CmpImm n i) = Unit {0}
IsEven (AddsImm8 d i) = IsPlain d.number
IsEven (SubsImm8 d i) = IsPlain d.number
IsEven (Data o d m) = IsPlain d.number
IsEven (AddHigh d m) = Unit {0}
IsEven (CmpHigh n m) = Unit {0}
IsEven (MovHigh d m) = Unit {0}
IsEven (Bx m) = Unit {0}
IsEven (Blx m) = Unit {0}
IsEven (LdrLiteral t i) = IsPlain t.number
IsEven (StoreReg s t n m) = Unit {0}
IsEven (LoadReg k t n m) = IsPlain t.number
IsEven (StoreImm s t n i) = Unit {0}
IsEven (LoadImm s t n i) = IsPlain t.number
IsEven (StoreSp t i) = Unit {0}
IsEven (LoadSp t i) = IsPlain t.number
IsEven (Adr d i) = IsPlain d.number
IsEven (AddSp d i) = IsPlain d.number
IsEven (RaiseSp i) = i % 4 ≡ 0
IsEven (LowerSp i) = (2 ^ 32 - i) % 4 ≡ 0
IsEven (Change b d m) = IsPlain d.number
IsEven (Push list lr) = Unit {0}
IsEven (Pop list has_pc) = list < 256
IsEven Cpsie = Unit {0}
IsEven Cpsid = Unit {0}
IsEven (Bkpt i) = Unit {0}
IsEven (Hint i) = Unit {0}
IsEven (Stm n list) = IsPlain n.number
IsEven (Ldm n list) = IsPlain n.number × (list < 256)
IsEven (BranchIf cond offset) = word_of offset % 2 ≡ 0
IsEven (Svc i) = Unit {0}
IsEven (Branch offset) = word_of offset % 2 ≡ 0
IsEven (Bl offset) = word_of offset % 2 ≡ 0
IsEven (Fence barrier i) = Unit {0}
IsEven (Mrs d) = IsPlain d.number
IsEven (Msr n) = Unit {0}

-- a register of a list is one of its bits
words_bit : (mask k n addr : ℕ) (w : ℕ × ℕ) → Contains (words mask k n addr) w → mask / 2 ^ w.0 % 2 ≡ 1
unfolding words
words_bit mask k zero addr w h = absurd (omega (arith, h.1))
words_bit mask k (suc n) addr w h = go (nat_eq (mask / 2 ^ k % 2) 1) refl h (words_bit mask (k + 1) n addr w) (words_bit mask (k + 1) n ((addr + 4) % 2 ^ 32) w)
  where
    go : (b : Bool) → nat_eq (mask / 2 ^ k % 2) 1 ≡ b → Contains (cond b ((k, addr) ∷ words mask (k + 1) n ((addr + 4) % 2 ^ 32)) (words mask (k + 1) n addr)) w → (Contains (words mask (k + 1) n addr) w → mask / 2 ^ w.0 % 2 ≡ 1) → (Contains (words mask (k + 1) n ((addr + 4) % 2 ^ 32)) w → mask / 2 ^ w.0 % 2 ≡ 1) → mask / 2 ^ w.0 % 2 ≡ 1
    go false e here p q = p here
    go true e (zero, lt, same) p q = let z : ◌≡◌ {A = ℕ × ℕ} (k, addr) w = same in rw (← z) (eqb-true _ _ e)
    go true e (suc i, lt, same) p q = q (i, omega arith, same)

-- a register to which no word goes does not change
loaded_stays : (holds : Contents) (rs : Regs) (ws : List (ℕ × ℕ)) (r : ℕ) → ((w : ℕ × ℕ) → Contains ws w → r ≢ w.0) → get_or (loaded_all holds rs ws).words r 0 ≡ get_or rs.words r 0
unfolding loaded_all
loaded_stays holds rs [] r no' = refl
loaded_stays holds rs (w ∷ ws) r no' = loaded_stays holds (with_reg rs w.0 (holds w.1 4)) ws r (λ x here. no' x (suc here.0, omega (arith, here.1), here.2)) ∙ get_or-set_other rs.words w.0 r _ 0 (no' w (zero, omega arith, refl))

loaded_length : (holds : Contents) (rs : Regs) (ws : List (ℕ × ℕ)) → length (loaded_all holds rs ws).words ≡ length rs.words
unfolding loaded_all
loaded_length holds rs [] = refl
loaded_length holds rs (w ∷ ws) = loaded_length holds (with_reg rs w.0 (holds w.1 4)) ws ∙ length-set rs.words w.0 _

not_bit : (mask addr r : ℕ) (w : ℕ × ℕ) → (mask / 2 ^ r % 2 ≡ 1 → ⊥) → Contains (transfers mask addr) w → r ≢ w.0
unfolding transfers
not_bit mask addr r w clear here = λ e. clear (rw e (words_bit mask 0 16 addr w here))

clear_low : (mask : ℕ) → mask < 256 → (mask / 2 ^ 13 % 2 ≡ 1 → ⊥) × (mask / 2 ^ 15 % 2 ≡ 1 → ⊥)
clear_low mask lt = (λ e. absurd (omega arith), λ e. absurd (omega arith))

-- the processor after words are loaded, none of them to SP or PC
loaded_whole : (holds : Contents) (c : Cpu) (mask addr : ℕ) → (mask / 2 ^ 13 % 2 ≡ 1 → ⊥) → (mask / 2 ^ 15 % 2 ≡ 1 → ⊥) → IsWholeCpu c → IsWholeCpu (with_regs c (loaded_all holds c.regs (transfers mask addr)))
loaded_whole holds c mask addr sp pc' h = record {
  sixteen = loaded_length holds c.regs (transfers mask addr) ∙ h.sixteen;
  even = rw (loaded_stays holds c.regs (transfers mask addr) 15 (λ w here. not_bit mask addr 15 w pc' here)) h.even;
  aligned = rw (loaded_stays holds c.regs (transfers mask addr) 13 (λ w here. not_bit mask addr 13 w sp here)) h.aligned;
}

-- a branch does not need an even PC before it
branch_whole : (refuses : Refusals) (c : Cpu) (v : ℕ) (ms : List Move) → AreGood refuses ms → length c.regs.words ≡ 16 → get_or c.regs.words 13 0 % 4 ≡ 0 → Keeps refuses (branch_after c v ms)
branch_whole refuses c v ms good sixteen al = go (nat_eq (v % 2) 1) refl
  where
    go : (b : Bool) → nat_eq (v % 2) 1 ≡ b → Keeps refuses (cond b (Next (put c 15 (v - 1)) ms) (Trap (state_fault v)))
    go true e =
        let odd = eqb-true _ _ e in
        let here : 15 < length c.regs.words = omega arith in
        let whole : IsWholeCpu (put c 15 (v - 1)) = record {
          sixteen = rw length-set sixteen;
          even = rw (get_or-set_same c.regs.words 15 (v - 1) 0 here) (omega arith);
          aligned = rw (get_or-set_other c.regs.words 15 13 (v - 1) 0 (omega arith)) al;
        } in
        (whole, good.0, good.1)
    go false e = (omega arith, omega arith)

sp_sum : (a n : ℕ) → a % 4 ≡ 0 → n % 4 ≡ 0 → (a + n) % 2 ^ 32 % 4 ≡ 0
sp_sum a n x y = omega arith

sp_less : (a n : ℕ) → a % 4 ≡ 0 → (a + (2 ^ 32 - 4 * n)) % 2 ^ 32 % 4 ≡ 0
sp_less a n x = omega arith

pc_sum : (a w : ℕ) → a % 2 ≡ 0 → w % 2 ≡ 0 → (a + 4 + w) % 2 ^ 32 % 2 ≡ 0
pc_sum a w x y = omega arith

module _ (refuses : Refusals) (holds : Contents) (c : Cpu) (h : IsWholeCpu c) where
  keeps_effect : (i : Insn) → IsEven i → Keeps refuses (effect refuses holds c i)
  unfolding effect
  keeps_effect (ShiftImm shift d m by) e = keeps_result refuses c d _ _ e h
  keeps_effect (AddsReg d n m) e = keeps_result refuses c d _ _ e h
  keeps_effect (SubsReg d n m) e = keeps_result refuses c d _ _ e h
  keeps_effect (AddsImm3 d n i) e = keeps_result refuses c d _ _ e h
  keeps_effect (SubsImm3 d n i) e = keeps_result refuses c d _ _ e h
  keeps_effect (MovsImm d i) e = keeps_result refuses c d _ _ e h
  keeps_effect (CmpImm n i) e = keeps_tested refuses c _ h
  keeps_effect (AddsImm8 d i) e = keeps_result refuses c d _ _ e h
  keeps_effect (SubsImm8 d i) e = keeps_result refuses c d _ _ e h
  keeps_effect (Data x d m) e = keeps_data refuses x c d m e h
  keeps_effect (AddHigh d m) e = keeps_place refuses c d (sum (operand c d) (operand c m)) h
  keeps_effect (CmpHigh n m) e = keeps_tested refuses c _ h
  keeps_effect (MovHigh d m) e = keeps_place refuses c d (operand c m) h
  keeps_effect (Bx m) e = keeps_branch refuses c (get c m) [] (good_none refuses) h
  keeps_effect (Blx m) e = keeps_link (get c m)
    where
      keeps_link : (v : ℕ) → Keeps refuses (link_to c v)
      keeps_link v = go (nat_eq (v % 2) 1) refl
        where
          go : (b : Bool) → nat_eq (v % 2) 1 ≡ b → Keeps refuses (cond b (Next (put (linked c 2) 15 (v - 1)) []) (Trap (state_fault v)))
          go true q = let odd = eqb-true _ _ q in keeps_next refuses _ (whole_to (linked c 2) (v - 1) (omega arith) (whole_put c 14 _ (λ s. absurd (omega arith), λ s. absurd (omega arith)) h))
          go false q = (omega arith, omega arith)
  keeps_effect (LdrLiteral t i) e = keeps_load refuses holds c (load.Whole size.Word) t _ e h
  keeps_effect (StoreReg s t n m) e = keeps_store refuses c s t _ h
  keeps_effect (LoadReg k t n m) e = keeps_load refuses holds c k t _ e h
  keeps_effect (StoreImm s t n i) e = keeps_store refuses c s t _ h
  keeps_effect (LoadImm s t n i) e = keeps_load refuses holds c (load.Whole s) t _ e h
  keeps_effect (StoreSp t i) e = keeps_store refuses c size.Word t _ h
  keeps_effect (LoadSp t i) e = keeps_load refuses holds c (load.Whole size.Word) t _ e h
  keeps_effect (Adr d i) e = keeps_next refuses _ (whole_past 2 _ refl (whole_put c d.number _ e h))
  keeps_effect (AddSp d i) e = keeps_next refuses _ (whole_past 2 _ refl (whole_put c d.number _ e h))
  keeps_effect (RaiseSp i) e = keeps_next refuses _ (whole_past 2 _ refl (whole_sp c (sum (reg_at c.regs 13) i) (sp_sum (reg_at c.regs 13) i h.aligned e) h))
  keeps_effect (LowerSp i) e = keeps_next refuses _ (whole_past 2 _ refl (whole_sp c (sum (reg_at c.regs 13) (2 ^ 32 - i)) (sp_sum (reg_at c.regs 13) (2 ^ 32 - i) h.aligned e) h))
  keeps_effect (Change b d m) e = keeps_next refuses _ (whole_past 2 _ refl (whole_put c d.number _ e h))
  keeps_effect Cpsie e = keeps_next refuses _ (whole_past 2 c refl h)
  keeps_effect Cpsid e = keeps_next refuses _ (whole_past 2 c refl h)
  keeps_effect (Bkpt i) e = (omega arith, omega arith)
  keeps_effect (Hint i) e = keeps_next refuses _ (whole_past 2 c refl h)
  keeps_effect (BranchIf cc' offset) e = go (holds_if cc' c.flags)
    where
      go : (b : Bool) → Keeps refuses (cond b (jump c (target c offset)) (Next (go_past 2 c) []))
      go true = keeps_next refuses _ (whole_to c (target c offset) (pc_sum (pc c) (word_of offset) h.even e) h)
      go false = keeps_next refuses _ (whole_past 2 c refl h)
  keeps_effect (Svc i) e = tt
  keeps_effect (Branch offset) e = keeps_next refuses _ (whole_to c (target c offset) (pc_sum (pc c) (word_of offset) h.even e) h)
  keeps_effect (Bl offset) e = keeps_next refuses _ (whole_to (linked c 4) (target c offset) (pc_sum (pc c) (word_of offset) h.even e) (whole_put c 14 _ (λ s. absurd (omega arith), λ s. absurd (omega arith)) h))
  keeps_effect (Fence barrier i) e = keeps_next refuses _ (whole_past 4 c refl h)
  keeps_effect (Mrs d) e = keeps_next refuses _ (whole_past 4 _ refl (whole_put c d.number _ e h))
  keeps_effect (Msr n) e = keeps_next refuses _ (whole_past 4 _ refl (whole_flags c _ h))
  keeps_effect (Stm n list) e = keeps_store_all refuses c list (get c n) _ (whole_past 2 _ refl (whole_put c n.number _ e h))
  keeps_effect (Push list lr) e = keeps_store_all refuses c (with_bit list lr 14) (lowered c (with_bit list lr 14)) _ (whole_past 2 _ refl (whole_sp c (lowered c (with_bit list lr 14)) (sp_less (reg_at c.regs 13) (count (with_bit list lr 14)) h.aligned) h))
  keeps_effect (Ldm n list) e =
      let clear = clear_low list e.1 in
      let rs = loaded_all holds c.regs (transfers list (get c n)) in
      let w = loaded_whole holds c list (get c n) clear.0 clear.1 h in
      keeps_load_all refuses holds c list (get c n) (ldm_next c n list) (λ good. go (nat_eq (list / 2 ^ n.number % 2) 1) w good)
    where
      go : (b : Bool) → IsWholeCpu (with_regs c (loaded_all holds c.regs (transfers list (get c n)))) → AreGood refuses (loads_of (transfers list (get c n))) → Keeps refuses (Next (go_past 2 (cond b (with_regs c (loaded_all holds c.regs (transfers list (get c n)))) (put (with_regs c (loaded_all holds c.regs (transfers list (get c n)))) n.number (sum (get c n) (4 * count list))))) (loads_of (transfers list (get c n))))
      go true w good = (whole_past 2 _ refl w, good.0, good.1)
      go false w good = (whole_past 2 _ refl (whole_put _ n.number _ e.0 w), good.0, good.1)
  keeps_effect (Pop list false) e =
      let clear = clear_low list e in
      let rs = loaded_all holds c.regs (transfers list (reg_at c.regs 13)) in
      let w = loaded_whole holds c list (reg_at c.regs 13) clear.0 clear.1 h in
      keeps_load_all refuses holds c list (reg_at c.regs 13) (pop_next c list false) (λ good. (whole_past 2 _ refl (whole_sp (with_regs c rs) (sum (reg_at c.regs 13) (4 * count list)) (sp_sum (reg_at c.regs 13) (4 * count list) h.aligned (omega arith)) w), good.0, good.1))
  keeps_effect (Pop list true) e =
      let mask = list + 2 ^ 15 in
      let rs = loaded_all holds c.regs (transfers mask (reg_at c.regs 13)) in
      let n : length rs.words ≡ 16 = loaded_length holds c.regs (transfers mask (reg_at c.regs 13)) ∙ h.sixteen in
      let there : 13 < length rs.words = omega arith in
      let v = sum (reg_at c.regs 13) (4 * count mask) in
      keeps_load_all refuses holds c mask (reg_at c.regs 13) (pop_next c mask true)
      (λ good. branch_whole refuses (put (with_regs c rs) 13 v) (reg_at rs 15) _ good (length-set rs.words 13 v ∙ n) (rw (get_or-set_same rs.words 13 v 0 there) (sp_sum (reg_at c.regs 13) (4 * count mask) h.aligned (omega arith))))

-- what the table and its ranges say together
from_range : (i : Insn) → InRange i → IsExtra i → IsEven i
from_range (ShiftImm shift d m by) r x = low_plain d.number r.0
from_range (AddsReg d n m) r x = low_plain d.number r.0
from_range (SubsReg d n m) r x = low_plain d.number r.0
from_range (AddsImm3 d n i) r x = low_plain d.number r.0
from_range (SubsImm3 d n i) r x = low_plain d.number r.0
from_range (MovsImm d i) r x = low_plain d.number r.0
from_range (AddsImm8 d i) r x = low_plain d.number r.0
from_range (SubsImm8 d i) r x = low_plain d.number r.0
from_range (Data o d m) r x = low_plain d.number r.0
from_range (LdrLiteral t i) r x = low_plain t.number r.0
from_range (LoadReg k t n m) r x = low_plain t.number r.0
from_range (LoadImm q t n i) r x = low_plain t.number r.0
from_range (LoadSp t i) r x = low_plain t.number r.0
from_range (Adr d i) r x = low_plain d.number r.0
from_range (AddSp d i) r x = low_plain d.number r.0
from_range (Change b d m) r x = low_plain d.number r.0
from_range (Stm n list) r x = low_plain n.number r
from_range (CmpImm a b) r x = tt
from_range (AddHigh a b) r x = tt
from_range (CmpHigh a b) r x = tt
from_range (MovHigh a b) r x = tt
from_range (Bx a) r x = tt
from_range (Blx a) r x = tt
from_range (StoreReg a b d e) r x = tt
from_range (StoreImm a b d e) r x = tt
from_range (StoreSp a b) r x = tt
from_range (Push a b) r x = tt
from_range Cpsie r x = tt
from_range Cpsid r x = tt
from_range (Bkpt a) r x = tt
from_range (Hint a) r x = tt
from_range (Svc a) r x = tt
from_range (Fence a b) r x = tt
from_range (Msr a) r x = tt
from_range (RaiseSp i) r x = x
from_range (LowerSp i) r x = x
from_range (Pop list p) r x = x
from_range (BranchIf k o) r x = x
from_range (Branch o) r x = x
from_range (Bl o) r x = x
from_range (Mrs d) r x = x
from_range (Ldm n list) r x = (low_plain n.number r, x)

-- every instruction that has a code
pub keeps : (refuses : Refusals) (holds : Contents) (c : Cpu) (i : Insn) → IsCoded i → IsWholeCpu c → Keeps refuses (effect refuses holds c i)
keeps refuses holds c i coded h = keeps_effect refuses holds c h i (from_range i (coded_in_range i coded) (coded_extra i coded))
