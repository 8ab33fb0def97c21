-- The codes of instructions.
use Rattle.std.proofs.Common.{◌≡◌, ℕ, ◌+◌, ◌%◌, List, [], ◌∷◌, ◌++◌, ◌*◌, ◌/◌, ◌-ℤ◌, length, refl, ap, ◌∙◌, sym, arith, subst, Bool, true, false, nat_eq, Option, Some, None, Result, Ok, Err, OnOk, IfErr}
use Rattle.thumb_insn.specs.declared.Insn.{Insn}
use Rattle.thumb_encode.specs.Codes.{insn_size, fit_of}
use Rattle.thumb_encode.specs.declared.Fit.{Fit}
use Rattle.thumb_asm.specs.declared.Cause.{Cause}
use Rattle.thumb_asm.specs.declared.Stop.{Stop}
use Rattle.thumb_asm.specs.Meaning.{Env, fit_cause, fitting, code_bytes, insn_at, Means, Codes, filled, within, aimed, with_value, value}
use Rattle.thumb_asm.specs.Causes.{insn_cause, shape_cause}
use Rattle.thumb_asm.specs.Outputs.{Coded, Put, Gave}
use Rattle.thumb_insn.specs.Range.{insn_of, IsCode}
use Rattle.thumb_insn.specs.declared.Code.{Code}
use Rattle.thumb_asm.specs.Sizes.{shape_size, list_insn, block_insn, mask_of, natural_part, padding}
use Rattle.thumb_asm.specs.Syntax.{Shape, Text, Zeros, Padding}
use Rattle.thumb_asm.specs.Operands.{signed}
use Rattle.std.specs.List.{repeat}
use Rattle.thumb_asm.specs.Kinds.{ranges_in}
use Rattle.thumb_asm.specs.Views.{shape_of, fill, aim, HoldsInsn}
use Rattle.thumb_asm.specs.declared.shape.Shape.{Shape as Held}
use Rattle.thumb_asm.specs.declared.shape.Shape.TheVariants as held
use Rattle.thumb_asm.proofs.Fills.{fill_size, aim_size}
use Rattle.thumb_asm.proofs.Values.{repeat_length}
use Rattle.thumb_insn.specs.declared.Reg.{Reg}
use Rattle.std.proofs.Common.{ℤ, pos, negsuc, cond}
use Rattle.thumb_encode.specs.declared.Fit.TheVariants as fit
use Rattle.thumb_asm.specs.declared.Cause.TheVariants.{Misaligned}
use Rattle.thumb_asm.specs.Passes.{Stops}

even : (n : ℕ) → n ≡ 0 → nat_eq n 0 ≡ true
even n h = rw h refl

pub refused_code : (i : Insn) (at : ℕ) (f : Fit) (c : Cause) → at % 2 ≡ 0 → fit_of i ≡ Some f → fit_cause i (Some f) ≡ Err c → insn_cause at (fitting i) ≡ Some c
refused_code i at f c z h k = ap (insn_cause at) (ap (fit_cause i) h ∙ k) ∙ rw (even (at % 2) z) refl

pub coded_by : (i : Insn) (at : ℕ) (c : Code) (old new : List ℕ) (r : Result (Unit {0}) Stop) → at % 2 ≡ 0 → (insn_of c ≡ Some i) × IsCode c × (length (code_bytes c) ≡ insn_size i) → fit_of i ≡ None → OnOk r (new ≡ old ++ code_bytes c) → OnOk r (Coded i at old new)
coded_by i at c old new (Ok u) z n f e = record {
  own = code_bytes c;
  bytes = e;
  size = n.2;
  codes = (c, n.1, n.0, refl);
  fits = ap (fit_cause i) f;
  even = rw (even (at % 2) z) refl;
}
coded_by i at c old new (Err s) z n f e = tt

pub put_ok : (i : Insn) (at : ℕ) (old new : List ℕ) (s : Result (Unit {0}) Stop) (r : Result Insn Cause) → r ≡ fitting i → OnOk s (Coded i at old new) → OnOk s (Put r at old new)
put_ok i at old new (Ok u) r e k = record { insn = i; is = e ∙ k.fits; coded = k }
put_ok i at old new (Err x) r e k = tt

pub put_err : (at : ℕ) (i : Insn) (s : Result (Unit {0}) Stop) (r : Result Insn Cause) → r ≡ fitting i → IfErr s (λ e. Stops e (insn_cause at (fitting i))) → IfErr s (λ e. Stops e (insn_cause at r))
put_err at i (Ok u) r e k = tt
put_err at i (Err x) r e k = subst (λ t. Stops x (insn_cause at t)) (sym e) k

-- an instruction's statement
pub gave_put : (env : Env) (at : ℕ) (s : Shape) (old new : List ℕ) (r : Result (Unit {0}) Stop) → ((i : Insn) → insn_at env at s ≡ Ok i → shape_size at s ≡ insn_size i) → ((own : List ℕ) (i : Insn) → insn_at env at s ≡ Ok i → Codes i own → Means env at s own) → shape_cause env at s ≡ insn_cause at (insn_at env at s) → OnOk r (Put (insn_at env at s) at old new) → OnOk r (Gave env at s old new)
gave_put env at s old new (Ok u) z m c k = record {
  own = k.coded.own;
  bytes = k.coded.bytes;
  size = k.coded.size ∙ sym (z k.insn k.is);
  means = m k.coded.own k.insn k.is k.coded.codes;
  accepted = c ∙ ap (insn_cause at) k.is ∙ k.coded.even;
}
gave_put env at s old new (Err x) z m c k = tt

pub odd_cause : (at : ℕ) (r : Result Insn Cause) → (at % 2 ≡ 0 → ⊥) → insn_cause at r ≡ Some Misaligned
odd_cause at (Ok i) h = let e : nat_eq (at % 2) 0 ≡ false = grind arith in rw e refl
odd_cause at (Err c) h = let e : nat_eq (at % 2) 0 ≡ false = grind arith in rw e refl

-- an instruction that fits is the one that was asked for
fits_is : (i j : Insn) (f : Option Fit) → fit_cause i f ≡ Ok j → i ≡ j
fits_is i j None h = cc
fits_is i j (Some fit.Register) h = cc
fits_is i j (Some fit.Offset) h = cc
fits_is i j (Some fit.Align) h = cc

chosen : (b : Bool) (i j : Insn) (c : Cause) → cond b (fitting i) (Err c) ≡ Ok j → i ≡ j
chosen true i j c h = fits_is i j (fit_of i) h
chosen false i j c h = cc

filled_is : (f : ℕ → Insn) (z : ℤ) (j : Insn) → filled f z ≡ Ok j → (n : ℕ) × (f n ≡ j)
filled_is f (pos n) j h = (n, chosen _ (f n) j _ h)
filled_is f (negsuc n) j h = cc

aimed_is : (f : ℤ → Insn) (z : ℤ) (j : Insn) → aimed f z ≡ Ok j → (w : ℤ) × (f w ≡ j)
aimed_is f (pos n) j h = (pos n, chosen _ (f (pos n)) j _ h)
aimed_is f (negsuc n) j h = (negsuc n, chosen _ (f (negsuc n)) j _ h)

within_is : (low top : ℕ) (f : ℕ → Insn) (z : ℤ) (j : Insn) → within low top f z ≡ Ok j → (n : ℕ) × (f n ≡ j)
within_is low top f (pos n) j h = (n, chosen _ (f n) j _ h)
within_is low top f (negsuc n) j h = cc

found : (f : ℕ → Insn) (o : Option ℤ) (g : ℤ → Result Insn Cause) (j : Insn) → ((z : ℤ) → g z ≡ Ok j → (n : ℕ) × (f n ≡ j)) → with_value o g ≡ Ok j → (n : ℕ) × (f n ≡ j)
found f None g j k h = cc
found f (Some z) g j k h = k z h

found_far : (f : ℤ → Insn) (o : Option ℤ) (g : ℤ → Result Insn Cause) (j : Insn) → ((z : ℤ) → g z ≡ Ok j → (w : ℤ) × (f w ≡ j)) → with_value o g ≡ Ok j → (w : ℤ) × (f w ≡ j)
found_far f None g j k h = cc
found_far f (Some z) g j k h = k z h

fitting_is : (i j : Insn) → fitting i ≡ Ok j → i ≡ j
fitting_is i j h = fits_is i j (fit_of i) h

list_size : (loads : Bool) (rs : List (ℕ × ℕ)) → insn_size (list_insn loads rs) ≡ 2
list_size true rs = refl
list_size false rs = refl

block_size : (n : Reg) (loads : Bool) (mask : ℕ) → insn_size (block_insn n loads mask) ≡ 2
block_size n true mask = refl
block_size n false mask = refl

-- the size of the instruction of a statement
pub held_size : (env : Env) (at : ℕ) (s : Held) → HoldsInsn s → (j : Insn) → insn_at env at (shape_of s) ≡ Ok j → shape_size at (shape_of s) ≡ insn_size j
unfolding insn_at shape_size
held_size env at (held.Fixed i) p j h = ap insn_size (fitting_is i j h)
held_size env at (held.Filled e i) p j h = let x = found (fill i) (value env e.now) (filled (fill i)) j (λ z. filled_is (fill i) z j) h in fill_size i x.0 ∙ ap insn_size x.1
held_size env at (held.Within low top e i) p j h = let x = found (fill i) (value env e.now) (within low top (fill i)) j (λ z. within_is low top (fill i) z j) h in fill_size i x.0 ∙ ap insn_size x.1
held_size env at (held.Aimed e i) p j h = let x = found_far (aim i) (value env e.now) (λ z. aimed (aim i) (z -ℤ pos (at + 4))) j (λ z. aimed_is (aim i) (z -ℤ pos (at + 4)) j) h in aim_size i x.0 ∙ ap insn_size x.1
held_size env at (held.Near e i) p j h = let x = found (fill i) (value env e.now) (λ z. filled (fill i) (z -ℤ pos ((at + 4) / 4 * 4))) j (λ z. filled_is (fill i) (z -ℤ pos ((at + 4) / 4 * 4)) j) h in fill_size i x.0 ∙ ap insn_size x.1
held_size env at held.Misplaced p j h = cc
held_size env at (held.Listed loads text) p j h = sym (list_size loads (ranges_in text.now)) ∙ ap insn_size (fitting_is (list_insn loads (ranges_in text.now)) j h)
held_size env at (held.Block n raised loads text) p j h = sym (block_size n loads (mask_of (ranges_in text.now))) ∙ ap insn_size (fitting_is (block_insn n loads (mask_of (ranges_in text.now))) j h)
held_size env at (held.Data s es) p j h = cc
held_size env at (held.Text text) p j h = cc
held_size env at (held.Zeros e) p j h = cc
held_size env at (held.Padding e) p j h = cc

held_means : (env : Env) (at : ℕ) (s : Held) → HoldsInsn s → (own : List ℕ) (i : Insn) → insn_at env at (shape_of s) ≡ Ok i → Codes i own → Means env at (shape_of s) own
unfolding Means
held_means env at (held.Fixed i) p own j q c = (j, q, c)
held_means env at (held.Filled e i) p own j q c = (j, q, c)
held_means env at (held.Within low top e i) p own j q c = (j, q, c)
held_means env at (held.Aimed e i) p own j q c = (j, q, c)
held_means env at (held.Near e i) p own j q c = (j, q, c)
held_means env at held.Misplaced p own j q c = (j, q, c)
held_means env at (held.Listed loads text) p own j q c = (j, q, c)
held_means env at (held.Block n raised loads text) p own j q c = (j, q, c)
held_means env at (held.Data s es) p own j q c = cc
held_means env at (held.Text text) p own j q c = cc
held_means env at (held.Zeros e) p own j q c = cc
held_means env at (held.Padding e) p own j q c = cc

pub held_cause : (env : Env) (at : ℕ) (s : Held) → HoldsInsn s → shape_cause env at (shape_of s) ≡ insn_cause at (insn_at env at (shape_of s))
unfolding shape_cause
held_cause env at (held.Fixed i) p = refl
held_cause env at (held.Filled e i) p = refl
held_cause env at (held.Within low top e i) p = refl
held_cause env at (held.Aimed e i) p = refl
held_cause env at (held.Near e i) p = refl
held_cause env at held.Misplaced p = refl
held_cause env at (held.Listed loads text) p = refl
held_cause env at (held.Block n raised loads text) p = refl
held_cause env at (held.Data s es) p = cc
held_cause env at (held.Text text) p = cc
held_cause env at (held.Zeros e) p = cc
held_cause env at (held.Padding e) p = cc

pub gave_held : (env : Env) (at : ℕ) (s : Held) (old new : List ℕ) (r : Result (Unit {0}) Stop) → HoldsInsn s → OnOk r (Put (insn_at env at (shape_of s)) at old new) → OnOk r (Gave env at (shape_of s) old new)
gave_held env at s old new r p k = gave_put env at (shape_of s) old new r (held_size env at s p) (held_means env at s p) (held_cause env at s p) k

pub refused_held : (env : Env) (at : ℕ) (s : Held) (r : Result (Unit {0}) Stop) → HoldsInsn s → IfErr r (λ e. Stops e (insn_cause at (insn_at env at (shape_of s)))) → IfErr r (λ e. Stops e (shape_cause env at (shape_of s)))
refused_held env at s (Ok u) p k = tt
refused_held env at s (Err x) p k = subst (Stops x) (sym (held_cause env at s p)) k

-- text and zero bytes
pub gave_text : (env : Env) (at : ℕ) (text old new : List ℕ) (r : Result (Unit {0}) Stop) → OnOk r (new ≡ old ++ text) → OnOk r (Gave env at (Text text) old new)
unfolding Means shape_cause shape_size
gave_text env at text old new (Ok u) h = record { own = text; bytes = h; size = refl; means = refl; accepted = refl }
gave_text env at text old new (Err x) h = tt

pub gave_zeros : (env : Env) (at : ℕ) (e old new : List ℕ) (n : ℕ) (r : Result (Unit {0}) Stop) → n ≡ natural_part (signed e) → OnOk r (new ≡ old ++ repeat n (0 ∷ [])) → OnOk r (Gave env at (Zeros e) old new)
unfolding Means shape_cause shape_size
gave_zeros env at e old new n (Ok u) q h = record { own = repeat n (0 ∷ []); bytes = h; size = repeat_length n ∙ q; means = ap (λ k. repeat k (0 ∷ [])) q; accepted = refl }
gave_zeros env at e old new n (Err x) q h = tt

pub gave_padding : (env : Env) (at : ℕ) (e old new : List ℕ) (n : ℕ) (r : Result (Unit {0}) Stop) → n ≡ padding at (natural_part (signed e)) → OnOk r (new ≡ old ++ repeat n (0 ∷ [])) → OnOk r (Gave env at (Padding e) old new)
unfolding Means shape_cause shape_size
gave_padding env at e old new n (Ok u) q h = record { own = repeat n (0 ∷ []); bytes = h; size = repeat_length n ∙ q; means = ap (λ k. repeat k (0 ∷ [])) q; accepted = refl }
gave_padding env at e old new n (Err x) q h = tt
