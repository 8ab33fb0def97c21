-- An instruction that has a code is in range, and its register list fits in a byte.
use Rattle.std.specs.Prelude.{◌≡◌, ◌<◌, ℕ, ◌*◌, ◌+◌, Some, None}
use Rattle.std.proofs.Common.{ap, subst}
use Rattle.thumb_insn.specs.declared.Insn.{Insn}
use Rattle.thumb_insn.specs.declared.Code.TheVariants.{One, Two}
use Rattle.thumb_insn.specs.Table.{rows, wide_rows, narrow_of, wide_of}
use Rattle.thumb_insn.specs.Range.{IsCoded}
use Rattle.thumb_insn.proofs.InRange.{AllRows, any_row, any_wide, inner, only, byte}
use Rattle.thumb_encode.specs.Codes.{fit_of, HasList}
use Rattle.thumb_encode.proofs.Again.{code_again}
use Rattle.thumb_encode.proofs.Wide.{two_again}

pub coded_fits : (i : Insn) → IsCoded i → fit_of i ≡ None
coded_fits i (One h, f, e) = (code_again h i f e).0
coded_fits i (Two first second, f, e) = (two_again first second i f.0 f.1 e).0

plain_list : {i j : Insn} → Some i ≡ Some j → HasList i → HasList j
plain_list e c = subst HasList (inner e) c

-- one part a row, in the order of the rows
all_lists : AllRows (λ h i. HasList i) rows
unfolding rows
all_lists = ((λ h f m i e. plain_list e tt), ((λ h f m i e. plain_list e tt), ((λ h f m i e. plain_list e tt), ((λ h f m i e. plain_list e tt), ((λ h f m i e. plain_list e tt), ((λ h f m i e. plain_list e tt), ((λ h f m i e. plain_list e tt), ((λ h f m i e. plain_list e tt), ((λ h f m i e. plain_list e tt), ((λ h f m i e. plain_list e tt), ((λ h f m i e. plain_list e tt), ((λ h f m i e. plain_list e tt), ((λ h f m i e. plain_list e tt), ((λ h f m i e. plain_list e tt), ((λ h f m i e. plain_list e tt), ((λ h f m i e. plain_list e tt), ((λ h f m i e. plain_list e tt), ((λ h f m i e. plain_list e tt), ((λ h f m i e. plain_list e tt), ((λ h f m i e. plain_list e tt), ((λ h f m i e. plain_list e tt), ((λ h f m i e. plain_list e tt), ((λ h f m i e. plain_list e tt), ((λ h f m i e. plain_list e tt), ((λ h f m i e. plain_list e tt), ((λ h f m i e. plain_list e tt), ((λ h f m i e. plain_list e tt), ((λ h f m i e. plain_list (ap Some (only e).1) tt), ((λ h f m i e. plain_list (ap Some (only e).1) tt), ((λ h f m i e. plain_list e tt), ((λ h f m i e. plain_list (ap Some (only e).1) tt), ((λ h f m i e. plain_list (ap Some (only e).1) tt), ((λ h f m i e. plain_list e tt), ((λ h f m i e. plain_list e tt), ((λ h f m i e. plain_list e tt), ((λ h f m i e. plain_list e tt), ((λ h f m i e. plain_list e tt), ((λ h f m i e. plain_list e tt), ((λ h f m i e. plain_list e tt), ((λ h f m i e. plain_list e tt), ((λ h f m i e. plain_list e tt), ((λ h f m i e. plain_list e tt), ((λ h f m i e. plain_list e tt), ((λ h f m i e. plain_list e tt), ((λ h f m i e. plain_list e tt), ((λ h f m i e. plain_list e tt), ((λ h f m i e. plain_list e tt), ((λ h f m i e. plain_list e tt), ((λ h f m i e. plain_list e tt), ((λ h f m i e. plain_list e tt), ((λ h f m i e. plain_list e tt), ((λ h f m i e. plain_list e tt), ((λ h f m i e. plain_list e tt), ((λ h f m i e. plain_list e tt), ((λ h f m i e. plain_list e tt), ((λ h f m i e. plain_list e tt), ((λ h f m i e. plain_list e tt), ((λ h f m i e. plain_list (ap Some (only e).1) (byte h)), ((λ h f m i e. plain_list (ap Some (only e).1) (byte h)), ((λ h f m i e. plain_list e tt), ((λ h f m i e. plain_list e tt), ((λ h f m i e. plain_list e tt), ((λ h f m i e. plain_list e tt), ((λ h f m i e. plain_list e tt), ((λ h f m i e. plain_list e tt), ((λ h f m i e. plain_list e tt), ((λ h f m i e. plain_list (ap Some (only e).1) (byte h)), ((λ h f m i e. plain_list (ap Some (only e).1) (byte h)), ((λ h f m i e. plain_list e tt), ((λ h f m i e. plain_list e tt), ((λ h f m i e. plain_list e tt), ((λ h f m i e. plain_list e tt), ((λ h f m i e. plain_list e tt), ((λ h f m i e. plain_list e tt), ((λ h f m i e. plain_list e tt), ((λ h f m i e. plain_list e tt), ((λ h f m i e. plain_list e tt), ((λ h f m i e. plain_list e tt), ((λ h f m i e. plain_list e tt), ((λ h f m i e. plain_list e tt), ((λ h f m i e. plain_list e tt), ((λ h f m i e. plain_list e tt), ((λ h f m i e. plain_list e tt), ((λ h f m i e. plain_list e tt), tt))))))))))))))))))))))))))))))))))))))))))))))))))))))))))))))))))))))))))))))))))))

narrow_list : (h : ℕ) (i : Insn) → h < 65536 → narrow_of h ≡ Some i → HasList i
unfolding narrow_of
narrow_list h i f e = any_row (λ h i. HasList i) rows all_lists h f i e

wide_list : (c : ℕ) (i : Insn) → wide_of c ≡ Some i → HasList i
unfolding wide_of wide_rows
wide_list c i e = any_wide (λ h i. HasList i) wide_rows ((λ h m i e. plain_list e tt), ((λ h m i e. plain_list e tt), ((λ h m i e. plain_list e tt), ((λ h m i e. plain_list e tt), ((λ h m i e. plain_list (ap Some (only e).1) tt), ((λ h m i e. plain_list (ap Some (only e).1) tt), tt)))))) c i e

pub coded_list : (i : Insn) → IsCoded i → HasList i
coded_list i (One h, f, e) = narrow_list h i f e
coded_list i (Two first second, f, e) = wide_list (first * 65536 + second) i e
