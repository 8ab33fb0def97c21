-- An instruction that the table gives for a code has that code.
use Rattle.std.proofs.Common.{◌≡◌, ℕ, ◌+◌, ◌*◌, ◌^◌, ◌<◌, Some, refl, subst}
use Rattle.std.specs.Prelude.{Option, None}
use Rattle.thumb_insn.specs.Table.{narrow_of, narrow_result, wide_of}
use Rattle.thumb_insn.specs.Range.{IsCoded, GivesCoded}
use Rattle.thumb_insn.specs.declared.Insn.{Insn}
use Rattle.thumb_insn.specs.declared.Code.TheVariants.{One, Two}
use Rattle.thumb_insn.specs.declared.Decoded.TheVariants.{Narrow}

narrow_coded : (h : ℕ) (i : Insn) → narrow_of h ≡ Some i → h < 2 ^ 16 → IsCoded i
narrow_coded h i e f = (One h, f, e)

pub wide_coded : (first second : ℕ) (i : Insn) → wide_of (first * 2 ^ 16 + second) ≡ Some i → first < 2 ^ 16 → second < 2 ^ 16 → IsCoded i
wide_coded first second i e f g = (Two first second, (f, g), e)

pub narrow_gives_coded : (h : ℕ) (o : Option Insn) → narrow_of h ≡ o → h < 2 ^ 16 → GivesCoded (narrow_result o)
narrow_gives_coded h None e f = tt
narrow_gives_coded h (Some i) e f = narrow_coded h i e f

-- an instruction that a taker is handed has a code
pub coded_of : (h : ℕ) (i : Insn) → narrow_result (narrow_of h) ≡ Narrow i → h < 2 ^ 16 → IsCoded i
coded_of h i e f = subst (λ d. GivesCoded d) e (narrow_gives_coded h (narrow_of h) refl f)
