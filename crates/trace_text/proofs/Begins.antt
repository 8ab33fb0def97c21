-- A line begins with the digits of its turn, and may be cut after them.
use Rattle.std.proofs.Common.{◌≡◌, ◌+◌, ℕ, List, ◌∷◌, ◌++◌, length, take, get_or, refl, sym, ap, ◌∙◌, arith, append_assoc, length-append}
use Rattle.std.proofs.lemmas.List.{take_at, get_or-append-add}
use Rattle.std.specs.Prelude.{decimal}
use Rattle.std.specs.String.Boundary.{IsSplitPoint}
use Rattle.kernel_abi.specs.declared.Note.{Note}
use Rattle.kernel_abi.specs.declared.Note.TheVariants as note
use Rattle.trace_text.specs.Text.{line_of, tick_line, irq_line, post_line, syscall_line, ret_line, close_line, fault_line, listen_line, take_line, offer_line, borrow_line, restart_line, in_line, out_line, irq_status_line, find_line, insn_line, idle_line, low_line, high_line}

-- first these bytes, then a space
abbrev pub Begins : List ℕ → List ℕ → Type 0
Begins xs ys = (rest : List ℕ) × (ys ≡ xs ++ 32 ∷ rest)

first : (xs rest : List ℕ) → Begins xs (xs ++ 32 ∷ rest)
first xs rest = (rest, refl)

longer : (xs ys zs : List ℕ) → Begins xs ys → Begins xs (ys ++ zs)
longer xs ys zs b = (b.0 ++ zs, ap (λ (w : List ℕ). w ++ zs) b.1 ∙ append_assoc xs (32 ∷ b.0) zs)

pub line_begins : (turn : ℕ) (n : Note) → Begins (decimal turn) (line_of turn n)
unfolding tick_line irq_line post_line syscall_line ret_line close_line fault_line listen_line take_line offer_line borrow_line restart_line in_line out_line irq_status_line find_line insn_line idle_line low_line high_line
line_begins turn (note.Tick now) = longer _ _ _ (longer _ _ _ (first _ _))
line_begins turn (note.Irq line handled) = longer _ _ _ (longer _ _ _ (longer _ _ _ (longer _ _ _ (first _ _))))
line_begins turn (note.Post task bits posted) = longer _ _ _ (longer _ _ _ (longer _ _ _ (longer _ _ _ (first _ _))))
line_begins turn (note.Syscall task number arguments) = longer _ _ _ (longer _ _ _ (longer _ _ _ (longer _ _ _ (longer _ _ _ (first _ _)))))
line_begins turn (note.Ret task results) = longer _ _ _ (longer _ _ _ (longer _ _ _ (first _ _)))
line_begins turn (note.Close call ending) = longer _ _ _ (longer _ _ _ (longer _ _ _ (longer _ _ _ (first _ _))))
line_begins turn (note.Fault task fault) = longer _ _ _ (longer _ _ _ (longer _ _ _ (longer _ _ _ (longer _ _ _ (longer _ _ _ (first _ _))))))
line_begins turn (note.Listen task from mask) = longer _ _ _ (longer _ _ _ (longer _ _ _ (longer _ _ _ (longer _ _ _ (first _ _)))))
line_begins turn (note.Take call copied) = longer _ _ _ (longer _ _ _ (longer _ _ _ (longer _ _ _ (first _ _))))
line_begins turn (note.Offer call client server) = longer _ _ _ (longer _ _ _ (longer _ _ _ (longer _ _ _ (longer _ _ _ (longer _ _ _ (first _ _))))))
line_begins turn (note.Borrow call borrow lease offset moved) = longer _ _ _ (longer _ _ _ (longer _ _ _ (longer _ _ _ (longer _ _ _ (longer _ _ _ (longer _ _ _ (longer _ _ _ (longer _ _ _ (longer _ _ _ (first _ _))))))))))
line_begins turn (note.Restart task generation) = longer _ _ _ (longer _ _ _ (longer _ _ _ (longer _ _ _ (first _ _))))
line_begins turn (note.In device byte fed) = longer _ _ _ (longer _ _ _ (longer _ _ _ (longer _ _ _ (longer _ _ _ (longer _ _ _ (first _ _))))))
line_begins turn (note.Out device byte) = longer _ _ _ (longer _ _ _ (longer _ _ _ (longer _ _ _ (first _ _))))
line_begins turn (note.IrqStatus task bits status) = longer _ _ _ (longer _ _ _ (longer _ _ _ (longer _ _ _ (longer _ _ _ (first _ _)))))
line_begins turn (note.Find index found) = longer _ _ _ (longer _ _ _ (longer _ _ _ (longer _ _ _ (first _ _))))
line_begins turn (note.Insn task at code) = longer _ _ _ (longer _ _ _ (longer _ _ _ (longer _ _ _ (longer _ _ _ (longer _ _ _ (longer _ _ _ (first _ _)))))))
line_begins turn note.Idle = first _ _
line_begins turn (note.Low registers) = longer _ _ _ (first _ _)
line_begins turn (note.High registers n z c v) = longer _ _ _ (first _ _)

-- the text may be cut there, and its front is these bytes
pub cut_at : (bytes xs : List ℕ) (n : ℕ) → n ≡ length xs → Begins xs bytes → IsSplitPoint bytes n
cut_at bytes xs n is b =
    let same : length xs ≡ length xs + 0 = omega arith in
    let here : get_or (xs ++ 32 ∷ b.0) (length xs) 0 ≡ 32 = ap (λ (k : ℕ). get_or (xs ++ 32 ∷ b.0) k 0) same ∙ get_or-append-add xs (32 ∷ b.0) 0 0 in
    let long : length (xs ++ 32 ∷ b.0) ≡ length xs + length (32 ∷ b.0) = length-append xs (32 ∷ b.0) in
    rw (b.1, is) (omega (arith, long), λ _ _ big. absurd (omega (arith, here, big)))

pub front_of : (bytes xs : List ℕ) (n : ℕ) → n ≡ length xs → Begins xs bytes → take n bytes ≡ xs
front_of bytes xs n is b = ap (take n) b.1 ∙ take_at xs (32 ∷ b.0) n (sym is)

-- only digits
pub cut_end : (xs : List ℕ) (n : ℕ) → n ≡ length xs → IsSplitPoint xs n
cut_end xs n is = (omega (arith, is), λ _ lt _. absurd (omega (arith, is, lt)))
