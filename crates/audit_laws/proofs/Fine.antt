-- No line of a text has a cause.
use Rattle.std.proofs.Common.{◌≡◌, ℕ, ◌≤◌, true, false, ltb, List, [], ◌∷◌, ◌++◌, length, None, refl, sym, subst, ap, arith, append_assoc}
use Rattle.std.specs.List.{list_all}
use Rattle.std.proofs.lemmas.Bool.Decides.{nat_tests}
use Rattle.std.proofs.lemmas.List.{length-append}
use Rattle.std.proofs.lemmas.List.Elements.{All-nil, All-cons}
use Rattle.kernel_abi.specs.declared.Note.{Note}
use Rattle.trace_text.specs.Text.{line_of}
use Rattle.trace_audit.specs.declared.reading.TraceLine.{TraceLine}
use Rattle.trace_audit.specs.Texts.{lines_of}
use Rattle.trace_audit.specs.Judgements.{is_printable, cause_of, HasNoCause}
use Rattle.audit_laws.specs.Told.{IsLine}
use Rattle.audit_laws.specs.Whole.{AreLines, AreShort, joined}
use Rattle.trace_text.specs.Lines.{notes_text}
use Rattle.audit_laws.proofs.Fitting.{AreFitNotes}
use Rattle.audit_laws.proofs.Spelled.{note_read}
use Rattle.audit_laws.proofs.Assembled.{cut_line, cut_nothing}
use Rattle.audit_laws.proofs.Short.{note_short}

not_over : (n : ℕ) → n ≤ 159 → ltb 159 n ≡ false
not_over n h = grind (arith, nat_tests)

no_cause : (text : List ℕ) → list_all is_printable text ≡ true → length text ≤ 159 → cause_of text ≡ None
unfolding cause_of
no_cause text h k = rw (h, not_over (length text) k) refl

text_short : (text bytes : List ℕ) → bytes ≡ text ++ 10 ∷ [] → length bytes ≤ 160 → length text ≤ 159
text_short text bytes same h = let e = length-append text (10 ∷ []) in let k = ap length same in omega arith

fine_line : (bytes rest : List ℕ) (l : TraceLine) → IsLine bytes l → length bytes ≤ 160 → HasNoCause (lines_of rest) → HasNoCause (lines_of (bytes ++ rest))
fine_line bytes rest l is short h =
    subst (λ b. HasNoCause (lines_of (b ++ rest))) (sym is.spelled)
    (subst (λ b. HasNoCause (lines_of b)) (sym (append_assoc is.text (10 ∷ []) rest))
    (subst HasNoCause (sym (cut_line is.text rest is.printable))
    (All-cons (λ x. cause_of x ≡ None) is.text (lines_of rest) (no_cause is.text is.printable (text_short is.text bytes is.spelled short)) h)))

fine_notes : (last : ℕ) (notes : List (ℕ × Note)) (rest : List ℕ) → AreFitNotes last notes → HasNoCause (lines_of rest) → HasNoCause (lines_of (notes_text notes ++ rest))
fine_notes last [] rest fit h = h
fine_notes last (n ∷ notes) rest fit h =
    subst (λ b. HasNoCause (lines_of b)) (sym (append_assoc (line_of n.0 n.1) (notes_text notes) rest))
    (fine_line (line_of n.0 n.1) (notes_text notes ++ rest) _ (note_read n.0 n.1 fit.1 fit.2 fit.3) (note_short n.0 n.1 fit.1 fit.2) (fine_notes n.0 notes rest fit.4 h))

fine_joined : (texts : List (List ℕ)) (ls : List TraceLine) → AreLines texts ls → AreShort texts → HasNoCause (lines_of (joined texts))
fine_joined [] [] are short = subst HasNoCause (sym cut_nothing) (All-nil (λ x. cause_of x ≡ None))
fine_joined [] (l ∷ ls) are short = absurd are
fine_joined (t ∷ texts) [] are short = absurd are
fine_joined (t ∷ texts) (l ∷ ls) are short = fine_line t (joined texts) l are.0 short.0 (fine_joined texts ls are.1 short.1)

pub text_fine : (notes : List (ℕ × Note)) (texts : List (List ℕ)) (ls : List TraceLine) → AreFitNotes 0 notes → AreLines texts ls → AreShort texts → HasNoCause (lines_of (notes_text notes ++ joined texts))
text_fine notes texts ls fit are short = fine_notes 0 notes (joined texts) fit (fine_joined texts ls are short)
