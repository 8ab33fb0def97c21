-- Notes that meet every requirement of their lines.
use Rattle.std.proofs.Common.{ℕ, ◌^◌, ◌<◌, ◌≤◌, List, [], ◌∷◌}
use Rattle.kernel_abi.specs.declared.Note.{Note}
use Rattle.trace_text.specs.Fit.{IsFitNote, AreFit}
use Rattle.audit_laws.specs.Told.{IsRight}
use Rattle.audit_laws.specs.Whole.{AreInOrder, AreRight}

-- each is in range and right, in a turn that is not below the one before
abbrev pub AreFitNotes : ℕ → List (ℕ × Note) → Type 0
AreFitNotes last [] = Unit {0}
AreFitNotes last (n ∷ notes) = (last ≤ n.0) × (n.0 < 2 ^ 32) × IsFitNote n.1 × IsRight n.1 × AreFitNotes n.0 notes

pub fit_notes : (last : ℕ) (notes : List (ℕ × Note)) → AreInOrder last notes → AreFit notes → AreRight notes → AreFitNotes last notes
fit_notes last [] order fit right = tt
fit_notes last (n ∷ notes) order fit right = (order.0, fit.0, fit.1, right.0, fit_notes n.0 notes order.1 fit.2 right.1)
