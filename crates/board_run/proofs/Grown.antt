-- Counts that began at nothing are those of the kinds.
use Rattle.std.proofs.Common.{◌≡◌, ◌<◌, ◌≤◌, ◌^◌, ℕ, List, ◌++◌, length, Option, refl, ap, subst, ◌∙◌, arith}
use Rattle.std.specs.Prelude.{Result}
use Rattle.std.proofs.lemmas.List.Sums.{count_by-le-length}
use Rattle.kernel_abi.specs.declared.Note.{Note}
use Rattle.outside_io.specs.Outside.{Pushes}
use Rattle.board_model.specs.declared.outcomes.End.{End}
use Rattle.board_model.specs.Run.{Run}
use Rattle.board_run.specs.declared.counts.Counts.{Counts}
use Rattle.board_run.specs.Counts.{CountedKind, Tick, Irq, Post, Call, Offer, Take, Listen, Borrow, Ret, Close, Fault, Restart, is_of, count_of, counts_text, summary_text}
use Rattle.board_run.specs.Counting.{count_at, HaveGrown}
use Rattle.board_run.specs.Text.{end_line}

-- where 64 bits hold as many notes
counts_are : (c d : Counts) (notes : List (ℕ × Note)) → ((kind : CountedKind) → count_at c kind ≡ 0) → HaveGrown c notes d → length notes < 2 ^ 64 → (kind : CountedKind) → count_at d kind ≡ count_of notes kind
counts_are c d notes none grown few kind =
    let before : count_at c kind ≡ 0 = none kind in
    let at_most : count_of notes kind ≤ length notes = count_by-le-length (λ n. is_of kind n.1) notes in
    let is = grown kind (omega (arith, before, at_most, few)) in
    omega (arith, is, before)

same_text : (n m : CountedKind → ℕ) → ((kind : CountedKind) → n kind ≡ m kind) → counts_text n ≡ counts_text m
unfolding counts_text
same_text n m e = rw (e Tick, e Irq, e Post, e Call, e Offer, e Take, e Listen, e Borrow, e Ret, e Close, e Fault, e Restart) refl

-- ## the two lines

pub summary_is : (whole : Run) (e : End) (c d : Counts) → e ≡ whole.end → ((kind : CountedKind) → count_at c kind ≡ 0) → HaveGrown c whole.notes d → length whole.notes < 2 ^ 64 →
    end_line e whole.last.turn whole.last.now ++ counts_text (count_at d) ≡ summary_text whole
summary_is whole e c d is none grown few =
    ap (λ (i : End). end_line i whole.last.turn whole.last.now ++ counts_text (count_at d)) is
    ∙ ap (λ (text : List ℕ). end_line whole.end whole.last.turn whole.last.now ++ text) (same_text (count_at d) (count_of whole.notes) (counts_are c d whole.notes none grown few))

pub summary_pushed : {R E : Type 0} (w w' : Option (List ℕ)) (r : Result R E) (whole : Run) (e : End) (c d : Counts) → e ≡ whole.end → ((kind : CountedKind) → count_at c kind ≡ 0) → HaveGrown c whole.notes d → length whole.notes < 2 ^ 64 →
    Pushes w w' (end_line e whole.last.turn whole.last.now ++ counts_text (count_at d)) r → Pushes w w' (summary_text whole) r
summary_pushed {R} {E} w w' r whole e c d is none grown few pushed =
    let P : List ℕ → Type 0 = λ text. Pushes w w' text r in
    subst P (summary_is whole e c d is none grown few) pushed
