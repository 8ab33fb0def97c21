-- How many notes of each kind a run has, and the two lines that say so.
use Rattle.std.specs.Prelude.{ℕ, Bool, true, false, List, ◌++◌, codes, decimal, count_by}
use Rattle.kernel_abi.specs.declared.Note.{Note}
use Rattle.kernel_abi.specs.declared.Note.TheVariants as note
use Rattle.board_model.specs.Run.{Run}
use Rattle.board_run.specs.Text.{end_line}

-- the kinds of notes that are counted
pub data CountedKind : Type 0 where
  Tick : CountedKind
  Irq : CountedKind
  Post : CountedKind
  Call : CountedKind
  Offer : CountedKind
  Take : CountedKind
  Listen : CountedKind
  Borrow : CountedKind
  Ret : CountedKind
  Close : CountedKind
  Fault : CountedKind
  Restart : CountedKind

-- the note is of that kind
abbrev pub is_of : CountedKind → Note → Bool
is_of Tick (note.Tick _) = true
is_of Irq (note.Irq _ _) = true
is_of Post (note.Post _ _ _) = true
is_of Call (note.Syscall _ _ _) = true
is_of Offer (note.Offer _ _ _) = true
is_of Take (note.Take _ _) = true
is_of Listen (note.Listen _ _ _) = true
is_of Borrow (note.Borrow _ _ _ _ _) = true
is_of Ret (note.Ret _ _) = true
is_of Close (note.Close _ _) = true
is_of Fault (note.Fault _ _) = true
is_of Restart (note.Restart _ _) = true
is_of _ _ = false

-- how many of the notes, each with its turn, are of a kind
abbrev pub count_of : List (ℕ × Note) → CountedKind → ℕ
count_of notes kind = count_by (λ n. is_of kind n.1) notes

-- `tick <n> irq <n> post <n> call <n> offer <n> take <n> listen <n> borrow <n> ret <n> close <n> fault <n> restart <n>`
unfoldable pub counts_text : (CountedKind → ℕ) → List ℕ
counts_text n =
    codes "tick " ++ decimal (n Tick) ++ codes " irq " ++ decimal (n Irq) ++ codes " post " ++ decimal (n Post) ++ codes " call " ++ decimal (n Call) ++ codes " offer " ++ decimal (n Offer) ++ codes " take " ++ decimal (n Take) ++ codes " listen " ++ decimal (n Listen) ++ codes " borrow " ++ decimal (n Borrow) ++ codes " ret " ++ decimal (n Ret) ++ codes " close " ++ decimal (n Close) ++ codes " fault " ++ decimal (n Fault) ++ codes " restart " ++ decimal (n Restart) ++ codes "\n"

abbrev pub counts_line : List (ℕ × Note) → List ℕ
counts_line notes = counts_text (count_of notes)

-- how a run ended, and how many notes of each kind it had
abbrev pub summary_text : Run → List ℕ
summary_text r = end_line r.end r.last.turn r.last.now ++ counts_line r.notes
