-- In the middle of a text: some lines have been read, and the rest of the text has the others.
use Rattle.std.specs.Prelude.{ℕ, ◌+◌, ◌≡◌, ◌≤◌, List, ◌++◌, length, map, All, None}
use Rattle.trace_audit.specs.declared.book.Book.{Book}
use Rattle.trace_audit.specs.Texts.{lines_of}
use Rattle.trace_audit.specs.Meaning.{read}
use Rattle.trace_audit.specs.Rules.{AreGood}
use Rattle.trace_audit.specs.Books.{IsKept}
use Rattle.trace_audit.specs.Judgements.{cause_of}

pub record IsMidway (text rest : List ℕ) (n : ℕ) : Type 0 where
  pub done : List (List ℕ)
  pub all : lines_of text ≡ done ++ lines_of rest
  pub number : n ≡ length done
  pub room : n + length rest ≤ length text

-- none of the lines so far has a cause
pub record IsFineSoFar (text rest : List ℕ) (n : ℕ) : Type 0 where
  pub taken : IsMidway text rest n
  pub fine : All (λ l. cause_of l ≡ None) taken.done

-- each line so far was good, and the book is that of these lines
pub record IsGoodSoFar (text rest : List ℕ) (n : ℕ) (b : Book) : Type 0 where
  pub taken : IsMidway text rest n
  pub good : AreGood (map read taken.done)
  pub kept : IsKept (map read taken.done) b
