-- What the counts of kinds of notes say.
use Rattle.std.specs.Prelude.{◌≡◌, ℕ, ◌+◌, ◌^◌, ◌<◌, List}
use Rattle.kernel_abi.specs.declared.Note.{Note}
use Rattle.kernel_abi.specs.declared.Note.TheVariants as note
use Rattle.outside_io.specs.Outside.{raised}
use Rattle.board_run.specs.declared.counts.Counts.{Counts}
use Rattle.board_run.specs.Counts.{CountedKind, Tick, Irq, Post, Call, Offer, Take, Listen, Borrow, Ret, Close, Fault, Restart, count_of}

abbrev pub count_at : Counts → CountedKind → ℕ
count_at c Tick = c.tick
count_at c Irq = c.irq
count_at c Post = c.post
count_at c Call = c.call
count_at c Offer = c.offer
count_at c Take = c.take
count_at c Listen = c.listen
count_at c Borrow = c.borrow
count_at c Ret = c.ret
count_at c Close = c.close
count_at c Fault = c.fault
count_at c Restart = c.restart

-- the count grew by this number, if 64 bits can hold the sum
abbrev pub Grew : ℕ → ℕ → ℕ → Type 0
Grew before by now = before + by < 2 ^ 64 → now ≡ before + by

-- each count grew by the number of notes of its kind
abbrev pub HaveGrown : Counts → List (ℕ × Note) → Counts → Type 0
HaveGrown before notes now = (kind : CountedKind) → Grew (count_at before kind) (count_of notes kind) (count_at now kind)

-- one more note: the count of its kind grows by one, but not past the end of its type
abbrev pub counted : Counts → Note → Counts
counted c (note.Tick _) = record c { tick = raised c.tick 1 }
counted c (note.Irq _ _) = record c { irq = raised c.irq 1 }
counted c (note.Post _ _ _) = record c { post = raised c.post 1 }
counted c (note.Syscall _ _ _) = record c { call = raised c.call 1 }
counted c (note.Offer _ _ _) = record c { offer = raised c.offer 1 }
counted c (note.Take _ _) = record c { take = raised c.take 1 }
counted c (note.Listen _ _ _) = record c { listen = raised c.listen 1 }
counted c (note.Borrow _ _ _ _ _) = record c { borrow = raised c.borrow 1 }
counted c (note.Ret _ _) = record c { ret = raised c.ret 1 }
counted c (note.Close _ _) = record c { close = raised c.close 1 }
counted c (note.Fault _ _) = record c { fault = raised c.fault 1 }
counted c (note.Restart _ _) = record c { restart = raised c.restart 1 }
counted c _ = c
