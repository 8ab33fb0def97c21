-- When the text of a run is good: its notes are in order and in range, and its last lines follow.
use Rattle.std.specs.Prelude.{ℕ, ◌≤◌, ◌≡◌, List, [], ◌∷◌, ◌++◌, length, map}
use Rattle.std.specs.List.{flat_map}
use Rattle.kernel_abi.specs.declared.Note.{Note}
use Rattle.trace_audit.specs.declared.reading.TraceLine.{TraceLine}
use Rattle.trace_audit.specs.declared.reading.TraceLine.TheVariants as line
use Rattle.trace_audit.specs.declared.reading.Saying.{Saying}
use Rattle.trace_audit.specs.Rules.{IsGoodSaying, IsGoodWait}
use Rattle.audit_laws.specs.Told.{IsRight, told_by, IsLine}

abbrev pub notes_told : List (ℕ × Note) → List Saying
notes_told notes = map (λ n. told_by n.1) notes

-- the turns of the notes do not decrease, and none is below `last`
abbrev pub AreInOrder : ℕ → List (ℕ × Note) → Type 0
AreInOrder last [] = Unit {0}
AreInOrder last (n ∷ notes) = (last ≤ n.0) × AreInOrder n.0 notes

-- each note is right
abbrev pub AreRight : List (ℕ × Note) → Type 0
AreRight [] = Unit {0}
AreRight (n ∷ notes) = IsRight n.1 × AreRight notes

-- each saying is good after the ones before it
abbrev pub AreGoodSayings : List Saying → Type 0
AreGoodSayings all = (before : List Saying) (s : Saying) (after : List Saying) → all ≡ before ++ s ∷ after → IsGoodSaying before s

-- each text is one line, and this is what the lines say
abbrev pub AreLines : List (List ℕ) → List TraceLine → Type 0
AreLines [] [] = Unit {0}
AreLines [] (l ∷ ls) = ⊥
AreLines (t ∷ texts) [] = ⊥
AreLines (t ∷ texts) (l ∷ ls) = IsLine t l × AreLines texts ls

-- no line has more than 159 bytes before its LF
abbrev pub AreShort : List (List ℕ) → Type 0
AreShort [] = Unit {0}
AreShort (t ∷ texts) = (length t ≤ 160) × AreShort texts

abbrev pub joined : List (List ℕ) → List ℕ
joined texts = flat_map (λ t. t) texts

-- a line after the end shows something, or says what a task waits for and agrees with the notes
abbrev pub IsLastLine : List Saying → TraceLine → Type 0
IsLastLine told (line.Tells turn s) = ⊥
IsLastLine told line.Ends = ⊥
IsLastLine told (line.Waits task w) = IsGoodWait told task w
IsLastLine told line.Shows = Unit {0}
IsLastLine told line.Strange = ⊥

abbrev pub AreLastLines : List Saying → List TraceLine → Type 0
AreLastLines told [] = Unit {0}
AreLastLines told (l ∷ ls) = IsLastLine told l × AreLastLines told ls
