-- What reads, puts and pushes do, by what an object shows of itself and by its counts.
use Rattle.std.specs.Prelude.{◌≡◌, ℕ, ◌+◌, ◌-◌, ◌^◌, ◌<◌, ◌≤◌, min, List, ◌++◌, length, take, drop, Option, Some, Result, MatchResult, OnErr}
use Rattle.std.specs.Io.KnownBytes.{Appends}

-- if an object shows a value, the value has P
abbrev pub WhereSeen : {T : Type 0} → Option T → (T → Type 0) → Type 0
WhereSeen {T} contents P = (value : T) → contents ≡ Some value → P value

-- a count of 64 bits that rises by so much, and at most to its type's end
abbrev pub raised : ℕ → ℕ → ℕ
raised count by = min (count + by) (2 ^ 64 - 1)

-- the count rose, or stands at its type's end
abbrev pub Rose : ℕ → ℕ → Type 0
Rose before now = raised before 1 ≤ now

-- a failure is returned only if the count of faults rose, and the count does not fall
pub record HasCause {T E : Type 0} (before now : ℕ) (result : Result T E) : Type 0 where
  pub later : before ≤ now
  pub failed : OnErr result (Rose before now)

-- the count rises by one at a failure, and otherwise stays
abbrev pub CountsFailure : {T E : Type 0} → ℕ → ℕ → Result T E → Type 0
CountsFailure before now result = MatchResult result (λ _. now ≡ before) (λ _. now ≡ raised before 1)

-- the length of a name and its first 255 bytes
abbrev pub short_name : List ℕ → ℕ × List ℕ
short_name name = (length name, take 255 name)

-- n bytes of the contents from a place on are at the front of the buffer, and none only at the end
pub record IsPart (all : List ℕ) (at n : ℕ) (buf : List ℕ) : Type 0 where
  pub filled : take n buf ≡ take n (drop at all)
  pub within : n ≤ length all - at
  pub at_end : n ≡ 0 → 0 < length buf → length all ≤ at

-- a read fills at most the buffer, and where the contents are seen, with a part of them
abbrev pub Reads : {E : Type 0} → Option (List ℕ) → ℕ → List ℕ → Result ℕ E → Type 0
Reads contents at buf result = MatchResult result (λ n. (n ≤ length buf) × WhereSeen contents (λ all. IsPart all at n buf)) (λ _. Unit {0})

-- the count of bytes given rises by what the read gave, at most to its type's end
abbrev pub Gives : {E : Type 0} → ℕ → ℕ → Result ℕ E → Type 0
Gives before now result = MatchResult result (λ n. now ≡ raised before n) (λ _. now ≡ before)

-- some front of the bytes
abbrev pub IsFront : List ℕ → List ℕ → Type 0
IsFront front bytes = (back : List ℕ) × (bytes ≡ front ++ back)

-- what a put leaves under its name: the new bytes, where it is seen, or after a failure what was there
abbrev pub Puts : {E : Type 0} → Option (List ℕ) → Option (List ℕ) → List ℕ → Result (Unit {0}) E → Type 0
Puts old new bytes result = MatchResult result (λ _. WhereSeen new (λ c. c ≡ bytes)) (λ _. new ≡ old)

-- a front of the text was appended
abbrev pub AppendsFront : Option (List ℕ) → Option (List ℕ) → List ℕ → Type 0
AppendsFront old new text = (front : List ℕ) × IsFront front text × Appends old new front

-- the whole text was appended, or after a failure a front of it
abbrev pub Pushes : {T E : Type 0} → Option (List ℕ) → Option (List ℕ) → List ℕ → Result T E → Type 0
Pushes old new text result = MatchResult result (λ _. Appends old new text) (λ _. AppendsFront old new text)
