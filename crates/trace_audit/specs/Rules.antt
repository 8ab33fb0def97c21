-- When a line is good after those before it.
use Rattle.std.specs.Prelude.{ℕ, ◌+◌, ◌≡◌, ◌≤◌, ◌↔◌, ◌⊎◌, Bool, true, false, ◌==◌, not, List, [], ◌∷◌, ◌++◌, length, map, count_by, Contains}
use Rattle.std.specs.List.{list_any}
use Rattle.trace_audit.specs.declared.reading.TraceLine.{TraceLine}
use Rattle.trace_audit.specs.declared.reading.TraceLine.TheVariants as line
use Rattle.trace_audit.specs.declared.reading.Saying.{Saying}
use Rattle.trace_audit.specs.declared.reading.Saying.TheVariants as saying
use Rattle.trace_audit.specs.declared.reading.FinalWait.{FinalWait}
use Rattle.trace_audit.specs.declared.reading.FinalWait.TheVariants as wait

-- ## what lines say about calls

abbrev pub said : TraceLine → Saying
said (line.Tells turn s) = s
said line.Ends = saying.Nothing
said (line.Waits task w) = saying.Nothing
said line.Shows = saying.Nothing
said line.Strange = saying.Nothing

abbrev pub is_offer : Saying → Bool
is_offer (saying.Offers k i) = true
is_offer (saying.Takes k) = false
is_offer (saying.Closes k answer) = false
is_offer (saying.Borrows k) = false
is_offer saying.Nothing = false

abbrev pub closes : ℕ → Saying → Bool
closes k (saying.Offers j i) = false
closes k (saying.Takes j) = false
closes k (saying.Closes j answer) = j == k
closes k (saying.Borrows j) = false
closes k saying.Nothing = false

abbrev pub is_end : TraceLine → Bool
is_end (line.Tells turn s) = false
is_end line.Ends = true
is_end (line.Waits task w) = false
is_end line.Shows = false
is_end line.Strange = false

-- client i offered call k; call k was taken; call k was closed
abbrev pub IsOffered : List Saying → ℕ → ℕ → Type 0
IsOffered before k i = Contains before (saying.Offers k i)

abbrev pub IsTaken : List Saying → ℕ → Type 0
IsTaken before k = Contains before (saying.Takes k)

abbrev pub IsClosed : List Saying → ℕ → Type 0
IsClosed before k = (answer : Bool) × Contains before (saying.Closes k answer)

-- ## the rules

-- an offer has the number after those of all offers before it, and its client has no call that was offered before
-- and not closed
pub record MayOffer (before : List Saying) (k i : ℕ) : Type 0 where
  pub number : k ≡ count_by is_offer before + 1
  pub free : (j : ℕ) → IsOffered before j i → ¬ IsClosed before j → ⊥

-- an offered call is taken once, before it is closed
pub record MayTake (before : List Saying) (k : ℕ) : Type 0 where
  pub offered : (i : ℕ) × IsOffered before k i
  pub first : ¬ IsTaken before k
  pub still : ¬ IsClosed before k

-- an offered call is closed once, by an answer only after it was taken
pub record MayClose (before : List Saying) (k : ℕ) (answer : Bool) : Type 0 where
  pub offered : (i : ℕ) × IsOffered before k i
  pub first : ¬ IsClosed before k
  pub answered : answer ≡ true → IsTaken before k

-- a lease is used while its call is taken
pub record MayBorrow (before : List Saying) (k : ℕ) : Type 0 where
  pub taken : IsTaken before k
  pub still : ¬ IsClosed before k

abbrev pub IsGoodSaying : List Saying → Saying → Type 0
IsGoodSaying before (saying.Offers k i) = MayOffer before k i
IsGoodSaying before (saying.Takes k) = MayTake before k
IsGoodSaying before (saying.Closes k answer) = MayClose before k answer
IsGoodSaying before (saying.Borrows k) = MayBorrow before k
IsGoodSaying before saying.Nothing = Unit {0}

-- a task waits for an offered or a taken call exactly if it offered that call, no line closed it, and a line took
-- it or none did
pub record IsGoodWait (before : List Saying) (i : ℕ) (w : FinalWait) : Type 0 where
  pub offered : (k : ℕ) → (w ≡ wait.Offered k) ↔ (IsOffered before k i × ¬ IsClosed before k × ¬ IsTaken before k)
  pub taken : (k : ℕ) → (w ≡ wait.Taken k) ↔ (IsOffered before k i × ¬ IsClosed before k × IsTaken before k)

-- the turn of the last line that belongs to a turn; n if there is none
abbrev pub turn_after : ℕ → List TraceLine → ℕ
turn_after n [] = n
turn_after n (line.Tells turn s ∷ lines) = turn_after turn lines
turn_after n (line.Ends ∷ lines) = turn_after n lines
turn_after n (line.Waits task w ∷ lines) = turn_after n lines
turn_after n (line.Shows ∷ lines) = turn_after n lines
turn_after n (line.Strange ∷ lines) = turn_after n lines

abbrev pub has_ended : List TraceLine → Bool
has_ended lines = list_any is_end lines

-- a line of a turn comes before the end of the turns, and its turn is not below that of the line before
pub record IsGoodTelling (before : List TraceLine) (turn : ℕ) (s : Saying) : Type 0 where
  pub before_end : has_ended before ≡ false
  pub not_below : turn_after 0 before ≤ turn
  pub saying : IsGoodSaying (map said before) s

abbrev pub IsGoodLine : List TraceLine → TraceLine → Type 0
IsGoodLine before (line.Tells turn s) = IsGoodTelling before turn s
IsGoodLine before line.Ends = has_ended before ≡ false
IsGoodLine before (line.Waits task w) = (has_ended before ≡ true) × IsGoodWait (map said before) task w
IsGoodLine before line.Shows = has_ended before ≡ true
IsGoodLine before line.Strange = ⊥

-- each line is good after those before it
abbrev pub AreGood : List TraceLine → Type 0
AreGood lines = (before : List TraceLine) (l : TraceLine) (after : List TraceLine) → lines ≡ before ++ l ∷ after → IsGoodLine before l

-- a good trace also has a line that ends its turns
pub record IsGood (lines : List TraceLine) : Type 0 where
  pub each : AreGood lines
  pub ended : has_ended lines ≡ true

-- line n is the first one that is not good; if only the end of the turns is missing, n is one past the last line
pub record IsFirstBad (lines : List TraceLine) (n : ℕ) : Type 0 where
  pub before : List TraceLine
  pub good : AreGood before
  pub number : n ≡ length before + 1
  pub bad : ((l : TraceLine) × (after : List TraceLine) × (lines ≡ before ++ l ∷ after) × ¬ IsGoodLine before l) ⊎ ((lines ≡ before) × (has_ended lines ≡ false))

-- an offered call that no line closes
abbrev pub is_left : List Saying → Saying → Bool
is_left all (saying.Offers k i) = not (list_any (closes k) all)
is_left all (saying.Takes k) = false
is_left all (saying.Closes k answer) = false
is_left all (saying.Borrows k) = false
is_left all saying.Nothing = false

abbrev pub offers_in : List TraceLine → ℕ
offers_in lines = count_by is_offer (map said lines)

abbrev pub left_in : List TraceLine → ℕ
left_in lines = count_by (is_left (map said lines)) (map said lines)
