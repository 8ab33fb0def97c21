-- What a book keeps of good lines.
use Rattle.std.specs.Prelude.{ℕ, ◌+◌, ◌-◌, ◌≡◌, ◌<◌, ◌≤◌, Bool, true, false, ◌==◌, ◌&&◌, not, if◌then◌else◌, List, [], ◌∷◌, ◌++◌, length, map, count_by, slice_index, Option, Some, None}
use Rattle.std.specs.BTreeMap.{get, btree_map_len}
use Rattle.std.specs.Ordering.{nat_cmp}
use Rattle.trace_audit.specs.declared.book.Book.{Book}
use Rattle.trace_audit.specs.declared.book.Open.{Open}
use Rattle.trace_audit.specs.declared.reading.TraceLine.{TraceLine}
use Rattle.trace_audit.specs.declared.reading.Saying.{Saying}
use Rattle.trace_audit.specs.declared.reading.Saying.TheVariants as saying
use Rattle.trace_audit.specs.declared.reading.FinalWait.{FinalWait}
use Rattle.trace_audit.specs.declared.reading.FinalWait.TheVariants as wait
use Rattle.trace_audit.specs.Rules.{said, is_offer, is_left, IsOffered, IsTaken, IsClosed, IsGoodSaying, IsGoodLine, turn_after, has_ended}

-- the clients of all calls in the order of their numbers, the open call of each client, and how many calls are open
pub record CallBook : Type 0 where
  pub clients : List ℕ
  pub held : ℕ → Option Open
  pub left : ℕ

-- the open call of task i, if that is call k, and whether it was taken
abbrev pub as_open : ℕ → ℕ → Option Open → Option (ℕ × Bool)
as_open k i None = None
as_open k i (Some o) = if o.call == k then Some (i, o.taken) else None

-- the same for the client of call k, if the call has one
abbrev pub open_by : (ℕ → Option Open) → ℕ → Option ℕ → Option (ℕ × Bool)
open_by held k None = None
open_by held k (Some i) = as_open k i (held i)

abbrev pub waits_as : Option Open → FinalWait → Bool
waits_as None (wait.Offered k) = false
waits_as None (wait.Taken k) = false
waits_as None wait.Other = true
waits_as (Some o) (wait.Offered k) = (o.call == k) && not o.taken
waits_as (Some o) (wait.Taken k) = (o.call == k) && o.taken
waits_as (Some o) wait.Other = false

-- the saying offers the call of this number
abbrev pub is_numbered : ℕ → Saying → Bool
is_numbered k (saying.Offers j i) = j == k
is_numbered k (saying.Takes j) = false
is_numbered k (saying.Closes j answer) = false
is_numbered k (saying.Borrows j) = false
is_numbered k saying.Nothing = false

-- client i offered call k, and no line closed it; a line has taken it if `taken`, and otherwise none has
pub record IsOpenAs (before : List Saying) (k i : ℕ) (taken : Bool) : Type 0 where
  pub offered : IsOffered before k i
  pub still : ¬ IsClosed before k
  pub yes : taken ≡ true → IsTaken before k
  pub no : taken ≡ false → ¬ IsTaken before k

-- the calls are those that the lines say
pub record IsTold (before : List Saying) (x : CallBook) : Type 0 where
  pub number : length x.clients ≡ count_by is_offer before
  pub client : (k : ℕ) → k < length x.clients → IsOffered before (k + 1) (slice_index x.clients k)
  pub least : (k i : ℕ) → IsOffered before k i → 1 ≤ k
  pub most : (k i : ℕ) → IsOffered before k i → k ≤ length x.clients
  pub by : (k i : ℕ) → IsOffered before k i → slice_index x.clients (k - 1) ≡ i
  pub taken : (k : ℕ) → IsTaken before k → k ≤ length x.clients
  pub taken_least : (k : ℕ) → IsTaken before k → 1 ≤ k
  pub closed : (k : ℕ) → IsClosed before k → k ≤ length x.clients
  pub once : (k i : ℕ) → IsOffered before k i → count_by (is_numbered k) before ≡ 1
  pub no_more : (k : ℕ) → length x.clients < k → count_by (is_numbered k) before ≡ 0
  pub kept : (i : ℕ) (o : Open) → x.held i ≡ Some o → IsOpenAs before o.call i o.taken
  pub left : (k i : ℕ) → IsOffered before k i → ¬ IsClosed before k → (o : Open) × (x.held i ≡ Some o) × (o.call ≡ k)
  pub count : x.left ≡ count_by (is_left before) before

-- the saying is good, and these are the calls after it; or it is not good
abbrev pub Hears : List Saying → Saying → CallBook → Bool → Type 0
Hears before s x true = IsGoodSaying before s × IsTold (before ++ s ∷ []) x
Hears before s x false = ¬ IsGoodSaying before s

-- ## a book

-- what a book keeps of calls: how many were offered, the client of each open call, the open call of each client,
-- and how many are open
pub record Kept : Type 0 where
  pub offered : ℕ
  pub client : ℕ → Option ℕ
  pub held : ℕ → Option Open
  pub left : ℕ

abbrev pub kept_in : Book → Kept
kept_in b = record { offered = b.offered; client = get nat_cmp b.clients; held = get nat_cmp b.calls; left = btree_map_len b.calls }

abbrev pub calls_with : List ℕ → Kept → CallBook
calls_with clients b = record { clients = clients; held = b.held; left = b.left }

-- A book has the calls that the lines say. The proof knows the clients of all calls; the book has only those of open calls.
pub record HasHeard (before : List Saying) (b : Kept) : Type 0 where
  pub clients : List ℕ
  pub told : IsTold before (calls_with clients b)
  pub offered : b.offered ≡ length clients
  pub found : (i : ℕ) (o : Open) → b.held i ≡ Some o → b.client o.call ≡ Some i

-- the saying is good, and the book keeps this after it; or it is not good
abbrev pub Notes : List Saying → Saying → Kept → Bool → Type 0
Notes before s b true = IsGoodSaying before s × HasHeard (before ++ s ∷ []) b
Notes before s b false = ¬ IsGoodSaying before s

-- only the calls change
pub record IsRest (b c : Book) : Type 0 where
  pub turn : c.turn ≡ b.turn
  pub ended : c.ended ≡ b.ended

-- the book is that of these lines
pub record IsKept (lines : List TraceLine) (b : Book) : Type 0 where
  pub turn : b.turn ≡ turn_after 0 lines
  pub ended : b.ended ≡ has_ended lines
  pub heard : HasHeard (map said lines) (kept_in b)

-- the line is good, and the book is that of the lines with it; or it is not good
abbrev pub Adds : List TraceLine → TraceLine → Book → Bool → Type 0
Adds lines l b true = IsGoodLine lines l × IsKept (lines ++ l ∷ []) b
Adds lines l b false = ¬ IsGoodLine lines l
