-- Names that are kept in the order of their bytes, as one more is added.
use Rattle.std.proofs.Common.{◌≡◌, ◌∙◌, ◌<◌, ◌+◌, ◌||◌, ℕ, List, [], ◌∷◌, ◌++◌, length, drop, get_or, map, take, Bool, true, false, cond, inl, inr, Option, Some, None, is_some, String, refl, sym, ap, subst, add-one}
use Rattle.std.specs.BTreeMap.{BTreeMap, get_by_text}
use Rattle.std.specs.List.{list_any}
use Rattle.std.specs.Str.{bytes_eq}
use Rattle.std.proofs.lemmas.Bool.{cases_Bool, or_right, or_parts}
use Rattle.std.proofs.lemmas.List.{append_assoc, drop_more, map-append}
use Rattle.std.proofs.Math.Seq.{take-suc}
use Rattle.toml.specs.Data.{Members}
use Rattle.toml.specs.View.{items_view, view}
use Rattle.toml.specs.declared.value.Value.{Value}
use Rattle.app_toml.specs.Apps.{TaskData}
use Rattle.app_toml.specs.Crossed.{areas_of, has_task, notifications_of}
use Rattle.app_toml.specs.Known.{IsKept, KeepsNames}
use Rattle.app_toml.specs.Places.{Text}
use Rattle.app_toml.specs.Values.{each_in, table_of}
use Rattle.app_toml.specs.declared.known.KeptTask.{KeptTask}
use Rattle.app_toml.proofs.Walks.{same_text}

swapped : (a b c : Bool) → (a || (b || c)) ≡ (b || (a || c))
swapped true true c = refl
swapped true false c = refl
swapped false b c = refl

-- one more at the end
pub any_more : {T : Type 0} (test : T → Bool) (xs : List T) (x : T) → list_any test (xs ++ x ∷ []) ≡ (test x || list_any test xs)
any_more test [] x = refl
any_more test (y ∷ xs) x = ap (λ t. test y || t) (any_more test xs x) ∙ swapped (test y) (test x) (list_any test xs)

pub taken_more : {T U : Type 0} (f : T → U) (xs : List T) (i : ℕ) (x : T) → i < length xs → x ≡ get_or xs i x
    → map f (take (i + 1) xs) ≡ map f (take i xs) ++ f x ∷ []
taken_more f xs i x lt h =
    ap (λ n. map f (take n xs)) (add-one i) ∙ ap (map f) (take-suc xs i x lt) ∙ ap (λ y. map f (take i xs ++ y ∷ [])) (sym h)
    ∙ map-append f (take i xs) (x ∷ [])

-- a test of what is known, which holds of the items before and of the one that is added
pub known_more : {T U : Type 0} (f : T → U) (test : U → Bool) (xs : List T) (i : ℕ) (x : T) (old new : Bool) → i < length xs → x ≡ get_or xs i x
    → old ≡ list_any test (map f (take i xs)) → new ≡ (test (f x) || old) → new ≡ list_any test (map f (take (i + 1) xs))
known_more f test xs i x old new lt h before after =
    after ∙ ap (λ t. test (f x) || t) before ∙ sym (any_more test (map f (take i xs)) (f x))
    ∙ ap (list_any test) (sym (taken_more f xs i x lt h))

-- the same beside what was known at first
pub joined_more : {T U : Type 0} (f : T → U) (test : U → Bool) (xs : List T) (i : ℕ) (x : T) (first old new : Bool) → i < length xs → x ≡ get_or xs i x
    → old ≡ (first || list_any test (map f (take i xs))) → new ≡ (test (f x) || old) → new ≡ (first || list_any test (map f (take (i + 1) xs)))
joined_more f test xs i x first old new lt h before after =
    after ∙ ap (λ t. test (f x) || t) before ∙ swapped (test (f x)) first (list_any test (map f (take i xs)))
    ∙ ap (λ t. first || t) (sym (any_more test (map f (take i xs)) (f x)) ∙ ap (list_any test) (sym (taken_more f xs i x lt h)))

-- items that are made of those of a list one by one
pub pushed_more : {S T U : Type 0} (g : S → U) (f : T → U) (old new : List S) (y : S) (xs : List T) (i : ℕ) (x : T) → i < length xs → x ≡ get_or xs i x
    → new ≡ old ++ y ∷ [] → g y ≡ f x → map g old ++ map f (drop i xs) ≡ map f xs → map g new ++ map f (drop (i + 1) xs) ≡ map f xs
pushed_more g f old new y xs i x lt here pushed same walk =
    let rest = map f (drop (i + 1) xs) in
    ap (λ ys. map g ys ++ rest) pushed ∙ ap (λ us. us ++ rest) (map-append g old (y ∷ [])) ∙ append_assoc (map g old) (g y ∷ []) rest
    ∙ ap (λ u. map g old ++ u ∷ rest) same
    ∙ ap (λ ys. map g old ++ map f ys) (ap (λ z. z ∷ drop (i + 1) xs) here ∙ sym (drop_more xs i x lt)) ∙ walk

-- items that are read from those of a list one by one
pub read_more : {S U : Type 0} (g : S → U) (read : Members → U) (old new : List S) (y : S) (xs : List Value) (i : ℕ) (x : Value) (whole : List U) → i < length xs
    → x ≡ get_or xs i x → new ≡ old ++ y ∷ [] → g y ≡ read (table_of (view x)) → map g old ++ each_in read (items_view (drop i xs)) ≡ whole
    → map g new ++ each_in read (items_view (drop (i + 1) xs)) ≡ whole
read_more g read old new y xs i x whole lt here pushed same walk =
    let rest = each_in read (items_view (drop (i + 1) xs)) in
    ap (λ ys. map g ys ++ rest) pushed ∙ ap (λ us. us ++ rest) (map-append g old (y ∷ [])) ∙ append_assoc (map g old) (g y ∷ []) rest
    ∙ ap (λ u. map g old ++ u ∷ rest) same
    ∙ ap (λ ys. map g old ++ each_in read (items_view ys)) (ap (λ z. z ∷ drop (i + 1) xs) here ∙ sym (drop_more xs i x lt)) ∙ walk

pub as_or : (a b : Bool) → cond a true b ≡ (a || b)
as_or true b = refl
as_or false b = refl

-- ---- tasks, and the names that they give

-- what the first task of a name gives, and nothing where none has it
abbrev IsFirst : (Text → List TaskData → List Text) → (TaskData → List Text) → Type 0
IsFirst of given =
    ((name : Text) → of name [] ≡ [])
    × ((name : Text) (t : TaskData) (ts : List TaskData) → of name (t ∷ ts) ≡ cond (bytes_eq t.name name) (given t) (of name ts))

notifications_first : IsFirst notifications_of (λ t. t.notifications)
notifications_first = (λ name. refl, λ name t ts. refl)

areas_first : IsFirst areas_of (λ t. t.uses ++ t.reads)
areas_first = (λ name. refl, λ name t ts. refl)

picked : (b h : Bool) (n m r x : List Text) → x ≡ cond h m r → cond b n x ≡ cond (b || h) (cond b n m) r
picked true h n m r x e = refl
picked false h n m r x e = e

-- the first task of a name keeps it
given_more : (of : Text → List TaskData → List Text) (given : TaskData → List Text) → IsFirst of given → (name : Text) (ts : List TaskData) (t : TaskData)
    → of name (ts ++ t ∷ []) ≡ cond (has_task name ts) (of name ts) (cond (bytes_eq t.name name) (given t) [])
given_more of given first name [] t = first.1 name t [] ∙ ap (cond (bytes_eq t.name name) (given t)) (first.0 name)
given_more of given first name (s ∷ ts) t =
    first.1 name s (ts ++ t ∷ [])
    ∙ picked (bytes_eq s.name name) (has_task name ts) (given s) (of name ts) (cond (bytes_eq t.name name) (given t) []) _ (given_more of given first name ts t)
    ∙ ap (λ n. cond (has_task name (s ∷ ts)) n (cond (bytes_eq t.name name) (given t) [])) (sym (first.1 name s ts))

given_stay : (of : Text → List TaskData → List Text) (given : TaskData → List Text) → IsFirst of given → (name : Text) (ts : List TaskData) (t : TaskData)
    → has_task name ts ≡ true → of name (ts ++ t ∷ []) ≡ of name ts
given_stay of given first name ts t h =
    given_more of given first name ts t ∙ ap (λ b. cond b (of name ts) (cond (bytes_eq t.name name) (given t) [])) h

given_new : (of : Text → List TaskData → List Text) (given : TaskData → List Text) → IsFirst of given → (ts : List TaskData) (t : TaskData)
    → has_task t.name ts ≡ false → bytes_eq t.name t.name ≡ true → of t.name (ts ++ t ∷ []) ≡ given t
given_new of given first ts t h e =
    given_more of given first t.name ts t ∙ ap (λ b. cond b (of t.name ts) (cond (bytes_eq t.name t.name) (given t) [])) h
    ∙ ap (λ b. cond b (given t) []) e

given_none : (of : Text → List TaskData → List Text) (given : TaskData → List Text) → IsFirst of given → (name : Text) (ts : List TaskData)
    → has_task name ts ≡ false → of name ts ≡ []
given_none of given first name [] e = first.0 name
given_none of given first name (t ∷ ts) e =
    let parts = or_parts (bytes_eq t.name name) (has_task name ts) e in
    first.1 name t ts ∙ ap (λ b. cond b (given t) (of name ts)) parts.0 ∙ given_none of given first name ts parts.1

pub no_notifications : (name : Text) (ts : List TaskData) → has_task name ts ≡ false → notifications_of name ts ≡ []
no_notifications = given_none notifications_of (λ t. t.notifications) notifications_first

pub no_areas : (name : Text) (ts : List TaskData) → has_task name ts ≡ false → areas_of name ts ≡ []
no_areas = given_none areas_of (λ t. t.uses ++ t.reads) areas_first

-- what is kept of a task, where the names are given in another way
names_same : (k : KeptTask) (ms ns rs us : List Text) → ns ≡ ms → us ≡ rs → KeepsNames k ms rs → KeepsNames k ns us
names_same k ms ns rs us e f kept = subst (λ u. KeepsNames k ns u) (sym f) (subst (λ n. KeepsNames k n rs) (sym e) kept)

kept_known : (k : KeptTask) (name : Text) (ts : List TaskData) (t : TaskData) → IsKept (Some k) name ts → IsKept (Some k) name (ts ++ t ∷ [])
kept_known k name ts t kept = (
  any_more (λ s. bytes_eq s.name name) ts t ∙ or_right (bytes_eq t.name name) (has_task name ts) kept.0,
  names_same k (notifications_of name ts) (notifications_of name (ts ++ t ∷ [])) (areas_of name ts) (areas_of name (ts ++ t ∷ []))
      (given_stay notifications_of (λ s. s.notifications) notifications_first name ts t kept.0)
      (given_stay areas_of (λ s. s.uses ++ s.reads) areas_first name ts t kept.0) kept.1,
)

-- a task of another name
kept_other : (o : Option KeptTask) (name : Text) (ts : List TaskData) (t : TaskData)
    → bytes_eq t.name name ≡ false → IsKept o name ts → IsKept o name (ts ++ t ∷ [])
kept_other None name ts t e kept =
    any_more (λ s. bytes_eq s.name name) ts t ∙ ap (λ b. b || has_task name ts) e ∙ kept
kept_other (Some k) name ts t e kept = kept_known k name ts t kept

-- the first task of its name
kept_new : (k : KeptTask) (ts : List TaskData) (t : TaskData) → has_task t.name ts ≡ false → bytes_eq t.name t.name ≡ true
    → KeepsNames k t.notifications (t.uses ++ t.reads) → IsKept (Some k) t.name (ts ++ t ∷ [])
kept_new k ts t h e names = (
  any_more (λ s. bytes_eq s.name t.name) ts t ∙ ap (λ b. b || has_task t.name ts) e,
  names_same k t.notifications (notifications_of t.name (ts ++ t ∷ [])) (t.uses ++ t.reads) (areas_of t.name (ts ++ t ∷ []))
      (given_new notifications_of (λ s. s.notifications) notifications_first ts t h e)
      (given_new areas_of (λ s. s.uses ++ s.reads) areas_first ts t h e) names,
)

different : (name other : Text) (ts : List TaskData) → has_task other ts ≡ true → has_task name ts ≡ false → bytes_eq other name ≡ false
different name other ts there absent =
    elim (cases_Bool (bytes_eq other name)) [
      | inl same ↦ cc (subst (λ n. has_task n ts ≡ true) (same_text other name same) there, absent)
      | inr apart ↦ apart
    ]

-- a further task of a name
pub kept_again : (o : Option KeptTask) (name : Text) (ts : List TaskData) (t : TaskData)
    → has_task t.name ts ≡ true → IsKept o name ts → IsKept o name (ts ++ t ∷ [])
kept_again None name ts t there kept = kept_other None name ts t (different name t.name ts there kept) kept
kept_again (Some k) name ts t there kept = kept_known k name ts t kept

pub kept_is : (o : Option KeptTask) (name : Text) (ts : List TaskData) → IsKept o name ts → is_some o ≡ has_task name ts
kept_is None name ts kept = sym kept
kept_is (Some k) name ts kept = sym kept.0

pub kept_added : (old new : Text → Option KeptTask) (k : KeptTask) (name : Text) (ts : List TaskData) (t : TaskData)
    → ((q : Text) → new q ≡ cond (bytes_eq t.name q) (Some k) (old q)) → has_task t.name ts ≡ false
    → KeepsNames k t.notifications (t.uses ++ t.reads) → IsKept (old name) name ts → IsKept (new name) name (ts ++ t ∷ [])
kept_added old new k name ts t now absent names kept =
    elim (cases_Bool (bytes_eq t.name name)) [
      | inl same ↦
          let here = same_text t.name name same in
          let own = subst (λ n. bytes_eq t.name n ≡ true) (sym here) same in
          let found : new t.name ≡ Some k = now t.name ∙ ap (λ b. cond b (Some k) (old t.name)) own in
          subst (λ n. IsKept (new n) n (ts ++ t ∷ [])) here
          (subst (λ o. IsKept o t.name (ts ++ t ∷ [])) (sym found) (kept_new k ts t absent own names))
      | inr apart ↦
          let left : new name ≡ old name = now name ∙ ap (λ b. cond b (Some k) (old name)) apart in
          subst (λ o. IsKept o name (ts ++ t ∷ [])) (sym left) (kept_other (old name) name ts t apart kept)
    ]

pub nothing_kept : {A : Type 0} (kept : BTreeMap (String A) KeptTask) → kept.entries ≡ [] → (name : Text) → IsKept (get_by_text kept name) name []
nothing_kept kept e name = rw e refl
