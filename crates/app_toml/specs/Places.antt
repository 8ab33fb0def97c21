-- Where in a description a refusal is, and which refusal is the first.
use Rattle.std.specs.Prelude.{ℕ, Bool, List, [], ◌∷◌, ◌++◌, ◌+◌, Option, Some, None, codes, decimal, if◌then◌else◌}

abbrev pub Text : Type 0
Text = List ℕ

-- a place: a table, its index in its list, a key, and an entry of the key's list
pub record Site : Type 0 where
  pub head : Text
  pub index : Option ℕ
  pub key : Option Text
  pub entry : Option ℕ

-- a cause of docs/FORMATS.md, Application, with its place
pub record Refusal : Type 0 where
  pub cause : ℕ
  pub site : Site

abbrev pub refuse : ℕ → Site → Option Refusal
refuse cause site = Some (record { cause = cause; site = site })

abbrev pub refuse_if : Bool → ℕ → Site → Option Refusal
refuse_if refused cause site = if refused then refuse cause site else None

-- ---- places

-- a table, as `board`
abbrev pub head_site : Text → Site
head_site name = record { head = name; index = None; key = None; entry = None }

-- a table of a list, as `task[2]`
abbrev pub index_site : Text → ℕ → Site
index_site name k = record { head = name; index = Some k; key = None; entry = None }

-- a key of a table, as `task[2].uses`
abbrev pub at_key : Text → Site → Site
at_key name site = record site { key = Some name; entry = None }

-- an entry of a key's list, as `task[2].uses[0]`
abbrev pub at_entry : ℕ → Site → Site
at_entry k site = record site { entry = Some k }

abbrev pub index_text : Option ℕ → Text
index_text None = []
index_text (Some k) = codes "[" ++ decimal k ++ codes "]"

abbrev pub key_text : Option Text → Text
key_text None = []
key_text (Some key) = codes "." ++ key

abbrev pub site_text : Site → Text
site_text site =
    site.head ++ index_text site.index ++ key_text site.key ++ index_text site.entry

-- what is stated of a refusal: its cause, and its place as a text
abbrev pub refusal_text : Refusal → ℕ × Text
refusal_text r = (r.cause, site_text r.site)

-- ---- the first of several

-- the first refusal; the next one if there is none
abbrev pub or_else : Option Refusal → Option Refusal → Option Refusal
or_else None next = next
or_else (Some r) next = Some r

-- of the items in order, counted from k
abbrev pub first_fault : {T : Type 0} → (ℕ → T → Option Refusal) → ℕ → List T → Option Refusal
first_fault fault k [] = None
first_fault fault k (x ∷ xs) = or_else (fault k x) (first_fault fault (k + 1) xs)

-- of the items in order, each beside those before it
abbrev pub first_clash : {T : Type 0} → (List T → ℕ → T → Option Refusal) → List T → ℕ → List T
    → Option Refusal
first_clash fault before k [] = None
first_clash fault before k (x ∷ xs) =
    or_else (fault before k x) (first_clash fault (before ++ x ∷ []) (k + 1) xs)
