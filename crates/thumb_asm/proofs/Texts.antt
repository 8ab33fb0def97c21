-- Lists in braces and texts in quotes, as the code keeps them.
use Rattle.std.proofs.Common.{◌≡◌, ℕ, List, [], ◌∷◌, refl, ap, ◌∙◌, sym, arith, Bool, true, false, cond, nat_eq, ◌&&◌, bytes_eq, Option, Some, None, is_some}
use Rattle.thumb_asm.specs.Chars.{is_nil, strip}
use Rattle.thumb_asm.specs.Operands.{◌>>=◌, ends, ranges, stripped_by, register_list, text_of, escape, with_byte}
use Rattle.thumb_asm.specs.Kinds.{with_range, good_ranges, ranges_in, with_good, good_text}
use Rattle.thumb_asm.proofs.Counts.{none_of}

some_is : {A : Type 0} (o : Option A) → is_some o ≡ true → (x : A) × (o ≡ Some x)
some_is None h = cc
some_is (Some x) h = (x, refl)

one_good : (e : Option (ℕ × ℕ)) (r : Option (List (ℕ × ℕ))) (g rs : List (ℕ × ℕ)) → ((qs : List (ℕ × ℕ)) → r ≡ Some qs → g ≡ qs) → (e >>= λ x. r >>= λ xs. Some (x ∷ xs)) ≡ Some rs → with_range e g ≡ rs
one_good None r g rs k h = cc
one_good (Some x) None g rs k h = cc
one_good (Some x) (Some qs) g rs k h = let e = k qs refl in cc

all_good : (ps : List (List ℕ)) (rs : List (ℕ × ℕ)) → ranges ps ≡ Some rs → good_ranges ps ≡ rs
unfolding ranges good_ranges
all_good [] rs h = cc
all_good (p ∷ ps) rs h = one_good (ends (stripped_by 45 p)) (ranges ps) (good_ranges ps) rs (all_good ps) h

pub listed_good : (inner : List ℕ) → is_some (register_list inner) ≡ true → register_list inner ≡ Some (ranges_in inner)
unfolding ranges_in
listed_good inner = elim (is_nil (strip inner)) as (λ b. is_some (cond b (Some []) (ranges (stripped_by 44 inner))) ≡ true → cond b (Some []) (ranges (stripped_by 44 inner)) ≡ Some (cond b [] (good_ranges (stripped_by 44 inner)))) [ true ↦ λ h. refl | false ↦ λ h. let x = some_is (ranges (stripped_by 44 inner)) h in x.1 ∙ ap Some (sym (all_good (stripped_by 44 inner) x.0 x.1)) ]

pub listed_bad : (inner : List ℕ) → is_some (register_list inner) ≡ false → register_list inner ≡ None
listed_bad inner h = none_of (register_list inner) h

pub some_left : (p : List ℕ) (ps : List (List ℕ)) (r : ℕ × ℕ) → Some r ≡ ends (stripped_by 45 p) → is_some (ranges (p ∷ ps)) ≡ is_some (ranges ps)
unfolding ranges
some_left p ps r h = rw (sym h) (elim (ranges ps) as (λ o. is_some (o >>= λ xs. Some (r ∷ xs)) ≡ is_some o) [ None ↦ refl | Some xs ↦ refl ])

pub none_left : (p : List ℕ) (ps : List (List ℕ)) → None ≡ ends (stripped_by 45 p) → is_some (ranges (p ∷ ps)) ≡ false
unfolding ranges
none_left p ps h = rw (sym h) refl

pub no_ranges : is_some (ranges []) ≡ true
unfolding ranges
no_ranges = refl

escape_said : (e : Option ℕ) (o : Option (List ℕ)) (g cs : List ℕ) → ((qs : List ℕ) → o ≡ Some qs → g ≡ qs) → (e >>= λ b. with_byte b o) ≡ Some cs → with_good e g ≡ cs
escape_said None o g cs k h = cc
escape_said (Some b) None g cs k h = cc
escape_said (Some b) (Some qs) g cs k h = let e = k qs refl in cc

byte_said : (b n d : Bool) (c : ℕ) (x y : Option (List ℕ)) (g f cs : List ℕ) → ((qs : List ℕ) → x ≡ Some qs → g ≡ qs) → ((qs : List ℕ) → y ≡ Some qs → f ≡ qs) → cond b (cond n (Some []) None) (cond d x (with_byte c y)) ≡ Some cs → cond b [] (cond d g (c ∷ f)) ≡ cs
byte_said true true d c x y g f cs k l h = cc
byte_said true false d c x y g f cs k l h = cc
byte_said false n true c x y g f cs k l h = k cs h
byte_said false n false c x None g f cs k l h = cc
byte_said false n false c x (Some qs) g f cs k l h = let e = l qs refl in cc

said : (e : Bool) (t cs : List ℕ) → text_of e t ≡ Some cs → good_text e t ≡ cs
unfolding text_of good_text
said e [] cs h = cc
said true (c ∷ t) cs h = escape_said (escape c) (text_of false t) (good_text false t) cs (said false t) h
said false (c ∷ t) cs h = byte_said (nat_eq c 34) (is_nil t) (nat_eq c 92) c (text_of true t) (text_of false t) (good_text true t) (good_text false t) cs (said true t) (said false t) h

pub quoted_good : (t : List ℕ) → is_some (text_of false t) ≡ true → text_of false t ≡ Some (good_text false t)
quoted_good t h = let x = some_is (text_of false t) h in x.1 ∙ ap Some (sym (said false t x.0 x.1))

pub quoted_bad : (t : List ℕ) → is_some (text_of false t) ≡ false → text_of false t ≡ None
quoted_bad t h = none_of (text_of false t) h

with_some : (c : ℕ) (o : Option (List ℕ)) → is_some (with_byte c o) ≡ is_some o
with_some c None = refl
with_some c (Some x) = refl

one_byte : (c : ℕ) (cs : List ℕ) → nat_eq c 34 ≡ false → nat_eq c 92 ≡ false → is_some (text_of false (c ∷ cs)) ≡ is_some (text_of false cs)
unfolding text_of
one_byte c cs h k = rw (h, k) (with_some c (text_of false cs))

one_slash : (c : ℕ) (cs : List ℕ) → nat_eq c 34 ≡ false → nat_eq c 92 ≡ true → is_some (text_of false (c ∷ cs)) ≡ is_some (text_of true cs)
unfolding text_of
one_slash c cs h k = rw (h, k) refl

one_quote : (c : ℕ) (cs : List ℕ) → nat_eq c 34 ≡ true → is_some (text_of false (c ∷ cs)) ≡ is_nil cs
unfolding text_of
one_quote c cs h = rw h (elim (is_nil cs) as (λ b. is_some {T = List ℕ} (cond b (Some []) None) ≡ b) [ true ↦ refl | false ↦ refl ])

pub good_escape : (c b : ℕ) (cs : List ℕ) → escape c ≡ Some b → is_some (text_of true (c ∷ cs)) ≡ is_some (text_of false cs)
unfolding text_of
good_escape c b cs h = ap (λ e. is_some (e >>= λ x. with_byte x (text_of false cs))) h ∙ with_some b (text_of false cs)

pub bad_escape : (c : ℕ) (cs : List ℕ) → escape c ≡ None → is_some (text_of true (c ∷ cs)) ≡ false
unfolding text_of
bad_escape c cs h = ap (λ e. is_some (e >>= λ x. with_byte x (text_of false cs))) h

-- where a quoted text stops, and whether it ends well there
pub stops_at_end : is_some (text_of false []) ≡ bytes_eq [] (34 ∷ [])
unfolding text_of
stops_at_end = refl

nil_is : (cs : List ℕ) → is_nil cs ≡ bytes_eq cs []
nil_is [] = refl
nil_is (c ∷ cs) = refl

pub stops_at_quote : (c : ℕ) (cs : List ℕ) → c ≡ 34 → is_some (text_of false (c ∷ cs)) ≡ bytes_eq (c ∷ cs) (34 ∷ [])
stops_at_quote c cs h = let e : nat_eq c 34 ≡ true = grind arith in one_quote c cs e ∙ nil_is cs ∙ ap (λ b. b && bytes_eq cs []) (sym e)

pub stops_at_escape : (c : ℕ) (cs : List ℕ) → c ≡ 92 → is_some (text_of true cs) ≡ false → is_some (text_of false (c ∷ cs)) ≡ bytes_eq (c ∷ cs) (34 ∷ [])
stops_at_escape c cs h k =
    let e : nat_eq c 34 ≡ false = grind arith in
    let f : nat_eq c 92 ≡ true = grind arith in
    one_slash c cs e f ∙ k ∙ ap (λ b. b && bytes_eq cs []) (sym e)

pub goes_behind_byte : (c : ℕ) (cs : List ℕ) → (c ≡ 34 → ⊥) → (c ≡ 92 → ⊥) → is_some (text_of false (c ∷ cs)) ≡ is_some (text_of false cs)
goes_behind_byte c cs h k =
    let e : nat_eq c 34 ≡ false = grind arith in
    let f : nat_eq c 92 ≡ false = grind arith in
    one_byte c cs e f

pub goes_behind_slash : (c : ℕ) (cs : List ℕ) → c ≡ 92 → is_some (text_of false (c ∷ cs)) ≡ is_some (text_of true cs)
goes_behind_slash c cs h =
    let e : nat_eq c 34 ≡ false = grind arith in
    let f : nat_eq c 92 ≡ true = grind arith in
    one_slash c cs e f

pub escape_at_end : is_some (text_of true []) ≡ false
unfolding text_of
escape_at_end = refl

-- what the next byte of a quoted text may be
pub ruleset next_steps = (stops_at_end, stops_at_quote, stops_at_escape, goes_behind_byte, goes_behind_slash)

-- what may follow a backslash
pub ruleset escape_steps = (good_escape, bad_escape, escape_at_end)
