-- Names in maps and in lists.
use Rattle.std.proofs.Common.{◌≡◌, ℕ, ◌+◌, ◌<◌, List, [], ◌∷◌, ◌++◌, length, get_or, take, refl, ap, ◌∙◌, sym, arith, Bool, true, false, cond, add-one, Option, Some, None, is_some, String, string_bytes, bytes_eq, IfSome, option_map, Bor}
use Rattle.std.proofs.lemmas.Bool.{and_parts}
use Rattle.std.specs.List.{list_all}
use Rattle.std.specs.BTreeMap.{BTreeMap, get_by_text}
use Rattle.std.specs.Str.{IsUtf8, IsAscii}
use Rattle.std.proofs.lemmas.Str.{IsUtf8-from_ascii}
use Rattle.std.proofs.lemmas.Str.Ascii.{IsAscii-cons, IsAscii-nil}
use Rattle.std.proofs.lemmas.List.{append-nil}
use Rattle.std.specs.Cmp.Lexicographic.{same_text}
use Rattle.std.proofs.Math.Seq.{take-suc}
use Rattle.std.proofs.Math.Path.{fun_ext}
use Rattle.thumb_asm.specs.Chars.{entry_at, is_name, is_word}
use Rattle.thumb_asm.specs.Operands.{or_else}
use Rattle.thumb_asm.specs.Meaning.{Names, Env, own_label}
use Rattle.thumb_asm.specs.Passes.{names_of, over, with_label, with_symbol, Refuses}
use Rattle.thumb_asm.specs.declared.Cause.{Cause}
use Rattle.thumb_asm.specs.declared.AsmFault.{AsmFault}
use Rattle.thumb_asm.specs.declared.AsmFault.TheVariants as fault

word_ascii : (c : ℕ) → is_word c ≡ true → c < 128
word_ascii c h = grind arith

words_ascii : (w : List ℕ) → list_all is_word w ≡ true → IsAscii w
words_ascii [] h = IsAscii-nil
words_ascii (c ∷ cs) h = let both = and_parts (is_word c) (list_all is_word cs) h in IsAscii-cons c cs (word_ascii c both.0) (words_ascii cs both.1)

pub name_text : (w : List ℕ) → is_name w ≡ true → IsUtf8 w
name_text w h = let front = (and_parts _ _ h).0 in IsUtf8-from_ascii w (words_ascii w (and_parts _ _ front).1)

pub if_some_now : (o : Option (Bor (List ℕ))) (P : List ℕ → Type 0) → IfSome (option_map (λ r. r.now) o) P → IfSome o (λ r. P r.now)
if_some_now None P h = tt
if_some_now (Some r) P h = h

pub or_push : (b : Bool) (v : ℕ) (o p : Option ℕ) → cond b (Some v) (or_else o p) ≡ or_else (cond b (Some v) o) p
or_push true v o p = refl
or_push false v o p = refl

pub entry_more : (es : Names) (e : List ℕ × ℕ) (q : List ℕ) → entry_at (es ++ (e ∷ [])) q ≡ or_else (entry_at es q) (cond (bytes_eq q e.0) (Some e.1) None)
unfolding entry_at
entry_more [] e q = refl
entry_more (d ∷ es) e q = ap (λ t. cond (bytes_eq q d.0) (Some d.1) t) (entry_more es e q) ∙ or_push (bytes_eq q d.0) d.1 (entry_at es q) _

-- a label that was not there
labelled : (b : Bool) (at : ℕ) (o : Option ℕ) → (b ≡ true → o ≡ None) → cond b (Some at) o ≡ or_else o (cond b (Some at) None)
labelled true at o h = rw (h refl) refl
labelled false at None h = refl
labelled false at (Some x) h = refl

pub label_added : (f g : Env) (names : Names) (at : ℕ) (label : Option (List ℕ)) → ((q : List ℕ) → f q ≡ entry_at names q) → ((q : List ℕ) → g q ≡ with_label at label f q) → IfSome label (λ name. f name ≡ None) → (q : List ℕ) → g q ≡ entry_at (names ++ own_label at label) q
label_added f g names at None h k n q = k q ∙ h q ∙ ap (λ t. entry_at t q) (sym (append-nil names))
label_added f g names at (Some name) h k n q =
    k q
    ∙ labelled (bytes_eq q name) at (f q) (λ e. ap f (same_text q name (sym e)) ∙ n)
    ∙ ap (λ t. or_else t (cond (bytes_eq q name) (Some at) None)) (h q)
    ∙ sym (entry_more names (name, at) q)

pub same_env : (f : Env) (names : Names) → ((q : List ℕ) → f q ≡ entry_at names q) → f ≡ entry_at names
same_env f names h = fun_ext h

or_nothing : (o : Option ℕ) → or_else o None ≡ o
or_nothing None = refl
or_nothing (Some x) = refl

pub over_nothing : (f g : Env) → ((q : List ℕ) → g q ≡ None) → over f g ≡ f
over_nothing f g h = fun_ext (λ q. ap (or_else (f q)) (h q) ∙ or_nothing (f q))

names_append : {A : Type 0} (xs ys : List (String A × ℕ)) → names_of (xs ++ ys) ≡ names_of xs ++ names_of ys
names_append [] ys = refl
names_append (x ∷ xs) ys = ap (λ t. (string_bytes x.0, x.1) ∷ t) (names_append xs ys)

pub names_taken : {A : Type 0} (xs : List (String A × ℕ)) (i : ℕ) (e : String A × ℕ) → i < length xs → e ≡ get_or xs i e → names_of (take (i + 1) xs) ≡ names_of (take i xs) ++ ((string_bytes e.0, e.1) ∷ [])
names_taken xs i e lt h = ap (λ n. names_of (take n xs)) (add-one i) ∙ ap names_of (take-suc xs i e lt) ∙ ap (λ x. names_of (take i xs ++ (x ∷ []))) (sym h) ∙ names_append (take i xs) (e ∷ [])

pub symbol_next : (f g : Env) (names : Names) (name : List ℕ) (v : ℕ) → ((q : List ℕ) → f q ≡ entry_at names q) → ((q : List ℕ) → g q ≡ with_symbol name v f q) → (q : List ℕ) → g q ≡ entry_at (names ++ ((name, v) ∷ [])) q
symbol_next f g names name v h k q = k q ∙ ap (λ t. or_else t (cond (bytes_eq q name) (Some v) None)) (h q) ∙ sym (entry_more names (name, v) q)

pub named_only : (o : Option (List ℕ)) (f : Env) → IfSome o (λ name. (is_name name ≡ true) × (f name ≡ None)) → IfSome o (λ name. is_name name ≡ true)
named_only None f h = tt
named_only (Some name) f h = h.0

pub free_only : (o : Option (List ℕ)) (f : Env) → IfSome o (λ name. (is_name name ≡ true) × (f name ≡ None)) → IfSome o (λ name. f name ≡ None)
free_only None f h = tt
free_only (Some name) f h = h.1

pub nothing_at : (q : List ℕ) → entry_at {A = ℕ} [] q ≡ None
unfolding entry_at
nothing_at q = refl

pub some_of : (o : Option ℕ) → is_some o ≡ true → (x : ℕ) × (o ≡ Some x)
some_of None h = cc
some_of (Some x) h = (x, refl)

pub none_of : (o : Option ℕ) → is_some o ≡ false → o ≡ None
none_of None h = refl
none_of (Some x) h = cc

pub empty_index : {A : Type 0} (m : BTreeMap (String A) ℕ) → m.entries ≡ [] → (q : List ℕ) → get_by_text m q ≡ entry_at [] q
unfolding entry_at
empty_index m e q = rw e refl

pub refuses_first : (e : AsmFault) (x y : Option (Cause × ℕ)) → Refuses e x → Refuses e (or_else x y)
refuses_first fault.Memory x y h = tt
refuses_first (fault.Refused c k) x y h = ap (λ o. or_else o y) h
