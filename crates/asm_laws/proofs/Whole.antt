-- A text of one line that is an instruction.
use Rattle.std.proofs.Common.{◌≡◌, ℕ, ◌+◌, ◌≤◌, List, [], ◌∷◌, ◌++◌, length, refl, ap, ◌∙◌, sym, subst, arith, Bool, true, false, nat_eq, nat_lt, if◌then◌else◌, Some, None, Ok, append-nil}
use Rattle.std.proofs.lemmas.Bool.{le-ltb, and_parts}
use Rattle.std.proofs.lemmas.Bool.Decides.{nat_tests}
use Rattle.std.specs.List.{list_all}
use Rattle.text_lines.specs.Text.{lines_of, with_first}
use Rattle.thumb_insn.specs.declared.Insn.{Insn}
use Rattle.thumb_insn.specs.Text.{insn_text}
use Rattle.thumb_asm.specs.Chars.{is_allowed, is_nil, entry_at, strip, strip_front, strip_end}
use Rattle.thumb_asm.specs.Parts.{parts, before, after}
use Rattle.thumb_asm.specs.Syntax.{Shape, Fixed, Filled, Within, Aimed, Near, Misplaced, Listed, Block, Data, Text, Zeros, Padding}
use Rattle.thumb_asm.specs.Sizes.{statement_of, shape_size}
use Rattle.thumb_asm.specs.Meaning.{Env, Names, env_of, own_label, insn_at, Codes, Spells, Lays}
use Rattle.thumb_asm.specs.Assembly.{Assembles}
use Rattle.thumb_asm.specs.Causes.{second_group, first_group, first_in, second_in, labels_from, first_cause, line_size}
use Rattle.asm_laws.specs.Reading.{IsAssembled}
use Rattle.asm_laws.proofs.Shapes.{IsReadSo}
use Rattle.asm_laws.proofs.Spelling.{spelled, accepted}

pub no_feed : (c : ℕ) → is_allowed c ≡ true → nat_eq c 10 ≡ false
no_feed c h = grind (arith, nat_tests)

pub no_return : (c : ℕ) → is_allowed c ≡ true → nat_eq c 13 ≡ false
no_return c h = grind (arith, nat_tests)

one_line : (t : List ℕ) → is_nil t ≡ false → list_all is_allowed t ≡ true → lines_of t ≡ t ∷ []
unfolding lines_of
one_line [] h k = cc
one_line (c ∷ []) h k = let e = and_parts (is_allowed c) true k in rw (no_feed c e.0, no_return c e.0) refl
one_line (c ∷ d ∷ ds) h k = let e = and_parts (is_allowed c) (list_all is_allowed (d ∷ ds)) k in rw (no_feed c e.0, no_return c e.0) (ap (with_first c) (one_line (d ∷ ds) refl e.1))

some_text : (t : List ℕ) (s : Shape) → statement_of (parts t).statement ≡ Ok (Some s) → is_nil t ≡ false
unfolding statement_of parts before after strip strip_front strip_end
some_text [] s h = cc
some_text (c ∷ cs) s h = refl

four : (b : Bool) → (if b then 4 else 2) ≤ 4
four true = omega arith
four false = omega arith

size_small : (env : Env) (at next : ℕ) (s : Shape) (i : Insn) → insn_at env at s ≡ Ok i → shape_size next s ≤ 4
unfolding insn_at shape_size
size_small env at next (Fixed j) i e = four _
size_small env at next (Filled t f) i e = four _
size_small env at next (Within low top t f) i e = four _
size_small env at next (Aimed t f) i e = four _
size_small env at next (Near t f) i e = four _
size_small env at next Misplaced i e = cc
size_small env at next (Listed loads rs) i e = omega arith
size_small env at next (Block n is_up loads rs) i e = omega arith
size_small env at next (Data k es) i e = cc
size_small env at next (Text t) i e = cc
size_small env at next (Zeros t) i e = cc
size_small env at next (Padding t) i e = cc

line_small : (env : Env) (at next : ℕ) (t : List ℕ) (s : Shape) (i : Insn) → statement_of (parts t).statement ≡ Ok (Some s) → insn_at env at s ≡ Ok i → line_size next t ≤ 4
unfolding line_size
line_small env at next t s i h e = rw h (size_small env at next s i e)

no_first : (given earlier : Env) (at used : ℕ) (t : List ℕ) (s : Shape) → nat_lt 255 (length t) ≡ false → list_all is_allowed t ≡ true → (parts t).label ≡ None → statement_of (parts t).statement ≡ Ok (Some s) → nat_lt 1048576 (used + line_size (at + used) t) ≡ false → first_group given at earlier used t ≡ None
unfolding first_group
no_first given earlier at used t s a b l e z = rw (a, b, l, e, z) refl

no_cause : (given : Env) (at : ℕ) (t : List ℕ) → first_group given at (entry_at []) 0 t ≡ None → ((env : Env) → second_group env at (statement_of (parts t).statement) ≡ None) → first_cause (t ∷ []) at given ≡ None
unfolding first_cause first_in second_in
no_cause given at t f g = rw (f, g (env_of (entry_at (labels_from at (t ∷ []))) given)) refl

of_line : (env : Env) (at : ℕ) (t bytes : List ℕ) (names : Names) (i : Insn) → ((own : List ℕ) → Spells env at (statement_of (parts t).statement) own → Codes i own) → Lays env at (t ∷ []) bytes names → Codes i bytes
unfolding Lays
of_line env at t bytes names i f l = subst (λ b. Codes i b) (sym (l.3 ∙ ap (λ r. l.0 ++ r) l.6.0 ∙ append-nil l.0)) (f l.0 l.5)

to_line : (env : Env) (at : ℕ) (t own : List ℕ) → (parts t).label ≡ None → Spells env at (statement_of (parts t).statement) own → Lays env at (t ∷ []) own []
unfolding Lays
to_line env at t own l s = (own, [], [], sym (append-nil own), sym (ap (λ o. own_label at o ++ []) l), s, (refl, refl))

no_names : (name : List ℕ) → None ≡ entry_at {A = ℕ} [] name
unfolding entry_at
no_names name = refl

pub assembled : (i : Insn) (at : ℕ) → IsReadSo i at → IsAssembled i at
assembled i at p given h =
    let t : List ℕ = insn_text i at in
    let s = p.read.1.0 in
    let e = p.read.1.1 in
    let lines = one_line (insn_text i at) (some_text (insn_text i at) s e) p.allowed in
    let small = line_small given at (at + 0) (insn_text i at) s i e (p.read.1.2 given) in
    let first = no_first given (entry_at []) at 0 (insn_text i at) s (le-ltb 255 (length (insn_text i at)) p.short) p.allowed p.read.0 e (le-ltb 1048576 (0 + line_size (at + 0) (insn_text i at)) (omega arith)) in
    let cause = no_cause given at (insn_text i at) first (λ env. accepted i at p.read env h) in (
      ap (λ ls. first_cause ls at given) lines ∙ cause,
      λ own c. subst (λ ls. Assembles ls at given own (λ name. None)) (sym lines) (record {
        accepted = cause;
        names = [];
        labelled = no_names;
        laid = to_line (env_of (entry_at []) given) at (insn_text i at) own p.read.0 ((spelled i at p.read (env_of (entry_at []) given) own).0 c);
      }),
      λ bytes labels a. let b = subst (λ ls. Assembles ls at given bytes labels) lines a in of_line (env_of (entry_at b.names) given) at (insn_text i at) bytes b.names i (λ own x. (spelled i at p.read (env_of (entry_at b.names) given) own).1 x) b.laid,
    )
