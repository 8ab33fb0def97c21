-- Lines one after another: a text of good lines is good.
use Rattle.std.proofs.Common.{◌≡◌, ℕ, ◌≤◌, inl, inr, Bool, true, false, eqb, ◌||◌, List, [], ◌∷◌, ◌++◌, map, refl, sym, subst, ap, ◌∙◌, arith, append_assoc, append-nil}
use Rattle.std.proofs.lemmas.List.{map_push}
use Rattle.std.specs.List.{list_all}
use Rattle.std.proofs.lemmas.Bool.{false≢true, or_right, and_parts}
use Rattle.std.proofs.lemmas.List.Elements.{Contains-push_cases, Contains-append_left}
use Rattle.kernel_abi.specs.declared.Note.{Note}
use Rattle.text_lines.specs.Text.{with_first}
use Rattle.trace_text.specs.Text.{line_of}
use Rattle.trace_audit.specs.declared.reading.TraceLine.{TraceLine}
use Rattle.trace_audit.specs.declared.reading.TraceLine.TheVariants as line
use Rattle.trace_audit.specs.declared.reading.Saying.{Saying}
use Rattle.trace_audit.specs.declared.reading.Saying.TheVariants as saying
use Rattle.trace_audit.specs.declared.reading.FinalWait.{FinalWait}
use Rattle.trace_audit.specs.Meaning.{read}
use Rattle.trace_audit.specs.Rules.{said, is_end, IsOffered, IsTaken, IsClosed, IsGoodSaying, IsGoodWait, IsGoodTelling, IsGoodLine, AreGood, IsGood, turn_after, has_ended}
use Rattle.trace_audit.specs.Texts.{lines_of}
use Rattle.trace_audit.specs.Judgements.{is_printable, read_lines}
use Rattle.audit_laws.specs.Told.{told_by, IsLine}
use Rattle.audit_laws.proofs.Fitting.{AreFitNotes}
use Rattle.audit_laws.specs.Whole.{notes_told, AreGoodSayings, AreLines, joined, IsLastLine, AreLastLines}
use Rattle.trace_text.specs.Lines.{notes_text}
use Rattle.trace_audit.proofs.Adding.{good_none, good_push}
use Rattle.audit_laws.proofs.Spelled.{note_read}

-- ## where lines end

no_lf : (c : ℕ) → is_printable c ≡ true → c ≡ 10 → ⊥
no_lf c h e = false≢true (subst (λ d. is_printable d ≡ true) e h)

not_lf : (c : ℕ) → (c ≡ 10 → ⊥) → eqb c 10 ≡ false
not_lf c h = grind arith

cut_end : (cs : List ℕ) → lines_of (10 ∷ cs) ≡ [] ∷ lines_of cs
unfolding lines_of
cut_end cs = refl

cut_more : (c : ℕ) (cs : List ℕ) → (c ≡ 10 → ⊥) → lines_of (c ∷ cs) ≡ with_first c (lines_of cs)
unfolding lines_of
cut_more c cs h = rw (not_lf c h) refl

pub cut_nothing : lines_of [] ≡ []
unfolding lines_of
cut_nothing = refl

pub cut_line : (text rest : List ℕ) → list_all is_printable text ≡ true → lines_of (text ++ 10 ∷ rest) ≡ text ∷ lines_of rest
cut_line [] rest h = cut_end rest
cut_line (c ∷ cs) rest h =
    let two = and_parts (is_printable c) (list_all is_printable cs) h in
    cut_more c (cs ++ 10 ∷ rest) (no_lf c two.0) ∙ ap (with_first c) (cut_line cs rest two.1)

-- one line and what follows
read_line : (bytes rest : List ℕ) (l : TraceLine) → IsLine bytes l → read_lines (bytes ++ rest) ≡ l ∷ read_lines rest
read_line bytes rest l is =
    ap (λ b. read_lines (b ++ rest)) is.spelled
    ∙ ap read_lines (append_assoc is.text (10 ∷ []) rest)
    ∙ ap (map read) (cut_line is.text rest is.printable)
    ∙ ap (λ x. x ∷ read_lines rest) is.reads

read_joined : (texts : List (List ℕ)) (ls : List TraceLine) → AreLines texts ls → read_lines (joined texts) ≡ ls
read_joined [] [] h = ap (map read) cut_nothing
read_joined [] (l ∷ ls) h = absurd h
read_joined (t ∷ texts) [] h = absurd h
read_joined (t ∷ texts) (l ∷ ls) h = read_line t (joined texts) l h.0 ∙ ap (λ xs. l ∷ xs) (read_joined texts ls h.1)

tells : ℕ × Note → TraceLine
tells n = line.Tells n.0 (told_by n.1)

read_notes : (last : ℕ) (notes : List (ℕ × Note)) (rest : List ℕ) → AreFitNotes last notes → read_lines (notes_text notes ++ rest) ≡ map tells notes ++ read_lines rest
unfolding tells
read_notes last [] rest h = refl
read_notes last (n ∷ notes) rest h =
    ap read_lines (append_assoc (line_of n.0 n.1) (notes_text notes) rest)
    ∙ read_line (line_of n.0 n.1) (notes_text notes ++ rest) (tells n) (note_read n.0 n.1 h.1 h.2 h.3)
    ∙ ap (λ xs. tells n ∷ xs) (read_notes n.0 notes rest h.4)

-- ## the notes

map_joined : {A B : Type 0} (f : A → B) (xs ys : List A) → map f (xs ++ ys) ≡ map f xs ++ map f ys
map_joined f [] ys = refl
map_joined f (x ∷ xs) ys = ap (λ zs. f x ∷ zs) (map_joined f xs ys)

said_notes : (notes : List (ℕ × Note)) → map said (map tells notes) ≡ notes_told notes
unfolding tells
said_notes [] = refl
said_notes (n ∷ notes) = ap (λ xs. told_by n.1 ∷ xs) (said_notes notes)

no_end : (notes : List (ℕ × Note)) → has_ended (map tells notes) ≡ false
unfolding tells
no_end [] = refl
no_end (n ∷ notes) = no_end notes

turn_push : (m : ℕ) (notes : List (ℕ × Note)) (n : ℕ × Note) → turn_after m (map tells (notes ++ n ∷ [])) ≡ n.0
unfolding tells
turn_push m [] n = refl
turn_push m (x ∷ notes) n = turn_push x.0 notes n

good_notes : (done todo : List (ℕ × Note)) (last : ℕ) → last ≡ turn_after 0 (map tells done) → AreFitNotes last todo → AreGoodSayings (notes_told (done ++ todo)) → AreGood (map tells done) → AreGood (map tells (done ++ todo))
unfolding tells
good_notes done [] last e fit says good = subst (λ ns. AreGood (map tells ns)) (sym (append-nil done)) good
good_notes done (n ∷ todo) last e fit says good =
    subst (λ ns. AreGood (map tells ns)) (append_assoc done (n ∷ []) todo)
    (good_notes (done ++ n ∷ []) todo n.0 (sym (turn_push 0 done n)) fit.4
    (subst (λ ns. AreGoodSayings (notes_told ns)) (sym (append_assoc done (n ∷ []) todo)) says)
    (subst AreGood (sym (map_push tells done n)) (good_push (map tells done) (tells n) good here)))
  where
    here : IsGoodTelling (map tells done) n.0 (told_by n.1)
    here = record {
      before_end = no_end done;
      not_below = subst (λ m. m ≤ n.0) e fit.0;
      saying = subst (λ ss. IsGoodSaying ss (told_by n.1)) (sym (said_notes done)) (says (notes_told done) (told_by n.1) (notes_told todo) (map_joined (λ m. told_by m.1) done (n ∷ todo)));
    }

-- ## the last lines

not_same : (s : Saying) → s ≡ saying.Nothing → (k i : ℕ) → saying.Offers k i ≡ s → ⊥
not_same s e k i h = cc

still_offered : (before : List Saying) (k i : ℕ) → IsOffered (before ++ saying.Nothing ∷ []) k i → IsOffered before k i
still_offered before k i h = elim (Contains-push_cases before saying.Nothing (saying.Offers k i) h) [ inl old ↦ old | inr e ↦ absurd cc ]

still_taken : (before : List Saying) (k : ℕ) → IsTaken (before ++ saying.Nothing ∷ []) k → IsTaken before k
still_taken before k h = elim (Contains-push_cases before saying.Nothing (saying.Takes k) h) [ inl old ↦ old | inr e ↦ absurd cc ]

still_closed : (before : List Saying) (k : ℕ) → IsClosed (before ++ saying.Nothing ∷ []) k → IsClosed before k
still_closed before k (answer, h) = elim (Contains-push_cases before saying.Nothing (saying.Closes k answer) h) [ inl old ↦ (answer, old) | inr e ↦ absurd cc ]

wait_aside : (before : List Saying) (i : ℕ) (w : FinalWait) → IsGoodWait before i w → IsGoodWait (before ++ saying.Nothing ∷ []) i w
wait_aside before i w h = record {
  offered = λ k. (
    λ e. let a = (h.offered k).0 e in (Contains-append_left before (saying.Nothing ∷ []) (saying.Offers k i) a.0, λ c. a.1 (still_closed before k c), λ t. a.2 (still_taken before k t)),
    λ a. (h.offered k).1 (still_offered before k i a.0, λ (c : IsClosed before k). a.1 (c.0, Contains-append_left before (saying.Nothing ∷ []) (saying.Closes k c.0) c.1), λ t. a.2 (Contains-append_left before (saying.Nothing ∷ []) (saying.Takes k) t)),
  );
  taken = λ k. (
    λ e. let a = (h.taken k).0 e in (Contains-append_left before (saying.Nothing ∷ []) (saying.Offers k i) a.0, λ c. a.1 (still_closed before k c), Contains-append_left before (saying.Nothing ∷ []) (saying.Takes k) a.2),
    λ a. (h.taken k).1 (still_offered before k i a.0, λ (c : IsClosed before k). a.1 (c.0, Contains-append_left before (saying.Nothing ∷ []) (saying.Closes k c.0) c.1), still_taken before k a.2),
  );
}

Waits : List Saying → List Saying → Type 0
Waits told before = (i : ℕ) (w : FinalWait) → IsGoodWait told i w → IsGoodWait before i w

waits_on : (told : List Saying) (before : List TraceLine) (l : TraceLine) → said l ≡ saying.Nothing → Waits told (map said before) → Waits told (map said (before ++ l ∷ []))
unfolding Waits
waits_on told before l e h i w g = subst (λ ss. IsGoodWait ss i w) (sym (map_push said before l ∙ ap (λ s. map said before ++ s ∷ []) e)) (wait_aside (map said before) i w (h i w g))

or_more : (b x y : Bool) → (x ≡ true → y ≡ true) → (b || x) ≡ true → (b || y) ≡ true
or_more true x y h e = refl
or_more false x y h e = h e

any_push : (before : List TraceLine) (l : TraceLine) → has_ended before ≡ true → has_ended (before ++ l ∷ []) ≡ true
any_push [] l h = absurd (false≢true h)
any_push (x ∷ before) l h = or_more (is_end x) (has_ended before) (has_ended (before ++ l ∷ [])) (λ e. any_push before l e) h

any_here : (before : List TraceLine) → has_ended (before ++ line.Ends ∷ []) ≡ true
any_here [] = refl
any_here (x ∷ before) = or_right (is_end x) (has_ended (before ++ line.Ends ∷ [])) (any_here before)

last_nothing : (told : List Saying) (l : TraceLine) → IsLastLine told l → said l ≡ saying.Nothing
last_nothing told (line.Tells turn s) h = absurd h
last_nothing told line.Ends h = absurd h
last_nothing told (line.Waits task w) h = refl
last_nothing told line.Shows h = refl
last_nothing told line.Strange h = absurd h

last_good : (told : List Saying) (before : List TraceLine) (l : TraceLine) → has_ended before ≡ true → Waits told (map said before) → IsLastLine told l → IsGoodLine before l
unfolding Waits
last_good told before (line.Tells turn s) ended h is = absurd is
last_good told before line.Ends ended h is = absurd is
last_good told before (line.Waits task w) ended h is = (ended, h task w is)
last_good told before line.Shows ended h is = ended
last_good told before line.Strange ended h is = absurd is

good_last : (told : List Saying) (before rest : List TraceLine) → AreGood before → has_ended before ≡ true → Waits told (map said before) → AreLastLines told rest → IsGood (before ++ rest)
good_last told before [] good ended h are = subst IsGood (sym (append-nil before)) (record { each = good; ended = ended })
good_last told before (l ∷ rest) good ended h are =
    subst IsGood (append_assoc before (l ∷ []) rest)
    (good_last told (before ++ l ∷ []) rest
    (good_push before l good (last_good told before l ended h are.0))
    (any_push before l ended)
    (waits_on told before l (last_nothing told l are.0) h)
    are.1)

-- ## the whole

good_whole : (notes : List (ℕ × Note)) (rest : List TraceLine) → AreFitNotes 0 notes → AreGoodSayings (notes_told notes) → AreLastLines (notes_told notes) rest → IsGood (map tells notes ++ line.Ends ∷ rest)
unfolding Waits
good_whole notes rest fit says are =
    subst IsGood (append_assoc (map tells notes) (line.Ends ∷ []) rest)
    (good_last (notes_told notes) (map tells notes ++ line.Ends ∷ []) rest
    (good_push (map tells notes) line.Ends (good_notes [] notes 0 refl fit says good_none) (no_end notes))
    (any_here (map tells notes))
    (waits_on (notes_told notes) (map tells notes) line.Ends refl (λ i w g. subst (λ ss. IsGoodWait ss i w) (sym (said_notes notes)) g))
    are)

pub text_good : (notes : List (ℕ × Note)) (texts : List (List ℕ)) (rest : List TraceLine) → AreFitNotes 0 notes → AreGoodSayings (notes_told notes) → AreLines texts (line.Ends ∷ rest) → AreLastLines (notes_told notes) rest → IsGood (read_lines (notes_text notes ++ joined texts))
text_good notes texts rest fit says lines are =
    subst IsGood (sym (read_notes 0 notes (joined texts) fit ∙ ap (λ ls. map tells notes ++ ls) (read_joined texts (line.Ends ∷ rest) lines)))
    (good_whole notes rest fit says are)
