-- The texts of notes and of numbers, one push after another.
use Rattle.std.proofs.Common.{◌≡◌, ℕ, List, [], ◌∷◌, ◌++◌, Option, refl, sym, ap, subst, ◌∙◌, append_assoc}
use Rattle.std.proofs.lemmas.List.{append-nil}
use Rattle.std.specs.Io.KnownBytes.{Appends}
use Rattle.std.specs.Prelude.{Result, Err, take, drop, length, ◌<◌, ◌≤◌, ◌+◌}
use Rattle.std.specs.List.{flat_map, range_with_len}
use Rattle.kernel_abi.specs.declared.Note.{Note}
use Rattle.board_model.specs.Run.{at_turn}
use Rattle.trace_text.specs.Text.{line_of}
use Rattle.trace_text.specs.Lines.{notes_text}
use Rattle.std.proofs.Common.{arith, get_or, suc, zero, add-one}
use Rattle.outside_io.specs.Outside.{AppendsFront, Pushes}
use Rattle.outside_io.proofs.Pushing.{appends_more, front_more, front_wider}

-- the line of a note with its turn
abbrev pub line_at : ℕ × Note → List ℕ
line_at n = line_of n.0 n.1

pub notes_at : (turn : ℕ) (notes : List Note) (i : ℕ) (d : Note) → i < length notes →
    notes_text (at_turn turn notes) ≡ notes_text (at_turn turn (take i notes)) ++ (line_of turn (get_or notes i d) ++ notes_text (at_turn turn (drop (suc i) notes)))
notes_at turn [] i d lt = absurd (omega arith)
notes_at turn (x ∷ xs) zero d lt = refl
notes_at turn (x ∷ xs) (suc i) d lt =
    ap (λ (w : List ℕ). line_of turn x ++ w) (notes_at turn xs i d (omega arith))
    ∙ sym (append_assoc (line_of turn x) (notes_text (at_turn turn (take i xs))) (line_of turn (get_or xs i d) ++ notes_text (at_turn turn (drop (suc i) xs))))

notes_suc : (turn : ℕ) (notes : List Note) (i : ℕ) (d : Note) → i < length notes →
    notes_text (at_turn turn (take (suc i) notes)) ≡ notes_text (at_turn turn (take i notes)) ++ line_of turn (get_or notes i d)
notes_suc turn [] i d lt = absurd (omega arith)
notes_suc turn (x ∷ xs) zero d lt = append-nil (line_of turn x)
notes_suc turn (x ∷ xs) (suc i) d lt =
    ap (λ (w : List ℕ). line_of turn x ++ w) (notes_suc turn xs i d (omega arith))
    ∙ sym (append_assoc (line_of turn x) (notes_text (at_turn turn (take i xs))) (line_of turn (get_or xs i d)))

-- the text of one note more
pub notes_more : (turn : ℕ) (notes : List Note) (i : ℕ) (d : Note) → i < length notes →
    notes_text (at_turn turn (take (i + 1) notes)) ≡ notes_text (at_turn turn (take i notes)) ++ line_of turn (get_or notes i d)
notes_more turn notes i d lt = rw add-one (notes_suc turn notes i d lt)

-- the texts of one number more
range_from : (f : ℕ → List ℕ) (n a j : ℕ) → a + n ≡ j → flat_map f (range_with_len a (suc n)) ≡ flat_map f (range_with_len a n) ++ f j
range_from f zero a j e =
    let is : a ≡ j = omega arith in
    append-nil (f a) ∙ ap f is
range_from f (suc n) a j e =
    ap (λ (w : List ℕ). f a ++ w) (range_from f n (a + 1) j (omega arith)) ∙ sym (append_assoc (f a) (flat_map f (range_with_len (a + 1) n)) (f j))

pub range_more : (f : ℕ → List ℕ) (n : ℕ) → flat_map f (range_with_len 0 (n + 1)) ≡ flat_map f (range_with_len 0 n) ++ f n
range_more f n = rw add-one (range_from f n 0 n (omega arith))

-- the texts of more numbers begin with those of fewer
pub range_longer : (f : ℕ → List ℕ) (m n a : ℕ) → m ≤ n → (rest : List ℕ) × (flat_map f (range_with_len a n) ≡ flat_map f (range_with_len a m) ++ rest)
range_longer f zero n a le = (flat_map f (range_with_len a n), refl)
range_longer f (suc m) zero a le = absurd (omega arith)
range_longer f (suc m) (suc n) a le =
    let r = range_longer f m n (a + 1) (omega arith) in
    (r.0, ap (λ (w : List ℕ). f a ++ w) r.1 ∙ sym (append_assoc (f a) (flat_map f (range_with_len (a + 1) m)) r.0))

-- one text more
pub range_pushed : (a b c : Option (List ℕ)) (f : ℕ → List ℕ) (i : ℕ) → Appends a b (flat_map f (range_with_len 0 i)) → Appends b c (f i) → Appends a c (flat_map f (range_with_len 0 (i + 1)))
range_pushed a b c f i p q =
    let P : List ℕ → Type 0 = λ w. Appends a c w in
    subst P (sym (range_more f i)) (appends_more a b c (flat_map f (range_with_len 0 i)) (f i) p q)

-- a failure within one of the texts
pub range_fails : {T E : Type 0} (a b c : Option (List ℕ)) (f : ℕ → List ℕ) (i n : ℕ) (r : Result T E) (e : E) → r ≡ Err e → i < n →
    Appends a b (flat_map f (range_with_len 0 i)) → AppendsFront b c (f i) → Pushes a c (flat_map f (range_with_len 0 n)) r
range_fails {T} {E} a b c f i n r e failed lt p q =
    let P : List ℕ → Type 0 = λ w. AppendsFront a c w in
    let more = range_longer f (i + 1) n 0 (omega arith) in
    let here : AppendsFront a c (flat_map f (range_with_len 0 i) ++ f i) = front_more a b c (flat_map f (range_with_len 0 i)) (f i) p q in
    let next : AppendsFront a c (flat_map f (range_with_len 0 (i + 1))) = subst P (sym (range_more f i)) here in
    rw failed (subst P (sym more.1) (front_wider a c (flat_map f (range_with_len 0 (i + 1))) more.0 next))
