-- The text of notes, one after another.
use Rattle.std.proofs.Common.{◌≡◌, ◌<◌, ℕ, zero, suc, ◌+◌, List, [], ◌∷◌, ◌++◌, length, take, drop, get_or, Option, refl, sym, ap, ◌∙◌, append_assoc, add-one, subst, arith}
use Rattle.std.specs.Prelude.{Result, Err}
use Rattle.std.specs.Io.KnownBytes.{Appends}
use Rattle.outside_io.specs.Outside.{AppendsFront, Pushes}
use Rattle.outside_io.proofs.Pushing.{appends_more, part_fails}
use Rattle.std.proofs.lemmas.List.{append-nil}
use Rattle.kernel_abi.specs.declared.Note.{Note}
use Rattle.run_lanes.specs.declared.lanes.Offer.{Offer}
use Rattle.run_lanes.specs.Timeline.{note_text, notes_text, offers_after, offers_at_end}

offers_suc : (os : List (Option Offer)) (notes : List Note) (i : ℕ) (d : Note) → i < length notes → offers_at_end os (take (suc i) notes) ≡ offers_after (offers_at_end os (take i notes)) (get_or notes i d)
unfolding offers_at_end
offers_suc os [] i d lt = absurd (omega arith)
offers_suc os (n ∷ notes) zero d lt = refl
offers_suc os (n ∷ notes) (suc i) d lt = offers_suc (offers_after os n) notes i d (omega arith)

-- what stands before a note, at it and behind it
pub notes_at : (os : List (Option Offer)) (turn : ℕ) (notes : List Note) (i : ℕ) (d : Note) → i < length notes →
    notes_text os turn notes ≡ notes_text os turn (take i notes)
    ++ (note_text (offers_at_end os (take i notes)) turn (get_or notes i d) ++ notes_text (offers_at_end os (take (suc i) notes)) turn (drop (suc i) notes))
unfolding notes_text offers_at_end
notes_at os turn [] i d lt = absurd (omega arith)
notes_at os turn (n ∷ notes) zero d lt = refl
notes_at os turn (n ∷ notes) (suc i) d lt =
    ap (λ (w : List ℕ). note_text os turn n ++ w) (notes_at (offers_after os n) turn notes i d (omega arith)) ∙ sym (append_assoc (note_text os turn n) _ _)

notes_suc : (os : List (Option Offer)) (turn : ℕ) (notes : List Note) (i : ℕ) (d : Note) → i < length notes →
    notes_text os turn (take (suc i) notes) ≡ notes_text os turn (take i notes) ++ note_text (offers_at_end os (take i notes)) turn (get_or notes i d)
unfolding notes_text offers_at_end
notes_suc os turn [] i d lt = absurd (omega arith)
notes_suc os turn (n ∷ notes) zero d lt = append-nil (note_text os turn n)
notes_suc os turn (n ∷ notes) (suc i) d lt =
    ap (λ (w : List ℕ). note_text os turn n ++ w) (notes_suc (offers_after os n) turn notes i d (omega arith)) ∙ sym (append_assoc (note_text os turn n) _ _)

-- one note more
pub offers_more : (os now after : List (Option Offer)) (notes : List Note) (i : ℕ) (d : Note) → i < length notes → now ≡ offers_at_end os (take i notes) → after ≡ offers_after now (get_or notes i d) → after ≡ offers_at_end os (take (i + 1) notes)
offers_more os now after notes i d lt so_far is = is ∙ ap (λ (l : List (Option Offer)). offers_after l (get_or notes i d)) so_far ∙ sym (rw add-one (offers_suc os notes i d lt))

pub note_pushed : (a b c : Option (List ℕ)) (os now : List (Option Offer)) (turn : ℕ) (notes : List Note) (i : ℕ) (d : Note) → i < length notes → now ≡ offers_at_end os (take i notes) →
    Appends a b (notes_text os turn (take i notes)) → Appends b c (note_text now turn (get_or notes i d)) → Appends a c (notes_text os turn (take (i + 1) notes))
note_pushed a b c os now turn notes i d lt so_far p q =
    let P : List ℕ → Type 0 = λ t. Appends a c t in
    let Q : List (Option Offer) → Type 0 = λ l. Appends b c (note_text l turn (get_or notes i d)) in
    let more : notes_text os turn (take (i + 1) notes) ≡ notes_text os turn (take i notes) ++ note_text (offers_at_end os (take i notes)) turn (get_or notes i d) = rw add-one (notes_suc os turn notes i d lt) in
    subst P (sym more) (appends_more a b c _ _ p (subst Q so_far q))

pub note_fails : {T E : Type 0} (a b c : Option (List ℕ)) (os now : List (Option Offer)) (turn : ℕ) (notes : List Note) (i : ℕ) (d : Note) (r : Result T E) (x : E) → r ≡ Err x → i < length notes → now ≡ offers_at_end os (take i notes) →
    Appends a b (notes_text os turn (take i notes)) → AppendsFront b c (note_text now turn (get_or notes i d)) → Pushes a c (notes_text os turn notes) r
note_fails a b c os now turn notes i d r x failed lt so_far p q =
    let Q : List (Option Offer) → Type 0 = λ l. AppendsFront b c (note_text l turn (get_or notes i d)) in
    part_fails a b c _ _ _ _ r x failed (notes_at os turn notes i d lt) p (subst Q so_far q)
