-- One more line is taken from a text.
use Rattle.std.proofs.Common.{◌≡◌, ℕ, suc, ◌+◌, ◌<◌, inl, inr, Bool, true, false, List, [], ◌∷◌, ◌++◌, length, map, Some, None, refl, sym, subst, ap, ◌∙◌, arith, append_assoc, append-nil}
use Rattle.std.specs.Prelude.{All, count_by}
use Rattle.std.proofs.lemmas.List.{length-append}
use Rattle.std.proofs.lemmas.List.Elements.{All-nil, All-push}
use Rattle.trace_audit.specs.declared.book.Book.{Book}
use Rattle.trace_audit.specs.declared.reading.TraceLine.{TraceLine}
use Rattle.trace_audit.specs.declared.judgement.Judgement.TheVariants as judgement
use Rattle.trace_audit.specs.Texts.{lines_of}
use Rattle.trace_audit.specs.Meaning.{read}
use Rattle.trace_audit.specs.Rules.{said, is_offer, is_left, has_ended, AreGood}
use Rattle.trace_audit.specs.Books.{kept_in, IsKept, Adds}
use Rattle.trace_audit.specs.Judgements.{cause_of, IsFirstCause, HasNoCause, read_lines, IsJudgement}
use Rattle.trace_audit.specs.Midway.{IsMidway, IsFineSoFar, IsGoodSoFar}
use Rattle.trace_audit.proofs.Adding.{good_none, good_push}

abbrev none_taken : (text : List ℕ) → IsMidway text text 0
none_taken text = record { done = []; all = refl; number = refl; room = omega arith }

map_push : (xs : List (List ℕ)) (x : List ℕ) → map read (xs ++ x ∷ []) ≡ map read xs ++ read x ∷ []
map_push [] x = refl
map_push (y ∷ ys) x = ap (λ zs. read y ∷ zs) (map_push ys x)

map_joined : (xs ys : List (List ℕ)) → map read (xs ++ ys) ≡ map read xs ++ map read ys
map_joined [] ys = refl
map_joined (x ∷ xs) ys = ap (λ zs. read x ∷ zs) (map_joined xs ys)

map_length : (xs : List (List ℕ)) → length (map read xs) ≡ length xs
map_length [] = refl
map_length (x ∷ xs) = ap suc (map_length xs)

module _ (text rest more line : List ℕ) (n : ℕ) (next : lines_of rest ≡ line ∷ lines_of more) where
  abbrev one_taken : length more < length rest → IsMidway text rest n → IsMidway text more (n + 1)
  one_taken shorter t = record {
    done = t.done ++ line ∷ [];
    all = t.all ∙ ap (λ ls. t.done ++ ls) next ∙ sym (append_assoc t.done (line ∷ []) (lines_of more));
    number = ap (λ k. k + 1) t.number ∙ sym (length-append t.done (line ∷ []));
    room = let r = t.room in omega arith;
  }

  all_now : (t : IsMidway text rest n) → lines_of text ≡ t.done ++ line ∷ lines_of more
  all_now t = t.all ∙ ap (λ ls. t.done ++ ls) next

  pub fine_more : length more < length rest → cause_of line ≡ None → IsFineSoFar text rest n → IsFineSoFar text more (n + 1)
  fine_more shorter none f = record { taken = one_taken shorter f.taken; fine = All-push (λ l. cause_of l ≡ None) f.taken.done line f.fine none }

  pub first_cause : (cause : ℕ) → cause_of line ≡ Some cause → IsFineSoFar text rest n → IsFirstCause (lines_of text) cause (n + 1)
  first_cause cause here f = record { before = f.taken.done; line = line; after = lines_of more; is = all_now f.taken; fine = f.fine; here = here; number = ap (λ k. k + 1) f.taken.number }

  pub good_more : (b c : Book) → length more < length rest → (h : IsGoodSoFar text rest n b) → Adds (map read h.taken.done) (read line) c true → IsGoodSoFar text more (n + 1) c
  good_more b c shorter h a = record {
    taken = one_taken shorter h.taken;
    good = subst AreGood (sym (map_push h.taken.done line)) (good_push (map read h.taken.done) (read line) h.good a.0);
    kept = subst (λ ls. IsKept ls c) (sym (map_push h.taken.done line)) a.1;
  }

  pub first_bad : (b c : Book) → (h : IsGoodSoFar text rest n b) → Adds (map read h.taken.done) (read line) c false → IsJudgement text (judgement.No (n + 1))
  first_bad b c h a = record {
    before = map read h.taken.done;
    good = h.good;
    number = ap (λ k. k + 1) (h.taken.number ∙ sym (map_length h.taken.done));
    bad = inl (read line, map read (lines_of more), ap (map read) (all_now h.taken) ∙ map_joined h.taken.done (line ∷ lines_of more), a);
  }

pub fine_none : (text : List ℕ) → IsFineSoFar text text 0
fine_none text = record { taken = none_taken text; fine = All-nil (λ l. cause_of l ≡ None) }

pub good_start : (text : List ℕ) (b : Book) → IsKept [] b → IsGoodSoFar text text 0 b
good_start text b k = record { taken = none_taken text; good = good_none; kept = k }

module _ (text rest : List ℕ) (n : ℕ) (over : lines_of rest ≡ []) where
  all_done : (t : IsMidway text rest n) → lines_of text ≡ t.done
  all_done t = t.all ∙ ap (λ ls. t.done ++ ls) over ∙ append-nil t.done

  pub no_cause : IsFineSoFar text rest n → HasNoCause (lines_of text)
  no_cause f = subst (λ ls. All (λ l. cause_of l ≡ None) ls) (sym (all_done f.taken)) f.fine

  read_all : (t : IsMidway text rest n) → read_lines text ≡ map read t.done
  read_all t = ap (map read) (all_done t)

  pub good_end : (b : Book) (calls left : ℕ) → IsGoodSoFar text rest n b → b.ended ≡ true → calls ≡ b.offered → left ≡ (kept_in b).left → IsJudgement text (judgement.Yes calls left)
  good_end b calls left h ended c l =
      let e = sym (read_all h.taken) in (
        record { each = subst AreGood e h.good; ended = subst (λ ls. has_ended ls ≡ true) e (sym h.kept.ended ∙ ended) },
        c ∙ h.kept.heard.offered ∙ h.kept.heard.told.number ∙ ap (λ ls. count_by is_offer (map said ls)) e,
        l ∙ h.kept.heard.told.count ∙ ap (λ ls. count_by (is_left (map said ls)) (map said ls)) e,
      )

  pub no_end : (b : Book) → IsGoodSoFar text rest n b → b.ended ≡ false → IsJudgement text (judgement.No (n + 1))
  no_end b h going = record {
    before = map read h.taken.done;
    good = h.good;
    number = ap (λ k. k + 1) (h.taken.number ∙ sym (map_length h.taken.done));
    bad = inr (read_all h.taken, subst (λ ls. has_ended ls ≡ false) (sym (read_all h.taken)) (sym h.kept.ended ∙ going));
  }

pub adds_so : (lines : List TraceLine) (l m : TraceLine) (b : Book) (good so : Bool) → m ≡ l → good ≡ so → Adds lines m b good → Adds lines l b so
adds_so lines l m b good so e g h = subst (λ z. Adds lines l b z) g (subst (λ z. Adds lines z b good) e h)
