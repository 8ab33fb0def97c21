-- Lines that are answered one after the other while a text is taken.
use Rattle.std.proofs.Common.{◌≡◌, ◌∙◌, ◌⊎◌, inl, inr, ℕ, true, List, [], ◌∷◌, ◌++◌, Option, refl, sym, ap, subst, append_assoc}
use Rattle.std.specs.Prelude.{Result, Ok, Err, OnOk, OnErr}
use Rattle.std.specs.Io.KnownBytes.{Appends}
use Rattle.std.proofs.lemmas.List.{append-nil}
use Rattle.text_lines.specs.Text.{HasNoLf, lines_of, without_cr}
use Rattle.text_lines.proofs.Ends.{lines_lf}
use Rattle.outside_io.specs.Outside.{AppendsFront, Pushes}
use Rattle.outside_io.proofs.Pushing.{appends_more, appends_none, front_more, front_wider}
use Rattle.board_model.specs.Script.{Scenario}
use Rattle.board_core.specs.Data.{Shows}
use Rattle.debug_core.specs.declared.debugger.Debugger.{Debugger}
use Rattle.debug_core.specs.declared.live.LineUnderWay.{LineUnderWay}
use Rattle.debug_core.specs.Live.{IsEnough, after_line, after_lines, begun_text, line_told, lines_told, live_said, live_text}
use Rattle.debug_core.specs.Session.{Session}
use Rattle.debug_core.specs.Sessions.{IsSession}
use Rattle.debug_core.specs.UnderWay.{IsAmid, IsOneLine, IsUnderWay, first_said}
use Rattle.debug_core.proofs.Over.{over_after_lines, over_lines_told}
use Rattle.debug_core.proofs.Cutting.{cut_ended, cut_lf, cut_more, cut_none, last_line, lf_line}

-- ---- lines, and more of them

pub told_more : (x : Scenario) (s : Session) (lines more : List (List ℕ)) → lines_told x s (lines ++ more) ≡ lines_told x s lines ++ lines_told x (after_lines x s lines) more
told_more x s [] more = refl
told_more x s (line ∷ lines) more =
    ap (λ (t : List ℕ). line_told x s (live_said line) ++ t) (told_more x (after_line x s (live_said line)) lines more)
    ∙ sym (append_assoc (line_told x s (live_said line)) (lines_told x (after_line x s (live_said line)) lines) (lines_told x (after_lines x (after_line x s (live_said line)) lines) more))

pub after_more : (x : Scenario) (s : Session) (lines more : List (List ℕ)) → after_lines x s (lines ++ more) ≡ after_lines x (after_lines x s lines) more
after_more x s [] more = refl
after_more x s (line ∷ lines) more = after_more x (after_line x s (live_said line)) lines more

-- ---- one line

abbrev AtMostOne : List (List ℕ) → Type 0
AtMostOne lines = (lines ≡ []) ⊎ ((line : List ℕ) × (lines ≡ line ∷ []))

at_most_one : (bytes line : List ℕ) → HasNoLf line → (bytes ≡ line) ⊎ (bytes ≡ line ++ 10 ∷ []) → AtMostOne (lines_of bytes)
at_most_one bytes line h (inl e) = elim (last_line line h) [ inl none ↦ inl (ap lines_of e ∙ none) | inr one ↦ inr (line, ap lines_of e ∙ one) ]
at_most_one bytes line h (inr e) = inr (without_cr line, ap lines_of e ∙ lf_line line h)

told_first : (x : Scenario) (s : Session) (lines : List (List ℕ)) → AtMostOne lines → line_told x s (first_said lines) ≡ lines_told x s lines
told_first x s lines (inl e) = ap (λ ls. line_told x s (first_said ls)) e ∙ sym (ap (lines_told x s) e)
told_first x s lines (inr one) =
    ap (λ ls. line_told x s (first_said ls)) one.1 ∙ sym (append-nil (line_told x s (live_said one.0))) ∙ sym (ap (lines_told x s) one.1)

after_first : (x : Scenario) (s : Session) (lines : List (List ℕ)) → AtMostOne lines → after_line x s (first_said lines) ≡ after_lines x s lines
after_first x s lines (inl e) = ap (λ ls. after_line x s (first_said ls)) e ∙ sym (ap (after_lines x s) e)
after_first x s lines (inr one) = ap (λ ls. after_line x s (first_said ls)) one.1 ∙ sym (ap (after_lines x s) one.1)

pub told_one : (x : Scenario) (s : Session) (bytes : List ℕ) → IsOneLine bytes → line_told x s (first_said (lines_of bytes)) ≡ live_text x s bytes
told_one x s bytes one = told_first x s (lines_of bytes) (at_most_one bytes one.0 one.1 one.2)

pub after_one : (x : Scenario) (s : Session) (bytes : List ℕ) → IsOneLine bytes → after_line x s (first_said (lines_of bytes)) ≡ after_lines x s (lines_of bytes)
after_one x s bytes one = after_first x s (lines_of bytes) (at_most_one bytes one.0 one.1 one.2)

-- a line with its LF, and what comes behind it
lf_apart : (x : Scenario) (s : Session) (line rest : List ℕ) → HasNoLf line → live_text x s (line ++ 10 ∷ rest) ≡ live_text x s (line ++ 10 ∷ []) ++ lines_told x (after_lines x s (lines_of (line ++ 10 ∷ []))) (lines_of rest)
lf_apart x s line rest h =
    ap (lines_told x s) (lines_lf line rest h ∙ sym (ap (λ (ls : List (List ℕ)). ls ++ lines_of rest) (lf_line line h)))
    ∙ told_more x s (lines_of (line ++ 10 ∷ [])) (lines_of rest)

-- ---- amid a text

module _ {X : Type 0} {H : X → Type 0} (shown : Shows X H) (x : Scenario) (s : Session) (text : List ℕ) (old w : Option (List ℕ)) (d : Debugger X H) (under_way : LineUnderWay) (h : IsAmid shown x s text old w d under_way) where
  abbrev here : Session
  here = after_lines x s h.lines

  -- with what comes behind it
  pub amid_whole : (rest : List ℕ) → live_text x s (text ++ rest) ≡ lines_told x s h.lines ++ live_text x here (h.behind ++ rest)
  amid_whole rest = ap (lines_told x s) (h.cut.whole rest) ∙ told_more x s h.lines (lines_of (h.behind ++ rest))

  pub amid_begun : Appends old w (begun_text x s text)
  amid_begun = subst (λ ls. Appends old w (lines_told x s ls)) (sym (cut_ended text h.lines h.behind h.cut)) h.told

  -- where nothing comes behind it that counts: nothing does, or the session is over
  module _ (rest : List ℕ) where
    amid_over : here.is_over ≡ true → (more : List ℕ) → live_text x s (text ++ more) ≡ lines_told x s h.lines
    amid_over over more =
        amid_whole more ∙ ap (λ (t : List ℕ). lines_told x s h.lines ++ t) (over_lines_told x here (lines_of (h.behind ++ more)) over)
        ∙ append-nil (lines_told x s h.lines)

    over_behind : here.is_over ≡ true → (more : List ℕ) → after_lines x s (lines_of (text ++ more)) ≡ here
    over_behind over more =
        ap (after_lines x s) (h.cut.whole more) ∙ after_more x s h.lines (lines_of (h.behind ++ more)) ∙ over_after_lines x here (lines_of (h.behind ++ more)) over

    pub rest_same : (rest ≡ []) ⊎ (here.is_over ≡ true) → live_text x s text ≡ live_text x s (text ++ rest)
    rest_same (inl none) = ap (live_text x s) (sym (ap (λ (t : List ℕ). text ++ t) none ∙ append-nil text))
    rest_same (inr over) = ap (live_text x s) (sym (append-nil text)) ∙ amid_over over [] ∙ sym (amid_over over rest)

    pub rest_after : (rest ≡ []) ⊎ (here.is_over ≡ true) → after_lines x s (lines_of text) ≡ after_lines x s (lines_of (text ++ rest))
    rest_after (inl none) = ap (λ t. after_lines x s (lines_of t)) (sym (ap (λ (t : List ℕ). text ++ t) none ∙ append-nil text))
    rest_after (inr over) = ap (λ t. after_lines x s (lines_of t)) (sym (append-nil text)) ∙ over_behind over [] ∙ sym (over_behind over rest)

    pub rest_enough : (rest ≡ []) ⊎ (here.is_over ≡ true) → IsEnough x s text (text ++ rest)
    rest_enough (inl none) = inl (sym (ap (λ (t : List ℕ). text ++ t) none ∙ append-nil text))
    rest_enough (inr over) = inr ((rest, refl), ap (λ ls. (after_lines x s ls).is_over) (cut_ended text h.lines h.behind h.cut) ∙ over)

  -- at the end of the text
  pub amid_after : after_lines x here (lines_of h.behind) ≡ after_lines x s (lines_of text)
  amid_after =
      sym (after_more x s h.lines (lines_of h.behind))
      ∙ ap (λ t. after_lines x s (h.lines ++ lines_of t)) (sym (append-nil h.behind))
      ∙ ap (after_lines x s) (sym (h.cut.whole []))
      ∙ ap (λ t. after_lines x s (lines_of t)) (append-nil text)

  -- the line under way, with its LF and as the last one
  pub amid_ended : IsOneLine (h.behind ++ 10 ∷ [])
  amid_ended = (h.behind, h.cut.no_lf, inr refl)

  pub amid_last : IsOneLine h.behind
  amid_last = (h.behind, h.cut.no_lf, inl refl)

  pub amid_more : (c : ℕ) (next : LineUnderWay) → (c ≡ 10 → ⊥) → IsUnderWay next (h.behind ++ c ∷ []) → IsAmid shown x s (text ++ c ∷ []) old w d next
  amid_more c next other begun = record {
    lines = h.lines;
    behind = h.behind ++ c ∷ [];
    cut = cut_more text h.lines h.behind c other h.cut;
    at = h.at;
    told = h.told;
    begun = begun;
  }

  module _ (w' : Option (List ℕ)) where
    pub amid_lf : (d' : Debugger X H) (next : LineUnderWay) → Appends w w' (live_text x here (h.behind ++ 10 ∷ [])) → IsSession shown x d' (after_lines x here (lines_of (h.behind ++ 10 ∷ []))) → IsUnderWay next [] → IsAmid shown x s (text ++ 10 ∷ []) old w' d' next
    amid_lf d' next told at begun =
        let line = lf_line h.behind h.cut.no_lf in
        record {
          lines = h.lines ++ without_cr h.behind ∷ [];
          behind = [];
          cut = cut_lf text h.lines h.behind h.cut;
          at = subst (IsSession shown x d') (ap (after_lines x here) line ∙ sym (after_more x s h.lines (without_cr h.behind ∷ []))) at;
          told = subst (Appends old w') (ap (λ ls. lines_told x s h.lines ++ lines_told x here ls) line ∙ sym (told_more x s h.lines (without_cr h.behind ∷ [])))
              (appends_more old w w' (lines_told x s h.lines) (live_text x here (h.behind ++ 10 ∷ [])) h.told told);
          begun = begun;
        }

    pub amid_fails : AppendsFront w w' (live_text x here (h.behind ++ 10 ∷ [])) → (rest : List ℕ) → AppendsFront old w' (live_text x s ((text ++ 10 ∷ []) ++ rest))
    amid_fails failed = λ rest.
        let behind = lines_told x (after_lines x here (lines_of (h.behind ++ 10 ∷ []))) (lines_of rest) in
        let whole = ap (live_text x s) (append_assoc text (10 ∷ []) rest) ∙ amid_whole (10 ∷ rest) in
        subst (AppendsFront old w') (sym (whole ∙ ap (λ t. lines_told x s h.lines ++ t) (lf_apart x here h.behind rest h.cut.no_lf)))
        (front_more old w w' (lines_told x s h.lines) (live_text x here (h.behind ++ 10 ∷ []) ++ behind) h.told
        (front_wider w w' (live_text x here (h.behind ++ 10 ∷ [])) behind failed))

    last_whole : live_text x s text ≡ lines_told x s h.lines ++ live_text x here h.behind
    last_whole = ap (live_text x s) (sym (append-nil text)) ∙ amid_whole [] ∙ ap (λ t. lines_told x s h.lines ++ live_text x here t) (append-nil h.behind)

    -- at the end of the text
    pub amid_all : Appends w w' (live_text x here h.behind) → Appends old w' (live_text x s text)
    amid_all told = subst (Appends old w') (sym last_whole) (appends_more old w w' (lines_told x s h.lines) (live_text x here h.behind) h.told told)

    pub amid_last_fails : AppendsFront w w' (live_text x here h.behind) → AppendsFront old w' (live_text x s text)
    amid_last_fails failed = subst (AppendsFront old w') (sym last_whole) (front_more old w w' (lines_told x s h.lines) (live_text x here h.behind) h.told failed)

pub amid_none : {X : Type 0} {H : X → Type 0} (shown : Shows X H) (x : Scenario) (s : Session) (w : Option (List ℕ)) (d : Debugger X H) (under_way : LineUnderWay) → IsSession shown x d s → IsUnderWay under_way [] → IsAmid shown x s [] w w d under_way
amid_none shown x s w d under_way at begun = record { lines = []; behind = []; cut = cut_none; at = at; told = appends_none w; begun = begun }

-- ---- by what a push came to

pub when_ok : {T E : Type 0} (a b : Option (List ℕ)) (t : List ℕ) (P : Type 0) (r : Result T E) → Pushes a b t r → (Appends a b t → P) → OnOk r P
when_ok a b t P (Ok v) h go = go h
when_ok a b t P (Err e) h go = tt

pub when_err : {T E : Type 0} (a b : Option (List ℕ)) (t : List ℕ) (P : Type 0) (r : Result T E) → Pushes a b t r → (AppendsFront a b t → P) → OnErr r P
when_err a b t P (Ok v) h go = tt
when_err a b t P (Err e) h go = go h
