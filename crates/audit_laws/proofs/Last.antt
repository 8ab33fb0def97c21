-- The line that ends the turns, and the lines after it, are read as what they say.
use Rattle.std.proofs.Common.{◌≡◌, ◌≢◌, ℕ, suc, ◌+◌, ◌-◌, ◌^◌, ◌<◌, Bool, true, false, cond, eqb, ltb, ◌&&◌, ◌||◌, List, [], ◌∷◌, ◌++◌, length, take, drop, get_or, Option, Some, None, refl, sym, subst, ap, ◌∙◌, arith, length-append, add-one}
use Rattle.std.proofs.lemmas.Bool.{and_parts, ltb-true, or_right}
use Rattle.std.specs.Prelude.{decimal, codes, unwrap_or, bytes_eq, is_some, option_map}
use Rattle.std.specs.List.{list_all}
use Rattle.std.proofs.lemmas.Bool.Decides.{nat_tests}
use Rattle.std.proofs.lemmas.Fmt.{decimal_nonempty}
use Rattle.trace_audit.specs.declared.forms.Field.TheVariants as field
use Rattle.trace_audit.specs.declared.forms.LineKind.TheVariants as kind
use Rattle.trace_audit.specs.declared.reading.TraceLine.TheVariants as line
use Rattle.trace_audit.specs.declared.reading.FinalWait.TheVariants as wait
use Rattle.trace_audit.specs.Texts.{plain_number, most_number, most_time}
use Rattle.trace_audit.specs.Fields.{LineForm, form, is_number, is_low_hex, is_hex, is_any_of, behind, number_in, is_number_behind, is_timer, is_of, are_of, form_named, last_forms, turn_forms, end_form}
use Rattle.trace_audit.specs.Meaning.{read, fits, fitting, form_of, told, turn_line, wait_by, wait_of, shown_by, shown, row_of, or_else, last_line, end_line}
use Rattle.audit_laws.proofs.Decimals.{number_back}
use Rattle.audit_laws.proofs.Spelling.{IsWord, spaced, words_back}
use Rattle.audit_laws.proofs.Reading.{decimal_word, small, short, number_of_word, hex_word, of_number, of_time, of_word, of_row, all_of, plain, AreHex, hex_fields, hex_fit, hex_words, by_words, read_words}

-- ## the end

end_words_back : (ws : List (List ℕ)) → (are_of end_form.fields false ws && true) ≡ true → by_words (codes "end" ∷ ws) ≡ line.Ends
unfolding end_line
end_words_back ws h = ap (λ b. unwrap_or (or_else (option_map (λ (f : LineForm). line.Ends) (cond b (Some end_form) None)) (or_else (turn_line (codes "end" ∷ ws)) (last_line (codes "end" ∷ ws)))) line.Strange) h

pub end_back : (turns now : ℕ) (how : List ℕ) → turns < 2 ^ 32 → now < 2 ^ 64 → IsWord how → is_of field.End how ≡ true → read (codes "end" ++ spaced (how ∷ decimal turns ∷ decimal now ∷ [])) ≡ line.Ends
end_back turns now how a b w o =
    let ws = how ∷ decimal turns ∷ decimal now ∷ [] in
    read_words _ (codes "end" ∷ ws) (words_back (codes "end") ws refl (w, (short turns a, (decimal_word now b, tt))))
    ∙ end_words_back ws (plain (field.End ∷ field.Number ∷ field.Time ∷ []) ws (o, (of_number turns a, (of_time now b, tt))))

-- ## lines with a name

-- a name that is no number begins no line of a turn
no_turn : (name : List ℕ) (ws : List (List ℕ)) → plain_number most_number name ≡ None → turn_line (name ∷ ws) ≡ None
unfolding turn_line
no_turn name [] h = refl
no_turn name (w ∷ ws) h = ap (λ o. told o ws (form_of turn_forms w ws)) h

named_back : (name : List ℕ) (ws : List (List ℕ)) (f : LineForm) → plain_number most_number name ≡ None → end_line (name ∷ ws) ≡ None → last_line (name ∷ ws) ≡ Some (shown_by f.kind ws) → by_words (name ∷ ws) ≡ shown_by f.kind ws
named_back name ws f number end last =
    ap (λ o. unwrap_or (or_else o (or_else (turn_line (name ∷ ws)) (last_line (name ∷ ws)))) line.Strange) end
    ∙ ap (λ o. unwrap_or (or_else o (last_line (name ∷ ws))) line.Strange) (no_turn name ws number)
    ∙ ap (λ o. unwrap_or o line.Strange) last

in_last : (name : List ℕ) (ws : List (List ℕ)) (f : LineForm) → form_named name last_forms ≡ Some f → fits f ws ≡ true → last_line (name ∷ ws) ≡ Some (shown_by f.kind ws)
unfolding last_line
in_last name ws f named fit = ap (λ o. or_else (shown ws (fitting ws o)) (row_of (name ∷ ws))) named ∙ ap (λ b. or_else (shown ws (cond b (Some f) None)) (row_of (name ∷ ws))) fit

low_number : plain_number most_number (codes "low") ≡ None
unfolding plain_number
low_number = refl

high_number : plain_number most_number (codes "high") ≡ None
unfolding plain_number
high_number = refl

mem_number : plain_number most_number (codes "mem") ≡ None
unfolding plain_number
mem_number = refl

task_number : plain_number most_number (codes "task") ≡ None
unfolding plain_number
task_number = refl

low_end : (ws : List (List ℕ)) → end_line (codes "low" ∷ ws) ≡ None
unfolding end_line
low_end ws = refl

high_end : (ws : List (List ℕ)) → end_line (codes "high" ∷ ws) ≡ None
unfolding end_line
high_end ws = refl

mem_end : (ws : List (List ℕ)) → end_line (codes "mem" ∷ ws) ≡ None
unfolding end_line
mem_end ws = refl

task_end : (ws : List (List ℕ)) → end_line (codes "task" ∷ ws) ≡ None
unfolding end_line
task_end ws = refl

pub last_low_back : (ws : List (List ℕ)) → AreHex 8 ws → read (codes "low" ++ spaced (ws ++ [])) ≡ line.Shows
last_low_back ws hex =
    let f = form (codes "low") kind.Plain (hex_fields 8 []) in
    read_words _ (codes "low" ∷ (ws ++ [])) (words_back (codes "low") (ws ++ []) refl (hex_words 8 ws [] hex tt))
    ∙ named_back (codes "low") (ws ++ []) f low_number (low_end (ws ++ [])) (in_last (codes "low") (ws ++ []) f refl (plain (hex_fields 8 []) (ws ++ []) (hex_fit 8 ws [] [] hex tt)))

pub last_high_back : (ws : List (List ℕ)) (flags : List ℕ) → AreHex 8 ws → IsWord flags → is_of field.Flags flags ≡ true → read (codes "high" ++ spaced (ws ++ flags ∷ [])) ≡ line.Shows
last_high_back ws flags hex w o =
    let f = form (codes "high") kind.Plain (hex_fields 8 (field.Flags ∷ [])) in
    read_words _ (codes "high" ∷ (ws ++ flags ∷ [])) (words_back (codes "high") (ws ++ flags ∷ []) refl (hex_words 8 ws (flags ∷ []) hex (w, tt)))
    ∙ named_back (codes "high") (ws ++ flags ∷ []) f high_number (high_end (ws ++ flags ∷ [])) (in_last (codes "high") (ws ++ flags ∷ []) f refl (plain (hex_fields 8 (field.Flags ∷ [])) (ws ++ flags ∷ []) (hex_fit 8 ws (field.Flags ∷ []) (flags ∷ []) hex (o, tt))))

pub mem_back : (base : List ℕ) (size : ℕ) → is_hex 8 base ≡ true → size < 2 ^ 32 → read (codes "mem" ++ spaced (base ∷ decimal size ∷ [])) ≡ line.Shows
mem_back base size x a =
    let f = form (codes "mem") kind.Plain (field.Word ∷ field.Number ∷ []) in
    let ws = base ∷ decimal size ∷ [] in
    read_words _ (codes "mem" ∷ ws) (words_back (codes "mem") ws refl (hex_word 8 base x, (short size a, tt)))
    ∙ named_back (codes "mem") ws f mem_number (mem_end ws) (in_last (codes "mem") ws f refl (plain (field.Word ∷ field.Number ∷ []) ws (of_word base x, (of_number size a, tt))))

-- ## a task

pub task_back : (i generation : ℕ) (health waits posted timer : List ℕ) → i < 2 ^ 32 → generation < 2 ^ 32 → IsWord health → is_of field.Health health ≡ true → IsWord waits → is_of field.Wait waits ≡ true → is_hex 8 posted ≡ true → IsWord timer → is_of field.Timer timer ≡ true → read (codes "task" ++ spaced (decimal i ∷ decimal generation ∷ health ∷ waits ∷ posted ∷ timer ∷ [])) ≡ line.Waits i (wait_of waits)
task_back i generation health waits posted timer a b wh oh ww ow x wt ot =
    let fs = field.Number ∷ field.Number ∷ field.Health ∷ field.Wait ∷ field.Word ∷ field.Timer ∷ [] in
    let f = form (codes "task") kind.Task fs in
    let ws = decimal i ∷ decimal generation ∷ health ∷ waits ∷ posted ∷ timer ∷ [] in
    read_words _ (codes "task" ∷ ws) (words_back (codes "task") ws refl (short i a, (short generation b, (wh, (ww, (hex_word 8 posted x, (wt, tt)))))))
    ∙ named_back (codes "task") ws f task_number (task_end ws) (in_last (codes "task") ws f refl (plain fs ws (of_number i a, (of_number generation b, (oh, (ow, (of_word posted x, (ot, tt))))))))
    ∙ ap (λ n. line.Waits n (wait_of waits)) (number_of_word i a)

-- what it waits for
pub wait_offered : (k : ℕ) → k < 2 ^ 32 → wait_of (codes "offered:" ++ decimal k) ≡ wait.Offered k
unfolding wait_of behind
wait_offered k h = ap (λ o. wait_by o (number_in most_number (behind (codes "taken:") (codes "offered:" ++ decimal k)))) (number_back k most_number (small k h) (omega arith))

pub wait_taken : (k : ℕ) → k < 2 ^ 32 → wait_of (codes "taken:" ++ decimal k) ≡ wait.Taken k
unfolding wait_of behind
wait_taken k h = ap (λ o. wait_by None o) (number_back k most_number (small k h) (omega arith))

pub of_wait_offered : (k : ℕ) → k < 2 ^ 32 → is_of field.Wait (codes "offered:" ++ decimal k) ≡ true
unfolding is_of behind
of_wait_offered k h = ap (λ o. is_some o || is_number_behind (codes "taken:") (codes "offered:" ++ decimal k)) (number_back k most_number (small k h) (omega arith))

pub of_wait_taken : (k : ℕ) → k < 2 ^ 32 → is_of field.Wait (codes "taken:" ++ decimal k) ≡ true
unfolding is_of behind
of_wait_taken k h = ap is_some (number_back k most_number (small k h) (omega arith))

pub of_faulted : (n : ℕ) → n < 2 ^ 32 → is_of field.Health (codes "faulted:" ++ decimal n) ≡ true
unfolding is_of behind
of_faulted n h = ap is_some (number_back n most_number (small n h) (omega arith))

-- ## the bytes at an address

-- words of other lengths differ
apart_lengths : (a b : List ℕ) → length a ≢ length b → bytes_eq a b ≡ false
apart_lengths [] [] h = absurd (h refl)
apart_lengths [] (y ∷ ys) h = refl
apart_lengths (x ∷ xs) [] h = refl
apart_lengths (x ∷ xs) (y ∷ ys) h = and_false (eqb x y) (bytes_eq xs ys) (apart_lengths xs ys (λ e. h (ap suc e)))
  where
    and_false : (a b : Bool) → b ≡ false → (a && b) ≡ false
    and_false true b e = e
    and_false false b e = refl

-- each name is shorter
abbrev are_short : ℕ → List LineForm → Bool
are_short n [] = true
are_short n (f ∷ fs) = ltb (length f.name) n && are_short n fs

none_named : (w : List ℕ) (fs : List LineForm) → are_short (length w) fs ≡ true → form_named w fs ≡ None
none_named w [] h = refl
none_named w (f ∷ fs) h =
    let p = and_parts (ltb (length f.name) (length w)) (are_short (length w) fs) h in
    let lt = ltb-true (length f.name) (length w) p.0 in
    ap (λ b. cond b (Some f) (form_named w fs)) (apart_lengths w f.name (λ e. absurd (omega arith))) ∙ none_named w fs p.1

pub hex_length : (n : ℕ) (w : List ℕ) → is_hex n w ≡ true → length w ≡ n
unfolding is_hex
hex_length n w h = same (length w) n (and_parts (eqb (length w) n) (list_all is_low_hex w) h).0
  where
    same : (a b : ℕ) → eqb a b ≡ true → a ≡ b
    same a b h = grind (arith, nat_tests)

told_none : (o : Option ℕ) (ws : List (List ℕ)) → told o ws None ≡ None
told_none None ws = refl
told_none (Some t) ws = refl

row_words : (a bytes : List ℕ) → form_named a (end_form ∷ []) ≡ None → form_named bytes turn_forms ≡ None → form_named a last_forms ≡ None → are_of (field.Word ∷ field.Row ∷ []) false (a ∷ bytes ∷ []) ≡ true → by_words (a ∷ bytes ∷ []) ≡ line.Shows
unfolding end_line turn_line last_line
row_words a bytes e t l r =
    ap (λ o. unwrap_or (or_else (option_map (λ (f : LineForm). line.Ends) (fitting (bytes ∷ []) o)) (or_else (told (plain_number most_number a) [] (fitting [] (form_named bytes turn_forms))) (or_else (shown (bytes ∷ []) (fitting (bytes ∷ []) (form_named a last_forms))) (row_of (a ∷ bytes ∷ []))))) line.Strange) e
    ∙ ap (λ o. unwrap_or (or_else (told (plain_number most_number a) [] (fitting [] o)) (or_else (shown (bytes ∷ []) (fitting (bytes ∷ []) (form_named a last_forms))) (row_of (a ∷ bytes ∷ [])))) line.Strange) t
    ∙ ap (λ o. unwrap_or (or_else o (or_else (shown (bytes ∷ []) (fitting (bytes ∷ []) (form_named a last_forms))) (row_of (a ∷ bytes ∷ [])))) line.Strange) (told_none (plain_number most_number a) [])
    ∙ ap (λ o. unwrap_or (or_else (shown (bytes ∷ []) (fitting (bytes ∷ []) o)) (row_of (a ∷ bytes ∷ []))) line.Strange) l
    ∙ ap (λ b. unwrap_or (cond b (Some line.Shows) None) line.Strange) r

pub row_back : (a bytes : List ℕ) → is_hex 8 a ≡ true → is_hex 32 bytes ≡ true → read (a ++ spaced (bytes ∷ [])) ≡ line.Shows
row_back a bytes x y =
    let eight = sym (hex_length 8 a x) in
    let many = sym (hex_length 32 bytes y) in
    read_words _ (a ∷ bytes ∷ []) (words_back a (bytes ∷ []) (hex_word 8 a x) (hex_word 32 bytes y, tt))
    ∙ row_words a bytes
    (none_named a (end_form ∷ []) (subst (λ n. are_short n (end_form ∷ []) ≡ true) eight refl))
    (none_named bytes turn_forms (subst (λ n. are_short n turn_forms ≡ true) many refl))
    (none_named a last_forms (subst (λ n. are_short n last_forms ≡ true) eight refl))
    (all_of (field.Word ∷ field.Row ∷ []) (a ∷ bytes ∷ []) (of_word a x, (of_row bytes y, tt)))

-- ## a timer

drop_past : (ds h : List ℕ) (c : ℕ) → drop (suc (length ds)) (ds ++ c ∷ h) ≡ h
drop_past [] h c = refl
drop_past (d ∷ ds) h c = drop_past ds h c

front_of : (ds h : List ℕ) → take (length ds) (ds ++ h) ≡ ds
front_of [] h = refl
front_of (d ∷ ds) h = ap (λ xs. d ∷ xs) (front_of ds h)

byte_at : (ds h : List ℕ) (c : ℕ) → get_or (ds ++ c ∷ h) (length ds) 0 ≡ c
byte_at [] h c = refl
byte_at (d ∷ ds) h c = byte_at ds h c

four : (a b c d : Bool) → a ≡ true → b ≡ true → c ≡ true → d ≡ true → (a && b && c && d) ≡ true
four a b c d p q r s = rw (p, q, r, s) refl

timer_parts : (ds h : List ℕ) (n : ℕ) → n ≡ length ds → 0 < length ds → length h ≡ 8 → is_number most_time ds ≡ true → is_hex 8 h ≡ true → (ltb 9 (length (ds ++ 58 ∷ h)) && eqb (get_or (ds ++ 58 ∷ h) n 0) 58 && is_number most_time (take n (ds ++ 58 ∷ h)) && is_hex 8 (drop (n + 1) (ds ++ 58 ∷ h))) ≡ true
timer_parts ds h n e some eight number hex = four _ _ _ _ long colon front back
  where
    long : ltb 9 (length (ds ++ 58 ∷ h)) ≡ true
    long = let k = length-append ds (58 ∷ h) in is_below 9 (length (ds ++ 58 ∷ h)) (omega arith)
      where
        is_below : (a b : ℕ) → a < b → ltb a b ≡ true
        is_below a b h = grind (arith, nat_tests)

    colon : eqb (get_or (ds ++ 58 ∷ h) n 0) 58 ≡ true
    colon = ap (λ k. eqb (get_or (ds ++ 58 ∷ h) k 0) 58) e ∙ ap (λ c. eqb c 58) (byte_at ds h 58)

    front : is_number most_time (take n (ds ++ 58 ∷ h)) ≡ true
    front = ap (λ k. is_number most_time (take k (ds ++ 58 ∷ h))) e ∙ ap (is_number most_time) (front_of ds (58 ∷ h)) ∙ number

    back : is_hex 8 (drop (n + 1) (ds ++ 58 ∷ h)) ≡ true
    back = ap (λ k. is_hex 8 (drop (k + 1) (ds ++ 58 ∷ h))) e ∙ ap (λ k. is_hex 8 (drop k (ds ++ 58 ∷ h))) (add-one (length ds)) ∙ ap (is_hex 8) (drop_past ds h 58) ∙ hex

pub of_timer : (d : ℕ) (h : List ℕ) → d < 2 ^ 64 → is_hex 8 h ≡ true → is_of field.Timer (decimal d ++ 58 ∷ h) ≡ true
unfolding is_of is_timer
of_timer d h lt hex =
    let eight = hex_length 8 h hex in
    let k = length-append (decimal d) (58 ∷ h) in
    or_right (is_any_of (codes "-" ∷ []) (decimal d ++ 58 ∷ h)) _ (timer_parts (decimal d) h (length (decimal d ++ 58 ∷ h) - 9) (omega arith) (decimal_nonempty d lt) eight (ap is_some (number_back d most_time lt (omega arith))) hex)
