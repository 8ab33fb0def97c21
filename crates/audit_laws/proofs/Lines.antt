-- The line of each form in a turn is read as what it says.
use Rattle.std.proofs.Common.{◌≡◌, ℕ, ◌^◌, ◌<◌, Bool, true, false, cond, eqb, not, ◌&&◌, ◌||◌, List, [], ◌∷◌, ◌++◌, length, refl, sym, ap, ◌∙◌, arith}
use Rattle.std.specs.Prelude.{decimal, codes, bytes_eq}
use Rattle.std.proofs.lemmas.Bool.{false≢true}
use Rattle.text_lines.specs.Text.{with_first}
use Rattle.trace_audit.specs.declared.forms.Field.TheVariants as field
use Rattle.trace_audit.specs.declared.forms.LineKind.TheVariants as kind
use Rattle.trace_audit.specs.declared.reading.TraceLine.TheVariants as line
use Rattle.trace_audit.specs.declared.reading.Saying.TheVariants as saying
use Rattle.trace_audit.specs.Texts.{words_of, pieces_of}
use Rattle.trace_audit.specs.Fields.{form, is_hex, is_any_of, is_of, has_text}
use Rattle.trace_audit.specs.Meaning.{read, fits, number_at, is_answer, moves_nothing}
use Rattle.audit_laws.proofs.Spelling.{IsWord, spaced, words_then_text}
use Rattle.audit_laws.proofs.Reading.{decimal_word, small, short, number_of_word, hex_word, of_number, of_time, of_word, of_byte, all_of, plain, all_and_text, AreHex, hex_fields, hex_fit, hex_words, turn_read, read_words, spelled_read}
use Rattle.text_lines.proofs.Digits.{positive}

pub tick_back : (t now : ℕ) → t < 2 ^ 32 → now < 2 ^ 64 → read (decimal t ++ spaced (codes "tick" ∷ decimal now ∷ [])) ≡ line.Tells t saying.Nothing
tick_back t now h a = spelled_read t (codes "tick") (decimal now ∷ []) (form (codes "tick") kind.Plain (field.Time ∷ [])) h refl (decimal_word now a, tt) refl (plain (field.Time ∷ []) (decimal now ∷ []) (of_time now a, tt))

pub irq_back : (t l : ℕ) (handled : List ℕ) → t < 2 ^ 32 → l < 2 ^ 32 → IsWord handled → is_of field.Handled handled ≡ true → read (decimal t ++ spaced (codes "irq" ∷ decimal l ∷ handled ∷ [])) ≡ line.Tells t saying.Nothing
irq_back t l handled h a w o = spelled_read t (codes "irq") (decimal l ∷ handled ∷ []) (form (codes "irq") kind.Plain (field.Number ∷ field.Handled ∷ [])) h refl (short l a, (w, tt)) refl (plain (field.Number ∷ field.Handled ∷ []) (decimal l ∷ handled ∷ []) (of_number l a, (o, tt)))

pub post_back : (t task : ℕ) (ws : List (List ℕ)) → t < 2 ^ 32 → task < 2 ^ 32 → AreHex 2 ws → read (decimal t ++ spaced (codes "post" ∷ decimal task ∷ (ws ++ []))) ≡ line.Tells t saying.Nothing
post_back t task ws h a hex = spelled_read t (codes "post") (decimal task ∷ (ws ++ [])) (form (codes "post") kind.Plain (field.Number ∷ hex_fields 2 [])) h refl (short task a, hex_words 2 ws [] hex tt) refl (plain (field.Number ∷ hex_fields 2 []) (decimal task ∷ (ws ++ [])) (of_number task a, hex_fit 2 ws [] [] hex tt))

pub call_back : (t task number : ℕ) (ws : List (List ℕ)) → t < 2 ^ 32 → task < 2 ^ 32 → number < 2 ^ 32 → AreHex 7 ws → read (decimal t ++ spaced (codes "call" ∷ decimal task ∷ decimal number ∷ (ws ++ []))) ≡ line.Tells t saying.Nothing
call_back t task number ws h a b hex = spelled_read t (codes "call") (decimal task ∷ decimal number ∷ (ws ++ [])) (form (codes "call") kind.Plain (field.Number ∷ field.Number ∷ hex_fields 7 [])) h refl (short task a, (short number b, hex_words 7 ws [] hex tt)) refl (plain (field.Number ∷ field.Number ∷ hex_fields 7 []) (decimal task ∷ decimal number ∷ (ws ++ [])) (of_number task a, (of_number number b, hex_fit 7 ws [] [] hex tt)))

pub ret_back : (t task : ℕ) (ws : List (List ℕ)) → t < 2 ^ 32 → task < 2 ^ 32 → AreHex 6 ws → read (decimal t ++ spaced (codes "ret" ∷ decimal task ∷ (ws ++ []))) ≡ line.Tells t saying.Nothing
ret_back t task ws h a hex = spelled_read t (codes "ret") (decimal task ∷ (ws ++ [])) (form (codes "ret") kind.Plain (field.Number ∷ hex_fields 6 [])) h refl (short task a, hex_words 6 ws [] hex tt) refl (plain (field.Number ∷ hex_fields 6 []) (decimal task ∷ (ws ++ [])) (of_number task a, hex_fit 6 ws [] [] hex tt))

pub fault_back : (t task number : ℕ) (ws : List (List ℕ)) → t < 2 ^ 32 → task < 2 ^ 32 → number < 2 ^ 32 → AreHex 2 ws → read (decimal t ++ spaced (codes "fault" ∷ decimal task ∷ decimal number ∷ (ws ++ []))) ≡ line.Tells t saying.Nothing
fault_back t task number ws h a b hex = spelled_read t (codes "fault") (decimal task ∷ decimal number ∷ (ws ++ [])) (form (codes "fault") kind.Plain (field.Number ∷ field.Number ∷ hex_fields 2 [])) h refl (short task a, (short number b, hex_words 2 ws [] hex tt)) refl (plain (field.Number ∷ field.Number ∷ hex_fields 2 []) (decimal task ∷ decimal number ∷ (ws ++ [])) (of_number task a, (of_number number b, hex_fit 2 ws [] [] hex tt)))

pub listen_back : (t task : ℕ) (from mask : List ℕ) → t < 2 ^ 32 → task < 2 ^ 32 → IsWord from → is_of field.Listened from ≡ true → is_hex 8 mask ≡ true → read (decimal t ++ spaced (codes "listen" ∷ decimal task ∷ from ∷ mask ∷ [])) ≡ line.Tells t saying.Nothing
listen_back t task from mask h a w o x = spelled_read t (codes "listen") (decimal task ∷ from ∷ mask ∷ []) (form (codes "listen") kind.Plain (field.Number ∷ field.Listened ∷ field.Word ∷ [])) h refl (short task a, (w, (hex_word 8 mask x, tt))) refl (plain (field.Number ∷ field.Listened ∷ field.Word ∷ []) (decimal task ∷ from ∷ mask ∷ []) (of_number task a, (o, (of_word mask x, tt))))

pub restart_back : (t task generation : ℕ) → t < 2 ^ 32 → task < 2 ^ 32 → generation < 2 ^ 32 → read (decimal t ++ spaced (codes "restart" ∷ decimal task ∷ decimal generation ∷ [])) ≡ line.Tells t saying.Nothing
restart_back t task generation h a b = spelled_read t (codes "restart") (decimal task ∷ decimal generation ∷ []) (form (codes "restart") kind.Plain (field.Number ∷ field.Number ∷ [])) h refl (short task a, (short generation b, tt)) refl (plain (field.Number ∷ field.Number ∷ []) (decimal task ∷ decimal generation ∷ []) (of_number task a, (of_number generation b, tt)))

pub in_back : (t device : ℕ) (byte fed : List ℕ) → t < 2 ^ 32 → device < 2 ^ 32 → is_hex 2 byte ≡ true → IsWord fed → is_of field.Fed fed ≡ true → read (decimal t ++ spaced (codes "in" ∷ decimal device ∷ byte ∷ fed ∷ [])) ≡ line.Tells t saying.Nothing
in_back t device byte fed h a x w o = spelled_read t (codes "in") (decimal device ∷ byte ∷ fed ∷ []) (form (codes "in") kind.Plain (field.Number ∷ field.Byte ∷ field.Fed ∷ [])) h refl (short device a, (hex_word 2 byte x, (w, tt))) refl (plain (field.Number ∷ field.Byte ∷ field.Fed ∷ []) (decimal device ∷ byte ∷ fed ∷ []) (of_number device a, (of_byte byte x, (o, tt))))

pub out_back : (t device : ℕ) (byte : List ℕ) → t < 2 ^ 32 → device < 2 ^ 32 → is_hex 2 byte ≡ true → read (decimal t ++ spaced (codes "out" ∷ decimal device ∷ byte ∷ [])) ≡ line.Tells t saying.Nothing
out_back t device byte h a x = spelled_read t (codes "out") (decimal device ∷ byte ∷ []) (form (codes "out") kind.Plain (field.Number ∷ field.Byte ∷ [])) h refl (short device a, (hex_word 2 byte x, tt)) refl (plain (field.Number ∷ field.Byte ∷ []) (decimal device ∷ byte ∷ []) (of_number device a, (of_byte byte x, tt)))

pub irq_status_back : (t task status : ℕ) (bits : List ℕ) → t < 2 ^ 32 → task < 2 ^ 32 → status < 2 ^ 32 → is_hex 8 bits ≡ true → read (decimal t ++ spaced (codes "irqstat" ∷ decimal task ∷ bits ∷ decimal status ∷ [])) ≡ line.Tells t saying.Nothing
irq_status_back t task status bits h a b x = spelled_read t (codes "irqstat") (decimal task ∷ bits ∷ decimal status ∷ []) (form (codes "irqstat") kind.Plain (field.Number ∷ field.Word ∷ field.Number ∷ [])) h refl (short task a, (hex_word 8 bits x, (short status b, tt))) refl (plain (field.Number ∷ field.Word ∷ field.Number ∷ []) (decimal task ∷ bits ∷ decimal status ∷ []) (of_number task a, (of_word bits x, (of_number status b, tt))))

pub find_back : (t index found : ℕ) → t < 2 ^ 32 → index < 2 ^ 32 → found < 2 ^ 32 → read (decimal t ++ spaced (codes "find" ∷ decimal index ∷ decimal found ∷ [])) ≡ line.Tells t saying.Nothing
find_back t index found h a b = spelled_read t (codes "find") (decimal index ∷ decimal found ∷ []) (form (codes "find") kind.Plain (field.Number ∷ field.Number ∷ [])) h refl (short index a, (short found b, tt)) refl (plain (field.Number ∷ field.Number ∷ []) (decimal index ∷ decimal found ∷ []) (of_number index a, (of_number found b, tt)))

pub idle_back : (t : ℕ) → t < 2 ^ 32 → read (decimal t ++ spaced (codes "idle" ∷ [])) ≡ line.Tells t saying.Nothing
idle_back t h = spelled_read t (codes "idle") [] (form (codes "idle") kind.Plain []) h refl tt refl (plain [] [] tt)

pub low_back : (t : ℕ) (ws : List (List ℕ)) → t < 2 ^ 32 → AreHex 8 ws → read (decimal t ++ spaced (codes "low" ∷ (ws ++ []))) ≡ line.Tells t saying.Nothing
low_back t ws h hex = spelled_read t (codes "low") (ws ++ []) (form (codes "low") kind.Plain (hex_fields 8 [])) h refl (hex_words 8 ws [] hex tt) refl (plain (hex_fields 8 []) (ws ++ []) (hex_fit 8 ws [] [] hex tt))

pub high_back : (t : ℕ) (ws : List (List ℕ)) (flags : List ℕ) → t < 2 ^ 32 → AreHex 8 ws → IsWord flags → is_of field.Flags flags ≡ true → read (decimal t ++ spaced (codes "high" ∷ (ws ++ flags ∷ []))) ≡ line.Tells t saying.Nothing
high_back t ws flags h hex w o = spelled_read t (codes "high") (ws ++ flags ∷ []) (form (codes "high") kind.Plain (hex_fields 8 (field.Flags ∷ []))) h refl (hex_words 8 ws (flags ∷ []) hex (w, tt)) refl (plain (hex_fields 8 (field.Flags ∷ [])) (ws ++ flags ∷ []) (hex_fit 8 ws (field.Flags ∷ []) (flags ∷ []) hex (o, tt)))

-- ## of calls

pub offer_back : (t k i j : ℕ) → t < 2 ^ 32 → k < 2 ^ 32 → i < 2 ^ 32 → j < 2 ^ 32 → read (decimal t ++ spaced (codes "offer" ∷ decimal k ∷ decimal i ∷ decimal j ∷ [])) ≡ line.Tells t (saying.Offers k i)
offer_back t k i j h a b c =
    let ws = decimal k ∷ decimal i ∷ decimal j ∷ [] in
    let fit : fits (form (codes "offer") kind.Offer (field.Number ∷ field.Number ∷ field.Number ∷ [])) ws ≡ true = rw (all_of (field.Number ∷ field.Number ∷ field.Number ∷ []) ws (of_number k a, (of_number i b, (of_number j c, tt)))) refl in
    spelled_read t (codes "offer") ws (form (codes "offer") kind.Offer (field.Number ∷ field.Number ∷ field.Number ∷ [])) h refl (short k a, (short i b, (short j c, tt))) refl fit
    ∙ ap (λ n. line.Tells t (saying.Offers n (number_at ws 1))) (number_of_word k a) ∙ ap (λ n. line.Tells t (saying.Offers k n)) (number_of_word i b)

pub take_back : (t k n : ℕ) → t < 2 ^ 32 → k < 2 ^ 32 → n < 2 ^ 32 → read (decimal t ++ spaced (codes "take" ∷ decimal k ∷ decimal n ∷ [])) ≡ line.Tells t (saying.Takes k)
take_back t k n h a b =
    let ws = decimal k ∷ decimal n ∷ [] in
    let fit : fits (form (codes "take") kind.Take (field.Number ∷ field.Number ∷ [])) ws ≡ true = rw (all_of (field.Number ∷ field.Number ∷ []) ws (of_number k a, (of_number n b, tt))) refl in
    spelled_read t (codes "take") ws (form (codes "take") kind.Take (field.Number ∷ field.Number ∷ [])) h refl (short k a, (short n b, tt)) refl fit
    ∙ ap (λ m. line.Tells t (saying.Takes m)) (number_of_word k a)

pub close_back : (t k : ℕ) (ending : List ℕ) (answer : Bool) → t < 2 ^ 32 → k < 2 ^ 32 → IsWord ending → is_of field.Ending ending ≡ true → is_answer ending ≡ answer → read (decimal t ++ spaced (codes "close" ∷ decimal k ∷ ending ∷ [])) ≡ line.Tells t (saying.Closes k answer)
close_back t k ending answer h a w o is =
    let ws = decimal k ∷ ending ∷ [] in
    let fit : fits (form (codes "close") kind.Close (field.Number ∷ field.Ending ∷ [])) ws ≡ true = rw (all_of (field.Number ∷ field.Ending ∷ []) ws (of_number k a, (o, tt))) refl in
    spelled_read t (codes "close") ws (form (codes "close") kind.Close (field.Number ∷ field.Ending ∷ [])) h refl (short k a, (w, tt)) refl fit
    ∙ ap (λ m. line.Tells t (saying.Closes m (is_answer ending))) (number_of_word k a) ∙ ap (λ b. line.Tells t (saying.Closes k b)) is

-- reading or writing
pub lend_back : (t k lease offset moved : ℕ) (way : List ℕ) → t < 2 ^ 32 → k < 2 ^ 32 → lease < 2 ^ 32 → offset < 2 ^ 32 → moved < 2 ^ 32 → IsWord way → is_of field.Borrow way ≡ true → is_any_of (codes "info" ∷ []) way ≡ false → read (decimal t ++ spaced (codes "borrow" ∷ decimal k ∷ way ∷ decimal lease ∷ decimal offset ∷ decimal moved ∷ [])) ≡ line.Tells t (saying.Borrows k)
lend_back t k lease offset moved way h a b c d w o no_info =
    let ws = decimal k ∷ way ∷ decimal lease ∷ decimal offset ∷ decimal moved ∷ [] in
    let fs = field.Number ∷ field.Borrow ∷ field.Number ∷ field.Number ∷ field.Number ∷ [] in
    let fit : fits (form (codes "borrow") kind.Borrow fs) ws ≡ true = rw (all_of fs ws (of_number k a, (o, (of_number lease b, (of_number offset c, (of_number moved d, tt)))))) (not_info (bytes_eq way (codes "info")) (moves_nothing ws) no_info) in
    spelled_read t (codes "borrow") ws (form (codes "borrow") kind.Borrow fs) h refl (short k a, (w, (short lease b, (short offset c, (short moved d, tt))))) refl fit
    ∙ ap (λ m. line.Tells t (saying.Borrows m)) (number_of_word k a)
  where
    not_info : (x m : Bool) → (x || false) ≡ false → (not x || m) ≡ true
    not_info true m e = absurd (false≢true (sym e))
    not_info false m e = refl

info_of : is_of field.Borrow (codes "info") ≡ true
unfolding is_of
info_of = refl

pub info_back : (t k lease : ℕ) → t < 2 ^ 32 → k < 2 ^ 32 → lease < 2 ^ 32 → read (decimal t ++ spaced (codes "borrow" ∷ decimal k ∷ codes "info" ∷ decimal lease ∷ decimal 0 ∷ decimal 0 ∷ [])) ≡ line.Tells t (saying.Borrows k)
info_back t k lease h a b =
    let ws = decimal k ∷ codes "info" ∷ decimal lease ∷ decimal 0 ∷ decimal 0 ∷ [] in
    let fs = field.Number ∷ field.Borrow ∷ field.Number ∷ field.Number ∷ field.Number ∷ [] in
    let z : 0 < 2 ^ 32 = omega arith in
    let still : moves_nothing ws ≡ true = ap (λ n. eqb n 0 && eqb (number_at ws 4) 0) (number_of_word 0 z) ∙ ap (λ n. eqb n 0) (number_of_word 0 z) in
    let fit : fits (form (codes "borrow") kind.Borrow fs) ws ≡ true = rw (all_of fs ws (of_number k a, (info_of, (of_number lease b, (of_number 0 z, (of_number 0 z, tt)))))) still in
    spelled_read t (codes "borrow") ws (form (codes "borrow") kind.Borrow fs) h refl (short k a, (refl, (short lease b, (short 0 z, (short 0 z, tt))))) refl fit
    ∙ ap (λ m. line.Tells t (saying.Borrows m)) (number_of_word k a)

-- ## an instruction, whose text may have spaces

-- a byte in front leaves words, and the first has it
never_none : (cs : List ℕ) → words_of cs ≡ [] → ⊥
unfolding pieces_of
never_none [] e = absurd cc
never_none (c ∷ cs) e = by (eqb c 32) (words_of cs) e
  where
    by : (b : Bool) (ws : List (List ℕ)) → cond b ([] ∷ ws) (with_first c ws) ≡ [] → ⊥
    by true ws e = absurd cc
    by false [] e = absurd cc
    by false (w ∷ ws) e = absurd cc

with_text : (c : ℕ) (ws : List (List ℕ)) → has_text (with_first c ws) ≡ true
with_text c [] = refl
with_text c (w ∷ []) = positive (length w)
with_text c (w ∷ v ∷ ws) = refl

space_text : (ws : List (List ℕ)) → (ws ≡ [] → ⊥) → has_text ([] ∷ ws) ≡ true
space_text [] h = absurd (h refl)
space_text (w ∷ ws) h = refl

some_text : (text : List ℕ) → 0 < length text → has_text (words_of text) ≡ true
unfolding pieces_of
some_text [] lt = absurd (omega arith)
some_text (c ∷ cs) lt = by (eqb c 32)
  where
    by : (b : Bool) → has_text (cond b ([] ∷ words_of cs) (with_first c (words_of cs))) ≡ true
    by true = space_text (words_of cs) (never_none cs)
    by false = with_text c (words_of cs)

pub insn_back : (t task : ℕ) (at code text : List ℕ) → t < 2 ^ 32 → task < 2 ^ 32 → is_hex 8 at ≡ true → is_of field.Code code ≡ true → IsWord code → 0 < length text → read (decimal t ++ (spaced (codes "insn" ∷ decimal task ∷ at ∷ code ∷ []) ++ 32 ∷ text)) ≡ line.Tells t saying.Nothing
insn_back t task at code text h a x o w some =
    let ws = decimal task ∷ at ∷ code ∷ [] in
    let fs = field.Number ∷ field.Word ∷ field.Code ∷ [] in
    let fit : fits (form (codes "insn") kind.Insn fs) (ws ++ words_of text) ≡ true = rw (all_and_text fs ws (words_of text) (of_number task a, (of_word at x, (o, tt))) (some_text text some)) refl in
    read_words _ (decimal t ∷ codes "insn" ∷ (ws ++ words_of text)) (words_then_text (decimal t) (codes "insn" ∷ ws) text (decimal_word t (small t h)) (refl, (short task a, (hex_word 8 at x, (w, tt)))))
    ∙ turn_read t (codes "insn") (ws ++ words_of text) (form (codes "insn") kind.Insn fs) h refl fit
