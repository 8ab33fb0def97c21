-- The line of each note is a turn's number and words, each behind a space, and an LF.
use Rattle.std.proofs.Common.{◌≡◌, ℕ, ◌^◌, ◌<◌, ◌⊎◌, inl, inr, Bool, true, false, cond, ltb, List, [], ◌∷◌, ◌++◌, length, map, refl, sym, subst, ap, ◌∙◌, arith, append_assoc, append-nil}
use Rattle.std.specs.Prelude.{Option, None, Some, decimal, codes}
use Rattle.std.specs.List.{list_all}
use Rattle.kernel_abi.specs.declared.Borrow.{Borrow}
use Rattle.kernel_abi.specs.declared.Borrow.TheVariants as borrow
use Rattle.kernel_abi.specs.declared.Ending.{Ending}
use Rattle.kernel_abi.specs.declared.Ending.TheVariants.{Reply, ReplyFault, Client, Restart}
use Rattle.kernel_abi.specs.declared.Fault.{Fault}
use Rattle.kernel_abi.specs.declared.Fed.{Fed}
use Rattle.kernel_abi.specs.declared.Fed.TheVariants.{Queued, Full, NotPort}
use Rattle.kernel_abi.specs.declared.Handled.{Handled}
use Rattle.kernel_abi.specs.declared.Handled.TheVariants.{Posted, Held, Unowned}
use Rattle.kernel_abi.specs.declared.FromIndex.{FromIndex}
use Rattle.kernel_abi.specs.declared.FromIndex.TheVariants.{Any, Kernel, One}
use Rattle.kernel_abi.specs.declared.Note.{Note}
use Rattle.kernel_abi.specs.declared.Note.TheVariants as note
use Rattle.trace_text.specs.Text.{hex, half_hex, byte_hex, bit, handled_name, fed_name, ending_name, listened_name, borrow_name, code_hex, code_decoded, decoded_text, tick_line, irq_line, post_line, syscall_line, ret_line, close_line, fault_line, listen_line, take_line, offer_line, borrow_line, restart_line, in_line, out_line, irq_status_line, find_line, insn_line, idle_line, low_line, high_line}
use Rattle.trace_audit.specs.declared.forms.Field.TheVariants as field
use Rattle.trace_audit.specs.declared.reading.TraceLine.{TraceLine}
use Rattle.trace_audit.specs.Fields.{is_hex, is_bit, are_bits, is_of}
use Rattle.trace_audit.specs.Meaning.{read, is_answer as answers}
use Rattle.trace_audit.specs.Judgements.{is_printable}
use Rattle.audit_laws.proofs.Spelling.{is_in_word, IsWord, AreWords, spaced, all_joined, words_printable}
use Rattle.audit_laws.proofs.Reading.{AreHex, decimal_word, short, hex_word, hex_words, of_code, of_listened}
use Rattle.audit_laws.proofs.Lines.{tick_back, irq_back, post_back, call_back, ret_back, fault_back, listen_back, restart_back, in_back, out_back, irq_status_back, find_back, idle_back, low_back, high_back, offer_back, take_back, close_back, lend_back, info_back, insn_back}
use Rattle.trace_text.specs.Fit.{IsFitFrom, IsFitNote}
use Rattle.audit_laws.specs.Told.{IsInsn, IsRight, is_answer, IsLine, IsReadAs}
use Rattle.audit_laws.proofs.Instructions.{decoded_is_text}
use Rattle.audit_laws.proofs.Hexes.{hex_fits, half_fits, byte_fits, hexes, registers_spaced, spaced_joined}

-- a line of words
of_words : (t : ℕ) (ws : List (List ℕ)) (bytes : List ℕ) (l : TraceLine) → t < 2 ^ 32 → AreWords ws → bytes ≡ (decimal t ++ spaced ws) ++ 10 ∷ [] → read (decimal t ++ spaced ws) ≡ l → IsLine bytes l
of_words t ws bytes l h are e r = record { text = decimal t ++ spaced ws; spelled = e; printable = words_printable (decimal t) ws (short t h) are; reads = r }

tick_spelled : (t now : ℕ) → tick_line t now ≡ (decimal t ++ spaced (codes "tick" ∷ decimal now ∷ [])) ++ 10 ∷ []
unfolding tick_line
tick_spelled t now = simp (append_assoc, append-nil)

offer_spelled : (t k i j : ℕ) → offer_line t k i j ≡ (decimal t ++ spaced (codes "offer" ∷ decimal k ∷ decimal i ∷ decimal j ∷ [])) ++ 10 ∷ []
unfolding offer_line
offer_spelled t k i j = simp (append_assoc, append-nil)

take_spelled : (t k n : ℕ) → take_line t k n ≡ (decimal t ++ spaced (codes "take" ∷ decimal k ∷ decimal n ∷ [])) ++ 10 ∷ []
unfolding take_line
take_spelled t k n = simp (append_assoc, append-nil)

restart_spelled : (t k n : ℕ) → restart_line t k n ≡ (decimal t ++ spaced (codes "restart" ∷ decimal k ∷ decimal n ∷ [])) ++ 10 ∷ []
unfolding restart_line
restart_spelled t k n = simp (append_assoc, append-nil)

in_spelled : (t device byte : ℕ) (fed : Option Fed) → in_line t device byte fed ≡ (decimal t ++ spaced (codes "in" ∷ decimal device ∷ byte_hex byte ∷ fed_name fed ∷ [])) ++ 10 ∷ []
unfolding in_line
in_spelled t device byte fed = simp (append_assoc, append-nil)

out_spelled : (t device byte : ℕ) → out_line t device byte ≡ (decimal t ++ spaced (codes "out" ∷ decimal device ∷ byte_hex byte ∷ [])) ++ 10 ∷ []
unfolding out_line
out_spelled t device byte = simp (append_assoc, append-nil)

irq_status_spelled : (t task bits status : ℕ) → irq_status_line t task bits status ≡ (decimal t ++ spaced (codes "irqstat" ∷ decimal task ∷ hex bits ∷ decimal status ∷ [])) ++ 10 ∷ []
unfolding irq_status_line
irq_status_spelled t task bits status = simp (append_assoc, append-nil)

find_spelled : (t index found : ℕ) → find_line t index found ≡ (decimal t ++ spaced (codes "find" ∷ decimal index ∷ decimal found ∷ [])) ++ 10 ∷ []
unfolding find_line
find_spelled t index found = simp (append_assoc, append-nil)

idle_spelled : (t : ℕ) → idle_line t ≡ (decimal t ++ spaced (codes "idle" ∷ [])) ++ 10 ∷ []
unfolding idle_line
idle_spelled t = simp (append_assoc, append-nil)

irq_spelled : (t l : ℕ) (handled : Handled) → irq_line t l handled ≡ (decimal t ++ spaced (codes "irq" ∷ decimal l ∷ handled_name handled ∷ [])) ++ 10 ∷ []
unfolding irq_line
irq_spelled t l handled = simp (append_assoc, append-nil)

close_spelled : (t k : ℕ) (ending : Ending) → close_line t k ending ≡ (decimal t ++ spaced (codes "close" ∷ decimal k ∷ ending_name ending ∷ [])) ++ 10 ∷ []
unfolding close_line
close_spelled t k ending = simp (append_assoc, append-nil)

borrow_spelled : (t k : ℕ) (way : Borrow) (lease offset moved : ℕ) → borrow_line t k way lease offset moved ≡ (decimal t ++ spaced (codes "borrow" ∷ decimal k ∷ borrow_name way ∷ decimal lease ∷ decimal offset ∷ decimal moved ∷ [])) ++ 10 ∷ []
unfolding borrow_line
borrow_spelled t k way lease offset moved = simp (append_assoc, append-nil)

listen_spelled : (t task : ℕ) (from : FromIndex) (mask : ℕ) → listen_line t task from mask ≡ (decimal t ++ spaced (codes "listen" ∷ decimal task ∷ listened_name from ∷ hex mask ∷ [])) ++ 10 ∷ []
unfolding listen_line
listen_spelled t task from mask = simp (append_assoc, append-nil)

post_spelled : (t task bits posted : ℕ) → post_line t task bits posted ≡ (decimal t ++ spaced (codes "post" ∷ decimal task ∷ (map hex (bits ∷ posted ∷ []) ++ []))) ++ 10 ∷ []
unfolding post_line
post_spelled t task bits posted = simp (append_assoc, append-nil)

fault_spelled : (t task : ℕ) (fault : Fault) → fault_line t task fault ≡ (decimal t ++ spaced (codes "fault" ∷ decimal task ∷ decimal fault.number ∷ (map hex (fault.x ∷ fault.y ∷ []) ++ []))) ++ 10 ∷ []
unfolding fault_line
fault_spelled t task fault = simp (append_assoc, append-nil)

call_spelled : (t task number : ℕ) (arguments : List ℕ) → syscall_line t task number arguments ≡ (decimal t ++ spaced (codes "call" ∷ decimal task ∷ decimal number ∷ (map hex arguments ++ []))) ++ 10 ∷ []
unfolding syscall_line
call_spelled t task number arguments = rw (registers_spaced arguments) (simp (append_assoc, append-nil))

ret_spelled : (t task : ℕ) (results : List ℕ) → ret_line t task results ≡ (decimal t ++ spaced (codes "ret" ∷ decimal task ∷ (map hex results ++ []))) ++ 10 ∷ []
unfolding ret_line
ret_spelled t task results = rw (registers_spaced results) (simp (append_assoc, append-nil))

low_spelled : (t : ℕ) (registers : List ℕ) → low_line t registers ≡ (decimal t ++ spaced (codes "low" ∷ (map hex registers ++ []))) ++ 10 ∷ []
unfolding low_line
low_spelled t registers = rw (registers_spaced registers) (simp (append_assoc, append-nil))

abbrev pub flags : Bool → Bool → Bool → Bool → List ℕ
flags n z c v = bit n ∷ bit z ∷ bit c ∷ bit v ∷ []

high_shape : (d r f : List ℕ) → d ++ codes " " ++ (codes "high" ++ r ++ codes " " ++ (f ++ 10 ∷ [])) ≡ (d ++ (32 ∷ (codes "high" ++ (r ++ (32 ∷ (f ++ [])))))) ++ 10 ∷ []
high_shape d r f = simp (append_assoc, append-nil)

high_spelled : (t : ℕ) (registers : List ℕ) (n z c v : Bool) → high_line t registers n z c v ≡ (decimal t ++ spaced (codes "high" ∷ (map hex registers ++ flags n z c v ∷ []))) ++ 10 ∷ []
unfolding high_line
high_spelled t registers n z c v =
    ap (λ r. decimal t ++ codes " " ++ (codes "high" ++ r ++ codes " " ++ (flags n z c v ++ 10 ∷ []))) (registers_spaced registers)
    ∙ high_shape (decimal t) (spaced (map hex registers)) (flags n z c v)
    ∙ ap (λ r. (decimal t ++ (32 ∷ (codes "high" ++ r))) ++ 10 ∷ []) (sym (spaced_joined (map hex registers) (flags n z c v ∷ [])))

-- ## each note

pub tick_read : (t now : ℕ) → t < 2 ^ 32 → now < 2 ^ 64 → IsReadAs t (note.Tick now)
tick_read t now h a = of_words t (codes "tick" ∷ decimal now ∷ []) _ _ h (refl, (decimal_word now a, tt)) (tick_spelled t now) (tick_back t now h a)

pub offer_read : (t k i j : ℕ) → t < 2 ^ 32 → IsFitNote (note.Offer k i j) → IsReadAs t (note.Offer k i j)
offer_read t k i j h fit = of_words t (codes "offer" ∷ decimal k ∷ decimal i ∷ decimal j ∷ []) _ _ h (refl, (short k fit.0, (short i fit.1, (short j fit.2, tt)))) (offer_spelled t k i j) (offer_back t k i j h fit.0 fit.1 fit.2)

pub take_read : (t k n : ℕ) → t < 2 ^ 32 → IsFitNote (note.Take k n) → IsReadAs t (note.Take k n)
take_read t k n h fit = of_words t (codes "take" ∷ decimal k ∷ decimal n ∷ []) _ _ h (refl, (short k fit.0, (short n fit.1, tt))) (take_spelled t k n) (take_back t k n h fit.0 fit.1)

pub restart_read : (t k n : ℕ) → t < 2 ^ 32 → IsFitNote (note.Restart k n) → IsReadAs t (note.Restart k n)
restart_read t k n h fit = of_words t (codes "restart" ∷ decimal k ∷ decimal n ∷ []) _ _ h (refl, (short k fit.0, (short n fit.1, tt))) (restart_spelled t k n) (restart_back t k n h fit.0 fit.1)

pub irq_status_read : (t task bits status : ℕ) → t < 2 ^ 32 → IsFitNote (note.IrqStatus task bits status) → IsReadAs t (note.IrqStatus task bits status)
irq_status_read t task bits status h fit = of_words t (codes "irqstat" ∷ decimal task ∷ hex bits ∷ decimal status ∷ []) _ _ h (refl, (short task fit.0, (hex_word 8 (hex bits) (hex_fits bits), (short status fit.1, tt)))) (irq_status_spelled t task bits status) (irq_status_back t task status (hex bits) h fit.0 fit.1 (hex_fits bits))

pub find_read : (t index found : ℕ) → t < 2 ^ 32 → IsFitNote (note.Find index found) → IsReadAs t (note.Find index found)
find_read t index found h fit = of_words t (codes "find" ∷ decimal index ∷ decimal found ∷ []) _ _ h (refl, (short index fit.0, (short found fit.1, tt))) (find_spelled t index found) (find_back t index found h fit.0 fit.1)

pub idle_read : (t : ℕ) → t < 2 ^ 32 → IsReadAs t note.Idle
idle_read t h = of_words t (codes "idle" ∷ []) _ _ h (refl, tt) (idle_spelled t) (idle_back t h)

handled_word : (handled : Handled) → IsWord (handled_name handled) × (is_of field.Handled (handled_name handled) ≡ true)
unfolding is_of
handled_word Posted = (refl, refl)
handled_word Held = (refl, refl)
handled_word Unowned = (refl, refl)

pub irq_read : (t l : ℕ) (handled : Handled) → t < 2 ^ 32 → l < 2 ^ 32 → IsReadAs t (note.Irq l handled)
irq_read t l handled h a = let w = handled_word handled in of_words t (codes "irq" ∷ decimal l ∷ handled_name handled ∷ []) _ _ h (refl, (short l a, (w.0, tt))) (irq_spelled t l handled) (irq_back t l (handled_name handled) h a w.0 w.1)

fed_word : (fed : Option Fed) → IsWord (fed_name fed) × (is_of field.Fed (fed_name fed) ≡ true)
unfolding is_of
fed_word None = (refl, refl)
fed_word (Some Queued) = (refl, refl)
fed_word (Some Full) = (refl, refl)
fed_word (Some NotPort) = (refl, refl)

pub in_read : (t device byte : ℕ) (fed : Option Fed) → t < 2 ^ 32 → device < 2 ^ 32 → IsReadAs t (note.In device byte fed)
in_read t device byte fed h a = let w = fed_word fed in of_words t (codes "in" ∷ decimal device ∷ byte_hex byte ∷ fed_name fed ∷ []) _ _ h (refl, (short device a, (hex_word 2 (byte_hex byte) (byte_fits byte), (w.0, tt)))) (in_spelled t device byte fed) (in_back t device (byte_hex byte) (fed_name fed) h a (byte_fits byte) w.0 w.1)

pub out_read : (t device byte : ℕ) → t < 2 ^ 32 → device < 2 ^ 32 → IsReadAs t (note.Out device byte)
out_read t device byte h a = of_words t (codes "out" ∷ decimal device ∷ byte_hex byte ∷ []) _ _ h (refl, (short device a, (hex_word 2 (byte_hex byte) (byte_fits byte), tt))) (out_spelled t device byte) (out_back t device (byte_hex byte) h a (byte_fits byte))

record IsEndingWord (ending : Ending) : Type 0 where
  word : IsWord (ending_name ending)
  fits : is_of field.Ending (ending_name ending) ≡ true
  says : answers (ending_name ending) ≡ is_answer ending

ending_word : (ending : Ending) → IsEndingWord ending
unfolding is_of
ending_word Reply = record { word = refl; fits = refl; says = refl }
ending_word ReplyFault = record { word = refl; fits = refl; says = refl }
ending_word Client = record { word = refl; fits = refl; says = refl }
ending_word Restart = record { word = refl; fits = refl; says = refl }

pub close_read : (t k : ℕ) (ending : Ending) → t < 2 ^ 32 → k < 2 ^ 32 → IsReadAs t (note.Close k ending)
close_read t k ending h a = let w = ending_word ending in of_words t (codes "close" ∷ decimal k ∷ ending_name ending ∷ []) _ _ h (refl, (short k a, (w.word, tt))) (close_spelled t k ending) (close_back t k (ending_name ending) (is_answer ending) h a w.word w.fits w.says)

borrow_word : (way : Borrow) → IsWord (borrow_name way) × (is_of field.Borrow (borrow_name way) ≡ true)
unfolding is_of
borrow_word borrow.Read = (refl, refl)
borrow_word borrow.Write = (refl, refl)
borrow_word borrow.Info = (refl, refl)

pub borrow_read : (t k : ℕ) (way : Borrow) (lease offset moved : ℕ) → t < 2 ^ 32 → IsFitNote (note.Borrow k way lease offset moved) → IsRight (note.Borrow k way lease offset moved) → IsReadAs t (note.Borrow k way lease offset moved)
borrow_read t k borrow.Read lease offset moved h fit right = let w = borrow_word borrow.Read in of_words t (codes "borrow" ∷ decimal k ∷ codes "read" ∷ decimal lease ∷ decimal offset ∷ decimal moved ∷ []) _ _ h (refl, (short k fit.0, (refl, (short lease fit.1, (short offset fit.2, (short moved fit.3, tt)))))) (borrow_spelled t k borrow.Read lease offset moved) (lend_back t k lease offset moved (codes "read") h fit.0 fit.1 fit.2 fit.3 w.0 w.1 refl)
borrow_read t k borrow.Write lease offset moved h fit right = let w = borrow_word borrow.Write in of_words t (codes "borrow" ∷ decimal k ∷ codes "write" ∷ decimal lease ∷ decimal offset ∷ decimal moved ∷ []) _ _ h (refl, (short k fit.0, (refl, (short lease fit.1, (short offset fit.2, (short moved fit.3, tt)))))) (borrow_spelled t k borrow.Write lease offset moved) (lend_back t k lease offset moved (codes "write") h fit.0 fit.1 fit.2 fit.3 w.0 w.1 refl)
borrow_read t k borrow.Info lease offset moved h fit right =
    subst (λ o. IsReadAs t (note.Borrow k borrow.Info lease o moved)) (sym right.0) (subst (λ m. IsReadAs t (note.Borrow k borrow.Info lease 0 m)) (sym right.1)
    (of_words t (codes "borrow" ∷ decimal k ∷ codes "info" ∷ decimal lease ∷ decimal 0 ∷ decimal 0 ∷ []) _ _ h (refl, (short k fit.0, (refl, (short lease fit.1, (short 0 (omega arith), (short 0 (omega arith), tt)))))) (borrow_spelled t k borrow.Info lease 0 0) (info_back t k lease h fit.0 fit.1)))

listened_word : (from : FromIndex) → IsFitFrom from → IsWord (listened_name from) × (is_of field.Listened (listened_name from) ≡ true)
unfolding is_of
listened_word Any fit = (refl, refl)
listened_word Kernel fit = (refl, refl)
listened_word (One index) fit = (short index fit, of_listened index fit)

pub listen_read : (t task : ℕ) (from : FromIndex) (mask : ℕ) → t < 2 ^ 32 → IsFitNote (note.Listen task from mask) → IsReadAs t (note.Listen task from mask)
listen_read t task from mask h fit = let w = listened_word from fit.1 in of_words t (codes "listen" ∷ decimal task ∷ listened_name from ∷ hex mask ∷ []) _ _ h (refl, (short task fit.0, (w.0, (hex_word 8 (hex mask) (hex_fits mask), tt)))) (listen_spelled t task from mask) (listen_back t task (listened_name from) (hex mask) h fit.0 w.0 w.1 (hex_fits mask))

pub post_read : (t task bits posted : ℕ) → t < 2 ^ 32 → task < 2 ^ 32 → IsReadAs t (note.Post task bits posted)
post_read t task bits posted h a =
    let ws = map hex (bits ∷ posted ∷ []) in
    let x = hexes (bits ∷ posted ∷ []) in
    of_words t (codes "post" ∷ decimal task ∷ (ws ++ [])) _ _ h (refl, (short task a, hex_words 2 ws [] x tt)) (post_spelled t task bits posted) (post_back t task ws h a x)

pub fault_read : (t task : ℕ) (fault : Fault) → t < 2 ^ 32 → IsFitNote (note.Fault task fault) → IsReadAs t (note.Fault task fault)
fault_read t task fault h fit =
    let ws = map hex (fault.x ∷ fault.y ∷ []) in
    let x = hexes (fault.x ∷ fault.y ∷ []) in
    of_words t (codes "fault" ∷ decimal task ∷ decimal fault.number ∷ (ws ++ [])) _ _ h (refl, (short task fit.0, (short fault.number fit.1, hex_words 2 ws [] x tt))) (fault_spelled t task fault) (fault_back t task fault.number ws h fit.0 fit.1 x)

pub so_many : (n : ℕ) (xs : List ℕ) → length xs ≡ n → AreHex n (map hex xs)
so_many n xs e = subst (λ m. AreHex m (map hex xs)) e (hexes xs)

pub call_read : (t task number : ℕ) (arguments : List ℕ) → t < 2 ^ 32 → IsFitNote (note.Syscall task number arguments) → IsReadAs t (note.Syscall task number arguments)
call_read t task number arguments h fit =
    let ws = map hex arguments in
    let x = so_many 7 arguments fit.2 in
    of_words t (codes "call" ∷ decimal task ∷ decimal number ∷ (ws ++ [])) _ _ h (refl, (short task fit.0, (short number fit.1, hex_words 7 ws [] x tt))) (call_spelled t task number arguments) (call_back t task number ws h fit.0 fit.1 x)

pub ret_read : (t task : ℕ) (results : List ℕ) → t < 2 ^ 32 → IsFitNote (note.Ret task results) → IsReadAs t (note.Ret task results)
ret_read t task results h fit =
    let ws = map hex results in
    let x = so_many 6 results fit.1 in
    of_words t (codes "ret" ∷ decimal task ∷ (ws ++ [])) _ _ h (refl, (short task fit.0, hex_words 6 ws [] x tt)) (ret_spelled t task results) (ret_back t task ws h fit.0 x)

pub low_read : (t : ℕ) (registers : List ℕ) → t < 2 ^ 32 → length registers ≡ 8 → IsReadAs t (note.Low registers)
low_read t registers h eight =
    let ws = map hex registers in
    let x = so_many 8 registers eight in
    of_words t (codes "low" ∷ (ws ++ [])) _ _ h (refl, hex_words 8 ws [] x tt) (low_spelled t registers) (low_back t ws h x)

pub flags_word : (n z c v : Bool) → IsWord (flags n z c v) × (is_of field.Flags (flags n z c v) ≡ true)
unfolding is_of are_bits
flags_word n z c v = (of_bits is_in_word refl refl, of_bits is_bit refl refl)
  where
    of_bits : (p : ℕ → Bool) → p 48 ≡ true → p 49 ≡ true → list_all p (flags n z c v) ≡ true
    of_bits p zero_is one_is = rw (at n, at z, at c, at v) refl
      where
        at : (b : Bool) → p (bit b) ≡ true
        at true = one_is
        at false = zero_is

pub high_read : (t : ℕ) (registers : List ℕ) (n z c v : Bool) → t < 2 ^ 32 → length registers ≡ 8 → IsReadAs t (note.High registers n z c v)
high_read t registers n z c v h eight =
    let ws = map hex registers in
    let x = so_many 8 registers eight in
    let w = flags_word n z c v in
    of_words t (codes "high" ∷ (ws ++ flags n z c v ∷ [])) _ _ h (refl, hex_words 8 ws (flags n z c v ∷ []) x (w.0, tt)) (high_spelled t registers n z c v) (high_back t ws (flags n z c v) h x w.0 w.1)

-- ## an instruction

pub code_fits : (code : ℕ) → (is_hex 4 (code_hex code) ≡ true) ⊎ (is_hex 8 (code_hex code) ≡ true)
code_fits code = by (ltb code (2 ^ 16))
  where
    by : (b : Bool) → (is_hex 4 (cond b (half_hex code) (hex code)) ≡ true) ⊎ (is_hex 8 (cond b (half_hex code) (hex code)) ≡ true)
    by true = inl (half_fits code)
    by false = inr (hex_fits code)

code_word : (code : ℕ) → IsWord (code_hex code)
code_word code = elim (code_fits code) [ inl h ↦ hex_word 4 (code_hex code) h | inr h ↦ hex_word 8 (code_hex code) h ]

printed : (d i k a b c f x e : List ℕ) → d ++ i ++ k ++ a ++ b ++ c ++ f ++ x ++ e ≡ d ++ (i ++ (k ++ (a ++ (b ++ (c ++ (f ++ (x ++ e)))))))
printed d i k a b c f x e = simp append_assoc

worded : (d w k a c y e : List ℕ) → (d ++ ((w ++ (k ++ (a ++ (c ++ [])))) ++ y)) ++ e ≡ d ++ (w ++ (k ++ (a ++ (c ++ (y ++ e)))))
worded d w k a c y e = simp (append_assoc, append-nil)

insn_spelled : (t task at code : ℕ) → insn_line t task at code ≡ (decimal t ++ (spaced (codes "insn" ∷ decimal task ∷ hex at ∷ code_hex code ∷ []) ++ 32 ∷ decoded_text at (code_decoded code))) ++ 10 ∷ []
unfolding insn_line
insn_spelled t task at code =
    let text = decoded_text at (code_decoded code) in
    printed (decimal t) (codes " insn ") (decimal task) (32 ∷ hex at) (codes " ") (code_hex code) (codes " ") text (codes "\n")
    ∙ sym (worded (decimal t) (32 ∷ codes "insn") (32 ∷ decimal task) (32 ∷ hex at) (32 ∷ code_hex code) (32 ∷ text) (10 ∷ []))

pub insn_read : (t task at code : ℕ) → t < 2 ^ 32 → IsFitNote (note.Insn task at code) → IsInsn (code_decoded code) → IsReadAs t (note.Insn task at code)
insn_read t task at code h fit is =
    let text = decoded_text at (code_decoded code) in
    let has = decoded_is_text at (code_decoded code) is in
    let ws = codes "insn" ∷ decimal task ∷ hex at ∷ code_hex code ∷ [] in
    let are : AreWords ws = (refl, (short task fit.0, (hex_word 8 (hex at) (hex_fits at), (code_word code, tt)))) in
    record {
      text = decimal t ++ (spaced ws ++ 32 ∷ text);
      spelled = insn_spelled t task at code;
      printable = subst (λ xs. list_all is_printable xs ≡ true) (append_assoc (decimal t) (spaced ws) (32 ∷ text)) (all_joined is_printable (decimal t ++ spaced ws) (32 ∷ text) (words_printable (decimal t) ws (short t h) are) has.1);
      reads = insn_back t task (hex at) (code_hex code) text h fit.0 (hex_fits at) (of_code (code_hex code) (code_fits code)) (code_word code) has.0;
    }

pub note_read : (t : ℕ) (n : Note) → t < 2 ^ 32 → IsFitNote n → IsRight n → IsReadAs t n
note_read t (note.Tick now) h fit right = tick_read t now h fit
note_read t (note.Irq l handled) h fit right = irq_read t l handled h fit
note_read t (note.Post task bits posted) h fit right = post_read t task bits posted h fit
note_read t (note.Syscall task number arguments) h fit right = call_read t task number arguments h fit
note_read t (note.Ret task results) h fit right = ret_read t task results h fit
note_read t (note.Close call ending) h fit right = close_read t call ending h fit
note_read t (note.Fault task fault) h fit right = fault_read t task fault h fit
note_read t (note.Listen task from mask) h fit right = listen_read t task from mask h fit
note_read t (note.Take call copied) h fit right = take_read t call copied h fit
note_read t (note.Offer call client server) h fit right = offer_read t call client server h fit
note_read t (note.Borrow call way lease offset moved) h fit right = borrow_read t call way lease offset moved h fit right
note_read t (note.Restart task generation) h fit right = restart_read t task generation h fit
note_read t (note.In device byte fed) h fit right = in_read t device byte fed h fit
note_read t (note.Out device byte) h fit right = out_read t device byte h right
note_read t (note.IrqStatus task bits status) h fit right = irq_status_read t task bits status h fit
note_read t (note.Find index found) h fit right = find_read t index found h fit
note_read t (note.Insn task at code) h fit right = insn_read t task at code h fit right
note_read t note.Idle h fit right = idle_read t h
note_read t (note.Low registers) h fit right = low_read t registers h fit
note_read t (note.High registers n z c v) h fit right = high_read t registers n z c v h fit
