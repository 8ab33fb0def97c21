-- No line has more than 159 bytes before its LF.
use Rattle.std.proofs.Common.{◌≡◌, ℕ, ◌+◌, ◌*◌, ◌^◌, ◌<◌, ◌≤◌, inl, inr, Bool, List, [], ◌∷◌, ◌++◌, length, Option, None, Some, sym, subst, arith}
use Rattle.std.specs.Prelude.{decimal, codes}
use Rattle.std.specs.List.{flat_map}
use Rattle.std.proofs.lemmas.List.{length-append}
use Rattle.std.proofs.lemmas.Fmt.{length-decimal-le}
use Rattle.kernel_abi.specs.declared.Borrow.{Borrow}
use Rattle.kernel_abi.specs.declared.Borrow.TheVariants as borrow
use Rattle.kernel_abi.specs.declared.Ending.{Ending}
use Rattle.kernel_abi.specs.declared.Ending.TheVariants.{Reply, ReplyFault, Client, Restart}
use Rattle.kernel_abi.specs.declared.Fault.{Fault}
use Rattle.kernel_abi.specs.declared.Fed.{Fed}
use Rattle.kernel_abi.specs.declared.Fed.TheVariants.{Queued, Full, NotPort}
use Rattle.kernel_abi.specs.declared.Handled.{Handled}
use Rattle.kernel_abi.specs.declared.Handled.TheVariants.{Posted, Held, Unowned}
use Rattle.kernel_abi.specs.declared.Health.{Health}
use Rattle.kernel_abi.specs.declared.Health.TheVariants.{Well, Stopped, Faulted}
use Rattle.kernel_abi.specs.declared.FromIndex.{FromIndex}
use Rattle.kernel_abi.specs.declared.FromIndex.TheVariants.{Any, Kernel, One}
use Rattle.kernel_abi.specs.declared.Note.{Note}
use Rattle.kernel_abi.specs.declared.Note.TheVariants as note
use Rattle.kernel_abi.specs.declared.Timer.{Timer}
use Rattle.trace_text.specs.Text.{hex, byte_hex, spaced_hex, bit, handled_name, fed_name, ending_name, listened_name, borrow_name, code_hex, code_decoded, decoded_text, line_of, tick_line, irq_line, post_line, syscall_line, ret_line, close_line, fault_line, listen_line, take_line, offer_line, borrow_line, restart_line, in_line, out_line, irq_status_line, find_line, insn_line, idle_line, low_line, high_line, low_words, high_words}
use Rattle.trace_audit.specs.declared.reading.FinalWait.{FinalWait}
use Rattle.trace_audit.specs.declared.reading.FinalWait.TheVariants as wait
use Rattle.audit_laws.proofs.Last.{hex_length}
use Rattle.trace_text.specs.Fit.{IsFitFrom, IsFitNote, IsFitTimer}
use Rattle.audit_laws.specs.Ends.{IsHow, end_line, IsFitHealth, IsWaitText}
use Rattle.trace_text.specs.Lines.{health_text, timer_text, task_line}
use Rattle.audit_laws.proofs.Hexes.{hex_fits, byte_fits}
use Rattle.audit_laws.proofs.Spelled.{code_fits}

pub plus : (a b : List ℕ) (m n : ℕ) → length a ≤ m → length b ≤ n → length (a ++ b) ≤ m + n
plus a b m n h k = let e = length-append a b in omega arith

pub lit : (w : List ℕ) → length w ≤ length w
lit w = omega arith

pub ten : (n : ℕ) → n < 2 ^ 32 → length (decimal n) ≤ 10
ten n h = length-decimal-le 10 n (omega arith) (omega arith) (omega arith)

twenty : (n : ℕ) → n < 2 ^ 64 → length (decimal n) ≤ 20
twenty n h = length-decimal-le 20 n (omega arith) (omega arith) h

pub eight : (n : ℕ) → length (hex n) ≤ 8
eight n = let e = hex_length 8 (hex n) (hex_fits n) in omega arith

nine : (n : ℕ) → length (spaced_hex n) ≤ 9
nine n = let e = eight n in omega arith

nines : (xs : List ℕ) → length (flat_map spaced_hex xs) ≤ 9 * length xs
nines [] = omega arith
nines (x ∷ xs) = let a = nine x in let b = nines xs in let e = length-append (spaced_hex x) (flat_map spaced_hex xs) in omega arith

many : (n : ℕ) (xs : List ℕ) → length xs ≡ n → length (flat_map spaced_hex xs) ≤ 9 * n
many n xs e = subst (λ m. length (flat_map spaced_hex xs) ≤ 9 * m) e (nines xs)

code_length : (code : ℕ) → length (code_hex code) ≤ 8
code_length code = elim (code_fits code) [ inl h ↦ (let e = hex_length 4 (code_hex code) h in omega arith) | inr h ↦ (let e = hex_length 8 (code_hex code) h in omega arith) ]

two : (n : ℕ) → length (byte_hex n) ≤ 2
two n = let e = hex_length 2 (byte_hex n) (byte_fits n) in omega arith

fed_length : (fed : Option Fed) → length (fed_name fed) ≤ 10
fed_length None = omega arith
fed_length (Some Queued) = omega arith
fed_length (Some Full) = omega arith
fed_length (Some NotPort) = omega arith

handled_length : (h : Handled) → length (handled_name h) ≤ 10
handled_length Posted = omega arith
handled_length Held = omega arith
handled_length Unowned = omega arith

ending_length : (e : Ending) → length (ending_name e) ≤ 10
ending_length Reply = omega arith
ending_length ReplyFault = omega arith
ending_length Client = omega arith
ending_length Restart = omega arith

borrow_length : (b : Borrow) → length (borrow_name b) ≤ 10
borrow_length borrow.Read = omega arith
borrow_length borrow.Write = omega arith
borrow_length borrow.Info = omega arith

listened_length : (l : FromIndex) → IsFitFrom l → length (listened_name l) ≤ 10
listened_length Any fit = omega arith
listened_length Kernel fit = omega arith
listened_length (One index) fit = ten index fit

-- an end, up to a bound of its own
pub under : (w : List ℕ) (m : ℕ) → length w ≤ m → m ≤ 160 → length w ≤ 160
under w m h k = omega arith

tick_short : (t now : ℕ) → t < 2 ^ 32 → now < 2 ^ 64 → length (tick_line t now) ≤ 160
unfolding tick_line
tick_short t now a b = under _ 37 (plus _ _ 36 1 (plus _ _ 16 20 (plus _ _ 10 6 (ten t a) (lit (codes " tick "))) (twenty now b)) (lit (codes "\n"))) (omega arith)

irq_short : (t l : ℕ) (h : Handled) → t < 2 ^ 32 → l < 2 ^ 32 → length (irq_line t l h) ≤ 160
unfolding irq_line
irq_short t l h a b = under _ 37 (plus _ _ 36 1 (plus _ _ 26 10 (plus _ _ 25 1 (plus _ _ 15 10 (plus _ _ 10 5 (ten t a) (lit (codes " irq "))) (ten l b)) (lit (codes " "))) (handled_length h)) (lit (codes "\n"))) (omega arith)

post_short : (t task bits posted : ℕ) → t < 2 ^ 32 → task < 2 ^ 32 → length (post_line t task bits posted) ≤ 160
unfolding post_line
post_short t task bits posted a b = under _ 45 (plus _ _ 44 1 (plus _ _ 35 9 (plus _ _ 26 9 (plus _ _ 16 10 (plus _ _ 10 6 (ten t a) (lit (codes " post "))) (ten task b)) (nine bits)) (nine posted)) (lit (codes "\n"))) (omega arith)

call_short : (t task number : ℕ) (xs : List ℕ) → t < 2 ^ 32 → task < 2 ^ 32 → number < 2 ^ 32 → length xs ≡ 7 → length (syscall_line t task number xs) ≤ 160
unfolding syscall_line
call_short t task number xs a b c e = under _ 101 (plus _ _ 100 1 (plus _ _ 37 63 (plus _ _ 27 10 (plus _ _ 26 1 (plus _ _ 16 10 (plus _ _ 10 6 (ten t a) (lit (codes " call "))) (ten task b)) (lit (codes " "))) (ten number c)) (many 7 xs e)) (lit (codes "\n"))) (omega arith)

ret_short : (t task : ℕ) (xs : List ℕ) → t < 2 ^ 32 → task < 2 ^ 32 → length xs ≡ 6 → length (ret_line t task xs) ≤ 160
unfolding ret_line
ret_short t task xs a b e = under _ 80 (plus _ _ 79 1 (plus _ _ 25 54 (plus _ _ 15 10 (plus _ _ 10 5 (ten t a) (lit (codes " ret "))) (ten task b)) (many 6 xs e)) (lit (codes "\n"))) (omega arith)

close_short : (t k : ℕ) (e : Ending) → t < 2 ^ 32 → k < 2 ^ 32 → length (close_line t k e) ≤ 160
unfolding close_line
close_short t k e a b = under _ 39 (plus _ _ 38 1 (plus _ _ 28 10 (plus _ _ 27 1 (plus _ _ 17 10 (plus _ _ 10 7 (ten t a) (lit (codes " close "))) (ten k b)) (lit (codes " "))) (ending_length e)) (lit (codes "\n"))) (omega arith)

fault_short : (t task : ℕ) (f : Fault) → t < 2 ^ 32 → task < 2 ^ 32 → f.number < 2 ^ 32 → length (fault_line t task f) ≤ 160
unfolding fault_line
fault_short t task f a b c = under _ 57 (plus _ _ 56 1 (plus _ _ 47 9 (plus _ _ 38 9 (plus _ _ 28 10 (plus _ _ 27 1 (plus _ _ 17 10 (plus _ _ 10 7 (ten t a) (lit (codes " fault "))) (ten task b)) (lit (codes " "))) (ten f.number c)) (nine f.x)) (nine f.y)) (lit (codes "\n"))) (omega arith)

listen_short : (t task : ℕ) (from : FromIndex) (mask : ℕ) → t < 2 ^ 32 → task < 2 ^ 32 → IsFitFrom from → length (listen_line t task from mask) ≤ 160
unfolding listen_line
listen_short t task from mask a b c = under _ 49 (plus _ _ 48 1 (plus _ _ 39 9 (plus _ _ 29 10 (plus _ _ 28 1 (plus _ _ 18 10 (plus _ _ 10 8 (ten t a) (lit (codes " listen "))) (ten task b)) (lit (codes " "))) (listened_length from c)) (nine mask)) (lit (codes "\n"))) (omega arith)

take_short : (t k n : ℕ) → t < 2 ^ 32 → k < 2 ^ 32 → n < 2 ^ 32 → length (take_line t k n) ≤ 160
unfolding take_line
take_short t k n a b c = under _ 38 (plus _ _ 37 1 (plus _ _ 27 10 (plus _ _ 26 1 (plus _ _ 16 10 (plus _ _ 10 6 (ten t a) (lit (codes " take "))) (ten k b)) (lit (codes " "))) (ten n c)) (lit (codes "\n"))) (omega arith)

offer_short : (t k i j : ℕ) → t < 2 ^ 32 → k < 2 ^ 32 → i < 2 ^ 32 → j < 2 ^ 32 → length (offer_line t k i j) ≤ 160
unfolding offer_line
offer_short t k i j a b c d = under _ 50 (plus _ _ 49 1 (plus _ _ 39 10 (plus _ _ 38 1 (plus _ _ 28 10 (plus _ _ 27 1 (plus _ _ 17 10 (plus _ _ 10 7 (ten t a) (lit (codes " offer "))) (ten k b)) (lit (codes " "))) (ten i c)) (lit (codes " "))) (ten j d)) (lit (codes "\n"))) (omega arith)

borrow_short : (t k : ℕ) (way : Borrow) (lease offset moved : ℕ) → t < 2 ^ 32 → k < 2 ^ 32 → lease < 2 ^ 32 → offset < 2 ^ 32 → moved < 2 ^ 32 → length (borrow_line t k way lease offset moved) ≤ 160
unfolding borrow_line
borrow_short t k way lease offset moved a b c d e = under _ 73 (plus _ _ 72 1 (plus _ _ 62 10 (plus _ _ 61 1 (plus _ _ 51 10 (plus _ _ 50 1 (plus _ _ 40 10 (plus _ _ 39 1 (plus _ _ 29 10 (plus _ _ 28 1 (plus _ _ 18 10 (plus _ _ 10 8 (ten t a) (lit (codes " borrow "))) (ten k b)) (lit (codes " "))) (borrow_length way)) (lit (codes " "))) (ten lease c)) (lit (codes " "))) (ten offset d)) (lit (codes " "))) (ten moved e)) (lit (codes "\n"))) (omega arith)

restart_short : (t task n : ℕ) → t < 2 ^ 32 → task < 2 ^ 32 → n < 2 ^ 32 → length (restart_line t task n) ≤ 160
unfolding restart_line
restart_short t task n a b c = under _ 41 (plus _ _ 40 1 (plus _ _ 30 10 (plus _ _ 29 1 (plus _ _ 19 10 (plus _ _ 10 9 (ten t a) (lit (codes " restart "))) (ten task b)) (lit (codes " "))) (ten n c)) (lit (codes "\n"))) (omega arith)

in_short : (t device byte : ℕ) (fed : Option Fed) → t < 2 ^ 32 → device < 2 ^ 32 → length (in_line t device byte fed) ≤ 160
unfolding in_line
in_short t device byte fed a b = under _ 39 (plus _ _ 38 1 (plus _ _ 28 10 (plus _ _ 27 1 (plus _ _ 25 2 (plus _ _ 24 1 (plus _ _ 14 10 (plus _ _ 10 4 (ten t a) (lit (codes " in "))) (ten device b)) (lit (codes " "))) (two byte)) (lit (codes " "))) (fed_length fed)) (lit (codes "\n"))) (omega arith)

out_short : (t device byte : ℕ) → t < 2 ^ 32 → device < 2 ^ 64 → length (out_line t device byte) ≤ 160
unfolding out_line
out_short t device byte a b = under _ 39 (plus _ _ 38 1 (plus _ _ 36 2 (plus _ _ 35 1 (plus _ _ 15 20 (plus _ _ 10 5 (ten t a) (lit (codes " out "))) (twenty device b)) (lit (codes " "))) (two byte)) (lit (codes "\n"))) (omega arith)

irq_status_short : (t task bits status : ℕ) → t < 2 ^ 32 → task < 2 ^ 32 → status < 2 ^ 32 → length (irq_status_line t task bits status) ≤ 160
unfolding irq_status_line
irq_status_short t task bits status a b c = under _ 50 (plus _ _ 49 1 (plus _ _ 39 10 (plus _ _ 38 1 (plus _ _ 29 9 (plus _ _ 19 10 (plus _ _ 10 9 (ten t a) (lit (codes " irqstat "))) (ten task b)) (nine bits)) (lit (codes " "))) (ten status c)) (lit (codes "\n"))) (omega arith)

find_short : (t index found : ℕ) → t < 2 ^ 32 → index < 2 ^ 32 → found < 2 ^ 32 → length (find_line t index found) ≤ 160
unfolding find_line
find_short t index found a b c = under _ 38 (plus _ _ 37 1 (plus _ _ 27 10 (plus _ _ 26 1 (plus _ _ 16 10 (plus _ _ 10 6 (ten t a) (lit (codes " find "))) (ten index b)) (lit (codes " "))) (ten found c)) (lit (codes "\n"))) (omega arith)

insn_short : (t task at code : ℕ) → t < 2 ^ 32 → task < 2 ^ 32 → length (decoded_text at (code_decoded code)) ≤ 64 → length (insn_line t task at code) ≤ 160
unfolding insn_line
insn_short t task at code a b c = under _ 110 (plus _ _ 109 1 (plus _ _ 45 64 (plus _ _ 44 1 (plus _ _ 36 8 (plus _ _ 35 1 (plus _ _ 26 9 (plus _ _ 16 10 (plus _ _ 10 6 (ten t a) (lit (codes " insn "))) (ten task b)) (nine at)) (lit (codes " "))) (code_length code)) (lit (codes " "))) c) (lit (codes "\n"))) (omega arith)

idle_short : (t : ℕ) → t < 2 ^ 32 → length (idle_line t) ≤ 160
unfolding idle_line
idle_short t a = under _ 16 (plus _ _ 10 6 (ten t a) (lit (codes " idle\n"))) (omega arith)

pub low_words_short : (xs : List ℕ) → length xs ≡ 8 → length (low_words xs) ≤ 76
low_words_short xs e = plus (codes "low" ++ flat_map spaced_hex xs) (codes "\n") 75 1 (plus (codes "low") (flat_map spaced_hex xs) 3 72 (lit (codes "low")) (many 8 xs e)) (lit (codes "\n"))

pub high_words_short : (xs : List ℕ) (n z c v : Bool) → length xs ≡ 8 → length (high_words xs n z c v) ≤ 82
high_words_short xs n z c v e = plus (codes "high" ++ flat_map spaced_hex xs ++ codes " ") ((bit n ∷ bit z ∷ bit c ∷ bit v ∷ 10 ∷ [])) 77 5 (plus (codes "high" ++ flat_map spaced_hex xs) (codes " ") 76 1 (plus (codes "high") (flat_map spaced_hex xs) 4 72 (lit (codes "high")) (many 8 xs e)) (lit (codes " "))) (lit (bit n ∷ bit z ∷ bit c ∷ bit v ∷ 10 ∷ []))

low_short : (t : ℕ) (xs : List ℕ) → t < 2 ^ 32 → length xs ≡ 8 → length (low_line t xs) ≤ 160
unfolding low_line
low_short t xs a e = under _ 87 (plus _ _ 11 76 (plus _ _ 10 1 (ten t a) (lit (codes " "))) (low_words_short xs e)) (omega arith)

high_short : (t : ℕ) (xs : List ℕ) (n z c v : Bool) → t < 2 ^ 32 → length xs ≡ 8 → length (high_line t xs n z c v) ≤ 160
unfolding high_line
high_short t xs n z c v a e = under _ 93 (plus _ _ 11 82 (plus _ _ 10 1 (ten t a) (lit (codes " "))) (high_words_short xs n z c v e)) (omega arith)

pub note_short : (t : ℕ) (n : Note) → t < 2 ^ 32 → IsFitNote n → length (line_of t n) ≤ 160
note_short t (note.Tick now) h fit = tick_short t now h fit
note_short t (note.Irq l handled) h fit = irq_short t l handled h fit
note_short t (note.Post task bits posted) h fit = post_short t task bits posted h fit
note_short t (note.Syscall task number arguments) h fit = call_short t task number arguments h fit.0 fit.1 fit.2
note_short t (note.Ret task results) h fit = ret_short t task results h fit.0 fit.1
note_short t (note.Close call ending) h fit = close_short t call ending h fit
note_short t (note.Fault task fault) h fit = fault_short t task fault h fit.0 fit.1
note_short t (note.Listen task from mask) h fit = listen_short t task from mask h fit.0 fit.1
note_short t (note.Take call copied) h fit = take_short t call copied h fit.0 fit.1
note_short t (note.Offer call client server) h fit = offer_short t call client server h fit.0 fit.1 fit.2
note_short t (note.Borrow call way lease offset moved) h fit = borrow_short t call way lease offset moved h fit.0 fit.1 fit.2 fit.3
note_short t (note.Restart task generation) h fit = restart_short t task generation h fit.0 fit.1
note_short t (note.In device byte fed) h fit = in_short t device byte fed h fit
note_short t (note.Out device byte) h fit = out_short t device byte h fit
note_short t (note.IrqStatus task bits status) h fit = irq_status_short t task bits status h fit.0 fit.1
note_short t (note.Find index found) h fit = find_short t index found h fit.0 fit.1
note_short t (note.Insn task at code) h fit = insn_short t task at code h fit.0 fit.1
note_short t note.Idle h fit = idle_short t h
note_short t (note.Low registers) h fit = low_short t registers h fit
note_short t (note.High registers n z c v) h fit = high_short t registers n z c v h fit

-- ## after the notes

how_length : (how : List ℕ) → IsHow how → length how ≤ 10
how_length how (inl e) = subst (λ w. length w ≤ 10) (sym e) (omega arith)
how_length how (inr (inl e)) = subst (λ w. length w ≤ 10) (sym e) (omega arith)
how_length how (inr (inr e)) = subst (λ w. length w ≤ 10) (sym e) (omega arith)

pub end_short : (how : List ℕ) (turns now : ℕ) → IsHow how → turns < 2 ^ 32 → now < 2 ^ 64 → length (end_line how turns now) ≤ 160
end_short how turns now is a b = under (end_line how turns now) 47 (plus (codes "end " ++ how ++ codes " " ++ decimal turns ++ codes " " ++ decimal now) (codes "\n") 46 1 (plus (codes "end " ++ how ++ codes " " ++ decimal turns ++ codes " ") (decimal now) 26 20 (plus (codes "end " ++ how ++ codes " " ++ decimal turns) (codes " ") 25 1 (plus (codes "end " ++ how ++ codes " ") (decimal turns) 15 10 (plus (codes "end " ++ how) (codes " ") 14 1 (plus (codes "end ") (how) 4 10 (lit (codes "end ")) (how_length how is)) (lit (codes " "))) (ten turns a)) (lit (codes " "))) (twenty now b)) (lit (codes "\n"))) (omega arith)

health_length : (h : Health) → IsFitHealth h → length (health_text h) ≤ 18
health_length Well fit = omega arith
health_length Stopped fit = omega arith
health_length (Faulted fault) fit = plus (codes "faulted:") (decimal fault.number) 8 10 (lit (codes "faulted:")) (ten fault.number fit)

timer_length : (t : Option Timer) → IsFitTimer t → length (timer_text t) ≤ 29
timer_length None fit = omega arith
timer_length (Some t) fit = plus (decimal t.deadline ++ codes ":") (hex t.bits) 21 8 (plus (decimal t.deadline) (codes ":") 20 1 (twenty t.deadline fit) (lit (codes ":"))) (eight t.bits)

wait_length : (text : List ℕ) (w : FinalWait) → IsWaitText text w → length text ≤ 18
wait_length text wait.Other (inl e) = subst (λ x. length x ≤ 18) (sym e) (omega arith)
wait_length text wait.Other (inr e) = subst (λ x. length x ≤ 18) (sym e) (omega arith)
wait_length text (wait.Offered k) h = subst (λ x. length x ≤ 18) (sym h.0) (plus (codes "offered:") (decimal k) 8 10 (lit (codes "offered:")) (ten k h.1))
wait_length text (wait.Taken k) h = let q : length (codes "taken:" ++ decimal k) ≤ 16 = plus (codes "taken:") (decimal k) 6 10 (lit (codes "taken:")) (ten k h.1) in subst (λ x. length x ≤ 18) (sym h.0) (omega arith)

pub task_short : (i generation : ℕ) (health : Health) (text : List ℕ) (w : FinalWait) (posted : ℕ) (timer : Option Timer) → i < 2 ^ 32 → generation < 2 ^ 32 → IsFitHealth health → IsWaitText text w → IsFitTimer timer → length (task_line i generation health text posted timer) ≤ 160
unfolding task_line
task_short i generation health text w posted timer a b fit waits fits = under (task_line i generation health text posted timer) 104 (plus (codes "task " ++ decimal i ++ codes " " ++ decimal generation ++ codes " " ++ health_text health ++ codes " " ++ text ++ spaced_hex posted ++ codes " " ++ timer_text timer) (codes "\n") 103 1 (plus (codes "task " ++ decimal i ++ codes " " ++ decimal generation ++ codes " " ++ health_text health ++ codes " " ++ text ++ spaced_hex posted ++ codes " ") (timer_text timer) 74 29 (plus (codes "task " ++ decimal i ++ codes " " ++ decimal generation ++ codes " " ++ health_text health ++ codes " " ++ text ++ spaced_hex posted) (codes " ") 73 1 (plus (codes "task " ++ decimal i ++ codes " " ++ decimal generation ++ codes " " ++ health_text health ++ codes " " ++ text) (spaced_hex posted) 64 9 (plus (codes "task " ++ decimal i ++ codes " " ++ decimal generation ++ codes " " ++ health_text health ++ codes " ") (text) 46 18 (plus (codes "task " ++ decimal i ++ codes " " ++ decimal generation ++ codes " " ++ health_text health) (codes " ") 45 1 (plus (codes "task " ++ decimal i ++ codes " " ++ decimal generation ++ codes " ") (health_text health) 27 18 (plus (codes "task " ++ decimal i ++ codes " " ++ decimal generation) (codes " ") 26 1 (plus (codes "task " ++ decimal i ++ codes " ") (decimal generation) 16 10 (plus (codes "task " ++ decimal i) (codes " ") 15 1 (plus (codes "task ") (decimal i) 5 10 (lit (codes "task ")) (ten i a)) (lit (codes " "))) (ten generation b)) (lit (codes " "))) (health_length health fit)) (lit (codes " "))) (wait_length text w waits)) (nine posted)) (lit (codes " "))) (timer_length timer fits)) (lit (codes "\n"))) (omega arith)
