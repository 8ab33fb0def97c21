-- The lines after the notes are words, each behind a space, and an LF.
use Rattle.std.proofs.Common.{◌≡◌, ℕ, ◌^◌, ◌<◌, inl, inr, Bool, true, List, [], ◌∷◌, ◌++◌, length, map, Option, None, Some, refl, sym, subst, ap, ◌∙◌, append_assoc, append-nil}
use Rattle.std.specs.Prelude.{decimal, codes}
use Rattle.kernel_abi.specs.declared.Health.{Health}
use Rattle.kernel_abi.specs.declared.Health.TheVariants.{Well, Stopped, Faulted}
use Rattle.kernel_abi.specs.declared.Timer.{Timer}
use Rattle.trace_text.specs.Text.{hex, low_words, high_words}
use Rattle.trace_audit.specs.declared.forms.Field.TheVariants as field
use Rattle.trace_audit.specs.declared.reading.TraceLine.{TraceLine}
use Rattle.trace_audit.specs.declared.reading.TraceLine.TheVariants as line
use Rattle.trace_audit.specs.declared.reading.FinalWait.{FinalWait}
use Rattle.trace_audit.specs.declared.reading.FinalWait.TheVariants as wait
use Rattle.trace_audit.specs.Fields.{is_of, is_hex, behind}
use Rattle.trace_audit.specs.Meaning.{read, wait_of}
use Rattle.audit_laws.proofs.Spelling.{is_in_word, IsWord, AreWords, spaced, all_joined, words_printable}
use Rattle.audit_laws.proofs.Reading.{decimal_word, short, hex_word, hex_words}
use Rattle.audit_laws.proofs.Last.{end_back, last_low_back, last_high_back, mem_back, row_back, task_back, wait_offered, wait_taken, of_wait_offered, of_wait_taken, of_faulted, of_timer}
use Rattle.trace_text.specs.Fit.{IsFitTimer}
use Rattle.audit_laws.specs.Told.{IsLine}
use Rattle.audit_laws.specs.Ends.{IsHow, end_line, IsFitHealth, IsWaitText, mem_line, row_line}
use Rattle.trace_text.specs.Lines.{health_text, timer_text, task_line}
use Rattle.audit_laws.proofs.Hexes.{hex_fits, registers_spaced, spaced_joined}
use Rattle.audit_laws.proofs.Spelled.{so_many, flags, flags_word}

of_name : (name : List ℕ) (ws : List (List ℕ)) (bytes : List ℕ) (l : TraceLine) → IsWord name → AreWords ws → bytes ≡ (name ++ spaced ws) ++ 10 ∷ [] → read (name ++ spaced ws) ≡ l → IsLine bytes l
of_name name ws bytes l is are e r = record { text = name ++ spaced ws; spelled = e; printable = words_printable name ws is are; reads = r }

-- ## the end

end_spelled : (how : List ℕ) (turns now : ℕ) → end_line how turns now ≡ (codes "end" ++ spaced (how ∷ decimal turns ∷ decimal now ∷ [])) ++ 10 ∷ []
end_spelled how turns now = simp (append_assoc, append-nil)

how_word : (how : List ℕ) → IsHow how → IsWord how × (is_of field.End how ≡ true)
unfolding is_of
how_word how (inl e) = subst (λ w. IsWord w × (is_of field.End w ≡ true)) (sym e) (refl, refl)
how_word how (inr (inl e)) = subst (λ w. IsWord w × (is_of field.End w ≡ true)) (sym e) (refl, refl)
how_word how (inr (inr e)) = subst (λ w. IsWord w × (is_of field.End w ≡ true)) (sym e) (refl, refl)

pub end_read : (how : List ℕ) (turns now : ℕ) → IsHow how → turns < 2 ^ 32 → now < 2 ^ 64 → IsLine (end_line how turns now) line.Ends
end_read how turns now is a b = let w = how_word how is in of_name (codes "end") (how ∷ decimal turns ∷ decimal now ∷ []) _ _ refl (w.0, (short turns a, (decimal_word now b, tt))) (end_spelled how turns now) (end_back turns now how a b w.0 w.1)

-- ## a task

health_word : (h : Health) → IsFitHealth h → IsWord (health_text h) × (is_of field.Health (health_text h) ≡ true)
unfolding is_of behind
health_word Well fit = (refl, refl)
health_word Stopped fit = (refl, refl)
health_word (Faulted fault) fit = (all_joined is_in_word (codes "faulted:") (decimal fault.number) refl (short fault.number fit), of_faulted fault.number fit)

timer_word : (t : Option Timer) → IsFitTimer t → IsWord (timer_text t) × (is_of field.Timer (timer_text t) ≡ true)
unfolding is_of
timer_word None fit = (refl, refl)
timer_word (Some t) fit =
    subst (λ w. IsWord w × (is_of field.Timer w ≡ true)) (sym (append_assoc (decimal t.deadline) (codes ":") (hex t.bits)))
    (all_joined is_in_word (decimal t.deadline) (58 ∷ hex t.bits) (decimal_word t.deadline fit) (hex_word 8 (hex t.bits) (hex_fits t.bits)), of_timer t.deadline (hex t.bits) fit (hex_fits t.bits))

record Waits (text : List ℕ) (w : FinalWait) : Type 0 where
  word : IsWord text
  fits : is_of field.Wait text ≡ true
  says : wait_of text ≡ w

rests : Waits (codes "-") wait.Other
unfolding is_of behind wait_of
rests = record { word = refl; fits = refl; says = refl }

listens : Waits (codes "listen") wait.Other
unfolding is_of behind wait_of
listens = record { word = refl; fits = refl; says = refl }

wait_word : (text : List ℕ) (w : FinalWait) → IsWaitText text w → Waits text w
wait_word text wait.Other (inl e) = subst (λ t. Waits t wait.Other) (sym e) rests
wait_word text wait.Other (inr e) = subst (λ t. Waits t wait.Other) (sym e) listens
wait_word text (wait.Offered k) h = subst (λ t. Waits t (wait.Offered k)) (sym h.0) (record { word = all_joined is_in_word (codes "offered:") (decimal k) refl (short k h.1); fits = of_wait_offered k h.1; says = wait_offered k h.1 })
wait_word text (wait.Taken k) h = subst (λ t. Waits t (wait.Taken k)) (sym h.0) (record { word = all_joined is_in_word (codes "taken:") (decimal k) refl (short k h.1); fits = of_wait_taken k h.1; says = wait_taken k h.1 })

task_spelled : (i generation : ℕ) (health w x timer : List ℕ) → codes "task " ++ decimal i ++ codes " " ++ decimal generation ++ codes " " ++ health ++ codes " " ++ w ++ (32 ∷ x) ++ codes " " ++ timer ++ codes "\n" ≡ (codes "task" ++ spaced (decimal i ∷ decimal generation ∷ health ∷ w ∷ x ∷ timer ∷ [])) ++ 10 ∷ []
task_spelled i generation health w x timer = simp (append_assoc, append-nil)

pub task_read : (i generation : ℕ) (health : Health) (text : List ℕ) (w : FinalWait) (posted : ℕ) (timer : Option Timer) → i < 2 ^ 32 → generation < 2 ^ 32 → IsFitHealth health → IsWaitText text w → IsFitTimer timer → IsLine (task_line i generation health text posted timer) (line.Waits i w)
unfolding task_line
task_read i generation health text w posted timer a b fit waits fits =
    let h = health_word health fit in
    let x = wait_word text w waits in
    let t = timer_word timer fits in
    of_name (codes "task") (decimal i ∷ decimal generation ∷ health_text health ∷ text ∷ hex posted ∷ timer_text timer ∷ []) _ _ refl
    (short i a, (short generation b, (h.0, (x.word, (hex_word 8 (hex posted) (hex_fits posted), (t.0, tt))))))
    (task_spelled i generation (health_text health) text (hex posted) (timer_text timer))
    (task_back i generation (health_text health) text (hex posted) (timer_text timer) a b h.0 h.1 x.word x.fits (hex_fits posted) t.0 t.1 ∙ ap (line.Waits i) x.says)

-- ## registers

low_spelled : (registers : List ℕ) → low_words registers ≡ (codes "low" ++ spaced (map hex registers ++ [])) ++ 10 ∷ []
low_spelled registers = rw (registers_spaced registers) (simp append-nil)

pub last_low_read : (registers : List ℕ) → length registers ≡ 8 → IsLine (low_words registers) line.Shows
last_low_read registers eight =
    let ws = map hex registers in
    let x = so_many 8 registers eight in
    of_name (codes "low") (ws ++ []) _ _ refl (hex_words 8 ws [] x tt) (low_spelled registers) (last_low_back ws x)

last_high_shape : (r f : List ℕ) → codes "high" ++ r ++ codes " " ++ (f ++ 10 ∷ []) ≡ (codes "high" ++ (r ++ (32 ∷ (f ++ [])))) ++ 10 ∷ []
last_high_shape r f = simp (append_assoc, append-nil)

high_spelled : (registers : List ℕ) (n z c v : Bool) → high_words registers n z c v ≡ (codes "high" ++ spaced (map hex registers ++ flags n z c v ∷ [])) ++ 10 ∷ []
high_spelled registers n z c v =
    ap (λ r. codes "high" ++ r ++ codes " " ++ (flags n z c v ++ 10 ∷ [])) (registers_spaced registers)
    ∙ last_high_shape (spaced (map hex registers)) (flags n z c v)
    ∙ ap (λ r. (codes "high" ++ r) ++ 10 ∷ []) (sym (spaced_joined (map hex registers) (flags n z c v ∷ [])))

pub last_high_read : (registers : List ℕ) (n z c v : Bool) → length registers ≡ 8 → IsLine (high_words registers n z c v) line.Shows
last_high_read registers n z c v eight =
    let ws = map hex registers in
    let x = so_many 8 registers eight in
    let w = flags_word n z c v in
    of_name (codes "high") (ws ++ flags n z c v ∷ []) _ _ refl (hex_words 8 ws (flags n z c v ∷ []) x (w.0, tt)) (high_spelled registers n z c v) (last_high_back ws (flags n z c v) x w.0 w.1)

-- ## memory

mem_spelled : (x n : List ℕ) → codes "mem " ++ x ++ codes " " ++ n ++ codes "\n" ≡ (codes "mem" ++ spaced (x ∷ n ∷ [])) ++ 10 ∷ []
mem_spelled x n = simp (append_assoc, append-nil)

pub mem_read : (base size : ℕ) → size < 2 ^ 32 → IsLine (mem_line base size) line.Shows
mem_read base size a = of_name (codes "mem") (hex base ∷ decimal size ∷ []) _ _ refl (hex_word 8 (hex base) (hex_fits base), (short size a, tt)) (mem_spelled (hex base) (decimal size)) (mem_back (hex base) size (hex_fits base) a)

row_spelled : (x d : List ℕ) → x ++ codes " " ++ d ++ codes "\n" ≡ (x ++ spaced (d ∷ [])) ++ 10 ∷ []
row_spelled x d = simp (append_assoc, append-nil)

pub row_read : (a : ℕ) (digits : List ℕ) → is_hex 32 digits ≡ true → IsLine (row_line a digits) line.Shows
row_read a digits h = of_name (hex a) (digits ∷ []) _ _ (hex_word 8 (hex a) (hex_fits a)) (hex_word 32 digits h, tt) (row_spelled (hex a) digits) (row_back (hex a) digits (hex_fits a) h)
