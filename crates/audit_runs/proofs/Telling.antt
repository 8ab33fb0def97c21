-- The text of a run: its notes, its end, and three lines of each task.
use Rattle.std.proofs.Common.{◌≡◌, ℕ, ◌^◌, ◌<◌, ◌%◌, inl, inr, List, [], ◌∷◌, ◌++◌, length, Option, None, Some, refl, sym, subst, ap, ◌∙◌, arith, append_assoc}
use Rattle.std.specs.List.{flat_map, range_with_len}
use Rattle.kernel_abi.specs.declared.Note.{Note}
use Rattle.task_table.specs.model.State.{Setup, Task, State, Call, Listen}
use Rattle.task_table.specs.declared.slot.Phase.{Phase}
use Rattle.task_table.specs.declared.slot.Phase.TheVariants.{Offered, Taken}
use Rattle.task_table.specs.model.Reading.{task_at, call_of, listen_of}
use Rattle.task_table.specs.model.Sane.{Sane}
use Rattle.trace_text.specs.Fit.{AreFit}
use Rattle.board_model.specs.declared.outcomes.End.{End}
use Rattle.board_model.specs.declared.outcomes.End.TheVariants.{Bound, Still, Supervisor}
use Rattle.board_model.specs.Run.{Run}
use Rattle.board_model.specs.Lifetimes.{notes_in}
use Rattle.board_run.specs.Text.{wait_text, low_text, high_text, task_lines, task_text, end_name, end_text, trace_text, end_line as told_end}
use Rattle.trace_audit.specs.declared.reading.TraceLine.{TraceLine}
use Rattle.trace_audit.specs.declared.reading.TraceLine.TheVariants as line
use Rattle.trace_audit.specs.declared.reading.Saying.{Saying}
use Rattle.trace_audit.specs.Rules.{IsGoodWait, IsGood}
use Rattle.trace_audit.specs.Texts.{lines_of}
use Rattle.trace_audit.specs.Judgements.{HasNoCause, read_lines}
use Rattle.audit_laws.specs.Told.{told_by}
use Rattle.audit_laws.specs.Ends.{IsHow, IsWaitText, end_line}
use Rattle.trace_text.specs.Lines.{notes_text, task_line}
use Rattle.audit_laws.specs.Whole.{notes_told, AreInOrder, AreRight, AreGoodSayings, AreLines, AreShort, joined, AreLastLines}
use Rattle.audit_laws.proofs.Fitting.{fit_notes}
use Rattle.audit_laws.proofs.Assembled.{text_good}
use Rattle.audit_laws.proofs.Fine.{text_fine}
use Rattle.audit_laws.proofs.Short.{end_short, task_short, low_words_short, high_words_short, under}
use Rattle.audit_laws.proofs.Ended.{end_read, task_read, last_low_read, last_high_read}
use Rattle.audit_runs.specs.Spoken.{sayings, wait_in, wait_by_call, IsSpoken}
use Rattle.audit_runs.specs.Last.{IsFitLast, AreShown}
use Rattle.audit_runs.proofs.Waiting.{spoken_waits}
use Rattle.audit_runs.proofs.Lasting.{AreFitTasks, tasks_fit, turns_fit, now_fits}

-- ## the texts of a task

-- what task i waits for, in words
abbrev waits_of : State → ℕ → List ℕ
waits_of s i = wait_text (call_of s i) (listen_of s i)

abbrev line_at : State → ℕ → Task → List ℕ
line_at s i t = task_line i (t.births % 64) t.health (waits_of s i) t.posted t.timer

abbrev low_of : Task → List ℕ
low_of t = low_text t.registers

abbrev high_of : Task → List ℕ
high_of t = high_text t.registers t.flags

abbrev three_lines : State → ℕ → List ℕ
three_lines s i = line_at s i (task_at s i) ++ low_of (task_at s i) ++ high_of (task_at s i)

task_same : (s : State) (i : ℕ) → task_text s i ≡ three_lines s i
unfolding task_text task_lines
task_same s i = refl

tasks_same : (s : State) (is : List ℕ) → flat_map (task_text s) is ≡ flat_map (three_lines s) is
tasks_same s [] = refl
tasks_same s (i ∷ is) = ap (λ t. t ++ flat_map (task_text s) is) (task_same s i) ∙ ap (λ r. three_lines s i ++ r) (tasks_same s is)

-- ## tasks

texts_at : State → List ℕ → List (List ℕ)
texts_at s [] = []
texts_at s (i ∷ is) = line_at s i (task_at s i) ∷ low_of (task_at s i) ∷ high_of (task_at s i) ∷ texts_at s is

lines_at : State → List ℕ → List TraceLine
lines_at s [] = []
lines_at s (i ∷ is) = line.Waits i (wait_by_call (call_of s i)) ∷ line.Shows ∷ line.Shows ∷ lines_at s is

three : (a b c r : List ℕ) → a ++ (b ++ (c ++ r)) ≡ ((a ++ b) ++ c) ++ r
three a b c r = simp append_assoc

tasks_joined : (s : State) (is : List ℕ) → joined (texts_at s is) ≡ flat_map (three_lines s) is
unfolding texts_at
tasks_joined s [] = refl
tasks_joined s (i ∷ is) =
    ap (λ r. line_at s i (task_at s i) ++ (low_of (task_at s i) ++ (high_of (task_at s i) ++ r))) (tasks_joined s is)
    ∙ three (line_at s i (task_at s i)) (low_of (task_at s i)) (high_of (task_at s i)) (flat_map (three_lines s) is)

phase_text : (p : Phase) (k : ℕ) (c : Call) → c.phase ≡ p → c.number ≡ k → k < 2 ^ 32 → IsWaitText (wait_text (Some c) None) (wait_in p k)
phase_text Offered k c p n h = (rw (p, n) refl, h)
phase_text Taken k c p n h = (rw (p, n) refl, h)

wait_is : (o : Option Call) (l : Option Listen) → ((c : Call) → o ≡ Some c → c.number < 2 ^ 32) → IsWaitText (wait_text o l) (wait_by_call o)
wait_is (Some c) l h = phase_text c.phase c.number c refl refl (h c refl)
wait_is None (Some l) h = inr refl
wait_is None None h = inl refl

few_births : (n : ℕ) → n % 64 < 2 ^ 32
few_births n = omega arith

tasks_read : (s : State) (is : List ℕ) → AreFitTasks s is → AreLines (texts_at s is) (lines_at s is)
unfolding texts_at lines_at
tasks_read s [] fit = tt
tasks_read s (i ∷ is) fit =
    let f = fit.0 in
    let t = task_at s i in (
      task_read i (t.births % 64) t.health _ (wait_by_call (call_of s i)) t.posted t.timer f.index (few_births t.births) f.health (wait_is (call_of s i) (listen_of s i) f.call) f.timer,
      (last_low_read _ f.low, (last_high_read _ t.flags.n t.flags.z t.flags.c t.flags.v f.high, tasks_read s is fit.1)),
    )

tasks_last : (told : List Saying) (s : State) → ((i : ℕ) → IsGoodWait told i (wait_by_call (call_of s i))) → (is : List ℕ) → AreLastLines told (lines_at s is)
unfolding lines_at
tasks_last told s h [] = tt
tasks_last told s h (i ∷ is) = (h i, (tt, (tt, tasks_last told s h is)))

sayings_same : (notes : List (ℕ × Note)) → sayings (notes_in notes) ≡ notes_told notes
sayings_same [] = refl
sayings_same (n ∷ notes) = ap (λ ss. told_by n.1 ∷ ss) (sayings_same notes)

-- ## lines behind

shown_by : List (List ℕ) → List TraceLine
shown_by [] = []
shown_by (t ∷ texts) = line.Shows ∷ shown_by texts

pub joined_more : (xs ys : List (List ℕ)) → joined (xs ++ ys) ≡ joined xs ++ joined ys
joined_more [] ys = refl
joined_more (x ∷ xs) ys = ap (λ r. x ++ r) (joined_more xs ys) ∙ sym (append_assoc x (joined xs) (joined ys))

shown_read : (texts : List (List ℕ)) → AreShown texts → AreLines texts (shown_by texts)
unfolding shown_by
shown_read [] h = tt
shown_read (t ∷ texts) h = (h.0, shown_read texts h.2)

shown_short : (texts : List (List ℕ)) → AreShown texts → AreShort texts
shown_short [] h = tt
shown_short (t ∷ texts) h = (h.1, shown_short texts h.2)

shown_last : (told : List Saying) (texts : List (List ℕ)) → AreLastLines told (shown_by texts)
unfolding shown_by
shown_last told [] = tt
shown_last told (t ∷ texts) = (tt, shown_last told texts)

lines_more : (xs ys : List (List ℕ)) (ls ms : List TraceLine) → AreLines xs ls → AreLines ys ms → AreLines (xs ++ ys) (ls ++ ms)
lines_more [] ys [] ms h k = k
lines_more [] ys (l ∷ ls) ms h k = absurd h
lines_more (x ∷ xs) ys [] ms h k = absurd h
lines_more (x ∷ xs) ys (l ∷ ls) ms h k = (h.0, lines_more xs ys ls ms h.1 k)

short_more : (xs ys : List (List ℕ)) → AreShort xs → AreShort ys → AreShort (xs ++ ys)
short_more [] ys h k = k
short_more (x ∷ xs) ys h k = (h.0, short_more xs ys h.1 k)

last_more : (told : List Saying) (ls ms : List TraceLine) → AreLastLines told ls → AreLastLines told ms → AreLastLines told (ls ++ ms)
last_more told [] ms h k = k
last_more told (l ∷ ls) ms h k = (h.0, last_more told ls ms h.1 k)

-- ## none is too long

tasks_short : (s : State) (is : List ℕ) → AreFitTasks s is → AreShort (texts_at s is)
unfolding texts_at
tasks_short s [] fit = tt
tasks_short s (i ∷ is) fit =
    let f = fit.0 in
    let t = task_at s i in (
      task_short i (t.births % 64) t.health _ (wait_by_call (call_of s i)) t.posted t.timer f.index (few_births t.births) f.health (wait_is (call_of s i) (listen_of s i) f.call) f.timer,
      (under (low_of t) 76 (low_words_short _ f.low) (omega arith), (under (high_of t) 82 (high_words_short _ t.flags.n t.flags.z t.flags.c t.flags.v f.high) (omega arith), tasks_short s is fit.1)),
    )

-- ## the whole

how_of : (e : End) → IsHow (end_name e)
how_of Bound = inl refl
how_of Still = inr (inl refl)
how_of Supervisor = inr (inr refl)

end_same : (e : End) (s : State) → end_text e s ≡ end_line (end_name e) s.turn s.now ++ flat_map (three_lines s) (range_with_len 0 (length s.tasks))
unfolding end_text told_end
end_same e s = ap (λ t. end_line (end_name e) s.turn s.now ++ t) (tasks_same s (range_with_len 0 (length s.tasks)))

-- the texts of the last lines
abbrev last_texts : Run → List ℕ → List (List ℕ) → List (List ℕ)
last_texts r is more = end_line (end_name r.end) r.last.turn r.last.now ∷ (texts_at r.last is ++ more)

whole : (r : Run) (more : List (List ℕ)) → notes_text r.notes ++ joined (last_texts r (range_with_len 0 (length r.last.tasks)) more) ≡ trace_text r ++ joined more
whole r more =
    let s = r.last in
    let is = range_with_len 0 (length s.tasks) in
    let front = end_line (end_name r.end) s.turn s.now in
    ap (λ t. notes_text r.notes ++ (front ++ t)) (joined_more (texts_at s is) more ∙ ap (λ t. t ++ joined more) (tasks_joined s is))
    ∙ ap (λ t. notes_text r.notes ++ t) (sym (append_assoc front (flat_map (three_lines s) is) (joined more)) ∙ ap (λ t. t ++ joined more) (sym (end_same r.end s)))
    ∙ sym (append_assoc (notes_text r.notes) (end_text r.end s) (joined more))

module _ (g : Setup) (r : Run) (more : List (List ℕ)) (sane : Sane g r.last) (last : IsFitLast r.last) (shown : AreShown more) where
  all : List ℕ
  all = range_with_len 0 (length r.last.tasks)

  rest : List TraceLine
  rest = lines_at r.last all ++ shown_by more

  tasks : AreFitTasks r.last all
  unfolding all
  tasks = tasks_fit g r.last sane last 0 (length r.last.tasks) (omega arith)

  last_read : AreLines (last_texts r all more) (line.Ends ∷ rest)
  unfolding rest
  last_read = (end_read (end_name r.end) r.last.turn r.last.now (how_of r.end) (turns_fit g r.last sane last) (now_fits g r.last sane last), lines_more (texts_at r.last all) more (lines_at r.last all) (shown_by more) (tasks_read r.last all tasks) (shown_read more shown))

  last_waits : IsSpoken (notes_in r.notes) r.last → AreLastLines (notes_told r.notes) rest
  unfolding rest
  last_waits spoken =
      last_more (notes_told r.notes) (lines_at r.last all) (shown_by more)
      (tasks_last (notes_told r.notes) r.last (λ i. subst (λ ss. IsGoodWait ss i (wait_by_call (call_of r.last i))) (sayings_same r.notes) (spoken_waits (notes_in r.notes) r.last i spoken (call_of r.last i) refl)) all)
      (shown_last (notes_told r.notes) more)

  last_short : AreShort (last_texts r all more)
  last_short = (end_short (end_name r.end) r.last.turn r.last.now (how_of r.end) (turns_fit g r.last sane last) (now_fits g r.last sane last), short_more (texts_at r.last all) more (tasks_short r.last all tasks) (shown_short more shown))

  pub run_good : AreInOrder 0 r.notes → AreFit r.notes → AreRight r.notes → IsSpoken (notes_in r.notes) r.last → IsGood (read_lines (trace_text r ++ joined more))
  unfolding all
  run_good order fit right spoken =
      subst (λ t. IsGood (read_lines t)) (whole r more)
      (text_good r.notes (last_texts r all more) rest (fit_notes 0 r.notes order fit right) (subst AreGoodSayings (sayings_same r.notes) spoken.good) last_read (last_waits spoken))

  pub run_fine : AreInOrder 0 r.notes → AreFit r.notes → AreRight r.notes → HasNoCause (lines_of (trace_text r ++ joined more))
  unfolding all
  run_fine order fit right =
      subst (λ t. HasNoCause (lines_of t)) (whole r more)
      (text_fine r.notes (last_texts r all more) (line.Ends ∷ rest) (fit_notes 0 r.notes order fit right) last_read last_short)
