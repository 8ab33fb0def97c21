use Rattle.std.proofs.Common.{append_assoc, ◌≡◌, ℕ, ◌∷◌, [], ◌++◌, ◌∙◌, sym, ap, codes, decimal, string_bytes, List}
use Rattle.std.proofs.lemmas.Result.{IfOk-weaker}
use Rattle.sample_gen.specs.Sources.{text_of, client_lines}
use Rattle.sample_gen.proofs.programs.client_source.Goals as goal

part0 : List ℕ
part0 = codes "movs r0, #3\nstr r0, [sp, #48]\nadd r0, sp, #64\nstr r0, [sp, #52]\nmovs r0, #32\nstr r0, [sp, #56]\nloop: movs r4, #"

part1 : List ℕ
part1 = codes "movs r0, #10\nmov r11, r0\nsvc #0\nlsls r4, r4, #16\nadds r4, #"

part2 : List ℕ
part2 = codes "mov r5, sp\nmovs r6, #"

part3 : List ℕ
part3 = codes "add r7, sp, #32\nmovs r0, #4\nmov r8, r0\nadd r0, sp, #48\nmov r9, r0\nmovs r0, #1\nmov r10, r0\nmovs r0, #0\nmov r11, r0\nsvc #0\nmovs r0, #9\nmov r11, r0\nsvc #0\nmov r6, r5\nadds r4, #"

part4 : List ℕ
part4 = codes "mov r5, r4\nmovs r4, #1\nmovs r7, #1\nmovs r0, #3\nmov r11, r0\nsvc #0\nmovs r4, #0\nmovs r5, #0\nmovs r6, #1\nldr r7, clock\nmovs r0, #1\nmov r11, r0\nsvc #0\nb loop\n.align 2\nclock: .word 0x8000ffff\n"

ended : (ds rest : List ℕ) → ds ++ 10 ∷ rest ≡ (ds ++ 10 ∷ []) ++ rest
ended ds rest = sym (append_assoc ds (10 ∷ []) rest)

-- the end of a line with a number, and what follows
line_then : (ds part rest rest' : List ℕ) → rest ≡ rest' → ds ++ 10 ∷ (part ++ rest) ≡ (ds ++ 10 ∷ []) ++ (part ++ rest')
line_then ds part rest rest' e = ended ds (part ++ rest) ∙ ap (λ t. (ds ++ 10 ∷ []) ++ (part ++ t)) e

spelled : (a b c d : ℕ) → part0 ++ (decimal a ++ 10 ∷ (part1 ++ (decimal b ++ 10 ∷ (part2 ++ (decimal c ++ 10 ∷ (part3 ++ (decimal d ++ 10 ∷ part4))))))) ≡ text_of (client_lines a b c d)
unfolding part0 part1 part2 part3 part4 client_lines
spelled a b c d = ap (λ t. part0 ++ t) (line_then (decimal a) part1 _ _ (line_then (decimal b) part2 _ _ (line_then (decimal c) part3 _ _ (ended (decimal d) part4))))

pub returns : goal.returns
unfolding part0 part1 part2 part3 part4
returns c = IfOk-weaker c.format.result _ (λ s. string_bytes s ≡ text_of (client_lines c.args.server c.args.operation c.args.size c.args.period)) (λ s h. h ∙ spelled c.args.server c.args.operation c.args.size c.args.period) c.format.ensures.ok
