use Rattle.std.proofs.Common.{append_assoc, ◌≡◌, ℕ, ◌∷◌, [], ◌++◌, ◌∙◌, sym, ap, codes, decimal, string_bytes, List}
use Rattle.std.proofs.lemmas.Result.{IfOk-weaker}
use Rattle.sample_gen.specs.Sources.{text_of, server_lines}
use Rattle.sample_gen.proofs.programs.server_source.Goals as goal

front : List ℕ
front = codes "loop: movs r4, #1\nmovs r5, #1\nmovs r0, #7\nmov r11, r0\nsvc #0\nmov r4, sp\nmovs r5, #16\nmovs r6, #1\nmovs r7, #0\nmovs r0, #1\nmov r11, r0\nsvc #0\nldr r0, kernel\ncmp r5, r0\nbeq loop\nmov r3, r5\nmov r2, r6\ncmp r2, #1\nbeq fetch\ncmp r2, #2\nbeq put\ncmp r2, #3\nbeq refuse\ncmp r2, #4\nbeq stop\nanswer: mov r4, r3\nmovs r5, #0\nmov r6, sp\nmovs r7, #4\nmovs r0, #2\nmov r11, r0\nsvc #0\nb loop\nfetch: movs r0, #4\nb move\nput: movs r0, #5\nmove: mov r11, r0\nmov r4, r3\nmovs r5, #0\nmovs r6, #"

back : List ℕ
back = codes "add r7, sp, #32\nmovs r0, #16\nmov r8, r0\nsvc #0\nb answer\nrefuse: mov r4, r3\nmovs r5, #0\nmovs r0, #12\nmov r11, r0\nsvc #0\nb loop\nstop: movs r0, #8\nmov r11, r0\nsvc #0\n.align 2\nkernel: .word 0xffff\n"

spelled : (n : ℕ) → front ++ (decimal n ++ 10 ∷ back) ≡ text_of (server_lines n)
unfolding front back server_lines
spelled n = ap (λ t. front ++ t) (sym (append_assoc (decimal n) (10 ∷ []) back))

pub returns : goal.returns
unfolding front back
returns c = IfOk-weaker c.format.result _ (λ s. string_bytes s ≡ text_of (server_lines c.args.offset)) (λ s h. h ∙ spelled c.args.offset) c.format.ensures.ok
