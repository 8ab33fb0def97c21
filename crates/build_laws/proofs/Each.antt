-- The assembler refuses no source of the sample, at the base and with the symbols of its task.
use Rattle.std.proofs.Common.{◌≡◌, ℕ, ◌+◌, ◌≤◌, ◌<◌, List, map, refl, arith, Bool, true, false, None, ◌==◌, nat_lt, if◌then◌else◌}
use Rattle.text_lines.specs.Text.{lines_of}
use Rattle.thumb_asm.specs.Causes.{first_cause}
use Rattle.thumb_asm.specs.Passes.{size_from}
use Rattle.image_build.specs.Built.{given}
use Rattle.sample_gen.specs.Sources.{text_of, supervisor_lines, server_lines, client_lines}
use Rattle.build_laws.proofs.Cards.{Card, card_of, AreFine, at_256, no_cause, small}
use Rattle.build_laws.proofs.Supervisor as supervisor
use Rattle.build_laws.proofs.Servers as servers
use Rattle.build_laws.proofs.Clients as clients
use Rattle.sample_gen.specs.Sample.{app_by, source_of, offset, server, operation, size, period, first_draw}
use Rattle.sample_gen.proofs.Script.{draw_below}
use Rattle.build_laws.proofs.Symbols.{free_in, leaves_each, supervisor_free, server_free, client_free}

-- no cause, and at most 256 bytes
pub record IsFine (p : ℕ → ℕ) (i : ℕ) (text : List ℕ) : Type 0 where
  pub accepted : first_cause (lines_of text) (at_256 i) (given (app_by p) i) ≡ None
  pub short : size_from (at_256 i) (lines_of text) ≤ 256

fine_by : (p : ℕ → ℕ) (i : ℕ) (cards : List Card) (lines : List (List ℕ)) → AreFine cards → leaves_each p cards ≡ true → map card_of lines ≡ cards → i < 32 → IsFine p i (text_of lines)
fine_by p i cards lines fine free same h = record {
  accepted = no_cause lines cards i (given (app_by p) i) fine same h (free_in p cards lines i free same h);
  short = small lines cards i fine same h;
}

of_role : (p : ℕ → ℕ) (i : ℕ) (b c : Bool) (x y z : List ℕ) → IsFine p i x → IsFine p i y → IsFine p i z → IsFine p i (if b then x else if c then y else z)
of_role p i true c x y z f g h = f
of_role p i false true x y z f g h = g
of_role p i false false x y z f g h = h

up : (n m : ℕ) → n < m → 1 + n < m + 1
up n m h = omega arith

pub each_fine : (seed : ℕ) (p : ℕ → ℕ) (i : ℕ) → i < 32 → IsFine p i (source_of seed i)
each_fine seed p i h = of_role p i (i == 0) (nat_lt i 8) _ _ _
    (fine_by p i (map card_of supervisor_lines) supervisor_lines supervisor.fine (supervisor_free p) refl h)
    (fine_by p i (map card_of (server_lines 0)) (server_lines (offset seed i)) servers.fine (server_free p) (servers.same_cards (offset seed i) (draw_below seed i 40 (omega arith))) h)
    (fine_by p i (map card_of (client_lines 0 0 0 0)) (client_lines (server seed i) (operation seed i) (size seed i) (period seed i)) clients.fine (client_free p)
    (clients.same_cards (server seed i) (operation seed i) (size seed i) (period seed i)
    (up _ 7 (draw_below seed (first_draw i + 1) 7 (omega arith))) (draw_below seed (first_draw i + 2) 6 (omega arith))
    (draw_below seed (first_draw i + 3) 33 (omega arith)) (up _ 8 (draw_below seed (first_draw i + 4) 8 (omega arith)))) h)
