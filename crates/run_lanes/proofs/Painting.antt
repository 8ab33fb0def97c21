-- A canvas after all turns, and the picture that is drawn from it.
use Rattle.std.proofs.Common.{◌≡◌, ◌≤◌, ℕ, List, [], length, map, take, ap, subst, ◌∙◌, arith}
use Rattle.std.proofs.lemmas.List.{length-map, length-take}
use Rattle.board_model.specs.Run.{Run}
use Rattle.board_run.specs.Text.{end_name}
use Rattle.lane_picture.specs.declared.parts.Arrow.{Arrow}
use Rattle.lane_picture.specs.declared.parts.TaskCalls.{TaskCalls}
use Rattle.lane_picture.specs.declared.parts.Cell.{Cell}
use Rattle.lane_picture.specs.Sizes.{Drawn}
use Rattle.run_lanes.specs.declared.canvas.Canvas.{Canvas}
use Rattle.run_lanes.specs.Columns.{cells, outside}
use Rattle.run_lanes.specs.Painted.{Painted, Paints}
use Rattle.run_lanes.specs.Pictured.{drawn}
use Rattle.run_lanes.specs.Told.{TurnNote, all_arrows, all_events, event_text}
use Rattle.run_lanes.specs.Activities.{TurnSight}

pub after_all : (tasks n : ℕ) (c d : Canvas) (seen : List TurnSight) → Painted n c [] → n ≡ tasks → length seen ≤ 1000000000 → Paints c seen d → Painted tasks d seen
after_all tasks n c d seen start same few paints = let P : ℕ → Type 0 = λ m. Painted m c [] in paints tasks [] (omega arith) (subst P same start)

pub few_events : {X : Type 0} (f : X → List ℕ) (g : TurnNote → List ℕ) (texts shown : List X) (kept events : List TurnNote) → map f texts ≡ map g kept → shown ≡ texts → kept ≡ take 10 events → length shown ≤ 10
few_events f g texts shown kept events made same first =
    omega (arith, ap length same, length-map texts f, ap length made, length-map kept g, ap length first, length-take 10 events)

abbrev image_data_of : List ℕ → List ℕ → ℕ → ℕ → ℕ → List (List ℕ) → List ℕ → List Cell → List TaskCalls → List Arrow → ℕ → List (List ℕ) → ℕ → Drawn
image_data_of title ending turns ticks width names out cs calls arrows all_arrows events all_events = record {
  title = title;
  ending = ending;
  turns = turns;
  ticks = ticks;
  column_turns = width;
  names = names;
  outside = out;
  cells = cs;
  calls = calls;
  arrows = arrows;
  all_arrows = all_arrows;
  events = events;
  all_events = all_events;
}

same_image_data : (title a a' : List ℕ) (b b' t t' w w' : ℕ) (names : List (List ℕ)) (o o' : List ℕ) (c c' : List Cell) (k k' : List TaskCalls) (r r' : List Arrow) (n n' : ℕ) (e e' : List (List ℕ)) (m m' : ℕ) →
    a ≡ a' → b ≡ b' → t ≡ t' → w ≡ w' → o ≡ o' → c ≡ c' → k ≡ k' → r ≡ r' → n ≡ n' → e ≡ e' → m ≡ m' →
    image_data_of title a b t w names o c k r n e m ≡ image_data_of title a' b' t' w' names o' c' k' r' n' e' m'
same_image_data title a a' b b' t t' w w' names o o' c c' k k' r r' n n' e e' m m' p1 p2 p3 p4 p5 p6 p7 p8 p9 p10 p11 =
    ap (λ (x : List ℕ). image_data_of title x b t w names o c k r n e m) p1
    ∙ ap (λ (x : ℕ). image_data_of title a' x t w names o c k r n e m) p2
    ∙ ap (λ (x : ℕ). image_data_of title a' b' x w names o c k r n e m) p3
    ∙ ap (λ (x : ℕ). image_data_of title a' b' t' x names o c k r n e m) p4
    ∙ ap (λ (x : List ℕ). image_data_of title a' b' t' w' names x c k r n e m) p5
    ∙ ap (λ (x : List Cell). image_data_of title a' b' t' w' names o' x k r n e m) p6
    ∙ ap (λ (x : List TaskCalls). image_data_of title a' b' t' w' names o' c' x r n e m) p7
    ∙ ap (λ (x : List Arrow). image_data_of title a' b' t' w' names o' c' k' x n e m) p8
    ∙ ap (λ (x : ℕ). image_data_of title a' b' t' w' names o' c' k' r' x e m) p9
    ∙ ap (λ (x : List (List ℕ)). image_data_of title a' b' t' w' names o' c' k' r' n' x m) p10
    ∙ ap (λ (x : ℕ). image_data_of title a' b' t' w' names o' c' k' r' n' e' x) p11

pub painted_is : (title ending : List ℕ) (names : List (List ℕ)) (r : Run) (seen : List TurnSight) (c : Canvas) (turns ticks : ℕ) (out : List ℕ) (cs : List Cell) (calls : List TaskCalls) (arrows : List Arrow) (events : List (List ℕ)) →
    Painted (length names) c seen → turns ≡ length seen → ticks ≡ r.last.now → ending ≡ end_name r.end → out ≡ outside seen → cs ≡ cells c.columns.tasks seen → calls ≡ c.exchange.calls.items →
    arrows ≡ c.exchange.arrows.kept.items → events ≡ map (event_text names) c.events.kept.items →
    image_data_of title ending turns ticks c.columns.width names out cs calls arrows c.exchange.arrows.all events c.events.all ≡ drawn title names r seen
painted_is title ending names r seen c turns ticks out cs calls arrows events p is_turns is_ticks is_end is_out is_cells is_calls is_arrows is_events =
    same_image_data title _ _ _ _ _ _ _ _ names _ _ _ _ _ _ _ _ _ _ _ _ _ _ is_end is_turns is_ticks p.columns.wide is_out (is_cells ∙ ap (λ (n : ℕ). cells n seen) p.many) (is_calls ∙ p.calls) (is_arrows ∙ p.arrows.first) p.arrows.many
    (is_events ∙ ap (λ (l : List TurnNote). map (event_text names) l) p.events.first) p.events.many
