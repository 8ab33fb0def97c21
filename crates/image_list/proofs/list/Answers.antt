use Rattle.std.proofs.Common.{◌≡◌, ◌∙◌, ap, refl, ℕ, zero, suc, List, [], ◌∷◌, map, false, rules}
use Rattle.std.proofs.lemmas.Result.{IfOk-weaker}
use Rattle.serde_json.specs.Data.{Data, string}
use Rattle.serde_json.specs.View.{items_of, view}
use Rattle.serde_json.specs.Written.{compact_text, has_float, items_have_float}
use Rattle.image_format.specs.Images.{image_data}
use Rattle.image_format.specs.ImageData.{ImageData, ImageLine, ImageTask}
use Rattle.image_list.specs.Listing.{listed_object, line_data, region_data, task_data, whole}
use Rattle.image_format.specs.Loners.{loners}
use Rattle.image_list.proofs.list.Goals as goal

-- items of which none has a float
whole_items : {X : Type 0} (f : X → Data) → ((x : X) → has_float (f x) ≡ false) → (xs : List X) → items_have_float (items_of (map f xs)) ≡ false
whole_items f h [] = refl
whole_items f h (x ∷ xs) = rw (h x, whole_items f h xs) refl

whole_task : (t : ImageTask) → has_float (task_data t) ≡ false
whole_task t = rw (whole_items string (λ n. refl) t.names, whole_items region_data (λ r. refl) t.regions) refl

whole_line : (l : ImageLine) → has_float (line_data l) ≡ false
whole_line l = go l.device
  where
    go : (d : ℕ) → has_float (line_data (record l { device = d })) ≡ false
    go zero = refl
    go (suc d) = refl

whole_image : (p : ImageData) → has_float (listed_object p) ≡ false
whole_image p = rw (whole_items whole (λ n. refl) (loners p), whole_items line_data whole_line p.lines, whole_items task_data whole_task p.tasks) refl

pub returns : goal.returns
returns c =
    let p : ImageData = image_data c.args.image.now in
    let is : view c.in_ok-image_value.field-0 ≡ listed_object p = search rules in
    IfOk-weaker c.to_string.result _ _ (λ s h. h (ap has_float is ∙ whole_image p) ∙ ap compact_text is) c.to_string.ensures.text
