-- Which tasks of an image share nothing with another one.
use Rattle.std.specs.Prelude.{ℕ, Bool, List, [], length, map, filter, slice_index_or, ◌==◌, if◌then◌else◌}
use Rattle.std.specs.List.{list_all, range_with_len}
use Rattle.region_check.specs.declared.Region.{Region}
use Rattle.region_check.specs.Rights.{is_alone}
use Rattle.image_format.specs.ImageData.{ImageData}

-- the regions of each task, in the order of the tasks
abbrev pub regions_by_task : ImageData → List (List Region)
regions_by_task p = map (λ t. t.regions) p.tasks

abbrev pub own_regions : List (List Region) → ℕ → List Region
own_regions tasks i = slice_index_or tasks i []

-- the regions of task j, if it is another one than task i
abbrev pub regions_beside : List (List Region) → ℕ → ℕ → List Region
regions_beside tasks i j = if j == i then [] else own_regions tasks j

-- task i has no device, and no region of its own is one of another task
abbrev pub is_loner : List (List Region) → ℕ → Bool
is_loner tasks i = list_all (λ j. is_alone (own_regions tasks i) (regions_beside tasks i j)) (range_with_len 0 (length tasks))

-- the tasks that share nothing, ascending
abbrev pub loners : ImageData → List ℕ
loners p = filter (is_loner (regions_by_task p)) (range_with_len 0 (length p.tasks))
