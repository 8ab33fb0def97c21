use Rattle.std.proofs.Common.{◌∙◌, List, length, map, arith, ap, ap₂, sym}
use Rattle.image_format.specs.declared.records.RegionRecord.{RegionRecord}
use Rattle.image_format.specs.declared.records.TaskRecord.{TaskRecord}
use Rattle.image_format.specs.ImageData.{region_of}
use Rattle.image_format.specs.Images.{records_in}
use Rattle.image_format.specs.Regions.{own_regions}
use Rattle.image_format.specs.Steps.{counted}
use Rattle.image_format.proofs.Limits.{few_tasks}
use Rattle.image_format.proofs.Lookups.{regions_looked}
use Rattle.image_format.proofs.Shape.{counts, tasks_length}
use Rattle.image_format.proofs.views.regions_in.Goals as goal

pub own_regions-requires-clause-few : goal.own_regions-requires-clause-few
own_regions-requires-clause-few c =
    let i = c.args.image.now in
    omega (arith, ap length c.as_slice.ensures.value, i.accepted.tasks, few_tasks i.header i.accepted.fields)

pub own_regions-requires-clause-within : goal.own_regions-requires-clause-within
own_regions-requires-clause-within c =
    let i = c.args.image.now in
    omega (arith, ap length c.as_slice.ensures.value, tasks_length i.tasks.items i.regions.items i.names.items, c.requires)

pub own_regions-requires-clause-all : goal.own_regions-requires-clause-all
own_regions-requires-clause-all c =
    let i = c.args.image.now in
    ap counted c.as_slice.ensures.value ∙ counts (records_in i) i.accepted ∙ ap length (sym c.as_slice-2.ensures.value)

pub returns : goal.returns
returns c =
    let i = c.args.image.now in
    ap (map region_of) (c.own_regions.ensures ∙ ap₂ (λ (ts : List TaskRecord) (rs : List RegionRecord). own_regions ts rs c.args.i) c.as_slice.ensures.value c.as_slice-2.ensures.value)
    ∙ sym (regions_looked i.tasks.items i.regions.items i.names.items c.args.i)
