-- The image and the refusal that the code's image and fault stand for.
use Rattle.std.specs.Prelude.{Option, Some, None}
use Rattle.image_format.specs.declared.image.Image.{Image}
use Rattle.image_format.specs.declared.records.ImageFault.{ImageFault}
use Rattle.image_format.specs.declared.records.ImageFault.TheVariants as fault
use Rattle.image_format.specs.ImageData.{ImageData, image_data_of}
use Rattle.image_format.specs.Records.{Records}
use Rattle.image_format.specs.Steps.{Refusal}

-- the parts that it keeps
abbrev pub records_in : Image → Records
records_in i = record {
  header = i.header;
  tasks = i.tasks.items;
  regions = i.regions.items;
  lines = i.lines.items;
  names = i.names.items;
  flash = i.flash.items;
}

-- the image that it is
abbrev pub image_data : Image → ImageData
image_data i = image_data_of (records_in i)

-- the cause and the place that it states; none if memory ran out
abbrev pub stated : ImageFault → Option Refusal
stated (fault.Refused cause place) = Some (cause, place)
stated fault.Memory = None
