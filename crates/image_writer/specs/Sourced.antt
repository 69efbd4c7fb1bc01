-- Sources that a plan was made for.
use Rattle.std.specs.Prelude.{◌≡◌, ℕ, List, map}
use Rattle.std.specs.List.{All}
use Rattle.boot_base.specs.Paths.{Path}
use Rattle.boot_machine.specs.Disk.{Files}
use Rattle.boot_machine.specs.Rows.{contents}
use Rattle.uki_parts.specs.declared.part.Part.{Part}
use Rattle.uki_parts.specs.Pieces.{Reading, bytes_of, total_length, HasSizes}
use Rattle.pe_builder.specs.declared.plan.ImageLayout.{ImageLayout}
use Rattle.pe_builder.specs.Planned.{IsPlanFor, IsFinished, image_by}
use Rattle.image_writer.specs.declared.sources.Sources.{Sources}

-- the path of the stub
abbrev pub stub_path : Sources → Path
stub_path sources = sources.stub

-- the parts
abbrev pub part_list : Sources → List Part
part_list sources = sources.parts

-- the bytes of the new `.sbat`
abbrev pub new_sbat : Sources → List ℕ
new_sbat sources = sources.sbat.items

-- the bytes of each part, of files with these bytes
abbrev pub parts_bytes : Reading → List Part → List (List ℕ)
parts_bytes files parts = map (λ part. bytes_of files part.pieces.items) parts

-- the pieces of a part have the sizes that they say, which together are the part's
pub record IsPieced (files : Reading) (part : Part) : Type 0 where
  pub sizes : HasSizes files part.pieces.items
  pub total : total_length part.pieces.items ≡ part.length

-- The plan was made for these sources: for the bytes that the stub and the parts have in these files, and for the new
-- `.sbat`.
pub record IsSourced (plan : ImageLayout) (sources : Sources) (files : Files) : Type 0 where
  pub plan_is : IsPlanFor plan (contents files (stub_path sources)) (parts_bytes (contents files) (part_list sources))
      (new_sbat sources)
  pub pieced : All (IsPieced (contents files)) (part_list sources)

-- the bytes are the finished image by the plan of these sources in these files
abbrev pub IsPlannedImage : ImageLayout → Sources → Files → List ℕ → Type 0
IsPlannedImage plan sources files image =
    IsFinished plan (contents files (stub_path sources)) (parts_bytes (contents files) (part_list sources))
    (new_sbat sources) image

-- the finished image by the plan of these sources in these files: where the plan was made for them, the one that is so
abbrev pub planned_image : ImageLayout → Sources → Files → List ℕ
planned_image plan sources files =
    image_by plan (parts_bytes (contents files) (part_list sources)) (new_sbat sources)
    (contents files (stub_path sources))
