-- The finished image by a plan.
use Rattle.std.proofs.Common.{◌≡◌, ℕ, List}
use Rattle.boot_machine.specs.Prelude.{Files, contents}
use Rattle.pe_builder.specs.declared.plan.ImageLayout.{ImageLayout}
use Rattle.pe_builder.proofs.PlannedIs.{image_by-is}
use Rattle.image_writer.specs.declared.sources.Sources.{Sources}
use Rattle.image_writer.specs.Sourced.{IsSourced, IsPlannedImage, new_sbat, part_list, parts_bytes, planned_image, stub_path}
use Rattle.image_writer.proofs.Assembled.{one_image}

-- What a plan makes of its sources is the finished image.
pub planned_image-is : (plan : ImageLayout) (sources : Sources) (files : Files) → IsPlannedImage plan sources files (planned_image plan sources files)
planned_image-is plan sources files = λ h sizes in_place reads plans len.
    image_by-is plan h sizes (parts_bytes (contents files) (part_list sources)) in_place (new_sbat sources) (contents files (stub_path sources)) reads plans len

-- And of the sources that it was made for there is no other.
pub planned_image-one : (plan : ImageLayout) (sources : Sources) (files : Files) (image : List ℕ) → IsSourced plan sources files → IsPlannedImage plan sources files image
    → image ≡ planned_image plan sources files
planned_image-one plan sources files image sourced is =
    one_image plan (contents files (stub_path sources)) (new_sbat sources) (parts_bytes (contents files) (part_list sources)) image
    (planned_image plan sources files) sourced.plan_is is (planned_image-is plan sources files)
