-- The plan of a build, and what the sections of its image are going to hold.
use Rattle.std.specs.Prelude.{◌≡◌, ◌≤◌, ◌+◌, ◌-◌, ◌^◌, ℕ, Bool, List, length, map, min, All, IfSome, Option, Result, Ok, Err, if◌then◌else◌}
use Rattle.std.specs.List.Sorted.{IsNonDecreasingBy}
use Rattle.boot_machine.specs.Disk.{Files}
use Rattle.boot_machine.specs.Rows.{contents}
use Rattle.image_writer.specs.Sourced.{IsSourced, new_sbat, part_list, parts_bytes, planned_image, stub_path}
use Rattle.stub_replay.specs.Parts.{IsWhole, content_or}
use Rattle.stub_replay.specs.declared.measurable.Content.{Content}
use Rattle.pe_builder.specs.Planned.{sbat_if_in_place}
use Rattle.pe_reader.specs.Grammar.{pe_of}
use Rattle.pe_reader.specs.Reads.{ReadFrom, headers_of}
use Rattle.stub_replay.specs.Laws.{given_parts, kept_of}
use Rattle.uki_parts.specs.Kinds.{append_place}
use Rattle.uki_parts.specs.Parts.{part_place}
use Rattle.uki_parts.specs.Pieces.{Reading, total_length}
use Rattle.uki_parts.specs.declared.kind.PartKind.TheVariants as kinds
use Rattle.uki_parts.specs.declared.part.Part.{Part}
use Rattle.boot_base.specs.declared.refusal.Refusal.{Refusal}
use Rattle.stub_replay.specs.Measured.{measured_length}
use Rattle.image_build.specs.Building.{BuiltImage, NamedFiles, build_named}
use Rattle.pe_builder.specs.Sizes.{size_of}
use Rattle.image_build.specs.Imaged.{IsOwnPlan}
use Rattle.image_build.specs.Reads.{IsKernel, reading_length}
use Rattle.image_build.specs.declared.build_reads.BuildParts.{BuildParts}
use Rattle.image_build.specs.declared.planned.PlannedBuild.{PlannedBuild}

-- the image by a plan on a view, and where it is to stand
abbrev pub built_as : Files → PlannedBuild → BuiltImage
built_as view plan = record { output = plan.output; image = planned_image plan.image.plan plan.image.sources view }

-- a part has the length of its pieces, or the highest number of 64 bits
abbrev pub HasItsLength : Part → Type 0
HasItsLength part = part.length ≡ min (total_length part.pieces.items) (2 ^ 64 - 1)

-- what an image can be planned of
pub record IsPlannable (built : BuildParts) : Type 0 where
  pub read : ReadFrom built.head built.stub_length
  pub linux : IsKernel built.linux
  pub order : IsNonDecreasingBy part_place built.parts.items
  pub early : All (λ part. part_place part ≤ append_place kinds.Extra) built.parts.items
  pub lengths : All HasItsLength built.parts.items

-- the stub's bytes on a view
abbrev pub stub_bytes : Files → PlannedBuild → List ℕ
stub_bytes view plan = contents view (stub_path plan.image.sources)

-- the plan was made of what the files on a view hold
pub record IsPlannedOn (view : Files) (plan : PlannedBuild) : Type 0 where
  pub reads : pe_of (stub_bytes view plan) ≡ Ok (headers_of plan.head)
  pub own : IsOwnPlan plan.image (headers_of plan.head) (length (stub_bytes view plan)) (stub_path plan.image.sources)
  pub sourced : IsSourced plan.image.plan plan.image.sources view

-- what a section keeps that no part has the name of
abbrev pub kept_bytes : Files → PlannedBuild → Option ℕ → List ℕ → List ℕ
kept_bytes view plan in_place name =
    kept_of (sbat_if_in_place in_place (new_sbat plan.image.sources)) (stub_bytes view plan) name

-- what the section of a name is going to hold
abbrev pub section_bytes : Files → PlannedBuild → Option ℕ → List ℕ → List ℕ
section_bytes view plan in_place name =
    given_parts (map size_of (part_list plan.image.sources))
    (parts_bytes (contents view) (part_list plan.image.sources))
    (sbat_if_in_place in_place (new_sbat plan.image.sources)) (stub_bytes view plan) name

-- the content has these bytes, and is whole in these files
pub record IsContent (files : Reading) (content : Option Content) (bytes : List ℕ) : Type 0 where
  pub bytes_are : content_or files content ≡ bytes
  pub whole : IfSome content (IsWhole files)

-- How many bytes of files are read to measure an image, at most: what its measured sections have loaded, where it is
-- asked for.
abbrev pub measuring_length : Bool → List ℕ → ℕ
measuring_length measure image = if measure then measured_length image else 0

-- how many bytes of files are read to measure what is built, at most; none where it is refused
abbrev pub built_measuring : Bool → Result BuiltImage Refusal → ℕ
built_measuring measure (Err why) = 0
built_measuring measure (Ok built) = measuring_length measure built.image

-- how many bytes of files are read to plan what the words name, at most
abbrev pub planning_length : Files → Bool → Result NamedFiles Refusal → ℕ
planning_length view measure (Err why) = 0
planning_length view measure (Ok named) =
    reading_length (contents view) named + built_measuring measure (build_named view named)

-- how many bytes of files are read to write what was built, at most: as many as it has
abbrev pub built_length : Result BuiltImage Refusal → ℕ
built_length (Err why) = 0
built_length (Ok built) = length built.image
