-- The plan of an image that is built of parts whose files are read.
use Rattle.std.specs.Prelude.{◌≡◌, ℕ, ◌≤◌, ◌<◌, ◌-◌, ◌==◌, ◌^◌, Bool, not, List, ◌∷◌, [], codes, length, map, min, All, count_by, sum_by, option_map, Option, Some, Result, Ok, Err}
use Rattle.std.specs.List.Sorted.{IsNonDecreasingBy}
use Rattle.boot_base.specs.Limits.{file_limit}
use Rattle.boot_base.specs.Paths.{Path}
use Rattle.boot_base.specs.declared.refusal.Refusal.{Refusal}
use Rattle.boot_machine.specs.Disk.{Files}
use Rattle.boot_machine.specs.Rows.{contents}
use Rattle.pe_reader.specs.Grammar.{Headers, pe_of}
use Rattle.uki_parts.specs.declared.kind.PartKind.TheVariants as kinds
use Rattle.uki_parts.specs.declared.part.Part.{Part}
use Rattle.uki_parts.specs.declared.piece.Piece.TheVariants as pieces
use Rattle.uki_parts.specs.Names.{padded_name}
use Rattle.uki_parts.specs.Kinds.{append_place}
use Rattle.uki_parts.specs.Parts.{part_place}
use Rattle.uki_parts.specs.Pieces.{HasSizes, Reading, bytes_of, total_length}
use Rattle.pe_builder.specs.declared.fault.LayoutFault.{LayoutFault}
use Rattle.pe_builder.specs.declared.fault.LayoutFault.TheVariants as faults
use Rattle.pe_builder.specs.Planned.{PlansImage, sbat_if_in_place}
use Rattle.pe_builder.specs.Refusals.{first_refusal}
use Rattle.pe_builder.specs.Replaced.{sbat_name}
use Rattle.pe_builder.specs.Sizes.{size_of}
use Rattle.image_writer.specs.Sourced.{IsPieced, IsSourced, new_sbat, part_list, planned_image, stub_path}
use Rattle.image_build.specs.declared.build_plan.ImagePlan.{ImagePlan}
use Rattle.image_build.specs.Building.{BuiltImage, builder_refusal, with_sbat_text}
use Rattle.image_build.specs.Reads.{part_as}

-- whether a part adds a section, as one without bytes doesn't
abbrev pub is_filled : Part → Bool
is_filled part = not (part.length == 0)

-- the part that holds an SBAT text
pub record IsSbatPart (part : Part) (text : List ℕ) : Type 0 where
  pub kind : part.kind ≡ kinds.Sbat
  pub name : part.name ≡ padded_name sbat_name
  pub pieces_are : part.pieces.items ≡ pieces.Bytes text ∷ []
  pub length_is : part.length ≡ length text

-- What an image is made of besides its stub and the SBAT text: parts that are appended before that text, in append
-- order, and the kernel.
pub record AreOrdered (parts : List Part) (linux : Part) : Type 0 where
  pub order : IsNonDecreasingBy part_place parts
  pub early : All (λ part. part_place part ≤ append_place kinds.Extra) parts
  pub kind : linux.kind ≡ kinds.Linux
  pub name : linux.name ≡ padded_name (codes ".linux")
  pub small : linux.length ≤ file_limit

-- The numbers of an image hold so many parts that add a section, so many bytes, and an SBAT text of that length.
pub record IsCountable (parts : List Part) (sbat : List ℕ) : Type 0 where
  pub few : count_by is_filled parts ≤ 16777214
  pub total : sum_by (λ part. part.length) parts ≤ 2 ^ 61
  pub text : length sbat < 2 ^ 32

-- the pieces of a part have the sizes that they say, which together are the part's, or the highest number of 64 bits
pub record IsSized (files : Reading) (part : Part) : Type 0 where
  pub sizes : HasSizes files part.pieces.items
  pub total : part.length ≡ min (total_length part.pieces.items) (2 ^ 64 - 1)

-- On a view the stub at a path has this length and reads with these headers, and the pieces of all parts have the sizes
-- that they say.
pub record AreFound (view : Files) (headers : Headers) (stub_length : ℕ) (stub : Path) (parts : List Part)
    (linux : Part) : Type 0 where
  pub length_is : length (contents view stub) ≡ stub_length
  pub reads : pe_of (contents view stub) ≡ Ok headers
  pub sized : All (IsSized (contents view)) parts
  pub linux_pieced : IsPieced (contents view) linux

-- what these parts and an SBAT text come to on a view
abbrev pub image_result : Files → Headers → Path → List Part → Part → List ℕ → Path → Result BuiltImage Refusal
image_result view headers stub parts linux sbat output =
    with_sbat_text output headers (contents view stub) (map (part_as (contents view)) parts)
    (bytes_of (contents view) linux.pieces.items) sbat

-- The plan was made for its sources on a view, and the image by it is the one that is meant; or the refusal is meant.
-- Without memory nothing is told.
abbrev pub Images : Files → (Path → Result BuiltImage Refusal) → Result ImagePlan LayoutFault → Type 0
Images view meant (Ok image) =
    IsSourced image.plan image.sources view
    × ((output : Path)
    → meant output ≡ Ok (record { output = output; image = planned_image image.plan image.sources view }))
Images view meant (Err faults.Memory) = Unit {0}
Images view meant (Err fault) =
    (output : Path) (why : Refusal) → builder_refusal output fault ≡ Some why → meant output ≡ Err why

-- the plan of an image of these parts, and its sources
pub record IsPlanOf (image : ImagePlan) (headers : Headers) (stub_length : ℕ) (stub : Path) (parts : List Part)
    (in_place : Option ℕ) (sbat : List ℕ) : Type 0 where
  pub plans : PlansImage image.plan headers stub_length (map size_of parts) in_place
  pub stub_is : stub_path image.sources ≡ stub
  pub parts_are : part_list image.sources ≡ parts
  pub sbat_is : new_sbat image.sources ≡ sbat

-- such a plan was made, or the first refusal is this, unless memory ran out
abbrev pub PlansParts : Headers → ℕ → Path → List Part → Option ℕ → List ℕ → Result ImagePlan LayoutFault → Type 0
PlansParts headers stub_length stub parts in_place sbat (Ok image) =
    IsPlanOf image headers stub_length stub parts in_place sbat
PlansParts headers stub_length stub parts in_place sbat (Err faults.Memory) = Unit {0}
PlansParts headers stub_length stub parts in_place sbat (Err fault) =
    first_refusal headers stub_length (map size_of parts) in_place ≡ Some fault

-- the plan is that of its own sources, with this stub
pub record IsOwnPlan (image : ImagePlan) (headers : Headers) (stub_length : ℕ) (stub : Path) : Type 0 where
  pub in_place : Option ℕ
  pub plans : PlansImage image.plan headers stub_length (map size_of (part_list image.sources)) in_place
  pub stub_is : stub_path image.sources ≡ stub
  pub sbat_length : option_map length (sbat_if_in_place in_place (new_sbat image.sources)) ≡ in_place
