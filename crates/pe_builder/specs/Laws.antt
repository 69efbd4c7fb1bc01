-- What holds of every finished image.
use Rattle.std.specs.Prelude.{◌≡◌, ℕ, List, length, map, get_or, option_map, Option, Some, None, Ok, if◌then◌else◌}
use Rattle.std.specs.List.{find}
use Rattle.std.specs.Str.{bytes_eq}
use Rattle.pe_reader.specs.Grammar.{Headers, pe_of}
use Rattle.pe_reader.specs.LoadedBytes.{is_named, loaded_bytes}
use Rattle.pe_builder.specs.declared.size.PartSize.{PartSize}
use Rattle.pe_builder.specs.Layout.{head_with, length_after, new_sections}
use Rattle.pe_builder.specs.Replaced.{sbat_name}
use Rattle.pe_builder.specs.Refusals.{IsBuildable, image_size, initialized_size}
use Rattle.pe_builder.specs.Image.{content_named, loaded_or_part, finished_image, finished_headers}
use Rattle.pe_builder.specs.Bytes.{finished_byte}

-- There is a finished image: the stub reads with these headers, nothing is refused, and the contents have the parts'
-- lengths.
pub record HasFinished (h : Headers) (sizes : List PartSize) (contents : List (List ℕ)) (sbat : Option (List ℕ))
    (stub : List ℕ) : Type 0 where
  pub reads : pe_of stub ≡ Ok h
  pub buildable : IsBuildable h (length stub) sizes (option_map length sbat)
  pub lengths : map length contents ≡ map (λ p. p.length) sizes

-- The finished image is again a PE32+ file, with the stub's sections and the new ones.
abbrev pub ImageReads : Type 0
ImageReads = (h : Headers) (sizes : List PartSize) (contents : List (List ℕ)) (sbat : Option (List ℕ)) (stub : List ℕ) →
    HasFinished h sizes contents sbat stub →
    pe_of (finished_image h sizes contents sbat stub)
    ≡ Ok (finished_headers h (length stub) sizes (option_map length sbat))

-- The finished image, place by place.
pub record IsByPlace (h : Headers) (sizes : List PartSize) (contents : List (List ℕ)) (sbat : Option (List ℕ))
    (stub : List ℕ) : Type 0 where
  pub length_is : length (finished_image h sizes contents sbat stub) ≡ length_after h.head (length stub) sizes
  pub byte_is : (k : ℕ)
      → get_or (finished_image h sizes contents sbat stub) k 0 ≡ finished_byte h sizes contents sbat stub k

-- The finished image has the stated length, and the stated byte at each place.
abbrev pub ImageByPlace : Type 0
ImageByPlace =
    (h : Headers) (sizes : List PartSize) (contents : List (List ℕ)) (sbat : Option (List ℕ)) (stub : List ℕ) →
    HasFinished h sizes contents sbat stub → IsByPlace h sizes contents sbat stub

-- What the finished image has loaded of a name: the new `.sbat` of that name, else what the stub has by its first
-- section of that name, else the first part of that name, and nothing where there is none.
abbrev pub finished_loaded : Headers → List PartSize → List (List ℕ) → Option (List ℕ) → List ℕ → List ℕ → List ℕ
finished_loaded h sizes contents None stub name =
    loaded_or_part stub (find (is_named name) h.sections) (content_named name sizes contents)
finished_loaded h sizes contents (Some sbat) stub name =
    if bytes_eq sbat_name name then sbat else loaded_or_part stub (find (is_named name) h.sections)
    (content_named name sizes contents)

-- The finished image has loaded of each name the new `.sbat` of that name, what the stub had, or the part.
abbrev pub ImageLoads : Type 0
ImageLoads = (h : Headers) (sizes : List PartSize) (contents : List (List ℕ)) (sbat : Option (List ℕ)) (stub : List ℕ) →
    HasFinished h sizes contents sbat stub → (name : List ℕ) →
    loaded_bytes (finished_image h sizes contents sbat stub) name ≡ finished_loaded h sizes contents sbat stub name

-- The numbers that the refusals go by are those of the finished headers: SizeOfImage by the end of the last section and
-- SizeOfInitializedData by the lengths of the parts.
abbrev pub SizesAgree : Type 0
SizesAgree = (h : Headers) (stub_length : ℕ) (parts : List PartSize) →
    (image_size h parts ≡ (head_with h (new_sections h stub_length parts)).image_size)
    × (initialized_size h parts ≡ (head_with h (new_sections h stub_length parts)).initialized_size)
