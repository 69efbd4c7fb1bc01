-- The loaded bytes of a section are at most 268,435,456.
use Rattle.std.proofs.Common.{◌≡◌, ℕ, zero, suc, ◌+◌, ◌*◌, ◌-◌, ◌<◌, ◌≤◌, ◌^◌, min, List, [], ◌∷◌, ◌++◌, length, drop, get_or, map, replicate, Ok, arith, subst, length-append, All}
use Rattle.std.proofs.lemmas.Bool.Decides.{nat_tests}
use Rattle.std.proofs.lemmas.List.{length-replicate, length-take}
use Rattle.std.proofs.lemmas.List.Elements.{All-map, All-nil, All-push}
use Rattle.pe_reader.specs.Prelude.{part, Headers, check_section, pe_of, section_at, sections_of, loaded_by}
use Rattle.pe_reader.specs.declared.section.Section.{Section}
use Rattle.pe_reader.proofs.Checks.{bind_ok}
use Rattle.pe_reader.proofs.Shape.{pe_of-stages}
use Rattle.image_commands.specs.Said.{section_facts}

abbrev IsSmall : Section → Type 0
IsSmall s = s.virtual_size ≤ 268435456

checked_small : (size headers : ℕ) (earlier : List Section) (place : ℕ) (s t : Section) → check_section size headers earlier place s ≡ Ok t → IsSmall t
unfolding check_section
checked_small size headers earlier place s t is = grind (arith, nat_tests)

table_small : (size headers count place : ℕ) (earlier : List Section) (table : List ℕ) (found : List Section)
    → All IsSmall earlier → sections_of size headers count place earlier table ≡ Ok found → All IsSmall found
unfolding sections_of
table_small size headers zero place earlier table found all is = let same : earlier ≡ found = cc in subst (All IsSmall) same all
table_small size headers (suc count) place earlier table found all is =
    let read = bind_ok (check_section size headers earlier place (section_at table)) _ found is in
    table_small size headers count (place + 40) (earlier ++ read.0 ∷ []) (drop 40 table) found
    (All-push IsSmall earlier read.0 all (checked_small size headers earlier place (section_at table) read.0 read.1)) read.2

sections_small : (bytes : List ℕ) (headers : Headers) → pe_of bytes ≡ Ok headers → All IsSmall headers.sections
sections_small bytes headers is =
    table_small (length bytes) headers.head.header_size headers.head.section_count headers.head.table_place []
    (part bytes headers.head.table_place (40 * headers.head.section_count)) headers.sections (All-nil IsSmall) (pe_of-stages bytes headers is).sections_is

loaded_small : (bytes : List ℕ) (s : Section) → IsSmall s → length (loaded_by bytes s) < 2 ^ 64
loaded_small bytes s small =
    let count = min s.virtual_size s.raw_size in
    omega (
      arith,
      small,
      length-append (part bytes s.raw_place count) (replicate (s.virtual_size - count) 0),
      length-take count
          (drop s.raw_place bytes),
      length-replicate {A = ℕ} (s.virtual_size - count) 0,
    )

pub facts_fit : (bytes : List ℕ) (headers : Headers) → pe_of bytes ≡ Ok headers → All (λ section. section.size < 2 ^ 64) (map (section_facts bytes) headers.sections)
facts_fit bytes headers is =
    All-map (λ section. section.size < 2 ^ 64) (section_facts bytes) headers.sections
    (λ k d within. loaded_small bytes (get_or headers.sections k d) (sections_small bytes headers is k d within))
