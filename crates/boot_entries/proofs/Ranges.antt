-- The loaded bytes of a section, by the range of the file that they stand in.
use Rattle.std.proofs.Common.{◌≡◌, ◌<◌, ◌+◌, ℕ, List, length, Ok, None, Some, sym, ap, subst, ◌∙◌, arith, position}
use Rattle.pe_reader.specs.declared.section.LoadedRange.{LoadedRange}
use Rattle.pe_reader.specs.Prelude.{Headers, pe_of, is_named, section_at_index, range_of, loaded_bytes}
use Rattle.pe_reader.proofs.Finding.{loaded_bytes-found, loaded_bytes-none}
use Rattle.pe_reader.proofs.Ranges.{length-bytes_in, range_inside}
use Rattle.boot_entries.specs.Ranges.{IsRange}

pub found_range : (file name : List ℕ) (h : Headers) (i : ℕ) (r : LoadedRange) → pe_of file ≡ Ok h → position (is_named name) h.sections ≡ Some i
    → i < length h.sections → r ≡ range_of (section_at_index h.sections i) → IsRange file name r
found_range file name h i r reads at inside is =
    let P : LoadedRange → Type 0 = λ q. IsRange file name q in
    subst P (sym is) (record { inside = range_inside file h i reads inside; bytes = loaded_bytes-found file name h i reads at })

-- the range where nothing stands
abbrev pub nowhere : LoadedRange
nowhere = record { place = 0; length = 0; zeros = 0 }

pub no_range : (file name : List ℕ) (h : Headers) → pe_of file ≡ Ok h → position (is_named name) h.sections ≡ None → IsRange file name nowhere
no_range file name h reads at = record { inside = omega arith; bytes = loaded_bytes-none file name h reads at }

-- how many loaded bytes there are
pub length-range : (file name : List ℕ) (r : LoadedRange) → IsRange file name r → length (loaded_bytes file name) ≡ r.length + r.zeros
length-range file name r range = ap length range.bytes ∙ length-bytes_in file r range.inside
