-- Whether a section of a name has loaded bytes, by its range.
use Rattle.std.proofs.Common.{◌≡◌, ◌<◌, ◌+◌, ℕ, false, not, List, length, Some, None, Ok, position, sym, ap, ◌∙◌, ◌==◌}
use Rattle.pe_reader.specs.declared.section.LoadedRange.{LoadedRange}
use Rattle.pe_reader.specs.Prelude.{Headers, pe_of, is_named, section_at_index, range_of}
use Rattle.pe_reader.proofs.Finding.{loaded_bytes-none}
use Rattle.pe_reader.proofs.Ranges.{length-bytes_in}
use Rattle.stub_replay.proofs.Ranges.{found_range}
use Rattle.image_commands.specs.Said.{has_loaded}

pub none_loaded : (bytes name : List ℕ) (h : Headers) → pe_of bytes ≡ Ok h → position (is_named name) h.sections ≡ None → false ≡ has_loaded bytes name
none_loaded bytes name h reads at = sym (ap (λ (l : List ℕ). not (length l == 0)) (loaded_bytes-none bytes name h reads at))

pub some_loaded : (bytes name : List ℕ) (h : Headers) (i : ℕ) (r : LoadedRange) → pe_of bytes ≡ Ok h → position (is_named name) h.sections ≡ Some i
    → i < length h.sections → r ≡ range_of (section_at_index h.sections i) → not (r.length + r.zeros == 0) ≡ has_loaded bytes name
some_loaded bytes name h i r reads at inside is =
    let range = found_range bytes name h i r reads at inside is in
    ap (λ (n : ℕ). not (n == 0)) (sym (ap length range.bytes ∙ length-bytes_in bytes r range.inside))
