-- The loaded bytes of a section, by the range of the file that they stand in, and what is measured of them.
use Rattle.std.proofs.Common.{◌≡◌, ◌<◌, ◌≤◌, ℕ, List, [], ◌∷◌, ◌++◌, length, drop, Ok, refl, sym, ap, subst, arith, Some, position}
use Rattle.pe_reader.specs.declared.section.LoadedRange.{LoadedRange}
use Rattle.pe_reader.specs.Prelude.{Headers, pe_of, is_named, section_at_index, range_of, bytes_in, loaded_bytes}
use Rattle.pe_reader.proofs.Finding.{loaded_bytes-found}
use Rattle.pe_reader.proofs.Ranges.{length-bytes_in, range_inside}
use Rattle.stub_replay.specs.Measured.{section_items}

pub items_none : (name bytes : List ℕ) → length bytes ≡ 0 → section_items name bytes ≡ []
unfolding section_items
items_none name [] none = refl
items_none name (x ∷ bytes) none = absurd (omega (arith, none))

pub items_some : (name bytes : List ℕ) → 0 < length bytes → section_items name bytes ≡ (name ++ 0 ∷ []) ∷ bytes ∷ []
unfolding section_items
items_some name [] some = absurd (omega (arith, some))
items_some name (x ∷ bytes) some = refl

-- the loaded bytes of a name, by the range of the section that was found
pub record IsRange (file name : List ℕ) (r : LoadedRange) : Type 0 where
  pub inside : r.length ≤ length (drop r.place file)
  pub bytes : loaded_bytes file name ≡ bytes_in file r
  pub long : r.length ≤ length (loaded_bytes file name)

range_is : (file name : List ℕ) (r : LoadedRange) → r.length ≤ length (drop r.place file) → loaded_bytes file name ≡ bytes_in file r → IsRange file name r
range_is file name r inside bytes = record {
  inside = inside;
  bytes = bytes;
  long = omega (arith, ap length bytes, length-bytes_in file r inside);
}

pub found_range : (file name : List ℕ) (h : Headers) (i : ℕ) (r : LoadedRange) → pe_of file ≡ Ok h → position (is_named name) h.sections ≡ Some i
    → i < length h.sections → r ≡ range_of (section_at_index h.sections i) → IsRange file name r
found_range file name h i r reads at inside is =
    let P : LoadedRange → Type 0 = λ q. IsRange file name q in
    subst P (sym is) (range_is file name (range_of (section_at_index h.sections i)) (range_inside file h i reads inside) (loaded_bytes-found file name h i reads at))
