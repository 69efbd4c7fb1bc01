-- What the finished image has loaded, by name.
use Rattle.std.proofs.Common.{◌≡◌, ◌≢◌, ◌<◌, ◌⊎◌, inl, inr, ℕ, Bool, true, false, List, length, set, position, Ok, refl, sym, ap, subst, ◌∙◌, arith, Option, Some, None, unwrap_or, not, if◌then◌else◌, bytes_eq}
use Rattle.std.specs.List.{find, position_or_len}
use Rattle.std.proofs.lemmas.Bool.{cases_lt, cases_Bool, false≢true}
use Rattle.std.proofs.lemmas.Bool.Decides.{nat_tests}
use Rattle.std.proofs.lemmas.Option.{slice_get_past, slice_get-get_or}
use Rattle.std.proofs.lemmas.List.Folds.{find_at, find-set, find_past}
use Rattle.std.proofs.lemmas.List.Sums.{passes_at_first, prefix_len-le-length}
use Rattle.std.proofs.lemmas.Slice.Eq.{bytes_eq-Decides}
use Rattle.pe_reader.specs.declared.section.Section.{Section}
use Rattle.pe_reader.specs.Prelude.{Headers, pe_of, is_named, section_at_index, no_section, loaded_bytes}
use Rattle.boot_base.specs.Names.{short_name}
use Rattle.pe_reader.proofs.Shape.{stages-shape, pe_of-stages}
use Rattle.pe_builder.proofs.Fits.{FitsSection, HasImage}
use Rattle.pe_builder.specs.declared.size.PartSize.{PartSize}
use Rattle.pe_builder.specs.Replaced.{sbat_name, sbat_index, resized_section, with_sbat_size, with_content}
use Rattle.pe_builder.specs.Image.{content_named, loaded_or_part, finished_image}
use Rattle.pe_builder.specs.Laws.{HasFinished, finished_loaded}
use Rattle.pe_builder.proofs.Replacing.{pe_of-with_content}
use Rattle.pe_builder.proofs.ReplacedLoads.{loaded_by-replaced, loaded_by-others}
use Rattle.pe_builder.proofs.PlannedIs.{stands, length-with_content}
use Rattle.pe_builder.proofs.Totals.{buildable_sbat}
use Rattle.pe_builder.proofs.FinishedImage.{has_finished, fits_section}
use Rattle.pe_builder.proofs.Kept.{loaded_bytes-image}

-- the index of the first section that passes
index_is : (p : Section → Bool) (xs : List Section) → unwrap_or (position p xs) (length xs) ≡ position_or_len p xs
index_is p xs =
    let most = prefix_len-le-length (λ x. not (p x)) xs in
    grind (arith, nat_tests, most)

-- what a search finds
record Found (p : Section → Bool) (xs : List Section) : Type 0 where
  index : ℕ
  inside : index < length xs
  passes : p (section_at_index xs index) ≡ true
  found : find p xs ≡ Some (section_at_index xs index)

search_ends : (p : Section → Bool) (xs : List Section) → (find p xs ≡ None) ⊎ Found p xs
search_ends p xs = elim (cases_lt (position_or_len p xs) (length xs)) [
  | inl inside ↦ inr (record {
    index = position_or_len p xs;
    inside = inside;
    passes = passes_at_first p xs no_section inside;
    found = find_at p xs ∙ slice_get-get_or xs (position_or_len p xs) no_section inside;
  })
  | inr none ↦ inl (find_at p xs ∙ slice_get_past xs (position_or_len p xs) none)
]

-- the section that is replaced has the name `.sbat`
sbat_is_named : (h : Headers) → sbat_index h < length h.sections → is_named sbat_name (section_at_index h.sections (sbat_index h)) ≡ true
sbat_is_named h inside =
    let at = index_is (is_named sbat_name) h.sections in
    let P : ℕ → Type 0 = λ i. is_named sbat_name (section_at_index h.sections i) ≡ true in
    subst P (sym at) (passes_at_first (is_named sbat_name) h.sections no_section (omega (arith, at)))

-- and no other name
other_name : (s : Section) (name : List ℕ) → is_named sbat_name s ≡ true → bytes_eq sbat_name name ≡ false → is_named name s ≡ false
other_name s name is other = elim (cases_Bool (is_named name s)) [
  | inl named ↦
      let a : short_name s.name ≡ sbat_name = (bytes_eq-Decides (short_name s.name) sbat_name).0 is in
      let b : short_name s.name ≡ name = (bytes_eq-Decides (short_name s.name) name).0 named in
      absurd (false≢true (sym other ∙ (bytes_eq-Decides sbat_name name).1 (sym a ∙ b)))
  | inr unnamed ↦ unnamed
]

-- what the stub with a new `.sbat` has loaded, or the part
replaced_loads : (h : Headers) (sbat stub name content : List ℕ) → pe_of stub ≡ Ok h → FitsSection h (sbat_index h) sbat
    → loaded_or_part (with_content h (sbat_index h) sbat stub) (find (is_named name) (with_sbat_size h (Some (length sbat))).sections) content
    ≡ (if bytes_eq sbat_name name then sbat else loaded_or_part stub (find (is_named name) h.sections) content)
unfolding loaded_or_part
replaced_loads h sbat stub name content e fits =
    let xs = h.sections in
    let i = sbat_index h in
    let s = resized_section h i (length sbat) in
    let changed = with_content h i sbat stub in
    let is_sbat = sbat_is_named h fits.inside in
    elim (cases_Bool (bytes_eq sbat_name name)) [
      | inl same ↦
          let named : sbat_name ≡ name = (bytes_eq-Decides sbat_name name).0 same in
          let N : List ℕ → Type 0 = λ n. find (is_named n) (set xs i s) ≡ Some s in
          let at : find (is_named name) (set xs i s) ≡ Some s = subst N named (find-set (is_named sbat_name) xs i s (index_is (is_named sbat_name) xs) fits.inside is_sbat) in
          rw (same, at) (loaded_by-replaced stub sbat h i e fits)
      | inr other ↦
          let not_here = other_name (section_at_index xs i) name is_sbat other in
          let past : find (is_named name) (set xs i s) ≡ find (is_named name) xs = find_past (is_named name) xs i s no_section not_here not_here in
          rw (other, past) (
          elim (search_ends (is_named name) xs) [
            | inl none ↦ rw none refl
            | inr found ↦
                let apart : found.index ≢ i = λ at. false≢true (sym not_here ∙ ap (λ (j : ℕ). is_named name (section_at_index xs j)) (sym at) ∙ found.passes) in
                rw found.found (loaded_by-others stub sbat h i found.index e fits apart found.inside)
          ])
    ]

-- what the finished image has loaded of a name
pub loaded_bytes-finished_image : (h : Headers) (sizes : List PartSize) (contents : List (List ℕ)) (sbat : Option (List ℕ)) (stub : List ℕ)
    → HasFinished h sizes contents sbat stub → (name : List ℕ)
    → loaded_bytes (finished_image h sizes contents sbat stub) name ≡ finished_loaded h sizes contents sbat stub name
loaded_bytes-finished_image h sizes contents None stub f name =
    loaded_bytes-image stub h sizes contents name f.reads (has_finished h sizes contents None stub f) f.lengths
loaded_bytes-finished_image h sizes contents (Some sbat) stub f name =
    let fits = fits_section h sizes contents sbat stub f in
    let changed = with_sbat_size h (Some (length sbat)) in
    let new_stub = with_content h (sbat_index h) sbat stub in
    let sbat_fits = buildable_sbat h (length stub) sizes (Some (length sbat)) f.buildable in
    let len = length-with_content h sbat stub (stands h stub (length sbat) (stages-shape stub h (pe_of-stages stub h f.reads)) sbat_fits) in
    let H : ℕ → Type 0 = λ k. HasImage changed k sizes in
    loaded_bytes-image new_stub changed sizes contents name (pe_of-with_content stub sbat h (sbat_index h) f.reads fits)
    (subst H (sym len) (has_finished h sizes contents (Some sbat) stub f)) f.lengths
    ∙ replaced_loads h sbat stub name (content_named name sizes contents) f.reads fits
