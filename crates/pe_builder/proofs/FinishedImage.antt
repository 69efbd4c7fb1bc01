-- The finished image reads as PE.
use Rattle.std.proofs.Common.{◌≡◌, ◌<◌, ◌≤◌, ℕ, zero, suc, List, [], ◌∷◌, length, set, max, Ok, sym, ap, subst, ◌∙◌, arith, Option, Some, None, option_map}
use Rattle.pe_reader.specs.declared.section.Section.{Section}
use Rattle.pe_reader.specs.Prelude.{Headers, pe_of}
use Rattle.pe_reader.proofs.Shape.{stages-shape, pe_of-stages}
use Rattle.pe_builder.proofs.Fits.{FitsSection, HasImage}
use Rattle.pe_builder.specs.declared.size.PartSize.{PartSize}
use Rattle.pe_builder.specs.Layout.{virtual_end, end_after, new_sections}
use Rattle.pe_builder.specs.Replaced.{sbat_index, resized_section, with_sbat_size, with_content}
use Rattle.pe_builder.specs.Image.{finished_image, finished_headers}
use Rattle.pe_builder.specs.Laws.{HasFinished}
use Rattle.pe_builder.proofs.Appending.{le-end_after, end_after-append, le-length_after}
use Rattle.pe_builder.proofs.Totals.{buildable_image, buildable_sbat}
use Rattle.pe_builder.proofs.Replacing.{pe_of-with_content}
use Rattle.pe_builder.proofs.PlannedIs.{stands, length-with_content}
use Rattle.pe_builder.proofs.Grown.{pe_of-image}

-- where nothing is refused there is an image
pub has_finished : (h : Headers) (sizes : List PartSize) (contents : List (List ℕ)) (sbat : Option (List ℕ)) (stub : List ℕ)
    → HasFinished h sizes contents sbat stub → HasImage (with_sbat_size h (option_map length sbat)) (length stub) sizes
has_finished h sizes contents sbat stub f =
    buildable_image h (length stub) sizes (option_map length sbat) f.buildable

-- a section ends before the end of all
end_before : (a : ℕ) (sections : List Section) (i : ℕ) (s : Section) → i < length sections → virtual_end s ≤ end_after a (set sections i s)
unfolding end_after
end_before a [] i s h = absurd (omega arith)
end_before a (x ∷ xs) zero s h = omega (arith, le-end_after (max a (virtual_end s)) xs)
end_before a (x ∷ xs) (suc i) s h = end_before (max a (virtual_end x)) xs i s (omega arith)

small_stub : (h : Headers) (n : ℕ) (sizes : List PartSize) → HasImage h n sizes → n ≤ 268435456
small_stub h n sizes has = omega (arith, le-length_after h.head n sizes, has.file_length)

-- the new `.sbat` fits its section
pub fits_section : (h : Headers) (sizes : List PartSize) (contents : List (List ℕ)) (sbat stub : List ℕ)
    → HasFinished h sizes contents (Some sbat) stub → FitsSection h (sbat_index h) sbat
fits_section h sizes contents sbat stub f =
    let has = has_finished h sizes contents (Some sbat) stub f in
    let fits = buildable_sbat h (length stub) sizes (Some (length sbat)) f.buildable in
    let st = stands h stub (length sbat) (stages-shape stub h (pe_of-stages stub h f.reads)) fits in
    let changed = with_sbat_size h (Some (length sbat)) in
    let s = resized_section h (sbat_index h) (length sbat) in
    let new = new_sections changed (length stub) sizes in
    let all = end_before h.head.header_size h.sections (sbat_index h) s fits.2 in
    let more = le-end_after (end_after h.head.header_size changed.sections) new in
    let whole = end_after-append h.head.header_size changed.sections new in
    let image = has.image_size in
    let room = st.room in
    let raw = st.raw in
    record {
      inside = fits.2;
      some = fits.0;
      room = fits.1;
      size = omega (arith, small_stub changed (length stub) sizes has);
      memory = omega (arith, all, more, whole, image);
    }

-- The finished image reads as PE.
pub pe_of-finished_image : (h : Headers) (sizes : List PartSize) (contents : List (List ℕ)) (sbat : Option (List ℕ)) (stub : List ℕ)
    → HasFinished h sizes contents sbat stub
    → pe_of (finished_image h sizes contents sbat stub) ≡ Ok (finished_headers h (length stub) sizes (option_map length sbat))
pe_of-finished_image h sizes contents None stub f =
    pe_of-image stub h sizes contents f.reads (has_finished h sizes contents None stub f) f.lengths
pe_of-finished_image h sizes contents (Some sbat) stub f =
    let fits = fits_section h sizes contents sbat stub f in
    let changed = with_sbat_size h (Some (length sbat)) in
    let new_stub = with_content h (sbat_index h) sbat stub in
    let sbat_fits = buildable_sbat h (length stub) sizes (Some (length sbat)) f.buildable in
    let len = length-with_content h sbat stub (stands h stub (length sbat) (stages-shape stub h (pe_of-stages stub h f.reads)) sbat_fits) in
    let H : ℕ → Type 0 = λ k. HasImage changed k sizes in
    pe_of-image new_stub changed sizes contents (pe_of-with_content stub sbat h (sbat_index h) f.reads fits) (subst H (sym len) (has_finished h sizes contents (Some sbat) stub f)) f.lengths
    ∙ ap (λ (k : ℕ). Ok (finished_headers h k sizes (Some (length sbat)))) len
