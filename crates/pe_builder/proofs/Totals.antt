-- The sums behind the new sections.
use Rattle.std.proofs.Common.{◌≡◌, ◌<◌, ◌≤◌, ◌+◌, ◌*◌, ℕ, zero, suc, max, List, [], ◌∷◌, ◌++◌, length, take, drop, set, refl, sym, ap, subst, ◌∙◌, arith, Bool, true, false, Option, Some, None, sum_by}
use Rattle.pe_builder.proofs.Fits.{FitsSbat, HasImage}
use Rattle.pe_builder.specs.declared.fault.LayoutFault.{LayoutFault}
use Rattle.pe_builder.specs.declared.fault.LayoutFault.TheVariants.{SignedStub}
use Rattle.std.specs.List.{AllByRecursion}
use Rattle.std.proofs.lemmas.Bool.Decides.{nat_tests}
use Rattle.std.proofs.lemmas.List.Sums.{sum_by-cons}
use Rattle.std.specs.Int.{next_multiple_of}
use Rattle.pe_reader.specs.Prelude.{Headers, ReadFrom, headers_of}
use Rattle.pe_reader.specs.declared.pe.Pe.{Pe}
use Rattle.pe_reader.proofs.Shape.{stages-shape, pe_of-stages}
use Rattle.pe_reader.specs.declared.head.Head.{Head}
use Rattle.pe_reader.specs.declared.section.Section.{Section}
use Rattle.pe_builder.specs.declared.size.PartSize.{PartSize}
use Rattle.pe_builder.specs.Layout.{virtual_end, end_after, section_for, sections_for, raw_end, length_after, address_after, new_sections, FitsPart}
use Rattle.pe_builder.proofs.Appending.{end_after-append}
use Rattle.pe_builder.specs.Refusals.{IsBuildable, refuse, or_else, first_taken, first_refusal, sbat_room, sbat_refusal, image_size, initialized_size, size_refusal}
use Rattle.pe_builder.specs.Replaced.{with_sbat_size, MayReplace}

-- the address behind the new sections
pub end_after-sections_for : (h : Head) (r a : ℕ) (parts : List PartSize) → end_after a (sections_for h r a parts) ≡ address_after h a parts
unfolding end_after sections_for address_after
end_after-sections_for h r a [] = refl
end_after-sections_for h r a (p ∷ ps) =
    let s = section_for h r a p in
    let top : max a (virtual_end s) ≡ virtual_end s = omega arith in
    ap (λ (k : ℕ). end_after k (sections_for h (raw_end s) (virtual_end s) ps)) top ∙ end_after-sections_for h (raw_end s) (virtual_end s) ps

pub le-address_after : (h : Head) (a : ℕ) (parts : List PartSize) → a ≤ address_after h a parts
unfolding address_after
le-address_after h a [] = omega arith
le-address_after h a (p ∷ ps) = omega (arith, le-address_after h (next_multiple_of a h.section_alignment + p.length) ps)

-- the new sections hold the parts' bytes
pub sum-sections_for : (h : Head) (r a : ℕ) (parts : List PartSize) → sum_by (λ s. s.virtual_size) (sections_for h r a parts) ≡ sum_by (λ p. p.length) parts
unfolding sections_for
sum-sections_for h r a [] = refl
sum-sections_for h r a (p ∷ ps) =
    let s = section_for h r a p in
    sum_by-cons (λ (x : Section). x.virtual_size) s (sections_for h (raw_end s) (virtual_end s) ps)
    ∙ ap (λ (k : ℕ). p.length + k) (sum-sections_for h (raw_end s) (virtual_end s) ps)
    ∙ sym (sum_by-cons (λ (x : PartSize). x.length) p ps)

not_signed : (b : Bool) (rest : Option LayoutFault) → refuse b SignedStub rest ≡ None → rest ≡ None
not_signed true rest e = cc
not_signed false rest e = e

pub record Sizes (h : Headers) (n : ℕ) (parts : List PartSize) : Type 0 where
  pub room : h.head.table_place + 40 * (h.head.section_count + length parts) ≤ h.head.header_size
  pub few : h.head.section_count + length parts ≤ 96
  pub image : image_size h parts < 4294967296
  pub initialized : initialized_size h parts < 4294967296
  pub file : length_after h.head n parts ≤ 268435456

-- where no size is refused there is an image
pub image_sizes : (h : Headers) (n : ℕ) (parts : List PartSize) → size_refusal h n parts ≡ None → Sizes h n parts
unfolding size_refusal
image_sizes h n parts e = record {
  room = grind (arith, nat_tests);
  few = grind (arith, nat_tests);
  image = grind (arith, nat_tests);
  initialized = grind (arith, nat_tests);
  file = grind (arith, nat_tests);
}

pub has_image : (h : Headers) (n : ℕ) (parts : List PartSize) → AllByRecursion FitsPart parts → size_refusal h n parts ≡ None → HasImage h n parts
has_image h n parts fit e =
    let s = image_sizes h n parts e in
    let new = new_sections h n parts in
    let a = end_after h.head.header_size h.sections in
    let whole : end_after h.head.header_size (h.sections ++ new) ≡ address_after h.head a parts =
    end_after-append h.head.header_size h.sections new ∙ end_after-sections_for h.head n a parts in
    record {
      fit = fit;
      room = s.room;
      few = s.few;
      image_size = rw whole s.image;
      initialized_size = rw (sum-sections_for h.head n a parts) s.initialized;
      file_length = s.file;
    }

taken : (o rest : Option LayoutFault) → or_else o rest ≡ None → (o ≡ None) × (rest ≡ None)
taken None rest e = (refl, e)
taken (Some f) rest e = cc

-- where nothing is refused, no `.sbat` and no size is
pub sbat_none : (h : Headers) (n : ℕ) (parts : List PartSize) (sbat : Option ℕ) → first_refusal h n parts sbat ≡ None → sbat_refusal h sbat ≡ None
unfolding first_refusal
sbat_none h n parts sbat e = (taken (sbat_refusal h sbat) _ (taken (first_taken h.sections [] parts) _ (not_signed _ _ e)).1).0

pub size_none : (h : Headers) (n : ℕ) (parts : List PartSize) (sbat : Option ℕ) → first_refusal h n parts sbat ≡ None
    → size_refusal (with_sbat_size h sbat) n parts ≡ None
unfolding first_refusal
size_none h n parts sbat e = (taken (sbat_refusal h sbat) _ (taken (first_taken h.sections [] parts) _ (not_signed _ _ e)).1).1

-- a `.sbat` that isn't refused has room
pub sbat_room_is : (h : Headers) (size : ℕ) → sbat_refusal h (Some size) ≡ None → size ≤ sbat_room h
sbat_room_is h size e = grind (arith, nat_tests)

pub fits_sbat : (h : Headers) (sbat : Option ℕ) → MayReplace h sbat → sbat_refusal h sbat ≡ None → FitsSbat h sbat
fits_sbat h None may e = tt
fits_sbat h (Some size) may e = (may.0, sbat_room_is h size e, may.1)

-- what it takes to be buildable, in numbers
pub buildable_image : (h : Headers) (n : ℕ) (parts : List PartSize) (sbat : Option ℕ) → IsBuildable h n parts sbat → HasImage (with_sbat_size h sbat) n parts
buildable_image h n parts sbat b = has_image (with_sbat_size h sbat) n parts b.fit (size_none h n parts sbat b.not_refused)

pub buildable_sbat : (h : Headers) (n : ℕ) (parts : List PartSize) (sbat : Option ℕ) → IsBuildable h n parts sbat → FitsSbat h sbat
buildable_sbat h n parts sbat b = fits_sbat h sbat b.may_replace (sbat_none h n parts sbat b.not_refused)

-- the sizes by the address behind the stub's sections
pub record Numbers (h : Headers) (n start : ℕ) (parts : List PartSize) : Type 0 where
  pub few : h.head.section_count + length parts ≤ 96
  pub begin : start < 4294967296
  pub memory : address_after h.head start parts < 4294967296
  pub image : next_multiple_of (address_after h.head start parts) h.head.section_alignment < 4294967296
  pub initialized : h.head.initialized_size + sum_by (λ p. p.length) parts < 4294967296
  pub file : length_after h.head n parts < 4294967296

pub numbers : (h : Headers) (n start : ℕ) (parts : List PartSize) → start ≡ end_after h.head.header_size h.sections
    → size_refusal h n parts ≡ None → Numbers h n start parts
numbers h n start parts at e =
    let s = image_sizes h n parts e in
    let l = le-address_after h.head start parts in
    let P : ℕ → Type 0 = λ k. next_multiple_of (address_after h.head k parts) h.head.section_alignment < 4294967296 in
    let image : P start = subst P (sym at) s.image in
    record {
      few = s.few;
      begin = omega arith;
      memory = omega arith;
      image = image;
      initialized = s.initialized;
      file = omega (arith, s.file);
    }

-- the sizes by which a plan is made
pub plan_numbers : (pe : Pe) (n start : ℕ) (parts : List PartSize) (sbat : Option ℕ)
    → start ≡ end_after (headers_of pe).head.header_size (with_sbat_size (headers_of pe) sbat).sections
    → first_refusal (headers_of pe) n parts sbat ≡ None → Numbers (with_sbat_size (headers_of pe) sbat) n start parts
plan_numbers pe n start parts sbat at e = numbers (with_sbat_size (headers_of pe) sbat) n start parts at (size_none (headers_of pe) n parts sbat e)

-- the headers of sections lie in the file
pub table_inside : (pe : Pe) (n : ℕ) → ReadFrom pe n → (headers_of pe).head.table_place + 40 * length (headers_of pe).sections ≤ n
table_inside pe n r =
    let h = headers_of pe in
    let shape = stages-shape r.bytes h (pe_of-stages r.bytes h r.reads) in
    let room = shape.room in
    let inside = shape.inside in
    let count = shape.count in
    let len = r.length_is in
    omega arith

-- the end of sections one of which has another size
pub end_after-set : (a : ℕ) (xs : List Section) (i : ℕ) (s : Section) → i < length xs
    → end_after a (set xs i s) ≡ end_after (max (end_after a (take i xs)) (virtual_end s)) (drop (i + 1) xs)
unfolding end_after
end_after-set a [] i s h = absurd (omega arith)
end_after-set a (x ∷ xs) zero s h = refl
end_after-set a (x ∷ xs) (suc i) s h =
    let next : suc i + 1 ≡ suc (i + 1) = omega arith in
    rw next (end_after-set (max a (virtual_end x)) xs i s (omega arith))
