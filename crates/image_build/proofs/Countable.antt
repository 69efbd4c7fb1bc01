-- How many parts and bytes the words of a build name.
use Rattle.std.proofs.Common.{◌≡◌, ◌≤◌, ◌+◌, ◌*◌, ◌^◌, ℕ, List, [], ◌∷◌, ◌++◌, length, drop, take, refl, sym, ap, subst, arith, length-append, length-drop, Ok, Option, Some, None, map, sum_by, count_by, position, ◌==◌}
use Rattle.std.specs.List.{AllByRecursion, AllZip}
use Rattle.std.proofs.lemmas.List.{length-map}
use Rattle.std.proofs.lemmas.List.Sums.{count_by-le-length, sum_by-append, sum_by-cons}
use Rattle.command_plans.specs.Prelude.{each, path_in}
use Rattle.command_plans.proofs.Each.{bind_ok, each_cut, each_length, none_made}
use Rattle.tool_words.specs.declared.command.Given.{Given}
use Rattle.tool_words.specs.declared.command.Given.TheVariants.{Inline, File}
use Rattle.tool_words.specs.Meaning.{inline_or_file}
use Rattle.uki_parts.specs.declared.kind.PartKind.{PartKind}
use Rattle.uki_parts.specs.declared.name.SectionName.{SectionName}
use Rattle.uki_parts.specs.declared.part.Part.{Part}
use Rattle.uki_parts.specs.Names.{padded_name, read_name}
use Rattle.word_grammar.specs.Grammar.{Word}
use Rattle.image_build.specs.declared.source.PartSources.{PartSources}
use Rattle.image_build.specs.declared.source.Source.{Source}
use Rattle.image_build.specs.declared.source.Source.TheVariants as sources
use Rattle.image_build.specs.Building.{NamedPart, WantedPart, extra_part, named_part, part_named, section_cut, section_name, section_of, source_of, sources_of, optional_part}
use Rattle.image_build.specs.Imaged.{is_filled}
use Rattle.image_build.specs.Reads.{PartFrom, source_limit, sources_limit}
use Rattle.image_build.proofs.OptionCounts.{AreShort, IsShortGiven, given_short}
use Rattle.image_build.proofs.WordCounts.{IsShort}

abbrev pub given_limit : Given → ℕ
given_limit (Inline text) = length text
given_limit (File word) = 268435456

abbrev pub wanted_limit : WantedPart → ℕ
wanted_limit part = sum_by given_limit part.sources + 3 * length part.sources

-- at most so many parts, of at most so many bytes
pub record AreLight (count : ℕ) (wants : List WantedPart) : Type 0 where
  pub few : length wants ≤ count
  pub light : sum_by wanted_limit wants ≤ count * 268435459

limit_short : (source : Given) → IsShortGiven source → given_limit source ≤ 268435456
limit_short (Inline text) short = short
limit_short (File word) short = omega arith

limits_short : (givens : List Given) → AllByRecursion IsShortGiven givens → sum_by given_limit givens ≤ length givens * 268435456
limits_short [] short = omega arith
limits_short (source ∷ givens) short = omega (arith, sum_by-cons given_limit source givens, limit_short source short.0, limits_short givens short.1)

pub light_wanted : (kind : PartKind) (name : List ℕ) (count : ℕ) (givens : List Given) → AreShort count givens → AreLight count (optional_part kind name givens)
light_wanted kind name count [] short = record { few = omega arith; light = omega arith }
light_wanted kind name count (source ∷ givens) short =
    let limits = limits_short (source ∷ givens) short.short in
    let few = short.few in
    record { few = omega (arith, few); light = omega (arith, few, limits, sum_by-cons wanted_limit (record { kind = kind; name = padded_name name; sources = source ∷ givens }) []) }

pub light_more : (a b : ℕ) (xs ys : List WantedPart) → AreLight a xs → AreLight b ys → AreLight (a + b) (xs ++ ys)
light_more a b xs ys first second = record {
  few = omega (arith, first.few, second.few, length-append xs ys);
  light = omega (arith, first.light, second.light, sum_by-append wanted_limit xs ys);
}

abbrev pub SectionIsShort : SectionName × Given → Type 0
SectionIsShort section = IsShortGiven section.1

pub light_sections : (count : ℕ) (sections : List (SectionName × Given)) → length sections ≤ count → AllByRecursion SectionIsShort sections → AreLight count (map extra_part sections)
light_sections count [] few short = record { few = omega arith; light = omega arith }
light_sections count (section ∷ sections) few short =
    let rest = light_sections (length sections) sections (omega arith) short.1 in
    let here = limit_short section.1 short.0 in
    let one = sum_by-cons given_limit section.1 [] in
    record {
      few = omega (arith, few, rest.few);
      light = omega (arith, few, rest.light, here, one, sum_by-cons wanted_limit (extra_part section) (map extra_part sections));
    }

-- a section's text is no longer than its word
cut_short : (value : List ℕ) (at : Option ℕ) (section : SectionName × Given) → IsShort value → section_cut value at ≡ Ok section → SectionIsShort section
cut_short value None section short is = cc
cut_short value (Some colon) section short is =
    let name = bind_ok (section_name (take colon value) (read_name (take colon value))) (λ name. Ok (name, inline_or_file (drop (colon + 1) value))) section is in
    let same : (name.0, inline_or_file (drop (colon + 1) value)) ≡ section = cc name.2 in
    subst SectionIsShort same (given_short (drop (colon + 1) value) (omega (arith, short, length-drop (colon + 1) value)))

pub sections_short : (values : List Word) (sections : List (SectionName × Given)) → AllByRecursion IsShort values → each section_of values ≡ Ok sections → AllByRecursion SectionIsShort sections
sections_short [] sections short is = subst (AllByRecursion SectionIsShort) (none_made section_of sections is) tt
sections_short (value ∷ values) sections short is =
    let cut = each_cut section_of value values sections is in
    let here : SectionIsShort cut.0 = cut_short value (position (λ byte. byte == 58) value) cut.0 short.0 cut.2 in
    subst (AllByRecursion SectionIsShort) (sym cut.4) (here, sections_short values cut.1 short.1 cut.3)

-- what is padded_name has the limits of what is wanted
source_same : (from : Given) (source : Source) → source_of from ≡ Ok source → source_limit source ≡ given_limit from
source_same (Inline text) source is = let same : sources.Said text ≡ source = cc is in ap source_limit (sym same)
source_same (File word) source is =
    let path = bind_ok (path_in word) _ source is in
    let same : sources.At path.0 ≡ source = cc path.2 in
    ap source_limit (sym same)

sources_same : (givens : List Given) (found : List Source) → each source_of givens ≡ Ok found → sum_by source_limit found ≡ sum_by given_limit givens
sources_same [] found is = ap (sum_by source_limit) (sym (none_made source_of found is))
sources_same (from ∷ givens) found is =
    let cut = each_cut source_of from givens found is in
    omega (
      arith,
      ap (sum_by source_limit) cut.4,
      sum_by-cons source_limit cut.0 cut.1,
      sum_by-cons given_limit from givens,
      source_same from cut.0 cut.2,
      sources_same givens cut.1 cut.3,
    )

abbrev pub named_limit : NamedPart → ℕ
named_limit part = sources_limit part.sources

part_same : (want : WantedPart) (part : NamedPart) → sources_of want ≡ Ok part → named_limit part ≡ wanted_limit want
part_same want part is =
    let found = bind_ok (each source_of want.sources) _ part is in
    let same : named_part want.kind want.name found.0 ≡ part = cc found.2 in
    omega (arith, ap named_limit same, sources_same want.sources found.0 found.1, each_length source_of want.sources found.0 found.1)

parts_same : (wants : List WantedPart) (parts : List NamedPart) → each sources_of wants ≡ Ok parts → sum_by named_limit parts ≡ sum_by wanted_limit wants
parts_same [] parts is = ap (sum_by named_limit) (sym (none_made sources_of parts is))
parts_same (want ∷ wants) parts is =
    let cut = each_cut sources_of want wants parts is in
    omega (
      arith,
      ap (sum_by named_limit) cut.4,
      sum_by-cons named_limit cut.0 cut.1,
      sum_by-cons wanted_limit want wants,
      part_same want cut.0 cut.2,
      parts_same wants cut.1 cut.3,
    )

-- at most so many parts are padded_name, of at most so many bytes
pub record AreBounded (count : ℕ) (parts : List NamedPart) : Type 0 where
  pub few : length parts ≤ count
  pub light : sum_by named_limit parts ≤ count * 268435459

pub bounded : (count : ℕ) (wants : List WantedPart) (parts : List NamedPart) → AreLight count wants → each sources_of wants ≡ Ok parts → AreBounded count parts
bounded count wants parts light is = record {
  few = omega (arith, light.few, each_length sources_of wants parts is);
  light = omega (arith, light.light, parts_same wants parts is);
}

-- the parts that are read have no more
zip_limits : (from : List PartSources) (parts : List Part) → AllZip PartFrom from parts → (length parts ≡ length from) × (sum_by (λ part. part.length) parts ≤ sum_by named_limit (map part_named from))
zip_limits [] [] all = (refl, omega arith)
zip_limits [] (part ∷ parts) all = absurd all
zip_limits (source ∷ from) [] all = absurd all
zip_limits (source ∷ from) (part ∷ parts) all =
    let rest = zip_limits from parts all.1 in
    let here = all.0 in (
      omega (arith, rest.0),
      omega (
        arith,
        rest.1,
        here.length_is,
        here.limit,
        sum_by-cons (λ (part : Part). part.length) part parts,
        sum_by-cons named_limit (part_named source) (map part_named from),
      ),
    )

pub record AreCounted (parts : List Part) : Type 0 where
  pub few : count_by is_filled parts ≤ 16777214
  pub total : sum_by (λ part. part.length) parts ≤ 2 ^ 61

pub counted : (from : List PartSources) (parts : List Part) → AllZip PartFrom from parts → AreBounded 16777214 (map part_named from) → AreCounted parts
counted from parts all bounds =
    let limits = zip_limits from parts all in
    let long = bounds.light in
    let few = bounds.few in
    record {
      few = omega (arith, limits.0, few, length-map from part_named, count_by-le-length is_filled parts);
      total = omega (arith, limits.1, long);
    }
