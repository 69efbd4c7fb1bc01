-- The parts that words name stand in append order.
use Rattle.std.proofs.Common.{◌≡◌, ◌<◌, ◌≤◌, ℕ, List, [], ◌∷◌, ◌++◌, Result, Ok, refl, sym, ap, ◌∙◌, subst, zero, suc, map, get_or, length, arith, All, codes, option_map}
use Rattle.std.specs.List.{AllZip}
use Rattle.std.specs.List.Sorted.{IsNonDecreasingBy}
use Rattle.std.proofs.lemmas.List.{map-append}
use Rattle.std.proofs.lemmas.List.Elements.{All-cons, All-nil}
use Rattle.boot_base.specs.declared.refusal.Refusal.{Refusal}
use Rattle.command_plans.specs.Prelude.{path_in, each, if_given}
use Rattle.command_plans.proofs.Each.{bind_ok, each_cut, none_made}
use Rattle.tool_words.specs.declared.command.BuildWords.{BuildWords}
use Rattle.tool_words.specs.declared.command.Given.{Given}
use Rattle.tool_words.specs.declared.command.Given.TheVariants.{File}
use Rattle.uki_parts.specs.Kinds.{append_place}
use Rattle.uki_parts.specs.Parts.{part_place}
use Rattle.uki_parts.specs.declared.kind.PartKind.{PartKind}
use Rattle.uki_parts.specs.declared.kind.PartKind.TheVariants as kinds
use Rattle.uki_parts.specs.declared.name.SectionName.{SectionName}
use Rattle.uki_parts.specs.declared.part.Part.{Part}
use Rattle.image_build.specs.Building.{NamedFiles, NamedPart, WantedPart, clean, extra_part, given_list, named_as, named_files, named_part, part_named, section_of, source_of, sources_of, optional_part, wanted_parts}
use Rattle.image_build.specs.Reads.{PartFrom}
use Rattle.image_build.specs.declared.source.BuildSources.{BuildSources}
use Rattle.image_build.specs.declared.source.PartSources.{PartSources}

-- numbers that rise from a low one to a high one
abbrev pub Rises : ℕ → List ℕ → ℕ → Type 0
Rises low [] high = low ≤ high
Rises low (x ∷ xs) high = (low ≤ x) × Rises x xs high

lower : (low middle high : ℕ) (xs : List ℕ) → low ≤ middle → Rises middle xs high → Rises low xs high
lower low middle high [] below rises = omega (arith, below, rises)
lower low middle high (x ∷ xs) below rises = (omega (arith, below, rises.0), rises.1)

joined : (low middle high : ℕ) (xs ys : List ℕ) → Rises low xs middle → Rises middle ys high → Rises low (xs ++ ys) high
joined low middle high [] ys one two = lower low middle high ys one two
joined low middle high (x ∷ xs) ys one two = (one.0, joined x middle high xs ys one.1 two)

ends : (low high : ℕ) (xs : List ℕ) → Rises low xs high → low ≤ high
ends low high [] rises = rises
ends low high (x ∷ xs) rises = omega (arith, rises.0, ends x high xs rises.1)

at_least : {X : Type 0} (n : X → ℕ) (xs : List X) (low high : ℕ) → Rises low (map n xs) high → (j : ℕ) (d : X) → j < length xs → low ≤ n (get_or xs j d)
at_least n [] low high rises j d inside = absurd (omega (arith, inside))
at_least n (x ∷ xs) low high rises zero d inside = rises.0
at_least n (x ∷ xs) low high rises (suc j) d inside = omega (arith, rises.0, at_least n xs (n x) high rises.1 j d (omega (arith, inside)))

pub at_most : {X : Type 0} (n : X → ℕ) (xs : List X) (low high : ℕ) → Rises low (map n xs) high → All (λ x. n x ≤ high) xs
at_most n [] low high rises = All-nil (λ x. n x ≤ high)
at_most n (x ∷ xs) low high rises = All-cons (λ x. n x ≤ high) x xs (ends (n x) high (map n xs) rises.1) (at_most n xs (n x) high rises.1)

pub in_order : {X : Type 0} (n : X → ℕ) (xs : List X) (low high : ℕ) → Rises low (map n xs) high → IsNonDecreasingBy n xs
in_order n [] low high rises i j d before inside = absurd (omega (arith, inside))
in_order n (x ∷ xs) low high rises zero zero d before inside = omega arith
in_order n (x ∷ xs) low high rises zero (suc j) d before inside = at_least n xs (n x) high rises.1 j d (omega (arith, inside))
in_order n (x ∷ xs) low high rises (suc i) zero d before inside = absurd (omega (arith, before))
in_order n (x ∷ xs) low high rises (suc i) (suc j) d before inside = in_order n xs (n x) high rises.1 i j d (omega (arith, before)) (omega (arith, inside))

-- the places of what is wanted
abbrev wanted_place : WantedPart → ℕ
wanted_place part = append_place part.kind

one_more : (low : ℕ) (kind : PartKind) (name : List ℕ) (sources : List Given) (before : List WantedPart) → low ≤ append_place kind → Rises 0 (map wanted_place before) low
    → Rises 0 (map wanted_place (before ++ optional_part kind name sources)) (append_place kind)
one_more low kind name sources before next rises =
    subst (λ l. Rises 0 l (append_place kind)) (sym (map-append wanted_place before (optional_part kind name sources)))
    (joined 0 low (append_place kind) (map wanted_place before) (map wanted_place (optional_part kind name sources)) rises (here sources))
  where
    here : (sources : List Given) → Rises low (map wanted_place (optional_part kind name sources)) (append_place kind)
    here [] = next
    here (source ∷ more) = (next, omega arith)

extras : (sections : List (SectionName × Given)) → Rises (append_place kinds.Extra) (map wanted_place (map extra_part sections)) (append_place kinds.Extra)
extras [] = omega arith
extras (section ∷ sections) = (omega arith, extras sections)

with_extras : (low : ℕ) (before : List WantedPart) (sections : List (SectionName × Given)) → low ≤ append_place kinds.Extra → Rises 0 (map wanted_place before) low
    → Rises 0 (map wanted_place (before ++ map extra_part sections)) (append_place kinds.Extra)
with_extras low before sections next rises =
    let last = append_place kinds.Extra in
    subst (λ l. Rises 0 l last) (sym (map-append wanted_place before (map extra_part sections)))
    (joined 0 low last (map wanted_place before) (map wanted_place (map extra_part sections)) rises (lower low last last (map wanted_place (map extra_part sections)) next (extras sections)))

-- all of them rise
wanted_rise : (words : BuildWords) (sections : List (SectionName × Given)) → Rises 0 (map wanted_place (wanted_parts words sections)) (append_place kinds.Extra)
unfolding append_place
wanted_rise words sections =
    let osrel = one_more 0 kinds.Osrel (codes ".osrel") (given_list words.parts.osrel) [] (omega arith) (omega arith) in
    let cmdline = one_more _ kinds.Cmdline (codes ".cmdline") (given_list (option_map clean words.parts.cmdline)) _ (omega arith) osrel in
    let dtb = one_more _ kinds.Dtb (codes ".dtb") (given_list words.parts.dtb) _ (omega arith) cmdline in
    let uname = one_more _ kinds.Uname (codes ".uname") (given_list words.parts.uname) _ (omega arith) dtb in
    let splash = one_more _ kinds.Splash (codes ".splash") (given_list words.parts.splash) _ (omega arith) uname in
    let pcrpkey = one_more _ kinds.Pcrpkey (codes ".pcrpkey") (given_list words.parts.pcrpkey) _ (omega arith) splash in
    let initrd = one_more _ kinds.Initrd (codes ".initrd") (map File words.initrds) _ (omega arith) pcrpkey in
    let ucode = one_more _ kinds.Ucode (codes ".ucode") (given_list words.parts.ucode) _ (omega arith) initrd in
    with_extras _ _ sections (omega arith) ucode

-- what is named has the places of what is wanted
kept : {A B : Type 0} (f : A → Result B Refusal) (m : A → ℕ) (n : B → ℕ) (keeps : (x : A) (y : B) → f x ≡ Ok y → n y ≡ m x) (xs : List A) (ys : List B) → each f xs ≡ Ok ys → map n ys ≡ map m xs
kept f m n keeps [] ys done = sym (ap (map n) (none_made f ys done))
kept f m n keeps (x ∷ xs) ys done =
    let cut = each_cut f x xs ys done in
    ap (map n) cut.4 ∙ ap (λ (k : ℕ). k ∷ map n cut.1) (keeps x cut.0 cut.2) ∙ ap (λ (l : List ℕ). m x ∷ l) (kept f m n keeps xs cut.1 cut.3)

abbrev named_place : NamedPart → ℕ
named_place part = append_place part.kind

kind_kept : (part : WantedPart) (made : NamedPart) → sources_of part ≡ Ok made → named_place made ≡ wanted_place part
kind_kept part made is =
    let found = bind_ok (each source_of part.sources) (λ found. Ok (named_part part.kind part.name found)) made is in
    let same : named_part part.kind part.name found.0 ≡ made = cc found.2 in
    sym (ap named_place same)

parts_found : (words : BuildWords) (named : NamedFiles) → named_files words ≡ Ok named → (sections : List (SectionName × Given)) × (each sources_of (wanted_parts words sections) ≡ Ok named.parts)
parts_found words named is =
    let sections = bind_ok (each section_of words.sections) _ named is in
    let stub = bind_ok (path_in words.stub) _ named sections.2 in
    let linux = bind_ok (path_in words.linux) _ named stub.2 in
    let parts = bind_ok (each sources_of (wanted_parts words sections.0)) _ named linux.2 in
    let sbat = bind_ok (if_given source_of words.parts.sbat) _ named parts.2 in
    let output = bind_ok (path_in words.output) _ named sbat.2 in
    let same : (let all : NamedFiles = record { stub = stub.0; linux = linux.0; parts = parts.0; sbat = sbat.0; output = output.0 } in all) ≡ named = cc output.2 in
    (sections.0, parts.1 ∙ ap (λ (n : NamedFiles). Ok n.parts) same)

-- and so do the parts that are read of it
zipped : (sources : List PartSources) (parts : List Part) → AllZip PartFrom sources parts → map part_place parts ≡ map named_place (map part_named sources)
zipped [] [] all = refl
zipped [] (part ∷ parts) all = absurd all
zipped (source ∷ sources) [] all = absurd all
zipped (source ∷ sources) (part ∷ parts) all =
    ap (λ (kind : PartKind). append_place kind ∷ map part_place parts) all.0.kind ∙ ap (λ (l : List ℕ). append_place source.kind ∷ l) (zipped sources parts all.1)

pub parts_rise : (words : BuildWords) (found : BuildSources) (parts : List Part) → named_files words ≡ Ok (named_as found)
    → AllZip PartFrom found.parts.items parts → Rises 0 (map part_place parts) (append_place kinds.Extra)
parts_rise words found parts is all =
    let named = parts_found words (named_as found) is in
    let same = zipped found.parts.items parts all ∙ kept sources_of wanted_place named_place kind_kept (wanted_parts words named.0) (map part_named found.parts.items) named.1 in
    subst (λ (l : List ℕ). Rises 0 l (append_place kinds.Extra)) (sym same) (wanted_rise words named.0)
