-- Parts behind which the part of one more name is put, if its content is given.
use Rattle.std.proofs.Common.{◌≡◌, ℕ, List, [], ◌++◌, Bor, map, refl, ap, ◌∙◌, append-nil, All, IfSome, Option, Some, None, option_map}
use Rattle.std.proofs.lemmas.Grind.{flat_map-append}
use Rattle.std.proofs.lemmas.List.{map-append}
use Rattle.std.proofs.lemmas.List.Elements.{All-append, All-cons, All-nil}
use Rattle.uki_parts.specs.Pieces.{Reading}
use Rattle.stub_replay.specs.declared.measurable.Content.{Content}
use Rattle.stub_replay.specs.declared.measurable.Measurable.{Measurable}
use Rattle.stub_replay.specs.Measured.{section_items}
use Rattle.stub_replay.specs.Ordered.{as_part}
use Rattle.stub_replay.specs.Parts.{content_bytes, content_or, given_part, items_of, named_bytes}

-- the names with the bytes
pub named_pushed : (files : Reading) (parts : List Measurable) (name : Bor (List ℕ)) (content : Option Content)
    → map (named_bytes files) (parts ++ given_part name content) ≡ map (named_bytes files) parts ++ as_part name.now (option_map (content_bytes files) content)
named_pushed files parts name None = map-append (named_bytes files) parts []
named_pushed files parts name (Some content) = map-append (named_bytes files) parts (given_part name (Some content))

items_of_one : (files : Reading) (name : List ℕ) (content : Option Content) → items_of (as_part name (option_map (content_bytes files) content)) ≡ section_items name (content_or files content)
unfolding section_items
items_of_one files name None = refl
items_of_one files name (Some content) = append-nil (section_items name (content_bytes files content))

-- what is measured of them
pub items_pushed : (files : Reading) (parts : List Measurable) (name : Bor (List ℕ)) (content : Option Content)
    → items_of (map (named_bytes files) (parts ++ given_part name content)) ≡ items_of (map (named_bytes files) parts) ++ section_items name.now (content_or files content)
items_pushed files parts name content =
    ap items_of (named_pushed files parts name content)
    ∙ flat_map-append (λ (p : List ℕ × List ℕ). section_items p.0 p.1) (map (named_bytes files) parts) (as_part name.now (option_map (content_bytes files) content))
    ∙ ap (λ (l : List (List ℕ)). items_of (map (named_bytes files) parts) ++ l) (items_of_one files name.now content)

-- what holds of each content
pub contents_pushed : (P : Content → Type 0) (parts : List Measurable) (name : Bor (List ℕ)) (content : Option Content) → IfSome content P
    → All (λ (part : Measurable). P part.content) parts → All (λ (part : Measurable). P part.content) (parts ++ given_part name content)
contents_pushed P parts name None here before = All-append (λ (part : Measurable). P part.content) parts [] before (All-nil (λ (part : Measurable). P part.content))
contents_pushed P parts name (Some content) here before =
    let Q = λ (part : Measurable). P part.content in
    All-append Q parts (given_part name (Some content)) before (All-cons Q _ [] here (All-nil Q))
