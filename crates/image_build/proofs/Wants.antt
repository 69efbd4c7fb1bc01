-- Parts that are wanted, put behind others.
use Rattle.std.proofs.Common.{◌≡◌, ℕ, List, [], ◌∷◌, ◌++◌, Option, Some, None, is_some, unwrap_or, IsTrue, Result, Ok, Err, refl, sym, ap, ◌∙◌, ◌<◌, ◌+◌, subst, arith, append_assoc, append-nil, drop, get_or, length, map, take, option_map}
use Rattle.std.proofs.lemmas.List.{drop_more, map-append, take-append-drop, take_more}
use Rattle.boot_base.specs.declared.refusal.Refusal.{Refusal}
use Rattle.command_plans.specs.Prelude.{◌>>=◌, WordErrorFor, each}
use Rattle.command_plans.specs.declared.word_error.WordError.{WordError}
use Rattle.command_plans.specs.declared.word_error.WordError.TheVariants.{Memory, Refused}
use Rattle.tool_words.specs.declared.command.Given.{Given}
use Rattle.uki_parts.specs.Names.{padded_name}
use Rattle.uki_parts.specs.declared.kind.PartKind.{PartKind}
use Rattle.uki_parts.specs.declared.name.SectionName.{SectionName}
use Rattle.image_build.specs.declared.source.PartSources.{PartSources}
use Rattle.image_build.specs.declared.source.Source.{Source}
use Rattle.image_build.specs.Building.{NamedPart, WantedPart, extra_part, given_list, named_part, part_named, source_of, sources_of, optional_part, with_parts}
use Rattle.image_build.specs.Offers.{offered_part, offered_parts}
use Rattle.image_build.specs.declared.build_words.Offer.{Offer}
use Rattle.command_plans.proofs.Each.{each_append, each_length, each_none, each_one, each_one_fails}

abbrev Found : Type 0
Found = List NamedPart

pub with_none : (made : Found) → with_parts made [] ≡ Ok made
unfolding each
with_none made = ap Ok (append-nil made)

-- one more
pub with_one : (part : WantedPart) (sources : List Source) (made more : Found) → each source_of part.sources ≡ Ok sources
    → more ≡ made ++ named_part part.kind part.name sources ∷ [] → with_parts made (part ∷ []) ≡ Ok more
unfolding each
with_one part sources made more found is =
    ap (λ r. ((r >>= λ l. Ok (named_part part.kind part.name l)) >>= λ y. Ok (y ∷ [])) >>= λ l. Ok (made ++ l)) found ∙ ap Ok (sym is)

pub with_one_word_error : (word_error : WordError) (part : WantedPart) (made : Found) → WordErrorFor word_error (each source_of part.sources) → WordErrorFor word_error (with_parts made (part ∷ []))
unfolding each
with_one_word_error Memory part made why = tt
with_one_word_error (Refused refusal) part made why = ap (λ r. ((r >>= λ l. Ok (named_part part.kind part.name l)) >>= λ y. Ok (y ∷ [])) >>= λ l. Ok (made ++ l)) why

-- the sources of what is given once or not at all
pub given_none : (given : Option Given) (sources : List Source) → given ≡ None → sources ≡ [] → each source_of (given_list given) ≡ Ok sources
given_none given sources is none = ap (λ (g : Option Given). each source_of (given_list g)) is ∙ each_none source_of ∙ ap Ok (sym none)

pub given_some : (given : Option Given) (one : Given) (source : Source) (sources : List Source) → given ≡ Some one → source_of one ≡ Ok source → sources ≡ source ∷ []
    → each source_of (given_list given) ≡ Ok sources
given_some given one source sources is found all =
    ap (λ (g : Option Given). each source_of (given_list g)) is ∙ each_one source_of one source found ∙ ap Ok (sym all)

pub given_word_error : (word_error : WordError) (given : Option Given) (one : Given) → given ≡ Some one → WordErrorFor word_error (source_of one) → WordErrorFor word_error (each source_of (given_list given))
given_word_error word_error given one is why =
    subst (λ (g : Option Given). WordErrorFor word_error (each source_of (given_list g))) (sym is) (each_one_fails source_of one word_error why)

-- a part of what is given, which may be nothing
pub with_no_sources : (kind : PartKind) (name : List ℕ) (givens : List Given) (sources : List Source) (made : Found) → each source_of givens ≡ Ok sources → length sources ≡ 0
    → with_parts made (optional_part kind name givens) ≡ Ok made
with_no_sources kind name [] sources made found none = with_none made
with_no_sources kind name (given ∷ more) sources made found none = absurd (omega (arith, none, each_length source_of (given ∷ more) sources found))

pub with_sources : (kind : PartKind) (name : List ℕ) (givens : List Given) (sources : List Source) (made more : Found) → each source_of givens ≡ Ok sources → 0 < length sources
    → more ≡ made ++ named_part kind (padded_name name) sources ∷ [] → with_parts made (optional_part kind name givens) ≡ Ok more
with_sources kind name [] sources made more found some all = absurd (omega (arith, some, each_length source_of [] sources found))
with_sources kind name (given ∷ givens) sources made more found some all =
    with_one (record { kind = kind; name = padded_name name; sources = given ∷ givens }) sources made more found all

pub with_sources_word_error : (word_error : WordError) (kind : PartKind) (name : List ℕ) (givens : List Given) (made : Found) → WordErrorFor word_error (each source_of givens)
    → WordErrorFor word_error (with_parts made (optional_part kind name givens))
unfolding each
with_sources_word_error Memory kind name givens made why = tt
with_sources_word_error (Refused refusal) kind name [] made why = cc
with_sources_word_error (Refused refusal) kind name (given ∷ givens) made why =
    with_one_word_error (Refused refusal) (record { kind = kind; name = padded_name name; sources = given ∷ givens }) made why

-- the name of a kind that has one
pub named_so : (name : Option (List ℕ)) → IsTrue (is_some (option_map padded_name name)) → option_map padded_name name ≡ Some (padded_name (unwrap_or name []))
named_so None is = cc
named_so (Some name) is = refl

-- a part that is put behind the others
pub part_put : (old new : List PartSources) (part : PartSources) (sources : List Source) → new ≡ old ++ part ∷ []
    → part.sources.items ≡ sources → map part_named new ≡ map part_named old ++ named_part part.kind part.name sources ∷ []
part_put old new part sources is are =
    ap (map part_named) is ∙ map-append part_named old (part ∷ []) ∙ ap (λ (l : List Source). map part_named old ++ named_part part.kind part.name l ∷ []) are

-- more that are wanted
more_found : (made more : Found) (r s : Result Found Refusal) → (r >>= λ l. Ok (made ++ l)) ≡ Ok more → ((r >>= λ a. s >>= λ b. Ok (a ++ b)) >>= λ l. Ok (made ++ l)) ≡ (s >>= λ l. Ok (more ++ l))
more_found made more (Err e) s is = cc
more_found made more (Ok a) (Err e) is = refl
more_found made more (Ok a) (Ok b) is =
    let all : made ++ a ≡ more = cc is in
    ap Ok (sym (append_assoc made a b) ∙ ap (λ (l : Found). l ++ b) all)

pub with_more : (made more : Found) (xs ys : List WantedPart) → with_parts made xs ≡ Ok more → with_parts made (xs ++ ys) ≡ with_parts more ys
with_more made more xs ys is =
    ap (λ r. r >>= λ l. Ok (made ++ l)) (each_append sources_of xs ys) ∙ more_found made more (each sources_of xs) (each sources_of ys) is

more_refused : (made : Found) (r s : Result Found Refusal) (why : Refusal) → (r >>= λ l. Ok (made ++ l)) ≡ Err why → ((r >>= λ a. s >>= λ b. Ok (a ++ b)) >>= λ l. Ok (made ++ l)) ≡ Err why
more_refused made (Err e) s why is = is
more_refused made (Ok a) s why is = cc

pub with_more_word_error : (word_error : WordError) (made : Found) (xs ys : List WantedPart) → WordErrorFor word_error (with_parts made xs) → WordErrorFor word_error (with_parts made (xs ++ ys))
with_more_word_error Memory made xs ys why = tt
with_more_word_error (Refused refusal) made xs ys why =
    ap (λ r. r >>= λ l. Ok (made ++ l)) (each_append sources_of xs ys) ∙ more_refused made (each sources_of xs) (each sources_of ys) refusal why

pub after_more_word_error : (word_error : WordError) (made more : Found) (xs ys : List WantedPart) → with_parts made xs ≡ Ok more
    → WordErrorFor word_error (with_parts more ys) → WordErrorFor word_error (with_parts made (xs ++ ys))
after_more_word_error word_error made more xs ys is why = subst (WordErrorFor word_error) (sym (with_more made more xs ys is)) why

-- rows, one by one: what is made, and what the rows that are left make behind it
module _ (made : Found) (rows : List (PartKind × Offer)) (i : ℕ) (inside : i < length rows) (row d : PartKind × Offer) (is_row : row ≡ get_or rows i d) (more : List WantedPart) where
  split : offered_parts (drop i rows) more ≡ offered_part row ++ offered_parts (drop (i + 1) rows) more
  split = ap (λ l. offered_parts l more) (drop_more rows i d inside) ∙ ap (λ (r : PartKind × Offer). offered_part r ++ offered_parts (drop (i + 1) rows) more) (sym is_row)

  pub row_next : (now : Found) → with_parts made (offered_part row) ≡ Ok now
      → with_parts made (offered_parts (drop i rows) more) ≡ with_parts now (offered_parts (drop (i + 1) rows) more)
  row_next now done = ap (with_parts made) split ∙ with_more made now (offered_part row) (offered_parts (drop (i + 1) rows) more) done

  pub row_word_error : (word_error : WordError) → WordErrorFor word_error (with_parts made (offered_part row)) → WordErrorFor word_error (with_parts made (offered_parts (drop i rows) more))
  row_word_error word_error why =
      subst (λ l. WordErrorFor word_error (with_parts made l)) (sym split) (with_more_word_error word_error made (offered_part row) (offered_parts (drop (i + 1) rows) more) why)

-- sections, one by one
module _ (made now : Found) (sections : List (SectionName × Given)) (i : ℕ) (inside : i < length sections)
    (before : with_parts made (map extra_part (take i sections)) ≡ Ok now) (section d : SectionName × Given) (is_section : section ≡ get_or sections i d) where
  pub section_more : (more : Found) → with_parts now (extra_part section ∷ []) ≡ Ok more → with_parts made (map extra_part (take (i + 1) sections)) ≡ Ok more
  section_more more done =
      ap (λ (l : List (SectionName × Given)). with_parts made (map extra_part l)) (take_more sections i d inside)
      ∙ ap (with_parts made) (map-append extra_part (take i sections) (get_or sections i d ∷ []))
      ∙ with_more made now (map extra_part (take i sections)) (extra_part (get_or sections i d) ∷ []) before
      ∙ ap (λ (s : SectionName × Given). with_parts now (extra_part s ∷ [])) (sym is_section)
      ∙ done

  pub section_word_error : (word_error : WordError) → WordErrorFor word_error (with_parts now (extra_part section ∷ [])) → WordErrorFor word_error (with_parts made (map extra_part sections))
  section_word_error word_error why =
      let rest = map extra_part (drop (i + 1) sections) in
      let split : map extra_part sections ≡ map extra_part (take i sections) ++ (extra_part section ∷ rest) =
      ap (map extra_part) (sym (take-append-drop i sections)
      ∙ ap (λ l. take i sections ++ l) (drop_more sections i d inside ∙ ap (λ (s : SectionName × Given). s ∷ drop (i + 1) sections) (sym is_section)))
      ∙ map-append extra_part (take i sections) (section ∷ drop (i + 1) sections) in
      subst (λ (l : List WantedPart). WordErrorFor word_error (with_parts made l)) (sym split)
      (after_more_word_error word_error made now (map extra_part (take i sections)) (extra_part section ∷ rest) before (with_more_word_error word_error now (extra_part section ∷ []) rest why))
