-- What is predicted from parts is what a stub measures of an image that shows them.
use Rattle.std.proofs.Common.{◌≡◌, ℕ, List, [], ◌∷◌, ◌++◌, refl, sym, ap, ◌∙◌, Option}
use Rattle.std.specs.List.{flat_map, AllByRecursion}
use Rattle.pe_reader.specs.Prelude.{Headers, loaded_bytes}
use Rattle.pcr_values.specs.declared.bank.Bank.{Bank}
use Rattle.pcr_values.specs.Prelude.{fold_of}
use Rattle.pe_builder.specs.declared.size.PartSize.{PartSize}
use Rattle.pe_builder.specs.Image.{finished_image}
use Rattle.pe_builder.specs.Laws.{HasFinished}
use Rattle.pe_builder.proofs.FinishedImage.{pe_of-finished_image}
use Rattle.pe_builder.proofs.ByName.{loaded_bytes-finished_image}
use Rattle.stub_replay.specs.Laws.{given_parts}
use Rattle.stub_replay.proofs.GivenParts.{given_loaded}
use Rattle.stub_replay.specs.Measured.{measured_names, section_items, measured_by, stub_pcr, predicted_pcr, Shows}

pub same_items : (a b : List ℕ → List ℕ) (names : List (List ℕ)) → AllByRecursion (λ name. a name ≡ b name) names
    → flat_map (λ name. section_items name (a name)) names ≡ flat_map (λ name. section_items name (b name)) names
same_items a b [] h = refl
same_items a b (x ∷ xs) h = rw (h.0, same_items a b xs h.1) refl

all_names : (P : List ℕ → Type 0) → ((name : List ℕ) → P name) → (names : List (List ℕ)) → AllByRecursion P names
all_names P f [] = tt
all_names P f (x ∷ xs) = (f x, all_names P f xs)

pub predicted_is_replayed : (image : List ℕ) (parts : List ℕ → List ℕ) (bank : Bank) (path : List (List ℕ))
    → Shows image parts → predicted_pcr parts bank path ≡ stub_pcr image bank path
unfolding measured_by
predicted_is_replayed image parts bank path shows =
    ap (λ (l : List (List ℕ)). fold_of bank (l ++ path)) (sym (same_items (loaded_bytes image) parts measured_names shows.same))

pub image_shows : (h : Headers) (sizes : List PartSize) (contents : List (List ℕ)) (sbat : Option (List ℕ)) (stub : List ℕ)
    → HasFinished h sizes contents sbat stub → Shows (finished_image h sizes contents sbat stub) (given_parts sizes contents sbat stub)
image_shows h sizes contents sbat stub has = record {
  reads = rw (pe_of-finished_image h sizes contents sbat stub has) refl;
  same = all_names _ (λ name. loaded_bytes-finished_image h sizes contents sbat stub has name ∙ given_loaded h sizes contents sbat stub has name) measured_names;
}

pub predicted_of_parts : (h : Headers) (sizes : List PartSize) (contents : List (List ℕ)) (sbat : Option (List ℕ)) (stub : List ℕ) (bank : Bank) (path : List (List ℕ))
    → HasFinished h sizes contents sbat stub
    → predicted_pcr (given_parts sizes contents sbat stub) bank path ≡ stub_pcr (finished_image h sizes contents sbat stub) bank path
predicted_of_parts h sizes contents sbat stub bank path has =
    predicted_is_replayed (finished_image h sizes contents sbat stub) (given_parts sizes contents sbat stub) bank path (image_shows h sizes contents sbat stub has)
