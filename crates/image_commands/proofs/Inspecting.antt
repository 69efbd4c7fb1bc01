-- What is told of sections, one after the other.
use Rattle.std.proofs.Common.{◌≡◌, ◌<◌, ◌≤◌, ◌+◌, ℕ, Bool, List, [], ◌∷◌, ◌++◌, length, map, take, drop, get_or, Ok, sym, ap, ◌∙◌, subst, arith, All, Result}
use Rattle.std.proofs.lemmas.List.{get_or_default, map-append, take_more}
use Rattle.std.proofs.lemmas.List.Elements.{All-append, All-cons, All-nil}
use Rattle.boot_base.specs.Paths.{Path}
use Rattle.boot_base.specs.declared.refusal.Refusal.{Refusal}
use Rattle.boot_machine.specs.Prelude.{Files}
use Rattle.pcr_values.specs.declared.bank.Bank.TheVariants as banks
use Rattle.pcr_values.specs.Prelude.{digest_of}
use Rattle.pe_reader.specs.declared.section.Section.{Section}
use Rattle.pe_reader.specs.declared.section.LoadedRange.{LoadedRange}
use Rattle.pe_reader.specs.Prelude.{Headers, pe_of, bytes_in, no_section, range_of}
use Rattle.boot_base.specs.Names.{short_name}
use Rattle.pe_reader.proofs.Ranges.{length-bytes_in, range_inside}
use Rattle.list_json.specs.Sections.{SectionFacts, facts_of}
use Rattle.list_json.specs.declared.inspection.Inspected.{Inspected}
use Rattle.command_plans.specs.Prelude.{image_at}
use Rattle.command_plans.proofs.WordErrors.{done_next}
use Rattle.image_commands.specs.Told.{told_sections}
use Rattle.image_commands.specs.Said.{inspection, inspection_at, section_facts}

-- the raw data of each section of a PE32+ file lie in it
pub item_inside : (file now : List ℕ) (h : Headers) (sections : List Section) (i : ℕ) (d : Section) → pe_of file ≡ Ok h → now ≡ file → sections ≡ h.sections → i < length sections
    → (range_of (get_or sections i d)).length ≤ length (drop (range_of (get_or sections i d)).place now)
item_inside file now h sections i d reads same are inside =
    let here : i < length h.sections = omega (arith, ap length are, inside) in
    subst (λ (s : Section). (range_of s).length ≤ length (drop (range_of s).place now)) (get_or_default h.sections i no_section d here ∙ ap (λ (l : List Section). get_or l i d) (sym are))
    (range_inside now h i (ap pe_of same ∙ reads) here)

-- what is told of a section, by what each step gave
pub facts_made : (file : List ℕ) (s : Section) (r : LoadedRange) (name digest : List ℕ) → r ≡ range_of s → (range_of s).length ≤ length (drop (range_of s).place file)
    → digest ≡ digest_of banks.Sha256 (bytes_in file r) → name ≡ short_name s.name → section_facts file s ≡ record { name = name; size = r.length + r.zeros; digest = digest }
facts_made file s r name digest is inside is_digest is_name i = record {
  name = sym is_name i;
  size = (length-bytes_in file (range_of s) inside ∙ ap (λ (q : LoadedRange). q.length + q.zeros) (sym is)) i;
  digest = (ap (λ (q : LoadedRange). digest_of banks.Sha256 (bytes_in file q)) (sym is) ∙ sym is_digest) i;
}

-- one section more
pub facts_more : (file now : List ℕ) (sections : List Section) (i : ℕ) (d : Section) (before after : List Inspected) (one : Inspected) → i < length sections → now ≡ file
    → map facts_of before ≡ map (section_facts file) (take i sections) → after ≡ before ++ one ∷ [] → section_facts now (get_or sections i d) ≡ facts_of one
    → map facts_of after ≡ map (section_facts file) (take (i + 1) sections)
facts_more file now sections i d before after one inside same are is_after is_one =
    ap (map facts_of) is_after
    ∙ map-append facts_of before (one ∷ [])
    ∙ ap (λ (front : List SectionFacts). front ++ facts_of one ∷ []) are
    ∙ ap (λ (last : SectionFacts). map (section_facts file) (take i sections) ++ last ∷ []) (sym is_one ∙ ap (λ (l : List ℕ). section_facts l (get_or sections i d)) same)
    ∙ sym (ap (map (section_facts file)) (take_more sections i d inside) ∙ map-append (section_facts file) (take i sections) (get_or sections i d ∷ []))

-- one item more of which it holds
pub all_more : {X : Type 0} (P : X → Type 0) (before after : List X) (one : X) → All P before → P one → after ≡ before ++ one ∷ [] → All P after
all_more P before after one all is after_is = subst (All P) (sym after_is) (All-append P before (one ∷ []) all (All-cons P one [] is (All-nil P)))

pub unwrapped : (a b : SectionFacts) (one other : Result SectionFacts Refusal) → one ≡ Ok a → other ≡ Ok b → one ≡ other → a ≡ b
unwrapped a b one other is_one is_other same = cc

-- what is said of the image at a path is the text of what was found of its sections
pub inspection_said : (view : Files) (json : Bool) (path : Path) (file now : List ℕ) (h : Headers) (found shown : List Inspected) (text : List ℕ) → image_at view path ≡ Ok (file, h) → now ≡ file
    → ◌≡◌ {A = Result (List SectionFacts) Refusal} (Ok (map (section_facts now) h.sections)) (Ok (map facts_of found)) → shown ≡ found → text ≡ told_sections json path (map facts_of shown)
    → inspection_at view json path ≡ Ok text
inspection_said view json path file now h found shown text is same are shown_are told =
    let facts : map (section_facts now) h.sections ≡ map facts_of found = cc are in
    done_next (image_at view path) (file, h) (λ image. Ok (inspection json path image.0 image.1)) is
    ∙ ap (λ (l : List ℕ). Ok (told_sections json path (map (section_facts l) h.sections))) (sym same)
    ∙ ap (λ (l : List SectionFacts). Ok (told_sections json path l)) facts
    ∙ ap (λ (l : List Inspected). Ok (told_sections json path (map facts_of l))) (sym shown_are)
    ∙ ap Ok (sym told)
