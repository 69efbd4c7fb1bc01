-- Reading the items of words from the left: what is read so far, and what is still to come.
use Rattle.std.proofs.Common.{arith, length, String, ◌≡◌, List, [], ◌∷◌, ◌++◌, map, Bool, Ok, refl, ap, ◌∙◌, ◌||◌, append-nil}
use Rattle.std.specs.List.{list_any}
use Rattle.std.specs.declared.alloc.Global.{Global}
use Rattle.word_grammar.specs.declared.grammar.CommandName.{CommandName}
use Rattle.word_grammar.specs.Grammar.{Word}
use Rattle.tool_words.specs.Items.{Item, items, ◌>>=◌}
use Rattle.tool_words.specs.Shown.{texts}

-- these items are read, and the rest of the words has the others
abbrev pub Reads : List Item → CommandName → List Word → List Word → Type 0
Reads read command words rest = items command words ≡ (items command rest >>= λ items. Ok (read ++ items))

-- where no words are left, all items are read
pub Reads-all : (read : List Item) (command : CommandName) (words : List Word) (left : List (String Global)) → length left ≡ 0 → Reads read command words (texts left) → items command words ≡ Ok read
unfolding items
Reads-all read command words [] none reads = reads ∙ ap Ok (append-nil read)
Reads-all read command words (word ∷ after) none reads = absurd (omega (arith, none))

pub list_any-map : {A B : Type 0} (test : B → Bool) (f : A → B) (xs : List A) → list_any test (map f xs) ≡ list_any (λ x. test (f x)) xs
list_any-map test f [] = refl
list_any-map test f (x ∷ xs) = ap (λ rest. test (f x) || rest) (list_any-map test f xs)
