-- The line of a menu, from the tokens that were written.
use Rattle.std.proofs.Common.{◌≡◌, ℕ, ◌+◌, ◌<◌, ◌≤◌, List, [], ◌∷◌, ◌++◌, length, get_or, map, take, Some, refl, sym, ap, ◌∙◌, subst, arith, append_assoc, append-nil, IsUtf8, option_and_then}
use Rattle.std.proofs.lemmas.List.{map-append, take_more}
use Rattle.std.proofs.lemmas.Str.{IsUtf8-append}
use Rattle.json.specs.Token.{Token}
use Rattle.json.specs.Json as json
use Rattle.json.specs.Lex.{tokens}
use Rattle.json.specs.Print.{print}
use Rattle.json.specs.Tree as tree
use Rattle.json.proofs.Printed.Trees.{value-json_tokens}
use Rattle.json.proofs.Printed.Utf8.{IsUtf8-are_ascii}
use Rattle.serde_json.specs.Data.{Data, null, boolean, number, string, array, object, Items, no_items, item, Members, no_members, member, depth, items_depth, members_depth}
use Rattle.serde_json.specs.Read.{of_json, read}
use Rattle.serde_json.specs.View.{items_of}
use Rattle.serde_json.specs.Written.{outline, items_outline, members_outline}
use Rattle.serde_json.proofs.Texts.{print-outline}
use Rattle.list_json.specs.Lines.{ReadsAs, json_line}
use Rattle.list_json.specs.Tokens.{ReadsBack, data_tokens, list_tokens}
use Rattle.list_json.proofs.Newline.{read-newline}

-- ---- tokens are read as the value that they were written for

mutual
  outline_depth : (d : Data) → tree.depth (outline d) ≤ depth d
  outline_depth null = omega arith
  outline_depth (boolean b) = omega arith
  outline_depth (number n) = omega arith
  outline_depth (string s) = omega arith
  outline_depth (array ds) = omega (arith, items_outline_depth ds)
  outline_depth (object ms) = omega (arith, members_outline_depth ms)

  items_outline_depth : (ds : Items) → tree.items_depth (items_outline ds) ≤ items_depth ds
  items_outline_depth no_items = omega arith
  items_outline_depth (item d ds) = omega (arith, outline_depth d, items_outline_depth ds)

  members_outline_depth : (ms : Members) → tree.members_depth (members_outline ms) ≤ members_depth ms
  members_outline_depth no_members = omega arith
  members_outline_depth (member k d ms) = omega (arith, outline_depth d, members_outline_depth ms)

read_tokens : (text : List ℕ) (d : Data) → tokens text ≡ data_tokens d → ReadsBack d → depth d ≤ 127 → read text ≡ Some d
read_tokens text d is back shallow =
    ap (λ o. option_and_then of_json (option_and_then (λ p. json.if_last p.0 p.1) o))
    (ap (json.value 127) (is ∙ sym (append-nil (data_tokens d))) ∙ value-json_tokens (outline d) 127 [] (omega (arith, outline_depth d)))
    ∙ back

-- ---- the tokens of an array

items_written : (values : List Data) → list_tokens values ++ Token.end_array ∷ [] ≡ tree.items_tokens (items_outline (items_of values))
items_written [] = refl
items_written (value ∷ values) = append_assoc (data_tokens value) (list_tokens values) (Token.end_array ∷ []) ∙ ap (λ ts. data_tokens value ++ ts) (items_written values)

pub array_written : (values : List Data) → (Token.begin_array ∷ list_tokens values) ++ Token.end_array ∷ [] ≡ data_tokens (array (items_of values))
array_written values = ap (λ ts. Token.begin_array ∷ ts) (items_written values)

-- ---- the line of a value whose tokens were written

pub line_written : (line : List ℕ) (ts : List Token) (d : Data) → line ≡ print ts ++ 10 ∷ [] → ts ≡ data_tokens d → line ≡ json_line d
line_written line ts d is written = is ∙ ap (λ text. text ++ 10 ∷ []) (ap print written ∙ print-outline d)

pub line_read : (line : List ℕ) (ts : List Token) (d : Data) → line ≡ print ts ++ 10 ∷ [] → ts ≡ data_tokens d → tokens (print ts) ≡ ts → IsUtf8 (print ts)
    → ReadsBack d → depth d ≤ 127 → ReadsAs line d
line_read line ts d is written same utf8 back shallow = (
  subst IsUtf8 (sym is) (IsUtf8-append (print ts) (10 ∷ []) utf8 (IsUtf8-are_ascii (10 ∷ []) refl)),
  ap read is
      ∙ read-newline (print ts) (outline d) (ap print (sym same)) (same ∙ written)
      ∙ read_tokens (print ts) d (same ∙ written) back shallow,
)

-- ---- one entry more

pub taken_more : {X : Type 0} (f : X → Data) (xs : List X) (i : ℕ) (x : X) → i < length xs → x ≡ get_or xs i x → map f (take (i + 1) xs) ≡ map f (take i xs) ++ f x ∷ []
taken_more f xs i x inside is =
    ap (map f) (take_more xs i x inside) ∙ map-append f (take i xs) (get_or xs i x ∷ []) ∙ ap (λ y. map f (take i xs) ++ f y ∷ []) (sym is)
