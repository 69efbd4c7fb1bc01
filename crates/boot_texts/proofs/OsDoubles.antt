-- Texts between double quotes are read as what the pieces stand for, in both directions.
use Rattle.std.proofs.Common.{◌≡◌, ℕ, Bool, true, false, not, eqb, List, [], ◌∷◌, ◌++◌, Some, None, Option, subst, sym, ap, ◌∙◌, refl, cond, append_assoc}
use Rattle.std.specs.List.{flat_map, list_all}
use Rattle.std.proofs.lemmas.Bool.{and_from, and_parts, eqb-true, not_from_false, not-true}
use Rattle.std.proofs.lemmas.Option.{cond_some, none-some, same_Some}
use Rattle.boot_texts.specs.OsLines.{Piece, plain, escaped, kept, behind, double_reading, is_escapable, is_piece, IsBetweenQuotes, piece_value, piece_text}

pub behind-behind : (a b : List ℕ) (o : Option (List ℕ)) → behind a (behind b o) ≡ behind (a ++ b) o
behind-behind a b None = refl
behind-behind a b (Some rest) = ap Some (sym (append_assoc a b rest))

-- ---- from pieces to the value

double_reading-plain : (b : ℕ) (text : List ℕ) → eqb b 34 ≡ false → eqb b 92 ≡ false → double_reading (b ∷ text) ≡ behind (b ∷ []) (double_reading text)
double_reading-plain b [] quote backslash = rw quote refl
double_reading-plain b (next ∷ rest) quote backslash = rw (quote, backslash) refl

double_reading-escaped : (b : ℕ) (text : List ℕ) → is_escapable b ≡ true → double_reading (92 ∷ b ∷ text) ≡ behind (b ∷ []) (double_reading text)
double_reading-escaped b text e = ap (λ (test : Bool). cond test (behind (b ∷ []) (double_reading text)) (behind (92 ∷ b ∷ []) (double_reading text))) e

double_reading-kept : (b : ℕ) (text : List ℕ) → is_escapable b ≡ false → double_reading (92 ∷ b ∷ text) ≡ behind (92 ∷ b ∷ []) (double_reading text)
double_reading-kept b text e = ap (λ (test : Bool). cond test (behind (b ∷ []) (double_reading text)) (behind (92 ∷ b ∷ []) (double_reading text))) e

read_pieces : (pieces : List Piece) → list_all is_piece pieces ≡ true → double_reading (flat_map piece_text pieces ++ 34 ∷ []) ≡ Some (flat_map piece_value pieces)
read_pieces [] are = refl
read_pieces (plain b ∷ pieces) are =
    let parts = and_parts (is_piece (plain b)) (list_all is_piece pieces) are in
    let byte = and_parts (not (eqb b 34)) (not (eqb b 92)) parts.0 in
    double_reading-plain b (flat_map piece_text pieces ++ 34 ∷ []) (not-true (eqb b 34) byte.0) (not-true (eqb b 92) byte.1)
    ∙ ap (behind (b ∷ [])) (read_pieces pieces parts.1)
read_pieces (escaped b ∷ pieces) are =
    let parts = and_parts (is_piece (escaped b)) (list_all is_piece pieces) are in
    double_reading-escaped b (flat_map piece_text pieces ++ 34 ∷ []) parts.0
    ∙ ap (behind (b ∷ [])) (read_pieces pieces parts.1)
read_pieces (kept b ∷ pieces) are =
    let parts = and_parts (is_piece (kept b)) (list_all is_piece pieces) are in
    double_reading-kept b (flat_map piece_text pieces ++ 34 ∷ []) (not-true (is_escapable b) parts.0)
    ∙ ap (behind (92 ∷ b ∷ [])) (read_pieces pieces parts.1)

pub double_complete : (between value : List ℕ) → IsBetweenQuotes between value → double_reading (between ++ 34 ∷ []) ≡ Some value
double_complete between value is =
    ap (λ (text : List ℕ). double_reading (text ++ 34 ∷ [])) is.text_is ∙ read_pieces is.pieces is.are_pieces ∙ ap Some (sym is.value_is)

-- ---- from the value to pieces

-- the text is pieces and a closing quote
pub record IsClosed (text value : List ℕ) : Type 0 where
  pub pieces : List Piece
  pub are_pieces : list_all is_piece pieces ≡ true
  pub text_is : text ≡ flat_map piece_text pieces ++ 34 ∷ []
  pub value_is : value ≡ flat_map piece_value pieces

behind_some : (front : List ℕ) (o : Option (List ℕ)) (value : List ℕ) → behind front o ≡ Some value → (rest : List ℕ) × (o ≡ Some rest) × (front ++ rest ≡ value)
behind_some front None value e = absurd (none-some value e)
behind_some front (Some rest) value e = (rest, refl, same_Some (front ++ rest) value e)

-- one more piece in front
more : (piece : Piece) (text rest value : List ℕ) → is_piece piece ≡ true → IsClosed text rest → piece_value piece ++ rest ≡ value → IsClosed (piece_text piece ++ text) value
more piece text rest value is closed value_is = record {
  pieces = piece ∷ closed.pieces;
  are_pieces = and_from (is_piece piece) (list_all is_piece closed.pieces) is closed.are_pieces;
  text_is = ap (λ (text : List ℕ). piece_text piece ++ text) closed.text_is ∙ sym (append_assoc (piece_text piece) (flat_map piece_text closed.pieces) (34 ∷ []));
  value_is = sym value_is ∙ ap (λ (rest : List ℕ). piece_value piece ++ rest) closed.value_is;
}

-- a byte in front, where what is behind it is read as pieces
in_front : (b next : ℕ) (rest value : List ℕ)
    → ((value : List ℕ) → double_reading rest ≡ Some value → IsClosed rest value)
    → ((value : List ℕ) → double_reading (next ∷ rest) ≡ Some value → IsClosed (next ∷ rest) value)
    → double_reading (b ∷ next ∷ rest) ≡ Some value → IsClosed (b ∷ next ∷ rest) value
in_front b next rest value far near read = by_quote (eqb b 34) refl
  where
    by_escape : (t : Bool) → is_escapable next ≡ t → eqb b 92 ≡ true
        → cond t (behind (next ∷ []) (double_reading rest)) (behind (b ∷ next ∷ []) (double_reading rest)) ≡ Some value → IsClosed (b ∷ next ∷ rest) value
    by_escape true escapes backslash read =
        let tail = behind_some (next ∷ []) (double_reading rest) value read in
        subst (λ (b : ℕ). IsClosed (b ∷ next ∷ rest) value) (sym (eqb-true b 92 backslash)) (more (escaped next) rest tail.0 value escapes (far tail.0 tail.1) tail.2)
    by_escape false escapes backslash read =
        let at : cond false (behind (next ∷ []) (double_reading rest)) (behind (92 ∷ next ∷ []) (double_reading rest)) ≡ Some value =
        subst (λ (b : ℕ). behind (b ∷ next ∷ []) (double_reading rest) ≡ Some value) (eqb-true b 92 backslash) read in
        let tail = behind_some (92 ∷ next ∷ []) (double_reading rest) value at in
        subst (λ (b : ℕ). IsClosed (b ∷ next ∷ rest) value) (sym (eqb-true b 92 backslash)) (more (kept next) rest tail.0 value (not_from_false (is_escapable next) escapes) (far tail.0 tail.1) tail.2)

    by_backslash : (t : Bool) → eqb b 92 ≡ t → eqb b 34 ≡ false
        → cond t (cond (is_escapable next) (behind (next ∷ []) (double_reading rest)) (behind (b ∷ next ∷ []) (double_reading rest))) (behind (b ∷ []) (double_reading (next ∷ rest))) ≡ Some value
        → IsClosed (b ∷ next ∷ rest) value
    by_backslash true backslash quote read = by_escape (is_escapable next) refl backslash read
    by_backslash false backslash quote read =
        let tail = behind_some (b ∷ []) (double_reading (next ∷ rest)) value read in
        more (plain b) (next ∷ rest) tail.0 value (and_from (not (eqb b 34)) (not (eqb b 92)) (not_from_false (eqb b 34) quote) (not_from_false (eqb b 92) backslash)) (near tail.0 tail.1) tail.2

    by_quote : (t : Bool) → eqb b 34 ≡ t → IsClosed (b ∷ next ∷ rest) value
    by_quote true quote = absurd (none-some value (rw quote at read))
    by_quote false quote = by_backslash (eqb b 92) refl quote (rw quote at read)

pub double_sound : (text value : List ℕ) → double_reading text ≡ Some value → IsClosed text value
double_sound [] value read = absurd (none-some value read)
double_sound (b ∷ []) value read =
    let is = cond_some (eqb b 34) [] value read in
    record { pieces = []; are_pieces = refl; text_is = ap (λ (b : ℕ). b ∷ []) (eqb-true b 34 is.0); value_is = sym is.1 }
double_sound (b ∷ next ∷ rest) value read = in_front b next rest value (double_sound rest) (double_sound (next ∷ rest)) read
