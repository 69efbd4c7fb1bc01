-- The lines of a script, one after the other.
use Rattle.std.proofs.Common.{◌≡◌, inl, inr, ℕ, suc, ◌+◌, Bool, true, false, cond, List, [], ◌∷◌, ◌++◌, length, refl, sym, ap, ◌∙◌, arith, append_assoc, append-nil, Result, Ok, Err, Option, Some, None, All, nat_lt, if◌then◌else◌}
use Rattle.std.proofs.lemmas.Bool.{cases_Bool}
use Rattle.std.proofs.lemmas.Str.{IsUtf8-from_is_utf8}
use Rattle.std.specs.Str.{chars, is_utf8, IsUtf8}
use Rattle.std.specs.List.{slice_split}
use Rattle.std.proofs.lemmas.List.Elements.{All-cons, All-nil}
use Rattle.tool_words.specs.Line.{is_open, line_words}
use Rattle.tool_words.specs.Meaning.{meaning}
use Rattle.tool_words.specs.declared.command.One.{One}
use Rattle.tool_words.specs.declared.fault.LineFault.{LineFault}
use Rattle.tool_words.specs.declared.fault.LineFault.TheVariants.{OpenQuote}
use Rattle.boot_run.specs.AskedLines.{command_in, in_script, is_passed_over, is_script_newline, line_at, lines_from, lines_in}
use Rattle.boot_run.specs.Lines.{script_limit}
use Rattle.boot_run.specs.declared.line.Line.{Line}
use Rattle.boot_run.specs.declared.line.Line.TheVariants.{Numbered, Unread, TooLong}

abbrev ok_line : (T : Type 0) → T → Result T LineFault
ok_line T value = Ok value

-- what one piece adds
abbrev pub line_of_piece : ℕ → List ℕ → List Line
line_of_piece number piece = if is_passed_over piece then [] else line_at number (command_in piece) ∷ []

pub lines_from-push : (number : ℕ) (pieces : List (List ℕ)) (piece : List ℕ) → lines_from number (pieces ++ piece ∷ []) ≡ lines_from number pieces ++ line_of_piece (number + length pieces) piece
lines_from-push number [] piece = append-nil (line_of_piece number piece) ∙ ap (λ n. line_of_piece n piece) same
  where
    same : number ≡ number + 0
    same = omega arith
lines_from-push number (first ∷ pieces) piece =
    let same : suc number + length pieces ≡ number + suc (length pieces) = omega arith in
    ap (λ (l : List Line). line_of_piece number first ++ l) (lines_from-push (suc number) pieces piece ∙ ap (λ n. lines_from (suc number) pieces ++ line_of_piece n piece) same)
    ∙ sym (append_assoc (line_of_piece number first) (lines_from (suc number) pieces) (line_of_piece (number + suc (length pieces)) piece))

pub not_utf8 : (bytes : List ℕ) → (IsUtf8 bytes → ⊥) → is_utf8 bytes ≡ false
not_utf8 bytes isnt_utf8 = elim (cases_Bool (is_utf8 bytes)) [ inl is ↦ absurd (isnt_utf8 (IsUtf8-from_is_utf8 bytes is)) | inr isnt ↦ isnt ]

pub none_of_bytes : (piece : List ℕ) → is_utf8 piece ≡ false → command_in piece ≡ None
none_of_bytes piece isnt = rw isnt refl

pub command_of_words : (piece : List ℕ) → is_utf8 piece ≡ true → is_open (chars piece) ≡ false → command_in piece ≡ in_script (meaning (line_words (chars piece)))
command_of_words piece utf8 closed = rw (utf8, closed) refl

-- the lines so far, with one piece more
pub with_piece : (pieces : List (List ℕ)) (piece : List ℕ) (number : ℕ) (lines : List Line) (line : Line) → number ≡ length pieces + 1
    → is_passed_over piece ≡ false → line ≡ line_at number (command_in piece)
    → lines ≡ lines_from 1 pieces → lines ++ line ∷ [] ≡ lines_from 1 (pieces ++ piece ∷ [])
with_piece pieces piece number lines line number_is counts line_is lines_are =
    let place : number ≡ 1 + length pieces = omega (arith, number_is) in
    let one : line_of_piece (1 + length pieces) piece ≡ line ∷ [] = rw counts (ap (λ (l : Line). l ∷ []) (ap (λ n. line_at n (command_in piece)) (sym place) ∙ sym line_is)) in
    ap (λ (l : List Line). l ++ line ∷ []) lines_are ∙ ap (λ (l : List Line). lines_from 1 pieces ++ l) (sym one) ∙ sym (lines_from-push 1 pieces piece)

pub without_piece : (pieces : List (List ℕ)) (piece : List ℕ) (lines : List Line) → is_passed_over piece ≡ true → lines ≡ lines_from 1 pieces → lines ≡ lines_from 1 (pieces ++ piece ∷ [])
without_piece pieces piece lines passed lines_are =
    let none : line_of_piece (1 + length pieces) piece ≡ [] = rw passed refl in
    lines_are ∙ sym (append-nil (lines_from 1 pieces)) ∙ ap (λ (l : List Line). lines_from 1 pieces ++ l) (sym none) ∙ sym (lines_from-push 1 pieces piece)

pub not_open : {T : Type 0} (line : List ℕ) (result : Result T LineFault) (value : T) → result ≡ Ok value → (is_open line ≡ true → result ≡ Err OpenQuote) → is_open line ≡ false
not_open line result value is so = elim (cases_Bool (is_open line)) [ inl opened ↦ absurd (ok_or_err value (sym is ∙ so opened)) | inr closed ↦ closed ]
  where
    ok_or_err : {T : Type 0} (value : T) → ok_line T value ≡ Err OpenQuote → ⊥
    ok_or_err value is = cc

-- what is so of each kind of line that a script has, is so of all its lines
module _ (P : Line → Type 0) (numbered : (number : ℕ) (c : One) → P (Numbered number c)) (unread : (number : ℕ) → P (Unread number)) (long : P TooLong) where
  line_so : (number : ℕ) (found : Option One) → P (line_at number found)
  line_so number None = unread number
  line_so number (Some c) = numbered number c

  all_behind : (number : ℕ) (passed : Bool) (piece : List ℕ) (lines : List Line) → All P lines
      → All P ((cond passed [] (line_at number (command_in piece) ∷ [])) ++ lines)
  all_behind number true piece lines all = all
  all_behind number false piece lines all = All-cons P (line_at number (command_in piece)) lines (line_so number (command_in piece)) all

  all_from : (number : ℕ) (pieces : List (List ℕ)) → All P (lines_from number pieces)
  all_from number [] = All-nil P
  all_from number (piece ∷ pieces) = all_behind number (is_passed_over piece) piece (lines_from (suc number) pieces) (all_from (suc number) pieces)

  by_length : (input : List ℕ) (over : Bool) → All P (cond over (TooLong ∷ []) (lines_from 1 (slice_split is_script_newline input)))
  by_length input true = All-cons P TooLong [] long (All-nil P)
  by_length input false = all_from 1 (slice_split is_script_newline input)

  pub each_line : (input : List ℕ) → All P (lines_in input)
  each_line input = by_length input (nat_lt script_limit (length input))
