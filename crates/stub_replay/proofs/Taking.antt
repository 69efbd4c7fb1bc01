-- Bytes that registers take one behind the other.
use Rattle.std.proofs.Common.{◌≡◌, false, ◌<◌, ◌≤◌, ◌+◌, ℕ, Bool, List, [], ◌∷◌, ◌++◌, length, take, drop, get_or, refl, sym, ap, subst, ◌∙◌, arith, IsTrue, append-nil, length-append, replicate}
use Rattle.std.specs.List.{AllZip}
use Rattle.std.proofs.lemmas.Grind.{flat_map-append}
use Rattle.std.proofs.lemmas.List.{take_more, replicate-append-replicate}
use Rattle.std.proofs.lemmas.List.Elements.{All-tail}
use Rattle.std.proofs.lemmas.List.Sums.{sum_by-cons}
use Rattle.boot_base.specs.Paths.{Path, is_temp}
use Rattle.boot_machine.specs.Prelude.{State, fill_with_zeros, contents, seen}
use Rattle.boot_machine.proofs.Filling.{fill_with_zeros-inside}
use Rattle.uki_parts.specs.declared.piece.Piece.{Piece}
use Rattle.uki_parts.specs.Pieces.{Reading, HasSizes, piece_length, total_length, piece_bytes, bytes_of}
use Rattle.pcr_values.specs.declared.bank.Bank.{Bank}
use Rattle.pe_reader.proofs.Ranges.{length-bytes_in}
use Rattle.stub_replay.specs.declared.measurable.Content.{Content}
use Rattle.stub_replay.specs.declared.measurable.Content.TheVariants as variants
use Rattle.stub_replay.specs.Parts.{IsWhole, content_bytes, content_length}
use Rattle.stub_replay.specs.declared.register.Register.{Register}
use Rattle.stub_replay.specs.Registers.{Holds, AreHeld, Takes}
use Rattle.stub_replay.specs.Taking.{TakesWhere, AreBetween}
use Rattle.stub_replay.proofs.Shown.{shown_contents}
use Rattle.stub_replay.proofs.Zips.{zip_moved}
use Rattle.stub_replay.specs.proofs.TakingLaws.{takes_none, takes_more}

-- zeros behind zeros
pub zeros_more : (done count : ℕ) (zeros : List ℕ) (xs ys zs : List Register) → zeros ≡ replicate count 0 → AllZip (Takes (replicate done 0)) xs ys
    → AllZip (Takes zeros) ys zs → AllZip (Takes (replicate (done + count) 0)) xs zs
zeros_more done count zeros xs ys zs all_zero first second =
    let P = λ (l : List ℕ). AllZip (Takes l) xs zs in
    subst P (ap (λ (l : List ℕ). replicate done 0 ++ l) all_zero ∙ replicate-append-replicate done count 0) (takes_more (replicate done 0) zeros xs ys zs first second)

where_more : (P Q S : Type 0) (a b c : List ℕ) (xs ys zs : List Register) → (S → P) → (S → Q) → (S → a ++ b ≡ c)
    → TakesWhere P a xs ys → TakesWhere Q b ys zs → TakesWhere S c xs zs
where_more P Q S a b c xs ys zs to_first to_second joined first second = (
  first.0 ++ second.0,
  takes_more first.0 second.0 xs ys zs first.1 second.1,
  λ told. ap (λ (l : List ℕ). l ++ second.0) (first.2 (to_first told)) ∙ ap (λ (l : List ℕ). a ++ l) (second.2 (to_second told)) ∙ joined told,
)

-- nothing is taken of what is empty
pub where_none : (P : Type 0) (xs : List Register) → TakesWhere P [] xs xs
where_none P xs = ([], takes_none xs, λ told. refl)

-- a range of a file that boot sees
pub range_taken : (tells : Bool) (s : State) (path : Path) (at count : ℕ) (bytes : List ℕ) (xs ys zs : List Register) → is_temp path ≡ false → AllZip (Takes bytes) xs ys
    → (IsTrue tells → bytes ≡ fill_with_zeros (drop at (contents s.files path)) count) → zs ≡ ys
    → TakesWhere (IsTrue tells × (count ≤ length (drop at (contents (seen s) path)))) (take count (drop at (contents (seen s) path))) xs zs
range_taken tells s path at count bytes xs ys zs shown takes are same = (
  bytes,
  subst (λ (l : List Register). AllZip (Takes bytes) xs l) (sym same) takes,
  λ both.
      let S = λ (file : List ℕ). count ≤ length (drop at file) → bytes ≡ take count (drop at file) in
      subst S (sym (shown_contents s path shown)) (λ inside. are both.0 ∙ fill_with_zeros-inside (drop at (contents s.files path)) count inside) both.1,
)

-- zeros behind what is taken
pub zeros_behind : (P : Type 0) (bytes : List ℕ) (count : ℕ) (xs ys zs : List Register) → TakesWhere P bytes xs ys
    → AllZip (Takes (replicate count 0)) ys zs → TakesWhere P (bytes ++ replicate count 0) xs zs
zeros_behind P bytes count xs ys zs first second =
    where_more P P P bytes (replicate count 0) (bytes ++ replicate count 0) xs ys zs (λ told. told) (λ told. told) (λ told. refl)
    first (replicate count 0, second, λ told. refl)

bytes_more : (files : Reading) (pieces : List Piece) (i : ℕ) (d : Piece) → i < length pieces
    → bytes_of files (take i pieces) ++ piece_bytes files (get_or pieces i d) ≡ bytes_of files (take (i + 1) pieces)
bytes_more files pieces i d inside =
    ap (λ (l : List ℕ). bytes_of files (take i pieces) ++ l) (sym (append-nil (piece_bytes files (get_or pieces i d))))
    ∙ sym (flat_map-append (piece_bytes files) (take i pieces) (get_or pieces i d ∷ []))
    ∙ ap (bytes_of files) (sym (take_more pieces i d inside))

-- the next piece
pub pieces_more : (tells : Bool) (files seen : Reading) (pieces : List Piece) (i : ℕ) (piece : Piece) (xs ys zs : List Register) → (IsTrue tells → seen ≡ files)
    → i < length pieces → piece ≡ get_or pieces i piece
    → TakesWhere (IsTrue tells × HasSizes files pieces) (bytes_of files (take i pieces)) xs ys
    → TakesWhere (IsTrue tells × (length (piece_bytes seen piece) ≡ piece_length piece)) (piece_bytes seen piece) ys zs
    → TakesWhere (IsTrue tells × HasSizes files pieces) (bytes_of files (take (i + 1) pieces)) xs zs
pieces_more tells files seen pieces i piece xs ys zs same inside at first second =
    where_more _ _ _ (bytes_of files (take i pieces)) (piece_bytes seen piece) (bytes_of files (take (i + 1) pieces)) xs ys zs
    (λ told. told)
    (λ told. (
      told.0,
      ap (λ (f : Reading). length (piece_bytes f piece)) (same told.0) ∙ ap (λ (p : Piece). length (piece_bytes files p)) at ∙ told.1 i piece inside
          ∙ ap piece_length (sym at),
    ))
    (λ told.
    ap (λ (f : Reading). bytes_of files (take i pieces) ++ piece_bytes f piece) (same told.0)
    ∙ ap (λ (p : Piece). bytes_of files (take i pieces) ++ piece_bytes files p) at
    ∙ bytes_more files pieces i piece inside)
    first second

-- pieces stand for as many bytes as they say
pub length-bytes_of : (files : Reading) (pieces : List Piece) → HasSizes files pieces → length (bytes_of files pieces) ≡ total_length pieces
length-bytes_of files [] sizes = refl
length-bytes_of files (piece ∷ pieces) sizes =
    let rest = length-bytes_of files pieces (All-tail (λ (p : Piece). length (piece_bytes files p) ≡ piece_length p) piece pieces sizes) in
    omega (arith, length-append (piece_bytes files piece) (bytes_of files pieces), sum_by-cons piece_length piece pieces, sizes 0 piece (omega arith), rest)

-- a content that is whole has as many bytes as it says
pub length-content_bytes : (files : Reading) (content : Content) → IsWhole files content → length (content_bytes files content) ≡ content_length content
length-content_bytes files (variants.Pieces pieces) whole = length-bytes_of files pieces.now whole
length-content_bytes files (variants.Bytes bytes) whole = refl
length-content_bytes files (variants.Loaded path range) whole = length-bytes_in (files path.now) range whole

-- the registers hold what they have taken
pub held_after : (taken : List ℕ) (xs ys : List Register) → AreBetween xs → AllZip (Takes taken) xs ys → AreHeld ys
held_after taken xs ys between takes =
    let items = between.1 in (
      between.0,
      items,
      taken,
      zip_moved (Takes taken) (λ (r : Register) (b : Bank). Holds r b items []) (λ (r : Register) (b : Bank). Holds r b items taken) xs ys between.0
          (λ x y bank r holds. r bank items [] holds) takes between.2,
    )
