-- The pieces of a part, by those of its sources.
use Rattle.std.proofs.Common.{◌≡◌, ℕ, Bool, true, false, cond, List, [], ◌∷◌, length, map, Ok, sym, ap, ◌∙◌, subst, ◌==◌, flat_map}
use Rattle.std.proofs.lemmas.List.{length-replicate}
use Rattle.std.proofs.lemmas.List.Elements.{All-append, All-cons, All-head, All-nil, All-tail}
use Rattle.boot_machine.specs.Prelude.{Files}
use Rattle.uki_parts.specs.declared.kind.PartKind.{PartKind}
use Rattle.uki_parts.specs.declared.name.SectionName.{SectionName}
use Rattle.uki_parts.specs.declared.piece.Piece.{Piece}
use Rattle.uki_parts.specs.declared.piece.Piece.TheVariants as pieces
use Rattle.uki_parts.specs.Initrds.{joined_bytes, joined_initrds, padded_piece, padding_of}
use Rattle.uki_parts.specs.Pieces.{HasSizes, Reading, bytes_of, piece_bytes, piece_length}
use Rattle.image_build.specs.declared.source.Source.{Source}
use Rattle.image_build.specs.Building.{named_part, part_bytes, source_bytes}
use Rattle.command_plans.specs.Prelude.{each, ◌>>=◌}

abbrev HasSize : Reading → Piece → Type 0
HasSize files piece = length (piece_bytes files piece) ≡ piece_length piece

filled_sizes : (files : Reading) (piece : Piece) (count : ℕ) (b : Bool) → HasSize files piece → HasSizes files (cond b (piece ∷ []) (piece ∷ pieces.Zeros count ∷ []))
filled_sizes files piece count true size = All-cons (HasSize files) piece [] size (All-nil (HasSize files))
filled_sizes files piece count false size =
    All-cons (HasSize files) piece (pieces.Zeros count ∷ []) size (All-cons (HasSize files) (pieces.Zeros count) [] (length-replicate count 0) (All-nil (HasSize files)))

padded_sizes : (files : Reading) (initrds : List Piece) → HasSizes files initrds → HasSizes files (flat_map padded_piece initrds)
padded_sizes files [] sizes = All-nil (HasSize files)
padded_sizes files (file ∷ initrds) sizes =
    All-append (HasSize files) (padded_piece file) (flat_map padded_piece initrds)
    (filled_sizes files file (padding_of (piece_length file)) (padding_of (piece_length file) == 0) (All-head (HasSize files) file initrds sizes))
    (padded_sizes files initrds (All-tail (HasSize files) file initrds sizes))

-- joined, they have the sizes that they say
pub joined_sizes : (files : Reading) (initrds pieces : List Piece) → pieces ≡ joined_initrds initrds → HasSizes files initrds → HasSizes files pieces
joined_sizes files [] pieces is sizes = subst (HasSizes files) (sym is) sizes
joined_sizes files (only ∷ []) pieces is sizes = subst (HasSizes files) (sym is) sizes
joined_sizes files (first ∷ second ∷ more) pieces is sizes = subst (HasSizes files) (sym is) (padded_sizes files (first ∷ second ∷ more) sizes)

-- the bytes of a part
pub part_is : (view : Files) (files : Reading) (kind : PartKind) (name : SectionName) (sources : List Source) (initrds pieces : List Piece)
    → each (source_bytes view) sources ≡ Ok (map (piece_bytes files) initrds)
    → pieces ≡ joined_initrds initrds → bytes_of files (joined_initrds initrds) ≡ joined_bytes (map (piece_bytes files) initrds)
    → part_bytes view (named_part kind name sources) ≡ Ok (name, bytes_of files pieces)
part_is view files kind name sources initrds pieces found is joined =
    ap (λ r. r >>= λ bytes. Ok (name, joined_bytes bytes)) found
    ∙ ap (λ (bytes : List ℕ). Ok (name, bytes)) (sym joined ∙ ap (bytes_of files) (sym is))
