-- How a name is split at its counter, as a plain function (UAPI Boot Loader Specification, "Boot counting").
use Rattle.std.specs.Prelude.{ℕ, ◌-◌, ◌==◌, Bool, List, [], ◌∷◌, length, take, nat_eq, Option, Some, None, if◌then◌else◌}
use Rattle.std.specs.List.{ends_with}
use Rattle.std.specs.Option.{option_map}
use Rattle.std.specs.Str.Parse.{digits_value}
use Rattle.menu_order.specs.declared.counted.Counted.{Counted}
use Rattle.menu_order.specs.declared.counted.Suffix.{Suffix}
use Rattle.menu_order.specs.declared.counted.Suffix.TheVariants.{Conf, Efi}
use Rattle.menu_order.specs.Counter.{suffix_text, is_number, counted_of}

-- the name ends in the suffix
abbrev pub has_suffix : Suffix → List ℕ → Bool
has_suffix suffix name = ends_with nat_eq name (suffix_text suffix)

-- the name without the suffix that it ends in
abbrev pub stem_of : Suffix → List ℕ → List ℕ
stem_of suffix name = take (length name - length (suffix_text suffix)) name

-- what stands before and behind a byte of a text, where the text has it
abbrev pub Cut : Type 0
Cut = Option (List ℕ × List ℕ)

-- the front is one byte longer
abbrev pub lengthen_front : ℕ → Cut → Cut
lengthen_front byte cut = option_map (λ parts. (byte ∷ parts.0, parts.1)) cut

-- a cut at the first such byte
abbrev pub cut_first : ℕ → List ℕ → Cut
cut_first byte [] = None
cut_first byte (first ∷ later) = if first == byte then Some ([], later) else lengthen_front first (cut_first byte later)

-- a cut of what stands behind the first byte, or else one at that byte
abbrev pub cut_here : ℕ → ℕ → List ℕ → Cut → Cut
cut_here byte first later None = if first == byte then Some ([], later) else None
cut_here byte first later (Some parts) = lengthen_front first (Some parts)

-- a cut at the last such byte
abbrev pub cut_last : ℕ → List ℕ → Cut
cut_last byte [] = None
cut_last byte (first ∷ later) = cut_here byte first later (cut_last byte later)

-- the number that one to nine digits write
abbrev pub number_in : List ℕ → Option ℕ
number_in text = if is_number text then Some (digits_value 10 text) else None

-- LEFT and DONE, where both are there
abbrev pub two_numbers : Option ℕ → Option ℕ → Option (ℕ × ℕ)
two_numbers None _ = None
two_numbers (Some left) None = None
two_numbers (Some left) (Some done) = Some (left, done)

-- the numbers of a counter's text, cut at its hyphen: without one it is LEFT alone
abbrev pub counter_from : List ℕ → Cut → Option (ℕ × ℕ)
counter_from text None = option_map (λ left. (left, 0)) (number_in text)
counter_from text (Some parts) = two_numbers (number_in parts.0) (number_in parts.1)

-- LEFT and DONE of a counter's text
abbrev pub counter_in : List ℕ → Option (ℕ × ℕ)
counter_in text = counter_from text (cut_first 45 text)

-- what a stem is split into, cut at its last plus: a base that isn't empty, and a counter
abbrev pub split_from : Suffix → Cut → Option Counted
split_from suffix None = None
split_from suffix (Some parts) =
    if length parts.0 == 0 then None
    else option_map (λ numbers. counted_of parts.0 numbers.0 numbers.1 suffix) (counter_in parts.1)

-- what a stem is split into
abbrev pub split_stem : Suffix → List ℕ → Option Counted
split_stem suffix stem = split_from suffix (cut_last 43 stem)

-- what a name is split into, where it has a counter
unfoldable pub split_of : List ℕ → Option Counted
split_of name =
    if has_suffix Conf name then split_stem Conf (stem_of Conf name)
    else (if has_suffix Efi name then split_stem Efi (stem_of Efi name) else None)
