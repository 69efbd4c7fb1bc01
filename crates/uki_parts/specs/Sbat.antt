-- SBAT metadata (shim, SBAT.md: lines of comma-separated values, the first of which is that of SBAT itself).
use Rattle.std.specs.Prelude.{ℕ, ◌==◌, Bool, List, [], ◌∷◌, ◌++◌, filter, codes, nat_eq, if◌then◌else◌}
use Rattle.std.specs.List.{slice_split, flat_map, before_first, starts_with}
use Rattle.uki_parts.specs.Texts.{is_nonempty_text}

-- the byte that ends a line
abbrev pub is_sbat_newline : ℕ → Bool
is_sbat_newline byte = byte == 10

-- the lines of a section: what newlines part of the bytes before its first NUL
abbrev pub sbat_lines : List ℕ → List (List ℕ)
sbat_lines section = slice_split is_sbat_newline (before_first (λ byte. byte == 0) section)

-- the entries among lines: those after the first that aren't empty, where the first begins with `sbat,`
abbrev pub entries_among : List (List ℕ) → List (List ℕ)
entries_among [] = []
entries_among (first ∷ rest) = if starts_with nat_eq first (codes "sbat,") then filter is_nonempty_text rest else []

-- the entries of a section
abbrev pub sbat_entries : List ℕ → List (List ℕ)
sbat_entries section = entries_among (sbat_lines section)

-- the lines of a text that aren't empty
abbrev pub kept_lines : List ℕ → List (List ℕ)
kept_lines text = filter is_nonempty_text (slice_split is_sbat_newline text)

-- lines, each with its newline
abbrev pub lines_text : List (List ℕ) → List ℕ
lines_text lines = flat_map (λ line. line ++ 10 ∷ []) lines

-- the text of lines behind the line of SBAT itself, and before one NUL
abbrev pub with_first_line : List ℕ → List ℕ
with_first_line lines =
    codes "sbat,1,SBAT Version,sbat,1,https://github.com/rhboot/shim/blob/main/SBAT.md\n" ++ (lines ++ 0 ∷ [])

-- the text of all entries, none where there is no entry
abbrev pub sbat_text : List (List ℕ) → List ℕ
sbat_text [] = []
sbat_text (entry ∷ more) = with_first_line (lines_text (entry ∷ more))

-- the metadata of an image: the entries of the stub's section, of the kernel's and of the given bytes
abbrev pub merged_sbat : List ℕ → List ℕ → List ℕ → List ℕ
merged_sbat stub kernel given = sbat_text (sbat_entries stub ++ (sbat_entries kernel ++ sbat_entries given))
