-- The four unified kernel images that a demonstration begins with: a stub with an os-release text and a kernel of three
-- bytes, built as `ukify build` builds them.
use Rattle.std.specs.Prelude.{ℕ, ◌-◌, List, ◌++◌, [], codes, fold, length, replicate}
use Rattle.std.specs.Fmt.{decimal}
use Rattle.std.specs.Int.{to_le_bytes, w32}
use Rattle.boot_commands.specs.declared.demo_images.TheConstants.{HEADERS}

-- with zeros behind it up to a place
abbrev pub with_zeros : List ℕ → ℕ → List ℕ
with_zeros bytes place = bytes ++ replicate (place - length bytes) 0

-- a number of four bytes, the lowest first, at its place
abbrev pub with_number : List ℕ → ℕ × ℕ → List ℕ
with_number bytes field = with_zeros bytes field.0 ++ to_le_bytes w32 field.1

-- the headers: each number at its place, and zeros between them
abbrev pub headers : List ℕ
headers = fold with_number [] HEADERS

-- the os-release text of an image by its digit
abbrev pub osrel_text : ℕ → List ℕ
osrel_text digit =
    codes "ID=demo\nPRETTY_NAME=\"Demo " ++ (decimal digit
    ++ (codes "\"\nVERSION_ID=" ++ (decimal digit ++ codes "\n")))

-- the image of a digit: headers, the os-release text from 1,024 on, and a kernel of three bytes from 1,536 on
abbrev pub demo_image : ℕ → List ℕ
demo_image digit = with_zeros (with_zeros (with_zeros headers 1024 ++ osrel_text digit) 1536 ++ codes "abc") 2048
