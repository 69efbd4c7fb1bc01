-- Boot counters in file names (UAPI Boot Loader Specification, "Boot counting"; that a number has at most nine digits
-- is this project's choice).
use Rattle.std.specs.Prelude.{◌≡◌, ◌⊎◌, ℕ, Bool, not, nat_le, ◌&&◌, ◌==◌, ◌+◌, ◌-◌, ◌<◌, ◌≤◌, min, List, [], ◌∷◌, ◌++◌, length, take, codes, if◌then◌else◌}
use Rattle.std.specs.Char.{is_ascii_digit}
use Rattle.std.specs.Fmt.{decimal}
use Rattle.std.specs.List.{list_all}
use Rattle.std.specs.Str.{IsCharBoundary}
use Rattle.std.specs.Str.Parse.{IsNumeral, digits_value}
use Rattle.menu_order.specs.declared.counted.Counted.{Counted}
use Rattle.menu_order.specs.declared.counted.Suffix.{Suffix}
use Rattle.menu_order.specs.declared.counted.Suffix.TheVariants.{Conf, Efi}

-- `.conf` or `.efi`
abbrev pub suffix_text : Suffix → List ℕ
suffix_text Conf = codes ".conf"
suffix_text Efi = codes ".efi"

-- the text is one to nine decimal digits, which write n
pub record IsNumber (text : List ℕ) (n : ℕ) : Type 0 where
  pub numeral : IsNumeral 10 text
  pub short : length text ≤ 9
  pub value : digits_value 10 text ≡ n

-- the test for the text of a number
abbrev pub is_number : List ℕ → Bool
is_number text = not (length text == 0) && nat_le (length text) 9 && list_all is_ascii_digit text

-- the text of DONE: nothing for none, or a hyphen (45) and a number
abbrev pub IsDoneText : List ℕ → ℕ → Type 0
IsDoneText text done = ((text ≡ []) × (done ≡ 0)) ⊎ ((number : List ℕ) × (text ≡ 45 ∷ number) × IsNumber number done)

-- the text is a counter: LEFT and DONE
pub record IsCounter (text : List ℕ) (left done : ℕ) : Type 0 where
  pub left_text : List ℕ
  pub done_text : List ℕ
  pub parts : text ≡ left_text ++ done_text
  pub left_is : IsNumber left_text left
  pub done_is : IsDoneText done_text done

-- the name is a base that isn't empty, a plus (43), a counter and a suffix
pub record IsCounted (name base : List ℕ) (left done : ℕ) (suffix : Suffix) : Type 0 where
  pub counter : List ℕ
  pub parts : name ≡ base ++ (43 ∷ (counter ++ suffix_text suffix))
  pub some_base : 0 < length base
  pub counter_is : IsCounter counter left done

-- the name has no counter
abbrev pub IsUncounted : List ℕ → Type 0
IsUncounted name = (base : List ℕ) (left done : ℕ) (suffix : Suffix) → IsCounted name base left done suffix → ⊥

-- the name is counted, and these are its numbers, its suffix and how long its base is
abbrev pub IsSplit : List ℕ → Counted → Type 0
IsSplit name counted = IsCounted name (take counted.base_length name) counted.left counted.done counted.suffix

-- the base of a name is so many bytes long, and not all of it, and the name may be cut behind it
abbrev pub IsBaseLength : List ℕ → ℕ → Type 0
IsBaseLength name n = (0 < n) × (n < length name) × IsCharBoundary name n

-- what a name is split into
abbrev pub counted_of : List ℕ → ℕ → ℕ → Suffix → Counted
counted_of base left done suffix = record { base_length = length base; left = left; done = done; suffix = suffix }

-- after a boot LEFT is one lower and DONE one higher, up to nine digits
abbrev pub after_boot : Counted → Counted
after_boot counted = record counted { left = counted.left - 1; done = min (counted.done + 1) 999999999 }

-- how DONE is written: not at all where it is 0
abbrev pub done_text_of : ℕ → List ℕ
done_text_of done = if done == 0 then [] else (45 ∷ decimal done)

-- the name that is written: no leading zeros, and no DONE of 0
abbrev pub written_name : List ℕ → ℕ → ℕ → Suffix → List ℕ
written_name base left done suffix = base ++ (43 ∷ (decimal left ++ (done_text_of done ++ suffix_text suffix)))

-- the name without its counter
abbrev pub IsGoodName : List ℕ → List ℕ → Type 0
IsGoodName name good =
    (base : List ℕ) × (left : ℕ) × (done : ℕ) × (suffix : Suffix)
    × IsCounted name base left done suffix
    × (good ≡ base ++ suffix_text suffix)

-- the name with no boot left
abbrev pub IsBadName : List ℕ → List ℕ → Type 0
IsBadName name bad =
    (base : List ℕ) × (left : ℕ) × (done : ℕ) × (suffix : Suffix)
    × IsCounted name base left done suffix
    × (bad ≡ written_name base 0 done suffix)
