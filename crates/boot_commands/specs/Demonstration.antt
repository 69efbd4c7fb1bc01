-- `demo SEED N`: N commands that are drawn by SEED, one after the other, and what comes of them (profile).
use Rattle.std.specs.Prelude.{ℕ, zero, suc, ◌-◌, ◌==◌, ◌^◌, Bool, false, not, ◌&&◌, List, [], ◌∷◌, ◌++◌, codes, drop, length, nat_le, nat_lt, take, Option, Some, None, Result, Ok, Err, if◌then◌else◌}
use Rattle.std.specs.Char.{is_ascii_digit}
use Rattle.std.specs.FinMap as maps
use Rattle.std.specs.List.{list_all}
use Rattle.std.specs.Fmt.{decimal}
use Rattle.std.specs.Str.Parse.{digits_value}
use Rattle.hex.specs.Hex.{encode_lower}
use Rattle.boot_base.specs.Paths.{Path}
use Rattle.boot_base.specs.declared.refusal.Refusal.{Refusal}
use Rattle.boot_base.specs.declared.refusal.Refusal.TheVariants as refusals
use Rattle.boot_machine.specs.Disk.{Files, view}
use Rattle.tool_words.specs.declared.command.One.{One}
use Rattle.tool_words.specs.declared.command.One.TheVariants as one
use Rattle.menu_order.specs.declared.bless.BlessVerb.TheVariants.{Good, Bad}
use Rattle.tool_words.specs.declared.command.BlessWord.TheVariants.{Mark}
use Rattle.pcr_values.specs.declared.bank.Bank.TheVariants as banks
use Rattle.pcr_values.specs.Banks.{digest_of}
use Rattle.command_plans.specs.Answers.{Answer, is_refusal}
use Rattle.command_plans.specs.WordErrors.{◌>>=◌}
use Rattle.boot_commands.specs.DemoImages.{demo_image}
use Rattle.boot_commands.specs.Draws.{draw_below, next_number}
use Rattle.boot_commands.specs.Replies.{one_reply}

-- 1 to 20 digits
abbrev pub is_long_number : List ℕ → Bool
is_long_number word = not (length word == 0) && nat_le (length word) 20 && list_all is_ascii_digit word

-- the number that such a word writes, below 2^64
abbrev pub long_number : List ℕ → Option ℕ
long_number word =
    if is_long_number word && nat_lt (digits_value 10 word) (2 ^ 64) then Some (digits_value 10 word) else None

-- that number, where it is up to a limit
abbrev pub number_or : ℕ → List ℕ → Option ℕ → Result ℕ Refusal
number_or limit word None = Err (refusals.BadNumber word)
number_or limit word (Some number) = if nat_le number limit then Ok number else Err (refusals.BadNumber word)

-- the number that a word writes with 1 to 20 digits, up to a limit
abbrev pub number_up_to : ℕ → List ℕ → Result ℕ Refusal
number_up_to limit word = number_or limit word (long_number word)

-- how far it has come: the generator's number, the path that is blessed, how many commands were done and refused, and
-- the boot files
pub record DemoState : Type 0 where
  pub number : ℕ
  pub entry : List ℕ
  pub done : ℕ
  pub refused : ℕ
  pub files : Files

-- the ESP of its commands
abbrev pub demo_esp : List ℕ
demo_esp = codes "efi"

-- the name of an entry by a digit
abbrev pub demo_name : ℕ → List ℕ
demo_name digit = codes "demo-" ++ decimal digit

-- the command that installs an image under a name, each by its digit, with three tries
abbrev pub drawn_install : ℕ → ℕ → One
drawn_install image name =
    one.Install (codes "u" ++ (decimal image ++ codes ".efi")) (demo_name name) (Some (codes "3")) demo_esp

-- what a draw below 8 stands for, with draws below 4 for an image and a name
abbrev pub drawn_command : ℕ → ℕ → ℕ → List ℕ → One
drawn_command kind image name entry =
    if nat_lt kind 3 then drawn_install image name
    else if nat_lt kind 5 then one.Boot demo_esp
    else if kind == 5 then one.Bless (Mark Good) entry demo_esp
    else if kind == 6 then one.Bless (Mark Bad) entry demo_esp
    else one.Unlink (demo_name name ++ codes ".efi") demo_esp

-- the path in `booted /efi/EFI/Linux/NAME` and its newline, without the `/efi` in front
abbrev pub path_told : List ℕ → List ℕ
path_told text = drop (length (codes "booted /efi")) (take (length text - 1) text)

-- the path that is blessed next: that of the last boot that was done
abbrev pub entry_after : One → Answer → List ℕ → List ℕ
entry_after (one.Boot esp) answer entry = if is_refusal answer.outcome then entry else path_told answer.text
entry_after c answer entry = entry

-- one more in one of two counts
abbrev pub count_if : Bool → ℕ → ℕ
count_if here count = if here then suc count else count

-- how far it has come after a command that had this answer
abbrev pub after_command : DemoState → ℕ → One → Answer → DemoState
after_command state number c answer =
    record {
      number = number;
      entry = entry_after c answer state.entry;
      done = count_if (not (is_refusal answer.outcome)) state.done;
      refused = count_if (is_refusal answer.outcome) state.refused;
      files = answer.after;
    }

-- how far it has come after a command on its boot files
abbrev pub run_drawn : DemoState → ℕ → One → DemoState
run_drawn state number c = after_command state number c (one_reply state.files c)

-- the generator's number after three draws
abbrev pub third_number : ℕ → ℕ
third_number number = next_number (next_number (next_number number))

-- the command that three draws stand for, from that number of the generator on
abbrev pub next_command : ℕ → List ℕ → One
next_command number entry =
    drawn_command (draw_below (next_number number) 8) (draw_below (next_number (next_number number)) 4)
    (draw_below (third_number number) 4) entry

-- a turn: three draws, and the command that they stand for
abbrev pub demo_turn : DemoState → DemoState
demo_turn state = run_drawn state (third_number state.number) (next_command state.number state.entry)

-- so many turns
abbrev pub demo_turns : ℕ → DemoState → DemoState
demo_turns zero state = state
demo_turns (suc turns) state = demo_turn (demo_turns turns state)

-- the files that it begins with
abbrev pub demo_entries : List (Path × List ℕ)
demo_entries =
    (codes "u0.efi", demo_image 0) ∷ (codes "u1.efi", demo_image 1) ∷ (codes "u2.efi", demo_image 2)
    ∷ (codes "u3.efi", demo_image 3) ∷ []

-- those files as a map
abbrev pub demo_files : Files
demo_files = maps.from_entries demo_entries

-- how far it has come before its first turn
abbrev pub demo_start : ℕ → DemoState
demo_start seed = record {
  number = seed;
  entry = codes "/EFI/Linux/none+1.efi";
  done = 0;
  refused = 0;
  files = view demo_files;
}

-- what `bootctl list` prints on Out
abbrev pub listed_on_out : Answer → List ℕ
listed_on_out answer = if is_refusal answer.outcome then [] else answer.text

-- the SHA-256 digest, in hex, of what a `bootctl list` of its ESP prints on Out
abbrev pub list_digest : Files → List ℕ
list_digest files = encode_lower (digest_of banks.Sha256 (listed_on_out (one_reply files (one.List demo_esp false))))

-- the first line: what was asked for
abbrev pub run_line : ℕ → ℕ → List ℕ
run_line seed count = codes "demo " ++ (decimal seed ++ (codes " " ++ (decimal count ++ codes "\n")))

-- the second and the third line: how many commands were done, and how many were refused
abbrev pub count_lines : ℕ → ℕ → List ℕ
count_lines done refused = codes "ok " ++ (decimal done ++ (codes "\nrefused " ++ (decimal refused ++ codes "\n")))

-- the last two lines: how many boot files there are, and the digest of the list
abbrev pub end_lines : ℕ → List ℕ → List ℕ
end_lines files list = codes "files " ++ (decimal files ++ (codes "\nlist " ++ (list ++ codes "\n")))

-- the five lines
abbrev pub demo_text : ℕ → ℕ → DemoState → List ℕ
demo_text seed count state =
    run_line seed count ++ count_lines state.done state.refused
    ++ end_lines (maps.len state.files) (list_digest state.files)

-- what `demo` says by its two words, or the refusal of a word that is no number or one too high
abbrev pub demo_result : List ℕ → List ℕ → Result (List ℕ) Refusal
demo_result seed count =
    number_up_to 18446744073709551615 seed >>= λ seed. number_up_to 10000 count
    >>= λ count. Ok (demo_text seed count (demo_turns count (demo_start seed)))
