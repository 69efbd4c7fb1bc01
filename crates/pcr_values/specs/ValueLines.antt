-- The lines that predict PCR 11 (systemd-measure(1), calculate).
use Rattle.std.specs.Prelude.{◌≢◌, ℕ, List, ◌++◌, codes}
use Rattle.std.specs.List.{AllPairs, flat_map}
use Rattle.hex.specs.Hex.{encode_lower}
use Rattle.pcr_values.specs.declared.bank.Bank.{Bank}
use Rattle.pcr_values.specs.declared.pcr.Pcr.{Pcr}
use Rattle.pcr_values.specs.Banks.{bank_name, extend_all}
use Rattle.pcr_values.specs.Values.{pcr_bank, pcr_bytes}
use Rattle.pcr_values.specs.Phases.{path_text}

-- the heading of a path: `# PCR[11] Phase <PATH>` and a newline
unfoldable pub heading_of : List (List ℕ) → List ℕ
heading_of path = codes "# PCR[11] Phase <" ++ (path_text path ++ codes ">\n")

-- the line of a register: `11:NAME=HEX` and a newline
unfoldable pub value_line : Bank → List ℕ → List ℕ
value_line bank bytes = codes "11:" ++ (bank_name bank ++ (codes "=" ++ (encode_lower bytes ++ codes "\n")))

-- the lines of values by bank and path: for each path its heading, and below it a value for each bank
abbrev pub value_lines : (Bank → List (List ℕ) → List ℕ) → List Bank → List (List (List ℕ)) → List ℕ
value_lines value banks paths =
    flat_map (λ path. heading_of path ++ flat_map (λ bank. value_line bank (value bank path)) banks) paths

-- the line of a register after the words of a path have extended it
abbrev pub line_after : List (List ℕ) → Pcr → List ℕ
line_after path start = value_line (pcr_bank start) (extend_all (pcr_bank start) (pcr_bytes start) path)

-- the lines of any registers: for each path its heading, and below it a line for each register after the path's words
abbrev pub register_lines : List Pcr → List (List (List ℕ)) → List ℕ
register_lines starts paths = flat_map (λ path. heading_of path ++ flat_map (line_after path) starts) paths

-- no two of the registers are of the same bank
abbrev pub HasDistinctBanks : List Pcr → Type 0
HasDistinctBanks starts = AllPairs (λ one other. pcr_bank one ≢ pcr_bank other) starts
