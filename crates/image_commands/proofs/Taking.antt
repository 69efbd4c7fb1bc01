-- How many bytes reads give.
use Rattle.std.proofs.Common.{◌≡◌, ◌<◌, ◌≤◌, ◌+◌, ℕ, List, [], ◌∷◌, length, map, take, get_or, Result, Ok, Err, arith, refl, sym, ap, ◌∙◌, sum_by}
use Rattle.std.proofs.lemmas.List.Elements.{All-head, All-tail}
use Rattle.std.proofs.lemmas.List.Sums.{sum_by-cons, sum_by-take-le, sum_by_more}
use Rattle.boot_base.specs.Paths.{Path}
use Rattle.boot_base.specs.declared.refusal.Refusal.{Refusal}
use Rattle.boot_machine.specs.Prelude.{Files}
use Rattle.pe_reader.specs.Prelude.{Headers, pe_of}
use Rattle.pe_reader.specs.declared.fault.FailedCheck.{FailedCheck}
use Rattle.pe_reader.specs.declared.section.Section.{Section}
use Rattle.stub_replay.specs.Measured.{measured_raw_length, raw_length}
use Rattle.stub_replay.specs.Parts.{HaveSizes, IsWhole, files_length, named_bytes, read_length}
use Rattle.stub_replay.specs.declared.measurable.Measurable.{Measurable}
use Rattle.stub_replay.proofs.Fitting.{content_fits}
use Rattle.uki_parts.specs.Pieces.{Reading}
use Rattle.command_plans.proofs.Each.{bind_ok, each_cut, none_made}
use Rattle.command_plans.specs.Prelude.{bytes_at, each, headers_or, image_at, ◌>>=◌, path_in}
use Rattle.image_commands.specs.Calculating.{under_name}
use Rattle.image_commands.specs.Taking.{all_raw_length, found_bytes, named_content}

-- bytes with the headers that they read as
abbrev with_headers : List ℕ → Result Headers FailedCheck → Result (List ℕ × Headers) Refusal
with_headers bytes headers = headers_or headers >>= λ hs. Ok (bytes, hs)

-- an image that was read stands at its path, and its headers are read
opened : (read : List ℕ → Result Headers FailedCheck) (bytes file : List ℕ) (h : Headers) (headers : Result Headers FailedCheck) → read bytes ≡ headers → with_headers bytes headers ≡ Ok (file, h)
    → (bytes ≡ file) × (read file ≡ Ok h)
opened read bytes file h (Ok headers) same is =
    let both : ◌≡◌ {A = List ℕ × Headers} (bytes, headers) (file, h) = cc is in
    let one = ap (λ (p : List ℕ × Headers). p.0) both in
    (one, ap read (sym one) ∙ same ∙ ap (λ (p : List ℕ × Headers). Ok p.1) both)
opened read bytes file h (Err check) same is = cc is

found_image : (read : List ℕ → Result Headers FailedCheck) (found : Result (List ℕ) Refusal) (file : List ℕ) (h : Headers) → (found >>= λ bytes. with_headers bytes (read bytes)) ≡ Ok (file, h)
    → (found ≡ Ok file) × (read file ≡ Ok h)
found_image read (Ok bytes) file h is =
    let found = opened read bytes file h (read bytes) refl is in
    (ap Ok found.0, found.1)
found_image read (Err why) file h is = cc is

pub image_read : (view : Files) (path : Path) (file : List ℕ) (h : Headers) → image_at view path ≡ Ok (file, h) → (bytes_at view path ≡ Ok file) × (pe_of file ≡ Ok h)
image_read view path file h is = found_image pe_of (bytes_at view path) file h is

-- of an image whose measured sections are read
pub image_taken : (view : Files) (path : Path) (file now : List ℕ) (h : Headers) (start middle after : ℕ) → image_at view path ≡ Ok (file, h)
    → now ≡ file → middle ≤ start + 69463 → after ≤ middle + measured_raw_length now
    → after ≤ start + (69463 + measured_raw_length (found_bytes (bytes_at view path)))
image_taken view path file now h start middle after is same first second =
    let read = image_read view path file h is in
    omega (arith, first, second, ap measured_raw_length same, ap (λ (r : Result (List ℕ) Refusal). measured_raw_length (found_bytes r)) read.0)

-- or whose sections are all read
pub inspected_taken : (view : Files) (path : Path) (file : List ℕ) (h : Headers) (start middle after : ℕ) → image_at view path ≡ Ok (file, h)
    → middle ≤ start + 69463 → after ≤ middle + sum_by raw_length h.sections
    → after ≤ start + (69463 + all_raw_length (pe_of (found_bytes (bytes_at view path))))
inspected_taken view path file h start middle after is first second =
    let read = image_read view path file h is in
    omega (arith, first, second, ap (λ (r : Result (List ℕ) Refusal). all_raw_length (pe_of (found_bytes r))) read.0 ∙ ap all_raw_length read.1)

-- what a word names is what stands at its path
pub named_at : (view : Files) (word : List ℕ) (path : Path) → path_in word ≡ Ok path → found_bytes (bytes_at view path) ≡ named_content view word
named_at view word path is = ap (λ (r : Result Path Refusal). found_bytes (r >>= bytes_at view)) (sym is)

-- one section more
pub sections_taken : (sections : List Section) (i : ℕ) (d : Section) (start before after : ℕ) → i < length sections
    → before ≤ start + sum_by raw_length (take i sections) → after ≤ before + raw_length (get_or sections i d)
    → after ≤ start + sum_by raw_length (take (i + 1) sections)
sections_taken sections i d start before after inside first second =
    omega (arith, first, second, sum_by_more raw_length sections i d inside)

pub all_sections_taken : (sections all : List Section) (i start after : ℕ) → sections ≡ all → after ≤ start + sum_by raw_length (take i sections) → after ≤ start + sum_by raw_length all
all_sections_taken sections all i start after same taken = omega (arith, taken, sum_by-take-le raw_length sections i, ap (sum_by raw_length) same)

-- the bytes that words name are those of the parts
pub lengths_made : (view : Files) (words : List (List ℕ × List ℕ)) (paths : List (List ℕ × Path)) (parts : List (List ℕ × List ℕ))
    → each (under_name path_in) words ≡ Ok paths → each (under_name (bytes_at view)) paths ≡ Ok parts
    → sum_by (λ part. length part.1) parts ≡ sum_by (λ part. length (named_content view part.1)) words
lengths_made view [] paths parts paths_are parts_are =
    let none : paths ≡ [] = sym (none_made (under_name path_in) paths paths_are) in
    let made = none_made (under_name (bytes_at view)) parts (ap (each (under_name (bytes_at view))) (sym none) ∙ parts_are) in
    ap (sum_by (λ (part : List ℕ × List ℕ). length part.1)) (sym made)
lengths_made view (word ∷ words) paths parts paths_are parts_are =
    let cut = each_cut (under_name path_in) word words paths paths_are in
    let path = bind_ok (path_in word.1) (λ made. Ok (word.0, made)) cut.0 cut.2 in
    let next = each_cut (under_name (bytes_at view)) cut.0 cut.1 parts (ap (each (under_name (bytes_at view))) (sym cut.4) ∙ parts_are) in
    let part = bind_ok (bytes_at view cut.0.1) (λ made. Ok (cut.0.0, made)) next.0 next.2 in
    let is_path : path.0 ≡ cut.0.1 = cc path.2 in
    let is_part : part.0 ≡ next.0.1 = cc part.2 in
    let read : named_content view word.1 ≡ next.0.1 =
    ap (λ (r : Result Path Refusal). found_bytes (r >>= bytes_at view)) path.1
    ∙ ap (λ (p : Path). found_bytes (bytes_at view p)) is_path
    ∙ ap found_bytes part.1 ∙ is_part in
    let rest = lengths_made view words cut.1 next.1 cut.3 next.3 in
    let long = λ (part : List ℕ × List ℕ). length part.1 in
    let named = λ (part : List ℕ × List ℕ). length (named_content view part.1) in
    ap (sum_by long) next.4 ∙ sum_by-cons long next.0 next.1
    ∙ ap (λ (n : ℕ). length next.0.1 + n) rest
    ∙ ap (λ (bytes : List ℕ). length bytes + sum_by named words) (sym read)
    ∙ sym (sum_by-cons named word words)

pub parts_fit : (files : Reading) (parts : List Measurable) → HaveSizes files parts → files_length parts ≤ sum_by (λ part. length part.1) (map (named_bytes files) parts)
parts_fit files [] sized = omega arith
parts_fit files (part ∷ parts) sized =
    let P = λ (m : Measurable). IsWhole files m.content in
    let long = λ (p : List ℕ × List ℕ). length p.1 in
    omega (
      arith,
      sum_by-cons (λ (m : Measurable). read_length m.content) part parts,
      content_fits files part.content (All-head P part parts sized),
      parts_fit files parts (All-tail P part parts sized),
      sum_by-cons long (named_bytes files part) (map (named_bytes files) parts),
    )
