-- The parts of a calculation, one by one.
use Rattle.std.proofs.Common.{◌≡◌, ◌<◌, ◌≤◌, ◌+◌, ℕ, List, [], ◌∷◌, ◌++◌, Bor, get_or, take, drop, length, map, Option, None, Some, Result, Ok, Err, refl, sym, ap, ◌∙◌, subst, zip, option_copied, All, IsErr, IsErrAnd}
use Rattle.std.proofs.lemmas.Grind.{flat_map-append}
use Rattle.std.proofs.lemmas.List.{append-nil, drop_more, map-append, take_all, take_more, take-append-drop}
use Rattle.std.proofs.lemmas.List.Elements.{All-append, All-cons, All-nil}
use Rattle.boot_base.specs.Paths.{Path}
use Rattle.boot_base.specs.declared.refusal.Refusal.{Refusal}
use Rattle.boot_machine.specs.Prelude.{State, contents, seen}
use Rattle.stub_replay.specs.Measured.{measured_names}
use Rattle.stub_replay.specs.Ordered.{InMeasuredOrder, as_part, present_parts}
use Rattle.stub_replay.specs.Parts.{HaveSizes, IsPlaced, IsWhole, named_bytes}
use Rattle.stub_replay.specs.declared.measurable.Content.TheVariants as sources
use Rattle.stub_replay.specs.declared.measurable.Measurable.{Measurable}
use Rattle.tool_words.specs.declared.command.CalculateWords.{CalculateWords}
use Rattle.uki_parts.specs.Pieces.{HasSizes, Reading, bytes_of, piece_bytes, piece_length}
use Rattle.uki_parts.specs.declared.piece.Piece.{Piece}
use Rattle.command_plans.proofs.WordErrors.{done_next, means_word_error}
use Rattle.command_plans.proofs.Each.{bind_ok, each_cut, each_more, each_refused, none_made}
use Rattle.command_plans.proofs.ReadErrors.{says_read_error}
use Rattle.command_plans.specs.Prelude.{bytes_at, each, ◌>>=◌, WordErrorFor, Means, path_in, Says, ReadErrorFor}
use Rattle.command_plans.specs.declared.word_error.WordError.{WordError}
use Rattle.command_plans.specs.declared.word_error.WordError.TheVariants.{Memory, Refused}
use Rattle.command_plans.specs.declared.read_error.ReadError.{ReadError}
use Rattle.command_plans.specs.declared.read_error.ReadError.TheVariants.{Memory as WithoutMemory, Disk, Refused as ReadErrorRefused}
use Rattle.image_commands.specs.Calculating.{part_words, under_name}
use Rattle.image_commands.specs.Parts.{HasItsSize, named_file, named_path, named_word}

-- a name and a word, as a part holds them
abbrev pub Word : Type 0
Word = Bor (List ℕ) × Option (Bor (List ℕ))

-- the words that are given
abbrev pub given_of : List Word → List (List ℕ × List ℕ)
given_of words = present_parts (map named_word words)

split_at : {A : Type 0} (xs : List A) (i : ℕ) (d : A) → i < length xs → xs ≡ take i xs ++ get_or xs i d ∷ drop (i + 1) xs
split_at xs i d inside = sym (take-append-drop i xs) ∙ ap (λ l. take i xs ++ l) (drop_more xs i d inside)

given_append : (xs ys : List Word) → given_of (xs ++ ys) ≡ given_of xs ++ given_of ys
given_append xs ys =
    ap present_parts (map-append named_word xs ys)
    ∙ flat_map-append (λ (part : List ℕ × Option (List ℕ)). as_part part.0 part.1) (map named_word xs) (map named_word ys)

given_item : (words : List Word) (i : ℕ) (d : Word) → i < length words
    → given_of (take (i + 1) words) ≡ given_of (take i words) ++ as_part (named_word (get_or words i d)).0 (named_word (get_or words i d)).1
given_item words i d inside =
    ap given_of (take_more words i d inside) ∙ given_append (take i words) (get_or words i d ∷ [])
    ∙ ap (λ (l : List (List ℕ × List ℕ)). given_of (take i words) ++ l) (append-nil (as_part (named_word (get_or words i d)).0 (named_word (get_or words i d)).1))

given_split : (words : List Word) (i : ℕ) (d : Word) → i < length words
    → given_of words ≡ given_of (take i words) ++ (as_part (named_word (get_or words i d)).0 (named_word (get_or words i d)).1 ++ given_of (drop (i + 1) words))
given_split words i d inside = ap given_of (split_at words i d inside) ∙ given_append (take i words) (get_or words i d ∷ drop (i + 1) words)

-- a word that is given
pub word_more : (words : List Word) (i : ℕ) (d : Word) (word : Bor (List ℕ)) (path : Path) (paths more : List (Bor (List ℕ) × Path)) → i < length words → (get_or words i d).1 ≡ Some word
    → path_in word.now ≡ Ok path → more ≡ paths ++ ((get_or words i d).0, path) ∷ []
    → each (under_name path_in) (given_of (take i words)) ≡ Ok (map named_path paths) → each (under_name path_in) (given_of (take (i + 1) words)) ≡ Ok (map named_path more)
word_more words i d word path paths more inside is made is_more before =
    let name = (get_or words i d).0 in
    ap (each (under_name path_in)) (given_item words i d inside ∙ ap (λ (o : Option (Bor (List ℕ))). given_of (take i words) ++ as_part name.now (option_copied o)) is)
    ∙ each_more (under_name path_in) (given_of (take i words)) (map named_path paths) (name.now, word.now) (name.now, path) before
    (done_next (path_in word.now) path (λ made. Ok (name.now, made)) made)
    ∙ ap Ok (sym (ap (map named_path) is_more ∙ map-append named_path paths ((name, path) ∷ [])))

word_error_at : (words : List Word) (i : ℕ) (d : Word) (word : Bor (List ℕ)) (paths : List (List ℕ × Path)) (word_error : WordError) → i < length words → (get_or words i d).1 ≡ Some word
    → WordErrorFor word_error (path_in word.now) → each (under_name path_in) (given_of (take i words)) ≡ Ok paths → WordErrorFor word_error (each (under_name path_in) (given_of words))
word_error_at words i d word paths Memory inside is why before = tt
word_error_at words i d word paths (Refused refusal) inside is why before =
    let name = (get_or words i d).0 in
    ap (each (under_name path_in))
    (given_split words i d inside ∙ ap (λ (o : Option (Bor (List ℕ))). given_of (take i words) ++ (as_part name.now (option_copied o) ++ given_of (drop (i + 1) words))) is)
    ∙ each_refused (under_name path_in) (given_of (take i words)) paths (name.now, word.now) (given_of (drop (i + 1) words)) refusal before
    (ap (λ (r : Result Path Refusal). r >>= λ made. Ok (name.now, made)) why)

-- one that is declined
pub word_error_of : {X : Type 0} (view : X → List (List ℕ × Path)) (words : List Word) (i : ℕ) (d : Word) (word : Bor (List ℕ))
    (paths : List (List ℕ × Path)) (word_error : WordError) (result : Result X WordError)
    → i < length words → (get_or words i d).1 ≡ Some word → WordErrorFor word_error (path_in word.now) → each (under_name path_in) (given_of (take i words)) ≡ Ok paths
    → IsErr result → IsErrAnd result (λ e. e ≡ word_error) → Means view result (each (under_name path_in) (given_of words))
word_error_of view words i d word paths word_error result inside is why before failed fails =
    means_word_error result word_error view (each (under_name path_in) (given_of words)) failed fails (word_error_at words i d word paths word_error inside is why before)

pub words_all : (words : List Word) (i : ℕ) (paths : List (List ℕ × Path)) → length words ≤ i
    → each (under_name path_in) (given_of (take i words)) ≡ Ok paths → each (under_name path_in) (given_of words) ≡ Ok paths
words_all words i paths end before = ap (λ (l : List Word). each (under_name path_in) (given_of l)) (sym (take_all i words end)) ∙ before

-- a part's file more
pub file_more : (s now : State) (paths : List (Bor (List ℕ) × Path)) (files more : List (Bor (List ℕ) × Piece)) (name : Bor (List ℕ)) (path : Path) (file : Piece) → now ≡ s
    → each (under_name (bytes_at (seen s))) (map named_path paths) ≡ Ok (map (named_file (contents (seen s))) files)
    → bytes_at (seen now) path ≡ Ok (piece_bytes (contents (seen now)) file) → more ≡ files ++ (name, file) ∷ []
    → each (under_name (bytes_at (seen s))) (map named_path (paths ++ (name, path) ∷ [])) ≡ Ok (map (named_file (contents (seen s))) more)
file_more s now paths files more name path file same before found is =
    let reading = contents (seen s) in
    let here : bytes_at (seen s) path ≡ Ok (piece_bytes reading file) =
    subst (λ (t : State). bytes_at (seen t) path ≡ Ok (piece_bytes (contents (seen t)) file)) same found in
    ap (each (under_name (bytes_at (seen s)))) (map-append named_path paths ((name, path) ∷ []))
    ∙ each_more (under_name (bytes_at (seen s))) (map named_path paths) (map (named_file reading) files) (name.now, path) (name.now, piece_bytes reading file) before
    (done_next (bytes_at (seen s) path) (piece_bytes reading file) (λ made. Ok (name.now, made)) here)
    ∙ ap Ok (sym (ap (map (named_file reading)) is ∙ map-append (named_file reading) files ((name, file) ∷ [])))

pub size_more : (s now : State) (files more : List (Bor (List ℕ) × Piece)) (name : Bor (List ℕ)) (file : Piece) → now ≡ s
    → All (HasItsSize (contents (seen s))) files → HasItsSize (contents (seen now)) (name, file)
    → more ≡ files ++ (name, file) ∷ [] → All (HasItsSize (contents (seen s))) more
size_more s now files more name file same before found is =
    let P = HasItsSize (contents (seen s)) in
    let here = subst (λ (t : State). HasItsSize (contents (seen t)) (name, file)) same found in
    subst (All P) (sym is) (All-append P files ((name, file) ∷ []) before (All-cons P (name, file) [] here (All-nil P)))

read_error_each : (s now : State) (all paths rest : List (Bor (List ℕ) × Path)) (files : List (Bor (List ℕ) × Piece)) (name : Bor (List ℕ)) (path : Path)
    (fault : ReadError)
    → now ≡ s → all ≡ paths ++ (name, path) ∷ rest
    → each (under_name (bytes_at (seen s))) (map named_path paths) ≡ Ok (map (named_file (contents (seen s))) files) → ReadErrorFor fault (bytes_at (seen now) path)
    → ReadErrorFor fault (each (under_name (bytes_at (seen s))) (map named_path all))
read_error_each s now all paths rest files name path WithoutMemory same is before why = tt
read_error_each s now all paths rest files name path Disk same is before why = tt
read_error_each s now all paths rest files name path (ReadErrorRefused refusal) same is before why =
    let here = subst (λ (t : State). bytes_at (seen t) path ≡ Err refusal) same why in
    ap (each (under_name (bytes_at (seen s)))) (ap (map named_path) is ∙ map-append named_path paths ((name, path) ∷ rest))
    ∙ each_refused (under_name (bytes_at (seen s))) (map named_path paths) _ (name.now, path) (map named_path rest) refusal before
    (ap (λ (r : Result (List ℕ) Refusal). r >>= λ made. Ok (name.now, made)) here)

pub file_refused : {X : Type 0} (view : X → List (List ℕ × List ℕ)) (s now : State) (all paths rest : List (Bor (List ℕ) × Path))
    (files : List (Bor (List ℕ) × Piece)) (name : Bor (List ℕ)) (path : Path) (fault : ReadError) (result : Result X ReadError)
    → now ≡ s → all ≡ paths ++ (name, path) ∷ rest
    → each (under_name (bytes_at (seen s))) (map named_path paths) ≡ Ok (map (named_file (contents (seen s))) files) → ReadErrorFor fault (bytes_at (seen now) path)
    → IsErr result → IsErrAnd result (λ e. e ≡ fault) → Says view result (each (under_name (bytes_at (seen s))) (map named_path all))
file_refused view s now all paths rest files name path fault result same is before why failed fails =
    says_read_error result fault view _ failed fails (read_error_each s now all paths rest files name path fault same is before why)

-- a part's content more
abbrev pub part_in : Bor (List ℕ) → Bor (List Piece) → Measurable
part_in name pieces = record { name = name; content = sources.Pieces pieces }

part_bytes : (reading : Reading) (name : Bor (List ℕ)) (file : Piece) (pieces : Bor (List Piece)) → pieces.now ≡ file ∷ [] → named_bytes reading (part_in name pieces) ≡ named_file reading (name, file)
part_bytes reading name file pieces are = ap (λ (list : List Piece). (name.now, bytes_of reading list)) are ∙ ap (λ (bytes : List ℕ). (name.now, bytes)) (append-nil (piece_bytes reading file))

pub part_more : (reading : Reading) (files : List (Bor (List ℕ) × Piece)) (i : ℕ) (d item : Bor (List ℕ) × Piece) (pieces : Bor (List Piece))
    (parts more : List Measurable)
    → i < length files → item ≡ get_or files i d → pieces.now ≡ item.1 ∷ []
    → more ≡ parts ++ part_in item.0 pieces ∷ [] → map (named_bytes reading) parts ≡ map (named_file reading) (take i files)
    → map (named_bytes reading) more ≡ map (named_file reading) (take (i + 1) files)
part_more reading files i d item pieces parts more inside is_item are is before =
    let files_of = named_file reading in
    ap (map (named_bytes reading)) is ∙ map-append (named_bytes reading) parts (part_in item.0 pieces ∷ [])
    ∙ ap (λ (l : List (List ℕ × List ℕ)). l ++ named_bytes reading (part_in item.0 pieces) ∷ []) before
    ∙ ap (λ (p : List ℕ × List ℕ). map files_of (take i files) ++ p ∷ []) (part_bytes reading item.0 item.1 pieces are ∙ ap files_of is_item)
    ∙ sym (ap (map files_of) (take_more files i d inside) ∙ map-append files_of (take i files) (get_or files i d ∷ []))

pub part_sized : (reading : Reading) (files : List (Bor (List ℕ) × Piece)) (i : ℕ) (d item : Bor (List ℕ) × Piece) (pieces : Bor (List Piece))
    (parts more : List Measurable)
    → i < length files → item ≡ get_or files i d → pieces.now ≡ item.1 ∷ []
    → more ≡ parts ++ part_in item.0 pieces ∷ [] → All (HasItsSize reading) files → HaveSizes reading parts → HaveSizes reading more
part_sized reading files i d item pieces parts more inside is_item are is sized before =
    let P = λ (m : Measurable). IsWhole reading m.content in
    let has_size = λ (piece : Piece). length (piece_bytes reading piece) ≡ piece_length piece in
    let here = subst (HasItsSize reading) (sym is_item) (sized i d inside) in
    let whole : HasSizes reading pieces.now = subst (HasSizes reading) (sym are) (All-cons has_size item.1 [] here (All-nil has_size)) in
    subst (HaveSizes reading) (sym is) (All-append P parts (part_in item.0 pieces ∷ []) before (All-cons P (part_in item.0 pieces) [] whole (All-nil P)))

pub part_placed : (name : Bor (List ℕ)) (pieces : Bor (List Piece)) (parts more : List Measurable) → more ≡ parts ++ part_in name pieces ∷ []
    → All (λ part. IsPlaced part.content) parts → All (λ part. IsPlaced part.content) more
part_placed name pieces parts more is before =
    let P = λ (m : Measurable). IsPlaced m.content in
    subst (All P) (sym is) (All-append P parts (part_in name pieces ∷ []) before (All-cons P (part_in name pieces) [] tt (All-nil P)))

-- the parts have the names of the measured sections
pub names_of_parts : (words : CalculateWords) → map (λ part. part.0) (part_words words) ≡ measured_names
names_of_parts words = refl

zipped : {A B : Type 0} (xs : List (A × B)) → xs ≡ zip (map (λ x. x.0) xs) (map (λ x. x.1) xs)
zipped [] = refl
zipped (x ∷ xs) = ap (λ l. x ∷ l) (zipped xs)

-- what is made of parts in an order is in that order
made_in_order : (f : List ℕ → Result (List ℕ) Refusal) (names : List (List ℕ)) (given : List (Option (List ℕ))) (made : List (List ℕ × List ℕ))
    → each (under_name f) (present_parts (zip names given)) ≡ Ok made → (more : List (Option (List ℕ))) × (made ≡ present_parts (zip names more))
made_in_order f [] given made done = ([], sym (none_made (under_name f) made done))
made_in_order f (name ∷ names) [] made done = ([], sym (none_made (under_name f) made done))
made_in_order f (name ∷ names) (None ∷ given) made done =
    let rest = made_in_order f names given made done in
    (None ∷ rest.0, rest.1)
made_in_order f (name ∷ names) (Some x ∷ given) made done =
    let cut = each_cut (under_name f) (name, x) (present_parts (zip names given)) made done in
    let first = bind_ok (f x) (λ y. Ok (name, y)) cut.0 cut.2 in
    let rest = made_in_order f names given cut.1 cut.3 in
    let head : cut.0 ≡ (name, first.0) = cc first.2 in
    (Some first.0 ∷ rest.0, cut.4 ∙ ap (λ (p : List ℕ × List ℕ). p ∷ cut.1) head ∙ ap (λ (l : List (List ℕ × List ℕ)). (name, first.0) ∷ l) rest.1)

pub words_in_order : (words : CalculateWords) → InMeasuredOrder (present_parts (part_words words))
words_in_order words =
    let given : List (Option (List ℕ)) = map (λ part. part.1) (part_words words) in
    (given, ap present_parts (zipped (part_words words) ∙ ap (λ (names : List (List ℕ)). zip names given) (names_of_parts words)))

pub parts_in_order : (f : List ℕ → Result (List ℕ) Refusal) (parts made : List (List ℕ × List ℕ)) → InMeasuredOrder parts → each (under_name f) parts ≡ Ok made → InMeasuredOrder made
parts_in_order f parts made ordered done =
    made_in_order f measured_names ordered.0 made (sym (ap (each (under_name f)) ordered.1) ∙ done)
