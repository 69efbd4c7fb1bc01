-- The words of a line, one character after another.
use Rattle.std.proofs.Common.{◌≡◌, ℕ, ◌+◌, ◌<◌, Bool, false, cond, not, List, [], ◌∷◌, ◌++◌, length, drop, get_or, Option, Some, None, unwrap_or, string_bytes, String, refl, ap, sym, ◌∙◌, inl, inr, append_assoc, option_map, encode_utf8}
use Rattle.std.specs.List.{slice_split, onto_first}
use Rattle.std.specs.declared.alloc.Global.{Global}
use Rattle.std.proofs.lemmas.Bool.{cases_Bool}
use Rattle.std.proofs.lemmas.List.{append-nil, drop_more}
use Rattle.word_grammar.specs.Grammar.{Word}
use Rattle.tool_words.specs.Line.{Mark, Quote, Itself, is_quote, is_gap_mark, mark, marks, text, words_between}
use Rattle.tool_words.specs.LineSteps.{words_on}

-- a character that stands for itself is no quote
itself-no_quote : (quoted : Bool) (c : ℕ) → mark quoted c ≡ Itself c → is_quote c ≡ false
itself-no_quote quoted c e = elim (cases_Bool (is_quote c)) [ inl is ↦ (let bad : Quote ≡ Itself c = sym (rw is refl) ∙ e in cc) | inr other ↦ other ]

words_on-itself : (word : Option Word) (c : ℕ) (pieces : List (List Mark)) → words_on word (onto_first (Itself c) pieces) ≡ words_on (Some (unwrap_or word [] ++ encode_utf8 c)) pieces
words_on-itself None c [] = ap (λ t. t ∷ []) (append-nil (encode_utf8 c))
words_on-itself None c (piece ∷ pieces) = refl
words_on-itself (Some word) c [] = ap (λ t. t ∷ []) (ap (λ e. word ++ e) (append-nil (encode_utf8 c)))
words_on-itself (Some word) c (piece ∷ pieces) = ap (λ t. t ∷ words_between pieces) (sym (append_assoc word (encode_utf8 c) (text piece)))

pub marks-itself : (quoted : Bool) (c : ℕ) (rest : List ℕ) → mark quoted c ≡ Itself c
    → slice_split is_gap_mark (marks quoted (c ∷ rest)) ≡ onto_first (Itself c) (slice_split is_gap_mark (marks quoted rest))
marks-itself quoted c rest e =
    ap (λ m. slice_split is_gap_mark (m ∷ marks (cond (is_quote c) (not quoted) quoted) rest)) e
    ∙ ap (λ t. onto_first (Itself c) (slice_split is_gap_mark (marks (cond t (not quoted) quoted) rest))) (itself-no_quote quoted c e)

begun-is : (word : Option (String Global)) (fresh : String Global) → string_bytes fresh ≡ [] → string_bytes (unwrap_or word fresh) ≡ unwrap_or (option_map string_bytes word) []
begun-is None fresh e = e
begun-is (Some word) fresh e = refl

pub all_words-itself : (done : List Word) (word : Option (String Global)) (fresh begun after : String Global) (quoted : Bool) (c : ℕ) (rest : List ℕ)
    → string_bytes fresh ≡ [] → begun ≡ unwrap_or word fresh → string_bytes after ≡ string_bytes begun ++ encode_utf8 c → mark quoted c ≡ Itself c
    → done ++ words_on (option_map string_bytes word) (slice_split is_gap_mark (marks quoted (c ∷ rest))) ≡ done ++ words_on (Some (string_bytes after)) (slice_split is_gap_mark (marks quoted rest))
all_words-itself done word fresh begun after quoted c rest empty is pushed e =
    ap (λ words. done ++ words)
    (ap (words_on (option_map string_bytes word)) (marks-itself quoted c rest e)
    ∙ words_on-itself (option_map string_bytes word) c (slice_split is_gap_mark (marks quoted rest))
    ∙ ap (λ w. words_on (Some (w ++ encode_utf8 c)) (slice_split is_gap_mark (marks quoted rest))) (sym (ap string_bytes is ∙ begun-is word fresh empty))
    ∙ ap (λ w. words_on (Some w) (slice_split is_gap_mark (marks quoted rest))) (sym pushed))

pub at_next : (F G : List ℕ → List Word) (line : List ℕ) (n c : ℕ) (all : List Word) → (n < length line) × (c ≡ get_or line n c)
    → ((rest : List ℕ) → F (c ∷ rest) ≡ G rest) → F (drop n line) ≡ all → G (drop (n + 1) line) ≡ all
at_next F G line n c all here step known =
    sym (step (drop (n + 1) line))
    ∙ ap F (sym (drop_more line n c here.0 ∙ ap (λ x. x ∷ drop (n + 1) line) (sym here.1)))
    ∙ known
