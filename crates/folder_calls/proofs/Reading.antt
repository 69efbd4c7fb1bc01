-- A buffer that is filled with a file's bytes, some at a time.
use Rattle.std.proofs.Common.{◌≡◌, ◌≤◌, ◌+◌, ℕ, List, ◌++◌, length, take, drop, refl, sym, ap, ◌∙◌, arith, length-drop, drop-drop}
use Rattle.std.proofs.Math.Seq.{take-add}
use Rattle.folder_calls.specs.Calls.{ReadsSome}

-- the first of the buffer are the first of the bytes
pub record Holds (bytes into : List ℕ) (done : ℕ) : Type 0 where
  pub there : done ≤ length bytes
  pub front : take done into ≡ take done bytes

pub holds_none : (bytes into : List ℕ) → Holds bytes into 0
holds_none bytes into = record { there = omega arith; front = refl }

reads_more : (bytes into after : List ℕ) (done n : ℕ) → Holds bytes into done → take done after ≡ take done into
    → ReadsSome (drop done bytes) (drop done after) n → Holds bytes after (done + n)
reads_more bytes into after done n holds front read = record {
  there = omega (arith, holds.there, read.most, length-drop done bytes);
  front = take-add done n after ∙ ap (λ (l : List ℕ). l ++ take n (drop done after)) (front ∙ holds.front)
      ∙ ap (λ (l : List ℕ). take done bytes ++ l) read.there ∙ sym (take-add done n bytes);
}

-- of a file from a place on
pub holds_more : (file into after : List ℕ) (at done n : ℕ) → Holds (drop at file) into done
    → take done after ≡ take done into → ReadsSome (drop (at + done) file) (drop done after) n
    → Holds (drop at file) after (done + n)
holds_more file into after at done n holds front read =
    reads_more (drop at file) into after done n holds front (rw (drop-drop done at file) read)
