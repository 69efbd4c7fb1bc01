-- Bytes that are written over others at places that rise.
use Rattle.std.proofs.Common.{◌≡◌, ◌≤◌, ◌+◌, ◌-◌, ℕ, List, [], ◌∷◌, ◌++◌, length, take, drop, refl, sym, ap, ◌∙◌, arith, append_assoc, length-append, length-drop}
use Rattle.std.proofs.Math.Seq.{take-append-add}
use Rattle.std.proofs.lemmas.List.{take_all, drop-take, drop-append-le, length-take-le}
use Rattle.pe_reader.specs.Prelude.{part}
use Rattle.pe_builder.specs.Puts.{put}
use Rattle.pe_builder.proofs.Putting.{length-put, take-put, drop-put, part-put_before}
use Rattle.boot_machine.proofs.Filling.{fill_with_zeros-inside}
use Rattle.boot_machine.specs.Prelude.{bytes_between}

-- bytes from a place up to an end
pub record Patch : Type 0 where
  pub place : ℕ
  pub end : ℕ
  pub bytes : List ℕ

-- each is written over the bytes
abbrev pub puts : List Patch → List ℕ → List ℕ
puts [] bytes = bytes
puts (p ∷ ps) bytes = put p.place p.bytes (puts ps bytes)

-- they stand apart and one behind the other, from a place up to another
abbrev pub IsRising : ℕ → ℕ → List Patch → Type 0
IsRising from to [] = from ≤ to
IsRising from to (p ∷ ps) = (from ≤ p.place) × (p.end ≡ p.place + length p.bytes) × IsRising p.end to ps

-- they, and the bytes between them
abbrev pub row : List ℕ → ℕ → ℕ → List Patch → List ℕ
row bytes from to [] = bytes_between bytes from to
row bytes from to (p ∷ ps) = bytes_between bytes from p.place ++ (p.bytes ++ row bytes p.end to ps)

rising-le : (from to : ℕ) (ps : List Patch) → IsRising from to ps → from ≤ to
rising-le from to [] r = r
rising-le from to (p ∷ ps) r = omega (arith, r.0, r.1, rising-le p.end to ps r.2)

pub length-puts : (from : ℕ) (ps : List Patch) (bytes : List ℕ) → IsRising from (length bytes) ps → length (puts ps bytes) ≡ length bytes
length-puts from [] bytes r = refl
length-puts from (p ∷ ps) bytes r =
    let l = length-puts p.end ps bytes r.2 in
    length-put p.place p.bytes (puts ps bytes) (omega (arith, l, r.1, rising-le p.end (length bytes) ps r.2)) ∙ l

-- what stands before them
part-puts : (at count from : ℕ) (ps : List Patch) (bytes : List ℕ) → at + count ≤ from → IsRising from (length bytes) ps → part (puts ps bytes) at count ≡ part bytes at count
part-puts at count from [] bytes le r = refl
part-puts at count from (p ∷ ps) bytes le r =
    let l = length-puts p.end ps bytes r.2 in
    let end = rising-le p.end (length bytes) ps r.2 in
    part-put_before at count p.place p.bytes (puts ps bytes) (omega (arith, le, r.0)) (omega (arith, l, r.1, end))
    ∙ part-puts at count p.end ps bytes (omega (arith, le, r.0, r.1)) r.2

bytes_between-part : (bytes : List ℕ) (from to : ℕ) → from ≤ to → to ≤ length bytes → part bytes from (to - from) ≡ bytes_between bytes from to
bytes_between-part bytes from to a b = sym (fill_with_zeros-inside (drop from bytes) (to - from) (omega (arith, length-drop from bytes)))

-- the bytes from a place on, with others written over them behind it
drop_before-put : (from place : ℕ) (new bytes : List ℕ) → from ≤ place → place ≤ length bytes
    → drop from (put place new bytes) ≡ part bytes from (place - from) ++ (new ++ drop (place + length new) bytes)
unfolding put
drop_before-put from place new bytes le inside =
    let all : from + (place - from) ≡ place = omega arith in
    let cut : drop from (take place bytes) ≡ part bytes from (place - from) =
    ap (λ (n : ℕ). drop from (take n bytes)) (sym all) ∙ drop-take from (place - from) bytes in
    drop-append-le from (take place bytes) _ (omega (arith, length-take-le place bytes inside))
    ∙ ap (λ (l : List ℕ). l ++ (new ++ drop (place + length new) bytes)) cut

-- So many bytes are a row of what is written and of what is kept.
pub drop-puts : (from : ℕ) (ps : List Patch) (bytes : List ℕ) → IsRising from (length bytes) ps → drop from (puts ps bytes) ≡ row bytes from (length bytes) ps
drop-puts from [] bytes r =
    sym (take_all (length bytes - from) (drop from bytes) (omega (arith, length-drop from bytes))) ∙ bytes_between-part bytes from (length bytes) r (omega arith)
drop-puts from (p ∷ ps) bytes r =
    let l = length-puts p.end ps bytes r.2 in
    let end = rising-le p.end (length bytes) ps r.2 in
    let all : from + (p.place - from) ≡ p.place = omega (arith, r.0) in
    drop_before-put from p.place p.bytes (puts ps bytes) r.0 (omega (arith, l, r.1, end))
    ∙ ap (λ (a : List ℕ). a ++ (p.bytes ++ drop (p.place + length p.bytes) (puts ps bytes)))
    (part-puts from (p.place - from) p.end ps bytes (omega (arith, all, r.1)) r.2 ∙ bytes_between-part bytes from p.place r.0 (omega (arith, r.1, end)))
    ∙ ap (λ (n : ℕ). bytes_between bytes from p.place ++ (p.bytes ++ drop n (puts ps bytes))) (sym r.1)
    ∙ ap (λ (a : List ℕ). bytes_between bytes from p.place ++ (p.bytes ++ a)) (drop-puts p.end ps bytes r.2)

-- two that stand apart may be written in either order
pub put-swap : (place at : ℕ) (first second bytes : List ℕ) → place + length first ≤ at → at + length second ≤ length bytes
    → put at second (put place first bytes) ≡ put place first (put at second bytes)
unfolding put
put-swap place at first second bytes apart inside =
    let front = take place bytes in
    let mid = place + length first in
    let seam : length (front ++ first) ≡ mid = length-append front first ∙ ap (λ (n : ℕ). n + length first) (length-take-le place bytes (omega arith)) in
    let upto : at ≡ length (front ++ first) + (at - mid) = omega (arith, seam) in
    let begin : take at (put place first bytes) ≡ (front ++ first) ++ part bytes mid (at - mid) =
    ap (take at) (sym (append_assoc front first (drop mid bytes)))
    ∙ ap (λ (n : ℕ). take n ((front ++ first) ++ drop mid bytes)) upto
    ∙ take-append-add (front ++ first) (drop mid bytes) (at - mid) in
    let rest : drop (at + length second) (put place first bytes) ≡ drop (at + length second) bytes =
    drop-put (at + length second) place first bytes (omega arith) (omega arith) in
    let tail = second ++ drop (at + length second) bytes in
    ap (λ (l : List ℕ). take at (put place first bytes) ++ (second ++ l)) rest
    ∙ ap (λ (l : List ℕ). l ++ tail) begin
    ∙ append_assoc (front ++ first) (part bytes mid (at - mid)) tail
    ∙ append_assoc front first (part bytes mid (at - mid) ++ tail)
    ∙ ap (λ (l : List ℕ). l ++ (first ++ (part bytes mid (at - mid) ++ tail))) (sym (take-put place at second bytes (omega arith) (omega arith)))
    ∙ ap (λ (l : List ℕ). take place (put at second bytes) ++ (first ++ l)) (sym (drop_before-put mid at second bytes apart (omega arith)))
