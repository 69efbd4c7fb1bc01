-- Where rewritten headers agree with the stub's.
use Rattle.std.proofs.Common.{◌≡◌, ◌≤◌, ◌+◌, ◌-◌, ◌⊎◌, inl, inr, ℕ, List, ◌++◌, length, take, drop, refl, sym, ap, ◌∙◌, arith, length-append, length-drop, append_assoc}
use Rattle.std.proofs.lemmas.List.{drop-append-le, drop-drop, drop-take, take_at, length-take-le}
use Rattle.pe_reader.specs.Prelude.{u16_at, u32_at, part}
use Rattle.pe_reader.proofs.Places.{u32_at-part, u16_at-part}
use Rattle.pe_builder.specs.Puts.{put}
use Rattle.pe_builder.proofs.Putting.{part-put_before, part-put_behind}

-- a part that the bytes written over don't meet
pub part-put : (at count place : ℕ) (new bytes : List ℕ) → (at + count ≤ place) ⊎ (place + length new ≤ at)
    → place + length new ≤ length bytes → part (put place new bytes) at count ≡ part bytes at count
part-put at count place new bytes (inl h) l = part-put_before at count place new bytes h (omega arith)
part-put at count place new bytes (inr h) l = part-put_behind at count place new bytes h l

-- a part that ends with the bytes written over
pub part-put_end : (at count place : ℕ) (new bytes : List ℕ) → at + count ≡ place → place + length new ≤ length bytes
    → part (put place new bytes) at (count + length new) ≡ part bytes at count ++ new
unfolding put
part-put_end at count place new bytes h l =
    let a : drop at (take place bytes ++ (new ++ drop (place + length new) bytes)) ≡ drop at (take place bytes) ++ (new ++ drop (place + length new) bytes) =
    drop-append-le at (take place bytes) _ (omega (arith, length-take-le place bytes (omega arith))) in
    let b : drop at (take place bytes) ≡ part bytes at count =
    ap (λ (k : ℕ). drop at (take k bytes)) (sym h) ∙ drop-take at count bytes in
    let n : length (part bytes at count) ≡ count = length-take-le count (drop at bytes) (omega (arith, length-drop at bytes)) in
    let c : length (part bytes at count ++ new) ≡ count + length new = length-append (part bytes at count) new ∙ ap (λ (k : ℕ). k + length new) n in
    ap (take (count + length new)) (a ∙ ap (λ (k : List ℕ). k ++ (new ++ drop (place + length new) bytes)) b ∙ sym (append_assoc (part bytes at count) new _))
    ∙ take_at (part bytes at count ++ new) _ (count + length new) c

-- fields of two parts whose bytes agree there
pub u32_field : (xs ys : List ℕ) (at count i : ℕ) → i + 4 ≤ count → part xs (at + i) 4 ≡ part ys (at + i) 4
    → u32_at (part xs at count) i ≡ u32_at (part ys at count) i
u32_field xs ys at count i h e =
    let z : at + i + 0 ≡ at + i = omega arith in
    u32_at-part xs at count i h ∙ ap (u32_at xs) (sym z) ∙ sym (u32_at-part xs (at + i) 4 0 (omega arith))
    ∙ ap (λ (l : List ℕ). u32_at l 0) e
    ∙ u32_at-part ys (at + i) 4 0 (omega arith) ∙ ap (u32_at ys) z ∙ sym (u32_at-part ys at count i h)

pub u16_field : (xs ys : List ℕ) (at count i : ℕ) → i + 2 ≤ count → part xs (at + i) 2 ≡ part ys (at + i) 2
    → u16_at (part xs at count) i ≡ u16_at (part ys at count) i
u16_field xs ys at count i h e =
    let z : at + i + 0 ≡ at + i = omega arith in
    u16_at-part xs at count i h ∙ ap (u16_at xs) (sym z) ∙ sym (u16_at-part xs (at + i) 2 0 (omega arith))
    ∙ ap (λ (l : List ℕ). u16_at l 0) e
    ∙ u16_at-part ys (at + i) 2 0 (omega arith) ∙ ap (u16_at ys) z ∙ sym (u16_at-part ys at count i h)

-- fields behind a place from which on two parts agree
drop-part : (xs : List ℕ) (at count k : ℕ) → k ≤ count → drop k (part xs at count) ≡ part xs (at + k) (count - k)
drop-part xs at count k h =
    let m : count ≡ k + (count - k) = omega arith in
    ap (λ (c : ℕ). drop k (take c (drop at xs))) m ∙ drop-take k (count - k) (drop at xs) ∙ ap (take (count - k)) (drop-drop k at xs)

u32_at-drop : (xs : List ℕ) (k i : ℕ) → u32_at (drop k xs) i ≡ u32_at xs (k + i)
unfolding u32_at
u32_at-drop xs k i = rw (drop-drop i k xs) refl

pub u32_field_behind : (xs ys : List ℕ) (at count k i : ℕ) → k ≤ count → part xs (at + k) (count - k) ≡ part ys (at + k) (count - k)
    → u32_at (part xs at count) (k + i) ≡ u32_at (part ys at count) (k + i)
u32_field_behind xs ys at count k i h e =
    sym (u32_at-drop (part xs at count) k i) ∙ ap (λ (l : List ℕ). u32_at l i) (drop-part xs at count k h ∙ e ∙ sym (drop-part ys at count k h)) ∙ u32_at-drop (part ys at count) k i
