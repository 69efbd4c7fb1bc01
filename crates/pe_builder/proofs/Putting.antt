-- Reading bytes that were written over.
use Rattle.std.proofs.Common.{◌≡◌, ◌<◌, ◌≤◌, ◌+◌, ◌-◌, ◌^◌, ℕ, List, ◌++◌, length, take, drop, refl, sym, ap, ◌∙◌, arith, length-append, length-drop, length-take, append_assoc}
use Rattle.std.proofs.lemmas.List.{take-append-le, drop_at, drop-drop, drop-take, take-take, length-take-le}
use Rattle.byteorder.specs.Endian.{little_bytes}
use Rattle.pe_reader.specs.Prelude.{u16_at, u32_at, part}
use Rattle.pe_reader.proofs.Places.{u32_at-skip, u16_at-skip, u32_at-bytes, u16_at-bytes}
use Rattle.pe_builder.specs.Puts.{put}

pub length-put : (place : ℕ) (new bytes : List ℕ) → place + length new ≤ length bytes → length (put place new bytes) ≡ length bytes
unfolding put
length-put place new bytes h = omega (
  arith,
  length-append (take place bytes) (new ++ drop (place + length new) bytes),
  length-append new
      (drop (place + length new) bytes),
  length-take place bytes,
  length-drop (place + length new) bytes,
)

-- what stands before
pub take-put : (n place : ℕ) (new bytes : List ℕ) → n ≤ place → place ≤ length bytes → take n (put place new bytes) ≡ take n bytes
unfolding put
take-put n place new bytes h l =
    take-append-le n (take place bytes) _ (omega (arith, length-take place bytes)) ∙ take-take n place bytes h

-- what stands behind
pub drop-put : (n place : ℕ) (new bytes : List ℕ) → place + length new ≤ n → place + length new ≤ length bytes → drop n (put place new bytes) ≡ drop n bytes
unfolding put
drop-put n place new bytes h l =
    let a : length (take place bytes ++ new) ≡ place + length new = omega (arith, length-append (take place bytes) new, length-take place bytes) in
    let k : n ≡ place + length new + (n - (place + length new)) = omega arith in
    ap (drop n) (sym (append_assoc (take place bytes) new _))
    ∙ ap (λ (m : ℕ). drop m ((take place bytes ++ new) ++ drop (place + length new) bytes)) k
    ∙ sym (drop-drop (n - (place + length new)) (place + length new) _)
    ∙ ap (drop (n - (place + length new))) (drop_at (take place bytes ++ new) _ _ a)
    ∙ drop-drop (n - (place + length new)) (place + length new) bytes
    ∙ ap (λ (m : ℕ). drop m bytes) (sym k)

-- a part that lies before, or behind
pub part-put_before : (at count place : ℕ) (new bytes : List ℕ) → at + count ≤ place → place ≤ length bytes → part (put place new bytes) at count ≡ part bytes at count
part-put_before at count place new bytes h l =
    sym (drop-take at count (put place new bytes)) ∙ ap (drop at) (take-put (at + count) place new bytes h l) ∙ drop-take at count bytes

pub part-put_behind : (at count place : ℕ) (new bytes : List ℕ) → place + length new ≤ at → place + length new ≤ length bytes → part (put place new bytes) at count ≡ part bytes at count
part-put_behind at count place new bytes h l = ap (take count) (drop-put at place new bytes h l)

pub u32_at-put_behind : (place : ℕ) (new bytes : List ℕ) (i : ℕ) → place + length new ≤ i → place + length new ≤ length bytes → u32_at (put place new bytes) i ≡ u32_at bytes i
unfolding u32_at
u32_at-put_behind place new bytes i h l = rw (drop-put i place new bytes h l) refl

-- the number that was written
pub u32_at-put : (place x : ℕ) (bytes : List ℕ) → place ≤ length bytes → x < 2 ^ 32 → u32_at (put place (little_bytes 4 x) bytes) place ≡ x
unfolding put
u32_at-put place x bytes h l =
    let k : place ≡ place + 0 = omega arith in
    ap (λ (i : ℕ). u32_at (put place (little_bytes 4 x) bytes) i) k
    ∙ u32_at-skip (take place bytes) _ 0 place (length-take-le place bytes h) ∙ u32_at-bytes x _ l

pub u16_at-put : (place x : ℕ) (bytes : List ℕ) → place ≤ length bytes → x < 2 ^ 16 → u16_at (put place (little_bytes 2 x) bytes) place ≡ x
unfolding put
u16_at-put place x bytes h l =
    let k : place ≡ place + 0 = omega arith in
    ap (λ (i : ℕ). u16_at (put place (little_bytes 2 x) bytes) i) k
    ∙ u16_at-skip (take place bytes) _ 0 place (length-take-le place bytes h) ∙ u16_at-bytes x _ l
