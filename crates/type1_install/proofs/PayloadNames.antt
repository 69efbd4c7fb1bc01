-- The name of a payload has 64 digits.
use Rattle.std.proofs.Common.{◌≡◌, ◌<◌, ◌/◌, ◌%◌, ◌*◌, ◌&&◌, ℕ, zero, suc, true, List, [], ◌∷◌, ◌++◌, eqb, length, refl, arith, slice_index}
use Rattle.std.specs.Int.{to_be_bytes, w32}
use Rattle.std.specs.List.{list_all}
use Rattle.std.proofs.lemmas.Bool.{and_from}
use Rattle.hex.specs.Hex.{encode_lower, encode_with, lower_digits}
use Rattle.sha2.specs.Sha256.{digest_bytes, final_hash, initial_hash_256, sha256}
use Rattle.sha2.proofs.Facts256.{length-sha256}
use Rattle.pcr_values.specs.Prelude.{digest_of}
use Rattle.boot_texts.specs.EntryText.{is_hex_lower, is_payload_name}
use Rattle.type1_install.specs.Payloads.{payload_name}

hex_at : (d : ℕ) → d < 16 → is_hex_lower (slice_index lower_digits d) ≡ true
hex_at zero lt = refl
hex_at (suc zero) lt = refl
hex_at (suc (suc zero)) lt = refl
hex_at (suc (suc (suc zero))) lt = refl
hex_at (suc (suc (suc (suc zero)))) lt = refl
hex_at (suc (suc (suc (suc (suc zero))))) lt = refl
hex_at (suc (suc (suc (suc (suc (suc zero)))))) lt = refl
hex_at (suc (suc (suc (suc (suc (suc (suc zero))))))) lt = refl
hex_at (suc (suc (suc (suc (suc (suc (suc (suc zero)))))))) lt = refl
hex_at (suc (suc (suc (suc (suc (suc (suc (suc (suc zero))))))))) lt = refl
hex_at (suc (suc (suc (suc (suc (suc (suc (suc (suc (suc zero)))))))))) lt = refl
hex_at (suc (suc (suc (suc (suc (suc (suc (suc (suc (suc (suc zero))))))))))) lt = refl
hex_at (suc (suc (suc (suc (suc (suc (suc (suc (suc (suc (suc (suc zero)))))))))))) lt = refl
hex_at (suc (suc (suc (suc (suc (suc (suc (suc (suc (suc (suc (suc (suc zero))))))))))))) lt = refl
hex_at (suc (suc (suc (suc (suc (suc (suc (suc (suc (suc (suc (suc (suc (suc zero)))))))))))))) lt = refl
hex_at (suc (suc (suc (suc (suc (suc (suc (suc (suc (suc (suc (suc (suc (suc (suc zero))))))))))))))) lt = refl
hex_at (suc (suc (suc (suc (suc (suc (suc (suc (suc (suc (suc (suc (suc (suc (suc (suc d)))))))))))))))) lt = absurd (omega (arith, lt))

-- each element is a byte
abbrev pub AreSmall : List ℕ → Type 0
AreSmall [] = Unit {0}
AreSmall (byte ∷ bytes) = (byte < 256) × AreSmall bytes

pub hex_digits : (bytes : List ℕ) → AreSmall bytes → list_all is_hex_lower (encode_lower bytes) ≡ true
unfolding encode_with
hex_digits [] small = refl
hex_digits (byte ∷ bytes) small =
    let high : byte / 16 < 16 = omega (arith, small.0) in
    let low : byte % 16 < 16 = omega arith in
    and_from (is_hex_lower (slice_index lower_digits (byte / 16))) (is_hex_lower (slice_index lower_digits (byte % 16)) && list_all is_hex_lower (encode_lower bytes)) (hex_at (byte / 16) high)
    (and_from (is_hex_lower (slice_index lower_digits (byte % 16))) (list_all is_hex_lower (encode_lower bytes)) (hex_at (byte % 16) low) (hex_digits bytes small.1))

pub hex_length : (bytes : List ℕ) → length (encode_lower bytes) ≡ length bytes * 2
unfolding encode_with
hex_length [] = refl
hex_length (byte ∷ bytes) = omega (arith, hex_length bytes)

small_append : (a b : List ℕ) → AreSmall a → AreSmall b → AreSmall (a ++ b)
small_append [] b one two = two
small_append (x ∷ a) b one two = (one.0, small_append a b one.1 two)

word_small : (n : ℕ) → AreSmall (to_be_bytes w32 n)
word_small n = (omega arith, (omega arith, (omega arith, (omega arith, tt))))

digest_small : (h : List ℕ) (n : ℕ) → AreSmall (digest_bytes h n)
unfolding digest_bytes
digest_small h zero = tt
digest_small h (suc n) = small_append (digest_bytes h n) (to_be_bytes w32 (slice_index h n)) (digest_small h n) (word_small (slice_index h n))

sha_small : (m : List ℕ) → AreSmall (sha256 m)
unfolding sha256
sha_small m = digest_small (final_hash initial_hash_256 m) 8

pub payload_name_fits : (bytes : List ℕ) → is_payload_name (payload_name bytes) ≡ true
unfolding payload_name digest_of
payload_name_fits bytes =
    let long : length (encode_lower (sha256 bytes)) ≡ 64 = omega (arith, hex_length (sha256 bytes), length-sha256 bytes) in
    and_from (eqb (length (encode_lower (sha256 bytes))) 64) (list_all is_hex_lower (encode_lower (sha256 bytes))) (rw long refl) (hex_digits (sha256 bytes) (sha_small bytes))
