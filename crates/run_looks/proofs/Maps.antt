-- Hash maps from texts as maps from their bytes.
use Rattle.std.proofs.Common.{◌≡◌, ℕ, cond, List, [], ◌∷◌, Option, Some, None, refl, sym, ◌∙◌, String, string_bytes, bytes_eq}
use Rattle.std.specs.Ordering.{nat_cmp, eq_by_cmp}
use Rattle.std.specs.Cmp.{eq_by_cmp_equiv}
use Rattle.std.specs.Cmp.Lexicographic.{slice_cmp, nat_list_cmp_total}
use Rattle.std.specs.FinMap as map
use Rattle.std.specs.HashMap as hash
use Rattle.std.specs.HashMap.{HashMap}
use Rattle.std.specs.Map.{lookup}
use Rattle.std.specs.String.{string_eq}
use Rattle.std.proofs.lemmas.Map.Text.{hash_map_updates_text, is_eq-slice_cmp}
use Rattle.run_looks.specs.Maps.{by_text}
use Rattle.run_looks.specs.Looks.{FileLooks, touched_at}
use Rattle.run_looks.specs.declared.identity.Look.{Look}

-- the map that contracts see
abbrev pub texts : {Y X S : Type 0} → HashMap (String Y) X S → map.FinMap (slice_cmp nat_cmp) X
texts m = map.from_entries (by_text m.entries)

-- the order of bytes tells the same bytes
pub same_bytes : (q bytes : List ℕ) → eq_by_cmp (slice_cmp nat_cmp) q bytes ≡ bytes_eq q bytes
same_bytes q bytes = is_eq-slice_cmp q bytes

pub turned_bytes : (q bytes : List ℕ) → eq_by_cmp (slice_cmp nat_cmp) q bytes ≡ bytes_eq bytes q
turned_bytes q bytes = (eq_by_cmp_equiv nat_list_cmp_total).symm q bytes ∙ is_eq-slice_cmp bytes q

find_by_text : {Y X : Type 0} → (entries : List (String Y × X)) (q : List ℕ)
    → map.find (slice_cmp nat_cmp) q (by_text entries) ≡ lookup (λ k. bytes_eq q (string_bytes k)) entries
find_by_text [] q = refl
find_by_text (entry ∷ entries) q =
    λ i. cond (same_bytes q (string_bytes entry.0) i) (Some entry.1) (find_by_text entries q i)

pub get_by_text : {Y X : Type 0} → (entries : List (String Y × X)) (q : List ℕ)
    → map.get (map.from_entries {R = slice_cmp nat_cmp} (by_text entries)) q ≡ lookup (λ k. bytes_eq q
    (string_bytes k)) entries
get_by_text entries q = map.get-from_entries nat_list_cmp_total (by_text entries) q ∙ find_by_text entries q

-- what a change at one key leaves at each
updated : {Y X S : Type 0} → (bytes : List ℕ) (m n : HashMap (String Y) X S) (w : Option X)
    → hash.UpdatesBy string_eq (λ k. bytes_eq bytes (string_bytes k)) m n w
    → (q : List ℕ) → map.get (texts n) q ≡ cond (eq_by_cmp (slice_cmp nat_cmp) q bytes) w (map.get (texts m) q)
updated bytes m n w is q =
    get_by_text n.entries q ∙ hash_map_updates_text bytes m n w is q
    ∙ (λ i. cond (sym (turned_bytes q bytes) i) w (sym (get_by_text m.entries q) i))

same_maps : {X : Type 0} → (m n : map.FinMap (slice_cmp nat_cmp) X) → ((q : List ℕ) → map.get m q ≡ map.get n q) → m ≡ n
same_maps m n same = map.same_map nat_list_cmp_total
    (map.slice_cmp-IsAntisymmetric map.nat_cmp-IsAntisymmetric) m n same

pub inserted : {Y X S : Type 0} → (bytes : List ℕ) (m n : HashMap (String Y) X S) (v : X)
    → hash.UpdatesBy string_eq (λ k. bytes_eq bytes (string_bytes k)) m n (Some v)
    → texts n ≡ map.insert (texts m) bytes v
inserted bytes m n v is =
    same_maps (texts n) (map.insert (texts m) bytes v)
    (λ q. updated bytes m n (Some v) is q ∙ sym (map.get-insert nat_list_cmp_total (texts m) bytes v q))

pub removed : {Y X S : Type 0} → (bytes : List ℕ) (m n : HashMap (String Y) X S)
    → hash.UpdatesBy string_eq (λ k. bytes_eq bytes (string_bytes k)) m n None → texts n ≡ map.remove (texts m) bytes
removed bytes m n is =
    same_maps (texts n) (map.remove (texts m) bytes)
    (λ q. updated bytes m n None is q ∙ sym (map.get-remove nat_list_cmp_total (texts m) bytes q))

-- a look that is there is made once more
pub touched : (looks changed : FileLooks) (path : List ℕ) (reply : ℕ) (look : Look) → Some look ≡ map.get looks path
    → changed ≡ map.insert looks path (record look { reply = reply }) → changed ≡ touched_at looks path reply
touched looks changed path reply look at is = rw (← at) is

-- a look that isn't there
pub untouched : (looks changed : FileLooks) (path : List ℕ) (reply : ℕ) → map.get looks path ≡ None → changed ≡ looks
    → changed ≡ touched_at looks path reply
untouched looks changed path reply none is = rw none is
