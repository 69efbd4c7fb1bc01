-- The laws of counted names.
use Rattle.std.specs.Prelude.{◌≡◌, ◌≢◌, ◌↔◌, ℕ, ◌<◌, ◌≤◌, List, ◌∷◌, length, slice_index}
use Rattle.menu_order.specs.declared.counted.Suffix.{Suffix}
use Rattle.menu_order.specs.Counter.{IsCounter, IsCounted, written_name}

-- a name has one reading at most
abbrev pub OneReading : Type 0
OneReading =
    (name base base' : List ℕ) (left left' done done' : ℕ) (suffix suffix' : Suffix)
    → IsCounted name base left done suffix
    → IsCounted name base' left' done' suffix'
    → (base ≡ base') × (left ≡ left') × (done ≡ done') × (suffix ≡ suffix')

-- a written name is read as what it was written of
abbrev pub WrittenReads : Type 0
WrittenReads =
    (base : List ℕ) (left done : ℕ) (suffix : Suffix)
    → 0 < length base
    → left ≤ 999999999
    → done ≤ 999999999
    → IsCounted (written_name base left done suffix) base left done suffix

-- a number without leading zeros
abbrev pub IsPlain : List ℕ → Type 0
IsPlain text = slice_index text 0 ≡ 48 → length text ≡ 1

-- a counter without leading zeros and without a DONE of 0
pub record IsShortest {text : List ℕ} {left done : ℕ} (counter : IsCounter text left done) : Type 0 where
  pub plain_left : IsPlain counter.left_text
  pub plain_done : (number : List ℕ) → counter.done_text ≡ 45 ∷ number → IsPlain number × (done ≢ 0)

-- writing what was read gives the name exactly where its counter is the shortest
abbrev pub ShortestRewrites : Type 0
ShortestRewrites =
    (name base : List ℕ) (left done : ℕ) (suffix : Suffix) (counted : IsCounted name base left done suffix)
    → (written_name base left done suffix ≡ name) ↔ IsShortest counted.counter_is
