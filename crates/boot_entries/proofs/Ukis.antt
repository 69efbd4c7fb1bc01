-- What the ranges of an image say of its entry.
use Rattle.std.proofs.Common.{◌≡◌, ◌≢◌, ◌≤◌, ◌<◌, ◌+◌, ℕ, true, false, not, List, length, Ok, Err, refl, ap, arith, codes, ◌==◌}
use Rattle.std.proofs.lemmas.Bool.Decides.{nat_tests}
use Rattle.boot_base.specs.Paths.{Path}
use Rattle.pe_reader.specs.Prelude.{Headers, pe_of, bytes_in, loaded_bytes}
use Rattle.pe_reader.specs.declared.section.LoadedRange.{LoadedRange}
use Rattle.boot_texts.specs.OsRelease.{os_pairs}
use Rattle.boot_entries.specs.Records.{NotUki, is_os_length, titled_item, uki_from, uki_of, unless_missing}
use Rattle.boot_entries.specs.Ranges.{IsRange}
use Rattle.boot_entries.specs.declared.fault.Missing.TheVariants as missing
use Rattle.boot_entries.proofs.Ranges.{length-range}

-- the entry of an image, by its loaded bytes
by_loaded : (path : Path) (file : List ℕ) (h : Headers) → pe_of file ≡ Ok h
    → uki_of path file
    ≡ unless_missing (not (length (loaded_bytes file (codes ".linux")) == 0)) missing.Linux (
    unless_missing (is_os_length (length (loaded_bytes file (codes ".osrel")))) missing.Osrel (
    titled_item path (os_pairs (loaded_bytes file (codes ".osrel")))))
unfolding uki_from
by_loaded path file h reads = rw reads refl

some_bytes : (n : ℕ) → n ≢ 0 → not (n == 0) ≡ true
some_bytes n some = grind (arith, nat_tests)

pub os_length : (n : ℕ) → n ≢ 0 → n ≤ 65536 → is_os_length n ≡ true
os_length n some short = grind (arith, nat_tests)

pub past_length : (n : ℕ) → 65536 < n → is_os_length n ≡ false
past_length n long = grind (arith, nat_tests)

module _ (path : Path) (file : List ℕ) (h : Headers) (reads : pe_of file ≡ Ok h) (linux : LoadedRange) (has_linux : IsRange file (codes ".linux") linux) where
  pub no_linux : linux.length + linux.zeros ≡ 0 → uki_of path file ≡ Err (NotUki missing.Linux)
  no_linux none = rw (by_loaded path file h reads, length-range file (codes ".linux") linux has_linux, none) refl

  module _ (some : linux.length + linux.zeros ≢ 0) (osrel : LoadedRange) (has_osrel : IsRange file (codes ".osrel") osrel) where
    pub no_osrel : is_os_length (osrel.length + osrel.zeros) ≡ false → uki_of path file ≡ Err (NotUki missing.Osrel)
    no_osrel none =
        rw (by_loaded path file h reads, length-range file (codes ".linux") linux has_linux, some_bytes (linux.length + linux.zeros) some, length-range file (codes ".osrel") osrel has_osrel, none) refl

    pub by_osrel : is_os_length (osrel.length + osrel.zeros) ≡ true → uki_of path file ≡ titled_item path (os_pairs (bytes_in file osrel))
    by_osrel fits =
        rw (by_loaded path file h reads, length-range file (codes ".linux") linux has_linux, some_bytes (linux.length + linux.zeros) some, length-range file (codes ".osrel") osrel has_osrel, fits) (ap (λ text. titled_item path (os_pairs text)) has_osrel.bytes)

pub no_length : (n : ℕ) → n ≡ 0 → is_os_length n ≡ false
no_length n none = rw none refl
