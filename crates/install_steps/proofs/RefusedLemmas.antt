-- What a step leads to where it refuses, and where it doesn't.
use Rattle.std.proofs.Common.{◌≡◌, ℕ, true, false, List, length, Option, Some, None, is_some, refl, sym, subst, ap, ◌∙◌, option_map}
use Rattle.std.specs.FinMap as map
use Rattle.boot_base.specs.Paths.{Path}
use Rattle.boot_machine.specs.Prelude.{Files, has, contents, move_in}
use Rattle.install_steps.specs.Steps.{after_copy, after_move}

pub copied_there : (from to : Path) (files : Files) → has files from ≡ true → after_copy from to files ≡ map.insert files to (contents files from)
copied_there from to files there = rw there refl

pub moved_there : (from to : Path) (files : Files) → has files from ≡ true → has files to ≡ false → after_move from to files ≡ move_in from to files
moved_there from to files there none = rw (there, none) refl

-- a file is there where it has a size
pub has-sized : (m : Files) (q : Path) (found : Option ℕ) → found ≡ option_map length (map.get m q) → has m q ≡ is_some found
has-sized m q found is = by_cases (map.get m q) ∙ ap is_some (sym is)
  where
    by_cases : (o : Option (List ℕ)) → is_some o ≡ is_some (option_map length o)
    by_cases None = refl
    by_cases (Some bytes) = refl

-- a file's length at a path is that at the same path
pub told_at : (m : Files) (p q : Path) (found : Option ℕ) → p ≡ q → found ≡ option_map length (map.get m p) → found ≡ option_map length (map.get m q)
told_at m p q found is row = subst (λ (path : Path). found ≡ option_map length (map.get m path)) is row
