-- When two names may stand over the same clusters, by what the system tells of them.
use Rattle.std.specs.Prelude.{ℕ, ◌%◌, ◌/◌, ◌==◌, Bool, false, ◌&&◌, nat_lt, Option, Some, None, if◌then◌else◌}
use Rattle.fat_rules.specs.declared.facts.Facts.{Facts}

-- A time in units of two seconds, where it is one of FAT: even, and without a fraction (Microsoft FAT specification,
-- "Date and Time Formats": the time of a write has a granularity of two seconds).
abbrev pub fat_time : ℕ → ℕ → Option ℕ
fat_time seconds nanoseconds = if (seconds % 2 == 0) && (nanoseconds == 0) then Some (seconds / 2) else None

-- two times of FAT that are one
abbrev pub same_time : Option ℕ → Option ℕ → Bool
same_time (Some time) (Some other) = time == other
same_time (Some time) None = false
same_time None other = false

-- One length that isn't 0, one time of FAT and one link each: a rename writes the first cluster, the length and the time
-- of the file into both entries, and FAT has no hard links.
abbrev pub may_share : Facts → Facts → Bool
may_share one other =
    nat_lt 0 one.length && (one.length == other.length) && same_time one.time other.time && (one.links == 1)
    && (other.links == 1)
