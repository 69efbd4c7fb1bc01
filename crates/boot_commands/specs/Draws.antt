-- The numbers that a demonstration draws: a linear congruential generator with Knuth's numbers for 64 bits.
use Rattle.std.specs.Prelude.{ℕ, ◌+◌, ◌*◌, ◌/◌, ◌%◌, ◌^◌}

-- the generator's number behind a number
abbrev pub next_number : ℕ → ℕ
next_number number = (number * 6364136223846793005 + 1442695040888963407) % 2 ^ 64

-- what is drawn of a number, below a bound
abbrev pub draw_below : ℕ → ℕ → ℕ
draw_below number bound = number / 2 ^ 33 % bound
