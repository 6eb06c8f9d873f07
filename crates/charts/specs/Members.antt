-- Which accounts a set holds. Assumes nothing.
use Rattle.std.specs.Prelude.{ℕ, ◌/◌, ◌%◌, ◌^◌, Bool, ◌&&◌, ◌==◌, nat_lt, slice_index}
use Rattle.charts.specs.declared.accounts.Accounts.{Accounts}

abbrev pub bit : ℕ → ℕ → Bool
bit word k = word / 2 ^ k % 2 == 1

-- account a has bit a % 64 of word a / 64; no other number is in the set
abbrev pub member : Accounts → ℕ → Bool
member s a = nat_lt a 512 && bit (slice_index s.words (a / 64)) (a % 64)
