-- How long a text is. Assumes nothing.
use Rattle.std.proofs.Common.{ℕ, ◌<◌, ◌≤◌, length, decimal, arith, lit≤}
use Rattle.std.proofs.lemmas.Fmt.{length-decimal-le}
use Rattle.std.proofs.lemmas.List.{length-append}

pub three_digits : (n : ℕ) → n < 1000 → length (decimal n) ≤ 3
three_digits n small = length-decimal-le 3 n (lit≤ tt) small (omega arith)

pub five_digits : (n : ℕ) → n < 100000 → length (decimal n) ≤ 5
five_digits n small = length-decimal-le 5 n (lit≤ tt) small (omega arith)

pub ruleset lengths = (three_digits, five_digits, length-append)
