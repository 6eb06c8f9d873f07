use Rattle.std.proofs.Common.{◌≡◌, ℕ, ◌^◌, ◌<◌, ◌≤◌, length, get_or, bit_or}
use Rattle.charts.proofs.accounts.Accounts.absorb.Given as goal

-- the words up to k are joined, the others stand as they did; those read are words of 64 bits
abbrev pub invariant-loop-k : goal.invariant-loop-k
invariant-loop-k l =
    ((i : ℕ) → i < l.k → get_or l.self.words i 0 ≡ bit_or (get_or l.initial.self.words i 0) (get_or l.other.words i 0))
    × ((i : ℕ) → l.k ≤ i → get_or l.self.words i 0 ≡ get_or l.initial.self.words i 0)
    × ((i : ℕ) → i < l.k → (get_or l.initial.self.words i 0 < 2 ^ 64) × (get_or l.other.words i 0 < 2 ^ 64))
    × (length l.self.words ≡ 8)
