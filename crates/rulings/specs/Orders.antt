-- An order by numbers is total and transitive. Assumes nothing.
use Rattle.std.specs.Prelude.{◌≡◌, ℕ, ◌<◌, ◌≤◌, true, ◌⊎◌, nat_le}
use Rattle.std.proofs.Common.{inl, inr, ⊎_elim, arith}
use Rattle.std.proofs.lemmas.Bool.{cases_lt, le-leb, leb-true}

pub leb_total : (m n : ℕ) → (nat_le m n ≡ true) ⊎ (nat_le n m ≡ true)
leb_total m n =
    ⊎_elim (λ (below : m < n). inl (le-leb m n (omega arith))) (λ (above : n ≤ m). inr (le-leb n m above)) (cases_lt m n)

pub leb_transitive : (l m n : ℕ) → nat_le l m ≡ true → nat_le m n ≡ true → nat_le l n ≡ true
leb_transitive l m n first second = le-leb l n (omega (arith, leb-true l m first, leb-true m n second))
