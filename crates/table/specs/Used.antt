-- What a table holds, and what its calls look for. Assumes nothing.
use Rattle.std.specs.Prelude.{ℕ, Bool, cond, List, [], ◌∷◌, length, take, Option, nat_lt}
use Rattle.std.specs.List.{find}
use Rattle.table.specs.declared.Table.{Table}

-- all cells lent to the table, used or not
abbrev pub cells : {R : Type 0} → Table R → List R
cells t = t.cells.now

-- how many records there is room for
abbrev pub room : {R : Type 0} → Table R → ℕ
room t = length (cells t)

-- the records in use, in the order in which they came
abbrev pub used : {R : Type 0} → Table R → List R
used t = take t.len (cells t)

-- there is room for one record more
abbrev pub roomy : {R : Type 0} → Table R → Bool
roomy t = nat_lt (length (used t)) (room t)

-- the first record that passes the test
abbrev pub first : {R : Type 0} → (R → Bool) → List R → Option R
first test xs = find test xs

-- y in the place of the first record that passes the test
abbrev pub replaced : {R : Type 0} → (R → Bool) → R → List R → List R
replaced test y [] = []
replaced test y (x ∷ xs) = cond (test x) (y ∷ xs) (x ∷ replaced test y xs)
