-- Text in a buffer, and pieces put behind a text. Assumes nothing.
use Rattle.std.specs.Prelude.{◌≡◌, ℕ, ◌+◌, ◌≤◌, List, ◌++◌, length, drop, Result, IsOk, OnOk}

-- the text in the first bytes, and behind it what the buffer held
abbrev pub over : List ℕ → List ℕ → List ℕ
over base text = text ++ drop (length text) base

-- a piece was put behind a text: where it fits it is
abbrev pub Puts : {T E : Type 0} → ℕ → Result T E → List ℕ → List ℕ → List ℕ → Type 0
Puts capacity result before piece after =
    (length before + length piece ≤ capacity → IsOk result) × OnOk result (after ≡ before ++ piece)
