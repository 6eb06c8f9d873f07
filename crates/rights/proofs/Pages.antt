-- Sheets, line by line. Assumes nothing.
use Rattle.std.proofs.Common.{◌≡◌, ℕ, zero, suc, ◌+◌, List, [], ◌++◌, refl, ap, ◌∙◌, add-one}
use Rattle.std.proofs.lemmas.List.{length-append}
use Rattle.model.specs.Sheets.{joined_below}

pub joined_none : (f : ℕ → List ℕ) → joined_below 0 f ≡ []
unfolding joined_below
joined_none f = refl

pub joined_more : (n : ℕ) (f : ℕ → List ℕ) → joined_below (n + 1) f ≡ joined_below n f ++ f n
unfolding joined_below
joined_more n f = ap (λ k. joined_below k f) (add-one n)

pub ruleset joining = (joined_none, joined_more, length-append)

pub joined_same : (n : ℕ) (f h : ℕ → List ℕ) → ((a : ℕ) → f a ≡ h a) → joined_below n f ≡ joined_below n h
unfolding joined_below
joined_same zero f h same = refl
joined_same (suc n) f h same = ap (λ t. t ++ f n) (joined_same n f h same) ∙ ap (λ t. joined_below n h ++ t) (same n)
