-- The first cells of a slice, as a table uses them. Assumes nothing.
use Rattle.std.proofs.Common.{◌≡◌, ℕ, ◌<◌, ◌≤◌, List, ◌++◌, length, take, drop, set, sym, ap, ◌∙◌, arith}
use Rattle.std.proofs.lemmas.List.{length-take, length-append, take-append-drop, drop-append-le, drop-set-lt}
use Rattle.table.specs.declared.Table.{Table}
use Rattle.table.specs.Used.{cells, room, used}

-- a write within the part leaves what lies past it
pub set_within : {R : Type 0} (xs : List R) (n i : ℕ) (y : R) → i < n → n ≤ length xs → set xs i y ≡ take n (set xs i y) ++ drop (length (take n xs)) xs
set_within xs n i y below within =
    let cut : n ≡ length (take n xs) = omega (arith, length-take n xs) in
    sym (take-append-drop n (set xs i y))
    ∙ ap (λ zs. take n (set xs i y) ++ zs) (drop-set-lt n xs i y below ∙ ap (λ j. drop j xs) cut)

-- and so does compacting the part
pub compact_within : {R : Type 0} (xs ys : List R) (n k : ℕ) → n ≤ length xs → length ys ≡ n → k ≤ n → drop k ys ≡ drop k (take n xs) → ys ++ drop n xs ≡ take k (ys ++ drop n xs) ++ drop (length (take k (ys ++ drop n xs))) xs
compact_within xs ys n k within long fewer rest =
    let all = ys ++ drop n xs in
    let cut : k ≡ length (take k all) = omega (arith, length-take k all, length-append ys (drop n xs)) in
    sym (take-append-drop k all)
    ∙ ap (λ zs. take k all ++ zs)
    (drop-append-le k ys (drop n xs) (omega arith)
    ∙ ap (λ zs. zs ++ drop n xs) rest
    ∙ sym (drop-append-le k (take n xs) (drop n xs) (omega (arith, length-take n xs)))
    ∙ ap (drop k) (take-append-drop n xs)
    ∙ ap (λ j. drop j xs) cut)

pub used_within : {R : Type 0} (t : Table R) → length (used t) ≤ room t
used_within t = omega (arith, length-take t.len (cells t))
