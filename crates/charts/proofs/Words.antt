-- Sets taken together word by word. Assumes nothing.
use Rattle.std.proofs.Common.{◌≡◌, ℕ, suc, ◌+◌, ◌*◌, ◌/◌, ◌%◌, ◌^◌, ◌<◌, ◌≤◌, ◌≢◌, max, Bool, true, false, ◌&&◌, ◌||◌, eqb, ltb, List, [], ◌∷◌, length, get_or, bit_or, MatchBool, Decides, sym, subst, refl, ap, ◌∙◌, ⊎_elim, arith}
use Rattle.std.specs.Int.{bit_at}
use Rattle.std.proofs.lemmas.Nat.{or_lt}
use Rattle.std.proofs.lemmas.Nat.Bits.{bit_at_or, bit_at-lt}
use Rattle.std.proofs.lemmas.Bool.{lt-ltb, le-ltb, ltb-true, and_parts, cases_eq, cases_lt, false≢true}
use Rattle.std.specs.List.{AllWithin, HoldsAt, zip}
use Rattle.std.proofs.lemmas.Slice.Zip.{length-zip, get_or-zip}
use Rattle.charts.specs.Members.{bit}
use Rattle.charts.proofs.Bits.{bit_either, differs}

-- the bit of account b in the words of a set, and of the account at a bit
abbrev pub holds : List ℕ → ℕ → Bool
holds ws b = ltb b 512 && bit (get_or ws (b / 64) 0) (b % 64)

holds_at : (ws : List ℕ) (i j : ℕ) → i < 8 → j < 64 → holds ws (64 * i + j) ≡ bit (get_or ws i 0) j
holds_at ws i j row col =
    let quotient : (64 * i + j) / 64 ≡ i = omega arith in
    let rest : (64 * i + j) % 64 ≡ j = omega arith in
    rw (quotient, rest, lt-ltb (64 * i + j) 512 (omega arith)) refl

-- lists of one length that differ do so at a place
differ_at : (xs ys : List ℕ) → length xs ≡ length ys → xs ≢ ys → (i : ℕ) × (i < length xs) × (get_or xs i 0 ≢ get_or ys i 0)
differ_at [] [] long other = absurd (other refl)
differ_at [] (y ∷ ys) long other = absurd (omega arith)
differ_at (x ∷ xs) [] long other = absurd (omega arith)
differ_at (x ∷ xs) (y ∷ ys) long other =
    ⊎_elim (λ (same : x ≡ y). let d = differ_at xs ys (omega arith) (λ e. other (cc)) in (suc d.0, omega (arith, d.1), d.2))
    (λ differ. (0, omega arith, differ))
    (cases_eq x y)

-- the words of a set joined with those of another
module _ (ws os ns : List ℕ) (join : (i : ℕ) → i < 8 → get_or ns i 0 ≡ bit_or (get_or ws i 0) (get_or os i 0)) where
  pub joined_holds : (b : ℕ) → holds ns b ≡ (holds ws b || holds os b)
  joined_holds b =
      ⊎_elim
      (λ (account : b < 512). rw (lt-ltb b 512 account) (ap (λ w. bit w (b % 64)) (join (b / 64) (omega arith)) ∙ bit_either (get_or ws (b / 64) 0) (get_or os (b / 64) 0) (b % 64)))
      (λ (past : 512 ≤ b). rw (le-ltb b 512 past) refl)
      (cases_lt b 512)

  -- a bit in which a joined word differs from the one before is new
  new_at : (i j : ℕ) → i < 8 → j < 64 → bit_at (get_or ns i 0) j ≢ bit_at (get_or ws i 0) j → (holds ws (64 * i + j) ≡ false) × (holds ns (64 * i + j) ≡ true)
  new_at i j row col other =
      let joined : bit_at (get_or ns i 0) j ≡ max (bit_at (get_or ws i 0) j) (bit_at (get_or os i 0) j) = ap (λ w. bit_at w j) (join i row) ∙ bit_at_or (get_or ws i 0) (get_or os i 0) j in
      let before : bit_at (get_or ws i 0) j ≡ 0 = omega (arith, joined, other, bit_at-lt (get_or os i 0) j) in
      let after : bit_at (get_or ns i 0) j ≡ 1 = omega (arith, joined, other, bit_at-lt (get_or os i 0) j) in
      (holds_at ws i j row col ∙ ap (λ n. eqb n 1) before, holds_at ns i j row col ∙ ap (λ n. eqb n 1) after)

  pub joined_new : length ns ≡ 8 → length ws ≡ 8 → ((i : ℕ) → i < 8 → (get_or ws i 0 < 2 ^ 64) × (get_or os i 0 < 2 ^ 64)) → ns ≢ ws → (b : ℕ) × (holds ws b ≡ false) × (holds ns b ≡ true)
  joined_new long long' small other = at (differ_at ns ws (omega arith) other)
    where
      at : (i : ℕ) × (i < length ns) × (get_or ns i 0 ≢ get_or ws i 0) → (b : ℕ) × (holds ws b ≡ false) × (holds ns b ≡ true)
      at (i, within, differ) =
          let row : i < 8 = omega arith in
          let words = small i row in
          let d = differs (get_or ns i 0) (get_or ws i 0) (omega (arith, join i row, or_lt 64 (get_or ws i 0) (get_or os i 0) words.0 words.1)) words.0 differ in
          let new = new_at i d.0 row d.1 d.2 in
          (64 * i + d.0, new.0, new.1)

-- two words with a bit in common, and two sets with one in words at the same place
abbrev pub Shared : ℕ × ℕ → Type 0
Shared p = (j : ℕ) × (j < 64) × (bit p.0 j ≡ true) × (bit p.1 j ≡ true)

pub met : (ws os : List ℕ) (r : Bool) → length ws ≡ 8 → length os ≡ 8
    → MatchBool r ((k : ℕ) × (k < length (zip ws os)) × HoldsAt Shared (zip ws os) k) (AllWithin (λ p. Shared p → ⊥) (zip ws os) 0 (length (zip ws os)))
    → Decides r ((b : ℕ) × (holds ws b ≡ true) × (holds os b ≡ true))
met ws os true long long' found =
    let k = found.0 in
    let row : k < 8 = omega (arith, found.1, length-zip ws os) in
    let here = subst Shared (get_or-zip ws os k (0, 0) (omega arith) (omega arith)) (found.2 (0, 0)) in
    ((λ _. (64 * k + here.0, holds_at ws k here.0 row here.1 ∙ here.2, holds_at os k here.0 row here.1 ∙ here.3)), (λ _. refl))
met ws os false long long' none = (
  (λ e. absurd (false≢true e)),
  (λ both.
      let b = both.0 in
      let l = and_parts (ltb b 512) (bit (get_or ws (b / 64) 0) (b % 64)) both.1 in
      let r = and_parts (ltb b 512) (bit (get_or os (b / 64) 0) (b % 64)) both.2 in
      let row : b / 64 < 8 = omega (arith, ltb-true b 512 l.0) in
      absurd (none (b / 64) (0, 0) (omega arith) (omega (arith, length-zip ws os))
      (subst Shared (sym (get_or-zip ws os (b / 64) (0, 0) (omega arith) (omega arith))) (b % 64, omega arith, l.1, r.1)))),
)
