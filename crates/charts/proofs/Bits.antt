-- One bit of a word. Assumes nothing.
use Rattle.std.proofs.Common.{◌≡◌, ℕ, zero, suc, ◌*◌, ◌/◌, ◌%◌, ◌^◌, ◌<◌, ◌≢◌, min, max, Bool, true, false, not, ◌&&◌, ◌||◌, Decides, eqb, ltb, List, length, get_or, set, get_or-set_same, get_or-set_other, bit_or, bit_and, bit_xor, w64, sym, refl, ap, ◌∙◌, ⊎_elim, arith}
use Rattle.std.specs.Int.{bit_at, trailing_zeros}
use Rattle.std.proofs.lemmas.Bool.{cases_eq, eq-eqb, eqb-false, ne_eqb, not-true, and_parts, and_from, true≢false}
use Rattle.std.proofs.lemmas.Nat.{and_le_l, xor_lt}
use Rattle.std.proofs.lemmas.Nat.Bits.{bit_at-lt, bit_at-zero, bit_at_or, bit_at_and, bit_at_xor, bit_at_set_same, bit_at_set_other, bit_at-trailing_zeros, same_from_bits_below}
use Rattle.charts.specs.Members.{bit}

tells : (x y : ℕ) → x < 2 → y < 2 → (eqb (max x y) 1 ≡ (eqb x 1 || eqb y 1)) × (eqb (min x y) 1 ≡ (eqb x 1 && eqb y 1))
tells zero zero a b = (refl, refl)
tells zero (suc zero) a b = (refl, refl)
tells (suc zero) zero a b = (refl, refl)
tells (suc zero) (suc zero) a b = (refl, refl)
tells (suc (suc x)) y a b = absurd (omega arith)
tells zero (suc (suc y)) a b = absurd (omega arith)
tells (suc zero) (suc (suc y)) a b = absurd (omega arith)

pub bit_either : (x y j : ℕ) → bit (bit_or x y) j ≡ (bit x j || bit y j)
bit_either x y j = ap (λ n. eqb n 1) (bit_at_or x y j) ∙ (tells (bit_at x j) (bit_at y j) (bit_at-lt x j) (bit_at-lt y j)).0

pub bit_both : (x y j : ℕ) → bit (bit_and x y) j ≡ (bit x j && bit y j)
bit_both x y j = ap (λ n. eqb n 1) (bit_at_and x y j) ∙ (tells (bit_at x j) (bit_at y j) (bit_at-lt x j) (bit_at-lt y j)).1

pub zero_bit : (j : ℕ) → bit 0 j ≡ false
zero_bit j = ap (λ n. eqb n 1) (bit_at-zero j)

-- a word that is not 0 has a bit
pub some_bit : (x : ℕ) → x < 2 ^ 64 → x ≢ 0 → (j : ℕ) × (j < 64) × (bit x j ≡ true)
some_bit x small some = let lowest = bit_at-trailing_zeros w64 x (omega arith) small in (trailing_zeros w64 x, lowest.0, ap (λ n. eqb n 1) lowest.1)

-- words that differ have a bit that does
pub differs : (x y : ℕ) → x < 2 ^ 64 → y < 2 ^ 64 → x ≢ y → (j : ℕ) × (j < 64) × (bit_at x j ≢ bit_at y j)
differs x y small small' other =
    let d = bit_xor x y in
    let some : d ≢ 0 = λ none. other (same_from_bits_below 64 x y small small' (λ i within. omega (arith, bit_at_xor x y i, ap (λ n. bit_at n i) none, bit_at-zero i, bit_at-lt x i, bit_at-lt y i))) in
    let lowest = bit_at-trailing_zeros w64 d (omega arith) (xor_lt 64 x y small small') in
    let j = trailing_zeros w64 d in
    (j, lowest.0, (λ same. omega (arith, lowest.1, bit_at_xor x y j, same)))

put : (t x : Bool) → (t && true) ≡ ((t && x) || (true && t))
put true true = refl
put true false = refl
put false x = refl

kept : (t x : Bool) → (t && x) ≡ ((t && x) || (false && t))
kept true true = refl
kept true false = refl
kept false x = refl

-- one bit more in the words of a set
pub words_or : (words : List ℕ) (a b : ℕ) → a / 64 < length words →
    (ltb b 512 && bit (get_or (set words (a / 64) (bit_or (get_or words (a / 64) 0) (1 * 2 ^ (a % 64) % 2 ^ 64))) (b / 64) 0) (b % 64))
    ≡ ((ltb b 512 && bit (get_or words (b / 64) 0) (b % 64)) || (eqb b a && ltb b 512))
words_or words a b within =
    let word = get_or words (a / 64) 0 in
    let col : a % 64 < 64 = omega arith in
    ⊎_elim
    (λ (same : b ≡ a).
    rw (same, get_or-set_same words (a / 64) (bit_or word (1 * 2 ^ (a % 64) % 2 ^ 64)) 0 within, bit_at_set_same w64 word (a % 64) col, eq-eqb a a refl)
    (put (ltb a 512) (bit word (a % 64))))
    (λ (other : b ≢ a).
    ⊎_elim
    (λ (row : b / 64 ≡ a / 64).
    rw (row, get_or-set_same words (a / 64) (bit_or word (1 * 2 ^ (a % 64) % 2 ^ 64)) 0 within, bit_at_set_other w64 word (a % 64) col (b % 64) (λ e. other (omega arith)), ne_eqb b a other)
    (kept (ltb b 512) (bit word (b % 64))))
    (λ (off : b / 64 ≢ a / 64).
    rw (get_or-set_other words (a / 64) (b / 64) (bit_or word (1 * 2 ^ (a % 64) % 2 ^ 64)) 0 off, ne_eqb b a other)
    (kept (ltb b 512) (bit (get_or words (b / 64) 0) (b % 64))))
    (cases_eq (b / 64) (a / 64)))
    (cases_eq b a)

pub shared_bit : (x y : ℕ) → x < 2 ^ 64 → Decides (not (eqb (bit_and x y) 0)) ((j : ℕ) × (j < 64) × (bit x j ≡ true) × (bit y j ≡ true))
shared_bit x y small = (
  (λ some.
      let lowest = some_bit (bit_and x y) (omega (arith, and_le_l x y)) (eqb-false (bit_and x y) 0 (not-true _ some)) in
      let parts = and_parts (bit x lowest.0) (bit y lowest.0) (sym (bit_both x y lowest.0) ∙ lowest.2) in
      (lowest.0, lowest.1, parts.0, parts.1)),
  (λ both. rw (ne_eqb (bit_and x y) 0 (λ none. true≢false (sym (and_from _ _ both.2 both.3) ∙ sym (bit_both x y both.0) ∙ ap (λ w. bit w both.0) none ∙ zero_bit both.0))) refl),
)
