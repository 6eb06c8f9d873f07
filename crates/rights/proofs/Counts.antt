-- How many numbers pass, one more at a time. Assumes nothing.
use Rattle.std.proofs.Common.{◌≡◌, ℕ, zero, suc, ◌+◌, ◌<◌, ◌≤◌, Bool, true, false, cond, not, ◌&&◌, ◌||◌, eqb, ltb, sym, refl, ap, ◌∙◌, ⊎_elim, arith, lit≤}
use Rattle.std.proofs.lemmas.Bool.{cases_eq, cases_lt, eq-eqb, ne_eqb, lt-ltb, le-ltb, or_right}
use Rattle.std.proofs.Math.Bool.{or-false}
use Rattle.rights.specs.Lengths.{count_below}

one_or_none : (t : Bool) → cond {A = ℕ} t 1 0 ≤ 1
one_or_none true = lit≤ tt
one_or_none false = lit≤ tt

one_of_both : (t : Bool) → cond {A = ℕ} t 1 0 + cond {A = ℕ} (not t) 1 0 ≡ 1
one_of_both true = refl
one_of_both false = refl

pub count_none : (n : ℕ) (p : ℕ → Bool) → ((a : ℕ) → p a ≡ false) → 0 ≡ count_below n p
unfolding count_below
count_none zero p none = refl
count_none (suc n) p none =
    let before = count_none n p none in
    let here : cond {A = ℕ} (p n) 1 0 ≡ 0 = ap (λ t. cond {A = ℕ} t 1 0) (none n) in
    omega arith

pub count_same : (n : ℕ) (p q : ℕ → Bool) → ((a : ℕ) → a < n → p a ≡ q a) → count_below n p ≡ count_below n q
unfolding count_below
count_same zero p q same = refl
count_same (suc n) p q same =
    let before = count_same n p q (λ a within. same a (omega arith)) in
    let here : cond {A = ℕ} (p n) 1 0 ≡ cond {A = ℕ} (q n) 1 0 = ap (λ t. cond {A = ℕ} t 1 0) (same n (omega arith)) in
    omega arith

pub count_le : (n : ℕ) (p : ℕ → Bool) → count_below n p ≤ n
unfolding count_below
count_le zero p = lit≤ tt
count_le (suc n) p = omega (arith, count_le n p, one_or_none (p n))

after_same : (b n : ℕ) → (n ≡ b → ⊥) → ltb b n ≡ ltb b (suc n)
after_same b n other =
    ⊎_elim (λ (less : b < n). lt-ltb b n less ∙ sym (lt-ltb b (suc n) (omega arith)))
    (λ (more : n ≤ b). let above : suc n ≤ b = ⊎_elim (λ (l : n < b). (let g : suc n ≤ b = omega arith in g)) (λ (l : b ≤ n). absurd (other (omega arith))) (cases_lt n b) in le-ltb b n more ∙ sym (le-ltb b (suc n) above))
    (cases_lt b n)

-- one more passes, unless it did
pub count_put : (n b : ℕ) (p q : ℕ → Bool) → ((a : ℕ) → a < n → q a ≡ (p a || eqb a b)) → count_below n q ≡ count_below n p + cond {A = ℕ} (ltb b n && not (p b)) 1 0
unfolding count_below
count_put zero b p q same = ap (λ t. 0 + cond {A = ℕ} (t && not (p b)) 1 0) (sym (le-ltb b 0 (omega arith)))
count_put (suc n) b p q same =
    let before = count_put n b p q (λ a within. same a (omega arith)) in
    ⊎_elim
    (λ (is : n ≡ b).
    let one = one_of_both (p b) in
    let passes : cond {A = ℕ} (q n) 1 0 ≡ 1 = ap (λ t. cond {A = ℕ} t 1 0) (same n (omega arith) ∙ or_right (p n) (eqb n b) (eq-eqb n b is)) in
    let not_yet : cond {A = ℕ} (ltb b n && not (p b)) 1 0 ≡ 0 = ap (λ t. cond {A = ℕ} (t && not (p b)) 1 0) (le-ltb b n (omega arith)) in
    let now : cond {A = ℕ} (ltb b (suc n) && not (p b)) 1 0 ≡ cond {A = ℕ} (not (p b)) 1 0 = ap (λ t. cond {A = ℕ} (t && not (p b)) 1 0) (lt-ltb b (suc n) (omega arith)) in
    let same_one : cond {A = ℕ} (p n) 1 0 ≡ cond {A = ℕ} (p b) 1 0 = ap (λ a. cond {A = ℕ} (p a) 1 0) is in
    (let goal : count_below n q + cond {A = ℕ} (q n) 1 0 ≡ (count_below n p + cond {A = ℕ} (p n) 1 0) + cond {A = ℕ} (ltb b (suc n) && not (p b)) 1 0 = omega arith in goal))
    (λ (other : n ≡ b → ⊥).
    let as_it_was : cond {A = ℕ} (q n) 1 0 ≡ cond {A = ℕ} (p n) 1 0 = ap (λ t. cond {A = ℕ} t 1 0) (same n (omega arith) ∙ ap (λ t. p n || t) (ne_eqb n b other) ∙ or-false (p n)) in
    let still : cond {A = ℕ} (ltb b n && not (p b)) 1 0 ≡ cond {A = ℕ} (ltb b (suc n) && not (p b)) 1 0 = ap (λ t. cond {A = ℕ} (t && not (p b)) 1 0) (after_same b n other) in
    (let goal : count_below n q + cond {A = ℕ} (q n) 1 0 ≡ (count_below n p + cond {A = ℕ} (p n) 1 0) + cond {A = ℕ} (ltb b (suc n) && not (p b)) 1 0 = omega arith in goal))
    (cases_eq n b)

-- one number is passed at most once
pub count_one : (n b : ℕ) → count_below n (λ a. eqb a b) ≤ 1
count_one n b =
    let put = count_put n b (λ _. false) (λ a. eqb a b) (λ a within. refl) in
    omega (arith, put, count_none n (λ _. false) (λ _. refl), one_or_none (ltb b n && true))
