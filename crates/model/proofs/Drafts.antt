-- Sums over the drafts as they come, change and go: of what they reserve, and of how often a number is open.
-- Assumes nothing.
use Rattle.std.proofs.Common.{◌≡◌, ℕ, ◌+◌, ◌≤◌, Bool, true, false, cond, not, eqb, List, [], ◌∷◌, ◌++◌, Some, None, sum_by, count_by, filter, sym, refl, ap, ◌∙◌, arith}
use Rattle.std.proofs.lemmas.List.Sums.{sum_by-cons, sum_by_push}
use Rattle.std.proofs.lemmas.List.Filters.{sum_by-filter_both}
use Rattle.std.proofs.lemmas.Bool.{eqb-true}
use Rattle.table.specs.Used.{first, replaced}
use Rattle.model.specs.declared.records.DraftRecord.{DraftRecord}
use Rattle.model.specs.Keys.{by_draft}
use Rattle.model.specs.State.{Once}

module _ (f : DraftRecord → ℕ) where
  pub sum_kept : (stays : DraftRecord → Bool) (xs : List DraftRecord) → sum_by f (filter stays xs) ≤ sum_by f xs
  sum_kept stays xs = omega (arith, sum_by-filter_both stays (λ x. not (stays x)) (λ _. refl) f xs)

  -- a record in the place of another that counts as much
  pub sum_replaced : (test : DraftRecord → Bool) (x y : DraftRecord) → f y ≡ f x → (xs : List DraftRecord) → first test xs ≡ Some x → sum_by f (replaced test y xs) ≡ sum_by f xs
  sum_replaced test x y same [] found = refl
  sum_replaced test x y same (z ∷ zs) found =
      elim (test z) as (λ b. cond b (Some z) (first test zs) ≡ Some x → sum_by f (cond b (y ∷ zs) (z ∷ replaced test y zs)) ≡ sum_by f (z ∷ zs)) [
        | true ↦ λ e.
            let here : z ≡ x = cc in
            omega (arith, sum_by-cons f y zs, sum_by-cons f z zs, same, ap f here)
        | false ↦ λ e.
            omega (arith, sum_by-cons f z (replaced test y zs), sum_by-cons f z zs, sum_replaced test x y same zs e)
      ] found

  -- a record that was added, or was not
  pub sum_added : (added : Bool) (xs : List DraftRecord) (x : DraftRecord) → sum_by f (cond added (xs ++ x ∷ []) xs) ≤ sum_by f xs + f x
  sum_added true xs x = omega (arith, sum_by_push f xs x)
  sum_added false xs x = omega arith

-- what is not found is not there once
pub none_counted : (test : DraftRecord → Bool) (xs : List DraftRecord) → first test xs ≡ None → count_by test xs ≡ 0
none_counted test [] absent = refl
none_counted test (z ∷ zs) absent =
    let each = elim (test z) as (λ b. cond b (Some z) (first test zs) ≡ None → cond b 1 0 + count_by test zs ≡ 0) [
      | true ↦ λ e. let other : ◌≡◌ {A = ℕ} 0 1 = cc in absurd (omega arith)
      | false ↦ λ e. omega (arith, none_counted test zs e)
    ] absent in
    omega (arith, each, sum_by-cons (λ w. cond (test w) 1 0) z zs)

pub once_added : (added : Bool) (xs : List DraftRecord) (x : DraftRecord) → first (by_draft x.draft) xs ≡ None → Once xs → Once (cond added (xs ++ x ∷ []) xs)
once_added added xs x absent once d =
    let counted = λ (w : DraftRecord). cond (by_draft d w) 1 0 in
    let more = sum_added counted added xs x in
    elim (eqb x.draft d) as (λ b. eqb x.draft d ≡ b → sum_by counted (cond added (xs ++ x ∷ []) xs) ≤ sum_by counted xs + cond b 1 0 → sum_by counted (cond added (xs ++ x ∷ []) xs) ≤ 1) [
      | true ↦ λ e m. omega (arith, m, none_counted (by_draft d) xs (ap (λ n. first (by_draft n) xs) (sym (eqb-true x.draft d e)) ∙ absent))
      | false ↦ λ e m. omega (arith, m, once d)
    ] refl more

pub once_replaced : (test : DraftRecord → Bool) (x y : DraftRecord) → y.draft ≡ x.draft → (xs : List DraftRecord) → first test xs ≡ Some x → Once xs → Once (replaced test y xs)
once_replaced test x y same xs found once d =
    omega (arith, once d, sum_replaced (λ w. cond (by_draft d w) 1 0) test x y (ap (λ n. cond (eqb n d) 1 0) same) xs found)

pub once_kept : (stays : DraftRecord → Bool) (xs : List DraftRecord) → Once xs → Once (filter stays xs)
once_kept stays xs once d = omega (arith, once d, sum_kept (λ w. cond (by_draft d w) 1 0) stays xs)
