-- What stands at a place of a view. Assumes nothing.
use Rattle.std.proofs.Common.{◌≡◌, ℕ, zero, suc, ◌+◌, ◌<◌, ◌≤◌, Bool, true, false, cond, List, [], ◌∷◌, length, get_or, set, None, Option, sym, refl, ap, ◌∙◌, ⊎_elim, arith}
use Rattle.std.proofs.lemmas.List.{get_or_past, get_or-set_same, set_past}
use Rattle.std.proofs.lemmas.Bool.{cases_lt}
use Rattle.terms.specs.declared.Kind.{Kind}
use Rattle.charts.specs.declared.chart.Line.{Line}
use Rattle.charts.specs.declared.chart.Sign.{Sign}
use Rattle.charts.specs.Views.{is_delegatable, passing_from}

neither : (b : Bool) → ◌≡◌ {A = Option Line} None (cond b None None)
neither true = refl
neither false = refl

module _ (signs : ℕ → Sign) where
  pub length_passing : (i : ℕ) (ls : List (Option Line)) → length (passing_from i signs ls) ≡ length ls
  length_passing i [] = refl
  length_passing i (l ∷ ls) = ap suc (length_passing (i + 1) ls)

  pub passing_at : (i : ℕ) (ls : List (Option Line)) (at : ℕ) → get_or (passing_from i signs ls) at None ≡ cond (is_delegatable (signs (i + at)).kind) (get_or ls at None) None
  passing_at i [] at = neither (is_delegatable (signs (i + at)).kind)
  passing_at i (l ∷ ls) zero = ap (λ k. cond (is_delegatable (signs k).kind) l None) (omega arith)
  passing_at i (l ∷ ls) (suc at) =
      passing_at (i + 1) ls at ∙ ap (λ k. cond (is_delegatable (signs k).kind) (get_or ls at None) None) (omega arith)

  -- the line at a place, where its kind is k
  pub passing_at_kind : (ls : List (Option Line)) (at : ℕ) (k : Kind) → (signs at).kind ≡ k → cond (is_delegatable k) (get_or ls at None) None ≡ get_or (passing_from 0 signs ls) at None
  passing_at_kind ls at k is =
      let here : at ≡ 0 + at = omega arith in
      ap (λ x. cond (is_delegatable x) (get_or ls at None) None) (sym is)
      ∙ ap (λ n. cond (is_delegatable (signs n).kind) (get_or ls at None) None) here
      ∙ sym (passing_at 0 ls at)

pub taken_out : (lines : List (Option Line)) (at : ℕ) → None ≡ get_or (set lines at None) at None
taken_out lines at =
    ⊎_elim (λ (within : at < length lines). sym (get_or-set_same lines at None None within))
    (λ (past : length lines ≤ at). sym (ap (λ ls. get_or ls at None) (set_past lines at None past) ∙ get_or_past lines at None past))
    (cases_lt at (length lines))
