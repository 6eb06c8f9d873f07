-- The chart without the line of one mark has the chains of the marks without that one. Assumes nothing.
use Rattle.std.proofs.Common.{◌≡◌, ℕ, zero, suc, ◌+◌, ◌<◌, Bool, true, false, cond, not, eqb, List, [], ◌∷◌, get_or, set, Some, None, Decides, Option, sym, refl, ap, ◌∙◌, subst, ⊎_elim, arith}
use Rattle.std.proofs.lemmas.List.{get_or-set_other}
use Rattle.std.proofs.lemmas.Bool.{and_parts, eqb-true, both_ways, not-true, not_from_false, cases_Bool, cases_order}
use Rattle.std.proofs.lemmas.Bool.Decides.{same_from_decides, Decides-like}
use Rattle.charts.specs.declared.chart.Line.{Line}
use Rattle.charts.specs.declared.chart.Sign.{Sign}
use Rattle.charts.specs.declared.views.Mark.{Mark}
use Rattle.charts.specs.Chains.{Leads, Chain}
use Rattle.charts.specs.Reaching.{above}
use Rattle.charts.specs.Views.{is_delegatable, passing}
use Rattle.charts.proofs.Shortest.{above_decides}
use Rattle.charts.proofs.Viewed.{passing_at, taken_out}
use Rattle.model.specs.Consistent.{Sound}
use Rattle.model.specs.Delegation.{At, lines_of, signs_of, passing_of, between, unless}
use Rattle.model.proofs.Marked.{origin, kept_from, kept_at, leads_mark, passing_leads, passing_moved, chain_within}
use Rattle.model.proofs.Sounds.{sound_leads}

neither : (b : Bool) → ◌≡◌ {A = Option Line} (cond b None None) None
neither true = refl
neither false = refl

-- the delegatable lines without the one at a place
module _ (signs : ℕ → Sign) (lines : List (Option Line)) (at : ℕ) where
  gone : get_or (passing signs (set lines at None)) at None ≡ None
  gone =
      passing_at signs 0 (set lines at None) at
      ∙ ap (λ o. cond (is_delegatable (signs (0 + at)).kind) o None) (sym (taken_out lines at))
      ∙ neither (is_delegatable (signs (0 + at)).kind)

  left : (j : ℕ) → (j ≡ at → ⊥) → get_or (passing signs (set lines at None)) j None ≡ get_or (passing signs lines) j None
  left j other =
      passing_at signs 0 (set lines at None) j
      ∙ ap (λ o. cond (is_delegatable (signs (0 + j)).kind) o None) (get_or-set_other lines at j None None other)
      ∙ sym (passing_at signs 0 lines j)

  gone_leads : (u v : ℕ) → Leads (passing signs (set lines at None)) at u v → ⊥
  gone_leads u v leads =
      let none : ◌≡◌ {A = Option Line} None (Some (record { from = u; to = v })) = sym gone ∙ leads.line in
      let z : ◌≡◌ {A = ℕ} 0 1 = cc in
      omega arith

  left_leads : (j u v : ℕ) → Leads (passing signs (set lines at None)) j u v → (j ≡ at → ⊥) × Leads (passing signs lines) j u v
  left_leads j u v leads =
      let other : j ≡ at → ⊥ = λ same. gone_leads u v (subst (λ k. Leads (passing signs (set lines at None)) k u v) same leads) in
      (other, record { line = sym (left j other) ∙ leads.line; from_account = leads.from_account; to_account = leads.to_account })

  leads_left : (j u v : ℕ) → (j ≡ at → ⊥) → Leads (passing signs lines) j u v → Leads (passing signs (set lines at None)) j u v
  leads_left j u v other leads = record { line = left j other ∙ leads.line; from_account = leads.from_account; to_account = leads.to_account }

-- where only the mark at that place is by c to a, these are the delegatable lines of the marks without that one
module _ (ms : List Mark) (c a at : ℕ) (only : (j : ℕ) (m : Mark) → At ms j m → Decides (between c a m) (j ≡ at)) where
  leads_there : (j u v : ℕ) → Leads (passing (signs_of ms) (set (lines_of ms) at None)) j u v → (i : ℕ) × Leads (passing_of (unless c a ms)) i u v
  leads_there j u v leads =
      let f = left_leads (signs_of ms) (lines_of ms) at j u v leads in
      let g = leads_mark ms j u v (passing_leads ms j u v f.1).0 in
      let m = g.0 in
      let apart : between c a m ≡ false = ⊎_elim (λ is. absurd (f.0 ((only j m g.1).0 is))) (λ e. e) (cases_Bool (between c a m)) in
      let k = kept_at (λ m. not (between c a m)) ms j m g.1 (not_from_false (between c a m) apart) in
      (k.0, passing_moved ms (unless c a ms) j k.0 u v m g.1 k.1 f.1)

  leads_back : (i u v : ℕ) → Leads (passing_of (unless c a ms)) i u v → (j : ℕ) × Leads (passing (signs_of ms) (set (lines_of ms) at None)) j u v
  leads_back i u v leads =
      let g = leads_mark (unless c a ms) i u v (passing_leads (unless c a ms) i u v leads).0 in
      let m = g.0 in
      let j = origin (λ m. not (between c a m)) ms i in
      let k = kept_from (λ m. not (between c a m)) ms i m g.1 in
      let other : j ≡ at → ⊥ = λ same. both_ways (between c a m) (not-true (between c a m) k.1) ((only j m k.0).1 same) in
      (j, leads_left (signs_of ms) (lines_of ms) at j u v other (passing_moved (unless c a ms) ms i j u v m g.1 k.0 leads))

-- the chart without the line at a place, where only the mark there is by c to a, has the chains of the marks without
-- that one
pub without_there : (ms : List Mark) (c a at : ℕ) → ((j : ℕ) (m : Mark) → At ms j m → Decides (between c a m) (j ≡ at)) → {x y : ℕ} →
    Chain (passing (signs_of ms) (set (lines_of ms) at None)) x y → Chain (passing_of (unless c a ms)) x y
without_there ms c a at only chain = chain_within (leads_there ms c a at only) chain

pub without_back : (ms : List Mark) (c a at : ℕ) → ((j : ℕ) (m : Mark) → At ms j m → Decides (between c a m) (j ≡ at)) → {x y : ℕ} →
    Chain (passing_of (unless c a ms)) x y → Chain (passing (signs_of ms) (set (lines_of ms) at None)) x y
without_back ms c a at only chain = chain_within (leads_back ms c a at only) chain

-- a place before one that is taken is taken
at_before : {X : Type 0} (xs : List X) (i j : ℕ) (y : X) → i < j → At xs j y → (x : X) × At xs i x
at_before [] i j y less is = let z : ◌≡◌ {A = ℕ} 0 1 = cc in absurd (omega arith)
at_before (x ∷ xs) zero j y less is = (x, refl)
at_before (x ∷ xs) (suc i) zero y less is = absurd (omega arith)
at_before (x ∷ xs) (suc i) (suc j) y less is = at_before xs i j y (omega arith) is

-- the mark by c to a leads so
between_leads : (owner c a : ℕ) (ms : List Mark) → Sound owner ms → (j : ℕ) (m : Mark) → At ms j m → between c a m ≡ true → Leads (lines_of ms) j c a
between_leads owner c a ms sound j m is ends =
    let parts = and_parts (eqb m.from c) (eqb m.to a) ends in
    subst (λ u. Leads (lines_of ms) j u a) (eqb-true m.from c parts.0)
    (subst (λ v. Leads (lines_of ms) j m.from v) (eqb-true m.to a parts.1) (sound_leads owner ms sound j m is))

-- the first place with a mark by c to a, or the end of the list, is the only one, where no grantor has two grants to
-- one account
pub place_decides : (owner c a at : ℕ) (ms : List Mark) → Sound owner ms →
    ((k : ℕ) (m : Mark) → k < at → At ms k m → between c a m ≡ false) → ((m : Mark) → At ms at m → between c a m ≡ true) →
    (j : ℕ) (m : Mark) → At ms j m → Decides (between c a m) (j ≡ at)
place_decides owner c a at ms sound before here j m is = (only, λ same. here m (subst (λ k. At ms k m) same is))
  where
    only : between c a m ≡ true → j ≡ at
    only ends =
        ⊎_elim (λ same. same)
        (⊎_elim (λ less. absurd (both_ways (between c a m) (before j m less is) ends))
        (λ more.
        let f = at_before ms at j m more is in
        sound.one_each c a j at (between_leads owner c a ms sound j m is ends) (between_leads owner c a ms sound at f.0 f.1 (here f.0 f.1))))
        (cases_order j at)

-- and so the accounts that are reached
pub without_above : (owner c a at : ℕ) (ms : List Mark) → ((j : ℕ) (m : Mark) → At ms j m → Decides (between c a m) (j ≡ at)) → (b : Bool) (y : ℕ) →
    Decides b (Chain (passing (signs_of ms) (set (lines_of ms) at None)) owner y) → b ≡ above (passing_of (unless c a ms)) owner y
without_above owner c a at ms only b y decides =
    same_from_decides b (above (passing_of (unless c a ms)) owner y) (Decides-like b (without_there ms c a at only) (without_back ms c a at only) decides) (above_decides (passing_of (unless c a ms)) owner y)
