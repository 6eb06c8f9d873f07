-- When a line is overridden: computed, by sets of accounts, and in words. Assumes nothing.
use Rattle.std.proofs.Common.{◌≡◌, ℕ, Bool, true, ◌&&◌, eqb, List, get_or, Some, None, Decides, Option, sym, refl, ◌∙◌, subst}
use Rattle.std.proofs.lemmas.Bool.{and_parts, and_from, eqb-true, eq-eqb}
use Rattle.std.proofs.lemmas.Bool.Decides.{same_from_decides}
use Rattle.charts.specs.declared.above.Sources.{Sources}
use Rattle.charts.specs.declared.chart.Line.{Line}
use Rattle.charts.specs.Chains.{Leads, Chain}
use Rattle.charts.specs.Reaching.{above, between_accounts}
use Rattle.charts.specs.Sets.{over}
use Rattle.charts.proofs.Shortest.{above_decides, any_found, any_holds, leads_from, leads_between}
use Rattle.settlement.specs.Picking.{overridden, Flagged}
use Rattle.settlement.specs.Settled.{Overridden}

-- another account with a line to where l leads, above the account that l comes from
abbrev pub Overruled : List (Option Line) → Line → Type 0
Overruled lines l = (w : ℕ) × ((at : ℕ) × Leads lines at w l.to) × Chain lines w l.from

pub overridden_decides : (lines : List (Option Line)) (l : Line) → Decides (overridden lines l) (Overruled lines l)
overridden_decides lines l = (
  (λ e.
      let f = any_found (λ k. eqb k.to l.to && above lines k.from l.from) lines e in
      let k = f.1 in
      let parts = and_parts (eqb k.to l.to) (above lines k.from l.from) f.4 in
      (k.from, (f.0, subst (λ x. Leads lines f.0 k.from x) (eqb-true k.to l.to parts.0) (leads_from lines f.0 k f.2 f.3)), (above_decides lines k.from l.from).0 parts.1)),
  (λ o.
      let at = o.1.0 in
      let leads = o.1.1 in
      any_holds (λ k. eqb k.to l.to && above lines k.from l.from) lines at (record { from = o.0; to = l.to }) leads.line (leads_between leads)
      (and_from (eqb l.to l.to) _ (eq-eqb l.to l.to refl) ((above_decides lines o.0 l.from).1 o.2))),
)

-- the flag of a line says whether it is overridden
pub flagged : (lines : List (Option Line)) (higher direct : Sources) (l : Line) (r : Bool) →
    ((a b : ℕ) → Decides (over higher a b) (Chain lines a b)) → ((a b : ℕ) → Decides (over direct a b) ((at : ℕ) × Leads lines at a b)) →
    Flagged higher direct (Some l) r → r ≡ overridden lines l
flagged lines higher direct l r chains leads told =
    same_from_decides r (overridden lines l) (
      (λ e. let w = told.0 e in (w.0, (leads w.0 l.to).0 w.1, (chains w.0 l.from).0 w.2)),
      (λ o. told.1 (o.0, (leads o.0 l.to).1 o.1, (chains o.0 l.from).1 o.2)),
    )
    (overridden_decides lines l)

-- and in the words of the settled list
pub overridden_word : (lines : List (Option Line)) (at : ℕ) (l : Line) → get_or lines at None ≡ Some l → between_accounts l ≡ true → Decides (overridden lines l) (Overridden lines at)
overridden_word lines at l is both = (
  (λ e.
      let o = (overridden_decides lines l).0 e in
      record { from = l.from; account = l.to; leads = leads_from lines at l is both; over = o.1.0; higher = o.0; over_leads = o.1.1; above = o.2 }),
  (λ o.
      let same = sym is ∙ o.leads.line in
      let from : l.from ≡ o.from = cc in
      let to : l.to ≡ o.account = cc in
      (overridden_decides lines l).1 (o.higher, (o.over, subst (λ x. Leads lines o.over o.higher x) (sym to) o.over_leads), subst (λ x. Chain lines o.higher x) (sym from) o.above)),
)
