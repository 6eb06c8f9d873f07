-- What the gathered grants of a right decide. Assumes nothing.
use Rattle.std.proofs.Common.{◌≡◌, ℕ, ◌≤◌, false, List, length, take, is_some, None, ap}
use Rattle.std.proofs.lemmas.List.{take_all}
use Rattle.std.proofs.lemmas.Bool.{eqb-false}
use Rattle.table.specs.Used.{first}
use Rattle.rulings.specs.Ranking.{Ranking}
use Rattle.charts.specs.declared.views.Mark.{Mark}
use Rattle.settlement.specs.Picking.{settled}
use Rattle.settlement.proofs.Rounds.{unnamed_none}
use Rattle.model.specs.Delegation.{lines_of, signs_of}
use Rattle.model.proofs.Marked.{leads_mark, first_none, none_there}
use Rattle.rights.specs.Gathering.{names}

module _ (marks : List Mark) (owner : ℕ) (R : Ranking) (p a : ℕ) where
  -- no mark is left out of the chart of so few
  pub settled_all : length marks ≤ 4096 → settled (lines_of (take 4096 marks)) (signs_of (take 4096 marks)) owner R p a ≡ settled (lines_of marks) (signs_of marks) owner R p a
  settled_all few = ap (λ ms. settled (lines_of ms) (signs_of ms) owner R p a) (take_all 4096 marks few)

  -- an account that no mark names has no pick
  pub unnamed_settled : is_some (first (names a) marks) ≡ false → settled (lines_of marks) (signs_of marks) owner R p a ≡ None
  unnamed_settled unnamed =
      unnamed_none (lines_of marks) (signs_of marks) owner R p a
      (λ at from leads.
      let m = leads_mark marks at from a leads in
      eqb-false m.0.to a (first_none (names a) marks at m.0 (none_there (first (names a) marks) unnamed) m.1) m.3)
