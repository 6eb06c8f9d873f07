use Rattle.std.proofs.Common.{◌≡◌, ◌||◌, List, take, sym, ap, ◌∙◌, subst}
use Rattle.std.proofs.lemmas.List.{take_all}
use Rattle.std.proofs.lemmas.Bool.{ne_eqb}
use Rattle.std.proofs.lemmas.Bool.Decides.{same_from_decides}
use Rattle.charts.specs.declared.views.Mark.{Mark}
use Rattle.charts.specs.Chains.{Chain}
use Rattle.charts.specs.Members.{member}
use Rattle.charts.specs.Reaching.{above}
use Rattle.charts.proofs.Shortest.{above_decides}
use Rattle.model.specs.Delegation.{lines_of}
use Rattle.rights.proofs.marks.closes_circle.Goals as goal

pub returns-else-account-caller : goal.returns-else-account-caller
returns-else-account-caller c =
    let marks = c.args.marks.now in
    let a = c.args.account in
    let b = c.args.caller in
    let all : take 4096 marks ≡ marks = take_all 4096 marks c.requires in
    let found = c.search.ensures b in
    let same = same_from_decides (member c.search.result b) (above (lines_of marks) a b)
    ((λ e. subst (λ (ms : List Mark). Chain (lines_of ms) a b) all (found.0 e)), (λ chain. found.1 (subst (λ (ms : List Mark). Chain (lines_of ms) a b) (sym all) chain)))
    (above_decides (lines_of marks) a b) in
    c.contains.ensures ∙ same ∙ ap (λ t. t || above (lines_of marks) a b) (sym (ne_eqb a b c.if-account-caller.false))
