-- How long the lines of a sheet are, and the sheet. Assumes nothing.
use Rattle.std.proofs.Common.{◌≡◌, ℕ, zero, suc, ◌+◌, ◌*◌, ◌<◌, ◌≤◌, Bool, true, false, cond, eqb, List, [], ◌∷◌, ◌++◌, length, get_or, is_some, Some, None, codes, decimal, Option, refl, arith, lit≤}
use Rattle.std.proofs.lemmas.List.{length-append}
use Rattle.std.proofs.lemmas.Bool.{and_parts, ltb-true}
use Rattle.table.specs.Used.{first}
use Rattle.terms.specs.declared.Kind.{Kind}
use Rattle.terms.specs.declared.Kind.TheVariants.{Denying, Plain, Delegatable}
use Rattle.charts.specs.declared.chart.Line.{Line}
use Rattle.charts.specs.declared.views.Mark.{Mark}
use Rattle.charts.specs.Reaching.{between_accounts}
use Rattle.rulings.specs.Ranking.{Ranking}
use Rattle.settlement.specs.Picking.{settled}
use Rattle.settlement.specs.Settled.{from_of}
use Rattle.model.specs.declared.answers.Decision.TheVariants.{Permitted, Denied, Undecided}
use Rattle.model.specs.declared.records.DraftRecord.{DraftRecord}
use Rattle.model.specs.Delegation.{lines_of, signs_of}
use Rattle.model.specs.Sheets.{Answer, by_kind, by_pick, answer, entry, joined_below, sheet}
use Rattle.rights.specs.Gathering.{names}
use Rattle.rights.specs.Lengths.{count_below, named_accounts}
use Rattle.rights.proofs.Counts.{count_one}
use Rattle.rights.proofs.Decided.{unnamed_settled}
use Rattle.text.proofs.Lengths.{three_digits}

-- the deciding account, where there is one, is an account
abbrev ByAccount : Answer → Type 0
ByAccount said = (g : ℕ) → said.1 ≡ Some g → g < 512

line_short : (a g : ℕ) (word : List ℕ) → a < 512 → g < 512 → length word ≤ 11 → length (decimal a ++ (word ++ (decimal g ++ (10 ∷ [])))) ≤ 18
line_short a g word account grantor short =
    omega (arith, length-append (decimal a) (word ++ (decimal g ++ (10 ∷ []))), length-append word (decimal g ++ (10 ∷ [])), length-append (decimal g) (10 ∷ []), three_digits a (omega arith), three_digits g (omega arith))

entry_short : (a : ℕ) → a < 512 → (said : Answer) → ByAccount said → length (entry a said) ≤ 18
entry_short a account (Permitted, Some g) by = line_short a g (codes " permitted ") account (by g refl) (lit≤ tt)
entry_short a account (Permitted, None) by = lit≤ tt
entry_short a account (Denied, Some g) by = line_short a g (codes " denied ") account (by g refl) (lit≤ tt)
entry_short a account (Denied, None) by = lit≤ tt
entry_short a account (Undecided, w) by = lit≤ tt

kind_by : (k : Kind) (g : ℕ) → g < 512 → ByAccount (by_kind k g)
kind_by Denying g account h is = let same : g ≡ h = cc in omega arith
kind_by Plain g account h is = let same : g ≡ h = cc in omega arith
kind_by Delegatable g account h is = let same : g ≡ h = cc in omega arith

from_account : (o : Option Line) → ((l : Line) → o ≡ Some l → between_accounts l ≡ true) → from_of o < 512
from_account None between = lit≤ tt
from_account (Some l) between = ltb-true l.from 512 (and_parts _ _ (between l refl)).0

module _ (marks : List Mark) (between : (at : ℕ) (l : Line) → get_or (lines_of marks) at None ≡ Some l → between_accounts l ≡ true) where
  pick_by : (o : Option ℕ) → ByAccount (by_pick marks o)
  pick_by None g is = let z : ◌≡◌ {A = ℕ} 0 1 = cc in absurd (omega arith)
  pick_by (Some at) g is = kind_by (signs_of marks at).kind (from_of (get_or (lines_of marks) at None)) (from_account (get_or (lines_of marks) at None) (between at)) g is

  -- whether the account is named, and whether it is the owner
  said_short : (a : ℕ) → a < 512 → (named owns : Bool) (o : Option ℕ) → (named ≡ false → o ≡ None) →
      length (entry a (cond owns (Permitted, Some a) (by_pick marks o))) ≤ 18 * (cond {A = ℕ} named 1 0 + cond {A = ℕ} owns 1 0)
  said_short a account true true o none = omega (arith, line_short a a (codes " permitted ") account account (lit≤ tt))
  said_short a account false true o none = line_short a a (codes " permitted ") account account (lit≤ tt)
  said_short a account true false o none = entry_short a account (by_pick marks o) (pick_by o)
  said_short a account false false (Some at) none = let z : ◌≡◌ {A = ℕ} 0 1 = (let e = none refl in cc) in absurd (omega arith)
  said_short a account false false None none = lit≤ tt

  joined_short : (n : ℕ) (f : ℕ → List ℕ) (p q : ℕ → Bool) → ((a : ℕ) → a < n → length (f a) ≤ 18 * (cond {A = ℕ} (p a) 1 0 + cond {A = ℕ} (q a) 1 0)) → length (joined_below n f) ≤ 18 * (count_below n p + count_below n q)
  unfolding joined_below count_below
  joined_short zero f p q short = lit≤ tt
  joined_short (suc n) f p q short =
      omega (arith, length-append (joined_below n f) (f n), joined_short n f p q (λ a within. short a (omega arith)), short n (omega arith))

  pub sheet_short : (R : Ranking) (x : DraftRecord) → length (sheet R x marks) ≤ 18 * named_accounts marks + 18
  sheet_short R x =
      let short = joined_short 512 (λ a. entry a (answer R x marks a)) (λ a. is_some (first (names a) marks)) (λ a. eqb a x.owner)
      (λ a account. said_short a account (is_some (first (names a) marks)) (eqb a x.owner) (settled (lines_of marks) (signs_of marks) x.owner R x.policy a) (unnamed_settled marks x.owner R x.policy a)) in
      omega (arith, short, count_one 512 x.owner)
