use Rattle.std.proofs.Common.{rules}
use borrow.Author.Tests.{tests}
use Rattle.std.proofs.lemmas.Iterator.{YieldsList-from_slice, YieldsList-from_zip, cases_from_any}
use Rattle.charts.proofs.Words.{Shared, met}
use Rattle.charts.proofs.accounts.Accounts.meets.Goals as goal

pub returns : goal.returns
returns c =
    let ws = c.args.self.now.words in
    let os = c.args.other.now.words in
    met ws os c.any.result (cc) (cc)
    (cases_from_any c.any.new.self _ c.any.result Shared (λ p. Shared p → ⊥) c.any.ensures.ran (YieldsList-from_zip {s = c.zip.result} (YieldsList-from_slice ws (cc)) (YieldsList-from_slice os (cc))) (λ x q k. search (rules, tests)) (λ x q k. search (rules, tests)))
