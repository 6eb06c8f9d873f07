use Rattle.std.proofs.Common.{◌≡◌, length, Some, sym, ap, ◌∙◌, arith}
use Rattle.rulings.specs.Ranking.{Ranking}
use Rattle.model.specs.Grants.{of_right}
use Rattle.model.specs.Meaning.{sheet_of}
use Rattle.model.specs.State.{draft_of}
use Rattle.rights.specs.Contents.{contents}
use Rattle.rights.specs.Lengths.{named_accounts}
use Rattle.rights.proofs.Longest.{sheet_short}
use Rattle.rights.proofs.Registers.{sound_throughout}
use Rattle.rights.proofs.register.Register.length.Goals as goal

pub returns-clause-enough : goal.returns-clause-enough
returns-clause-enough c =
    let was = c.args.self.now in
    let s = contents was in
    let d = c.args.draft in
    let r = c.args.right in
    let x = c.in-Some.field-0 in
    let found : draft_of d s ≡ Some x = sym c.in-Some.ensures in
    let marks = of_right d r s.grants in
    let count : c.count_named.result ≡ named_accounts marks
    = c.count_named.ensures ∙ ap named_accounts (c.marks.ensures.is ∙ c.gather-gathered.ensures.marks) in
    λ (R : Ranking). omega (arith, sheet_short marks (sound_throughout was d r x found).between R x, count, ap (λ o. length (sheet_of R s.grants d r o)) found)
