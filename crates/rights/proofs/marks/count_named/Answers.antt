use Rattle.std.proofs.Common.{◌≡◌, ℕ, ◌+◌, ◌<◌, Bool, cond, take, not, ◌&&◌, ◌||◌, eqb, ltb, get_or, sym, ap, ◌∙◌, arith}
use Rattle.std.specs.List.{list_any}
use Rattle.std.proofs.lemmas.List.{take_all}
use Rattle.std.proofs.lemmas.List.Folds.{list_any_more}
use Rattle.std.proofs.lemmas.Bool.Decides.{nat_tests}
use Rattle.terms.specs.declared.Kind.TheVariants.{Denying}
use Rattle.charts.specs.declared.views.Mark.{Mark}
use Rattle.charts.specs.Members.{member}
use Rattle.rights.specs.Gathering.{names}
use Rattle.rights.specs.Lengths.{count_below}
use Rattle.rights.proofs.Counts.{count_none, count_same, count_put}
use Rattle.rights.proofs.Firsts.{found_any}
use Rattle.rights.proofs.marks.count_named.Goals as goal
use Rattle.rights.proofs.marks.count_named.Goals.{then-insert, else-insert}

abbrev blank : Mark
blank = record { from = 0; to = 0; kind = Denying; serial = 0 }

in_range : (a b : ℕ) (t : Bool) → a < 512 → (t || (eqb a b && ltb a 512)) ≡ (t || eqb a b)
in_range a b t within = grind (arith, nat_tests)

turned : (a b : ℕ) → eqb a b ≡ eqb b a
turned a b = grind (arith, nat_tests)

pub loop-mark-init : goal.loop-mark-init
loop-mark-init c = (λ a within. c.none-named.ensures a, count_none 512 (member c.none-named.result) c.none-named.ensures)

pub loop-mark-preserved : goal.loop-mark-preserved
loop-mark-preserved c =
    let marks = c.args.marks.now in
    let i = c.loop-mark.mark-index in
    let to = (get_or marks i blank).to in
    let was = c.loop-mark.named in
    let now = member c.insert.new.self in
    let after : (a : ℕ) → a < 512 → now a ≡ (member was a || eqb a to) = λ a within. c.insert.ensures.after a ∙ in_range a to (member was a) within in
    let counted : c.if-insert.count ≡ count_below 512 (member was) + cond {A = ℕ} (ltb to 512 && not (member was to)) 1 0
    = elim c.if-insert.branch [
      | then-insert w ↦ omega (arith, w.count-is, c.loop-mark.invariant.1, ap (λ t. cond {A = ℕ} t 1 0) (sym w.if-insert.true ∙ c.insert.ensures.value))
      | else-insert w ↦ omega (arith, w.count-is, c.loop-mark.invariant.1, ap (λ t. cond {A = ℕ} t 1 0) (sym w.if-insert.false ∙ c.insert.ensures.value))
    ] in (
      λ a within.
          after a within
          ∙ ap (λ t. t || eqb a to) (c.loop-mark.invariant.0 a within)
          ∙ ap (λ t. list_any (names a) (take i marks) || t) (turned a to)
          ∙ sym (list_any_more (names a) marks i blank c.loop-mark-test.true),
      counted ∙ sym (count_put 512 to (member was) now after),
    )

pub returns : goal.returns
returns c =
    let marks = c.args.marks.now in
    c.loop-mark.invariant.1
    ∙ count_same 512 (member c.loop-mark.named) _
    (λ a within.
    c.loop-mark.invariant.0 a within
    ∙ ap (list_any (names a)) (take_all c.loop-mark.mark-index marks c.loop-mark-test.false)
    ∙ sym (found_any (names a) marks))
