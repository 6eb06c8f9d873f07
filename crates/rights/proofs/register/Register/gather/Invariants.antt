use Rattle.std.proofs.Common.{◌≡◌, ◌+◌, ◌≤◌, map, length, filter, eqb}
use Rattle.model.specs.Grants.{mark_of}
use Rattle.rights.proofs.register.Register.gather.Given as goal

abbrev pub invariant-loop-grant : goal.invariant-loop-grant
invariant-loop-grant l =
    (goal.iterator-loop-grant).can_next l.grant-iterator
    × (goal.iterator-loop-grant).is_finite l.grant-iterator
    × (l.marks.items ≡ map mark_of (filter (λ g. eqb g.right l.right) (map (λ g. g.now) l.yielded)))
    × (l.on_draft ≡ length l.yielded)
    × (length l.marks.items ≤ l.on_draft)
    × (l.on_draft + (goal.iterator-loop-grant).remaining l.grant-iterator ≤ 4096)
