use Rattle.std.proofs.Common.{ap, ◌∙◌, rules, tests, eqb, map, filter, arith}
use Rattle.std.proofs.lemmas.Iterator.{YieldsList-from_slice}
use Rattle.std.proofs.lemmas.Iterator.Consumers.{YieldsList-at, YieldsList-from_filter, YieldsList-turn, YieldsList-end}
use Rattle.std.proofs.lemmas.List.Sums.{length-filter}
use Rattle.model.specs.Grants.{is_on_draft, mark_of}
use Rattle.table.specs.Used.{used}
use Rattle.model.proofs.Kept.{kept_twice}
use Rattle.rights.proofs.Registers.{few_grants}
use Rattle.rights.proofs.register.Register.gather.Goals as goal

-- one more of the grants on the draft is still to come, and there are at most 1,024
pub push-requires : goal.push-requires
push-requires c =
    let d = c.args.draft in
    let grants = used c.args.self.now.grants in
    let turn = YieldsList-turn
    (YieldsList-at c.into_iter-grant-iterator.ensures.into_iter_gives
    (YieldsList-from_filter _ (is_on_draft d) (YieldsList-from_slice grants cc) c.filter-grant-items.ensures.closure (λ x b q k. search (rules, tests))))
    c.loop-grant.yielded _ c.loop-grant.yielded_by _ _ _ c.in-Some.is c.next.ensures.steps in
    let (_, _, _, count, fewer, _) = c.loop-grant.invariant in
    (omega arith, omega (arith, count, fewer, turn.0, length-filter (is_on_draft d) grants, few_grants c.args.self.now d))

-- the loop has seen just the grants on the draft
pub returns : goal.returns
returns c =
    let d = c.args.draft in
    let r = c.args.right in
    let grants = used c.args.self.now.grants in
    let seen = YieldsList-end
    (YieldsList-at c.into_iter-grant-iterator.ensures.into_iter_gives
    (YieldsList-from_filter _ (is_on_draft d) (YieldsList-from_slice grants cc) c.filter-grant-items.ensures.closure (λ x b q k. search (rules, tests))))
    c.loop-grant.yielded _ c.loop-grant.yielded_by _ _ c.in-None.is c.next.ensures.steps in
    let (_, _, marks, count, _, _) = c.loop-grant.invariant in
    record {
      marks = marks ∙ ap (λ gs. map mark_of (filter (λ g. eqb g.right r) gs)) seen.0 ∙ ap (map mark_of) (kept_twice (λ g. eqb g.right r) (is_on_draft d) grants);
      count = count ∙ seen.1 ∙ length-filter (is_on_draft d) grants;
    }
