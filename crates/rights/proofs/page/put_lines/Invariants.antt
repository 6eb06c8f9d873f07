use Rattle.std.proofs.Common.{◌≡◌, ◌*◌, ◌≤◌, length}
use Rattle.settlement.specs.Picked.{picked}
use Rattle.model.specs.Sheets.{by_picks, entry, joined_below}
use Rattle.rights.proofs.page.put_lines.Given as goal

abbrev pub invariant-loop-account : goal.invariant-loop-account
invariant-loop-account l = record {
  lines : l.page ≡ joined_below l.account (λ a. entry a (by_picks l.owner l.marks (picked l.picks) a));
  room : length l.page ≤ 20 * l.account;
}
