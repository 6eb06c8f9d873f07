-- Requests and sheets that no row refuses. Assumes nothing.
use Rattle.std.proofs.Common.{◌≡◌, ℕ, false, cond, ltb, Some, None, sym, ap, ◌∙◌}
use Rattle.rulings.specs.Ranking.{Ranking}
use Rattle.model.specs.declared.records.DraftRecord.{DraftRecord}
use Rattle.model.specs.Calls.Call.{requesting}
use Rattle.model.specs.Calls.Reply.{decided}
use Rattle.model.specs.Grants.{of_right}
use Rattle.model.specs.Meaning.{asked, reply}
use Rattle.model.specs.Refusals.{topmost}
use Rattle.model.specs.Sheets.{Answer, answer}
use Rattle.model.specs.State.{State, draft_of}
use Rattle.model.proofs.Obeyed.{obeyed_reply}
use Rattle.rights.specs.Asking.{rows_of_asking}

module _ (R : Ranking) (s : State) (d r : ℕ) (none : None ≡ topmost (rows_of_asking R s d r)) (x : DraftRecord) (found : draft_of d s ≡ Some x) where
  pub requesting_told : (a : ℕ) → ltb 511 a ≡ false → (told : Answer) → told ≡ answer R x (of_right d r s.grants) a → decided told ≡ reply R s (requesting d r a)
  requesting_told a in_range told is =
      ap decided (is ∙ ap (asked R s.grants d r a) (sym found))
      ∙ obeyed_reply R s (requesting d r a) (ap (λ b. cond b (Some 1) (topmost (rows_of_asking R s d r))) in_range ∙ sym none)
