-- A grant that no row refuses. Assumes nothing.
use Rattle.std.proofs.Common.{◌≡◌, ℕ, ◌+◌, ◌<◌, cond, List, [], ◌∷◌, ◌++◌, length, Some, None, Ok, Err, count_by, sym, ap, ◌∙◌, arith}
use Rattle.std.proofs.lemmas.Bool.{leb-false, lt-ltb}
use Rattle.table.specs.declared.TableFault.{TableFault}
use Rattle.table.specs.declared.TableFault.TheVariants.{Full}
use Rattle.table.specs.Used.{used, room, roomy, replaced}
use Rattle.terms.specs.declared.Kind.{Kind}
use Rattle.rulings.specs.House.{house}
use Rattle.rulings.specs.Ranking.{Ranking}
use Rattle.model.specs.declared.records.DraftRecord.{DraftRecord}
use Rattle.model.specs.declared.records.GrantKey.{GrantKey}
use Rattle.model.specs.declared.records.GrantRecord.{GrantRecord}
use Rattle.model.specs.Calls.Call.{granting}
use Rattle.model.specs.Calls.Reply.{granted}
use Rattle.model.specs.Grants.{is_on_draft}
use Rattle.model.specs.Keys.{by_draft}
use Rattle.model.specs.Meaning.{kind_of, next_serial, with_serial, reply, next}
use Rattle.model.specs.Refusals.{refusal, refusal_table, full, spent}
use Rattle.model.specs.State.{state, draft_of}
use Rattle.model.proofs.Obeyed.{none_holds, obeyed_reply, obeyed_next}
use Rattle.model.proofs.States.{same_state}
use Rattle.rights.specs.declared.register.Register.{Register}
use Rattle.rights.specs.Contents.{contents}
use Rattle.rights.proofs.Registers.{room_for_one}

abbrev pub grant_put : ℕ → ℕ → ℕ → ℕ → Kind → ℕ → GrantRecord
grant_put d r c a kind serial = record { draft = d; right = r; grantor = c; account = a; kind = kind; serial = serial }

module _ (was : Register) (d r c a k : ℕ) (x : DraftRecord) (found : draft_of d (contents was) ≡ Some x)
    (none : (R : Ranking) → None ≡ refusal R (contents was) (granting d r c a k)) where
  -- fewer grants stand than the draft reserved, and there is a serial left
  fewer : count_by (is_on_draft d) (used was.grants) < x.cells
  fewer =
      let rows = none_holds (refusal_table house (contents was) (granting d r c a k)) (sym (none house)) in
      leb-false x.cells (count_by (is_on_draft d) (used was.grants))
      (ap (full (count_by (is_on_draft d) (used was.grants))) (sym found) ∙ rows.1.1.1.1.1.1.1.1.1.1.1.1.1.0)

  pub serial_left : x.last < 65535
  serial_left =
      let rows = none_holds (refusal_table house (contents was) (granting d r c a k)) (sym (none house)) in
      leb-false 65535 x.last (ap spent (sym found) ∙ rows.1.1.1.1.1.1.1.1.1.1.1.1.1.1.0)

  -- so the table of grants does not refuse it
  pub never_full : {f : TableFault GrantKey} → Err f ≡ cond (roomy was.grants) (Ok (tt {0})) (Err Full) → ⊥
  never_full refused =
      let fits = lt-ltb (length (used was.grants)) (room was.grants) (room_for_one was d x found fewer) in
      err_not_ok (refused ∙ ap (λ b. cond b (Ok (tt {0})) (Err Full)) fits)
    where
      err_not_ok : {f : TableFault GrantKey} → Err f ≡ Ok (tt {0}) → ⊥
      err_not_ok e = let z : ◌≡◌ {A = ℕ} 0 1 = cc in omega arith

  pub grant_told : (R : Ranking) → granted (x.last + 1) ≡ reply R (contents was) (granting d r c a k)
  grant_told R = ap (λ o. granted (next_serial o)) (sym found) ∙ obeyed_reply R (contents was) (granting d r c a k) (sym (none R))

  -- what is left once the draft's record and the new grant are put
  module _ (kind : Kind) (is_kind : kind ≡ kind_of k) where
    abbrev record_put : DraftRecord
    record_put = record { draft = x.draft; owner = x.owner; policy = x.policy; cells = x.cells; last = x.last + 1 }

    pub grant_left : (places cells : ℕ) (drafts : List DraftRecord) (grants : List GrantRecord) →
        places ≡ room was.drafts → cells ≡ room was.grants →
        drafts ≡ replaced (by_draft d) record_put (used was.drafts) → grants ≡ used was.grants ++ grant_put d r c a kind (x.last + 1) ∷ [] →
        (R : Ranking) → state places cells drafts grants ≡ next R (contents was) (granting d r c a k)
    grant_left places cells drafts grants as_many_places as_many_cells drafts_are grants_are R =
        same_state as_many_places as_many_cells
        (drafts_are ∙ ap (λ o. with_serial d o (used was.drafts)) (sym found))
        (grants_are ∙ ap (λ q. used was.grants ++ grant_put d r c a q (x.last + 1) ∷ []) is_kind ∙ ap (λ o. used was.grants ++ grant_put d r c a (kind_of k) (next_serial o) ∷ []) (sym found))
        ∙ obeyed_next R (contents was) (granting d r c a k) (sym (none R))
