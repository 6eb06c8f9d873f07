-- The law over histories holds. Assumes nothing.
use Rattle.std.proofs.Common.{◌≡◌, ℕ, ◌<◌, false, not, List, is_some, Some, None, Option, refl, ap, ◌∙◌, arith}
use Rattle.std.proofs.lemmas.Bool.{leb-false, true≢false}
use Rattle.charts.specs.declared.views.Mark.{Mark}
use Rattle.rulings.specs.Ranking.{Ranking, Lawful}
use Rattle.settlement.specs.Picking.{settled}
use Rattle.settlement.proofs.Unique.{settled_settled, one_settled}
use Rattle.model.specs.declared.records.DraftRecord.{DraftRecord}
use Rattle.model.specs.Calls.{Reply}
use Rattle.model.specs.Calls.Call.{requesting}
use Rattle.model.specs.Calls.Reply.{refused}
use Rattle.model.specs.Consistent.{Sound}
use Rattle.model.specs.Delegation.{lines_of, signs_of}
use Rattle.model.specs.Grants.{of_right}
use Rattle.model.specs.History.{outcome}
use Rattle.model.specs.Law.{SoundThroughout, OnlyList, OneSettledList, AnswersByTheList, Law}
use Rattle.model.specs.Meaning.{reply, told, asked}
use Rattle.model.specs.Refusals.{draft_policy_unknown, refusal, refusal_table}
use Rattle.model.specs.State.{State, empty, draft_of}
use Rattle.model.proofs.Invariant.{orderly_empty, orderly_after, sound_empty, sound_after}
use Rattle.model.proofs.Locality.{changes_locally}
use Rattle.model.proofs.Obeyed.{none_holds}
use Rattle.model.proofs.Separation.{separate}
use Rattle.model.proofs.Serials.{serials_counted, empty_counts}

-- the computed list is a settled one, and the only one
only_list : (owner : ℕ) (marks : List Mark) (R : Ranking) (p : ℕ) → Sound owner marks → Lawful R → p < R.known → OnlyList owner marks R p (settled (lines_of marks) (signs_of marks) owner R p)
only_list owner marks R p here lawful known =
    let list = settled_settled (lines_of marks) (signs_of marks) owner R p here.no_circle lawful known in
    (list, λ other is. one_settled (lines_of marks) (signs_of marks) owner R p here.no_circle lawful known here.one_each other _ is list)

module _ (s : State) (sound : SoundThroughout s) where
  pub one_settled_list : OneSettledList s
  one_settled_list R lawful p known d r x found =
      let marks = of_right d r s.grants in
      (settled (lines_of marks) (signs_of marks) x.owner R p, only_list x.owner marks R p (sound d r x found) lawful known)

  -- what an obeyed request tells
  module _ (R : Ranking) (lawful : Lawful R) (d r a : ℕ) where
    obeyed_by : (o : Option DraftRecord) → draft_of d s ≡ o → not (is_some o) ≡ false → draft_policy_unknown R o ≡ false → AnswersByTheList s R d r a (told R s (requesting d r a))
    obeyed_by None found opened passed said is = absurd (true≢false opened)
    obeyed_by (Some x) found opened passed said is =
        let marks = of_right d r s.grants in
        let known = leb-false R.known x.policy passed in
        let as_asked : said ≡ asked R s.grants d r a (draft_of d s) = cc in (
          x,
          found,
          known,
          (settled (lines_of marks) (signs_of marks) x.owner R x.policy, only_list x.owner marks R x.policy (sound d r x found) lawful known, as_asked ∙ ap (asked R s.grants d r a) found),
        )

    refused_or : (o : Option ℕ) → refusal R s (requesting d r a) ≡ o → AnswersByTheList s R d r a (elim o as (λ _. Reply) [ Some n ↦ refused n | None ↦ told R s (requesting d r a) ])
    refused_or (Some n) case said is = let z : ◌≡◌ {A = ℕ} 0 1 = cc in absurd (omega arith)
    refused_or None case said is =
        let rows = none_holds (refusal_table R s (requesting d r a)) case in
        obeyed_by (draft_of d s) refl rows.1.1.1.1.1.0 rows.1.1.1.0 said is

    pub answers_by_the_list : AnswersByTheList s R d r a (reply R s (requesting d r a))
    answers_by_the_list = refused_or (refusal R s (requesting d r a)) refl

pub law : Law
law places cells h =
    let s = outcome (empty places cells) h in
    let sound = sound_after (empty places cells) h (orderly_empty places cells) (sound_empty places cells) in
    record {
      orderly = orderly_after (empty places cells) h (orderly_empty places cells);
      sound = sound;
      «local» = changes_locally s sound;
      separate = λ d. separate places cells d h;
      one_list = one_settled_list s sound;
      by_the_list = answers_by_the_list s sound;
      counted = λ d. serials_counted d (empty places cells) h 0 (empty_counts d);
    }
