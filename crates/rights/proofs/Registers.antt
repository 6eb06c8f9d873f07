-- What holds of every register, since it holds after every history. Assumes nothing.
use Rattle.std.proofs.Common.{◌≡◌, ℕ, ◌<◌, ◌≤◌, length, Some, count_by, sym, subst, arith}
use Rattle.std.proofs.Math.Logic.{∥∥₁_elim, ∥∥₁_map}
use Rattle.std.proofs.Math.Bridge.{le_prop}
use Rattle.table.specs.declared.Table.{Table}
use Rattle.table.specs.Used.{used, room}
use Rattle.rulings.specs.Ranking.{Ranking, Lawful}
use Rattle.model.specs.declared.records.DraftRecord.{DraftRecord}
use Rattle.model.specs.declared.records.GrantRecord.{GrantRecord}
use Rattle.model.specs.Calls.{Call}
use Rattle.model.specs.Grants.{is_on_draft, of_right}
use Rattle.model.specs.History.{Reached}
use Rattle.model.specs.Law.{SoundThroughout}
use Rattle.model.specs.Meaning.{next}
use Rattle.model.specs.State.{State, state, draft_of, reserved, Once}
use Rattle.rights.specs.declared.register.Register.{Register}
use Rattle.rights.specs.Contents.{contents}
use Rattle.model.proofs.Invariant.{reached_next, reached_orderly, reached_sound, room_left}
use Rattle.model.proofs.Reservations.{few_on_draft}
use Rattle.model.proofs.Sounds.{sound_known}

-- a history leads to what these tables hold, so that their books are in order
abbrev pub Left : Table DraftRecord → Table GrantRecord → Type 0
Left drafts grants = ∥ Reached (state (room drafts) (room grants) (used drafts) (used grants)) ∥₁

module _ (drafts : Table DraftRecord) (grants : Table GrantRecord) (left : Left drafts grants) where
  left_fits : reserved (used drafts) ≤ room grants
  left_fits = ∥∥₁_elim left le_prop (λ by. (reached_orderly (state (room drafts) (room grants) (used drafts) (used grants)) by).fits)

  left_once : Once (used drafts)
  left_once d = ∥∥₁_elim left le_prop (λ by. (reached_orderly (state (room drafts) (room grants) (used drafts) (used grants)) by).once d)

-- what the fields of a register say
abbrev pub InOrder : Table DraftRecord → Table GrantRecord → Type 0
InOrder drafts grants = record {
  places_few : room drafts ≤ 256;
  cells_few : room grants ≤ 4096;
  reservations_fit : reserved (used drafts) ≤ room grants;
  drafts_once : Once (used drafts);
  reached : Left drafts grants;
}

module _ (was : Register) where
  -- what a call leaves is reached too
  pub still_reached : (R : Ranking) → Lawful R → (c : Call) (t : State) → t ≡ next R (contents was) c → ∥ Reached t ∥₁
  still_reached R lawful c t is =
      subst (λ x. ∥ Reached x ∥₁) (sym is) (∥∥₁_map was.reached (reached_next R lawful (contents was) c))

  pub room_for_one : (d : ℕ) (x : DraftRecord) → draft_of d (contents was) ≡ Some x → count_by (is_on_draft d) (used was.grants) < x.cells → length (used was.grants) < room was.grants
  room_for_one d x found fewer =
      ∥∥₁_elim was.reached le_prop (λ reached. room_left (contents was) d x (reached_orderly (contents was) reached) found fewer)

  pub few_grants : (d : ℕ) → count_by (is_on_draft d) (used was.grants) ≤ 1024
  few_grants d = ∥∥₁_elim was.reached le_prop (λ reached. few_on_draft (contents was) reached d)

  pub sound_throughout : SoundThroughout (contents was)
  sound_throughout d r x found =
      sound_known x.owner (of_right d r (used was.grants)) (∥∥₁_map was.reached (λ reached. reached_sound (contents was) reached d r x found))

  -- and so a call that keeps how many places and cells there are leaves a register
  pub left_in_order : (drafts : Table DraftRecord) (grants : Table GrantRecord) → room drafts ≡ room was.drafts → room grants ≡ room was.grants → Left drafts grants → InOrder drafts grants
  left_in_order drafts grants places cells left = record {
    places_few = omega (arith, places, was.places_few);
    cells_few = omega (arith, cells, was.cells_few);
    reservations_fit = left_fits drafts grants left;
    drafts_once = left_once drafts grants left;
    reached = left;
  }
