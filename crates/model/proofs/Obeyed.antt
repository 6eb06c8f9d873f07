-- A call that passes every row of the refusal table is obeyed. Assumes nothing.
use Rattle.std.proofs.Common.{◌≡◌, ℕ, ◌+◌, ◌≤◌, Bool, true, false, cond, ltb, leb, List, [], ◌∷◌, Some, None, Ok, Err, Option, sym, refl, ap, arith}
use Rattle.std.proofs.lemmas.Bool.{eq-eqb, ltb-false}
use Rattle.rulings.specs.Ranking.{Ranking}
use Rattle.model.specs.declared.records.DraftRecord.{DraftRecord}
use Rattle.model.specs.State.{State, draft_of, reserved}
use Rattle.model.specs.Calls.{Call, Reply}
use Rattle.model.specs.Calls.Call.{opening, closing, policing, listing}
use Rattle.model.specs.Calls.Reply.{refused}
use Rattle.model.specs.Refusals.{refusal, refusal_table, topmost}
use Rattle.model.specs.Meaning.{told, left, reply, next}
use Rattle.model.proofs.Marked.{none_there}

-- a test that let the call pass did not hold
pub passed : {T F : Type 0} (b : Bool) (f : F) (x : T) → Ok x ≡ cond b (Err f) (Ok x) → b ≡ false
passed true f x e = let z : ◌≡◌ {A = ℕ} 0 1 = cc in absurd (omega arith)
passed false f x e = refl

-- the case of no row holds
abbrev pub NoneHolds : List (ℕ × Bool) → Type 0
NoneHolds [] = Unit {0}
NoneHolds (row ∷ rows) = (row.1 ≡ false) × NoneHolds rows

pub none_holds : (rows : List (ℕ × Bool)) → topmost rows ≡ None → NoneHolds rows
none_holds [] none = tt
none_holds (row ∷ rows) none =
    elim row.1 as (λ b. cond b (Some row.0) (topmost rows) ≡ None → (b ≡ false) × NoneHolds rows) [
      | true ↦ λ e. let z : ◌≡◌ {A = ℕ} 0 1 = cc in absurd (omega arith)
      | false ↦ λ e. (refl, none_holds rows e)
    ] none

module _ (R : Ranking) (s : State) where
  module _ (c : Call) (none : refusal R s c ≡ None) where
    pub obeyed_reply : told R s c ≡ reply R s c
    obeyed_reply = ap (λ (o : Option ℕ). elim o as (λ _. Reply) [ Some n ↦ refused n | None ↦ told R s c ]) (sym none)

    pub obeyed_next : left s c ≡ next R s c
    obeyed_next = ap (λ (o : Option ℕ). elim o as (λ _. State) [ Some n ↦ s | None ↦ left s c ]) (sym none)

  -- a call that is refused replies by the number of the row, and leaves all as it was
  module _ (c : Call) (n : ℕ) (some : Some n ≡ refusal R s c) where
    pub refused_reply : refused n ≡ reply R s c
    refused_reply = ap (λ (o : Option ℕ). elim o as (λ _. Reply) [ Some n ↦ refused n | None ↦ told R s c ]) some

    pub refused_next : s ≡ next R s c
    refused_next = ap (λ (o : Option ℕ). elim o as (λ _. State) [ Some n ↦ s | None ↦ left s c ]) some

  module _ (d a : ℕ) (x : DraftRecord) (in_range : ltb 511 a ≡ false) (found : draft_of d s ≡ Some x) (owns : x.owner ≡ a) where
    pub closing_obeyed : refusal R s (closing d a) ≡ None
    closing_obeyed = rw (in_range, found, eq-eqb x.owner a owns) refl

    pub policing_obeyed : (p : ℕ) → leb R.known p ≡ false → refusal R s (policing d a p) ≡ None
    policing_obeyed p known = rw (in_range, known, found, eq-eqb x.owner a owns) refl

  -- a draft that is opened fits into what is left of the cells
  pub opening_fits : (d o p c : ℕ) → refusal R s (opening d o p c) ≡ None → reserved s.drafts + c ≤ s.cells
  opening_fits d o p c none =
      let rows = none_holds (refusal_table R s (opening d o p c)) none in
      ltb-false s.cells (reserved s.drafts + c) rows.1.1.1.1.1.1.1.1.0

  -- a draft that is opened was not open
  pub opening_new : (d o p c : ℕ) → refusal R s (opening d o p c) ≡ None → draft_of d s ≡ None
  opening_new d o p c none =
      let rows = none_holds (refusal_table R s (opening d o p c)) none in
      none_there (draft_of d s) rows.1.1.1.1.1.1.0

-- a sheet leaves all as it was, written or refused
pub listing_next : (R : Ranking) (s : State) (d r : ℕ) (b : List ℕ) → s ≡ next R s (listing d r b)
listing_next R s d r b =
    elim (refusal R s (listing d r b)) as (λ o. s ≡ elim o as (λ _. State) [ Some n ↦ s | None ↦ s ]) [ Some n ↦ refl | None ↦ refl ]
