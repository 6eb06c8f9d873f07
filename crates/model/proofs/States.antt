-- States by their parts. Assumes nothing.
use Rattle.std.proofs.Common.{◌≡◌, ℕ, List}
use Rattle.model.specs.declared.records.DraftRecord.{DraftRecord}
use Rattle.model.specs.declared.records.GrantRecord.{GrantRecord}
use Rattle.model.specs.State.{State}

pub same_state : {m n : ℕ} {k l : ℕ} {ds es : List DraftRecord} {gs hs : List GrantRecord} → m ≡ n → k ≡ l → ds ≡ es → gs ≡ hs → ◌≡◌ {A = State} (record { places = m; cells = k; drafts = ds; grants = gs }) (record { places = n; cells = l; drafts = es; grants = hs })
same_state places cells drafts grants = cc
