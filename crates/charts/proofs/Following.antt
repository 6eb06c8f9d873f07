-- Lines of a search followed, one after another. Assumes nothing.
use Rattle.std.proofs.Common.{◌≡◌, ℕ, ◌+◌, ◌<◌, Bool, true, false, ◌||◌, List, [], ◌∷◌, ◌++◌, length, length-append, get_or, None, Option, sym, refl, ap, ◌∙◌, subst, inl, inr, ⊎_elim, arith}
use Rattle.std.proofs.lemmas.Bool.{or_cases, or_parts, cases_eq, cases_lt, cases_Bool, true≢false}
use Rattle.charts.specs.declared.chart.Line.{Line}
use Rattle.charts.specs.Chains.{Leads, Chain}
use Rattle.charts.specs.Chains.Chain.{one, on}
use Rattle.charts.specs.Passes.{Known, Followed, Passed}

pub snoc : {lines : List (Option Line)} {x a b : ℕ} (at : ℕ) → Chain lines x a → Leads lines at a b → Chain lines x b
snoc at (one i first) last = on i first (one at last)
snoc at (on i first rest) last = on i first (snoc at rest last)

module _ {S : Type 0} (reaches : S → ℕ → ℕ → Bool) (Starts : ℕ → Type 0) where
  pub followed_none : (s : S) → Followed reaches Starts None s s false
  followed_none s = record {
    keeps = λ a b m. m;
    sound = λ a b m. inl m;
    complete = λ a b c is _ _ _. let z : ◌≡◌ {A = ℕ} 0 1 = cc in absurd (omega arith);
    new = λ e. absurd (true≢false (sym e));
    same = λ _ a b. refl;
  }

  pub passed_none : (lines : List (Option Line)) (s : S) → Passed reaches Starts lines 0 s s false
  passed_none lines s = record {
    keeps = λ a b m. m;
    sound = λ h. h;
    new = λ e. absurd (true≢false (sym e));
    same = λ _ a b. refl;
    closed = λ _ at a b c within. absurd (omega arith);
  }

  -- a pass by one line more
  module _ (lines : List (Option Line)) (i : ℕ) (before mid after : S) (grew new : Bool) (p : Passed reaches Starts lines i before mid grew) (f : Followed reaches Starts (get_or lines i None) mid after new) where
    more_sound : ((a b : ℕ) → reaches before a b ≡ true → Chain lines a b) → (a b : ℕ) → reaches after a b ≡ true → Chain lines a b
    more_sound h a b m =
        ⊎_elim (p.sound h a b)
        (λ step.
        let c = step.0 in
        let leads : Leads lines i c b = record { line = step.1; from_account = step.2; to_account = step.3 } in
        ⊎_elim
        (λ (begins : (a ≡ c) × Starts a). let P : ℕ → Type 0 = λ x. Chain lines x b in subst P (sym begins.0) (one i leads))
        (λ (reached : reaches mid a c ≡ true). snoc i (p.sound h a c reached) leads)
        step.4)
        (f.sound a b m)

    more_new : (grew || new) ≡ true → (a : ℕ) × (b : ℕ) × (reaches before a b ≡ false) × (reaches after a b ≡ true)
    more_new g =
        ⊎_elim (λ old. let x = p.new old in (x.0, x.1, x.2, f.keeps x.0 x.1 x.3))
        (λ now.
        let x = f.new now in
        (x.0, x.1, ⊎_elim (λ there. absurd (true≢false (sym (p.keeps x.0 x.1 there) ∙ x.2))) (λ gone. gone) (cases_Bool (reaches before x.0 x.1)), x.3))
        (or_cases grew new g)

    more_closed : (grew || new) ≡ false → (at a b c : ℕ) → at < i + 1 → Leads lines at c b → Known reaches Starts after a c → reaches after a b ≡ true
    more_closed g at a b c within leads known =
        let parts = or_parts grew new g in
        let known_mid : Known reaches Starts mid a c = ⊎_elim inl (λ m. inr (sym (f.same parts.1 a c) ∙ m)) known in
        ⊎_elim
        (λ (here : at ≡ i). f.complete a b c (ap (λ k. get_or lines k None) (sym here) ∙ leads.line) leads.from_account leads.to_account known_mid)
        (λ (other : at ≡ i → ⊥). let earlier : at < i = ⊎_elim (λ l. l) (λ past. absurd (other (omega arith))) (cases_lt at i) in f.keeps a b (p.closed parts.0 at a b c earlier leads known_mid))
        (cases_eq at i)

    one_more : Passed reaches Starts lines (i + 1) before after (grew || new)
    one_more = record {
      keeps = λ a b m. f.keeps a b (p.keeps a b m);
      sound = more_sound;
      new = more_new;
      same = λ g a b. let parts = or_parts grew new g in f.same parts.1 a b ∙ p.same parts.0 a b;
      closed = more_closed;
    }

  pub passed_more : (lines given : List (Option Line)) (line : Option Line) (before mid after : S) (grew new : Bool) → get_or lines (length given) None ≡ line
      → Passed reaches Starts lines (length given) before mid grew → Followed reaches Starts line mid after new → Passed reaches Starts lines (length (given ++ line ∷ [])) before after (grew || new)
  passed_more lines given line before mid after grew new is passed followed =
      rw (length-append given (line ∷ [])) (one_more lines (length given) before mid after grew new passed (subst (λ l. Followed reaches Starts l mid after new) (sym is) followed))
