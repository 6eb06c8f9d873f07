-- A line of the search from one account. Assumes nothing.
use Rattle.std.proofs.Common.{◌≡◌, ℕ, ◌<◌, Bool, true, false, not, ◌&&◌, ◌||◌, eqb, ltb, ◌⊎◌, Some, Option, sym, refl, ap, ◌∙◌, inl, inr, ⊎_elim, arith}
use Rattle.std.proofs.Math.Bool.{or-false}
use Rattle.std.proofs.lemmas.Bool.{or_cases, or_left, or_right, and_parts, and_from, and_cases, and_right, eqb-true, eq-eqb, ne_eqb, ltb-true, lt-ltb, not-true, not-false, cases_eq}
use Rattle.charts.specs.declared.accounts.Accounts.{Accounts}
use Rattle.charts.specs.declared.chart.Line.{Line}
use Rattle.charts.specs.Members.{member}
use Rattle.charts.specs.Passes.{Known, Followed, reached_from, Is}

pub member_account : (s : Accounts) (a : ℕ) → member s a ≡ true → a < 512
member_account s a m = ltb-true a 512 (and_parts (ltb a 512) _ m).0

-- the account that a line leads to is put in, where it comes from the start or from an account in the set
module _ (o : Option Line) (line : Line) (start : ℕ) (is_line : o ≡ Some line) (account : start < 512) (before after : Accounts) (grew : Bool) (known : (line.from ≡ start) ⊎ (member before line.from ≡ true)) (told : grew ≡ (ltb line.to 512 && not (member before line.to))) (put : (b : ℕ) → member after b ≡ (member before b || (eqb b line.to && ltb b 512))) where
  from_account : line.from < 512
  from_account = ⊎_elim (λ (begins : line.from ≡ start). omega arith) (λ m. member_account before line.from m) known

  known_from : (a : ℕ) → a ≡ start → Known (reached_from start) (Is start) before a line.from
  known_from a is =
      ⊎_elim (λ (begins : line.from ≡ start). inl (is ∙ sym begins, is))
      (λ m. inr (and_from (eqb a start) (member before line.from) (eq-eqb a start is) m)) known

  member_found : (b : ℕ) → member after b ≡ true → (member before b ≡ true) ⊎ ((b ≡ line.to) × (b < 512))
  member_found b m =
      ⊎_elim inl
      (λ new. let parts = and_parts (eqb b line.to) (ltb b 512) new in inr (eqb-true b line.to parts.0, ltb-true b 512 parts.1))
      (or_cases (member before b) (eqb b line.to && ltb b 512) (sym (put b) ∙ m))

  member_put : line.to < 512 → member after line.to ≡ true
  member_put within = put line.to ∙ or_right (member before line.to) _ (and_from _ _ (eq-eqb line.to line.to refl) (lt-ltb line.to 512 within))

  member_same : grew ≡ false → (b : ℕ) → member after b ≡ member before b
  member_same g b =
      ⊎_elim
      (λ (here : b ≡ line.to).
      ⊎_elim
      (λ (past : ltb line.to 512 ≡ false). put b ∙ ap (λ t. member before b || (eqb b line.to && t)) (ap (λ n. ltb n 512) here ∙ past) ∙ ap (λ t. member before b || t) (and_right (eqb b line.to) false refl) ∙ or-false (member before b))
      (λ there. let m : member before b ≡ true = ap (member before) here ∙ not-false (member before line.to) there in put b ∙ or_left (member before b) _ m ∙ sym m)
      (and_cases (ltb line.to 512) (not (member before line.to)) (sym told ∙ g)))
      (λ (other : b ≡ line.to → ⊥). put b ∙ ap (λ t. member before b || (t && ltb b 512)) (ne_eqb b line.to other) ∙ or-false (member before b))
      (cases_eq b line.to)

  pub reached_more : Followed (reached_from start) (Is start) o before after grew
  reached_more = record {
    keeps = λ a b m. let parts = and_parts (eqb a start) (member before b) m in and_from (eqb a start) (member after b) parts.0 (put b ∙ or_left (member before b) _ parts.1);
    sound = λ a b m.
        let parts = and_parts (eqb a start) (member after b) m in
        let is = eqb-true a start parts.0 in
        ⊎_elim (λ old. inl (and_from (eqb a start) (member before b) parts.0 old))
        (λ new. inr (line.from, is_line ∙ ap (λ t. Some (record { from = line.from; to = t })) (sym new.0), from_account, new.1, known_from a is))
        (member_found b parts.1);
    complete = λ a b c is _ within start_of_lem.
        let here : line.to ≡ b = cc in
        let is_start : a ≡ start = ⊎_elim (λ (begins : (a ≡ c) × (a ≡ start)). begins.1) (λ m. eqb-true a start (and_parts (eqb a start) (member before c) m).0) start_of_lem in
        and_from (eqb a start) (member after b) (eq-eqb a start is_start) (ap (member after) (sym here) ∙ member_put (omega arith));
    new = λ g.
        let parts = and_parts (ltb line.to 512) (not (member before line.to)) (sym told ∙ g) in
        (start, line.to, and_right (eqb start start) (member before line.to) (not-true (member before line.to) parts.1), and_from (eqb start start) (member after line.to) (eq-eqb start start refl) (member_put (ltb-true line.to 512 parts.0)));
    same = λ g a b. ap (λ t. eqb a start && t) (member_same g b);
  }
