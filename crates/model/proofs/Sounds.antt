-- Grants and withdrawals keep the grants of a right sound. Assumes nothing.
use Rattle.std.proofs.Common.{◌≡◌, ℕ, ◌<◌, Bool, true, false, not, eqb, ltb, ◌⊎◌, List, [], ◌∷◌, ◌++◌, length, get_or, is_some, Some, None, filter, sym, refl, ap, ◌∙◌, subst, inl, inr, ⊎_elim, arith}
use Rattle.std.proofs.Math.Bool.{Bool-set}
use Rattle.std.proofs.Math.Logic.{∥∥₁_elim}
use Rattle.std.proofs.Math.Nat.{ℕ_set}
use Rattle.std.proofs.lemmas.Bool.{or_cases, or_left, or_right, and_parts, and_from, eqb-true, eq-eqb, lt-ltb, both_ways, false≢true}
use Rattle.terms.specs.declared.Kind.{Kind}
use Rattle.terms.specs.declared.Kind.TheVariants.{Denying, Plain, Delegatable}
use Rattle.table.specs.Used.{first}
use Rattle.charts.specs.declared.chart.Line.{Line}
use Rattle.charts.specs.declared.views.Mark.{Mark}
use Rattle.charts.specs.Chains.{Leads, Chain, NoCircle}
use Rattle.charts.specs.Chains.Chain.{one, on}
use Rattle.charts.specs.Reaching.{above, between_accounts}
use Rattle.charts.specs.Views.{is_delegatable}
use Rattle.charts.proofs.Following.{snoc}
use Rattle.charts.proofs.Shortest.{above_decides, leads_from}
use Rattle.settlement.specs.Settled.{OneEach}
use Rattle.model.specs.Consistent.{Sound}
use Rattle.model.specs.Delegation.{At, lines_of, signs_of, passing_of, between, passes_to, entitled, rooted, unless}
use Rattle.model.proofs.Marked.{at_push_cases, origin, kept_from, origin_once, kept_at, first_at, first_none, line_at, at_line, leads_mark, sign_at, passing_leads, leads_passing, passing_moved, chain_within, chain_join, push_leads, chain_push, passing_push, lines_kept, rooted_part, some_there}

none_leads : (i u v : ℕ) → Leads [] i u v → ⊥
none_leads i u v leads = let is = leads.line in let z : ◌≡◌ {A = ℕ} 0 1 = cc in omega arith

none_chain : (a b : ℕ) → Chain [] a b → ⊥
none_chain a b (one i leads) = none_leads i a b leads
none_chain a b (on {c = c} i leads rest) = none_leads i a c leads

pub sound_none : (owner : ℕ) → Sound owner []
sound_none owner = record {
  between = λ i l is. let z : ◌≡◌ {A = ℕ} 0 1 = cc in absurd (omega arith);
  no_circle = λ a circle. none_chain a a circle;
  one_each = λ a b i j leads leads'. absurd (none_leads i a b leads);
  rooted = λ i from to leads. absurd (none_leads i from to leads);
}

delegatable_is : (k : Kind) → is_delegatable k ≡ true → k ≡ Delegatable
delegatable_is Denying e = absurd (false≢true e)
delegatable_is Plain e = absurd (false≢true e)
delegatable_is Delegatable e = refl

-- the ends of a mark of sound grants are accounts
pub sound_leads : (owner : ℕ) (ms : List Mark) → Sound owner ms → (i : ℕ) (m : Mark) → At ms i m → Leads (lines_of ms) i m.from m.to
sound_leads owner ms sound i m is =
    let l : Line = record { from = m.from; to = m.to } in
    let there = line_at ms i m is in
    leads_from (lines_of ms) i l there (sound.between i l there)

-- delegatable grants lead from the owner to whoever else is entitled
pub entitled_rooted : (owner : ℕ) (ms : List Mark) (a : ℕ) → Sound owner ms → entitled owner ms a ≡ true → (a ≡ owner) ⊎ Chain (passing_of ms) owner a
entitled_rooted owner ms a sound may =
    ⊎_elim (λ own. inl (eqb-true a owner own))
    (λ passed.
    let some = some_there (first (passes_to a) ms) passed in
    let h = some.0 in
    let f = first_at (passes_to a) ms h some.1 in
    let i = f.0 in
    let parts = and_parts (eqb h.to a) (is_delegatable h.kind) f.2 in
    let leads = subst (λ x. Leads (lines_of ms) i h.from x) (eqb-true h.to a parts.0) (sound_leads owner ms sound i h f.1) in
    let kind : (signs_of ms i).kind ≡ Delegatable = ap (λ s. s.kind) (sign_at ms i h f.1) ∙ delegatable_is h.kind parts.1 in
    let passing = leads_passing ms i h.from a leads kind in
    inr (⊎_elim (λ (own : h.from ≡ owner). subst (λ x. Chain (passing_of ms) x a) own (one i passing))
    (λ chain. snoc i chain passing)
    (sound.rooted i h.from a leads)))
    (or_cases (eqb a owner) (is_some (first (passes_to a) ms)) may)

module _ (owner : ℕ) (ms : List Mark) (m : Mark) (sound : Sound owner ms) (from : m.from < 512) (to : m.to < 512) where
  granted_between : (i : ℕ) (l : Line) → get_or (lines_of (ms ++ m ∷ [])) i None ≡ Some l → between_accounts l ≡ true
  granted_between i l is =
      let f = at_line (ms ++ m ∷ []) i l is in
      let h = f.0 in
      ⊎_elim (λ old. let leads = sound_leads owner ms sound i h old in both h.from h.to leads.from_account leads.to_account f.2 f.3)
      (λ (last : (i ≡ length ms) × (h ≡ m)). both m.from m.to from to (ap (λ x. x.from) (sym last.1) ∙ f.2) (ap (λ x. x.to) (sym last.1) ∙ f.3))
      (at_push_cases ms m i h f.1)
    where
      both : (u v : ℕ) → u < 512 → v < 512 → u ≡ l.from → v ≡ l.to → between_accounts l ≡ true
      both u v u_is v_is from_is to_is = and_from (ltb l.from 512) (ltb l.to 512) (lt-ltb l.from 512 (omega arith)) (lt-ltb l.to 512 (omega arith))

  granted_no_circle : (m.to ≡ m.from → ⊥) → above (lines_of ms) m.to m.from ≡ false → (a : ℕ) → Chain (lines_of (ms ++ m ∷ [])) a a → ⊥
  granted_no_circle other free a circle =
      let none : Chain (lines_of ms) m.to m.from → ⊥ = λ chain. both_ways (above (lines_of ms) m.to m.from) free ((above_decides (lines_of ms) m.to m.from).1 chain) in
      ⊎_elim (sound.no_circle a)
      (λ along.
      ⊎_elim
      (λ (begins : a ≡ m.from).
      ⊎_elim (λ (ends : a ≡ m.to). other (sym ends ∙ begins))
      (λ after. none (subst (λ x. Chain (lines_of ms) m.to x) begins after))
      along.1)
      (λ before.
      ⊎_elim (λ (ends : a ≡ m.to). none (subst (λ x. Chain (lines_of ms) x m.from) ends before))
      (λ after. none (chain_join after before))
      along.1)
      along.0)
      (chain_push ms m a a circle)

  -- no old grant has the ends of the new one
  not_there : first (between m.from m.to) ms ≡ None → (a b i : ℕ) → a ≡ m.from → b ≡ m.to → Leads (lines_of ms) i a b → ⊥
  not_there new a b i from_is to_is leads =
      let f = leads_mark ms i a b leads in
      let h = f.0 in
      both_ways (between m.from m.to h) (first_none (between m.from m.to) ms i h new f.1)
      (and_from (eqb h.from m.from) (eqb h.to m.to) (eq-eqb h.from m.from (f.2 ∙ from_is)) (eq-eqb h.to m.to (f.3 ∙ to_is)))

  granted_one_each : first (between m.from m.to) ms ≡ None → (a b i j : ℕ) → Leads (lines_of (ms ++ m ∷ [])) i a b → Leads (lines_of (ms ++ m ∷ [])) j a b → i ≡ j
  granted_one_each new a b i j leads leads' =
      ⊎_elim
      (λ old.
      ⊎_elim (λ old'. sound.one_each a b i j old old')
      (λ (last : (j ≡ length ms) × (a ≡ m.from) × (b ≡ m.to)). absurd (not_there new a b i last.1 last.2 old))
      (push_leads ms m j a b leads'))
      (λ (last : (i ≡ length ms) × (a ≡ m.from) × (b ≡ m.to)).
      ⊎_elim (λ old'. absurd (not_there new a b j last.1 last.2 old'))
      (λ (last' : (j ≡ length ms) × (a ≡ m.from) × (b ≡ m.to)). last.0 ∙ sym last'.0)
      (push_leads ms m j a b leads'))
      (push_leads ms m i a b leads)

  granted_rooted : entitled owner ms m.from ≡ true → (i u v : ℕ) → Leads (lines_of (ms ++ m ∷ [])) i u v → (u ≡ owner) ⊎ Chain (passing_of (ms ++ m ∷ [])) owner u
  granted_rooted may i u v leads =
      ⊎_elim inl (λ chain. inr (chain_within (λ j x y l. (j, passing_push ms m j x y l)) chain))
      (⊎_elim (λ old. sound.rooted i u v old)
      (λ (last : (i ≡ length ms) × (u ≡ m.from) × (v ≡ m.to)). subst (λ x. (x ≡ owner) ⊎ Chain (passing_of ms) owner x) (sym last.1) (entitled_rooted owner ms m.from sound may))
      (push_leads ms m i u v leads))

pub sound_granted : (owner : ℕ) (ms : List Mark) (m : Mark) → Sound owner ms → m.from < 512 → m.to < 512 →
    entitled owner ms m.from ≡ true → first (between m.from m.to) ms ≡ None → (m.to ≡ m.from → ⊥) → above (lines_of ms) m.to m.from ≡ false →
    Sound owner (ms ++ m ∷ [])
sound_granted owner ms m sound from to may new other free = record {
  between = granted_between owner ms m sound from to;
  no_circle = granted_no_circle owner ms m sound from to other free;
  one_each = granted_one_each owner ms m sound from to new;
  rooted = granted_rooted owner ms m sound from to may;
}

-- of grants of which some are kept
module _ (p : Mark → Bool) (ms : List Mark) where
  kept_between : ((i : ℕ) (l : Line) → get_or (lines_of ms) i None ≡ Some l → between_accounts l ≡ true) → (i : ℕ) (l : Line) → get_or (lines_of (filter p ms)) i None ≡ Some l → between_accounts l ≡ true
  kept_between before i l is =
      let f = at_line (filter p ms) i l is in
      let h = f.0 in
      let there = line_at ms (origin p ms i) h (kept_from p ms i h f.1).0 in
      before (origin p ms i) l (there ∙ sym (line_at (filter p ms) i h f.1) ∙ is)

  kept_no_circle : NoCircle (lines_of ms) → NoCircle (lines_of (filter p ms))
  kept_no_circle before a circle = before a (chain_within (λ i u v leads. (origin p ms i, lines_kept p ms i u v leads)) circle)

  kept_one_each : OneEach (lines_of ms) → OneEach (lines_of (filter p ms))
  kept_one_each before a b i j leads leads' =
      let f = leads_mark (filter p ms) i a b leads in
      let g = leads_mark (filter p ms) j a b leads' in
      origin_once p ms i j f.0 g.0 f.1 g.1 (before a b (origin p ms i) (origin p ms j) (lines_kept p ms i a b leads) (lines_kept p ms j a b leads'))

-- delegatable grants lead from the owner to every other grantor that is left
module _ (owner : ℕ) (left : List Mark) where
  abbrev Reached : ℕ → Type 0
  Reached a = (a ≡ owner) ⊎ Chain (passing_of left) owner a

  pub rooted_reached : (a : ℕ) → rooted owner left a ≡ true → Reached a
  rooted_reached a e =
      ⊎_elim (λ own. inl (eqb-true a owner own)) (λ over. inr ((above_decides (passing_of left) owner a).0 over))
      (or_cases (eqb a owner) (above (passing_of left) owner a) e)

  pub reached_rooted : (a : ℕ) → Reached a → rooted owner left a ≡ true
  reached_rooted a reached =
      ⊎_elim (λ own. or_left (eqb a owner) (above (passing_of left) owner a) (eq-eqb a owner own))
      (λ chain. or_right (eqb a owner) (above (passing_of left) owner a) ((above_decides (passing_of left) owner a).1 chain))
      reached

  reached_on : (i a b : ℕ) → Reached a → Leads (passing_of left) i a b → Chain (passing_of left) owner b
  reached_on i a b reached leads =
      ⊎_elim (λ (own : a ≡ owner). subst (λ x. Chain (passing_of left) x b) own (one i leads)) (λ chain. snoc i chain leads) reached

  -- a delegatable grant of an account that is reached stands
  passing_stands : (i a b : ℕ) → Reached a → Leads (passing_of left) i a b → (j : ℕ) × Leads (passing_of (rooted_part owner left)) j a b
  passing_stands i a b reached leads =
      let f = leads_mark left i a b (passing_leads left i a b leads).0 in
      let h = f.0 in
      let k = kept_at (λ m. rooted owner left m.from) left i h f.1 (ap (rooted owner left) f.2 ∙ reached_rooted a reached) in
      (k.0, passing_moved left (rooted_part owner left) i k.0 a b h f.1 k.1 leads)

  -- and so does every chain of such grants
  pub chain_stands : {a b : ℕ} → Reached a → Chain (passing_of left) a b → Chain (passing_of (rooted_part owner left)) a b
  chain_stands {a} {b} reached (one i leads) = let f = passing_stands i a b reached leads in one f.0 f.1
  chain_stands {a} {b} reached (on {c = c} i leads rest) =
      let f = passing_stands i a c reached leads in
      on f.0 f.1 (chain_stands (inr (reached_on i a c reached leads)) rest)

  pub standing_rooted : (i u v : ℕ) → Leads (lines_of (rooted_part owner left)) i u v → (u ≡ owner) ⊎ Chain (passing_of (rooted_part owner left)) owner u
  standing_rooted i u v leads =
      let f = leads_mark (rooted_part owner left) i u v leads in
      let h = f.0 in
      let kept = kept_from (λ m. rooted owner left m.from) left i h f.1 in
      ⊎_elim inl (λ chain. inr (chain_stands (inl refl) chain))
      (rooted_reached u (ap (rooted owner left) (sym f.2) ∙ kept.1))

pub sound_withdrawn : (owner c a : ℕ) (ms : List Mark) → Sound owner ms → Sound owner (rooted_part owner (unless c a ms))
sound_withdrawn owner c a ms sound =
    let left = unless c a ms in
    let apart : Mark → Bool = λ m. not (between c a m) in
    let stands : Mark → Bool = λ m. rooted owner left m.from in
    record {
      between = kept_between stands left (kept_between apart ms sound.between);
      no_circle = kept_no_circle stands left (kept_no_circle apart ms sound.no_circle);
      one_each = kept_one_each stands left (kept_one_each apart ms sound.one_each);
      rooted = standing_rooted owner left;
    }

-- what is known to hold, though not how, holds
pub sound_known : (owner : ℕ) (ms : List Mark) → ∥ Sound owner ms ∥₁ → Sound owner ms
sound_known owner ms known = record {
  between = λ at l is. ∥∥₁_elim known (Bool-set _ _) (λ s. s.between at l is);
  no_circle = λ a chain. ∥∥₁_elim known (λ x y. absurd x) (λ s. s.no_circle a chain);
  one_each = λ a b i j first second. ∥∥₁_elim known (ℕ_set _ _) (λ s. s.one_each a b i j first second);
  rooted = λ at from to leads. rooted_reached owner ms from (∥∥₁_elim known (Bool-set _ _) (λ s. reached_rooted owner ms from (s.rooted at from to leads)));
}
