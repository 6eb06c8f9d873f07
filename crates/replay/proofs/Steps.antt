-- A history, one call on. Assumes nothing.
use Rattle.std.proofs.Common.{◌≡◌, ℕ, ◌+◌, ◌<◌, ◌≤◌, List, [], ◌∷◌, ◌++◌, map, length, get_or, take, drop, sym, ap, ◌∙◌, append_assoc}
use Rattle.std.proofs.lemmas.List.{drop_more, take_more, take_all, drop_all, append-nil, get_or-map}
use Rattle.model.specs.Calls.{Reply}
use Rattle.model.specs.History.{Made, History, reply_to, after, replies, outcome}
use Rattle.model.specs.State.{State}
use Rattle.model.proofs.Invariant.{outcome_more}

module _ (h : History) (start s t : State) (i : ℕ) (m : Made) (within : i < length h) (is : m ≡ get_or h i m) (left : t ≡ after s m) where
  pub replied_more : (front : List Reply) (said : Reply) → said ≡ reply_to s m → front ++ replies s (drop i h) ≡ replies start h → (front ++ said ∷ []) ++ replies t (drop (i + 1) h) ≡ replies start h
  replied_more front said told before =
      append_assoc front (said ∷ []) (replies t (drop (i + 1) h))
      ∙ ap (λ r. front ++ r ∷ replies t (drop (i + 1) h)) told
      ∙ ap (λ x. front ++ reply_to s m ∷ replies x (drop (i + 1) h)) left
      ∙ ap (λ (n : Made). front ++ replies s (n ∷ drop (i + 1) h)) is
      ∙ ap (λ rest. front ++ replies s rest) (sym (drop_more h i m within))
      ∙ before

  pub left_more : s ≡ outcome start (take i h) → t ≡ outcome start (take (i + 1) h)
  left_more so_far =
      left
      ∙ ap (λ x. after x m) so_far
      ∙ sym (outcome_more start (take i h) m)
      ∙ ap (λ (n : Made). outcome start (take i h ++ n ∷ [])) is
      ∙ ap (outcome start) (sym (take_more h i m within))

module _ (h : History) (start s : State) (i : ℕ) (past : length h ≤ i) where
  pub replied_all : (front : List Reply) → front ++ replies s (drop i h) ≡ replies start h → front ≡ replies start h
  replied_all front told = sym (append-nil front) ∙ ap (λ rest. front ++ replies s rest) (sym (drop_all i h past)) ∙ told

  pub left_all : s ≡ outcome start (take i h) → s ≡ outcome start h
  left_all so_far = so_far ∙ ap (outcome start) (take_all i h past)

-- a step as a call of a history, by its place
pub made_at : {X : Type 0} (f : X → Made) (xs : List X) (i : ℕ) (x : X) → i < length xs → x ≡ get_or xs i x → f x ≡ get_or (map f xs) i (f x)
made_at f xs i x within is = ap f is ∙ sym (get_or-map f xs i x (f x) within)
