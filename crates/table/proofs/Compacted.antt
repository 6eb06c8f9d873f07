-- The cells while a table moves the records that stay to the front. Assumes nothing.
use Rattle.std.proofs.Common.{◌≡◌, ℕ, ◌+◌, ◌-◌, ◌<◌, ◌≤◌, Bool, true, false, List, [], ◌∷◌, ◌++◌, length, get_or, take, drop, set, sym, ap, ◌∙◌, arith}
use Rattle.std.specs.List.{items_where_true}
use Rattle.std.specs.List.Retain.{ReturnsInTurn}
use Rattle.std.proofs.Retain.{picked_push_true, picked_push_false, answers_push}
use Rattle.std.proofs.lemmas.Grind.{drop_more_same}
use Rattle.std.proofs.lemmas.List.{drop-set-lt, get_or-drop, take_more_set, length_push}

module _ {S X : Type 0} (R : S → X → Bool → S → Type 0) (at_first : S) (xs : List X) where
  -- the first i records were asked for, the k that stay are at the front, and from k on the cells are as they were
  pub record Compacted (s : S) (ys : List X) (k i : ℕ) : Type 0 where
    pub answers : List Bool
    pub count : length answers ≡ i
    pub asked : ReturnsInTurn R at_first answers xs s
    pub front : take k ys ≡ items_where_true answers xs
    pub rest : drop k ys ≡ drop k xs
    pub behind : k ≤ i

  module _ {s : S} {ys : List X} {k i : ℕ} (c : Compacted s ys k i) (t : S) (x : X) (within : i < length xs) (as_long : length ys ≡ length xs) (read : x ≡ get_or ys i x) where
    -- what is read at i is what stood there at first
    as_first : x ≡ get_or xs (length c.answers) x
    as_first =
        let on : k + (i - k) ≡ length c.answers = omega (arith, c.behind, c.count) in
        let here : k + (i - k) ≡ i = omega (arith, c.behind) in
        read ∙ ap (λ j. get_or ys j x) (sym here)
        ∙ sym (get_or-drop k ys (i - k) x) ∙ ap (λ zs. get_or zs (i - k) x) c.rest ∙ get_or-drop k xs (i - k) x
        ∙ ap (λ j. get_or xs j x) on

    asked_next : (b : Bool) → R s x b t → ReturnsInTurn R at_first (c.answers ++ b ∷ []) xs t
    asked_next b say = answers_push R at_first s t c.answers xs x b (omega (arith, c.count)) as_first c.asked say

    pub more_goes : R s x false t → Compacted t ys k (i + 1)
    more_goes say = record {
      answers = c.answers ++ false ∷ [];
      count = omega (arith, length_push c.answers false, c.count);
      asked = asked_next false say;
      front = c.front ∙ sym (picked_push_false c.answers xs);
      rest = c.rest;
      behind = omega (arith, c.behind);
    }

    pub more_stays : R s x true t → Compacted t (set ys k x) (k + 1) (i + 1)
    more_stays say = record {
      answers = c.answers ++ true ∷ [];
      count = omega (arith, length_push c.answers true, c.count);
      asked = asked_next true say;
      front =
          take_more_set ys k x (omega (arith, c.behind))
          ∙ (λ j. c.front j ++ as_first j ∷ [])
          ∙ sym (picked_push_true c.answers xs x (omega (arith, c.count)));
      rest = drop-set-lt (k + 1) ys k x (omega arith) ∙ drop_more_same ys xs k c.rest;
      behind = omega (arith, c.behind);
    }
