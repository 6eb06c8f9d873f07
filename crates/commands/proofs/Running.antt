-- A run on its way. Assumes nothing.
use Rattle.std.proofs.Common.{◌≡◌, ℕ, zero, suc, ◌+◌, ◌*◌, ◌<◌, ◌≤◌, List, [], ◌∷◌, ◌++◌, length, take, Some, None, Ok, Option, Result, sym, refl, ap, ◌∙◌, subst, arith}
use Rattle.std.proofs.lemmas.List.{append_assoc, append-nil, length-append, length-take, take_at}
use Rattle.std.proofs.lemmas.Bool.{le-leb, lt-leb}
use Rattle.rulings.specs.Ranking.{Ranking}
use Rattle.model.specs.State.{State}
use Rattle.commands.specs.Stream.{commands, commands_from, lines, left_by, line_at, carried, command_at, next_position}
use Rattle.commands.specs.Steps.{told, if_line, line_length}
use Rattle.commands.specs.declared.faults.StreamFault.{StreamFault}
use Rattle.commands.specs.declared.steps.Stepped.{Stepped}
use Rattle.text.specs.Text.{over}
use Rattle.commands.proofs.Positions.{next_further, line_told, finished_told}

-- What is written so far and what is still to come is the whole run.
pub record UnderWay (R : Ranking) (stream : List ℕ) (start s : State) (at : ℕ) (out : List ℕ) : Type 0 where
  pub more : ℕ
  pub enough : length stream ≤ at + more
  pub within : at ≤ length stream
  pub short : length out ≤ 32 * at
  pub written : out ++ lines R s (commands_from more stream at) ≡ lines R start (commands stream)
  pub left : left_by R s (commands_from more stream at) ≡ left_by R start (commands stream)

module _ (R : Ranking) (stream : List ℕ) where
  pub begins : (start : State) (out : List ℕ) → out ≡ [] → UnderWay R stream start start 0 out
  begins start out none =
      record { more = length stream; enough = omega arith; within = omega arith; short = omega (arith, ap length none); written = ap (λ o. o ++ lines R start (commands stream)) none; left = refl }

  -- no command is left at the end, whatever may still come
  none_left : (n at : ℕ) → length stream ≤ at → commands_from n stream at ≡ []
  none_left zero at past = refl
  none_left (suc n) at past = rw (le-leb (length stream) at past) refl

  -- and one more before it
  one_left : (n at : ℕ) → at < length stream → commands_from (suc n) stream at ≡ (at, command_at stream at) ∷ commands_from n stream (next_position stream at)
  one_left n at within = rw (lt-leb (length stream) at within) refl

  -- a step of a run on its way, with a buffer of so many bytes
  module _ {start s : State} {at : ℕ} {out : List ℕ} (u : UnderWay R stream start s at out) (room : ℕ) {result : Result (Option Stepped) StreamFault} (is : result ≡ told stream at room (line_at R s stream at)) where
    pub finishes : result ≡ Ok None → (t : State) → t ≡ if_line result (carried R s (command_at stream at)) s → (out ≡ lines R start (commands stream)) × (t ≡ left_by R start (commands stream))
    finishes none t left =
        let past = finished_told stream at room (line_at R s stream at) (sym none ∙ is) in
        let nothing = none_left u.more at past in
        let same = left ∙ ap (λ r. if_line r (carried R s (command_at stream at)) s) none in
        (sym (append-nil out) ∙ ap (λ cs. out ++ lines R s cs) (sym nothing) ∙ u.written, same ∙ ap (λ cs. left_by R s cs) (sym nothing) ∙ u.left)

    module _ {line : Stepped} (some : result ≡ Ok (Some line)) where
      pub steps : (at < length stream) × (line.length ≡ length (line_at R s stream at)) × (line.next ≡ next_position stream at)
      steps = line_told stream at room (line_at R s stream at) line (sym some ∙ is)

      pub further : (at < line.next) × (line.next ≤ length stream)
      further = let next = next_further stream at steps.0 in (omega (arith, steps.2), omega (arith, steps.2))

      pub goes_on : (buffer after longer : List ℕ) (t : State) → line_length result ≤ 32 → longer ≡ out ++ take line.length after → after ≡ if_line result (over buffer (line_at R s stream at)) buffer → t ≡ if_line result (carried R s (command_at stream at)) s → UnderWay R stream start t line.next longer
      goes_on buffer after longer t bound appended wrote left = subst (λ o. UnderWay R stream start t line.next o) (sym appended) (one_more u.more u.enough u.written u.left)
        where
          text : List ℕ
          text = take line.length after

          is_text : text ≡ line_at R s stream at
          is_text =
              ap (take line.length) (wrote ∙ ap (λ r. if_line r (over buffer (line_at R s stream at)) buffer) some)
              ∙ take_at (line_at R s stream at) _ line.length (sym steps.1)

          is_state : t ≡ carried R s (command_at stream at)
          is_state = left ∙ ap (λ r. if_line r (carried R s (command_at stream at)) s) some

          one_more : (n : ℕ) → length stream ≤ at + n → out ++ lines R s (commands_from n stream at) ≡ lines R start (commands stream) → left_by R s (commands_from n stream at) ≡ left_by R start (commands stream) → UnderWay R stream start t line.next (out ++ text)
          one_more zero enough written left = absurd (omega (arith, steps.0))
          one_more (suc n) enough written left =
              let later = commands_from n stream line.next in
              let here = one_left n at steps.0 ∙ ap (λ k. (at, command_at stream at) ∷ commands_from n stream k) (sym steps.2) in
              record {
                more = n;
                enough = omega (arith, further.0);
                within = further.1;
                short = omega (arith, u.short, further.0, length-append out text, length-take line.length after, bound, ap line_length some);
                written =
                    append_assoc out text (lines R t later)
                    ∙ ap (λ b. out ++ (b ++ lines R t later)) is_text
                    ∙ ap (λ x. out ++ (line_at R s stream at ++ lines R x later)) is_state
                    ∙ ap (λ cs. out ++ lines R s cs) (sym here)
                    ∙ written;
                left = ap (λ x. left_by R x later) is_state ∙ ap (λ cs. left_by R s cs) (sym here) ∙ left;
              }
