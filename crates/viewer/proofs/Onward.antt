-- The reader goes onward at each token that is neither bad nor the end, and stays at a bad token and at the end; and what `view` makes there of
-- what the lexer and the counting gave it, whatever line and column are kept.
-- Assumes nothing.
use mathlib.Core.Path.{◌≡◌, sym, ap, ◌∙◌}
use mathlib.Core.Bool.{Bool, cond}
use mathlib.Core.List.{List}
use Prim.Native.Nat.{ℕ, ◌+◌, ◌^◌, ◌≤◌, ◌<◌}
use native.Mathlib.Numerals.{add-one}
use native.Mathlib.Omega.{arith}
use lib.ListN.{length}
use borrow.Author.Tests.{lt-ltb, le-ltb}
use Rattle.lex.specs.declared.Token.{Token}
use Rattle.lexemes.specs.Classes.{BAD}
use Rattle.lex.specs.Tokens.{token_at}
use Rattle.lex.proofs.Progress.{token_moves}
use Rattle.positions.specs.declared.Position.{Position}
use Rattle.positions.specs.Positions.{position_from}
use Rattle.positions.proofs.Laws.{position_twice, position_same}
use Rattle.viewer.specs.declared.Positioned.{Positioned}
use Rattle.viewer.specs.declared.Seen.{Seen}
use Rattle.viewer.specs.Viewed.{place_past, place_after, place_of_nth, nth_token, seen_from}

pub place_stays : (s : List ℕ) (at : ℕ) → BAD ≤ (token_at s at).class → place_after s at ≡ at
unfolding place_after place_past
place_stays s at h = ap (λ (b : Bool). cond b (token_at s at).end at) (le-ltb _ _ h)

pub place_past_lem : (s : List ℕ) (at : ℕ) → (token_at s at).class < BAD → place_after s at ≡ (token_at s at).end
unfolding place_after place_past
place_past_lem s at h = ap (λ (b : Bool). cond b (token_at s at).end at) (lt-ltb _ _ h)

pub next_place : (s : List ℕ) (n : ℕ) → place_of_nth s (n + 1) ≡ place_after s (place_of_nth s n)
unfolding place_of_nth
next_place s n = rw add-one

-- after a token that is neither bad nor the end, the place has grown, and lies within the source
pub onward : (s : List ℕ) (n : ℕ) → (nth_token s n).class < BAD → (place_of_nth s n < place_of_nth s (n + 1)) × (place_of_nth s (n + 1) ≤ length s)
unfolding nth_token
onward s n h = omega (arith, token_moves s (place_of_nth s n) h, next_place s n, place_past_lem s (place_of_nth s n) h)

-- a bad token and the end repeat
pub repeats : (s : List ℕ) (n : ℕ) → BAD ≤ (nth_token s n).class → nth_token s (n + 1) ≡ nth_token s n
unfolding nth_token
repeats s n h = ap (token_at s) (next_place s n ∙ place_stays s (place_of_nth s n) h)

-- what is seen at a place, whatever line and column it is said to have: at a token that is neither bad nor the end the place grows
pub seen_moves : (s : List ℕ) (at line column : ℕ) (v : Seen) → v ≡ seen_from s at line column → v.token.token.class < BAD
    → (at < v.at) × (v.at ≤ length s)
unfolding seen_from
seen_moves s at line column v is h =
    let some : (token_at s at).class < BAD = omega (arith, ap (λ (w : Seen). w.token.token.class) is) in
    let next = ap (λ (w : Seen). w.at) is ∙ place_past_lem s at some in
    omega (arith, next, token_moves s at some)

-- ---- what `view` makes of the token t and the position p of its start

module _ (s : List ℕ) (at line column : ℕ) (t : Token) (p : Position) (is : t ≡ token_at s at) where
  abbrev said : Position
  said = record { line = line; column = column }

  abbrev first : Positioned
  first = record { token = t; line = p.line; column = p.column }

  module _ (starts : p ≡ position_from said s at t.start) where
    starts_at : p ≡ position_from said s at (token_at s at).start
    starts_at = starts ∙ ap (λ (u : Token). position_from said s at u.start) is

    class_is : t.class ≡ (token_at s at).class
    class_is = ap (λ (u : Token). u.class) is

    -- the position of the token's end, counted on from its start's, is that counted on from `at`
    ends_at : (q : Position) → (token_at s at).class < BAD → q ≡ position_from p s t.start t.end → q ≡ position_from said s at (place_after s at)
    ends_at q more goes =
        let u = token_at s at in
        let moves = token_moves s at more in
        goes
        ∙ (λ i. position_from (starts_at i) s (is i).start (is i).end)
        ∙ position_twice s at u.start u.end moves.after (omega (arith, moves.some)) said
        ∙ ap (position_from said s at) (sym (place_past_lem s at more))

    -- the token has bytes, and q is the position of its end
    pub seen_past : (q : Position) → t.class < BAD → q ≡ position_from p s t.start t.end
        → ◌≡◌ {A = Seen} (record { token = first; at = t.end; line = q.line; column = q.column }) (seen_from s at line column)
    unfolding seen_from
    seen_past q some goes =
        let more : (token_at s at).class < BAD = omega (arith, class_is) in
        let end_is = ap (λ (u : Token). u.end) is ∙ sym (place_past_lem s at more) in
        let there = ends_at q more goes in
        λ i.
        record {
          token = record { token = is i; line = (starts_at i).line; column = (starts_at i).column };
          at = end_is i;
          line = (there i).line;
          column = (there i).column;
        }

    -- a bad token, or the end
    pub seen_stays : BAD ≤ t.class → line < 2 ^ 64 → column < 2 ^ 64
        → ◌≡◌ {A = Seen} (record { token = first; at = at; line = line; column = column }) (seen_from s at line column)
    unfolding seen_from
    seen_stays none fits_line fits_column =
        let more : BAD ≤ (token_at s at).class = omega (arith, class_is) in
        let stays = sym (place_stays s at more) in
        let there = sym (position_same s at said fits_line fits_column) ∙ ap (position_from said s at) stays in
        λ i.
        record {
          token = record { token = is i; line = (starts_at i).line; column = (starts_at i).column };
          at = stays i;
          line = (there i).line;
          column = (there i).column;
        }
