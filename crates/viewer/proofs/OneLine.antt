-- No token holds an LF (W-201): its end has its start's line, and a column that is greater by its bytes. So an editor that goes on at a token's
-- end, with the token's line and its column plus its length, keeps to lines and columns of the source.
-- Assumes nothing.
use mathlib.Core.Path.{◌≡◌, refl, sym, ap, ◌∙◌}
use mathlib.Core.Bool.{true, false, false≢true}
use mathlib.Core.List.{List, [], ◌∷◌}
use Prim.Native.Nat.{ℕ, zero, suc, ◌+◌, ◌-◌, ◌%◌, ◌^◌, ◌≤◌, ◌<◌}
use native.Mathlib.Nat.{mod-mod}
use native.Mathlib.Omega.{arith}
use lib.Dec.{eqb}
use lib.ListN.{length, get_or, take, drop}
use lib.Seq.{take-add, drop_at, length-take-le}
use borrow.Author.Tests.{eqb-true}
use Rattle.lexemes.specs.Bytes.{is_word_byte}
use Rattle.lexemes.specs.Classes.{SIGNS, BAD}
use Rattle.lexemes.specs.Lexemes.{signs}
use Rattle.lexemes.specs.Words.{all, word}
use Rattle.lexemes.proofs.Lists.{either, either_less, and_true}
use Rattle.lexemes.proofs.Steps.{run_all}
use Rattle.lex.specs.declared.Token.{Token}
use Rattle.lex.specs.Tokens.{token_at}
use Rattle.lex.proofs.Progress.{token_moves, shape}
use Rattle.lex.proofs.OwnWord.{own_word}
use Rattle.positions.specs.declared.Position.{Position}
use Rattle.positions.specs.Positions.{between, line_feeds, line_at, column_at, position_from}
use Rattle.positions.proofs.Laws.{position_twice, position_along, line_along, column_along}
use Rattle.viewer.specs.declared.Seen.{Seen}
use Rattle.viewer.specs.Viewed.{place_after, positioned, seen_at, seen_from}
use Rattle.viewer.proofs.Onward.{place_past_lem}
use Rattle.viewer.proofs.Walk.{seen_own}

-- ---- words and signs

feed_no_word : (b : ℕ) → is_word_byte b ≡ true → eqb b 10 ≡ false
feed_no_word b e =
    either (eqb b 10)
    (λ t. let never : false ≡ true = rw (eqb-true b 10 t) at e in absurd (false≢true never))
    (λ t. t)

word_feeds : (w : List ℕ) → all is_word_byte w ≡ true → line_feeds w ≡ 0
unfolding all line_feeds
word_feeds [] e = refl
word_feeds (b ∷ w) e =
    let both = and_true (is_word_byte b) (all is_word_byte w) e in
    rw (feed_no_word b both.0) (word_feeds w both.1)

-- how many LF bytes some texts have
feeds : List (List ℕ) → ℕ
feeds [] = 0
feeds (w ∷ ws) = line_feeds w + feeds ws

text_feeds : (ws : List (List ℕ)) (k : ℕ) → feeds ws ≡ 0 → line_feeds (get_or ws k []) ≡ 0
unfolding feeds line_feeds
text_feeds [] k e = refl
text_feeds (w ∷ ws) zero e = omega arith
text_feeds (w ∷ ws) (suc k) e = text_feeds ws k (omega arith)

sign_feeds : (k : ℕ) → line_feeds (get_or signs k []) ≡ 0
unfolding signs feeds line_feeds
sign_feeds k = text_feeds signs k refl

-- ---- tokens

between_part : (s : List ℕ) (a p : ℕ) → a ≤ p → p ≤ length s → between s a p ≡ take (p - a) (drop a s)
between_part s a p h l =
    let sum : p ≡ a + (p - a) = omega arith in
    ap (λ (n : ℕ). drop a (take n s)) sum
    ∙ ap (drop a) (take-add a (p - a) s)
    ∙ drop_at (take a s) (take (p - a) (drop a s)) a (length-take-le a s (omega arith))

-- the token at or after a place, where it is neither bad nor the end
module _ (s : List ℕ) (at : ℕ) (some : (token_at s at).class < BAD) where
  abbrev t : Token
  t = token_at s at

  bytes_feeds : line_feeds (take (t.end - t.start) (drop t.start s)) ≡ 0
  bytes_feeds =
      either_less t.class SIGNS
      (λ h. ap line_feeds ((shape s at).sign h) ∙ sign_feeds t.class)
      (λ h. ap line_feeds (own_word s at h some) ∙ word_feeds (word (drop t.start s)) (run_all is_word_byte (drop t.start s)))

  pub token_feeds : line_feeds (between s t.start t.end) ≡ 0
  token_feeds =
      let moves = token_moves s at some in
      ap line_feeds (between_part s t.start t.end (omega (arith, moves.some)) moves.within) ∙ bytes_feeds

  -- from its start, which may be said to have any line and column, to its end
  pub token_along : (p : Position)
      → position_from p s t.start t.end ≡ record { line = p.line % 2 ^ 64; column = (p.column + (t.end - t.start)) % 2 ^ 64 }
  token_along p = position_along s t.start t.end (token_moves s at some).within token_feeds p

  pub end_line : line_at s t.end ≡ line_at s t.start
  end_line =
      let moves = token_moves s at some in
      line_along s t.start t.end moves.within token_feeds (omega (arith, moves.some))

  pub end_column : column_at s t.end ≡ column_at s t.start + (t.end - t.start)
  end_column =
      let moves = token_moves s at some in
      column_along s t.start t.end moves.within token_feeds (omega (arith, moves.some))

  -- ---- an editor that goes on at the token's end, with the token's line and its column plus its length

  past_along : (p : Position) → let first = position_from p s at t.start in
      position_from p s at (place_after s at) ≡ record { line = first.line % 2 ^ 64; column = (first.column + (t.end - t.start)) % 2 ^ 64 }
  past_along p =
      let moves = token_moves s at some in
      ap (position_from p s at) (place_past_lem s at some)
      ∙ sym (position_twice s at t.start t.end moves.after (omega (arith, moves.some)) p)
      ∙ token_along (position_from p s at t.start)

  line_wrapped : (p : Position) → (position_from p s at t.start).line % 2 ^ 64 ≡ (position_from p s at t.start).line
  unfolding position_from
  line_wrapped p = mod-mod _ (2 ^ 64)

  -- it goes on as the reader does, whatever line and column were said
  pub seen_along : (line column : ℕ) → let v = seen_from s at line column in
      (v.at ≡ t.end) × (v.line ≡ v.token.line) × (v.column ≡ (v.token.column + (t.end - t.start)) % 2 ^ 64)
  unfolding seen_from
  seen_along line column =
      let past = past_along (record { line = line; column = column }) in (
        place_past_lem s at some,
        ap (λ (p : Position). p.line) past ∙ line_wrapped (record { line = line; column = column }),
        ap (λ (p : Position). p.column) past,
      )

  -- from a place within the source with its own line and column, it comes to the token's end with that place's own
  pub own_along : length s < 2 ^ 63 → at ≤ length s → let v = seen_from s at (line_at s at) (column_at s at) in
      (v.token.line ≡ line_at s t.end) × (v.token.column + (t.end - t.start) ≡ column_at s t.end)
  unfolding seen_at positioned
  own_along short inside =
      let own = seen_own s short at inside in (
        ap (λ (v : Seen). v.token.line) own ∙ sym end_line,
        ap (λ (v : Seen). v.token.column + (t.end - t.start)) own ∙ sym end_column,
      )
