-- One source of a family after another: what the call has done after so many of them.
-- Assumes nothing.
use Prim.Native.Nat.{ℕ, ◌+◌, ◌-◌, ◌*◌, ◌/◌, ◌≤◌, ◌<◌}
use native.Mathlib.Nat.{sub-zero}
use native.Mathlib.Omega.{arith}
use mathlib.Core.Path.{◌≡◌, refl, sym, ap, ◌∙◌}
use mathlib.Core.Bool.{false}
use mathlib.Core.List.{List, [], ◌∷◌, ◌++◌, append-nil, append_assoc}
use lib.ListN.{length, get_or, take, drop, length-append, length-replicate}
use lib.Seq.{slice, length-take-le, take-add, drop_at}
use borrow.Rule.Slice.PartMut.{mid_of, put_mid}
use Rattle.lexemes.proofs.Lists.{from_end, from_next}
use Rattle.rows.specs.Columns.{ROW}
use Rattle.rows.specs.Table.{whole_rows}
use Rattle.rows.specs.Rows.{AreRows, no_rows, rows_from, laid}
use Rattle.rows.proofs.FlatLaws.{are_rows_append}
use Rattle.rows.proofs.RunLaws.{rows_flat}
use Rattle.rows.proofs.LaidLaws.{laid_none, length_laid}
use Rattle.replies.specs.Replies.{read_reply}
use Rattle.lent.specs.Numbers.{in_lent, reply_numbers}
use Rattle.family.specs.Family.{WORDS, Member, sources_from, rows_with, alone, members, all_rows, all_words, six_words, bad_ends, readings}
use Rattle.family.specs.Steps.{Free, Blank, Written}
use Rattle.family.proofs.EndLaws.{good_next, good_inside}
use Rattle.family.proofs.PaddedLaws.{zeros, padded, mid_padded, put_padded}
use Rattle.family.proofs.NextLaws.{are_rows, few_rows}
use Rattle.family.proofs.MemberLaws.{all_rows_append, all_words_append}

-- ---- after k sources

pub record SoFar (buffer ends : List ℕ) (n m start rows k : ℕ) (t a : List ℕ) : Type 0 where
  pub done : List Member
  pub rest : readings buffer ends n ≡ done ++ members (n / ROW - rows) (sources_from buffer start (drop k ends))
  pub whole : AreRows (all_rows done)
  pub counted : rows ≡ length (all_rows done)
  pub room : rows ≤ n / ROW
  pub table : t ≡ laid (all_rows done) n
  pub words : length (all_words done) ≡ k * WORDS
  pub lent : k * WORDS ≤ m
  pub answers : a ≡ padded (all_words done) m
  pub good : bad_ends start (drop k ends) (length buffer) ≡ false

-- after none
pub so_far_none : {buffer ends t a : List ℕ} → Blank buffer ends t a → SoFar buffer ends (length t) (length a) 0 0 0 t a
unfolding readings all_rows all_words
so_far_none {buffer} {ends} {t} {a} v =
    record {
      done = [];
      rest = rw sub-zero;
      whole = no_rows;
      counted = refl;
      room = omega arith;
      table = v.table ∙ sym (laid_none (length t));
      words = refl;
      lent = omega arith;
      answers = v.answers ∙ sym (ap zeros (sub-zero (length a)));
      good = v.good;
    }

module _ {buffer ends : List ℕ} {n m start rows k : ℕ} {t a : List ℕ} (v : SoFar buffer ends n m start rows k t a) where
  pub same_table : length t ≡ n
  same_table = ap length v.table ∙ length_laid v.whole n (omega (arith, v.counted, v.room))

  pub same_answers : length a ≡ m
  same_answers =
      ap length v.answers ∙ length-append (all_words v.done) (zeros (m - length (all_words v.done)))
      ∙ ap (λ (i : ℕ). length (all_words v.done) + i) (length-replicate {A = ℕ} (m - length (all_words v.done)) 0)
      ∙ omega (arith, v.words, v.lent)

  rows_are : rows_from t 0 rows ≡ all_rows v.done
  unfolding laid
  rows_are = rw (v.table, v.counted) (rows_flat v.whole _)

  -- the table is free behind its rows
  pub free : Free t rows
  free = record { room = rw same_table v.room; held = rw (rows_are, same_table) v.table }

  module _ (inside : k < length ends) where
    abbrev end : ℕ
    end = get_or ends k 0

    next_end : drop k ends ≡ end ∷ drop (k + 1) ends
    next_end = from_next ends k 0 inside

    pub good_end : (start ≤ end) × (bad_ends end (drop (k + 1) ends) (length buffer) ≡ false)
    good_end = good_next start end (drop (k + 1) ends) (length buffer) (rw next_end at v.good)

    pub end_inside : end ≤ length buffer
    end_inside = good_inside end (drop (k + 1) ends) (length buffer) good_end.1

    -- the source that ends there, as its part of the buffer is lent
    abbrev source : List ℕ
    source = take (end - start) (drop start buffer)

    source_is : source ≡ slice start end buffer
    source_is =
        let whole : start + (end - start) ≡ end = omega (arith, good_end.0) in
        let before : length (take start buffer) ≡ start = length-take-le start buffer (omega (arith, good_end.0, end_inside)) in
        sym
        (ap (λ (i : ℕ). drop start (take i buffer)) (sym whole)
        ∙ ap (drop start) (take-add start (end - start) buffer)
        ∙ drop_at (take start buffer) source start before)

    abbrev left : ℕ
    left = n / ROW - rows

    left_is : whole_rows t - rows ≡ left
    left_is = ap (λ (i : ℕ). i / ROW - rows) same_table

    -- what is left to read
    rest_is :
        members left (sources_from buffer start (drop k ends))
        ≡ alone source left ∷ members (n / ROW - (rows + length (rows_with source left))) (sources_from buffer end (drop (k + 1) ends))
    unfolding members sources_from
    rest_is =
        let fewer : left - length (rows_with source left) ≡ n / ROW - (rows + length (rows_with source left)) = omega arith in
        rw (next_end, ← source_is) (ap (λ (i : ℕ). alone source left ∷ members i (sources_from buffer end (drop (k + 1) ends))) fewer)

    module _ (enough : length ends ≤ m / WORDS) where
      fits : length (all_words v.done) + WORDS ≤ m
      fits = omega (arith, v.words)

      count : k * WORDS + WORDS - k * WORDS ≡ WORDS
      count = omega arith

      -- the six words of its answer, in the part that is lent for them
      answers_next :
          {w : List ℕ}
          → w ≡ in_lent (length (mid_of (k * WORDS) (k * WORDS + WORDS - k * WORDS) a)) (reply_numbers (read_reply source (left * ROW)))
          → put_mid (k * WORDS) (k * WORDS + WORDS - k * WORDS) a w ≡ padded (all_words v.done ++ six_words (read_reply source (left * ROW))) m
      unfolding in_lent
      answers_next {w} e =
          let reply = read_reply source (left * ROW) in
          let part : mid_of (length (all_words v.done)) WORDS (padded (all_words v.done) m) ≡ zeros WORDS = mid_padded (all_words v.done) WORDS m fits in
          let six : w ≡ six_words reply = e ∙ rw (count, ← v.words, v.answers, part) in
          rw (six, count, ← v.words, v.answers) (put_padded (all_words v.done) WORDS m fits (six_words reply) (omega arith))

      pub so_far_next :
          {r : ℕ} {t' w : List ℕ}
          → r ≡ rows + length (rows_with source (whole_rows t - rows))
          → t' ≡ laid (rows_from t 0 rows ++ rows_with source (whole_rows t - rows)) (length t)
          → w ≡ in_lent (length (mid_of (k * WORDS) (k * WORDS + WORDS - k * WORDS) a)) (reply_numbers (read_reply source ((whole_rows t - rows) * ROW)))
          → SoFar buffer ends n m end r (k + 1) t' (put_mid (k * WORDS) (k * WORDS + WORDS - k * WORDS) a w)
      unfolding all_rows all_words
      so_far_next {r = r} e f g =
          let member = alone source left in
          let rs = rows_with source left in
          let more : all_rows (v.done ++ (member ∷ [])) ≡ all_rows v.done ++ rs =
          all_rows_append v.done (member ∷ []) ∙ ap (λ (l : List (List ℕ)). all_rows v.done ++ l) (append-nil rs) in
          let words_more : all_words (v.done ++ (member ∷ [])) ≡ all_words v.done ++ six_words member.answer =
          all_words_append v.done (member ∷ []) in
          let e' : r ≡ rows + length rs = rw left_is at e in
          record {
            done = v.done ++ (member ∷ []);
            rest = v.rest ∙ rw (rest_is, e') (sym (append_assoc v.done (member ∷ []) _));
            whole = rw more (are_rows_append v.whole (are_rows source left));
            counted = e' ∙ rw (more, length-append (all_rows v.done) rs, ← v.counted);
            room = omega (arith, e', few_rows source left, v.room);
            table = f ∙ rw (left_is, same_table, rows_are, more);
            words = rw (words_more, length-append (all_words v.done) (six_words member.answer)) (omega (arith, v.words));
            lent = omega arith;
            answers = answers_next (rw left_is at g) ∙ rw words_more;
            good = good_end.1;
          }

  -- after all
  pub so_far_all : length ends ≤ k → Written (readings buffer ends n) n m rows t a
  unfolding members sources_from
  so_far_all h =
      let none = from_end ends k h in
      let all : readings buffer ends n ≡ v.done = v.rest ∙ rw none (append-nil v.done) in
      record { counted = v.counted ∙ rw all; table = v.table ∙ rw all; answers = v.answers ∙ rw all }
