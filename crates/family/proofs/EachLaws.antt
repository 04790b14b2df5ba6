-- The sources of a family one by one: where the rows and the words of each stand, and that both are those of reading it alone.
-- Assumes nothing.
use Prim.Native.Nat.{ℕ, zero, suc, ◌+◌, ◌-◌, ◌*◌, ◌≤◌, ◌<◌}
use native.Mathlib.Nat.{sub-zero}
use native.Mathlib.Numerals.{add-one}
use native.Mathlib.Omega.{arith}
use mathlib.Core.Path.{◌≡◌, refl, sym, ap, ◌∙◌}
use mathlib.Core.List.{List, [], ◌∷◌, ◌++◌, append-nil, append_assoc}
use lib.ListN.{length, get_or, take, drop, length-append, get_or-append}
use lib.Seq.{take-append-add, drop_at, get_or-append-add, get_or-take, get_or-drop}
use Rattle.lexemes.proofs.Lists.{from_end, from_next}
use Rattle.rows.specs.Columns.{ROW}
use Rattle.rows.specs.Table.{row_at}
use Rattle.rows.specs.Rows.{rows_from, laid}
use Rattle.rows.proofs.RunLaws.{rows_are}
use Rattle.rows.proofs.LaidLaws.{row_laid}
use Rattle.replies.specs.Replies.{Reply, read_reply}
use Rattle.family.specs.Family.{WORDS, Member, rows_with, alone, members, all_rows, all_words, six_words, rows_taken}
use Rattle.family.specs.Each.{word_at, words_at, taken_at, taken_before}
use Rattle.family.proofs.PaddedLaws.{zeros, padded}
use Rattle.family.proofs.NextLaws.{rows_taken_lem}
use Rattle.family.proofs.MemberLaws.{all_rows_append, all_words_append, length_all_words, members_rows}

-- ---- six words in a list of answers

-- a word of six
pub word_of : (a : List ℕ) (i j : ℕ) → j < WORDS → word_at a i j ≡ get_or (words_at a i) j 0
word_of a i j h = sym (get_or-drop (i * WORDS) (take (i * WORDS + WORDS) a) j 0 ∙ get_or-take (i * WORDS + WORDS) a (i * WORDS + j) 0 (omega arith))

module _ (a : List ℕ) (i : ℕ) (r : Reply) (e : words_at a i ≡ six_words r) where
  pub number_told : word_at a i 0 ≡ r.number
  number_told = word_of a i 0 (omega arith) ∙ ap (λ (l : List ℕ). get_or l 0 0) e

  pub rows_told : word_at a i 2 ≡ r.rows
  rows_told = word_of a i 2 (omega arith) ∙ ap (λ (l : List ℕ). get_or l 2 0) e

  pub taken_told : taken_at a i ≡ rows_taken r
  taken_told = rw (number_told, rows_told)

-- six words behind those of i answers
words_behind : (p : List ℕ) (r : Reply) (z : List ℕ) (i : ℕ) → length p ≡ i * WORDS → words_at (p ++ (six_words r ++ z)) i ≡ six_words r
words_behind p r z i e =
    ap (λ (k : ℕ). drop (i * WORDS) (take (k + WORDS) (p ++ (six_words r ++ z)))) (sym e)
    ∙ ap (drop (i * WORDS)) (take-append-add p (six_words r ++ z) WORDS)
    ∙ drop_at p (six_words r) (i * WORDS) e

-- ---- the sources ss, read with so many rows; their words in a list of m

module _ (whole : ℕ) (ss : List (List ℕ)) (m : ℕ) where
  abbrev all : List Member
  all = members whole ss

  abbrev pub words : List ℕ
  words = padded (all_words all) m

  -- after i of them
  record After (i : ℕ) : Type 0 where
    front : List Member
    split : all ≡ front ++ members (whole - length (all_rows front)) (drop i ss)
    many : length front ≡ i
    taken : taken_before words i ≡ length (all_rows front)

  -- the rows left for source i, which the sources before it do not take
  abbrev left_at : ℕ → ℕ
  left_at i = whole - taken_before words i

  abbrev source_of : ℕ → List ℕ
  source_of i = get_or ss i []

  -- source i, behind those before it
  record At (i : ℕ) : Type 0 where
    front : List Member
    back : List Member
    split : all ≡ front ++ (alone (source_of i) (left_at i) ∷ back)
    rest : back ≡ members (left_at i - length (rows_with (source_of i) (left_at i))) (drop (i + 1) ss)
    many : length front ≡ i
    taken : taken_before words i ≡ length (all_rows front)

  at_after : (i : ℕ) → i < length ss → After i → At i
  unfolding members
  at_after i h v =
      let left : whole - length (all_rows v.front) ≡ left_at i = ap (λ (k : ℕ). whole - k) (sym v.taken) in
      let next : drop i ss ≡ source_of i ∷ drop (i + 1) ss = from_next ss i [] h in
      let is : all ≡ v.front ++ members (left_at i) (source_of i ∷ drop (i + 1) ss) =
      v.split ∙ ap (λ (l : List (List ℕ)). v.front ++ members (whole - length (all_rows v.front)) l) next
      ∙ ap (λ (k : ℕ). v.front ++ members k (source_of i ∷ drop (i + 1) ss)) left in
      record { front = v.front; back = _; split = is; rest = refl; many = v.many; taken = v.taken }

  -- the words of source i
  words_at_lem : (i : ℕ) (v : At i) → words_at words i ≡ six_words (read_reply (source_of i) (left_at i * ROW))
  unfolding all_words
  words_at_lem i v =
      let member = alone (source_of i) (left_at i) in
      let z = zeros (m - length (all_words all)) in
      let joined : all_words all ≡ all_words v.front ++ (six_words member.answer ++ all_words v.back) =
      ap all_words v.split ∙ all_words_append v.front (member ∷ v.back) in
      let whole_list : words ≡ all_words v.front ++ (six_words member.answer ++ (all_words v.back ++ z)) =
      ap (λ (l : List ℕ). l ++ z) joined ∙ append_assoc (all_words v.front) (six_words member.answer ++ all_words v.back) z in
      ap (λ (l : List ℕ). words_at l i) whole_list
      ∙ words_behind (all_words v.front) member.answer (all_words v.back ++ z) i (length_all_words v.front ∙ ap (λ (k : ℕ). k * WORDS) v.many)

  -- the rows that it takes
  taken_at_lem : (i : ℕ) → At i → taken_at words i ≡ length (rows_with (source_of i) (left_at i))
  taken_at_lem i v = taken_told words i (read_reply (source_of i) (left_at i * ROW)) (words_at_lem i v) ∙ rows_taken_lem (source_of i) (left_at i)

  after_at : (i : ℕ) → At i → After (suc i)
  unfolding taken_before all_rows
  after_at i v =
      let member = alone (source_of i) (left_at i) in
      let rs = rows_with (source_of i) (left_at i) in
      let more : length (all_rows (v.front ++ (member ∷ []))) ≡ length (all_rows v.front) + length rs =
      ap length (all_rows_append v.front (member ∷ [])) ∙ length-append (all_rows v.front) (rs ++ [])
      ∙ ap (λ (l : List (List ℕ)). length (all_rows v.front) + length l) (append-nil rs) in
      let fewer : left_at i - length rs ≡ whole - length (all_rows (v.front ++ (member ∷ []))) = omega (arith, more, v.taken) in
      let next : v.back ≡ members (whole - length (all_rows (v.front ++ (member ∷ [])))) (drop (suc i) ss) =
      v.rest ∙ rw (← add-one i) (ap (λ (k : ℕ). members k (drop (i + 1) ss)) fewer) in
      record {
        front = v.front ++ (member ∷ []);
        split = v.split ∙ sym (append_assoc v.front (member ∷ []) v.back) ∙ ap (λ (l : List Member). v.front ++ (member ∷ []) ++ l) next;
        many = length-append v.front (member ∷ []) ∙ omega (arith, v.many);
        taken = omega (arith, taken_at_lem i v, v.taken, more);
      }

  after : (i : ℕ) → i ≤ length ss → After i
  unfolding taken_before all_rows
  after zero h = record { front = []; split = rw sub-zero; many = refl; taken = refl }
  after (suc i) h = after_at i (at_after i (omega arith) (after i (omega arith)))

  -- ---- what stands in the answers and in the table

  -- all rows are those that the answers take
  pub taken_all : taken_before words (length ss) ≡ length (all_rows all)
  unfolding members
  taken_all =
      let v = after (length ss) (omega arith) in
      let none : drop (length ss) ss ≡ [] = from_end ss (length ss) (omega arith) in
      let same : all ≡ v.front = v.split ∙ rw none (append-nil v.front) in
      v.taken ∙ ap (λ (l : List Member). length (all_rows l)) (sym same)

  module _ (i : ℕ) (inside : i < length ss) where
    at : At i
    at = at_after i inside (after i (omega arith))

    -- the answer of source i is that of reading it alone with the rows that are left
    pub words_alone : words_at words i ≡ six_words (read_reply (source_of i) (left_at i * ROW))
    words_alone = words_at_lem i at

    -- and so are its rows
    pub rows_alone :
        (n : ℕ) → rows_from (laid (all_rows all) n) (taken_before words i) (length (rows_with (source_of i) (left_at i))) ≡ rows_with (source_of i) (left_at i)
    unfolding all_rows
    rows_alone n =
        let rs = rows_with (source_of i) (left_at i) in
        let before = all_rows at.front in
        let joined : all_rows all ≡ before ++ (rs ++ all_rows at.back) =
        ap all_rows at.split ∙ all_rows_append at.front (alone (source_of i) (left_at i) ∷ at.back) in
        let row_of : (j : ℕ) → j < length rs → get_or (all_rows all) (length before + j) [] ≡ get_or rs j [] =
        λ j h. ap (λ (l : List (List ℕ)). get_or l (length before + j) []) joined
        ∙ get_or-append-add before (rs ++ all_rows at.back) j [] ∙ get_or-append rs (all_rows at.back) [] j h in
        let size : length (all_rows all) ≡ length before + (length rs + length (all_rows at.back)) =
        ap length joined ∙ length-append before (rs ++ all_rows at.back)
        ∙ ap (λ (k : ℕ). length before + k) (length-append rs (all_rows at.back)) in
        rows_are (laid (all_rows all) n) rs (taken_before words i)
        (λ j h.
        ap (λ (k : ℕ). row_at (laid (all_rows all) n) (k + j)) at.taken
        ∙ row_laid (members_rows whole ss) n (length before + j) (omega (arith, size)) ∙ row_of j h)
