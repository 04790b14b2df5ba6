-- The index of names as the code makes and searches it.
use Prim.Native.Nat.{ℕ, zero, suc, ◌+◌, ◌-◌, ◌*◌, ◌%◌, ◌≤◌, ◌<◌}
use mathlib.Core.Path.{◌≡◌, refl, sym, ap, ◌∙◌}
use mathlib.Core.Bool.{Bool, true, false, cond, ◌&&◌, and-false}
use mathlib.Core.List.{List, [], ◌∷◌}
use native.Mathlib.Numerals.{add-one}
use native.Mathlib.Omega.{arith}
use borrow.Author.Tests.{lt-ltb, le-ltb, eq-eqb, ne_eqb, ltb-true, le-leb, lt-leb}
use denote.Param.Members.{Mut}
use lib.Dec.{ltb, leb}
use lib.ListN.{length, get_or, set, take, drop, length-set, length-drop, drop_of_length-le}
use lib.Seq.{take_all}
use Rattle.std.specs.Prelude.{Option, Some, None}
use Rattle.rows.specs.Marks.{marked}
use Rattle.numbers.proofs.Ranges.{and_yes}
use Rattle.lexemes.specs.Words.{run, word, same_word}
use Rattle.lexemes.proofs.WordParts.{first, word_ends, word_goes_on}
use Rattle.rows.specs.Codes as code
use Rattle.rows.specs.Columns as column
use Rattle.answers.specs.Rows.{Draft}
use Rattle.answers.specs.Stages.{cell, is}
use Rattle.answers.specs.Drafts.{drafts_from}
use Rattle.drafts.specs.Faults.{draft_at}
use Rattle.names.specs.Names.{HASHES, BASE, BUCKETS, hash_of, key_of, bucket_of, tag_of, entry_of, added, names_in, indexed, follow, same_name, matches, find_in, repeats, repeated_from}
use Rattle.names.proofs.ChainLaws.{follow_out}
use Rattle.drafts.proofs.DraftLaws.{drafts_start, drafts_next, drafts_end}
use Rattle.drafts.proofs.FaultLaws.{Answers, FirstAnswer}

-- ---- the hash of a word

hash_none : (h : ℕ) → hash_of h [] ≡ h
unfolding hash_of
hash_none h = refl

hash_cons : (h b : ℕ) (w : List ℕ) → hash_of h (b ∷ w) ≡ hash_of ((h * BASE + b) % HASHES) w
unfolding hash_of
hash_cons h b w = refl

pub record Hashing (s : List ℕ) (at h i : ℕ) : Type 0 where
  pub small : h < HASHES
  pub same : hash_of 0 (word (drop at s)) ≡ hash_of h (word (drop i s))

pub hashing_start : (s : List ℕ) (at : ℕ) → Hashing s at 0 at
hashing_start s at = record { small = omega arith; same = refl }

module _ {s : List ℕ} {at h i : ℕ} (v : Hashing s at h i) where
  pub hashing_next : {b : ℕ} → b ≡ first s i → (b ≡ 0 → ⊥) → Hashing s at ((h * BASE + b) % HASHES) (i + 1)
  hashing_next {b} e z =
      record {
        small = omega arith;
        same = v.same ∙ rw (word_goes_on s i (λ f. z (e ∙ f))) (hash_cons h (first s i) (word (drop (i + 1) s)) ∙ rw e);
      }

  pub hashing_stop : {b : ℕ} → b ≡ first s i → b ≡ 0 → h ≡ hash_of 0 (word (drop at s))
  hashing_stop e z = sym (v.same ∙ rw (word_ends s i (sym e ∙ z)) (hash_none h))

  pub hashing_end : length s ≤ i → h ≡ hash_of 0 (word (drop at s))
  unfolding run
  hashing_end l = sym (v.same ∙ rw (drop_of_length-le s l) (hash_none h))

-- ---- the key of a name

module _ (s : List ℕ) (rule : Bool) where
  pub key_none : key_of s 0 rule ≡ 0
  unfolding key_of
  key_none = refl

  pub key_some : (p : ℕ) → key_of s (p + 1) rule ≡ hash_of 0 (word (drop p s)) + cond rule HASHES 0
  unfolding key_of
  key_some p = let e : p + 1 - 1 ≡ p = omega arith in rw (ne_eqb (p + 1) 0 (λ z. omega arith), e)

-- ---- the names at two marks

module _ (s : List ℕ) where
  pub unnamed_first : (n : ℕ) → same_name s 0 n ≡ false
  unfolding same_name
  unnamed_first n = refl

  pub unnamed_second : (m : ℕ) → same_name s m 0 ≡ false
  unfolding same_name
  unnamed_second m = and-false (ltb 0 m)

  pub named_both : (p q : ℕ) → same_name s (p + 1) (q + 1) ≡ same_word s p q
  unfolding same_name
  named_both p q = let e : p + 1 - 1 ≡ p = omega arith in let f : q + 1 - 1 ≡ q = omega arith in rw (lt-ltb 0 (p + 1) (omega arith), lt-ltb 0 (q + 1) (omega arith), e, f)

-- ---- an entry more

module _ (xs : List ℕ) (n key row mark : ℕ) where
  pub add_none : length xs ≤ BUCKETS + n → xs ≡ added xs n key row mark
  unfolding added
  add_none h = rw (le-ltb (BUCKETS + n) (length xs) h)

  pub added_room : BUCKETS + n < length xs
      → added xs n key row mark ≡ set (set xs (length xs - suc n) (entry_of (tag_of key) (get_or xs (bucket_of key) 0) row mark)) (bucket_of key) (suc n)
  unfolding added
  added_room h = rw (lt-ltb (BUCKETS + n) (length xs) h)

  pub add_some : BUCKETS + n < length xs → {b tag x : ℕ} → b ≡ bucket_of key → tag ≡ tag_of key → x ≡ entry_of tag (get_or xs b 0) row mark
      → set (set xs (length xs - 1 - n) x) b (n + 1) ≡ added xs n key row mark
  add_some h f g e = let slot : length xs - 1 - n ≡ length xs - suc n = omega arith in rw (slot, add-one n, e, g, f) (sym (added_room h))

  pub length_added : length (added xs n key row mark) ≡ length xs
  unfolding added
  length_added = go (ltb (BUCKETS + n) (length xs))
    where
      x : ℕ
      x = entry_of (tag_of key) (get_or xs (bucket_of key) 0) row mark

      go : (b : Bool) → length (cond b (set (set xs (length xs - suc n) x) (bucket_of key) (suc n)) xs) ≡ length xs
      go true = length-set (set xs (length xs - suc n) x) (bucket_of key) (suc n) ∙ length-set xs (length xs - suc n) x
      go false = refl

-- ---- the rows that declare names

module _ (d : Draft) (ds : List Draft) where
  pub names_unnamed : cell column.NAME d ≡ 0 → names_in (d ∷ ds) ≡ names_in ds
  unfolding names_in
  names_unnamed e = rw (eq-eqb (cell column.NAME d) 0 e)

  pub names_named : (cell column.NAME d ≡ 0 → ⊥) → names_in (d ∷ ds) ≡ suc (names_in ds)
  unfolding names_in
  names_named z = rw (ne_eqb (cell column.NAME d) 0 z)

  module _ (s : List ℕ) (i : ℕ) (xs : List ℕ) where
    pub indexed_unnamed : cell column.NAME d ≡ 0 → indexed s i (d ∷ ds) xs ≡ indexed s (i + 1) ds xs
    unfolding indexed
    indexed_unnamed e = rw (eq-eqb (cell column.NAME d) 0 e)

    pub indexed_named : (cell column.NAME d ≡ 0 → ⊥)
        → indexed s i (d ∷ ds) xs ≡ added (indexed s (i + 1) ds xs) (names_in ds) (key_of s (cell column.NAME d) (is code.RULE d)) i (cell column.NAME d)
    unfolding indexed
    indexed_named z = rw (ne_eqb (cell column.NAME d) 0 z)

names_none : names_in [] ≡ 0
unfolding names_in
names_none = refl

pub indexed_none : (s : List ℕ) (i : ℕ) (xs : List ℕ) → indexed s i [] xs ≡ xs
unfolding indexed
indexed_none s i xs = refl

-- the loop of `index_names`: the rows from row i on are entered, n of them
pub record Entering (s t : List ℕ) (c : ℕ) (xs₀ xs : List ℕ) (n i : ℕ) : Type 0 where
  pub few : n + i ≤ c
  pub long : length xs ≡ length xs₀
  pub count : n ≡ names_in (drafts_from t i (c - i))
  pub same : xs ≡ indexed s i (drafts_from t i (c - i)) xs₀

pub entering_start : (s t : List ℕ) (c : ℕ) (xs : List ℕ) → Entering s t c xs xs 0 c
entering_start s t c xs =
    record { few = omega arith; long = refl; count = rw (drafts_end t c c (omega arith)) (sym names_none); same = rw (drafts_end t c c (omega arith)) (sym (indexed_none s c xs)) }

module _ {s t xs₀ xs : List ℕ} {c n i : ℕ} (v : Entering s t c xs₀ xs n i) where
  pub entering_end : i ≤ 0 → (n ≡ names_in (drafts_from t 0 c)) × (xs ≡ indexed s 0 (drafts_from t 0 c) xs₀)
  entering_end h = let z : i ≡ 0 = omega arith in (v.count ∙ rw (z, ← drafts_start t c), v.same ∙ rw (z, ← drafts_start t c))

  module _ (h : 0 < i) {m : ℕ} (e : m ≡ cell column.NAME (draft_at t (i - 1))) where
    abbrev d : Draft
    d = draft_at t (i - 1)

    abbrev ds : List Draft
    ds = drafts_from t i (c - i)

    split : drafts_from t (i - 1) (c - (i - 1)) ≡ d ∷ ds
    split = let z : i - 1 + 1 ≡ i = omega arith in drafts_next t (i - 1) c (omega (arith, v.few)) ∙ rw z

    pub entering_unnamed : m ≡ 0 → Entering s t c xs₀ xs n (i - 1)
    entering_unnamed z =
        let y : i - 1 + 1 ≡ i = omega arith in
        record {
          few = omega (arith, v.few);
          long = v.long;
          count = v.count ∙ rw split (sym (names_unnamed d ds (sym e ∙ z)));
          same = v.same ∙ rw split (sym (indexed_unnamed d ds s (i - 1) xs₀ (sym e ∙ z) ∙ rw y));
        }

    pub entering_named : (m ≡ 0 → ⊥) → {xs' : List ℕ} → xs' ≡ added xs n (key_of s m (is code.RULE d)) (i - 1) m → Entering s t c xs₀ xs' (n + 1) (i - 1)
    entering_named z {xs'} g =
        let y : i - 1 + 1 ≡ i = omega arith in
        record {
          few = omega (arith, v.few);
          long = rw g (length_added xs n (key_of s m (is code.RULE d)) (i - 1) m ∙ v.long);
          count = add-one n ∙ ap suc v.count ∙ rw split (sym (names_named d ds (λ x. z (e ∙ x))));
          same = g ∙ rw (split, e) (sym (indexed_named d ds s (i - 1) xs₀ (λ x. z (e ∙ x)) ∙ rw (y, ← v.same, ← v.count)));
        }

-- ---- a name looked for, by the bucket and the tag of its key

module _ (s xs : List ℕ) (m : ℕ) (rule : Bool) where
  pub find_none : length xs < BUCKETS → 0 ≡ find_in s xs m rule
  unfolding find_in
  find_none h = rw (drop_of_length-le xs {i = BUCKETS} (omega arith)) (sym (follow_out (matches s (tag_of (key_of s m rule)) m) [] (get_or xs (bucket_of (key_of s m rule)) 0) (λ a b. omega arith)))

  pub find_along : {b tag r : ℕ} → b ≡ bucket_of (key_of s m rule) → tag ≡ tag_of (key_of s m rule)
      → r ≡ follow (matches s tag m) (take (length xs - BUCKETS) (drop BUCKETS xs)) (get_or xs b 0) → r ≡ find_in s xs m rule
  unfolding find_in
  find_along e f g = g ∙ rw (take_all (length xs - BUCKETS) (drop BUCKETS xs) (omega (arith, length-drop BUCKETS xs)), e, f)

-- ---- a name repeated

-- the mark of the name by which row i finds a row before, 0 where it finds none
abbrev pub repeated_at : List ℕ → List ℕ → ℕ → Draft → ℕ
repeated_at s xs i d = cond (repeats s xs i d) (cell column.NAME d) 0

module _ (s xs : List ℕ) where
  repeated_none : (i : ℕ) → repeated_from s xs i [] ≡ 0
  unfolding repeated_from
  repeated_none i = refl

  repeated_cons : (i : ℕ) (d : Draft) (ds : List Draft) → repeated_from s xs i (d ∷ ds) ≡ cond (repeats s xs i d) (cell column.NAME d) (repeated_from s xs (i + 1) ds)
  unfolding repeated_from
  repeated_cons i d ds = refl

  -- row i by the mark of its name, and the row plus one that it finds
  module _ (i : ℕ) (d : Draft) {m : ℕ} (e : m ≡ cell column.NAME d) where
    pub repeats_unnamed : m ≡ 0 → repeats s xs i d ≡ false
    unfolding repeats
    repeats_unnamed z = rw (← e, z)

    pub repeats_named : (m ≡ 0 → ⊥) → {f : ℕ} → f ≡ find_in s xs m (is code.RULE d) → repeats s xs i d ≡ (ltb 0 f && leb f i)
    unfolding repeats
    repeats_named z g = rw (← e, lt-ltb 0 m (omega (arith, z)), ← g)

  module _ (i : ℕ) (d : Draft) where
    pub repeated_unnamed : cell column.NAME d ≡ 0 → repeated_at s xs i d ≡ 0
    repeated_unnamed e = rw (repeats_unnamed i d refl e)

    module _ (p : ℕ) (e : p + 1 ≡ cell column.NAME d) where
      by_found : {f : ℕ} → f ≡ find_in s xs (p + 1) (is code.RULE d) → repeated_at s xs i d ≡ cond (ltb 0 f && leb f i) (p + 1) 0
      by_found g = rw (repeats_named i d e (λ z. omega arith) g, ← e)

      pub repeated_nowhere : 0 ≡ find_in s xs (p + 1) (is code.RULE d) → 0 ≡ repeated_at s xs i d
      repeated_nowhere g = sym (by_found g)

      module _ (first : ℕ) (g : first + 1 ≡ find_in s xs (p + 1) (is code.RULE d)) where
        pub repeated_before : first < i → p + 1 ≡ repeated_at s xs i d
        repeated_before h = sym (by_found g ∙ rw (lt-ltb 0 (first + 1) (omega arith), le-leb (first + 1) i (omega arith)))

        pub repeated_after : i ≤ first → 0 ≡ repeated_at s xs i d
        repeated_after h = sym (by_found g ∙ rw (lt-ltb 0 (first + 1) (omega arith), lt-leb (first + 1) i (omega arith)))

    -- a row repeats a name where it has a mark
    repeats_yes : {m : ℕ} → m ≡ repeated_at s xs i d → 0 < m → (repeats s xs i d ≡ true) × (m ≡ cell column.NAME d)
    repeats_yes {m} e h = go (repeats s xs i d) e
      where
        go : (b : Bool) → m ≡ cond b (cell column.NAME d) 0 → (b ≡ true) × (m ≡ cell column.NAME d)
        go true f = (refl, f)
        go false f = absurd (omega arith)

    repeats_no : 0 ≡ repeated_at s xs i d → repeats s xs i d ≡ false
    unfolding repeats
    repeats_no e = go (repeats s xs i d) refl e
      where
        go : (b : Bool) → repeats s xs i d ≡ b → 0 ≡ cond b (cell column.NAME d) 0 → b ≡ false
        go true f g = absurd (omega (arith, ltb-true 0 (cell column.NAME d) (and_yes (ltb 0 (cell column.NAME d)) _ f).0))
        go false f g = refl

-- row i and those after it have the same first repeated name as all rows
pub record Scanning (s xs t : List ℕ) (c i : ℕ) : Type 0 where
  pub inside : i ≤ c
  pub same : repeated_from s xs 0 (drafts_from t 0 c) ≡ repeated_from s xs i (drafts_from t i (c - i))

pub scanning_start : (s xs t : List ℕ) (c : ℕ) → Scanning s xs t c 0
scanning_start s xs t c = record { inside = omega arith; same = ap (repeated_from s xs 0) (drafts_start t c) }

module _ {s xs t : List ℕ} {c i : ℕ} (v : Scanning s xs t c i) where
  pub scanning_end : c ≤ i → 0 ≡ repeated_from s xs 0 (drafts_from t 0 c)
  scanning_end h = sym (v.same ∙ rw (drafts_end t i c h) (repeated_none s xs i))

  module _ (h : i < c) where
    by_row : repeated_from s xs 0 (drafts_from t 0 c)
        ≡ cond (repeats s xs i (draft_at t i)) (cell column.NAME (draft_at t i)) (repeated_from s xs (i + 1) (drafts_from t (i + 1) (c - (i + 1))))
    by_row = v.same ∙ rw (drafts_next t i c h) (repeated_cons s xs i (draft_at t i) (drafts_from t (i + 1) (c - (i + 1))))

    pub scanning_here : {m : ℕ} → m ≡ repeated_at s xs i (draft_at t i) → 0 < m → m ≡ repeated_from s xs 0 (drafts_from t 0 c)
    scanning_here e l = let r = repeats_yes s xs i (draft_at t i) e l in r.1 ∙ sym (by_row ∙ rw r.0)

    pub scanning_next : 0 ≡ repeated_at s xs i (draft_at t i) → Scanning s xs t c (i + 1)
    scanning_next e = record { inside = omega arith; same = by_row ∙ rw (repeats_no s xs i (draft_at t i) e) }

-- where a closure answers it of each row, its first answer is that of the first row which repeats a name
module _ {F : Type 0} {g : Mut F (ℕ × Unit {0}) (Option ℕ)} {f : F} (s xs t : List ℕ) (c : ℕ)
    (told : (row : ℕ) (m : Option ℕ) → row < c → Answers g f row m → marked m ≡ repeated_at s xs row (draft_at t row)) where
  passed : (i : ℕ) → i ≤ c → ((row : ℕ) → row < i → Answers g f row None) → Scanning s xs t c i
  passed zero l h = scanning_start s xs t c
  passed (suc i) l h =
      let before = passed i (omega arith) (λ k q. h k (omega arith)) in
      rw (← add-one) (scanning_next before (omega arith) (told i None (omega arith) (h i (omega arith))))

  pub first_repeated : (r : Option ℕ) → FirstAnswer g f c r → marked r ≡ repeated_from s xs 0 (drafts_from t 0 c)
  first_repeated None all = scanning_end (passed c (omega arith) all) (omega arith)
  first_repeated (Some m) (i, inside, here, before) = scanning_here (passed i (omega arith) before) inside (told i (Some m) inside here) (omega arith)
