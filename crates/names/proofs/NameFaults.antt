-- The index finds the rows that grammar says a name finds, and stage 9 by it finds the first of the faults that grammar lists.
use Prim.Native.Nat.{ℕ, suc, ◌+◌, ◌-◌, ◌≤◌, ◌<◌}
use mathlib.Core.Path.{◌≡◌, refl, sym, ap, ◌∙◌}
use mathlib.Core.Bool.{Bool, true, false, not, cond, ◌&&◌, ◌||◌, and-false, or-false, true≢false}
use mathlib.Core.List.{List, [], ◌∷◌}
use native.Mathlib.Decide.{ℕ_discrete}
use native.Mathlib.Omega.{arith}
use borrow.Author.Tests.{lt-ltb, le-leb, lt-leb, ltb-true, eq-eqb, ne_eqb, eqb-true}
use lib.Dec.{eqb, ltb, leb}
use lib.ListN.{length, get_or, set, drop, length-set, length-drop}
use lib.Seq.{get_or-set_same, get_or-set_other, drop-set-lt, drop-set-add}
use Rattle.lexemes.specs.Words.{word, same_word}
use Rattle.lexemes.proofs.Equality.{same_word_true}
use Rattle.numbers.proofs.Ranges.{and_yes}
use Rattle.rows.specs.Codes as code
use Rattle.rows.specs.Codes.{is_question, questions, member}
use Rattle.rows.specs.Columns as column
use Rattle.answers.specs.Rows.{Draft}
use Rattle.answers.specs.Stages.{cell, is, asks, any, place_of, declares, same_sort, fault_if, faults_after, repeated_names}
use Rattle.drafts.specs.Sound.{MARKS, SoundRow, AllSound, no_rows, add_row, SoundRows, First, none}
use Rattle.names.specs.Names.{HASHES, BUCKETS, hash_of, key_of, bucket_of, tag_of, entry_of, tag_in, link_in, row_in, mark_in, added, names_in, indexed, follow, same_name, matches, find_in, repeats, repeated_from, sort_of, declares_mark, first_row, Indexes}
use Rattle.drafts.proofs.RowTests.{any_none, any_cons, any_same}
use Rattle.drafts.proofs.Firsts.{first_cond}
use Rattle.names.proofs.ChainLaws.{follow_out, follow_set, follow_new}
use Rattle.names.proofs.NameLaws.{added_room, repeats_unnamed, repeats_named, names_unnamed, names_named, indexed_unnamed, indexed_named, indexed_none}

-- ---- the parts of an entry

module _ (t l i m : ℕ) where
  tag_kept : tag_in (entry_of t l i m) ≡ t
  tag_kept = omega arith

  link_kept : l < MARKS → link_in (entry_of t l i m) ≡ l
  link_kept h = omega arith

  row_kept : i < MARKS → row_in (entry_of t l i m) ≡ i
  row_kept h = omega arith

  mark_kept : m < MARKS → mark_in (entry_of t l i m) ≡ m
  mark_kept h = omega arith

-- ---- keys

rule_asks_not : is_question code.RULE ≡ false
unfolding is_question questions member
rule_asks_not = refl

-- a row that declares a name is of one sort
sort_rule : {d : Draft} → SoundRow d → (cell column.NAME d ≡ 0 → ⊥) → (rule : Bool) → sort_of rule d ≡ cond rule (is code.RULE d) (not (is code.RULE d))
sort_rule {d} s z true = refl
sort_rule {d} s z false = go (is code.RULE d) refl (s.name (omega (arith, z)))
  where
    go : (b : Bool) → is code.RULE d ≡ b → (asks d || b) ≡ true → asks d ≡ not b
    go true e f = ap is_question (eqb-true (cell column.CODE d) code.RULE e) ∙ rule_asks_not
    go false e f = sym (or-false (asks d)) ∙ f

-- keys of one hash have one bucket, and one tag exactly for one sort
module _ (h : ℕ) where
  one_bucket : (rule : Bool) → bucket_of (h + cond rule HASHES 0) ≡ bucket_of h
  one_bucket true = omega arith
  one_bucket false = omega arith

  same_tags : (a b : Bool) → eqb (tag_of (h + cond a HASHES 0)) (tag_of (h + cond b HASHES 0)) ≡ cond b a (not a)
  same_tags true true = eq-eqb (tag_of (h + HASHES)) (tag_of (h + HASHES)) refl
  same_tags true false = ne_eqb (tag_of (h + HASHES)) (tag_of (h + 0)) (λ e. omega arith)
  same_tags false true = ne_eqb (tag_of (h + 0)) (tag_of (h + HASHES)) (λ e. omega arith)
  same_tags false false = eq-eqb (tag_of (h + 0)) (tag_of (h + 0)) refl

module _ (s : List ℕ) where
  key_is : (m : ℕ) (rule : Bool) → (m ≡ 0 → ⊥) → key_of s m rule ≡ hash_of 0 (word (drop (place_of m) s)) + cond rule HASHES 0
  unfolding key_of
  key_is m rule z = rw (ne_eqb m 0 z)

  module _ (n m : ℕ) (a rule : Bool) (y : n ≡ 0 → ⊥) (z : m ≡ 0 → ⊥) where
    same_hash : same_word s (place_of n) (place_of m) ≡ true → hash_of 0 (word (drop (place_of n) s)) ≡ hash_of 0 (word (drop (place_of m) s))
    same_hash e = ap (hash_of 0) (same_word_true s (place_of n) (place_of m) e)

    -- with the same word the keys have one bucket
    same_bucket : same_word s (place_of n) (place_of m) ≡ true → bucket_of (key_of s m rule) ≡ bucket_of (key_of s n a)
    same_bucket e =
        rw (key_is n a y, key_is m rule z)
        (one_bucket (hash_of 0 (word (drop (place_of m) s))) rule ∙ ap bucket_of (sym (same_hash e)) ∙ sym (one_bucket (hash_of 0 (word (drop (place_of n) s))) a))

    -- and their tags tell the sort
    tag_and_word : (eqb (tag_of (key_of s n a)) (tag_of (key_of s m rule)) && same_word s (place_of n) (place_of m)) ≡ (cond rule a (not a) && same_word s (place_of n) (place_of m))
    tag_and_word = go (same_word s (place_of n) (place_of m)) refl
      where
        go : (b : Bool) → same_word s (place_of n) (place_of m) ≡ b → (eqb (tag_of (key_of s n a)) (tag_of (key_of s m rule)) && b) ≡ (cond rule a (not a) && b)
        go true e = rw (key_is n a y, key_is m rule z, same_hash e, same_tags (hash_of 0 (word (drop (place_of m) s))) a rule)
        go false e = and-false (eqb (tag_of (key_of s n a)) (tag_of (key_of s m rule))) ∙ sym (and-false (cond rule a (not a)))

  -- a row without a name declares none
  unnamed : (d : Draft) → cell column.NAME d ≡ 0 → (m : ℕ) (rule : Bool) → declares_mark s m rule d ≡ false
  unnamed d e m rule = rw e (and-false (sort_of rule d))

  module _ {d : Draft} (u : SoundRow d) (y : cell column.NAME d ≡ 0 → ⊥) where
    -- the key of a row
    abbrev row_key : ℕ
    row_key = key_of s (cell column.NAME d) (is code.RULE d)

    -- the entry of a row matches exactly where the row declares the name
    entry_matches : (l i m : ℕ) (rule : Bool) → (m ≡ 0 → ⊥)
        → matches s (tag_of (key_of s m rule)) m (entry_of (tag_of row_key) l i (cell column.NAME d)) ≡ declares_mark s m rule d
    unfolding same_name
    entry_matches l i m rule z =
        let n : ℕ = cell column.NAME d in
        rw (
          tag_kept (tag_of row_key) l i n,
          mark_kept (tag_of row_key) l i n u.name_mark,
          lt-ltb 0 n (omega (arith, y)),
          lt-ltb 0 m (omega (arith, z)),
          sort_rule u y rule,
        )
        (tag_and_word n m (is code.RULE d) rule y z)

    -- a name that it declares has its bucket
    declared_bucket : (m : ℕ) (rule : Bool) → (m ≡ 0 → ⊥) → declares_mark s m rule d ≡ true → bucket_of (key_of s m rule) ≡ bucket_of row_key
    declared_bucket m rule z e =
        let both = and_yes (sort_of rule d) _ e in
        same_bucket (cell column.NAME d) m (is code.RULE d) rule y z (and_yes (ltb 0 (cell column.NAME d)) _ both.1).1

-- ---- the chains of the rows from row i on

pub names_few : (ds : List Draft) → names_in ds ≤ length ds
unfolding names_in
names_few [] = omega arith
names_few (d ∷ ds) = go (eqb (cell column.NAME d) 0) (names_few ds)
  where
    go : (b : Bool) → names_in ds ≤ length ds → cond b (names_in ds) (suc (names_in ds)) ≤ suc (length ds)
    go true h = omega arith
    go false h = omega arith

-- an index without entries
abbrev pub Blank : List ℕ → Type 0
Blank xs = (b : ℕ) → b < BUCKETS → get_or xs b 0 ≡ 0

module _ (s : List ℕ) where
  record Chains (xs₀ xs : List ℕ) (i : ℕ) (ds : List Draft) : Type 0 where
    long : length xs ≡ length xs₀
    heads : (b : ℕ) → b < BUCKETS → get_or xs b 0 ≤ names_in ds
    finds : (m : ℕ) (rule : Bool) → (m ≡ 0 → ⊥) → find_in s xs m rule ≡ first_row (declares_mark s m rule) i ds

  find_is : (xs : List ℕ) (m : ℕ) (rule : Bool) → find_in s xs m rule ≡ follow (matches s (tag_of (key_of s m rule)) m) (drop BUCKETS xs) (get_or xs (bucket_of (key_of s m rule)) 0)
  unfolding find_in
  find_is xs m rule = refl

  first_cons : (p : Draft → Bool) (i : ℕ) (d : Draft) (ds : List Draft) → first_row p i (d ∷ ds) ≡ cond (p d) (i + 1) (first_row p (i + 1) ds)
  unfolding first_row
  first_cons p i d ds = refl

  chains_none : (xs : List ℕ) (i : ℕ) → Blank xs → Chains xs xs i []
  unfolding names_in first_row
  chains_none xs i h =
      record {
        long = refl;
        heads = λ b l. omega (arith, h b l);
        finds = λ m rule z.
            find_is xs m rule
            ∙ follow_out (matches s (tag_of (key_of s m rule)) m) (drop BUCKETS xs) (get_or xs (bucket_of (key_of s m rule)) 0) (λ a b. omega (arith, h (bucket_of (key_of s m rule)) (omega arith)));
      }

  -- one row more, with a name
  module _ {xs₀ xs : List ℕ} {i : ℕ} {d : Draft} {ds : List Draft} (v : Chains xs₀ xs (i + 1) ds) (u : SoundRow d) (y : cell column.NAME d ≡ 0 → ⊥)
      (row : i < MARKS) (few : names_in ds < MARKS) (room : BUCKETS + names_in ds < length xs) where
    abbrev n : ℕ
    n = names_in ds

    abbrev key : ℕ
    key = key_of s (cell column.NAME d) (is code.RULE d)

    abbrev entry : ℕ
    entry = entry_of (tag_of key) (get_or xs (bucket_of key) 0) i (cell column.NAME d)

    abbrev entered : List ℕ
    entered = set xs (length xs - suc n) entry

    abbrev ys : List ℕ
    ys = set entered (bucket_of key) (suc n)

    old_head : get_or xs (bucket_of key) 0 ≤ n
    old_head = v.heads (bucket_of key) (omega arith)

    link_is : link_in entry ≡ get_or xs (bucket_of key) 0
    link_is = link_kept (tag_of key) (get_or xs (bucket_of key) 0) i (cell column.NAME d) (omega (arith, old_head))

    many : length (drop BUCKETS xs) ≡ length xs - BUCKETS
    many = length-drop BUCKETS xs

    entries_are : drop BUCKETS ys ≡ set (drop BUCKETS xs) (length (drop BUCKETS xs) - suc n) entry
    entries_are =
        let slot : length xs - suc n ≡ BUCKETS + (length (drop BUCKETS xs) - suc n) = omega (arith, many) in
        drop-set-lt BUCKETS entered (bucket_of key) (suc n) (omega arith) ∙ rw slot (drop-set-add BUCKETS xs (length (drop BUCKETS xs) - suc n) entry)

    head_own : get_or ys (bucket_of key) 0 ≡ suc n
    head_own = get_or-set_same entered (bucket_of key) (suc n) 0 (omega (arith, length-set xs (length xs - suc n) entry))

    head_other : (b : ℕ) → b < BUCKETS → (b ≡ bucket_of key → ⊥) → get_or ys b 0 ≡ get_or xs b 0
    head_other b l f = get_or-set_other entered (bucket_of key) b (suc n) 0 f ∙ get_or-set_other xs (length xs - suc n) b entry 0 (λ e. omega arith)

    finds_named : (m : ℕ) (rule : Bool) → (m ≡ 0 → ⊥) → find_in s ys m rule ≡ cond (declares_mark s m rule d) (i + 1) (first_row (declares_mark s m rule) (i + 1) ds)
    finds_named m rule z = find_is ys m rule ∙ go (ℕ_discrete b (bucket_of key))
      where
        b : ℕ
        b = bucket_of (key_of s m rule)

        p : ℕ → Bool
        p = matches s (tag_of (key_of s m rule)) m

        before : follow p (drop BUCKETS xs) (get_or xs b 0) ≡ first_row (declares_mark s m rule) (i + 1) ds
        before = sym (find_is xs m rule) ∙ v.finds m rule z

        other : (c : Bool) → declares_mark s m rule d ≡ c → (b ≡ bucket_of key → ⊥) → first_row (declares_mark s m rule) (i + 1) ds ≡ cond c (i + 1) (first_row (declares_mark s m rule) (i + 1) ds)
        other true e f = absurd (f (declared_bucket s u y m rule z e))
        other false e f = refl

        go : Dec (b ≡ bucket_of key) → follow p (drop BUCKETS ys) (get_or ys b 0) ≡ cond (declares_mark s m rule d) (i + 1) (first_row (declares_mark s m rule) (i + 1) ds)
        go (yes e) =
            rw (entries_are, e, head_own)
            (follow_new p (drop BUCKETS xs) n entry (omega (arith, many)) (omega (arith, link_is, old_head))
            ∙ rw (entry_matches s u y (get_or xs (bucket_of key) 0) i m rule z, row_kept (tag_of key) (get_or xs (bucket_of key) 0) i (cell column.NAME d) row, link_is, ← e, before))
        go (no f) =
            rw (entries_are, head_other b (omega arith) f)
            (follow_set p (drop BUCKETS xs) n entry (get_or xs b 0) (omega (arith, many)) (v.heads b (omega arith)) ∙ before ∙ other (declares_mark s m rule d) refl f)

    chains_named : Chains xs₀ (added xs n key i (cell column.NAME d)) i (d ∷ ds)
    chains_named =
        rw (added_room xs n key i (cell column.NAME d) room)
        record {
          long = length-set entered (bucket_of key) (suc n) ∙ length-set xs (length xs - suc n) entry ∙ v.long;
          heads = λ b l. heads_named b l (ℕ_discrete b (bucket_of key));
          finds = λ m rule z. finds_named m rule z ∙ sym (first_cons (declares_mark s m rule) i d ds);
        }
      where
        heads_named : (b : ℕ) → b < BUCKETS → Dec (b ≡ bucket_of key) → get_or ys b 0 ≤ names_in (d ∷ ds)
        heads_named b l (yes e) = rw e (omega (arith, head_own, names_named d ds y))
        heads_named b l (no f) = omega (arith, head_other b l f, v.heads b l, names_named d ds y)

  -- one without
  chains_unnamed : {xs₀ xs : List ℕ} {i : ℕ} {d : Draft} {ds : List Draft} → Chains xs₀ xs (i + 1) ds → cell column.NAME d ≡ 0 → Chains xs₀ xs i (d ∷ ds)
  chains_unnamed {i = i} {d = d} {ds = ds} v e =
      record {
        long = v.long;
        heads = λ b l. omega (arith, v.heads b l, names_unnamed d ds e);
        finds = λ m rule z. v.finds m rule z ∙ sym (first_cons (declares_mark s m rule) i d ds ∙ rw (unnamed s d e m rule));
      }

  chains : {ds : List Draft} → AllSound ds → (i : ℕ) → i + length ds ≤ MARKS → (xs : List ℕ) → Blank xs → BUCKETS + names_in ds ≤ length xs → Chains xs (indexed s i ds xs) i ds
  chains no_rows i h xs z l = rw (indexed_none s i xs) (chains_none xs i z)
  chains (add_row {d = d} {ds = ds} u r) i h xs z l = go (ℕ_discrete (cell column.NAME d) 0) (chains r (i + 1) (omega arith) xs z)
    where
      go : Dec (cell column.NAME d ≡ 0) → (BUCKETS + names_in ds ≤ length xs → Chains xs (indexed s (i + 1) ds xs) (i + 1) ds) → Chains xs (indexed s i (d ∷ ds) xs) i (d ∷ ds)
      go (yes e) f = rw (indexed_unnamed d ds s i xs e) (chains_unnamed (f (omega (arith, names_unnamed d ds e))) e)
      go (no y) f =
          let v = f (omega (arith, names_named d ds y)) in
          rw (indexed_named d ds s i xs y) (chains_named v u y (omega arith) (omega (arith, names_few ds)) (omega (arith, names_named d ds y, v.long)))

-- the index of sound rows, made in one that is blank and has room
pub index_made : {ds : List Draft} → SoundRows ds → (s xs : List ℕ) → Blank xs → BUCKETS + names_in ds ≤ length xs → {ys : List ℕ} → ys ≡ indexed s 0 ds xs → Indexes s ds ys
index_made v s xs z l e =
    let made = chains s v.each 0 (omega (arith, v.few)) xs z l in
    record { finds = λ m rule h. rw e (made.finds m rule (λ f. omega arith)) }

-- ---- repeated names

-- the rows before row i, and those from it on, are all
record Met (all before rest : List Draft) (i : ℕ) : Type 0 where
  early : (p : Draft → Bool) → any p before ≡ true → (0 < first_row p 0 all) × (first_row p 0 all ≤ i)
  late : (p : Draft → Bool) → any p before ≡ false → first_row p 0 all ≡ first_row p i rest

met_start : (all : List Draft) → Met all [] all 0
met_start all = record { early = λ p e. absurd (true≢false (sym e ∙ any_none p)); late = λ p e. refl }

met_next : {all before rest : List Draft} {d : Draft} {i : ℕ} → Met all before (d ∷ rest) i → Met all (d ∷ before) rest (i + 1)
met_next {all} {before} {rest} {d} {i} v =
    record {
      early = λ p e. early_next p (any p before) refl (p d) refl (sym (any_cons p d before) ∙ e);
      late = λ p e. late_next p (any p before) refl (p d) refl (sym (any_cons p d before) ∙ e);
    }
  where
    at_row : (p : Draft → Bool) → any p before ≡ false → first_row p 0 all ≡ cond (p d) (i + 1) (first_row p (i + 1) rest)
    at_row p e = v.late p e ∙ first_cons [] p i d rest

    early_next : (p : Draft → Bool) (a : Bool) → any p before ≡ a → (b : Bool) → p d ≡ b → (b || any p before) ≡ true → (0 < first_row p 0 all) × (first_row p 0 all ≤ i + 1)
    early_next p true e b f g = let w = v.early p e in (w.0, omega (arith, w.1))
    early_next p false e true f g = let w : first_row p 0 all ≡ i + 1 = at_row p e ∙ rw f in (omega arith, omega arith)
    early_next p false e false f g = absurd (true≢false (sym g ∙ e))

    late_next : (p : Draft → Bool) (a : Bool) → any p before ≡ a → (b : Bool) → p d ≡ b → (b || any p before) ≡ false → first_row p 0 all ≡ first_row p (i + 1) rest
    late_next p a e true f g = absurd (true≢false g)
    late_next p true e false f g = absurd (true≢false (sym e ∙ g))
    late_next p false e false f g = at_row p e ∙ rw f

-- a first row from row i on is not before it
pub first_after : (p : Draft → Bool) (i : ℕ) (ds : List Draft) → 0 < first_row p i ds → i < first_row p i ds
unfolding first_row
first_after p i [] h = absurd (omega arith)
first_after p i (d ∷ ds) h = go (p d) (first_after p (i + 1) ds) h
  where
    go : (b : Bool) → (0 < first_row p (i + 1) ds → i + 1 < first_row p (i + 1) ds) → 0 < cond b (i + 1) (first_row p (i + 1) ds) → i < cond b (i + 1) (first_row p (i + 1) ds)
    go true f h = omega arith
    go false f h = omega (arith, f h)

-- the first row of all is one before row i exactly where some row before passes the test
met_any : {all before rest : List Draft} {i : ℕ} → Met all before rest i → (p : Draft → Bool) → (ltb 0 (first_row p 0 all) && leb (first_row p 0 all) i) ≡ any p before
met_any {all} {before} {rest} {i} v p = go (any p before) refl
  where
    first : ℕ
    first = first_row p 0 all

    go : (b : Bool) → any p before ≡ b → (ltb 0 first && leb first i) ≡ b
    go true e = let w = v.early p e in rw (lt-ltb 0 first w.0, le-leb first i w.1)
    go false e = by (ℕ_discrete first 0)
      where
        by : Dec (first ≡ 0) → (ltb 0 first && leb first i) ≡ false
        by (yes z) = rw z
        by (no z) = rw (lt-leb first i (omega (arith, v.late p e, first_after p i rest (omega (arith, v.late p e))))) (and-false (ltb 0 first))

module _ (s : List ℕ) where
  -- rows of the sort of a row that declares a name
  same_sort_lem : {d : Draft} → SoundRow d → (cell column.NAME d ≡ 0 → ⊥) → (e : Draft) → same_sort s d e ≡ sort_of (is code.RULE d) e
  same_sort_lem {d} u y e = go (is code.RULE d) refl (sort_rule u y false)
    where
      go : (b : Bool) → is code.RULE d ≡ b → asks d ≡ not (is code.RULE d) → (asks d && asks e || b && is code.RULE e) ≡ sort_of b e
      go true f g = rw (g, f)
      go false f g = rw (g, f) (or-false (asks e))

  -- a row before declares the row's name
  abbrev name_fault : List Draft → Draft → Bool
  name_fault before d = ltb 0 (cell column.NAME d) && any (λ e. same_sort s d e && declares s (place_of (cell column.NAME d)) e) before

  abbrev name_faults : List Draft → Draft → List ℕ
  name_faults before d = fault_if (name_fault before d) (cell column.NAME d)

  module _ {xs : List ℕ} {all : List Draft} (index : Indexes s all xs) where
    row_repeats : {before rest : List Draft} {i : ℕ} {d : Draft} → Met all before rest i → SoundRow d → repeats s xs i d ≡ name_fault before d
    row_repeats {before} {rest} {i} {d} v u = go (ℕ_discrete n 0)
      where
        n : ℕ
        n = cell column.NAME d

        go : Dec (n ≡ 0) → repeats s xs i d ≡ name_fault before d
        go (yes z) = repeats_unnamed s xs i d refl z ∙ rw z
        go (no y) =
            let p : Draft → Bool = declares_mark s n (is code.RULE d) in
            repeats_named s xs i d refl y refl
            ∙ rw (index.finds n (is code.RULE d) (omega (arith, y)), met_any v p, lt-ltb 0 n (omega (arith, y)))
            (sym (any_same _ p (λ x. rw (same_sort_lem u y x)) before))

    names_from : {ds : List Draft} → AllSound ds → (i : ℕ) (before : List Draft) → Met all before ds i → First (repeated_from s xs i ds) (faults_after name_faults before ds)
    unfolding repeated_from faults_after
    names_from no_rows i before v = none
    names_from (add_row {d = d} {ds = ds} u r) i before v =
        rw (row_repeats v u) (first_cond (name_fault before d) (λ e. ltb-true 0 _ (and_yes (ltb 0 (cell column.NAME d)) _ e).0) (names_from r (i + 1) (d ∷ before) (met_next v)))

-- stage 9 answers grammar's first fault
pub names_first : {ds : List Draft} → SoundRows ds → {s xs : List ℕ} → Indexes s ds xs → First (repeated_from s xs 0 ds) (repeated_names s ds)
unfolding repeated_names
names_first {ds} v {s} index = names_from s index v.each 0 [] (met_start ds)
