-- The index of declared names, and stage 9 by it (document 01, "Refusal numbers", No. 9).
use Rattle.std.specs.Prelude.{ℕ, suc, ◌+◌, ◌-◌, ◌*◌, ◌/◌, ◌%◌, ◌<◌, ◌≤◌, ◌≡◌, Bool, true, false, cond, ◌&&◌, List, [], ◌∷◌, eqb, ltb, leb, length, get_or, set, drop}
use Rattle.lexemes.specs.Words.{word, same_word}
use Rattle.rows.specs.Codes as code
use Rattle.rows.specs.Columns as column
use Rattle.answers.specs.Rows.{Draft}
use Rattle.answers.specs.Stages.{cell, is, asks, place_of, declares}
use Rattle.drafts.specs.Sound.{MARKS}
use Rattle.names.specs.declared.Entry.{Entry}

-- ---- keys: names of one sort that are the same have the same key

-- hashes lie below it
abbrev pub HASHES : ℕ
HASHES = 4194304

-- what bytes count by
abbrev pub BASE : ℕ
BASE = 403

-- the hash of bytes after others with the hash h
unfoldable pub hash_of : ℕ → List ℕ → ℕ
hash_of h [] = h
hash_of h (b ∷ w) = hash_of ((h * BASE + b) % HASHES) w

-- the key of the name at a mark, of a rule or of a question
unfoldable pub key_of : List ℕ → ℕ → Bool → ℕ
key_of s m rule = cond (eqb m 0) 0 (hash_of 0 (word (drop (place_of m) s)) + cond rule HASHES 0)

-- how many buckets there are
abbrev pub BUCKETS : ℕ
BUCKETS = 1024

-- the bucket of a key, and the rest of the key
abbrev pub bucket_of : ℕ → ℕ
bucket_of k = k % BUCKETS

abbrev pub tag_of : ℕ → ℕ
tag_of k = k / BUCKETS

-- ---- entries

-- what an entry counts its link by, and its tag
abbrev pub LINKS : ℕ
LINKS = 17179869184

abbrev pub TAGS : ℕ
TAGS = 2251799813685248

-- tag, link, row and mark in one number
abbrev pub entry_of : ℕ → ℕ → ℕ → ℕ → ℕ
entry_of tag link row mark = tag * TAGS + link % MARKS * LINKS + row % MARKS * MARKS + mark % MARKS

abbrev pub tag_in : ℕ → ℕ
tag_in e = e / TAGS

abbrev pub link_in : ℕ → ℕ
link_in e = e / LINKS % MARKS

abbrev pub row_in : ℕ → ℕ
row_in e = e / MARKS % MARKS

abbrev pub mark_in : ℕ → ℕ
mark_in e = e % MARKS

-- its parts
abbrev pub unpacked : ℕ → Entry
unpacked e = record { tag = tag_in e; link = link_in e; row = row_in e; mark = mark_in e }

-- e is the entry of the number j
abbrev pub EntryAt : List ℕ → ℕ → Entry → Type 0
EntryAt es j e = (0 < j) × (j ≤ length es) × (e ≡ unpacked (get_or es (length es - j) 0))

-- ---- an index: the heads of the buckets, and then the entries, numbered from 1 on from the last one back

-- an index of n entries with one more, where it has room: its link is the head of its bucket before
unfoldable pub added : List ℕ → ℕ → ℕ → ℕ → ℕ → List ℕ
added xs n key row mark =
    cond (ltb (BUCKETS + n) (length xs))
    (set (set xs (length xs - suc n) (entry_of (tag_of key) (get_or xs (bucket_of key) 0) row mark)) (bucket_of key) (suc n)) xs

-- how many rows declare a name
unfoldable pub names_in : List Draft → ℕ
names_in [] = 0
names_in (d ∷ ds) = let more = names_in ds in cond (eqb (cell column.NAME d) 0) more (suc more)

-- an index with the rows that declare a name, from row i on, entered from the last to the first
unfoldable pub indexed : List ℕ → ℕ → List Draft → List ℕ → List ℕ
indexed s i [] xs = xs
indexed s i (d ∷ ds) xs =
    let more = indexed s (i + 1) ds xs in
    cond (eqb (cell column.NAME d) 0) more (added more (names_in ds) (key_of s (cell column.NAME d) (is code.RULE d)) i (cell column.NAME d))

-- ---- searching

-- along the chain from entry j of the entries: the row plus one of the first entry that passes the test, 0 where there is none. An entry
-- links to those after it
unfoldable pub follow : (ℕ → Bool) → List ℕ → ℕ → ℕ
follow p [] j = 0
follow p (e ∷ es) j =
    let later = follow p es j in
    let linked = follow p es (link_in e) in
    cond (eqb j (suc (length es))) (cond (p e) (row_in e + 1) linked) later

module _ (s : List ℕ) where
  -- the names at two marks are the same
  unfoldable pub same_name : ℕ → ℕ → Bool
  same_name m n = ltb 0 m && (ltb 0 n && same_word s (place_of m) (place_of n))

  -- the entry has the tag, and the name at a mark
  abbrev pub matches : ℕ → ℕ → ℕ → Bool
  matches tag m e = eqb (tag_in e) tag && same_name (mark_in e) m

  module _ (xs : List ℕ) where
    -- the row plus one of the first that declares the name at a mark, of a rule or of a question; 0 where there is none
    unfoldable pub find_in : ℕ → Bool → ℕ
    find_in m rule = follow (matches (tag_of (key_of s m rule)) m) (drop BUCKETS xs) (get_or xs (bucket_of (key_of s m rule)) 0)

    -- the name that row i declares finds a row before it
    unfoldable pub repeats : ℕ → Draft → Bool
    repeats i d = let first = find_in (cell column.NAME d) (is code.RULE d) in ltb 0 (cell column.NAME d) && (ltb 0 first && leb first i)

    -- the mark of the first name, from row i on, by which a row before is found, 0 where there is none
    unfoldable pub repeated_from : ℕ → List Draft → ℕ
    repeated_from i [] = 0
    repeated_from i (d ∷ ds) = let later = repeated_from (i + 1) ds in cond (repeats i d) (cell column.NAME d) later

-- ---- the same over rows

-- a row of the sort that a name is of: a rule, or a question
abbrev pub sort_of : Bool → Draft → Bool
sort_of true d = is code.RULE d
sort_of false d = asks d

-- it declares the name at a mark
abbrev pub declares_mark : List ℕ → ℕ → Bool → Draft → Bool
declares_mark s m rule d = sort_of rule d && declares s (place_of m) d

-- the row plus one of the first row from row i on that passes the test, 0 where none does
unfoldable pub first_row : (Draft → Bool) → ℕ → List Draft → ℕ
first_row p i [] = 0
first_row p i (d ∷ ds) = let later = first_row p (i + 1) ds in cond (p d) (i + 1) later

-- the index xs finds what the rows ds declare
pub record Indexes (s : List ℕ) (ds : List Draft) (xs : List ℕ) : Type 0 where
  pub finds : (m : ℕ) (rule : Bool) → 0 < m → find_in s xs m rule ≡ first_row (declares_mark s m rule) 0 ds
