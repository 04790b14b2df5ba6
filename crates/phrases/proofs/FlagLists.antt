-- FL: the flag words of an element, each with a `|` before it but the first, read one after another.
-- Assumes nothing.
use Prim.Native.Nat.{ℕ, zero, suc, ◌≤◌}
use mathlib.Core.Path.{◌≡◌, refl, sym, ap, ◌∙◌}
use mathlib.Core.Bool.{true, false}
use mathlib.Core.List.{List, [], ◌∷◌, ◌++◌, append-nil, map}
use mathlib.Core.Logic.{◌≢◌, ◌⊎◌}
use mathlib.Core.Option.{none, some}
use native.Mathlib.Omega.{arith}
use lib.Dec.{eqb}
use lib.ListN.{length}
use borrow.Author.Tests.{eqb-true, eqb-false}
use Rattle.lex.specs.declared.Token as lex
use Rattle.lexemes.specs.Classes.{«|»}
use Rattle.lex.specs.Tokens.{token_at}
use Rattle.ll1.specs.Trees.{token, Trees, nil, leaf, node, leaves, Fits, fits_nil, fits_leaf, fits_node, Depth}
use Rattle.ll1.specs.ParseTable.{predict, member}
use Rattle.ll1.specs.Machine.{Due, due}
use Rattle.ll1.proofs.Lookups.{find_one}
use Rattle.grammar.specs.Rules.{<fl>, <numeric_fl>}
use Rattle.grammar.specs.Grammar.{rules}
use Rattle.grammar.specs.Notation.{t, r, plain}
use Rattle.grammar.specs.Lookahead.{lookahead}
use Rattle.grammar.specs.Derivation.{too_deep}
use Rattle.grammar.specs.Reading.{verdict_from}
use Rattle.grammar.specs.Ranges.{range_of, keeps as keepsRange, gathered, out_of_range_here, seconds_here}
use Rattle.grammar.specs.Flags.{seconds_in}
use Rattle.grammar.specs.Parts.{mark}
use Rattle.grammar.proofs.Equations.{verdict_take, verdict_none, verdict_ends_rule, verdict_in, verdict_open}
use Rattle.elements.specs.Entries.{node_entries, entries}
use Rattle.elements.specs.Kinds.{FLAG_LIST, NUMERIC_FLAGS, MAYBE, is_flag_list, starts_of}
use Rattle.elements.specs.declared.flags.Words.{Words}
use Rattle.elements.specs.Words.{no_words, with_word, list_entry, list_second}
use Rattle.elements.specs.Marks.{second, faults_here, faults, first_mark, with_second}
use Rattle.elements.proofs.MarkLaws.{noting_seconds}
use Rattle.elements.proofs.TreeLaws.{entries_node, faults_of, faults_node}
use Rattle.elements.proofs.Ways.{either_way, width}
use Rattle.elements.proofs.JoinedWords.{joined, joined_bar, question_entry, numeric_entry_lem, question_second, numeric_second}
use Rattle.elements.proofs.FlagWords.{Word, FlagRules, question_flags, numeric_flags_lem}
use Rattle.phrases.specs.Stream.{stream, resume, Within}
use Rattle.phrases.specs.Phrase.{Reader, with_entry, with_entries, ready, refusing, flags_from, taking_flags, reading}
use Rattle.phrases.proofs.Streams.{stream_on, within_at}
use Rattle.phrases.proofs.Resume.{resume_on, resume_no, refused_here, skipped_here}
use Rattle.phrases.proofs.Pieces.{One}
use Rattle.phrases.proofs.Taking.{Element}

-- the trees of the words of the element e from t on, each by rule C and those after the first by rule B
record FlagTrees (B C e : ℕ) (s : List ℕ) (x : Reader) (t : lex.Token) (w : Words) (c : Reader) : Type 0 where
  pub trees : Trees
  pub fits : Fits rules (r C ∷ r B ∷ []) trees
  pub reads : leaves trees ++ stream s c.token ≡ stream s t
  pub kept : c.kept ≡ with_entry x.kept (list_entry e (joined w (leaves trees)))
  pub noted : c.noted ≡ with_second x.noted (list_second e (joined w (leaves trees)))
  pub no_faults : faults s trees ≡ []

record FlagsRead (B C e : ℕ) (s : List ℕ) (x : Reader) (t : lex.Token) (w : Words) (c : Reader) : Type 0 where
  pub skip : c.skip ≡ 0
  pub verdict : (σ : List Due) (d : Depth) → too_deep d ≡ false → verdict_from (due d (r C) ∷ due d (r B) ∷ σ) (stream s t) ≡ resume s σ c.no c.token
  pub got : c.no ≡ 0 → FlagTrees B C e s x t w c
  pub within : Within s t → Within s c.token

-- the words ws of rule A
module _ (e : ℕ) {A B C : ℕ} {ws : List ℕ} (list : FlagRules A B C ws) (s : List ℕ) (x : Reader) (u : lex.Token) (w : Words) where
  refused_flags : member u.class ws ≡ false → FlagsRead B C e s x u w (refusing x u)
  refused_flags m =
      record {
        skip = refl;
        verdict = λ σ d o.
            let τ = due d (r B) ∷ σ in
            refused_here s (due d (r C) ∷ τ) u
            (λ q. verdict_ends_rule d C τ list.full.1)
            (λ q p ts. verdict_none d C τ u.class p ts (list.no_word u.class m) list.full.1)
            ∙ sym (resume_no s σ 3 u (λ q. omega arith));
        got = λ q. absurd (omega arith);
        within = λ h. h;
      }

  abbrev bar : lex.Token
  bar = token_at s u.end

  -- with the word at u
  abbrev words : Words
  words = with_word w u.class (mark u.start)

  module _ (m : member u.class ws ≡ true) where
    abbrev word : Word C u.class
    word = list.word u.class m

    -- the word is passed
    past_word : (σ : List Due) (d : Depth) → too_deep d ≡ false → verdict_from (due d (r C) ∷ σ) (stream s u) ≡ verdict_from σ (stream s bar)
    past_word σ d o = rw (stream_on s u word.below) (word.way.eats d σ u.start (stream s bar) o)

    -- it was the last
    last_flag :
        bar.class ≢ «|» → FlagsRead B C e s x u w (ready bar (with_second x.noted (list_second e words)) (with_entry x.kept (list_entry e words)))
    unfolding faults gathered
    last_flag q =
        let end = node B 0 nil nil in
        let same : words ≡ joined w (leaves (word.way.tree u.start end)) = sym (ap (joined w) (word.way.leaf_is u.start end)) in
        record {
          skip = refl;
          verdict = λ σ d o.
              past_word (due d (r B) ∷ σ) d o ∙ (skipped_here s bar d B σ (list.no_bar bar.class q) list.may_end ∙ sym (resume_on s σ 0 bar refl));
          got = λ q.
              record {
                trees = word.way.tree u.start end;
                fits = word.way.fits u.start (r B ∷ []) end (fits_node list.last fits_nil fits_nil);
                reads = rw (word.way.leaf_is u.start end) (sym (stream_on s u word.below));
                kept = ap (λ (v : Words). with_entry x.kept (list_entry e v)) same;
                noted = ap (λ (v : Words). with_second x.noted (list_second e v)) same;
                no_faults = word.faults_are s u.start end ∙ faults_node s B 0 nil nil (list.no_faults s 0 nil);
              };
          within = λ h. within_at s u.end;
        }

    -- others follow
    more_flags_lem : (c : Reader) → bar.class ≡ «|» → FlagsRead B C e s x (token_at s bar.end) words c → FlagsRead B C e s x u w c
    unfolding faults gathered
    more_flags_lem c is_bar later =
        record {
          skip = later.skip;
          verdict = λ σ d o. past_word (due d (r B) ∷ σ) d o ∙ (rw on (enters σ d o) ∙ later.verdict σ d o);
          got = λ q.
              let g = later.got q in
              let f = g.trees in
              let others = node B 1 (leaf (token «|» bar.start) f) nil in
              let past_bar = joined_bar words bar.start (leaves f ++ []) ∙ ap (joined words) (append-nil (leaves f)) in
              let same : joined words (leaves f) ≡ joined w (leaves (word.way.tree u.start others)) =
              sym (ap (joined w) (word.way.leaf_is u.start others) ∙ past_bar) in
              record {
                trees = word.way.tree u.start others;
                fits = word.way.fits u.start (r B ∷ []) others (fits_node list.another (fits_leaf g.fits) fits_nil);
                reads = rw (word.way.leaf_is u.start others, append-nil (leaves f), g.reads, ← on) (sym (stream_on s u word.below));
                kept = g.kept ∙ ap (λ (v : Words). with_entry x.kept (list_entry e v)) same;
                noted = g.noted ∙ ap (λ (v : Words). with_second x.noted (list_second e v)) same;
                no_faults =
                    word.faults_are s u.start others
                    ∙ (faults_node s B 1 (leaf (token «|» bar.start) f) nil (list.no_faults s 1 (leaf (token «|» bar.start) f)) ∙ rw g.no_faults);
              };
          within = λ h. later.within (within_at s bar.end);
        }
      where
        on : stream s bar ≡ token «|» bar.start ∷ stream s (token_at s bar.end)
        on = stream_on s bar (rw is_bar (omega arith)) ∙ rw is_bar

        enters :
            (σ : List Due) (d : Depth) → too_deep d ≡ false
            → verdict_from (due d (r B) ∷ σ) (token «|» bar.start ∷ stream s (token_at s bar.end))
            ≡ verdict_from (due d (r C) ∷ due d (r B) ∷ σ) (stream s (token_at s bar.end))
        enters σ d o =
            verdict_in d B σ 1 (plain (t «|» ∷ r C ∷ r B ∷ [])) «|» bar.start (stream s (token_at s bar.end)) list.bar list.another
            ∙ verdict_take d (due d (r C) ∷ due d (r B) ∷ σ) «|» bar.start (stream s (token_at s bar.end)) o

-- the words of the element e
module _ (e : ℕ) {A B C : ℕ} (list : FlagRules A B C (starts_of e)) (s : List ℕ) (x : Reader) where
  no_flags : (u : lex.Token) (w : Words) → length (stream s u) ≤ 0 → FlagsRead B C e s x u w (refusing x u)
  no_flags u w h =
      either_way (member u.class (starts_of e))
      (λ m. absurd (omega (arith, ap length (stream_on s u (list.word u.class m).below))))
      (λ m. refused_flags e list s x u w m)

  flags_step :
      (u : lex.Token) (w : Words) (n : ℕ) → length (stream s u) ≤ suc n
      → ((v : lex.Token) (w' : Words) → length (stream s v) ≤ n → FlagsRead B C e s x v w' (flags_from n s x e v w'))
      → FlagsRead B C e s x u w (flags_from (suc n) s x e u w)
  unfolding flags_from
  flags_step u w n h later =
      let bar = token_at s u.end in
      either_way (member u.class (starts_of e))
      (λ m.
      let few = ap length (stream_on s u (list.word u.class m).below) in
      rw m
      (either_way (eqb bar.class «|»)
      (λ q.
      let is_bar = eqb-true bar.class «|» q in
      let fewer = ap length (stream_on s bar (rw is_bar (omega arith))) in
      rw q (more_flags_lem e list s x u w m _ is_bar (later (token_at s bar.end) (with_word w u.class (mark u.start)) (omega arith))))
      (λ q. rw q (last_flag e list s x u w m (eqb-false bar.class «|» q)))))
      (λ m. rw m (refused_flags e list s x u w m))

  flags_read : (n : ℕ) (u : lex.Token) (w : Words) → length (stream s u) ≤ n → FlagsRead B C e s x u w (flags_from n s x e u w)
  unfolding flags_from
  flags_read zero u w h = no_flags u w h
  flags_read (suc n) u w h = flags_step u w n h (λ v w' h'. flags_read n v w' h')

-- ---- the element

-- what differs between the lists: the entry, and the faults of the tree itself, which are second words
record ListKeeps (A e : ℕ) : Type 0 where
  pub seconds : Trees → List ℕ
  pub entry_is : (c : Trees) (es : List ℕ) → node_entries A 0 c es ≡ list_entry e (joined no_words (leaves c)) ∷ []
  pub second_is : (c : Trees) → list_second e (joined no_words (leaves c)) ≡ first_mark (seconds c)
  pub faults_are : (s : List ℕ) (c : Trees) → faults_here s A 0 c ≡ map second (seconds c)

list_element : (e : ℕ) {A B C : ℕ} → eqb e MAYBE ≡ false → is_flag_list e ≡ true → width e ≡ 1 → ListKeeps A e → FlagRules A B C (starts_of e) → Element (r A) e
unfolding reading taking_flags entries with_entries
list_element e {A} {B} {C} not_maybe is_list one keeps list s c next z =
    rw (one, not_maybe, is_list)
    (either_way (member c.token.class (starts_of e))
    (λ m. rw m (read (taking_flags s c e) (flags_read e list s c (length (stream s c.token)) c.token no_words (omega arith))))
    (λ m. rw m (read (refusing c c.token) (refused_flags e list s c c.token no_words m))))
  where
    told : (k : ℕ) → (predict lookahead A k ≡ some 0) ⊎ (predict lookahead A k ≡ none)
    told k = rw list.first (find_one (starts_of e) k)

    read : (c' : Reader) → FlagsRead B C e s c c.token no_words c' → One s (r A) 1 c c'
    read c' m =
        record {
          skip = m.skip;
          verdict = λ σ d o.
              resume_on s (due d (r A) ∷ σ) c.no c.token z
              ∙ (verdict_open d A σ (plain (r C ∷ r B ∷ [])) (stream s c.token) list.full.0 list.whole told ∙ m.verdict σ d o);
          got = λ q.
              let g = m.got q in
              let f = g.trees in
              record {
                before = z;
                tree = node A 0 f;
                own = leaves f;
                kept_own = list_entry e (joined no_words (leaves f)) ∷ [];
                faults_own = map second (keeps.seconds f);
                fits = λ α h k. fits_node list.whole g.fits k;
                few = omega arith;
                leaves_are = λ h. refl;
                entries_are = λ h. entries_node A 0 h g.fits ∙ rw (keeps.entry_is f (entries f));
                faults_are = λ h. faults_of s A 0 f h ∙ rw (g.no_faults, keeps.faults_are s f);
                reads = g.reads;
                kept = g.kept;
                noted = g.noted ∙ rw (keeps.second_is f) (sym (noting_seconds c.noted (keeps.seconds f)));
              };
          within = m.within;
        }

pub flag_list_lem : Element (r <fl>) FLAG_LIST
unfolding starts_of node_entries faults_here seconds_here out_of_range_here range_of keepsRange
flag_list_lem = list_element FLAG_LIST refl refl refl keeps question_flags
  where
    keeps : ListKeeps <fl> FLAG_LIST
    keeps =
        record {
          seconds = λ c. [];
          entry_is = λ c es. ap (λ n. n ∷ []) (sym (question_entry c));
          second_is = question_second;
          faults_are = λ s c. refl;
        }

pub numeric_flag_list : Element (r <numeric_fl>) NUMERIC_FLAGS
unfolding starts_of node_entries faults_here seconds_here out_of_range_here range_of keepsRange
numeric_flag_list = list_element NUMERIC_FLAGS refl refl refl keeps numeric_flags_lem
  where
    keeps : ListKeeps <numeric_fl> NUMERIC_FLAGS
    keeps =
        record {
          seconds = seconds_in;
          entry_is = λ c es. ap (λ n. n ∷ []) (sym (numeric_entry_lem c));
          second_is = numeric_second;
          faults_are = λ s c. append-nil (map second (seconds_in c));
        }
