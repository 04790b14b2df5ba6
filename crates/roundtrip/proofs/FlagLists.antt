-- A list of flag words as a shape: its words, its fit, its ranges and what is read of its classes, each by one induction for the rules of any FL.
-- Assumes nothing.
use mathlib.Core.Path.{◌≡◌, refl, ap, sym, ◌∙◌}
use mathlib.Core.List.{List, [], ◌∷◌, ◌++◌, map, append-nil}
use mathlib.Core.Bool.{Bool, true, false}
use Prim.Native.Nat.{ℕ, ◌<◌}
use native.Mathlib.Omega.{arith}
use lib.Dec.{ltb}
use lib.ListN.{get_or, get_elem?}
use borrow.Author.Tests.{ltb-true}
use Rattle.lexemes.specs.Lexemes.{signs, reserved, lexemes}
use Rattle.lexemes.specs.Classes as class
use Rattle.ll1.specs.Trees.{Token, token, Trees, nil, leaf, node, leaves, Symbol, nonterminal, Depth}
use Rattle.ll1.specs.ParseTable.{member}
use Rattle.ll1.specs.Test.{all}
use Rattle.ll1.proofs.Basics.{both, all_member}
use Rattle.grammar.specs.Notation.{t, r, one, star, choice}
use Rattle.grammar.specs.Grammar.{rules}
use Rattle.grammar.specs.Derivation.{too_deep}
use Rattle.grammar.specs.Ranges.{ranges, range_of}
use Rattle.grammar.specs.Flags.{FlagWord, flag_words, classes_of, class_of, classes}
use Rattle.grammar.proofs.Theorems.{flags_listed}
use Rattle.grammar.proofs.Choices.{place_in, choice_at}
use Rattle.grammar.proofs.FlagTotals.{foreign, none_of, PassesOver}
use Rattle.grammar.proofs.SizeWords.{set_tested}
use Rattle.rows.specs.Columns as column
use Rattle.answers.specs.Text.{barred, flag_list}
use Rattle.formulas.specs.Shapes.{Lexed, sign, word, Shape, s_nil, flat, lexed}
use Rattle.formulas.specs.Fitted.{Fitted, f_nil, f_leaf, f_node}
use Rattle.roundtrip.proofs.Ranged.{NodeKeeps, Ranged, Plain, plain_node}
use Rattle.roundtrip.proofs.Phrases.{say, row_flags, FlagRules, flag_rules, numeric_flag_rules, flag_shape, more_flags, flags_under, flags_shape, flags_part, goto_flags_part}

-- ---- the rules of an FL

-- what the grammar and the ranges say of them
pub record Listed (R : FlagRules) : Type 0 where
  pub list : get_or rules R.list [] ≡ one (r R.word ∷ r R.more ∷ [])
  pub more : get_or rules R.more [] ≡ star R.more (t class.«|» ∷ r R.word ∷ [])
  pub word : get_or rules R.word [] ≡ choice R.classes
  pub plain_more : Plain R.more
  pub plain_word : Plain R.word
  pub reserved : all (λ k. ltb k class.NAME) R.classes ≡ true

pub flags_are_listed : Listed flag_rules
unfolding rules range_of ranges
flags_are_listed =
    record {
      list = refl;
      more = refl;
      word = flags_listed.0;
      plain_more = record { range = refl; no_item = refl; no_list = refl };
      plain_word = record { range = refl; no_item = refl; no_list = refl };
      reserved = refl;
    }

pub numeric_flags_are_listed : Listed numeric_flag_rules
unfolding rules range_of ranges
numeric_flags_are_listed =
    record {
      list = refl;
      more = refl;
      word = flags_listed.1;
      plain_more = record { range = refl; no_item = refl; no_list = refl };
      plain_word = record { range = refl; no_item = refl; no_list = refl };
      reserved = refl;
    }

-- ---- words that an FL has

abbrev pub known : FlagRules → FlagWord → Bool
known R w = member w.class R.classes

abbrev pub Known : FlagRules → List FlagWord → Type 0
Known R ws = all (known R) ws ≡ true

pub flags_known : (row : List ℕ) → Known flag_rules (row_flags row)
flags_known row = set_tested (known flag_rules) (get_or row column.FLAGS 0) flag_words refl

module _ (R : FlagRules) where
  -- ---- its words, with others after them

  more_words : (ws : List FlagWord) (ls : List Lexed) → map word (lexed (more_flags R ws) ++ ls) ≡ barred ws ++ map word ls
  unfolding lexemes signs reserved
  more_words [] ls = refl
  more_words (w ∷ ws) ls =
      rw (append-nil (lexed (more_flags R ws))) (ap (λ l. word (sign class.«|») ∷ word (sign w.class) ∷ l) (more_words ws ls))

  pub list_words : (ws : List FlagWord) (ls : List Lexed) → map word (lexed (flags_under R ws) ++ ls) ≡ flag_list ws ++ map word ls
  list_words [] ls = refl
  list_words (w ∷ ws) ls = ap (λ l. word (sign w.class) ∷ l) (more_words ws ls)

  module _ (L : Listed R) where
    -- ---- it fits

    module _ {d : Depth} (u : too_deep d ≡ false) where
      word_fits :
          (w : FlagWord) {σ : List Symbol} {F : Trees} → known R w ≡ true → Fitted d σ F
          → Fitted d (nonterminal R.word ∷ σ) (node R.word (place_in R.classes w.class) (leaf (token w.class 0) nil) F)
      word_fits w h g =
          f_node (ap (λ l. get_elem? l (place_in R.classes w.class)) L.word ∙ choice_at R.classes w.class h) (f_leaf u f_nil) g

      more_fits : (ws : List FlagWord) → Known R ws → Fitted d (nonterminal R.more ∷ []) (flat (more_flags R ws))
      more_fits [] h = f_node (ap (λ l. get_elem? l 0) L.more) f_nil f_nil
      more_fits (w ∷ ws) h =
          let k = both (known R w) _ h in
          f_node (ap (λ l. get_elem? l 1) L.more) (f_leaf u (word_fits w k.0 (more_fits ws k.1))) f_nil

      pub list_fits :
          (w : FlagWord) (ws : List FlagWord) {σ : List Symbol} {F : Trees} → Known R (w ∷ ws) → Fitted d σ F
          → Fitted d (nonterminal R.list ∷ σ) (node R.list 0 (flat (flags_under R (w ∷ ws))) F)
      list_fits w ws h g =
          let k = both (known R w) _ h in
          f_node (ap (λ l. get_elem? l 0) L.list) (word_fits w k.0 (more_fits ws k.1)) g

    -- ---- its ranges

    word_valid : (w : FlagWord) → known R w ≡ true → w.class < class.NAME
    word_valid w h = ltb-true w.class class.NAME (all_member (λ k. ltb k class.NAME) R.classes w.class L.reserved h)

    word_ranged : (w : FlagWord) (f : Shape) → known R w ≡ true → Ranged f → Ranged (flag_shape R w f)
    word_ranged w f h = plain_node R.word (place_in R.classes w.class) (say w.class s_nil) f L.plain_word (word_valid w h, tt)

    more_ranged : (ws : List FlagWord) → Known R ws → Ranged (more_flags R ws)
    more_ranged [] h = plain_node R.more 0 s_nil s_nil L.plain_more tt tt
    more_ranged (w ∷ ws) h =
        let k = both (known R w) _ h in
        plain_node R.more 1 (say class.«|» (flag_shape R w (more_flags R ws))) s_nil L.plain_more
        (omega arith, word_ranged w (more_flags R ws) k.0 (more_ranged ws k.1)) tt

    pub list_ranged :
        (ws : List FlagWord) (f : Shape) → NodeKeeps R.list 0 (flags_under R ws) → Known R ws → Ranged f → Ranged (flags_shape R ws f)
    list_ranged [] f n h g = (n, tt, g)
    list_ranged (w ∷ ws) f n h g = let k = both (known R w) _ h in (n, word_ranged w (more_flags R ws) k.0 (more_ranged ws k.1), g)

-- ---- what is read of its classes

-- the classes beside its words, which are none of the words vs
abbrev pub frame : List ℕ
frame = class.«flags» ∷ class.«=» ∷ class.«|» ∷ class.comma ∷ []

framing : (vs : List FlagWord) → none_of vs frame ≡ true → (k : ℕ) → member k frame ≡ true → foreign vs k ≡ true
framing vs h k m = all_member (foreign vs) frame k h m

module _ (R : FlagRules) (vs : List FlagWord) (h : none_of vs frame ≡ true) {X : Type 0} where
  more_read :
      (ws : List FlagWord) (ts : List Token) (read : List ℕ → X)
      → PassesOver vs read → read (map class_of (leaves (flat (more_flags R ws)) ++ ts)) ≡ read (classes_of ws ++ map class_of ts)
  more_read [] ts read over = refl
  more_read (w ∷ ws) ts read over =
      rw (append-nil (leaves (flat (more_flags R ws)))) (
      over [] class.«|» (w.class ∷ map class_of (leaves (flat (more_flags R ws)) ++ ts)) (framing vs h class.«|» refl)
      ∙ more_read ws ts (λ ks. read (w.class ∷ ks)) (λ js. over (w.class ∷ js)))

  list_read :
      (ws : List FlagWord) (ts : List Token) (read : List ℕ → X)
      → PassesOver vs read → read (map class_of (leaves (flat (flags_under R ws)) ++ ts)) ≡ read (classes_of ws ++ map class_of ts)
  list_read [] ts read over = refl
  list_read (w ∷ ws) ts read over = more_read ws ts (λ ks. read (w.class ∷ ks)) (λ js. over (w.class ∷ js))

  module _ (ws : List FlagWord) (read : List ℕ → X) (over : PassesOver vs read) where
    pub under_read : read (classes (flat (flags_under R ws))) ≡ read (classes_of ws)
    under_read =
        ap (λ ts. read (map class_of ts)) (sym (append-nil (leaves (flat (flags_under R ws))))) ∙ list_read ws [] read over ∙ ap read (append-nil (classes_of ws))

  -- [flags = FL ,]
  module _ (read : List ℕ → X) (over : PassesOver vs read) where
    pub part_read : (ws : List FlagWord) → read (classes (flat (flags_part R ws))) ≡ read (classes_of ws)
    part_read [] = refl
    part_read (w ∷ ws) =
        let ks = map class_of (leaves (flat (flags_under R (w ∷ ws))) ++ token class.comma 0 ∷ []) in
        over [] class.«flags» (class.«=» ∷ ks) (framing vs h class.«flags» refl) ∙ over [] class.«=» ks (framing vs h class.«=» refl)
        ∙ list_read (w ∷ ws) (token class.comma 0 ∷ []) read over
        ∙ over (classes_of (w ∷ ws)) class.comma [] (framing vs h class.comma refl) ∙ ap read (append-nil (classes_of (w ∷ ws)))

-- [, flags = FL]
module _ (vs : List FlagWord) (h : none_of vs frame ≡ true) {X : Type 0} (read : List ℕ → X) (over : PassesOver vs read) where
  pub goto_read : (ws : List FlagWord) → read (classes (flat (goto_flags_part ws))) ≡ read (classes_of ws)
  goto_read [] = refl
  goto_read (w ∷ ws) =
      let ks = map class_of (leaves (flat (flags_under flag_rules (w ∷ ws))) ++ []) in
      over [] class.comma (class.«flags» ∷ class.«=» ∷ ks) (framing vs h class.comma refl)
      ∙ over [] class.«flags» (class.«=» ∷ ks) (framing vs h class.«flags» refl)
      ∙ over [] class.«=» ks (framing vs h class.«=» refl)
      ∙ list_read flag_rules vs h (w ∷ ws) [] read over ∙ ap read (append-nil (classes_of (w ∷ ws)))
