-- Items: statements without a condition, rules and conditions.
-- Assumes nothing.
use Prim.Native.Nat.{ℕ, suc, ◌+◌, ◌-◌, ◌≤◌, ◌<◌}
use mathlib.Core.Path.{◌≡◌, refl, ap, ◌∙◌}
use mathlib.Core.Bool.{Bool, true, false}
use mathlib.Core.List.{List, [], ◌∷◌, ◌++◌}
use mathlib.Core.Option.{some}
use mathlib.Core.Logic.{◌≢◌}
use native.Mathlib.Omega.{arith}
use native.Mathlib.Numerals.{add-one}
use lib.Dec.{eqb}
use lib.ListN.{length, replicate}
use borrow.Author.Tests.{eqb-true, ne_eqb, le-ltb}
use Rattle.lex.specs.declared.Token as lex
use Rattle.lexemes.specs.Classes as class
use Rattle.lexemes.specs.Classes.{BAD}
use Rattle.rows.specs.Table.{with_row}
use Rattle.ll1.specs.Trees.{token, Trees, leaf, node, alternative_of, fits_nil, fits_leaf, fits_node, Depth, depth}
use Rattle.ll1.specs.ParseTable.{predict}
use Rattle.ll1.specs.Machine.{Due, due, due_all}
use Rattle.ll1.proofs.Basics.{clash}
use Rattle.grammar.specs.Grammar.{rules}
use Rattle.grammar.specs.Notation.{t, r, plain, condition}
use Rattle.grammar.specs.Lookahead.{lookahead}
use Rattle.grammar.specs.Rules.{<rule>, <item>, <item>*, <or>}
use Rattle.grammar.specs.Derivation.{too_deep, max_conditions, max_groups}
use Rattle.grammar.specs.Ranges.{range_of}
use Rattle.grammar.specs.Source.{number_at}
use Rattle.grammar.specs.Positions.{item_numeric}
use Rattle.answers.specs.Expression.{number, expression}
use Rattle.answers.specs.Drafts.{encoded}
use Rattle.phrases.specs.declared.Cursor.{Cursor}
use Rattle.phrases.specs.Stream.{resume}
use Rattle.phrases.specs.Passed.{Passed}
use Rattle.elements.specs.Entries.{KEPT, entries}
use Rattle.elements.specs.Marks.{with_outside}
use Rattle.elements.specs.Symbols.{symbols_of, phrase_symbols, NUMERIC, RULE_OPEN, RULE_CLOSE, EXPRESSION_CLOSE, CONDITION_CLOSE}
use Rattle.fields.specs.Phrases.{kept, phrase_draft}
use Rattle.fields.specs.Sizes.{first_oversized}
use Rattle.fields.specs.Words.{word_codes, code_of, word_draft}
use Rattle.elements.specs.declared.noted.Noted.{Noted}
use Rattle.walk.specs.declared.State.{State}
use Rattle.walk.specs.Standing.{Standing, going}
use Rattle.walk.specs.Meanings.{◌⧺◌, kept_of, Counted, Under, Opening, Rowed, RuleRow, Worded, OperandRows, rows_own, rows_for}
use Rattle.walk.specs.Starts.{item_words, starts_item, condition_words, is_condition}
use Rattle.walk.specs.Walked.{Walked, Reads, Takes, Closes, deep, list_of, condition_of, OpensCondition, WalkedUnder, ReadsUnder, ReadsOperand}
use Rattle.walk.proofs.TreeLaws.{Faultless, faultless}
use Rattle.walk.proofs.Walks.{Joins, walked_then, counted_joins, walked_off, with_noted, walked_noting, walked_node, counted_node, resume_in, deep_walked}
use Rattle.walk.proofs.MeaningLaws.{under_joins, opening_joins, Content, content_under, opening_content, content_joins}
use Rattle.walk.proofs.StartLaws.{Each, one_of}
use Rattle.walk.proofs.PhraseSteps.{rowed, Held, row_held}
use Rattle.walk.proofs.Numerics.{numeric_noted}
use Rattle.walk.proofs.Statements.{makes_opening, numeric_row}
use Rattle.walk.proofs.StatementSteps.{closes_under}
use Rattle.walk.proofs.ListSteps.{list_more, items_are, rules_are, ListLoop, list_again}

-- ---- a numeric

-- with its row, and the first of its numbers noted that does not fit its size
abbrev pub sized_at : List ℕ → Standing → Cursor → List ℕ → Standing
sized_at s st c l = with_noted (rowed st c) (with_outside c.noted (first_oversized s (kept l)))

numeric_enters :
    (s : List ℕ) (d : Depth) (σ : List Due) (n : ℕ) (k : lex.Token)
    → k.class ≡ class.«numeric» → resume s (due d (r <item>) ∷ σ) n k ≡ resume s (due_all d (symbols_of NUMERIC) ++ σ) n k
unfolding rules lookahead symbols_of phrase_symbols
numeric_enters s d σ n k e = resume_in s d <item> σ n k item_numeric (plain (symbols_of NUMERIC)) (λ q. omega arith) (rw e) refl

-- where its phrase is refused
pub numeric_off :
    {s : List ℕ} {parent : ℕ} {st r' : Standing} {l l' t : List ℕ}
    → st.token.class ≡ class.«numeric» → Takes s NUMERIC st r' l l' → r'.no ≢ 0 → ReadsUnder s (r <item> ∷ []) parent st r' t t
numeric_off {s} {st = st} k p h =
    record {
      walked = λ d o.
          record {
            verdict = λ σ. numeric_enters s d σ st.no st.token k ∙ p.passed.verdict σ d o;
            within = p.passed.within;
            got = λ q. absurd (h q);
          };
    }

module _ {s : List ℕ} {parent : ℕ} {st : Standing} {l : List ℕ} {c : Cursor} (k : st.token.class ≡ class.«numeric»)
    (p : Passed s (symbols_of NUMERIC) st.no st.token st.noted (replicate KEPT 0) c l) where
  pub numeric_on :
      {t t' : List ℕ}
      → c.no ≡ 0 → t' ≡ with_row t st.rows (encoded (phrase_draft (number_at s) st.token.class parent st.token.start (kept l)))
      → ReadsUnder s (r <item> ∷ []) parent st (sized_at s st c l) t t'
  unfolding rules symbols_of phrase_symbols
  numeric_on z e =
      record {
        walked = λ d o.
            walked_noting item_numeric {a = plain (symbols_of NUMERIC)} {M = Held l (Counted (Rowed s parent))} refl
            (λ f ds n h m. ap (λ (x : ℕ → ℕ). with_outside c.noted (first_oversized s x)) m.keeps ∙ numeric_noted s h c.noted)
            (λ σ. numeric_enters s d σ st.no st.token k)
            (λ f ds n h m.
            counted_node
            (λ x.
            let makes = numeric_row s parent st.rows st.rules h in
            content_under s (opening_content s refl h (makes_opening s parent st.rows st.rules refl makes x)))
            m.means)
            ((row_held s parent st refl p z e).walked d o);
      }

-- a numeric whose phrase ends in the state o
pub numeric_reads :
    {s : List ℕ} {parent : ℕ} {st o : State} {n : Noted} {l t t' : List ℕ}
    → st.token.class ≡ class.«numeric» → Takes s NUMERIC (going st) (going o) (replicate KEPT 0) l
    → t' ≡ with_row t st.rows (encoded (phrase_draft (number_at s) st.token.class parent st.token.start (kept l)))
    → n ≡ with_outside o.noted (first_oversized s (kept l))
    → ReadsUnder s (r <item> ∷ []) parent (going st) (going (record { token = o.token; rows = st.rows + 1; rules = o.rules; noted = n })) t t'
numeric_reads {st = st} k p e f = rw ((p.same refl).1, f) (numeric_on {st = going st} k p.passed refl e)

-- ---- rules

-- a rule's row, and those of its expression
rule_joins :
    {s : List ℕ} {parent at n : ℕ}
    → Joins (symbols_of RULE_OPEN) (r <or> ∷ []) (RuleRow s parent) (OperandRows s at) (Opening s <rule> 0 parent) at n
unfolding symbols_of phrase_symbols entries kept_of expression rows_own rows_for ◌⧺◌
rule_joins {n = n} f g ds es k l (fits_leaf {p = p} (fits_leaf {p = q} (fits_leaf fits_nil))) (fits_node {c = c} e h fits_nil) x y =
    let spells = y.spells (number 0) in
    record { rows = λ g. rw (x.row, y.rows, ← spells, add-one n); some = rw x.row (omega arith); rules = rw (x.one, y.no_rules) }

pub rule_walked :
    {s : List ℕ} {d : Depth} {parent : ℕ} {st o e r' : Standing} {t₀ t₁ t₂ : List ℕ}
    → too_deep d ≡ false → st.token.class ≡ class.«rule» → Reads s (symbols_of RULE_OPEN) (Counted (RuleRow s parent)) st o t₀ t₁
    → Walked s d (r <or> ∷ []) (Counted (OperandRows s st.rows)) o e t₁ t₂ → Closes s RULE_CLOSE e r'
    → WalkedUnder s d (r <rule> ∷ []) parent st r' t₀ t₂
unfolding rules lookahead range_of symbols_of phrase_symbols
rule_walked {s} {d} {parent} {st} {e = e} {r' = r'} {t₀ = t₀} {t₂ = t₂} fine c w v u =
    let opened : Walked s d (symbols_of RULE_OPEN ++ r <or> ∷ []) (Counted (Opening s <rule> 0 parent)) st e t₀ t₂ = walked_then (counted_joins rule_joins) (w.walked d fine) v in
    let whole : Walked s d (symbols_of RULE_OPEN ++ r <or> ∷ symbols_of RULE_CLOSE) (Counted (Opening s <rule> 0 parent)) st r' t₀ t₂ = walked_then (counted_joins (opening_joins s)) opened ((u.reads t₂).walked d fine) in
    walked_node 0 {M = Counted (Opening s <rule> 0 parent)} refl (faultless refl refl refl)
    (λ σ. resume_in s d <rule> σ st.no st.token 0 (plain (symbols_of RULE_OPEN ++ r <or> ∷ symbols_of RULE_CLOSE)) (λ q. omega arith) (rw c) refl)
    (λ c ds k h m. counted_node (λ x. content_under s (opening_content s refl h x)) m)
    whole

-- ---- conditions

pub record ConditionWord (k : ℕ) : Type 0 where
  pub known : k < BAD
  pub tells : predict lookahead <item> k ≡ some (condition_of k)
  pub in_form_lem : predict lookahead (list_of true) k ≡ some 1
  pub inside : predict lookahead (list_of false) k ≡ some 1
  pub alternative : alternative_of rules <item> (condition_of k) ≡ some (condition (t k ∷ r <or> ∷ symbols_of EXPRESSION_CLOSE ++ r <item>* ∷ symbols_of CONDITION_CLOSE))
  pub no_faults : Faultless <item> (condition_of k)
  pub own :
      (s : List ℕ) (parent at n p i : ℕ) (c g : Trees)
      → word_draft k parent p ∷ rows_for s at (expression c) ≡ rows_own s parent at n <item> (condition_of k) (leaf (token k p) (node <or> i c g))

condition_words_lem : Each ConditionWord condition_words
unfolding rules lookahead range_of symbols_of phrase_symbols word_codes code_of rows_own rows_for
condition_words_lem = (
  record {
    known = omega arith;
    tells = refl;
    in_form_lem = refl;
    inside = refl;
    alternative = refl;
    no_faults = faultless refl refl refl;
    own = λ s parent at n p i c g. refl;
  },
  (
    record {
      known = omega arith;
      tells = refl;
      in_form_lem = refl;
      inside = refl;
      alternative = refl;
      no_faults = faultless refl refl refl;
      own = λ s parent at n p i c g. refl;
    },
    (
      record {
        known = omega arith;
        tells = refl;
        in_form_lem = refl;
        inside = refl;
        alternative = refl;
        no_faults = faultless refl refl refl;
        own = λ s parent at n p i c g. refl;
      },
      tt,
    ),
  ),
)

pub condition_word : (k : ℕ) → is_condition k ≡ true → ConditionWord k
condition_word k h = one_of ConditionWord k condition_words condition_words_lem h

pub condition_list : {k : ℕ} (in_form : Bool) → ConditionWord k → predict lookahead (list_of in_form) k ≡ some 1
condition_list true w = w.in_form_lem
condition_list false w = w.inside

-- a condition's row, and those of its expression
condition_joins :
    {s : List ℕ} {k parent at n : ℕ}
    → ConditionWord k → Joins (t k ∷ []) (r <or> ∷ []) (Worded s parent) (OperandRows s at) (Opening s <item> (condition_of k) parent) at n
unfolding expression ◌⧺◌
condition_joins {s} {k} {parent} {at} {n} w f g ds es c l (fits_leaf {p = p} fits_nil) (fits_node {i = i} {c = x} e h fits_nil) u v =
    let spells = v.spells (number 0) in
    record { rows = λ g. rw (u.row, v.rows, ← spells) (w.own s parent at n p i x g); some = rw u.row (omega arith); rules = rw (u.no_rules, v.no_rules) }

pub condition_opens :
    {s : List ℕ} {parent : ℕ} {st o e r' : Standing} {t₀ t₁ t₂ : List ℕ}
    → is_condition st.token.class ≡ true → Reads s (t st.token.class ∷ []) (Counted (Worded s parent)) st o t₀ t₁
    → ReadsOperand s max_groups <or> st.rows o e t₁ t₂ → Closes s EXPRESSION_CLOSE e r' → OpensCondition s parent st r' t₀ t₂
condition_opens {s} {parent} {st} {e = e} {r' = r'} {t₀ = t₀} {t₂ = t₂} is w v u =
    let k = condition_word st.token.class is in
    record {
      walked = λ c h.
          let fine : too_deep (depth c 0) ≡ false = rw (le-ltb 16 c h) in
          let opened : Walked s (depth c 0) (t st.token.class ∷ r <or> ∷ []) (Counted (Opening s <item> (condition_of st.token.class) parent)) st e t₀ t₂ = walked_then (counted_joins (condition_joins k)) (w.walked (depth c 0) fine) (v.walked c h) in
          walked_then (counted_joins (opening_joins s)) opened ((u.reads t₂).walked (depth c 0) fine);
    }

module _ {s : List ℕ} {left parent : ℕ} {st : Standing} {t₀ : List ℕ} (is : is_condition st.token.class ≡ true) where
  -- from its word to its `endif ;`
  pub condition_walked :
      {o i r' : Standing} {t₁ t₂ : List ℕ}
      → left ≤ max_conditions → left ≢ 0 → OpensCondition s parent st o t₀ t₁
      → WalkedUnder s (depth (max_conditions - (left - 1)) 0) (r <item>* ∷ []) st.rows o i t₁ t₂ → Closes s CONDITION_CLOSE i r'
      → WalkedUnder s (depth (max_conditions - left) 0) (r <item> ∷ []) parent st r' t₀ t₂
  unfolding symbols_of phrase_symbols
  condition_walked {o} {i} {r'} {t₁} {t₂} l n w v u =
      let k = condition_word st.token.class is in
      let known = k.known in
      let d = depth (max_conditions - (left - 1)) 0 in
      let fine : too_deep d ≡ false = rw (le-ltb 16 (16 - (left - 1)) (omega arith)) in
      let deeper_is : d ≡ depth (suc (max_conditions - left)) 0 = ap (λ (m : ℕ). depth m 0) (omega arith) in
      let inside : WalkedUnder s d (r <item>* ∷ symbols_of CONDITION_CLOSE) st.rows o r' t₁ t₂ = walked_then (counted_joins (under_joins s)) v (closes_under refl fine u) in
      let whole : Walked s d (t st.token.class ∷ r <or> ∷ symbols_of EXPRESSION_CLOSE ++ r <item>* ∷ symbols_of CONDITION_CLOSE) (Counted (Content s <item> (condition_of st.token.class) parent)) st r' t₀ t₂ = walked_then (counted_joins (content_joins s refl refl)) (w.walked (max_conditions - (left - 1)) (omega arith)) inside in
      walked_node (condition_of st.token.class) {M = Counted (Content s <item> (condition_of st.token.class) parent)} k.alternative k.no_faults
      (λ σ. resume_in s (depth (max_conditions - left) 0) <item> σ st.no st.token (condition_of st.token.class) _ (λ q. omega arith) k.tells k.alternative)
      (λ c ds n h m. counted_node (content_under s) m)
      (rw deeper_is at whole)

  -- the seventeenth condition
  pub condition_deep :
      (in_form : Bool) → left ≡ 0 → st.no ≡ 0 → WalkedUnder s (depth (max_conditions - left) 0) (r (list_of in_form) ∷ []) parent st (deep st) t₀ t₀
  condition_deep in_form l z =
      let k = condition_word st.token.class is in
      let known = k.known in
      rw l (list_more (items_are in_form) (condition_list in_form k) (λ q. omega arith) (deep_walked k.alternative refl k.tells refl z refl known) (walked_off (r (list_of in_form) ∷ []) (Counted (Under s parent)) (λ q. absurd (omega arith))))

-- ---- the last of the items without a condition

-- the class is none of these, nested as a `match` has it
abbrev NoneOf : ℕ → Type 0
NoneOf k = ((((((Unit {0} × (k ≡ class.«subtitle» → ⊥)) × (k ≡ class.«text» → ⊥)) × (k ≡ class.«label» → ⊥)) × (k ≡ class.«goto» → ⊥)) × (k ≡ class.«checkbox» → ⊥)) × (k ≡ class.«numeric» → ⊥))

pub last_item : (k : ℕ) → starts_item k ≡ true → NoneOf k → k ≡ class.«oneof»
last_item k h =
    one_of (λ k. NoneOf k → k ≡ class.«oneof») k item_words
    (λ n. absurd (n.0.0.0.0.0.1 refl), (λ n. absurd (n.0.0.0.0.1 refl), (λ n. absurd (n.0.0.0.1 refl), (λ n. absurd (n.0.0.1 refl), (λ n. absurd (n.0.1 refl), (λ n. absurd (n.1 refl), (λ n. refl, tt)))))))
    h

-- ---- the loop over the items

pub conditions_fine : (left : ℕ) → too_deep (depth (max_conditions - left) 0) ≡ false
conditions_fine left = rw (le-ltb 16 (16 - left) (omega arith))

-- a rule stands in a form, where no condition is open
pub rule_again :
    {s : List ℕ} {left parent : ℕ} {in_form : Bool} {st₀ st c : Standing} {t₀ t₁ t₂ : List ℕ}
    → in_form ≡ true → left ≡ max_conditions → st.token.class ≡ class.«rule»
    → ListLoop s (λ d. d ≡ depth (max_conditions - left) 0) (list_of in_form) parent t₀ st₀ t₁ st → length t₂ ≡ length t₁
    → WalkedUnder s (depth 0 0) (r <rule> ∷ []) parent st c t₁ t₂
    → ListLoop s (λ d. d ≡ depth (max_conditions - left) 0) (list_of in_form) parent t₀ st₀ t₂ c
unfolding lookahead
rule_again {s} {left} {parent} {in_form} {st₀} {st} {c} {t₀} {t₁} {t₂} f l k = by in_form f
  where
    by :
        (b : Bool) → b ≡ true → ListLoop s (λ d. d ≡ depth (max_conditions - left) 0) (list_of b) parent t₀ st₀ t₁ st → length t₂ ≡ length t₁
        → WalkedUnder s (depth 0 0) (r <rule> ∷ []) parent st c t₁ t₂
        → ListLoop s (λ d. d ≡ depth (max_conditions - left) 0) (list_of b) parent t₀ st₀ t₂ c
    by true f x e w = list_again (depth (max_conditions - left) 0) refl x rules_are (rw k) (λ q. omega arith) e (λ d o. rw (o, l) w)
    by false f x e w = clash cc

-- in a condition no rule stands
pub inner_items :
    {s : List ℕ} {left parent : ℕ} {d : Depth} {st r' : Standing} {t₀ t₁ : List ℕ}
    → left ≤ max_conditions → left ≢ 0 → WalkedUnder s d (r (list_of (eqb (left - 1) max_conditions)) ∷ []) parent st r' t₀ t₁
    → WalkedUnder s d (r <item>* ∷ []) parent st r' t₀ t₁
inner_items {left = left} l n w = rw (ne_eqb (left - 1) max_conditions (λ q. absurd (omega arith))) at w

-- a token that starts no item, and in a form no rule
pub no_rule_here : {left k : ℕ} → (left ≡ max_conditions → k ≢ class.«rule») → eqb left max_conditions ≡ true → k ≢ class.«rule»
no_rule_here {left} h e = h (eqb-true left max_conditions e)
