-- Expressions: the steps of the atom and of a level.
-- Assumes nothing.
use Prim.Native.Nat.{ℕ, zero, suc, ◌+◌, ◌-◌, ◌≤◌, ◌<◌}
use mathlib.Core.Path.{◌≡◌, refl, sym, ap, ◌∙◌, subst}
use mathlib.Core.Bool.{true, false}
use mathlib.Core.List.{List, [], ◌∷◌, ◌++◌}
use mathlib.Core.Option.{some}
use mathlib.Core.Logic.{◌⊎◌, inl, inr, ◌≢◌}
use native.Mathlib.Omega.{arith}
use native.Mathlib.Decide.{ℕ_discrete}
use lib.ListN.{length}
use borrow.Author.Tests.{le-ltb}
use Rattle.lex.specs.declared.Token as lex
use Rattle.lexemes.specs.Classes as class
use Rattle.lexemes.specs.Classes.{open_paren, BAD}
use Rattle.rows.specs.Table.{with_row}
use Rattle.rows.specs.Rows.{put}
use Rattle.ll1.specs.Trees.{token, nil, alternative_of, fits_nil, Depth, depth}
use Rattle.ll1.specs.ParseTable.{entry_of, predict}
use Rattle.ll1.proofs.Lookups.{member_not}
use Rattle.grammar.specs.Grammar.{rules}
use Rattle.grammar.specs.Notation.{t, r, plain, group}
use Rattle.grammar.specs.Lookahead.{lookahead}
use Rattle.grammar.specs.Rules.{level_rule, tail_rule, <or>, <atom>}
use Rattle.grammar.specs.Derivation.{too_deep, max_conditions, max_groups}
use Rattle.grammar.specs.Ranges.{range_of, gathered}
use Rattle.elements.specs.Marks.{faults}
use Rattle.elements.specs.Symbols.{symbols_of, phrase_symbols, GROUP_CLOSE, NUMBER, QUESTION_REF, RULE_REF}
use Rattle.elements.proofs.MarkLaws.{noting_none}
use Rattle.answers.specs.Expression.{operators, operator, operator_among, operator_code}
use Rattle.answers.specs.Drafts.{encoded}
use Rattle.fields.specs.Words.{code_of, word_draft}
use Rattle.walk.specs.declared.State.{State}
use Rattle.walk.specs.Standing.{Standing, going, halted, refused_deep}
use Rattle.walk.specs.Meanings.{Meaning, Counted, Worded, OperandRows, Tailing}
use Rattle.fields.specs.Operators.{LEVELS, level_of}
use Rattle.walk.specs.Starts.{constant_words, is_constant}
use Rattle.walk.specs.Walked.{Room, Walked, Reads, Closes, passed, deep, advanced, WithRow, Groups, ReadsRow, ReadsOperand}
use Rattle.walk.proofs.TreeLaws.{faultless}
use Rattle.walk.proofs.Walks.{walked_then, counted_joins, walked_off, walked_nil, token_walked, resume_in, resume_enter, resume_skip, walked_node, counted_node, deep_walked, deep_halts}
use Rattle.walk.proofs.StartLaws.{none_of_lem, none_append, tells_only}
use Rattle.walk.proofs.StatementSteps.{Told}
use Rattle.walk.proofs.Rooms.{room_by, room_after, room_passed, ahead, ahead_le, ahead_less}
use Rattle.walk.proofs.Levels.{level_is, level_told, tail_ends, operates, operator_found}
use Rattle.walk.proofs.Spellings.{level_joins, level_node, tail_none, tail_node, Passing, After, word_joins, Operated, Finished, operated_joins, finished_joins, tail_joins, negation_node, group_joins, group_node}
use Rattle.walk.proofs.Atoms.{constant_word, constant_node, number_node, rule_ref_node, question_ref_node}

-- ---- a row after what was read

row_walked :
    {s : List ℕ} {d : Depth} {parent : ℕ} {k : lex.Token} {x y : Standing} {t t' : List ℕ}
    → WithRow parent k x y t t' → Walked s d [] (After s parent k.class k.start) x y t t'
unfolding put faults gathered
row_walked {s} {d} {parent} {k} {x} {y} {t} {t'} w = by (ℕ_discrete x.no 0)
  where
    by : Dec (x.no ≡ 0) → Walked s d [] (After s parent k.class k.start) x y t t'
    by (no z) = rw ((w.off z).0, (w.off z).1) (walked_off [] (After s parent k.class k.start) z)
    by (yes z) =
        rw (w.on z).0
        (record {
          verdict = λ σ. rw z;
          within = λ h. h;
          got = λ q.
              record {
                before = z;
                trees = nil;
                drafts = word_draft k.class parent k.start ∷ [];
                count = 0;
                fits = fits_nil;
                reads = refl;
                means = record { row = refl; no_rules = refl };
                table = (w.on z).1;
                rows = refl;
                counted = omega arith;
                noted = sym (noting_none x.noted);
              };
        })

pub with_off : {parent : ℕ} {k : lex.Token} {st : Standing} {t : List ℕ} → st.no ≢ 0 → WithRow parent k st st t t
with_off h = record { off = λ q. (refl, refl); on = λ q. absurd (h q) }

pub with_on :
    {parent : ℕ} {k : lex.Token} {st : Standing} {cells t t' : List ℕ}
    → st.no ≡ 0 → cells ≡ encoded (word_draft k.class parent k.start) → t' ≡ with_row t st.rows cells → WithRow parent k st (advanced st) t t'
with_on {st = st} {t = t} z f e = record { off = λ q. absurd (q z); on = λ q. (refl, e ∙ ap (with_row t st.rows) f) }

-- a word, and its row
pub word_reads :
    {s : List ℕ} {parent : ℕ} {st p r' : Standing} {t₀ t₁ : List ℕ}
    → st.no ≡ 0 → st.token.class < BAD → p ≡ passed s st → WithRow parent st.token p r' t₀ t₁
    → Reads s (t st.token.class ∷ []) (Counted (Worded s parent)) st r' t₀ t₁
word_reads {s} {parent} {st} z l pe w =
    record { walked = λ d o. walked_then (word_joins s parent) (token_walked s d st.token.class st z refl l {M = Passing s parent st.token.class st.token.start} o (record { is = refl; no_rows = refl; no_rules = refl })) (row_walked (rw pe at w)) }

-- ---- depths

groups_fine : (c left : ℕ) → c ≤ max_conditions → left ≤ max_groups → too_deep (depth c (max_groups - left)) ≡ false
groups_fine c left h l = rw (le-ltb 16 c h, le-ltb 32 (32 - left) (omega arith))

one_less : (c left : ℕ) → left ≢ 0 → left ≤ max_groups → depth c (max_groups - (left - 1)) ≡ depth c (suc (max_groups - left))
one_less c left n l = ap (depth c) (omega arith)

-- the word, its operand, and its row
operated :
    {s : List ℕ} {parent k B : ℕ} {d : Depth} {st x : Standing} {t₀ t₁ : List ℕ}
    → too_deep d ≡ false → k < BAD → st.no ≡ 0 → st.token.class ≡ k → Walked s d (r B ∷ []) (Counted (OperandRows s parent)) (passed s st) x t₀ t₁
    → Walked s d (t k ∷ r B ∷ []) (Operated s parent k st.token.start) st x t₀ t₁
operated {s} {parent} {k} {d = d} {st = st} o l z c w = walked_then (operated_joins s parent) (token_walked s d k st z c l {M = Passing s parent k st.token.start} o (record { is = refl; no_rows = refl; no_rules = refl })) w

finished :
    {s : List ℕ} {parent k B : ℕ} {d : Depth} {st x y : Standing} {t₀ t₁ t₂ : List ℕ}
    → too_deep d ≡ false → k < BAD → st.no ≡ 0 → st.token.class ≡ k → Walked s d (r B ∷ []) (Counted (OperandRows s parent)) (passed s st) x t₀ t₁
    → WithRow parent st.token x y t₁ t₂ → Walked s d (t k ∷ r B ∷ []) (Finished s parent k st.token.start) st y t₀ t₂
finished {s} {parent} {k} {d = d} {st = st} {x = x} {y = y} {t₁ = t₁} {t₂ = t₂} o l z c w v =
    let after : Walked s d [] (After s parent st.token.class st.token.start) x y t₁ t₂ = row_walked v in
    walked_then (finished_joins s parent) (operated o l z c w) (rw c at after)

pub groups_off : {s : List ℕ} {left : ℕ} (A : ℕ) (M : Meaning) {st : Standing} {t : List ℕ} → st.no ≢ 0 → Groups s left A M st st t t
groups_off A M h = record { walked = λ c l. walked_off (r A ∷ []) M h }

-- refused, said with the reason
pub groups_halt :
    {s : List ℕ} {left A : ℕ} {M : Meaning} {st : State} {t t' : List ℕ}
    → Groups s left A M (going st) (deep (going st)) t t' → Groups s left A M (going st) (halted (refused_deep st)) t t'
groups_halt w = record { walked = λ c l. deep_halts (w.walked c l) }

module _ {s : List ℕ} {left parent : ℕ} where
  -- ---- NOT atom, and ( expression )

  pub not_deep : {st : Standing} {t : List ℕ} → left ≡ 0 → st.no ≡ 0 → st.token.class ≡ class.«NOT» → ReadsOperand s left <atom> parent st (deep st) t t
  unfolding rules lookahead
  not_deep n z c = record { walked = λ b l. rw n (deep_walked {i = 0} {k = class.«NOT»} {a = group (t class.«NOT» ∷ r <atom> ∷ [])} refl refl refl (rw (le-ltb 16 b l)) z c (omega arith)) }

  pub group_deep : {st : Standing} {t : List ℕ} → left ≡ 0 → st.no ≡ 0 → st.token.class ≡ open_paren → ReadsOperand s left <atom> parent st (deep st) t t
  unfolding rules lookahead symbols_of phrase_symbols
  group_deep n z c = record { walked = λ b l. rw n (deep_walked {i = 1} {k = open_paren} {a = group (t open_paren ∷ r <or> ∷ symbols_of GROUP_CLOSE)} refl refl refl (rw (le-ltb 16 b l)) z c (omega arith)) }

  pub atom_deep :
      {st : Standing} {t : List ℕ}
      → left ≡ 0 → st.no ≡ 0 → (st.token.class ≡ open_paren) ⊎ (st.token.class ≡ class.«NOT») → ReadsOperand s left <atom> parent st (deep st) t t
  atom_deep n z (inl c) = group_deep n z c
  atom_deep n z (inr c) = not_deep n z c

  pub atom_not :
      {st p a r' : Standing} {t₀ t₁ t₂ : List ℕ}
      → left ≢ 0 → left ≤ max_groups → st.no ≡ 0 → st.token.class ≡ class.«NOT» → p ≡ passed s st → ReadsOperand s (left - 1) <atom> parent p a t₀ t₁
      → WithRow parent st.token a r' t₁ t₂ → ReadsOperand s left <atom> parent st r' t₀ t₂
  unfolding rules lookahead range_of
  atom_not {st} n l z c pe x w =
      record {
        walked = λ b h.
            let inner = finished (groups_fine b (left - 1) h (omega arith)) (omega arith) z c ((rw pe at x).walked b h) w in
            walked_node 0 {a = group (t class.«NOT» ∷ r <atom> ∷ [])} refl (faultless refl refl refl)
            (λ σ. resume_in s (depth b (max_groups - left)) <atom> σ st.no st.token 0 (group (t class.«NOT» ∷ r <atom> ∷ [])) (λ q. omega arith) (rw c) refl)
            (λ c ds k h m. negation_node s parent m)
            (rw (one_less b left n l) at inner);
      }

  pub atom_group :
      {st p e r' : Standing} {t₀ t₁ : List ℕ}
      → left ≢ 0 → left ≤ max_groups → st.no ≡ 0 → st.token.class ≡ open_paren → p ≡ passed s st → ReadsOperand s (left - 1) <or> parent p e t₀ t₁
      → Closes s GROUP_CLOSE e r' → ReadsOperand s left <atom> parent st r' t₀ t₁
  unfolding rules lookahead range_of symbols_of phrase_symbols
  atom_group {st} {r' = r'} {t₀ = t₀} {t₁ = t₁} n l z c pe x w =
      record {
        walked = λ b h.
            let fine = groups_fine b (left - 1) h (omega arith) in
            let inner : Walked s (depth b (max_groups - (left - 1))) (t open_paren ∷ r <or> ∷ symbols_of GROUP_CLOSE) (Counted (OperandRows s parent)) st r' t₀ t₁ = walked_then (group_joins s parent) (operated fine (omega arith) z c ((rw pe at x).walked b h)) ((w.reads t₁).walked (depth b (max_groups - (left - 1))) fine) in
            walked_node 1 {a = group (t open_paren ∷ r <or> ∷ symbols_of GROUP_CLOSE)} refl (faultless refl refl refl)
            (λ σ. resume_in s (depth b (max_groups - left)) <atom> σ st.no st.token 1 (group (t open_paren ∷ r <or> ∷ symbols_of GROUP_CLOSE)) (λ q. omega arith) (rw c) refl)
            (λ c ds k h m. counted_node (group_node s parent) m)
            (rw (one_less b left n l) at inner);
      }

-- ---- the other atoms

-- a number starts with the token, or no atom does
told_number : (k : ℕ) → k ≢ class.«NOT» → k ≢ open_paren → is_constant k ≡ false → k ≢ class.«questionref» → k ≢ class.«ruleref» → Told <atom> 8 k
unfolding lookahead
told_number k a b c e f =
    let refs = class.«questionref» ∷ class.«ruleref» ∷ [] in
    let rest = none_append k constant_words refs (none_of_lem k constant_words c) (member_not k class.«questionref» (class.«ruleref» ∷ []) e (member_not k class.«ruleref» [] f refl)) in
    tells_only 8 (entry_of lookahead <atom>).firsts k (member_not k class.«NOT» (open_paren ∷ constant_words ++ refs) a (member_not k open_paren (constant_words ++ refs) b rest))

module _ {s : List ℕ} {parent : ℕ} {st r' : Standing} {t₀ t₁ : List ℕ} where
  pub atom_constant :
      st.no ≡ 0 → is_constant st.token.class ≡ true → Reads s (t st.token.class ∷ []) (Counted (Worded s parent)) st r' t₀ t₁
      → Reads s (r <atom> ∷ []) (Counted (OperandRows s parent)) st r' t₀ t₁
  unfolding range_of
  atom_constant z c w =
      let k = constant_word st.token.class c in
      let l = k.known in
      record {
        walked = λ d o.
            walked_node k.way k.alternative (faultless refl refl refl)
            (λ σ. resume_in s d <atom> σ st.no st.token k.way (plain (t st.token.class ∷ [])) (λ q. omega arith) k.tells k.alternative)
            (λ c ds l h m. counted_node (constant_node s parent k h) m)
            (w.walked d o);
      }

  -- a phrase, which the token tells
  pub atom_question_ref :
      st.token.class ≡ class.«questionref» → ReadsRow s QUESTION_REF parent st r' t₀ t₁
      → Reads s (r <atom> ∷ []) (Counted (OperandRows s parent)) st r' t₀ t₁
  unfolding rules lookahead range_of symbols_of phrase_symbols
  atom_question_ref c w =
      record {
        walked = λ d o.
            walked_node 9 {a = plain (symbols_of QUESTION_REF)} refl (faultless refl refl refl)
            (λ σ. resume_in s d <atom> σ st.no st.token 9 (plain (symbols_of QUESTION_REF)) (λ q. omega arith) (rw c) refl)
            (λ c ds l h m. counted_node (question_ref_node s parent h) m)
            (w.walked d o);
      }

  pub atom_rule_ref :
      st.token.class ≡ class.«ruleref» → ReadsRow s RULE_REF parent st r' t₀ t₁ → Reads s (r <atom> ∷ []) (Counted (OperandRows s parent)) st r' t₀ t₁
  unfolding rules lookahead range_of symbols_of phrase_symbols
  atom_rule_ref c w =
      record {
        walked = λ d o.
            walked_node 10 {a = plain (symbols_of RULE_REF)} refl (faultless refl refl refl)
            (λ σ. resume_in s d <atom> σ st.no st.token 10 (plain (symbols_of RULE_REF)) (λ q. omega arith) (rw c) refl)
            (λ c ds l h m. counted_node (rule_ref_node s parent h) m)
            (w.walked d o);
      }

  -- a number
  pub atom_number :
      st.token.class ≢ class.«NOT» → st.token.class ≢ open_paren → is_constant st.token.class ≡ false → st.token.class ≢ class.«questionref»
      → st.token.class ≢ class.«ruleref» → ReadsRow s NUMBER parent st r' t₀ t₁ → Reads s (r <atom> ∷ []) (Counted (OperandRows s parent)) st r' t₀ t₁
  unfolding rules range_of symbols_of phrase_symbols
  atom_number a b c e f w =
      record {
        walked = λ d o.
            walked_node 8 {a = plain (symbols_of NUMBER)} refl (faultless refl refl refl)
            (λ σ. resume_enter s d <atom> σ st.no st.token 8 (plain (symbols_of NUMBER)) refl refl (told_number st.token.class a b c e f))
            (λ c ds l h m. counted_node (number_node s parent h) m)
            (w.walked d o);
      }

pub atom_leaf :
    {s : List ℕ} {left parent : ℕ} {st r' : Standing} {t₀ t₁ : List ℕ}
    → left ≤ max_groups → Reads s (r <atom> ∷ []) (Counted (OperandRows s parent)) st r' t₀ t₁ → ReadsOperand s left <atom> parent st r' t₀ t₁
atom_leaf {left = left} l w = record { walked = λ c h. w.walked (depth c (max_groups - left)) (groups_fine c left h l) }

-- ---- levels

-- the code's next level is the grammar's
next_level :
    {s : List ℕ} {left : ℕ} (n : ℕ) {M : Meaning} {st r' : Standing} {t₀ t₁ : List ℕ}
    → Groups s left (level_rule (n + 1)) M st r' t₀ t₁ → Groups s left (level_rule (suc n)) M st r' t₀ t₁
next_level {s} {left} n {M} {st} {r'} {t₀} {t₁} w = subst (λ (A : ℕ). Groups s left A M st r' t₀ t₁) (let e : level_rule (n + 1) ≡ level_rule (suc n) = omega arith in e) w

module _ {s : List ℕ} {left parent : ℕ} where
  pub level_atom :
      {n : ℕ} {st r' : Standing} {t₀ t₁ : List ℕ}
      → n ≤ LEVELS → LEVELS ≤ n → ReadsOperand s left <atom> parent st r' t₀ t₁ → ReadsOperand s left (level_rule n) parent st r' t₀ t₁
  level_atom {n} a b w = let e : n ≡ LEVELS = omega arith in rw e w

  -- an operand, and the operators and operands after it
  pub level_whole :
      {n : ℕ} {st c r' : Standing} {t₀ t₁ t₂ : List ℕ}
      → n < LEVELS → ReadsOperand s left (level_rule (n + 1)) parent st c t₀ t₁ → Groups s left (tail_rule n) (Counted (Tailing s parent)) c r' t₁ t₂
      → ReadsOperand s left (level_rule n) parent st r' t₀ t₂
  level_whole {n} {st} h w v =
      let k = level_is n h in
      record {
        walked = λ c l.
            walked_node 0 {M = Counted (OperandRows s parent)} k.operand k.no_faults
            (λ σ. resume_enter s (depth c (max_groups - left)) (level_rule n) σ st.no st.token 0 (plain (r (level_rule (suc n)) ∷ r (tail_rule n) ∷ [])) k.present k.operand (level_told n st.token.class h))
            (λ c ds l h m. counted_node (level_node s parent k.no_atom) m)
            (walked_then (counted_joins (level_joins s parent)) ((next_level n w).walked c l) (v.walked c l));
      }

  -- no operator of the level follows
  pub tail_end :
      {n : ℕ} {st : Standing} {t₀ : List ℕ}
      → n < LEVELS → level_of st.token.class ≢ n → Groups s left (tail_rule n) (Counted (Tailing s parent)) st st t₀ t₀
  tail_end {n} {st} h e =
      let k = level_is n h in
      record {
        walked = λ c l.
            let d = depth c (max_groups - left) in
            walked_node 0 k.empty (k.no_faults_tail 0)
            (λ σ. resume_skip s d (tail_rule n) σ st.no st.token k.absent (tail_ends n st.token.class h e))
            (λ c ds l h m. counted_node (λ x. tail_node s parent k.no_atom_tail (tail_none s parent h x)) m)
            (walked_nil s d);
      }

  -- an operator of the level, its right operand, its row, and what follows
  pub tail_more :
      {n : ℕ} {st p x y r' : Standing} {t₀ t₁ t₂ t₃ : List ℕ}
      → n < LEVELS → left ≤ max_groups → st.no ≡ 0 → level_of st.token.class ≡ n → p ≡ passed s st → ReadsOperand s left (level_rule (n + 1)) parent p x t₀ t₁
      → WithRow parent st.token x y t₁ t₂ → Groups s left (tail_rule n) (Counted (Tailing s parent)) y r' t₂ t₃
      → Groups s left (tail_rule n) (Counted (Tailing s parent)) st r' t₀ t₃
  tail_more {n} {st} {p} {x} {t₀ = t₀} {t₁ = t₁} h g z e pe w v u =
      let f = operator_found n st.token.class h e in
      let o = f.operator in
      let q = operates o in
      let k = level_is n h in
      let known : st.token.class < BAD = rw f.class at q.known in
      let tells : predict lookahead (tail_rule n) st.token.class ≡ some q.way = rw (f.level, f.class) at q.tells in
      let alternative : alternative_of rules (tail_rule n) q.way ≡ some (plain (t st.token.class ∷ r (level_rule (suc n)) ∷ r (tail_rule n) ∷ [])) = rw (f.level, f.class) at q.alternative in
      let among : operator_among operators (token st.token.class st.token.start) ≡ operator o st.token.start = rw f.class at (q.among st.token.start) in
      let code : code_of st.token.class ≡ operator_code o = rw f.class at q.code in
      let operand : ReadsOperand s left (level_rule (suc n)) parent (passed s st) x t₀ t₁ = next_level n (rw pe at w) in
      record {
        walked = λ c l.
            walked_node q.way {M = Counted (Tailing s parent)} alternative (k.no_faults_tail q.way)
            (λ σ. resume_in s (depth c (max_groups - left)) (tail_rule n) σ st.no st.token q.way (plain (t st.token.class ∷ r (level_rule (suc n)) ∷ r (tail_rule n) ∷ [])) (λ y. omega arith) tells alternative)
            (λ c ds l h m. counted_node (tail_node s parent k.no_atom_tail) m)
            (walked_then (tail_joins s parent among code) (finished (groups_fine c left l g) known z refl (operand.walked c l) v) (u.walked c l));
      }

-- ---- the loop over the operators of a level

pub room_groups :
    {s : List ℕ} {left A : ℕ} {M : Meaning} {st r' : Standing} {t₀ t₁ : List ℕ}
    → Room s st → Groups s left A (Counted M) st r' t₀ t₁ → Room s r'
room_groups m w = room_after m (w.walked 0 (omega arith))

pub groups_fewer : {s : List ℕ} {left A : ℕ} {M : Meaning} {st r' : Standing} {t₀ t₁ : List ℕ} → Groups s left A M st r' t₀ t₁ → ahead s r' ≤ ahead s st
groups_fewer w = ahead_le (w.walked 0 (omega arith))

pub operator_known : (n k : ℕ) → n < LEVELS → level_of k ≡ n → k < BAD
operator_known n k h e = let f = operator_found n k h e in rw f.class at (operates f.operator).known

pub room_operator :
    {s : List ℕ} {n : ℕ} {st p : Standing}
    → Room s st → st.no ≡ 0 → n < LEVELS → level_of st.token.class ≡ n → p ≡ passed s st → Room s p
room_operator {n = n} {st = st} m z h e pe = rw pe (room_passed m z (operator_known n st.token.class h e))

-- what ends the operators of one level, and Q for what comes after
pub record TailThen (s : List ℕ) (left parent n : ℕ) (Q : Standing → List ℕ → Type 0) (st : Standing) (t : List ℕ) : Type 0 where
  pub here : Standing
  pub table : List ℕ
  pub first : Groups s left (tail_rule n) (Counted (Tailing s parent)) st here t table
  pub rest : Q here table

-- from st to r' the tails of k levels, of which `least` is the loosest, one after another, the tightest first
unfoldable pub Tails : List ℕ → ℕ → ℕ → ℕ → ℕ → Standing → List ℕ → Standing → List ℕ → Type 0
Tails s left parent least zero r' t' st t = (st ≡ r') × (t ≡ t')
Tails s left parent least (suc k) r' t' st t = TailThen s left parent (least + k) (Tails s left parent least k r' t') st t

module _ {s : List ℕ} {left parent : ℕ} (least : ℕ) where
  -- an operand of a tight level, and the tails of all levels from there to a looser one
  pub tails_whole :
      (k : ℕ) {st c r' : Standing} {t₀ t₁ t₂ : List ℕ}
      → least + k ≤ LEVELS → ReadsOperand s left (level_rule (least + k)) parent st c t₀ t₁ → Tails s left parent least k r' t₂ c t₁
      → ReadsOperand s left (level_rule least) parent st r' t₀ t₂
  unfolding Tails
  tails_whole zero {st} {r' = r'} {t₀ = t₀} {t₂ = t₂} h w (p, q) =
      let e : least + 0 ≡ least = omega arith in
      subst (λ (n : ℕ). ReadsOperand s left (level_rule n) parent st r' t₀ t₂) e (rw (p, q) at w)
  tails_whole (suc k) {st} {c} {t₀ = t₀} {t₁ = t₁} h w v =
      let e : least + suc k ≡ least + k + 1 = omega arith in
      let operand : ReadsOperand s left (level_rule (least + k + 1)) parent st c t₀ t₁ = subst (λ (n : ℕ). ReadsOperand s left (level_rule n) parent st c t₀ t₁) e w in
      tails_whole k (omega arith) (level_whole (omega arith) operand v.first) v.rest

  -- an atom, and the tails of all levels from the tightest to `least`
  pub level_climbs :
      {st c r' : Standing} {t₀ t₁ t₂ : List ℕ}
      → least ≤ LEVELS → ReadsOperand s left <atom> parent st c t₀ t₁ → Tails s left parent least (LEVELS - least) r' t₂ c t₁
      → ReadsOperand s left (level_rule least) parent st r' t₀ t₂
  level_climbs h w v = tails_whole (LEVELS - least) (omega arith) (level_atom (omega arith) (omega arith) w) v

  -- each tail ends where it starts
  pub tails_none :
      (k : ℕ) {st : Standing} {t : List ℕ}
      → ((n : ℕ) → least ≤ n → n < least + k → Groups s left (tail_rule n) (Counted (Tailing s parent)) st st t t) → Tails s left parent least k st t st t
  unfolding Tails
  tails_none zero f = (refl, refl)
  tails_none (suc k) {st} {t} f = record { here = st; table = t; first = f (least + k) (omega arith) (omega arith); rest = tails_none k (λ n a b. f n a (omega arith)) }

  -- an operator, its right operand, its row, and the tails from its level on
  pub tails_more :
      (j k : ℕ) (r' : Standing) (t₃ : List ℕ) {st p x y : Standing} {t₀ t₁ t₂ : List ℕ}
      → j < k → least + k ≤ LEVELS → left ≤ max_groups → st.no ≡ 0 → level_of st.token.class ≡ least + j → p ≡ passed s st
      → ReadsOperand s left (level_rule (least + j + 1)) parent p x t₀ t₁ → WithRow parent st.token x y t₁ t₂
      → Tails s left parent least (suc j) r' t₃ y t₂ → Tails s left parent least k r' t₃ st t₀
  unfolding Tails
  tails_more j zero r' t₃ a h g z e pe w v u = absurd (omega arith)
  tails_more j (suc k) r' t₃ {st} {t₀ = t₀} a h g z e pe w v u = by (λ b. tails_more j k r' t₃ b (omega arith) g z e pe w v u) (ℕ_discrete j k)
    where
      by : (j < k → Tails s left parent least k r' t₃ st t₀) → Dec (j ≡ k) → Tails s left parent least (suc k) r' t₃ st t₀
      by f (yes q) = rw (← q) (record { here = u.here; table = u.table; first = tail_more (omega arith) g z e pe w v u.first; rest = u.rest })
      by f (no q) = record { here = st; table = t₀; first = tail_end (omega arith) (λ f. absurd (q (omega arith))); rest = f (omega arith) }

-- whoever ends the operators from here ends them from their start; those of level `bound` and tighter ones are ended
pub record OperatorLoop (s : List ℕ) (left least parent : ℕ) (t₀ : List ℕ) (st₀ : Standing) (t₁ : List ℕ) (st : Standing) (bound : ℕ) : Type 0 where
  pub len : length t₁ ≡ length t₀
  pub room : Room s st
  pub fewer : ahead s st ≤ ahead s st₀
  pub high : bound ≤ LEVELS
  pub rest :
      (r' : Standing) (t₂ : List ℕ)
      → Tails s left parent least (bound - least) r' t₂ st t₁ → Tails s left parent least (LEVELS - least) r' t₂ st₀ t₀

module _ {s : List ℕ} {left n parent : ℕ} {st p x y : Standing} {t₁ t₂ t₃ : List ℕ} (h : n < LEVELS) (g : left ≤ max_groups) (z : st.no ≡ 0) (e : level_of st.token.class ≡ n) (pe : p ≡ passed s st) (w : ReadsOperand s left (level_rule (n + 1)) parent p x t₁ t₂) (v : WithRow parent st.token x y t₂ t₃) where
  turn : Walked s (depth 0 (max_groups - left)) (t st.token.class ∷ r (level_rule (n + 1)) ∷ []) (Finished s parent st.token.class st.token.start) st y t₁ t₃
  turn = finished (groups_fine 0 left (omega arith) g) (operator_known n st.token.class h e) z refl ((rw pe at w).walked 0 (omega arith)) v

  pub turn_less : ahead s y < ahead s st
  turn_less = ahead_less refl z turn

  pub turn_again :
      {t₀ : List ℕ} {st₀ : Standing} {least bound : ℕ}
      → OperatorLoop s left least parent t₀ st₀ t₁ st bound → least ≤ n → n < bound → length t₃ ≡ length t₁
      → OperatorLoop s left least parent t₀ st₀ t₃ y (n + 1)
  turn_again {least = least} {bound = bound} i a b l =
      let j = n - least in
      let k = bound - least in
      let m : n ≡ least + j = omega arith in
      let f = i.fewer in
      let less = turn_less in
      let high = i.high in
      record {
        len = l ∙ i.len;
        fewer = omega arith;
        room = room_by (λ f ds k m. (m.few, rw m.no_rules (omega arith))) i.room turn;
        high = omega arith;
        rest = λ r' t₄ u.
            let q : n + 1 - least ≡ suc j = omega arith in
            i.rest r' t₄ (tails_more least j k r' t₄ (omega arith) (omega arith) g z (e ∙ m) pe (rw m at w) v (rw q at u));
      }
