-- A phrase that was read: without a row, and with one.
-- Assumes nothing.
use Prim.Native.Nat.{ℕ, zero, suc, ◌+◌, ◌≤◌, ◌<◌}
use mathlib.Core.Path.{◌≡◌, refl, sym, ap, ◌∙◌, fun_ext}
use mathlib.Core.Bool.{Bool, true, false, cond}
use mathlib.Core.List.{List, [], ◌∷◌, ◌++◌}
use mathlib.Core.Logic.{◌≢◌}
use native.Mathlib.Omega.{arith}
use native.Mathlib.Nat.{add-zero}
use native.Mathlib.Decide.{ℕ_discrete}
use lib.ListN.{length, replicate, get_or}
use Rattle.lex.specs.declared.Token as lex
use Rattle.lexemes.specs.Classes.{END}
use Rattle.rows.specs.Table.{with_row}
use Rattle.rows.specs.Rows.{put}
use Rattle.ll1.specs.Trees.{Token, token, Trees, leaves, Symbol, Fits}
use Rattle.ll1.specs.Machine.{all_nullable}
use Rattle.ll1.proofs.Basics.{clash}
use Rattle.ll1.proofs.Unique.{no_leaf}
use Rattle.grammar.specs.Grammar.{rules}
use Rattle.grammar.specs.Lookahead.{lookahead}
use Rattle.grammar.specs.Source.{number_at}
use Rattle.answers.specs.Rows.{Draft}
use Rattle.answers.specs.Drafts.{encoded}
use Rattle.grammar.proofs.Theorems.{grammar_ll1}
use Rattle.phrases.specs.declared.Cursor.{Cursor}
use Rattle.elements.specs.declared.noted.Noted.{Noted}
use Rattle.phrases.specs.Phrase.{Reader, reader, phrase_read}
use Rattle.phrases.specs.Stream.{stream, Within}
use Rattle.phrases.proofs.Theorems.{phrase_passed}
use Rattle.elements.specs.Entries.{entries}
use Rattle.elements.specs.Entries.{KEPT}
use Rattle.phrases.specs.Passed.{written, Phrase, Passed}
use Rattle.phrases.proofs.Streams.{stream_end, stream_first}
use Rattle.phrases.proofs.Keeping.{written_zeros}
use Rattle.elements.specs.Symbols.{symbols_of, phrase_symbols, RULE_OPEN, GROUP_CLOSE}
use Rattle.fields.specs.Phrases.{kept, phrase_draft, rule_draft}
use Rattle.walk.specs.declared.State.{State}
use Rattle.refusals.specs.declared.Reason.TheVariants.{Syntax}
use Rattle.walk.specs.Standing.{Standing, going, halted}
use Rattle.walk.specs.Meanings.{Meaning, Counted, Silent, first_class, first_place, kept_of, phrase_row, Rowed, RuleRow}
use Rattle.walk.specs.Walked.{TakesSymbols, Takes, closed, Reads, ReadsRow}
use Rattle.walk.proofs.Numbers.{syntax_only}
use Rattle.walk.proofs.Walks.{walked_as, walked_like}

-- ---- a phrase

-- the result at which a phrase ends, in other words
passed_as :
    {s : List ℕ} {α : List Symbol} {n : ℕ} {t : lex.Token} {was : Noted} {l l' : List ℕ} {c c' : Cursor}
    → c'.no ≡ c.no → c'.token ≡ c.token → (c.no ≡ 0 → c'.noted ≡ c.noted) → Passed s α n t was l c l' → Passed s α n t was l c' l'
passed_as e f g p =
    record {
      verdict = λ σ d o. rw (e, f) (p.verdict σ d o);
      got = λ q.
          let z = sym e ∙ q in
          let x = p.got z in
          record { trees = x.trees; before = x.before; fits = x.fits; reads = rw f x.reads; kept = x.kept; few = x.few; noted_are = g z ∙ x.noted_are };
      within = λ w. rw f (p.within w);
    }

module _ {s : List ℕ} (k : ℕ) {st : State} {c : Cursor} {l l' : List ℕ} (w : Within s st.token) (e : reader c l' ≡ phrase_read s 0 st.token st.noted k l) where
  -- nothing is refused
  pub takes_on : c.no ≡ 0 → Takes s k (going st) (going (record { token = c.token; rows = st.rows; rules = st.rules; noted = c.noted })) l l'
  takes_on z = record { passed = passed_as (sym z) refl (λ q. refl) (phrase_passed k w e); same = λ q. (refl, refl) }

  -- the token does not fit
  pub takes_off : c.no ≢ 0 → Takes s k (going st) (halted (record { reason = Syntax; token = c.token })) l l'
  takes_off h =
      let n : c.no ≡ 3 = ap (λ (x : Reader). x.no) e ∙ syntax_only s st.token st.noted k l (λ q. h (ap (λ (x : Reader). x.no) e ∙ q)) in
      record { passed = passed_as (sym n) refl (λ q. absurd (h q)) (phrase_passed k w e); same = λ q. absurd (omega arith) }

-- where it is refused, nothing was read
pub takes_none :
    {s : List ℕ} {α : List Symbol} {M : Meaning} {st r : Standing} {l l' t : List ℕ}
    → TakesSymbols s α st r l l' → r.no ≢ 0 → Reads s α M st r t t
takes_none p h = record { walked = λ d o. record { verdict = λ σ. p.passed.verdict σ d o; within = p.passed.within; got = λ q. absurd (h q) } }

-- ---- without a row

pub closed_reads :
    {s : List ℕ} {α : List Symbol} {st : Standing} {l l' : List ℕ} {c : Cursor} {t : List ℕ}
    → Passed s α st.no st.token st.noted l c l' → Reads s α (Counted Silent) st (closed st c) t t
unfolding put
closed_reads {st = st} p =
    record {
      walked = λ d o.
          record {
            verdict = λ σ. p.verdict σ d o;
            within = p.within;
            got = λ q.
                let x = p.got q in
                record {
                  before = x.before;
                  trees = x.trees;
                  drafts = [];
                  count = 0;
                  fits = x.fits;
                  reads = x.reads;
                  means = record { means = record { no_rows = refl; no_rules = refl }; few = omega arith; fewer = omega arith };
                  table = refl;
                  rows = sym (add-zero st.rows);
                  counted = sym (add-zero st.rules);
                  noted = x.noted_are;
                };
          };
    }

-- and where the phrase ends
pub takes_closed :
    {s : List ℕ} {α : List Symbol} {st r : Standing} {l l' : List ℕ} {t : List ℕ} → TakesSymbols s α st r l l' → Reads s α (Counted Silent) st r t t
takes_closed {s} {α} {st} {r} {t = t} p = record { walked = λ d o. walked_like refl refl (λ z. rw ((p.same z).0, (p.same z).1)) ((closed_reads {t = t} p.passed).walked d o) }

-- ---- the first token

-- the first leaf of trees is the token at which they were read
pub record Heads (t : lex.Token) (ts : List Token) : Type 0 where
  pub class : first_class ts ≡ t.class
  pub place : first_place ts ≡ t.start
  pub some : 1 ≤ length ts

pub heads :
    (s : List ℕ) (t : lex.Token) {α : List Symbol} {f : Trees} (x : List Token)
    → all_nullable rules α ≡ false → Fits rules α f → leaves f ++ x ≡ stream s t → Heads t (leaves f)
heads s t {α} {f} x n h e = by (leaves f) refl
  where
    by : (l : List Token) → leaves f ≡ l → Heads t (leaves f)
    by [] q = clash (let z = no_leaf rules lookahead grammar_ll1 h q in cc)
    by (token k p ∷ l) q = at (ℕ_discrete t.class END)
      where
        at : Dec (t.class ≡ END) → Heads t (leaves f)
        at (yes z) = clash (let w = stream_end s t z in cc)
        at (no z) =
            let w = stream_first s t z in
            let a : k ≡ t.class = cc in
            let b : p ≡ t.start = cc in
            rw q (record { class = a; place = b; some = omega arith })

-- ---- a phrase has a token

abbrev some_token : List (List Symbol) → Bool
some_token [] = true
some_token (α ∷ l) = cond (all_nullable rules α) false (some_token l)

no_other : (b c : Bool) → cond b false c ≡ true → (b ≡ false) × (c ≡ true)
no_other true c e = clash cc
no_other false c e = (refl, e)

each_some : (l : List (List Symbol)) → some_token l ≡ true → (k : ℕ) → k < length l → all_nullable rules (get_or l k []) ≡ false
each_some [] e k h = absurd (omega arith)
each_some (α ∷ l) e zero h = (no_other (all_nullable rules α) (some_token l) e).0
each_some (α ∷ l) e (suc k) h = each_some l (no_other (all_nullable rules α) (some_token l) e).1 k (omega arith)

-- a phrase that has a number has a token
pub phrase_some : (k : ℕ) → k ≤ GROUP_CLOSE → all_nullable rules (symbols_of k) ≡ false
unfolding rules symbols_of phrase_symbols
phrase_some k h = each_some phrase_symbols refl k (omega arith)

-- ---- with a row

abbrev pub rowed : Standing → Cursor → Standing
rowed st c = record { no = 0; token = c.token; rows = st.rows + 1; rules = st.rules; noted = c.noted }

-- the entries in the first places of zeros are the entries
pub kept_entries : (es : List ℕ) {l : List ℕ} → l ≡ written (replicate KEPT 0) es → length es ≤ KEPT → kept l ≡ kept es
kept_entries es e h = rw e (fun_ext (λ i. written_zeros KEPT es i h))

-- a meaning of trees that keep the entries l
pub record Held (l : List ℕ) (M : Meaning) (at n : ℕ) (f : Trees) (ds : List Draft) (k : ℕ) : Type 0 where
  pub means : M at n f ds k
  pub keeps : kept l ≡ kept_of f

module _ (s : List ℕ) {α : List Symbol} (parent : ℕ) (st : Standing) {l : List ℕ} {c : Cursor}
    (n : all_nullable rules α ≡ false) (p : Passed s α st.no st.token st.noted (replicate KEPT 0) c l) where
  abbrev row : Draft
  row = phrase_draft (number_at s) st.token.class parent st.token.start (kept l)

  kept_is : (x : Phrase s α st.no st.token st.noted (replicate KEPT 0) c l) → kept l ≡ kept_of x.trees
  unfolding kept_of
  kept_is x = kept_entries (entries x.trees) x.kept x.few

  row_is : (x : Phrase s α st.no st.token st.noted (replicate KEPT 0) c l) → row ≡ phrase_row s parent x.trees
  unfolding phrase_row
  row_is x =
      let h = heads s st.token (stream s c.token) n x.fits x.reads in
      rw (h.class, h.place, kept_is x)

  -- the row, and the entries from which it is made
  pub row_held :
      {t t' : List ℕ}
      → c.no ≡ 0 → t' ≡ with_row t st.rows (encoded row) → Reads s α (Held l (Counted (Rowed s parent))) st (rowed st c) t t'
  unfolding put
  row_held {t = t} z e =
      record {
        walked = λ d o.
            record {
              verdict = λ σ. p.verdict σ d o ∙ rw z;
              within = p.within;
              got = λ q.
                  let x = p.got z in
                  let h = heads s st.token (stream s c.token) n x.fits x.reads in
                  record {
                    before = x.before;
                    trees = x.trees;
                    drafts = row ∷ [];
                    count = 0;
                    fits = x.fits;
                    reads = x.reads;
                    means =
                        record {
                          means =
                              record {
                                means = record { row = ap (λ (y : Draft). y ∷ []) (row_is x); no_rules = refl };
                                few = h.some;
                                fewer = omega arith;
                              };
                          keeps = kept_is x;
                        };
                    table = e;
                    rows = refl;
                    counted = sym (add-zero st.rules);
                    noted = x.noted_are;
                  };
            };
      }

  pub row_on :
      {t t' : List ℕ}
      → c.no ≡ 0 → t' ≡ with_row t st.rows (encoded row) → Reads s α (Counted (Rowed s parent)) st (rowed st c) t t'
  row_on z e = record { walked = λ d o. walked_as (λ f ds k h m. m.means) ((row_held z e).walked d o) }

-- a phrase that ends in the state r, and its row
pub takes_row :
    (s : List ℕ) (parent k : ℕ) {st r : State} {l t t' : List ℕ}
    → k ≤ GROUP_CLOSE → Takes s k (going st) (going r) (replicate KEPT 0) l
    → t' ≡ with_row t st.rows (encoded (phrase_draft (number_at s) st.token.class parent st.token.start (kept l)))
    → ReadsRow s k parent (going st) (going (record { token = r.token; rows = st.rows + 1; rules = r.rules; noted = r.noted })) t t'
takes_row s parent k {st = st} h p e = rw (p.same refl).1 (row_on s parent (going st) (phrase_some k h) p.passed refl e)

-- ---- the row of a rule

abbrev pub ruled : Standing → Cursor → Standing
ruled st c = record { no = 0; token = c.token; rows = st.rows + 1; rules = st.rules + 1; noted = c.noted }

module _ (s : List ℕ) (parent : ℕ) (st : Standing) {l : List ℕ} {c : Cursor}
    (p : Passed s (symbols_of RULE_OPEN) st.no st.token st.noted (replicate KEPT 0) c l) where
  abbrev rule : Draft
  rule = rule_draft parent st.token.start (st.rules + 1) (kept l 0)

  pub rule_on :
      {cells t t' : List ℕ}
      → c.no ≡ 0 → cells ≡ encoded rule → t' ≡ with_row t st.rows cells
      → Reads s (symbols_of RULE_OPEN) (Counted (RuleRow s parent)) st (ruled st c) t t'
  unfolding put kept_of symbols_of phrase_symbols
  rule_on {t = t} z f e =
      record {
        walked = λ d o.
            record {
              verdict = λ σ. p.verdict σ d o ∙ rw z;
              within = p.within;
              got = λ q.
                  let x = p.got z in
                  let h = heads s st.token (stream s c.token) refl x.fits x.reads in
                  let name : kept l 0 ≡ kept_of x.trees 0 = ap (λ (k : ℕ → ℕ). k 0) (kept_entries (entries x.trees) x.kept x.few) in
                  record {
                    before = x.before;
                    trees = x.trees;
                    drafts = rule ∷ [];
                    count = 1;
                    fits = x.fits;
                    reads = x.reads;
                    means = record { means = record { row = rw (h.place, ← name); one = refl }; few = h.some; fewer = omega arith };
                    table = e ∙ ap (with_row t st.rows) f;
                    rows = refl;
                    counted = refl;
                    noted = x.noted_are;
                  };
            };
      }

-- a rule's opening that ends in the state r, and its row
pub takes_rule :
    (s : List ℕ) (parent : ℕ) {st r : State} {l cells t t' : List ℕ}
    → Takes s RULE_OPEN (going st) (going r) (replicate KEPT 0) l → cells ≡ encoded (rule_draft parent st.token.start (st.rules + 1) (kept l 0))
    → t' ≡ with_row t st.rows cells
    → Reads s (symbols_of RULE_OPEN) (Counted (RuleRow s parent)) (going st) (going (record { token = r.token; rows = st.rows + 1; rules = st.rules + 1; noted = r.noted })) t t'
takes_rule s parent {st = st} p f e = rule_on s parent (going st) p.passed refl f e
