-- A walk over a whole source says what the grammar says.
-- Assumes nothing.
use Prim.Native.Nat.{ℕ, ◌≤◌}
use mathlib.Core.Path.{◌≡◌, refl, sym, ap, ◌∙◌}
use mathlib.Core.Bool.{true, false}
use mathlib.Core.List.{List, [], ◌∷◌, ◌++◌, append-nil}
use mathlib.Core.Logic.{◌≢◌}
use native.Mathlib.Omega.{arith}
use native.Mathlib.Decide.{ℕ_discrete}
use lib.ListN.{length}
use borrow.Author.Tests.{eq-eqb, ne_eqb}
use Rattle.std.proofs.Common.{Result, Ok, Err, is_err}
use Rattle.lex.specs.declared.Token as lex
use Rattle.lexemes.specs.Classes as class
use Rattle.lexemes.specs.Classes.{END}
use Rattle.lex.specs.Tokens.{token_at}
use Rattle.ll1.specs.Trees.{leaves, depth}
use Rattle.ll1.specs.Verdict.{accepted, ends_early, refused}
use Rattle.ll1.specs.Machine.{due}
use Rattle.ll1.proofs.Basics.{clash}
use Rattle.ll1.proofs.Lookups.{find_one}
use Rattle.grammar.specs.Grammar.{rules}
use Rattle.grammar.specs.Notation.{r, plain}
use Rattle.grammar.specs.Lookahead.{lookahead}
use Rattle.grammar.specs.Rules.{<source>, <form>, <form>*}
use Rattle.grammar.specs.Reading.{verdict}
use Rattle.grammar.specs.Source.{source_tokens}
use Rattle.grammar.specs.Ranges.{range_of}
use Rattle.answers.specs.Answer.{drafts}
use Rattle.phrases.specs.Stream.{stream, refusal, resume}
use Rattle.rows.specs.Marks.{marked}
use Rattle.elements.specs.Marks.{nothing_noted}
use Rattle.elements.proofs.MarkLaws.{second_noted, outside_noted}
use Rattle.elements.specs.declared.noted.Noted.{Noted}
use Rattle.elements.specs.Symbols.{symbols_of, phrase_symbols, FORM_SET_CLOSE}
use Rattle.phrases.proofs.Streams.{stream_source, stream_end, stream_first, stream_few, rest, within_at}
use Rattle.phrases.proofs.Resume.{resume_on, resume_no}
use Rattle.grammar.proofs.Equations.{verdict_all, verdict_extra}
use Rattle.rows.specs.Table.{cleared}
use Rattle.rows.proofs.ClearLaws.{cleared_whole}
use Rattle.walk.specs.Standing.{Standing}
use Rattle.walk.specs.Meanings.{Counted, Opening, rows_in}
use Rattle.walk.specs.Walked.{Room, Walked, Closes, starting, set_open, WalkedUnder, OpensSet, WalksSource}
use Rattle.refusals.proofs.Bounds.{number_bounds}
use Rattle.walk.specs.declared.Totals.{Totals}
use Rattle.walk.specs.declared.Fault.{Fault}
use Rattle.walk.specs.Whole.{Outcome, outcome, refusing, refusal_number, refusal_place, WalkedWhole, Walks, ended}
use Rattle.walk.proofs.TreeLaws.{faultless}
use Rattle.walk.proofs.Walks.{walked_then, counted_joins, walked_node, counted_node, resume_enter}
use Rattle.walk.proofs.MeaningLaws.{under_joins, Content, content_under, content_joins}
use Rattle.walk.proofs.StatementSteps.{Told, closes_under}
use Rattle.walk.proofs.Rooms.{some_leaf, tokens_passed, room_after}

-- ---- the whole source

source_told : (k : ℕ) → Told <source> 0 k
unfolding lookahead
source_told k = find_one (class.«formset» ∷ []) k

pub source_walked :
    {s : List ℕ} {k : lex.Token} {o a r' : Standing} {t₀ t₁ t₂ : List ℕ}
    → Walked s (depth 0 0) set_open (Counted (Opening s <source> 0 0)) (starting k) o t₀ t₁
    → WalkedUnder s (depth 0 0) (r <form> ∷ r <form>* ∷ []) 0 o a t₁ t₂ → Closes s FORM_SET_CLOSE a r'
    → WalkedUnder s (depth 0 0) (r <source> ∷ []) 0 (starting k) r' t₀ t₂
unfolding rules range_of symbols_of phrase_symbols
source_walked {s} {k} {o} {a} {r'} {t₀} {t₁} {t₂} w v u =
    let forms : WalkedUnder s (depth 0 0) (r <form> ∷ r <form>* ∷ symbols_of FORM_SET_CLOSE) 0 o r' t₁ t₂ = walked_then (counted_joins (under_joins s)) v (closes_under refl refl u) in
    let whole : Walked s (depth 0 0) (set_open ++ r <form> ∷ r <form>* ∷ symbols_of FORM_SET_CLOSE) (Counted (Content s <source> 0 0)) (starting k) r' t₀ t₂ = walked_then (counted_joins (content_joins s refl refl)) w forms in
    walked_node 0 {M = Counted (Content s <source> 0 0)} refl (faultless refl refl refl)
    (λ σ. resume_enter s (depth 0 0) <source> σ 0 k 0 (plain (set_open ++ r <form> ∷ r <form>* ∷ symbols_of FORM_SET_CLOSE)) refl refl (source_told k.class))
    (λ c ds n h m. counted_node (content_under s) m)
    whole

-- ---- how many rows there are

pub start_room : (s : List ℕ) (k : lex.Token) → k ≡ token_at s 0 → Room s (starting k)
start_room s k e = rw e (record { within = within_at s 0; rows = λ q. let h = stream_few s 0 in omega arith; rules = λ q. omega arith })

-- the last phrase has no row, so there are fewer rows than tokens
pub rows_few : {s : List ℕ} {a r' : Standing} → Room s a → Closes s FORM_SET_CLOSE a r' → r'.no ≡ 0 → r'.rows ≤ length s
unfolding symbols_of phrase_symbols
rows_few m w q =
    let x = ((w.reads []).walked (depth 0 0) refl).got q in
    let a = m.rows x.before in
    let b = some_leaf refl x.fits in
    let c = tokens_passed x in
    rw (x.rows, x.means.means.no_rows) (omega arith)

-- the opening, the forms and the end
pub walks_source :
    {s : List ℕ} {o a r' : Standing} {t₀ t₁ t₂ : List ℕ}
    → OpensSet s o t₀ t₁ → WalkedUnder s (depth 0 0) (r <form> ∷ r <form>* ∷ []) 0 o a t₁ t₂ → Closes s FORM_SET_CLOSE a r' → WalksSource s r' t₀ t₂
walks_source w v u = record { walked = source_walked w.walked v u; few = rows_few (room_after (room_after (start_room _ _ refl) w.walked) v) u }

-- ---- what it ends with

-- the outcome, but for the table where it is refused
record Ends (s : List ℕ) (r : Outcome) (t t' : List ℕ) : Type 0 where
  number : r.no ≡ refusal_number (verdict (source_tokens s))
  place : r.place ≡ refusal_place s (verdict (source_tokens s))
  nothing : r.no ≢ 0 → (r.rows ≡ 0) × (r.rules ≡ 0) × (r.noted ≡ nothing_noted)
  derived : r.no ≡ 0 → WalkedWhole s r t t'

module _ {s : List ℕ} {k : lex.Token} {r' : Standing} {t₀ t₁ : List ℕ} (e : k ≡ token_at s 0) (w : WalkedUnder s (depth 0 0) (r <source> ∷ []) 0 (starting k) r' t₀ t₁) (few : r'.no ≡ 0 → r'.rows ≤ length s) where
  begins : verdict (source_tokens s) ≡ resume s [] r'.no r'.token
  begins = rw (← stream_source s, ← e) (sym (resume_on s (due (depth 0 0) (r <source>) ∷ []) 0 k refl) ∙ w.verdict [])

  refuses :
      (n p : ℕ) → n ≢ 0 → n ≡ refusal_number (verdict (source_tokens s)) → p ≡ refusal_place s (verdict (source_tokens s)) → Ends s (refusing n p) t₀ t₁
  refuses n p h a b = record { number = a; place = b; nothing = λ q. (refl, refl, refl); derived = λ q. absurd (h q) }

  derive :
      verdict (source_tokens s) ≡ accepted → r'.token.class ≡ END → r'.no ≡ 0
      → WalkedWhole s (record { no = 0; place = 0; rows = r'.rows; rules = r'.rules; noted = r'.noted }) t₀ t₁
  unfolding drafts rows_in
  derive v q z =
      let x = w.got z in
      let m = x.means.means in
      let tokens : leaves x.trees ≡ source_tokens s = sym (append-nil (leaves x.trees)) ∙ (ap (λ l. leaves x.trees ++ l) (sym (stream_end s r'.token q)) ∙ (x.reads ∙ (ap (stream s) e ∙ stream_source s))) in
      record {
        accepts = v;
        tree = x.trees;
        derives = record { fits = x.fits; reads = tokens };
        table = x.table ∙ rw m.rows;
        rows = x.rows ∙ rw m.rows (omega arith);
        rules = x.counted ∙ rw m.rules (omega arith);
        second = ap (λ (n : Noted). marked n.second) x.noted ∙ second_noted s x.trees;
        outside = ap (λ (n : Noted). marked n.outside) x.noted ∙ outside_noted s x.trees;
        few = few z;
      }

  walk_ends : Dec (r'.no ≡ 0) → Dec (r'.token.class ≡ END) → Ends s (ended (length s) r') t₀ t₁
  unfolding ended refusal
  walk_ends (no z) (yes q) =
      let v : verdict (source_tokens s) ≡ ends_early = begins ∙ (resume_no s [] r'.no r'.token z ∙ rw (eq-eqb _ _ q)) in
      rw (ne_eqb _ _ z, eq-eqb _ _ q) (refuses 3 (length s) (λ h. absurd (omega arith)) (rw v) (rw v))
  walk_ends (no z) (no q) =
      let v : verdict (source_tokens s) ≡ refused r'.no r'.token.start = begins ∙ (resume_no s [] r'.no r'.token z ∙ rw (ne_eqb _ _ q)) in
      rw (ne_eqb _ _ z, ne_eqb _ _ q) (refuses r'.no r'.token.start z (rw v) (rw v))
  walk_ends (yes z) (no q) =
      let v : verdict (source_tokens s) ≡ refused 3 r'.token.start = begins ∙ (resume_on s [] r'.no r'.token z ∙ rw (stream_first s r'.token q) (verdict_extra r'.token.class r'.token.start (rest s r'.token))) in
      rw (eq-eqb _ _ z, ne_eqb _ _ q) (refuses 3 r'.token.start (λ h. absurd (omega arith)) (rw v) (rw v))
  walk_ends (yes z) (yes q) =
      let v : verdict (source_tokens s) ≡ accepted = begins ∙ (resume_on s [] r'.no r'.token z ∙ rw (stream_end s r'.token q) verdict_all) in
      rw (eq-eqb _ _ z, eq-eqb _ _ q) (record { number = rw v; place = rw v; nothing = λ h. absurd (h refl); derived = λ h. derive v q z })

  ends : Ends s (ended (length s) r') t₀ t₁
  ends = walk_ends (ℕ_discrete r'.no 0) (ℕ_discrete r'.token.class END)

  module _ {o : Outcome} (f : o ≡ ended (length s) r') where
    -- the walk that ends at r' is refused, and the table is cleared
    pub walk_refused : o.no ≢ 0 → length t₁ ≡ length t₀ → {t₂ : List ℕ} → t₂ ≡ cleared t₁ 0 → Walks s o t₀ t₂
    walk_refused h l c =
        rw f
        (record {
          number = ends.number;
          place = ends.place;
          nothing = ends.nothing;
          zeros = λ q. c ∙ (cleared_whole t₁ ∙ rw l);
          derived = λ q. absurd (h (rw f q));
        })

    -- it accepts
    pub walk_accepts : o.no ≡ 0 → Walks s o t₀ t₁
    walk_accepts h =
        rw f (record { number = ends.number; place = ends.place; nothing = ends.nothing; zeros = λ q. absurd (q (rw f at h)); derived = ends.derived })

-- an error has a number, and what is found has none
pub fault_number : (x : Result Totals Fault) → is_err x ≡ true → (outcome x).no ≢ 0
fault_number (Ok w) e = clash cc
fault_number (Err f) e = λ q. let n = (number_bounds f.reason).0 in absurd (omega arith)

pub found_number : (x : Result Totals Fault) → is_err x ≡ false → (outcome x).no ≡ 0
found_number (Ok w) e = refl
found_number (Err f) e = clash cc
